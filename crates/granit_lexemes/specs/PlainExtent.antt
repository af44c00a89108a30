-- How far a plain scalar goes (YAML 1.2.2, 7.3.3), and what stands behind it.
use Rattle.std.specs.Prelude.{◌≡◌, ℕ, suc, ◌==◌, Bool, true, false, ◌&&◌, ◌||◌, not, if◌then◌else◌, List, [], ◌∷◌, ◌++◌}
use Rattle.std.specs.Prelude.{length, slice_index, Option, Some, None}
use Rattle.granit_base.specs.Classes.{is_blank, is_break, is_z, is_blank_or_breakz, is_gap, is_flow, is_printable}
use Rattle.granit_base.specs.Place.{Mark, first}
use Rattle.granit_error.specs.FaultKind.{FaultKind, PlainScalarStartsWithDashFlowIndicator, TabInPlainScalar}
use Rattle.granit_error.specs.FaultKind.{UnexpectedCharacter}
use Rattle.granit_lexemes.specs.Folding.{folded}
use Rattle.granit_lexemes.specs.Gap.{Each}
use Rattle.granit_lexemes.specs.Here.{Here, mark_of, step}
use Rattle.granit_lexemes.specs.LayoutData.{LayoutData, is_left, is_outside}
use Rattle.granit_lexemes.specs.Basics.{is_document_mark, unprintable, lent_if}
use Rattle.granit_lexemes.specs.PlainScalar.{PlainRead, is_one_line}
use Rattle.granit_base.specs.PlainContent.{is_content}

-- What stands between two characters of content, or behind the last one: blanks (s-separate-in-line), or breaks with
-- the blanks before and between them, and the blanks that begin the line behind them (s-flow-folded).
pub data Separation : Type 0 where
  OnLine : (blanks : List ℕ) → Separation
  Folded : (breaks indent : List ℕ) → Separation

abbrev pub separation_text : Separation → List ℕ
separation_text (OnLine blanks) = blanks
separation_text (Folded breaks indent) = breaks ++ indent

-- blanks and breaks up to a break
pub data UpToBreak : List ℕ → Type 0 where
  at_break : {c : ℕ} → is_break c ≡ true → UpToBreak (c ∷ [])
  before_break : {c : ℕ} {cs : List ℕ} → is_gap c ≡ true → UpToBreak cs → UpToBreak (c ∷ cs)

abbrev pub IsSeparation : Separation → Type 0
IsSeparation (OnLine blanks) = Each is_blank blanks
IsSeparation (Folded breaks indent) = UpToBreak breaks × Each is_blank indent

-- whether a tab left of where a node may stand is among the blanks from a column on
abbrev pub left_tab : Option ℕ → ℕ → List ℕ → Bool
left_tab block column [] = false
left_tab block column (c ∷ cs) = (c == 0x09 && is_left block column) || left_tab block (suc column) cs

abbrev pub starts_comment : List ℕ → Bool
starts_comment text = first text == 0x23

-- Whether content that begins here may stand behind a separation: `#` directly behind content alone (6.6), and on a
-- further line nothing that is left of its block, that a tab left of it indents (6.1), or that is a document mark
-- (9.1.2). The blanks that begin a line are as many as its content's column.
abbrev pub MayFollow : LayoutData → Separation → List ℕ → Type 0
MayFollow at (OnLine []) text = Unit {0}
MayFollow at (OnLine (b ∷ bs)) text = starts_comment text ≡ false
MayFollow at (Folded breaks indent) text =
    (starts_comment text ≡ false) × (is_outside at (length indent) ≡ false)
    × (left_tab at.block_column 0 indent ≡ false) × ((length indent == 0 && is_document_mark text) ≡ false)

-- how a plain scalar goes on behind a character of content, in front of what stands behind it: by characters of
-- content, with separations between
pub data GoesOn (at : LayoutData) : (source behind : List ℕ) → Type 0 where
  ends : {behind : List ℕ} → GoesOn at [] behind
  goes_on : {source behind cs : List ℕ} (g : Separation) (c : ℕ) → source ≡ separation_text g ++ c ∷ cs → IsSeparation g
      → is_content at.in_flow (c ∷ (cs ++ behind)) ≡ true → MayFollow at g (c ∷ (cs ++ behind)) → GoesOn at cs behind
      → GoesOn at source behind

-- the characters that spell a plain scalar, in front of what stands behind it; which lexeme a character may begin is
-- said elsewhere
pub record SpellsPlain (at : LayoutData) (source behind : List ℕ) : Type 0 where
  pub start : ℕ
  pub more : List ℕ
  pub begins : source ≡ start ∷ more
  pub content : is_content at.in_flow (start ∷ (more ++ behind)) ≡ true
  pub goes : GoesOn at more behind

-- a plain scalar that begins a text: as far as its spelling goes
pub record PlainExtent (at : LayoutData) (text source behind : List ℕ) : Type 0 where
  pub whole : text ≡ source ++ behind
  pub spelled : SpellsPlain at source behind
  pub longest : (more rest : List ℕ) → behind ≡ more ++ rest → SpellsPlain at (source ++ more) rest → more ≡ []

-- what ends a plain scalar, behind a separation
pub data EndsPlain (at : LayoutData) : Separation → List ℕ → Type 0 where
  -- the end of the text, or a NUL
  nothing_more : {g : Separation} {rest : List ℕ} → is_z (first rest) ≡ true → EndsPlain at g rest
  -- `:` with a blank, a break, NUL or the end behind it, in flow also with a flow indicator (7.3.3)
  colon : {g : Separation} {rest : List ℕ} → (first rest == 0x3A
      && (is_blank_or_breakz (slice_index rest 1) || (at.in_flow && is_flow (slice_index rest 1)))) ≡ true
      → EndsPlain at g rest
  -- in flow a flow indicator (7.3.3)
  flow_indicator : {g : Separation} {rest : List ℕ} → (at.in_flow && is_flow (first rest)) ≡ true → EndsPlain at g rest
  -- a comment, behind blanks on the scalar's line or on a further one (6.6)
  comment : {b : ℕ} {bs rest : List ℕ} → starts_comment rest ≡ true → EndsPlain at (OnLine (b ∷ bs)) rest
  comment_line : {breaks indent rest : List ℕ} → starts_comment rest ≡ true → EndsPlain at (Folded breaks indent) rest
  -- a further line that is left of its block
  outside_line : {breaks indent rest : List ℕ} → is_outside at (length indent) ≡ true
      → EndsPlain at (Folded breaks indent) rest
  -- a further line that a tab left of its block indents
  tab_line : {breaks indent rest : List ℕ} → left_tab at.block_column 0 indent ≡ true
      → EndsPlain at (Folded breaks indent) rest
  -- `---` or `...` in column 0 (9.1.2)
  document_mark : {breaks indent rest : List ℕ} → (length indent == 0 && is_document_mark rest) ≡ true
      → EndsPlain at (Folded breaks indent) rest

-- on over as many characters as a list has
abbrev pub over : List ℕ → Here → Here
over [] h = h
over (c ∷ cs) h = over cs (step h)

-- a plain scalar that stands here, and what stands behind it
pub record PlainStands (at : LayoutData) (h : Here) (source : List ℕ) (tail : Separation) (rest : List ℕ) : Type 0 where
  pub extent : PlainExtent at h.unread.text source (separation_text tail ++ rest)
  pub separation : IsSeparation tail
  pub behind : is_gap (first rest) ≡ false
  pub ends : EndsPlain at tail rest

-- whether a line behind the scalar holds more than a comment, and a tab left of its block indents it
abbrev pub tab_refused : LayoutData → Separation → List ℕ → Bool
tab_refused at (OnLine blanks) rest = false
tab_refused at (Folded breaks indent) rest = (left_tab at.block_column 0 indent && not (is_z (first rest)))
    && not (starts_comment rest)

-- whether a comment behind the scalar may stand before more of its text
abbrev pub is_cut : LayoutData → Separation → List ℕ → Bool
is_cut at (OnLine blanks) rest = starts_comment rest && not (length blanks == 0)
is_cut at (Folded breaks indent) rest = starts_comment rest && left_tab at.block_column 0 indent

abbrev pub is_folded : Separation → Bool
is_folded (OnLine blanks) = false
is_folded (Folded breaks indent) = true

-- where the next lexeme or comment stands
abbrev pub behind_of : Here → (source : List ℕ) → Separation → Here
behind_of h source tail = over (separation_text tail) (over source h)

-- what is answered for it
abbrev pub plain_answer : LayoutData → Here → (source : List ℕ) → (tail : Separation) → (rest : List ℕ) → PlainRead
plain_answer at h source tail rest = record {
  text = lent_if (is_one_line (mark_of h) (mark_of (over source h))) h (folded source);
  source = record { start = mark_of h; end = mark_of (over source h) };
  cut_by_comment = if not at.in_flow && is_cut at tail rest then Some (mark_of (behind_of h source tail)) else None;
  on_new_line = is_folded tail;
}

-- in flow, a `-` directly before a flow indicator
abbrev pub is_flow_dash : LayoutData → List ℕ → Bool
is_flow_dash at text = at.in_flow && (first text == 0x2D && is_flow (slice_index text 1))

-- whether an unprintable character stands at the front of a text
abbrev pub is_unprintable_at : List ℕ → Bool
is_unprintable_at text = not (length text == 0) && not (is_printable (first text))

-- A plain scalar is answered where it stands, with its value, and nothing at it is refused.
pub record AnswersPlain (at : LayoutData) (h : Here) (read : PlainRead) (after : Here) : Type 0 where
  pub source : List ℕ
  pub tail : Separation
  pub rest : List ℕ
  pub stands : PlainStands at h source tail rest
  pub answer : read ≡ plain_answer at h source tail rest
  pub reached : after ≡ behind_of h source tail
  pub no_dash : is_flow_dash at h.unread.text ≡ false
  pub no_tab : tab_refused at tail rest ≡ false
  pub inside : unprintable source ≡ None
  pub printable : is_unprintable_at rest ≡ false

-- In flow a `-` before a flow indicator begins no plain scalar.
pub record RefusesDash (at : LayoutData) (h : Here) (m : Mark) : Type 0 where
  pub dash : is_flow_dash at h.unread.text ≡ true
  pub marks : m ≡ mark_of h

-- A plain scalar, and behind it a line that a tab left of its block indents. Each cause says that no earlier one
-- stands.
pub record RefusesTab (at : LayoutData) (h : Here) (m : Mark) : Type 0 where
  pub source : List ℕ
  pub tail : Separation
  pub rest : List ℕ
  pub stands : PlainStands at h source tail rest
  pub no_dash : is_flow_dash at h.unread.text ≡ false
  pub tab : tab_refused at tail rest ≡ true
  pub marks : m ≡ mark_of h

-- a plain scalar with neither such a `-` nor such a line
pub record PlainUntabbed (at : LayoutData) (h : Here) (source : List ℕ) (tail : Separation) (rest : List ℕ) : Type
    0 where
  pub stands : PlainStands at h source tail rest
  pub no_dash : is_flow_dash at h.unread.text ≡ false
  pub no_tab : tab_refused at tail rest ≡ false

-- A plain scalar with an unprintable character inside, or behind it and its blanks and breaks.
pub data RefusesCharacter (at : LayoutData) (h : Here) (c : ℕ) (m : Mark) : Type 0 where
  is_inside : (source : List ℕ) (tail : Separation) (rest : List ℕ) → PlainUntabbed at h source tail rest
      → unprintable source ≡ Some c → m ≡ mark_of h → RefusesCharacter at h c m
  is_behind : (source : List ℕ) (tail : Separation) (rest : List ℕ) → PlainUntabbed at h source tail rest
      → unprintable source ≡ None → is_unprintable_at rest ≡ true → c ≡ first rest
      → m ≡ mark_of (behind_of h source tail) → RefusesCharacter at h c m

-- why a plain scalar is refused
abbrev pub RefusesPlain : LayoutData → Here → FaultKind → Mark → Type 0
RefusesPlain at h PlainScalarStartsWithDashFlowIndicator m = RefusesDash at h m
RefusesPlain at h TabInPlainScalar m = RefusesTab at h m
RefusesPlain at h (UnexpectedCharacter c) m = RefusesCharacter at h c m
RefusesPlain at h kind m = ⊥
