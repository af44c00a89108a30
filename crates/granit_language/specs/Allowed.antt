-- What the lexemes before a place, and its line, allow to stand there.
use Rattle.std.specs.Prelude.{◌≡◌, ◌≢◌, ℕ, suc, ◌+◌, ◌≤◌, ◌<◌, Bool, true, false, List, [], ◌∷◌, ◌⊎◌, Option, Some}
use Rattle.std.specs.Prelude.{None, length}
use Rattle.granit_base.specs.Classes.{is_blank_or_breakz, is_breakz}
use Rattle.granit_base.specs.Place.{Mark, first}
use Rattle.granit_error.specs.OptionsData.{OptionsData}
use Rattle.granit_lexemes.specs.Here.{Here, next_char}
use Rattle.granit_lexemes.specs.LayoutData.{LayoutData}
use Rattle.granit_lexemes.specs.Lexeme.{opener_char}
use Rattle.granit_lexemes.specs.declared.layout.Bracket.{Bracket}
use Rattle.granit_lexemes.specs.declared.layout.Bracket.TheVariants.{Square}
use Rattle.granit_lexemes.specs.declared.layout.LastLexeme.{LastLexeme}
use Rattle.granit_lexemes.specs.declared.layout.LastLexeme.TheVariants.{Opener, BehindDash, BehindQuestion}
use Rattle.granit_lexemes.specs.declared.layout.LastLexeme.TheVariants.{BehindBareColon, BehindProperty}
use Rattle.granit_lexemes.specs.declared.layout.OpenBracket.{OpenBracket}
use Rattle.granit_lexemes.specs.declared.layout.OpenColumn.{OpenColumn}
use Rattle.granit_lexemes.specs.declared.layout.PossibleKey.{PossibleKey}
use Rattle.granit_machine.specs.Laid.{Laid}

-- ---- brackets and columns (7.4, 8.1)

-- a bracket is open, this one innermost
pub record InFlow (l : Laid) : Type 0 where
  pub bracket : OpenBracket
  pub around : List OpenBracket
  pub is : l.brackets ≡ bracket ∷ around

-- none is
abbrev pub OutsideFlow : Laid → Type 0
OutsideFlow l = l.brackets ≡ []

-- the innermost open bracket is a sequence's
abbrev pub InSequence : Laid → Type 0
InSequence l = (b : OpenBracket) × (bs : List OpenBracket) × (l.brackets ≡ b ∷ bs) × (b.bracket ≡ Square)

-- the innermost open block collection stands in a column
abbrev pub Innermost : Laid → ℕ → Type 0
Innermost l n = (c : OpenColumn) × (cs : List OpenColumn) × (l.columns ≡ c ∷ cs) × (c.column ≡ n)

-- a column that isn't right of that of the innermost block collection, so that no node may stand in it
abbrev pub LeftOfNodes : Laid → ℕ → Type 0
LeftOfNodes l column = (c : OpenColumn) × (cs : List OpenColumn) × (l.columns ≡ c ∷ cs) × (column ≤ c.column)

-- ---- entries (7.4, 8.2)

-- a `?`, or a `:` without key
abbrev pub IsIndicator : LastLexeme → Type 0
IsIndicator last = (last ≡ BehindQuestion) ⊎ (last ≡ BehindBareColon)

-- A key, a `-`, a `?` or a `:` without key may stand here: in flow behind an opener or a `,`; outside flow first on its
-- line, behind a `-`, and with no tab between also behind a `?` or such a `:`.
pub data EntryMayBegin (h : Here) (l : Laid) : Type 0 where
  behind_opener : InFlow l → l.last ≡ Opener → EntryMayBegin h l
  first_on_line : OutsideFlow l → h.begins_line ≡ true → EntryMayBegin h l
  behind_dash : OutsideFlow l → l.last ≡ BehindDash → EntryMayBegin h l
  behind_indicator : OutsideFlow l → IsIndicator l.last → h.tab ≡ None → EntryMayBegin h l

-- an entry stands in the column, or one more collection may begin
abbrev pub RoomFor : OptionsData → ℕ → Laid → Type 0
RoomFor o column l = Innermost l column ⊎ (length l.columns < o.block_nesting_limit)

-- as many block collections are open as may be, and one more begins
pub record TooMany (o : OptionsData) (column : ℕ) (l : Laid) : Type 0 where
  pub new : Innermost l column → ⊥
  pub full : o.block_nesting_limit ≤ length l.columns

-- where an entry fits: outside flow, where one may begin, with room for it
pub record EntryFits (o : OptionsData) (h : Here) (l : Laid) : Type 0 where
  pub outside : OutsideFlow l
  pub allowed : EntryMayBegin h l
  pub room : RoomFor o h.place.column l

-- ---- keys (7.4.2, 8.2.2)

-- a `:` on a later line than its key, in a sequence, or where it or something of the key stands where no node may
abbrev pub FarBelow : Here → Laid → PossibleKey → Type 0
FarBelow h l k =
    (InFlow l × (k.start.place.line < h.place.line))
    × (((k.is_low ≡ true) ⊎ LeftOfNodes l h.place.column) ⊎ InSequence l)

-- a key that began too far before a place, or outside flow on an earlier line
abbrev pub LeftBehind : OptionsData → Laid → Mark → PossibleKey → Type 0
LeftBehind o l m k =
    (k.start.place.index + o.simple_key_max_lookahead < m.place.index)
    ⊎ (OutsideFlow l × (k.start.place.line < m.place.line))

-- ---- signs

-- a sign with a blank, a break, NUL or the end behind it
abbrev pub SignStands : ℕ → List ℕ → Type 0
SignStands c text = (behind : List ℕ) × (text ≡ c ∷ behind) × (is_blank_or_breakz (first behind) ≡ true)

-- the same behind three of them (9.1)
abbrev pub ThreeSignsStand : ℕ → List ℕ → Type 0
ThreeSignsStand c text =
    (behind : List ℕ) × (text ≡ c ∷ c ∷ c ∷ behind) × (is_blank_or_breakz (first behind) ≡ true)

-- another `-` behind a tab (8.2.1)
abbrev pub DashBehindTab : Here → Type 0
DashBehindTab h = ((tab : Mark) × (h.tab ≡ Some tab)) × SignStands 0x2D h.unread.text

-- a NUL directly behind a sign
abbrev pub NulBehind : Here → Type 0
NulBehind h = (c : ℕ) × (behind : List ℕ) × (h.unread.text ≡ c ∷ 0x00 ∷ behind)

-- an opener directly behind it (7.4)
abbrev pub OpenerBehind : Here → Type 0
OpenerBehind h = (c : ℕ) × (b : Bracket) × (behind : List ℕ) × (h.unread.text ≡ c ∷ opener_char b ∷ behind)

-- what ends a plain scalar: a document mark, or a `:` (7.3.3, 9.1)
abbrev pub EndsContent : List ℕ → Type 0
EndsContent text = (ThreeSignsStand 0x2D text ⊎ ThreeSignsStand 0x2E text) ⊎ SignStands 0x3A text

-- what would go on with a plain scalar outside flow that a comment cut short on the line before (6.6, 7.3.3)
abbrev pub GoesOnBehind : Laid → Here → Mark → Type 0
GoesOnBehind l h cut =
    ((OutsideFlow l × (h.place.line ≡ suc cut.place.line))
    × ((LeftOfNodes l h.place.column → ⊥) × (h.unread.text ≢ [])))
    × (EndsContent h.unread.text → ⊥)

-- ---- tabs (6.1)

-- the first of the tabs that begin a line with something on it
abbrev pub TabBegins : Here → Mark → Type 0
TabBegins h tab = ((h.begins_line ≡ true) × (is_breakz (next_char h) ≡ false)) × (h.tab ≡ Some tab)

-- behind `?`, or where indentation is strict behind its properties
abbrev pub IsBehindQuestion : LastLexeme → Type 0
IsBehindQuestion last = (last ≡ BehindQuestion) ⊎ (last ≡ BehindProperty)

-- a column left of that of the innermost block collection, or the same where a tab may not go so far either
abbrev pub InIndentation : (further : Type 0) → Laid → ℕ → Type 0
InIndentation further l column =
    (c : OpenColumn) × (cs : List OpenColumn) × (l.columns ≡ c ∷ cs)
    × ((column < c.column) ⊎ (further × (column ≡ c.column)))

-- where indentation is strict no tab may stand in the innermost column inside flow
abbrev pub StrictInside : OptionsData → Laid → Type 0
StrictInside o l = InFlow l × (o.strict_indentation ≡ true)

-- a tab that stands left of where a key may behind `?`
abbrev pub LeftOfKey : Laid → Mark → Type 0
LeftOfKey l tab = IsBehindQuestion l.last × LeftOfNodes l tab.place.column

-- a tab that stands in the indentation of its block
abbrev pub InBlock : OptionsData → Laid → Mark → Type 0
InBlock o l tab = InIndentation ((l.rolled ≡ true) ⊎ StrictInside o l) l tab.place.column

-- no tab that begins the line of a place stands so
abbrev pub TabsFit : OptionsData → Laid → Here → Type 0
TabsFit o l h = (tab : Mark) → TabBegins h tab → (LeftOfKey l tab → ⊥) × (InBlock o l tab → ⊥)

-- nothing goes on with a plain scalar that a comment cut short
abbrev pub CutFits : Laid → Here → Type 0
CutFits l h = (cut : Mark) → l.cut ≡ Some cut → GoesOnBehind l h cut → ⊥

-- where lines in flow are indented too, a place left of where a node may stand
abbrev pub LeftInside : OptionsData → Here → Laid → Type 0
LeftInside o h l = StrictInside o l × LeftOfNodes l h.place.column

-- byte-order marks may stand in a gap: outside flow, with nothing but directives before it in its document (5.2)
abbrev pub MayPrefix : Laid → Type 0
MayPrefix l = (l.may_prefix ≡ true) × OutsideFlow l

-- ---- what a scalar is told

-- the innermost column is one that no tab may stand in, and the scalar stands in flow or in another one
abbrev pub IsWide : (column : ℕ) → Laid → Type 0
IsWide column l =
    (c : OpenColumn) × (cs : List OpenColumn) × (l.columns ≡ c ∷ cs)
    × ((c.is_wide ≡ true) × (InFlow l ⊎ (c.column ≢ column)))

pub data FlowIs (l : Laid) : Bool → Type 0 where
  inside : InFlow l → FlowIs l true
  outside : OutsideFlow l → FlowIs l false

pub data ColumnIs (l : Laid) : Option ℕ → Type 0 where
  at_root : l.columns ≡ [] → ColumnIs l None
  in_block : {n : ℕ} → Innermost l n → ColumnIs l (Some n)

-- the column left of which a tab is refused
pub data TabColumnIs (further : Type 0) (l : Laid) : ℕ → Type 0 where
  nowhere : l.columns ≡ [] → TabColumnIs further l 0
  left_of : {n : ℕ} → Innermost l n → (further → ⊥) → TabColumnIs further l n
  and_in : {n : ℕ} → Innermost l n → further → TabColumnIs further l (n + 1)

-- the layout of a scalar that begins in a column
pub record LayoutIs (o : OptionsData) (column : ℕ) (l : Laid) (d : LayoutData) : Type 0 where
  pub block : ColumnIs l d.block_column
  pub tabs : TabColumnIs (IsWide column l ⊎ StrictInside o l) l d.tab_column
  pub flow : FlowIs l d.in_flow
  pub strict : d.strict ≡ o.strict_indentation
  pub comments : d.comments ≡ true
