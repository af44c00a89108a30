-- Words of a plain scalar of ASCII whose end is seen at once (YAML 1.2.2, 7.3.3).
use Rattle.std.specs.Prelude.{◌≡◌, ℕ, ◌+◌, ◌-◌, ◌<◌, ◌≤◌, ◌==◌, ◌&&◌, ◌||◌, not, Bool, true, false, List, take, drop}
use Rattle.std.specs.Prelude.{slice_index, Option, Some, None}
use Rattle.std.specs.List.{find}
use Rattle.std.specs.Str.{chars, is_utf8}
use Rattle.granit_base.specs.Classes.{is_flow, is_printable, is_within}
use Rattle.granit_base.specs.Place.{Unread, first}
use Rattle.granit_base.specs.PlainContent.{is_content}
use Rattle.granit_runs.specs.Chunks.{FrontOf}
use Rattle.granit_runs.specs.Cuts.{SpellsFront}
use Rattle.granit_runs.specs.Runs.{is_plain_word, run_length}
use Rattle.granit_runs.specs.Unread.{past_count, utf8_length}
use Rattle.granit_runs.specs.White.{blanks_length}
use Rattle.granit_runs.specs.declared.class.Run.{Run}
use Rattle.granit_runs.specs.declared.class.Run.TheVariants.{PlainWords}
use Rattle.granit_runs.specs.declared.whitespace.SkipTabs.TheVariants.{No}

-- a byte that such a run surely takes is shown or a space, where the run is one of a plain scalar's words
abbrev pub ShowsByte : Run → ℕ → Type 0
ShowsByte (PlainWords in_flow) c = is_within 0x20 0x7E c ≡ true
ShowsByte run c = Unit {0}

abbrev pub ShowsFront : Run → List ℕ → ℕ → Type 0
ShowsFront run bytes count = (k : ℕ) → k < count → ShowsByte run (slice_index bytes k)

-- a `:` or a flow indicator that isn't content where it stands
abbrev pub stops_words : (in_flow : Bool) → List ℕ → Bool
stops_words in_flow text = (first text == 0x3A || is_flow (first text)) && not (is_content in_flow text)

-- what surely ends a plain scalar above it, behind so many spaces of its line: a flow indicator in flow, and elsewhere
-- what is no further right than the column of a block
abbrev pub EndsBelow : (in_flow : Bool) → (column : Option ℕ) → (spaces c : ℕ) → Type 0
EndsBelow true column spaces c = is_flow c ≡ true
EndsBelow false None spaces c = ⊥
EndsBelow false (Some n) spaces c = spaces ≤ n

-- a line feed, and behind it so many spaces up to a visible character of ASCII, which ends a plain scalar above it
pub record EndsLine (in_flow : Bool) (column : Option ℕ) (spaces : ℕ) (text : List ℕ) : Type 0 where
  pub feed : first text ≡ 0x0A
  pub blanks : spaces ≡ blanks_length No (drop 1 text)
  pub visible : is_within 0x21 0x7E (first (drop spaces (drop 1 text))) ≡ true
  pub ends : EndsBelow in_flow column spaces (first (drop spaces (drop 1 text)))

-- so many characters in front are printable, of one byte each, and more than a lone `-`
pub record AreWords (text : List ℕ) (count : ℕ) : Type 0 where
  pub some : 0 < count
  pub single : utf8_length (take count text) ≡ count
  pub printable : find (λ c. not (is_printable c)) (take count text) ≡ None
  pub dash : first text ≡ 0x2D → 1 < count

-- such words in front of a text, and what stands behind them
pub record SplitsWords (in_flow : Bool) (text : List ℕ) (count : ℕ) (behind : List ℕ) : Type 0 where
  pub words : AreWords (chars text) count
  pub front : FrontOf (is_plain_word in_flow) (chars text) count
  pub rest : chars behind ≡ drop count (chars text)
  pub bytes : SpellsFront text count behind
  pub utf8 : is_utf8 behind ≡ true

-- the end of a line in front of a text, and what stands behind that and its spaces
pub record SplitsLineEnd (in_flow : Bool) (column : Option ℕ) (text : List ℕ) (spaces : ℕ) (behind : List ℕ) : Type
    0 where
  pub ends : EndsLine in_flow column spaces (chars text)
  pub rest : chars behind ≡ drop (1 + spaces) (chars text)
  pub bytes : SpellsFront text (1 + spaces) behind
  pub utf8 : is_utf8 behind ≡ true

-- all words that stand here, which the input lends from one byte of its source to another
pub record LendsWords (in_flow : Bool) (u : Unread) (start end : ℕ) : Type 0 where
  pub words : AreWords u.text (end - start)
  pub whole : end - start ≡ run_length (is_plain_word in_flow) u.text
  pub offset : u.offset ≡ Some start
  pub lends : u.lends ≡ true

-- what ends them, and where that leaves: what stops them, or a line feed, which is passed with the spaces behind it
abbrev pub EndsWords : (in_flow : Bool) → (column : Option ℕ) → Unread → (count : ℕ) → (spaces : Option ℕ)
    → (Unread → Type 0) → Type 0
EndsWords in_flow column u count None Lands =
    (stops_words in_flow (drop count u.text) ≡ true) × Lands (past_count count u)
EndsWords in_flow column u count (Some spaces) Lands =
    EndsLine in_flow column spaces (drop count u.text) × Lands (past_count (count + (1 + spaces)) u)

-- words were taken so, or nothing
abbrev pub TakesPlain : (in_flow : Bool) → (column : Option ℕ) → Unread → Option (ℕ × ℕ × Option ℕ)
    → (Unread → Type 0) → Type 0
TakesPlain in_flow column u None Lands = Lands u
TakesPlain in_flow column u (Some r) Lands =
    LendsWords in_flow u r.0 r.1 × EndsWords in_flow column u (r.1 - r.0) r.2 Lands

-- how many characters were taken, of what stands behind words and of all
abbrev pub line_taken : (spaces : Option ℕ) → ℕ
line_taken None = 0
line_taken (Some spaces) = 1 + spaces

abbrev pub plain_taken : Option (ℕ × ℕ × Option ℕ) → ℕ
plain_taken None = 0
plain_taken (Some r) = r.1 - r.0 + line_taken r.2
