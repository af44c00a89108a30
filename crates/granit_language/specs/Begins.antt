-- Which lexeme begins at a place: the start table (YAML 1.2.2, 5.3, 6.8, 7.3.3, 7.4 and 9.1).
use Rattle.std.specs.Prelude.{◌≡◌, ◌≢◌, ℕ, ◌||◌, ◌&&◌, Bool, true, false, List, [], ◌∷◌, ◌⊎◌}
use Rattle.granit_base.specs.Classes.{is_blank_or_breakz, is_flow, is_printable}
use Rattle.granit_base.specs.Place.{first}
use Rattle.granit_lexemes.specs.BlockScalar.{block_indicator}
use Rattle.granit_lexemes.specs.Lexeme.{opener_char, closer_char}
use Rattle.granit_lexemes.specs.declared.layout.Bracket.{Bracket}
use Rattle.granit_lexemes.specs.QuotedScalar.{quote_char}
use Rattle.granit_machine.specs.LexemeSort.{PlacedSort, OpenSign, CloseSign, CommaSign, DashSign, QuestionSign}
use Rattle.granit_machine.specs.LexemeSort.{ColonSign, AliasSign, AnchorSign, TagSign, BlockSign, QuoteSign, StrayMark}
use Rattle.granit_machine.specs.LexemeSort.{NoSign, PlainSign, LexemeSort, TextEnd, StartMark, EndMark, Unprintable}
use Rattle.granit_machine.specs.LexemeSort.{DirectiveSign, Placed}

-- `@`, a backquote, `%`, `|` or `>`, which begin no plain scalar (5.3)
abbrev pub ReservedChar : ℕ → Type 0
ReservedChar c = ((c ≡ 0x40) ⊎ (c ≡ 0x60)) ⊎ ((c ≡ 0x25) ⊎ ((c ≡ 0x7C) ⊎ (c ≡ 0x3E)))

-- what may stand behind a `:` that is one: a blank, a break, NUL or the end; in flow also a flow indicator, and behind
-- a quoted scalar or a closer all
abbrev pub parts_colon : (in_flow adjacent : Bool) → ℕ → Bool
parts_colon in_flow adjacent next = is_blank_or_breakz next || (in_flow && (is_flow next || adjacent))

-- A lexeme that no column decides begins with these characters.
pub data SignBegins (in_flow adjacent : Bool) (next : ℕ) : (c : ℕ) → PlacedSort → Type 0 where
  opens : (b : Bracket) → SignBegins in_flow adjacent next (opener_char b) (OpenSign b)
  closes : (b : Bracket) → SignBegins in_flow adjacent next (closer_char b) (CloseSign b)
  comma : SignBegins in_flow adjacent next 0x2C CommaSign
  dash : is_blank_or_breakz next ≡ true → SignBegins in_flow adjacent next 0x2D DashSign
  question : is_blank_or_breakz next ≡ true → SignBegins in_flow adjacent next 0x3F QuestionSign
  colon : parts_colon in_flow adjacent next ≡ true → SignBegins in_flow adjacent next 0x3A ColonSign
  alias : SignBegins in_flow adjacent next 0x2A AliasSign
  anchor : SignBegins in_flow adjacent next 0x26 AnchorSign
  tag : SignBegins in_flow adjacent next 0x21 TagSign
  block : (literal : Bool) → in_flow ≡ false
      → SignBegins in_flow adjacent next (block_indicator literal) (BlockSign literal)
  quote : (single : Bool) → SignBegins in_flow adjacent next (quote_char single) (QuoteSign single)
  stray : SignBegins in_flow adjacent next 0xFEFF StrayMark
  nothing : {c : ℕ} → ReservedChar c → (in_flow ≡ false → (literal : Bool) → c ≢ block_indicator literal)
      → SignBegins in_flow adjacent next c NoSign
  other : {c : ℕ} → is_flow c ≡ false → (c ≡ 0x2D → is_blank_or_breakz next ≡ false)
      → (c ≡ 0x3F → is_blank_or_breakz next ≡ false) → (c ≡ 0x3A → parts_colon in_flow adjacent next ≡ false)
      → (c ≢ 0x2A) → (c ≢ 0x26) → (c ≢ 0x21) → (c ≢ 0x27) → (c ≢ 0x22) → (c ≢ 0xFEFF) → (ReservedChar c → ⊥)
      → SignBegins in_flow adjacent next c PlainSign

-- three characters in column 0 with a blank, a break, NUL or the end behind them (9.1)
abbrev pub ThreeStand : ℕ → ℕ → List ℕ → Type 0
ThreeStand c column text =
    (column ≡ 0) × (behind : List ℕ) × (text ≡ c ∷ c ∷ c ∷ behind) × (is_blank_or_breakz (first behind) ≡ true)

abbrev pub NoMark : ℕ → List ℕ → Type 0
NoMark column text = (ThreeStand 0x2D column text → ⊥) × (ThreeStand 0x2E column text → ⊥)

-- A lexeme of a sort begins a text that stands in a column.
pub data Begins (in_flow adjacent : Bool) (column : ℕ) : List ℕ → LexemeSort → Type 0 where
  at_end : Begins in_flow adjacent column [] TextEnd
  dashes : {text : List ℕ} → ThreeStand 0x2D column text → Begins in_flow adjacent column text StartMark
  dots : {text : List ℕ} → ThreeStand 0x2E column text → Begins in_flow adjacent column text EndMark
  unprintable : {c : ℕ} {text : List ℕ} → NoMark column (c ∷ text) → is_printable c ≡ false
      → Begins in_flow adjacent column (c ∷ text) Unprintable
  directive : {text : List ℕ} → column ≡ 0 → Begins in_flow adjacent column (0x25 ∷ text) DirectiveSign
  sign : {c : ℕ} {text : List ℕ} {sort : PlacedSort} → NoMark column (c ∷ text) → is_printable c ≡ true
      → (column ≡ 0 → c ≢ 0x25) → SignBegins in_flow adjacent (first text) c sort
      → Begins in_flow adjacent column (c ∷ text) (Placed sort)
