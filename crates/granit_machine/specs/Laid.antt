-- What the lexemes so far left: possible keys, open brackets and columns, and what the last one lets the next be.
use Rattle.std.specs.Prelude.{ℕ, suc, Bool, true, false, ◌==◌, List, [], ◌∷◌, Option, None, Some}
use Rattle.granit_base.specs.Place.{Mark}
use Rattle.granit_lexemes.specs.declared.layout.Bracket.{Bracket}
use Rattle.granit_lexemes.specs.declared.layout.Bracket.TheVariants.{Square, Curly}
-- what the last lexeme lets the next one be, a possible simple key (7.4.2, 8.2.2), an open bracket, and an open column
use Rattle.granit_lexemes.specs.declared.layout.LastLexeme.{LastLexeme}
use Rattle.granit_lexemes.specs.declared.layout.LastLexeme.TheVariants.{Opener, BehindDash, BehindQuestion}
use Rattle.granit_lexemes.specs.declared.layout.LastLexeme.TheVariants.{BehindBareColon, BehindProperty, Adjacent}
use Rattle.granit_lexemes.specs.declared.layout.LastLexeme.TheVariants.{Another}
use Rattle.granit_lexemes.specs.declared.layout.PossibleKey.{PossibleKey}
use Rattle.granit_lexemes.specs.declared.layout.OpenBracket.{OpenBracket}
use Rattle.granit_lexemes.specs.declared.layout.OpenColumn.{OpenColumn}

pub record Laid : Type 0 where
  -- how many lexemes were read
  pub number : ℕ
  -- the possible key outside brackets
  pub key : Option PossibleKey
  -- the open brackets and columns, the innermost first
  pub brackets : List OpenBracket
  pub columns : List OpenColumn
  -- whether a tab in the innermost column is refused too
  pub rolled : Bool
  pub last : LastLexeme
  -- the `#` that ended the last plain scalar
  pub cut : Option Mark
  -- whether a byte-order mark may stand in front of a document
  pub may_prefix : Bool

abbrev pub laid_start : Laid
laid_start =
    record {
      number = 0;
      key = None;
      brackets = [];
      columns = [];
      rolled = false;
      last = Another;
      cut = None;
      may_prefix = true;
    }

-- a lexeme was read that tells this of the next one
abbrev pub behind_lexeme : LastLexeme → Laid → Laid
behind_lexeme last l = record l { number = suc l.number; last = last; may_prefix = false }

-- ---- the last lexeme

abbrev pub is_opener : LastLexeme → Bool
is_opener Opener = true
is_opener _ = false

abbrev pub is_dash : LastLexeme → Bool
is_dash BehindDash = true
is_dash _ = false

abbrev pub is_adjacent : LastLexeme → Bool
is_adjacent Adjacent = true
is_adjacent _ = false

-- `?` or a `:` without key, behind which a tab allows no block collection
abbrev pub is_indicator : LastLexeme → Bool
is_indicator BehindQuestion = true
is_indicator BehindBareColon = true
is_indicator _ = false

-- `?`, or where indentation is strict its properties
abbrev pub is_question : LastLexeme → Bool
is_question BehindQuestion = true
is_question BehindProperty = true
is_question _ = false

-- ---- brackets and columns

abbrev pub is_nonempty : {A : Type 0} → List A → Bool
is_nonempty [] = false
is_nonempty (x ∷ xs) = true

abbrev pub is_in_flow : Laid → Bool
is_in_flow l = is_nonempty l.brackets

abbrev pub same_bracket : Bracket → Bracket → Bool
same_bracket Square Square = true
same_bracket Square Curly = false
same_bracket Curly Square = false
same_bracket Curly Curly = true

abbrev pub in_square : List OpenBracket → Bool
in_square [] = false
in_square (b ∷ bs) = same_bracket b.bracket Square

abbrev pub innermost_column : List OpenColumn → Option ℕ
innermost_column [] = None
innermost_column (c ∷ cs) = Some c.column

abbrev pub block_column : Laid → Option ℕ
block_column l = innermost_column l.columns

abbrev pub is_column : Option ℕ → ℕ → Bool
is_column None column = false
is_column (Some n) column = n == column
