-- In which columns a tab may stand, said of the lexemes before a place (YAML 1.2.2, 6.1, 7.4 and 8.2).
use Rattle.std.specs.Prelude.{◌≡◌, ℕ, ◌≤◌, ◌<◌, Bool, true, false, ◌||◌, drop, List, [], ◌∷◌, ◌⊎◌}
use Rattle.granit_base.specs.Classes.{is_break, is_flow}
use Rattle.granit_base.specs.Place.{first}
use Rattle.granit_base.specs.declared.style.ScalarStyle.{ScalarStyle}
use Rattle.granit_base.specs.declared.style.ScalarStyle.TheVariants.{SingleQuoted, DoubleQuoted}
use Rattle.granit_error.specs.OptionsData.{OptionsData}
use Rattle.granit_language.specs.OpenColumns.{IsEntry, IsOpenColumn, LeavesOpen}
use Rattle.granit_lexemes.specs.Lexeme.{LexemeKind, Directive, DocumentStart, DocumentEnd, StreamEnd, Dash}
use Rattle.granit_lexemes.specs.Lexeme.{Question, Colon, Anchor, Tag, Scalar, Lexeme, is_opener_kind}
use Rattle.granit_lexemes.specs.declared.layout.OpenColumn.{OpenColumn}
use Rattle.granit_before.specs.Openers.{IsInside}

-- ---- signs that ask for a node further right

abbrev pub ends_sign : ℕ → Bool
ends_sign c = is_break c || is_flow c

-- a `-` with nothing but its tail on its line, or in front of a flow indicator
pub record BareDash (text : List ℕ) (x : Lexeme) : Type 0 where
  pub dash : x.kind ≡ Dash
  pub bare : ends_sign (first (drop x.end.place.index text)) ≡ true

-- a `:` of a block mapping
pub record BlockColon (x : Lexeme) : Type 0 where
  pub colon : x.kind ≡ Colon
  pub outside : x.in_flow ≡ false

abbrev pub AsksFurther : (text : List ℕ) → Lexeme → Type 0
AsksFurther text x = BlockColon x ⊎ BareDash text x

-- ---- the innermost column

abbrev pub is_quoted : ScalarStyle → Bool
is_quoted SingleQuoted = true
is_quoted DoubleQuoted = true
is_quoted style = false

-- in flow only a plain scalar says anything new
abbrev pub keeps_in_flow : LexemeKind → Bool
keeps_in_flow (Scalar style text) = is_quoted style
keeps_in_flow kind = true

-- outside flow brackets, a `,`, properties, aliases and quoted scalars say nothing new
abbrev pub keeps_outside : LexemeKind → Bool
keeps_outside (Scalar style text) = is_quoted style
keeps_outside Dash = false
keeps_outside Question = false
keeps_outside Colon = false
keeps_outside (Directive directive) = false
keeps_outside DocumentStart = false
keeps_outside DocumentEnd = false
keeps_outside StreamEnd = false
keeps_outside kind = true

-- a lexeme stands right of each column that is open in front of it
abbrev pub RightOfColumns : List Lexeme → Lexeme → Type 0
RightOfColumns xs x = (c : ℕ) → IsOpenColumn xs c → c < x.start.place.column

-- what was said of the innermost column is still so behind a lexeme
pub data StillSo (xs : List Lexeme) (x : Lexeme) : Type 0 where
  in_flow : x.in_flow ≡ true → keeps_in_flow x.kind ≡ true → StillSo xs x
  outside : x.in_flow ≡ false → keeps_outside x.kind ≡ true → RightOfColumns xs x → StillSo xs x
  -- behind the end nothing stands
  at_end : x.kind ≡ StreamEnd → StillSo xs x

-- Behind these lexemes, the latest first, what begins a line stands right of the innermost column, so that a tab in it
-- is one of its indentation: a sign asks for a node there, or a bracket was opened inside a block collection.
pub data IndentsFurther (text : List ℕ) : List Lexeme → Type 0 where
  behind_sign : {x : Lexeme} {xs : List Lexeme} → AsksFurther text x → IndentsFurther text (x ∷ xs)
  behind_opener : {x : Lexeme} {xs : List Lexeme} (c : ℕ) → is_opener_kind x.kind ≡ true → x.in_flow ≡ false →
      IsOpenColumn xs c → LeavesOpen x c → IndentsFurther text (x ∷ xs)
  still_so : {x : Lexeme} {xs : List Lexeme} → StillSo xs x → IndentsFurther text xs → IndentsFurther text (x ∷ xs)

-- ---- each open column

-- The latest entry in a column, or a lexeme behind it, asks for a node further right: a scalar that goes on over lines
-- has no tab in this column.
abbrev pub IsWideColumn : (text : List ℕ) → List Lexeme → ℕ → Type 0
IsWideColumn text [] c = ⊥
IsWideColumn text (x ∷ xs) c =
    (AsksFurther text x ⊎ (is_opener_kind x.kind ≡ true)) ⊎ ((IsEntry x xs c → ⊥) × IsWideColumn text xs c)

-- a column is one of these
abbrev pub HasColumn : OpenColumn → List OpenColumn → Type 0
HasColumn c [] = ⊥
HasColumn c (d ∷ ds) = (d ≡ c) ⊎ HasColumn c ds

-- ---- behind `?`

abbrev pub is_property_kind : LexemeKind → Bool
is_property_kind (Anchor name) = true
is_property_kind (Tag handle suffix) = true
is_property_kind kind = false

-- where indentation is strict its properties go on with a `?`; behind the end nothing stands
abbrev pub PropertiesGoOn : OptionsData → Lexeme → Type 0
PropertiesGoOn o x = ((o.strict_indentation ≡ true) × (is_property_kind x.kind ≡ true)) ⊎ (x.kind ≡ StreamEnd)

-- the latest lexeme is a `?` outside flow, or goes on with one
abbrev pub BehindQuestionSign : OptionsData → List Lexeme → Type 0
BehindQuestionSign o [] = ⊥
BehindQuestionSign o (x ∷ xs) =
    ((x.kind ≡ Question) × (x.in_flow ≡ false)) ⊎ (PropertiesGoOn o x × BehindQuestionSign o xs)

-- ---- a tab that begins a line

pub record InnermostOpen (xs : List Lexeme) (c : ℕ) : Type 0 where
  pub open_there : IsOpenColumn xs c
  pub innermost : (d : ℕ) → IsOpenColumn xs d → d ≤ c

-- A tab in a column is one of the indentation of its line: it stands left of the innermost column, or in it, where what
-- begins the line stands right of that, as all does inside flow where indentation is strict.
abbrev pub TabIndents : OptionsData → (text : List ℕ) → List Lexeme → (column : ℕ) → Type 0
TabIndents o text xs column =
    (c : ℕ) × InnermostOpen xs c
    × ((column < c) ⊎ ((IndentsFurther text xs ⊎ (IsInside xs × (o.strict_indentation ≡ true))) × (column ≡ c)))

-- behind `?` it stands where no key may
abbrev pub TabBeforeKey : OptionsData → List Lexeme → (column : ℕ) → Type 0
TabBeforeKey o xs column = BehindQuestionSign o xs × ((c : ℕ) × IsOpenColumn xs c × (column ≤ c))
