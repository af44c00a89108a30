-- Which plain scalar a comment cuts short, said of the lexemes and the text (YAML 1.2.2, 6.6 and 7.3.3).
use Rattle.std.specs.Prelude.{◌≡◌, ℕ, ◌+◌, true, false, List, [], ◌∷◌, ◌++◌, length, drop}
use Rattle.granit_base.specs.Classes.{is_gap}
use Rattle.granit_base.specs.Place.{first}
use Rattle.granit_base.specs.Written.{Written}
use Rattle.granit_base.specs.declared.style.ScalarStyle.TheVariants.{Plain}
use Rattle.granit_error.specs.OptionsData.{OptionsData}
use Rattle.granit_lexemes.specs.LayoutData.{LayoutData}
use Rattle.granit_lexemes.specs.Lexeme.{Lexeme, Scalar}
use Rattle.granit_lexemes.specs.PlainExtent.{Separation, separation_text, IsSeparation, is_cut}
use Rattle.granit_before.specs.ScalarLayout.{ScalarLayout}

-- A plain scalar outside flow, and behind it a `#` at an index: behind blanks on its line, or on a further line that a
-- tab left of its block indents.
pub record CutsShort (o : OptionsData) (text : List ℕ) (before : List Lexeme) (x : Lexeme) (index : ℕ) : Type 0 where
  pub value : Written
  pub kind : x.kind ≡ Scalar Plain value
  pub outside : x.in_flow ≡ false
  pub tail : Separation
  pub rest : List ℕ
  pub behind : drop x.end.place.index text ≡ separation_text tail ++ rest
  pub separates : IsSeparation tail
  pub stops : is_gap (first rest) ≡ false
  pub layout : LayoutData
  pub layout_is : ScalarLayout o text before x layout
  pub cut : is_cut layout tail rest ≡ true
  pub place : index ≡ x.end.place.index + length (separation_text tail)

-- the latest of some lexemes is one
abbrev pub LastCutsShort : OptionsData → (text : List ℕ) → List Lexeme → (index : ℕ) → Type 0
LastCutsShort o text [] index = ⊥
LastCutsShort o text (x ∷ xs) index = CutsShort o text xs x index
