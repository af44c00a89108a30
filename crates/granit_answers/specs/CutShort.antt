-- What a comment cut short: a plain scalar outside flow, with blanks and the comment behind it (6.6, 7.3.3).
use Rattle.std.specs.Prelude.{◌≡◌, List, [], ◌∷◌, Some}
use Rattle.granit_base.specs.Place.{Mark}
use Rattle.granit_base.specs.declared.style.ScalarStyle.TheVariants.{Plain}
use Rattle.granit_lexemes.specs.Here.{Here, mark_of}
use Rattle.granit_lexemes.specs.LayoutData.{LayoutData}
use Rattle.granit_lexemes.specs.Lexeme.{Lexeme, Scalar}
use Rattle.granit_lexemes.specs.PlainExtent.{AnswersPlain}
use Rattle.granit_lexemes.specs.PlainScalar.{PlainRead}

-- A lexeme is a plain scalar that stands at a place, and the `#` at the mark ends it.
pub record CutShort (x : Lexeme) (m : Mark) : Type 0 where
  pub here : Here
  pub layout : LayoutData
  pub read : PlainRead
  pub after : Here
  pub answers : AnswersPlain layout here read after
  pub begins : x.start ≡ mark_of here
  pub kind : x.kind ≡ Scalar Plain read.text
  pub cut : read.cut_by_comment ≡ Some m

-- the latest of some lexemes is one
abbrev pub LastCut : List Lexeme → Mark → Type 0
LastCut [] m = ⊥
LastCut (x ∷ xs) m = CutShort x m
