-- Where no block collection is open and no comment cut a scalar short, nothing of indentation is refused.
use Rattle.std.proofs.Common.{[], sym, ◌∙◌, ◌∷◌, ◌≡◌}
use Rattle.std.specs.Prelude.{None}
use Rattle.granit_error.specs.OptionsData.{OptionsData}
use Rattle.granit_language.specs.Allowed.{TabsFit}
use Rattle.granit_language.specs.Reached.{StandsInside}
use Rattle.granit_lexemes.specs.Here.{Here}
use Rattle.granit_machine.specs.Laid.{Laid}
use Rattle.granit_machine.specs.LexemeSort.{Placed, PlacedSort}

pub record IsOpen (l : Laid) : Type 0 where
  pub columns : l.columns ≡ []
  pub cut : l.cut ≡ None

pub open_tabs : (o : OptionsData) (l : Laid) (h : Here) → l.columns ≡ [] → TabsFit o l h
open_tabs o l h c tab b = (
  λ left. let e : [] ≡ left.1.0 ∷ left.1.1 = sym c ∙ left.1.2 in cc,
  λ inside. let e : [] ≡ inside.0 ∷ inside.1 = sym c ∙ inside.2 in cc,
)

pub open_inside : (o : OptionsData) (sort : PlacedSort) (h : Here) (l : Laid) → IsOpen l
    → StandsInside o (Placed sort) h l
open_inside o sort h l c left = let e : [] ≡ left.1.0 ∷ left.1.1 = sym c.columns ∙ left.1.2 in cc
