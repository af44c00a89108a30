use Rattle.std.proofs.Common.{◌≡◌, ◌==◌, false, ap, ◌∙◌}
use Rattle.granit_boundary.proofs.PassLemmas.{none_taken, quoted_within}
use Rattle.granit_lexemes.specs.Here.{step}
use Rattle.granit_lexemes.specs.Moves.{steps}
use Rattle.granit_boundary.proofs.boundary.pass_inside.Goals as goal

pub returns-then-skip_quoted-eq0-clause-here : goal.returns-then-skip_quoted-eq0-clause-here
returns-then-skip_quoted-eq0-clause-here g c = λ h k.
    let taken = c.skip_quoted.ensures.here h k in
    let column : (h.place.column == 0) ≡ false = ap (λ p. p.column == 0) k.1 ∙ c.requires.inside in
    let there = steps c.skip_quoted.result h in (
      step there,
      c.step.ensures.here there taken.1,
      none_taken c.skip_quoted.result h c.if-skip_quoted-eq0.true (c.requires.text h k) column,
    )

pub returns-else-skip_quoted-eq0-clause-here : goal.returns-else-skip_quoted-eq0-clause-here
returns-else-skip_quoted-eq0-clause-here g c = λ h k.
    let taken = c.skip_quoted.ensures.here h k in
    let column : (h.place.column == 0) ≡ false = ap (λ p. p.column == 0) k.1 ∙ c.requires.inside in
    (steps c.skip_quoted.result h, taken.1, (quoted_within c.skip_quoted.result h taken.0 column).1)
