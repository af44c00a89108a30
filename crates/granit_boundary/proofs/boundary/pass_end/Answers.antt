use Rattle.std.proofs.Common.{◌≡◌, sym, ap, subst, ◌∙◌}
use Rattle.granit_boundary.specs.Found.{FoundAs, FinishesTo}
use Rattle.granit_boundary.specs.declared.boundary.Boundary.TheVariants.{End}
use Rattle.granit_boundary.proofs.PassLemmas.{dots_passed, end_found, end_passed}
use Rattle.granit_cursor.specs.Reading.{Stands}
use Rattle.granit_lexemes.specs.Moves.{steps}
use Rattle.granit_restart.specs.Boundary.{Boundary, finished_line}
use Rattle.granit_boundary.proofs.boundary.pass_end.Goals as goal

pub returns-then-not-is_separated-clause-here : goal.returns-then-not-is_separated-clause-here
returns-then-not-is_separated-clause-here g c = λ h k.
    let there = c.pass_three.ensures.here h k in
    let column : h.place.column ≡ 0 = ap (λ p. p.column) k.1 ∙ c.requires.column in
    let separated = sym (c.is_separated.ensures.value (steps 3 h) there) ∙ c.if-not-is_separated.true in (
      steps 3 h,
      c.is_separated.ensures.here (steps 3 h) there,
      dots_passed h column (c.requires.text h k) separated,
    )

pub returns-then-line_finishes-clause-here : goal.returns-then-line_finishes-clause-here
returns-then-line_finishes-clause-here g c = λ h k.
    let there = c.pass_three.ensures.here h k in
    let column : h.place.column ≡ 0 = ap (λ p. p.column) k.1 ∙ c.requires.column in
    let separated = sym (c.is_separated.ensures.value (steps 3 h) there) ∙ c.if-not-is_separated.false in
    let Lands = Stands g.T.Input.unread c.line_finishes.new.cursor in
    let r = subst (λ (b : _). FinishesTo finished_line Lands b (steps 3 h)) c.if-line_finishes.true
    (c.line_finishes.ensures.here (steps 3 h) (c.is_separated.ensures.here (steps 3 h) there)) in
    subst (λ (b : Boundary). FoundAs Lands End b)
    (sym (end_found h r.0 column (c.requires.text h k) separated r.1)) r.2

pub returns-else-line_finishes-clause-here : goal.returns-else-line_finishes-clause-here
returns-else-line_finishes-clause-here g c = λ h k.
    let there = c.pass_three.ensures.here h k in
    let column : h.place.column ≡ 0 = ap (λ p. p.column) k.1 ∙ c.requires.column in
    let separated = sym (c.is_separated.ensures.value (steps 3 h) there) ∙ c.if-not-is_separated.false in
    let Lands = Stands g.T.Input.unread c.line_finishes.new.cursor in
    let r = subst (λ (b : _). FinishesTo finished_line Lands b (steps 3 h)) c.if-line_finishes.false
    (c.line_finishes.ensures.here (steps 3 h) (c.is_separated.ensures.here (steps 3 h) there)) in
    (r.1.0, r.1.1, end_passed h r.1.0 column (c.requires.text h k) separated r.0 r.1.2)
