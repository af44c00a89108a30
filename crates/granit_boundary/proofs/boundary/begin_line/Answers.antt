use Rattle.std.proofs.Common.{◌≡◌, sym, ap, subst, ◌∙◌}
use Rattle.granit_boundary.proofs.PassLemmas.{beginning_here, prefix_here}
use Rattle.granit_base.specs.Classes.{is_bom}
use Rattle.granit_lexemes.proofs.CharTests.{bom_is}
use Rattle.granit_lexemes.specs.Here.{next_char, step}
use Rattle.granit_lexemes.specs.Moves.{past_prefix_mark}
use Rattle.granit_boundary.proofs.boundary.begin_line.Goals as goal

pub step_prefix_mark-requires-clause-mark : goal.step_prefix_mark-requires-clause-mark
step_prefix_mark-requires-clause-mark g c = λ h k.
    let front = c.peek.ensures.value h.unread
    (subst (λ x. g.T.Input.unread x h.unread) (sym c.input.ensures) k.0) in
    sym front ∙ bom_is c.peek.result (sym c.is_bom.ensures ∙ c.if-is_bom.true)

pub returns-then-is_bom-clause-here : goal.returns-then-is_bom-clause-here
returns-then-is_bom-clause-here g c = λ h k.
    let front : c.peek.result ≡ next_char h = c.peek.ensures.value h.unread
    (subst (λ x. g.T.Input.unread x h.unread) (sym c.input.ensures) k.0) in
    let column : h.place.column ≡ 0 = ap (λ p. p.column) k.1 ∙ c.requires.column in
    let bom = ap is_bom (sym front) ∙ sym c.is_bom.ensures ∙ c.if-is_bom.true in
    (past_prefix_mark h, c.step_prefix_mark.ensures.here h k, prefix_here h (c.requires.text h k) column bom)

pub returns-clause-here : goal.returns-clause-here
returns-clause-here g c = λ h k.
    let front : c.peek.result ≡ next_char h = c.peek.ensures.value h.unread
    (subst (λ x. g.T.Input.unread x h.unread) (sym c.input.ensures) k.0) in
    let column : h.place.column ≡ 0 = ap (λ p. p.column) k.1 ∙ c.requires.column in
    let bom = ap is_bom (sym front) ∙ sym c.is_bom.ensures ∙ c.if-is_bom.false in
    let dashes = sym (c.next_3_are.ensures.value h.unread
    (subst (λ x. g.T.Input.unread x h.unread) (sym c.input-2.ensures) k.0)) ∙ c.if-next_3_are.false in
    let dots = sym (c.next_3_are-2.ensures.value h.unread
    (subst (λ x. g.T.Input.unread x h.unread) (sym c.input-3.ensures) k.0)) ∙ c.if-next_3_are-2.false in
    (step h, c.step.ensures.here h k, beginning_here h (c.requires.text h k) column bom dashes dots)
