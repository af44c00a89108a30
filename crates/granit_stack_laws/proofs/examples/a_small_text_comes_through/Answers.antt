use Rattle.granit_stack_laws.proofs.ExampleLemmas.{small_comes}
use Rattle.granit_stack_laws.proofs.examples.a_small_text_comes_through.Goals as goal

pub returns : goal.returns
returns g c =
    let a = g.A.StackedParser in
    let b = g.B.StackedParser in
    let d = g.C.StackedParser in
    small_comes a.steps b.steps d.steps a.offset_of b.offset_of d.offset_of a.sets_offset b.sets_offset d.sets_offset
    a.offset_over b.offset_over d.offset_over (λ p. Unit {0}) (λ p. Unit {0}) (λ p. Unit {0})
