use Rattle.granit_stack_laws.proofs.ComingLemmas.{fourth_resets, include_comes}
use Rattle.granit_stack_laws.proofs.laws.an_include_comes_through.Goals as goal

pub returns : goal.returns
returns g c =
    let a = g.A.StackedParser in
    let b = g.B.StackedParser in
    let d = g.C.StackedParser in
    include_comes _ _ c.ids_are_counted.ensures c.ids_begin_at_the_offset.ensures
    c.a_text_with_one_start_is_one_document.ensures c.a_replay_comes_through.ensures
    (fourth_resets a.sets_offset b.sets_offset d.sets_offset)
