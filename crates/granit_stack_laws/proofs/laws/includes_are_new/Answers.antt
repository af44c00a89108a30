use Rattle.granit_stack_laws.proofs.CallLemmas.{new_includes}
use Rattle.granit_stack_laws.proofs.ComingLemmas.{text_ids, text_under}
use Rattle.granit_stack_laws.proofs.LifeLemmas.{any_numbers, parser_numbers, replay_numbers}
use Rattle.granit_stack_laws.proofs.laws.includes_are_new.Goals as goal

pub returns : goal.returns
returns g c =
    let law = c.ids_are_counted.ensures in
    let x = g.X.Input in
    let y = g.Y.Input in
    let z = g.Z.Input in
    new_includes _ _ _ _
    (any_numbers _ _ _ _ _ _ _ _ _ _ _ _ _ _ _ _ _ _ _ _ _ _ _ _ (parser_numbers x.unread x.left x.origin law)
    (parser_numbers y.unread y.left y.origin law) (parser_numbers z.unread z.left z.origin law) replay_numbers)
    (λ p most. most) (text_ids c.ids_begin_at_the_offset.ensures) (text_under law)
