use Rattle.granit_moved.proofs.MovedStream.{feed_all_moved}
use Rattle.granit_moved.proofs.moving.items_are_fed_alike_wherever_they_stand.Goals as goal

pub returns : goal.returns
returns c = λ shift o items p fits. feed_all_moved shift o fits items p
