use Rattle.granit_looking.proofs.LookShift.{waiting_note}
use Rattle.granit_looking.proofs.looking.a_comment_that_waits_takes_room.Goals as goal

pub returns : goal.returns
returns c = waiting_note
