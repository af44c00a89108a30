use Rattle.granit_restart.proofs.LookLaws.{look_tells}
use Rattle.granit_looking.proofs.looking.a_look_tells_whether_a_document_follows.Goals as goal

pub returns : goal.returns
returns c = look_tells
