use Rattle.granit_looking.proofs.EndLaws.{look_none, next_none}
use Rattle.granit_looking.proofs.looking.no_document_comes_behind_a_look.Goals as goal

pub returns-clause-look : goal.returns-clause-look
returns-clause-look c = look_none

pub returns-clause-next : goal.returns-clause-next
returns-clause-next c = next_none
