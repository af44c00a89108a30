use Rattle.granit_moved.proofs.MovedEvents.{call_moved, gives_moved}
use Rattle.granit_moved.proofs.moving.calls_give_alike_wherever_a_text_stands.Goals as goal

pub returns-clause-next : goal.returns-clause-next
returns-clause-next c = λ shift o s fits. call_moved shift o fits s

pub returns-clause-all : goal.returns-clause-all
returns-clause-all c = λ shift o s es f fits g. gives_moved shift o fits g
