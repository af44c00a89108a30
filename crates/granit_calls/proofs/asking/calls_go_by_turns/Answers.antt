use Rattle.granit_recovery.proofs.TurnedLaws.{reached_turned}
use Rattle.granit_calls.proofs.asking.calls_go_by_turns.Goals as goal

pub returns : goal.returns
returns c = λ o d r. reached_turned o d r
