use Rattle.granit_alone.proofs.FaultLaws.{reached_led}
use Rattle.granit_alone.proofs.behind.calls_that_were_reached_are_led.Goals as goal

pub returns : goal.returns
returns c = reached_led
