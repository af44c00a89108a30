use Rattle.granit_led.proofs.KeptDeclared.{led_declared}
use Rattle.granit_led.proofs.led.handles_that_stay_were_declared.Goals as goal

pub returns : goal.returns
returns c = led_declared
