use Rattle.granit_led.proofs.LedLaws.{next_led, recover_led}
use Rattle.granit_led.proofs.led.calls_and_recoveries_lead_on.Goals as goal

pub returns-clause-call : goal.returns-clause-call
returns-clause-call c = next_led

pub returns-clause-recovery : goal.returns-clause-recovery
returns-clause-recovery c = recover_led
