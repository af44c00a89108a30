use Rattle.granit_led.proofs.LedLaws.{no_header, recover_steps}
use Rattle.granit_led.proofs.led.recovery_goes_on_behind_the_fault.Goals as goal

pub returns-clause-skips : goal.returns-clause-skips
returns-clause-skips c = recover_steps

pub returns-clause-restarts : goal.returns-clause-restarts
returns-clause-restarts c = λ o stops s f e. no_header o stops f s e
