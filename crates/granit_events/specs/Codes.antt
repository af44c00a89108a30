-- The exit status of each end.
use Rattle.std.specs.Prelude.{ℕ}
use Rattle.granit_events.specs.declared.status.Status.{Status}
use Rattle.granit_events.specs.declared.status.Status.TheVariants as status

abbrev pub code_of : Status → ℕ
code_of status.Done = 0
code_of status.Fault = 1
code_of status.Usage = 2
code_of status.ReadFault = 3
code_of status.WriteFault = 4
code_of status.NotUtf8 = 5
code_of status.NoMemory = 6
code_of status.TooLong = 7
