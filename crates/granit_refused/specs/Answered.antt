-- What a call that refuses without its fault has answered, by the fault that is kept.
use Rattle.std.specs.Prelude.{[], Option, None, Some, Result, Ok, Err}
use Rattle.granit_error.specs.FaultKind.{NoMemory}
use Rattle.granit_lexemes.specs.Outcome.{Fault, fault_at}
use Rattle.granit_refused.specs.declared.fault.Refused.{Refused}
use Rattle.granit_refused.specs.declared.fault.Refused.TheVariants.{Memory, Kept}

-- want of memory, whose place has no meaning
abbrev pub want_of_memory : Fault
want_of_memory =
    fault_at NoMemory (record { place = record { index = 0; line = 0; column = 0 }; byte_offset = None })

-- why a call refused
abbrev pub why : Option Fault → Refused → Fault
why fault Memory = want_of_memory
why None Kept = want_of_memory
why (Some fault) Kept = fault

-- what a call answered, with its fault
abbrev pub answered : {X : Type 0} → Option Fault → Result X Refused → Result X Fault
answered fault (Ok x) = Ok x
answered fault (Err refused) = Err (why fault refused)
