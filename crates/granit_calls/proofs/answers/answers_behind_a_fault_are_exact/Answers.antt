use Rattle.granit_calls.proofs.FaultLaws.{fault_ends, fault_none}
use Rattle.granit_calls.proofs.answers.answers_behind_a_fault_are_exact.Goals as goal

pub returns-clause-only : goal.returns-clause-only
returns-clause-only c = fault_ends

pub returns-clause-all : goal.returns-clause-all
returns-clause-all c = fault_none
