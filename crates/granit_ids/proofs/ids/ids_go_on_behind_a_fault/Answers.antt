use Rattle.granit_ids.proofs.IdLaws.{behind_fault_from}
use Rattle.granit_ids.proofs.ids.ids_go_on_behind_a_fault.Goals as goal

pub returns : goal.returns
returns c = behind_fault_from
