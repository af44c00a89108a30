use Rattle.granit_calls.proofs.DropLaws.{fault_drops}
use Rattle.granit_calls.proofs.dropping.a_fault_drops_its_document.Goals as goal

pub returns : goal.returns
returns c = fault_drops
