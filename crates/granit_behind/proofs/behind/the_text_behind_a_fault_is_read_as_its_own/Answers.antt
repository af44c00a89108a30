use Rattle.granit_behind.proofs.FoundTells.{found_tells}
use Rattle.granit_behind.proofs.behind.the_text_behind_a_fault_is_read_as_its_own.Goals as goal

pub returns : goal.returns
returns c = found_tells
