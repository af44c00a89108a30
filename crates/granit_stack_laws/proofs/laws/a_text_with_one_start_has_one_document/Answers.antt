use Rattle.granit_stack_laws.proofs.SingleLemmas.{single}
use Rattle.granit_stack_laws.proofs.laws.a_text_with_one_start_has_one_document.Goals as goal

pub returns : goal.returns
returns c = single c.a_text_with_one_start_is_one_document.ensures
