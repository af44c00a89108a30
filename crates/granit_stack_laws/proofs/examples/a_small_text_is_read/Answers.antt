use Rattle.std.proofs.Common.{refl}
use Rattle.granit_stack_laws.proofs.ExampleLemmas.{small_read}
use Rattle.granit_stack_laws.proofs.examples.a_small_text_is_read.Goals as goal

pub returns-clause-one_document : goal.returns-clause-one_document
returns-clause-one_document c = refl

pub returns-clause-one_start : goal.returns-clause-one_start
returns-clause-one_start c = refl

pub returns-clause-read : goal.returns-clause-read
returns-clause-read c = small_read
