use Rattle.std.proofs.Common.{None}
use Rattle.granit_layers.proofs.NestedLemmas.{one_document}
use Rattle.granit_layers.proofs.laws.one_document_comes_through.Goals as goal

pub returns : goal.returns
returns c = λ emits es one. one_document emits None es one
