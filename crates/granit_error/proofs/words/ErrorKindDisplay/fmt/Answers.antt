use Rattle.std.proofs.Common.{sym, ap}
use Rattle.std.proofs.Output.{has_written_of_eq}
use Rattle.granit_error.specs.FaultKind.{fault_words}
use Rattle.granit_error.specs.Kinds.{kind_of}
use Rattle.granit_error.specs.declared.kind.ErrorKind.{ErrorKind}
use Rattle.granit_error.proofs.words.ErrorKindDisplay.fmt.Goals as goal

pub returns-in-MismatchedFlowCollectionEnd-clause-writes :
    goal.returns-in-MismatchedFlowCollectionEnd-clause-writes
returns-in-MismatchedFlowCollectionEnd-clause-writes g c = λ plain good.
    has_written_of_eq _ _ _ _ _ (sym (ap (λ (k : ErrorKind). fault_words (kind_of k))
    c.in-MismatchedFlowCollectionEnd.is))
    (c.write-in-MismatchedFlowCollectionEnd.ensures.writes plain good)
