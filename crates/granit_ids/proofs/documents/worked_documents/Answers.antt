-- Each row is a computation.
use Rattle.std.proofs.Common.{refl}
use Rattle.granit_ids.proofs.documents.worked_documents.Goals as goal

pub returns-clause-one : goal.returns-clause-one
returns-clause-one c = λ m text placement. refl

pub returns-clause-two : goal.returns-clause-two
returns-clause-two c = λ m one. one

pub returns-clause-behind : goal.returns-clause-behind
returns-clause-behind c = λ m text placement. refl

pub returns-clause-outside : goal.returns-clause-outside
returns-clause-outside c = λ m name. refl
