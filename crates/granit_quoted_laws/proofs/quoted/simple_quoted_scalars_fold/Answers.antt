use Rattle.granit_quoted_laws.proofs.QuotedFolding.{simple_folds}
use Rattle.granit_quoted_laws.proofs.quoted.simple_quoted_scalars_fold.Goals as goal

pub returns : goal.returns
returns c = simple_folds
