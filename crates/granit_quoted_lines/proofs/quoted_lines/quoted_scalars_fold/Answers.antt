use Rattle.granit_quoted_lines.proofs.QuotedLines.{lines_fold}
use Rattle.granit_quoted_lines.proofs.quoted_lines.quoted_scalars_fold.Goals as goal

pub returns : goal.returns
returns c = lines_fold
