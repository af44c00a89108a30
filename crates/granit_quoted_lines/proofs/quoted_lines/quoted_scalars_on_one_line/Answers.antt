use Rattle.granit_quoted_lines.proofs.QuotedLines.{line_alone}
use Rattle.granit_quoted_lines.proofs.quoted_lines.quoted_scalars_on_one_line.Goals as goal

pub returns : goal.returns
returns c = line_alone
