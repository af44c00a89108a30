use Rattle.std.proofs.Common.{ap, ◌∙◌}
use Rattle.std.specs.Str.{chars}
use Rattle.granit_cursor.proofs.TrimLemmas.{trimmed_is}
use Rattle.granit_cursor.proofs.comment.trim.Goals as goal

pub returns : goal.returns
returns c = ap chars c.trim.ensures.trim ∙ trimmed_is c.args.text.now c.utf8.text
