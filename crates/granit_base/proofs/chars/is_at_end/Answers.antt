use Rattle.std.proofs.Common.{◌∙◌}
use Rattle.granit_base.proofs.CharLemmas.{chars_len, empty_chars}
use Rattle.granit_base.proofs.chars.is_at_end.Goals as goal

pub returns-clause-value : goal.returns-clause-value
returns-clause-value c = c.is_empty.ensures ∙ empty_chars c.args.s.now c.utf8.s

pub returns-clause-fits : goal.returns-clause-fits
returns-clause-fits c = chars_len c.args.s.now
