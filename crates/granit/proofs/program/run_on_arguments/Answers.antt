use Rattle.std.proofs.Common.{◌∙◌}
use Rattle.granit.proofs.program.run_on_arguments.Goals as goal

pub returns : goal.returns
returns g c = (c.run_on_words-status.result, c.from.ensures ∙ c.code.ensures, c.run_on_words-status.ensures)
