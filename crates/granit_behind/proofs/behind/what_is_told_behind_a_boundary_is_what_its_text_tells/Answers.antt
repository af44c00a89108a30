use Rattle.granit_led.proofs.ToldOnce.{told_alone}
use Rattle.granit_behind.proofs.behind.what_is_told_behind_a_boundary_is_what_its_text_tells.Goals as goal

pub returns : goal.returns
returns c = told_alone
