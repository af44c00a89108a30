use Rattle.granit_scan.proofs.Shortening.{token_turn-Shortens}
use Rattle.granit_scan.proofs.laws.every_turn_leaves_less.Goals as goal

pub returns : goal.returns
returns c = token_turn-Shortens
