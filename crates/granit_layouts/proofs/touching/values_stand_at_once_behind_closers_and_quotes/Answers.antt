use Rattle.granit_layouts.proofs.TouchingSaid.{touching_said}
use Rattle.granit_layouts.proofs.touching.values_stand_at_once_behind_closers_and_quotes.Goals as goal

pub returns : goal.returns
returns c = touching_said
