use Rattle.granit_before.proofs.Numbered.{all_numbered}
use Rattle.granit_declared.proofs.keys.lexemes_are_numbered.Goals as goal

pub returns : goal.returns
returns c = all_numbered
