use Rattle.granit_before.proofs.HeldWhole.{held_said}
use Rattle.granit_declared.proofs.keys.held_keys_are_said_of_the_lexemes.Goals as goal

pub returns : goal.returns
returns c = λ o h items t r. (held_said o h items t r).keys.says
