use Rattle.granit_invariants.proofs.KeysRise.{keys_rise}
use Rattle.granit_invariants.proofs.keys.possible_keys_rise.Goals as goal

pub returns : goal.returns
returns c = keys_rise
