use Rattle.granit_declared.proofs.StillSaid.{still_said}
use Rattle.granit_declared.proofs.keys.keys_may_still_begin_as_lexemes_say.Goals as goal

pub returns : goal.returns
returns c = still_said
