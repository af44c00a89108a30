use Rattle.granit_declared.proofs.KeyFlags.{flags_said, items_same}
use Rattle.granit_declared.proofs.ReadingSaid.{flags_are}
use Rattle.granit_declared.proofs.keys.lexemes_are_flagged_where_keys_begin.Goals as goal

pub returns-clause-flags : goal.returns-clause-flags
returns-clause-flags c = flags_said

pub returns-clause-items : goal.returns-clause-items
returns-clause-items c = items_same

pub returns-clause-one : goal.returns-clause-one
returns-clause-one c = flags_are
