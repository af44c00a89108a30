use Rattle.granit_names.proofs.NameCauses.{name_cause_refused}
use Rattle.granit_names.proofs.names.every_name_cause_is_refused.Goals as goal

pub returns : goal.returns
returns c = name_cause_refused
