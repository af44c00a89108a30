use Rattle.granit_names.proofs.NameCauses.{one_name_cause}
use Rattle.granit_names.proofs.names.one_name_cause.Goals as goal

pub returns : goal.returns
returns c = one_name_cause
