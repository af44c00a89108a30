use Rattle.granit_names.proofs.TagCauses.{tag_cause_refused}
use Rattle.granit_names.proofs.tags.every_tag_cause_is_refused.Goals as goal

pub returns : goal.returns
returns c = tag_cause_refused
