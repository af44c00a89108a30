use Rattle.granit_names.proofs.TagCauses.{one_tag_cause}
use Rattle.granit_names.proofs.tags.one_tag_cause.Goals as goal

pub returns : goal.returns
returns c = one_tag_cause
