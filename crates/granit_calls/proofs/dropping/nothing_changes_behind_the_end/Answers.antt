use Rattle.granit_calls.proofs.DropLaws.{end_stays}
use Rattle.granit_calls.proofs.dropping.nothing_changes_behind_the_end.Goals as goal

pub returns : goal.returns
returns c = end_stays
