use Rattle.granit_quiet.proofs.CommentLaws.{items_given, items_refused}
use Rattle.granit_quiet.proofs.comments.items_are_fed_alike_without_comments.Goals as goal

pub returns-clause-given : goal.returns-clause-given
returns-clause-given c = items_given

pub returns-clause-refused : goal.returns-clause-refused
returns-clause-refused c = items_refused
