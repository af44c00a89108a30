use Rattle.granit_quiet.proofs.CommentLaws.{comment_given, comment_refused}
use Rattle.granit_quiet.proofs.comments.a_comment_changes_nothing_else.Goals as goal

pub returns-clause-given : goal.returns-clause-given
returns-clause-given c = comment_given

pub returns-clause-refused : goal.returns-clause-refused
returns-clause-refused c = comment_refused
