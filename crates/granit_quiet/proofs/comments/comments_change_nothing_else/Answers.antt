use Rattle.granit_quiet.proofs.CommentLaws.{run_asked_too, run_given, run_refused}
use Rattle.granit_quiet.proofs.comments.comments_change_nothing_else.Goals as goal

pub returns-clause-given : goal.returns-clause-given
returns-clause-given c = run_given

pub returns-clause-refused : goal.returns-clause-refused
returns-clause-refused c = run_refused

pub returns-clause-unasked : goal.returns-clause-unasked
returns-clause-unasked c = run_asked_too
