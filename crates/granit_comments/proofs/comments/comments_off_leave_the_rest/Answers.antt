use Rattle.granit_comments.proofs.Unasked.{both_answered, told_unasked}
use Rattle.granit_comments.proofs.comments.comments_off_leave_the_rest.Goals as goal
use Rattle.granit_quiet.proofs.CommentLaws.{run_asked_too}
use Rattle.granit_lexemes.specs.Here.{start_of}

pub returns-clause-off : goal.returns-clause-off
returns-clause-off c = told_unasked

pub returns-clause-both : goal.returns-clause-both
returns-clause-both c = both_answered

pub returns-clause-on : goal.returns-clause-on
returns-clause-on c o x es e = run_asked_too o (start_of x) es e
