use Rattle.granit_cursor.specs.Reading.{Stands}
use Rattle.granit_cursor.proofs.CommentLemmas.{skip_stands, skip_cause}
use Rattle.granit_cursor.proofs.comments.skip_comment.Goals as goal

pub returns-clause-comment : goal.returns-clause-comment
returns-clause-comment g c = λ h k. skip_stands h (Stands g.T.Input.unread c.pass_comment.new.cursor)
    c.pass_comment.result (c.requires h k) (c.pass_comment.ensures.here h k)

pub returns-clause-cause : goal.returns-clause-cause
returns-clause-cause g c = λ h k. skip_cause h (Stands g.T.Input.unread c.pass_comment.new.cursor) c.pass_comment.result
    (c.requires h k) c.pass_comment.ensures.kinds (c.pass_comment.ensures.here h k)
