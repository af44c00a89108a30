use Rattle.granit_cursor.specs.Reading.{Stands}
use Rattle.granit_cursor.proofs.CommentLemmas.{token_stands, token_cause}
use Rattle.granit_cursor.proofs.comments.scan_comment.Goals as goal

pub returns-clause-comment : goal.returns-clause-comment
returns-clause-comment g c = λ h k. token_stands h (Stands g.T.Input.unread c.read_comment.new.cursor)
    c.read_comment.result (c.requires h k) (c.read_comment.ensures.here h k)

pub returns-clause-cause : goal.returns-clause-cause
returns-clause-cause g c = λ h k. token_cause h (Stands g.T.Input.unread c.read_comment.new.cursor)
    c.read_comment.result (c.requires h k) (c.read_comment.ensures.here h k)
