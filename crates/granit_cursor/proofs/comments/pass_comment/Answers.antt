use Rattle.granit_lexemes.specs.Here.{step}
use Rattle.granit_cursor.proofs.CommentLemmas.{comment_behind}
use Rattle.granit_cursor.proofs.comments.pass_comment.Goals as goal

pub returns-clause-here : goal.returns-clause-here
returns-clause-here g c = λ h k.
    let stepped = c.step.ensures.here h k in
    let taken = c.skip_while_non_breakz.ensures.here (step h) stepped in
    rw (comment_behind c.skip_while_non_breakz.result h taken.0) (c.behind_comment.ensures.here _ taken.1)
