use Rattle.std.proofs.Common.{◌∙◌}
use Rattle.granit_base.proofs.CharLemmas.{same_spelling}
use Rattle.granit_error.proofs.kind.ErrorKind.has_message_of.Goals as goal

pub returns : goal.returns
returns c =
    let spelled = same_spelling c.message.result.now c.message-2.result.now c.message.utf8 c.message-2.utf8 in
    rw (← c.message.ensures, ← c.message-2.ensures) (c.eq.ensures ∙ spelled)
