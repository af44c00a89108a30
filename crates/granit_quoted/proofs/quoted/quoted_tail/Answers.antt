use Rattle.std.proofs.Common.{◌∙◌}
use Rattle.std.proofs.lemmas.Result.{err_from_is_err_and}
use Rattle.granit_base.specs.Classes.{is_blank}
use Rattle.granit_lexemes.specs.Here.{past}
use Rattle.granit_quoted.proofs.MemoryLemmas.{past_lends}
use Rattle.granit_quoted.proofs.quoted.quoted_tail.Goals as goal

pub returns-in_err-comment_behind-clause-lent : goal.returns-in_err-comment_behind-clause-lent
returns-in_err-comment_behind-clause-lent g c = λ h k lends.
    let p = err_from_is_err_and c.from_residual.result c.from_residual.ensures.1 in
    let looked = c.look.ensures.here h k in
    let passed = c.past_blanks.ensures.here h looked in
    let behind = c.look-2.ensures.here (past is_blank h) passed in
    rw (p.1, p.2) (c.in_err-comment_behind.ensures.lent (past is_blank h) behind (past_lends is_blank h ∙ lends))
