use Rattle.std.proofs.lemmas.Result.{err_from_is_err_and}
use Rattle.granit_layout.proofs.StaleLemmas.{refused_first}
use Rattle.granit_refused.specs.Answered.{why}
use Rattle.granit_layout.proofs.layouts.Layouts.drop_left.Goals as goal

pub returns-in_err-refresh_key : goal.returns-in_err-refresh_key
returns-in_err-refresh_key c =
    let p = err_from_is_err_and c.from_residual.result c.from_residual.ensures.1 in
    rw (p.1, p.2) (refused_first _ _ _ (why c.refresh_key.new.fault c.in_err-refresh_key.field-0.0)
    c.in_err-refresh_key.ensures)
