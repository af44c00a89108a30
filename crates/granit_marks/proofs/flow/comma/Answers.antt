use Rattle.std.proofs.Common.{Err}
use Rattle.std.proofs.lemmas.Result.{err_from_is_err_and}
use Rattle.granit_content.proofs.MemoryLemmas.{key_refused}
use Rattle.granit_refused.specs.Answered.{why}
use Rattle.granit_marks.proofs.flow.comma.Goals as goal

pub returns-in_err-drop_key-clause-memory : goal.returns-in_err-drop_key-clause-memory
returns-in_err-drop_key-clause-memory g c = λ unasked.
    let p = err_from_is_err_and c.from_residual.result c.from_residual.ensures.1 in
    rw (p.1, p.2) (key_refused c.args.layouts.now c.drop_key.new.self
    (Err (why c.drop_key.new.fault c.in_err-drop_key.field-0.0))
    c.in_err-drop_key.ensures)
