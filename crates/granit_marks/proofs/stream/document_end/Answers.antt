use Rattle.std.proofs.lemmas.Result.{err_from_is_err_and}
use Rattle.granit_content.proofs.MemoryLemmas.{open_refused}
use Rattle.granit_marks.proofs.stream.document_end.Goals as goal

pub returns-in_err-refuse_open-clause-memory : goal.returns-in_err-refuse_open-clause-memory
returns-in_err-refuse_open-clause-memory g c = λ unasked.
    let p = err_from_is_err_and c.from_residual.result c.from_residual.ensures.1 in
    rw (p.1, p.2) (open_refused c.args.layouts.now.brackets _ c.in_err-refuse_open.ensures)
