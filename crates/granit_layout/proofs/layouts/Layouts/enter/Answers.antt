use Rattle.std.proofs.Common.{◌≡◌, Ok, Err}
use Rattle.std.proofs.lemmas.Result.{err_from_is_err_and}
use Rattle.granit_error.specs.OptionsView.{options_of}
use Rattle.granit_layout.proofs.OpeningLemmas.{column_refused, stands_there}
use Rattle.granit_refused.specs.Answered.{why}
use Rattle.granit_layout.proofs.layouts.Layouts.enter.Goals as goal

pub returns-in_err-refuse_column-clause-memory : goal.returns-in_err-refuse_column-clause-memory
returns-in_err-refuse_column-clause-memory c = λ none.
    let p = err_from_is_err_and c.from_residual.result c.from_residual.ensures.1 in
    rw (p.1, p.2) (column_refused (options_of c.args.options.now) c.args.column c.args.mark c.args.self.now.columns
    (Err (why c.refuse_column.new.fault c.in_err-refuse_column.field-0.0)) c.in_err-refuse_column.ensures)

pub returns-in_err-place_entry-clause-memory : goal.returns-in_err-place_entry-clause-memory
returns-in_err-place_entry-clause-memory c = λ none.
    let there = stands_there (options_of c.args.options.now) c.args.column c.args.mark c.args.self.now.columns
    c.in_ok-refuse_column.ensures none in
    let found : Err c.in_err-place_entry.field-0.0 ≡ Ok tt = c.in_err-place_entry.ensures.memory there in absurd cc
