use Rattle.std.proofs.Common.{is_some, sym, ap, ◌∙◌}
use Rattle.granit_cursor.proofs.SourceLemmas.{empty_lent, silent_lends, none_lends, some_lends}
use Rattle.granit_cursor.proofs.lending.lending_offset.Goals as goal

pub returns-in_err-here : goal.returns-in_err-here
returns-in_err-here g c = λ h k.
    let told = ap is_some (sym c.in_err-here.was) ∙ c.byte_offset.ensures.told in
    c.from_residual.ensures ∙ silent_lends (g.T.Input.left c.args.cursor.now.input)
    (g.T.Input.origin c.args.cursor.now.input) h.unread (g.met.T.Input.agrees c.args.cursor.now.input h.unread k.0)
    (rw c.input.ensures at told)

pub returns-in_err-slice_borrowed : goal.returns-in_err-slice_borrowed
returns-in_err-slice_borrowed g c = λ h k.
    let agrees = g.met.T.Input.agrees c.args.cursor.now.input h.unread k.0 in
    let here = c.in_ok-here.ensures.value h.unread (rw c.input.ensures k.0) in
    let cut = empty_lent (g.T.Input.left c.args.cursor.now.input) c.in_ok-here.here
    (g.T.Input.origin c.args.cursor.now.input) h.unread c.slice_borrowed.result agrees here
    (rw c.input-2.ensures at c.slice_borrowed.ensures) in
    c.from_residual-in_err-slice_borrowed.ensures
    ∙ none_lends h.unread (sym cut ∙ ap is_some c.in_err-slice_borrowed.was)

pub returns : goal.returns
returns g c = λ h k.
    let agrees = g.met.T.Input.agrees c.args.cursor.now.input h.unread k.0 in
    let here = c.in_ok-here.ensures.value h.unread (rw c.input.ensures k.0) in
    let cut = empty_lent (g.T.Input.left c.args.cursor.now.input) c.in_ok-here.here
    (g.T.Input.origin c.args.cursor.now.input) h.unread c.slice_borrowed.result agrees here
    (rw c.input-2.ensures at c.slice_borrowed.ensures) in
    some_lends c.in_ok-here.here h.unread (sym cut ∙ ap is_some c.in_ok-slice_borrowed.was) here
