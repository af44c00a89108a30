use Rattle.granit_cursor.specs.Reading.{Stands}
use Rattle.granit_cursor.proofs.QuotedMoves.{lends_quoted}
use Rattle.granit_cursor.proofs.cursor.quoted.take_quoted.Goals as goal

pub returns-in-Some-clause-here : goal.returns-in-Some-clause-here
returns-in-Some-clause-here g c = λ h k.
    let old = c.args.cursor.now in
    let new = c.pass_quoted.new.self in
    let passed = c.in-Some.ensures.here h k in
    lends_quoted
    (record { single = c.args.single; inside = passed.0; start = c.in-Some.start; end = c.in-Some.end })
    c.args.in_flow h (g.T.Input.origin old.input) (g.T.Input.origin new.input) (g.T.Input.left old.input)
    c.slice_borrowed.result (Stands g.T.Input.unread new)
    c.pass_quoted.ensures.moves.1 (g.met.T.Input.agrees old.input h.unread k.0) passed.1
    (rw c.input.ensures at c.slice_borrowed.ensures) passed.2
