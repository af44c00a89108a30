use Rattle.std.proofs.Common.{◌∙◌, arith, rules}
use Rattle.std.proofs.lemmas.List.{take_rest, length-drop}
use Rattle.std.proofs.Math.Seq.{take-add}
use Rattle.granit_events.proofs.Known.{appends_both, wrote_part}
use Rattle.granit_events.proofs.writing.write_all.Goals as goal

pub pieces-preserved : goal.pieces-preserved
pieces-preserved g c =
    let bytes = c.args.bytes.now in
    let bound = rw take_rest at c.in_ok-done.ensures.bound in
    record {
      within = omega (arith, bound, length-drop c.pieces.done bytes);
      wrote = rw (take-add c.pieces.done c.in_ok-done.field-0 bytes)
          (appends_both _ _ _ _ _ c.pieces.invariant.wrote (rw take_rest at c.in_ok-done.ensures.bytes));
      same = c.in_ok-done.ensures.same ∙ c.pieces.invariant.same;
    }

pub returns-in_err-done-clause-front : goal.returns-in_err-done-clause-front
returns-in_err-done-clause-front g c =
    let w = wrote_part _ _ _ c.pieces.done c.args.bytes.now c.pieces-test.true c.pieces.invariant.wrote
    c.in_err-done.ensures.bytes in
    search rules
