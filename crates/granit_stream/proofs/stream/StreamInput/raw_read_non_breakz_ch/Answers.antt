use Rattle.std.proofs.Common.{sym, ap, ◌∙◌, arith}
use Rattle.granit_base.specs.Classes.{is_breakz}
use Rattle.granit_input.proofs.OriginLemmas.{goes_on}
use Rattle.granit_runs.proofs.RunLemmas.{breakz_some}
use Rattle.granit_stream.proofs.stream.StreamInput.raw_read_non_breakz_ch.Goals as goal

pub returns-then-is_breakz-clause-read : goal.returns-then-is_breakz-clause-read
returns-then-is_breakz-clause-read g c = λ u k.
    let look = c.lookahead.ensures.unread u k in
    (ap is_breakz (sym (c.peek-c.ensures.value u look)) ∙ sym c.is_breakz.ensures ∙ c.if-is_breakz.true, look)

pub returns-clause-read : goal.returns-clause-read
returns-clause-read g c = λ u k.
    let look = c.lookahead.ensures.unread u k in
    let seen = c.peek-c.ensures.value u look in
    (ap is_breakz (sym seen) ∙ sym c.is_breakz.ensures ∙ c.if-is_breakz.false, seen, c.skip.ensures.unread u look)

pub returns-clause-moves : goal.returns-clause-moves
returns-clause-moves g c =
    let some = c.peek-c.ensures.some (breakz_some c.peek-c.result (sym c.is_breakz.ensures ∙ c.if-is_breakz.false)) in (
      omega (arith, c.lookahead.ensures.moves.0, c.skip.ensures.moves.0, some),
      omega (arith, c.lookahead.ensures.moves.1, c.skip.ensures.moves.1),
      goes_on _ _ _ c.lookahead.ensures.moves.2 c.skip.ensures.moves.2,
    )
