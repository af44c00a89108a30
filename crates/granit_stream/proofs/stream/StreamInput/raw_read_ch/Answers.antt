use Rattle.std.proofs.Common.{arith}
use Rattle.granit_input.proofs.OriginLemmas.{goes_on}
use Rattle.granit_stream.proofs.stream.StreamInput.raw_read_ch.Goals as goal

pub returns-clause-read : goal.returns-clause-read
returns-clause-read g c = λ u k.
    let look = c.lookahead.ensures.unread u k in
    (c.skip.ensures.unread u look, c.peek-c.ensures.value u look)

pub returns-clause-moves : goal.returns-clause-moves
returns-clause-moves g c = (
  omega (arith, c.lookahead.ensures.moves.0, c.skip.ensures.moves.0),
  omega (
    arith,
    c.lookahead.ensures.moves.0,
    c.lookahead.ensures.moves.1,
    c.skip.ensures.moves.0,
    c.skip.ensures.moves.1,
  ),
  goes_on _ _ _ c.lookahead.ensures.moves.2 c.skip.ensures.moves.2,
)
