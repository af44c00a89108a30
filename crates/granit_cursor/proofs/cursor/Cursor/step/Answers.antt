use Rattle.std.proofs.Common.{arith}
use Rattle.granit_cursor.proofs.OnwardLemmas.{one_on}
use Rattle.granit_cursor.proofs.cursor.Cursor.step.Goals as goal

pub returns-clause-moves : goal.returns-clause-moves
returns-clause-moves g c = (
  omega (arith, c.take_one.ensures.left),
  c.take_one.ensures.origin,
  one_on g.T.Input.unread _ _ c.take_one.ensures.lost c.take_one.ensures.here,
)
