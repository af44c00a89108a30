use Rattle.std.proofs.Common.{arith}
use Rattle.granit_input.proofs.UnreadLemmas.{past_one}
use Rattle.granit_lexemes.specs.Here.{begins_behind, step}
use Rattle.granit_cursor.proofs.cursor.Cursor.take_quiet.Goals as goal

pub returns-then-breaks-2-clause-here : goal.returns-then-breaks-2-clause-here
unfolding step begins_behind
returns-then-breaks-2-clause-here g c = grind (arith, past_one)

pub returns-else-breaks-2-clause-here : goal.returns-else-breaks-2-clause-here
unfolding step begins_behind
returns-else-breaks-2-clause-here g c = grind (arith, past_one)
