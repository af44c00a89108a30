use Rattle.granit_shapes.proofs.Placing.{item_placed, feed_placed}
use Rattle.granit_shapes.proofs.feeding.lines_place_comments_alone.Goals as goal

pub returns-clause-taken : goal.returns-clause-taken
returns-clause-taken c = item_placed

pub returns-clause-fed : goal.returns-clause-fed
returns-clause-fed c = feed_placed
