use Rattle.granit_machine.specs.Parser.{feed, take_item}
use Rattle.granit_shapes.proofs.Placing.{item_placed, alike_fault, alike_passed, feed_placed, feed_fault}
use Rattle.granit_shapes.proofs.feeding.faults_depend_on_no_line.Goals as goal

pub returns-clause-taken : goal.returns-clause-taken
returns-clause-taken c = λ o i key next other p f.
    alike_fault (take_item o i key next p) (take_item o i key other p) f (item_placed o i key next other p)

pub returns-clause-fed : goal.returns-clause-fed
returns-clause-fed c = λ o i next other p f.
    feed_fault (feed o i next p) (feed o i other p) f (feed_placed o i next other p)

pub returns-clause-passed : goal.returns-clause-passed
returns-clause-passed c = λ o i key next other p q.
    alike_passed (take_item o i key next p) (take_item o i key other p) q (item_placed o i key next other p)
