use Rattle.granit.proofs.WordLemmas.{one_more, all_so_far}
use Rattle.granit.proofs.arguments.words.Goals as goal

pub returns-in-None : goal.returns-in-None
returns-in-None g c = all_so_far (g.A.Arguments.all c.args.arguments.now) c.loop-i.list c.loop-i.i c.in_ok-text.field-0
    c.loop-i.invariant c.in_ok-text.ensures c.in-None.is

pub loop-i-preserved : goal.loop-i-preserved
loop-i-preserved g c = one_more (g.A.Arguments.all c.args.arguments.now) c.loop-i.list c.push.new.self c.loop-i.i
    c.in_ok-text.field-0 c.in-Some.text c.loop-i.invariant c.in_ok-text.ensures c.in-Some.is
    c.in_ok-push-in-Some.ensures.ok
