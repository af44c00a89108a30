use Rattle.std.proofs.Common.{◌∙◌}
use Rattle.granit_stream.proofs.StreamLemmas.{skip_holds}
use Rattle.granit_stream.proofs.stream.StreamInput.skip.Goals as goal

pub returns-in-Some-clause-unread : goal.returns-in-Some-clause-unread
returns-in-Some-clause-unread g c = λ u k.
    let s = c.fill.new.self in
    rw c.pop_front.ensures.items (skip_holds g.T.Iterator.next_gives g.T.Iterator.remaining s.tail.done s.tail.iterator
    s.held.items s.lends u c.fill.ensures.filled (c.fill.ensures.kept.2 ∙ k.0) k.1 k.2
    (c.fill.ensures.told u.text k.3))

pub returns-in_default-clause-unread : goal.returns-in_default-clause-unread
returns-in_default-clause-unread g c = λ u k.
    let s = c.fill.new.self in
    rw c.pop_front.ensures.items (skip_holds g.T.Iterator.next_gives g.T.Iterator.remaining s.tail.done s.tail.iterator
    s.held.items s.lends u c.fill.ensures.filled (c.fill.ensures.kept.2 ∙ k.0) k.1 k.2
    (c.fill.ensures.told u.text k.3))
