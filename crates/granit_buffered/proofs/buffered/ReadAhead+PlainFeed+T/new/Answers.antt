use Rattle.std.proofs.Common.{None, refl}
use Rattle.granit_buffered.proofs.FeedLemmas.{fresh_gives}
use Rattle.granit_buffered.proofs.buffered.ReadAhead+PlainFeed+T.new.Goals as goal

pub returns-clause-read : goal.returns-clause-read
returns-clause-read g c = λ xs known.
    let s = c.new-2.result in
    let gives = fresh_gives g.T.Iterator.next_gives g.T.Iterator.remaining c.args.input s.iterator s.done xs
    c.new-2.ensures.0 c.new-2.ensures.1 known in
    (refl, refl, (None, (xs, rw c.new.ensures refl, (refl, gives))))

pub returns-clause-ends : goal.returns-clause-ends
returns-clause-ends g c = λ xs known.
    let s = c.new-2.result in
    let gives = fresh_gives g.T.Iterator.next_gives g.T.Iterator.remaining c.args.input s.iterator s.done xs
    c.new-2.ensures.0 c.new-2.ensures.1 known in
    (xs, (refl, gives))
