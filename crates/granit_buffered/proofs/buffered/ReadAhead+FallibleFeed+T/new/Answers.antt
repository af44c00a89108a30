use Rattle.std.proofs.Common.{refl}
use Rattle.granit_buffered.specs.Fallible.{characters_of, first_error}
use Rattle.granit_buffered.proofs.FallibleLemmas.{fresh_comes}
use Rattle.granit_buffered.proofs.buffered.ReadAhead+FallibleFeed+T.new.Goals as goal

pub returns-clause-read : goal.returns-clause-read
returns-clause-read g c = λ items known.
    let s = c.new-2.result in
    let comes = fresh_comes g.T.Iterator.next_gives g.T.Iterator.remaining c.args.input s.iterator s.progress items
    c.new-2.ensures.0 c.new-2.ensures.1 known in
    (refl, refl, (first_error items, (characters_of items, rw c.new.ensures refl, comes)))

pub returns-clause-ends : goal.returns-clause-ends
returns-clause-ends g c = λ items known.
    let s = c.new-2.result in
    let comes = fresh_comes g.T.Iterator.next_gives g.T.Iterator.remaining c.args.input s.iterator s.progress items
    c.new-2.ensures.0 c.new-2.ensures.1 known in
    (characters_of items, comes)
