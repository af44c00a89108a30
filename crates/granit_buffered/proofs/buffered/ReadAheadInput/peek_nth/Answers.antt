use Rattle.std.proofs.Common.{◌<◌, length, sym, ◌∙◌, arith}
use Rattle.granit_buffered.proofs.BufferLemmas.{none_comes, held_is_seen}
use Rattle.granit_buffered.proofs.buffered.ReadAheadInput.peek_nth.Goals as goal

pub returns-clause-value : goal.returns-clause-value
returns-clause-value g c = λ u k.
    let s = c.args.self.now in
    c.peek.ensures.value ∙ sym (held_is_seen g.F.Feed.told s.feed s.held c.args.n u
    (λ few xs fault here.
    let short : length s.held < s.window = omega (arith, few, c.requires) in
    none_comes g.F.Feed.told g.F.Feed.bound g.met.F.Feed.bounded s.feed xs fault
    (g.met.F.Feed.over s.feed (s.ended short)) here) k)

pub returns-clause-some : goal.returns-clause-some
returns-clause-some g c = λ some. let held = c.peek.ensures.some some in omega (arith, held)
