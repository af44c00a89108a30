use Rattle.std.proofs.Common.{◌<◌, length, sym, ◌∙◌, arith}
use Rattle.granit_buffered.proofs.BufferLemmas.{none_comes, nothing_held}
use Rattle.granit_buffered.proofs.buffered.ReadAheadInput.next_is_z.Goals as goal

pub returns-clause-value : goal.returns-clause-value
returns-clause-value g c = λ u k.
    let s = c.args.self.now in
    c.is_empty.ensures ∙ sym (nothing_held g.F.Feed.told s.feed s.held u
    (λ few xs fault here.
    let short : length s.held < s.window = omega (arith, few, c.requires) in
    none_comes g.F.Feed.told g.F.Feed.bound g.met.F.Feed.bounded s.feed xs fault
    (g.met.F.Feed.over s.feed (s.ended short)) here) k)
