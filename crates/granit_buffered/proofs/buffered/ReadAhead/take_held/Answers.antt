use Rattle.std.proofs.Common.{ap, sym, ◌∙◌}
use Rattle.granit_base.specs.Place.{first}
use Rattle.granit_buffered.specs.Sure.{taker_test}
use Rattle.granit_buffered.proofs.BufferLemmas.{held_is_first}
use Rattle.granit_buffered.proofs.SureLemmas.{tells_of_text}
use Rattle.granit_buffered.proofs.buffered.ReadAhead.take_held.Goals as goal

pub returns-then-takes-clause-read : goal.returns-then-takes-clause-read
returns-then-takes-clause-read g c = λ u k.
    let s = c.args.self.now in
    let is = held_is_first g.F.Feed.told s.feed s.held c.peek-c.result u c.requires c.peek-c.ensures.value
    k in (
      sym (ap first is.1),
      ap (taker_test c.args.taker) is.1 ∙ c.takes.ensures.takes c.if-takes.true is.0,
      c.skip.ensures.unread u k,
    )

pub returns-else-takes-clause-read : goal.returns-else-takes-clause-read
returns-else-takes-clause-read g c = λ u k.
    let s = c.args.self.now in
    let is = held_is_first g.F.Feed.told s.feed s.held c.peek-c.result u c.requires c.peek-c.ensures.value
    k in
    (tells_of_text c.args.taker c.peek-c.result is.0 u.text is.1 (c.takes.ensures.ends c.if-takes.false), k)
