use Rattle.std.proofs.Common.{sym, ◌∙◌, arith}
use Rattle.granit_buffered.proofs.BufferLemmas.{feed_passed, none_held, skip_leaves, some_held}
use Rattle.granit_buffered.proofs.buffered.ReadAheadInput.skip.Goals as goal

pub returns-then-is_empty-clause-unread : goal.returns-then-is_empty-clause-unread
returns-then-is_empty-clause-unread g c = λ u k.
    let s = c.args.self.now in
    let none = none_held s.held (sym c.is_empty.ensures ∙ c.if-is_empty.true) in
    feed_passed g.F.Feed.told s.feed c.next_char.new.self c.next_char.result s.held u none
    c.next_char.ensures.told k

pub returns-clause-unread : goal.returns-clause-unread
returns-clause-unread g c = λ u k.
    let s = c.args.self.now in
    let some = some_held s.held (sym c.is_empty.ensures ∙ c.if-is_empty.false) in
    rw c.pop_front.ensures (skip_leaves g.F.Feed.told s.feed s.held u
    (λ few. absurd (omega (arith, few, some))) k)
