use Rattle.std.proofs.Common.{◌≡◌, subst, sym, arith}
use Rattle.granit_runs.specs.Unread.{past_count}
use Rattle.granit_input.proofs.OriginLemmas.{goes_nowhere, goes_on}
use Rattle.granit_input.proofs.UnreadLemmas.{past_none, past_twice}
use Rattle.granit_buffered.specs.Feeds.{LeftInFeed}
use Rattle.granit_buffered.proofs.buffered.ReadAheadInput.skip_n.Goals as goal

pub taken-init : goal.taken-init
taken-init g c = record {
  told = λ u k. subst (LeftInFeed g.F.Feed.told c.args.self.now.feed c.args.self.now.held) (sym (past_none u)) k;
  count = omega arith;
  left = omega arith;
  window = omega arith;
  few = omega arith;
  origin = goes_nowhere _;
}

pub taken-preserved : goal.taken-preserved
taken-preserved g c = record {
  told = λ u k. subst (LeftInFeed g.F.Feed.told c.skip.new.self.feed c.skip.new.self.held)
      (past_twice c.taken.taken 1 u) (c.skip.ensures.unread (past_count c.taken.taken u) (c.taken.invariant.told u k));
  count = omega arith;
  left = omega (arith, c.taken.invariant.left, c.skip.ensures.moves.0);
  window = omega (arith, c.taken.invariant.window, c.taken.invariant.left, c.skip.ensures.moves.1);
  few = omega (arith, c.taken.invariant.few, c.skip.ensures.few);
  origin = goes_on _ _ _ c.taken.invariant.origin c.skip.ensures.moves.2;
}

pub returns-clause-unread : goal.returns-clause-unread
returns-clause-unread g c = λ u k.
    let all : c.taken.taken ≡ c.args.count = omega (arith, c.taken.invariant.count) in
    rw (← all) (c.taken.invariant.told u k)
