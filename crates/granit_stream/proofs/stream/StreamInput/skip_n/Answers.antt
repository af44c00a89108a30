use Rattle.std.proofs.Common.{◌≡◌, None, false, subst, sym, arith}
use Rattle.granit_base.specs.Place.{Unread}
use Rattle.granit_stream.specs.Stream.{StreamHolds}
use Rattle.granit_runs.specs.Unread.{past_count}
use Rattle.granit_input.proofs.OriginLemmas.{goes_nowhere, goes_on}
use Rattle.granit_input.proofs.UnreadLemmas.{past_none, past_twice}
use Rattle.granit_stream.proofs.stream.StreamInput.skip_n.Goals as goal

pub taken-init : goal.taken-init
taken-init g c = record {
  told = λ u k. subst (λ (v : Unread). (c.args.self.now.lends ≡ None) × (v.offset ≡ None) × (v.lends ≡ false)
      × StreamHolds g.T.Iterator.next_gives g.T.Iterator.remaining c.args.self.now.tail.done
      c.args.self.now.tail.iterator
      c.args.self.now.held.items v.text) (sym (past_none u)) k;
  count = omega arith;
  left = omega arith;
  window = omega arith;
  origin = goes_nowhere _;
}

pub taken-preserved : goal.taken-preserved
taken-preserved g c = record {
  told = λ u k. subst (λ (v : Unread). (c.skip.new.self.lends ≡ None) × (v.offset ≡ None) × (v.lends ≡ false)
      × StreamHolds g.T.Iterator.next_gives g.T.Iterator.remaining c.skip.new.self.tail.done
      c.skip.new.self.tail.iterator
      c.skip.new.self.held.items v.text) (past_twice c.taken.taken 1 u)
      (c.skip.ensures.unread (past_count c.taken.taken u) (c.taken.invariant.told u k));
  count = omega arith;
  left = omega (arith, c.taken.invariant.left, c.skip.ensures.moves.0);
  window = omega (arith, c.taken.invariant.window, c.taken.invariant.left, c.skip.ensures.moves.1);
  origin = goes_on _ _ _ c.taken.invariant.origin c.skip.ensures.moves.2;
}

pub returns-clause-unread : goal.returns-clause-unread
returns-clause-unread g c = λ u k.
    let all : c.taken.taken ≡ c.args.count = omega (arith, c.taken.invariant.count) in
    rw (← all) (c.taken.invariant.told u k)
