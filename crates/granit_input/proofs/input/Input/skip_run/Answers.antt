use Rattle.std.proofs.Common.{◌≡◌, true, false, drop, subst, sym, arith}
use Rattle.granit_runs.specs.Unread.{past_count}
use Rattle.granit_runs.specs.Runs.{run_test}
use Rattle.granit_input.proofs.OriginLemmas.{goes_nowhere, goes_on}
use Rattle.granit_runs.proofs.RunLemmas.{run_nul, front_none, front_more, front_ended}
use Rattle.granit_input.proofs.UnreadLemmas.{past_none, past_text, past_twice}
use Rattle.granit_input.proofs.input.Input.skip_run.Goals as goal

pub run-init : goal.run-init
run-init g c = record {
  told = λ u k. (
    subst (g.Self.Input.unread c.args.self.now) (sym (past_none u)) k,
    front_none (run_test c.args.run)
        u.text,
  );
  limit = omega arith;
  left = omega arith;
  window = omega arith;
  origin = goes_nowhere _;
}

pub returns-then-not-next_in-clause-skips : goal.returns-then-not-next_in-clause-skips
returns-then-not-next_in-clause-skips g c = λ u k.
    let so_far = c.run.invariant.told u k in
    let look = c.next_in.ensures.look (past_count c.run.count u) so_far.0 in
    let text = past_text c.run.count u in
    let stop : run_test c.args.run (drop c.run.count u.text) ≡ false = cc in
    (front_ended (run_test c.args.run) u.text c.args.limit c.run.count so_far.1 stop, look.0)

pub run-preserved : goal.run-preserved
run-preserved g c = record {
  told = λ u k.
      let so_far = c.run.invariant.told u k in
      let look = c.next_in.ensures.look (past_count c.run.count u) so_far.0 in
      let text = past_text c.run.count u in
      let go : run_test c.args.run (drop c.run.count u.text) ≡ true = cc in
      let next = c.skip.ensures.unread (past_count c.run.count u) look.0 in (
        subst (g.Self.Input.unread c.skip.new.self) (past_twice c.run.count 1 u) next,
        front_more (run_test c.args.run)
            u.text c.run.count (run_nul c.args.run) so_far.1 go,
      );
  limit = omega arith;
  left = let some = c.next_in.ensures.some c.if-not-next_in.false in omega arith;
  window = omega arith;
  origin = goes_on _ _ _ c.run.invariant.origin (goes_on _ _ _ c.next_in.ensures.moves.2 c.skip.ensures.moves.2);
}
