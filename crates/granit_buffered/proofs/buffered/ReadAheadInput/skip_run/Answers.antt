use Rattle.std.proofs.Common.{◌≡◌, drop, subst, sym, ap, true, false, ◌∙◌, arith}
use Rattle.granit_runs.specs.Unread.{past_count}
use Rattle.granit_runs.specs.Runs.{run_test}
use Rattle.granit_input.proofs.OriginLemmas.{goes_nowhere, goes_on}
use Rattle.granit_runs.proofs.RunLemmas.{run_nul, front_none, front_more, front_ended, front_cut}
use Rattle.granit_input.proofs.UnreadLemmas.{past_none, past_text, past_twice}
use Rattle.granit_buffered.specs.Feeds.{LeftInFeed}
use Rattle.granit_buffered.proofs.buffered.ReadAheadInput.skip_run.Goals as goal

pub run-init : goal.run-init
run-init g c = record {
  told = λ u k. (
    subst (LeftInFeed g.F.Feed.told c.args.self.now.feed c.args.self.now.held) (sym (past_none u)) k,
    front_none (run_test c.args.run) u.text,
  );
  limit = omega arith;
  left = omega arith;
  window = omega arith;
  few = omega arith;
  origin = goes_nowhere _;
}

pub returns-in-None-clause-skips : goal.returns-in-None-clause-skips
returns-in-None-clause-skips g c = λ u k.
    let so_far = c.run.invariant.told u k in
    let none = c.in-None.ensures.read (past_count c.run.count u) so_far.0 in
    let stop : run_test c.args.run (drop c.run.count u.text) ≡ false =
    ap (run_test c.args.run) (sym (past_text c.run.count u)) ∙ none.0 in
    (front_ended (run_test c.args.run) u.text c.args.limit c.run.count so_far.1 stop, none.1)

pub run-preserved : goal.run-preserved
run-preserved g c = record {
  told = λ u k.
      let so_far = c.run.invariant.told u k in
      let one = c.in-Some.ensures.read (past_count c.run.count u) so_far.0 in
      let go : run_test c.args.run (drop c.run.count u.text) ≡ true =
      ap (run_test c.args.run) (sym (past_text c.run.count u)) ∙ one.1 in (
        subst (LeftInFeed g.F.Feed.told c.take_one.new.self.feed c.take_one.new.self.held)
            (past_twice c.run.count 1 u) one.2,
        front_more (run_test c.args.run) u.text c.run.count (run_nul c.args.run) so_far.1 go,
      );
  limit = omega arith;
  left = omega (arith, c.run.invariant.left, c.in-Some.ensures.moves.0);
  window = omega (arith, c.run.invariant.window, c.in-Some.ensures.moves.1);
  few = omega (arith, c.run.invariant.few, c.in-Some.ensures.few);
  origin = goes_on _ _ _ c.run.invariant.origin c.in-Some.ensures.moves.2;
}

pub returns-clause-skips : goal.returns-clause-skips
returns-clause-skips g c = λ u k.
    let so_far = c.run.invariant.told u k in
    (front_cut (run_test c.args.run) u.text c.args.limit c.run.count so_far.1 (omega arith), so_far.0)
