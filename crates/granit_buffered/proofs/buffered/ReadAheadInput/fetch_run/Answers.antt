use Rattle.std.proofs.Common.{◌≡◌, length, drop, subst, sym, ap, true, false, ◌∙◌, arith}
use Rattle.std.proofs.lemmas.List.{append-nil}
use Rattle.std.proofs.lemmas.Result.{err_from_is_err_and}
use Rattle.granit_base.specs.Place.{first}
use Rattle.granit_base.specs.Written.{string_chars}
use Rattle.granit_runs.specs.Unread.{past_count}
use Rattle.granit_runs.specs.Runs.{run_test}
use Rattle.granit_input.proofs.AppendLemmas.{extends_none, extends_more, appended_more}
use Rattle.granit_input.proofs.OriginLemmas.{goes_nowhere, goes_on}
use Rattle.granit_runs.proofs.RunLemmas.{run_nul, front_none, front_more, front_ended, front_cut, front_fits}
use Rattle.granit_input.proofs.UnreadLemmas.{past_none, past_text, past_twice}
use Rattle.granit_runs.proofs.WhiteLemmas.{passes_some}
use Rattle.granit_buffered.specs.Feeds.{LeftInFeed}
use Rattle.granit_buffered.proofs.BufferLemmas.{held_again}
use Rattle.granit_buffered.proofs.buffered.ReadAheadInput.fetch_run.Goals as goal

pub run-init : goal.run-init
run-init g c = record {
  told = λ u k. (
    subst (LeftInFeed g.F.Feed.told c.args.self.now.feed c.args.self.now.held) (sym (past_none u)) k,
    front_none (run_test c.args.run) u.text,
    sym (append-nil (string_chars c.args.out.now)),
  );
  kept = extends_none _;
  limit = omega arith;
  left = omega arith;
  window = omega arith;
  few = omega arith;
  origin = goes_nowhere _;
}

pub returns-in-None-clause-fetches : goal.returns-in-None-clause-fetches
returns-in-None-clause-fetches g c = λ u k.
    let so_far = c.run.invariant.told u k in
    let none = c.in-None.ensures.read (past_count c.run.count u) so_far.0 in
    let stop : run_test c.args.run (drop c.run.count u.text) ≡ false =
    ap (run_test c.args.run) (sym (past_text c.run.count u)) ∙ none.0 in
    (front_ended (run_test c.args.run) u.text c.args.limit c.run.count so_far.1 stop, none.1, so_far.2)

pub returns-clause-fetches : goal.returns-clause-fetches
returns-clause-fetches g c = λ u k.
    let so_far = c.run.invariant.told u k in
    (front_cut (run_test c.args.run) u.text c.args.limit c.run.count so_far.1 (omega arith), so_far.0, so_far.2)

pub returns-in_err-append-in-Some-clause-fetches : goal.returns-in_err-append-in-Some-clause-fetches
returns-in_err-append-in-Some-clause-fetches g c = λ u k.
    let so_far = c.run.invariant.told u k in
    let v = past_count c.run.count u in
    let one = c.in-Some.ensures.read v so_far.0 in
    let some = passes_some (run_test c.args.run) v.text (run_nul c.args.run) one.1 in
    let taken = c.take_one.new.self in
    let kept = c.in_err-append-in-Some.ensures.kept in
    let err = err_from_is_err_and c.from_residual.result c.from_residual.ensures.1 in
    rw err.1 (record {
      count = c.run.count;
      fits = front_fits (run_test c.args.run) u.text c.run.count so_far.1;
      lands = held_again g.F.Feed.told taken.feed c.append.new.self.feed taken.held c.append.new.self.held
          v c.in-Some.c c.append.ensures.same.0 kept.1 so_far.0.0 so_far.0.1 some one.0 one.2;
      appended = kept.0 ∙ so_far.2;
    })

pub returns-in_err-append-in-Some-clause-moves : goal.returns-in_err-append-in-Some-clause-moves
returns-in_err-append-in-Some-clause-moves g c =
    let len = ap length c.in_err-append-in-Some.ensures.kept.1 in
    let bound = ap g.F.Feed.bound c.append.ensures.same.0 in
    let err = err_from_is_err_and c.from_residual.result c.from_residual.ensures.1 in
    rw (err.1, c.append.ensures.same.0) (
      omega (arith, len, bound, c.run.invariant.left, c.in-Some.ensures.moves.0),
      _,
      goes_on _ _ _ c.run.invariant.origin c.in-Some.ensures.moves.2,
    )

pub run-preserved : goal.run-preserved
run-preserved g c =
    let same = c.append.ensures.same in
    let appended = c.in_ok-append-in-Some.ensures.appended in
    let len = ap length appended.1 in
    let bound = ap g.F.Feed.bound same.0 in
    record {
      told = λ u k.
          let so_far = c.run.invariant.told u k in
          let one = c.in-Some.ensures.read (past_count c.run.count u) so_far.0 in
          let text = past_text c.run.count u in
          let go : run_test c.args.run (drop c.run.count u.text) ≡ true = ap (run_test c.args.run) (sym text) ∙ one.1 in
          let some = passes_some (run_test c.args.run) (drop c.run.count u.text) (run_nul c.args.run) go in
          let seen : c.in-Some.c ≡ first (drop c.run.count u.text) = one.0 ∙ ap first text in (
            rw (same.0, appended.1)
                (subst (LeftInFeed g.F.Feed.told c.take_one.new.self.feed c.take_one.new.self.held)
                (past_twice c.run.count 1 u) one.2),
            front_more (run_test c.args.run) u.text c.run.count (run_nul c.args.run) so_far.1 go,
            appended_more _ _ _ c.run.count u.text c.in-Some.c appended.0 so_far.2 some seen,
          );
      kept = extends_more _ _ _ _ c.run.invariant.kept appended.0;
      limit = omega arith;
      left = omega (arith, len, bound, c.run.invariant.left, c.in-Some.ensures.moves.0);
      window = omega (arith, same.1, c.run.invariant.window, c.in-Some.ensures.moves.1);
      few = omega (arith, len, c.run.invariant.few, c.in-Some.ensures.few);
      origin = rw same.0 (goes_on _ _ _ c.run.invariant.origin c.in-Some.ensures.moves.2);
    }
