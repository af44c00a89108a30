use Rattle.std.proofs.Common.{◌≡◌, true, false, drop, subst, sym, ap, ◌∙◌, arith}
use Rattle.std.specs.Str.{chars}
use Rattle.std.proofs.lemmas.Result.{err_from_is_err_and}
use Rattle.std.proofs.lemmas.List.{append-nil}
use Rattle.granit_base.specs.Place.{first}
use Rattle.granit_base.specs.Written.{string_chars}
use Rattle.granit_runs.specs.Unread.{past_count}
use Rattle.granit_runs.specs.Runs.{run_test}
use Rattle.granit_input.proofs.AppendLemmas.{extends_none, extends_more, appended_more}
use Rattle.granit_input.proofs.OriginLemmas.{goes_nowhere, goes_on}
use Rattle.granit_runs.proofs.RunLemmas.{run_nul, front_none, front_more, front_ended, front_fits}
use Rattle.granit_input.proofs.UnreadLemmas.{past_none, past_text, past_twice}
use Rattle.granit_runs.proofs.WhiteLemmas.{passes_some}
use Rattle.granit_input.proofs.input.Input.fetch_run.Goals as goal

pub run-init : goal.run-init
run-init g c = record {
  told = λ u k. (
    subst (g.Self.Input.unread c.args.self.now) (sym (past_none u)) k,
    front_none (run_test c.args.run) u.text,
    sym (append-nil (string_chars c.args.out.now)),
  );
  kept = extends_none _;
  limit = omega arith;
  left = omega arith;
  window = omega arith;
  origin = goes_nowhere _;
}

pub returns-then-not-next_in-clause-fetches : goal.returns-then-not-next_in-clause-fetches
returns-then-not-next_in-clause-fetches g c = λ u k.
    let so_far = c.run.invariant.told u k in
    let look = c.next_in.ensures.look (past_count c.run.count u) so_far.0 in
    let text = past_text c.run.count u in
    let stop : run_test c.args.run (drop c.run.count u.text) ≡ false = cc in
    (front_ended (run_test c.args.run) u.text c.args.limit c.run.count so_far.1 stop, look.0, so_far.2)

pub returns-in_err-push_char-clause-fetches : goal.returns-in_err-push_char-clause-fetches
returns-in_err-push_char-clause-fetches g c = λ u k.
    let so_far = c.run.invariant.told u k in
    let look = c.next_in.ensures.look (past_count c.run.count u) so_far.0 in
    let err = err_from_is_err_and c.from_residual.result c.from_residual.ensures.1 in
    rw err.1 (record {
      count = c.run.count;
      fits = front_fits (run_test c.args.run) u.text c.run.count so_far.1;
      lands = look.0;
      appended = ap chars c.in_err-push_char.ensures.kept ∙ so_far.2;
    })

pub run-preserved : goal.run-preserved
run-preserved g c = record {
  told = λ u k.
      let so_far = c.run.invariant.told u k in
      let look = c.next_in.ensures.look (past_count c.run.count u) so_far.0 in
      let text = past_text c.run.count u in
      let go : run_test c.args.run (drop c.run.count u.text) ≡ true = cc in
      let some = passes_some (run_test c.args.run) (drop c.run.count u.text) (run_nul c.args.run) go in
      let next = c.skip.ensures.unread (past_count c.run.count u) look.0 in
      let seen : c.peek.result ≡ first (drop c.run.count u.text) = c.peek.ensures.value
      (past_count c.run.count u) look.0
      ∙ ap first text in (
        subst (g.Self.Input.unread c.skip.new.self) (past_twice c.run.count 1 u) next,
        front_more (run_test c.args.run) u.text c.run.count (run_nul c.args.run) so_far.1 go,
        appended_more _ _ _ c.run.count u.text c.peek.result c.in_ok-push_char.ensures.appended so_far.2 some seen,
      );
  kept = extends_more _ _ _ _ c.run.invariant.kept c.in_ok-push_char.ensures.appended;
  limit = omega arith;
  left = let some = c.next_in.ensures.some c.if-not-next_in.false in omega arith;
  window = omega arith;
  origin = goes_on _ _ _ c.run.invariant.origin (goes_on _ _ _ c.next_in.ensures.moves.2 c.skip.ensures.moves.2);
}
