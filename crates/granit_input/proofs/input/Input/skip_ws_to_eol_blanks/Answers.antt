use Rattle.std.proofs.Common.{◌≡◌, true, false, drop, subst, sym, ap, ◌∙◌, arith}
use Rattle.granit_base.specs.Place.{first}
use Rattle.granit_runs.specs.Unread.{past_count}
use Rattle.granit_runs.specs.Runs.{starts}
use Rattle.granit_runs.specs.White.{is_skipped, found_more}
use Rattle.granit_runs.specs.declared.whitespace.WhitespaceResult.{WhitespaceResult}
use Rattle.granit_input.proofs.OriginLemmas.{goes_nowhere, goes_on}
use Rattle.granit_runs.proofs.RunLemmas.{front_none, front_more, front_whole}
use Rattle.granit_input.proofs.UnreadLemmas.{past_none, past_text, past_twice}
use Rattle.granit_runs.proofs.WhiteLemmas.{skipped_nul, skipped_some, found_next, passes_some}
use Rattle.granit_input.proofs.input.Input.skip_ws_to_eol_blanks.Goals as goal

pub blanks-init : goal.blanks-init
blanks-init g c = record {
  told = λ u k. (
    subst (g.Self.Input.unread c.args.self.now) (sym (past_none u)) k,
    front_none
        (starts (is_skipped c.args.skip_tabs)) u.text,
    c.new-found.ensures,
  );
  left = omega arith;
  window = omega arith;
  origin = goes_nowhere _;
}

pub returns-then-not-skips-clause-skips : goal.returns-then-not-skips-clause-skips
returns-then-not-skips-clause-skips g c = λ u k.
    let so_far = c.blanks.invariant.told u k in
    let look = c.look_ch-c.ensures.look (past_count c.blanks.count u) so_far.0 in
    let text = past_text c.blanks.count u in
    let stop : is_skipped c.args.skip_tabs (first (drop c.blanks.count u.text)) ≡ false = cc in
    (front_whole (starts (is_skipped c.args.skip_tabs)) u.text c.blanks.count so_far.1 stop, so_far.2, look.0)

pub blanks-preserved : goal.blanks-preserved
blanks-preserved g c = record {
  told = λ u k.
      let so_far = c.blanks.invariant.told u k in
      let look = c.look_ch-c.ensures.look (past_count c.blanks.count u) so_far.0 in
      let text = past_text c.blanks.count u in
      let seen : c.look_ch-c.result ≡ first (drop c.blanks.count u.text) = look.1 ∙ ap first text in
      let go : is_skipped c.args.skip_tabs (first (drop c.blanks.count u.text)) ≡ true = cc in
      let some = passes_some (starts (is_skipped c.args.skip_tabs)) (drop c.blanks.count u.text)
      (skipped_nul c.args.skip_tabs) go in
      let next = c.skip.ensures.unread (past_count c.blanks.count u) look.0 in (
        subst (g.Self.Input.unread c.skip.new.self) (past_twice c.blanks.count 1 u) next,
        front_more (starts (is_skipped c.args.skip_tabs)) u.text c.blanks.count (skipped_nul c.args.skip_tabs) so_far.1
            go,
        c.with-found.ensures ∙ ap (λ (f : WhitespaceResult). found_more f c.look_ch-c.result) so_far.2
            ∙ found_next c.blanks.count u.text c.look_ch-c.result some seen,
      );
  left = let some = c.look_ch-c.ensures.some (skipped_some c.args.skip_tabs c.look_ch-c.result
      (sym c.skips.ensures ∙ c.if-not-skips.false)) in omega arith;
  window = omega arith;
  origin = goes_on _ _ _ c.blanks.invariant.origin (goes_on _ _ _ c.look_ch-c.ensures.moves.2 c.skip.ensures.moves.2);
}
