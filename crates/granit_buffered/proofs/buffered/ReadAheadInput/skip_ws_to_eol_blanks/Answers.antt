use Rattle.std.proofs.Common.{◌≡◌, true, false, drop, subst, sym, ap, ◌∙◌, arith}
use Rattle.granit_base.specs.Place.{first}
use Rattle.granit_runs.specs.Unread.{past_count}
use Rattle.granit_runs.specs.Runs.{starts}
use Rattle.granit_runs.specs.White.{is_skipped, found_more}
use Rattle.granit_runs.specs.declared.whitespace.WhitespaceResult.{WhitespaceResult}
use Rattle.granit_input.proofs.OriginLemmas.{goes_nowhere, goes_on}
use Rattle.granit_runs.proofs.RunLemmas.{front_none, front_more, front_whole}
use Rattle.granit_input.proofs.UnreadLemmas.{past_none, past_text, past_twice}
use Rattle.granit_runs.proofs.WhiteLemmas.{skipped_nul, found_next, passes_some}
use Rattle.granit_buffered.specs.Feeds.{LeftInFeed}
use Rattle.granit_buffered.proofs.buffered.ReadAheadInput.skip_ws_to_eol_blanks.Goals as goal

pub blanks-init : goal.blanks-init
blanks-init g c = record {
  told = λ u k. (
    subst (LeftInFeed g.F.Feed.told c.args.self.now.feed c.args.self.now.held) (sym (past_none u)) k,
    front_none (starts (is_skipped c.args.skip_tabs)) u.text,
    c.new-found.ensures,
  );
  left = omega arith;
  window = omega arith;
  few = omega arith;
  origin = goes_nowhere _;
}

pub returns-in-None-clause-skips : goal.returns-in-None-clause-skips
returns-in-None-clause-skips g c = λ u k.
    let so_far = c.blanks.invariant.told u k in
    let none = c.in-None.ensures.read (past_count c.blanks.count u) so_far.0 in
    let stop : is_skipped c.args.skip_tabs (first (drop c.blanks.count u.text)) ≡ false =
    ap (starts (is_skipped c.args.skip_tabs)) (sym (past_text c.blanks.count u)) ∙ none.0 _ in
    (front_whole (starts (is_skipped c.args.skip_tabs)) u.text c.blanks.count so_far.1 stop, so_far.2, none.1)

pub blanks-preserved : goal.blanks-preserved
blanks-preserved g c = record {
  told = λ u k.
      let test = starts (is_skipped c.args.skip_tabs) in
      let so_far = c.blanks.invariant.told u k in
      let one = c.in-Some.ensures.read (past_count c.blanks.count u) so_far.0 in
      let text = past_text c.blanks.count u in
      let go : is_skipped c.args.skip_tabs (first (drop c.blanks.count u.text)) ≡ true = ap test (sym text) ∙ one.1 in
      let seen : c.in-Some.c ≡ first (drop c.blanks.count u.text) = one.0 ∙ ap first text in
      let some = passes_some test (drop c.blanks.count u.text) (skipped_nul c.args.skip_tabs) go in (
        subst (LeftInFeed g.F.Feed.told c.take_sure.new.self.feed c.take_sure.new.self.held)
            (past_twice c.blanks.count 1 u) one.2,
        front_more test u.text c.blanks.count (skipped_nul c.args.skip_tabs) so_far.1 go,
        c.found_with-found.ensures ∙ ap (λ (f : WhitespaceResult). found_more f c.in-Some.c) so_far.2
            ∙ found_next c.blanks.count u.text c.in-Some.c some seen,
      );
  left = omega (arith, c.blanks.invariant.left, c.in-Some.ensures.moves.0);
  window = omega (arith, c.blanks.invariant.window, c.in-Some.ensures.moves.1);
  few = omega (arith, c.blanks.invariant.few, c.in-Some.ensures.few);
  origin = goes_on _ _ _ c.blanks.invariant.origin c.in-Some.ensures.moves.2;
}
