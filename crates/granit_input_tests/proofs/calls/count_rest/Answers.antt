use Rattle.std.proofs.Common.{◌≡◌, ◌==◌, true, false, length, drop, subst, sym, ◌∙◌, zero-le, arith}
use Rattle.std.proofs.lemmas.Bool.Decides.{nat_tests}
use Rattle.granit_runs.specs.Unread.{past_count}
use Rattle.granit_input.proofs.UnreadLemmas.{past_none, past_text, past_twice, end_reached, end_ahead}
use Rattle.granit_input_tests.proofs.calls.count_rest.Goals as goal

pub rest-init : goal.rest-init
rest-init g c = record {
  told = λ u k. (subst (g.T.Input.unread c.args.input.now) (sym (past_none u)) k, zero-le);
  left = omega arith;
}

pub returns-then-next_is_z-clause-counted : goal.returns-then-next_is_z-clause-counted
returns-then-next_is_z-clause-counted g c = λ u k.
    let so_far = c.rest.invariant.told u k in
    let look = c.lookahead.ensures.unread (past_count c.rest.count u) so_far.0 in
    let text = past_text c.rest.count u in
    let value = c.next_is_z.ensures.value (past_count c.rest.count u) look in
    let end : (length (drop c.rest.count u.text) == 0) ≡ true = cc in
    (end_reached c.rest.count u.text so_far.1 end, look)

pub rest-preserved : goal.rest-preserved
rest-preserved g c = record {
  told = λ u k.
      let so_far = c.rest.invariant.told u k in
      let look = c.lookahead.ensures.unread (past_count c.rest.count u) so_far.0 in
      let text = past_text c.rest.count u in
      let value = c.next_is_z.ensures.value (past_count c.rest.count u) look in
      let more : (length (drop c.rest.count u.text) == 0) ≡ false = cc in
      let next = c.skip.ensures.unread (past_count c.rest.count u) look in
      (subst (g.T.Input.unread c.skip.new.self) (past_twice c.rest.count 1 u) next, end_ahead c.rest.count u.text more);
  left = let ahead = sym c.next_is_z.ensures.some ∙ c.if-next_is_z.false in grind (arith, nat_tests, ahead);
}
