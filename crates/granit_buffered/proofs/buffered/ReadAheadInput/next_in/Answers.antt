use Rattle.std.proofs.Common.{◌≡◌, ◌==◌, [], ◌∷◌, false, refl, sym, ◌∙◌, arith}
use Rattle.std.proofs.lemmas.Bool.Decides.{nat_tests}
use Rattle.granit_buffered.proofs.SureLemmas.{by_next, sure_of_first, taken_some}
use Rattle.granit_buffered.proofs.buffered.ReadAheadInput.next_in.Goals as goal

pub returns-then-c-ne58-clause-look : goal.returns-then-c-ne58-clause-look
returns-then-c-ne58-clause-look g c = λ u k.
    let look = c.lookahead.ensures.unread u k in
    let blank : (c.peek-c.result == 0x20) ≡ false = grind (arith, nat_tests, c.if-c-ne32.true) in
    let colon : (c.peek-c.result == 0x3A) ≡ false = grind (arith, nat_tests, c.if-c-ne58.true) in (
      look,
      sure_of_first c.args.run c.peek-c.result c.surely_takes.result u.text c.surely_takes.ensures.takes
          c.surely_takes.ensures.ends blank colon (c.peek-c.ensures.value u look),
    )

pub returns-then-c-ne58-clause-some : goal.returns-then-c-ne58-clause-some
returns-then-c-ne58-clause-some g c = λ taken.
    c.peek-c.ensures.some (taken_some c.args.run c.peek-c.result [] (c.surely_takes.ensures.takes taken []))

pub returns-clause-look : goal.returns-clause-look
returns-clause-look g c = λ u k.
    let look = c.lookahead-2.ensures.unread u (c.lookahead.ensures.unread u k) in (
      look,
      by_next c.args.run c.peek.result c.peek_nth.result c.takes_before.result u.text c.takes_before.ensures
          (c.peek.ensures.value u look) (c.peek_nth.ensures.value u look),
    )

pub returns-clause-some : goal.returns-clause-some
returns-clause-some g c = λ taken.
    let next = c.peek_nth.result in
    c.peek.ensures.some (taken_some c.args.run c.peek.result (next ∷ [])
    (sym (c.takes_before.ensures (next ∷ []) refl) ∙ taken))
