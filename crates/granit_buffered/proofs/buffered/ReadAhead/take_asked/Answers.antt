use Rattle.std.proofs.Common.{◌≡◌, ◌==◌, false, subst, sym, ◌∙◌, arith}
use Rattle.std.proofs.lemmas.Bool.Decides.{nat_tests}
use Rattle.granit_input.proofs.OriginLemmas.{goes_on}
use Rattle.granit_buffered.specs.Sure.{TellsAlone}
use Rattle.granit_buffered.specs.declared.sure.Taker.TheVariants.{Sure}
use Rattle.granit_buffered.proofs.buffered.ReadAhead.take_asked.Goals as goal

pub returns-then-c-ne58-clause-read : goal.returns-then-c-ne58-clause-read
returns-then-c-ne58-clause-read g c = λ u k ends.
    let look = c.lookahead.ensures.unread u k in
    let blank : (c.peek-c.result == 0x20) ≡ false = grind (arith, nat_tests, c.if-c-ne32.true) in
    let colon : (c.peek-c.result == 0x3A) ≡ false = grind (arith, nat_tests, c.if-c-ne58.true) in
    (ends (subst (TellsAlone (Sure c.args.run)) (c.peek-c.ensures.value u look) (blank, colon)), look)

pub returns-else-next_in-clause-read : goal.returns-else-next_in-clause-read
returns-else-next_in-clause-read g c = λ u k ends.
    let look = c.next_in.ensures.look u (c.lookahead.ensures.unread u k) in
    (sym look.1 ∙ c.if-next_in.false, look.0)

pub returns-then-next_in-clause-read : goal.returns-then-next_in-clause-read
returns-then-next_in-clause-read g c = λ u k ends.
    let seen = c.lookahead.ensures.unread u k in
    let look = c.next_in.ensures.look u seen in
    (c.peek-c.ensures.value u seen, sym look.1 ∙ c.if-next_in.true, c.skip.ensures.unread u look.0)

pub returns-then-next_in-clause-moves : goal.returns-then-next_in-clause-moves
returns-then-next_in-clause-moves g c =
    let some = c.next_in.ensures.some c.if-next_in.true in (
      omega (arith, c.lookahead.ensures.moves.0, c.next_in.ensures.moves.0, c.skip.ensures.moves.0, some),
      omega (arith, c.lookahead.ensures.moves.1, c.next_in.ensures.moves.1, c.skip.ensures.moves.1),
      goes_on _ _ _ c.lookahead.ensures.moves.2 (goes_on _ _ _ c.next_in.ensures.moves.2 c.skip.ensures.moves.2),
    )

pub returns-else-next_in-clause-moves : goal.returns-else-next_in-clause-moves
returns-else-next_in-clause-moves g c = (
  omega (arith, c.lookahead.ensures.moves.0, c.next_in.ensures.moves.0),
  omega (arith, c.lookahead.ensures.moves.1, c.next_in.ensures.moves.1),
  goes_on _ _ _ c.lookahead.ensures.moves.2 c.next_in.ensures.moves.2,
)
