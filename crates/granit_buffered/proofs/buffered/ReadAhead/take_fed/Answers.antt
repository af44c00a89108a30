use Rattle.std.proofs.Common.{◌≡◌, ◌++◌, ◌∷◌, ℕ, List, [], Some, None, ap, refl, sym, ◌∙◌, arith}
use Rattle.granit_base.specs.Place.{first}
use Rattle.granit_buffered.specs.Sure.{taker_test}
use Rattle.granit_buffered.proofs.BufferLemmas.{feed_passed, fed_is_first, ends_passed, goes_known, holds_more}
use Rattle.granit_buffered.proofs.SureLemmas.{taker_nul, tells_of_text}
use Rattle.granit_buffered.proofs.buffered.ReadAhead.take_fed.Goals as goal

pub returns-then-takes-clause-read : goal.returns-then-takes-clause-read
returns-then-takes-clause-read g c = λ u k.
    let s = c.args.self.now in
    let ch = c.in-Some.c in
    let steps = c.in-Some.ensures.told in
    let is = fed_is_first g.F.Feed.told s.feed c.next_char.new.self ch s.held u c.requires steps k in (
      sym (ap first is.1),
      ap (taker_test c.args.taker) is.1 ∙ c.takes.ensures.takes c.if-takes.true is.0,
      feed_passed g.F.Feed.told s.feed c.next_char.new.self (Some ch) s.held u c.requires steps k,
    )

pub returns-else-takes-clause-read : goal.returns-else-takes-clause-read
returns-else-takes-clause-read g c = λ u k.
    let s = c.args.self.now in
    let ch = c.in-Some.c in
    let steps = c.in-Some.ensures.told in
    let is = fed_is_first g.F.Feed.told s.feed c.next_char.new.self ch s.held u c.requires steps k in
    let grown : c.push_back.new.self ≡ s.held ++ ch ∷ [] = rw c.push_back.ensures refl in
    let h = k.2.1 in
    let one = steps h.0 k.2.0 h.2 in (
      tells_of_text c.args.taker ch is.0 u.text is.1 (c.takes.ensures.ends c.if-takes.false),
      (
        k.0,
        k.1,
        (
          k.2.0,
          holds_more g.F.Feed.told c.next_char.new.self s.held c.push_back.new.self h.0 one.0 u.text k.2.0 ch
              h.1 one.1 grown one.2,
        ),
      ),
    )

pub returns-in-None-clause-read : goal.returns-in-None-clause-read
returns-in-None-clause-read g c = λ u k.
    let h = k.2.1 in
    let none = c.in-None.ensures.told h.0 k.2.0 h.2 in
    let held = ap (λ (rest : List ℕ). c.args.self.now.held ++ rest) none.0 in
    let over : u.text ≡ [] = h.1 ∙ held ∙ ap (λ (front : List ℕ). front ++ []) c.requires in (
      λ alone. ap (taker_test c.args.taker) over ∙ taker_nul c.args.taker,
      (k.0, k.1, (k.2.0, ([], h.1 ∙ held, none.1))),
    )

pub returns-in-None-clause-moves : goal.returns-in-None-clause-moves
returns-in-None-clause-moves g c =
    let s = c.args.self.now in
    let over = g.met.F.Feed.over c.next_char.new.self c.in-None.ensures.bound in (
      omega (arith, over),
      omega arith,
      goes_known _ _ _ _ _ _ _ _ c.next_char.ensures.goes
          (λ fault ends. ends_passed g.F.Feed.told s.feed c.next_char.new.self None fault
          c.in-None.ensures.told ends),
    )
