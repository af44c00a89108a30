use Rattle.std.proofs.Common.{◌≡◌, ◌+◌, ◌++◌, ◌∷◌, ℕ, List, [], length, ap, refl, ◌∙◌, arith}
use Rattle.std.proofs.lemmas.List.{length-append}
use Rattle.granit_input.proofs.OriginLemmas.{goes_nowhere, goes_on}
use Rattle.granit_buffered.proofs.BufferLemmas.{goes_known, holds_more}
use Rattle.granit_buffered.proofs.buffered.ReadAhead.fill.Goals as goal

pub fill-init : goal.fill-init
fill-init g c = record {
  told = λ xs fault k. k;
  left = omega arith;
  window = refl;
  few = omega arith;
  stays = λ e. e;
  goes = goes_nowhere _;
}

pub fill-preserved : goal.fill-preserved
fill-preserved g c =
    let grown : c.push_back.new.self ≡ c.fill.self.held ++ c.in-Some.c ∷ [] = rw c.push_back.ensures refl in
    let len : length c.push_back.new.self ≡ length c.fill.self.held + 1 = ap length grown ∙ length-append _ _ in
    record {
      told = λ xs fault k.
          let h = c.fill.invariant.told xs fault k in
          let turn = c.in-Some.ensures.told h.0 fault h.2 in
          holds_more g.F.Feed.told c.next_char.new.self c.fill.self.held c.push_back.new.self h.0 turn.0 xs
          fault c.in-Some.c h.1 turn.1 grown turn.2;
      left = omega (arith, c.fill.invariant.left, c.in-Some.ensures.bound, len);
      window = c.fill.invariant.window;
      few = omega (arith, c.fill.invariant.few, len);
      stays = λ was. c.next_char.ensures.stays (c.fill.invariant.stays was);
      goes = goes_on _ _ _ c.fill.invariant.goes c.next_char.ensures.goes;
    }

pub returns-in-None-clause-told : goal.returns-in-None-clause-told
returns-in-None-clause-told g c = λ xs fault k.
    let h = c.fill.invariant.told xs fault k in
    let none = c.in-None.ensures.told h.0 fault h.2 in
    ([], h.1 ∙ ap (λ (rest : List ℕ). c.fill.self.held ++ rest) none.0, none.1)

pub returns-in-None-clause-left : goal.returns-in-None-clause-left
returns-in-None-clause-left g c =
    let over = g.met.F.Feed.over c.next_char.new.self c.in-None.ensures.bound in
    omega (arith, c.fill.invariant.left, over)

pub returns-in-None-clause-goes : goal.returns-in-None-clause-goes
returns-in-None-clause-goes g c = goes_known _ _ _ _ _ _ _ _
    (goes_on _ _ _ c.fill.invariant.goes c.next_char.ensures.goes)
    (λ fault ends.
    let h = c.fill.invariant.told (c.args.self.now.held ++ ends.0) fault (ends.0, refl, ends.1) in
    ([], (c.in-None.ensures.told h.0 fault h.2).1))

pub returns-clause-goes : goal.returns-clause-goes
returns-clause-goes g c = goes_known _ _ _ _ _ _ _ _ c.fill.invariant.goes
    (λ fault ends.
    let h = c.fill.invariant.told (c.args.self.now.held ++ ends.0) fault (ends.0, refl, ends.1) in (h.0, h.2))
