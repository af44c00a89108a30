use Rattle.std.proofs.Common.{◌≡◌, ◌+◌, ◌++◌, ◌∷◌, [], length, ap, refl, ◌∙◌, arith}
use Rattle.std.proofs.lemmas.List.{length-append}
use Rattle.granit_stream.proofs.StreamLemmas.{holds_more, rest_over}
use Rattle.granit_stream.proofs.stream.Stream.fill.Goals as goal

pub fill-preserved : goal.fill-preserved
fill-preserved g c =
    let grown : c.hold.new.held.items ≡ c.fill.self.held.items ++ c.in-Some.c ∷ [] = rw c.hold.ensures refl in
    let len : length c.hold.new.held.items ≡ length c.fill.self.held.items + 1 = ap length grown ∙ length-append _ _ in
    record {
      told = λ xs k.
          let h = c.fill.invariant.told xs k in
          let turn = c.in-Some.ensures.told h.0 h.2 in
          holds_more g.T.Iterator.next_gives g.T.Iterator.remaining c.next_char.new.self.done
          c.next_char.new.self.iterator c.fill.self.held.items c.hold.new.held.items turn.0 xs c.in-Some.c
          (h.1 ∙ ap (λ ys. c.fill.self.held.items ++ ys) turn.1) grown turn.2;
      left = omega (arith, c.fill.invariant.left, c.in-Some.ensures.left, len);
      window = c.fill.invariant.window;
      kept = c.fill.invariant.kept;
      done = λ was. let e = c.fill.invariant.done was in let same = c.next_char.ensures.done e in cc;
    }

pub returns-in-None-clause-told : goal.returns-in-None-clause-told
returns-in-None-clause-told g c = λ xs k.
    let h = c.fill.invariant.told xs k in (
      h.0,
      h.1,
      rest_over g.T.Iterator.next_gives g.T.Iterator.remaining c.next_char.new.self.done
          c.next_char.new.self.iterator h.0 c.in-None.ensures.left (c.in-None.ensures.told h.0 h.2),
    )
