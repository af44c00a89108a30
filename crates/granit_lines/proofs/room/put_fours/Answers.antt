use Rattle.std.proofs.Common.{◌≡◌, ◌+◌, ◌++◌, ℕ, true, take, subst, sym, ◌∙◌, arith}
use Rattle.std.specs.List.{All}
use Rattle.granit_lines.specs.Pieces.{is_plain}
use Rattle.granit_lines.proofs.QuotingLemmas.{plain_four}
use Rattle.granit_lines.proofs.room.put_fours.Goals as goal

pub fours-preserved : goal.fours-preserved
fours-preserved c =
    let old = c.args.room.now in
    let is = c.are_plain.ensures in
    let all = c.if-are_plain.true in
    let after : c.fours.count + 4 ≡ c.put_four-count.result = sym c.put_four-count.ensures.count in
    record {
      within = omega (arith, after, c.fours-test.true, c.fours.invariant.within);
      size = c.put_four-count.ensures.size ∙ c.fours.invariant.size;
      plain = subst (λ (n : ℕ). All (λ (b : ℕ). is_plain b ≡ true) (take n c.args.bytes.now)) after
          (plain_four c.args.bytes.now c.fours.count (omega (arith, c.fours-test.true, c.fours.invariant.within))
          c.fours.invariant.plain (is.first all) (is.second all) (is.third all) (is.fourth all));
      put = subst (λ (n : ℕ). take (c.args.at + n) c.put_four-count.new.room
          ≡ take c.args.at old ++ take n c.args.bytes.now) after
          (c.put_four-count.ensures.put old c.fours.invariant.put);
    }
