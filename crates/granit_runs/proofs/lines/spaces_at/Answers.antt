use Rattle.std.proofs.Common.{◌≡◌, ◌+◌, ◌<◌, ℕ, suc, List, length, take, slice_index, sym, ap, subst, ◌∙◌, arith}
use Rattle.std.specs.Str.{chars}
use Rattle.granit_runs.specs.Cuts.{IsAsciiFront}
use Rattle.granit_runs.specs.Lines.{is_line_gap, feed_count, column_behind}
use Rattle.granit_runs.specs.Runs.{starts}
use Rattle.granit_runs.proofs.LineLemmas.{spaced}
use Rattle.granit_runs.proofs.lines.spaces_at.Goals as goal

pub spaces-preserved : goal.spaces-preserved
spaces-preserved c =
    let s = c.args.s.now in
    let from = c.args.from in
    let n = c.spaces.count in
    let so_far = c.spaces.invariant in
    let within : from + n < length s = omega (arith, c.spaces-test.true, c.as_bytes-bytes.ensures.len) in
    let is : slice_index s (from + n) ≡ 0x20 =
    subst (λ (bs : List ℕ). slice_index bs (from + n) ≡ 0x20) c.as_bytes-bytes.ensures.value
    c.if-bytes-from-eq32.true in
    let next = spaced s (from + n) so_far.front within is in
    let place : from + n + 1 ≡ from + (n + 1) = omega arith in
    let more : suc (column_behind 0 (take from (chars s)) + n) ≡ column_behind 0 (take from (chars s)) + (n + 1) =
    omega arith in
    record {
      front = subst (λ (k : ℕ). IsAsciiFront (starts is_line_gap) s k) place next.front;
      lines = ap (λ (k : ℕ). feed_count (take k (chars s))) (sym place) ∙ next.lines ∙ so_far.lines;
      spaces = ap (λ (k : ℕ). column_behind 0 (take k (chars s))) (sym place) ∙ next.column ∙ ap suc so_far.spaces
          ∙ more;
    }
