use Rattle.std.proofs.Common.{◌≡◌, ◌<◌, ℕ, true, List, length, slice_index, sym, subst}
use Rattle.std.proofs.Common.{◌∙◌, inl, inr, refl, arith}
use Rattle.std.specs.Str.{chars}
use Rattle.std.proofs.lemmas.Str.{is_utf8-from_IsUtf8}
use Rattle.granit_base.specs.Place.{first}
use Rattle.granit_runs.specs.Lines.{is_line_gap, is_visible, feed_count, column_behind}
use Rattle.granit_runs.specs.Runs.{starts}
use Rattle.granit_runs.proofs.AsciiLemmas.{ascii_none}
use Rattle.granit_runs.proofs.LineLemmas.{fed, begins_fed, visible_there, visible_whole}
use Rattle.granit_runs.proofs.lines.lines_front.Goals as goal

pub lines-init : goal.lines-init
unfolding feed_count column_behind
lines-init c = record {
  front = ascii_none (starts is_line_gap) c.args.s.now (is_utf8-from_IsUtf8 c.args.s.now c.utf8.s);
  lines = refl;
  spaces = refl;
  begins = inl refl;
  few = omega arith;
  short = omega arith;
}

pub spaces_at-spaces-requires : goal.spaces_at-spaces-requires
spaces_at-spaces-requires c =
    let s = c.args.s.now in
    let at = c.lines.at in
    let within : at < length s = omega (arith, c.lines-test.true, c.as_bytes-bytes.ensures.len) in
    let is : slice_index s at ≡ 0x0A =
    subst (λ (bs : List ℕ). slice_index bs at ≡ 0x0A) c.as_bytes-bytes.ensures.value c.if-bytes-at-eq10.true in
    (fed s at c.lines.invariant.front within is).front

pub lines-preserved : goal.lines-preserved
lines-preserved c =
    let s = c.args.s.now in
    let at = c.lines.at in
    let so_far = c.lines.invariant in
    let within : at < length s = omega (arith, c.lines-test.true, c.as_bytes-bytes.ensures.len) in
    let is : slice_index s at ≡ 0x0A =
    subst (λ (bs : List ℕ). slice_index bs at ≡ 0x0A) c.as_bytes-bytes.ensures.value c.if-bytes-at-eq10.true in
    let one = fed s at so_far.front within is in
    let more = c.spaces_at-spaces.ensures in
    let begins : first (chars s) ≡ 0x0A =
    elim so_far.begins [
      | inl none ↦ begins_fed s at so_far.front within is none
      | inr there ↦ there
    ] in
    record {
      front = more.front;
      lines = omega (arith, more.lines, one.lines, so_far.lines);
      spaces = omega (arith, more.spaces, one.column);
      begins = inr begins;
      few = omega (arith, so_far.few);
      short = omega arith;
    }

pub returns-then-is_graphic-clause-clear : goal.returns-then-is_graphic-clause-clear
returns-then-is_graphic-clause-clear c =
    let s = c.args.s.now in
    let at = c.lines.at in
    let within : at < length s = omega (arith, c.if-at-bytes.true, c.as_bytes-bytes.ensures.len) in
    visible_there s at c.lines.invariant.front within
    (subst (λ (bs : List ℕ). is_visible (slice_index bs at) ≡ true) c.as_bytes-bytes.ensures.value
    (sym c.is_graphic.ensures ∙ c.if-is_graphic.true))

pub returns-then-is_graphic-clause-lines : goal.returns-then-is_graphic-clause-lines
returns-then-is_graphic-clause-lines c =
    let s = c.args.s.now in
    let so_far = c.lines.invariant in
    let begins : first (chars s) ≡ 0x0A =
    elim so_far.begins [
      | inl none ↦ absurd (omega (arith, none, so_far.few, c.if-lines-gt0.true))
      | inr there ↦ there
    ] in
    record {
      begins = begins;
      whole = visible_whole s c.lines.at so_far.front (returns-then-is_graphic-clause-clear c);
      feeds = so_far.lines;
      column = so_far.spaces;
    }
