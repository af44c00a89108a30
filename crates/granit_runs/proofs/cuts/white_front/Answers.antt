use Rattle.std.proofs.Common.{◌≡◌, ℕ, ◌<◌, ◌≤◌, true, false, List, slice_index, length, drop, sym, ap, subst, ◌∙◌}
use Rattle.std.proofs.Common.{arith}
use Rattle.std.specs.Str.{chars}
use Rattle.granit_base.specs.Place.{first}
use Rattle.granit_runs.specs.Runs.{starts}
use Rattle.granit_runs.specs.White.{is_skipped}
use Rattle.granit_runs.proofs.AsciiLemmas.{ascii_none, skipped_byte, unskipped_byte, nothing_behind, whole_white}
use Rattle.granit_runs.proofs.WhiteLemmas.{skipped_nul, found_next, passes_some}
use Rattle.std.proofs.lemmas.Str.{is_utf8-from_IsUtf8}
use Rattle.granit_runs.proofs.cuts.white_front.Goals as goal

pub white-init : goal.white-init
white-init c = record {
  front = ascii_none (starts (is_skipped c.args.skip_tabs)) c.args.s.now (is_utf8-from_IsUtf8 c.args.s.now c.utf8.s);
  found = c.new-found.ensures;
}

pub white-preserved : goal.white-preserved
white-preserved c =
    let tabs = c.args.skip_tabs in
    let s = c.args.s.now in
    let i = c.white.count in
    let within : i < length s = omega (arith, c.white-test.true, c.as_bytes-bytes.ensures.len) in
    let is : is_skipped tabs (slice_index s i) ≡ true =
    subst (λ (bs : List ℕ). is_skipped tabs (slice_index bs i) ≡ true) c.as_bytes-bytes.ensures.value
    (sym c.skips.ensures ∙ c.if-not-skips.false) in
    let next = skipped_byte tabs s i c.white.invariant.front within is in
    let go : is_skipped tabs (first (drop i (chars s))) ≡ true = ap (is_skipped tabs) (sym next.1) ∙ is in
    let some = passes_some (starts (is_skipped tabs)) (drop i (chars s)) (skipped_nul tabs) go in
    record {
      front = next.0;
      found = c.with-found.ensures ∙ rw c.white.invariant.found (found_next i (chars s) _ some
          (ap (λ (bs : List ℕ). slice_index bs i) c.as_bytes-bytes.ensures.value ∙ next.1));
    }

pub returns-then-not-skips-clause-whole : goal.returns-then-not-skips-clause-whole
returns-then-not-skips-clause-whole c =
    let tabs = c.args.skip_tabs in
    let s = c.args.s.now in
    let i = c.white.count in
    let within : i < length s = omega (arith, c.white-test.true, c.as_bytes-bytes.ensures.len) in
    let none : is_skipped tabs (slice_index s i) ≡ false =
    subst (λ (bs : List ℕ). is_skipped tabs (slice_index bs i) ≡ false) c.as_bytes-bytes.ensures.value
    (sym c.skips.ensures ∙ c.if-not-skips.true) in
    whole_white tabs s i c.white.invariant.front (unskipped_byte tabs s i within c.white.invariant.front.utf8 none)

pub returns-clause-whole : goal.returns-clause-whole
returns-clause-whole c =
    let tabs = c.args.skip_tabs in
    let s = c.args.s.now in
    let all : length s ≤ c.white.count = omega (arith, c.white-test.false, c.as_bytes-bytes.ensures.len) in
    whole_white tabs s c.white.count c.white.invariant.front
    (ap (λ cs. is_skipped tabs (first cs)) (nothing_behind s c.white.count all) ∙ skipped_nul tabs)
