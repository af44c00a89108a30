use Rattle.std.proofs.Common.{◌≡◌, ◌+◌, ◌<◌, ℕ, true, List, ◌∷◌, length, drop, slice_index, subst, refl, arith}
use Rattle.std.specs.Str.{chars, is_utf8}
use Rattle.granit_runs.specs.Runs.{run_test}
use Rattle.granit_runs.proofs.AsciiLemmas.{ascii_more, utf8_after}
use Rattle.granit_runs.proofs.RunLemmas.{run_nul}
use Rattle.granit_runs.proofs.WordLemmas.{shows_more}
use Rattle.granit_runs.specs.Words.{ShowsByte}
use Rattle.granit_runs.proofs.cuts.ascii_front.Goals as goal

pub front-init : goal.front-init
front-init c = record {
  front = c.requires.counted;
  limit = omega (arith, c.requires.within, c.requires.counted.within, c.min-end.ensures, c.as_bytes-bytes.ensures.len);
  shown = c.requires.shown;
}

pub front-preserved : goal.front-preserved
front-preserved c =
    let test = run_test c.args.run in
    let i = c.front.count in
    let so_far = c.front.invariant.front in
    let held = c.if-not-takes_byte.false in
    let same = c.as_bytes-bytes.ensures.value in
    let low = subst (λ (s : List ℕ). slice_index s i < 0x80) same (c.takes_byte.ensures.low held) in
    let takes = subst (λ (s : List ℕ). chars (drop (i + 1) s) ≡ chars (drop (i + 1) c.args.s.now)
    → is_utf8 (drop (i + 1) s) ≡ true → test (slice_index s i ∷ chars (drop (i + 1) c.args.s.now)) ≡ true) same
    (c.takes_byte.ensures.takes (chars (drop (i + 1) c.args.s.now)) held) in
    let within : i < length c.args.s.now =
    omega (arith, c.front-test.true, c.min-end.ensures, c.as_bytes-bytes.ensures.len) in
    record {
      front = ascii_more test c.args.s.now i (run_nul c.args.run) so_far within low
          (takes refl (utf8_after test c.args.s.now i so_far within low));
      limit = omega arith;
      shown = shows_more c.args.run c.args.s.now i c.front.invariant.shown
          (subst (λ (s : List ℕ). ShowsByte c.args.run (slice_index s i)) same (c.takes_byte.ensures.shown held));
    }
