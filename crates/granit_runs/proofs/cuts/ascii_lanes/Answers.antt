use Rattle.std.proofs.Common.{◌+◌, List, ℕ, slice_index, subst, arith}
use Rattle.std.proofs.lemmas.Str.{is_utf8-from_IsUtf8}
use Rattle.granit_runs.specs.Lanes.{TakesByte}
use Rattle.granit_runs.specs.Runs.{run_test}
use Rattle.granit_runs.proofs.AsciiLemmas.{ascii_none}
use Rattle.granit_runs.proofs.LaneLemmas.{ascii_on}
use Rattle.granit_runs.proofs.RunLemmas.{run_nul}
use Rattle.granit_runs.proofs.WordLemmas.{shows_none, shows_on}
use Rattle.granit_runs.specs.Words.{ShowsByte}
use Rattle.granit_runs.proofs.cuts.ascii_lanes.Goals as goal

pub lanes-init : goal.lanes-init
lanes-init c = record {
  front = ascii_none (run_test c.args.run) c.args.s.now (is_utf8-from_IsUtf8 c.args.s.now c.utf8.s);
  limit = omega arith;
  shown = shows_none c.args.run c.args.s.now;
}

pub returns-then-taken-lt-LANES-clause-front : goal.returns-then-taken-lt-LANES-clause-front
returns-then-taken-lt-LANES-clause-front c =
    ascii_on (run_test c.args.run) c.args.s.now c.lanes.count c.taken_at-taken.result (run_nul c.args.run)
    c.lanes.invariant.front
    (omega (arith, c.lanes-test.true, c.taken_at-taken.ensures.few, c.min-end.ensures, c.as_bytes-bytes.ensures.len))
    (λ k few. subst (λ (s : List ℕ). TakesByte (run_test c.args.run) s (c.lanes.count + k))
    c.as_bytes-bytes.ensures.value (c.taken_at-taken.ensures.each k few))

pub returns-then-taken-lt-LANES-clause-shown : goal.returns-then-taken-lt-LANES-clause-shown
returns-then-taken-lt-LANES-clause-shown c =
    shows_on c.args.run c.args.s.now c.lanes.count c.taken_at-taken.result c.lanes.invariant.shown
    (λ k few. subst (λ (s : List ℕ). ShowsByte c.args.run (slice_index s (c.lanes.count + k)))
    c.as_bytes-bytes.ensures.value (c.taken_at-taken.ensures.shown k few))

pub lanes-preserved : goal.lanes-preserved
lanes-preserved c = record {
  front = ascii_on (run_test c.args.run) c.args.s.now c.lanes.count c.taken_at-taken.result (run_nul c.args.run)
      c.lanes.invariant.front
      (omega (arith, c.lanes-test.true, c.taken_at-taken.ensures.few, c.min-end.ensures, c.as_bytes-bytes.ensures.len))
      (λ k few. subst (λ (s : List ℕ). TakesByte (run_test c.args.run) s (c.lanes.count + k))
      c.as_bytes-bytes.ensures.value (c.taken_at-taken.ensures.each k few));
  limit = omega (arith, c.lanes-test.true, c.taken_at-taken.ensures.few);
  shown = shows_on c.args.run c.args.s.now c.lanes.count c.taken_at-taken.result c.lanes.invariant.shown
      (λ k few. subst (λ (s : List ℕ). ShowsByte c.args.run (slice_index s (c.lanes.count + k)))
      c.as_bytes-bytes.ensures.value (c.taken_at-taken.ensures.shown k few));
}
