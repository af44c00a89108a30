use Rattle.std.proofs.Common.{◌≡◌, ◌≤◌, ◌-◌, drop}
use denote.Text.{Utf8}
use denote.Shadow.{shadow}
use Rattle.std.specs.Str.{chars}
use Rattle.granit_runs.specs.Cuts.{SpellsFront}
use Rattle.granit_runs.specs.Runs.{run_test}
use Rattle.granit_runs.proofs.RunLemmas.{IsFront}
use Rattle.granit_runs.proofs.cuts.past_run.Given as goal

abbrev pub invariant-run : goal.invariant-run
invariant-run l = record {
  utf8 : shadow (Utf8 l.rest);
  limit : l.count ≤ l.limit;
  front : IsFront (run_test l.run) (chars l.s) l.count;
  text : chars l.rest ≡ drop l.count (chars l.s);
  bytes : SpellsFront l.s l.count l.rest;
}

abbrev pub decreases-run : goal.decreases-run
decreases-run l = l.limit - l.count
