use Rattle.std.proofs.Common.{◌≡◌, length}
use denote.Text.{Utf8}
use denote.Shadow.{shadow}
use Rattle.std.specs.List.{find}
use Rattle.std.specs.Str.{chars}
use Rattle.granit_runs.proofs.PrintableLemmas.{unprintable}
use Rattle.granit_runs.proofs.cuts.find_unprintable.Given as goal

abbrev pub invariant-found : goal.invariant-found
invariant-found l = record {
  utf8 : shadow (Utf8 l.rest);
  same : find unprintable (chars l.rest) ≡ find unprintable (chars l.s);
}

abbrev pub decreases-found : goal.decreases-found
decreases-found l = length (chars l.rest)
