use Rattle.std.proofs.Common.{◌≡◌, ◌-◌, length, take}
use Rattle.std.specs.Str.{chars}
use Rattle.granit_runs.specs.Cuts.{IsAsciiFront}
use Rattle.granit_runs.specs.Runs.{starts}
use Rattle.granit_runs.specs.White.{is_skipped, whitespace_found}
use Rattle.granit_runs.proofs.cuts.white_front.Given as goal

abbrev pub invariant-white : goal.invariant-white
invariant-white l = record {
  front : IsAsciiFront (starts (is_skipped l.skip_tabs)) l.s l.count;
  found : l.found ≡ whitespace_found (take l.count (chars l.s));
}

abbrev pub decreases-white : goal.decreases-white
decreases-white l = length l.bytes - l.count
