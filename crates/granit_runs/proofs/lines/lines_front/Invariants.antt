use Rattle.std.proofs.Common.{◌≡◌, ◌≤◌, ◌-◌, ◌⊎◌, length, take}
use Rattle.std.specs.Str.{chars}
use Rattle.granit_base.specs.Place.{first}
use Rattle.granit_runs.specs.Cuts.{IsAsciiFront}
use Rattle.granit_runs.specs.Lines.{is_line_gap, feed_count, column_behind}
use Rattle.granit_runs.specs.Runs.{starts}
use Rattle.granit_runs.proofs.lines.lines_front.Given as goal

abbrev pub invariant-lines : goal.invariant-lines
invariant-lines l = record {
  front : IsAsciiFront (starts is_line_gap) l.s l.at;
  lines : l.lines ≡ feed_count (take l.at (chars l.s));
  spaces : l.spaces ≡ column_behind 0 (take l.at (chars l.s));
  begins : (l.at ≡ 0) ⊎ (first (chars l.s) ≡ 0x0A);
  few : l.lines ≤ l.at;
  short : l.spaces ≤ l.at;
}

abbrev pub decreases-lines : goal.decreases-lines
decreases-lines l = length l.bytes - l.at
