use Rattle.std.proofs.Common.{◌≡◌, ◌+◌, ◌-◌, length, take}
use Rattle.std.specs.Str.{chars}
use Rattle.granit_runs.specs.Cuts.{IsAsciiFront}
use Rattle.granit_runs.specs.Lines.{is_line_gap, feed_count, column_behind}
use Rattle.granit_runs.specs.Runs.{starts}
use Rattle.granit_runs.proofs.lines.spaces_at.Given as goal

abbrev pub invariant-spaces : goal.invariant-spaces
invariant-spaces l = record {
  front : IsAsciiFront (starts is_line_gap) l.s (l.from + l.count);
  lines : feed_count (take (l.from + l.count) (chars l.s)) ≡ feed_count (take l.from (chars l.s));
  spaces : column_behind 0 (take (l.from + l.count) (chars l.s))
      ≡ column_behind 0 (take l.from (chars l.s)) + l.count;
}

abbrev pub decreases-spaces : goal.decreases-spaces
decreases-spaces l = length l.bytes - (l.from + l.count)
