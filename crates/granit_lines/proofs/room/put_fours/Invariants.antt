use Rattle.std.proofs.Common.{◌≡◌, ◌+◌, ◌≤◌, ◌-◌, ◌++◌, true, length, take}
use Rattle.std.specs.List.{All}
use Rattle.granit_lines.specs.Pieces.{is_plain}
use Rattle.granit_lines.proofs.room.put_fours.Given as goal

abbrev pub invariant-fours : goal.invariant-fours
invariant-fours l = record {
  within : l.count ≤ length l.bytes;
  size : length l.room ≡ length l.fn.room;
  plain : All (λ b. is_plain b ≡ true) (take l.count l.bytes);
  put : take (l.at + l.count) l.room ≡ take l.at l.fn.room ++ take l.count l.bytes;
}

abbrev pub decreases-fours : goal.decreases-fours
decreases-fours l = length l.bytes - l.count
