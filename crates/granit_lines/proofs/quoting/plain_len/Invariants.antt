use Rattle.std.proofs.Common.{◌≡◌, ◌≤◌, ◌-◌, true, length, take}
use Rattle.std.specs.List.{All}
use Rattle.granit_lines.specs.Pieces.{is_plain}
use Rattle.granit_lines.proofs.quoting.plain_len.Given as goal

abbrev pub invariant-bytes : goal.invariant-bytes
invariant-bytes l = record {
  within : l.count ≤ length l.bytes;
  plain : All (λ b. is_plain b ≡ true) (take l.count l.bytes);
}

abbrev pub decreases-bytes : goal.decreases-bytes
decreases-bytes l = length l.bytes - l.count
