use Rattle.std.proofs.Common.{◌≡◌, ◌+◌, ◌-◌, ◌≤◌, vec_len}
use Rattle.std.specs.Io.KnownBytes.{Consumes}
use Rattle.granit_events.specs.Came.{most_bytes}
use Rattle.granit_events.proofs.reading.read_all.Given as goal

abbrev pub invariant-chunks : goal.invariant-chunks
invariant-chunks g l = record {
  came : Consumes (g.S.ByteSource.left l.fn.source) (g.S.ByteSource.left l.source) l.bytes.items;
  fits : vec_len l.bytes ≤ most_bytes + 1;
  same : g.S.ByteSource.faults l.source ≡ g.S.ByteSource.faults l.fn.source;
}

abbrev pub decreases-chunks : goal.decreases-chunks
decreases-chunks g l = most_bytes + 1 - vec_len l.bytes
