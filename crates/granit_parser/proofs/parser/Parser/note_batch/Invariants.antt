use Rattle.std.proofs.Common.{◌≡◌, ◌≤◌, length}
use Rattle.granit_parser.proofs.parser.Parser.note_batch.Given as goal

abbrev pub invariant-events : goal.invariant-events
invariant-events g l = record {
  within : l.left ≤ length l.fn.events;
  same : l.self ≡ record (l.fn.self) { over = l.self.over };
}

abbrev pub decreases-events : goal.decreases-events
decreases-events g l = l.left
