use Rattle.std.proofs.Common.{◌≡◌, None}
use Rattle.granit_tally.proofs.count_batches.Given as goal

abbrev pub invariant-batches : goal.invariant-batches
invariant-batches l = record { seen : l.parser.peeked ≡ None }
