use Rattle.std.proofs.Common.{◌≡◌, drop}
use Rattle.granit_replay.specs.Replaying.{raised_by_all}
use Rattle.granit_stack.proofs.include.number_behind.Given as goal

abbrev pub invariant-events : goal.invariant-events
invariant-events l = raised_by_all l.number (drop l.event-index l.events) ≡ raised_by_all l.above l.events
