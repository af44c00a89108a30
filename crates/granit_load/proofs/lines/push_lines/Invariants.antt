use Rattle.std.proofs.Common.{◌≡◌, ◌++◌, drop, map}
use Rattle.granit_event.specs.Events.{plain_event}
use Rattle.granit_lexemes.specs.Line.{event_lines}
use Rattle.granit_load.proofs.lines.push_lines.Given as goal

abbrev pub invariant-events : goal.invariant-events
invariant-events l = record {
  pushed : l.page ++ event_lines (map plain_event (drop l.event-index l.events))
      ≡ l.fn.page ++ event_lines (map plain_event l.events);
}
