use Rattle.std.proofs.Common.{◌≡◌, ◌∙◌, ◌++◌, ◌+◌, ◌<◌, ℕ, List, append_assoc, length, get_or, drop, map, sym, ap}
use Rattle.std.proofs.lemmas.List.{append-nil, at_drop_more}
use Rattle.granit_lexemes.specs.Line.{event_line, event_lines}
use Rattle.granit_base.specs.declared.place.Span.{Span}
use Rattle.granit_event.specs.declared.event.Event.{Event}
use Rattle.granit_event.specs.Events.{plain_event}
use Rattle.granit_load.proofs.lines.push_lines.Goals as goal

abbrev lines_from : List (Event × Span) → ℕ → List ℕ
lines_from events i = event_lines (map plain_event (drop i events))

next_line : (events : List (Event × Span)) (i : ℕ) (item : Event × Span) → i < length events
    → item ≡ get_or events i item → lines_from events i ≡ event_line (plain_event item) ++ lines_from events (i + 1)
next_line events i item h e =
    at_drop_more (λ (es : List (Event × Span)). event_lines (map plain_event es)) events i item h
    ∙ ap (λ (x : Event × Span). event_line (plain_event x) ++ lines_from events (i + 1)) (sym e)

pub events-preserved : goal.events-preserved
events-preserved c = record {
  pushed =
      let item = c.events-item.result in
      let rest = lines_from c.args.events.now (c.events.event-index + 1) in
      ap (λ (xs : List ℕ). xs ++ rest) c.in_ok-push_line.ensures
      ∙ (append_assoc c.events.page (event_line (plain_event item)) rest
      ∙ (ap (λ (xs : List ℕ). c.events.page ++ xs)
      (sym (next_line c.args.events.now c.events.event-index item c.events-test.true c.events-item.is))
      ∙ c.events.invariant.pushed));
}
