-- As many events are answered as stand for them.
use Rattle.std.proofs.Common.{◌≡◌, List, length, sym, ap, ◌∙◌}
use Rattle.std.proofs.lemmas.List.{length-map}
use Rattle.granit_base.specs.declared.place.Span.{Span}
use Rattle.granit_event.specs.Events.{plain_events}
use Rattle.granit_event.specs.declared.event.Event.{Event}
use Rattle.granit_lexemes.specs.PlainEvent.{PlainEvent}

pub events_counted : (v : List (Event × Span)) (es : List PlainEvent) → plain_events v ≡ es → length v ≡ length es
events_counted v es e = sym (length-map v _) ∙ ap length e
