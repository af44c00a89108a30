-- What is sent to a receiver, and what is lent to who looks at the next event.
use Rattle.std.specs.Prelude.{Bool, true, false, not, Option, Some, None, Result, Ok, Err}
use Rattle.std.specs.Borrow.{Bor}
use Rattle.granit_base.specs.declared.place.Span.{Span}
use Rattle.granit_error.specs.Refused.{Refused}
use Rattle.granit_event.specs.declared.event.Event.{Event}
use Rattle.granit_lexemes.specs.PlainEvent.{EventKind, StreamEnd, DocumentEnd}

-- whether an event is the last that is sent: the end of the stream, or of a document where one is all that is wanted
abbrev pub is_last : (multi : Bool) → EventKind → Bool
is_last multi StreamEnd = true
is_last multi DocumentEnd = not multi
is_last multi kind = false

-- what is lent of what a call gives
abbrev pub shown : Option (Result (Bor (Event × Span)) (Bor Refused)) → Option (Result (Event × Span) Refused)
shown None = None
shown (Some (Ok e)) = Some (Ok e.now)
shown (Some (Err e)) = Some (Err e.now)
