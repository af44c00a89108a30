-- What the rule on stacks makes of a step of a parser.
use Rattle.std.specs.Prelude.{Bool, if◌then◌else◌, [], Option, Some, None, Result, Ok, Err}
use Rattle.granit_base.specs.Place.{Mark}
use Rattle.granit_base.specs.declared.place.Span.{Span}
use Rattle.granit_error.specs.FaultKind.{MultipleDocumentsUnsupported}
use Rattle.granit_error.specs.Refused.{Refused}
use Rattle.granit_event.specs.declared.event.Event.{Event}
use Rattle.granit_event.specs.declared.event.Event.TheVariants as events
use Rattle.granit_event.specs.Events.{event_kind}
use Rattle.granit_layers.specs.declared.turn.Part.{Part}
use Rattle.granit_layers.specs.declared.turn.Part.TheVariants as parts
use Rattle.granit_layers.specs.declared.turn.Turn.{Turn}
use Rattle.granit_layers.specs.declared.turn.Turn.TheVariants.{Gives, Withholds, Leaves, Ends, Fails}
use Rattle.granit_lexemes.specs.Here.{first_place}
use Rattle.granit_lexemes.specs.PlainEvent.{EventKind, StreamStart, StreamEnd, DocumentStart, DocumentEnd, Comment}
use Rattle.granit_lexemes.specs.PlainEvent.{plain_span}

-- what a step of a parser gives: an event, why there is none, or nothing more
abbrev pub Next : Type 0
Next = Option (Result (Event × Span) Refused)

-- what the event is to a stack
abbrev pub part_of : EventKind → Part
part_of StreamStart = parts.Start
part_of (DocumentStart explicit version) = parts.Start
part_of DocumentEnd = parts.DocumentEnd
part_of StreamEnd = parts.StreamEnd
part_of (Comment text placement) = parts.Comment
part_of kind = parts.Content

-- the end of a stream that no text has
abbrev pub bare_end : Event × Span
bare_end =
    let start : Mark = record { place = first_place; byte_offset = None } in
    (events.StreamEnd, plain_span start start)

-- a source goes on behind its document, which ended there
abbrev pub more_documents : Span → Refused
more_documents end = record { kind = MultipleDocumentsUnsupported; mark = end.start; sources = [] }

-- What comes of an event. Above the bottom parser no stream and no document begins or ends; behind the end of its
-- document, which is known once it was withheld, a parser gives comments and then ends. Comments come through where
-- they are asked for.
abbrev pub turn_on : (is_bottom emits_comments : Bool) → (ended : Option Span) → Event × Span → Part → Turn
turn_on is_bottom emits_comments ended e parts.StreamEnd = if is_bottom then Ends e else Leaves
turn_on is_bottom emits_comments ended e parts.Comment = if emits_comments then Gives e else Withholds ended
turn_on is_bottom emits_comments (Some end) e part = Fails (more_documents end)
turn_on is_bottom emits_comments None e parts.Start = if is_bottom then Gives e else Withholds None
turn_on is_bottom emits_comments None e parts.DocumentEnd = if is_bottom then Gives e else Withholds (Some e.1)
turn_on is_bottom emits_comments None e parts.Content = Gives e

-- What comes of a step. Nothing more from the bottom parser stands for the end of the stream.
abbrev pub turn_of : (is_bottom emits_comments : Bool) → (ended : Option Span) → Next → Turn
turn_of is_bottom emits_comments ended None = if is_bottom then Ends bare_end else Leaves
turn_of is_bottom emits_comments ended (Some (Err e)) = Fails e
turn_of is_bottom emits_comments ended (Some (Ok e)) =
    turn_on is_bottom emits_comments ended e (part_of (event_kind e.0))

-- the end of its document that is known of a parser then
abbrev pub ended_behind : Turn → Option Span → Option Span
ended_behind (Withholds end) ended = end
ended_behind turn ended = ended
