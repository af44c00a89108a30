-- What is left of events and states where no comment tells its placement.
use Rattle.std.specs.Prelude.{List, map, Option, Some, None, Result, Ok}
use Rattle.granit_base.specs.declared.style.Placement.TheVariants.{Free}
use Rattle.granit_lexemes.specs.Outcome.{Fault, ◌>>=◌}
use Rattle.granit_lexemes.specs.PlainEvent.{PlainEvent, EventKind, Comment}
use Rattle.granit_machine.specs.Frames.{Waiting, ParserState}

-- every comment as if it stood free
abbrev pub unplaced_kind : EventKind → EventKind
unplaced_kind (Comment text placement) = Comment text Free
unplaced_kind kind = kind

abbrev pub unplaced_event : PlainEvent → PlainEvent
unplaced_event e = record { kind = unplaced_kind e.kind; span = e.span }

abbrev pub unplaced_events : List PlainEvent → List PlainEvent
unplaced_events es = map unplaced_event es

abbrev pub unplaced_waiting : Option Waiting → Option Waiting
unplaced_waiting None = None
unplaced_waiting (Some w) = Some (record { at = w.at; room = w.room; held = unplaced_events w.held })

-- the parser's state: the comments that are held and those of this step
abbrev pub unplaced : ParserState → ParserState
unplaced p = record p { waiting = unplaced_waiting p.waiting; given = unplaced_events p.given }

abbrev pub unplaced_step : Result ParserState Fault → Result ParserState Fault
unplaced_step r = r >>= λ q. Ok (unplaced q)

abbrev pub unplaced_after : Result (List PlainEvent × ParserState) Fault → Result (List PlainEvent × ParserState) Fault
unplaced_after r = r >>= λ x. Ok (unplaced_events x.0, unplaced x.1)
