-- What contracts see of a replay, and what its steps give.
use Rattle.std.specs.Prelude.{◌≡◌, ℕ, ◌+◌, ◌-◌, ◌^◌, min, max, List, [], ◌∷◌, Option, Some, None, Result, Ok, Err}
use Rattle.granit_base.specs.declared.place.Span.{Span}
use Rattle.granit_error.specs.Refused.{Refused}
use Rattle.granit_event.specs.declared.event.Event.{Event}
use Rattle.granit_event.specs.Events.{event_kind}
use Rattle.granit_event.specs.Helpers.{anchor_of}

-- the events that are left, and the number that a next anchor gets
pub record Replay : Type 0 where
  pub events : List (Event × Span)
  pub anchor_offset : ℕ

-- at least the number behind an anchor's, held at the greatest number of 64 bits
abbrev pub raised_over : Option ℕ → ℕ → ℕ
raised_over None offset = offset
raised_over (Some id) offset = max offset (min (id + 1) (2 ^ 64 - 1))

-- the number behind an event
abbrev pub raised_by : ℕ → Event × Span → ℕ
raised_by offset e = raised_over (anchor_of (event_kind e.0)) offset

-- the number behind events in order
abbrev pub raised_by_all : ℕ → List (Event × Span) → ℕ
raised_by_all offset [] = offset
raised_by_all offset (e ∷ es) = raised_by_all (raised_by offset e) es

-- the first event that is left
abbrev pub first_of : List (Event × Span) → Option (Event × Span)
first_of [] = None
first_of (e ∷ es) = Some e

-- what is left behind the first event, which raises the number
abbrev pub replay_behind_first : ℕ → List (Event × Span) → Replay
replay_behind_first offset [] = record { events = []; anchor_offset = offset }
replay_behind_first offset (e ∷ es) = record { events = es; anchor_offset = raised_by offset e }

-- an event as a parser gives it
abbrev pub given_event : Option (Event × Span) → Option (Result (Event × Span) Refused)
given_event None = None
given_event (Some e) = Some (Ok e)

-- what a step gives: the first event that is left, and none where none is
abbrev pub next_of : Replay → Option (Result (Event × Span) Refused)
next_of p = given_event (first_of p.events)

-- what a step leaves
abbrev pub behind_next : Replay → Replay
behind_next p = replay_behind_first p.anchor_offset p.events

-- a look shows what the next step gives, and changes nothing
pub record ReplayPeeksAs (old : Replay) (r : Option (Result (Event × Span) Refused)) (new : Replay) : Type 0 where
  pub shows : r ≡ next_of old
  pub same : new ≡ old
