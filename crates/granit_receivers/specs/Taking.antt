-- What a receiver tells of the events that it took.
use Rattle.std.specs.Prelude.{◌≡◌, ℕ, List, map, ◌++◌, ⊤, Option, Some, None}
use Rattle.granit_base.specs.declared.place.Span.{Span}
use Rattle.granit_event.specs.declared.event.Event.{Event}

-- a list grew by these at its end, where it is told
abbrev pub Grows : {A : Type 0} → Option (List A) → Option (List A) → List A → Type 0
Grows None new xs = ⊤
Grows (Some ys) None xs = ⊥
Grows (Some ys) (Some zs) xs = zs ≡ ys ++ xs

abbrev pub event_in : Event × Span → Event
event_in x = x.0

abbrev pub place_in : Event × Span → Span
place_in x = x.1

-- what a receiver tells: the events that it took, and their places
pub record Told : Type 0 where
  pub events : Option (List Event)
  pub places : Option (List Span)

-- a receiver took these events at these places, in order and no others, as far as it tells them
pub record Took (old new : Told) (xs : List (Event × Span)) : Type 0 where
  pub events : Grows old.events new.events (map event_in xs)
  pub places : Grows old.places new.places (map place_in xs)
