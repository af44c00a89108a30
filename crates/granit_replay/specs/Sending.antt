-- What a replay sends to a receiver.
use Rattle.std.specs.Prelude.{◌≡◌, Bool, false, if◌then◌else◌, List, [], ◌∷◌, ◌++◌}
use Rattle.granit_base.specs.declared.place.Span.{Span}
use Rattle.granit_event.specs.declared.event.Event.{Event}
use Rattle.granit_event.specs.Events.{event_kind}
use Rattle.granit_receivers.specs.Sending.{is_last}
use Rattle.granit_receivers.specs.declared.error.TryLoadError.{TryLoadError}
use Rattle.granit_receivers.specs.declared.error.TryLoadError.TheVariants.{Scan, Receiver}
use Rattle.granit_replay.specs.Replaying.{Replay, raised_by_all}

-- whether an event with its place is the last that is sent
abbrev pub ends_with : (multi : Bool) → Event × Span → Bool
ends_with multi e = is_last multi (event_kind e.0)

-- of these events those that are sent: up to the last, or all
abbrev pub sent : (multi : Bool) → List (Event × Span) → List (Event × Span)
sent multi [] = []
sent multi (e ∷ es) = e ∷ (if ends_with multi e then [] else sent multi es)

-- those that are left then
abbrev pub unsent : (multi : Bool) → List (Event × Span) → List (Event × Span)
unsent multi [] = []
unsent multi (e ∷ es) = if ends_with multi e then es else unsent multi es

-- what a replay is when it has sent them
abbrev pub behind_sent : (multi : Bool) → Replay → Replay
behind_sent multi p = record {
  events = unsent multi p.events;
  anchor_offset = raised_by_all p.anchor_offset (sent multi p.events);
}

-- behind each of these events the sending goes on
abbrev pub SendingGoesOn : (multi : Bool) → List (Event × Span) → Type 0
SendingGoesOn multi [] = Unit {0}
SendingGoesOn multi (e ∷ es) = (ends_with multi e ≡ false) × SendingGoesOn multi es

-- the receiver took these events, refused this one, and no more were sent
pub record StopsSendingAt (multi : Bool) (Takes : List (Event × Span) → Type 0) (old new : Replay) : Type 0 where
  pub before : List (Event × Span)
  pub refused : Event × Span
  pub goes_on : SendingGoesOn multi before
  pub took : Takes (before ++ refused ∷ [])
  pub events : old.events ≡ (before ++ refused ∷ []) ++ new.events
  pub offset : new.anchor_offset ≡ raised_by_all old.anchor_offset (before ++ refused ∷ [])

-- what stopped the sending was the receiver
abbrev pub IsReceivers : {E : Type 0} → TryLoadError E → Type 0
IsReceivers (Scan e) = ⊥
IsReceivers (Receiver e) = Unit {0}
