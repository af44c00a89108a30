-- What comes through of a source that lies on another one.
use Rattle.std.specs.Prelude.{◌≡◌, Bool, true, false, if◌then◌else◌, List, [], ◌∷◌, Option, Some, None}
use Rattle.std.specs.Option.{option_map}
use Rattle.granit_base.specs.declared.place.Span.{Span}
use Rattle.granit_event.specs.declared.event.Event.{Event}
use Rattle.granit_event.specs.Events.{event_kind}
use Rattle.granit_layers.specs.Turning.{part_of, turn_on}
use Rattle.granit_layers.specs.declared.turn.Part.{Part}
use Rattle.granit_layers.specs.declared.turn.Part.TheVariants as parts
use Rattle.granit_layers.specs.declared.turn.Turn.{Turn}
use Rattle.granit_layers.specs.declared.turn.Turn.TheVariants.{Gives, Withholds, Leaves, Ends, Fails}

-- what is given from a turn on, where something is refused nothing is told
abbrev pub given_from : (ended : Option Span) → Turn → (Option Span → Option (List (Event × Span)))
    → Option (List (Event × Span))
given_from ended (Gives e) more = option_map (λ es. e ∷ es) (more ended)
given_from ended (Withholds end) more = more end
given_from ended Leaves more = Some []
given_from ended (Ends e) more = Some (e ∷ [])
given_from ended (Fails e) more = None

-- what is given of all events of a source that lies on another one, up to where it leaves
abbrev pub given_above : (emits_comments : Bool) → (ended : Option Span) → List (Event × Span)
    → Option (List (Event × Span))
given_above emits_comments ended [] = Some []
given_above emits_comments ended (e ∷ es) =
    given_from ended (turn_on false emits_comments ended e (part_of (event_kind e.0)))
    (λ end. given_above emits_comments end es)

-- where a part may stand in a source of at most one document: behind the document's end only comments do, and behind
-- the stream's end nothing
abbrev pub PartMayStand : (ended : Bool) → Part → (More : Bool → Type 0) → (IsLast : Type 0) → Type 0
PartMayStand ended parts.StreamEnd More IsLast = IsLast
PartMayStand ended parts.Comment More IsLast = More ended
PartMayStand true part More IsLast = ⊥
PartMayStand false parts.DocumentEnd More IsLast = More true
PartMayStand false part More IsLast = More false

-- a source of at most one document, which has ended or not
abbrev pub IsOneDocument : (ended : Bool) → List (Event × Span) → Type 0
IsOneDocument ended [] = Unit {0}
IsOneDocument ended (e ∷ es) =
    PartMayStand ended (part_of (event_kind e.0)) (λ behind. IsOneDocument behind es) (es ≡ [])

-- whether an event comes through: no stream and no document begins or ends, and comments are asked for
abbrev pub comes_through : (emits_comments : Bool) → Part → Bool
comes_through emits_comments parts.Comment = emits_comments
comes_through emits_comments parts.Content = true
comes_through emits_comments part = false

-- of these events those that come through, in order
abbrev pub those_through : (emits_comments : Bool) → List (Event × Span) → List (Event × Span)
those_through emits_comments [] = []
those_through emits_comments (e ∷ es) =
    if comes_through emits_comments (part_of (event_kind e.0)) then e ∷ those_through emits_comments es
    else those_through emits_comments es

-- A source of at most one document that lies on another one gives exactly its events but for the beginnings and ends of
-- the stream and of the document, and its comments where they are asked for. Nothing of it is refused.
abbrev pub OneDocumentComesThrough : Type 0
OneDocumentComesThrough =
    (emits_comments : Bool) (es : List (Event × Span)) → IsOneDocument false es
    → given_above emits_comments None es ≡ Some (those_through emits_comments es)
