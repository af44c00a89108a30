-- What comes through of events that are given once more above other parsers.
use Rattle.std.specs.Prelude.{◌≡◌, ◌⊎◌, ℕ, Bool, false, List, [], ◌∷◌, ◌++◌, Option, Some, None, Ok, Err}
use Rattle.granit_base.specs.Written.{Written}
use Rattle.granit_base.specs.declared.place.Span.{Span}
use Rattle.granit_event.specs.declared.event.Event.{Event}
use Rattle.granit_layers.specs.Nested.{IsOneDocument, those_through}
use Rattle.granit_layers.specs.Stacking.{Answer, PeeksAs, Stack, StepsTo, TurnsOnce, Uncovers, layer_of}
use Rattle.granit_layers.specs.Turning.{Next}
use Rattle.granit_layers.specs.declared.layer.Layer.{Layer}
use Rattle.granit_replay.specs.Replaying.{Replay, behind_next, next_of}

-- steps of such a parser give the events that are left, one by one
abbrev pub Replays : {S : Type 0} → (S → Next → S → Type 0) → (Replay → S) → Type 0
Replays steps again =
    (p : Replay) (r : Next) (q : _) → steps (again p) r q → (r ≡ next_of p) × (q ≡ again (behind_next p))

-- turns of a stack, one behind the other, and the events that they give
pub data Turns {S : Type 0} (steps : S → Next → S → Type 0) (offset : S → ℕ) (sets : ℕ → S → S → Type 0)
    (emits_comments : Bool) : List (Layer S) → List (Event × Span) → List (Layer S) → Type 0 where
  no_turn : {ls : List (Layer S)} → Turns steps offset sets emits_comments ls [] ls
  quiet_turn : {old mid new : List (Layer S)} {es : List (Event × Span)}
      → TurnsOnce steps offset sets emits_comments old None mid → Turns steps offset sets emits_comments mid es new
      → Turns steps offset sets emits_comments old es new
  giving_turn : {old mid new : List (Layer S)} {e : Event × Span} {es : List (Event × Span)}
      → TurnsOnce steps offset sets emits_comments old (Some (Ok e)) mid
      → Turns steps offset sets emits_comments mid es new → Turns steps offset sets emits_comments old (e ∷ es) new

-- steps of a stack, one behind the other, and the events that they give
pub data StackRun {S : Type 0} (steps : S → Next → S → Type 0) (offset : S → ℕ) (sets : ℕ → S → S → Type 0)
    : Stack S → List (Event × Span) → Stack S → Type 0 where
  no_call : {p : Stack S} → StackRun steps offset sets p [] p
  one_call : {p mid q : Stack S} {e : Event × Span} {es : List (Event × Span)}
      → StepsTo steps offset sets p (Some (Ok e)) mid → StackRun steps offset sets mid es q
      → StackRun steps offset sets p (e ∷ es) q

-- calls of a stack that give events, where nothing was looked at, are turns that give them
abbrev pub CallsAreTurns : {S : Type 0} → (steps : S → Next → S → Type 0) → (offset : S → ℕ)
    → (sets : ℕ → S → S → Type 0) → Type 0
CallsAreTurns steps offset sets =
    (p q : Stack _) (given : List (Event × Span)) → p.peeked ≡ None → StackRun steps offset sets p given q
    → Turns steps offset sets p.emits_comments p.layers given q.layers

-- a look at an event is turns that give it, and the call that then gives it is none
abbrev pub LooksAreTurns : {S : Type 0} → (steps : S → Next → S → Type 0) → (offset : S → ℕ)
    → (sets : ℕ → S → S → Type 0) → Type 0
LooksAreTurns steps offset sets =
    (p q t : Stack _) (e : Event × Span) (r : Option Answer) → p.peeked ≡ None
    → PeeksAs steps offset sets p (Some (Ok e)) q → StepsTo steps offset sets q r t
    → Turns steps offset sets p.emits_comments p.layers (e ∷ []) q.layers × (r ≡ Some (Ok e)) × (t.layers ≡ q.layers)

-- the event that was looked at and not taken
abbrev pub held : Option Answer → List (Event × Span)
held None = []
held (Some (Err e)) = []
held (Some (Ok e)) = e ∷ []

-- of these events some were given, and the others are still to come
abbrev pub GivesFirstOf : List (Event × Span) → List (Event × Span) → Type 0
GivesFirstOf all given = (rest : List (Event × Span)) × (all ≡ given ++ rest)

-- all of these events were given, and then what the parsers below give
abbrev pub GivesBelow : {S : Type 0} → (steps : S → Next → S → Type 0) → (offset : S → ℕ)
    → (sets : ℕ → S → S → Type 0) → (emits_comments : Bool) → (below : List (Layer S)) → List (Event × Span)
    → List (Event × Span) → List (Layer S) → Type 0
GivesBelow steps offset sets emits_comments below all given new =
    (more : List (Event × Span)) × (given ≡ all ++ more)
    × ((top : Layer _) × (left : List (Layer _)) × Uncovers offset sets (top ∷ below) left
    × Turns steps offset sets emits_comments left more new)

abbrev pub PassesOn : {S : Type 0} → (steps : S → Next → S → Type 0) → (offset : S → ℕ)
    → (sets : ℕ → S → S → Type 0) → (emits_comments : Bool) → (below : List (Layer S)) → List (Event × Span)
    → List (Event × Span) → List (Layer S) → Type 0
PassesOn steps offset sets emits_comments below all given new =
    GivesFirstOf all given ⊎ GivesBelow steps offset sets emits_comments below all given new

-- Events of at most one document that are given once more above another parser: steps of the stack give first what was
-- looked at, then exactly those events but for the beginnings and ends of the stream and of the document, and comments
-- where they are asked for, and then what the parsers below give.
abbrev pub ReplayComesThrough : {S : Type 0} → (steps : S → Next → S → Type 0) → (offset : S → ℕ)
    → (sets : ℕ → S → S → Type 0) → (again : Replay → S) → Type 0
ReplayComesThrough steps offset sets again =
    (p q : Stack _) (name : Written) (r : Replay) (k : Layer _) (ks : List (Layer _)) (given : List (Event × Span))
    → p.layers ≡ layer_of (again r) name ∷ k ∷ ks → IsOneDocument false r.events → StackRun steps offset sets p given q
    → PassesOn steps offset sets p.emits_comments (k ∷ ks)
    (held p.peeked ++ those_through p.emits_comments r.events) given q.layers
