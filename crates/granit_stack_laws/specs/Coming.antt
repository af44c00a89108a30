-- What comes of an include.
use Rattle.std.specs.Prelude.{◌≡◌, ◌≤◌, ℕ, false, List, [], ◌∷◌, ◌++◌, None, Some, Ok}
use Rattle.granit_base.specs.declared.place.Span.{Span}
use Rattle.granit_event.specs.declared.event.Event.{Event}
use Rattle.granit_layers.specs.Nested.{those_through}
use Rattle.granit_layers.specs.Passing.{StackRun, PassesOn, held}
use Rattle.granit_layers.specs.Stacking.{Stack, is_ending}
use Rattle.granit_layers.specs.Turning.{Next}
use Rattle.granit_layers.specs.declared.layer.Layer.{Layer}
use Rattle.granit_ids.specs.Ids.{IdsFrom}
use Rattle.granit_ids.specs.OneDocument.{document_starts}
use Rattle.granit_replay.specs.Replaying.{Replay}
use Rattle.granit_replay.specs.declared.resolver.Included.{Included}
use Rattle.granit_stack_laws.specs.Fresh.{AreNew, Happens, IdsBelow}
use Rattle.granit_stack.specs.Including.{Handling, Includes, ReadsText, Resolves, replayed}
use Rattle.granit_stack.specs.Stacked.{Stacked}

-- the text of an include above a parser, as it was found and read
pub record IncludedText {S R : Type 0} (steps : S → Next → S → Type 0) (h : Handling S R) (old : Stacked S R)
    (k : Layer S) (ks : List (Layer S)) (name : List ℕ) (new : Stacked S R) : Type 0 where
  pub text : Included
  pub found : Resolves h.answers h.errors old.resolver name (Ok text) new.resolver
  pub events : Replay
  pub read : ReadsText old.options (Some (h.offset_of k.parser)) text (Ok events)
  -- its anchors have ids that the parser below it hasn't given
  pub ids : IdsFrom (h.offset_of k.parser) (replayed events)
  -- the number that a next anchor gets then is above them all
  pub below : IdsBelow events.anchor_offset events.events
  -- where at most one of its events starts a document, steps of the stack give what was looked at, then exactly what
  -- comes through of it, and then what the parsers below give
  pub comes : document_starts (replayed events) ≤ 1 → (p q : Stack S) (given : List (Event × Span))
      → p.layers ≡ new.stack.layers → StackRun steps h.offset_of h.sets_offset p given q
      → PassesOn steps h.offset_of h.sets_offset p.emits_comments (k ∷ ks)
      (held p.peeked ++ those_through p.emits_comments events.events) given q.layers

-- an include that is answered above a parser comes through
abbrev pub IncludeComesThrough : {S R : Type 0} → (steps : S → Next → S → Type 0) → Handling S R → Type 0
IncludeComesThrough steps h =
    (old new : Stacked _ _) (k : Layer _) (ks : List (Layer _)) (name : List ℕ) → old.stack.layers ≡ k ∷ ks
    → Includes h old name (Ok tt) new → IncludedText steps h old k ks name new

-- Whatever was called of a stack since it held no parser: where it hasn't ended and isn't seen to end, the ids of each
-- text that is then read to be included above a parser are above all ids of events that were given or looked at before.
abbrev pub IncludesAreNew : {S R : Type 0} → (steps : S → Next → S → Type 0) → Handling S R → (Unread : S → Type 0)
    → Type 0
IncludesAreNew steps h Unread =
    (first old : Stacked _ _) (given : List (Event × Span)) (k : Layer _) (ks : List (Layer _)) (text : Included)
    (events : Replay) → first.stack.layers ≡ [] → first.stack.peeked ≡ None → Happens steps h Unread first given old
    → is_ending old.stack.peeked old.stack.end ≡ false → old.stack.layers ≡ k ∷ ks
    → ReadsText old.options (Some (h.offset_of k.parser)) text (Ok events)
    → AreNew (given ++ held old.stack.peeked) events.events
