-- The ids of anchors over the life of a stack.
use Rattle.std.specs.Prelude.{◌≡◌, ◌⊎◌, ℕ, ◌<◌, ◌≤◌, List, [], ◌∷◌, ◌++◌, Option, Some, None, Result, Ok}
use Rattle.granit_base.specs.Counts.{last_count}
use Rattle.granit_base.specs.Written.{Written}
use Rattle.granit_base.specs.declared.place.Span.{Span}
use Rattle.granit_error.specs.Refused.{Refused}
use Rattle.granit_event.specs.declared.event.Event.{Event}
use Rattle.granit_event.specs.Events.{event_kind}
use Rattle.granit_layers.specs.Passing.{held}
use Rattle.granit_layers.specs.Stacking.{Answer, PeeksAs, Pushes, StepsTo}
use Rattle.granit_layers.specs.Turning.{Next}
use Rattle.granit_ids.specs.Ids.{id_of}
use Rattle.granit_stack.specs.Including.{Handling, IncludesNamed}
use Rattle.granit_stack.specs.Stacked.{Stacked}

-- an event gives no anchor, or one with an id below that number
abbrev pub IdBelow : ℕ → Event × Span → Type 0
IdBelow n e = (id_of (event_kind e.0) ≡ 0) ⊎ (id_of (event_kind e.0) < n)

abbrev pub IdsBelow : ℕ → List (Event × Span) → Type 0
IdsBelow n [] = Unit {0}
IdsBelow n (e ∷ es) = IdBelow n e × IdsBelow n es

-- Parsers whose numbers are above the ids that they give: a step leaves a number that is no less than before, and above
-- the id that it gives, unless it is the greatest of 64 bits; and a number is set to at least what is asked for, where
-- that isn't less than it was or nothing was read yet.
pub record Numbering {S : Type 0} (steps : S → Next → S → Type 0) (offset : S → ℕ) (sets : ℕ → S → S → Type 0)
    (above : S → ℕ → ℕ) (Good Unread : S → Type 0) : Type 0 where
  pub bound : (p : S) → Good p → offset p ≤ last_count
  pub gives : (p q : S) (e : Event × Span) → Good p → steps p (Some (Ok e)) q → Good q × (offset p ≤ offset q)
  pub ids : (p q : S) (e : Event × Span) → Good p → steps p (Some (Ok e)) q → offset q < last_count
      → IdBelow (offset q) e
  pub ends : (p q : S) → Good p → steps p None q → Good q × (offset p ≤ offset q)
  pub raises : (n : ℕ) (p q : S) → Good p → offset p ≤ n → n ≤ last_count → sets n p q → Good q × (n ≤ offset q)
  pub begins : (n : ℕ) (p q : S) → Unread p → n ≤ last_count → sets n p q → Good q × (n ≤ offset q)
  pub lies : (n : ℕ) (p : S) → Unread p → n ≤ last_count → (n ≤ above p n) × (above p n ≤ last_count)
  pub alone : (p : S) → Unread p → Good p

-- a call leaves all of a stack as it was but for its parsers
abbrev pub LaysOnly : {S R : Type 0} → Stacked S R → Stacked S R → Type 0
LaysOnly old new = new.stack ≡ record (old.stack) { layers = new.stack.layers }

-- Calls of a stack one behind the other, whatever they answer, and the events that `next_event` gives: `next_event`,
-- `peek`, pushes of parsers of which nothing was read, `push_include`, and such as don't change the parsers.
pub data Happens {S R : Type 0} (steps : S → Next → S → Type 0) (h : Handling S R) (Unread : S → Type 0)
    : Stacked S R → List (Event × Span) → Stacked S R → Type 0 where
  nothing : {p : Stacked S R} → Happens steps h Unread p [] p
  is_next : {p mid q : Stacked S R} {es : List (Event × Span)} (r : Option Answer)
      → StepsTo steps h.offset_of h.sets_offset p.stack r mid.stack → Happens steps h Unread mid es q
      → Happens steps h Unread p (held r ++ es) q
  is_seen : {p mid q : Stacked S R} {es : List (Event × Span)} (r : Option Answer)
      → PeeksAs steps h.offset_of h.sets_offset p.stack r mid.stack → Happens steps h Unread mid es q
      → Happens steps h Unread p es q
  is_pushed : {p mid q : Stacked S R} {es : List (Event × Span)} (parser : S) (name : Written) → Unread parser
      → Pushes h.offset_of h.sets_offset h.offset_over p.stack.layers parser name mid.stack.layers → LaysOnly p mid
      → Happens steps h Unread mid es q → Happens steps h Unread p es q
  is_included : {p mid q : Stacked S R} {es : List (Event × Span)} (name : List ℕ) (r : Result (Unit {0}) Refused)
      → IncludesNamed h p name r mid → LaysOnly p mid → Happens steps h Unread mid es q
      → Happens steps h Unread p es q
  is_kept : {p mid q : Stacked S R} {es : List (Event × Span)} → mid.stack ≡ p.stack
      → Happens steps h Unread mid es q → Happens steps h Unread p es q

-- each of these events gives no anchor, or one with an id above all ids of the others
abbrev pub AreNew : (others : List (Event × Span)) → List (Event × Span) → Type 0
AreNew others [] = Unit {0}
AreNew others (e ∷ es) =
    ((id_of (event_kind e.0) ≡ 0) ⊎ IdsBelow (id_of (event_kind e.0)) others) × AreNew others es
