-- What contracts see of a stack of parsers, and what its calls give.
use Rattle.std.specs.Prelude.{◌≡◌, ◌⊎◌, ℕ, ◌+◌, max, Bool, true, false, if◌then◌else◌, List, [], ◌∷◌, ◌++◌}
use Rattle.std.specs.Prelude.{Option, Some, None, Result, Ok, Err}
use Rattle.granit_base.specs.Counts.{last_count}
use Rattle.granit_base.specs.Written.{Written}
use Rattle.granit_base.specs.declared.place.Span.{Span}
use Rattle.granit_error.specs.FaultKind.{NoMemory}
use Rattle.granit_error.specs.Refused.{Refused}
use Rattle.granit_event.specs.declared.event.Event.{Event}
use Rattle.granit_event.specs.Events.{event_kind}
use Rattle.granit_layers.specs.Turning.{Next, bare_end, ended_behind, part_of, turn_of}
use Rattle.granit_layers.specs.declared.layer.Layer.{Layer}
use Rattle.granit_layers.specs.declared.turn.Part.{Part}
use Rattle.granit_layers.specs.declared.turn.Part.TheVariants as parts
use Rattle.granit_layers.specs.declared.turn.Turn.{Turn}
use Rattle.granit_layers.specs.declared.turn.Turn.TheVariants.{Gives, Withholds, Leaves, Ends, Fails}
use Rattle.granit_receivers.specs.Kept.{IsKept}

-- an event and its place, or why there is none
abbrev pub Answer : Type 0
Answer = Result (Event × Span) Refused

-- The parsers, the top one first; whether comments come through; what was looked at and not taken; and how the stack
-- ended, once its end or a refusal was given.
pub record Stack (S : Type 0) : Type 0 where
  pub layers : List (Layer S)
  pub emits_comments : Bool
  pub peeked : Option Answer
  pub end : Option (Result (Unit {0}) Refused)

abbrev pub layers_of : {S : Type 0} → Option (Layer S) → List (Layer S) → List (Layer S)
layers_of None below = below
layers_of (Some top) below = top ∷ below

-- nothing lies below no top
abbrev pub LiesBelow : {S : Type 0} → Option (Layer S) → List (Layer S) → Type 0
LiesBelow None below = below ≡ []
LiesBelow (Some top) below = Unit {0}

-- nothing is looked at behind the end
abbrev pub NoLookBehindEnd : Option Answer → Option (Result (Unit {0}) Refused) → Type 0
NoLookBehindEnd None end = Unit {0}
NoLookBehindEnd (Some r) end = end ≡ None

abbrev pub is_stream_end : Part → Bool
is_stream_end parts.StreamEnd = true
is_stream_end part = false

-- the names of the parsers, the bottom one's first
abbrev pub names_of : {S : Type 0} → List (Layer S) → List Written
names_of [] = []
names_of (l ∷ ls) = names_of ls ++ l.name ∷ []

-- an error with the names of a stack of two or more, unless memory ran out; that of a single parser stays as it is
abbrev pub IsNamed : {S : Type 0} → List (Layer S) → Refused → Refused → Type 0
IsNamed (l ∷ k ∷ ks) e f = (f ≡ record e { sources = names_of (l ∷ k ∷ ks) }) ⊎ (f.kind ≡ NoMemory)
IsNamed ls e f = f ≡ e

-- the offset of the top parser, 0 where there is none
abbrev pub top_offset : {S : Type 0} → (S → ℕ) → List (Layer S) → ℕ
top_offset offset [] = 0
top_offset offset (l ∷ ls) = offset l.parser

-- a parser without its end, as it is pushed
abbrev pub layer_of : {S : Type 0} → S → Written → Layer S
layer_of parser name = record { name = name; parser = parser; ended = None }

-- what a pushed parser becomes: above another one it begins at the offset that it has there
abbrev pub IsPlaced : {S : Type 0} → (offset : S → ℕ) → (sets : ℕ → S → S → Type 0) → (above : S → ℕ → ℕ)
    → List (Layer S) → S → S → Type 0
IsPlaced offset sets above [] p q = q ≡ p
IsPlaced offset sets above (l ∷ ls) p q = sets (above p (offset l.parser)) p q

-- a parser lies on the others, which are as before
abbrev pub Pushes : {S : Type 0} → (offset : S → ℕ) → (sets : ℕ → S → S → Type 0) → (above : S → ℕ → ℕ)
    → List (Layer S) → S → Written → List (Layer S) → Type 0
Pushes offset sets above old parser name new =
    (q : _) × IsPlaced offset sets above old parser q × (new ≡ layer_of q name ∷ old)

-- the top parser left: the one below it has the larger of both offsets
abbrev pub Uncovers : {S : Type 0} → (offset : S → ℕ) → (sets : ℕ → S → S → Type 0) → List (Layer S)
    → List (Layer S) → Type 0
Uncovers offset sets [] new = new ≡ []
Uncovers offset sets (l ∷ []) new = new ≡ []
Uncovers offset sets (l ∷ k ∷ ks) new =
    (p : _) × sets (max (offset k.parser) (offset l.parser)) k.parser p × (new ≡ record k { parser = p } ∷ ks)

-- A step of a parser, and what the rule makes of it.
pub record TurnsLayer {S : Type 0} (steps : S → Next → S → Type 0) (is_bottom emits_comments : Bool) (old : Layer S)
    (turn : Turn) (new : Layer S) : Type 0 where
  pub given : Next
  pub step : steps old.parser given new.parser
  pub turns : turn ≡ turn_of is_bottom emits_comments old.ended given
  pub name : new.name ≡ old.name
  pub ended : new.ended ≡ ended_behind turn old.ended

-- no parser lies there
abbrev pub is_none_left : {A : Type 0} → List A → Bool
is_none_left [] = true
is_none_left (x ∷ xs) = false

-- what a turn of the top parser comes to: what it gives, if anything, and the parsers that are left
abbrev pub ComesOf : {S : Type 0} → (offset : S → ℕ) → (sets : ℕ → S → S → Type 0) → Turn → List (Layer S)
    → Option Answer → List (Layer S) → Type 0
ComesOf offset sets (Gives e) ls r new = (r ≡ Some (Ok e)) × (new ≡ ls)
ComesOf offset sets (Withholds end) ls r new = (r ≡ None) × (new ≡ ls)
ComesOf offset sets Leaves ls r new = (r ≡ None) × Uncovers offset sets ls new
ComesOf offset sets (Ends e) ls r new = (r ≡ Some (Ok e)) × Uncovers offset sets ls new
ComesOf offset sets (Fails e) ls r new =
    (f : Refused) × (r ≡ Some (Err f)) × IsNamed ls e f × Uncovers offset sets ls new

-- A turn of the stack: where it holds no parser, the end of the stream is given; else the top parser makes a step, and
-- no other one.
abbrev pub TurnsOnce : {S : Type 0} → (steps : S → Next → S → Type 0) → (offset : S → ℕ)
    → (sets : ℕ → S → S → Type 0) → (emits_comments : Bool) → List (Layer S) → Option Answer → List (Layer S) → Type 0
TurnsOnce steps offset sets emits_comments [] r new = (r ≡ Some (Ok bare_end)) × (new ≡ [])
TurnsOnce steps offset sets emits_comments (l ∷ ls) r new =
    (turn : Turn) × (k : Layer _) × TurnsLayer steps (is_none_left ls) emits_comments l turn k
    × ComesOf offset sets turn (k ∷ ls) r new

-- turns that give nothing: what they took was withheld, or a parser left
pub data Withheld {S : Type 0} (steps : S → Next → S → Type 0) (offset : S → ℕ) (sets : ℕ → S → S → Type 0)
    (emits_comments : Bool) : List (Layer S) → List (Layer S) → Type 0 where
  none_yet : {ls : List (Layer S)} → Withheld steps offset sets emits_comments ls ls
  one_more : {old mid new : List (Layer S)} → Withheld steps offset sets emits_comments old mid
      → TurnsOnce steps offset sets emits_comments mid None new → Withheld steps offset sets emits_comments old new

-- how many these are
abbrev pub turns_in : {S : Type 0} {steps : S → Next → S → Type 0} {offset : S → ℕ} {sets : ℕ → S → S → Type 0}
    {emits_comments : Bool} {old new : List (Layer S)} → Withheld steps offset sets emits_comments old new → ℕ
turns_in none_yet = 0
turns_in (one_more before turn) = turns_in before + 1

-- turns up to the first that gives something
abbrev pub TurnsToFirst : {S : Type 0} → (steps : S → Next → S → Type 0) → (offset : S → ℕ)
    → (sets : ℕ → S → S → Type 0) → (emits_comments : Bool) → List (Layer S) → Answer → List (Layer S) → Type 0
TurnsToFirst steps offset sets emits_comments old r new =
    (mid : List (Layer _)) × Withheld steps offset sets emits_comments old mid
    × TurnsOnce steps offset sets emits_comments mid (Some r) new

-- for want of memory nothing more is given: 2^64 - 1 turns gave nothing
pub record TurnsTooLong {S : Type 0} (steps : S → Next → S → Type 0) (offset : S → ℕ) (sets : ℕ → S → S → Type 0)
    (emits_comments : Bool) (old : List (Layer S)) (r : Answer) (new : List (Layer S)) : Type 0 where
  pub error : Refused
  pub refused : r ≡ Err error
  pub kind : error.kind ≡ NoMemory
  pub turns : Withheld steps offset sets emits_comments old new
  pub counted : turns_in turns ≡ last_count

-- the same, or there are too many
abbrev pub StackReads : {S : Type 0} → (steps : S → Next → S → Type 0) → (offset : S → ℕ)
    → (sets : ℕ → S → S → Type 0) → (emits_comments : Bool) → List (Layer S) → Answer → List (Layer S) → Type 0
StackReads steps offset sets emits_comments old r new =
    TurnsToFirst steps offset sets emits_comments old r new
    ⊎ TurnsTooLong steps offset sets emits_comments old r new

abbrev pub EndsOn : Event × Span → Part → Option (Result (Unit {0}) Refused) → Option (Result (Unit {0}) Refused)
    → Type 0
EndsOn e parts.StreamEnd old new = new ≡ Some (Ok tt)
EndsOn e part old new = new ≡ old

-- the end of the stream and a refusal end a stack, and nothing else does
abbrev pub EndsStack : Option Answer → Option (Result (Unit {0}) Refused) → Option (Result (Unit {0}) Refused) → Type 0
EndsStack None old new = new ≡ old
EndsStack (Some (Ok e)) old new = EndsOn e (part_of (event_kind e.0)) old new
EndsStack (Some (Err e)) old new = (kept : Refused) × (new ≡ Some (Err kept)) × IsKept e kept

-- What comes next: what was looked at; nothing behind the end; else what the turns of the stack give.
abbrev pub ComesNext : {S : Type 0} → (steps : S → Next → S → Type 0) → (offset : S → ℕ)
    → (sets : ℕ → S → S → Type 0) → (emits_comments : Bool) → Option Answer → Option (Result (Unit {0}) Refused)
    → List (Layer S) → Option Answer → List (Layer S) → Type 0
ComesNext steps offset sets emits_comments (Some x) end old r new = (r ≡ Some x) × (new ≡ old)
ComesNext steps offset sets emits_comments None (Some x) old r new = (r ≡ None) × (new ≡ old)
ComesNext steps offset sets emits_comments None None old r new =
    (x : Answer) × (r ≡ Some x) × StackReads steps offset sets emits_comments old x new

-- a step of a stack
pub record StepsTo {S : Type 0} (steps : S → Next → S → Type 0) (offset : S → ℕ) (sets : ℕ → S → S → Type 0)
    (old : Stack S) (r : Option Answer) (new : Stack S) : Type 0 where
  pub gives : ComesNext steps offset sets old.emits_comments old.peeked old.end old.layers r new.layers
  pub peeked : new.peeked ≡ None
  pub end : EndsStack r old.end new.end
  pub emits_comments : new.emits_comments ≡ old.emits_comments

-- a look shows what the next step gives, and keeps it for that
pub record PeeksAs {S : Type 0} (steps : S → Next → S → Type 0) (offset : S → ℕ) (sets : ℕ → S → S → Type 0)
    (old : Stack S) (r : Option Answer) (new : Stack S) : Type 0 where
  pub gives : ComesNext steps offset sets old.emits_comments old.peeked old.end old.layers r new.layers
  pub peeked : new.peeked ≡ r
  pub end : new.end ≡ old.end
  pub emits_comments : new.emits_comments ≡ old.emits_comments

-- ---- an event that comes first

-- whether a stack has ended, or is seen to end
abbrev pub is_ending : Option Answer → Option (Result (Unit {0}) Refused) → Bool
is_ending peeked (Some x) = true
is_ending (Some (Err e)) None = true
is_ending (Some (Ok e)) None = is_stream_end (part_of (event_kind e.0))
is_ending None None = false

-- the event, but for a comment where none come through
abbrev pub first_given : (emits_comments : Bool) → Event × Span → Part → Option Answer
first_given false e parts.Comment = None
first_given emits_comments e part = Some (Ok e)

-- the event comes first, in the place of one that was looked at, unless the stack ends
abbrev pub gives_first : {S : Type 0} → Stack S → Event × Span → Stack S
gives_first p e =
    if is_ending p.peeked p.end then p
    else record p { peeked = first_given p.emits_comments e (part_of (event_kind e.0)) }

-- ---- an include

-- an error with the names of the stack and another one
abbrev pub IsWithin : {S : Type 0} → List (Layer S) → List ℕ → Refused → Refused → Type 0
IsWithin ls name e f =
    (f ≡ record e { sources = names_of ls ++ record { characters = name; is_borrowed = false } ∷ [] })
    ⊎ (f.kind ≡ NoMemory)
