-- What the helpers of an event answer.
use Rattle.std.specs.Prelude.{◌≡◌, ⊤, ℕ, Bool, true, false, ◌==◌, if◌then◌else◌, List, Option, Some, None}
use Rattle.std.specs.Borrow.{Bor}
use Rattle.std.specs.Option.{option_map}
use Rattle.std.specs.Str.{chars}
use Rattle.granit_base.specs.declared.style.ScalarStyle.{ScalarStyle}
use Rattle.granit_lexemes.specs.PlainEvent.{PlainTag, EventKind, Alias, Anchor, UnresolvedAlias, Comment, Scalar}
use Rattle.granit_lexemes.specs.PlainEvent.{SequenceStart, MappingStart}

-- the number of an anchor, where there is one
abbrev pub anchor_unless_zero : ℕ → Option ℕ
anchor_unless_zero n = if n == 0 then None else Some n

abbrev pub anchor_of : EventKind → Option ℕ
anchor_of (Anchor anchor name) = anchor_unless_zero anchor
anchor_of (Scalar text style anchor tag) = anchor_unless_zero anchor
anchor_of (SequenceStart style anchor tag) = anchor_unless_zero anchor
anchor_of (MappingStart style anchor tag) = anchor_unless_zero anchor
anchor_of _ = None

abbrev pub alias_of : EventKind → Option ℕ
alias_of (Alias anchor) = Some anchor
alias_of _ = None

abbrev pub is_alias_kind : EventKind → Bool
is_alias_kind (Alias anchor) = true
is_alias_kind (UnresolvedAlias name) = true
is_alias_kind _ = false

abbrev pub event_tag : EventKind → Option PlainTag
event_tag (Scalar text style anchor tag) = tag
event_tag (SequenceStart style anchor tag) = tag
event_tag (MappingStart style anchor tag) = tag
event_tag _ = None

abbrev pub event_scalar : EventKind → Option (List ℕ × ScalarStyle)
event_scalar (Scalar text style anchor tag) = Some (text.characters, style)
event_scalar _ = None

-- a text by its characters
abbrev pub scalar_told : Option (Bor (List ℕ) × ScalarStyle) → Option (List ℕ × ScalarStyle)
scalar_told answer = option_map (λ s. (chars s.0.now, s.1)) answer

-- an alias, a scalar, or the start of a sequence or a mapping
abbrev pub is_node_kind : EventKind → Bool
is_node_kind (Alias anchor) = true
is_node_kind (UnresolvedAlias name) = true
is_node_kind (Scalar text style anchor tag) = true
is_node_kind (SequenceStart style anchor tag) = true
is_node_kind (MappingStart style anchor tag) = true
is_node_kind _ = false

-- a copy of it takes no memory: its text is borrowed, and it has no tag
abbrev pub EventCopyTakesNone : EventKind → Type 0
EventCopyTakesNone (Anchor anchor name) = name.is_borrowed ≡ true
EventCopyTakesNone (UnresolvedAlias name) = name.is_borrowed ≡ true
EventCopyTakesNone (Comment text placement) = text.is_borrowed ≡ true
EventCopyTakesNone (Scalar text style anchor tag) = (text.is_borrowed ≡ true) × (tag ≡ None)
EventCopyTakesNone (SequenceStart style anchor tag) = tag ≡ None
EventCopyTakesNone (MappingStart style anchor tag) = tag ≡ None
EventCopyTakesNone _ = ⊤
