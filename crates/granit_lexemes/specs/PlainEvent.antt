-- Events as plain data: texts by their characters, spans with plain marks.
use Rattle.std.specs.Prelude.{ℕ, ◌^◌, Bool, true, false, nat_lt, if◌then◌else◌, List, Option, None}
use Rattle.granit_base.specs.Place.{Mark}
use Rattle.granit_base.specs.Written.{Written}
use Rattle.granit_base.specs.declared.place.Span.{Span}
use Rattle.granit_base.specs.declared.style.Placement.{Placement}
use Rattle.granit_base.specs.declared.style.ScalarStyle.{ScalarStyle}
use Rattle.granit_base.specs.declared.style.StructureStyle.{StructureStyle}
use Rattle.granit_lexemes.specs.Source.{Source}

-- a version that a directive names (6.8.1)
pub record PlainVersion : Type 0 where
  pub major : ℕ
  pub minor : ℕ

-- a tag by its characters: what its handle stands for, what follows it, and the handle as it was written (6.8.2, 6.9.1)
pub record PlainTag : Type 0 where
  pub handle : List ℕ
  pub suffix : List ℕ
  pub original_handle : List ℕ

-- The number of an anchor is 0 where a node has none.
pub data EventKind : Type 0 where
  StreamStart StreamEnd DocumentEnd SequenceEnd MappingEnd : EventKind
  -- whether `---` was written, and the version that a directive names
  DocumentStart : (explicit : Bool) (version : Option PlainVersion) → EventKind
  -- the node that an anchor of that number names
  Alias : (anchor : ℕ) → EventKind
  -- an anchor, which is told beside the node that has it
  Anchor : (anchor : ℕ) (name : Written) → EventKind
  -- an alias of a name that no anchor has
  UnresolvedAlias : (name : Written) → EventKind
  Comment : (text : Written) (placement : Placement) → EventKind
  Scalar : (text : Written) (style : ScalarStyle) (anchor : ℕ) (tag : Option PlainTag) → EventKind
  SequenceStart MappingStart : (style : StructureStyle) (anchor : ℕ) (tag : Option PlainTag) → EventKind

pub record PlainEvent : Type 0 where
  pub kind : EventKind
  pub span : Span

-- a span without indent and tag
abbrev pub plain_span : Mark → Mark → Span
plain_span start end = record { start = start; end = end; indent = None; tag_start = None; tag_length = 0 }

-- an event that bears a lexeme's source
abbrev pub event_at : EventKind → Source → PlainEvent
event_at kind source = record { kind = kind; span = plain_span source.start source.end }

-- an event with an empty span
abbrev pub event_on : EventKind → Mark → PlainEvent
event_on kind mark = record { kind = kind; span = plain_span mark mark }

-- how many characters a span says that a tag has: 0 where 32 bits are too few
abbrev pub told_length : ℕ → ℕ
told_length n = if nat_lt n (2 ^ 32) then n else 0

-- a comment
abbrev pub is_note : EventKind → Bool
is_note (Comment text placement) = true
is_note kind = false
