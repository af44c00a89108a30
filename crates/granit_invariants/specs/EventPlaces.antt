-- Where the events of a text stand in it.
use Rattle.std.specs.Prelude.{ℕ, ◌+◌, ◌≤◌, List, [], ◌∷◌, length, Option, Some, None}
use Rattle.granit_base.specs.Place.{Mark}
use Rattle.granit_base.specs.declared.place.Span.{Span}
use Rattle.granit_language.specs.Counting.{CountedMark, MarksStand}
use Rattle.granit_lexemes.specs.PlainEvent.{PlainEvent}

-- the mark of an index of a text, where the byte-order marks at some indices count no column
abbrev pub InText : (x ms : List ℕ) → Mark → Type 0
InText x ms m = (i : ℕ) × (i ≤ length x) × CountedMark x ms i m

-- from a place of the text to one that is no earlier
abbrev pub Stretches : (x ms : List ℕ) → (start end : Mark) → Type 0
Stretches x ms start end = InText x ms start × InText x ms end × (start.place.index ≤ end.place.index)

-- a tag of so many characters
abbrev pub TagInText : (x ms : List ℕ) → Option Mark → ℕ → Type 0
TagInText x ms None n = Unit {0}
TagInText x ms (Some m) n = InText x ms m × (m.place.index + n ≤ length x)

abbrev pub SpanInText : (x ms : List ℕ) → Span → Type 0
SpanInText x ms s = Stretches x ms s.start s.end × TagInText x ms s.tag_start s.tag_length

abbrev pub SpansInText : (x ms : List ℕ) → List PlainEvent → Type 0
SpansInText x ms [] = Unit {0}
SpansInText x ms (e ∷ es) = SpanInText x ms e.span × SpansInText x ms es

-- All ends of spans are counted on the text, and the byte-order marks in front of its documents, one list for all of
-- them, count no column.
pub record EventsInText (x : List ℕ) (es : List PlainEvent) : Type 0 where
  pub marks : List ℕ
  pub stand : MarksStand x marks marks
  pub spans : SpansInText x marks es
