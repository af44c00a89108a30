-- What the calls of a span answer.
use Rattle.std.specs.Prelude.{ℕ, ◌≡◌, ◌+◌, ◌^◌, ◌≤◌, ◌==◌, ◌↔◌, if◌then◌else◌, List, Option, None, Some, IsSome, IfSome}
use Rattle.std.specs.Prelude.{nat_lt, slice_range}
use Rattle.std.specs.Str.{IsCharBoundary}
use Rattle.std.specs.Borrow.{Bor}
use Rattle.std.specs.declared.ops.Range.{Range}
use Rattle.granit_base.specs.Place.{Mark}
use Rattle.granit_base.specs.declared.place.Span.{Span}

abbrev pub mark_with_offset : ℕ → ℕ → ℕ → Option ℕ → Option Mark
mark_with_offset index line column o = Some (record {
  place = record { index = index; line = line; column = column };
  byte_offset = o;
})

-- the byte offset, where one is told, goes up by as much as the index
abbrev pub offset_moved : ℕ → ℕ → ℕ → ℕ → Option ℕ → Option Mark
offset_moved count index line column None = mark_with_offset index line column None
offset_moved count index line column (Some o) = if nat_lt (o + count) (2 ^ 64) then mark_with_offset index line column
    (Some (o + count)) else None

-- the place so many characters of one byte further right on its line, where each number fits 64 bits
abbrev pub moved_right : ℕ → Mark → Option Mark
moved_right count m =
    if nat_lt (m.place.index + count) (2 ^ 64)
    then (if nat_lt (m.place.column + count) (2 ^ 64)
    then offset_moved count (m.place.index + count) m.place.line (m.place.column + count) m.byte_offset
    else None)
    else None

abbrev pub counted_span : Mark → Option Mark → Option Span
counted_span start None = None
counted_span start (Some end) = Some (record {
  start = start;
  end = end;
  indent = None;
  tag_start = None;
  tag_length =
      0;
})

-- where the tag stands that begins at a place and has so many characters
abbrev pub tag_between : ℕ → Option Mark → Option Span
tag_between length None = None
tag_between length (Some start) = if length == 0 then None else counted_span start (moved_right length start)

abbrev pub tag_span_of : Span → Option Span
tag_span_of s = tag_between s.tag_length s.tag_start

-- a span whose tag is that one, or none
abbrev pub tag_set : Option (Mark × ℕ) → Span → Span
tag_set None s = record s { tag_start = None; tag_length = 0 }
tag_set (Some tag) s = record s { tag_start = Some tag.0; tag_length = tag.1 }

abbrev pub range_between : Option ℕ → Option ℕ → Option (Range ℕ)
range_between None end = None
range_between (Some start) None = None
range_between (Some start) (Some end) = Some (record { start = start; end = end })

abbrev pub byte_range_of : Span → Option (Range ℕ)
byte_range_of s = range_between s.start.byte_offset s.end.byte_offset

-- a range of a text in UTF-8 that begins and ends between characters
abbrev pub CutsOut : List ℕ → Range ℕ → Type 0
CutsOut text range = (range.start ≤ range.end) × IsCharBoundary text range.start × IsCharBoundary text range.end

-- what is answered is the text's part in that range, and there is an answer exactly where it is a range of the text
abbrev pub Slices : List ℕ → Option (Range ℕ) → Option (Bor (List ℕ)) → Type 0
Slices text None answer = IfSome answer (λ part. ⊥)
Slices text (Some range) answer = (IsSome answer ↔ CutsOut text range)
    × IfSome answer (λ part. part.now ≡ slice_range text range.start range.end)
