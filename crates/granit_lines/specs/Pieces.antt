-- What is printed a piece at a time.
use Rattle.std.specs.Prelude.{ℕ, Bool, ◌==◌, ◌&&◌, ◌||◌, not, nat_le, List, ◌++◌, codes}
use Rattle.granit_base.specs.Place.{Place}
use Rattle.granit_lexemes.specs.Line.{place_line}

-- whether a byte stands for itself between quotes
abbrev pub is_plain : ℕ → Bool
is_plain b = (nat_le 0x20 b && nat_le b 0x7E) && not (b == 0x22 || b == 0x5C)

-- a space, the places of a span, and a line feed
abbrev pub line_span_words : (start end : Place) → List ℕ
line_span_words start end = (((codes " " ++ place_line start) ++ codes "-") ++ place_line end) ++ codes "\n"
