-- The place of an index, counted on the whole text.
use Rattle.std.specs.Prelude.{ℕ, zero, suc, Bool, true, false, List, [], ◌∷◌, length, take, Some}
use Rattle.std.specs.Str.{encode_utf8_all}
use Rattle.granit_base.specs.Place.{Place, Mark, ends_line}

abbrev pub one_more_if : Bool → ℕ → ℕ
one_more_if true n = suc n
one_more_if false n = n

-- how many lines end before an index: a line ends with LF, and with CR that no LF follows (YAML 1.2.2, 5.4)
abbrev pub line_ends : List ℕ → ℕ → ℕ
line_ends x zero = 0
line_ends [] (suc i) = 0
line_ends (c ∷ cs) (suc i) = one_more_if (ends_line (c ∷ cs)) (line_ends cs i)

abbrev pub if_none : ℕ → ℕ → ℕ → ℕ
if_none zero a b = a
if_none (suc n) a b = b

abbrev pub if_ends : Bool → ℕ → ℕ
if_ends true i = i
if_ends false i = suc i

-- how many characters stand between an index and the last line end before it, or the start
abbrev pub since_line_end : List ℕ → ℕ → ℕ
since_line_end x zero = 0
since_line_end [] (suc i) = 0
since_line_end (c ∷ cs) (suc i) = if_none (line_ends cs i) (if_ends (ends_line (c ∷ cs)) i) (since_line_end cs i)

abbrev pub place_of : List ℕ → ℕ → Place
place_of x i = record { index = i; line = suc (line_ends x i); column = since_line_end x i }

-- the place of an index, and the bytes of UTF-8 before it
abbrev pub mark_at : List ℕ → ℕ → Mark
mark_at x i = record { place = place_of x i; byte_offset = Some (length (encode_utf8_all (take i x))) }
