-- The boundary at which reading goes on after a refusal: a separated `---` or a finished `...` in column 0, or the end.
use Rattle.std.specs.Prelude.{ℕ, Bool, true, false, ◌==◌, ◌&&◌, ◌||◌, if◌then◌else◌, List, [], ◌∷◌, drop, Option}
use Rattle.std.specs.Prelude.{Some, None}
use Rattle.granit_base.specs.Classes.{is_blank, is_bom, is_break}
use Rattle.granit_lexemes.specs.Comment.{is_line_char}
use Rattle.granit_lexemes.specs.Here.{Here, next_char, step}
use Rattle.granit_lexemes.specs.Moves.{past_prefix_mark, steps}

pub data Boundary : Type 0 where
  -- a `---` stands here
  AtStart : Here → Boundary
  -- a `...` was passed, with the blanks and the comment on its line
  PastEnd : Here → Boundary
  -- nothing is left
  AtTextEnd : Here → Boundary

-- whether a blank, a break or the end stands first; a NUL separates nothing
abbrev pub is_separated : List ℕ → Bool
is_separated [] = true
is_separated (c ∷ cs) = is_blank c || is_break c

-- whether a mark of three such characters stands first
abbrev pub is_mark_of : ℕ → List ℕ → Bool
is_mark_of sign (a ∷ b ∷ c ∷ cs) = (a == sign && (b == sign && c == sign)) && is_separated cs
is_mark_of sign text = false

-- behind the rest of a comment, where its line ends
abbrev pub past_note : List ℕ → Here → Option Here
past_note [] h = Some h
past_note (c ∷ cs) h =
    if is_break c then Some h else if is_line_char c then past_note cs (step h) else None

-- behind the blanks and the comment that finish a line, where nothing else stands on it
abbrev pub finished_line : List ℕ → Here → Option Here
finished_line [] h = Some h
finished_line (c ∷ cs) h =
    if is_break c then Some h
    else if is_blank c then finished_line cs (step h)
    else if c == 0x23 then past_note cs (step h)
    else None

abbrev pub past_end : Option Here → Option Boundary
past_end None = None
past_end (Some h) = Some (PastEnd h)

abbrev pub mark_here : List ℕ → Here → Option Boundary
mark_here text h =
    if is_mark_of 0x2D text then Some (AtStart h)
    else if is_mark_of 0x2E text then past_end (finished_line (drop 3 text) (steps 3 h))
    else None

-- the boundary that stands here, where this text is left
abbrev pub boundary_here : List ℕ → Here → Option Boundary
boundary_here [] h = Some (AtTextEnd h)
boundary_here (c ∷ cs) h = if h.place.column == 0 then mark_here (c ∷ cs) h else None

-- one dropped character on: every byte-order mark in column 0 takes no column
abbrev pub over_dropped : Here → Here
over_dropped h = if h.place.column == 0 && is_bom (next_char h) then past_prefix_mark h else step h

abbrev pub boundary_or : Option Boundary → Boundary → Boundary
boundary_or None later = later
boundary_or (Some b) later = b

-- the next boundary from a place on, where this text is left
abbrev pub boundary_in : List ℕ → Here → Boundary
boundary_in [] h = AtTextEnd h
boundary_in (c ∷ cs) h = boundary_or (boundary_here (c ∷ cs) h) (boundary_in cs (over_dropped h))

unfoldable pub next_boundary : Here → Boundary
next_boundary h = boundary_in h.unread.text h
