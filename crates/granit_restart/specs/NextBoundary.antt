-- What a boundary is, and which one is next, said without looking for it.
use Rattle.std.specs.Prelude.{◌≡◌, ℕ, true, false, ◌==◌, ◌&&◌, List, [], ◌∷◌, ◌++◌, length}
use Rattle.granit_base.specs.Classes.{is_blank, is_bom, is_break}
use Rattle.granit_lexemes.specs.Comment.{is_line_char}
use Rattle.granit_lexemes.specs.Gap.{Each}
use Rattle.granit_lexemes.specs.Here.{Here, next_char, step}
use Rattle.granit_lexemes.specs.Moves.{steps}
use Rattle.granit_restart.specs.Boundary.{Boundary, AtStart, PastEnd, AtTextEnd, is_separated, over_dropped}

-- a line ends here: a break or the end of the text follows
abbrev pub IsLineEnd : List ℕ → Type 0
IsLineEnd [] = Unit {0}
IsLineEnd (c ∷ cs) = is_break c ≡ true

-- what may finish the line of a `...`: blanks, and a comment behind them
pub data Finishes : List ℕ → Type 0 where
  only_blanks : {blanks : List ℕ} → Each is_blank blanks → Finishes blanks
  with_comment : (blanks note : List ℕ) → Each is_blank blanks → Each is_line_char note
      → Finishes (blanks ++ 0x23 ∷ note)

-- a boundary stands here
pub data BoundaryStands : Here → Boundary → Type 0 where
  stands_start : {h : Here} → (behind : List ℕ) → h.place.column ≡ 0 → h.unread.text ≡ 0x2D ∷ 0x2D ∷ 0x2D ∷ behind
      → is_separated behind ≡ true → BoundaryStands h (AtStart h)
  stands_end : {h : Here} → (line behind : List ℕ) → h.place.column ≡ 0
      → h.unread.text ≡ 0x2E ∷ 0x2E ∷ 0x2E ∷ (line ++ behind) → is_separated (line ++ behind) ≡ true → Finishes line
      → IsLineEnd behind → BoundaryStands h (PastEnd (steps (length line) (steps 3 h)))
  stands_text_end : {h : Here} → h.unread.text ≡ [] → BoundaryStands h (AtTextEnd h)

-- the next boundary from a place on is the first that stands there or behind what is dropped
pub data NextBoundary : Here → Boundary → Type 0 where
  next_here : {h : Here} {b : Boundary} → BoundaryStands h b → NextBoundary h b
  next_behind : {h : Here} {b : Boundary} → ((other : Boundary) → BoundaryStands h other → ⊥)
      → NextBoundary (over_dropped h) b
      → NextBoundary h b

-- from a place to one further on, character by character: no boundary stands on the way, and no byte-order mark that
-- counts a column stands in column 0
pub data NoBoundaryBetween : Here → Here → Type 0 where
  nothing_between : {h : Here} → NoBoundaryBetween h h
  one_between : {h k : Here} → ((other : Boundary) → BoundaryStands h other → ⊥)
      → (h.place.column == 0 && is_bom (next_char h)) ≡ false → NoBoundaryBetween (step h) k → NoBoundaryBetween h k
