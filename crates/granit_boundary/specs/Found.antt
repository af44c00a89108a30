-- What is found of a boundary, and what is passed on the way.
use Rattle.std.specs.Prelude.{◌≡◌, ℕ, ◌==◌, Bool, true, false, List, [], ◌∷◌, Option, Some}
use Rattle.std.specs.Prelude.{None}
use Rattle.granit_base.specs.Classes.{is_break}
use Rattle.granit_boundary.specs.declared.boundary.Boundary as code
use Rattle.granit_boundary.specs.declared.boundary.Boundary.TheVariants as found
use Rattle.granit_lexemes.specs.Here.{Here, mark_of}
use Rattle.granit_lexemes.specs.Moves.{steps}
use Rattle.granit_restart.specs.Boundary as boundaries
use Rattle.granit_restart.specs.Boundary.{next_boundary}

-- a boundary as it is told: a `---` by its place, behind which the cursor then stands
abbrev pub FoundAs : (Here → Type 0) → code.Boundary → boundaries.Boundary → Type 0
FoundAs Lands (found.Start mark begins_line) (boundaries.AtStart h) =
    (mark ≡ mark_of h) × (begins_line ≡ h.begins_line) × Lands (steps 3 h)
FoundAs Lands found.End (boundaries.PastEnd h) = Lands h
FoundAs Lands found.TextEnd (boundaries.AtTextEnd h) = Lands h
FoundAs Lands found b = ⊥

-- the next boundary was found, or something in front of it was passed
abbrev pub PassesTo : (Here → Type 0) → Option code.Boundary → Here → Type 0
PassesTo Lands (Some found) h = FoundAs Lands found (next_boundary h)
PassesTo Lands None h = (after : Here) × Lands after × (next_boundary after ≡ next_boundary h)

-- what is passed on a line, behind its first character, holds no boundary
abbrev pub Within : Here → Here → Type 0
Within h k =
    (h.place.column == 0) ≡ false → ((k.place.column == 0) ≡ false) × (next_boundary k ≡ next_boundary h)

-- whether a break or the end stands first
abbrev pub line_ends_here : List ℕ → Bool
line_ends_here [] = true
line_ends_here (c ∷ cs) = is_break c

-- the rest of a line was passed where it is finished, and else something of it
abbrev pub FinishesTo : (List ℕ → Here → Option Here) → (Here → Type 0) → Bool → Here → Type 0
FinishesTo finished Lands true h = (k : Here) × (finished h.unread.text h ≡ Some k) × Lands k
FinishesTo finished Lands false h =
    (finished h.unread.text h ≡ None) × ((k : Here) × Lands k × Within h k)
