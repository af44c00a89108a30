-- Places stay counted over what is dropped.
use Rattle.std.proofs.Common.{◌≡◌, ℕ, zero, suc, Bool, true, false, ◌&&◌, ◌==◌, List, [], ◌∷◌, length, refl, sym, ap}
use Rattle.std.proofs.Common.{◌∙◌, subst}
use Rattle.std.proofs.lemmas.Bool.{and_parts}
use Rattle.std.specs.Prelude.{if◌then◌else◌}
use Rattle.granit_base.specs.Classes.{is_bom}
use Rattle.granit_base.specs.Place.{first}
use Rattle.granit_lexemes.proofs.CharTests.{bom_is}
use Rattle.granit_lexemes.proofs.HereLemmas.{stays_at_end}
use Rattle.granit_lexemes.specs.Here.{Here, mid_line, next_char, step}
use Rattle.granit_lexemes.specs.Moves.{past_prefix_mark, steps}
use Rattle.granit_lexemes.specs.Onward.{Onward, there, stepped, over_mark, begun}
use Rattle.granit_places.proofs.Counting.{stepped_on, marked_on}
use Rattle.granit_restart.proofs.BoundaryLaws.{finds_next}
use Rattle.granit_restart.specs.Boundary.{Boundary, over_dropped, next_boundary}
use Rattle.granit_calls.specs.BoundaryPlace.{boundary_place, IsCounted}
use Rattle.granit_restart.specs.NextBoundary.{BoundaryStands, stands_start, stands_end, stands_text_end, NextBoundary}
use Rattle.granit_restart.specs.NextBoundary.{next_here, next_behind}

counted_by : (x text : List ℕ) (h : Here) → h.unread.text ≡ text → IsCounted x h → IsCounted x (step h)
counted_by x [] h e c = subst (IsCounted x) (sym (stays_at_end h e)) c
counted_by x (d ∷ t) h e c = record {
  index = suc c.index;
  marks = c.marks;
  counted = stepped_on x c.marks c.index d t h e c.counted;
}

counted_step : (x : List ℕ) (h : Here) → IsCounted x h → IsCounted x (step h)
counted_step x h c = counted_by x h.unread.text h refl c

counted_steps : (x : List ℕ) (n : ℕ) (h : Here) → IsCounted x h → IsCounted x (steps n h)
unfolding steps
counted_steps x zero h c = c
counted_steps x (suc n) h c = counted_steps x n (step h) (counted_step x h c)

marked_by : (x text : List ℕ) (h : Here) → h.unread.text ≡ text → next_char h ≡ 0xFEFF → IsCounted x h
    → IsCounted x (past_prefix_mark h)
marked_by x [] h e bom c = absurd (let f : 0 ≡ 0xFEFF = ap first (sym e) ∙ bom in cc)
marked_by x (d ∷ t) h e bom c =
    let f : d ≡ 0xFEFF = ap first (sym e) ∙ bom in
    record {
      index = suc c.index;
      marks = c.index ∷ c.marks;
      counted = marked_on x c.marks c.index t h (e ∙ ap (λ d. d ∷ t) f) c.counted;
    }

dropped_by : (b : Bool) (x : List ℕ) (h : Here) → (h.place.column == 0 && is_bom (next_char h)) ≡ b → IsCounted x h
    → IsCounted x (if b then past_prefix_mark h else step h)
dropped_by true x h e c =
    marked_by x h.unread.text h refl
    (bom_is (next_char h) (and_parts (h.place.column == 0) (is_bom (next_char h)) e).1) c
dropped_by false x h e c = counted_step x h c

stands_counted : (x : List ℕ) (h : Here) (b : Boundary) → BoundaryStands h b → IsCounted x h
    → IsCounted x (boundary_place b)
stands_counted x h b (stands_start behind column text separated) c = c
stands_counted x h b (stands_end line behind column text separated finishes ends) c =
    counted_steps x (length line) (steps 3 h) (counted_steps x 3 h c)
stands_counted x h b (stands_text_end text) c = c

next_counted : (x : List ℕ) (h : Here) (b : Boundary) → NextBoundary h b → IsCounted x h
    → IsCounted x (boundary_place b)
next_counted x h b (next_here p) c = stands_counted x h b p c
next_counted x h b (next_behind none more) c =
    next_counted x (over_dropped h) b more (dropped_by (h.place.column == 0 && is_bom (next_char h)) x h refl c)

-- the boundary stands at a counted place
pub boundary_counted : (x : List ℕ) (h : Here) → IsCounted x h → IsCounted x (boundary_place (next_boundary h))
boundary_counted x h c = next_counted x h (next_boundary h) (finds_next h) c

-- ---- where reading came to

mid_counted : (x : List ℕ) (h : Here) → IsCounted x h → IsCounted x (mid_line h)
mid_counted x h c = record {
  index = c.index;
  marks = c.marks;
  counted = record { text = c.counted.text; mark = c.counted.mark; below = c.counted.below };
}

-- a place that reading came to is counted where the one it began at is
pub onward_counted : (x : List ℕ) (start at : Here) → Onward start at → IsCounted x start → IsCounted x at
onward_counted x start at there c = c
onward_counted x start at (stepped {at = before} p) c = counted_step x before (onward_counted x start before p c)
onward_counted x start at (over_mark {at = before} p bom column) c =
    marked_by x before.unread.text before refl bom (onward_counted x start before p c)
onward_counted x start at (begun {at = before} p) c = mid_counted x before (onward_counted x start before p c)

-- and so is the boundary behind it
pub boundary_onward : (x : List ℕ) (start at : Here) → Onward start at → IsCounted x start
    → IsCounted x (boundary_place (next_boundary at))
boundary_onward x start at p c = boundary_counted x at (onward_counted x start at p c)
