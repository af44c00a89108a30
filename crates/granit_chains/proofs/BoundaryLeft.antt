-- Reading goes on with less: how much is left of a text at a boundary, and onward of a place.
use Rattle.std.proofs.Common.{◌≡◌, ℕ, zero, suc, ◌+◌, ◌≤◌, List, [], ◌∷◌, length, arith, ap}
use Rattle.std.proofs.lemmas.List.{length-drop}
use Rattle.granit_lexemes.proofs.HereLemmas.{step_len}
use Rattle.granit_lexemes.specs.Here.{Here, step, text_len}
use Rattle.granit_lexemes.specs.Moves.{past_prefix_mark, steps}
use Rattle.granit_lexemes.specs.Onward.{Onward, begun, over_mark, stepped, there}
use Rattle.granit_termination.proofs.LengthLemmas.{here_if}
use Rattle.granit_restart.proofs.BoundaryLaws.{finds_next}
use Rattle.granit_restart.specs.Boundary.{AtStart, AtTextEnd, Boundary, next_boundary, over_dropped, PastEnd}
use Rattle.granit_restart.specs.NextBoundary.{BoundaryStands, next_behind, next_here, NextBoundary, stands_end}
use Rattle.granit_restart.specs.NextBoundary.{stands_start, stands_text_end}

prefix_len : (h : Here) → text_len (past_prefix_mark h) ≤ text_len h
unfolding past_prefix_mark
prefix_len h = let m = length-drop 1 h.unread.text in omega (arith, m)

-- ---- onward of a place

pub onward_len : (start at : Here) → Onward start at → text_len at ≤ text_len start
onward_len start at there = omega arith
onward_len start at (stepped {at = h} p) = let m = step_len h in let k = onward_len start h p in omega (arith, m, k)
onward_len start at (over_mark {at = h} p e column) =
    let m = prefix_len h in let k = onward_len start h p in omega (arith, m, k)
onward_len start at (begun {at = h} p) = onward_len start h p

-- ---- at a boundary

steps_len : (n : ℕ) (h : Here) → n ≤ text_len h → text_len (steps n h) + n ≤ text_len h
unfolding steps
steps_len zero h p = omega arith
steps_len (suc n) h p =
    let m = step_len h in
    let k = steps_len n (step h) (omega (arith, m, p)) in omega (arith, m, k, p)

steps_fewer : (n : ℕ) (h : Here) → text_len (steps n h) ≤ text_len h
unfolding steps
steps_fewer zero h = omega arith
steps_fewer (suc n) h = let m = step_len h in let k = steps_fewer n (step h) in omega (arith, m, k)

-- behind a mark three characters less are left than here; at the end of the text none
abbrev pub LeftAt : Here → Boundary → Type 0
LeftAt h (AtStart k) = text_len (steps 3 k) + 3 ≤ text_len h
LeftAt h (PastEnd k) = text_len k + 3 ≤ text_len h
LeftAt h (AtTextEnd k) = k.unread.text ≡ []

three : (a b c : ℕ) (cs text : List ℕ) → text ≡ a ∷ b ∷ c ∷ cs → 3 ≤ length text
three a b c cs text e = let m : length text ≡ length (a ∷ b ∷ c ∷ cs) = ap length e in omega (arith, m)

stands_left : (h : Here) (b : Boundary) → BoundaryStands h b → LeftAt h b
stands_left h b (stands_start behind column text separated) =
    steps_len 3 h (three _ _ _ behind h.unread.text text)
stands_left h b (stands_end line behind column text separated finishes ends) =
    let m = steps_len 3 h (three _ _ _ _ h.unread.text text) in
    let k = steps_fewer (length line) (steps 3 h) in omega (arith, m, k)
stands_left h b (stands_text_end text) = text

fewer_left : (g h : Here) (b : Boundary) → text_len g ≤ text_len h → LeftAt g b → LeftAt h b
fewer_left g h (AtStart k) p q = omega (arith, p, q)
fewer_left g h (PastEnd k) p q = omega (arith, p, q)
fewer_left g h (AtTextEnd k) p q = q

dropped_len : (h : Here) → text_len (over_dropped h) ≤ text_len h
dropped_len h =
    let m = step_len h in
    here_if (text_len h) _ (past_prefix_mark h) (step h) (prefix_len h) (omega (arith, m))

next_left : (h : Here) (b : Boundary) → NextBoundary h b → LeftAt h b
next_left h b (next_here stands) = stands_left h b stands
next_left h b (next_behind none more) =
    fewer_left (over_dropped h) h b (dropped_len h) (next_left (over_dropped h) b more)

pub boundary_left : (h : Here) → LeftAt h (next_boundary h)
boundary_left h = next_left h (next_boundary h) (finds_next h)
