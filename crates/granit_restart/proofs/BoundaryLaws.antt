-- The boundary that is found is the next one, and there is no other.
use Rattle.std.proofs.Common.{◌≡◌, ℕ, suc, Bool, true, false, ◌&&◌, ◌==◌, List, [], ◌∷◌, ◌++◌, length}
use Rattle.std.proofs.Common.{drop, Option, Some, None, refl, sym, ap, ap₂, subst, ◌∙◌, arith, append_assoc}
use Rattle.std.proofs.lemmas.Bool.{and_parts, eq-eqb, eqb-true}
use Rattle.std.specs.Prelude.{if◌then◌else◌}
use Rattle.std.proofs.lemmas.Bool.Decides.{nat_tests}
use Rattle.granit_base.specs.Classes.{is_blank, is_bom, is_break}
use Rattle.granit_lexemes.proofs.CharTests.{no_break_noted, blank_apart_from_break}
use Rattle.granit_lexemes.proofs.HereLemmas.{step_text}
use Rattle.granit_lexemes.specs.Comment.{is_line_char}
use Rattle.granit_lexemes.specs.Gap.{Each}
use Rattle.granit_lexemes.specs.Here.{Here, next_char, step}
use Rattle.granit_lexemes.specs.Moves.{past_prefix_mark, steps}
use Rattle.granit_restart.specs.Boundary.{Boundary, AtStart, PastEnd, AtTextEnd, is_separated, is_mark_of, past_note}
use Rattle.granit_restart.specs.Boundary.{finished_line, past_end, mark_here, boundary_here, over_dropped, boundary_or}
use Rattle.granit_restart.specs.Boundary.{boundary_in, next_boundary}
use Rattle.granit_restart.specs.NextBoundary.{IsLineEnd, Finishes, only_blanks, with_comment, BoundaryStands}
use Rattle.granit_restart.specs.NextBoundary.{stands_start, stands_end, stands_text_end, NextBoundary, next_here}
use Rattle.granit_restart.specs.NextBoundary.{next_behind, NoBoundaryBetween, nothing_between, one_between}

-- ---- the line of a `...`

-- characters of a comment up to the end of a line
record NoteTo (text : List ℕ) (h k : Here) : Type 0 where
  note : List ℕ
  behind : List ℕ
  spelled : text ≡ note ++ behind
  each : Each is_line_char note
  ends : IsLineEnd behind
  lands : k ≡ steps (length note) h

note_more : (c : ℕ) (cs : List ℕ) (h k : Here) → is_line_char c ≡ true → NoteTo cs (step h) k → NoteTo (c ∷ cs) h k
unfolding steps
note_more c cs h k e p = record {
  note = c ∷ p.note;
  behind = p.behind;
  spelled = ap (λ t. c ∷ t) p.spelled;
  each = (e, p.each);
  ends = p.ends;
  lands = p.lands;
}

note_ends : (text : List ℕ) (h k : Here) → IsLineEnd text → Some h ≡ Some k → NoteTo text h k
unfolding steps
note_ends text h k ends e = record {
  note = [];
  behind = text;
  spelled = refl;
  each = tt;
  ends = ends;
  lands = let s : k ≡ h = cc in s;
}

note_by : (b d : Bool) (c : ℕ) (cs : List ℕ) (h k : Here) → is_break c ≡ b → is_line_char c ≡ d
    → (past_note cs (step h) ≡ Some k → NoteTo cs (step h) k)
    → (if b then Some h else if d then past_note cs (step h) else None) ≡ Some k → NoteTo (c ∷ cs) h k
note_by true d c cs h k b-is d-is more e = note_ends (c ∷ cs) h k b-is e
note_by false true c cs h k b-is d-is more e = note_more c cs h k d-is (more e)
note_by false false c cs h k b-is d-is more e = absurd (cc)

note_to : (text : List ℕ) (h k : Here) → past_note text h ≡ Some k → NoteTo text h k
note_to [] h k e = note_ends [] h k tt e
note_to (c ∷ cs) h k e = note_by (is_break c) (is_line_char c) c cs h k refl refl (note_to cs (step h) k) e

-- the rest of a line up to its end
record LineTo (text : List ℕ) (h k : Here) : Type 0 where
  line : List ℕ
  behind : List ℕ
  spelled : text ≡ line ++ behind
  finishes : Finishes line
  ends : IsLineEnd behind
  lands : k ≡ steps (length line) h

finishes_more : (c : ℕ) {line : List ℕ} → is_blank c ≡ true → Finishes line → Finishes (c ∷ line)
finishes_more c e (only_blanks p) = only_blanks (e, p)
finishes_more c e (with_comment bs note p q) = with_comment (c ∷ bs) note (e, p) q

line_more : (c : ℕ) (cs : List ℕ) (h k : Here) → is_blank c ≡ true → LineTo cs (step h) k → LineTo (c ∷ cs) h k
unfolding steps
line_more c cs h k e p = record {
  line = c ∷ p.line;
  behind = p.behind;
  spelled = ap (λ t. c ∷ t) p.spelled;
  finishes = finishes_more c e p.finishes;
  ends = p.ends;
  lands = p.lands;
}

line_note : (c : ℕ) (cs : List ℕ) (h k : Here) → (c == 0x23) ≡ true → NoteTo cs (step h) k → LineTo (c ∷ cs) h k
unfolding steps
line_note c cs h k e p =
    let is : c ≡ 0x23 = grind (arith, nat_tests) in
    record {
      line = 0x23 ∷ p.note;
      behind = p.behind;
      spelled = ap₂ (λ d t. d ∷ t) is p.spelled;
      finishes = with_comment [] p.note tt p.each;
      ends = p.ends;
      lands = p.lands;
    }

line_ends : (text : List ℕ) (h k : Here) → IsLineEnd text → Some h ≡ Some k → LineTo text h k
unfolding steps
line_ends text h k ends e = record {
  line = [];
  behind = text;
  spelled = refl;
  finishes = only_blanks tt;
  ends = ends;
  lands = let s : k ≡ h = cc in s;
}

line_by : (a b d : Bool) (c : ℕ) (cs : List ℕ) (h k : Here) → is_break c ≡ a → is_blank c ≡ b → (c == 0x23) ≡ d
    → (finished_line cs (step h) ≡ Some k → LineTo cs (step h) k)
    → (if a then Some h else if b then finished_line cs (step h) else if d then past_note cs (step h) else None)
    ≡ Some k → LineTo (c ∷ cs) h k
line_by true b d c cs h k a-is b-is d-is more e = line_ends (c ∷ cs) h k a-is e
line_by false true d c cs h k a-is b-is d-is more e = line_more c cs h k b-is (more e)
line_by false false true c cs h k a-is b-is d-is more e = line_note c cs h k d-is (note_to cs (step h) k e)
line_by false false false c cs h k a-is b-is d-is more e = absurd (cc)

line_to : (text : List ℕ) (h k : Here) → finished_line text h ≡ Some k → LineTo text h k
line_to [] h k e = line_ends [] h k tt e
line_to (c ∷ cs) h k e = line_by (is_break c) (is_blank c) (c == 0x23) c cs h k refl refl refl
    (line_to cs (step h) k) e

-- and the other way round

note_read : (note behind : List ℕ) (h : Here) → Each is_line_char note → IsLineEnd behind
    → past_note (note ++ behind) h ≡ Some (steps (length note) h)
unfolding steps
note_read [] [] h each ends = refl
note_read [] (c ∷ cs) h each ends =
    ap (λ b. if b then Some h else if is_line_char c then past_note cs (step h) else None) ends
note_read (c ∷ cs) behind h each ends =
    ap₂ (λ a b. if a then Some h else if b then past_note (cs ++ behind) (step h) else None)
    (no_break_noted c each.0) each.0
    ∙ note_read cs behind (step h) each.1 ends

hash_read : (note behind : List ℕ) (h : Here) → Each is_line_char note → IsLineEnd behind
    → finished_line (0x23 ∷ (note ++ behind)) h ≡ Some (steps (suc (length note)) h)
unfolding steps is_break is_blank
hash_read note behind h each ends = note_read note behind (step h) each ends

blanks_then : (blanks rest : List ℕ) (h k : Here) → Each is_blank blanks
    → finished_line rest (steps (length blanks) h) ≡ Some k → finished_line (blanks ++ rest) h ≡ Some k
unfolding steps
blanks_then [] rest h k each e = e
blanks_then (c ∷ cs) rest h k each e =
    ap₂ (λ a b. if a then Some h else if b then finished_line (cs ++ rest) (step h)
    else if c == 0x23 then past_note (cs ++ rest) (step h) else None) (blank_apart_from_break c each.0) each.0
    ∙ blanks_then cs rest (step h) k each.1 e

ends_read : (behind : List ℕ) (h : Here) → IsLineEnd behind → finished_line behind h ≡ Some h
ends_read [] h ends = refl
ends_read (c ∷ cs) h ends =
    ap (λ a. if a then Some h else if is_blank c then finished_line cs (step h)
    else if c == 0x23 then past_note cs (step h) else None) ends

steps_more : (xs ys : List ℕ) (h : Here) → steps (length (xs ++ ys)) h ≡ steps (length ys) (steps (length xs) h)
unfolding steps
steps_more [] ys h = refl
steps_more (x ∷ xs) ys h = steps_more xs ys (step h)

line_read : {line : List ℕ} → Finishes line → (behind : List ℕ) (h : Here) → IsLineEnd behind
    → finished_line (line ++ behind) h ≡ Some (steps (length line) h)
line_read (only_blanks {blanks = bs} p) behind h ends =
    blanks_then bs behind h (steps (length bs) h) p (ends_read behind (steps (length bs) h) ends)
line_read (with_comment bs note p q) behind h ends =
    ap (λ t. finished_line t h) (append_assoc bs (0x23 ∷ note) behind)
    ∙ blanks_then bs (0x23 ∷ (note ++ behind)) h (steps (length (bs ++ 0x23 ∷ note)) h) p
    (hash_read note behind (steps (length bs) h) q ends ∙ ap (λ k. Some k) (sym (steps_more bs (0x23 ∷ note) h)))

-- ---- what stands here

record Marked (sign : ℕ) (text : List ℕ) : Type 0 where
  behind : List ℕ
  spelled : text ≡ sign ∷ sign ∷ sign ∷ behind
  separated : is_separated behind ≡ true

marked : (sign : ℕ) (text : List ℕ) → is_mark_of sign text ≡ true → Marked sign text
marked sign [] e = absurd (cc)
marked sign (a ∷ []) e = absurd (cc)
marked sign (a ∷ b ∷ []) e = absurd (cc)
marked sign (a ∷ b ∷ c ∷ cs) e =
    let all = (and_parts (a == sign && (b == sign && c == sign)) (is_separated cs) e).0 in
    let more = (and_parts (a == sign) (b == sign && c == sign) all).1 in
    record {
      behind = cs;
      spelled = ap₂ (λ x (t : List ℕ). x ∷ t) (eqb-true a sign (and_parts (a == sign) (b == sign && c == sign) all).0)
          (ap₂ (λ x (t : List ℕ). x ∷ t) (eqb-true b sign (and_parts (b == sign) (c == sign) more).0)
          (ap (λ x. x ∷ cs) (eqb-true c sign (and_parts (b == sign) (c == sign) more).1)));
      separated = (and_parts (a == sign && (b == sign && c == sign)) (is_separated cs) e).1;
    }

is_marked : (sign : ℕ) (behind : List ℕ) → is_separated behind ≡ true
    → is_mark_of sign (sign ∷ sign ∷ sign ∷ behind) ≡ true
is_marked sign behind e = ap₂ (λ a b. (a && (a && a)) && b) (eq-eqb sign sign refl) e

end_found : (behind : List ℕ) (h : Here) (b : Boundary) (r : Option Here) → h.place.column ≡ 0
    → h.unread.text ≡ 0x2E ∷ 0x2E ∷ 0x2E ∷ behind → is_separated behind ≡ true
    → ((k : Here) → r ≡ Some k → LineTo behind (steps 3 h) k) → past_end r ≡ Some b → BoundaryStands h b
end_found behind h b None column text separated line e = absurd (cc)
end_found behind h b (Some k) column text separated line e =
    let l = line k refl in
    let is : PastEnd k ≡ b = cc in
    subst (BoundaryStands h) (ap (λ k. PastEnd k) (sym l.lands) ∙ is)
    (stands_end l.line l.behind column
    (text ∙ ap (λ (t : List ℕ). 0x2E ∷ 0x2E ∷ 0x2E ∷ t) l.spelled)
    (ap is_separated (sym l.spelled) ∙ separated) l.finishes l.ends)

mark_found : (a d : Bool) (text : List ℕ) (h : Here) (b : Boundary) → h.unread.text ≡ text → h.place.column ≡ 0
    → is_mark_of 0x2D text ≡ a → is_mark_of 0x2E text ≡ d
    → (if a then Some (AtStart h) else if d then past_end (finished_line (drop 3 text) (steps 3 h)) else None) ≡ Some b
    → BoundaryStands h b
mark_found true d text h b is column a-is d-is e =
    let m = marked 0x2D text a-is in
    let same : AtStart h ≡ b = cc in
    subst (BoundaryStands h) same (stands_start m.behind column (is ∙ m.spelled) m.separated)
mark_found false true text h b is column a-is d-is e =
    let m = marked 0x2E text d-is in
    let f : drop 3 text ≡ m.behind = ap (λ (t : List ℕ). drop 3 t) m.spelled in
    end_found m.behind h b (finished_line (drop 3 text) (steps 3 h)) column (is ∙ m.spelled) m.separated
    (λ k g. line_to m.behind (steps 3 h) k (ap (λ (t : List ℕ). finished_line t (steps 3 h)) (sym f) ∙ g)) e
mark_found false false text h b is column a-is d-is e = absurd (cc)

here_by : (a : Bool) (text : List ℕ) (h : Here) (b : Boundary) → h.unread.text ≡ text → (h.place.column == 0) ≡ a
    → (if a then mark_here text h else None) ≡ Some b → BoundaryStands h b
here_by true text h b is column e =
    mark_found (is_mark_of 0x2D text) (is_mark_of 0x2E text) text h b is (eqb-true h.place.column 0 column) refl refl e
here_by false text h b is column e = absurd (cc)

-- what is found here stands here
found_stands : (text : List ℕ) (h : Here) (b : Boundary) → h.unread.text ≡ text → boundary_here text h ≡ Some b
    → BoundaryStands h b
found_stands [] h b is e = let same : AtTextEnd h ≡ b = cc in subst (BoundaryStands h) same (stands_text_end is)
found_stands (c ∷ cs) h b is e = here_by (h.place.column == 0) (c ∷ cs) h b is refl e

-- what stands here is found here
stands_found : (h : Here) (b : Boundary) → BoundaryStands h b → boundary_here h.unread.text h ≡ Some b
stands_found h b (stands_start behind column text separated) =
    ap (λ (t : List ℕ). boundary_here t h) text
    ∙ ap (λ a. if a then mark_here (0x2D ∷ 0x2D ∷ 0x2D ∷ behind) h else None) (ap (λ n. n == 0) column)
    ∙ ap (λ a. if a then Some (AtStart h) else if is_mark_of 0x2E (0x2D ∷ 0x2D ∷ 0x2D ∷ behind) then past_end
    (finished_line behind (steps 3 h)) else None) (is_marked 0x2D behind separated)
stands_found h b (stands_end line behind column text separated finishes ends) =
    ap (λ (t : List ℕ). boundary_here t h) text
    ∙ ap (λ a. if a then mark_here (0x2E ∷ 0x2E ∷ 0x2E ∷ (line ++ behind)) h else None) (ap (λ n. n == 0) column)
    ∙ ap (λ d. if d then past_end (finished_line (line ++ behind) (steps 3 h)) else None)
    (is_marked 0x2E (line ++ behind) separated)
    ∙ ap past_end (line_read finishes behind (steps 3 h) ends)
stands_found h b (stands_text_end text) = ap (λ (t : List ℕ). boundary_here t h) text

-- ---- the next one

pub dropped_if : (b : Bool) (h : Here) (cs : List ℕ) → (past_prefix_mark h).unread.text ≡ cs → (step h).unread.text ≡ cs
    → (if b then past_prefix_mark h else step h).unread.text ≡ cs
dropped_if true h cs p q = p
dropped_if false h cs p q = q

pub dropped_text : (c : ℕ) (cs : List ℕ) (h : Here) → h.unread.text ≡ c ∷ cs → (over_dropped h).unread.text ≡ cs
unfolding past_prefix_mark
dropped_text c cs h e = dropped_if (h.place.column == 0 && is_bom (next_char h)) h cs
    (ap (λ (t : List ℕ). drop 1 t) e ∙ refl) (step_text h ∙ ap (λ (t : List ℕ). drop 1 t) e ∙ refl)

next_by : (text : List ℕ) (h : Here) (r : Option Boundary) (later : Boundary) → boundary_here text h ≡ r
    → h.unread.text ≡ text → NextBoundary (over_dropped h) later → NextBoundary h (boundary_or r later)
next_by text h (Some b) later found is more = next_here (found_stands text h b is found)
next_by text h None later found is more = next_behind (λ other p. absurd
    (let e : boundary_here text h ≡ Some other = ap (λ (t : List ℕ). boundary_here t h) (sym is)
    ∙ stands_found h other p in cc)) more

next_in : (text : List ℕ) (h : Here) → h.unread.text ≡ text → NextBoundary h (boundary_in text h)
next_in [] h is = next_here (stands_text_end is)
next_in (c ∷ cs) h is = next_by (c ∷ cs) h (boundary_here (c ∷ cs) h) (boundary_in cs (over_dropped h)) refl is
    (next_in cs (over_dropped h) (dropped_text c cs h is))

-- the boundary that is found is the next one
pub finds_next : (h : Here) → NextBoundary h (next_boundary h)
unfolding next_boundary
finds_next h = next_in h.unread.text h refl

in_here : (text : List ℕ) (h : Here) (b : Boundary) → boundary_here text h ≡ Some b → boundary_in text h ≡ b
in_here [] h b e = cc
in_here (c ∷ cs) h b e = ap (λ r. boundary_or r (boundary_in cs (over_dropped h))) e

in_behind : (text : List ℕ) (h : Here) (r : Option Boundary) (b : Boundary) → h.unread.text ≡ text
    → boundary_here text h ≡ r → ((other : Boundary) → BoundaryStands h other → ⊥)
    → boundary_in (over_dropped h).unread.text (over_dropped h) ≡ b → boundary_in text h ≡ b
in_behind text h (Some x) b is found none more = absurd (none x (found_stands text h x is found))
in_behind [] h None b is found none more = absurd (cc)
in_behind (c ∷ cs) h None b is found none more =
    ap (λ r. boundary_or r (boundary_in cs (over_dropped h))) found
    ∙ ap (λ (t : List ℕ). boundary_in t (over_dropped h)) (sym (dropped_text c cs h is)) ∙ more

next_found : (h : Here) (b : Boundary) → NextBoundary h b → boundary_in h.unread.text h ≡ b
next_found h b (next_here p) = in_here h.unread.text h b (stands_found h b p)
next_found h b (next_behind none more) = in_behind h.unread.text h (boundary_here h.unread.text h) b refl refl none
    (next_found (over_dropped h) b more)

-- no other one is next
pub only_next : (h : Here) (b : Boundary) → NextBoundary h b → next_boundary h ≡ b
unfolding next_boundary
only_next h b p = next_found h b p

-- ---- from further on

between_next : (h k : Here) (b : Boundary) → NoBoundaryBetween h k → NextBoundary k b → NextBoundary h b
between_next h k b nothing_between p = p
between_next h k b (one_between none plain more) p =
    next_behind none (subst (λ g. NextBoundary g b) (sym (ap (λ c. if c then past_prefix_mark h else step h) plain))
    (between_next (step h) k b more p))

-- where nothing stands between, the same boundary is next
pub same_behind : (h k : Here) → NoBoundaryBetween h k → next_boundary h ≡ next_boundary k
same_behind h k p = only_next h (next_boundary k) (between_next h k (next_boundary k) p (finds_next k))
