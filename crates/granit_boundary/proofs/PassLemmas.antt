-- What is passed on the way to a boundary.
use Rattle.std.proofs.Common.{◌≡◌, ℕ, zero, suc, ◌+◌, ◌≤◌, ◌==◌, ◌&&◌, ◌||◌, Bool, true, false, List, [], ◌∷◌}
use Rattle.std.proofs.Common.{length, drop, Option, Some, None, ◌⊎◌, inl, inr, refl, sym, ap, ap₂, subst, ◌∙◌, arith}
use Rattle.std.proofs.lemmas.Bool.{and_parts, eqb-true, eq-eqb}
use Rattle.std.specs.Prelude.{if◌then◌else◌, slice_index}
use Rattle.std.proofs.lemmas.Bool.Decides.{nat_tests}
use Rattle.std.proofs.lemmas.List.{nil_from_length}
use Rattle.granit_base.specs.Classes.{is_blank, is_bom, is_break}
use Rattle.granit_base.specs.Place.{first}
use Rattle.granit_boundary.specs.Found.{FinishesTo, Within, line_ends_here}
use Rattle.granit_cursor.proofs.MoveLemmas.{run_begins, not_none}
use Rattle.granit_input.specs.Looks.{begins_with_3}
use Rattle.granit_runs.specs.Runs.{is_quoted_char, run_length, starts}
use Rattle.granit_lexemes.proofs.CharTests.{hash_no_blank, bom_is}
use Rattle.granit_lexemes.proofs.HereLemmas.{no_line_end, not_empty, step_text}
use Rattle.granit_lexemes.specs.Comment.{is_line_char}
use Rattle.granit_lexemes.specs.Here.{Here, next_char, step, text_len}
use Rattle.granit_lexemes.specs.Moves.{past_prefix_mark, steps}
use Rattle.granit_restart.proofs.BoundaryLaws.{dropped_text}
use Rattle.granit_restart.specs.Boundary.{Boundary, AtStart, PastEnd, AtTextEnd, is_separated, is_mark_of, past_note}
use Rattle.granit_restart.specs.Boundary.{finished_line, past_end, mark_here, boundary_here, over_dropped, boundary_or}
use Rattle.granit_restart.specs.Boundary.{boundary_in, next_boundary}

-- ---- one character

-- at the end of the text
pub at_end : (h : Here) → (text_len h == 0) ≡ true → next_boundary h ≡ AtTextEnd h
unfolding next_boundary
at_end h e = ap (λ (t : List ℕ). boundary_in t h) (nil_from_length h.unread.text (eqb-true (length h.unread.text) 0 e))

-- a first character
record Begun (text : List ℕ) : Type 0 where
  first_one : ℕ
  rest : List ℕ
  spelled : text ≡ first_one ∷ rest

begun : (text : List ℕ) → (length text == 0) ≡ false → Begun text
begun [] e = absurd (cc)
begun (c ∷ cs) e = record { first_one = c; rest = cs; spelled = refl }

-- where no boundary stands, the next one is that behind what is dropped
none_here : (c : ℕ) (cs : List ℕ) (h : Here) → h.unread.text ≡ c ∷ cs → boundary_here (c ∷ cs) h ≡ None
    → next_boundary (over_dropped h) ≡ next_boundary h
unfolding next_boundary
none_here c cs h e none =
    ap (λ (t : List ℕ). boundary_in t (over_dropped h)) (dropped_text c cs h e)
    ∙ sym (ap (λ (t : List ℕ). boundary_in t h) e ∙ ap (λ r. boundary_or r (boundary_in cs (over_dropped h))) none)

inside : (c : ℕ) (cs : List ℕ) (h : Here) → h.unread.text ≡ c ∷ cs → (h.place.column == 0) ≡ false
    → next_boundary (step h) ≡ next_boundary h
inside c cs h e column =
    sym (ap (λ b. next_boundary (if b && is_bom (next_char h) then past_prefix_mark h else step h)) column)
    ∙ none_here c cs h e (ap (λ b. if b then mark_here (c ∷ cs) h else None) column)

-- on a line that was begun
pub inside_here : (h : Here) → (text_len h == 0) ≡ false → (h.place.column == 0) ≡ false
    → next_boundary (step h) ≡ next_boundary h
inside_here h some column = let b = begun h.unread.text some in inside b.first_one b.rest h b.spelled column

-- in column 0, where no mark stands
beginning : (c : ℕ) (cs : List ℕ) (h : Here) → h.unread.text ≡ c ∷ cs → h.place.column ≡ 0
    → is_bom (next_char h) ≡ false → mark_here (c ∷ cs) h ≡ None → next_boundary (step h) ≡ next_boundary h
beginning c cs h e column bom none =
    let is = eq-eqb h.place.column 0 column in
    sym (ap₂ (λ a b. next_boundary (if a && b then past_prefix_mark h else step h)) is bom)
    ∙ none_here c cs h e (ap (λ b. if b then mark_here (c ∷ cs) h else None) is ∙ none)

-- ---- a byte-order mark

no_mark_at : (sign : ℕ) (c : ℕ) (cs : List ℕ) → (c == sign) ≡ false → is_mark_of sign (c ∷ cs) ≡ false
no_mark_at sign c [] e = refl
no_mark_at sign c (b ∷ []) e = refl
no_mark_at sign c (b ∷ d ∷ cs) e = ap (λ x. (x && (b == sign && d == sign)) && is_separated cs) e

no_mark : (text : List ℕ) (h : Here) → is_mark_of 0x2D text ≡ false → is_mark_of 0x2E text ≡ false
    → mark_here text h ≡ None
no_mark text h a b =
    ap₂ (λ x y. if x then Some (AtStart h) else if y then past_end (finished_line (drop 3 text) (steps 3 h)) else None)
    a b

pub prefix_here : (h : Here) → (text_len h == 0) ≡ false → h.place.column ≡ 0 → is_bom (next_char h) ≡ true
    → next_boundary (past_prefix_mark h) ≡ next_boundary h
prefix_here h some column bom =
    let t = begun h.unread.text some in
    let front : next_char h ≡ t.first_one = ap (λ (x : List ℕ). slice_index x 0) t.spelled in
    let mark : t.first_one ≡ 0xFEFF = bom_is t.first_one (ap is_bom (sym front) ∙ bom) in
    let is = eq-eqb h.place.column 0 column in
    sym (ap₂ (λ a b. next_boundary (if a && b then past_prefix_mark h else step h)) is bom)
    ∙ none_here t.first_one t.rest h t.spelled (ap (λ b. if b then mark_here (t.first_one ∷ t.rest) h else None) is
    ∙ no_mark (t.first_one ∷ t.rest) h (no_mark_at 0x2D t.first_one t.rest (ap (λ d. d == 0x2D) mark))
    (no_mark_at 0x2E t.first_one t.rest (ap (λ d. d == 0x2E) mark)))

-- ---- on a line

added : (n : ℕ) → (n + 1 == 0) ≡ false
added n = grind (arith, nat_tests)

step_place : (c : ℕ) (cs : List ℕ) (h : Here) → h.unread.text ≡ c ∷ cs → is_break c ≡ false
    → ((step h).place.column == 0) ≡ false
unfolding step
step_place c cs h e line = rw (e, not_empty c cs, no_line_end c cs line) (added h.place.column)

within_one : (c : ℕ) (cs : List ℕ) (h : Here) → h.unread.text ≡ c ∷ cs → is_break c ≡ false → Within h (step h)
within_one c cs h e line = λ column. (step_place c cs h e line, inside c cs h e column)

pub within_step : (h : Here) → (text_len h == 0) ≡ false → is_break (next_char h) ≡ false → Within h (step h)
within_step h some line =
    let t = begun h.unread.text some in
    let front : next_char h ≡ t.first_one = ap (λ (x : List ℕ). slice_index x 0) t.spelled in
    within_one t.first_one t.rest h t.spelled (ap is_break (sym front) ∙ line)

pub within_none : (h : Here) → Within h h
within_none h = λ column. (column, refl)

pub within_both : (h k m : Here) → Within h k → Within k m → Within h m
within_both h k m a b = λ column.
    let one = a column in
    let two = b one.0 in
    (two.0, two.1 ∙ one.1)

-- a run of a line
abbrev pub NoBreaks : (List ℕ → Bool) → Type 0
NoBreaks test = (text : List ℕ) → test text ≡ true → is_break (first text) ≡ false

pub run_within : (test : List ℕ → Bool) (n : ℕ) (h : Here) → NoBreaks test → n ≤ run_length test h.unread.text
    → Within h (steps n h)
unfolding steps
run_within test zero h line fits = within_none h
run_within test (suc n) h line fits =
    let b = run_begins test n h.unread.text fits in
    within_both h (step h) (steps n (step h))
    (within_step h (not_none (length h.unread.text) b.some) (line h.unread.text b.passes))
    (run_within test n (step h) line (rw (step_text h) b.more))

-- ---- three characters

same : (a : ℕ) → (a == a) ≡ true
same a = grind (arith, nat_tests)

record Three (s : ℕ) (text : List ℕ) : Type 0 where
  rest : List ℕ
  spelled : text ≡ s ∷ s ∷ s ∷ rest

three : (s : ℕ) (text : List ℕ) → (0 == s) ≡ false → begins_with_3 s s s text ≡ true → Three s text
three s [] none e = absurd (let f = (and_parts (0 == s) (0 == s) (and_parts (0 == s && 0 == s) (0 == s) e).0).0 in cc)
three s (a ∷ []) none e = absurd (let f = (and_parts (a == s && 0 == s) (0 == s) e).1 in cc)
three s (a ∷ b ∷ []) none e = absurd (let f = (and_parts (a == s && b == s) (0 == s) e).1 in cc)
three s (a ∷ b ∷ c ∷ cs) none e =
    let all = (and_parts (a == s && b == s) (c == s) e).0 in
    record {
      rest = cs;
      spelled = ap₂ (λ x (t : List ℕ). x ∷ t) (eqb-true a s (and_parts (a == s) (b == s) all).0)
          (ap₂ (λ x (t : List ℕ). x ∷ t) (eqb-true b s (and_parts (a == s) (b == s) all).1)
          (ap (λ x. x ∷ cs) (eqb-true c s (and_parts (a == s && b == s) (c == s) e).1)));
    }

steps_text : (a b c : ℕ) (cs : List ℕ) (h : Here) → h.unread.text ≡ a ∷ b ∷ c ∷ cs → (steps 3 h).unread.text ≡ cs
unfolding steps
steps_text a b c cs h e =
    step_text (step (step h)) ∙ ap (λ (t : List ℕ). drop 1 t) (step_text (step h))
    ∙ ap (λ (t : List ℕ). drop 1 (drop 1 t)) (step_text h) ∙ ap (λ (t : List ℕ). drop 1 (drop 1 (drop 1 t))) e

marked : (s : ℕ) (cs : List ℕ) → is_mark_of s (s ∷ s ∷ s ∷ cs) ≡ is_separated cs
marked s cs = ap (λ b. (b && (b && b)) && is_separated cs) (same s)

found_in : (text : List ℕ) (h : Here) (b : Boundary) → h.unread.text ≡ text → boundary_here text h ≡ Some b
    → next_boundary h ≡ b
unfolding next_boundary
found_in [] h b is e = ap (λ (t : List ℕ). boundary_in t h) is ∙ cc
found_in (c ∷ cs) h b is e =
    ap (λ (t : List ℕ). boundary_in t h) is ∙ ap (λ r. boundary_or r (boundary_in cs (over_dropped h))) e

-- three of a sign that is no break, where no boundary stands
passed : (s : ℕ) (cs : List ℕ) (h : Here) → h.unread.text ≡ s ∷ s ∷ s ∷ cs → h.place.column ≡ 0 → is_break s ≡ false
    → is_bom s ≡ false → mark_here (s ∷ s ∷ s ∷ cs) h ≡ None
    → ((steps 3 h).place.column == 0 ≡ false) × (next_boundary (steps 3 h) ≡ next_boundary h)
unfolding steps
passed s cs h e column line bom none =
    let one = step_text h ∙ ap (λ (t : List ℕ). drop 1 t) e in
    let two = step_text (step h) ∙ ap (λ (t : List ℕ). drop 1 t) one in
    let front : next_char h ≡ s = ap (λ (x : List ℕ). slice_index x 0) e in
    let w = within_both (step h) (step (step h)) (step (step (step h))) (within_one s (s ∷ cs) (step h) one line)
    (within_one s cs (step (step h)) two line) (step_place s (s ∷ s ∷ cs) h e line) in
    (w.0, w.1 ∙ beginning s (s ∷ s ∷ cs) h e column (ap is_bom front ∙ bom) none)

-- ---- `---`

dash_line : is_break 0x2D ≡ false
unfolding is_break
dash_line = refl

dash_bom : is_bom 0x2D ≡ false
unfolding is_bom
dash_bom = refl

pub start_found : (h : Here) → h.place.column ≡ 0 → begins_with_3 0x2D 0x2D 0x2D h.unread.text ≡ true
    → is_separated (steps 3 h).unread.text ≡ true → next_boundary h ≡ AtStart h
start_found h column sign separated =
    let t = three 0x2D h.unread.text refl sign in
    let behind : is_separated t.rest ≡ true =
    ap is_separated (sym (steps_text 0x2D 0x2D 0x2D t.rest h t.spelled)) ∙ separated in
    let text = 0x2D ∷ 0x2D ∷ 0x2D ∷ t.rest in
    found_in text h (AtStart h) t.spelled
    (ap (λ b. if b then mark_here text h else None) (eq-eqb h.place.column 0 column)
    ∙ ap (λ b. if b then Some (AtStart h) else if is_mark_of 0x2E text then past_end
    (finished_line (drop 3 text) (steps 3 h)) else None) (marked 0x2D t.rest ∙ behind))

pub start_passed : (h : Here) → h.place.column ≡ 0 → begins_with_3 0x2D 0x2D 0x2D h.unread.text ≡ true
    → is_separated (steps 3 h).unread.text ≡ false → next_boundary (steps 3 h) ≡ next_boundary h
start_passed h column sign separated =
    let t = three 0x2D h.unread.text refl sign in
    let behind : is_separated t.rest ≡ false =
    ap is_separated (sym (steps_text 0x2D 0x2D 0x2D t.rest h t.spelled)) ∙ separated in
    (passed 0x2D t.rest h t.spelled column dash_line dash_bom
    (no_mark (0x2D ∷ 0x2D ∷ 0x2D ∷ t.rest) h (marked 0x2D t.rest ∙ behind) refl)).1

-- ---- `...`

dot_line : is_break 0x2E ≡ false
unfolding is_break
dot_line = refl

dot_bom : is_bom 0x2E ≡ false
unfolding is_bom
dot_bom = refl

-- three dots, by what stands behind them
pub dots_passed : (h : Here) → h.place.column ≡ 0 → begins_with_3 0x2E 0x2E 0x2E h.unread.text ≡ true
    → is_separated (steps 3 h).unread.text ≡ false → next_boundary (steps 3 h) ≡ next_boundary h
dots_passed h column sign separated =
    let t = three 0x2E h.unread.text refl sign in
    let behind : is_separated t.rest ≡ false =
    ap is_separated (sym (steps_text 0x2E 0x2E 0x2E t.rest h t.spelled)) ∙ separated in
    (passed 0x2E t.rest h t.spelled column dot_line dot_bom
    (no_mark (0x2E ∷ 0x2E ∷ 0x2E ∷ t.rest) h refl (marked 0x2E t.rest ∙ behind))).1

line_passed : (h : Here) (cs : List ℕ) → h.unread.text ≡ 0x2E ∷ 0x2E ∷ 0x2E ∷ cs
    → is_separated (steps 3 h).unread.text ≡ true → (r : Option Here)
    → finished_line (steps 3 h).unread.text (steps 3 h) ≡ r → mark_here (0x2E ∷ 0x2E ∷ 0x2E ∷ cs) h ≡ past_end r
line_passed h cs e separated r line =
    let text = steps_text 0x2E 0x2E 0x2E cs h e in
    ap (λ b. if b then past_end (finished_line cs (steps 3 h)) else None)
    (marked 0x2E cs ∙ ap is_separated (sym text) ∙ separated)
    ∙ ap (λ (t : List ℕ). past_end (finished_line t (steps 3 h))) (sym text) ∙ ap past_end line

pub end_found : (h k : Here) → h.place.column ≡ 0 → begins_with_3 0x2E 0x2E 0x2E h.unread.text ≡ true
    → is_separated (steps 3 h).unread.text ≡ true → finished_line (steps 3 h).unread.text (steps 3 h) ≡ Some k
    → next_boundary h ≡ PastEnd k
end_found h k column sign separated line =
    let t = three 0x2E h.unread.text refl sign in
    let text = 0x2E ∷ 0x2E ∷ 0x2E ∷ t.rest in
    found_in text h (PastEnd k) t.spelled
    (ap (λ b. if b then mark_here text h else None) (eq-eqb h.place.column 0 column)
    ∙ line_passed h t.rest t.spelled separated (Some k) line)

pub end_passed : (h k : Here) → h.place.column ≡ 0 → begins_with_3 0x2E 0x2E 0x2E h.unread.text ≡ true
    → is_separated (steps 3 h).unread.text ≡ true → finished_line (steps 3 h).unread.text (steps 3 h) ≡ None
    → Within (steps 3 h) k → next_boundary k ≡ next_boundary h
end_passed h k column sign separated line within =
    let t = three 0x2E h.unread.text refl sign in
    let p = passed 0x2E t.rest h t.spelled column dot_line dot_bom
    (line_passed h t.rest t.spelled separated None line) in
    (within p.0).1 ∙ p.1

-- ---- neither of them

no_three : (s : ℕ) (text : List ℕ) → begins_with_3 s s s text ≡ false → is_mark_of s text ≡ false
no_three s [] e = refl
no_three s (a ∷ []) e = refl
no_three s (a ∷ b ∷ []) e = refl
no_three s (a ∷ b ∷ c ∷ cs) e = by (a == s) (b == s) (c == s) e
  where
    by : (x y z : Bool) → ((x && y) && z) ≡ false → ((x && (y && z)) && is_separated cs) ≡ false
    by true true z e = ap (λ b. b && is_separated cs) e
    by true false z e = refl
    by false y z e = refl

pub beginning_here : (h : Here) → (text_len h == 0) ≡ false → h.place.column ≡ 0 → is_bom (next_char h) ≡ false
    → begins_with_3 0x2D 0x2D 0x2D h.unread.text ≡ false → begins_with_3 0x2E 0x2E 0x2E h.unread.text ≡ false
    → next_boundary (step h) ≡ next_boundary h
beginning_here h some column bom dashes dots =
    let t = begun h.unread.text some in
    let text = t.first_one ∷ t.rest in
    beginning t.first_one t.rest h t.spelled column bom
    (no_mark text h
    (no_three 0x2D text (subst (λ (x : List ℕ). begins_with_3 0x2D 0x2D 0x2D x ≡ false) t.spelled dashes))
    (no_three 0x2E text (subst (λ (x : List ℕ). begins_with_3 0x2E 0x2E 0x2E x ≡ false) t.spelled dots)))

-- ---- the line of a `...`

goes_on : (text : List ℕ) → line_ends_here text ≡ false → ((length text == 0) ≡ false) × (is_break (first text) ≡ false)
goes_on [] e = absurd (cc)
goes_on (c ∷ cs) e = (not_empty c cs, e)

pub within_line : (h : Here) → line_ends_here h.unread.text ≡ false → Within h (step h)
within_line h e = let g = goes_on h.unread.text e in within_step h g.0 g.1

note_by : (text : List ℕ) (h : Here) → h.unread.text ≡ text → line_ends_here text ≡ false
    → is_line_char (first text) ≡ true → past_note (step h).unread.text (step h) ≡ past_note text h
note_by [] h is e note = absurd (cc)
note_by (c ∷ cs) h is e note =
    ap (λ (t : List ℕ). past_note t (step h)) (step_text h ∙ ap (λ (t : List ℕ). drop 1 t) is)
    ∙ sym (ap₂ (λ a b. if a then Some h else if b then past_note cs (step h) else None) e note)

pub note_goes : (h : Here) → line_ends_here h.unread.text ≡ false → is_line_char (next_char h) ≡ true
    → past_note (step h).unread.text (step h) ≡ past_note h.unread.text h
note_goes h e note = note_by h.unread.text h refl e note

note_none : (text : List ℕ) (h : Here) → line_ends_here text ≡ false → is_line_char (first text) ≡ false
    → past_note text h ≡ None
note_none [] h e note = absurd (cc)
note_none (c ∷ cs) h e note =
    ap₂ (λ a b. if a then Some h else if b then past_note cs (step h) else None) e note

pub note_stops : (h : Here) → line_ends_here h.unread.text ≡ false → is_line_char (next_char h) ≡ false
    → past_note h.unread.text h ≡ None
note_stops h e note = note_none h.unread.text h e note

note_end : (text : List ℕ) (h : Here) → line_ends_here text ≡ true → past_note text h ≡ Some h
note_end [] h e = refl
note_end (c ∷ cs) h e = ap (λ a. if a then Some h else if is_line_char c then past_note cs (step h) else None) e

pub note_ends : (h : Here) → line_ends_here h.unread.text ≡ true → past_note h.unread.text h ≡ Some h
note_ends h e = note_end h.unread.text h e

line_end : (text : List ℕ) (h : Here) → line_ends_here text ≡ true → finished_line text h ≡ Some h
line_end [] h e = refl
line_end (c ∷ cs) h e =
    ap (λ a. if a then Some h else if is_blank c then finished_line cs (step h)
    else if c == 0x23 then past_note cs (step h) else None) e

pub line_finished : (h : Here) → line_ends_here h.unread.text ≡ true → finished_line h.unread.text h ≡ Some h
line_finished h e = line_end h.unread.text h e

blank_by : (text : List ℕ) (h : Here) → h.unread.text ≡ text → line_ends_here text ≡ false
    → is_blank (first text) ≡ true → finished_line (step h).unread.text (step h) ≡ finished_line text h
blank_by [] h is e blank = absurd (cc)
blank_by (c ∷ cs) h is e blank =
    ap (λ (t : List ℕ). finished_line t (step h)) (step_text h ∙ ap (λ (t : List ℕ). drop 1 t) is)
    ∙ sym (ap₂ (λ a b. if a then Some h else if b then finished_line cs (step h)
    else if c == 0x23 then past_note cs (step h) else None) e blank)

pub blank_goes : (h : Here) → line_ends_here h.unread.text ≡ false → is_blank (next_char h) ≡ true
    → finished_line (step h).unread.text (step h) ≡ finished_line h.unread.text h
blank_goes h e blank = blank_by h.unread.text h refl e blank

hash_by : (text : List ℕ) (h : Here) → h.unread.text ≡ text → line_ends_here text ≡ false → first text ≡ 0x23
    → past_note (step h).unread.text (step h) ≡ finished_line text h
hash_by [] h is e hash = absurd (cc)
hash_by (c ∷ cs) h is e hash =
    ap (λ (t : List ℕ). past_note t (step h)) (step_text h ∙ ap (λ (t : List ℕ). drop 1 t) is)
    ∙ sym (ap₂ (λ a b. if a then Some h else if b then finished_line cs (step h)
    else if c == 0x23 then past_note cs (step h) else None) e (hash_no_blank c hash)
    ∙ ap (λ d. if d == 0x23 then past_note cs (step h) else None) hash)

pub hash_goes : (h : Here) → line_ends_here h.unread.text ≡ false → next_char h ≡ 0x23
    → past_note (step h).unread.text (step h) ≡ finished_line h.unread.text h
hash_goes h e hash = hash_by h.unread.text h refl e hash

no_hash : (c : ℕ) → (c ≡ 0x23 → ⊥) → (c == 0x23) ≡ false
no_hash c other = grind (arith, nat_tests, other)

other_by : (text : List ℕ) (h : Here) → line_ends_here text ≡ false → is_blank (first text) ≡ false
    → (first text ≡ 0x23 → ⊥) → finished_line text h ≡ None
other_by [] h e blank other = absurd (cc)
other_by (c ∷ cs) h e blank other =
    ap₂ (λ a b. if a then Some h else if b then finished_line cs (step h)
    else if c == 0x23 then past_note cs (step h) else None) e blank
    ∙ ap (λ b. if b then past_note cs (step h) else None) (no_hash c other)

pub other_stops : (h : Here) → line_ends_here h.unread.text ≡ false → is_blank (next_char h) ≡ false
    → (next_char h ≡ 0x23 → ⊥) → finished_line h.unread.text h ≡ None
other_stops h e blank other = other_by h.unread.text h e blank other

-- ---- a run of quoted characters

break_is : (c : ℕ) → is_break c ≡ true → (c ≡ 0x0A) ⊎ (c ≡ 0x0D)
unfolding is_break
break_is c e = by (c == 0x0A) refl e
  where
    by : (a : Bool) → (c == 0x0A) ≡ a → (a || c == 0x0D) ≡ true → (c ≡ 0x0A) ⊎ (c ≡ 0x0D)
    by true is all = inl (eqb-true c 0x0A is)
    by false is all = inr (eqb-true c 0x0D all)

not_quoted : (c : ℕ) → (c ≡ 0x0A) ⊎ (c ≡ 0x0D) → is_quoted_char true c ≡ true → ⊥
not_quoted c (inl is) e = let f : is_quoted_char true 0x0A ≡ true = ap (is_quoted_char true) (sym is) ∙ e in absurd (cc)
not_quoted c (inr is) e = let f : is_quoted_char true 0x0D ≡ true = ap (is_quoted_char true) (sym is) ∙ e in absurd (cc)

quoted_line : (c : ℕ) → is_quoted_char true c ≡ true → is_break c ≡ false
quoted_line c e = by (is_break c) refl
  where
    by : (b : Bool) → is_break c ≡ b → is_break c ≡ false
    by true is = absurd (let w = break_is c is in not_quoted c w e)
    by false is = is

quoted_breaks : NoBreaks (starts (is_quoted_char true))
quoted_breaks text e = quoted_line (first text) e

pub quoted_within : (n : ℕ) (h : Here) → n ≡ run_length (starts (is_quoted_char true)) h.unread.text
    → Within h (steps n h)
quoted_within n h e = run_within (starts (is_quoted_char true)) n h quoted_breaks (omega (arith, e))

pub none_taken : (n : ℕ) (h : Here) → n ≡ 0 → (text_len h == 0) ≡ false → (h.place.column == 0) ≡ false
    → next_boundary (step (steps n h)) ≡ next_boundary h
unfolding steps
none_taken n h e some column = ap (λ m. next_boundary (step (steps m h))) e ∙ inside_here h some column

-- ---- the rest of a comment finishes its line

pub finishes_behind : (Lands : Here → Type 0) (b : Bool) (h k : Here)
    → past_note k.unread.text k ≡ finished_line h.unread.text h → Within h k → FinishesTo past_note Lands b k
    → FinishesTo finished_line Lands b h
finishes_behind Lands true h k is within p = (p.0, sym is ∙ p.1, p.2)
finishes_behind Lands false h k is within p =
    (sym is ∙ p.0, (p.1.0, p.1.1, within_both h k p.1.0 within p.1.2))
