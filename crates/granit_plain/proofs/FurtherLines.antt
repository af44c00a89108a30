-- What is read of a plain scalar behind its first line, and the whole of it.
use Rattle.std.proofs.Common.{◌≡◌, ℕ, zero, suc, ◌+◌, ◌<◌, ◌≤◌, ◌==◌, Bool, true, false, cond, not, ◌&&◌, ◌||◌}
use Rattle.std.proofs.Common.{List, []}
use Rattle.std.proofs.Common.{◌∷◌, ◌++◌, length, drop, slice_index, Option, Result, Ok, Err, ◌⊎◌, inl, inr, refl, sym}
use Rattle.std.proofs.Common.{ap, ◌∙◌, subst, arith}
use Rattle.std.specs.Prelude.{if◌then◌else◌}
use Rattle.std.proofs.lemmas.Bool.{and_parts, eqb-true, eq-eqb}
use Rattle.std.proofs.lemmas.Bool.Decides.{nat_tests}
use Rattle.std.proofs.lemmas.List.{append-nil}
use Rattle.granit_base.specs.Classes.{is_break}
use Rattle.granit_base.specs.Place.{Mark, Place, first, ends_line}
use Rattle.granit_base.specs.Written.{Written, lent}
use Rattle.granit_lexemes.specs.Basics.{past_break, unprintable, only_printable, owned, lent_if}
use Rattle.granit_lexemes.specs.Here.{Here, next_char, mark_of, step}
use Rattle.granit_lexemes.specs.LayoutData.{LayoutData}
use Rattle.granit_lexemes.specs.Outcome.{Fault, ◌>>=◌}
use Rattle.granit_lexemes.specs.Pieces.{with_front, then_more, turns, pieces}
use Rattle.granit_lexemes.specs.PlainExtent.{is_flow_dash}
use Rattle.granit_lexemes.specs.PlainScalar.{PlainState, PlainRead, between, on_content, on_blank, on_break, plain_turn}
use Rattle.granit_lexemes.specs.PlainScalar.{plain_len, plain_start, is_one_line, behind_plain, plain_scalar}
use Rattle.granit_lexemes.proofs.HereLemmas.{step_lends, step_text, if_lends}
use Rattle.granit_lexemes.proofs.PlainTurned.{Turned, past_a_blank, past_a_break, at_a_comment, at_a_tab, at_a_line}
use Rattle.granit_lexemes.proofs.PlainTurned.{past_content, at_no_content, turned}
use Rattle.granit_scalars.proofs.Stepping.{seen, second_of, is_break_nul, line_ends_as}
use Rattle.granit_plain.specs.LineCode.{LinePassed, line_state, broken_state, text_of_lines, further_scalar}
use Rattle.granit_plain.specs.LineCode.{line_scalar}
use Rattle.granit_plain.specs.PlainCode.{plain_rest, plain_whole, nothing_taken, cuts_at, ended_plain, plain_ended_by}
use Rattle.granit_plain.specs.PlainCode.{copied_plain}
use Rattle.granit_plain.specs.PlainTaken.{PlainTaken}
use Rattle.granit_plain.proofs.PlainLemmas.{plain_begins}

-- ---- lines

line_of : (b : Bool) (h g : Here) (l : ℕ) → l ≤ h.place.line → l ≤ g.place.line → l ≤ (cond b h g).place.line
line_of true h g l p q = p
line_of false h g l p q = q

line_after : (b : Bool) (p : Place) → p.line ≤ (cond {A = Place} b
    (record { index = p.index + 1; line = p.line + 1; column = 0 })
    (record { index = p.index + 1; line = p.line; column = p.column + 1 })).line
line_after true p = omega arith
line_after false p = omega arith

-- no step leads to an earlier line
pub step_line : (h : Here) → h.place.line ≤ (step h).place.line
unfolding step
step_line h = line_of (length h.unread.text == 0) h _ h.place.line (omega arith)
    (line_after (ends_line h.unread.text) h.place)

-- the end of a line leads to the next one
line_on : (h : Here) → 0 < length h.unread.text → ends_line h.unread.text ≡ true
    → (step h).place.line ≡ h.place.line + 1
unfolding step
line_on h some ends =
    let there : (length h.unread.text == 0) ≡ false = grind (arith, nat_tests, some) in
    rw (there, ends) refl

break_some : (h : Here) → is_break (next_char h) ≡ true → 0 < length h.unread.text
break_some h y = let s = seen is_break h is_break_nul y in rw s.is (omega arith)

break_ends : (c second : ℕ) → is_break c ≡ true → (c == 0x0D && second == 0x0A) ≡ false
    → (c == 0x0A || (c == 0x0D && not (second == 0x0A))) ≡ true
unfolding is_break
break_ends c second y n = line_ends_as (c == 0x0A) (c == 0x0D) (second == 0x0A) y n

lf_breaks : (c : ℕ) → (c == 0x0A) ≡ true → is_break c ≡ true
unfolding is_break
lf_breaks c y = rw y refl

-- a break leads to a later line
pub break_line : (h : Here) → is_break (next_char h) ≡ true → h.place.line < (past_break h).place.line
unfolding past_break
break_line h y = by (next_char h == 0x0D && slice_index h.unread.text 1 == 0x0A) refl
  where
    by : (b : Bool) → (next_char h == 0x0D && slice_index h.unread.text 1 == 0x0A) ≡ b
        → h.place.line < (cond b (step (step h)) (step h)).place.line
    by true e =
        let second = (and_parts (next_char h == 0x0D) (slice_index h.unread.text 1 == 0x0A) e).1 in
        let lf : (next_char (step h) == 0x0A) ≡ true = ap (λ n. n == 0x0A)
        (sym (second_of h (seen is_break h is_break_nul y))) ∙ second in
        let on = line_on (step h) (break_some (step h) (lf_breaks (next_char (step h)) lf)) (rw lf refl) in
        omega (arith, on, step_line h)
    by false e =
        let behind : first (drop 1 h.unread.text) ≡ slice_index h.unread.text 1 = ap first (sym (step_text h))
        ∙ sym (second_of h (seen is_break h is_break_nul y)) in
        let ends : ends_line h.unread.text ≡ true =
        ap (λ n. next_char h == 0x0A || (next_char h == 0x0D && not (n == 0x0A))) behind
        ∙ break_ends (next_char h) (slice_index h.unread.text 1) y e in
        let on = line_on h (break_some h y) ends in
        omega (arith, on)

-- ---- what is read from a state on

-- It is lent where what stands there is; and behind a line, it is nothing or ends on a later one.
pub record Behind (line : ℕ) (s : PlainState) (value : List ℕ) (last : PlainState) : Type 0 where
  lends : last.here.unread.lends ≡ s.here.unread.lends
  pub reaches : s.here.place.line ≤ last.here.place.line
  pub later : line < s.here.place.line → line < s.end.place.line → line < last.end.place.line
  grown : line < s.here.place.line → (value ≡ []) ⊎ (line < last.end.place.line)

abbrev pub BehindTo : ℕ → PlainState → Result (List ℕ × PlainState) Fault → Type 0
BehindTo line s (Ok (value, last)) = Behind line s value last
BehindTo line s (Err f) = Unit {0}

nothing : (line : ℕ) (s : PlainState) → Behind line s [] s
nothing line s = record { lends = refl; reaches = omega arith; later = λ p q. q; grown = λ p. inl refl }

-- on over a blank or a break
gap_behind : (line : ℕ) (s after : PlainState) (r : Result (List ℕ × PlainState) Fault) → after.end ≡ s.end
    → s.here.place.line ≤ after.here.place.line → after.here.unread.lends ≡ s.here.unread.lends
    → BehindTo line after r → BehindTo line s (with_front [] r)
gap_behind line s after (Ok (value, last)) end on lends b = record {
  lends = b.lends ∙ lends;
  reaches = omega (arith, on, b.reaches);
  later = λ p q. b.later (omega (arith, p, on)) (subst (λ (m : Mark). line < m.place.line) (sym end) q);
  grown = λ p. b.grown (omega (arith, p, on));
}
gap_behind line s after (Err f) end on lends b = tt

-- on over content
content_behind : (line : ℕ) (s : PlainState) (front : List ℕ) (r : Result (List ℕ × PlainState) Fault)
    → BehindTo line (on_content s) r → BehindTo line s (with_front front r)
unfolding on_content
content_behind line s front (Ok (value, last)) b =
    let on = step_line s.here in
    record {
      lends = b.lends ∙ step_lends s.here;
      reaches = omega (arith, on, b.reaches);
      later = λ p q. b.later (omega (arith, p, on)) (omega (arith, p, on));
      grown = λ p. inr (b.later (omega (arith, p, on)) (omega (arith, p, on)));
    }
content_behind line s front (Err f) b = tt

blank_at : (at : LayoutData) (s : PlainState) (b : Bool) → s.on_new_line ≡ b
    → ((on_blank at s).here ≡ step s.here) × ((on_blank at s).end ≡ s.end)
unfolding on_blank
blank_at at s true e = rw e (refl, refl)
blank_at at s false e = rw e (refl, refl)

pub break_at : (s : PlainState) (b : Bool) → s.on_new_line ≡ b
    → ((on_break s).here ≡ past_break s.here) × ((on_break s).end ≡ s.end)
unfolding on_break
break_at s true e = rw e (refl, refl)
break_at s false e = rw e (refl, refl)

break_lends : (h : Here) → (past_break h).unread.lends ≡ h.unread.lends
unfolding past_break
break_lends h = if_lends (next_char h == 0x0D && slice_index h.unread.text 1 == 0x0A) (step (step h)) (step h)
    h.unread.lends (step_lends (step h) ∙ step_lends h) (step_lends h)

turn_behind : {at : LayoutData} {start : Mark} (line : ℕ) (s : PlainState)
    (r : Result (Option (List ℕ) × PlainState) Fault) → Turned at start s r → (n : ℕ)
    → ((after : PlainState) → BehindTo line after (turns (plain_turn at start) n after))
    → BehindTo line s (r >>= λ x. then_more (turns (plain_turn at start) n) x.0 x.1)
turn_behind {at} {start} line s r (past_a_blank y) n more =
    let on = blank_at at s s.on_new_line refl in
    gap_behind line s (on_blank at s) (turns (plain_turn at start) n (on_blank at s)) on.1
    (subst (λ (g : Here). s.here.place.line ≤ g.place.line) (sym on.0) (step_line s.here))
    (ap (λ (g : Here). g.unread.lends) on.0 ∙ step_lends s.here) (more (on_blank at s))
turn_behind {at} {start} line s r (past_a_break y) n more =
    let on = break_at s s.on_new_line refl in
    let later = break_line s.here y in
    let on_line : s.here.place.line ≤ (past_break s.here).place.line = omega (arith, later) in
    gap_behind line s (on_break s) (turns (plain_turn at start) n (on_break s)) on.1
    (subst (λ (g : Here). s.here.place.line ≤ g.place.line) (sym on.0) on_line)
    (ap (λ (g : Here). g.unread.lends) on.0 ∙ break_lends s.here) (more (on_break s))
turn_behind line s r (at_a_comment k m) n more = nothing line s
turn_behind line s r (at_a_tab k m y) n more = tt
turn_behind line s r (at_a_line k m y) n more = nothing line s
turn_behind {at} {start} line s r (past_content m t l y) n more =
    content_behind line s (between s ++ next_char s.here ∷ []) (turns (plain_turn at start) n (on_content s))
    (more (on_content s))
turn_behind line s r (at_no_content k m y) n more = nothing line s

turns_behind : (at : LayoutData) (start : Mark) (line n : ℕ) (s : PlainState)
    → BehindTo line s (turns (plain_turn at start) n s)
unfolding turns
turns_behind at start line zero s = nothing line s
turns_behind at start line (suc n) s =
    turn_behind line s (plain_turn at start s) (turned at start s) n (λ after. turns_behind at start line n after)

pub rest_behind : (at : LayoutData) (start : Mark) (line : ℕ) (s : PlainState) → BehindTo line s (plain_rest at start s)
unfolding pieces
rest_behind at start line s = turns_behind at start line (suc (plain_len s)) s

-- ---- the whole scalar

abbrev finished : LayoutData → Mark → List ℕ × PlainState → Result (PlainRead × Here) Fault
finished at start x = only_printable (unprintable x.0) start (behind_plain at start x.0 x.1)

-- where a scalar ends, its text is what the definition says
ended_is : (at : LayoutData) (start : Mark) (value : List ℕ) (s : PlainState) (text : Written)
    → text ≡ lent_if (is_one_line start s.end) s.here value
    → finished at start (value, s) ≡ ended_plain at start text s.end s.on_new_line
    (cuts_at s.left_tab s.on_new_line s.pending) s.here
unfolding behind_plain
ended_is at start value s text is = ap (λ (t : Written). ended_plain at start t s.end s.on_new_line
    (cuts_at s.left_tab s.on_new_line s.pending) s.here) (sym is)

whole_is : (at : LayoutData) (h : Here) (start : Mark) → start ≡ mark_of h → is_flow_dash at h.unread.text ≡ false
    → plain_scalar at h ≡ (plain_rest at start (plain_start h) >>= finished at start)
unfolding plain_scalar
whole_is at h start is n =
    (let whole : plain_scalar at h ≡ (plain_rest at (mark_of h) (plain_start h) >>= finished at (mark_of h))
    = rw n refl in whole)
    ∙ ap (λ (m : Mark). plain_rest at m (plain_start h) >>= finished at m) (sym is)

-- a scalar of an input that lends nothing
pub copied_is : (at : LayoutData) (h : Here) → is_flow_dash at h.unread.text ≡ false → h.unread.lends ≡ false
    → plain_scalar at h ≡ copied_plain at h
copied_is at h n lends =
    whole_is at h (mark_of h) refl n
    ∙ by (plain_rest at (mark_of h) (plain_start h)) (rest_behind at (mark_of h) 0 (plain_start h))
  where
    own : (one : Bool) (s : PlainState) (value : List ℕ) → s.here.unread.lends ≡ false
        → owned value ≡ lent_if one s.here value
    own true s value l = ap (λ b. record { characters = value; is_borrowed = b }) (sym l)
    own false s value l = refl

    by : (r : Result (List ℕ × PlainState) Fault) → BehindTo 0 (plain_start h) r
        → (r >>= finished at (mark_of h)) ≡ (r >>= plain_ended_by at (mark_of h) (λ value end. owned value))
    by (Ok (value, s)) b = ended_is at (mark_of h) value s (owned value)
        (own (is_one_line (mark_of h) s.end) s value (b.lends ∙ lends))
    by (Err f) b = refl

lent_as : (one : Bool) (h : Here) (front : List ℕ) → one ≡ true → h.unread.lends ≡ true
    → lent front ≡ lent_if one h front
lent_as one h front y lends = rw (y, lends) refl

-- the text of a scalar by its lines
lines_text : (start : Mark) (front further : List ℕ) (s last : PlainState) → last.here.unread.lends ≡ true
    → start.place.line < s.here.place.line → Behind start.place.line s further last
    → text_of_lines start last.end front further ≡ lent_if (is_one_line start last.end) last.here (front ++ further)
lines_text start front further s last lends below b = by (is_one_line start last.end) refl (b.grown below)
  where
    by : (one : Bool) → is_one_line start last.end ≡ one → (further ≡ []) ⊎ (start.place.line < last.end.place.line)
        → text_of_lines start last.end front further
        ≡ lent_if (is_one_line start last.end) last.here (front ++ further)
    by true y (inl none) = rw (y, none, lends, append-nil front) refl
    by true y (inr later) =
        let same = eqb-true start.place.line last.end.place.line y in
        absurd (omega (arith, later, same))
    by false n grown = rw n refl

-- a scalar whose first line was passed
pub passed_is : (at : LayoutData) (h : Here) (start : Mark) (front : List ℕ) (end : Mark) (blank : Bool) (now : Here)
    → start ≡ mark_of h → is_flow_dash at h.unread.text ≡ false → h.unread.lends ≡ true
    → LinePassed at start h front end blank now
    → plain_scalar at h ≡ line_scalar at start front end blank now
passed_is at h start front end blank now is n lends p =
    whole_is at h start is n ∙ by (is_break (next_char now)) refl
  where
    here : start.place.line ≡ h.place.line
    here = ap (λ (m : Mark). m.place.line) is

    behind : (r : Result (List ℕ × PlainState) Fault)
        → is_break (next_char now) ≡ true
        → BehindTo start.place.line (broken_state end (past_break now)) r
        → (with_front front r >>= finished at start)
        ≡ (r >>= plain_ended_by at start (λ further last. text_of_lines start last front further))
    behind (Ok (further, last)) y b =
        let on = break_line now y in
        let below : start.place.line < (past_break now).place.line = omega (arith, on, p.line, here) in
        ended_is at start (front ++ further) last (text_of_lines start last.end front further)
        (lines_text start front further (broken_state end (past_break now)) last
        (b.lends ∙ break_lends now ∙ p.lends ∙ lends) below b)
    behind (Err f) y b = refl

    by : (b : Bool) → is_break (next_char now) ≡ b
        → (plain_rest at start (plain_start h) >>= finished at start) ≡ line_scalar at start front end blank now
    by true y =
        let rest = plain_rest at start (broken_state end (past_break now)) in
        ap (λ (r : Result (List ℕ × PlainState) Fault). r >>= finished at start) (p.breaks y)
        ∙ behind rest y (rest_behind at start start.place.line (broken_state end (past_break now))) ∙ rw y refl
    by false y =
        let one : is_one_line start end ≡ true = eq-eqb start.place.line end.place.line (here ∙ sym p.end_line) in
        ap (λ (r : Result (List ℕ × PlainState) Fault). r >>= finished at start) (p.ends y)
        ∙ ended_is at start front (line_state end p.pending now) (lent front)
        (lent_as (is_one_line start end) now front one (p.lends ∙ lends))
        ∙ ap (λ b. ended_plain at start (lent front) end false b now) (sym p.blanks) ∙ rw y refl

-- ---- by what the code holds

pub copied_by : (at : LayoutData) (h : Here) (start : Mark) (p : PlainTaken) → start ≡ mark_of h
    → p ≡ nothing_taken start false
    → copied_plain at h ≡ (plain_whole at start p h >>= plain_ended_by at start (λ value end. owned value))
copied_by at h start p is none =
    ap (λ (m : Mark). plain_rest at m (line_state m [] h) >>= plain_ended_by at m (λ value end. owned value)) (sym is)
    ∙ ap (λ (r : Result (List ℕ × PlainState) Fault). r >>= plain_ended_by at start (λ value end. owned value))
    (sym (plain_begins at start (nothing_taken start false) h refl)
    ∙ ap (λ (q : PlainTaken). plain_whole at start q h) (sym none))

pub further_by : (at : LayoutData) (start : Mark) (front : List ℕ) (end : Mark) (h : Here) (p : PlainTaken)
    → p ≡ nothing_taken end true
    → further_scalar at start front end h ≡ (plain_whole at start p h
    >>= plain_ended_by at start (λ further last. text_of_lines start last front further))
further_by at start front end h p none =
    ap (λ (r : Result (List ℕ × PlainState) Fault). r
    >>= plain_ended_by at start (λ further last. text_of_lines start last front further))
    (sym (plain_begins at start (nothing_taken end true) h refl)
    ∙ ap (λ (q : PlainTaken). plain_whole at start q h) (sym none))

pub ended_same : (at : LayoutData) (start : Mark) (h : Here) {t u : Written} {e f : Mark} {l m c d : Bool} → t ≡ u
    → e ≡ f → l ≡ m → c ≡ d → ended_plain at start t e l c h ≡ ended_plain at start u f m d h
ended_same at start h p q r s = rw (p, q, r, s) refl

pub text_by : (start end : Mark) (a b : ℕ) (front given further : List ℕ) → a ≡ start.place.line
    → b ≡ end.place.line → given ≡ further
    → (if a == b then lent front else owned (front ++ given)) ≡ text_of_lines start end front further
text_by start end a b front given further p q r = rw (p, q, r) refl
