-- Where reading a plain scalar takes no memory.
use Rattle.std.proofs.Common.{◌≡◌, ℕ, suc, ◌+◌, ◌<◌, ◌≤◌, ◌==◌, nat_le, Bool, true, false, ◌&&◌, ◌||◌, not}
use Rattle.std.proofs.Common.{List, [], ◌∷◌, ◌++◌}
use Rattle.std.proofs.Common.{Some, Result, Ok, Err, IfErr, refl, sym, ap, ◌∙◌, subst, arith}
use Rattle.std.proofs.lemmas.Bool.{and_parts, eqb-true}
use Rattle.std.proofs.lemmas.Bool.Decides.{nat_tests}
use Rattle.granit_base.specs.Classes.{is_blank, is_break, is_z}
use Rattle.granit_base.specs.Place.{Mark}
use Rattle.granit_base.specs.PlainContent.{is_content}
use Rattle.granit_error.specs.FaultKind.{NoMemory, UnexpectedCharacter}
use Rattle.granit_error.specs.Refused.{Refused}
use Rattle.granit_lexemes.specs.Basics.{past_break}
use Rattle.granit_lexemes.specs.Here.{Here, next_char, mark_of, step}
use Rattle.granit_lexemes.specs.LayoutData.{LayoutData}
use Rattle.granit_lexemes.specs.Outcome.{Fault}
use Rattle.granit_lexemes.specs.Pieces.{with_front}
use Rattle.granit_lexemes.specs.PlainExtent.{is_flow_dash}
use Rattle.granit_lexemes.specs.PlainScalar.{PlainState, between, on_blank, on_break, on_content, plain_len, plain_turn}
use Rattle.granit_lexemes.specs.PlainScalar.{meets_comment, ends_before_line, plain_start}
use Rattle.granit_lexemes.proofs.PieceLemmas.{pieces_more}
use Rattle.granit_scalars.proofs.PlainTurns.{plain_shortens}
use Rattle.granit_plain.specs.LineCode.{LinePassed, broken_state}
use Rattle.granit_plain.specs.PlainCode.{ahead_of, nothing_taken, plain_rest, plain_state, plain_whole}
use Rattle.granit_plain.specs.PlainTaken.{PlainTaken}
use Rattle.granit_plain.specs.PlainMemory.{EndsHere, OnlyBlanks, ends_in_line, plain_takes_none}
use Rattle.granit_plain.specs.declared.plain.Ahead.TheVariants.{Break, Content}
use Rattle.granit_plain.proofs.FurtherLines.{BehindTo, break_at, break_line, rest_behind, step_line}
use Rattle.granit_plain.proofs.PlainLemmas.{next_by, turn_is}

-- what stands in front of what is read changes neither end
pub front_ends : (line : ℕ) (front : List ℕ) (r : Result (List ℕ × PlainState) Fault)
    → ends_in_line line (with_front front r) ≡ ends_in_line line r
front_ends line front (Ok x) = refl
front_ends line front (Err f) = refl

pub record EndsInLine (line : ℕ) (last : PlainState) : Type 0 where
  pub end : (line == last.end.place.line) ≡ true
  pub here : last.here.place.line ≤ suc line

pub ended_in_line : (line : ℕ) (value : List ℕ) (last : PlainState) → ends_in_line line (Ok (value, last)) ≡ true
    → EndsInLine line last
ended_in_line line value last e =
    let parts = and_parts (line == last.end.place.line) (nat_le last.here.place.line (suc line)) e in
    record { end = parts.0; here = grind (arith, nat_tests, parts.1) }

-- ---- what can't stand next on a further line, where reading ends on the one before

break_next : (a b c d e f : Bool) → next_by a b c d e f ≡ Break → b ≡ true
break_next true b c d e f is = absurd cc
break_next false true c d e f is = refl
break_next false false true d e f is = absurd cc
break_next false false false true e f is = absurd cc
break_next false false false false true f is = absurd cc
break_next false false false false false true is = absurd cc
break_next false false false false false false is = absurd cc

at_a_break : (at : LayoutData) (s : PlainState) → ahead_of at s ≡ Break → is_break (next_char s.here) ≡ true
at_a_break at s is =
    break_next (is_blank (next_char s.here)) (is_break (next_char s.here)) (meets_comment s)
    (s.left_tab && not (is_z (next_char s.here))) (s.on_new_line && ends_before_line at s.here)
    (is_content at.in_flow s.here.unread.text) is

-- reading goes on from a state behind a piece, and ends on that line
ends_behind : (at : LayoutData) (start : Mark) (line : ℕ) (s after : PlainState) (piece : List ℕ)
    → plain_turn at start s ≡ Ok (Some piece, after) → ends_in_line line (plain_rest at start s) ≡ true
    → ends_in_line line (plain_rest at start after) ≡ true
ends_behind at start line s after piece is ends =
    let more = pieces_more plain_len (plain_turn at start) (plain_shortens at start) s after piece is in
    sym (front_ends line piece (plain_rest at start after)) ∙ sym (ap (ends_in_line line) more) ∙ ends

pub no_break : (at : LayoutData) (start : Mark) (s : PlainState) → OnlyBlanks at start s → ahead_of at s ≡ Break → ⊥
no_break at start s blanks is =
    let line = start.place.line in
    let next = break_at s s.on_new_line refl in
    let on = break_line s.here (at_a_break at s is) in
    by (plain_rest at start (on_break s)) (subst (λ (g : Here). line + 1 < g.place.line) (sym next.0)
    (omega (arith, on, blanks.1))) (rest_behind at start line (on_break s))
    (ends_behind at start line s (on_break s) [] (turn_is at start s Break is) blanks.2)
  where
    by : (r : Result (List ℕ × PlainState) Fault) → start.place.line + 1 < (on_break s).here.place.line
        → BehindTo start.place.line (on_break s) r → ends_in_line start.place.line r ≡ true → ⊥
    by (Ok (value, last)) later b ends =
        let ended = ended_in_line start.place.line value last ends in omega (arith, later, b.reaches, ended.here)
    by (Err f) later b ends = cc

pub no_content : (at : LayoutData) (start : Mark) (s : PlainState) → OnlyBlanks at start s → ahead_of at s ≡ Content → ⊥
unfolding on_content
no_content at start s blanks is =
    let on = step_line s.here in
    by (plain_rest at start (on_content s)) (omega (arith, on, blanks.1))
    (rest_behind at start start.place.line (on_content s))
    (ends_behind at start start.place.line s (on_content s) (between s ++ next_char s.here ∷ [])
    (turn_is at start s Content is) blanks.2)
  where
    by : (r : Result (List ℕ × PlainState) Fault) → start.place.line < (step s.here).place.line
        → BehindTo start.place.line (on_content s) r → ends_in_line start.place.line r ≡ true → ⊥
    by (Ok (value, last)) later b ends =
        let ended = ended_in_line start.place.line value last ends in
        let same = eqb-true start.place.line last.end.place.line ended.end in
        omega (arith, b.later later later, same)
    by (Err f) later b ends = cc

-- a blank leaves it on its line
pub blank_stays : (at : LayoutData) (s : PlainState) → s.on_new_line ≡ true → (on_blank at s).on_new_line ≡ true
unfolding on_blank
blank_stays at s is = rw is refl

-- ---- the whole scalar

-- a further line is begun
pub broken_blank : (at : LayoutData) (start end : Mark) (h : Here) → start.place.line ≡ h.place.line
    → is_break (next_char h) ≡ true → EndsHere at start end h
    → OnlyBlanks at start (broken_state end (past_break h))
broken_blank at start end h here y ends =
    let on = break_line h y in
    (refl, omega (arith, on, here), ends y)

-- nothing of it is taken yet
pub begun_blank : (at : LayoutData) (start end : Mark) (p : PlainTaken) (h : Here) → p ≡ nothing_taken end true
    → OnlyBlanks at start (broken_state end h) → OnlyBlanks at start (plain_state p h)
begun_blank at start end p h none blanks =
    subst (λ (q : PlainTaken). OnlyBlanks at start (plain_state q h)) (sym none) blanks

-- what was taken so far, where all of it blanks
pub still_blank : (at : LayoutData) (start : Mark) (p q : PlainTaken) (h now : Here)
    → plain_whole at start q now ≡ plain_whole at start p h → OnlyBlanks at start (plain_state p h)
    → q.on_new_line ≡ true → start.place.line < now.place.line → OnlyBlanks at start (plain_state q now)
still_blank at start p q h now same blanks on later = (
  on,
  later,
  sym (front_ends start.place.line q.value (plain_rest at start (plain_state q now)))
      ∙ ap (ends_in_line start.place.line) same
      ∙ front_ends start.place.line p.value (plain_rest at start (plain_state p h)) ∙ blanks.2,
)

-- all that was read of it is in its first line
pub one_line : (at : LayoutData) (start : Mark) (p q : PlainTaken) (h now : Here)
    → plain_whole at start p h ≡ Ok (q.value, plain_state q now) → OnlyBlanks at start (plain_state p h)
    → (start.place.line == q.end.place.line) ≡ true
one_line at start p q h now is blanks =
    (ended_in_line start.place.line q.value (plain_state q now)
    (sym (ap (ends_in_line start.place.line) is)
    ∙ front_ends start.place.line p.value (plain_rest at start (plain_state p h)) ∙ blanks.2)).end

-- a scalar that takes none, behind its first line
pub ends_here : (at : LayoutData) (h : Here) (start : Mark) (front : List ℕ) (end : Mark) (blank : Bool) (now : Here)
    → start ≡ mark_of h → is_flow_dash at h.unread.text ≡ false → LinePassed at start h front end blank now
    → plain_takes_none at h ≡ true → EndsHere at start end now
unfolding plain_takes_none
ends_here at h start front end blank now is no_dash passed none = λ y.
    let line = h.place.line in
    let parts = and_parts h.unread.lends (is_flow_dash at h.unread.text
    || ends_in_line line (plain_rest at (mark_of h) (plain_start h))) none in
    let whole : ends_in_line line (plain_rest at (mark_of h) (plain_start h)) ≡ true = rw no_dash at parts.1 in
    let same : ends_in_line start.place.line (plain_rest at start (plain_start h)) ≡ true =
    ap (λ (m : Mark). ends_in_line m.place.line (plain_rest at m (plain_start h))) is ∙ whole in
    sym (front_ends start.place.line front (plain_rest at start (broken_state end (past_break now))))
    ∙ sym (ap (ends_in_line start.place.line) (passed.breaks y)) ∙ same

pub takes_lent : (at : LayoutData) (h : Here) → plain_takes_none at h ≡ true → h.unread.lends ≡ true
unfolding plain_takes_none
takes_lent at h none =
    (and_parts h.unread.lends (is_flow_dash at h.unread.text
    || ends_in_line h.place.line (plain_rest at (mark_of h) (plain_start h))) none).0

-- a character that may not stand there is another kind
pub unexpected_other : {X : Type 0} (r : Result X Refused) → IfErr r (λ e. (c : ℕ) × (e.kind ≡ UnexpectedCharacter c))
    → IfErr r (λ e. ¬ (e.kind ≡ NoMemory))
unexpected_other (Ok x) known = tt
unexpected_other (Err e) known = λ wanted. let is = known.1 in cc
