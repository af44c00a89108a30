-- A quoted scalar whose end is seen at once is read as it stands.
use Rattle.std.proofs.Common.{◌≡◌, ℕ, ◌+◌, ◌<◌, ◌≤◌, ◌==◌, Bool, true, false, not, List, [], ◌∷◌}
use Rattle.std.proofs.Common.{length, take, drop, None, Ok, refl, sym, ap, ◌∙◌, subst, arith}
use Rattle.std.proofs.lemmas.Bool.Decides.{nat_tests}
use Rattle.std.proofs.Math.Seq.{take-append_seam}
use Rattle.std.proofs.lemmas.Bool.{eq-eqb}
use Rattle.granit_base.specs.Classes.{is_blank, is_break, is_gap, is_printable}
use Rattle.granit_base.specs.Place.{Mark, Place, first}
use Rattle.granit_base.specs.Written.{Written}
use Rattle.granit_runs.specs.Quotes.{IsQuoted, ends_after_quote, quote_of}
use Rattle.granit_runs.specs.Runs.{run_length, starts, is_quoted_word}
use Rattle.granit_lexemes.specs.Here.{Here, next_char, mark_of, step}
use Rattle.granit_lexemes.specs.LayoutData.{LayoutData}
use Rattle.granit_lexemes.specs.Moves.{steps}
use Rattle.granit_lexemes.specs.QuotedScalar.{is_closing, is_kept, is_literal, may_trail}
use Rattle.granit_lexemes.specs.QuotedScalar.{behind_quoted, quoted_read, quoted_scalar, quoted_tail}
use Rattle.granit_lexemes.proofs.HereLemmas.{past_stops, step_lends, step_text}
pub use Rattle.granit_scalars.proofs.Comments.{steps_text}
use Rattle.granit_cursor.proofs.QuotedMoves.{before_closing, behind_opening, over_quoted, quoted_steps, words_fit}
use Rattle.granit_lexemes.specs.Basics.{owned}
use Rattle.granit_quoted.specs.QuotedCode.{kept_chars, nothing_quoted, passed_scalar, taken_scalar}
use Rattle.granit_quoted.proofs.KeptLemmas.{closed_text, copied_is, kept_whole, part_run, passed_is, taken_same}
use Rattle.granit_quoted.proofs.KeptLemmas.{words_inside}

-- ---- the closing quote

quote_stops : (single : Bool) (behind : List ℕ) → run_length (starts (is_kept single)) (quote_of single ∷ behind) ≡ 0
unfolding run_length is_blank is_break is_gap is_printable is_literal
quote_stops true behind = refl
quote_stops false behind = refl

no_quote : (in_flow : Bool) (c : ℕ) → ends_after_quote in_flow c ≡ true → (c == 0x27) ≡ false
no_quote true c y = grind (arith, nat_tests, y)
no_quote false c y = grind (arith, nat_tests, y)

closes : (single in_flow : Bool) (behind : List ℕ) → ends_after_quote in_flow (first behind) ≡ true
    → is_closing single (quote_of single ∷ behind) ≡ true
unfolding is_closing
closes true in_flow behind y = ap not (no_quote in_flow (first behind) y)
closes false in_flow behind y = refl

-- ---- what ends it

record Ends (at : LayoutData) (c : ℕ) : Type 0 where
  some : 0 < c
  no_hash : (c == 0x23) ≡ false
  no_blank : is_blank c ≡ false
  prints : is_printable c ≡ true
  trails : may_trail at true c ≡ true

ends : (at : LayoutData) (in_flow : Bool) (c : ℕ) → at.in_flow ≡ in_flow → ends_after_quote in_flow c ≡ true → Ends at c
unfolding is_blank is_break is_printable may_trail
ends at true c flow y = record {
  some = grind (arith, nat_tests, y);
  no_hash = grind (arith, nat_tests, y);
  no_blank = grind (arith, nat_tests, y);
  prints = grind (arith, nat_tests, y);
  trails = rw flow (grind (arith, nat_tests, y));
}
ends at false c flow y = record {
  some = grind (arith, nat_tests, y);
  no_hash = grind (arith, nat_tests, y);
  no_blank = grind (arith, nat_tests, y);
  prints = grind (arith, nat_tests, y);
  trails = rw flow (grind (arith, nat_tests, y));
}

some_left : (text : List ℕ) → 0 < first text → (length text == 0) ≡ false
some_left [] some = absurd (omega (arith, some))
some_left (c ∷ cs) some = grind (arith, nat_tests)

-- no comment begins there, and nothing is refused
tail_ends : (single : Bool) (at : LayoutData) (start : Mark) (text : Written) (h : Here) → Ends at (next_char h)
    → h.place.line ≡ start.place.line
    → quoted_tail single at start text h ≡ Ok (quoted_read single start text (mark_of h) None, h)
unfolding quoted_tail behind_quoted
tail_ends single at start text h e line =
    let there = past_stops is_blank h e.no_blank in
    rw (
      e.no_hash,
      there,
      e.no_hash,
      some_left h.unread.text e.some,
      e.prints,
      eq-eqb h.place.line start.place.line
          line,
      e.trails,
    ) refl

-- ---- the whole scalar

record Seen (single : Bool) (at : LayoutData) (h : Here) (inside : List ℕ) : Type 0 where
  whole : length inside ≡ run_length (starts (is_kept single)) (step h).unread.text
  front : take (length inside) (step h).unread.text ≡ inside
  closed : is_closing single (steps (length inside) (step h)).unread.text ≡ true
  after : steps (length inside + 2) h ≡ step (steps (length inside) (step h))
  tail : (text : Written) → quoted_tail single at (mark_of h) text (step (steps (length inside) (step h)))
      ≡ Ok (
        quoted_read single (mark_of h) text (mark_of (steps (length inside + 2) h)) None,
        steps (length inside + 2) h,
      )

sees : (single : Bool) (at : LayoutData) (h : Here) (inside : List ℕ)
    → IsQuoted single at.in_flow h.unread.text inside → Seen single at h inside
sees single at h inside q =
    let n = length inside in
    let g = step h in
    let there = steps n g in
    let behind = quote_of single ∷ q.behind in
    let opening = behind_opening single at.in_flow h inside q in
    let closing = before_closing single at.in_flow h inside q in
    let stops : run_length (starts (is_kept single)) (drop n g.unread.text) ≡ 0 =
    ap (run_length (starts (is_kept single))) (sym (steps_text n g) ∙ closing) ∙ quote_stops single q.behind in
    let whole : n ≡ run_length (starts (is_kept single)) g.unread.text = omega (
      arith,
      part_run (is_quoted_word single) single (words_inside single) n g.unread.text
          (words_fit single at.in_flow h inside q),
      stops,
    ) in
    let front : take n g.unread.text ≡ inside = ap (take n) opening ∙ take-append_seam inside behind in
    let closed : is_closing single there.unread.text ≡ true = ap (is_closing single) closing
    ∙ closes single at.in_flow q.behind q.ends in
    let after = quoted_steps n h in
    let next : next_char (step there) ≡ first q.behind = ap first (step_text there ∙ ap (drop 1) closing) in
    let line : (step there).place.line ≡ h.place.line = ap (λ (x : Here). x.place.line) (sym after)
    ∙ ap (λ (p : Place). p.line) (over_quoted single at.in_flow h inside q).along.place in
    record {
      whole = whole;
      front = front;
      closed = closed;
      after = after;
      tail = λ text. tail_ends single at (mark_of h) text (step there)
          (subst (Ends at) (sym next) (ends at at.in_flow (first q.behind) refl q.ends)) line
          ∙ ap (λ (x : Here). Ok (quoted_read single (mark_of h) text (mark_of x) None, x)) (sym after);
    }

-- where the input lends, it is lent
pub seen_quoted : (single : Bool) (at : LayoutData) (h : Here) (inside : List ℕ)
    → IsQuoted single at.in_flow h.unread.text inside → h.unread.lends ≡ true
    → quoted_scalar single at h
    ≡ Ok (
      quoted_read single (mark_of h) (record { characters = inside; is_borrowed = true })
          (mark_of (steps (length inside + 2) h)) None,
      steps (length inside + 2) h,
    )
seen_quoted single at h inside q lends =
    let n = length inside in
    let there = steps n (step h) in
    let s = sees single at h inside q in
    let closed = s.closed in
    let tail = s.tail (record { characters = inside; is_borrowed = true }) in
    passed_is single at h (mark_of h) n refl s.whole (steps_text n (step h)) (step_lends h ∙ lends)
    ∙ ap (λ (t : List ℕ). passed_scalar single at (mark_of h) t there) s.front
    ∙ rw closed tail

-- where it doesn't, it is copied
pub seen_owned : (single : Bool) (at : LayoutData) (h : Here) (inside : List ℕ)
    → IsQuoted single at.in_flow h.unread.text inside → h.unread.lends ≡ false
    → quoted_scalar single at h
    ≡ Ok (
      quoted_read single (mark_of h) (owned inside) (mark_of (steps (length inside + 2) h)) None,
      steps (length inside + 2) h,
    )
seen_owned single at h inside q lends =
    let n = length inside in
    let g = step h in
    let there = steps n g in
    let start = mark_of h in
    let s = sees single at h inside q in
    let fits : n ≤ run_length (starts (is_kept single)) g.unread.text = omega (arith, s.whole) in
    copied_is single at h start refl (step_lends h ∙ lends)
    ∙ sym (taken_same single at start (kept_chars nothing_quoted (take n g.unread.text)) nothing_quoted there g
    (kept_whole single at start n nothing_quoted g refl refl fits))
    ∙ ap (λ (t : List ℕ). taken_scalar single at start (kept_chars nothing_quoted t) there) s.front
    ∙ closed_text single at start inside there owned s.closed ∙ s.tail (owned inside)
