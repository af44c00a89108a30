-- What stands for itself in front of a quoted scalar, taken without a turn for each character.
use Rattle.std.proofs.Common.{◌≡◌, ℕ, zero, suc, ◌+◌, ◌≤◌, ◌<◌, ◌==◌, Bool, true, false, not, ◌&&◌, ◌||◌, cond}
use Rattle.std.proofs.Common.{List, [], ◌∷◌, ◌++◌, length, take, drop, slice_index, Some, Result, Ok, Err}
use Rattle.std.proofs.Common.{refl, sym, ap, ap₂, ◌∙◌, append_assoc, arith, inl, inr}
use Rattle.std.proofs.Math.Bool.{and-false}
use Rattle.std.proofs.lemmas.Bool.{and_parts, cases_Bool, eqb-true, or_parts}
use Rattle.std.proofs.lemmas.Bool.Decides.{nat_tests}
use Rattle.std.proofs.lemmas.List.{append-nil}
use Rattle.granit_base.specs.Classes.{is_blank, is_break, is_gap, is_printable}
use Rattle.granit_base.specs.Place.{Mark, Unread, first}
use Rattle.granit_base.specs.Written.{Written}
use Rattle.granit_runs.specs.Runs.{run_length, starts, is_quoted_char, is_quoted_word}
use Rattle.granit_lexemes.specs.Here.{Here, text_len, next_char, mark_of, step}
use Rattle.granit_lexemes.specs.LayoutData.{LayoutData}
use Rattle.granit_lexemes.specs.Moves.{steps}
use Rattle.granit_lexemes.specs.Outcome.{Fault, ◌>>=◌}
use Rattle.granit_lexemes.specs.Basics.{owned}
use Rattle.granit_lexemes.specs.QuotedScalar.{QuotedState, QuotedRead, quote_char, is_closing, is_literal, is_kept}
use Rattle.granit_lexemes.specs.QuotedScalar.{is_verbatim, between_quoted, quoted_at, over_blank, quoted_tail}
use Rattle.granit_lexemes.specs.QuotedScalar.{quoted_rest, quoted_scalar, quoted_text}
use Rattle.granit_lexemes.proofs.HereLemmas.{step_text, not_empty}
use Rattle.granit_scalars.proofs.Comments.{steps_text, none_dropped}
use Rattle.granit_cursor.specs.Reading.{Reading, Stands}
use Rattle.granit_cursor.proofs.MoveLemmas.{run_begins, steps_twice, KeepsLine, keeps_line}
use Rattle.granit_cursor.proofs.WordLemmas.{whole_rest}
use Rattle.granit_quoted.specs.QuotedCode.{quoted_state, quoted_whole, quoted_ahead, content_read}
use Rattle.granit_quoted.specs.QuotedCode.{nothing_quoted as begun, kept_char, kept_chars, copied_scalar, passed_scalar}
use Rattle.granit_quoted.specs.QuotedCode.{taken_scalar}
use Rattle.granit_quoted.specs.QuotedTaken.{QuotedTaken}
use Rattle.granit_quoted.specs.declared.quoted.Ahead.TheVariants.{Blank, End}
use Rattle.granit_runs.proofs.RunLemmas.{none_taken}
use Rattle.granit_quoted.proofs.QuotedLemmas.{over_gap, over_content, at_end, quoted_begins}

-- ---- what the runs take

-- a character that stands for itself is one of a word, a space between two words, or a blank
abbrev pub Inside : (List ℕ → Bool) → Bool → Type 0
Inside test single = (text : List ℕ) → test text ≡ true → is_kept single (first text) ≡ true

quoted_inside : (single : Bool) (c : ℕ) → is_quoted_char single c ≡ true → is_kept single c ≡ true
unfolding is_blank is_break is_gap is_printable is_literal
quoted_inside true c y = grind (arith, nat_tests)
quoted_inside false c y = grind (arith, nat_tests)

space_inside : (single : Bool) (c : ℕ) → (c == 0x20) ≡ true → is_kept single c ≡ true
unfolding is_blank
space_inside single c y = let is : c ≡ 0x20 = eqb-true c 0x20 y in rw is refl

pub words_inside : (single : Bool) → Inside (is_quoted_word single) single
words_inside single text y =
    elim (cases_Bool (is_quoted_char single (first text))) [
      | inl char ↦ quoted_inside single (first text) char
      | inr other ↦ (
          let space : (first text == 0x20 && is_quoted_char single (slice_index text 1)) ≡ true = rw other at y in
          space_inside single (first text) (and_parts _ _ space).0)
    ]

pub blank_inside : (single : Bool) → Inside (starts is_blank) single
blank_inside single text y = ap (λ b. b || is_literal single (first text)) y

none_kept : (single : Bool) (c : ℕ) → is_quoted_char single c ≡ false → is_blank c ≡ false
    → is_kept single c ≡ false
unfolding is_blank is_break is_gap is_printable is_literal
none_kept true c y z = grind (arith, nat_tests)
none_kept false c y z = grind (arith, nat_tests)

-- a front that passes a narrower test
pub part_run : (test : List ℕ → Bool) (single : Bool) → Inside test single → (n : ℕ) (text : List ℕ)
    → n ≤ run_length test text
    → run_length (starts (is_kept single)) text ≡ n + run_length (starts (is_kept single)) (drop n text)
unfolding run_length
part_run test single inside zero [] fits = refl
part_run test single inside zero (c ∷ cs) fits = let e : run_length (starts (is_kept single)) (c ∷ cs)
    ≡ 0 + run_length (starts (is_kept single)) (c ∷ cs) = omega arith in e
part_run test single inside (suc n) [] fits = absurd (omega arith)
part_run test single inside (suc n) (c ∷ cs) fits =
    let b = run_begins test n (c ∷ cs) fits in
    let more : n ≤ run_length test cs = b.more in
    let rest = part_run test single inside n cs more in
    let kept : is_kept single c ≡ true = inside (c ∷ cs) b.passes in
    rw kept (let e : suc (run_length (starts (is_kept single)) cs)
    ≡ suc n + run_length (starts (is_kept single)) (drop n cs) = omega (arith, rest) in e)

pub words_fit : (single : Bool) (n : ℕ) (text : List ℕ) → n ≡ run_length (is_quoted_word single) text
    → n ≤ run_length (starts (is_kept single)) text
words_fit single n text whole =
    omega (arith, part_run (is_quoted_word single) single (words_inside single) n text (omega (arith, whole)))

none_by : (single : Bool) (c : ℕ) (cs : List ℕ) (q b : Bool) → is_quoted_word single (c ∷ cs) ≡ q → is_blank c ≡ b
    → cond q (suc (run_length (is_quoted_word single) cs)) 0 ≡ 0
    → cond b (suc (run_length (starts is_blank) cs)) 0 ≡ 0 → is_kept single c ≡ false
none_by single c cs true b y z p q = absurd (omega (arith, p))
none_by single c cs false true y z p q = absurd (omega (arith, q))
none_by single c cs false false y z p q = none_kept single c (or_parts _ _ y).0 z

-- where neither a word nor a blank stands, none is kept
none_run : (single : Bool) (text : List ℕ) → run_length (is_quoted_word single) text ≡ 0
    → run_length (starts is_blank) text ≡ 0 → run_length (starts (is_kept single)) text ≡ 0
unfolding run_length
none_run single [] p q = refl
none_run single (c ∷ cs) p q = rw (none_by single c cs (is_quoted_word single (c ∷ cs)) (is_blank c) refl refl p q) refl

pub stands_none : {I : Type 0} (unread : I → Unread → Type 0) (r : Reading I) (h : Here) → Stands unread r h
    → Stands unread r (steps 0 h)
unfolding steps
stands_none unread r h k = k

pub run_none : (single : Bool) (h : Here) → run_length (starts (is_kept single)) h.unread.text
    ≡ 0 + run_length (starts (is_kept single)) (steps 0 h).unread.text
unfolding steps
run_none single h = omega arith

-- on over a stretch of content and the blanks behind it
pub run_goes : (single : Bool) (h : Here) (m a b : ℕ)
    → run_length (starts (is_kept single)) h.unread.text
    ≡ m + run_length (starts (is_kept single)) (steps m h).unread.text
    → a ≡ run_length (is_quoted_word single) (steps m h).unread.text
    → b ≡ run_length (starts is_blank) (steps a (steps m h)).unread.text
    → run_length (starts (is_kept single)) h.unread.text
    ≡ (m + a + b) + run_length (starts (is_kept single)) (steps b (steps a (steps m h))).unread.text
run_goes single h m a b so_far content blanks =
    let kept = starts (is_kept single) in
    let g = steps m h in
    let i = steps a g in
    let one : run_length kept g.unread.text ≡ a + run_length kept i.unread.text =
    part_run (is_quoted_word single) single (words_inside single) a g.unread.text (omega (arith, content))
    ∙ ap (λ (t : List ℕ). a + run_length kept t) (sym (steps_text a g)) in
    let two : run_length kept i.unread.text ≡ b + run_length kept (steps b i).unread.text =
    part_run (starts is_blank) single (blank_inside single) b i.unread.text (omega (arith, blanks))
    ∙ ap (λ (t : List ℕ). b + run_length kept t) (sym (steps_text b i)) in
    omega (arith, so_far, one, two)

-- no more of a run stands behind it
run_ended : (test : List ℕ → Bool) (text : List ℕ) → run_length test (drop (run_length test text) text) ≡ 0
unfolding run_length
run_ended test [] = refl
run_ended test (c ∷ cs) =
    elim (cases_Bool (test (c ∷ cs))) [
      | inl goes ↦ rw goes (run_ended test cs)
      | inr stops ↦ rw stops (let e : run_length test (c ∷ cs) ≡ 0 = rw stops refl in e)
    ]

-- where no blank follows the words, none is kept behind them
pub run_whole : (single : Bool) (h : Here) (m a b : ℕ)
    → run_length (starts (is_kept single)) h.unread.text
    ≡ m + run_length (starts (is_kept single)) (steps m h).unread.text
    → a ≡ run_length (is_quoted_word single) (steps m h).unread.text
    → b ≡ run_length (starts is_blank) (steps a (steps m h)).unread.text → b ≡ 0
    → m + a + b ≡ run_length (starts (is_kept single)) h.unread.text
run_whole single h m a b so_far content blanks no_blanks =
    let words = is_quoted_word single in
    let g = steps m h in
    let i = steps a g in
    let over : run_length words i.unread.text ≡ 0 = ap (run_length words) (steps_text a g
    ∙ ap (λ (n : ℕ). drop n g.unread.text) content) ∙ run_ended words g.unread.text in
    let none = none_run single i.unread.text over (sym blanks ∙ no_blanks) in
    let here : (steps b i).unread.text ≡ i.unread.text = steps_text b i
    ∙ ap (λ (n : ℕ). drop n i.unread.text) no_blanks ∙ none_dropped i.unread.text in
    let rest = ap (run_length (starts (is_kept single))) here ∙ none in
    omega (arith, run_goes single h m a b so_far content blanks, rest)

pub steps_thrice : (m a b : ℕ) (h : Here) → steps b (steps a (steps m h)) ≡ steps (m + a + b) h
steps_thrice m a b h = ap (steps b) (steps_twice m a h) ∙ steps_twice (m + a) b h

-- no character that is kept ends a line
pub kept_keeps : (single : Bool) → KeepsLine (starts (is_kept single))
unfolding is_blank is_break is_gap is_literal
kept_keeps true = keeps_line (is_kept true) refl refl
kept_keeps false = keeps_line (is_kept false) refl refl

-- ---- the test of the whole text

pub verbatim_behind : (single : Bool) (text : List ℕ)
    → is_verbatim single text ≡ is_closing single (drop (run_length (starts (is_kept single)) text) text)
unfolding run_length is_closing
verbatim_behind true [] = refl
verbatim_behind false [] = refl
verbatim_behind single (c ∷ cs) =
    elim (cases_Bool (is_kept single c)) [
      | inl kept ↦ rw kept (verbatim_behind single cs)
      | inr stops ↦ rw stops refl
    ]

-- ---- turn by turn

record Literal (single : Bool) (c : ℕ) : Type 0 where
  no_blank : is_blank c ≡ false
  no_break : is_break c ≡ false
  prints : is_printable c ≡ true
  no_quote : (c == quote_char single) ≡ false
  no_escape : (single || not (c == 0x5C)) ≡ true
  no_doubled : (single && c == 0x27) ≡ false

literal : (single : Bool) (c : ℕ) → is_literal single c ≡ true → Literal single c
unfolding is_literal is_gap
literal true c y = record {
  no_blank = grind (arith, nat_tests);
  no_break = grind (arith, nat_tests);
  prints = grind (arith, nat_tests);
  no_quote = grind (arith, nat_tests);
  no_escape = refl;
  no_doubled = grind (arith, nat_tests);
}
literal false c y = record {
  no_blank = grind (arith, nat_tests);
  no_break = grind (arith, nat_tests);
  prints = grind (arith, nat_tests);
  no_quote = grind (arith, nat_tests);
  no_escape = grind (arith, nat_tests);
  no_doubled = refl;
}

line_kept : (p : QuotedTaken) (c : ℕ) → (kept_char p c).on_new_line ≡ p.on_new_line
line_kept p c = by (is_blank c)
  where
    by : (b : Bool) → (cond {A = QuotedTaken} b (record p { pending = p.pending ++ c ∷ [] })
        (record p { value = (p.value ++ p.pending) ++ c ∷ []; pending = [] })).on_new_line ≡ p.on_new_line
    by true = refl
    by false = refl

escaped_kept : (p : QuotedTaken) (c : ℕ) → (kept_char p c).escaped ≡ p.escaped
escaped_kept p c = by (is_blank c)
  where
    by : (b : Bool) → (cond {A = QuotedTaken} b (record p { pending = p.pending ++ c ∷ [] })
        (record p { value = (p.value ++ p.pending) ++ c ∷ []; pending = [] })).escaped ≡ p.escaped
    by true = refl
    by false = refl

module _ (single : Bool) (at : LayoutData) (start : Mark) where
  over_kept_blank : (p : QuotedTaken) (h : Here) → p.on_new_line ≡ false → is_blank (next_char h) ≡ true
      → quoted_whole single at start (kept_char p (next_char h)) (step h) ≡ quoted_whole single at start p h
  unfolding quoted_ahead over_blank
  over_kept_blank p h line y =
      over_gap single at start p (kept_char p (next_char h)) h (step h) Blank
      (rw (y, line) refl) (rw (y, line) refl) (rw y refl)

  over_kept_content : (p : QuotedTaken) (h : Here) → p.on_new_line ≡ false → p.escaped ≡ false
      → 0 < length h.unread.text → is_blank (next_char h) ≡ false → is_literal single (next_char h) ≡ true
      → quoted_whole single at start (kept_char p (next_char h)) (step h) ≡ quoted_whole single at start p h
  unfolding quoted_ahead content_read is_closing
  over_kept_content p h line escaped some n y =
      let l = literal single (next_char h) y in
      let there : (text_len h == 0) ≡ false = grind (arith, nat_tests, some) in
      over_content single at start p (kept_char p (next_char h)) h (step h) (Some (next_char h))
      (rw (n, l.no_break, line, there, l.prints, l.no_quote) refl)
      (rw (l.no_doubled, l.no_escape) refl)
      (rw (n, line) refl)
      (rw (n, line, escaped) refl)

  kept_by : (p : QuotedTaken) (h : Here) → p.on_new_line ≡ false → p.escaped ≡ false
      → 0 < length h.unread.text → is_kept single (next_char h) ≡ true → (b : Bool) → is_blank (next_char h) ≡ b
      → quoted_whole single at start (kept_char p (next_char h)) (step h) ≡ quoted_whole single at start p h
  kept_by p h line escaped some y true e = over_kept_blank p h line e
  kept_by p h line escaped some y false e = over_kept_content p h line escaped some e
      (ap (λ b. b || is_literal single (next_char h)) (sym e) ∙ y)

  take_first : (n : ℕ) (text : List ℕ) → 0 < length text → take (suc n) text ≡ first text ∷ take n (drop 1 text)
  take_first n [] some = absurd (omega arith)
  take_first n (c ∷ cs) some = refl

  -- so many characters that stand for themselves, taken at once
  pub kept_whole : (n : ℕ) (p : QuotedTaken) (h : Here) → p.on_new_line ≡ false → p.escaped ≡ false
      → n ≤ run_length (starts (is_kept single)) h.unread.text
      → quoted_whole single at start (kept_chars p (take n h.unread.text)) (steps n h)
      ≡ quoted_whole single at start p h
  unfolding steps
  kept_whole zero p h line escaped fits =
      ap (λ (t : List ℕ). quoted_whole single at start (kept_chars p t) h) (none_taken h.unread.text)
  kept_whole (suc n) p h line escaped fits =
      let b = run_begins (starts (is_kept single)) n h.unread.text fits in
      let rest : n ≤ run_length (starts (is_kept single)) (step h).unread.text = rw (step_text h) b.more in
      ap (λ (t : List ℕ). quoted_whole single at start (kept_chars p t) (steps n (step h)))
      (take_first n h.unread.text b.some
      ∙ ap (λ (t : List ℕ). next_char h ∷ take n t) (sym (step_text h)))
      ∙ kept_whole n (kept_char p (next_char h)) (step h) (line_kept p (next_char h) ∙ line)
      (escaped_kept p (next_char h) ∙ escaped) rest
      ∙ kept_by p h line escaped b.some b.passes (is_blank (next_char h)) refl

-- ---- what they hold

abbrev both : QuotedTaken → List ℕ
both p = p.value ++ p.pending

char_joins : (p : QuotedTaken) (c : ℕ) (b : Bool) → both (cond b (record p { pending = p.pending ++ c ∷ [] })
    (record p { value = (p.value ++ p.pending) ++ c ∷ []; pending = [] })) ≡ both p ++ c ∷ []
char_joins p c true = sym (append_assoc p.value p.pending (c ∷ []))
char_joins p c false = append-nil ((p.value ++ p.pending) ++ c ∷ [])

joins : (cs : List ℕ) (p : QuotedTaken) → both (kept_chars p cs) ≡ both p ++ cs
joins [] p = sym (append-nil (both p))
joins (c ∷ cs) p = joins cs (kept_char p c) ∙ ap (λ (t : List ℕ). t ++ cs) (char_joins p c (is_blank c))
    ∙ append_assoc (both p) (c ∷ []) cs

kept_line : (cs : List ℕ) (p : QuotedTaken) → (kept_chars p cs).on_new_line ≡ p.on_new_line
kept_line [] p = refl
kept_line (c ∷ cs) p = kept_line cs (kept_char p c)
    ∙ line_kept p c

pub kept_more : (cs : List ℕ) (p : QuotedTaken) (c : ℕ)
    → kept_chars p (cs ++ c ∷ []) ≡ kept_char (kept_chars p cs) c
kept_more [] p c = refl
kept_more (d ∷ cs) p c = kept_more cs (kept_char p d) c

quoted_solid : (single : Bool) (c : ℕ) → is_quoted_char single c ≡ true → is_blank c ≡ false
unfolding is_blank is_printable
quoted_solid true c y = grind (arith, nat_tests)
quoted_solid false c y = grind (arith, nat_tests)

word_some : (single : Bool) (text : List ℕ) → is_quoted_word single text ≡ true
    → 0 < run_length (is_quoted_word single) text
unfolding run_length
word_some true [] y = absurd cc
word_some false [] y = absurd cc
word_some single (c ∷ cs) y = rw y (omega arith)

same_taken : (q : QuotedTaken) (value pending : List ℕ) {on escaped : Bool} → q.value ≡ value → q.pending ≡ pending
    → q.on_new_line ≡ on → q.escaped ≡ escaped
    → q ≡ record { value = value; pending = pending; on_new_line = on; escaped = escaped }
same_taken q value pending v p o e = rw (← v, ← p, ← o, ← e) refl

kept_escaped : (cs : List ℕ) (p : QuotedTaken) → (kept_chars p cs).escaped ≡ p.escaped
kept_escaped [] p = refl
kept_escaped (c ∷ cs) p = kept_escaped cs (kept_char p c) ∙ escaped_kept p c

-- behind the last of so many words no blank is pending
module _ (single : Bool) where
  words_end : (n : ℕ) (p : QuotedTaken) (text : List ℕ) → (n ≡ 0 → p.pending ≡ [])
      → n ≡ run_length (is_quoted_word single) text → (kept_chars p (take n text)).pending ≡ []
  unfolding run_length
  words_end zero p text none whole =
      ap (λ (t : List ℕ). (kept_chars p t).pending) (none_taken text) ∙ none refl
  words_end (suc n) p [] none whole = absurd (omega (arith, whole))
  words_end (suc n) p (c ∷ cs) none whole =
      let b = run_begins (is_quoted_word single) n (c ∷ cs) (omega (arith, whole)) in
      let rest = whole_rest (is_quoted_word single) n (c ∷ cs) whole in
      words_end n (kept_char p c) cs (λ z. last_shows p c cs (is_quoted_char single c) refl b.passes (sym z ∙ rest))
      rest
    where
      last_shows : (p : QuotedTaken) (c : ℕ) (cs : List ℕ) (q : Bool) → is_quoted_char single c ≡ q
          → is_quoted_word single (c ∷ cs) ≡ true → 0 ≡ run_length (is_quoted_word single) cs
          → (kept_char p c).pending ≡ []
      last_shows p c cs true y passes over = rw (quoted_solid single c y) refl
      last_shows p c cs false y passes over = absurd (
          let space : (c == 0x20 && is_quoted_char single (first cs)) ≡ true = rw y at passes in
          let char = (and_parts (c == 0x20) (is_quoted_char single (first cs)) space).1 in
          let next : is_quoted_word single cs ≡ true =
          ap (λ (b : Bool). b || (first cs == 0x20 && is_quoted_char single (slice_index cs 1))) char in
          omega (arith, over, word_some single cs next))

  pub words_kept : (n : ℕ) (p : QuotedTaken) (text : List ℕ) → p.pending ≡ []
      → n ≡ run_length (is_quoted_word single) text
      → kept_chars p (take n text) ≡ record p { value = p.value ++ take n text }
  words_kept n p text none whole =
      let q = kept_chars p (take n text) in
      let end = words_end n p text (λ _. none) whole in
      let value : q.value ≡ p.value ++ take n text = sym (append-nil q.value)
      ∙ ap (λ (t : List ℕ). q.value ++ t) (sym end) ∙ joins (take n text) p
      ∙ ap (λ (t : List ℕ). (p.value ++ t) ++ take n text) none
      ∙ ap (λ (t : List ℕ). t ++ take n text) (append-nil p.value) in
      same_taken q (p.value ++ take n text) p.pending value (end ∙ sym none) (kept_line (take n text) p)
      (kept_escaped (take n text) p)

-- so many characters of words were appended to what is held
pub words_taken : (single : Bool) (at : LayoutData) (start : Mark) (q p : QuotedTaken) (n : ℕ) (h : Here)
    → p.pending ≡ [] → p.on_new_line ≡ false → p.escaped ≡ false
    → n ≡ run_length (is_quoted_word single) h.unread.text → q.value ≡ p.value ++ take n h.unread.text
    → q.pending ≡ p.pending → q.on_new_line ≡ p.on_new_line → q.escaped ≡ p.escaped
    → quoted_whole single at start q (steps n h) ≡ quoted_whole single at start p h
words_taken single at start q p n h none line escaped whole value pending on escapes =
    ap (λ (r : QuotedTaken). quoted_whole single at start r (steps n h))
    (same_taken q (p.value ++ take n h.unread.text) p.pending value pending on escapes
    ∙ sym (words_kept single n p h.unread.text none whole))
    ∙ kept_whole single at start n p h line escaped (words_fit single n h.unread.text whole)

-- ---- the scalar behind what was passed

quote_facts : (single : Bool) (text : List ℕ) → is_closing single text ≡ true
    → (is_blank (first text) ≡ false) × (is_break (first text) ≡ false) × ((length text == 0) ≡ false)
    × (is_printable (first text) ≡ true)
unfolding is_closing is_blank is_break is_printable
quote_facts true [] y = absurd cc
quote_facts false [] y = absurd cc
quote_facts true (c ∷ cs) y =
    (grind (arith, nat_tests), grind (arith, nat_tests), not_empty c cs, grind (arith, nat_tests))
quote_facts false (c ∷ cs) y =
    (grind (arith, nat_tests), grind (arith, nat_tests), not_empty c cs, grind (arith, nat_tests))

at_quote : (single : Bool) (at : LayoutData) (start : Mark) (p : QuotedTaken) (h : Here) → p.on_new_line ≡ false
    → is_closing single h.unread.text ≡ true → quoted_ahead single at start (quoted_state p h) ≡ Ok End
unfolding quoted_ahead
at_quote single at start p h line y =
    let q = quote_facts single h.unread.text y in
    rw (q.0, q.1, line, q.2, q.3, y) refl

abbrev rest_of : Bool → LayoutData → Mark → (List ℕ → Written) → Result (List ℕ × QuotedState) Fault
    → Result (QuotedRead × Here) Fault
rest_of single at start text r =
    r >>= λ x. quoted_tail single at start (text (x.0 ++ between_quoted x.1)) (step x.1.here)

-- behind its opening quote and such characters
run_is : (single : Bool) (at : LayoutData) (start : Mark) (h : Here) (n : ℕ)
    → n ≤ run_length (starts (is_kept single)) h.unread.text
    → quoted_rest single at start (quoted_at false h)
    ≡ quoted_whole single at start (kept_chars begun (take n h.unread.text)) (steps n h)
run_is single at start h n fits =
    sym (quoted_begins single at start begun h refl refl)
    ∙ sym (kept_whole single at start n begun h refl refl fits)

-- the closing quote is next behind them
pub closed_text : (single : Bool) (at : LayoutData) (start : Mark) (front : List ℕ) (h : Here) (text : List ℕ → Written)
    → is_closing single h.unread.text ≡ true
    → rest_of single at start text (quoted_whole single at start (kept_chars begun front) h)
    ≡ quoted_tail single at start (text front) (step h)
closed_text single at start front h text y =
    let p = kept_chars begun front in
    let line : p.on_new_line ≡ false = kept_line front begun in
    let none : between_quoted (quoted_state p h) ≡ p.pending = rw line refl in
    ap (rest_of single at start text) (at_end single at start p h (at_quote single at start p h line y))
    ∙ ap (λ (v : List ℕ). quoted_tail single at start (text v) (step h))
    (ap (λ (t : List ℕ). p.value ++ t) none ∙ joins front begun)

lent_text : (single : Bool) (h : Here) (front : List ℕ) → is_verbatim single h.unread.text ≡ true
    → h.unread.lends ≡ true → quoted_text single h front ≡ record { characters = front; is_borrowed = true }
lent_text single h front y lends =
    ap₂ (λ (a b : Bool). record { characters = front; is_borrowed = a && b }) y lends

own_text : (single : Bool) (h : Here) (front : List ℕ) → (is_verbatim single h.unread.text && h.unread.lends) ≡ false
    → quoted_text single h front ≡ owned front
own_text single h front n = ap (λ (b : Bool). record { characters = front; is_borrowed = b }) n

own_rest : (single : Bool) (at : LayoutData) (start : Mark) (h : Here) (r : Result (List ℕ × QuotedState) Fault)
    → (is_verbatim single h.unread.text && h.unread.lends) ≡ false
    → rest_of single at start (quoted_text single h) r ≡ rest_of single at start owned r
own_rest single at start h (Ok x) n = ap (λ (t : Written). quoted_tail single at start t (step x.1.here))
    (own_text single h (x.0 ++ between_quoted x.1) n)
own_rest single at start h (Err f) n = refl

pub text_behind : (single : Bool) (h : Here) (n : ℕ) → (steps n h).unread.text ≡ drop n h.unread.text
    → n ≡ run_length (starts (is_kept single)) h.unread.text
    → is_verbatim single h.unread.text ≡ is_closing single (steps n h).unread.text
text_behind single h n drops whole = verbatim_behind single h.unread.text
    ∙ ap (λ (m : ℕ). is_closing single (drop m h.unread.text)) (sym whole) ∙ ap (is_closing single) (sym drops)

-- a scalar whose front was passed and is lent
pub passed_is : (single : Bool) (at : LayoutData) (h : Here) (start : Mark) (n : ℕ) → start ≡ mark_of h
    → n ≡ run_length (starts (is_kept single)) (step h).unread.text
    → (steps n (step h)).unread.text ≡ drop n (step h).unread.text → (step h).unread.lends ≡ true
    → quoted_scalar single at h
    ≡ passed_scalar single at start (take n (step h).unread.text) (steps n (step h))
unfolding quoted_scalar
passed_is single at h start n is whole drops lends =
    let g = step h in
    let there = steps n g in
    let front = take n g.unread.text in
    let fits : n ≤ run_length (starts (is_kept single)) g.unread.text = omega (arith, whole) in
    let same = text_behind single g n drops whole in
    ap (λ (m : Mark). rest_of single at m (quoted_text single g) (quoted_rest single at m (quoted_at false g))) (sym is)
    ∙ ap (rest_of single at start (quoted_text single g)) (run_is single at start g n fits)
    ∙ by (is_closing single there.unread.text) refl same
  where
    by : (b : Bool) → is_closing single (steps n (step h)).unread.text ≡ b
        → is_verbatim single (step h).unread.text ≡ is_closing single (steps n (step h)).unread.text
        → rest_of single at start (quoted_text single (step h)) (quoted_whole single at start
        (kept_chars begun (take n (step h).unread.text)) (steps n (step h)))
        ≡ passed_scalar single at start (take n (step h).unread.text) (steps n (step h))
    by true y same =
        closed_text single at start (take n (step h).unread.text) (steps n (step h)) (quoted_text single (step h)) y
        ∙ ap (λ (t : Written). quoted_tail single at start t (step (steps n (step h))))
        (lent_text single (step h) (take n (step h).unread.text) (same ∙ y) lends)
        ∙ rw y refl
    by false y same =
        own_rest single at start (step h) _ (ap (λ b. b && (step h).unread.lends) (same ∙ y)) ∙ rw y refl

-- a scalar of an input that lends nothing
pub copied_is : (single : Bool) (at : LayoutData) (h : Here) (start : Mark) → start ≡ mark_of h
    → (step h).unread.lends ≡ false → quoted_scalar single at h ≡ copied_scalar single at start [] (step h)
unfolding quoted_scalar
copied_is single at h start is lends =
    let g = step h in
    ap (λ (m : Mark). rest_of single at m (quoted_text single g) (quoted_rest single at m (quoted_at false g))) (sym is)
    ∙ ap (rest_of single at start (quoted_text single g)) (sym (quoted_begins single at start begun g refl refl))
    ∙ own_rest single at start g _ (ap (λ b. is_verbatim single g.unread.text && b) lends
    ∙ and-false (is_verbatim single g.unread.text))

pub taken_given : (single : Bool) (at : LayoutData) (start : Mark) (p : QuotedTaken) (h : Here)
    (value whole : List ℕ) (s : QuotedState)
    → quoted_whole single at start p h ≡ Ok (value, s) → whole ≡ value ++ between_quoted s
    → taken_scalar single at start p h ≡ quoted_tail single at start (owned whole) (step s.here)
taken_given single at start p h value whole s is grown =
    ap (rest_of single at start owned) is
    ∙ ap (λ (v : List ℕ). quoted_tail single at start (owned v) (step s.here)) (sym grown)

-- the same whole gives the same scalar
pub taken_same : (single : Bool) (at : LayoutData) (start : Mark) (q p : QuotedTaken) (now h : Here)
    → quoted_whole single at start q now ≡ quoted_whole single at start p h
    → taken_scalar single at start q now ≡ taken_scalar single at start p h
taken_same single at start q p now h is = ap (rest_of single at start owned) is
