-- The first line of a plain scalar, taken without a turn for each blank.
use Rattle.std.proofs.Common.{◌≡◌, ℕ, zero, suc, ◌+◌, ◌<◌, ◌≤◌, ◌==◌, Bool, true, false, not, ◌&&◌, ◌||◌, List, []}
use Rattle.std.proofs.Common.{◌∷◌, ◌++◌, length, take, drop, slice_index, Result, Ok, refl, sym, ap, ap₂, ◌∙◌}
use Rattle.std.proofs.Common.{append_assoc, nat_lt, inl, inr, subst, arith}
use Rattle.std.proofs.Math.Bool.{and-false}
use Rattle.std.proofs.Math.Seq.{take-add}
use Rattle.std.proofs.lemmas.List.{append-nil, length-take-le}
use Rattle.std.proofs.lemmas.Bool.{and_parts, cases_Bool, eqb-true, not-true, or_parts}
use Rattle.std.proofs.lemmas.Bool.Decides.{nat_tests}
use Rattle.granit_base.specs.Classes.{is_blank, is_break, is_breakz, is_blank_or_breakz, is_z}
use Rattle.granit_base.specs.Place.{Mark, Place, Unread, first}
use Rattle.granit_base.specs.PlainContent.{is_content}
use Rattle.granit_runs.proofs.RunLemmas.{none_taken, run_within}
use Rattle.granit_input.proofs.UnreadLemmas.{past_none, past_text, past_twice}
use Rattle.granit_runs.specs.Runs.{begins_word, is_plain_word, run_length, starts}
use Rattle.granit_runs.specs.Unread.{past_count}
use Rattle.granit_lexemes.specs.Basics.{past_break}
use Rattle.granit_lexemes.specs.Here.{Here, next_char, mark_of, step}
use Rattle.granit_lexemes.specs.LayoutData.{LayoutData}
use Rattle.granit_lexemes.specs.Moves.{steps}
use Rattle.granit_lexemes.specs.Pieces.{with_front}
use Rattle.granit_lexemes.specs.Outcome.{Fault}
use Rattle.granit_lexemes.specs.PlainScalar.{PlainState, between, meets_comment, on_blank, on_break, on_content}
use Rattle.granit_lexemes.specs.PlainScalar.{plain_len, plain_turn, plain_start}
use Rattle.granit_lexemes.proofs.HereLemmas.{step_text}
use Rattle.granit_lexemes.proofs.PieceLemmas.{with_front-nil, with_front-with_front, pieces_more, pieces_done}
use Rattle.granit_scalars.proofs.Comments.{none_dropped, steps_text}
use Rattle.granit_scalars.proofs.PlainTurns.{plain_shortens}
use Rattle.granit_cursor.proofs.MoveLemmas.{Along, moved, blank_line, run_along, run_begins}
use Rattle.granit_cursor.proofs.WordLemmas.{first_of, joined_line, plain_joins, whole_rest, word_next}
use Rattle.granit_plain.specs.LineCode.{LinePassed, PassesWord, line_state, broken_state, continues}
use Rattle.granit_plain.specs.PlainCode.{ahead_of, plain_rest, plain_state, plain_whole}
use Rattle.granit_plain.specs.PlainTaken.{PlainTaken}
use Rattle.granit_plain.specs.declared.plain.Ahead.TheVariants.{Content}
use Rattle.granit_plain.proofs.PlainLemmas.{apart, take_suc, turn_is}

-- ---- along a line

pub along_none : (h : Here) → Along 0 h h
along_none h = record { unread = sym (past_none h.unread); place = moved_none h.place }
  where
    moved_none : (p : Place) → p ≡ moved 0 p
    moved_none p =
        let i : p.index + 0 ≡ p.index = omega arith in
        let c : p.column + 0 ≡ p.column = omega arith in
        rw (i, c) refl

pub along_more : (m n : ℕ) (h g i : Here) → Along m h g → Along n g i → Along (m + n) h i
along_more m n h g i a b = record {
  unread = b.unread ∙ ap (past_count n) a.unread ∙ past_twice m n h.unread;
  place = b.place ∙ ap (moved n) a.place ∙ moved_twice h.place;
}
  where
    moved_twice : (p : Place) → moved n (moved m p) ≡ moved (m + n) p
    moved_twice p =
        let i : p.index + m + n ≡ p.index + (m + n) = omega arith in
        let c : p.column + m + n ≡ p.column + (m + n) = omega arith in
        rw (i, c) refl

pub along_text : (n : ℕ) (h now : Here) → Along n h now → now.unread.text ≡ drop n h.unread.text
along_text n h now a = ap (λ (u : Unread). u.text) a.unread ∙ past_text n h.unread

along_lends : (n : ℕ) (h now : Here) → Along n h now → now.unread.lends ≡ h.unread.lends
unfolding past_count
along_lends n h now a = ap (λ (u : Unread). u.lends) a.unread

along_line : (n : ℕ) (h now : Here) → Along n h now → now.place.line ≡ h.place.line
along_line n h now a = ap (λ (p : Place). p.line) a.place

-- what is known to be left there
pub left_along : {I : Type 0} (unread : I → Unread → Type 0) (input : I) (n : ℕ) (h now : Here) → Along n h now
    → unread input now.unread → unread input (past_count n h.unread)
left_along unread input n h now a known = subst (unread input) a.unread known

-- on over blanks and content
pub along_word : (in_flow : Bool) (k n : ℕ) (h : Here) → k ≤ run_length (starts is_blank) h.unread.text
    → n ≤ run_length (is_plain_word in_flow) (steps k h).unread.text → Along (k + n) h (steps n (steps k h))
along_word in_flow k n h blanks content =
    along_more k n h (steps k h) (steps n (steps k h)) (run_along (starts is_blank) k h blank_line blanks)
    (run_along (is_plain_word in_flow) n (steps k h) (joined_line (is_plain_word in_flow) (plain_joins in_flow))
    content)

-- a run that was taken whole has ended
pub run_over : (test : List ℕ → Bool) (n : ℕ) (text : List ℕ) → test [] ≡ false → n ≡ run_length test text
    → test (drop n text) ≡ false
unfolding run_length
run_over test n [] nul is = rw is nul
run_over test n (c ∷ cs) nul is =
    elim (cases_Bool (test (c ∷ cs))) [
      | inl held ↦
          let more : n ≡ suc (run_length test cs) = rw held at is in
          rw more (run_over test (run_length test cs) cs nul refl)
      | inr failed ↦
          let none : n ≡ 0 = rw failed at is in
          rw none failed
    ]

-- ---- a word

pub is_some : (k : ℕ) → nat_lt 0 k ≡ not (k == 0)
is_some k = grind (arith, nat_tests)

pub word_stopped : (in_flow : Bool) (h : Here) (blank : Bool) → (next_char h == 0x23 && blank) ≡ true
    → continues in_flow blank h ≡ false
word_stopped in_flow h blank met = ap (λ b. is_content in_flow h.unread.text && not b) met
    ∙ and-false (is_content in_flow h.unread.text)

pub no_content_at_end : (in_flow : Bool) → is_plain_word in_flow [] ≡ false
unfolding is_blank_or_breakz is_breakz is_blank is_break is_z
no_content_at_end in_flow = refl

-- the blanks were passed, and the content behind them, which may be none
pub word_passed : (in_flow : Bool) (h : Here) (blank : Bool) (k n : ℕ) (Lands : Here → Type 0)
    → k ≡ run_length (starts is_blank) h.unread.text → blank ≡ not (k == 0)
    → (next_char (steps k h) == 0x23 && blank) ≡ false
    → n ≡ run_length (is_plain_word in_flow) (steps k h).unread.text → Lands (steps n (steps k h))
    → (content : Bool) → nat_lt 0 n ≡ content → PassesWord in_flow h blank content Lands
unfolding steps
word_passed in_flow h blank k n Lands blanks is none whole lands true some =
    let there : 0 < n = grind (arith, nat_tests) in (k, n, blanks, is, there, whole, none, lands)
word_passed in_flow h blank k n Lands blanks is none whole lands false some =
    let b = steps k h in
    let zero_taken : n ≡ 0 = grind (arith, nat_tests) in
    let test = is_plain_word in_flow in
    let over : test b.unread.text ≡ false = ap test (sym (none_dropped b.unread.text))
    ∙ ap (λ (m : ℕ). test (drop m b.unread.text)) (sym zero_taken)
    ∙ run_over test n b.unread.text (no_content_at_end in_flow) whole in
    let ends : is_content in_flow b.unread.text ≡ false = (or_parts _ _ over).0 in (
      k,
      blanks,
      is,
      ap (λ b. b && not (next_char (steps k h) == 0x23 && blank)) ends,
      subst (λ (m : ℕ). Lands (steps m b)) zero_taken lands,
    )

-- a space in such a run, behind which its next word begins
record SpaceGoes (in_flow : Bool) (text : List ℕ) : Type 0 where
  blank : is_blank (first text) ≡ true
  solid : (first (drop 1 text) == 0x23) ≡ false
  more : 0 < run_length (is_plain_word in_flow) (drop 1 text)

run_some : (test : List ℕ → Bool) (text : List ℕ) → test [] ≡ false → test text ≡ true → 0 < run_length test text
unfolding run_length
run_some test [] nul y = absurd cc
run_some test (c ∷ cs) nul y = rw y (omega arith)

space_goes : (in_flow : Bool) (text : List ℕ) → is_content in_flow text ≡ false → is_plain_word in_flow text ≡ true
    → SpaceGoes in_flow text
unfolding is_blank
space_goes in_flow text other passes =
    let space : (first text == 0x20 && begins_word in_flow (slice_index text 1)) ≡ true = rw other at passes in
    let p = and_parts (first text == 0x20) (begins_word in_flow (slice_index text 1)) space in
    let is : first text ≡ 0x20 = eqb-true (first text) 0x20 p.0 in
    let apart = and_parts _ _ (and_parts _ _ p.1).1 in
    let next : is_plain_word in_flow (drop 1 text) ≡ true = ap (λ b. b || (first (drop 1 text) == 0x20
    && begins_word in_flow (slice_index (drop 1 text) 1))) (word_next in_flow text p.1) in
    record {
      blank = rw is refl;
      solid = ap (λ (c : ℕ). c == 0x23) (first_of text) ∙ not-true (slice_index text 1 == 0x23) apart.0;
      more = run_some (is_plain_word in_flow) (drop 1 text) (no_content_at_end in_flow) next;
    }

-- ---- turn by turn

module _ (at : LayoutData) (start : Mark) where
  blank_turn : (end : Mark) (pending : List ℕ) (h : Here) → is_blank (next_char h) ≡ true
      → plain_rest at start (line_state end pending h)
      ≡ plain_rest at start (line_state end (pending ++ next_char h ∷ []) (step h))
  unfolding plain_turn on_blank
  blank_turn end pending h y =
      pieces_more plain_len (plain_turn at start) (plain_shortens at start) (line_state end pending h)
      (line_state end (pending ++ next_char h ∷ []) (step h)) [] (rw y refl)
      ∙ with_front-nil (plain_rest at start (line_state end (pending ++ next_char h ∷ []) (step h)))

  blank_run : (n : ℕ) (end : Mark) (pending : List ℕ) (h : Here) → n ≤ run_length (starts is_blank) h.unread.text
      → plain_rest at start (line_state end pending h)
      ≡ plain_rest at start (line_state end (pending ++ take n h.unread.text) (steps n h))
  unfolding steps
  blank_run zero end pending h fits =
      ap (λ (t : List ℕ). plain_rest at start (line_state end t h))
      (sym (ap (λ (t : List ℕ). pending ++ t) (none_taken h.unread.text) ∙ append-nil pending))
  blank_run (suc n) end pending h fits =
      let b = run_begins (starts is_blank) n h.unread.text fits in
      let more : n ≤ run_length (starts is_blank) (step h).unread.text = rw (step_text h) b.more in
      blank_turn end pending h b.passes
      ∙ blank_run n end (pending ++ next_char h ∷ []) (step h) more
      ∙ ap (λ (t : List ℕ). plain_rest at start (line_state end t (steps n (step h))))
      (append_assoc pending (next_char h ∷ []) (take n (step h).unread.text)
      ∙ ap (λ (t : List ℕ). pending ++ t)
      (ap (λ (t : List ℕ). next_char h ∷ take n t) (step_text h) ∙ take_suc n h.unread.text b.some))

  content_turn : (end : Mark) (pending : List ℕ) (h : Here) → is_content at.in_flow h.unread.text ≡ true
      → meets_comment (line_state end pending h) ≡ false
      → plain_rest at start (line_state end pending h)
      ≡ with_front (pending ++ next_char h ∷ []) (plain_rest at start (plain_start (step h)))
  unfolding plain_turn on_content
  content_turn end pending h y n =
      let a = apart at.in_flow h.unread.text y in
      pieces_more plain_len (plain_turn at start) (plain_shortens at start) (line_state end pending h)
      (plain_start (step h)) (pending ++ next_char h ∷ []) (rw (a.0, a.1, n, y) refl)

  pub line_begins : (h : Here) → plain_rest at start (plain_start h)
      ≡ with_front (take 0 h.unread.text) (plain_rest at start (plain_start h))
  line_begins h =
      sym (with_front-nil (plain_rest at start (plain_start h)))
      ∙ ap (λ (t : List ℕ). with_front t (plain_rest at start (plain_start h))) (sym (none_taken h.unread.text))

  -- words behind blanks, or where nothing was read since the last content
  words_stretch : (n : ℕ) (end : Mark) (pending : List ℕ) (h : Here)
      → (n ≡ 0 → (pending ≡ []) × (end ≡ mark_of h))
      → n ≡ run_length (is_plain_word at.in_flow) h.unread.text → meets_comment (line_state end pending h) ≡ false
      → plain_rest at start (line_state end pending h)
      ≡ with_front (pending ++ take n h.unread.text) (plain_rest at start (plain_start (steps n h)))
  unfolding steps
  words_stretch zero end pending h none whole met =
      let e = none refl in
      rw (e.0, e.1) (line_begins h)
  words_stretch (suc n) end pending h none whole met =
      let test = is_plain_word at.in_flow in
      let b = run_begins test n h.unread.text (omega (arith, whole)) in
      let rest : n ≡ run_length test (step h).unread.text = whole_rest test n h.unread.text whole
      ∙ ap (run_length test) (sym (step_text h)) in
      let taken : next_char h ∷ take n (step h).unread.text ≡ take (suc n) h.unread.text =
      ap (λ (t : List ℕ). next_char h ∷ take n t) (step_text h) ∙ take_suc n h.unread.text b.some in
      let front = pending ++ next_char h ∷ [] in
      let there = plain_rest at start (plain_start (steps n (step h))) in
      let joined : front ++ take n (step h).unread.text ≡ pending ++ take (suc n) h.unread.text =
      append_assoc pending (next_char h ∷ []) (take n (step h).unread.text)
      ∙ ap (λ (t : List ℕ). pending ++ t) taken in
      elim (cases_Bool (is_content at.in_flow h.unread.text)) [
        | inl content ↦
            content_turn end pending h content met
            ∙ ap (with_front front) (words_stretch n (mark_of (step h)) [] (step h) (λ _. (refl, refl)) rest
            (and-false (next_char (step h) == 0x23)))
            ∙ with_front-with_front front (take n (step h).unread.text) there
            ∙ ap (λ (t : List ℕ). with_front t there) joined
        | inr other ↦
            let s = space_goes at.in_flow h.unread.text other b.passes in
            let some : 0 < n = omega (arith, s.more, rest, ap (run_length test) (step_text h)) in
            blank_turn end pending h s.blank
            ∙ words_stretch n end front (step h) (λ z. absurd (omega (arith, z, some))) rest
            (ap (λ (c : Bool). c && (false || (not false && not (length front == 0))))
            (ap (λ (t : List ℕ). first t == 0x23) (step_text h) ∙ s.solid))
            ∙ ap (λ (t : List ℕ). with_front t there) joined
      ]

  words_run : (n : ℕ) (g : Here) → n ≡ run_length (is_plain_word at.in_flow) g.unread.text
      → plain_rest at start (plain_start g)
      ≡ with_front (take n g.unread.text) (plain_rest at start (plain_start (steps n g)))
  words_run n g whole =
      words_stretch n (mark_of g) [] g (λ _. (refl, refl)) whole (and-false (next_char g == 0x23))

  -- a turn that takes words
  pub words_go : (p q : PlainTaken) (h : Here) (n : ℕ)
      → ahead_of at (plain_state p h) ≡ Content → n ≡ run_length (is_plain_word at.in_flow) (step h).unread.text
      → q.value ≡ ((p.value ++ between (plain_state p h)) ++ next_char h ∷ []) ++ take n (step h).unread.text
      → plain_state q (steps n (step h)) ≡ plain_start (steps n (step h))
      → plain_whole at start q (steps n (step h)) ≡ plain_whole at start p h
  unfolding on_content
  words_go p q h n is count value state =
      let s = plain_state p h in
      let v = p.value in
      let front = between s ++ next_char h ∷ [] in
      let run = take n (step h).unread.text in
      let rest = plain_rest at start (plain_start (steps n (step h))) in
      let more = pieces_more plain_len (plain_turn at start) (plain_shortens at start) s (plain_start (step h)) front
      (turn_is at start s Content is) in
      let whole : plain_whole at start p h ≡ with_front ((v ++ front) ++ run) rest =
      ap (with_front v) (more ∙ ap (with_front front) (words_run n (step h) count))
      ∙ with_front-with_front v front (with_front run rest)
      ∙ with_front-with_front (v ++ front) run rest in
      let grouped : q.value ≡ (v ++ front) ++ run = value
      ∙ ap (λ (cs : List ℕ). cs ++ run) (append_assoc v (between s) (next_char h ∷ [])) in
      ap₂ (λ (w : List ℕ) (r : Result (List ℕ × PlainState) Fault). with_front w r) grouped
      (ap (plain_rest at start) state) ∙ sym whole

  -- where a `#` behind blanks is a comment
  meets_as : (end : Mark) (k : ℕ) (g h : Here) (blank : Bool) → k ≤ run_length (starts is_blank) g.unread.text
      → blank ≡ not (k == 0)
      → meets_comment (line_state end (take k g.unread.text) h) ≡ (next_char h == 0x23 && blank)
  meets_as end k g h blank fits is =
      let within = run_within (starts is_blank) g.unread.text in
      let all : length (take k g.unread.text) ≡ k = length-take-le k g.unread.text (omega (arith, fits, within)) in
      ap (λ (m : ℕ). next_char h == 0x23 && not (m == 0)) all ∙ ap (λ b. next_char h == 0x23 && b) (sym is)

  -- on over blanks and the content behind them, so many characters behind a scalar's start
  pub word_goes : (h g : Here) (m k n : ℕ) (blank : Bool)
      → plain_rest at start (plain_start h) ≡ with_front (take m h.unread.text) (plain_rest at start (plain_start g))
      → Along m h g → k ≤ run_length (starts is_blank) g.unread.text → blank ≡ not (k == 0) → 0 < n
      → n ≡ run_length (is_plain_word at.in_flow) (steps k g).unread.text
      → (next_char (steps k g) == 0x23 && blank) ≡ false
      → plain_rest at start (plain_start h) ≡ with_front (take (m + (k + n)) h.unread.text)
      (plain_rest at start (plain_start (steps n (steps k g))))
  word_goes h g m k n blank so_far along blanks is some fits none =
      let b = steps k g in
      let rest = plain_rest at start (plain_start (steps n b)) in
      let word : plain_rest at start (plain_start g) ≡ with_front (take (k + n) g.unread.text) rest =
      blank_run k (mark_of g) [] g blanks
      ∙ words_stretch n (mark_of g) (take k g.unread.text) b (λ z. absurd (omega (arith, z, some))) fits
      (meets_as (mark_of g) k g b blank blanks is ∙ none)
      ∙ ap (λ (t : List ℕ). with_front t rest)
      (ap (λ (t : List ℕ). take k g.unread.text ++ take n t) (steps_text k g) ∙ sym (take-add k n g.unread.text)) in
      so_far ∙ ap (with_front (take m h.unread.text)) word
      ∙ with_front-with_front (take m h.unread.text) (take (k + n) g.unread.text) rest
      ∙ ap (λ (t : List ℕ). with_front t rest)
      (ap (λ (t : List ℕ). take m h.unread.text ++ take (k + n) t) (along_text m h g along)
      ∙ sym (take-add m (k + n) h.unread.text))

  line_breaks : (end : Mark) (pending : List ℕ) (h : Here) → is_blank (next_char h) ≡ false
      → is_break (next_char h) ≡ true
      → plain_rest at start (line_state end pending h) ≡ plain_rest at start (broken_state end (past_break h))
  unfolding plain_turn on_break
  line_breaks end pending h n y =
      pieces_more plain_len (plain_turn at start) (plain_shortens at start) (line_state end pending h)
      (broken_state end (past_break h)) [] (rw (n, y) refl)
      ∙ with_front-nil (plain_rest at start (broken_state end (past_break h)))

  ends_by : (end : Mark) (pending : List ℕ) (h : Here) → is_blank (next_char h) ≡ false
      → is_break (next_char h) ≡ false → (c f : Bool) → meets_comment (line_state end pending h) ≡ c
      → is_content at.in_flow h.unread.text ≡ f → (f && not c) ≡ false
      → plain_rest at start (line_state end pending h) ≡ Ok ([], line_state end pending h)
  unfolding plain_turn
  ends_by end pending h n m true f y z over = pieces_done plain_len (plain_turn at start) (line_state end pending h)
      (line_state end pending h) (rw (n, m, y) refl)
  ends_by end pending h n m false false y z over = pieces_done plain_len (plain_turn at start)
      (line_state end pending h) (line_state end pending h) (rw (n, m, y, z) refl)
  ends_by end pending h n m false true y z over = absurd cc

  no_blank_at_end : starts is_blank [] ≡ false
  unfolding is_blank
  no_blank_at_end = refl

  -- no content goes on behind the blanks, so many characters behind a scalar's start
  pub line_over : (h g : Here) (m k : ℕ) (blank : Bool)
      → plain_rest at start (plain_start h) ≡ with_front (take m h.unread.text) (plain_rest at start (plain_start g))
      → Along m h g → k ≡ run_length (starts is_blank) g.unread.text → blank ≡ not (k == 0)
      → continues at.in_flow blank (steps k g) ≡ false
      → LinePassed at start h (take m h.unread.text) (mark_of g) blank (steps k g)
  line_over h g m k blank so_far along whole is over =
      let b = steps k g in
      let front = take m h.unread.text in
      let pending = take k g.unread.text in
      let fits : k ≤ run_length (starts is_blank) g.unread.text = omega (arith, whole) in
      let within = run_within (starts is_blank) g.unread.text in
      let all : length pending ≡ k = length-take-le k g.unread.text (omega (arith, fits, within)) in
      let solid : is_blank (next_char b) ≡ false = ap (λ (t : List ℕ). is_blank (first t)) (steps_text k g)
      ∙ run_over (starts is_blank) k g.unread.text no_blank_at_end whole in
      let read : plain_rest at start (plain_start h)
      ≡ with_front front (plain_rest at start (line_state (mark_of g) pending b)) =
      so_far ∙ ap (with_front front) (blank_run k (mark_of g) [] g fits) in
      let here = run_along (starts is_blank) k g blank_line fits in
      record {
        pending = pending;
        blanks = is ∙ ap (λ (n : ℕ). not (n == 0)) (sym all);
        ends = λ no_break.
            read ∙ ap (with_front front) (ends_by (mark_of g) pending b solid no_break
            (next_char b == 0x23 && blank) (is_content at.in_flow b.unread.text)
            (meets_as (mark_of g) k g b blank fits is) refl over)
            ∙ ap (λ (t : List ℕ). Ok (t, line_state (mark_of g) pending b)) (append-nil front);
        breaks = λ breaks. read ∙ ap (with_front front) (line_breaks (mark_of g) pending b solid breaks);
        end_line = along_line m h g along;
        line = along_line k g b here ∙ along_line m h g along;
        lends = along_lends k g b here ∙ along_lends m h g along;
      }
