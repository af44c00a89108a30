-- A plain scalar of one line of words, whose end is seen at once.
use Rattle.std.proofs.Common.{◌≡◌, ℕ, zero, suc, ◌+◌, ◌<◌, ◌≤◌, ◌==◌, Bool, true, false, not, ◌&&◌, ◌||◌, List, []}
use Rattle.std.proofs.Common.{◌∷◌, length, take, drop, slice_index, Option, Some, None, Result, Ok, refl, sym, ap, ◌∙◌}
use Rattle.std.proofs.Common.{◌⊎◌, inl, inr, subst, arith, zero-add}
use Rattle.std.proofs.Math.Bool.{and-false, or-true}
use Rattle.std.proofs.lemmas.Bool.{and_parts, cases_Bool, eqb-true, or_parts, eq-eqb}
use Rattle.std.proofs.lemmas.Bool.Decides.{nat_tests}
use Rattle.granit_base.specs.Classes.{is_blank, is_blank_or_breakz, is_break, is_breakz, is_flow, is_printable, is_z}
use Rattle.granit_base.specs.Classes.{is_within}
use Rattle.granit_base.specs.Place.{Mark, Place, first}
use Rattle.granit_base.specs.PlainContent.{is_content}
use Rattle.granit_base.specs.Written.{lent}
use Rattle.granit_runs.specs.Runs.{is_plain_word, run_length, starts}
use Rattle.granit_runs.specs.Words.{EndsBelow}
use Rattle.granit_lexemes.specs.Basics.{past_break, unprintable}
use Rattle.granit_lexemes.specs.Here.{Here, next_char, mark_of, step}
use Rattle.granit_lexemes.specs.LayoutData.{LayoutData, is_left, is_outside}
use Rattle.granit_lexemes.specs.Moves.{steps}
use Rattle.granit_lexemes.specs.Outcome.{Fault, ◌>>=◌}
use Rattle.granit_lexemes.specs.Pieces.{with_front}
use Rattle.granit_lexemes.specs.PlainExtent.{is_flow_dash}
use Rattle.granit_lexemes.specs.PlainScalar.{PlainRead, PlainState, ends_before_line, is_one_line, on_blank, plain_len}
use Rattle.granit_lexemes.specs.PlainScalar.{plain_scalar, plain_start, plain_turn}
use Rattle.granit_lexemes.proofs.HereLemmas.{step_text}
use Rattle.granit_lexemes.proofs.PieceLemmas.{with_front-nil, pieces_more, pieces_done}
use Rattle.granit_scalars.proofs.Comments.{steps_text}
use Rattle.granit_scalars.proofs.PlainTurns.{plain_shortens}
use Rattle.granit_cursor.proofs.MoveLemmas.{Along, is_space, no_blanks, run_along, run_begins, space_line}
use Rattle.granit_cursor.proofs.WordLemmas.{first_of, joined_line, plain_joins}
use Rattle.granit_plain.specs.LineCode.{LinePassed, broken_state, line_scalar, text_of_lines}
use Rattle.granit_plain.specs.PlainCode.{ended_plain, plain_ended_by, plain_rest}
use Rattle.granit_plain.proofs.FurtherLines.{passed_is}
use Rattle.granit_plain.proofs.LineLemmas.{along_none, line_begins, line_over, run_over, word_goes, no_content_at_end}

-- what is read of so many characters, which are lent
abbrev pub words_read : Here → (count : ℕ) → (on_new_line : Bool) → PlainRead
words_read h count on_new_line = record {
  text = lent (take count h.unread.text);
  source = record { start = mark_of h; end = mark_of (steps count h) };
  cut_by_comment = None;
  on_new_line = on_new_line;
}

-- ---- a `-` before a flow indicator

flow_no_word : (text : List ℕ) → is_flow (first text) ≡ true → is_plain_word true text ≡ false
unfolding is_blank_or_breakz is_breakz is_blank is_break is_z is_flow
flow_no_word text is = grind (arith, nat_tests)

-- more than one character of words isn't such a `-`
pub words_no_dash : (at : LayoutData) (text : List ℕ) (n : ℕ) → n ≡ run_length (is_plain_word at.in_flow) text
    → (first text ≡ 0x2D → 1 < n) → is_flow_dash at text ≡ false
words_no_dash at text n whole dash = elim (cases_Bool (is_flow_dash at text)) [
  | inl is ↦ absurd (
      let parts = and_parts at.in_flow (first text == 0x2D && is_flow (slice_index text 1)) is in
      let more = and_parts (first text == 0x2D) (is_flow (slice_index text 1)) parts.1 in
      let long = dash (eqb-true (first text) 0x2D more.0) in
      let one = run_begins (is_plain_word at.in_flow) 1 text (omega (arith, long, whole)) in
      let two = run_begins (is_plain_word at.in_flow) 0 (drop 1 text) one.more in
      let flow : is_flow (first (drop 1 text)) ≡ true = ap is_flow (first_of text) ∙ more.1 in
      let none = flow_no_word (drop 1 text) flow in
      let some : is_plain_word true (drop 1 text) ≡ true = rw parts.0 at two.passes in
      cc)
  | inr other ↦ other
]

-- ---- what stands behind words

-- a visible character of ASCII is no separator, and printable
record Visible (c : ℕ) : Type 0 where
  blank : is_blank c ≡ false
  breaks : is_break c ≡ false
  prints : is_printable c ≡ true

visible_is : (c : ℕ) → is_within 0x21 0x7E c ≡ true → Visible c
unfolding is_blank is_break is_printable
visible_is c is = record {
  blank = grind (arith, nat_tests);
  breaks = grind (arith, nat_tests);
  prints = grind (arith, nat_tests);
}

-- nor is a `:` or a flow indicator
stop_is : (c : ℕ) → (c == 0x3A || is_flow c) ≡ true → Visible c
unfolding is_blank is_break is_printable is_flow
stop_is c is = record {
  blank = grind (arith, nat_tests);
  breaks = grind (arith, nat_tests);
  prints = grind (arith, nat_tests);
}

-- ---- the line of the scalar

module _ (at : LayoutData) (h : Here) (n : ℕ) (some : 0 < n)
    (whole : n ≡ run_length (is_plain_word at.in_flow) h.unread.text)
    (lends : h.unread.lends ≡ true) (dash : is_flow_dash at h.unread.text ≡ false)
    (printable : unprintable (take n h.unread.text) ≡ None) where
  abbrev behind : Here
  behind = steps n h

  abbrev front : List ℕ
  front = take n h.unread.text

  along : Along n h behind
  along = run_along (is_plain_word at.in_flow) n h (joined_line (is_plain_word at.in_flow) (plain_joins at.in_flow))
      (omega (arith, whole))

  no_content : is_content at.in_flow behind.unread.text ≡ false
  no_content =
      ap (is_content at.in_flow) (steps_text n h)
      ∙ (or_parts _ _ (run_over (is_plain_word at.in_flow) n h.unread.text (no_content_at_end at.in_flow) whole)).0

  over_words : plain_rest at (mark_of h) (plain_start h)
      ≡ with_front front (plain_rest at (mark_of h) (plain_start behind))
  unfolding steps
  over_words =
      let count : 0 + (0 + n) ≡ n = omega arith in
      subst (λ (m : ℕ). plain_rest at (mark_of h) (plain_start h)
      ≡ with_front (take m h.unread.text) (plain_rest at (mark_of h) (plain_start behind))) count
      (word_goes at (mark_of h) h h 0 0 n false (line_begins at (mark_of h) h) (along_none h) (omega arith) refl some
      whole (and-false (next_char h == 0x23)))

  passed : is_blank (next_char behind) ≡ false → LinePassed at (mark_of h) h front (mark_of behind) false behind
  unfolding steps
  passed solid = line_over at (mark_of h) h behind n 0 false over_words along
      (no_blanks behind.unread.text solid) refl
      (ap (λ b. b && not (next_char behind == 0x23 && false)) no_content)

  by_line : is_blank (next_char behind) ≡ false
      → plain_scalar at h ≡ line_scalar at (mark_of h) front (mark_of behind) false behind
  by_line solid =
      passed_is at h (mark_of h) front (mark_of behind) false behind refl dash lends (passed solid)

  -- where nothing of it cuts it short it ends in front of a printable character
  ended : (on_new_line : Bool) (now : Here) → is_printable (next_char now) ≡ true
      → ended_plain at (mark_of h) (lent front) (mark_of behind) on_new_line false now
      ≡ Ok (words_read h n on_new_line, now)
  ended on_new_line now prints =
      rw (
        printable,
        prints,
        and-false (not (length now.unread.text == 0)),
        and-false (next_char now == 0x23),
        and-false (not at.in_flow),
      ) refl

  -- a `:` or a flow indicator behind the words ends it
  pub stop_alone : (next_char behind == 0x3A || is_flow (next_char behind)) ≡ true
      → plain_scalar at h ≡ Ok (words_read h n false, behind)
  stop_alone stop =
      let v = stop_is (next_char behind) stop in
      by_line v.blank ∙ rw v.breaks (ended false behind v.prints)

-- ---- the line behind it

-- a space that begins a further line is dropped
indent_turn : (at : LayoutData) (start end : Mark) (h : Here) → next_char h ≡ 0x20
    → plain_rest at start (broken_state end h) ≡ plain_rest at start (broken_state end (step h))
unfolding plain_turn on_blank is_blank
indent_turn at start end h is =
    pieces_more plain_len (plain_turn at start) (plain_shortens at start) (broken_state end h)
    (broken_state end (step h)) [] (rw is refl)
    ∙ with_front-nil (plain_rest at start (broken_state end (step h)))

indent_run : (at : LayoutData) (start end : Mark) (n : ℕ) (h : Here) → n ≤ run_length (starts is_space) h.unread.text
    → plain_rest at start (broken_state end h) ≡ plain_rest at start (broken_state end (steps n h))
unfolding steps
indent_run at start end zero h fits = refl
indent_run at start end (suc n) h fits =
    let b = run_begins (starts is_space) n h.unread.text fits in
    let more : n ≤ run_length (starts is_space) (step h).unread.text = rw (step_text h) b.more in
    indent_turn at start end h (eqb-true (next_char h) 0x20 b.passes) ∙ indent_run at start end n (step h) more

-- a visible character ends the scalar, left of its block
outside_ends : (at : LayoutData) (start end : Mark) (h : Here) → Visible (next_char h)
    → is_outside at h.place.column ≡ true
    → plain_rest at start (broken_state end h) ≡ Ok ([], broken_state end h)
unfolding plain_turn
outside_ends at start end h v left =
    pieces_done plain_len (plain_turn at start) (broken_state end h) (broken_state end h)
    (rw (v.blank, v.breaks, and-false (next_char h == 0x23), left, or-true (next_char h == 0x23)) refl)

-- and where it is no content
alone_ends : (at : LayoutData) (start end : Mark) (h : Here) → Visible (next_char h)
    → is_content at.in_flow h.unread.text ≡ false
    → plain_rest at start (broken_state end h) ≡ Ok ([], broken_state end h)
unfolding plain_turn
alone_ends at start end h v alone =
    pieces_done plain_len (plain_turn at start) (broken_state end h) (broken_state end h)
    (elim (cases_Bool (ends_before_line at h)) [
      | inl before ↦ rw (v.blank, v.breaks, and-false (next_char h == 0x23), before) refl
      | inr more ↦ rw (v.blank, v.breaks, and-false (next_char h == 0x23), more, alone) refl
    ])

feed_breaks : (h : Here) → next_char h ≡ 0x0A → is_break (next_char h) ≡ true
unfolding is_break
feed_breaks h is = rw is refl

feed_solid : (h : Here) → next_char h ≡ 0x0A → is_blank (next_char h) ≡ false
unfolding is_blank
feed_solid h is = rw is refl

past_feed : (h : Here) → next_char h ≡ 0x0A → past_break h ≡ step h
unfolding past_break
past_feed h is = rw is refl

feed_some : (text : List ℕ) → first text ≡ 0x0A → (length text == 0) ≡ false
feed_some [] is = absurd cc
feed_some (c ∷ cs) is = grind (arith, nat_tests)

feed_column : (h : Here) → next_char h ≡ 0x0A → (step h).place.column ≡ 0
unfolding step
feed_column h is = rw (feed_some h.unread.text is, is) refl

left_is : (n column : ℕ) → column ≤ n → is_left (Some n) column ≡ true
left_is n column within = grind (arith, nat_tests, within)

-- what ends it there stands left of its block, or is no content
below_ends : (in_flow strict : Bool) (block : Option ℕ) (spaces : ℕ) (text : List ℕ)
    → EndsBelow in_flow block spaces (first text)
    → (((not in_flow || strict) && is_left block spaces) ≡ true) ⊎ (is_content in_flow text ≡ false)
below_ends true strict block spaces text flow = inr (or_parts _ _ (flow_no_word text flow)).0
below_ends false strict None spaces text none = absurd none
below_ends false strict (Some n) spaces text left = inl (left_is n spaces left)

module _ (at : LayoutData) (h : Here) (n : ℕ) (some : 0 < n)
    (whole : n ≡ run_length (is_plain_word at.in_flow) h.unread.text)
    (lends : h.unread.lends ≡ true) (dash : is_flow_dash at h.unread.text ≡ false)
    (printable : unprintable (take n h.unread.text) ≡ None) (feed : next_char (steps n h) ≡ 0x0A)
    (spaces : ℕ) (blanks : spaces ≡ run_length (starts is_space) (step (steps n h)).unread.text)
    (shown : is_within 0x21 0x7E (next_char (steps spaces (step (steps n h)))) ≡ true)
    (below : EndsBelow at.in_flow at.block_column spaces (next_char (steps spaces (step (steps n h))))) where
  abbrev now : Here
  now = steps spaces (step (steps n h))

  abbrev end : Mark
  end = mark_of (steps n h)

  abbrev line : List ℕ
  line = take n h.unread.text

  indent : Along spaces (step (steps n h)) now
  indent = run_along (starts is_space) spaces (step (steps n h)) space_line (omega (arith, blanks))

  now_column : now.place.column ≡ spaces
  now_column =
      ap (λ (p : Place). p.column) indent.place
      ∙ ap (λ (c : ℕ). c + spaces) (feed_column (steps n h) feed) ∙ zero-add spaces

  ends : (is_outside at now.place.column ≡ true) ⊎ (is_content at.in_flow now.unread.text ≡ false)
  ends = subst (λ (c : ℕ). (is_outside at c ≡ true) ⊎ (is_content at.in_flow now.unread.text ≡ false))
      (sym now_column) (below_ends at.in_flow at.strict at.block_column spaces now.unread.text below)

  over : plain_rest at (mark_of h) (broken_state end now) ≡ Ok ([], broken_state end now)
  over =
      let v = visible_is (next_char now) shown in
      elim ends [
        | inl left ↦ outside_ends at (mark_of h) end now v left
        | inr alone ↦ alone_ends at (mark_of h) end now v alone
      ]

  further : plain_rest at (mark_of h) (broken_state end (past_break (steps n h))) ≡ Ok ([], broken_state end now)
  further =
      ap (λ (g : Here). plain_rest at (mark_of h) (broken_state end g)) (past_feed (steps n h) feed)
      ∙ indent_run at (mark_of h) end spaces (step (steps n h)) (omega (arith, blanks))
      ∙ over

  same_line : is_one_line (mark_of h) end ≡ true
  same_line = eq-eqb h.place.line end.place.line
      (sym (ap (λ (p : Place). p.line) (along at h n some whole lends dash printable).place))

  -- the next line ends it, as it begins left of its block, or in flow with a flow indicator
  pub words_and_line : plain_scalar at h ≡ Ok (words_read h n true, now)
  words_and_line =
      by_line at h n some whole lends dash printable (feed_solid (steps n h) feed)
      ∙ rw (feed_breaks (steps n h) feed)
      (ap (λ (r : Result (List ℕ × PlainState) Fault). r >>= plain_ended_by at (mark_of h)
      (λ further last. text_of_lines (mark_of h) last line further)) further
      ∙ rw same_line (ended at h n some whole lends dash printable true now (visible_is (next_char now) shown).prints))
