-- Over line feeds and the spaces behind each.
use Rattle.std.proofs.Common.{◌≡◌, ℕ, zero, suc, ◌+◌, ◌<◌, ◌≤◌, ◌==◌, Bool, true, false, List, [], ◌∷◌, length, take}
use Rattle.std.proofs.Common.{drop, None, inl, inr, refl, sym, ap, subst, ◌∙◌, arith}
use Rattle.std.proofs.lemmas.Bool.{cases_Bool, eqb-true}
use Rattle.granit_base.specs.Place.{Place, Unread, first, ends_line}
use Rattle.granit_runs.specs.Lines.{IsLines, is_line_gap, feed_count, column_behind}
use Rattle.granit_runs.specs.Runs.{run_length, starts}
use Rattle.granit_runs.specs.Unread.{past_count}
use Rattle.granit_input.proofs.UnreadLemmas.{past_none, past_one, past_twice}
use Rattle.granit_lexemes.specs.Here.{Here, next_char, is_quiet, begins_behind, tab_behind, step, past}
use Rattle.granit_lexemes.specs.Moves.{steps}
use Rattle.granit_lexemes.specs.Onward.{Onward}
use Rattle.granit_lexemes.proofs.HereLemmas.{step_text}
use Rattle.granit_cursor.specs.Reading.{Reading, Stands, GoesOnward}
use Rattle.granit_cursor.proofs.MoveLemmas.{moved, Spot, StandsAt, run_begins, run_rest, step_along, steps_past}
use Rattle.granit_cursor.proofs.MoveLemmas.{not_none, step_blank, quiet_of, space_line}
use Rattle.granit_cursor.proofs.OnwardLemmas.{goes_by, steps_onward}

-- the place behind so many of them, which are this text
abbrev lines_place : ℕ → List ℕ → Place → Place
lines_place n text p = record {
  index = p.index + n;
  line = p.line + feed_count text;
  column = column_behind p.column text;
}

-- so many are behind, and nothing else stands before the place on its line
record Over (n : ℕ) (h now : Here) : Type 0 where
  unread : now.unread ≡ past_count n h.unread
  place : now.place ≡ lines_place n (take n h.unread.text) h.place
  begins : now.begins_line ≡ true
  tab : now.tab ≡ None

-- ---- one of them

-- behind a line feed
record Fed (h now : Here) : Type 0 where
  unread : now.unread ≡ past_count 1 h.unread
  place : now.place ≡ record { index = h.place.index + 1; line = h.place.line + 1; column = 0 }
  begins : now.begins_line ≡ true
  tab : now.tab ≡ None

step_feed : (h : Here) → 0 < length h.unread.text → first h.unread.text ≡ 0x0A → Fed h (step h)
unfolding step begins_behind tab_behind
step_feed h some is =
    let line : ends_line h.unread.text ≡ true = rw is refl in
    rw (not_none (length h.unread.text) some, line)
    (record { unread = sym (past_one h.unread some); place = refl; begins = refl; tab = refl })

-- behind a space
record Spaced (h now : Here) : Type 0 where
  unread : now.unread ≡ past_count 1 h.unread
  place : now.place ≡ moved 1 h.place
  begins : now.begins_line ≡ h.begins_line
  tab : now.tab ≡ h.tab

step_space : (h : Here) → 0 < length h.unread.text → first h.unread.text ≡ 0x20 → Spaced h (step h)
step_space h some is =
    let space : (first h.unread.text == 0x20) ≡ true = rw is refl in
    let line : ends_line h.unread.text ≡ false = space_line h.unread.text space in
    let quiet : is_quiet (next_char h) ≡ true =
    quiet_of (next_char h == 0x20) (next_char h == 0x09) (next_char h == 0x0D) (rw space refl) in
    let no_tab : (next_char h == 0x09) ≡ false = rw is refl in
    let a = step_along h some line in
    let s = step_blank h some line quiet in
    record { unread = a.unread; place = a.place; begins = s.0; tab = s.1 ∙ rw no_tab refl }

-- ---- all of them

take_first : (n : ℕ) (text : List ℕ) → 0 < length text → take (suc n) text ≡ first text ∷ take n (drop 1 text)
take_first n [] some = absurd (omega arith)
take_first n (c ∷ cs) some = refl

-- the first one, and those behind it
takes_first : (n c : ℕ) (h : Here) → 0 < length h.unread.text → first h.unread.text ≡ c
    → c ∷ take n (step h).unread.text ≡ take (suc n) h.unread.text
takes_first n c h some is =
    sym (take_first n h.unread.text some ∙ ap (λ (k : ℕ). k ∷ take n (drop 1 h.unread.text)) is
    ∙ ap (λ (text : List ℕ). c ∷ take n text) (sym (step_text h)))

behind_first : (n : ℕ) (h now : Here) → (step h).unread ≡ past_count 1 h.unread
    → now.unread ≡ past_count n (step h).unread → now.unread ≡ past_count (suc n) h.unread
behind_first n h now one more =
    let k : 1 + n ≡ suc n = omega arith in
    more ∙ ap (past_count n) one ∙ past_twice 1 n h.unread ∙ ap (λ (m : ℕ). past_count m h.unread) k

feed_place : (n : ℕ) (text : List ℕ) (p : Place)
    → lines_place n text (record { index = p.index + 1; line = p.line + 1; column = 0 })
    ≡ lines_place (suc n) (0x0A ∷ text) p
unfolding feed_count column_behind
feed_place n text p =
    let i : p.index + 1 + n ≡ p.index + suc n = omega arith in
    let l : p.line + 1 + feed_count text ≡ p.line + suc (feed_count text) = omega arith in
    rw (i, l) refl

space_place : (n : ℕ) (text : List ℕ) (p : Place) → lines_place n text (moved 1 p) ≡ lines_place (suc n) (0x20 ∷ text) p
unfolding feed_count column_behind
space_place n text p =
    let i : p.index + 1 + n ≡ p.index + suc n = omega arith in
    let k : p.column + 1 ≡ suc p.column = omega arith in
    rw i (ap (λ (column : ℕ). record {
      index = p.index + suc n;
      line = p.line + feed_count text;
      column = column_behind column text;
    }) k)

over_feed : (n : ℕ) (h now : Here) → 0 < length h.unread.text → first h.unread.text ≡ 0x0A → Fed h (step h)
    → Over n (step h) now → Over (suc n) h now
over_feed n h now some is one rest = record {
  unread = behind_first n h now one.unread rest.unread;
  place = rest.place ∙ ap (lines_place n (take n (step h).unread.text)) one.place
      ∙ feed_place n (take n (step h).unread.text) h.place
      ∙ ap (λ (text : List ℕ). lines_place (suc n) text h.place) (takes_first n 0x0A h some is);
  begins = rest.begins;
  tab = rest.tab;
}

over_space : (n : ℕ) (h now : Here) → 0 < length h.unread.text → first h.unread.text ≡ 0x20 → Spaced h (step h)
    → Over n (step h) now → Over (suc n) h now
over_space n h now some is one rest = record {
  unread = behind_first n h now one.unread rest.unread;
  place = rest.place ∙ ap (lines_place n (take n (step h).unread.text)) one.place
      ∙ space_place n (take n (step h).unread.text) h.place
      ∙ ap (λ (text : List ℕ). lines_place (suc n) text h.place) (takes_first n 0x20 h some is);
  begins = rest.begins;
  tab = rest.tab;
}

none_over : (h : Here) → h.begins_line ≡ true → h.tab ≡ None → Over 0 h h
unfolding feed_count column_behind
none_over h begins tab =
    let i : h.place.index + 0 ≡ h.place.index = omega arith in
    let l : h.place.line + 0 ≡ h.place.line = omega arith in
    record { unread = sym (past_none h.unread); place = rw (i, l) refl; begins = begins; tab = tab }

space_else : (c : ℕ) → is_line_gap c ≡ true → (c == 0x0A) ≡ false → (c == 0x20) ≡ true
space_else c is other = rw other at is

-- from where a line begins with spaces alone
lines_on : (n : ℕ) (h : Here) → n ≤ run_length (starts is_line_gap) h.unread.text → h.begins_line ≡ true
    → h.tab ≡ None → Over n h (steps n h)
unfolding steps
lines_on zero h fits begins tab = none_over h begins tab
lines_on (suc n) h fits begins tab =
    let b = run_begins (starts is_line_gap) n h.unread.text fits in
    let more = run_rest (starts is_line_gap) n h b.more in
    elim (cases_Bool (first h.unread.text == 0x0A)) [
      | inl feed ↦ let is : first h.unread.text ≡ 0x0A = eqb-true (first h.unread.text) 0x0A feed in
          let one = step_feed h b.some is in
          over_feed n h (steps n (step h)) b.some is one (lines_on n (step h) more one.begins one.tab)
      | inr other ↦ let is : first h.unread.text ≡ 0x20 = eqb-true (first h.unread.text) 0x20
          (space_else (first h.unread.text) b.passes other) in
          let one = step_space h b.some is in
          over_space n h (steps n (step h)) b.some is one
          (lines_on n (step h) more (one.begins ∙ begins) (one.tab ∙ tab))
    ]

feed_run : (text : List ℕ) → first text ≡ 0x0A → 0 < run_length (starts is_line_gap) text
unfolding run_length
feed_run [] is = absurd cc
feed_run (c ∷ cs) is = let here : c ≡ 0x0A = is in rw here (omega arith)

-- from a line feed on, whatever stands before it on its line
feeds_on : (n : ℕ) (h : Here) → first h.unread.text ≡ 0x0A → n ≡ run_length (starts is_line_gap) h.unread.text
    → Over n h (steps n h)
unfolding steps
feeds_on zero h is whole = absurd (omega (arith, whole, feed_run h.unread.text is))
feeds_on (suc n) h is whole =
    let b = run_begins (starts is_line_gap) n h.unread.text (omega (arith, whole)) in
    let one = step_feed h b.some is in
    over_feed n h (steps n (step h)) b.some is one
    (lines_on n (step h) (run_rest (starts is_line_gap) n h b.more) one.begins one.tab)

-- the column behind them doesn't depend on where they begin
feed_column : (k n : ℕ) (text : List ℕ) → first text ≡ 0x0A → 0 < n
    → column_behind k (take n text) ≡ column_behind 0 (take n text)
unfolding column_behind
feed_column k zero text is some = absurd (omega (arith, some))
feed_column k (suc n) [] is some = absurd cc
feed_column k (suc n) (c ∷ cs) is some = let here : c ≡ 0x0A = is in rw here refl

-- ---- where a cursor stands behind them

pub lands_lines :
    {I : Type 0} (unread : I → Unread → Type 0) (n lines spaces : ℕ) (old new : Spot I) (h : Here)
    → IsLines h.unread.text n lines spaces → StandsAt unread old h → unread new.input (past_count n h.unread)
    → new.place ≡ record { index = old.place.index + n; line = old.place.line + lines; column = spaces }
    → new.begins_line ≡ true → new.tab ≡ None → StandsAt unread new (past is_line_gap h)
lands_lines unread n lines spaces old new h is k known place begins tab =
    let text = take n h.unread.text in
    let over = feeds_on n h is.begins is.whole in
    let some : 0 < n = omega (arith, is.whole, feed_run h.unread.text is.begins) in
    let l : feed_count text ≡ lines = sym is.feeds in
    let c : column_behind old.place.column text ≡ spaces =
    feed_column old.place.column n h.unread.text is.begins some ∙ sym is.column in
    let there : lines_place n text old.place
    ≡ record { index = old.place.index + n; line = old.place.line + lines; column = spaces } = rw (l, c) refl in
    let all : steps n h ≡ past is_line_gap h = ap (λ (m : ℕ). steps m h) is.whole ∙ steps_past is_line_gap h in
    subst (λ (now : Here). StandsAt unread new now) all (
      subst (unread new.input) (sym over.unread) known,
      over.place ∙ ap (lines_place n text) k.1 ∙ there ∙ sym place,
      over.begins ∙ sym begins,
      over.tab ∙ sym tab,
    )

-- over all that pass a test is onward
pub past_on : {I : Type 0} (unread : I → Unread → Type 0) (old new : Reading I) → new.lost ≡ old.lost
    → (test : ℕ → Bool) → ((h : Here) → Stands unread old h → Stands unread new (past test h))
    → GoesOnward unread old new
past_on unread old new lost test here = goes_by unread old new lost (λ h k. (
  past test h,
  λ start o. subst (λ (to : Here). Onward start to) (steps_past test h)
      (steps_onward (run_length (starts test) h.unread.text) h o),
  here h k,
))
