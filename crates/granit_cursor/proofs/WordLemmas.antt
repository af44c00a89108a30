-- Runs in which a character may leave what is known of the line as it is, where the run goes on behind it.
use Rattle.std.proofs.Common.{◌≡◌, ◌⊎◌, ℕ, zero, suc, ◌==◌, ◌&&◌, ◌||◌, Bool, true, false, if◌then◌else◌, List, []}
use Rattle.std.proofs.Common.{◌∷◌, drop, slice_index, Option, None, refl, sym, ap, ◌∙◌, inl, inr, arith}
use Rattle.std.proofs.Math.Bool.{and-false, and-true}
use Rattle.std.proofs.lemmas.Bool.{and_parts, cases_Bool, eqb-true}
use Rattle.std.proofs.lemmas.Bool.Decides.{nat_tests}
use Rattle.granit_base.specs.Classes.{is_blank, is_blank_or_breakz, is_break, is_breakz, is_z}
use Rattle.granit_base.specs.Place.{Mark, Unread, ends_line, first}
use Rattle.granit_base.specs.PlainContent.{is_content}
use Rattle.granit_runs.specs.Runs.{run_length, begins_word, is_plain_word, is_quoted_char, is_quoted_word}
use Rattle.granit_runs.specs.Unread.{past_count}
use Rattle.granit_lexemes.specs.Here.{Here, is_quiet, next_char, step}
use Rattle.granit_lexemes.specs.Moves.{steps}
use Rattle.granit_lexemes.proofs.HereLemmas.{step_text}
use Rattle.granit_cursor.proofs.MoveLemmas.{KeepsLine, moved, plain_shows, quoted_shows, run_along}
use Rattle.granit_cursor.proofs.MoveLemmas.{run_begins, step_shows, Spot, StandsAt, along_stands}

-- no character that passes ends a line, and each shows or has another that passes behind it
pub record Joins (test : List ℕ → Bool) (text : List ℕ) : Type 0 where
  pub line : ends_line text ≡ false
  pub shown : (is_quiet (first text) ≡ false) ⊎ (test (drop 1 text) ≡ true)

abbrev pub JoinsAll : (List ℕ → Bool) → Type 0
JoinsAll test = (text : List ℕ) → test text ≡ true → Joins test text

pub joined_line : (test : List ℕ → Bool) → JoinsAll test → KeepsLine test
joined_line test joins text passes = (joins text passes).line

run_of : (test : List ℕ → Bool) (text : List ℕ) → 0 ≡ run_length test text → test [] ≡ false → test text ≡ false
unfolding run_length
run_of test [] none nul = nul
run_of test (c ∷ cs) none nul =
    elim (cases_Bool (test (c ∷ cs))) [
      | inl held ↦ absurd (let some = rw held at none in omega (arith, some))
      | inr failed ↦ failed
    ]

pub whole_rest : (test : List ℕ → Bool) (n : ℕ) (text : List ℕ) → suc n ≡ run_length test text
    → n ≡ run_length test (drop 1 text)
unfolding run_length
whole_rest test n [] whole = absurd (omega (arith, whole))
whole_rest test n (c ∷ cs) whole =
    elim (cases_Bool (test (c ∷ cs))) [
      | inl held ↦ (let all = rw held at whole in omega (arith, all))
      | inr failed ↦ absurd (let none = rw failed at whole in omega (arith, none))
    ]

-- the last character of a whole run shows
run_ends : (test : List ℕ → Bool) (n : ℕ) (h : Here) → JoinsAll test → test [] ≡ false
    → suc n ≡ run_length test h.unread.text
    → ((steps (suc n) h).begins_line ≡ false) × ((steps (suc n) h).tab ≡ None)
unfolding steps
run_ends test zero h joins nul whole =
    let b = run_begins test zero h.unread.text (omega (arith, whole)) in
    let is = joins h.unread.text b.passes in
    let stops = run_of test (drop 1 h.unread.text) (whole_rest test zero h.unread.text whole) nul in
    by is stops is.shown
  where
    by : Joins test h.unread.text → test (drop 1 h.unread.text) ≡ false
        → (is_quiet (next_char h) ≡ false) ⊎ (test (drop 1 h.unread.text) ≡ true)
        → ((step h).begins_line ≡ false) × ((step h).tab ≡ None)
    by is stops (inl shows) =
        step_shows h (run_begins test zero h.unread.text (omega (arith, whole))).some is.line shows
    by is stops (inr goes) = absurd cc
run_ends test (suc n) h joins nul whole =
    run_ends test n (step h) joins nul (whole_rest test (suc n) h.unread.text whole
    ∙ ap (run_length test) (sym (step_text h)))

joined : (test : List ℕ → Bool) (n : ℕ) (h : Here) → JoinsAll test → test [] ≡ false
    → n ≡ run_length test h.unread.text
    → ((steps n h).begins_line ≡ (h.begins_line && n == 0)) × ((steps n h).tab ≡ (if n == 0 then h.tab else None))
unfolding steps
joined test zero h joins nul whole = (sym (and-true h.begins_line), refl)
joined test (suc n) h joins nul whole =
    let is = run_ends test n h joins nul whole in
    let some : (suc n == 0) ≡ false = grind (arith, nat_tests) in
    rw some (is.0 ∙ sym (and-false h.begins_line), is.1)

-- behind such a run
pub lands_joined :
    {I : Type 0} (unread : I → Unread → Type 0) (test : List ℕ → Bool) (n : ℕ) (old new : Spot I) (h : Here)
    → JoinsAll test → test [] ≡ false → n ≡ run_length test h.unread.text → StandsAt unread old h
    → unread new.input (past_count n h.unread) → new.place ≡ moved n old.place
    → new.begins_line ≡ (old.begins_line && n == 0) → new.tab ≡ (if n == 0 then old.tab else None)
    → StandsAt unread new (steps n h)
lands_joined unread test n old new h joins nul whole k known place begins tab =
    let a = along_stands unread test n old new h
    (run_along test n h (joined_line test joins) (omega (arith, whole))) k known place in
    let s = joined test n h joins nul whole in (
      a.0,
      a.1,
      s.0 ∙ ap (λ (b : Bool). b && n == 0) k.2 ∙ sym begins,
      s.1 ∙ ap (λ (t : Option Mark). if n == 0 then t else None) k.3 ∙ sym tab,
    )

-- ---- the runs of words

space_keeps : (text : List ℕ) → (first text == 0x20) ≡ true → ends_line text ≡ false
space_keeps text is = let same : first text ≡ 0x20 = eqb-true (first text) 0x20 is in rw same refl

pub first_of : (text : List ℕ) → first (drop 1 text) ≡ slice_index text 1
first_of [] = refl
first_of (c ∷ cs) = refl

pub quoted_joins : (single : Bool) → JoinsAll (is_quoted_word single)
quoted_joins single text passes =
    elim (cases_Bool (is_quoted_char single (first text))) [
      | inl char ↦ (let s = quoted_shows single text char in record { line = s.0; shown = inl s.1 })
      | inr other ↦ (
          let space : (first text == 0x20 && is_quoted_char single (slice_index text 1)) ≡ true = rw other at passes in
          let p = and_parts (first text == 0x20) (is_quoted_char single (slice_index text 1)) space in
          let next : is_quoted_char single (first (drop 1 text)) ≡ true =
          ap (is_quoted_char single) (first_of text) ∙ p.1 in
          record {
            line = space_keeps text p.0;
            shown = inr (ap (λ b. b || (first (drop 1 text) == 0x20
                && is_quoted_char single (slice_index (drop 1 text) 1))) next);
          })
    ]

-- what begins a word is content whatever follows it
pub begins_content : (in_flow : Bool) (c : ℕ) (cs : List ℕ) → begins_word in_flow c ≡ true
    → is_content in_flow (c ∷ cs) ≡ true
unfolding is_blank_or_breakz is_blank
begins_content true c cs y = grind (arith, nat_tests)
begins_content false c cs y = grind (arith, nat_tests)

pub word_next : (in_flow : Bool) (text : List ℕ) → begins_word in_flow (slice_index text 1) ≡ true
    → is_content in_flow (drop 1 text) ≡ true
unfolding is_blank_or_breakz is_breakz is_blank is_break is_z
word_next in_flow [] y = absurd cc
word_next in_flow (c ∷ []) y = absurd cc
word_next in_flow (c ∷ d ∷ cs) y = begins_content in_flow d cs y

pub plain_joins : (in_flow : Bool) → JoinsAll (is_plain_word in_flow)
plain_joins in_flow text passes =
    elim (cases_Bool (is_content in_flow text)) [
      | inl content ↦ (let s = plain_shows in_flow text content in record { line = s.0; shown = inl s.1 })
      | inr other ↦ (
          let space : (first text == 0x20 && begins_word in_flow (slice_index text 1)) ≡ true = rw other at passes in
          let p = and_parts (first text == 0x20) (begins_word in_flow (slice_index text 1)) space in
          let next = word_next in_flow text p.1 in
          record {
            line = space_keeps text p.0;
            shown = inr (ap (λ b. b || (first (drop 1 text) == 0x20
                && begins_word in_flow (slice_index (drop 1 text) 1))) next);
          })
    ]
