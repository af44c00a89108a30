-- A plain scalar of one line, passed at once.
use Rattle.std.proofs.Common.{◌≡◌, ℕ, ◌+◌, ◌-◌, ◌<◌, ◌≤◌, ◌==◌, Bool, true, false, not, ◌&&◌, ◌||◌, List, [], ◌∷◌}
use Rattle.std.proofs.Common.{length, take, drop, Option, Some, None, if◌then◌else◌, refl, sym, ap, ap₂, ◌∙◌, subst}
use Rattle.std.proofs.Common.{arith, zero-add}
use Rattle.std.specs.Option.{option_map}
use Rattle.granit_base.specs.Place.{Mark, Place, Unread, ends_line, first}
use Rattle.granit_runs.specs.Runs.{is_plain_word, run_length, starts}
use Rattle.granit_runs.specs.Unread.{past_count, utf8_length}
use Rattle.granit_runs.specs.Words.{EndsLine, LendsWords}
use Rattle.granit_runs.specs.declared.class.Run.TheVariants.{PlainWords}
use Rattle.granit_runs.proofs.RunLemmas.{run_nul}
use Rattle.granit_input.proofs.UnreadLemmas.{past_offset, past_one, past_text, past_twice}
use Rattle.granit_lexemes.specs.Here.{Here, begins_behind, mark_of, next_char, step, tab_behind}
use Rattle.granit_lexemes.specs.Moves.{steps}
use Rattle.granit_lexemes.specs.Onward.{Onward, stepped}
use Rattle.granit_lexemes.proofs.HereLemmas.{step_text}
use Rattle.granit_cursor.specs.Plain.{EndsWordsAt}
use Rattle.granit_cursor.proofs.MoveLemmas.{Along, Spot, StandsAt, is_space, moved, run_along, space_line, spaces_stay}
use Rattle.granit_cursor.proofs.MoveLemmas.{not_none}
use Rattle.granit_cursor.proofs.OnwardLemmas.{steps_onward}
use Rattle.granit_cursor.proofs.WordLemmas.{joined_line, lands_joined, plain_joins}

-- ---- over a line feed

feed_some : (text : List ℕ) → first text ≡ 0x0A → 0 < length text
feed_some [] is = absurd cc
feed_some (c ∷ cs) is = omega arith

-- the start of the next line
pub record LineBegun (h now : Here) : Type 0 where
  unread : now.unread ≡ past_count 1 h.unread
  place : now.place ≡ record { index = h.place.index + 1; line = h.place.line + 1; column = 0 }
  begins_line : now.begins_line ≡ true
  tab : now.tab ≡ None

pub over_feed : (h : Here) → next_char h ≡ 0x0A → LineBegun h (step h)
unfolding step begins_behind tab_behind
over_feed h is =
    let some = feed_some h.unread.text is in
    let ends : ends_line h.unread.text ≡ true = ap (λ (c : ℕ). c == 0x0A || other) is in
    rw (not_none (length h.unread.text) some, ends)
    (record { unread = sym (past_one h.unread some); place = refl; begins_line = refl; tab = refl })
  where
    other : Bool
    other = first h.unread.text == 0x0D && not (first (drop 1 h.unread.text) == 0x0A)

-- behind it and the spaces that follow
pub feed_lands :
    {I : Type 0} (unread : I → Unread → Type 0) (new : Spot I) (h : Here) (in_flow : Bool) (column : Option ℕ)
    (spaces : ℕ) → EndsLine in_flow column spaces h.unread.text → unread new.input (past_count (1 + spaces) h.unread)
    → new.place ≡ record { index = h.place.index + (1 + spaces); line = h.place.line + 1; column = spaces }
    → new.begins_line ≡ true → new.tab ≡ None → StandsAt unread new (steps spaces (step h))
feed_lands unread new h in_flow column spaces line known place begins tab =
    let b = over_feed h line.feed in
    let fits : spaces ≤ run_length (starts is_space) (step h).unread.text =
    omega (arith, line.blanks, ap (run_length (starts is_space)) (step_text h)) in
    let a = run_along (starts is_space) spaces (step h) space_line fits in
    let s = spaces_stay spaces (step h) fits in
    let far : (steps spaces (step h)).unread ≡ past_count (1 + spaces) h.unread =
    a.unread ∙ ap (past_count spaces) b.unread ∙ past_twice 1 spaces h.unread in
    let index : h.place.index + 1 + spaces ≡ h.place.index + (1 + spaces) = omega arith in
    let there : moved spaces (record { index = h.place.index + 1; line = h.place.line + 1; column = 0 })
    ≡ record { index = h.place.index + (1 + spaces); line = h.place.line + 1; column = spaces } =
    ap₂ (λ (i c : ℕ). record { index = i; line = h.place.line + 1; column = c }) index (zero-add spaces) in (
      subst (unread new.input) (sym far) known,
      a.place ∙ ap (moved spaces) b.place ∙ there ∙ sym place,
      s.0 ∙ b.begins_line ∙ sym begins,
      s.1 ∙ b.tab ∙ sym tab,
    )

-- ---- over words

and_none : (b : Bool) (n : ℕ) → 0 < n → false ≡ (b && n == 0)
and_none true n some = sym (not_none n some)
and_none false n some = refl

tab_none : (t : Option Mark) (n : ℕ) → 0 < n → None ≡ (if n == 0 then t else None)
tab_none t n some = rw (not_none n some) refl

module _ (in_flow : Bool) (h : Here) (start end : ℕ) (w : LendsWords in_flow h.unread start end) where
  abbrev count : ℕ
  count = end - start

  pub words_along : Along count h (steps count h)
  words_along = run_along (is_plain_word in_flow) count h
      (joined_line (is_plain_word in_flow) (plain_joins in_flow)) (omega (arith, w.whole))

  -- the mark behind them
  pub words_mark : (place : Place) → place ≡ moved count h.place
      → ◌≡◌ {A = Mark} (record { place = place; byte_offset = Some end }) (mark_of (steps count h))
  words_mark place is =
      let far : start + utf8_length (take count h.unread.text) ≡ end =
      omega (arith, w.words.single, w.words.some) in
      let offset : (steps count h).unread.offset ≡ Some end =
      ap (λ (u : Unread). u.offset) words_along.unread ∙ past_offset count h.unread
      ∙ ap (option_map (λ bytes. bytes + utf8_length (take count h.unread.text))) w.offset ∙ ap Some far in
      ap₂ (λ (p : Place) (o : Option ℕ). record { place = p; byte_offset = o }) (is ∙ sym words_along.place)
      (sym offset)

  pub words_land : {I : Type 0} (unread : I → Unread → Type 0) (old new : Spot I) → StandsAt unread old h
      → unread new.input (past_count count h.unread) → new.place ≡ moved count old.place → new.begins_line ≡ false
      → new.tab ≡ None → StandsAt unread new (steps count h)
  words_land unread old new k known place begins tab =
      lands_joined unread (is_plain_word in_flow) count old new h (plain_joins in_flow)
      (run_nul (PlainWords in_flow)) w.whole k known place
      (begins ∙ and_none old.begins_line count w.words.some) (tab ∙ tab_none old.tab count w.words.some)

-- ---- what was passed

-- the text behind words
pub words_text : (in_flow : Bool) (h : Here) (start end : ℕ) → LendsWords in_flow h.unread start end
    → (steps (end - start) h).unread.text ≡ drop (end - start) h.unread.text
words_text in_flow h start end w =
    ap (λ (u : Unread). u.text) (words_along in_flow h start end w).unread ∙ past_text (end - start) h.unread

-- the line that ends them
pub line_there : (in_flow : Bool) (h : Here) (start end : ℕ) → LendsWords in_flow h.unread start end
    → (column : Option ℕ) (spaces : ℕ) → EndsLine in_flow column spaces (drop (end - start) h.unread.text)
    → EndsLine in_flow column spaces (steps (end - start) h).unread.text
line_there in_flow h start end w column spaces line =
    subst (EndsLine in_flow column spaces) (sym (words_text in_flow h start end w)) line

pub line_lands :
    {I : Type 0} (unread : I → Unread → Type 0) (new : Spot I) (in_flow : Bool) (h : Here) (start end : ℕ)
    (w : LendsWords in_flow h.unread start end) (column : Option ℕ) (spaces : ℕ)
    → EndsLine in_flow column spaces (drop (end - start) h.unread.text)
    → unread new.input (past_count (end - start + (1 + spaces)) h.unread)
    → new.place ≡ record {
      index = h.place.index + (end - start) + (1 + spaces);
      line = h.place.line + 1;
      column = spaces;
    } → new.begins_line ≡ true → new.tab ≡ None
    → StandsAt unread new (steps spaces (step (steps (end - start) h)))
line_lands unread new in_flow h start end w column spaces line known place begins tab =
    let n = end - start in
    let a = words_along in_flow h start end w in
    let there = line_there in_flow h start end w column spaces line in
    let far : past_count (n + (1 + spaces)) h.unread ≡ past_count (1 + spaces) (steps n h).unread =
    sym (past_twice n (1 + spaces) h.unread) ∙ ap (past_count (1 + spaces)) (sym a.unread) in
    feed_lands unread new (steps n h) in_flow column spaces there (subst (unread new.input) far known)
    (place ∙ ap (λ (p : Place). record { index = p.index + (1 + spaces); line = p.line + 1; column = spaces })
    (sym a.place)) begins tab

-- how far the cursor came
pub ends_onward : (in_flow : Bool) (column : Option ℕ) (h : Here) (n : ℕ) (spaces : Option ℕ) (Lands : Here → Type 0)
    → EndsWordsAt in_flow column (steps n h) spaces Lands
    → (to : Here) × ((start : Here) → Onward start h → Onward start to) × Lands to
ends_onward in_flow column h n None Lands ends = (steps n h, λ start o. steps_onward n h o, ends.1)
ends_onward in_flow column h n (Some spaces) Lands ends = (
  steps spaces (step (steps n h)),
  λ start o. steps_onward spaces (step (steps n h)) (stepped (steps_onward n h o)),
  ends.1,
)
