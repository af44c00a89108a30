-- What an input lends from its source.
use Rattle.std.proofs.Common.{◌≡◌, ℕ, ◌+◌, ◌≤◌, ◌<◌, ◌^◌, Bool, true, false, if◌then◌else◌, List, take, Option, Some}
use Rattle.std.proofs.Common.{[], ◌++◌}
use Rattle.std.proofs.Common.{None, is_some, IfSome, ◌&&◌, inl, inr, refl, sym, ap, ap₂, ◌∙◌, arith}
use Rattle.std.specs.Borrow.{Bor}
use Rattle.std.specs.Option.{option_map}
use Rattle.std.specs.Str.{chars}
use Rattle.std.proofs.lemmas.Bool.{and_parts, cases_Bool}
use Rattle.granit_base.specs.Place.{Unread}
use Rattle.granit_runs.specs.Chunks.{TakesFront}
use Rattle.granit_input.specs.Origin.{Origin, Goes, Agrees, LentBetween, can_lend}
use Rattle.granit_runs.specs.Cuts.{PartOf}
use Rattle.granit_runs.specs.Runs.{run_length}
use Rattle.granit_runs.specs.Unread.{past_count, utf8_length, SpelledBy}
use Rattle.granit_input.proofs.LendLemmas.{lent_between}
use Rattle.granit_input.proofs.UnreadLemmas.{past_offset}
use Rattle.granit_base.specs.Written.{Written}
use Rattle.granit_lexemes.specs.Basics.{as_spelled}
use Rattle.granit_lexemes.specs.Here.{Here}
use Rattle.granit_lexemes.specs.Moves.{steps}
use Rattle.granit_cursor.proofs.MoveLemmas.{KeepsLine, run_along}
use Rattle.granit_cursor.specs.Reading.{has_source}

-- asked for the empty text here, the source answers exactly where there is one
pub empty_slice : (left at : ℕ) (o : Origin) (u : Unread) (answer : Option (Bor (List ℕ))) → Agrees left o u
    → Some at ≡ u.offset → PartOf o.sliced at at answer
    → is_some answer ≡ is_some o.sliced
empty_slice left at o u answer agrees told h =
    let far : Some at ≡ option_map (λ bytes. bytes + utf8_length (take 0 u.text)) (Some at) = ap Some (omega arith) in
    (lent_between o.sliced (Some at) (Some at) u.text u.text 0 answer
    (λ bytes place is from. agrees.sliced bytes place is (sym told ∙ from))
    (λ bytes place is from. agrees.sliced bytes place is (sym told ∙ from)) far h).0

pub no_offset : (o : Origin) (u : Unread) → false ≡ o.tells_offset → None ≡ (if has_source o then u.offset else None)
no_offset o u told = rw (sym told) refl

pub no_source : (o : Origin) (u : Unread) → is_some o.sliced ≡ false → None ≡ (if has_source o then u.offset else None)
no_source o u none =
    elim (cases_Bool o.tells_offset) [
      | inl tells ↦ rw (tells, none) refl
      | inr silent ↦ rw silent refl
    ]

pub some_source : (at : ℕ) (o : Origin) (u : Unread) → true ≡ o.tells_offset → is_some o.sliced ≡ true
    → Some at ≡ u.offset → Some at ≡ (if has_source o then u.offset else None)
some_source at o u tells some told = rw (sym tells, some) told

-- nothing was found, so there is no source
pub none_found : (left : ℕ) (o : Origin) (u : Unread) → Agrees left o u
    → None ≡ (if has_source o then u.offset else None) → has_source o ≡ false
none_found left o u agrees found =
    elim (cases_Bool (has_source o)) [
      | inl there ↦ absurd (
          let none : None ≡ u.offset = rw there at found in
          let tells = (and_parts o.tells_offset (is_some o.sliced) there).0 in
          let told : false ≡ true = ap is_some none ∙ agrees.offset ∙ tells in cc)
      | inr absent ↦ absent
    ]

-- a place was found, so there is a source and the place is the one in it
pub some_found : (at : ℕ) (o : Origin) (u : Unread) → Some at ≡ (if has_source o then u.offset else None)
    → (has_source o ≡ true) × (Some at ≡ u.offset)
some_found at o u found =
    elim (cases_Bool (has_source o)) [
      | inl there ↦ (there, rw there at found)
      | inr absent ↦ absurd (let none : Some at ≡ None = rw absent at found in cc)
    ]

-- what the source holds behind a place, up to n characters on, is there, and is those characters
pub lent_since : (old now : Origin) (left_old left_now : ℕ) (u : Unread) (n at : ℕ) (answer : Option (Bor (List ℕ)))
    → Goes old now → Agrees left_old old u → Agrees left_now now (past_count n u)
    → has_source old ≡ true → Some at ≡ u.offset → LentBetween now.sliced (Some at) (past_count n u).offset answer
    → (is_some answer ≡ true) × IfSome answer (λ part. chars part.now ≡ take n u.text)
lent_since old now left_old left_now u n at answer goes before after there from h =
    let answered = lent_between now.sliced (Some at) (past_count n u).offset u.text (past_count n u).text n answer
    (λ bytes place is told. before.sliced bytes place (sym goes.sliced ∙ is) (sym from ∙ told))
    (λ bytes place is told. after.sliced bytes place is told)
    (past_offset n u ∙ ap (option_map (λ bytes. bytes + utf8_length (take n u.text))) (sym from))
    h in
    (answered.0 ∙ ap is_some goes.sliced ∙ (and_parts old.tells_offset (is_some old.sliced) there).1, answered.1)

-- no run is as long as the greatest number
pub whole_run : (test : List ℕ → Bool) (text : List ℕ) (left count most : ℕ) (ended : Bool) → count ≤ left
    → left < 2 ^ 63 → 2 ^ 63 ≤ most → (ended ≡ false → most ≤ count)
    → TakesFront test text most ended count → count ≡ run_length test text
whole_run test text left count most ended fits short great few front =
    elim (cases_Bool ended) [
      | inl over ↦ front.whole over
      | inr cut ↦ absurd (let n = few cut in omega (arith, n, fits, short, great))
    ]

-- ---- what an input lends

-- asked for the empty text here, the input lends it exactly where it lends what follows
pub empty_lent : (left at : ℕ) (o : Origin) (u : Unread) (answer : Option (Bor (List ℕ))) → Agrees left o u
    → Some at ≡ u.offset → PartOf o.lent at at answer → is_some answer ≡ u.lends
empty_lent left at o u answer agrees told h =
    let far : Some at ≡ option_map (λ bytes. bytes + utf8_length (take 0 u.text)) (Some at) = ap Some (omega arith) in
    let tells : true ≡ o.tells_offset = ap is_some told ∙ agrees.offset in
    (lent_between o.lent (Some at) (Some at) u.text u.text 0 answer
    (λ bytes place is from. agrees.lent bytes place is (sym told ∙ from))
    (λ bytes place is from. agrees.lent bytes place is (sym told ∙ from)) far h).0
    ∙ ap (λ b. b && is_some o.lent) tells ∙ sym agrees.lends

pub silent_lends : (left : ℕ) (o : Origin) (u : Unread) → Agrees left o u → false ≡ o.tells_offset
    → None ≡ (if u.lends then u.offset else None)
silent_lends left o u agrees told = rw (agrees.lends, ← told) refl

pub none_lends : (u : Unread) → u.lends ≡ false → None ≡ (if u.lends then u.offset else None)
none_lends u none = rw none refl

pub some_lends : (at : ℕ) (u : Unread) → u.lends ≡ true → Some at ≡ u.offset
    → Some at ≡ (if u.lends then u.offset else None)
some_lends at u some told = rw some told

-- a place was found, so the input lends from it
pub found_lends : (at : ℕ) (u : Unread) → Some at ≡ (if u.lends then u.offset else None)
    → (u.lends ≡ true) × (Some at ≡ u.offset)
found_lends at u found =
    elim (cases_Bool u.lends) [
      | inl there ↦ (there, rw there at found)
      | inr absent ↦ absurd (let none : Some at ≡ None = rw absent at found in cc)
    ]

-- none was found, so it lends nothing
pub not_found_lends : (left : ℕ) (o : Origin) (u : Unread) → Agrees left o u
    → None ≡ (if u.lends then u.offset else None) → u.lends ≡ false
not_found_lends left o u agrees found =
    elim (cases_Bool u.lends) [
      | inl there ↦ absurd (
          let none : None ≡ u.offset = rw there at found in
          let tells = (and_parts o.tells_offset (is_some o.lent) (sym agrees.lends ∙ there)).0 in
          let told : false ≡ true = ap is_some none ∙ agrees.offset ∙ tells in cc)
      | inr absent ↦ absent
    ]

-- what was read since a place from which it lends is lent
pub lent_here : (now : Origin) (left : ℕ) (u : Unread) (n at : ℕ) (answer : Option (Bor (List ℕ)))
    → SpelledBy now.lent u → can_lend now ≡ true → Some at ≡ u.offset → Agrees left now (past_count n u)
    → LentBetween now.lent (Some at) (past_count n u).offset answer
    → (is_some answer ≡ true) × IfSome answer (λ part. chars part.now ≡ take n u.text)
lent_here now left u n at answer spelled lends from after h =
    let answered = lent_between now.lent (Some at) (past_count n u).offset u.text (past_count n u).text n answer
    (λ bytes place is told. spelled bytes place is (sym from ∙ told))
    (λ bytes place is told. after.lent bytes place is told)
    (past_offset n u ∙ ap (option_map (λ bytes. bytes + utf8_length (take n u.text))) (sym from))
    h in
    (answered.0 ∙ (and_parts now.tells_offset (is_some now.lent) lends).1, answered.1)

-- moving on changes nothing of that
pub spelled_on : (old now : Origin) (left : ℕ) (u : Unread) → Goes old now → Agrees left old u → u.lends ≡ true
    → SpelledBy now.lent u × (can_lend now ≡ true)
spelled_on old now left u goes before lends = (
  λ bytes place is told. before.lent bytes place (sym goes.lent ∙ is) told,
  ap₂ (λ t (l : Option (List ℕ)). t && is_some l) goes.tells_offset goes.lent ∙ sym before.lends ∙ lends,
)

-- the place behind a run of a line
pub run_behind : (test : List ℕ → Bool) (n : ℕ) (h : Here) → KeepsLine test → n ≡ run_length test h.unread.text
    → (steps n h).unread ≡ past_count n h.unread
run_behind test n h line is = (run_along test n h line (omega (arith, is))).unread

-- a text of a run that was lent, and one that was copied
pub lent_run : (h : Here) (n : ℕ) (part : List ℕ) → h.unread.lends ≡ true → part ≡ take n h.unread.text
    → ◌≡◌ {A = Written} (record { characters = part; is_borrowed = true }) (as_spelled h (take n h.unread.text))
lent_run h n part lends is = ap₂ (λ (t : List ℕ) (b : Bool). record { characters = t; is_borrowed = b }) is (sym lends)

pub own_run : (h : Here) (n : ℕ) (empty out : List ℕ) → h.unread.lends ≡ false → empty ≡ []
    → out ≡ empty ++ take n h.unread.text
    → ◌≡◌ {A = Written} (record { characters = out; is_borrowed = false }) (as_spelled h (take n h.unread.text))
own_run h n empty out lends none is =
    ap₂ (λ (t : List ℕ) (b : Bool). record { characters = t; is_borrowed = b })
    (is ∙ ap (λ (t : List ℕ). t ++ take n h.unread.text) none) (sym lends)
