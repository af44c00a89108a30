-- What a cursor does goes onward.
use Rattle.std.proofs.Common.{◌≡◌, ℕ, zero, suc, true, ◌⊎◌, inl, inr, refl, sym, ◌∙◌}
use Rattle.granit_base.specs.Place.{Unread}
use Rattle.granit_lexemes.specs.Here.{Here, next_char, step, mid_line}
use Rattle.granit_lexemes.specs.Moves.{steps, past_prefix_mark}
use Rattle.granit_lexemes.specs.Onward.{Onward, there, stepped, over_mark, begun}
use Rattle.granit_cursor.specs.Reading.{Reading, Stands, CameOn, GoesOnward}

pub steps_onward : {start : Here} (n : ℕ) (at : Here) → Onward start at → Onward start (steps n at)
unfolding steps
steps_onward zero at o = o
steps_onward (suc n) at o = steps_onward n (step at) (stepped o)

-- one place behind another, behind a third
pub onward_on : {a b c : Here} → Onward a b → Onward b c → Onward a c
onward_on f there = f
onward_on f (stepped o) = stepped (onward_on f o)
onward_on f (over_mark o mark column) = over_mark (onward_on f o) mark column
onward_on f (begun o) = begun (onward_on f o)

module _ {I : Type 0} (unread : I → Unread → Type 0) (old new : Reading I) (lost : new.lost ≡ old.lost) where
  -- what is onward from wherever the cursor stood, and where it stands then
  abbrev pub Follows : Here → Type 0
  Follows h = (to : Here) × ((start : Here) → Onward start h → Onward start to) × Stands unread new to

  pub goes_by : ((h : Here) → Stands unread old h → Follows h) → GoesOnward unread old new
  unfolding CameOn
  goes_by follows start before = by before
    where
      by : ((at : Here) × Onward start at × Stands unread old at) ⊎ (old.lost ≡ true)
          → ((at : Here) × Onward start at × Stands unread new at) ⊎ (new.lost ≡ true)
      by (inl k) = let f = follows k.0 k.2 in inl (f.0, f.1 start k.1, f.2)
      by (inr e) = inr (lost ∙ e)

  pub stays : ((h : Here) → Stands unread old h → Stands unread new h) → GoesOnward unread old new
  stays here = goes_by (λ h k. (h, λ start o. o, here h k))

  pub one_on : ((h : Here) → Stands unread old h → Stands unread new (step h)) → GoesOnward unread old new
  one_on here = goes_by (λ h k. (step h, λ start o. stepped o, here h k))

  pub run_on : (n : ℕ) → ((h : Here) → Stands unread old h → Stands unread new (steps n h))
      → GoesOnward unread old new
  run_on n here = goes_by (λ h k. (steps n h, λ start o. steps_onward n h o, here h k))

  pub line_on : (n : ℕ) → ((h : Here) → Stands unread old h → Stands unread new (mid_line (steps n h)))
      → GoesOnward unread old new
  line_on n here = goes_by (λ h k. (mid_line (steps n h), λ start o. begun (steps_onward n h o), here h k))

  pub mark_on : ((h : Here) → Stands unread old h → next_char h ≡ 0xFEFF) → old.place.column ≡ 0
      → ((h : Here) → Stands unread old h → Stands unread new (past_prefix_mark h)) → GoesOnward unread old new
  mark_on mark column here = goes_by (λ h k. (
    past_prefix_mark h,
    λ start o. over_mark o (mark h k) (ap_column h k),
    here h k,
  ))
    where
      ap_column : (h : Here) → Stands unread old h → h.place.column ≡ 0
      ap_column h k = rw k.1 column

-- a cursor that is lost where memory ran out
pub lost_on : {I : Type 0} (unread : I → Unread → Type 0) (old new : Reading I) → new.lost ≡ true
    → GoesOnward unread old new
unfolding CameOn
lost_on unread old new lost start before = inr lost
