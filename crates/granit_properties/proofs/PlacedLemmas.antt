-- From what a call gives of something and its place to what is true of it.
use Rattle.std.proofs.Common.{◌≡◌, [], ◌⊎◌, Result, Ok, Err, IfOk, IfErr, refl, ap, subst}
use Rattle.granit_base.specs.Place.{Mark}
use Rattle.granit_cursor.specs.Reading.{GivesTo, coded}
use Rattle.granit_cursor.proofs.GivenLemmas.{same_ok, given_stands, given_cause, given_answered}
use Rattle.granit_error.specs.FaultKind.{FaultKind, NoMemory}
use Rattle.granit_error.specs.Refused.{Refused}
use Rattle.granit_lexemes.specs.Here.{Here}
use Rattle.granit_lexemes.specs.Outcome.{Fault, ◌>>=◌}
use Rattle.granit_properties.specs.PropertyTokens.{PlacedValue, StandsPlaced, placed_at, source_of}

module _ {X Y : Type 0} (code : PlacedValue Y → X) (read : Here → Result (Y × Here) Fault)
    (h : Here) (Lands : Here → Type 0)
    (result : Result X Refused) where
  abbrev with_place : Result (Y × Here) Fault → Result (PlacedValue Y × Here) Fault
  with_place r = r >>= λ x. Ok (record { value = x.0; source = source_of h x.1 }, x.1)

  stands_on : (Holds : Here → Y → Here → Type 0) (r : Result (Y × Here) Fault)
      → ((y : Y) (a : Here) → r ≡ Ok (y, a) → Holds h y a) → (p : PlacedValue Y) (a : Here) → with_place r ≡ Ok (p, a)
      → StandsPlaced Holds h p a
  stands_on Holds (Ok x) holds p a e =
      let same = same_ok (record { value = x.0; source = source_of h x.1 }, x.1) (p, a) e in
      subst (λ (q : PlacedValue Y × Here). StandsPlaced Holds h q.0 q.1) same (holds x.0 x.1 refl, refl)
  stands_on Holds (Err f) holds p a e = absurd cc

  -- what was answered stands there
  pub placed_answers : (Holds : Here → Y → Here → Type 0) → ((y : Y) (a : Here) → read h ≡ Ok (y, a) → Holds h y a)
      → GivesTo (λ x. x) result Lands (coded code (placed_at read h))
      → IfOk result (λ x. (p : PlacedValue Y) × (a : Here) × StandsPlaced Holds h p a × (x ≡ code p) × Lands a)
  placed_answers Holds holds given = given_stands code Lands (StandsPlaced Holds h) (placed_at read h) result
      (stands_on Holds (read h) holds) given

  err_on : (Q : Fault → Type 0) (r : Result (Y × Here) Fault) → ((f : Fault) → r ≡ Err f → Q f) → (f : Fault)
      → with_place r ≡ Err f → Q f
  err_on Q (Ok x) holds f e = absurd cc
  err_on Q (Err g) holds f e = let same : g ≡ f = cc in subst Q same (holds g refl)

  -- a refusal has its cause and names no source, unless memory ran out
  pub placed_cause : (Q : FaultKind → Mark → Type 0)
      → ((f : Fault) → read h ≡ Err f → Q f.kind f.mark × (f.sources ≡ []))
      → GivesTo (λ x. x) result Lands (coded code (placed_at read h))
      → IfErr result (λ e. (e.kind ≡ NoMemory) ⊎ (Q e.kind e.mark × (e.sources ≡ [])))
  placed_cause Q holds given =
      given_cause code Lands Q (placed_at read h) result (err_on (λ f. Q f.kind f.mark) (read h) (λ f e. (holds f e).0))
      (record { none = err_on (λ f. f.sources ≡ []) (read h) (λ f e. (holds f e).1) }) given

  -- what stands there is refused for want of memory alone
  pub placed_memory : (y : Y) (a : Here) → read h ≡ Ok (y, a)
      → GivesTo (λ x. x) result Lands (coded code (placed_at read h)) → IfErr result (λ e. e.kind ≡ NoMemory)
  placed_memory y a is given = given_answered code Lands (placed_at read h) result
      (record { value = y; source = source_of h a }, a) (ap with_place is) given
