-- What the code's form of what a definition gives says of what that gives.
use Rattle.std.proofs.Common.{◌≡◌, Result, Ok, Err, refl, sym, ap, subst, ◌∙◌}
use Rattle.granit_error.specs.Refused.{Refused}
use Rattle.granit_lexemes.specs.Here.{Here}
use Rattle.granit_lexemes.specs.Outcome.{Fault, Fails, Gives, ◌>>=◌}
use Rattle.granit_cursor.specs.Reading.{GivesTo, coded}
use Rattle.granit_cursor.proofs.GivenLemmas.{same_ok}
use Rattle.granit_properties.specs.PropertyTokens.{PlacedValue, placed_at, source_of}

-- by a value and where that ends
module _ {X Y S : Type 0} (code : Y → S → X) where
  abbrev pub coded_at : Result (Y × S) Fault → Result (X × S) Fault
  coded_at r = r >>= λ y. Ok (code y.0 y.1, y.1)

  -- what is answered is the code's form of a value
  pub coded_at_back : (r : Result (Y × S) Fault) (x : X) (after : S) → coded_at r ≡ Ok (x, after)
      → (y : Y) × (r ≡ Ok (y, after)) × (code y after ≡ x)
  coded_at_back (Ok z) x after is =
      let same = same_ok (code z.0 z.1, z.1) (x, after) is in
      let ends = ap (λ (p : X × S). p.1) same in
      (z.0, ap (λ (a : S). Ok (z.0, a)) ends, ap (code z.0) (sym ends) ∙ ap (λ (p : X × S). p.0) same)
  coded_at_back (Err f) x after is = absurd cc

  refused_back : (r : Result (Y × S) Fault) (e : Refused) → coded_at r ≡ Err e → r ≡ Err e
  refused_back (Ok z) e is = absurd cc
  refused_back (Err f) e is = let same : f ≡ e = cc in ap (λ (d : Fault). Err d) same

  -- a refusal is the definition's
  pub coded_at_fails : (r : Result (Y × S) Fault) (e : Refused) → Fails e (coded_at r) → Fails e r
  coded_at_fails r e fails = λ other. refused_back r e (fails other)

-- by a value alone
module _ {X Y S : Type 0} (code : Y → X) where
  pub coded_back : (r : Result (Y × S) Fault) (x : X) (after : S) → coded code r ≡ Ok (x, after)
      → (y : Y) × (r ≡ Ok (y, after)) × (code y ≡ x)
  coded_back r x after is = coded_at_back (λ y s. code y) r x after is

  pub coded_fails : (r : Result (Y × S) Fault) (e : Refused) → Fails e (coded code r) → Fails e r
  coded_fails r e fails = coded_at_fails (λ y s. code y) r e fails

-- with its place
module _ {Y : Type 0} (read : Here → Result (Y × Here) Fault) (h : Here) where
  abbrev placed_to : Y → Here → PlacedValue Y
  placed_to y after = record { value = y; source = source_of h after }

  pub placed_back : (p : PlacedValue Y) (after : Here) → placed_at read h ≡ Ok (p, after)
      → (read h ≡ Ok (p.value, after)) × (p.source ≡ source_of h after)
  placed_back p after is =
      let y = coded_at_back placed_to (read h) p after is in
      subst (λ (q : PlacedValue Y). (read h ≡ Ok (q.value, after)) × (q.source ≡ source_of h after)) y.2 (y.1, refl)

  pub placed_fails : (e : Refused) → Fails e (placed_at read h) → Fails e (read h)
  placed_fails e fails = coded_at_fails placed_to (read h) e fails

-- ---- what follows

-- the code's form of the code's form
pub coded_twice : {X Y Z S : Type 0} (code : Y → X) (inner : Z → Y) (r : Result (Z × S) Fault)
    → coded code (coded inner r) ≡ coded (λ z. code (inner z)) r
coded_twice code inner (Ok z) = refl
coded_twice code inner (Err f) = refl

-- behind a refusal nothing is reached
pub fails_then : {A B : Type 0} (r : Result A Fault) (f : A → Result B Fault) (e : Refused) → Fails e r
    → Fails e (r >>= f)
fails_then r f e fails = λ other. ap (λ q. q >>= f) (fails other)

-- what is given with a state is given with where that is
pub gives_lands : {X Y S : Type 0} (view : X → Y) (r : Result X Refused) (Lands : S → Type 0) (s : S)
    (given : Result (Y × S) Fault) → Lands s → Gives view r s given → GivesTo view r Lands given
gives_lands view (Ok x) Lands s given lands is = (s, lands, is)
gives_lands view (Err e) Lands s given lands fails = fails
