-- From what a call gives for whatever is known to be left to what is true of it.
use Rattle.std.proofs.Common.{◌≡◌, [], ◌⊎◌, inl, inr, Result, Ok, Err, IfOk, IfErr, refl, sym, ap, subst}
use Rattle.granit_base.specs.Place.{Mark}
use Rattle.granit_error.specs.FaultKind.{FaultKind, NoMemory}
use Rattle.granit_error.specs.Refused.{Refused}
use Rattle.granit_lexemes.specs.Here.{Here}
use Rattle.granit_lexemes.specs.Outcome.{Fault, Fails}
use Rattle.granit_scalars.proofs.Nameless.{IsNameless}
use Rattle.granit_cursor.specs.Reading.{GivesTo, coded}

ok_or : {A : Type 0} → A → Result A Fault → A
ok_or d (Ok x) = x
ok_or d (Err f) = d

pub same_ok : {A : Type 0} (x y : A) → ◌≡◌ {A = Result A Fault} (Ok x) (Ok y) → x ≡ y
unfolding ok_or
same_ok x y e = ap (ok_or x) e

memory_or_not : (k : FaultKind) → (k ≡ NoMemory) ⊎ (k ≡ NoMemory → ⊥)
memory_or_not NoMemory = inl refl
memory_or_not k = inr (λ e. cc)

module _ {X Y : Type 0} (code : Y → X) (Lands : Here → Type 0) where
  stands_on : (P : Y → Here → Type 0) (r : Result (Y × Here) Fault) (x : X) (after : Here)
      → ((y : Y) (a : Here) → r ≡ Ok (y, a) → P y a) → Lands after → coded code r ≡ Ok (x, after)
      → (y : Y) × (a : Here) × P y a × (x ≡ code y) × Lands a
  stands_on P (Ok z) x after holds lands e =
      let same = same_ok (code z.0, z.1) (x, after) e in (
        z.0,
        z.1,
        holds z.0 z.1 refl,
        sym (ap (λ (p : X × Here). p.0) same),
        subst Lands
            (sym (ap (λ (p : X × Here). p.1) same)) lands,
      )
  stands_on P (Err f) x after holds lands e = absurd cc

  -- what was answered is what the definition gives
  pub given_stands : (P : Y → Here → Type 0) (r : Result (Y × Here) Fault) (result : Result X Refused)
      → ((y : Y) (a : Here) → r ≡ Ok (y, a) → P y a) → GivesTo (λ x. x) result Lands (coded code r)
      → IfOk result (λ x. (y : Y) × (a : Here) × P y a × (x ≡ code y) × Lands a)
  given_stands P r (Ok x) holds given = stands_on P r x given.0 holds given.1 given.2
  given_stands P r (Err e) holds given = tt

  cause_on : (Q : FaultKind → Mark → Type 0) (r : Result (Y × Here) Fault) (e : Refused)
      → ((f : Fault) → r ≡ Err f → Q f.kind f.mark) → IsNameless r → coded code r ≡ Err e
      → Q e.kind e.mark × (e.sources ≡ [])
  cause_on Q (Ok z) e holds none is = absurd cc
  cause_on Q (Err f) e holds none is = let same : f
      ≡ e = cc in subst (λ (d : Fault). Q d.kind d.mark × (d.sources ≡ [])) same (holds f refl, none.none f refl)

  cause_or : (Q : FaultKind → Mark → Type 0) (r : Result (Y × Here) Fault) (e : Refused)
      → (e.kind ≡ NoMemory) ⊎ (e.kind ≡ NoMemory → ⊥) → ((f : Fault) → r ≡ Err f → Q f.kind f.mark) → IsNameless r
      → Fails e (coded code r)
      → (e.kind ≡ NoMemory) ⊎ (Q e.kind e.mark × (e.sources ≡ []))
  cause_or Q r e (inl m) holds none given = inl m
  cause_or Q r e (inr n) holds none given = inr (cause_on Q r e holds none (given n))

  -- a refusal has its cause and names no source, unless memory ran out
  pub given_cause : (Q : FaultKind → Mark → Type 0) (r : Result (Y × Here) Fault) (result : Result X Refused)
      → ((f : Fault) → r ≡ Err f → Q f.kind f.mark) → IsNameless r → GivesTo (λ x. x) result Lands (coded code r)
      → IfErr result (λ e. (e.kind ≡ NoMemory) ⊎ (Q e.kind e.mark × (e.sources ≡ [])))
  given_cause Q r (Ok x) holds none given = tt
  given_cause Q r (Err e) holds none given = cause_or Q r e (memory_or_not e.kind) holds none given

  answered_or : (r : Result (Y × Here) Fault) (e : Refused) (z : Y × Here)
      → (e.kind ≡ NoMemory) ⊎ (e.kind ≡ NoMemory → ⊥) → r ≡ Ok z → Fails e (coded code r) → e.kind ≡ NoMemory
  answered_or r e z (inl m) is given = m
  answered_or r e z (inr n) is given = absurd (let refused = given n in let answered = ap (coded code) is in cc)

  -- what the definition answers is refused for want of memory alone
  pub given_answered : (r : Result (Y × Here) Fault) (result : Result X Refused) (z : Y × Here) → r ≡ Ok z
      → GivesTo (λ x. x) result Lands (coded code r) → IfErr result (λ e. e.kind ≡ NoMemory)
  given_answered r (Ok x) z is given = tt
  given_answered r (Err e) z is given = answered_or r e z (memory_or_not e.kind) is given
