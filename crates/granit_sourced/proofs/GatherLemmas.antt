-- What is gathered where a source was asked behind it.
use Rattle.std.proofs.Common.{◌≡◌, Bool, true, false, ◌||◌, [], ◌++◌, Result, Ok, Err, refl, sym, subst, inl, inr}
use Rattle.std.specs.Prelude.{IfErr}
use Rattle.granit_base.specs.Place.{Unread}
use Rattle.granit_error.specs.OptionsData.{OptionsData}
use Rattle.granit_error.specs.Refused.{Refused}
use Rattle.granit_restart.specs.Skipping.{with_pending}
use Rattle.granit_stepper.specs.Gathering.{GathersBehind}
use Rattle.granit_stepper.specs.Numbers.{RefusesNumber}
use Rattle.granit_stepper.specs.Stepping.{Stepping, StandsIn}
use Rattle.granit_steps.specs.Steps.{StepState}

pub waiting_on : {I : Type 0} (unread : I → Unread → Type 0) (r : Result Bool Refused) (mid new : Stepping I) (b : Bool)
    (o : OptionsData) (m : StepState) → new.renumbered ≡ b
    → ((n : StepState) → StandsIn unread mid n → StandsIn unread new n)
    → GathersBehind r (StandsIn unread mid) o m (RefusesNumber b o (with_pending [] m))
    → GathersBehind r (StandsIn unread new) o m (RefusesNumber new.renumbered o (with_pending [] m))
waiting_on unread (Ok some) mid new b o m same on gives =
    (gives.0, gives.1, on (with_pending (m.pending ++ gives.0.pending) gives.0) gives.2, gives.3)
waiting_on unread (Err e) mid new b o m same on (inl fails) = inl fails
waiting_on unread (Err e) mid new b o m same on (inr left) =
    inr (subst (λ (c : Bool). RefusesNumber c o (with_pending [] m) e) (sym same) left)

pub fails_on : {I E : Type 0} (r : Result Bool E) (mid new : Stepping I) → new.failed ≡ (mid.failed || false)
    → IfErr r (λ e. mid.failed ≡ true) → IfErr r (λ e. new.failed ≡ true)
fails_on (Ok some) mid new same failed = tt
fails_on (Err e) mid new same failed = rw (same, failed) refl
