-- What was looked at is taken, or where nothing was, what is read.
use Rattle.std.proofs.Common.{◌≡◌, true, false, Option, Some, None, Ok, Err, is_some, refl, sym, subst}
use Rattle.std.specs.Prelude.{IfSome}
use Rattle.granit_base.specs.Place.{Unread}
use Rattle.granit_lexemes.specs.Outcome.{Fault}
use Rattle.granit_parser.specs.Holding.{WaitsBehind}
use Rattle.granit_parser.specs.Parsing.{Next, StandsBefore}
use Rattle.granit_parser.specs.Recovering.{SeenBy}
use Rattle.granit_restart.specs.Calls.{Calls}
use Rattle.granit_sourced.specs.Giving.{StepsBy}
use Rattle.granit_sourced.specs.Going.{ReadsHeld, ReadsNext}
use Rattle.granit_sourced.specs.Sources.{IfUnseen}
use Rattle.granit_stepper.specs.Stepping.{Stepping}
use Rattle.granit_steps.specs.Steps.{StepState}

pub unseen_gives : {X : Type 0} (A : Type 0) (r : Option X) → r ≡ None → A → IfUnseen r A
unseen_gives A r none a = subst (λ w. IfUnseen w A) (sym none) a

pub seen_passes : {X : Type 0} (A : Type 0) (r : Option X) → is_some r ≡ true → IfUnseen r A
seen_passes A None none = absurd (let clash : false ≡ true = none in cc)
seen_passes A (Some x) is = tt

pub unseen_some : {X : Type 0} (Holds : X → Type 0) (r : Option X) → r ≡ None → IfSome r Holds
unseen_some Holds r none = subst (λ w. IfSome w Holds) (sym none) tt

pub seen_same : {X : Type 0} {S : Type 0} (s : S) (r : Option X) → IfSome r (λ x. (r ≡ Some x) × (s ≡ s))
seen_same s None = tt
seen_same s (Some x) = (refl, refl)

module _ {I : Type 0} (unread : I → Unread → Type 0) (s : Stepping I) where
  pub steps_seen : (r : Next) (m : StepState) → is_some r ≡ true → StandsBefore unread r s m → StepsBy unread r s s m
  steps_seen None m none at = absurd (let clash : false ≡ true = none in cc)
  steps_seen (Some x) m is at = at

  pub reads_seen : (r : Next) (c : Calls) → is_some r ≡ true → SeenBy unread r s c → ReadsNext unread r s c
  reads_seen None c none seen = absurd (let clash : false ≡ true = none in cc)
  reads_seen (Some (Ok x)) c is seen = seen
  reads_seen (Some (Err e)) c is seen = absurd seen

  pub reads_held : (r : Next) (m : StepState) (f : Fault) → is_some r ≡ true → WaitsBehind unread r s m f
      → ReadsHeld unread r s m f
  reads_held None m f none waits = absurd (let clash : false ≡ true = none in cc)
  reads_held (Some (Ok x)) m f is waits = waits
  reads_held (Some (Err e)) m f is waits = absurd waits
