-- All events that a parser gathers, as a load tells them.
use Rattle.std.proofs.Common.{◌≡◌, Bool, true, false, List, None, Some, Err, sym, ◌∙◌, ◌⊎◌, inl, inr, true≢false}
use Rattle.granit_base.specs.Place.{Place}
use Rattle.granit_error.specs.OptionsData.{OptionsData}
use Rattle.granit_error.specs.Refused.{Refused}
use Rattle.granit_input.specs.Origin.{Origin}
use Rattle.granit_lexemes.specs.PlainEvent.{PlainEvent}
use Rattle.granit_load.specs.Answering.{GivesAllOr}
use Rattle.granit_parser.specs.Parsing.{LeavesNumbers, LeadsTo, Parsing}
use Rattle.granit_parser.specs.Gathering.{LeadsOut, RefusesLate, IsSourceError}
use Rattle.granit_parser.specs.Receiving.{RefusalIn}
use Rattle.granit_parser.proofs.TextLemmas.{given_behind}
use Rattle.granit_steps.specs.Steps.{StepState}
use Rattle.granit_steps.specs.Told.{GivesEvents, gives_end, gives_fault}

module _ (o : OptionsData) (m : StepState) where
  -- nothing comes behind them
  pub given_out : (es : List PlainEvent) → LeadsOut o m es → GivesEvents o m es None
  given_out es (n, leads, few, over) = given_behind o m n es None leads (gives_end over.1)

  pub numbers_left : (es : List PlainEvent) → LeadsOut o m es → LeavesNumbers o m es
  numbers_left es (n, leads, few, over) = (n, leads, few)

  -- or a refusal does
  module _ {I V : Type 0} (origin : I → Origin) (view : V → List PlainEvent) (p : Parsing I) (e : Refused) where
    refused_behind : (es : List PlainEvent) (n : StepState) → LeadsTo o m es n → RefusalIn origin o n p e
        → GivesAllOr {V = V} origin view o m (Err e) p.stepper
    refused_behind es n leads (inl (inl fails)) =
        inl (inl (λ other. (es, given_behind o m n es (Some e) leads (gives_fault (fails other)))))
    refused_behind es n leads (inl (inr left)) = inr (left.0, (es, n, leads, left.1))
    refused_behind es n leads (inr told) = inl (inr told)

    pub refused_late : RefusesLate origin o m p e → GivesAllOr {V = V} origin view o m (Err e) p.stepper
    refused_late late = refused_behind late.0 late.1 late.2 late.3

-- what no error of a source stands in the way of
pub never_failed : {A : Type 0} (o : Origin) (at : Place) (e : Refused) → o.error ≡ None → A ⊎ IsSourceError o at e → A
never_failed o at e none (inl a) = a
never_failed o at e none (inr failed) = absurd (let is : None ≡ Some e.kind = sym none ∙ failed.kind in cc)

-- what is no matter where no number was ever set
pub never_numbered : {A B : Type 0} (renumbered : Bool) → renumbered ≡ false → A ⊎ ((renumbered ≡ true) × B) → A
never_numbered renumbered never (inl a) = a
never_numbered renumbered never (inr left) = absurd (true≢false (sym left.0 ∙ never))
