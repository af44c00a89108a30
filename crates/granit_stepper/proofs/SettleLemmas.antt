-- Turns until an event waits, or nothing is left.
use Rattle.std.proofs.Common.{◌≡◌, Bool, true, false, [], Some, None, Result, Ok, Err, refl, sym, subst}
use Rattle.std.proofs.Common.{◌∙◌, ◌⊎◌, inl, inr}
use Rattle.granit_base.specs.Place.{Unread}
use Rattle.granit_error.specs.OptionsData.{OptionsData}
use Rattle.granit_error.specs.Refused.{Refused}
use Rattle.granit_lexemes.specs.Outcome.{Fails}
use Rattle.granit_lexemes.proofs.PieceLemmas.{pieces_done, pieces_fails, pieces_more, with_front-nil}
use Rattle.granit_stepper.proofs.NumberLemmas.{left_behind, turns_more}
use Rattle.granit_stepper.specs.Numbers.{GivesOr, RefusesNumber, TurnsTo, no_turn}
use Rattle.granit_stepper.specs.Stepping.{Stepping, StandsIn, Keeps, turn_view, no_events}
use Rattle.granit_steps.specs.Steps.{StepState, settle, step_size, step_turn}
use Rattle.granit_steps.proofs.StepLaws.{step_turn-Shortens}

pub settle_on : (o : OptionsData) (m after : StepState) → step_turn o m ≡ Ok (Some [], after)
    → settle o after ≡ settle o m
settle_on o m after is =
    sym (pieces_more step_size (step_turn o) (step_turn-Shortens o) m after [] is ∙ with_front-nil (settle o after))

-- as far as turns went, the machine settles as it does where they began
abbrev pub SettlesAlike : {I : Type 0} → (I → Unread → Type 0) → (initial now : Stepping I) → Type 0
SettlesAlike unread initial now =
    (m : StepState) → StandsIn unread initial m → initial.first ≡ None
    → (n : StepState) × StandsIn unread now n × (settle initial.scanner.options n ≡ settle initial.scanner.options m)
    × TurnsTo initial.scanner.options m n

-- what a turn gives
abbrev pub Turned : {I : Type 0} → (I → Unread → Type 0) → Stepping I → Result Bool Refused → Stepping I → Type 0
Turned unread now r after =
    (m : StepState) → StandsIn unread now m → now.first ≡ None
    → GivesOr turn_view r (StandsIn unread after) (step_turn now.scanner.options m)
    (RefusesNumber after.renumbered now.scanner.options m)

pub alike_first : {I : Type 0} (unread : I → Unread → Type 0) (s : Stepping I) → SettlesAlike unread s s
alike_first unread s = λ m at none. (m, at, refl, no_turn)

pub keeps_itself : {I : Type 0} (s : Stepping I) → Keeps s s
keeps_itself s = record { first = refl; failed = refl; renumbered = refl; options = refl }

pub keeps_both : {I : Type 0} (a b c : Stepping I) → Keeps a b → Keeps b c → Keeps a c
keeps_both a b c x y = record {
  first = y.first ∙ x.first;
  failed = y.failed ∙ x.failed;
  renumbered = y.renumbered ∙ x.renumbered;
  options = y.options ∙ x.options;
}

module _ {I : Type 0} (unread : I → Unread → Type 0) (initial now after : Stepping I) (keeps : Keeps initial now)
    (alike : SettlesAlike unread initial now) where
  -- a turn was made
  pub alike_more : Turned unread now (Ok true) after → SettlesAlike unread initial after
  alike_more turned = λ m at none.
      let o = initial.scanner.options in
      let n = alike m at none in
      let t = turned n.0 n.1 (keeps.first ∙ none) in
      let is : step_turn o n.0 ≡ Ok (Some [], t.0) = subst
      (λ (p : OptionsData). step_turn p n.0 ≡ Ok (Some [], t.0)) keeps.options t.2 in
      (t.0, t.1, settle_on o n.0 t.0 is ∙ n.2, turns_more n.3 is)

  -- none is left to make
  pub alike_done : {U : Type 0} (u : U) → Turned unread now (Ok false) after → (m : StepState)
      → StandsIn unread initial m
      → initial.first ≡ None → GivesOr no_events (Ok u) (StandsIn unread after) (settle initial.scanner.options m)
      (RefusesNumber after.renumbered initial.scanner.options m)
  alike_done u turned = λ m at none.
      let o = initial.scanner.options in
      let n = alike m at none in
      let t = turned n.0 n.1 (keeps.first ∙ none) in
      let is : step_turn o n.0 ≡ Ok (None, t.0) = subst
      (λ (p : OptionsData). step_turn p n.0 ≡ Ok (None, t.0)) keeps.options t.2 in
      (t.0, t.1, sym n.2 ∙ pieces_done step_size (step_turn o) n.0 t.0 is)

  -- one fails
  pub alike_fails : (e : Refused) → Turned unread now (Err e) after → (m : StepState) → StandsIn unread initial m
      → initial.first ≡ None
      → Fails e (settle initial.scanner.options m) ⊎ RefusesNumber after.renumbered initial.scanner.options m e
  alike_fails e turned = λ m at none.
      let o = initial.scanner.options in
      let n = alike m at none in
      let t : Fails e (step_turn o n.0) ⊎ RefusesNumber after.renumbered o n.0 e =
      subst (λ (p : OptionsData). Fails e (step_turn p n.0) ⊎ RefusesNumber after.renumbered p n.0 e) keeps.options
      (turned n.0 n.1 (keeps.first ∙ none)) in
      elim t [
        | inl fails ↦ inl (λ other. sym n.2 ∙ pieces_fails step_size (step_turn o) n.0 e (fails other))
        | inr left ↦ inr (left.0, left_behind n.3 left.1)
      ]
