-- A turn that is made while events wait: they are set aside, and come before what it gives.
use Rattle.std.proofs.Common.{◌≡◌, ◌<◌, ◌-◌, ◌^◌, Bool, List, [], ◌++◌, Option, None, Ok, refl, sym}
use Rattle.std.proofs.Common.{ap}
use Rattle.std.proofs.Common.{subst, ◌∙◌, ◌⊎◌, inl, inr}
use Rattle.granit_base.specs.Place.{Mark, Unread}
use Rattle.granit_error.specs.OptionsData.{OptionsData}
use Rattle.granit_error.specs.Refused.{Refused}
use Rattle.granit_lexemes.specs.Outcome.{Fails}
use Rattle.granit_lexemes.specs.PlainEvent.{PlainEvent}
use Rattle.granit_machine.specs.Frames.{ParserState}
use Rattle.granit_restart.specs.Looking.{behind_waiting, turn_ahead}
use Rattle.granit_restart.specs.Skipping.{with_pending}
use Rattle.granit_stepper.proofs.StateLemmas.{waiting}
use Rattle.granit_stepper.specs.Numbers.{GivesOr, RefusesNumber}
use Rattle.granit_stepper.specs.Stepping.{StandsIn, Stepping, first_events, turn_view}
use Rattle.granit_steps.specs.Steps.{StepState, step_turn}

module _ {I : Type 0} (unread : I → Unread → Type 0) where
  pub set_aside : (s : Stepping I) (m : StepState) (p : ParserState) → StandsIn unread s m → s.first ≡ None
      → p ≡ record (s.parser) { given = [] } → StandsIn unread (record s { parser = p }) (with_pending [] m)
  set_aside s m p at told is = record {
    going = at.going;
    reading = at.reading;
    parser = at.parser ∙ sym (ap (λ (q : ParserState). record q { given = [] }) is);
    pending = sym (ap (λ (x : Option Mark). first_events x ++ p.given) told ∙ ap (λ (q : ParserState). q.given) is);
    numbers = subst (λ (q : ParserState). q.count < 2 ^ 64 - 1) (sym is) at.numbers;
    none_ahead = at.none_ahead;
  }

  pub put_back : (s : Stepping I) (t : StepState) (es : List PlainEvent) (p : ParserState) → StandsIn unread s t
      → s.first ≡ None → p ≡ record (s.parser) { given = es ++ s.parser.given }
      → StandsIn unread (record s { parser = p }) (with_pending (es ++ t.pending) t)
  put_back s t es p at told is = record {
    going = at.going;
    reading = at.reading;
    parser = at.parser ∙ sym (ap (λ (q : ParserState). record q { given = [] }) is);
    pending = ap (λ (xs : List PlainEvent). es ++ xs) (waiting unread s t at told)
        ∙ sym (ap (λ (x : Option Mark). first_events x ++ p.given) told ∙ ap (λ (q : ParserState). q.given) is);
    numbers = subst (λ (q : ParserState). q.count < 2 ^ 64 - 1) (sym is) at.numbers;
    none_ahead = at.none_ahead;
  }

module _ {I : Type 0} (unread : I → Unread → Type 0) (o : OptionsData) (m : StepState) (s new : Stepping I) where
  -- a turn is made, or none is left
  pub turns_behind : (b : Bool) (es : List PlainEvent) → es ≡ m.pending → s.first ≡ None
      → new ≡ record s { parser = record (s.parser) { given = es ++ s.parser.given } }
      → GivesOr turn_view (Ok b) (StandsIn unread s) (step_turn o (with_pending [] m))
      (RefusesNumber s.renumbered o (with_pending [] m))
      → GivesOr turn_view (Ok b) (StandsIn unread new) (turn_ahead o m)
      (RefusesNumber new.renumbered o (with_pending [] m))
  turns_behind b es waits told is given =
      let t = given.0 in (
        with_pending (m.pending ++ t.pending) t,
        subst (λ (r : Stepping I). StandsIn unread r (with_pending (m.pending ++ t.pending) t)) (sym is)
            (subst (λ (xs : List PlainEvent). StandsIn unread
            (record s { parser = record (s.parser) { given = es ++ s.parser.given } })
            (with_pending (xs ++ t.pending) t))
            waits (put_back unread s t es (record (s.parser) { given = es ++ s.parser.given }) given.1 told refl)),
        ap (behind_waiting m.pending) given.2,
      )

  -- or it fails
  pub turn_behind_fails : (e : Refused) → new.renumbered ≡ s.renumbered
      → Fails e (step_turn o (with_pending [] m)) ⊎ RefusesNumber s.renumbered o (with_pending [] m) e
      → Fails e (turn_ahead o m) ⊎ RefusesNumber new.renumbered o (with_pending [] m) e
  turn_behind_fails e same (inl fails) = inl (λ other. ap (behind_waiting m.pending) (fails other))
  turn_behind_fails e same (inr left) =
      inr (subst (λ (b : Bool). RefusesNumber b o (with_pending [] m) e) (sym same) left)
