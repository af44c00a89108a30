-- Where a stepper goes on behind a refusal, and what it drops there, is what the machine does.
use Rattle.std.proofs.Common.{◌≡◌, Bool, true, false, ◌&&◌, sym, ap, subst}
use Rattle.std.proofs.Common.{◌∙◌, inl, inr}
use Rattle.std.specs.Prelude.{if◌then◌else◌}
use Rattle.granit_base.specs.Place.{Unread}
use Rattle.granit_cursor.specs.Reading.{Reading}
use Rattle.granit_error.specs.OptionsData.{OptionsData}
use Rattle.granit_error.specs.Refused.{Refused}
use Rattle.granit_lexemes.specs.Here.{Here}
use Rattle.granit_lexemes.specs.Onward.{there}
use Rattle.granit_restart.specs.Header.{is_in_header}
use Rattle.granit_restart.specs.Restart.{behind_fault, cursor_at}
use Rattle.granit_restart.specs.Skipping.{Ended, Failed, SkipEnd, restarted, skip_by_turns}
use Rattle.granit_restart.specs.Turned.{Turned, turned_anew}
use Rattle.granit_stepper.specs.Numbers.{RefusesNumber}
use Rattle.granit_stepper.specs.Recovering.{RestartsIn, Skips, SkipsDocument, SkipsFault, SkipsHeader, StopsBehind}
use Rattle.granit_stepper.specs.Refusals.{StandsAhead}
use Rattle.granit_stepper.specs.Stepping.{Stepping}
use Rattle.granit_steps.specs.Steps.{StepState}

pub restarts_turned : (o : OptionsData) (stop : Here) (m : StepState) → Turned o m → Turned o (behind_fault stop m).1
restarts_turned o stop m turned = turned_anew (cursor_at stop m.reading) turned

-- ---- a document behind directives

-- where nothing stopped
pub no_stop : SkipEnd → Here
no_stop (Ended n) = n.reading.reader.here
no_stop (Failed f n) = n.reading.reader.here

pub stops_nowhere : (r : SkipEnd) → StopsBehind r (no_stop r)
unfolding no_stop
stops_nowhere (Ended n) = tt
stops_nowhere (Failed f n) = there

module _ {I : Type 0} (unread : I → Unread → Type 0) (o : OptionsData) (s : Stepping I) (m : StepState) where
  pub header_passed : Skips unread o true s m → SkipsHeader unread o s m
  header_passed given = inl (
    no_stop (skip_by_turns o m),
    stops_nowhere (skip_by_turns o m),
    subst (StandsAhead unread s) (sym (ap (restarted (no_stop (skip_by_turns o m))) given.1)) given.2,
  )

  pub header_failed : (mid : Stepping I) → s.renumbered ≡ mid.renumbered → (given : Skips unread o false mid m)
      → (cursor : Reading I) (starts : Bool) → RestartsIn unread cursor starts s given.0 → SkipsHeader unread o s m
  header_failed mid renumbered given cursor starts goes = elim given.3 [
    | inl failed ↦ inl (
      goes.0,
      subst (λ (r : SkipEnd). StopsBehind r goes.0) (sym failed) goes.1.0,
      subst (StandsAhead unread s) (sym (ap (restarted goes.0) failed)) (inl goes.3),
    )
    | inr left ↦ inr (
      given.0,
      given.1,
      given.2,
      subst (λ (b : Bool). RefusesNumber b o given.0 given.1) (sym renumbered) left,
      (cursor, starts, goes),
    )
  ]

  pub document_failed : (mid : Stepping I) → s.renumbered ≡ mid.renumbered → (given : Skips unread o false mid m)
      → (cursor : Reading I) → SkipsFault unread o cursor given.1 s given.0 → SkipsDocument unread o s m
  document_failed mid renumbered given cursor fault = inr (
    given.0,
    given.1,
    given.2,
    elim given.3 [
      | inl failed ↦ inl failed
      | inr left ↦ inr (subst (λ (b : Bool). RefusesNumber b o given.0 given.1) (sym renumbered) left)
    ],
    (cursor, fault),
  )

-- ---- a refusal

module _ {I : Type 0} (unread : I → Unread → Type 0) (o : OptionsData) (s : Stepping I) (m : StepState) (e : Refused)
    (cursor : Reading I) (in_header starts : Bool) (header : in_header ≡ is_in_header o m e) where
  no_header : (stop : Here) → starts ≡ (behind_fault stop m).0 → (in_header && starts) ≡ false
      → (is_in_header o m e && (behind_fault stop m).0) ≡ false
  no_header stop is other =
      ap (λ (b : Bool). b && (behind_fault stop m).0) (sym header) ∙ ap (λ (b : Bool). in_header && b) (sym is) ∙ other

  -- no document is dropped behind it
  pub fault_alone : RestartsIn unread cursor starts s m → (in_header && starts) ≡ false
      → SkipsFault unread o cursor e s m
  fault_alone goes other =
      let x = behind_fault goes.0 m in
      let second = no_stop (skip_by_turns o x.1) in
      inl (
        record { first = goes.0; second = second },
        goes.1,
        stops_nowhere (skip_by_turns o x.1),
        subst (StandsAhead unread s) (sym (ap (λ (b : Bool). if b then restarted second (skip_by_turns o x.1) else x.1)
            (no_header goes.0 goes.2 other))) (inl goes.3),
      )

  -- its document is
  pub fault_in_header : (mid : Stepping I) (goes : RestartsIn unread cursor starts mid m)
      → (in_header && starts) ≡ true → SkipsHeader unread o s (behind_fault goes.0 m).1
      → SkipsFault unread o cursor e s m
  fault_in_header mid goes is (inl given) =
      let x = behind_fault goes.0 m in
      let here : (is_in_header o m e && x.0) ≡ true =
      ap (λ (b : Bool). b && x.0) (sym header) ∙ ap (λ (b : Bool). in_header && b) (sym goes.2) ∙ is in
      inl (
        record { first = goes.0; second = given.0 },
        goes.1,
        given.1,
        subst (StandsAhead unread s)
            (sym (ap (λ (b : Bool). if b then restarted given.0 (skip_by_turns o x.1) else x.1) here)) given.2,
      )
  fault_in_header mid goes is (inr left) = inr (goes.0, goes.1, left.0, left.1, left.2, left.3, left.4)
