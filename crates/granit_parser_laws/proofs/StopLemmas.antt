-- Places at which refused reads stopped, as calls tell them, are what the laws on recovery ask for.
use Rattle.std.proofs.Common.{◌≡◌, ◌⊎◌, inl, inr, Bool, true, false, ◌||◌, is_some, Option, Some, None, Ok, Err}
use Rattle.std.proofs.Common.{refl, sym, ap, subst, ◌∙◌}
use Rattle.std.specs.Prelude.{if◌then◌else◌}
use Rattle.granit_parser.specs.Recovering.{ComesOnward}
use Rattle.granit_base.specs.Place.{Unread}
use Rattle.granit_parser.proofs.InLemmas.{looked_fit}
use Rattle.granit_cursor.specs.Reading.{Reading}
use Rattle.granit_error.specs.OptionsData.{OptionsData}
use Rattle.granit_event.specs.Events.{plain_event}
use Rattle.granit_lexemes.specs.Here.{Here}
use Rattle.granit_lexemes.specs.Outcome.{Fault}
use Rattle.granit_lexemes.specs.PlainEvent.{PlainEvent}
use Rattle.granit_parser.specs.Parsing.{Next, Parsing}
use Rattle.granit_parser.specs.Recovering.{AnswersBy, IsClosed, IsOpen, ParserIn, SeenBy, SeenOrFails, StopsBy}
use Rattle.granit_parser.specs.Recovering.{StopsDropping, StopsIn}
use Rattle.granit_restart.specs.Calls.{Calls, given_by, GivenByCall, next_call, noted}
use Rattle.granit_restart.specs.Recovery.{looked_by}
use Rattle.granit_restart.specs.Restart.{behind_fault}
use Rattle.granit_restart.specs.Skipping.{Ended, Failed, skip_by_turns, SkipEnd, Stops}
use Rattle.granit_led.specs.Stopping.{DropFits, EndFits, FitBehind, looked_at, StopsFit}
use Rattle.granit_parser.proofs.InLemmas.{call_going}
use Rattle.granit_parser.specs.Recovering.{StopsBehind}
use Rattle.granit_parser.specs.Parsing.{Stepping}
use Rattle.granit_steps.specs.Steps.{next_event, StepState}

-- ---- open or closed

pub open_or_closed : (c : Calls) → IsOpen c ⊎ IsClosed c
open_or_closed c = by c.over c.fault c.refusal refl refl refl
  where
    by : (over : Bool) (fault refusal : Option Fault) → c.over ≡ over → c.fault ≡ fault → c.refusal ≡ refusal
        → IsOpen c ⊎ IsClosed c
    by true fault refusal a b d = inr (ap (λ (v : Bool). (v || is_some c.fault) || is_some c.refusal) a)
    by false (Some f) refusal a b d =
        inr (ap (λ (v : Bool). (v || is_some c.fault) || is_some c.refusal) a
        ∙ ap (λ (g : Option Fault). is_some g || is_some c.refusal) b)
    by false None (Some f) a b d =
        inr (ap (λ (v : Bool). (v || is_some c.fault) || is_some c.refusal) a
        ∙ ap (λ (g : Option Fault). is_some g || is_some c.refusal) b ∙ ap (λ (g : Option Fault). is_some g) d)
    by false None None a b d = inl (record { over = a; fault = b; refusal = d })

some_closed : (a c : Bool) → ((a || true) || c) ≡ true
some_closed true c = refl
some_closed false c = refl

-- behind a fault
pub fault_closed : (c : Calls) (f : Fault) → c.fault ≡ Some f → IsClosed c
fault_closed c f e =
    ap (λ (g : Option Fault). (c.over || is_some g) || is_some c.refusal) e ∙ some_closed c.over (is_some c.refusal)

none_given : (o : OptionsData) (c : Calls) → IsClosed c → next_call o c ≡ (None, c)
unfolding next_call
none_given o c closed = ap (λ (b : Bool). if b then (None, c) else given_by o c (next_event o c.steps)) closed

pub open_seen : {I : Type 0} (unread : I → Unread → Type 0) (p : Parsing I) (c : Calls) → IsOpen c → ParserIn unread p c
    → SeenBy unread p.peeked p.stepper c
open_seen unread p c is at =
    subst (λ (f : Option Fault). SeenOrFails unread f p.peeked p.stepper c) is.fault
    (subst (λ (f : Option Fault). AnswersBy unread f p c) is.refusal (at.stays is.over))

module _ (o : OptionsData) (stops : Stops) where
  -- ---- as calls tell them

  end_fits : (stop : Here) (x : SkipEnd) → StopsBehind x stop → EndFits ComesOnward stop x
  end_fits stop (Ended n) p = tt
  end_fits stop (Failed f n) p = p

  drop_fits : (x : SkipEnd) → StopsDropping o stops x → DropFits ComesOnward o stops x
  drop_fits (Ended n) p = tt
  drop_fits (Failed f n) p =
      (p.0, end_fits stops.second (skip_by_turns o (behind_fault stops.first n).1) p.1)

  fits_by : {I : Type 0} (unread : I → Unread → Type 0) (cursor : Reading I) (fault : Option Fault) (m : StepState)
      → StopsBy unread cursor o stops fault m → StopsFit ComesOnward o stops fault m
  fits_by unread cursor None m p = drop_fits (skip_by_turns o m) p
  fits_by unread cursor (Some f) m p =
      (p.0.0, end_fits stops.second (skip_by_turns o (behind_fault stops.first m).1) p.1)

  pub fit_there : {I : Type 0} (unread : I → Unread → Type 0) (cursor : Reading I) (c : Calls)
      → StopsIn unread cursor o stops c → c.refusal ≡ None → FitBehind ComesOnward o stops c
  fit_there unread cursor c p refusal = λ over. fits_by unread cursor c.fault c.steps (p over refusal)

  -- ---- where an event was looked at, or nothing

  abbrev pub FitLooked : (looked : Bool) → Calls → Type 0
  FitLooked looked c = FitBehind ComesOnward o stops c → FitBehind ComesOnward o stops (looked_at o looked c)

  pub closed_fit : (looked : Bool) (c : Calls) → IsClosed c → FitLooked looked c
  closed_fit false c closed fits = fits
  closed_fit true c closed fits =
      subst (λ (x : GivenByCall × Calls). FitBehind ComesOnward o stops (looked_by c x)) (sym (none_given o c closed))
      fits

  pub event_fit : (c : Calls) (e : PlainEvent) (t : StepState) → IsOpen c → next_event o c.steps ≡ Ok (Some e, t)
      → FitLooked true c
  event_fit c e t is next fits =
      looked_fit o stops c (noted e.kind (record c { steps = t })) e
      (call_going o c is.over is.fault is.refusal ∙ ap (given_by o c) next) fits

  seen_fit : {I : Type 0} (unread : I → Unread → Type 0) (r : Next) (s : Stepping I) (c : Calls)
      → s.scanner.options ≡ o → IsOpen c → SeenBy unread r s c → FitLooked (is_some r) c
  seen_fit unread None s c same is seen fits = fits
  seen_fit unread (Some (Ok x)) s c same is seen fits =
      event_fit c (plain_event x) seen.steps is
      (subst (λ (q : OptionsData). next_event q c.steps ≡ Ok (Some (plain_event x), seen.steps)) same seen.next) fits
  seen_fit unread (Some (Err e)) s c same is seen fits = absurd seen

  -- where a parser is where calls led
  pub parser_fit : {I : Type 0} (unread : I → Unread → Type 0) (p : Parsing I) (c : Calls)
      → p.stepper.scanner.options ≡ o → ParserIn unread p c → FitLooked (is_some p.peeked) c
  parser_fit unread p c same at = by (open_or_closed c)
    where
      by : IsOpen c ⊎ IsClosed c → FitLooked (is_some p.peeked) c
      by (inl is) = seen_fit unread p.peeked p.stepper c same is (open_seen unread p c is at)
      by (inr closed) = closed_fit (is_some p.peeked) c closed
