-- Calls and recoveries lead from a state to which turns and restarts led to another.
use Rattle.std.proofs.Common.{◌≡◌, Bool, true, false, List, Option, Some, None}
use Rattle.std.proofs.Common.{Result, Ok}
use Rattle.std.proofs.Common.{Err, refl, ap, ◌∙◌, ◌+◌}
use Rattle.std.specs.Prelude.{if◌then◌else◌}
use Rattle.granit_error.specs.OptionsData.{OptionsData}
use Rattle.granit_lexemes.specs.Here.{Here}
use Rattle.granit_lexemes.specs.Outcome.{Fault}
use Rattle.granit_lexemes.specs.PlainEvent.{PlainEvent}
use Rattle.granit_restart.specs.Calls.{Calls, next_call}
use Rattle.granit_restart.specs.Recovery.{recover, recover_with, recovered, recovery_answer, skipped, skipped_by}
use Rattle.granit_restart.specs.Following.{document_follows}
use Rattle.granit_restart.specs.Header.{is_in_header}
use Rattle.granit_restart.specs.Restart.{behind_fault}
use Rattle.granit_restart.specs.Skipping.{SkipEnd, Ended, Failed, Stops}
use Rattle.granit_restart.specs.Skipping.{skip_by_turns, skip_header, with_pending}
use Rattle.granit_restart.specs.Skipping.{skipped_fault}
use Rattle.granit_steps.specs.Steps.{StepState, step_turn}
use Rattle.granit_led.proofs.KeptLaws.{next_kept, recover_kept, skip_kept, SkipKept}
use Rattle.granit_led.specs.Led.{Led, led_on, led_with, led_anew}
use Rattle.granit_led.specs.Stopping.{DropFits, EndFits, looked_at, StopsFit}

module _ (o : OptionsData) where
  -- wherever a refused read stopped
  abbrev Anywhere : Here → StepState → Type 0
  Anywhere stop s = Unit {0}

  any_end : (stop : Here) (e : SkipEnd) → EndFits Anywhere stop e
  any_end stop (Ended s) = tt
  any_end stop (Failed f s) = tt

  any_drop : (stops : Stops) (e : SkipEnd) → DropFits Anywhere o stops e
  any_drop stops (Ended s) = tt
  any_drop stops (Failed f s) = (tt, any_end stops.second (skip_by_turns o (behind_fault stops.first s).1))

  any_stops : (stops : Stops) (f : Option Fault) (s : StepState) → StopsFit Anywhere o stops f s
  any_stops stops (Some f) s = (tt, any_end stops.second (skip_by_turns o (behind_fault stops.first s).1))
  any_stops stops None s = any_drop stops (skip_by_turns o s)

  turn : (s t : StepState) (given : Option (List PlainEvent)) → step_turn o s ≡ Ok (given, t) → Led o s → Led o t
  turn s t given e led = led_on led e

  others_led : (s : StepState) (es : List PlainEvent) → Led o s → Led o (with_pending es s)
  others_led s es led = led_with s.parser es led refl

  pub next_led : (c : Calls) → Led o c.steps → Led o (next_call o c).1.steps
  next_led c led =
      next_kept o (Led o) Anywhere turn others_led (λ stop s fits l. led_anew stop l) c led

  abbrev pub SkipLed : SkipEnd → Type 0
  SkipLed (Ended s) = Led o s
  SkipLed (Failed f s) = Led o s

  pub skip_led : (s : StepState) → Led o s → SkipLed (skip_by_turns o s)
  skip_led s led =
      same (skip_by_turns o s)
      (skip_kept o (Led o) Anywhere turn others_led (λ stop s fits l. led_anew stop l) s led)
    where
      same : (e : SkipEnd)
          → SkipKept o (Led o) Anywhere turn others_led (λ stop s fits l. led_anew stop l) e
          → SkipLed e
      same (Ended s) x = x
      same (Failed f s) x = x

  pub recover_led : (stops : Stops) (looked : Bool) (c : Calls) → Led o c.steps
      → Led o (recover o stops looked c).1.steps
  recover_led stops looked c led =
      let d = looked_at o looked c in
      recover_kept o (Led o) Anywhere turn others_led (λ stop s fits l. led_anew stop l) stops
      looked c (λ going. any_stops stops d.fault d.steps) led

  -- ---- where recovery goes on

  answered_steps : (r : Result Bool Fault) (c : Calls) → (recovery_answer r c).1.steps ≡ c.steps
  answered_steps (Ok true) c = refl
  answered_steps (Ok false) c = refl
  answered_steps (Err f) c = refl

  pub recover_steps : (stops : Stops) (c : Calls) (f : Fault) → c.refusal ≡ None → c.over ≡ false → c.fault ≡ Some f
      → (recover o stops false c).1.steps ≡ skipped_fault o stops f c.steps
  unfolding recover
  recover_steps stops c f none over fault =
      ap (λ (r : Option Fault). (recover_with o stops false r c).1.steps) none
      ∙ ap (λ (b : Bool). (if◌then◌else◌ {A = Result Bool Fault × Calls} b (Ok false, c)
      (recovered o 0 (skipped o stops c))).1.steps) over
      ∙ answered_steps (document_follows o (o.max_buffered_comment_events + 0) (skipped o stops c).steps)
      (skipped o stops c)
      ∙ ap (λ (x : Option Fault). skipped_by o stops x c.between c.steps) fault

  pub no_header : (stops : Stops) (f : Fault) (s : StepState) → is_in_header o s f ≡ false
      → skipped_fault o stops f s ≡ (behind_fault stops.first s).1
  no_header stops f s e = ap (λ (b : Bool). skip_header o stops.second b (behind_fault stops.first s)) e
