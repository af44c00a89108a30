-- What calls give one by one between recoveries, and how a stream goes on behind one.
use Rattle.std.specs.Prelude.{◌≡◌, ℕ, Bool, false, List, [], ◌∷◌, ◌++◌, Some, None, Ok}
use Rattle.granit_error.specs.OptionsData.{OptionsData}
use Rattle.granit_lexemes.specs.Here.{Here}
use Rattle.granit_lexemes.specs.PlainEvent.{PlainEvent}
use Rattle.granit_restart.specs.Calls.{Calls, next_call}
use Rattle.granit_restart.specs.Looking.{turn_ahead}
use Rattle.granit_restart.specs.Recovery.{recover}
use Rattle.granit_restart.specs.Skipping.{Stops}
use Rattle.granit_restart.specs.Turned.{with_count}
use Rattle.granit_steps.specs.Levels.{InStream, behind_events}
use Rattle.granit_steps.specs.Steps.{StepState, start_from}

-- events that may come in a stream behind its start, and behind which the rest of a balanced one may
pub record GoesOnBalanced (es : List PlainEvent) : Type 0 where
  pub more : List PlainEvent
  pub balanced : behind_events (es ++ more) (InStream ∷ []) ≡ Some []

-- calls give these events one by one, and then the parser stands there
pub data CallsGive (o : OptionsData) : Calls → List PlainEvent → Calls → Type 0 where
  gives_none : {c : Calls} → CallsGive o c [] c
  gives_next : {c d after : Calls} {e : PlainEvent} {es : List PlainEvent} → next_call o c ≡ (Some (Ok e), after)
      → CallsGive o after es d → CallsGive o c (e ∷ es) d

-- before all calls, where a text begins
abbrev pub calls_from : Here → Calls
calls_from h = record { steps = start_from h; between = false; over = false; fault = None; refusal = None }

-- turns that are made while events wait lead there; what they give comes behind those
pub data EarlyOf (o : OptionsData) (s : StepState) : StepState → Type 0 where
  not_early : EarlyOf o s s
  turn_early : {t u : StepState} {given : List PlainEvent} → EarlyOf o s t → turn_ahead o t ≡ Ok (Some given, u)
      → EarlyOf o s u

-- Calls and recoveries lead there from the start of a text, wherever reads that were refused stopped. Between them
-- turns may be made early, and the number of the last anchor be set.
pub data ReachedByCalls : OptionsData → Calls → Type 0 where
  reached_start : {o : OptionsData} → (h : Here) → ReachedByCalls o (calls_from h)
  reached_call : {o : OptionsData} {c : Calls} → ReachedByCalls o c → ReachedByCalls o (next_call o c).1
  reached_recovery : {o : OptionsData} {c : Calls} → (stops : Stops) (looked : Bool) → ReachedByCalls o c
      → ReachedByCalls o (recover o stops looked c).1
  reached_early : {o : OptionsData} {c : Calls} {t : StepState} → ReachedByCalls o c → EarlyOf o c.steps t
      → ReachedByCalls o (record c { steps = t })
  reached_counting : {o : OptionsData} {c : Calls} → (count : ℕ) → ReachedByCalls o c
      → ReachedByCalls o (record c { steps = with_count count c.steps })
  -- up to there with handles that stay over documents, or without
  reached_keeping : {o : OptionsData} {c : Calls} → (keep : Bool) → ReachedByCalls (record o { keep_tags = keep }) c
      → ReachedByCalls o c
