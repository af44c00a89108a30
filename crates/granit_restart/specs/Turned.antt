-- The states of the machine to which turns and restarts behind faults lead, where the number of the last anchor may be
-- set between them, and whether handles stay over documents.
use Rattle.std.specs.Prelude.{◌≡◌, ℕ, Bool, List, Option, Ok}
use Rattle.granit_error.specs.OptionsData.{OptionsData}
use Rattle.granit_lexemes.specs.Here.{Here}
use Rattle.granit_lexemes.specs.PlainEvent.{PlainEvent}
use Rattle.granit_restart.specs.Restart.{behind_fault_at}
use Rattle.granit_restart.specs.Skipping.{with_pending}
use Rattle.granit_steps.specs.Steps.{StepState, start_from, step_turn}

-- the same state where so many anchors count as read
abbrev pub with_count : ℕ → StepState → StepState
with_count count s = record s { parser = record (s.parser) { count = count } }

pub data Turned : OptionsData → StepState → Type 0 where
  turned_start : {o : OptionsData} → (h : Here) → Turned o (start_from h)
  turned_on : {o : OptionsData} {s t : StepState} {given : Option (List PlainEvent)} → Turned o s
      → step_turn o s ≡ Ok (given, t) → Turned o t
  -- whatever events wait
  turned_with : {o : OptionsData} {s : StepState} → (es : List PlainEvent) → Turned o s → Turned o (with_pending es s)
  turned_anew : {o : OptionsData} {s : StepState} → (h : Here) → Turned o s → Turned o (behind_fault_at h s).1
  turned_counting : {o : OptionsData} {s : StepState} → (count : ℕ) → Turned o s → Turned o (with_count count s)
  -- up to there with handles that stay over documents, or without
  turned_keeping : {o : OptionsData} {s : StepState} → (keep : Bool) → Turned (record o { keep_tags = keep }) s
      → Turned o s
