-- What is dropped: a document, or what is left of the open one.
use Rattle.std.specs.Prelude.{ℕ, zero, suc, Bool, true, false, ◌&&◌, if◌then◌else◌, List, [], ◌∷◌, Some, None, Ok, Err}
use Rattle.granit_error.specs.OptionsData.{OptionsData}
use Rattle.granit_lexemes.specs.Here.{Here}
use Rattle.granit_lexemes.specs.Outcome.{Fault}
use Rattle.granit_lexemes.specs.PlainEvent.{PlainEvent, EventKind, StreamEnd, DocumentEnd}
use Rattle.granit_machine.specs.Frames.{DocumentStage, Inside, BehindRoot}
use Rattle.granit_restart.specs.Header.{takes_front, is_start_expected, is_in_header}
use Rattle.granit_restart.specs.Restart.{behind_fault}
use Rattle.granit_steps.specs.Steps.{StepState, Turn, step_size, step_turn}

-- what stands among events: no end, what is behind the end of a document, or the end of the stream with what is behind
pub data Ahead : Type 0 where
  NoEnd : Ahead
  BehindDocument AtStreamEnd : List PlainEvent → Ahead

abbrev pub ahead_by : EventKind → PlainEvent → List PlainEvent → Ahead → Ahead
ahead_by DocumentEnd e es later = BehindDocument es
ahead_by StreamEnd e es later = AtStreamEnd (e ∷ es)
ahead_by kind e es later = later

abbrev pub ahead : List PlainEvent → Ahead
ahead [] = NoEnd
ahead (e ∷ es) = ahead_by e.kind e es (ahead es)

abbrev pub is_within_document : DocumentStage → Bool
is_within_document Inside = true
is_within_document BehindRoot = true
is_within_document stage = false

-- whether the open document came to its end before the fault, which is the next document's
abbrev pub ends_before : StepState → Fault → Bool
ends_before s f = (takes_front s && is_start_expected f) && is_within_document s.parser.stage

-- where what is dropped ends, or the fault by which the rest is lost, with the state before the turn that failed
pub data SkipEnd : Type 0 where
  Ended : StepState → SkipEnd
  Failed : Fault → StepState → SkipEnd

-- where a turn failed
abbrev pub skip_fault : StepState → Fault → SkipEnd
skip_fault s f = if ends_before s f then Ended s else Failed f s

-- one turn, and then what is left to do; where nothing is left, all stays
abbrev pub skip_turn : (StepState → SkipEnd) → StepState → Turn → SkipEnd
skip_turn later s (Ok (Some es, after)) = later after
skip_turn later s (Ok (None, after)) = Ended s
skip_turn later s (Err f) = skip_fault s f

abbrev pub with_pending : List PlainEvent → StepState → StepState
with_pending es s = record s { pending = es }

abbrev pub skip_ahead : (StepState → SkipEnd) → StepState → Ahead → SkipEnd
skip_ahead more s NoEnd = more (with_pending [] s)
skip_ahead more s (BehindDocument es) = Ended (with_pending es s)
skip_ahead more s (AtStreamEnd es) = Ended (with_pending es s)

-- on to behind the next end of a document, up to the end of the stream, or up to a fault, in at most so many turns
abbrev pub skip_in : OptionsData → ℕ → StepState → SkipEnd
skip_in o zero s = Ended s
skip_in o (suc n) s = skip_ahead (λ t. skip_turn (skip_in o n) t (step_turn o t)) s (ahead s.pending)

-- each turn leaves less, so these are enough
abbrev pub skip_by_turns : OptionsData → StepState → SkipEnd
skip_by_turns o s = skip_in o (suc (step_size s)) s

-- where the reads stopped that were refused: the one behind which a document is dropped, and one among what is dropped
-- behind its directives
pub record Stops : Type 0 where
  pub first : Here
  pub second : Here

abbrev pub restarted : (stop : Here) → SkipEnd → StepState
restarted stop (Ended s) = s
restarted stop (Failed f s) = (behind_fault stop s).1

-- behind a fault among directives whose `---` is the next boundary, their document is dropped too
abbrev pub skip_header : OptionsData → (stop : Here) → (in_header : Bool) → Bool × StepState → StepState
skip_header o stop in_header x = if in_header && x.0 then restarted stop (skip_by_turns o x.1) else x.1

abbrev pub skipped_fault : OptionsData → Stops → Fault → StepState → StepState
skipped_fault o stops f s = skip_header o stops.second (is_in_header o s f) (behind_fault stops.first s)

abbrev pub skipped_to : OptionsData → Stops → SkipEnd → StepState
skipped_to o stops (Ended s) = s
skipped_to o stops (Failed f s) = skipped_fault o stops f s

-- a document, or what is left of the open one
abbrev pub skipped_document : OptionsData → Stops → StepState → StepState
skipped_document o stops s = skipped_to o stops (skip_by_turns o s)
