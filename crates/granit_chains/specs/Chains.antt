-- Recoveries one behind another that all tell of a document, and what is left at each.
pub use Rattle.granit_alone.specs.Behind.{FaultFits}
pub use Rattle.granit_alone.specs.Behind.{TellsMoved, behind_first}
pub use Rattle.granit_alone.specs.Lines.{ComesOnward, CountsAt}
pub use Rattle.granit_alone.specs.Alone.{BeginsAlone, CausedAlone, ReadsAlone, stream_start}
pub use Rattle.granit_alone.specs.Behind.{GivesOn, IsOpen}
use Rattle.std.specs.Prelude.{◌≡◌, ℕ, suc, ◌+◌, ◌*◌, ◌||◌, Bool, true, false, if◌then◌else◌, List, [], ◌∷◌, length}
use Rattle.std.specs.Prelude.{is_some, Option, Some, None, Ok, Err}
use Rattle.granit_error.specs.OptionsData.{OptionsData}
use Rattle.granit_lexemes.specs.Here.{text_len}
use Rattle.granit_lexemes.specs.Outcome.{Fault}
use Rattle.granit_lexemes.specs.PlainEvent.{DocumentEnd, EventKind, PlainEvent}
use Rattle.granit_machine.specs.Frames.{DocumentStage, Frame, Fresh, ParserState, Waiting}
use Rattle.granit_machine.specs.Reader.{LexState}
use Rattle.granit_recovery.specs.Streams.{EarlyOf}
use Rattle.granit_restart.specs.Calls.{Calls, next_call}
use Rattle.granit_restart.specs.Recovery.{recover}
use Rattle.granit_restart.specs.Skipping.{Stops}
use Rattle.granit_restart.specs.Turned.{with_count}
use Rattle.granit_alone.specs.Behind.{FitBehind, looked_at}
use Rattle.granit_steps.specs.Steps.{StepState}

-- ---- what is left

-- of the text: a read takes a character or is the last one, and where it is refused that is noted
abbrev pub left_unread : LexState → ℕ
left_unread l = if l.ended then 0 else 9 * suc (text_len l.reader.here) + (if is_some l.fault then 0 else 1)

-- whether a document is open, or its directives are
abbrev pub is_open_by : List Frame → DocumentStage → Option Waiting → Bool
is_open_by [] Fresh None = false
is_open_by frames stage waiting = true

abbrev pub is_open_parser : ParserState → Bool
is_open_parser p = is_open_by p.frames p.stage p.waiting

abbrev pub left_unclosed : ParserState → ℕ
left_unclosed p = if is_open_parser p then 1 else 0

-- how many documents' ends are among events
abbrev pub ends_of_kind : EventKind → ℕ
ends_of_kind DocumentEnd = 1
ends_of_kind kind = 0

abbrev pub ends_among : List PlainEvent → ℕ
ends_among [] = 0
ends_among (e ∷ es) = ends_of_kind e.kind + ends_among es

abbrev pub held_events : Option Waiting → List PlainEvent
held_events None = []
held_events (Some w) = w.held

-- among those that a parser holds
abbrev pub given_ends : ParserState → ℕ
given_ends p = ends_among p.given + ends_among (held_events p.waiting)

-- of events that wait: each end, and that some wait
abbrev pub left_waiting : List PlainEvent → ℕ
left_waiting [] = 0
left_waiting (e ∷ es) = suc (ends_among (e ∷ es))

-- what may still be read, what was read and not used, what is open, and what waits: a read brings two items at most,
-- and one that is fed ends one document at most
abbrev pub state_left : StepState → ℕ
state_left s =
    left_unread s.reading + (4 * length s.queue + left_unclosed s.parser)
    + (left_waiting s.pending + given_ends s.parser)

-- ---- chains

abbrev pub keeping_tags : (keep : Bool) → OptionsData → OptionsData
keeping_tags keep o = record o { keep_tags = keep }

-- Calls gave something or nothing between two recoveries. The number of the last anchor may have been set, and whether
-- handles stay over documents.
pub data CallsBetween (o : OptionsData) (c : Calls) : (given : Bool) → Calls → Type 0 where
  nothing_given : CallsBetween o c false c
  number_set : {given : Bool} {d : Calls} → (count : ℕ) → CallsBetween o c given d
      → CallsBetween o c given (record d { steps = with_count count d.steps })
  -- turns may be made early
  turns_made : {given : Bool} {d : Calls} {t : StepState} → (keep : Bool) → CallsBetween o c given d → d.fault ≡ None
      → EarlyOf (keeping_tags keep o) d.steps t → CallsBetween o c given (record d { steps = t })
  event_given : {given : Bool} {d after : Calls} {e : PlainEvent} → (keep : Bool) → CallsBetween o c given d
      → next_call (keeping_tags keep o) d ≡ (Some (Ok e), after) → CallsBetween o c true after
  fault_given : {given : Bool} {d after : Calls} {f : Fault} → (keep : Bool) → CallsBetween o c given d
      → next_call (keeping_tags keep o) d ≡ (Some (Err f), after) → CallsBetween o c true after

-- Recovery tells of a document behind a call. Where nothing was given before it since, the next event is looked at
-- first. Reads that were refused stopped onward of where they began.
pub record TellsOnce (o : OptionsData) (c d : Calls) : Type 0 where
  pub keep : Bool
  pub stops : Stops
  pub looked : Bool
  pub given : Bool
  pub calls : Calls
  pub between : CallsBetween o c given calls
  pub asks : (given || looked) ≡ true
  pub fits : calls.refusal ≡ None
      → FitBehind ComesOnward (keeping_tags keep o) stops (looked_at (keeping_tags keep o) looked calls)
  pub tells : recover (keeping_tags keep o) stops looked calls ≡ (Ok true, d)

-- so many recoveries one behind another all tell of a document
pub data RecoveryChain (o : OptionsData) : ℕ → Calls → Calls → Type 0 where
  chain_ends : {c : Calls} → RecoveryChain o 0 c c
  chain_goes : {n : ℕ} {c d last : Calls} → TellsOnce o c d → RecoveryChain o n d last → RecoveryChain o (suc n) c last
