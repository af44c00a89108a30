-- A look ahead by turns: they are made while events wait, until it is known whether another document is there.
use Rattle.std.specs.Prelude.{ℕ, zero, suc, Bool, true, false, if◌then◌else◌, List, [], ◌∷◌, ◌++◌, Option, Some, None}
use Rattle.std.specs.Prelude.{◌≡◌, Result, Ok, Err}
use Rattle.granit_base.specs.Place.{Mark}
use Rattle.granit_error.specs.FaultKind.{TooManyComments}
use Rattle.granit_error.specs.OptionsData.{OptionsData}
use Rattle.granit_lexemes.specs.Basics.{fails_at}
use Rattle.granit_lexemes.specs.Outcome.{Fault}
use Rattle.granit_lexemes.specs.PlainEvent.{PlainEvent, EventKind, StreamEnd, Comment}
use Rattle.granit_machine.specs.Frames.{Fresh, ParserState}
use Rattle.granit_restart.specs.Header.{is_directives}
use Rattle.granit_restart.specs.Skipping.{with_pending}
use Rattle.granit_steps.specs.Steps.{StepState, Turn, step_size, step_turn}

-- ---- turns while events wait

abbrev pub behind_waiting : List PlainEvent → Turn → Turn
behind_waiting es (Ok (given, t)) = Ok (given, with_pending (es ++ t.pending) t)
behind_waiting es (Err f) = Err f

-- one turn; the events that it gives come behind those that wait
abbrev pub turn_ahead : OptionsData → StepState → Turn
turn_ahead o s = behind_waiting s.pending (step_turn o (with_pending [] s))

-- ---- what waits tells

abbrev pub told_comment : ℕ → Mark → (ℕ → Option (Result Bool Fault)) → Option (Result Bool Fault)
told_comment zero m more = Some (fails_at TooManyComments m)
told_comment (suc room) m more = more room

abbrev pub told_event : ℕ → EventKind → Mark → (ℕ → Option (Result Bool Fault)) → Option (Result Bool Fault)
told_event room (Comment text placement) m more = told_comment room m more
told_event room StreamEnd m more = Some (Ok false)
told_event room kind m more = Some (Ok true)

-- what events tell of another document where so many comments may be kept; nothing, where all are comments
abbrev pub told_by : ℕ → List PlainEvent → Option (Result Bool Fault)
told_by room [] = None
told_by room (e ∷ es) = told_event room e.kind e.span.start (λ left. told_by left es)

-- ---- the look

-- an answer, and the state behind the turns that were made
abbrev pub Look : Type 0
Look = Result Bool Fault × StepState

-- behind a turn; directives begin a document
abbrev pub look_behind : (StepState → Look) → StepState → Turn → Look
look_behind later s (Ok (Some es, t)) = if is_directives t.parser.stage then (Ok true, t) else later t
look_behind later s (Ok (None, t)) = (Ok false, s)
look_behind later s (Err f) = (Ok true, s)

abbrev pub look_by : OptionsData → (StepState → Look) → StepState → Option (Result Bool Fault) → Look
look_by o later s (Some told) = (told, s)
look_by o later s None = if is_directives s.parser.stage then (Ok true, s) else look_behind later s (turn_ahead o s)

-- in at most so many turns
abbrev pub look_in : OptionsData → (room turns : ℕ) → StepState → Look
look_in o room zero s = (Ok true, s)
look_in o room (suc n) s = look_by o (look_in o room n) s (told_by room s.pending)

-- each turn leaves less, so these are enough
abbrev pub look_ahead : OptionsData → (room : ℕ) → StepState → Look
look_ahead o room s = look_in o room (suc (step_size s)) s

-- ---- between documents

abbrev pub outer : ParserState → ParserState
outer p = record p { frames = []; stage = Fresh; waiting = None; given = [] }

-- no node is open, no directive was read, and nothing waits or is held
abbrev pub Outside : ParserState → Type 0
Outside p = p ≡ outer p
