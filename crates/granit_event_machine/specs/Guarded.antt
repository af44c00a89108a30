-- The same machine with more faults: a guard looks at the state behind each lexeme that is taken.
use Rattle.std.specs.Prelude.{◌≡◌, ℕ, suc, Bool, true, false, nat_le, List, [], ◌∷◌, Option, Some, None}
use Rattle.granit_error.specs.OptionsData.{OptionsData}
use Rattle.granit_event_machine.specs.EventMachine.{OpenFrame, SequenceFrame, MappingFrame, EventState, IsFresh}
use Rattle.granit_event_machine.specs.EventMachine.{InFrames}
use Rattle.granit_event_machine.specs.EventMachine.{Ending, ending, ended_by, EventStep, GoesTo, StopsWith, take_frames}
use Rattle.granit_event_machine.specs.EventMachine.{EventAnswer, Faulty, events_before, outcome_at_end}
use Rattle.granit_language.specs.GrammarFault.{GrammarFault, TooManyBlocks}
use Rattle.granit_language.specs.Scope.{no_scope}
use Rattle.granit_language.specs.Scoping.{scoped, scope_fault}
use Rattle.granit_language.specs.Terminal.{Terminal, text_start}
use Rattle.granit_language.specs.TreeEvents.{StreamStarts, pointed}

abbrev pub Guard : Type 0
Guard = EventState → Terminal → Option GrammarFault

abbrev pub passed : Option GrammarFault → Terminal → EventAnswer → EventAnswer
passed None x rest = rest
passed (Some k) x rest = Faulty k x

abbrev pub goes_by : Guard → EventStep → Terminal → (EventState → EventAnswer) → EventAnswer
goes_by g (GoesTo st es) x on = events_before es (passed (g st x) x (on st))
goes_by g (StopsWith k) x on = Faulty k x

abbrev pub closed_by : Guard → Ending → Terminal → (EventState → EventAnswer) → EventAnswer
closed_by g (ending st es) x on = events_before es (goes_by g (take_frames st x.kind x.at) x on)

abbrev pub guarded : Guard → List Terminal → EventState → EventAnswer
guarded g [] st = outcome_at_end st
guarded g (x ∷ xs) st = closed_by g (ended_by x st) x (guarded g xs)

-- ---- what passes, as far as the event machine goes

abbrev pub PassesStep : Guard → EventStep → Terminal → (EventState → Type 0) → Type 0
PassesStep g (GoesTo st es) x on = (g st x ≡ None) × on st
PassesStep g (StopsWith k) x on = Unit {0}

abbrev pub PassesClosed : Guard → Ending → Terminal → (EventState → Type 0) → Type 0
PassesClosed g (ending st es) x on = PassesStep g (take_frames st x.kind x.at) x on

abbrev pub Passes : Guard → List Terminal → EventState → Type 0
Passes g [] st = Unit {0}
Passes g (x ∷ xs) st = PassesClosed g (ended_by x st) x (Passes g xs)

-- ---- two guards

abbrev pub first_fault : Option GrammarFault → Option GrammarFault → Option GrammarFault
first_fault (Some k) f = Some k
first_fault None f = f

-- ---- how many block collections are open

abbrev pub blocks_open : List OpenFrame → ℕ
blocks_open [] = 0
blocks_open (SequenceFrame loose c w ∷ fs) = suc (blocks_open fs)
blocks_open (MappingFrame c at ∷ fs) = suc (blocks_open fs)
blocks_open (f ∷ fs) = blocks_open fs

abbrev pub state_count : EventState → ℕ
state_count (InFrames fs) = blocks_open fs
state_count st = 0

abbrev pub is_loose : EventState → Bool
is_loose (InFrames (SequenceFrame loose c w ∷ fs)) = loose
is_loose st = false

abbrev pub fault_unless : Bool → GrammarFault → Option GrammarFault
fault_unless true k = None
fault_unless false k = Some k

abbrev pub limit_fault : ℕ → EventState → Option GrammarFault
limit_fault n st = fault_unless (nat_le (state_count st) n) (TooManyBlocks (is_loose st))

-- ---- the whole parser

-- the first guard's kind where both name one
abbrev pub both_guards : Guard → Guard → Guard
both_guards g h st x = first_fault (g st x) (h st x)

abbrev pub limit_guard : ℕ → Guard
limit_guard n st x = limit_fault n st

abbrev pub scope_guard : OptionsData → Guard
scope_guard o st x = scope_fault o x.kind x.at.scope

abbrev pub whole_guard : OptionsData → Guard
whole_guard o = both_guards (limit_guard o.block_nesting_limit) (scope_guard o)

-- the events of lexemes, or their first fault
abbrev pub whole_run : OptionsData → List Terminal → EventAnswer
whole_run o xs =
    events_before (pointed StreamStarts text_start ∷ []) (guarded (whole_guard o) (scoped no_scope xs) IsFresh)
