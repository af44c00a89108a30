-- What an answer of the guarded machine says.
use Rattle.std.specs.Prelude.{◌≡◌, List, [], ◌∷◌, ◌++◌, Some, None}
use Rattle.granit_event_machine.specs.EventMachine.{EventState, ending, ended_by, GoesTo, take_frames, Faulty}
use Rattle.granit_event_machine.specs.EventMachine.{events_before}
use Rattle.granit_event_machine.specs.EventMachine.{run_events_from}
use Rattle.granit_event_machine.specs.Guarded.{Guard, guarded, Passes}
use Rattle.granit_language.specs.GrammarFault.{GrammarFault}
use Rattle.granit_language.specs.Terminal.{Terminal}
use Rattle.granit_language.specs.TreeEvents.{TreeEvent}

-- the event machine takes these lexemes, from a state to another
pub data RunsTo : EventState → List Terminal → EventState → Type 0 where
  runs_none : {st : EventState} → RunsTo st [] st
  runs_on :
      {st st1 st2 to : EventState} {es1 es2 : List TreeEvent} {x : Terminal} {xs : List Terminal} →
      ended_by x st ≡ ending st1 es1 → take_frames st1 x.kind x.at ≡ GoesTo st2 es2 → RunsTo st2 xs to →
      RunsTo st (x ∷ xs) to

-- a lexeme that the machine takes, the first one whose guard names a kind
pub record GuardFault (g : Guard) (xs : List Terminal) (st : EventState) (k : GrammarFault) (x : Terminal) :
    Type 0 where
  pub front : List Terminal
  pub rest : List Terminal
  pub is : xs ≡ front ++ (x ∷ rest)
  pub behind : EventState
  pub given : List TreeEvent
  pub runs :
      (more : List Terminal) →
      run_events_from (front ++ (x ∷ more)) st ≡ events_before given (run_events_from more behind)
  pub comes : RunsTo st (front ++ (x ∷ [])) behind
  pub fault : g behind x ≡ Some k
  pub passes : Passes g front st
  -- each guard looks at the state behind the lexeme
  pub seen : (h : Guard) (more : List Terminal) → Passes h (front ++ (x ∷ more)) st → h behind x ≡ None
  -- so what passes before it and at it passes with it
  pub joined : (h : Guard) → Passes h front st → h behind x ≡ None → Passes h (front ++ (x ∷ [])) st
  -- and whatever follows, it is the answer
  pub told : (more : List Terminal) → guarded g (front ++ (x ∷ more)) st ≡ Faulty k x
