-- How the runs of the parser and of the grammar's machine agree.
use Rattle.std.specs.Prelude.{◌≡◌, Bool, List, [], ◌∷◌, Some, None, Result, Ok, Err}
use Rattle.granit_error.specs.OptionsData.{OptionsData}
use Rattle.granit_lexemes.specs.Lexeme.{Lexeme}
use Rattle.granit_lexemes.specs.Outcome.{Fault, ◌>>=◌}
use Rattle.granit_lexemes.specs.PlainEvent.{PlainEvent, StreamStart, event_on}
use Rattle.granit_language.specs.GrammarFault.{GrammarFault, fault_of}
use Rattle.granit_language.specs.Scope.{Scope}
use Rattle.granit_language.specs.Scoping.{next_scope}
use Rattle.granit_language.specs.Telling.{events_told}
use Rattle.granit_language.specs.Terminal.{Terminal, text_start}
use Rattle.granit_language.specs.TreeEvents.{TreeEvent}
use Rattle.granit_language.specs.Whole.{WholeReading}
use Rattle.granit_machine.specs.Closing.{close}
use Rattle.granit_machine.specs.Parser.{take_token}
use Rattle.granit_machine.specs.TokenSort.{token_of}
use Rattle.granit_event_machine.specs.EventMachine.{EventState, IsFresh, HasDirectives, IsRooted, InFrames, IsEnded}
use Rattle.granit_event_machine.specs.EventMachine.{EventStep, GoesTo, StopsWith, ended_by, EventAnswer, Events, Faulty}
use Rattle.granit_event_machine.specs.EventMachine.{Unfinished}
use Rattle.granit_event_machine.specs.Guarded.{whole_guard}
use Rattle.granit_machine.specs.Frames.{ParserState}
use Rattle.granit_views.specs.Fair.{Fair}
use Rattle.granit_views.specs.Ordered.{ordered}
use Rattle.granit_views.specs.Good.{Good}
use Rattle.granit_views.specs.Stepping.{taken, knowing, staying}
use Rattle.granit_views.specs.View.{Beside, state_of, give_all}
use Rattle.granit_language.specs.Seen.{Flagged, terminal_of}

-- the parser knows what stands declared: inside a document the names and handles in force, before one what its
-- directives declare
abbrev pub Knows : OptionsData → EventState → Scope → Beside → Type 0
Knows o (InFrames fs) s d = (d ≡ knowing o s d.last d.given) × (s.pending ≡ []) × (s.version ≡ None)
Knows o (IsRooted e) s d = (d ≡ knowing o s d.last d.given) × (s.pending ≡ []) × (s.version ≡ None)
Knows o IsFresh s d =
    (d.count ≡ s.count) × (s.names ≡ []) × (s.handles ≡ []) × (s.pending ≡ []) × (s.version ≡ None)
    × (d.kept ≡ staying o s)
Knows o (HasDirectives v) s d =
    (d.count ≡ s.count) × (d.handles ≡ ordered s.pending) × (s.version ≡ v) × (d.kept ≡ staying o s)
Knows o IsEnded s d = Unit {0}

-- behind the end only the events count, and nothing waits
abbrev pub ParserSeen : OptionsData → EventState → ParserState → Beside → Type 0
ParserSeen o IsEnded p d = (p.given ≡ d.given) × (p.waiting ≡ None)
ParserSeen o st p d = p ≡ state_of o st d

-- a state that the grammar's machine comes to, or the end
abbrev pub ComesTo : EventState → Type 0
ComesTo IsEnded = Unit {0}
ComesTo st = Good st

-- what the parser is behind a step
pub record NextIs (o : OptionsData) (x : Terminal) (s : Scope) (events : List PlainEvent) (st : EventState)
    (p : ParserState) : Type 0 where
  pub beside : Beside
  pub is_seen : ParserSeen o st p beside
  pub gives : beside.given ≡ events
  pub knows : Knows o st (next_scope x.kind s) beside
  pub passes : whole_guard o st x ≡ None
  pub comes : ComesTo st

-- both go on alike, or both stop with one fault
abbrev pub NextView :
    OptionsData → Terminal → Scope → List PlainEvent → Result ParserState Fault → EventStep → Type 0
NextView o x s given (Ok p) (GoesTo st es) = NextIs o x s (give_all o es given) st p
NextView o x s given (Err f) (GoesTo st es) = (k : GrammarFault) × (whole_guard o st x ≡ Some k) × (f ≡ fault_of k x)
NextView o x s given (Ok p) (StopsWith k) = ⊥
NextView o x s given (Err f) (StopsWith k) = f ≡ fault_of k x

-- a lexeme with no comment behind it ends what it ends and is taken, on both sides
abbrev pub StepsAlike : Bool → Scope → Lexeme → OptionsData → EventState → Beside → Type 0
StepsAlike b s l o st d =
    NextView o (terminal_of b s l) s d.given
    (close o (token_of b (record l { tail = None })) (state_of o st d)
    >>= take_token o (token_of b (record l { tail = None })))
    (taken (ended_by (terminal_of b s l) st) (terminal_of b s l))

-- ---- runs

abbrev pub FairNext : EventStep → (EventState → Type 0) → Type 0
FairNext (GoesTo st es) on = on st
FairNext (StopsWith k) on = Unit {0}

-- each lexeme is fair to the state that the lexemes before it lead to
abbrev pub FairRun : List Flagged → Scope → EventState → Type 0
FairRun [] s st = Unit {0}
FairRun (f ∷ fs) s st =
    Fair (terminal_of f.1 s f.0) st
    × FairNext (taken (ended_by (terminal_of f.1 s f.0) st) (terminal_of f.1 s f.0))
    (λ st. FairRun fs (next_scope (terminal_of f.1 s f.0).kind s) st)

-- the parser's events are those of the grammar's machine, or its fault is; a list that no end ends may have neither
abbrev pub RunView : OptionsData → Result (List PlainEvent × ParserState) Fault → EventAnswer → Type 0
RunView o (Ok y) (Events es) = y.0 ≡ events_told o es
RunView o (Ok y) Unfinished = Unit {0}
RunView o (Err f) (Faulty k x) = f ≡ fault_of k x
RunView o r a = ⊥

-- the given events, behind the start of the stream, are those of the one stream of the lexemes
abbrev pub ParsedAs : OptionsData → List Terminal → List PlainEvent → Type 0
ParsedAs o xs gs =
    (es : List TreeEvent) × WholeReading o xs es × (events_told o es ≡ event_on StreamStart text_start ∷ gs)

-- they are these, told
abbrev pub GivesTold : OptionsData → List TreeEvent → Result (List PlainEvent × ParserState) Fault → Type 0
GivesTold o es (Ok y) = events_told o es ≡ event_on StreamStart text_start ∷ y.0
GivesTold o es (Err f) = ⊥
