-- How a step of the parser agrees with a step of the grammar's machine, behind closing.
use Rattle.std.specs.Prelude.{◌≡◌, ℕ, suc, if◌then◌else◌, List, [], Option, Some, None, Result, Ok, Err}
use Rattle.granit_base.specs.Place.{Mark}
use Rattle.granit_error.specs.OptionsData.{OptionsData}
use Rattle.granit_lexemes.specs.Outcome.{Fault}
use Rattle.granit_lexemes.specs.PlainEvent.{PlainEvent}
use Rattle.granit_lexemes.specs.Lexeme as lexemes
use Rattle.granit_views.specs.View.{Beside, state_of, give_all}
use Rattle.granit_event_machine.specs.EventMachine.{Ending, ending, EventStep, GoesTo, StopsWith, after_events}
use Rattle.granit_event_machine.specs.EventMachine.{take_frames}
use Rattle.granit_event_machine.specs.Guarded.{whole_guard}
use Rattle.granit_language.specs.GrammarFault.{GrammarFault, fault_of}
use Rattle.granit_language.specs.Scope.{Scope}
use Rattle.granit_language.specs.Scoping.{scope_fault}
use Rattle.granit_language.specs.Terminal.{Anchor, Property, TerminalKind, Part, Terminal}
use Rattle.granit_lexemes.specs.Lexeme.{KeyStart}
use Rattle.granit_machine.specs.Entries.{remembered}
use Rattle.granit_machine.specs.Frames.{ParserState}
use Rattle.granit_views.specs.Ordered.{ordered}

-- what the grammar's machine takes behind its closing
abbrev pub taken : Ending → Terminal → EventStep
taken (ending st es) x = after_events es (take_frames st x.kind x.at)

-- an anchor is counted and named
abbrev pub known_behind : TerminalKind → Beside → Beside
known_behind (Part (Property (Anchor name))) d =
    record d { count = suc d.count; names = remembered name.characters (suc d.count) d.names }
known_behind kind d = d

abbrev pub moved_on : OptionsData → Terminal → Mark → List PlainEvent → Beside → Beside
moved_on o x last given d = record (known_behind x.kind d) { last = last; given = given }

-- the handles that stay over documents
abbrev pub staying : OptionsData → Scope → List (List ℕ × List ℕ)
staying o s = if o.keep_tags then ordered s.all_handles else []

-- what stands before a lexeme is known to the parser
abbrev pub knowing : OptionsData → Scope → Mark → List PlainEvent → Beside
knowing o s last given = record {
  last = last;
  count = s.count;
  names = ordered s.names;
  handles = ordered s.handles;
  kept = staying o s;
  given = given;
}

-- both go on alike, or both stop with one fault
abbrev pub StepView : OptionsData → Terminal → Beside → Result ParserState Fault → EventStep → Type 0
StepView o x d (Ok p) (GoesTo st es) = (last : Mark) × (p ≡ state_of o st (moved_on o x last (give_all o es d.given) d))
StepView o x d (Err f) (StopsWith k) = f ≡ fault_of k x
StepView o x d (Ok p) (StopsWith k) = ⊥
StepView o x d (Err f) (GoesTo st es) = ⊥

abbrev pub at_kind : lexemes.Lexeme → lexemes.LexemeKind → Option KeyStart → lexemes.Lexeme
at_kind l k key = record l { kind = k; key = key; tail = None }

-- the same, where the parser also stops at what means nothing
abbrev pub MeansView : OptionsData → Terminal → Beside → Result ParserState Fault → EventStep → Type 0
MeansView o x d (Ok p) (GoesTo st es) =
    StepView o x d (Ok p) (GoesTo st es) × (scope_fault o x.kind x.at.scope ≡ None)
MeansView o x d (Err f) (GoesTo st es) =
    (k : GrammarFault) × (scope_fault o x.kind x.at.scope ≡ Some k) × (f ≡ fault_of k x)
MeansView o x d r s = StepView o x d r s

-- the same, with the limit of block collections
abbrev pub LimitView : OptionsData → Terminal → Beside → Result ParserState Fault → EventStep → Type 0
LimitView o x d (Ok p) (GoesTo st es) = StepView o x d (Ok p) (GoesTo st es) × (whole_guard o st x ≡ None)
LimitView o x d (Err f) (GoesTo st es) = (k : GrammarFault) × (whole_guard o st x ≡ Some k) × (f ≡ fault_of k x)
LimitView o x d r s = StepView o x d r s
