-- Where the steps of both agree.
use Rattle.std.specs.Prelude.{Bool, List, [], ◌∷◌, Option, Some, None}
use Rattle.granit_error.specs.OptionsData.{OptionsData}
use Rattle.granit_lexemes.specs.Lexeme as lexemes
use Rattle.granit_views.specs.Stepping.{taken, StepView, at_kind}
use Rattle.granit_views.specs.View.{Beside, state_of}
use Rattle.granit_language.specs.Seen.{terminal_of}
use Rattle.granit_event_machine.specs.EventMachine.{Asking, Value, OpenFrame, SequenceFrame, MappingFrame, GoesTo}
use Rattle.granit_event_machine.specs.EventMachine.{frames_indent, PropertiesFrame, InFrames, ended_by}
use Rattle.granit_language.specs.Node.{TreeProperties, NoProperties}
use Rattle.granit_language.specs.Scope.{Scope}
use Rattle.granit_language.specs.Terminal.{Terminal, edge}
use Rattle.granit_language.specs.TreeEvents.{mapping_start, null, sequence_start}
use Rattle.granit_lexemes.specs.Lexeme.{KeyStart}
use Rattle.granit_machine.specs.Parser.{take_token}
use Rattle.granit_machine.specs.TokenSort.{token_of}
use Rattle.granit_event_machine.specs.EventMachine as grammar

-- the frames of properties in a hole
abbrev pub topped : TreeProperties → List OpenFrame → List OpenFrame
topped NoProperties fs = fs
topped p fs = PropertiesFrame p ∷ fs

-- on a lexeme of a kind
abbrev pub Steps :
    Bool → lexemes.LexemeKind → Option KeyStart → Scope → lexemes.Lexeme → OptionsData → Beside → List OpenFrame →
    Type 0
Steps b k key s l o d fs =
    StepView o (terminal_of b s (at_kind l k key)) d
    (take_token o (token_of b (at_kind l k key)) (state_of o (InFrames fs) d))
    (taken (ended_by (terminal_of b s (at_kind l k key)) (InFrames fs)) (terminal_of b s (at_kind l k key)))

-- what begins a block collection behind properties
abbrev pub asks : TreeProperties → Terminal → List OpenFrame → grammar.EventStep
asks p x fs = GoesTo (InFrames (MappingFrame (edge x.at) Asking ∷ fs)) (mapping_start p x (frames_indent fs) ∷ [])

abbrev pub colons : TreeProperties → Terminal → List OpenFrame → grammar.EventStep
colons p x fs =
    GoesTo (InFrames (MappingFrame (edge x.at) (Value x.at.start) ∷ fs))
    (mapping_start p x (frames_indent fs) ∷ null x.at.start None ∷ [])

abbrev pub dashes : Bool → TreeProperties → Terminal → List OpenFrame → grammar.EventStep
dashes loose p x fs =
    GoesTo (InFrames (SequenceFrame loose (edge x.at) (Some x.at.end) ∷ fs))
    (sequence_start p loose x.at (frames_indent fs) ∷ [])
