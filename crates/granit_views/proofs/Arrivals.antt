-- A lexeme that arrives at a parser, with what stands around it, and where both steps agree on it.
use Rattle.granit_views.specs.Stepping.{MeansView, LimitView, taken, at_kind, knowing}
use Rattle.granit_views.specs.Steps.{topped}
use Rattle.granit_views.specs.View.{Beside, state_of}
use Rattle.granit_language.specs.Seen.{terminal_of}
use Rattle.granit_event_machine.specs.EventMachine.{OpenFrame, InFrames, ended_by, part_frames}
use Rattle.granit_language.specs.GrammarFault.{GrammarFault}
use Rattle.granit_language.specs.Node.{TreeProperties}
use Rattle.granit_language.specs.Scope.{Scope}
use Rattle.granit_language.specs.Terminal.{PartKind, Terminal}
use Rattle.granit_lexemes.specs.Lexeme.{KeyStart}
use Rattle.granit_machine.specs.Frames.{ParserState}
use Rattle.granit_machine.specs.NodeSteps.{bare}
use Rattle.granit_machine.specs.Parser.{take_token}
use Rattle.granit_machine.specs.TokenSort.{Token, token_of}
use Rattle.std.proofs.Common.{Bool, List, Option, None}
use Rattle.granit_base.specs.Place.{Mark}
use Rattle.granit_error.specs.OptionsData.{OptionsData}
use Rattle.granit_lexemes.specs.PlainEvent.{PlainEvent}
use Rattle.granit_lexemes.specs.Lexeme as lexemes

-- what stands declared before it, under which options, where the last event ended, and what was given
pub record Arrival : Type 0 where
  pub scope : Scope
  pub lexeme : lexemes.Lexeme
  pub options : OptionsData
  pub last : Mark
  pub given : List PlainEvent

-- its kind, its simple key and whether it begins one stand apart, since proofs go through them case by case
abbrev pub arriving : Bool → lexemes.LexemeKind → Option KeyStart → Arrival → Terminal
arriving b k key a = terminal_of b a.scope (at_kind a.lexeme k key)

abbrev pub arriving_token : Bool → lexemes.LexemeKind → Option KeyStart → Arrival → Token
arriving_token b k key a = token_of b (at_kind a.lexeme k key)

-- what the parser there knows
abbrev pub beside_at : Arrival → Beside
beside_at a = knowing a.options a.scope a.last a.given

-- the parser there, with these frames
abbrev pub parser_at : List OpenFrame → Arrival → ParserState
parser_at fs a = state_of a.options (InFrames fs) (beside_at a)

-- a lexeme of a node, at a place for one or behind properties
abbrev pub PartsAgree :
    Bool → PartKind → lexemes.LexemeKind → Arrival → TreeProperties → List OpenFrame → GrammarFault → Type 0
PartsAgree b m k a p fs stop =
    MeansView a.options (arriving b k None a) (beside_at a)
    (bare a.options (arriving_token b k None a) (parser_at (topped p fs) a))
    (part_frames stop fs p m (arriving b k None a).at)

-- a step on a lexeme of a kind, with what means nothing
abbrev pub StepsM : Bool → lexemes.LexemeKind → Option KeyStart → Arrival → List OpenFrame → Type 0
StepsM b k key a fs =
    MeansView a.options (arriving b k key a) (beside_at a)
    (take_token a.options (arriving_token b k key a) (parser_at fs a))
    (taken (ended_by (arriving b k key a) (InFrames fs)) (arriving b k key a))

-- the same, with the limit too
abbrev pub StepsLimited : Bool → lexemes.LexemeKind → Option KeyStart → Arrival → List OpenFrame → Type 0
StepsLimited b k key a fs =
    LimitView a.options (arriving b k key a) (beside_at a)
    (take_token a.options (arriving_token b k key a) (parser_at fs a))
    (taken (ended_by (arriving b k key a) (InFrames fs)) (arriving b k key a))
