-- The lexemes and states of the plain machine's parser as those of the grammar's machine.
use Rattle.std.specs.Prelude.{ℕ, Bool, true, false, List, [], ◌∷◌, ◌++◌, Option, Some, None}
use Rattle.granit_base.specs.Place.{Mark}
use Rattle.granit_error.specs.OptionsData.{OptionsData}
use Rattle.granit_lexemes.specs.Lexeme as lexemes
use Rattle.granit_lexemes.specs.PlainEvent.{PlainEvent}
use Rattle.granit_event_machine.specs.EventMachine.{PairAt, Opened, Key, KeyDone, Asking, AskDone, Solo, Done, Value}
use Rattle.granit_event_machine.specs.EventMachine.{OpenFrame, DocumentFrame, PropertiesFrame, SequenceFrame}
use Rattle.granit_event_machine.specs.EventMachine.{MappingFrame}
use Rattle.granit_event_machine.specs.EventMachine.{FlowSequenceFrame, FlowMappingFrame, FlowPairFrame, EventState}
pub use Rattle.granit_event_machine.specs.EventMachine.{IsFresh}
use Rattle.granit_event_machine.specs.EventMachine.{HasDirectives, IsRooted, InFrames, IsEnded}
use Rattle.granit_language.specs.Node.{TreeProperties}
use Rattle.granit_language.specs.Seen.{Flagged}
use Rattle.granit_language.specs.Telling.{properties_anchor, properties_tag, one_less, version_told, event_told}
use Rattle.granit_language.specs.TreeEvents.{TreeEvent, properties_end}
use Rattle.granit_lexemes.specs.Lexeme.{Version, TagPrefix, Reserved, KeyStart}
use Rattle.granit_machine.specs.Frames.{ParserState, Waiting}
use Rattle.granit_machine.specs.Lexing.{FlaggedItem}
use Rattle.granit_machine.specs.Frames as machine

-- ---- lexemes

-- as an item, without a comment behind it
abbrev pub item_of : Flagged → FlaggedItem
item_of f = record { item = lexemes.OfLexeme (record (f.0) { tail = None }); begins_key = f.1 }

-- ---- frames

abbrev pub stage_of : PairAt → machine.PairStage
stage_of Opened = machine.BeforePair
stage_of Key = machine.AtKey
stage_of KeyDone = machine.BehindKey
stage_of Asking = machine.AtQuestion
stage_of AskDone = machine.BehindQuestion
stage_of Solo = machine.BehindAlone
stage_of Done = machine.BehindPair
stage_of (Value w) = machine.AtValue

abbrev pub parser_properties : OptionsData → TreeProperties → machine.NodeProperties
parser_properties o p = record { anchor = properties_anchor p; tag = properties_tag o p; end = properties_end p }

abbrev pub is_explicit : Option Mark → Bool
is_explicit None = false
is_explicit (Some m) = true

abbrev pub frame_of : OptionsData → OpenFrame → machine.Frame
frame_of o (DocumentFrame m) = machine.Root (is_explicit m)
frame_of o (PropertiesFrame p) = machine.WithProperties (parser_properties o p)
frame_of o (SequenceFrame loose c w) = machine.BlockSequence (one_less c) loose
frame_of o (MappingFrame c at) = machine.BlockMapping (one_less c) (stage_of at)
frame_of o (FlowSequenceFrame d) = machine.FlowSequence d
frame_of o (FlowMappingFrame single at) = machine.FlowMapping single (stage_of at)
frame_of o (FlowPairFrame at) = machine.FlowPair (stage_of at)

abbrev pub frames_of : OptionsData → List OpenFrame → List machine.Frame
frames_of o [] = []
frames_of o (f ∷ fs) = frame_of o f ∷ frames_of o fs

-- what waits is the place kept in the innermost frame
abbrev pub waits_at : ℕ → Mark → Option Waiting
waits_at room w = Some (record { at = w; room = room; held = [] })

abbrev pub waiting_of : ℕ → List OpenFrame → Option Waiting
waiting_of room (SequenceFrame loose c (Some w) ∷ fs) = waits_at room w
waiting_of room (MappingFrame c (Value w) ∷ fs) = waits_at room w
waiting_of room (FlowMappingFrame single (Value w) ∷ fs) = waits_at room w
waiting_of room fs = None

-- behind a `---` with nothing, the place behind it is the last event's end
abbrev pub last_of : List OpenFrame → Mark → Mark
last_of (DocumentFrame (Some m) ∷ fs) last = m
last_of fs last = last

-- ---- states

-- what a state of the parser holds beside its frames and its stage
pub record Beside : Type 0 where
  pub last : Mark
  pub count : ℕ
  pub names : List (List ℕ × ℕ)
  pub handles : List (List ℕ × List ℕ)
  pub kept : List (List ℕ × List ℕ)
  pub given : List PlainEvent

abbrev pub outside_of : machine.DocumentStage → Mark → Beside → ParserState
outside_of stage last b = record {
  frames = [];
  stage = stage;
  last_end = last;
  count = b.count;
  names = b.names;
  handles = b.handles;
  kept = b.kept;
  waiting = None;
  given = b.given;
}

abbrev pub state_of : OptionsData → EventState → Beside → ParserState
state_of o IsFresh b = outside_of machine.Fresh b.last b
state_of o (HasDirectives v) b = outside_of (machine.Directives (version_told v)) b.last b
state_of o (IsRooted e) b = outside_of machine.BehindRoot e b
state_of o IsEnded b = outside_of machine.Between b.last b
state_of o (InFrames fs) b = record {
  frames = frames_of o fs;
  stage = machine.Inside;
  last_end = last_of fs b.last;
  count = b.count;
  names = b.names;
  handles = b.handles;
  kept = b.kept;
  waiting = waiting_of o.max_buffered_comment_events fs;
  given = b.given;
}

-- events are given one by one
abbrev pub give_all : OptionsData → List TreeEvent → List PlainEvent → List PlainEvent
give_all o [] given = given
give_all o (e ∷ es) given = give_all o es (given ++ event_told o e)

abbrev pub with_given : Mark → List PlainEvent → Beside → Beside
with_given last given b = record b { last = last; given = given }
