-- What a reader's lists keep to, said of the state before a lexeme: a simple key isn't left before its `:`, brackets
-- match, and `in_flow` is what the brackets say.
use Rattle.std.specs.Prelude.{◌≡◌, ℕ, Bool, true, false, ◌&&◌, ◌||◌, not, List, [], ◌∷◌, Option, Some, None}
use Rattle.granit_base.specs.Place.{Mark}
use Rattle.granit_event_machine.specs.EventMachine.{PairAt, Key, KeyDone, AskDone, Done, Value, OpenFrame}
use Rattle.granit_event_machine.specs.EventMachine.{DocumentFrame}
use Rattle.granit_event_machine.specs.EventMachine.{PropertiesFrame, SequenceFrame, MappingFrame, FlowSequenceFrame}
use Rattle.granit_event_machine.specs.EventMachine.{FlowMappingFrame, FlowPairFrame, EventState, InFrames, IsEnded}
use Rattle.granit_event_machine.specs.EventMachine.{frames_room, put_frames}
use Rattle.granit_language.specs.Reading.{begins_kind}
use Rattle.granit_language.specs.Room.{Room, BehindKey, Inside, behind_property, continues_node, sequence_over}
use Rattle.granit_language.specs.Terminal.{TerminalKind, Part, Terminal, is_stream_kind, is_dash_kind, is_bare_kind}
use Rattle.granit_language.specs.Terminal.{is_comma_kind, closes_kind, stands_left, entry_in, text_start}
use Rattle.granit_lexemes.specs.declared.layout.Bracket.TheVariants.{Square, Curly}

abbrev pub frames_in_flow : List OpenFrame → Bool
frames_in_flow [] = false
frames_in_flow (FlowSequenceFrame d ∷ fs) = true
frames_in_flow (FlowMappingFrame single at ∷ fs) = true
frames_in_flow (FlowPairFrame at ∷ fs) = true
frames_in_flow (f ∷ fs) = false

abbrev pub is_key_part : TerminalKind → Bool → Bool
is_key_part (Part k) begins_key = begins_key
is_key_part kind begins_key = false

-- behind properties: in a simple key outside flow nothing else begins; in flow no simple key does, and no `-` stands
abbrev pub FairBehind : Room → Terminal → Type 0
FairBehind (BehindKey c) x = begins_kind x.kind x.at.begins_key ≡ false
FairBehind Inside x = (is_key_part x.kind x.at.begins_key ≡ false) × (is_dash_kind x.kind ≡ false)
FairBehind room x = Unit {0}

-- a pair that a `:` makes stands in square brackets
abbrev pub FairMade : Bool → Terminal → Type 0
FairMade true x = closes_kind Curly x.kind ≡ false
FairMade false x = Unit {0}

abbrev pub FairIn : Terminal → List OpenFrame → Type 0
FairIn x (PropertiesFrame p ∷ fs) = (x.at.in_flow ≡ frames_in_flow fs) × FairBehind (behind_property (frames_room fs)) x
FairIn x (MappingFrame c Key ∷ fs) = ⊥
FairIn x (MappingFrame c KeyDone ∷ fs) = stands_left x c ≡ false
FairIn x (FlowMappingFrame single Key ∷ fs) = ⊥
FairIn x (FlowMappingFrame single (Value w) ∷ fs) = FairMade single x
FairIn x (FlowMappingFrame single Done ∷ fs) = FairMade single x
FairIn x fs = Unit {0}

abbrev pub FairAt : Terminal → EventState → Type 0
FairAt x (InFrames fs) = FairIn x fs
FairAt x IsEnded = ⊥
FairAt x st = Unit {0}

-- ---- which frame a lexeme ends

abbrev pub pair_ends : ℕ → PairAt → Terminal → Bool
pair_ends c Key x = false
pair_ends c KeyDone x = false
pair_ends c at x = stands_left x c

abbrev pub entry_ends : Bool → ℕ → Option Mark → Terminal → Bool
entry_ends loose c None x = sequence_over loose c x
entry_ends loose c (Some w) x = stands_left x c || (loose && entry_in x c)

abbrev pub made_ends : Bool → PairAt → Terminal → Bool
made_ends true (Value w) x = is_comma_kind x.kind || closes_kind Square x.kind
made_ends true Done x = is_comma_kind x.kind || closes_kind Square x.kind
made_ends single at x = false

abbrev pub square_ends : PairAt → Terminal → Bool
square_ends Done x = true
square_ends AskDone x = not (is_bare_kind x.kind)
square_ends at x = is_comma_kind x.kind || closes_kind Square x.kind

abbrev pub root_ends : Option Mark → Terminal → Bool
root_ends None x = false
root_ends (Some m) x = is_stream_kind x.kind

abbrev pub ends_in : Terminal → List OpenFrame → Bool
ends_in x [] = false
ends_in x (DocumentFrame m ∷ fs) = root_ends m x
ends_in x (PropertiesFrame p ∷ fs) = not (continues_node (behind_property (frames_room fs)) p x.kind x.at)
ends_in x (SequenceFrame loose c w ∷ fs) = entry_ends loose c w x
ends_in x (MappingFrame c at ∷ fs) = pair_ends c at x
ends_in x (FlowSequenceFrame d ∷ fs) = false
ends_in x (FlowMappingFrame single at ∷ fs) = made_ends single at x
ends_in x (FlowPairFrame at ∷ fs) = square_ends at x

abbrev pub frame_ends_at : Terminal → EventState → Bool
frame_ends_at x (InFrames fs) = ends_in x fs
frame_ends_at x st = false

-- the same of each state that closing comes to
abbrev pub FairFinish : Terminal → List OpenFrame → Type 0
FairFinish x [] = Unit {0}
FairFinish x (f ∷ fs) =
    FairAt x (put_frames text_start (f ∷ fs))
    × (frame_ends_at x (put_frames text_start (f ∷ fs)) ≡ true → FairFinish x fs)

abbrev pub frames_below : EventState → List OpenFrame
frames_below (InFrames (f ∷ fs)) = fs
frames_below st = []

abbrev pub Fair : Terminal → EventState → Type 0
Fair x st = FairAt x st × (frame_ends_at x st ≡ true → FairFinish x (frames_below st))
