-- The frames of an open place.
use Rattle.std.specs.Prelude.{Bool, true, false, List, [], ◌∷◌, Some, None}
use Rattle.granit_event_machine.specs.EventMachine.{Key, KeyDone, Asking, AskDone, Solo, Done, Value, OpenFrame}
use Rattle.granit_event_machine.specs.EventMachine.{DocumentFrame, PropertiesFrame, SequenceFrame, FlowSequenceFrame}
use Rattle.granit_event_machine.specs.EventMachine.{FlowMappingFrame, EventState, IsFresh, HasDirectives, IsRooted}
use Rattle.granit_event_machine.specs.EventMachine.{InFrames}
use Rattle.granit_event_machine.specs.EventMachine.{IsEnded, flow_frame, PairSite, BlockSite, FlowSite, pair_frames}
use Rattle.granit_language.specs.Node.{NoProperties, Pair, WithColon, AskOnly, FlowItem, Single, Paired}
use Rattle.granit_language.specs.OpenPlace.{Root, Bare, Explicit, Around, BlockPairs, FlowPairs, Hole, AtRoot, AtEntry}
use Rattle.granit_language.specs.OpenPlace.{AtItem, AtKey, AtAsk, AtColon, OpenPlace, Fresh, InDirectives, BehindRoot}
use Rattle.granit_language.specs.OpenPlace.{Ended, Want, PastEntry, PastKey, PastAsk, PastPair, PastItem}
use Rattle.granit_language.specs.Room.{is_made}
use Rattle.granit_language.specs.TreeEvents.{root_end, directives_version}
use Rattle.granit_lexemes.specs.declared.layout.Bracket.{Bracket}
use Rattle.granit_lexemes.specs.declared.layout.Bracket.TheVariants.{Square, Curly}

abbrev pub site_in : Around → List OpenFrame → PairSite
site_in (BlockPairs p c lead) fs = BlockSite c fs
site_in (FlowPairs p bracket o lead) fs = FlowSite bracket fs

abbrev pub root_frame : Root → OpenFrame
root_frame (Bare b) = DocumentFrame None
root_frame (Explicit s i) = DocumentFrame (Some i.shown.end)

abbrev pub hole_frames : Hole → List OpenFrame
hole_frames (AtRoot root) = root_frame root ∷ []
hole_frames (AtEntry r p loose c lead i) = SequenceFrame loose c (Some i.end) ∷ hole_frames r
hole_frames (AtItem r p bracket o lead) = flow_frame bracket ∷ hole_frames r
hole_frames (AtKey r a f) = pair_frames (site_in a (hole_frames r)) true Key
hole_frames (AtAsk r a q) = pair_frames (site_in a (hole_frames r)) false Asking
hole_frames (AtColon r a left m) = pair_frames (site_in a (hole_frames r)) (is_made left) (Value m.start)

abbrev pub pair_made : Pair → Bool
pair_made (WithColon left m v) = is_made left
pair_made (AskOnly q v e) = false

abbrev pub item_frame : Bracket → FlowItem → OpenFrame
item_frame Square item = FlowSequenceFrame true
item_frame Curly (Single t) = FlowMappingFrame false Solo
item_frame Curly (Paired pair) = FlowMappingFrame false Done

abbrev pub state_at : OpenPlace → EventState
state_at (Fresh b) = IsFresh
state_at (InDirectives ds) = HasDirectives (directives_version ds)
state_at (BehindRoot ro) = IsRooted (root_end ro)
state_at (Ended s) = IsEnded
state_at (Want r NoProperties) = InFrames (hole_frames r)
state_at (Want r p) = InFrames (PropertiesFrame p ∷ hole_frames r)
state_at (PastEntry r p loose c es) = InFrames (SequenceFrame loose c None ∷ hole_frames r)
state_at (PastKey r a f k) = InFrames (pair_frames (site_in a (hole_frames r)) true KeyDone)
state_at (PastAsk r a q v) = InFrames (pair_frames (site_in a (hole_frames r)) false AskDone)
state_at (PastPair r a pair) = InFrames (pair_frames (site_in a (hole_frames r)) (pair_made pair) Done)
state_at (PastItem r p bracket o lead item) = InFrames (item_frame bracket item ∷ hole_frames r)
