-- The machine that gives events: frames of unfinished nodes without their trees, and the events of each lexeme.
use Rattle.std.specs.Prelude.{ℕ, Bool, true, false, ◌||◌, ◌==◌, List, [], ◌∷◌, ◌++◌, Option, Some, None}
use Rattle.granit_base.specs.Place.{Mark}
use Rattle.granit_language.specs.Choice.{choose}
use Rattle.granit_language.specs.GrammarFault.{GrammarFault, ExpectedDocumentStart, MissingDocumentEndBeforeDirective}
use Rattle.granit_language.specs.GrammarFault.{UnexpectedEofBlockSequence, UnexpectedEofBlockMapping}
use Rattle.granit_language.specs.GrammarFault.{UnexpectedEofImplicitFlowMapping, ExpectedBlockMappingKey}
use Rattle.granit_language.specs.GrammarFault.{ExpectedBlockSequenceEntry, ExpectedFlowMappingSeparator}
use Rattle.granit_language.specs.GrammarFault.{ExpectedFlowSequenceSeparator, NoFault}
use Rattle.granit_language.specs.Node.{TreeProperties, NoProperties, One, Two}
use Rattle.granit_language.specs.Room.{BlockIn, FlowIn, Room, RightOf, ValueIn, KeyIn, ItemIn, Inside, behind_property}
use Rattle.granit_language.specs.Room.{room_behind, right_fits, loose_fits, indicates, opens, part_fits, differ}
use Rattle.granit_language.specs.Room.{continues_node, entry_empty, sequence_over, value_empty, ask_empty, ask_over}
use Rattle.granit_language.specs.Terminal.{PartKind, Alias, Property, Scalar, Open, TerminalKind, Directive}
use Rattle.granit_language.specs.Terminal.{DocumentStart, DocumentEnd, TheEnd, Dash, Question, Comma, Colon, Close}
use Rattle.granit_language.specs.Terminal.{Part, At, Terminal, terminal, edge, is_stream_kind, is_comma_kind}
use Rattle.granit_language.specs.Terminal.{closes_kind, stands_left, entry_in, text_start, no_terminal}
use Rattle.granit_language.specs.Terminal.{is_directive_kind}
use Rattle.granit_language.specs.TreeEvents.{StreamStarts, StreamEnds, DocumentEnds, SequenceEnds, MappingEnds}
use Rattle.granit_language.specs.TreeEvents.{DocumentStarts, TreeEvent, pointed, shown_event, null, properties_end}
use Rattle.granit_language.specs.TreeEvents.{alone_event, scalar_event, alias_event, flow_start, flow_end}
use Rattle.granit_language.specs.TreeEvents.{sequence_start, mapping_start, pair_start, version_of, bare_document_start}
use Rattle.granit_lexemes.specs.declared.layout.Bracket.{Bracket}
use Rattle.granit_lexemes.specs.declared.layout.Bracket.TheVariants.{Square, Curly}

-- where a pair stands
pub data PairAt : Type 0 where
  -- before it, at its key, behind its key; behind `?`, behind the key there; behind a node with no `:`; behind its
  -- value
  Opened Key KeyDone Asking AskDone Solo Done : PairAt
  -- behind its `:`, which stands at a place
  Value : Mark → PairAt

pub data OpenFrame : Type 0 where
  -- with the place behind a `---`
  DocumentFrame : Option Mark → OpenFrame
  PropertiesFrame : TreeProperties → OpenFrame
  -- indentless or not, in a column; with the place where nothing would stand, directly behind a `-`
  SequenceFrame : Bool → ℕ → Option Mark → OpenFrame
  MappingFrame : ℕ → PairAt → OpenFrame
  -- behind an item or not
  FlowSequenceFrame : Bool → OpenFrame
  -- true: a pair that a `:` makes in a flow sequence
  FlowMappingFrame : Bool → PairAt → OpenFrame
  -- a pair that a `?` makes there
  FlowPairFrame : PairAt → OpenFrame

pub data EventState : Type 0 where
  IsFresh : EventState
  HasDirectives : Option (ℕ × ℕ) → EventState
  IsRooted : Mark → EventState
  InFrames : List OpenFrame → EventState
  IsEnded : EventState

-- what a lexeme ends, with the events of that
pub data Ending : Type 0 where
  ending : EventState → List TreeEvent → Ending

abbrev pub with_event : TreeEvent → Ending → Ending
with_event e (ending st es) = ending st (e ∷ es)

abbrev pub past_sequence : Terminal → Bool → ℕ → List OpenFrame → Ending → Ending
past_sequence x loose c fs on =
    choose (sequence_over loose c x) (with_event (pointed SequenceEnds x.at.start) on)
    (ending (InFrames (SequenceFrame loose c None ∷ fs)) [])

abbrev pub past_mapping : Terminal → ℕ → List OpenFrame → Ending → Ending
past_mapping x c fs on =
    choose (stands_left x c) (with_event (pointed MappingEnds x.at.start) on)
    (ending (InFrames (MappingFrame c Done ∷ fs)) [])

abbrev pub past_asked : Terminal → ℕ → List OpenFrame → Ending → Ending
past_asked x c fs on =
    choose (ask_over (BlockIn c) x) (with_event (null x.at.start None) (past_mapping x c fs on))
    (ending (InFrames (MappingFrame c AskDone ∷ fs)) [])

abbrev pub past_curly : List OpenFrame → Ending
past_curly fs = ending (InFrames (FlowMappingFrame false Done ∷ fs)) []

abbrev pub past_curly_asked : Terminal → List OpenFrame → Ending
past_curly_asked x fs =
    choose (ask_over (FlowIn Curly) x) (with_event (null x.at.start None) (past_curly fs))
    (ending (InFrames (FlowMappingFrame false AskDone ∷ fs)) [])

abbrev pub past_made : Terminal → List OpenFrame → Ending → Ending
past_made x fs on =
    choose (is_comma_kind x.kind || closes_kind Square x.kind) (with_event (pointed MappingEnds x.at.start) on)
    (ending (InFrames (FlowMappingFrame true Done ∷ fs)) [])

abbrev pub past_square_asked : Terminal → List OpenFrame → Ending → Ending
past_square_asked x fs on =
    choose (ask_over (FlowIn Square) x)
    (with_event (null x.at.start None) (with_event (pointed MappingEnds x.at.start) on))
    (ending (InFrames (FlowPairFrame AskDone ∷ fs)) [])

-- a node is finished, and then what the lexeme ends; the place is that behind the node
abbrev pub finish_frames : Terminal → Mark → List OpenFrame → Ending
finish_frames x e (DocumentFrame m ∷ fs) = ending (IsRooted e) []
finish_frames x e (SequenceFrame loose c w ∷ fs) = past_sequence x loose c fs (finish_frames x x.at.start fs)
finish_frames x e (MappingFrame c Key ∷ fs) = ending (InFrames (MappingFrame c KeyDone ∷ fs)) []
finish_frames x e (MappingFrame c Asking ∷ fs) = past_asked x c fs (finish_frames x x.at.start fs)
finish_frames x e (MappingFrame c (Value w) ∷ fs) = past_mapping x c fs (finish_frames x x.at.start fs)
finish_frames x e (FlowSequenceFrame d ∷ fs) = ending (InFrames (FlowSequenceFrame true ∷ fs)) []
finish_frames x e (FlowMappingFrame single Key ∷ fs) = ending (InFrames (FlowMappingFrame single KeyDone ∷ fs)) []
finish_frames x e (FlowMappingFrame false Opened ∷ fs) = ending (InFrames (FlowMappingFrame false Solo ∷ fs)) []
finish_frames x e (FlowMappingFrame false Asking ∷ fs) = past_curly_asked x fs
finish_frames x e (FlowMappingFrame false (Value w) ∷ fs) = past_curly fs
finish_frames x e (FlowMappingFrame true (Value w) ∷ fs) = past_made x fs (finish_frames x x.at.start fs)
finish_frames x e (FlowPairFrame Asking ∷ fs) = past_square_asked x fs (finish_frames x x.at.start fs)
finish_frames x e (FlowPairFrame (Value w) ∷ fs) =
    with_event (pointed MappingEnds x.at.start) (finish_frames x x.at.start fs)
finish_frames x e fs = ending (InFrames fs) []

-- nothing may stand here in front of the lexeme
abbrev pub frames_empty : List OpenFrame → Terminal → Bool
frames_empty (DocumentFrame (Some m) ∷ fs) x = is_stream_kind x.kind
frames_empty (SequenceFrame loose c (Some w) ∷ fs) x = entry_empty loose c x
frames_empty (MappingFrame c Asking ∷ fs) x = ask_empty (BlockIn c) x
frames_empty (MappingFrame c (Value w) ∷ fs) x = value_empty (BlockIn c) x
frames_empty (FlowMappingFrame false Asking ∷ fs) x = ask_empty (FlowIn Curly) x
frames_empty (FlowMappingFrame false (Value w) ∷ fs) x = value_empty (FlowIn Curly) x
frames_empty (FlowMappingFrame true (Value w) ∷ fs) x = value_empty (FlowIn Square) x
frames_empty (FlowPairFrame Asking ∷ fs) x = ask_empty (FlowIn Square) x
frames_empty (FlowPairFrame (Value w) ∷ fs) x = value_empty (FlowIn Square) x
frames_empty fs x = false

abbrev pub nothing_event : Terminal → List OpenFrame → TreeEvent
nothing_event x (DocumentFrame (Some m) ∷ fs) = null m None
nothing_event x (SequenceFrame loose c (Some w) ∷ fs) = null w None
nothing_event x (MappingFrame c (Value w) ∷ fs) = null w None
nothing_event x (FlowMappingFrame single (Value w) ∷ fs) = null w None
nothing_event x (MappingFrame c Asking ∷ fs) = null x.at.start (Some c)
nothing_event x fs = null x.at.start None

abbrev pub nothing_end : List OpenFrame → Mark
nothing_end (DocumentFrame (Some m) ∷ fs) = m
nothing_end fs = text_start

abbrev pub nothing_frames : Terminal → List OpenFrame → Ending
nothing_frames x fs = with_event (nothing_event x fs) (finish_frames x (nothing_end fs) fs)

-- what a node here must be: the first lexeme of a simple key is no test
abbrev pub frames_room : List OpenFrame → Room
frames_room (DocumentFrame m ∷ fs) = RightOf 0
frames_room (SequenceFrame loose c w ∷ fs) = RightOf c
frames_room (MappingFrame c Key ∷ fs) = KeyIn (BlockIn c) no_terminal
frames_room (MappingFrame c at ∷ fs) = ValueIn c
frames_room (FlowSequenceFrame d ∷ fs) = ItemIn
frames_room (FlowMappingFrame single Opened ∷ fs) = ItemIn
frames_room (FlowMappingFrame single Key ∷ fs) = KeyIn (FlowIn Square) no_terminal
frames_room fs = Inside

abbrev pub frames_indent : List OpenFrame → Option ℕ
frames_indent (MappingFrame c Key ∷ fs) = Some c
frames_indent (MappingFrame c Asking ∷ fs) = Some c
frames_indent fs = None

abbrev pub close_frames : Terminal → List OpenFrame → Ending
close_frames x (PropertiesFrame p ∷ fs) =
    choose (continues_node (behind_property (frames_room fs)) p x.kind x.at)
    (ending (InFrames (PropertiesFrame p ∷ fs)) [])
    (with_event (alone_event p (frames_indent fs)) (finish_frames x (properties_end p) fs))
close_frames x (SequenceFrame loose c None ∷ fs) = past_sequence x loose c fs (finish_frames x x.at.start fs)
close_frames x (MappingFrame c AskDone ∷ fs) = past_asked x c fs (finish_frames x x.at.start fs)
close_frames x (MappingFrame c Done ∷ fs) = past_mapping x c fs (finish_frames x x.at.start fs)
close_frames x (FlowMappingFrame false AskDone ∷ fs) = past_curly_asked x fs
close_frames x (FlowMappingFrame true Done ∷ fs) = past_made x fs (finish_frames x x.at.start fs)
close_frames x (FlowPairFrame AskDone ∷ fs) = past_square_asked x fs (finish_frames x x.at.start fs)
close_frames x (FlowPairFrame Done ∷ fs) = with_event (pointed MappingEnds x.at.start) (finish_frames x x.at.start fs)
close_frames x fs = choose (frames_empty fs x) (nothing_frames x fs) (ending (InFrames fs) [])

abbrev pub ended_by : Terminal → EventState → Ending
ended_by x (InFrames fs) = close_frames x fs
ended_by x st = ending st []

-- what a lexeme gives, or the kind of fault
pub data EventStep : Type 0 where
  GoesTo : EventState → List TreeEvent → EventStep
  StopsWith : GrammarFault → EventStep

abbrev pub after_events : List TreeEvent → EventStep → EventStep
after_events es (GoesTo st more) = GoesTo st (es ++ more)
after_events es (StopsWith k) = StopsWith k

abbrev pub if_gives : Bool → GrammarFault → EventStep → EventStep
if_gives true k x = x
if_gives false k x = StopsWith k

abbrev pub finished_at : PairAt → PairAt
finished_at Opened = Solo
finished_at Key = KeyDone
finished_at Asking = AskDone
finished_at (Value w) = Done
finished_at at = at

-- a node is finished
abbrev pub put_frames : Mark → List OpenFrame → EventState
put_frames e (DocumentFrame m ∷ fs) = IsRooted e
put_frames e (SequenceFrame loose c w ∷ fs) = InFrames (SequenceFrame loose c None ∷ fs)
put_frames e (MappingFrame c at ∷ fs) = InFrames (MappingFrame c (finished_at at) ∷ fs)
put_frames e (FlowSequenceFrame d ∷ fs) = InFrames (FlowSequenceFrame true ∷ fs)
put_frames e (FlowMappingFrame single at ∷ fs) = InFrames (FlowMappingFrame single (finished_at at) ∷ fs)
put_frames e (FlowPairFrame at ∷ fs) = InFrames (FlowPairFrame (finished_at at) ∷ fs)
put_frames e fs = InFrames fs

abbrev pub flow_frame : Bracket → OpenFrame
flow_frame Square = FlowSequenceFrame false
flow_frame Curly = FlowMappingFrame false Opened

-- a lexeme of a node, behind properties
abbrev pub part_frames : GrammarFault → List OpenFrame → TreeProperties → PartKind → At → EventStep
part_frames stop fs NoProperties (Alias name) i =
    GoesTo (put_frames i.shown.end fs) (alias_event name i (frames_indent fs) ∷ [])
part_frames stop fs NoProperties (Property k) i = GoesTo (InFrames (PropertiesFrame (One k i) ∷ fs)) []
part_frames stop fs (One m j) (Property k) i =
    if_gives (differ m k) stop (GoesTo (InFrames (PropertiesFrame (Two m j k i) ∷ fs)) [])
part_frames stop fs p (Scalar style text) i =
    GoesTo (put_frames i.shown.end fs) (scalar_event p style text i (frames_indent fs) ∷ [])
part_frames stop fs p (Open bracket) i =
    GoesTo (InFrames (flow_frame bracket ∷ fs)) (flow_start p bracket i (frames_indent fs) ∷ [])
part_frames stop fs p k i = StopsWith stop

-- a collection where a pair may stand
pub data PairSite : Type 0 where
  BlockSite : ℕ → List OpenFrame → PairSite
  FlowSite : Bracket → List OpenFrame → PairSite

-- a pair there, made by a `:` or by a `?`
abbrev pub pair_frames : PairSite → Bool → PairAt → List OpenFrame
pair_frames (BlockSite c fs) made at = MappingFrame c at ∷ fs
pair_frames (FlowSite Square fs) true at = FlowMappingFrame true at ∷ FlowSequenceFrame false ∷ fs
pair_frames (FlowSite Square fs) false at = FlowPairFrame at ∷ FlowSequenceFrame false ∷ fs
pair_frames (FlowSite Curly fs) made at = FlowMappingFrame false at ∷ fs

abbrev pub site_opens : PairSite → TerminalKind → At → List TreeEvent
site_opens (FlowSite Square fs) kind i = pair_start kind i ∷ []
site_opens s kind i = []

abbrev pub entry_frames : GrammarFault → PairSite → TerminalKind → At → EventStep
entry_frames stop s (Part k) i =
    after_events (site_opens s (Part k) i) (part_frames stop (pair_frames s true Key) NoProperties k i)
entry_frames stop s Question i =
    after_events (site_opens s Question i) (GoesTo (InFrames (pair_frames s false Asking)) [])
entry_frames stop s (Colon None) i =
    after_events (site_opens s (Colon None) i)
    (GoesTo (InFrames (pair_frames s true (Value i.start))) (null i.start None ∷ []))
entry_frames stop s kind i = StopsWith stop

-- the first lexeme of a pair at a place for a node
abbrev pub plain_pair : GrammarFault → List OpenFrame → TerminalKind → At → EventStep
plain_pair stop (FlowSequenceFrame d ∷ fs) kind i = entry_frames stop (FlowSite Square fs) kind i
plain_pair stop (FlowMappingFrame single Opened ∷ fs) kind i = entry_frames stop (FlowSite Curly fs) kind i
plain_pair stop fs kind i =
    after_events (mapping_start NoProperties (terminal kind i) (frames_indent fs) ∷ [])
    (entry_frames stop (BlockSite (edge i) fs) kind i)

abbrev pub begin_pair_frames : GrammarFault → List OpenFrame → TreeProperties → TerminalKind → At → EventStep
begin_pair_frames stop fs NoProperties kind i = plain_pair stop fs kind i
begin_pair_frames stop fs p kind i =
    after_events (mapping_start p (terminal kind i) (frames_indent fs) ∷ [])
    (entry_frames stop (BlockSite (edge i) fs) kind i)

-- the kind of what is no node
abbrev pub stop_kind : List OpenFrame → GrammarFault
stop_kind (MappingFrame c Key ∷ fs) = ExpectedBlockMappingKey
stop_kind (MappingFrame c at ∷ fs) = UnexpectedEofBlockMapping
stop_kind (FlowSequenceFrame d ∷ fs) = UnexpectedEofImplicitFlowMapping
stop_kind (FlowMappingFrame single at ∷ fs) = UnexpectedEofImplicitFlowMapping
stop_kind (FlowPairFrame at ∷ fs) = UnexpectedEofImplicitFlowMapping
stop_kind fs = UnexpectedEofBlockSequence

-- a lexeme where a node must stand, behind properties
abbrev pub want_frames : List OpenFrame → TreeProperties → TerminalKind → At → EventStep
want_frames fs p (Part k) i =
    choose (opens (room_behind p (frames_room fs)) i) (begin_pair_frames (stop_kind fs) fs p (Part k) i)
    (if_gives (part_fits (room_behind p (frames_room fs)) i) (stop_kind fs) (part_frames (stop_kind fs) fs p k i))
want_frames fs p Dash i =
    choose (loose_fits (room_behind p (frames_room fs)) (edge i))
    (GoesTo (InFrames (SequenceFrame true (edge i) (Some i.end) ∷ fs))
    (sequence_start p true i (frames_indent fs) ∷ []))
    (if_gives (right_fits (room_behind p (frames_room fs)) (edge i)) (stop_kind fs)
    (GoesTo (InFrames (SequenceFrame false (edge i) (Some i.end) ∷ fs))
    (sequence_start p false i (frames_indent fs) ∷ [])))
want_frames fs p Question i =
    if_gives (indicates (room_behind p (frames_room fs)) i) (stop_kind fs)
    (begin_pair_frames (stop_kind fs) fs p Question i)
want_frames fs p (Colon None) i =
    if_gives (indicates (room_behind p (frames_room fs)) i) (stop_kind fs)
    (begin_pair_frames (stop_kind fs) fs p (Colon None) i)
want_frames (FlowSequenceFrame d ∷ fs) NoProperties (Close Square) i =
    GoesTo (put_frames i.shown.end fs) (flow_end Square i ∷ [])
want_frames (FlowMappingFrame single Opened ∷ fs) NoProperties (Close Curly) i =
    GoesTo (put_frames i.shown.end fs) (flow_end Curly i ∷ [])
want_frames fs p kind i = StopsWith (stop_kind fs)

-- a lexeme at the top frame, where nothing ends before it
abbrev pub take_top : List OpenFrame → TerminalKind → At → EventStep
take_top (PropertiesFrame p ∷ fs) kind i = want_frames fs p kind i
take_top (SequenceFrame loose c None ∷ fs) Dash i =
    if_gives (edge i == c) ExpectedBlockSequenceEntry (GoesTo (InFrames (SequenceFrame loose c (Some i.end) ∷ fs)) [])
take_top (SequenceFrame loose c None ∷ fs) kind i = StopsWith ExpectedBlockSequenceEntry
take_top (MappingFrame c KeyDone ∷ fs) (Colon (Some n)) i = GoesTo (InFrames (MappingFrame c (Value i.start) ∷ fs)) []
take_top (MappingFrame c KeyDone ∷ fs) kind i = StopsWith ExpectedBlockMappingKey
take_top (MappingFrame c AskDone ∷ fs) (Colon None) i =
    if_gives (edge i == c) ExpectedBlockMappingKey (GoesTo (InFrames (MappingFrame c (Value i.start) ∷ fs)) [])
take_top (MappingFrame c AskDone ∷ fs) kind i = StopsWith ExpectedBlockMappingKey
take_top (MappingFrame c Done ∷ fs) kind i =
    if_gives (entry_in (terminal kind i) c) ExpectedBlockMappingKey
    (entry_frames ExpectedBlockMappingKey (BlockSite c fs) kind i)
take_top (FlowSequenceFrame true ∷ fs) Comma i = GoesTo (InFrames (FlowSequenceFrame false ∷ fs)) []
take_top (FlowSequenceFrame true ∷ fs) (Close Square) i = GoesTo (put_frames i.shown.end fs) (flow_end Square i ∷ [])
take_top (FlowSequenceFrame true ∷ fs) kind i = StopsWith ExpectedFlowSequenceSeparator
take_top (FlowMappingFrame single KeyDone ∷ fs) (Colon (Some n)) i =
    GoesTo (InFrames (FlowMappingFrame single (Value i.start) ∷ fs)) []
take_top (FlowMappingFrame single KeyDone ∷ fs) kind i = StopsWith ExpectedFlowMappingSeparator
take_top (FlowMappingFrame single AskDone ∷ fs) (Colon None) i =
    GoesTo (InFrames (FlowMappingFrame single (Value i.start) ∷ fs)) []
take_top (FlowMappingFrame single AskDone ∷ fs) kind i = StopsWith ExpectedFlowMappingSeparator
take_top (FlowMappingFrame false Solo ∷ fs) Comma i =
    GoesTo (InFrames (FlowMappingFrame false Opened ∷ fs)) (null i.start None ∷ [])
take_top (FlowMappingFrame false Solo ∷ fs) (Close Curly) i =
    GoesTo (put_frames i.shown.end fs) (null i.start None ∷ flow_end Curly i ∷ [])
take_top (FlowMappingFrame false Solo ∷ fs) kind i = StopsWith ExpectedFlowMappingSeparator
take_top (FlowMappingFrame false Done ∷ fs) Comma i = GoesTo (InFrames (FlowMappingFrame false Opened ∷ fs)) []
take_top (FlowMappingFrame false Done ∷ fs) (Close Curly) i = GoesTo (put_frames i.shown.end fs) (flow_end Curly i ∷ [])
take_top (FlowMappingFrame single Done ∷ fs) kind i = StopsWith ExpectedFlowMappingSeparator
take_top (FlowPairFrame AskDone ∷ fs) (Colon None) i = GoesTo (InFrames (FlowPairFrame (Value i.start) ∷ fs)) []
take_top (FlowPairFrame AskDone ∷ fs) kind i = StopsWith ExpectedFlowMappingSeparator
take_top (FlowPairFrame Done ∷ fs) kind i = StopsWith ExpectedFlowMappingSeparator
take_top fs kind i = want_frames fs NoProperties kind i

abbrev pub take_frames : EventState → TerminalKind → At → EventStep
take_frames IsFresh (Directive d) i = GoesTo (HasDirectives (version_of d None)) []
take_frames IsFresh DocumentStart i =
    GoesTo (InFrames (DocumentFrame (Some i.shown.end) ∷ [])) (shown_event (DocumentStarts true None) i ∷ [])
take_frames IsFresh DocumentEnd i = GoesTo IsFresh []
take_frames IsFresh TheEnd i = GoesTo IsEnded (shown_event StreamEnds i ∷ [])
take_frames IsFresh kind i =
    after_events (bare_document_start kind i ∷ []) (want_frames (DocumentFrame None ∷ []) NoProperties kind i)
take_frames (HasDirectives version) (Directive d) i = GoesTo (HasDirectives (version_of d version)) []
take_frames (HasDirectives version) DocumentStart i =
    GoesTo (InFrames (DocumentFrame (Some i.shown.end) ∷ [])) (shown_event (DocumentStarts true version) i ∷ [])
take_frames (HasDirectives version) kind i = StopsWith ExpectedDocumentStart
take_frames (IsRooted e) DocumentStart i =
    GoesTo (InFrames (DocumentFrame (Some i.shown.end) ∷ []))
    (pointed DocumentEnds e ∷ shown_event (DocumentStarts true None) i ∷ [])
take_frames (IsRooted e) DocumentEnd i = GoesTo IsFresh (shown_event DocumentEnds i ∷ [])
take_frames (IsRooted e) TheEnd i = GoesTo IsEnded (pointed DocumentEnds e ∷ shown_event StreamEnds i ∷ [])
take_frames (IsRooted e) kind i =
    StopsWith (choose (is_directive_kind kind) MissingDocumentEndBeforeDirective ExpectedDocumentStart)
take_frames (InFrames fs) kind i = take_top fs kind i
take_frames IsEnded kind i = StopsWith NoFault

-- the events of lexemes, or the kind of the first fault and its lexeme
pub data EventAnswer : Type 0 where
  Events : List TreeEvent → EventAnswer
  Faulty : GrammarFault → Terminal → EventAnswer
  Unfinished : EventAnswer

abbrev pub events_before : List TreeEvent → EventAnswer → EventAnswer
events_before es (Events more) = Events (es ++ more)
events_before es (Faulty k x) = Faulty k x
events_before es Unfinished = Unfinished

abbrev pub outcome_at_end : EventState → EventAnswer
outcome_at_end IsEnded = Events []
outcome_at_end st = Unfinished

abbrev pub go_on : EventStep → Terminal → (EventState → EventAnswer) → EventAnswer
go_on (GoesTo st es) x on = events_before es (on st)
go_on (StopsWith k) x on = Faulty k x

abbrev pub go_closed : Ending → Terminal → (EventState → EventAnswer) → EventAnswer
go_closed (ending st es) x on = events_before es (go_on (take_frames st x.kind x.at) x on)

abbrev pub run_events_from : List Terminal → EventState → EventAnswer
run_events_from [] st = outcome_at_end st
run_events_from (x ∷ xs) st = go_closed (ended_by x st) x (run_events_from xs)

abbrev pub run_events : List Terminal → EventAnswer
run_events xs = events_before (pointed StreamStarts text_start ∷ []) (run_events_from xs IsFresh)
