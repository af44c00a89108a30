-- Steps where a node may stand in flow.
use Rattle.granit_views.specs.Good.{Holes, at_item, at_curly, curly_key, curly_asked, curly_value, made_key}
use Rattle.granit_views.specs.Good.{made_value, pair_asked, pair_value}
use Rattle.granit_views.specs.Stepping.{MeansView}
use Rattle.granit_language.specs.Seen.{terminal_kind}
use Rattle.granit_event_machine.specs.EventMachine.{Opened, Key, Asking, Value, OpenFrame, PropertiesFrame}
use Rattle.granit_event_machine.specs.EventMachine.{FlowSequenceFrame}
use Rattle.granit_event_machine.specs.EventMachine.{FlowMappingFrame, FlowPairFrame, EventState, InFrames, GoesTo}
use Rattle.granit_event_machine.specs.EventMachine.{put_frames}
use Rattle.granit_language.specs.Node.{NoProperties, One}
use Rattle.granit_language.specs.Terminal.{Tag, is_comma_kind, closes_kind}
use Rattle.granit_language.specs.TreeEvents.{TreeEvent, alias_event, pair_start}
use Rattle.granit_lexemes.specs.Lexeme.{KeyStart}
use Rattle.granit_lexemes.specs.declared.layout.Bracket.TheVariants.{Square, Curly}
use Rattle.granit_machine.specs.FlowSteps.{flow_at}
use Rattle.granit_machine.specs.Frames.{ParserState}
use Rattle.granit_machine.specs.Giving.{put, null_at}
use Rattle.granit_machine.specs.NodeEnds.{end_node, end_by}
use Rattle.granit_machine.specs.NodeSteps.{bare}
use Rattle.std.proofs.Common.{◌≡◌, ℕ, Bool, true, false, List, [], ◌∷◌, ◌++◌, refl, ap, ◌∙◌, ◌||◌, Option, Some, None}
use Rattle.std.proofs.Common.{Result, Ok, Err}
use Rattle.granit_base.specs.Place.{Mark}
use Rattle.granit_lexemes.specs.Lexeme as lexemes
use Rattle.granit_lexemes.specs.PlainEvent as plain
use Rattle.granit_lexemes.specs.PlainEvent.{PlainEvent, event_at}
use Rattle.granit_base.specs.Written.{Written}
use Rattle.granit_lexemes.specs.Outcome.{Fault}
use Rattle.granit_base.specs.declared.style.StructureStyle.TheVariants.{Flow}
use Rattle.granit_machine.specs.Frames as machine
use Rattle.granit_views.proofs.Arrivals.{Arrival, arriving, arriving_token, beside_at, parser_at, StepsM}
use Rattle.granit_node_steps.proofs.FlowFlats.{Stop}
use Rattle.granit_views.proofs.Pops.{flushed}
use Rattle.granit_node_steps.proofs.PartSteps.{scalar_parts, square_parts, curly_parts, anchor_parts, tag_parts}
use Rattle.granit_node_steps.proofs.PartSteps.{alias_parts}
use Rattle.granit_views.proofs.Standing.{finish_view}
use Rattle.granit_lexemes.specs.declared.layout.Bracket.TheVariants as brackets

-- behind the start of the pair that a simple key begins
abbrev pair_begun : Arrival → Arrival
pair_begun a = record a {
  last = a.lexeme.start;
  given =
      a.given ++ event_at (plain.MappingStart Flow 0 None) (record { start = a.lexeme.start; end = a.lexeme.start })
      ∷ [];
}

abbrev EndEvent : plain.EventKind → lexemes.Lexeme → PlainEvent
EndEvent kind l = event_at kind (record { start = l.start; end = l.shown.end })

-- the start of a pair before an alias
alias_pair :
    (name : Written) (a : Arrival) (st : EventState) (es : List TreeEvent) (r : Result ParserState Fault) →
    let x = arriving true (lexemes.Alias name) None a in
    MeansView a.options x (beside_at (pair_begun a)) r (GoesTo st es) →
    MeansView a.options x (beside_at a) r (GoesTo st (pair_start x.kind x.at ∷ es))
alias_pair name a st es (Ok p) h = h
alias_pair name a st es (Err f) h = h

-- before a tag
tag_pair :
    (handle suffix : List ℕ) (a : Arrival) (st : EventState) (es : List TreeEvent) (r : Result ParserState Fault) →
    let x = arriving true (lexemes.Tag handle suffix) None a in
    MeansView a.options x (beside_at (pair_begun a)) r (GoesTo st es) →
    MeansView a.options x (beside_at a) r (GoesTo st (pair_start x.kind x.at ∷ es))
tag_pair handle suffix a st es (Ok p) h = h
tag_pair handle suffix a st es (Err f) h = h

pub item_steps :
    (b : Bool) (k : lexemes.LexemeKind) (key : Option KeyStart) (a : Arrival) (fs : List OpenFrame) →
    Holes fs → StepsM b k key a (FlowSequenceFrame false ∷ fs)
unfolding end_node
item_steps b (lexemes.Directive directive) key a fs h = refl
item_steps b lexemes.DocumentStart key a fs h = refl
item_steps b lexemes.DocumentEnd key a fs h = refl
item_steps b lexemes.StreamEnd key a fs h = refl
item_steps b lexemes.Comma key a fs h = refl
item_steps b (lexemes.Close brackets.Square) key a fs h = (
  (
    a.lexeme.shown.end,
    finish_view a.options fs a.lexeme.shown.end (a.given ++ EndEvent plain.SequenceEnd a.lexeme ∷ [])
        (beside_at a) h,
  ),
  refl,
)
item_steps b (lexemes.Close brackets.Curly) key a fs h = refl
item_steps b lexemes.Dash key a fs h = refl
item_steps b lexemes.Question key a fs h = ((a.lexeme.shown.end, refl), refl)
item_steps b lexemes.Colon None a fs h = ((a.lexeme.start, refl), refl)
item_steps b lexemes.Colon (Some n) a fs h = refl
item_steps true (lexemes.Open brackets.Square) key a fs h =
    square_parts true (pair_begun a) NoProperties
    (FlowMappingFrame true Key ∷ FlowSequenceFrame false ∷ fs) Stop (made_key h)
item_steps false (lexemes.Open brackets.Square) key a fs h =
    square_parts false a NoProperties (FlowSequenceFrame false ∷ fs) Stop (at_item h)
item_steps true (lexemes.Open brackets.Curly) key a fs h =
    curly_parts true (pair_begun a) NoProperties
    (FlowMappingFrame true Key ∷ FlowSequenceFrame false ∷ fs) Stop (made_key h)
item_steps false (lexemes.Open brackets.Curly) key a fs h =
    curly_parts false a NoProperties (FlowSequenceFrame false ∷ fs) Stop (at_item h)
item_steps true (lexemes.Alias name) key a fs h =
    alias_pair name a (put_frames a.lexeme.shown.end (FlowMappingFrame true Key ∷ FlowSequenceFrame false ∷ fs))
    (alias_event name (arriving true (lexemes.Alias name) None a).at None ∷ [])
    (bare a.options (arriving_token true (lexemes.Alias name) None a)
    (parser_at (FlowMappingFrame true Key ∷ FlowSequenceFrame false ∷ fs) (pair_begun a)))
    (alias_parts true name (pair_begun a)
    (FlowMappingFrame true Key ∷ FlowSequenceFrame false ∷ fs) Stop (made_key h))
item_steps false (lexemes.Alias name) key a fs h =
    alias_parts false name a (FlowSequenceFrame false ∷ fs) Stop (at_item h)
item_steps true (lexemes.Anchor name) key a fs h =
    anchor_parts true name (pair_begun a) NoProperties
    (FlowMappingFrame true Key ∷ FlowSequenceFrame false ∷ fs) Stop (made_key h) refl
item_steps false (lexemes.Anchor name) key a fs h =
    anchor_parts false name a NoProperties (FlowSequenceFrame false ∷ fs) Stop (at_item h) refl
item_steps true (lexemes.Tag handle suffix) key a fs h =
    tag_pair handle suffix a
    (InFrames
    (PropertiesFrame (One (Tag handle suffix) (arriving true (lexemes.Tag handle suffix) None a).at)
    ∷ FlowMappingFrame true Key ∷ FlowSequenceFrame false ∷ fs))
    []
    (bare a.options (arriving_token true (lexemes.Tag handle suffix) None a)
    (parser_at (FlowMappingFrame true Key ∷ FlowSequenceFrame false ∷ fs) (pair_begun a)))
    (tag_parts true handle suffix (pair_begun a) NoProperties
    (FlowMappingFrame true Key ∷ FlowSequenceFrame false ∷ fs) Stop (made_key h) refl)
item_steps false (lexemes.Tag handle suffix) key a fs h =
    tag_parts false handle suffix a NoProperties (FlowSequenceFrame false ∷ fs) Stop (at_item h) refl
item_steps true (lexemes.Scalar style text) key a fs h =
    scalar_parts true style text (pair_begun a) NoProperties
    (FlowMappingFrame true Key ∷ FlowSequenceFrame false ∷ fs) Stop (made_key h)
item_steps false (lexemes.Scalar style text) key a fs h =
    scalar_parts false style text a NoProperties (FlowSequenceFrame false ∷ fs) Stop (at_item h)

pub curly_steps :
    (b : Bool) (k : lexemes.LexemeKind) (key : Option KeyStart) (a : Arrival) (fs : List OpenFrame) →
    Holes fs → StepsM b k key a (FlowMappingFrame false Opened ∷ fs)
unfolding end_node
curly_steps b (lexemes.Directive directive) key a fs h = refl
curly_steps b lexemes.DocumentStart key a fs h = refl
curly_steps b lexemes.DocumentEnd key a fs h = refl
curly_steps b lexemes.StreamEnd key a fs h = refl
curly_steps b lexemes.Comma key a fs h = refl
curly_steps b (lexemes.Close brackets.Square) key a fs h = refl
curly_steps b (lexemes.Close brackets.Curly) key a fs h = (
  (
    a.lexeme.shown.end,
    finish_view a.options fs a.lexeme.shown.end (a.given ++ EndEvent plain.MappingEnd a.lexeme ∷ [])
        (beside_at a) h,
  ),
  refl,
)
curly_steps b lexemes.Dash key a fs h = refl
curly_steps b lexemes.Question key a fs h = ((a.last, refl), refl)
curly_steps b lexemes.Colon None a fs h = ((a.lexeme.start, refl), refl)
curly_steps b lexemes.Colon (Some n) a fs h = refl
curly_steps true (lexemes.Open brackets.Square) key a fs h =
    square_parts true a NoProperties (FlowMappingFrame false Key ∷ fs) Stop (curly_key h)
curly_steps false (lexemes.Open brackets.Square) key a fs h =
    square_parts false a NoProperties (FlowMappingFrame false Opened ∷ fs) Stop (at_curly h)
curly_steps true (lexemes.Open brackets.Curly) key a fs h =
    curly_parts true a NoProperties (FlowMappingFrame false Key ∷ fs) Stop (curly_key h)
curly_steps false (lexemes.Open brackets.Curly) key a fs h =
    curly_parts false a NoProperties (FlowMappingFrame false Opened ∷ fs) Stop (at_curly h)
curly_steps true (lexemes.Alias name) key a fs h =
    alias_parts true name a (FlowMappingFrame false Key ∷ fs) Stop (curly_key h)
curly_steps false (lexemes.Alias name) key a fs h =
    alias_parts false name a (FlowMappingFrame false Opened ∷ fs) Stop (at_curly h)
curly_steps true (lexemes.Anchor name) key a fs h =
    anchor_parts true name a NoProperties (FlowMappingFrame false Key ∷ fs) Stop (curly_key h) refl
curly_steps false (lexemes.Anchor name) key a fs h =
    anchor_parts false name a NoProperties (FlowMappingFrame false Opened ∷ fs) Stop (at_curly h) refl
curly_steps true (lexemes.Tag handle suffix) key a fs h =
    tag_parts true handle suffix a NoProperties (FlowMappingFrame false Key ∷ fs) Stop (curly_key h) refl
curly_steps false (lexemes.Tag handle suffix) key a fs h =
    tag_parts false handle suffix a NoProperties (FlowMappingFrame false Opened ∷ fs) Stop (at_curly h)
    refl
curly_steps true (lexemes.Scalar style text) key a fs h =
    scalar_parts true style text a NoProperties (FlowMappingFrame false Key ∷ fs) Stop (curly_key h)
curly_steps false (lexemes.Scalar style text) key a fs h =
    scalar_parts false style text a NoProperties (FlowMappingFrame false Opened ∷ fs) Stop (at_curly h)

pub curly_asked_steps :
    (b : Bool) (k : lexemes.LexemeKind) (key : Option KeyStart) (a : Arrival) (fs : List OpenFrame) →
    Holes fs → StepsM b k key a (FlowMappingFrame false Asking ∷ fs)
unfolding end_node
curly_asked_steps b (lexemes.Directive directive) key a fs h = refl
curly_asked_steps b lexemes.DocumentStart key a fs h = refl
curly_asked_steps b lexemes.DocumentEnd key a fs h = refl
curly_asked_steps b lexemes.StreamEnd key a fs h = refl
curly_asked_steps b lexemes.Comma key a fs h = ((a.lexeme.start, refl), refl)
curly_asked_steps b (lexemes.Close brackets.Square) key a fs h = refl
curly_asked_steps b (lexemes.Close brackets.Curly) key a fs h = (
  (
    a.lexeme.shown.end,
    finish_view a.options fs a.lexeme.shown.end
        (((a.given ++ null_at a.lexeme.start ∷ []) ++ null_at a.lexeme.start ∷ []) ++ EndEvent plain.MappingEnd a.lexeme
        ∷ [])
        (beside_at a) h,
  ),
  refl,
)
curly_asked_steps b lexemes.Dash key a fs h = refl
curly_asked_steps b lexemes.Question key a fs h = refl
curly_asked_steps b lexemes.Colon None a fs h = ((a.lexeme.start, refl), refl)
curly_asked_steps b lexemes.Colon (Some n) a fs h = refl
curly_asked_steps true (lexemes.Open brackets.Square) key a fs h = refl
curly_asked_steps false (lexemes.Open brackets.Square) key a fs h =
    square_parts false a NoProperties (FlowMappingFrame false Asking ∷ fs) Stop (curly_asked h)
curly_asked_steps true (lexemes.Open brackets.Curly) key a fs h = refl
curly_asked_steps false (lexemes.Open brackets.Curly) key a fs h =
    curly_parts false a NoProperties (FlowMappingFrame false Asking ∷ fs) Stop (curly_asked h)
curly_asked_steps true (lexemes.Alias name) key a fs h = refl
curly_asked_steps false (lexemes.Alias name) key a fs h =
    alias_parts false name a (FlowMappingFrame false Asking ∷ fs) Stop (curly_asked h)
curly_asked_steps true (lexemes.Anchor name) key a fs h = refl
curly_asked_steps false (lexemes.Anchor name) key a fs h =
    anchor_parts false name a NoProperties (FlowMappingFrame false Asking ∷ fs) Stop (curly_asked h) refl
curly_asked_steps true (lexemes.Tag handle suffix) key a fs h = refl
curly_asked_steps false (lexemes.Tag handle suffix) key a fs h =
    tag_parts false handle suffix a NoProperties (FlowMappingFrame false Asking ∷ fs) Stop
    (curly_asked h) refl
curly_asked_steps true (lexemes.Scalar style text) key a fs h = refl
curly_asked_steps false (lexemes.Scalar style text) key a fs h =
    scalar_parts false style text a NoProperties (FlowMappingFrame false Asking ∷ fs) Stop
    (curly_asked h)

pub curly_value_steps :
    (w : Mark) (b : Bool) (k : lexemes.LexemeKind) (key : Option KeyStart) (a : Arrival) (fs : List OpenFrame) →
    Holes fs → StepsM b k key a (FlowMappingFrame false (Value w) ∷ fs)
unfolding end_node
curly_value_steps w b (lexemes.Directive directive) key a fs h = refl
curly_value_steps w b lexemes.DocumentStart key a fs h = refl
curly_value_steps w b lexemes.DocumentEnd key a fs h = refl
curly_value_steps w b lexemes.StreamEnd key a fs h = refl
curly_value_steps w b lexemes.Comma key a fs h = (
  (
    w,
    ap (flow_at false machine.BeforePair)
        (flushed a.options w a.options.max_buffered_comment_events
        (put (null_at w) (parser_at (FlowMappingFrame false (Value w) ∷ fs) a))),
  ),
  refl,
)
curly_value_steps w b (lexemes.Close brackets.Square) key a fs h = refl
curly_value_steps w b (lexemes.Close brackets.Curly) key a fs h = (
  (
    a.lexeme.shown.end,
    ap (end_by (record { start = a.lexeme.start; end = a.lexeme.shown.end }))
        (flushed a.options w a.options.max_buffered_comment_events
        (put (null_at w) (parser_at (FlowMappingFrame false (Value w) ∷ fs) a)))
        ∙ finish_view a.options fs a.lexeme.shown.end
        ((a.given ++ null_at w ∷ []) ++ EndEvent plain.MappingEnd a.lexeme ∷ [])
        (beside_at a) h,
  ),
  refl,
)
curly_value_steps w b lexemes.Dash key a fs h = refl
curly_value_steps w b lexemes.Question key a fs h = refl
curly_value_steps w b lexemes.Colon None a fs h = refl
curly_value_steps w b lexemes.Colon (Some n) a fs h = refl
curly_value_steps w true (lexemes.Open brackets.Square) key a fs h = refl
curly_value_steps w false (lexemes.Open brackets.Square) key a fs h =
    square_parts false a NoProperties (FlowMappingFrame false (Value w) ∷ fs) Stop (curly_value h)
curly_value_steps w true (lexemes.Open brackets.Curly) key a fs h = refl
curly_value_steps w false (lexemes.Open brackets.Curly) key a fs h =
    curly_parts false a NoProperties (FlowMappingFrame false (Value w) ∷ fs) Stop (curly_value h)
curly_value_steps w true (lexemes.Alias name) key a fs h = refl
curly_value_steps w false (lexemes.Alias name) key a fs h =
    alias_parts false name a (FlowMappingFrame false (Value w) ∷ fs) Stop (curly_value h)
curly_value_steps w true (lexemes.Anchor name) key a fs h = refl
curly_value_steps w false (lexemes.Anchor name) key a fs h =
    anchor_parts false name a NoProperties (FlowMappingFrame false (Value w) ∷ fs) Stop (curly_value h)
    refl
curly_value_steps w true (lexemes.Tag handle suffix) key a fs h = refl
curly_value_steps w false (lexemes.Tag handle suffix) key a fs h =
    tag_parts false handle suffix a NoProperties (FlowMappingFrame false (Value w) ∷ fs) Stop
    (curly_value h) refl
curly_value_steps w true (lexemes.Scalar style text) key a fs h = refl
curly_value_steps w false (lexemes.Scalar style text) key a fs h =
    scalar_parts false style text a NoProperties (FlowMappingFrame false (Value w) ∷ fs) Stop
    (curly_value h)

pub made_value_steps :
    (w : Mark) (b : Bool) (k : lexemes.LexemeKind) (key : Option KeyStart) (a : Arrival) (fs : List OpenFrame) →
    Holes fs →
    ((is_comma_kind (terminal_kind k key) || closes_kind Square (terminal_kind k key))
    || closes_kind Curly (terminal_kind k key))
    ≡ false →
    StepsM b k key a (FlowMappingFrame true (Value w) ∷ FlowSequenceFrame false ∷ fs)
unfolding end_node
made_value_steps w b (lexemes.Directive directive) key a fs h e = refl
made_value_steps w b lexemes.DocumentStart key a fs h e = refl
made_value_steps w b lexemes.DocumentEnd key a fs h e = refl
made_value_steps w b lexemes.StreamEnd key a fs h e = refl
made_value_steps w b lexemes.Comma key a fs h e = cc (e)
made_value_steps w b (lexemes.Close brackets.Square) key a fs h e = cc (e)
made_value_steps w b (lexemes.Close brackets.Curly) key a fs h e = cc (e)
made_value_steps w b lexemes.Dash key a fs h e = refl
made_value_steps w b lexemes.Question key a fs h e = refl
made_value_steps w b lexemes.Colon None a fs h e = refl
made_value_steps w b lexemes.Colon (Some n) a fs h e = refl
made_value_steps w true (lexemes.Open brackets.Square) key a fs h e = refl
made_value_steps w false (lexemes.Open brackets.Square) key a fs h e =
    square_parts false a NoProperties (FlowMappingFrame true (Value w) ∷ FlowSequenceFrame false ∷ fs)
    Stop (made_value h)
made_value_steps w true (lexemes.Open brackets.Curly) key a fs h e = refl
made_value_steps w false (lexemes.Open brackets.Curly) key a fs h e =
    curly_parts false a NoProperties (FlowMappingFrame true (Value w) ∷ FlowSequenceFrame false ∷ fs)
    Stop (made_value h)
made_value_steps w true (lexemes.Alias name) key a fs h e = refl
made_value_steps w false (lexemes.Alias name) key a fs h e =
    alias_parts false name a (FlowMappingFrame true (Value w) ∷ FlowSequenceFrame false ∷ fs) Stop
    (made_value h)
made_value_steps w true (lexemes.Anchor name) key a fs h e = refl
made_value_steps w false (lexemes.Anchor name) key a fs h e =
    anchor_parts false name a NoProperties
    (FlowMappingFrame true (Value w) ∷ FlowSequenceFrame false ∷ fs) Stop (made_value h) refl
made_value_steps w true (lexemes.Tag handle suffix) key a fs h e = refl
made_value_steps w false (lexemes.Tag handle suffix) key a fs h e =
    tag_parts false handle suffix a NoProperties
    (FlowMappingFrame true (Value w) ∷ FlowSequenceFrame false ∷ fs) Stop (made_value h) refl
made_value_steps w true (lexemes.Scalar style text) key a fs h e = refl
made_value_steps w false (lexemes.Scalar style text) key a fs h e =
    scalar_parts false style text a NoProperties
    (FlowMappingFrame true (Value w) ∷ FlowSequenceFrame false ∷ fs) Stop (made_value h)

pub pair_asked_steps :
    (b : Bool) (k : lexemes.LexemeKind) (key : Option KeyStart) (a : Arrival) (fs : List OpenFrame) →
    Holes fs → (is_comma_kind (terminal_kind k key) || closes_kind Square (terminal_kind k key)) ≡ false →
    StepsM b k key a (FlowPairFrame Asking ∷ FlowSequenceFrame false ∷ fs)
unfolding end_node
pair_asked_steps b (lexemes.Directive directive) key a fs h e = refl
pair_asked_steps b lexemes.DocumentStart key a fs h e = refl
pair_asked_steps b lexemes.DocumentEnd key a fs h e = refl
pair_asked_steps b lexemes.StreamEnd key a fs h e = refl
pair_asked_steps b lexemes.Comma key a fs h e = cc (e)
pair_asked_steps b (lexemes.Close brackets.Square) key a fs h e = cc (e)
pair_asked_steps b (lexemes.Close brackets.Curly) key a fs h e = refl
pair_asked_steps b lexemes.Dash key a fs h e = refl
pair_asked_steps b lexemes.Question key a fs h e = refl
pair_asked_steps b lexemes.Colon None a fs h e = refl
pair_asked_steps b lexemes.Colon (Some n) a fs h e = refl
pair_asked_steps true (lexemes.Open brackets.Square) key a fs h e = refl
pair_asked_steps false (lexemes.Open brackets.Square) key a fs h e =
    square_parts false a NoProperties (FlowPairFrame Asking ∷ FlowSequenceFrame false ∷ fs) Stop
    (pair_asked h)
pair_asked_steps true (lexemes.Open brackets.Curly) key a fs h e = refl
pair_asked_steps false (lexemes.Open brackets.Curly) key a fs h e =
    curly_parts false a NoProperties (FlowPairFrame Asking ∷ FlowSequenceFrame false ∷ fs) Stop
    (pair_asked h)
pair_asked_steps true (lexemes.Alias name) key a fs h e = refl
pair_asked_steps false (lexemes.Alias name) key a fs h e =
    alias_parts false name a (FlowPairFrame Asking ∷ FlowSequenceFrame false ∷ fs) Stop (pair_asked h)
pair_asked_steps true (lexemes.Anchor name) key a fs h e = refl
pair_asked_steps false (lexemes.Anchor name) key a fs h e =
    anchor_parts false name a NoProperties (FlowPairFrame Asking ∷ FlowSequenceFrame false ∷ fs) Stop
    (pair_asked h) refl
pair_asked_steps true (lexemes.Tag handle suffix) key a fs h e = refl
pair_asked_steps false (lexemes.Tag handle suffix) key a fs h e =
    tag_parts false handle suffix a NoProperties (FlowPairFrame Asking ∷ FlowSequenceFrame false ∷ fs)
    Stop (pair_asked h) refl
pair_asked_steps true (lexemes.Scalar style text) key a fs h e = refl
pair_asked_steps false (lexemes.Scalar style text) key a fs h e =
    scalar_parts false style text a NoProperties (FlowPairFrame Asking ∷ FlowSequenceFrame false ∷ fs)
    Stop (pair_asked h)

pub pair_value_steps :
    (w : Mark) (b : Bool) (k : lexemes.LexemeKind) (key : Option KeyStart) (a : Arrival) (fs : List OpenFrame) →
    Holes fs → (is_comma_kind (terminal_kind k key) || closes_kind Square (terminal_kind k key)) ≡ false →
    StepsM b k key a (FlowPairFrame (Value w) ∷ FlowSequenceFrame false ∷ fs)
unfolding end_node
pair_value_steps w b (lexemes.Directive directive) key a fs h e = refl
pair_value_steps w b lexemes.DocumentStart key a fs h e = refl
pair_value_steps w b lexemes.DocumentEnd key a fs h e = refl
pair_value_steps w b lexemes.StreamEnd key a fs h e = refl
pair_value_steps w b lexemes.Comma key a fs h e = cc (e)
pair_value_steps w b (lexemes.Close brackets.Square) key a fs h e = cc (e)
pair_value_steps w b (lexemes.Close brackets.Curly) key a fs h e = refl
pair_value_steps w b lexemes.Dash key a fs h e = refl
pair_value_steps w b lexemes.Question key a fs h e = refl
pair_value_steps w b lexemes.Colon None a fs h e = refl
pair_value_steps w b lexemes.Colon (Some n) a fs h e = refl
pair_value_steps w true (lexemes.Open brackets.Square) key a fs h e = refl
pair_value_steps w false (lexemes.Open brackets.Square) key a fs h e =
    square_parts false a NoProperties (FlowPairFrame (Value w) ∷ FlowSequenceFrame false ∷ fs) Stop
    (pair_value h)
pair_value_steps w true (lexemes.Open brackets.Curly) key a fs h e = refl
pair_value_steps w false (lexemes.Open brackets.Curly) key a fs h e =
    curly_parts false a NoProperties (FlowPairFrame (Value w) ∷ FlowSequenceFrame false ∷ fs) Stop
    (pair_value h)
pair_value_steps w true (lexemes.Alias name) key a fs h e = refl
pair_value_steps w false (lexemes.Alias name) key a fs h e =
    alias_parts false name a (FlowPairFrame (Value w) ∷ FlowSequenceFrame false ∷ fs) Stop (pair_value h)
pair_value_steps w true (lexemes.Anchor name) key a fs h e = refl
pair_value_steps w false (lexemes.Anchor name) key a fs h e =
    anchor_parts false name a NoProperties (FlowPairFrame (Value w) ∷ FlowSequenceFrame false ∷ fs) Stop
    (pair_value h) refl
pair_value_steps w true (lexemes.Tag handle suffix) key a fs h e = refl
pair_value_steps w false (lexemes.Tag handle suffix) key a fs h e =
    tag_parts false handle suffix a NoProperties (FlowPairFrame (Value w) ∷ FlowSequenceFrame false ∷ fs)
    Stop (pair_value h) refl
pair_value_steps w true (lexemes.Scalar style text) key a fs h e = refl
pair_value_steps w false (lexemes.Scalar style text) key a fs h e =
    scalar_parts false style text a NoProperties (FlowPairFrame (Value w) ∷ FlowSequenceFrame false ∷ fs)
    Stop (pair_value h)
