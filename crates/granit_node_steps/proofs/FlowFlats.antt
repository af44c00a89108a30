-- Where a node may stand in flow, a lexeme begins no block collection.
use Rattle.granit_views.specs.Good.{Holes, at_item, at_curly, curly_key, curly_asked, curly_value, made_key}
use Rattle.granit_views.specs.Good.{made_value, pair_asked, pair_value}
use Rattle.granit_views.specs.Stepping.{taken, at_kind}
use Rattle.granit_language.specs.Seen.{terminal_kind, at_of}
use Rattle.granit_event_machine.specs.EventMachine.{Opened, Key, Asking, Value, OpenFrame, FlowSequenceFrame}
use Rattle.granit_event_machine.specs.EventMachine.{FlowMappingFrame, FlowPairFrame, InFrames, ended_by, put_frames}
use Rattle.granit_event_machine.specs.Guarded.{blocks_open}
use Rattle.granit_language.specs.GrammarFault.{GrammarFault, UnexpectedEofImplicitFlowMapping}
use Rattle.granit_language.specs.Node.{NoProperties}
use Rattle.granit_language.specs.Scope.{Scope}
use Rattle.granit_language.specs.Terminal.{Anchor, Tag, Alias, Property, Scalar, Open, is_comma_kind}
use Rattle.granit_language.specs.Terminal.{closes_kind}
use Rattle.granit_lexemes.specs.Lexeme.{KeyStart}
use Rattle.granit_lexemes.specs.declared.layout.Bracket.TheVariants.{Square, Curly}
use Rattle.std.proofs.Common.{◌≡◌, Bool, true, false, ◌||◌, List, ◌∷◌, refl, Option, Some, None}
use Rattle.std.specs.Prelude.{nat_le}
use Rattle.granit_base.specs.Place.{Mark}
use Rattle.granit_error.specs.OptionsData.{OptionsData}
use Rattle.granit_lexemes.specs.Lexeme as lexemes
use Rattle.granit_node_steps.proofs.BlockNodes.{put_count, part_flat}
use Rattle.granit_views.proofs.Views.{Flat, count_flat, met_as}

abbrev pub Stop : GrammarFault
Stop = UnexpectedEofImplicitFlowMapping

pub item_flat :
    (b : Bool) (k : lexemes.LexemeKind) (key : Option KeyStart) (s : Scope) (l : lexemes.Lexeme) (o : OptionsData)
    (fs : List OpenFrame) → Holes fs → nat_le (blocks_open fs) o.block_nesting_limit ≡ true →
    Flat o.block_nesting_limit
    (taken (ended_by (met_as b k key s l) (InFrames (FlowSequenceFrame false ∷ fs))) (met_as b k key s l))
item_flat b (lexemes.Directive directive) key s l o fs h e = tt
item_flat b lexemes.DocumentStart key s l o fs h e = tt
item_flat b lexemes.DocumentEnd key s l o fs h e = tt
item_flat b lexemes.StreamEnd key s l o fs h e = tt
item_flat b lexemes.Comma key s l o fs h e = tt
item_flat b (lexemes.Close Square) key s l o fs h e =
    count_flat o.block_nesting_limit (blocks_open fs) (put_frames l.shown.end fs) (put_count l.shown.end fs h) e
item_flat b (lexemes.Close Curly) key s l o fs h e = tt
item_flat b lexemes.Dash key s l o fs h e = tt
item_flat b lexemes.Question key s l o fs h e =
    count_flat o.block_nesting_limit (blocks_open fs) (InFrames (FlowPairFrame Asking ∷ FlowSequenceFrame false ∷ fs))
    refl e
item_flat b lexemes.Colon None s l o fs h e =
    count_flat o.block_nesting_limit (blocks_open fs)
    (InFrames (FlowMappingFrame true (Value l.start) ∷ FlowSequenceFrame false ∷ fs)) refl e
item_flat b lexemes.Colon (Some n) s l o fs h e = tt
item_flat true (lexemes.Open Square) key s l o fs h e =
    part_flat o.block_nesting_limit Stop (FlowMappingFrame true Key ∷ FlowSequenceFrame false ∷ fs) NoProperties
    (Open Square) (at_of true s (at_kind l (lexemes.Open Square) key)) (made_key h) e
item_flat false (lexemes.Open Square) key s l o fs h e =
    part_flat o.block_nesting_limit Stop (FlowSequenceFrame false ∷ fs) NoProperties (Open Square)
    (at_of false s (at_kind l (lexemes.Open Square) key)) (at_item h) e
item_flat true (lexemes.Open Curly) key s l o fs h e =
    part_flat o.block_nesting_limit Stop (FlowMappingFrame true Key ∷ FlowSequenceFrame false ∷ fs) NoProperties
    (Open Curly) (at_of true s (at_kind l (lexemes.Open Curly) key)) (made_key h) e
item_flat false (lexemes.Open Curly) key s l o fs h e =
    part_flat o.block_nesting_limit Stop (FlowSequenceFrame false ∷ fs) NoProperties (Open Curly)
    (at_of false s (at_kind l (lexemes.Open Curly) key)) (at_item h) e
item_flat true (lexemes.Alias name) key s l o fs h e =
    part_flat o.block_nesting_limit Stop (FlowMappingFrame true Key ∷ FlowSequenceFrame false ∷ fs) NoProperties
    (Alias name) (at_of true s (at_kind l (lexemes.Alias name) key)) (made_key h) e
item_flat false (lexemes.Alias name) key s l o fs h e =
    part_flat o.block_nesting_limit Stop (FlowSequenceFrame false ∷ fs) NoProperties (Alias name)
    (at_of false s (at_kind l (lexemes.Alias name) key)) (at_item h) e
item_flat true (lexemes.Anchor name) key s l o fs h e =
    part_flat o.block_nesting_limit Stop (FlowMappingFrame true Key ∷ FlowSequenceFrame false ∷ fs) NoProperties
    (Property (Anchor name)) (at_of true s (at_kind l (lexemes.Anchor name) key)) (made_key h) e
item_flat false (lexemes.Anchor name) key s l o fs h e =
    part_flat o.block_nesting_limit Stop (FlowSequenceFrame false ∷ fs) NoProperties (Property (Anchor name))
    (at_of false s (at_kind l (lexemes.Anchor name) key)) (at_item h) e
item_flat true (lexemes.Tag handle suffix) key s l o fs h e =
    part_flat o.block_nesting_limit Stop (FlowMappingFrame true Key ∷ FlowSequenceFrame false ∷ fs) NoProperties
    (Property (Tag handle suffix)) (at_of true s (at_kind l (lexemes.Tag handle suffix) key)) (made_key h) e
item_flat false (lexemes.Tag handle suffix) key s l o fs h e =
    part_flat o.block_nesting_limit Stop (FlowSequenceFrame false ∷ fs) NoProperties (Property (Tag handle suffix))
    (at_of false s (at_kind l (lexemes.Tag handle suffix) key)) (at_item h) e
item_flat true (lexemes.Scalar style text) key s l o fs h e =
    part_flat o.block_nesting_limit Stop (FlowMappingFrame true Key ∷ FlowSequenceFrame false ∷ fs) NoProperties
    (Scalar style text) (at_of true s (at_kind l (lexemes.Scalar style text) key)) (made_key h) e
item_flat false (lexemes.Scalar style text) key s l o fs h e =
    part_flat o.block_nesting_limit Stop (FlowSequenceFrame false ∷ fs) NoProperties (Scalar style text)
    (at_of false s (at_kind l (lexemes.Scalar style text) key)) (at_item h) e

pub curly_flat :
    (b : Bool) (k : lexemes.LexemeKind) (key : Option KeyStart) (s : Scope) (l : lexemes.Lexeme) (o : OptionsData)
    (fs : List OpenFrame) → Holes fs → nat_le (blocks_open fs) o.block_nesting_limit ≡ true →
    Flat o.block_nesting_limit
    (taken (ended_by (met_as b k key s l) (InFrames (FlowMappingFrame false Opened ∷ fs))) (met_as b k key s l))
curly_flat b (lexemes.Directive directive) key s l o fs h e = tt
curly_flat b lexemes.DocumentStart key s l o fs h e = tt
curly_flat b lexemes.DocumentEnd key s l o fs h e = tt
curly_flat b lexemes.StreamEnd key s l o fs h e = tt
curly_flat b lexemes.Comma key s l o fs h e = tt
curly_flat b (lexemes.Close Square) key s l o fs h e = tt
curly_flat b (lexemes.Close Curly) key s l o fs h e =
    count_flat o.block_nesting_limit (blocks_open fs) (put_frames l.shown.end fs) (put_count l.shown.end fs h) e
curly_flat b lexemes.Dash key s l o fs h e = tt
curly_flat b lexemes.Question key s l o fs h e =
    count_flat o.block_nesting_limit (blocks_open fs) (InFrames (FlowMappingFrame false Asking ∷ fs)) refl e
curly_flat b lexemes.Colon None s l o fs h e =
    count_flat o.block_nesting_limit (blocks_open fs) (InFrames (FlowMappingFrame false (Value l.start) ∷ fs)) refl e
curly_flat b lexemes.Colon (Some n) s l o fs h e = tt
curly_flat true (lexemes.Open Square) key s l o fs h e =
    part_flat o.block_nesting_limit Stop (FlowMappingFrame false Key ∷ fs) NoProperties (Open Square)
    (at_of true s (at_kind l (lexemes.Open Square) key)) (curly_key h) e
curly_flat false (lexemes.Open Square) key s l o fs h e =
    part_flat o.block_nesting_limit Stop (FlowMappingFrame false Opened ∷ fs) NoProperties (Open Square)
    (at_of false s (at_kind l (lexemes.Open Square) key)) (at_curly h) e
curly_flat true (lexemes.Open Curly) key s l o fs h e =
    part_flat o.block_nesting_limit Stop (FlowMappingFrame false Key ∷ fs) NoProperties (Open Curly)
    (at_of true s (at_kind l (lexemes.Open Curly) key)) (curly_key h) e
curly_flat false (lexemes.Open Curly) key s l o fs h e =
    part_flat o.block_nesting_limit Stop (FlowMappingFrame false Opened ∷ fs) NoProperties (Open Curly)
    (at_of false s (at_kind l (lexemes.Open Curly) key)) (at_curly h) e
curly_flat true (lexemes.Alias name) key s l o fs h e =
    part_flat o.block_nesting_limit Stop (FlowMappingFrame false Key ∷ fs) NoProperties (Alias name)
    (at_of true s (at_kind l (lexemes.Alias name) key)) (curly_key h) e
curly_flat false (lexemes.Alias name) key s l o fs h e =
    part_flat o.block_nesting_limit Stop (FlowMappingFrame false Opened ∷ fs) NoProperties (Alias name)
    (at_of false s (at_kind l (lexemes.Alias name) key)) (at_curly h) e
curly_flat true (lexemes.Anchor name) key s l o fs h e =
    part_flat o.block_nesting_limit Stop (FlowMappingFrame false Key ∷ fs) NoProperties (Property (Anchor name))
    (at_of true s (at_kind l (lexemes.Anchor name) key)) (curly_key h) e
curly_flat false (lexemes.Anchor name) key s l o fs h e =
    part_flat o.block_nesting_limit Stop (FlowMappingFrame false Opened ∷ fs) NoProperties (Property (Anchor name))
    (at_of false s (at_kind l (lexemes.Anchor name) key)) (at_curly h) e
curly_flat true (lexemes.Tag handle suffix) key s l o fs h e =
    part_flat o.block_nesting_limit Stop (FlowMappingFrame false Key ∷ fs) NoProperties (Property (Tag handle suffix))
    (at_of true s (at_kind l (lexemes.Tag handle suffix) key)) (curly_key h) e
curly_flat false (lexemes.Tag handle suffix) key s l o fs h e =
    part_flat o.block_nesting_limit Stop (FlowMappingFrame false Opened ∷ fs) NoProperties
    (Property (Tag handle suffix)) (at_of false s (at_kind l (lexemes.Tag handle suffix) key)) (at_curly h) e
curly_flat true (lexemes.Scalar style text) key s l o fs h e =
    part_flat o.block_nesting_limit Stop (FlowMappingFrame false Key ∷ fs) NoProperties (Scalar style text)
    (at_of true s (at_kind l (lexemes.Scalar style text) key)) (curly_key h) e
curly_flat false (lexemes.Scalar style text) key s l o fs h e =
    part_flat o.block_nesting_limit Stop (FlowMappingFrame false Opened ∷ fs) NoProperties (Scalar style text)
    (at_of false s (at_kind l (lexemes.Scalar style text) key)) (at_curly h) e

pub curly_asked_flat :
    (b : Bool) (k : lexemes.LexemeKind) (key : Option KeyStart) (s : Scope) (l : lexemes.Lexeme) (o : OptionsData)
    (fs : List OpenFrame) → Holes fs → nat_le (blocks_open fs) o.block_nesting_limit ≡ true →
    Flat o.block_nesting_limit
    (taken (ended_by (met_as b k key s l) (InFrames (FlowMappingFrame false Asking ∷ fs))) (met_as b k key s l))
curly_asked_flat b (lexemes.Directive directive) key s l o fs h e = tt
curly_asked_flat b lexemes.DocumentStart key s l o fs h e = tt
curly_asked_flat b lexemes.DocumentEnd key s l o fs h e = tt
curly_asked_flat b lexemes.StreamEnd key s l o fs h e = tt
curly_asked_flat b lexemes.Comma key s l o fs h e =
    count_flat o.block_nesting_limit (blocks_open fs) (InFrames (FlowMappingFrame false Opened ∷ fs)) refl e
curly_asked_flat b (lexemes.Close Square) key s l o fs h e = tt
curly_asked_flat b (lexemes.Close Curly) key s l o fs h e =
    count_flat o.block_nesting_limit (blocks_open fs) (put_frames l.shown.end fs) (put_count l.shown.end fs h) e
curly_asked_flat b lexemes.Dash key s l o fs h e = tt
curly_asked_flat b lexemes.Question key s l o fs h e = tt
curly_asked_flat b lexemes.Colon None s l o fs h e =
    count_flat o.block_nesting_limit (blocks_open fs) (InFrames (FlowMappingFrame false (Value l.start) ∷ fs)) refl e
curly_asked_flat b lexemes.Colon (Some n) s l o fs h e = tt
curly_asked_flat true (lexemes.Open Square) key s l o fs h e = tt
curly_asked_flat false (lexemes.Open Square) key s l o fs h e =
    part_flat o.block_nesting_limit Stop (FlowMappingFrame false Asking ∷ fs) NoProperties (Open Square)
    (at_of false s (at_kind l (lexemes.Open Square) key)) (curly_asked h) e
curly_asked_flat true (lexemes.Open Curly) key s l o fs h e = tt
curly_asked_flat false (lexemes.Open Curly) key s l o fs h e =
    part_flat o.block_nesting_limit Stop (FlowMappingFrame false Asking ∷ fs) NoProperties (Open Curly)
    (at_of false s (at_kind l (lexemes.Open Curly) key)) (curly_asked h) e
curly_asked_flat true (lexemes.Alias name) key s l o fs h e = tt
curly_asked_flat false (lexemes.Alias name) key s l o fs h e =
    part_flat o.block_nesting_limit Stop (FlowMappingFrame false Asking ∷ fs) NoProperties (Alias name)
    (at_of false s (at_kind l (lexemes.Alias name) key)) (curly_asked h) e
curly_asked_flat true (lexemes.Anchor name) key s l o fs h e = tt
curly_asked_flat false (lexemes.Anchor name) key s l o fs h e =
    part_flat o.block_nesting_limit Stop (FlowMappingFrame false Asking ∷ fs) NoProperties (Property (Anchor name))
    (at_of false s (at_kind l (lexemes.Anchor name) key)) (curly_asked h) e
curly_asked_flat true (lexemes.Tag handle suffix) key s l o fs h e = tt
curly_asked_flat false (lexemes.Tag handle suffix) key s l o fs h e =
    part_flat o.block_nesting_limit Stop (FlowMappingFrame false Asking ∷ fs) NoProperties
    (Property (Tag handle suffix)) (at_of false s (at_kind l (lexemes.Tag handle suffix) key)) (curly_asked h) e
curly_asked_flat true (lexemes.Scalar style text) key s l o fs h e = tt
curly_asked_flat false (lexemes.Scalar style text) key s l o fs h e =
    part_flat o.block_nesting_limit Stop (FlowMappingFrame false Asking ∷ fs) NoProperties (Scalar style text)
    (at_of false s (at_kind l (lexemes.Scalar style text) key)) (curly_asked h) e

pub curly_value_flat :
    (b : Bool) (k : lexemes.LexemeKind) (key : Option KeyStart) (s : Scope) (l : lexemes.Lexeme) (o : OptionsData)
    (w : Mark)
    (fs : List OpenFrame) → Holes fs → nat_le (blocks_open fs) o.block_nesting_limit ≡ true →
    Flat o.block_nesting_limit
    (taken (ended_by (met_as b k key s l) (InFrames (FlowMappingFrame false (Value w) ∷ fs))) (met_as b k key s l))
curly_value_flat b (lexemes.Directive directive) key s l o w fs h e = tt
curly_value_flat b lexemes.DocumentStart key s l o w fs h e = tt
curly_value_flat b lexemes.DocumentEnd key s l o w fs h e = tt
curly_value_flat b lexemes.StreamEnd key s l o w fs h e = tt
curly_value_flat b lexemes.Comma key s l o w fs h e =
    count_flat o.block_nesting_limit (blocks_open fs) (InFrames (FlowMappingFrame false Opened ∷ fs)) refl e
curly_value_flat b (lexemes.Close Square) key s l o w fs h e = tt
curly_value_flat b (lexemes.Close Curly) key s l o w fs h e =
    count_flat o.block_nesting_limit (blocks_open fs) (put_frames l.shown.end fs) (put_count l.shown.end fs h) e
curly_value_flat b lexemes.Dash key s l o w fs h e = tt
curly_value_flat b lexemes.Question key s l o w fs h e = tt
curly_value_flat b lexemes.Colon None s l o w fs h e = tt
curly_value_flat b lexemes.Colon (Some n) s l o w fs h e = tt
curly_value_flat true (lexemes.Open Square) key s l o w fs h e = tt
curly_value_flat false (lexemes.Open Square) key s l o w fs h e =
    part_flat o.block_nesting_limit Stop (FlowMappingFrame false (Value w) ∷ fs) NoProperties (Open Square)
    (at_of false s (at_kind l (lexemes.Open Square) key)) (curly_value h) e
curly_value_flat true (lexemes.Open Curly) key s l o w fs h e = tt
curly_value_flat false (lexemes.Open Curly) key s l o w fs h e =
    part_flat o.block_nesting_limit Stop (FlowMappingFrame false (Value w) ∷ fs) NoProperties (Open Curly)
    (at_of false s (at_kind l (lexemes.Open Curly) key)) (curly_value h) e
curly_value_flat true (lexemes.Alias name) key s l o w fs h e = tt
curly_value_flat false (lexemes.Alias name) key s l o w fs h e =
    part_flat o.block_nesting_limit Stop (FlowMappingFrame false (Value w) ∷ fs) NoProperties (Alias name)
    (at_of false s (at_kind l (lexemes.Alias name) key)) (curly_value h) e
curly_value_flat true (lexemes.Anchor name) key s l o w fs h e = tt
curly_value_flat false (lexemes.Anchor name) key s l o w fs h e =
    part_flat o.block_nesting_limit Stop (FlowMappingFrame false (Value w) ∷ fs) NoProperties (Property (Anchor name))
    (at_of false s (at_kind l (lexemes.Anchor name) key)) (curly_value h) e
curly_value_flat true (lexemes.Tag handle suffix) key s l o w fs h e = tt
curly_value_flat false (lexemes.Tag handle suffix) key s l o w fs h e =
    part_flat o.block_nesting_limit Stop (FlowMappingFrame false (Value w) ∷ fs) NoProperties
    (Property (Tag handle suffix)) (at_of false s (at_kind l (lexemes.Tag handle suffix) key)) (curly_value h) e
curly_value_flat true (lexemes.Scalar style text) key s l o w fs h e = tt
curly_value_flat false (lexemes.Scalar style text) key s l o w fs h e =
    part_flat o.block_nesting_limit Stop (FlowMappingFrame false (Value w) ∷ fs) NoProperties (Scalar style text)
    (at_of false s (at_kind l (lexemes.Scalar style text) key)) (curly_value h) e

pub made_value_flat :
    (b : Bool) (k : lexemes.LexemeKind) (key : Option KeyStart) (s : Scope) (l : lexemes.Lexeme) (o : OptionsData)
    (w : Mark)
    (fs : List OpenFrame) → Holes fs → nat_le (blocks_open fs) o.block_nesting_limit ≡ true →
    ((is_comma_kind (terminal_kind k key) || closes_kind Square (terminal_kind k key))
    || closes_kind Curly (terminal_kind k key))
    ≡ false →
    Flat o.block_nesting_limit
    (taken (ended_by (met_as b k key s l) (InFrames (FlowMappingFrame true (Value w) ∷ FlowSequenceFrame false ∷ fs)))
    (met_as b k key s l))
made_value_flat b (lexemes.Directive directive) key s l o w fs h e f = tt
made_value_flat b lexemes.DocumentStart key s l o w fs h e f = tt
made_value_flat b lexemes.DocumentEnd key s l o w fs h e f = tt
made_value_flat b lexemes.StreamEnd key s l o w fs h e f = tt
made_value_flat b lexemes.Comma key s l o w fs h e f = cc (f)
made_value_flat b (lexemes.Close Square) key s l o w fs h e f = cc (f)
made_value_flat b (lexemes.Close Curly) key s l o w fs h e f = cc (f)
made_value_flat b lexemes.Dash key s l o w fs h e f = tt
made_value_flat b lexemes.Question key s l o w fs h e f = tt
made_value_flat b lexemes.Colon None s l o w fs h e f = tt
made_value_flat b lexemes.Colon (Some n) s l o w fs h e f = tt
made_value_flat true (lexemes.Open Square) key s l o w fs h e f = tt
made_value_flat false (lexemes.Open Square) key s l o w fs h e f =
    part_flat o.block_nesting_limit Stop (FlowMappingFrame true (Value w) ∷ FlowSequenceFrame false ∷ fs) NoProperties
    (Open Square) (at_of false s (at_kind l (lexemes.Open Square) key)) (made_value h) e
made_value_flat true (lexemes.Open Curly) key s l o w fs h e f = tt
made_value_flat false (lexemes.Open Curly) key s l o w fs h e f =
    part_flat o.block_nesting_limit Stop (FlowMappingFrame true (Value w) ∷ FlowSequenceFrame false ∷ fs) NoProperties
    (Open Curly) (at_of false s (at_kind l (lexemes.Open Curly) key)) (made_value h) e
made_value_flat true (lexemes.Alias name) key s l o w fs h e f = tt
made_value_flat false (lexemes.Alias name) key s l o w fs h e f =
    part_flat o.block_nesting_limit Stop (FlowMappingFrame true (Value w) ∷ FlowSequenceFrame false ∷ fs) NoProperties
    (Alias name) (at_of false s (at_kind l (lexemes.Alias name) key)) (made_value h) e
made_value_flat true (lexemes.Anchor name) key s l o w fs h e f = tt
made_value_flat false (lexemes.Anchor name) key s l o w fs h e f =
    part_flat o.block_nesting_limit Stop (FlowMappingFrame true (Value w) ∷ FlowSequenceFrame false ∷ fs) NoProperties
    (Property (Anchor name)) (at_of false s (at_kind l (lexemes.Anchor name) key)) (made_value h) e
made_value_flat true (lexemes.Tag handle suffix) key s l o w fs h e f = tt
made_value_flat false (lexemes.Tag handle suffix) key s l o w fs h e f =
    part_flat o.block_nesting_limit Stop (FlowMappingFrame true (Value w) ∷ FlowSequenceFrame false ∷ fs) NoProperties
    (Property (Tag handle suffix)) (at_of false s (at_kind l (lexemes.Tag handle suffix) key)) (made_value h) e
made_value_flat true (lexemes.Scalar style text) key s l o w fs h e f = tt
made_value_flat false (lexemes.Scalar style text) key s l o w fs h e f =
    part_flat o.block_nesting_limit Stop (FlowMappingFrame true (Value w) ∷ FlowSequenceFrame false ∷ fs) NoProperties
    (Scalar style text) (at_of false s (at_kind l (lexemes.Scalar style text) key)) (made_value h) e

pub pair_asked_flat :
    (b : Bool) (k : lexemes.LexemeKind) (key : Option KeyStart) (s : Scope) (l : lexemes.Lexeme) (o : OptionsData)
    (fs : List OpenFrame) → Holes fs → nat_le (blocks_open fs) o.block_nesting_limit ≡ true →
    (is_comma_kind (terminal_kind k key) || closes_kind Square (terminal_kind k key)) ≡ false →
    Flat o.block_nesting_limit
    (taken (ended_by (met_as b k key s l) (InFrames (FlowPairFrame Asking ∷ FlowSequenceFrame false ∷ fs)))
    (met_as b k key s l))
pair_asked_flat b (lexemes.Directive directive) key s l o fs h e f = tt
pair_asked_flat b lexemes.DocumentStart key s l o fs h e f = tt
pair_asked_flat b lexemes.DocumentEnd key s l o fs h e f = tt
pair_asked_flat b lexemes.StreamEnd key s l o fs h e f = tt
pair_asked_flat b lexemes.Comma key s l o fs h e f = cc (f)
pair_asked_flat b (lexemes.Close Square) key s l o fs h e f = cc (f)
pair_asked_flat b (lexemes.Close Curly) key s l o fs h e f = tt
pair_asked_flat b lexemes.Dash key s l o fs h e f = tt
pair_asked_flat b lexemes.Question key s l o fs h e f = tt
pair_asked_flat b lexemes.Colon None s l o fs h e f = tt
pair_asked_flat b lexemes.Colon (Some n) s l o fs h e f = tt
pair_asked_flat true (lexemes.Open Square) key s l o fs h e f = tt
pair_asked_flat false (lexemes.Open Square) key s l o fs h e f =
    part_flat o.block_nesting_limit Stop (FlowPairFrame Asking ∷ FlowSequenceFrame false ∷ fs) NoProperties
    (Open Square) (at_of false s (at_kind l (lexemes.Open Square) key)) (pair_asked h) e
pair_asked_flat true (lexemes.Open Curly) key s l o fs h e f = tt
pair_asked_flat false (lexemes.Open Curly) key s l o fs h e f =
    part_flat o.block_nesting_limit Stop (FlowPairFrame Asking ∷ FlowSequenceFrame false ∷ fs) NoProperties (Open Curly)
    (at_of false s (at_kind l (lexemes.Open Curly) key)) (pair_asked h) e
pair_asked_flat true (lexemes.Alias name) key s l o fs h e f = tt
pair_asked_flat false (lexemes.Alias name) key s l o fs h e f =
    part_flat o.block_nesting_limit Stop (FlowPairFrame Asking ∷ FlowSequenceFrame false ∷ fs) NoProperties (Alias name)
    (at_of false s (at_kind l (lexemes.Alias name) key)) (pair_asked h) e
pair_asked_flat true (lexemes.Anchor name) key s l o fs h e f = tt
pair_asked_flat false (lexemes.Anchor name) key s l o fs h e f =
    part_flat o.block_nesting_limit Stop (FlowPairFrame Asking ∷ FlowSequenceFrame false ∷ fs) NoProperties
    (Property (Anchor name)) (at_of false s (at_kind l (lexemes.Anchor name) key)) (pair_asked h) e
pair_asked_flat true (lexemes.Tag handle suffix) key s l o fs h e f = tt
pair_asked_flat false (lexemes.Tag handle suffix) key s l o fs h e f =
    part_flat o.block_nesting_limit Stop (FlowPairFrame Asking ∷ FlowSequenceFrame false ∷ fs) NoProperties
    (Property (Tag handle suffix)) (at_of false s (at_kind l (lexemes.Tag handle suffix) key)) (pair_asked h) e
pair_asked_flat true (lexemes.Scalar style text) key s l o fs h e f = tt
pair_asked_flat false (lexemes.Scalar style text) key s l o fs h e f =
    part_flat o.block_nesting_limit Stop (FlowPairFrame Asking ∷ FlowSequenceFrame false ∷ fs) NoProperties
    (Scalar style text) (at_of false s (at_kind l (lexemes.Scalar style text) key)) (pair_asked h) e

pub pair_value_flat :
    (b : Bool) (k : lexemes.LexemeKind) (key : Option KeyStart) (s : Scope) (l : lexemes.Lexeme) (o : OptionsData)
    (w : Mark)
    (fs : List OpenFrame) → Holes fs → nat_le (blocks_open fs) o.block_nesting_limit ≡ true →
    (is_comma_kind (terminal_kind k key) || closes_kind Square (terminal_kind k key)) ≡ false →
    Flat o.block_nesting_limit
    (taken (ended_by (met_as b k key s l) (InFrames (FlowPairFrame (Value w) ∷ FlowSequenceFrame false ∷ fs)))
    (met_as b k key s l))
pair_value_flat b (lexemes.Directive directive) key s l o w fs h e f = tt
pair_value_flat b lexemes.DocumentStart key s l o w fs h e f = tt
pair_value_flat b lexemes.DocumentEnd key s l o w fs h e f = tt
pair_value_flat b lexemes.StreamEnd key s l o w fs h e f = tt
pair_value_flat b lexemes.Comma key s l o w fs h e f = cc (f)
pair_value_flat b (lexemes.Close Square) key s l o w fs h e f = cc (f)
pair_value_flat b (lexemes.Close Curly) key s l o w fs h e f = tt
pair_value_flat b lexemes.Dash key s l o w fs h e f = tt
pair_value_flat b lexemes.Question key s l o w fs h e f = tt
pair_value_flat b lexemes.Colon None s l o w fs h e f = tt
pair_value_flat b lexemes.Colon (Some n) s l o w fs h e f = tt
pair_value_flat true (lexemes.Open Square) key s l o w fs h e f = tt
pair_value_flat false (lexemes.Open Square) key s l o w fs h e f =
    part_flat o.block_nesting_limit Stop (FlowPairFrame (Value w) ∷ FlowSequenceFrame false ∷ fs) NoProperties
    (Open Square) (at_of false s (at_kind l (lexemes.Open Square) key)) (pair_value h) e
pair_value_flat true (lexemes.Open Curly) key s l o w fs h e f = tt
pair_value_flat false (lexemes.Open Curly) key s l o w fs h e f =
    part_flat o.block_nesting_limit Stop (FlowPairFrame (Value w) ∷ FlowSequenceFrame false ∷ fs) NoProperties
    (Open Curly) (at_of false s (at_kind l (lexemes.Open Curly) key)) (pair_value h) e
pair_value_flat true (lexemes.Alias name) key s l o w fs h e f = tt
pair_value_flat false (lexemes.Alias name) key s l o w fs h e f =
    part_flat o.block_nesting_limit Stop (FlowPairFrame (Value w) ∷ FlowSequenceFrame false ∷ fs) NoProperties
    (Alias name) (at_of false s (at_kind l (lexemes.Alias name) key)) (pair_value h) e
pair_value_flat true (lexemes.Anchor name) key s l o w fs h e f = tt
pair_value_flat false (lexemes.Anchor name) key s l o w fs h e f =
    part_flat o.block_nesting_limit Stop (FlowPairFrame (Value w) ∷ FlowSequenceFrame false ∷ fs) NoProperties
    (Property (Anchor name)) (at_of false s (at_kind l (lexemes.Anchor name) key)) (pair_value h) e
pair_value_flat true (lexemes.Tag handle suffix) key s l o w fs h e f = tt
pair_value_flat false (lexemes.Tag handle suffix) key s l o w fs h e f =
    part_flat o.block_nesting_limit Stop (FlowPairFrame (Value w) ∷ FlowSequenceFrame false ∷ fs) NoProperties
    (Property (Tag handle suffix)) (at_of false s (at_kind l (lexemes.Tag handle suffix) key)) (pair_value h) e
pair_value_flat true (lexemes.Scalar style text) key s l o w fs h e f = tt
pair_value_flat false (lexemes.Scalar style text) key s l o w fs h e f =
    part_flat o.block_nesting_limit Stop (FlowPairFrame (Value w) ∷ FlowSequenceFrame false ∷ fs) NoProperties
    (Scalar style text) (at_of false s (at_kind l (lexemes.Scalar style text) key)) (pair_value h) e
