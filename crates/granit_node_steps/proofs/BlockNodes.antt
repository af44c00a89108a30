-- A lexeme of a node where one may stand outside flow: it begins a block mapping with its simple key, or it is taken.
use Rattle.granit_views.specs.Good.{Holes, at_root, at_entry, at_key, at_asked, at_value, at_item, at_curly}
use Rattle.granit_views.specs.Good.{curly_key, curly_asked, curly_value, made_key, made_value, pair_asked}
use Rattle.granit_views.specs.Good.{pair_value}
use Rattle.granit_views.specs.Stepping.{MeansView, LimitView}
use Rattle.granit_views.specs.Steps.{topped}
use Rattle.granit_event_machine.specs.EventMachine.{Key, OpenFrame, PropertiesFrame, MappingFrame, InFrames, EventState}
use Rattle.granit_event_machine.specs.EventMachine.{EventStep, GoesTo, StopsWith, after_events, frames_indent}
use Rattle.granit_event_machine.specs.EventMachine.{put_frames}
use Rattle.granit_event_machine.specs.EventMachine.{flow_frame, part_frames}
use Rattle.granit_event_machine.specs.Guarded.{blocks_open, state_count, is_loose, fault_unless, first_fault}
use Rattle.granit_language.specs.GrammarFault.{GrammarFault, TooManyBlocks}
use Rattle.granit_language.specs.Node.{TreeProperties, NoProperties, One, Two}
use Rattle.granit_language.specs.Scoping.{scope_fault}
use Rattle.granit_language.specs.Telling.{indent_told, event_told}
use Rattle.granit_language.specs.Terminal.{Anchor, Tag, PartKind, Alias, Property, Scalar, Open, At}
use Rattle.granit_language.specs.TreeEvents.{TreeEvent, mapping_start}
use Rattle.granit_lexemes.specs.declared.layout.Bracket.TheVariants.{Square, Curly}
use Rattle.granit_machine.specs.Frames.{ParserState}
use Rattle.granit_machine.specs.NodeEnds.{block_mapping, begin_block, empty_span}
use Rattle.granit_machine.specs.NodeSteps.{bare, node}
use Rattle.std.proofs.Common.{◌≡◌, ℕ, suc, Bool, true, false, List, [], ◌∷◌, ◌++◌, refl, sym, ap, ap₂, ◌∙◌, subst}
use Rattle.std.proofs.Common.{Option, Some, None, Result}
use Rattle.std.specs.Prelude.{nat_le}
use Rattle.granit_base.specs.Place.{Mark}
use Rattle.granit_base.specs.Written.{Written}
use Rattle.granit_base.specs.declared.style.ScalarStyle.{ScalarStyle}
use Rattle.granit_lexemes.specs.Outcome.{Fault, ◌>>=◌}
use Rattle.granit_lexemes.specs.Lexeme as lexemes
use Rattle.granit_machine.specs.Frames as machine
use Rattle.granit_views.proofs.Arrivals.{Arrival, arriving, arriving_token, beside_at, parser_at, PartsAgree}
use Rattle.granit_node_steps.proofs.BlockBegins.{Limited, limited_by, full_limit, free_limit}
use Rattle.granit_node_steps.proofs.PartSteps.{HeadGiven, framed, scalar_parts, square_parts, curly_parts, anchor_parts}
use Rattle.granit_node_steps.proofs.PartSteps.{tag_parts, alias_parts}
use Rattle.granit_views.proofs.Pops.{node_head}
use Rattle.granit_views.proofs.Standing.{popped}
use Rattle.granit_views.proofs.Views.{Flat, count_flat, means_limited, event_before}

-- ---- how many block collections are open behind a lexeme of a node

pub put_count : (e : Mark) (fs : List OpenFrame) → Holes fs → state_count (put_frames e fs) ≡ blocks_open fs
put_count e fs at_root = refl
put_count e fs (at_entry p h) = refl
put_count e fs (at_key p h) = refl
put_count e fs (at_asked p h) = refl
put_count e fs (at_value p h) = refl
put_count e fs (at_item h) = refl
put_count e fs (at_curly h) = refl
put_count e fs (curly_key h) = refl
put_count e fs (curly_asked h) = refl
put_count e fs (curly_value h) = refl
put_count e fs (made_key h) = refl
put_count e fs (made_value h) = refl
put_count e fs (pair_asked h) = refl
put_count e fs (pair_value h) = refl

-- one block collection more, that is no indentless sequence
abbrev OneMore : ℕ → EventStep → Type 0
OneMore d (GoesTo st es) = (state_count st ≡ suc d) × (is_loose st ≡ false)
OneMore d (StopsWith k) = ⊥

-- ---- a simple key's first lexeme

abbrev pub KeyHole : lexemes.Lexeme → List OpenFrame → List OpenFrame
KeyHole l fs = MappingFrame (suc l.start.place.column) Key ∷ fs

abbrev pub KeyEvent : lexemes.LexemeKind → Arrival → TreeProperties → List OpenFrame → TreeEvent
KeyEvent k a p fs = mapping_start p (arriving true k None a) (frames_indent fs)

-- behind that event
abbrev key_begun : lexemes.LexemeKind → TreeProperties → List OpenFrame → Arrival → Arrival
key_begun k p fs a =
    record a { last = a.lexeme.start; given = a.given ++ event_told a.options (KeyEvent k a p fs) }

abbrev KeyBare : lexemes.LexemeKind → TreeProperties → List OpenFrame → Arrival → Result ParserState Fault
KeyBare k p fs a =
    bare a.options (arriving_token true k None a) (parser_at (KeyHole a.lexeme fs) (key_begun k p fs a))

too_many :
    (n d : ℕ) (st : EventState) (f : Option GrammarFault) → nat_le n d ≡ true → state_count st ≡ suc d →
    is_loose st ≡ false →
    first_fault (fault_unless (nat_le (state_count st) n) (TooManyBlocks (is_loose st))) f ≡ Some (TooManyBlocks false)
too_many n d st f e c g =
    ap₂ (λ b loose. first_fault (fault_unless b (TooManyBlocks loose)) f) (ap (λ m. nat_le m n) c ∙ full_limit n d e) g

key_by :
    (k : lexemes.LexemeKind) (a : Arrival) (p : TreeProperties) (fs : List OpenFrame) (y : EventStep) (full : Bool) →
    nat_le a.options.block_nesting_limit (blocks_open fs) ≡ full → OneMore (blocks_open fs) y →
    MeansView a.options (arriving true k None a) (beside_at (key_begun k p fs a)) (KeyBare k p fs a) y →
    LimitView a.options (arriving true k None a) (beside_at a)
    (Limited full a.lexeme.start
    (framed (machine.BlockMapping a.lexeme.start.place.column machine.AtKey)
    (popped a.options fs a.lexeme.start
    (HeadGiven a.options p block_mapping (empty_span a.lexeme.start) (indent_told (frames_indent fs)) a.given)
    (beside_at a)))
    >>= bare a.options (arriving_token true k None a))
    (after_events (KeyEvent k a p fs ∷ []) y)
unfolding node_head
key_by k a p fs (GoesTo st es) true e c h = (
  TooManyBlocks false,
  too_many a.options.block_nesting_limit (blocks_open fs) st
      (scope_fault a.options (arriving true k None a).kind a.scope) e c.0 c.1,
  refl,
)
key_by k a p fs (GoesTo st es) false e c h =
    event_before a.options (arriving true k None a) a.scope a.lexeme.start a.last a.given (KeyEvent k a p fs)
    (KeyBare k p fs a) (GoesTo st es)
    (means_limited a.options (arriving true k None a) (beside_at (key_begun k p fs a)) (KeyBare k p fs a)
    (GoesTo st es) h
    (count_flat a.options.block_nesting_limit (suc (blocks_open fs)) st c.0
    (free_limit a.options.block_nesting_limit (blocks_open fs) e)))
key_by k a p fs (StopsWith n) full e c h = absurd c

-- the block mapping begins, and the lexeme is taken as its key's first
abbrev pub KeyTaken :
    PartKind → lexemes.LexemeKind → Arrival → TreeProperties → List OpenFrame → GrammarFault → EventStep
KeyTaken m k a p fs stop =
    after_events (KeyEvent k a p fs ∷ [])
    (part_frames stop (KeyHole a.lexeme fs) NoProperties m (arriving true k None a).at)

abbrev pub KeyNode : PartKind → lexemes.LexemeKind → Type 0
KeyNode m k =
    (a : Arrival) (p : TreeProperties) (fs : List OpenFrame) (stop : GrammarFault) → Holes fs →
    LimitView a.options (arriving true k None a) (beside_at a)
    (node a.options (arriving_token true k None a) (parser_at (topped p fs) a)) (KeyTaken m k a p fs stop)

abbrev KeyResult :
    PartKind → lexemes.LexemeKind → Arrival → TreeProperties → List OpenFrame → GrammarFault →
    Result ParserState Fault → Type 0
KeyResult m k a p fs stop r =
    LimitView a.options (arriving true k None a) (beside_at a)
    (r >>= bare a.options (arriving_token true k None a)) (KeyTaken m k a p fs stop)

key_begins :
    (m : PartKind) (k : lexemes.LexemeKind) (a : Arrival) (p : TreeProperties) (fs : List OpenFrame)
    (stop : GrammarFault) → Holes fs →
    OneMore (blocks_open fs) (part_frames stop (KeyHole a.lexeme fs) NoProperties m (arriving true k None a).at) →
    PartsAgree true m k (key_begun k p fs a) NoProperties (KeyHole a.lexeme fs) stop →
    KeyResult m k a p fs stop
    (begin_block a.options block_mapping a.lexeme.start
    (machine.BlockMapping a.lexeme.start.place.column machine.AtKey) (parser_at (topped p fs) a))
key_begins m k a p fs stop h c e =
    subst (KeyResult m k a p fs stop)
    (sym
    (limited_by a.options block_mapping a.lexeme.start
    (machine.BlockMapping a.lexeme.start.place.column machine.AtKey) p fs
    (beside_at a) (nat_le a.options.block_nesting_limit (blocks_open fs)) h refl))
    (key_by k a p fs (part_frames stop (KeyHole a.lexeme fs) NoProperties m (arriving true k None a).at)
    (nat_le a.options.block_nesting_limit (blocks_open fs)) refl c e)

pub scalar_key : (style : ScalarStyle) (text : Written) → KeyNode (Scalar style text) (lexemes.Scalar style text)
scalar_key style text a p fs stop h =
    let k = lexemes.Scalar style text in
    key_begins (Scalar style text) k a p fs stop h (refl, refl)
    (scalar_parts true style text (key_begun k p fs a) NoProperties (KeyHole a.lexeme fs) stop (at_key tt h))

pub square_key : KeyNode (Open Square) (lexemes.Open Square)
square_key a p fs stop h =
    key_begins (Open Square) (lexemes.Open Square) a p fs stop h (refl, refl)
    (square_parts true (key_begun (lexemes.Open Square) p fs a) NoProperties (KeyHole a.lexeme fs) stop (at_key tt h))

pub curly_key_node : KeyNode (Open Curly) (lexemes.Open Curly)
curly_key_node a p fs stop h =
    key_begins (Open Curly) (lexemes.Open Curly) a p fs stop h (refl, refl)
    (curly_parts true (key_begun (lexemes.Open Curly) p fs a) NoProperties (KeyHole a.lexeme fs) stop (at_key tt h))

pub anchor_key : (name : Written) → KeyNode (Property (Anchor name)) (lexemes.Anchor name)
anchor_key name a p fs stop h =
    let k = lexemes.Anchor name in
    key_begins (Property (Anchor name)) k a p fs stop h (refl, refl)
    (anchor_parts true name (key_begun k p fs a) NoProperties (KeyHole a.lexeme fs) stop (at_key tt h) refl)

pub tag_key : (handle suffix : List ℕ) → KeyNode (Property (Tag handle suffix)) (lexemes.Tag handle suffix)
tag_key handle suffix a p fs stop h =
    let k = lexemes.Tag handle suffix in
    key_begins (Property (Tag handle suffix)) k a p fs stop h (refl, refl)
    (tag_parts true handle suffix (key_begun k p fs a) NoProperties (KeyHole a.lexeme fs) stop (at_key tt h) refl)

pub alias_key : (name : Written) → KeyNode (Alias name) (lexemes.Alias name)
alias_key name a p fs stop h =
    let k = lexemes.Alias name in
    key_begins (Alias name) k a p fs stop h (refl, refl)
    (alias_parts true name (key_begun k p fs a) (KeyHole a.lexeme fs) stop (at_key tt h))

-- ---- another lexeme of a node

-- what is taken keeps the limit
pub part_flat :
    (n : ℕ) (stop : GrammarFault) (fs : List OpenFrame) (p : TreeProperties) (m : PartKind) (i : At) → Holes fs →
    nat_le (blocks_open fs) n ≡ true → Flat n (part_frames stop fs p m i)
part_flat n stop fs NoProperties (Alias name) i h e =
    count_flat n (blocks_open fs) (put_frames i.shown.end fs) (put_count i.shown.end fs h) e
part_flat n stop fs (One k j) (Alias name) i h e = tt
part_flat n stop fs (Two k j m q) (Alias name) i h e = tt
part_flat n stop fs NoProperties (Property k) i h e =
    count_flat n (blocks_open fs) (InFrames (PropertiesFrame (One k i) ∷ fs)) refl e
part_flat n stop fs (One (Anchor a) j) (Property (Anchor name)) i h e = tt
part_flat n stop fs (One (Anchor a) j) (Property (Tag u v)) i h e =
    count_flat n (blocks_open fs) (InFrames (PropertiesFrame (Two (Anchor a) j (Tag u v) i) ∷ fs)) refl e
part_flat n stop fs (One (Tag u v) j) (Property (Anchor name)) i h e =
    count_flat n (blocks_open fs) (InFrames (PropertiesFrame (Two (Tag u v) j (Anchor name) i) ∷ fs)) refl e
part_flat n stop fs (One (Tag u v) j) (Property (Tag x y)) i h e = tt
part_flat n stop fs (Two k j m q) (Property r) i h e = tt
part_flat n stop fs NoProperties (Scalar style text) i h e =
    count_flat n (blocks_open fs) (put_frames i.shown.end fs) (put_count i.shown.end fs h) e
part_flat n stop fs (One k j) (Scalar style text) i h e =
    count_flat n (blocks_open fs) (put_frames i.shown.end fs) (put_count i.shown.end fs h) e
part_flat n stop fs (Two k j m q) (Scalar style text) i h e =
    count_flat n (blocks_open fs) (put_frames i.shown.end fs) (put_count i.shown.end fs h) e
part_flat n stop fs NoProperties (Open Square) i h e =
    count_flat n (blocks_open fs) (InFrames (flow_frame Square ∷ fs)) refl e
part_flat n stop fs (One k j) (Open Square) i h e =
    count_flat n (blocks_open fs) (InFrames (flow_frame Square ∷ fs)) refl e
part_flat n stop fs (Two k j m q) (Open Square) i h e =
    count_flat n (blocks_open fs) (InFrames (flow_frame Square ∷ fs)) refl e
part_flat n stop fs NoProperties (Open Curly) i h e =
    count_flat n (blocks_open fs) (InFrames (flow_frame Curly ∷ fs)) refl e
part_flat n stop fs (One k j) (Open Curly) i h e =
    count_flat n (blocks_open fs) (InFrames (flow_frame Curly ∷ fs)) refl e
part_flat n stop fs (Two k j m q) (Open Curly) i h e =
    count_flat n (blocks_open fs) (InFrames (flow_frame Curly ∷ fs)) refl e

-- the same with the limit
pub part_limited :
    (b : Bool) (m : PartKind) (k : lexemes.LexemeKind) (a : Arrival) (p : TreeProperties) (fs : List OpenFrame)
    (stop : GrammarFault) → Holes fs →
    nat_le (blocks_open fs) a.options.block_nesting_limit ≡ true → PartsAgree b m k a p fs stop →
    LimitView a.options (arriving b k None a) (beside_at a)
    (bare a.options (arriving_token b k None a) (parser_at (topped p fs) a))
    (part_frames stop fs p m (arriving b k None a).at)
part_limited b m k a p fs stop h e f =
    means_limited a.options (arriving b k None a) (beside_at a)
    (bare a.options (arriving_token b k None a) (parser_at (topped p fs) a))
    (part_frames stop fs p m (arriving b k None a).at) f
    (part_flat a.options.block_nesting_limit stop fs p m (arriving b k None a).at h e)
