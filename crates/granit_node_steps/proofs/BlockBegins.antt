-- A block collection begins, where the limit allows one more.
use Rattle.granit_views.specs.Good.{Holes}
use Rattle.granit_views.specs.Stepping.{LimitView, at_kind}
use Rattle.granit_views.specs.Steps.{topped}
use Rattle.granit_views.specs.View.{frames_of, Beside, state_of}
use Rattle.granit_language.specs.Seen.{terminal_of}
use Rattle.granit_event_machine.specs.EventMachine.{GoesTo, Asking, Value, OpenFrame, DocumentFrame, PropertiesFrame}
use Rattle.granit_event_machine.specs.EventMachine.{SequenceFrame, MappingFrame, FlowSequenceFrame, FlowMappingFrame}
use Rattle.granit_event_machine.specs.EventMachine.{FlowPairFrame, InFrames, frames_indent}
use Rattle.granit_event_machine.specs.Guarded.{blocks_open, fault_unless, first_fault}
use Rattle.granit_language.specs.GrammarFault.{TooManyBlocks}
use Rattle.granit_language.specs.Node.{TreeProperties, NoProperties, One, Two}
use Rattle.granit_language.specs.Scope.{Scope}
use Rattle.granit_language.specs.Telling.{indent_told}
use Rattle.granit_language.specs.Terminal.{Terminal}
use Rattle.granit_language.specs.TreeEvents.{mapping_start, null, sequence_start}
use Rattle.granit_machine.specs.Frames.{ParserState}
use Rattle.granit_machine.specs.Giving.{give, null_at}
use Rattle.granit_machine.specs.NodeEnds.{block_mapping, begin_block, empty_span, waits, finish, begin}
use Rattle.granit_machine.specs.NodeSteps.{bare}
use Rattle.granit_machine.specs.TokenSort.{token_of}
use Rattle.std.proofs.lemmas.Bool.Decides.{nat_tests}
use Rattle.std.specs.Prelude.{nat_le}
use Rattle.granit_machine.specs.NodeEnds as machine_ends
use Rattle.granit_node_steps.proofs.PartSteps.{HeadGiven, node_begins, framed}
use Rattle.std.proofs.Common.{arith, ◌≡◌, ℕ, suc, Bool, true, false, List, [], ◌∷◌, refl, sym, ap, ap₂, ◌∙◌, subst}
use Rattle.std.proofs.Common.{Option, Some, None, Result, Ok, Err}
use Rattle.std.specs.Prelude.{if◌then◌else◌}
use Rattle.granit_base.specs.Place.{Mark}
use Rattle.granit_error.specs.FaultKind as refused
use Rattle.granit_error.specs.OptionsData.{OptionsData}
use Rattle.granit_lexemes.specs.Outcome.{Fault, fault_at, ◌>>=◌}
use Rattle.granit_lexemes.specs.PlainEvent as plain
use Rattle.granit_lexemes.specs.PlainEvent.{PlainEvent, PlainTag, event_at}
use Rattle.granit_lexemes.specs.Lexeme as lexemes
use Rattle.granit_machine.specs.Frames as machine
use Rattle.granit_machine.specs.NodeSteps as steps
use Rattle.granit_views.proofs.Pops.{indent_none, node_head, indent_view}
use Rattle.granit_views.proofs.Standing.{popped}

-- the parser counts the same
pub count_view : (o : OptionsData) (fs : List OpenFrame) → machine_ends.block_count (frames_of o fs) ≡ blocks_open fs
count_view o [] = refl
count_view o (DocumentFrame m ∷ fs) = count_view o fs
count_view o (PropertiesFrame p ∷ fs) = count_view o fs
count_view o (SequenceFrame loose c w ∷ fs) = ap suc (count_view o fs)
count_view o (MappingFrame c at ∷ fs) = ap suc (count_view o fs)
count_view o (FlowSequenceFrame d ∷ fs) = count_view o fs
count_view o (FlowMappingFrame single at ∷ fs) = count_view o fs
count_view o (FlowPairFrame at ∷ fs) = count_view o fs

topped_count :
    (o : OptionsData) (p : TreeProperties) (fs : List OpenFrame)
    → machine_ends.block_count (frames_of o (topped p fs)) ≡ blocks_open fs
topped_count o NoProperties fs = count_view o fs
topped_count o (One k i) fs = count_view o fs
topped_count o (Two k i m j) fs = count_view o fs

pub full_limit : (n d : ℕ) → nat_le n d ≡ true → nat_le (suc d) n ≡ false
full_limit n d e = grind (arith, nat_tests)

pub free_limit : (n d : ℕ) → nat_le n d ≡ false → nat_le (suc d) n ≡ true
free_limit n d e = grind (arith, nat_tests)

-- a collection begins behind properties
begun :
    (o : OptionsData) (p : TreeProperties) (kind : ℕ → Option PlainTag → plain.EventKind) (m : Mark) (f : machine.Frame)
    (fs : List OpenFrame) (d : Beside) →
    Holes fs →
    begin o kind (empty_span m) f (state_of o (InFrames (topped p fs)) d)
    ≡ framed f (popped o fs m (HeadGiven o p kind (empty_span m) (indent_told (frames_indent fs)) d.given) d)
begun o p kind m f fs d h =
    ap (framed f) (node_begins o p kind (empty_span m) None fs d h)
    ∙ ap (λ i. framed f (popped o fs m (HeadGiven o p kind (empty_span m) i d.given) d))
    (indent_view o fs None h ∙ indent_none (frames_indent fs))

abbrev pub Limited : Bool → Mark → ParserState → Result ParserState Fault
Limited full m q = if full then Err (fault_at refused.RecursionLimitExceeded m) else Ok q

pub limited_by :
    (o : OptionsData) (kind : ℕ → Option PlainTag → plain.EventKind) (m : Mark) (f : machine.Frame) (p : TreeProperties)
    (fs : List OpenFrame) (d : Beside) (full : Bool) →
    Holes fs → nat_le o.block_nesting_limit (blocks_open fs) ≡ full →
    begin_block o kind m f (state_of o (InFrames (topped p fs)) d)
    ≡ Limited full m
    (framed f (popped o fs m (HeadGiven o p kind (empty_span m) (indent_told (frames_indent fs)) d.given) d))
unfolding begin_block
limited_by o kind m f NoProperties fs d full h e =
    ap₂ (λ b q. Limited b m q) (ap (nat_le o.block_nesting_limit) (topped_count o NoProperties fs) ∙ e)
    (begun o NoProperties kind m f fs d h)
limited_by o kind m f (One k i) fs d full h e =
    ap₂ (λ b q. Limited b m q) (ap (nat_le o.block_nesting_limit) (topped_count o (One k i) fs) ∙ e)
    (begun o (One k i) kind m f fs d h)
limited_by o kind m f (Two k i n j) fs d full h e =
    ap₂ (λ b q. Limited b m q) (ap (nat_le o.block_nesting_limit) (topped_count o (Two k i n j) fs) ∙ e)
    (begun o (Two k i n j) kind m f fs d h)

-- ---- what begins

abbrev On : lexemes.LexemeKind → Bool → Scope → lexemes.Lexeme → Terminal
On k b s l = terminal_of b s (at_kind l k None)

-- the guards of one more block collection
full_guard :
    (n d : ℕ) (loose : Bool) → nat_le n d ≡ true →
    first_fault (fault_unless (nat_le (suc d) n) (TooManyBlocks loose)) None ≡ Some (TooManyBlocks loose)
full_guard n d loose e = ap (λ b. first_fault (fault_unless b (TooManyBlocks loose)) None) (full_limit n d e)

free_guard :
    (n d : ℕ) (loose : Bool) → nat_le n d ≡ false →
    first_fault (fault_unless (nat_le (suc d) n) (TooManyBlocks loose)) None ≡ None
free_guard n d loose e = ap (λ b. first_fault (fault_unless b (TooManyBlocks loose)) None) (free_limit n d e)

question_by :
    (b : Bool) (s : Scope) (l : lexemes.Lexeme) (o : OptionsData) (d : Beside) (p : TreeProperties)
    (fs : List OpenFrame) (full : Bool) →
    nat_le o.block_nesting_limit (blocks_open fs) ≡ full →
    LimitView o (On lexemes.Question b s l) d
    (Limited full l.start
    (framed (machine.BlockMapping l.start.place.column machine.AtQuestion)
    (popped o fs l.start
    (HeadGiven o p block_mapping (empty_span l.start) (indent_told (frames_indent fs)) d.given) d)))
    (GoesTo (InFrames (MappingFrame (suc l.start.place.column) Asking ∷ fs))
    (mapping_start p (On lexemes.Question b s l) (frames_indent fs) ∷ []))
unfolding node_head
question_by b s l o d p fs true e =
    (TooManyBlocks false, full_guard o.block_nesting_limit (blocks_open fs) false e, refl)
question_by b s l o d p fs false e = ((l.start, refl), free_guard o.block_nesting_limit (blocks_open fs) false e)

pub question_begins :
    (b : Bool) (s : Scope) (l : lexemes.Lexeme) (o : OptionsData) (d : Beside) (p : TreeProperties)
    (fs : List OpenFrame) →
    Holes fs →
    LimitView o (On lexemes.Question b s l) d
    (bare o (token_of b (at_kind l lexemes.Question None)) (state_of o (InFrames (topped p fs)) d))
    (GoesTo (InFrames (MappingFrame (suc l.start.place.column) Asking ∷ fs))
    (mapping_start p (On lexemes.Question b s l) (frames_indent fs) ∷ []))
question_begins b s l o d p fs h =
    subst
    (λ r.
    LimitView o (On lexemes.Question b s l) d r
    (GoesTo (InFrames (MappingFrame (suc l.start.place.column) Asking ∷ fs))
    (mapping_start p (On lexemes.Question b s l) (frames_indent fs) ∷ [])))
    (sym
    (limited_by o block_mapping l.start (machine.BlockMapping l.start.place.column machine.AtQuestion) p fs d
    (nat_le o.block_nesting_limit (blocks_open fs)) h refl))
    (question_by b s l o d p fs (nat_le o.block_nesting_limit (blocks_open fs)) refl)

-- a `:` without key
abbrev Colons : OptionsData → lexemes.Lexeme → ParserState → Result ParserState Fault
Colons o l q = Ok (waits l.start o.max_buffered_comment_events (give (null_at l.start) q))

colon_by :
    (b : Bool) (s : Scope) (l : lexemes.Lexeme) (o : OptionsData) (d : Beside) (p : TreeProperties)
    (fs : List OpenFrame) (full : Bool) →
    nat_le o.block_nesting_limit (blocks_open fs) ≡ full →
    LimitView o (On lexemes.Colon b s l) d
    (Limited full l.start
    (framed (machine.BlockMapping l.start.place.column machine.AtValue)
    (popped o fs l.start
    (HeadGiven o p block_mapping (empty_span l.start) (indent_told (frames_indent fs)) d.given) d))
    >>= Colons o l)
    (GoesTo (InFrames (MappingFrame (suc l.start.place.column) (Value l.start) ∷ fs))
    (mapping_start p (On lexemes.Colon b s l) (frames_indent fs) ∷ null l.start None ∷ []))
unfolding node_head
colon_by b s l o d p fs true e = (TooManyBlocks false, full_guard o.block_nesting_limit (blocks_open fs) false e, refl)
colon_by b s l o d p fs false e = ((l.start, refl), free_guard o.block_nesting_limit (blocks_open fs) false e)

pub colon_begins :
    (b : Bool) (s : Scope) (l : lexemes.Lexeme) (o : OptionsData) (d : Beside) (p : TreeProperties)
    (fs : List OpenFrame) →
    Holes fs →
    LimitView o (On lexemes.Colon b s l) d
    (bare o (token_of b (at_kind l lexemes.Colon None)) (state_of o (InFrames (topped p fs)) d))
    (GoesTo (InFrames (MappingFrame (suc l.start.place.column) (Value l.start) ∷ fs))
    (mapping_start p (On lexemes.Colon b s l) (frames_indent fs) ∷ null l.start None ∷ []))
colon_begins b s l o d p fs h =
    subst
    (λ r.
    LimitView o (On lexemes.Colon b s l) d (r >>= Colons o l)
    (GoesTo (InFrames (MappingFrame (suc l.start.place.column) (Value l.start) ∷ fs))
    (mapping_start p (On lexemes.Colon b s l) (frames_indent fs) ∷ null l.start None ∷ [])))
    (sym
    (limited_by o block_mapping l.start (machine.BlockMapping l.start.place.column machine.AtValue) p fs d
    (nat_le o.block_nesting_limit (blocks_open fs)) h refl))
    (colon_by b s l o d p fs (nat_le o.block_nesting_limit (blocks_open fs)) refl)

-- a `-` in a column of its own
abbrev Waits : OptionsData → lexemes.Lexeme → ParserState → Result ParserState Fault
Waits o l q = Ok (waits l.end o.max_buffered_comment_events q)

dash_by :
    (b : Bool) (s : Scope) (l : lexemes.Lexeme) (o : OptionsData) (d : Beside) (p : TreeProperties)
    (fs : List OpenFrame) (full : Bool) →
    nat_le o.block_nesting_limit (blocks_open fs) ≡ full →
    LimitView o (On lexemes.Dash b s l) d
    (Limited full l.start
    (framed (machine.BlockSequence l.start.place.column false)
    (popped o fs l.start
    (HeadGiven o p steps.block_sequence (empty_span l.start) (indent_told (frames_indent fs)) d.given) d))
    >>= Waits o l)
    (GoesTo (InFrames (SequenceFrame false (suc l.start.place.column) (Some l.end) ∷ fs))
    (sequence_start p false (On lexemes.Dash b s l).at (frames_indent fs) ∷ []))
unfolding node_head
dash_by b s l o d p fs true e = (TooManyBlocks false, full_guard o.block_nesting_limit (blocks_open fs) false e, refl)
dash_by b s l o d p fs false e = ((l.start, refl), free_guard o.block_nesting_limit (blocks_open fs) false e)

pub dash_begins :
    (b : Bool) (s : Scope) (l : lexemes.Lexeme) (o : OptionsData) (d : Beside) (p : TreeProperties)
    (fs : List OpenFrame) →
    Holes fs →
    LimitView o (On lexemes.Dash b s l) d
    (steps.take_dash o (token_of b (at_kind l lexemes.Dash None)) steps.NewSequence false
    (state_of o (InFrames (topped p fs)) d))
    (GoesTo (InFrames (SequenceFrame false (suc l.start.place.column) (Some l.end) ∷ fs))
    (sequence_start p false (On lexemes.Dash b s l).at (frames_indent fs) ∷ []))
unfolding steps.take_dash
dash_begins b s l o d p fs h =
    subst
    (λ r.
    LimitView o (On lexemes.Dash b s l) d (r >>= Waits o l)
    (GoesTo (InFrames (SequenceFrame false (suc l.start.place.column) (Some l.end) ∷ fs))
    (sequence_start p false (On lexemes.Dash b s l).at (frames_indent fs) ∷ [])))
    (sym
    (limited_by o steps.block_sequence l.start (machine.BlockSequence l.start.place.column false) p fs d
    (nat_le o.block_nesting_limit (blocks_open fs)) h refl))
    (dash_by b s l o d p fs (nat_le o.block_nesting_limit (blocks_open fs)) refl)

-- a `-` in the column of its mapping
abbrev LooseBy : Bool → OptionsData → lexemes.Lexeme → ParserState → Result ParserState Fault
LooseBy full o l q = if full then Err (fault_at refused.RecursionLimitExceeded l.end) else Waits o l q

loose_by :
    (b : Bool) (s : Scope) (l : lexemes.Lexeme) (o : OptionsData) (d : Beside) (p : TreeProperties)
    (fs : List OpenFrame) (full : Bool) →
    nat_le o.block_nesting_limit (blocks_open fs) ≡ full →
    LimitView o (On lexemes.Dash b s l) d
    (LooseBy full o l
    (framed (machine.BlockSequence l.start.place.column true)
    (popped o fs l.end
    (HeadGiven o p steps.block_sequence (empty_span l.end) (indent_told (frames_indent fs)) d.given) d)))
    (GoesTo (InFrames (SequenceFrame true (suc l.start.place.column) (Some l.end) ∷ fs))
    (sequence_start p true (On lexemes.Dash b s l).at (frames_indent fs) ∷ []))
unfolding node_head
loose_by b s l o d p fs true e = (TooManyBlocks true, full_guard o.block_nesting_limit (blocks_open fs) true e, refl)
loose_by b s l o d p fs false e = ((l.end, refl), free_guard o.block_nesting_limit (blocks_open fs) true e)

pub loose_begins :
    (b : Bool) (s : Scope) (l : lexemes.Lexeme) (o : OptionsData) (d : Beside) (p : TreeProperties)
    (fs : List OpenFrame) →
    Holes fs →
    LimitView o (On lexemes.Dash b s l) d
    (steps.take_dash o (token_of b (at_kind l lexemes.Dash None)) steps.IndentlessSequence false
    (state_of o (InFrames (topped p fs)) d))
    (GoesTo (InFrames (SequenceFrame true (suc l.start.place.column) (Some l.end) ∷ fs))
    (sequence_start p true (On lexemes.Dash b s l).at (frames_indent fs) ∷ []))
unfolding steps.take_dash
loose_begins b s l o d p fs h =
    subst
    (λ r.
    LimitView o (On lexemes.Dash b s l) d r
    (GoesTo (InFrames (SequenceFrame true (suc l.start.place.column) (Some l.end) ∷ fs))
    (sequence_start p true (On lexemes.Dash b s l).at (frames_indent fs) ∷ [])))
    (sym
    (ap₂ (λ full q. LooseBy full o l q) (ap (nat_le o.block_nesting_limit) (topped_count o p fs))
    (begun o p steps.block_sequence l.end (machine.BlockSequence l.start.place.column true) fs d h)))
    (loose_by b s l o d p fs (nat_le o.block_nesting_limit (blocks_open fs)) refl)
