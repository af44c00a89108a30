-- Behind an item, a key or a pair, a lexeme that is taken passes the guards.
use Rattle.granit_views.specs.Good.{Holes}
use Rattle.granit_views.specs.Stepping.{taken}
use Rattle.granit_language.specs.Seen.{terminal_kind}
use Rattle.granit_event_machine.specs.EventMachine.{Opened, KeyDone, AskDone, Solo, Done, Value, OpenFrame}
use Rattle.granit_event_machine.specs.EventMachine.{MappingFrame}
use Rattle.granit_event_machine.specs.EventMachine.{FlowSequenceFrame, FlowMappingFrame, FlowPairFrame, InFrames}
use Rattle.granit_event_machine.specs.EventMachine.{EventStep}
use Rattle.granit_event_machine.specs.EventMachine.{GoesTo, StopsWith, ended_by, put_frames}
use Rattle.granit_event_machine.specs.Guarded.{blocks_open, first_fault, whole_guard}
use Rattle.granit_language.specs.Scope.{Scope}
use Rattle.granit_language.specs.Terminal.{Terminal, is_comma_kind, is_bare_kind, closes_kind}
use Rattle.granit_lexemes.specs.Lexeme.{KeyStart}
use Rattle.granit_lexemes.specs.declared.layout.Bracket.TheVariants.{Square, Curly}
use Rattle.std.proofs.Common.{◌≡◌, ℕ, suc, Bool, true, false, ◌||◌, not, List, ◌∷◌, refl, ap, Option, Some, None}
use Rattle.std.specs.Prelude.{nat_le}
use Rattle.granit_error.specs.OptionsData.{OptionsData}
use Rattle.granit_lexemes.specs.Lexeme as lexemes
use Rattle.granit_node_steps.proofs.BlockNodes.{put_count}
use Rattle.granit_views.proofs.Views.{count_flat, met_as}

-- a step passes what guards a state
abbrev pub Calm : OptionsData → Terminal → EventStep → Type 0
Calm o x (GoesTo st es) = whole_guard o st x ≡ None
Calm o x (StopsWith k) = Unit {0}

pub item_done_calm :
    (b : Bool) (k : lexemes.LexemeKind) (key : Option KeyStart) (s : Scope) (l : lexemes.Lexeme) (o : OptionsData)
    (fs : List OpenFrame) → Holes fs → nat_le (blocks_open fs) o.block_nesting_limit ≡ true →
    Calm o (met_as b k key s l)
    (taken (ended_by (met_as b k key s l) (InFrames (FlowSequenceFrame true ∷ fs))) (met_as b k key s l))
item_done_calm b (lexemes.Directive directive) key s l o fs h e = tt
item_done_calm b lexemes.DocumentStart key s l o fs h e = tt
item_done_calm b lexemes.DocumentEnd key s l o fs h e = tt
item_done_calm b lexemes.StreamEnd key s l o fs h e = tt
item_done_calm b lexemes.Comma key s l o fs h e =
    ap (λ f. first_fault f None)
    (count_flat o.block_nesting_limit (blocks_open fs) (InFrames (FlowSequenceFrame false ∷ fs)) refl e)
item_done_calm b (lexemes.Close Square) key s l o fs h e =
    ap (λ f. first_fault f None)
    (count_flat o.block_nesting_limit (blocks_open fs) (put_frames l.shown.end fs) (put_count l.shown.end fs h) e)
item_done_calm b (lexemes.Close Curly) key s l o fs h e = tt
item_done_calm b lexemes.Dash key s l o fs h e = tt
item_done_calm b lexemes.Question key s l o fs h e = tt
item_done_calm b lexemes.Colon None s l o fs h e = tt
item_done_calm b lexemes.Colon (Some n) s l o fs h e = tt
item_done_calm true (lexemes.Open Square) key s l o fs h e = tt
item_done_calm false (lexemes.Open Square) key s l o fs h e = tt
item_done_calm true (lexemes.Open Curly) key s l o fs h e = tt
item_done_calm false (lexemes.Open Curly) key s l o fs h e = tt
item_done_calm true (lexemes.Alias name) key s l o fs h e = tt
item_done_calm false (lexemes.Alias name) key s l o fs h e = tt
item_done_calm true (lexemes.Anchor name) key s l o fs h e = tt
item_done_calm false (lexemes.Anchor name) key s l o fs h e = tt
item_done_calm true (lexemes.Tag handle suffix) key s l o fs h e = tt
item_done_calm false (lexemes.Tag handle suffix) key s l o fs h e = tt
item_done_calm true (lexemes.Scalar style text) key s l o fs h e = tt
item_done_calm false (lexemes.Scalar style text) key s l o fs h e = tt

pub curly_key_done_calm :
    (b : Bool) (k : lexemes.LexemeKind) (key : Option KeyStart) (s : Scope) (l : lexemes.Lexeme) (o : OptionsData)
    (fs : List OpenFrame) → Holes fs → nat_le (blocks_open fs) o.block_nesting_limit ≡ true →
    Calm o (met_as b k key s l)
    (taken (ended_by (met_as b k key s l) (InFrames (FlowMappingFrame false KeyDone ∷ fs))) (met_as b k key s l))
curly_key_done_calm b (lexemes.Directive directive) key s l o fs h e = tt
curly_key_done_calm b lexemes.DocumentStart key s l o fs h e = tt
curly_key_done_calm b lexemes.DocumentEnd key s l o fs h e = tt
curly_key_done_calm b lexemes.StreamEnd key s l o fs h e = tt
curly_key_done_calm b lexemes.Comma key s l o fs h e = tt
curly_key_done_calm b (lexemes.Close Square) key s l o fs h e = tt
curly_key_done_calm b (lexemes.Close Curly) key s l o fs h e = tt
curly_key_done_calm b lexemes.Dash key s l o fs h e = tt
curly_key_done_calm b lexemes.Question key s l o fs h e = tt
curly_key_done_calm b lexemes.Colon None s l o fs h e = tt
curly_key_done_calm b lexemes.Colon (Some n) s l o fs h e =
    ap (λ f. first_fault f None)
    (count_flat o.block_nesting_limit (blocks_open fs) (InFrames (FlowMappingFrame false (Value l.start) ∷ fs)) refl
    e)
curly_key_done_calm true (lexemes.Open Square) key s l o fs h e = tt
curly_key_done_calm false (lexemes.Open Square) key s l o fs h e = tt
curly_key_done_calm true (lexemes.Open Curly) key s l o fs h e = tt
curly_key_done_calm false (lexemes.Open Curly) key s l o fs h e = tt
curly_key_done_calm true (lexemes.Alias name) key s l o fs h e = tt
curly_key_done_calm false (lexemes.Alias name) key s l o fs h e = tt
curly_key_done_calm true (lexemes.Anchor name) key s l o fs h e = tt
curly_key_done_calm false (lexemes.Anchor name) key s l o fs h e = tt
curly_key_done_calm true (lexemes.Tag handle suffix) key s l o fs h e = tt
curly_key_done_calm false (lexemes.Tag handle suffix) key s l o fs h e = tt
curly_key_done_calm true (lexemes.Scalar style text) key s l o fs h e = tt
curly_key_done_calm false (lexemes.Scalar style text) key s l o fs h e = tt

pub curly_done_calm :
    (b : Bool) (k : lexemes.LexemeKind) (key : Option KeyStart) (s : Scope) (l : lexemes.Lexeme) (o : OptionsData)
    (fs : List OpenFrame) → Holes fs → nat_le (blocks_open fs) o.block_nesting_limit ≡ true →
    Calm o (met_as b k key s l)
    (taken (ended_by (met_as b k key s l) (InFrames (FlowMappingFrame false Done ∷ fs))) (met_as b k key s l))
curly_done_calm b (lexemes.Directive directive) key s l o fs h e = tt
curly_done_calm b lexemes.DocumentStart key s l o fs h e = tt
curly_done_calm b lexemes.DocumentEnd key s l o fs h e = tt
curly_done_calm b lexemes.StreamEnd key s l o fs h e = tt
curly_done_calm b lexemes.Comma key s l o fs h e =
    ap (λ f. first_fault f None)
    (count_flat o.block_nesting_limit (blocks_open fs) (InFrames (FlowMappingFrame false Opened ∷ fs)) refl e)
curly_done_calm b (lexemes.Close Square) key s l o fs h e = tt
curly_done_calm b (lexemes.Close Curly) key s l o fs h e =
    ap (λ f. first_fault f None)
    (count_flat o.block_nesting_limit (blocks_open fs) (put_frames l.shown.end fs) (put_count l.shown.end fs h) e)
curly_done_calm b lexemes.Dash key s l o fs h e = tt
curly_done_calm b lexemes.Question key s l o fs h e = tt
curly_done_calm b lexemes.Colon None s l o fs h e = tt
curly_done_calm b lexemes.Colon (Some n) s l o fs h e = tt
curly_done_calm true (lexemes.Open Square) key s l o fs h e = tt
curly_done_calm false (lexemes.Open Square) key s l o fs h e = tt
curly_done_calm true (lexemes.Open Curly) key s l o fs h e = tt
curly_done_calm false (lexemes.Open Curly) key s l o fs h e = tt
curly_done_calm true (lexemes.Alias name) key s l o fs h e = tt
curly_done_calm false (lexemes.Alias name) key s l o fs h e = tt
curly_done_calm true (lexemes.Anchor name) key s l o fs h e = tt
curly_done_calm false (lexemes.Anchor name) key s l o fs h e = tt
curly_done_calm true (lexemes.Tag handle suffix) key s l o fs h e = tt
curly_done_calm false (lexemes.Tag handle suffix) key s l o fs h e = tt
curly_done_calm true (lexemes.Scalar style text) key s l o fs h e = tt
curly_done_calm false (lexemes.Scalar style text) key s l o fs h e = tt

pub curly_solo_calm :
    (b : Bool) (k : lexemes.LexemeKind) (key : Option KeyStart) (s : Scope) (l : lexemes.Lexeme) (o : OptionsData)
    (fs : List OpenFrame) → Holes fs → nat_le (blocks_open fs) o.block_nesting_limit ≡ true →
    Calm o (met_as b k key s l)
    (taken (ended_by (met_as b k key s l) (InFrames (FlowMappingFrame false Solo ∷ fs))) (met_as b k key s l))
curly_solo_calm b (lexemes.Directive directive) key s l o fs h e = tt
curly_solo_calm b lexemes.DocumentStart key s l o fs h e = tt
curly_solo_calm b lexemes.DocumentEnd key s l o fs h e = tt
curly_solo_calm b lexemes.StreamEnd key s l o fs h e = tt
curly_solo_calm b lexemes.Comma key s l o fs h e =
    ap (λ f. first_fault f None)
    (count_flat o.block_nesting_limit (blocks_open fs) (InFrames (FlowMappingFrame false Opened ∷ fs)) refl e)
curly_solo_calm b (lexemes.Close Square) key s l o fs h e = tt
curly_solo_calm b (lexemes.Close Curly) key s l o fs h e =
    ap (λ f. first_fault f None)
    (count_flat o.block_nesting_limit (blocks_open fs) (put_frames l.shown.end fs) (put_count l.shown.end fs h) e)
curly_solo_calm b lexemes.Dash key s l o fs h e = tt
curly_solo_calm b lexemes.Question key s l o fs h e = tt
curly_solo_calm b lexemes.Colon None s l o fs h e = tt
curly_solo_calm b lexemes.Colon (Some n) s l o fs h e = tt
curly_solo_calm true (lexemes.Open Square) key s l o fs h e = tt
curly_solo_calm false (lexemes.Open Square) key s l o fs h e = tt
curly_solo_calm true (lexemes.Open Curly) key s l o fs h e = tt
curly_solo_calm false (lexemes.Open Curly) key s l o fs h e = tt
curly_solo_calm true (lexemes.Alias name) key s l o fs h e = tt
curly_solo_calm false (lexemes.Alias name) key s l o fs h e = tt
curly_solo_calm true (lexemes.Anchor name) key s l o fs h e = tt
curly_solo_calm false (lexemes.Anchor name) key s l o fs h e = tt
curly_solo_calm true (lexemes.Tag handle suffix) key s l o fs h e = tt
curly_solo_calm false (lexemes.Tag handle suffix) key s l o fs h e = tt
curly_solo_calm true (lexemes.Scalar style text) key s l o fs h e = tt
curly_solo_calm false (lexemes.Scalar style text) key s l o fs h e = tt

pub curly_ask_done_calm :
    (b : Bool) (k : lexemes.LexemeKind) (key : Option KeyStart) (s : Scope) (l : lexemes.Lexeme) (o : OptionsData)
    (fs : List OpenFrame) → Holes fs → nat_le (blocks_open fs) o.block_nesting_limit ≡ true →
    Calm o (met_as b k key s l)
    (taken (ended_by (met_as b k key s l) (InFrames (FlowMappingFrame false AskDone ∷ fs))) (met_as b k key s l))
curly_ask_done_calm b (lexemes.Directive directive) key s l o fs h e = tt
curly_ask_done_calm b lexemes.DocumentStart key s l o fs h e = tt
curly_ask_done_calm b lexemes.DocumentEnd key s l o fs h e = tt
curly_ask_done_calm b lexemes.StreamEnd key s l o fs h e = tt
curly_ask_done_calm b lexemes.Comma key s l o fs h e =
    ap (λ f. first_fault f None)
    (count_flat o.block_nesting_limit (blocks_open fs) (InFrames (FlowMappingFrame false Opened ∷ fs)) refl e)
curly_ask_done_calm b (lexemes.Close Square) key s l o fs h e = tt
curly_ask_done_calm b (lexemes.Close Curly) key s l o fs h e =
    ap (λ f. first_fault f None)
    (count_flat o.block_nesting_limit (blocks_open fs) (put_frames l.shown.end fs) (put_count l.shown.end fs h) e)
curly_ask_done_calm b lexemes.Dash key s l o fs h e = tt
curly_ask_done_calm b lexemes.Question key s l o fs h e = tt
curly_ask_done_calm b lexemes.Colon None s l o fs h e =
    ap (λ f. first_fault f None)
    (count_flat o.block_nesting_limit (blocks_open fs) (InFrames (FlowMappingFrame false (Value l.start) ∷ fs)) refl
    e)
curly_ask_done_calm b lexemes.Colon (Some n) s l o fs h e = tt
curly_ask_done_calm true (lexemes.Open Square) key s l o fs h e = tt
curly_ask_done_calm false (lexemes.Open Square) key s l o fs h e = tt
curly_ask_done_calm true (lexemes.Open Curly) key s l o fs h e = tt
curly_ask_done_calm false (lexemes.Open Curly) key s l o fs h e = tt
curly_ask_done_calm true (lexemes.Alias name) key s l o fs h e = tt
curly_ask_done_calm false (lexemes.Alias name) key s l o fs h e = tt
curly_ask_done_calm true (lexemes.Anchor name) key s l o fs h e = tt
curly_ask_done_calm false (lexemes.Anchor name) key s l o fs h e = tt
curly_ask_done_calm true (lexemes.Tag handle suffix) key s l o fs h e = tt
curly_ask_done_calm false (lexemes.Tag handle suffix) key s l o fs h e = tt
curly_ask_done_calm true (lexemes.Scalar style text) key s l o fs h e = tt
curly_ask_done_calm false (lexemes.Scalar style text) key s l o fs h e = tt

pub made_key_done_calm :
    (b : Bool) (k : lexemes.LexemeKind) (key : Option KeyStart) (s : Scope) (l : lexemes.Lexeme) (o : OptionsData)
    (fs : List OpenFrame) → Holes fs → nat_le (blocks_open fs) o.block_nesting_limit ≡ true →
    Calm o (met_as b k key s l)
    (taken (ended_by (met_as b k key s l) (InFrames (FlowMappingFrame true KeyDone ∷ FlowSequenceFrame false ∷ fs)))
    (met_as b k key s l))
made_key_done_calm b (lexemes.Directive directive) key s l o fs h e = tt
made_key_done_calm b lexemes.DocumentStart key s l o fs h e = tt
made_key_done_calm b lexemes.DocumentEnd key s l o fs h e = tt
made_key_done_calm b lexemes.StreamEnd key s l o fs h e = tt
made_key_done_calm b lexemes.Comma key s l o fs h e = tt
made_key_done_calm b (lexemes.Close Square) key s l o fs h e = tt
made_key_done_calm b (lexemes.Close Curly) key s l o fs h e = tt
made_key_done_calm b lexemes.Dash key s l o fs h e = tt
made_key_done_calm b lexemes.Question key s l o fs h e = tt
made_key_done_calm b lexemes.Colon None s l o fs h e = tt
made_key_done_calm b lexemes.Colon (Some n) s l o fs h e =
    ap (λ f. first_fault f None)
    (count_flat o.block_nesting_limit (blocks_open fs)
    (InFrames (FlowMappingFrame true (Value l.start) ∷ FlowSequenceFrame false ∷ fs)) refl e)
made_key_done_calm true (lexemes.Open Square) key s l o fs h e = tt
made_key_done_calm false (lexemes.Open Square) key s l o fs h e = tt
made_key_done_calm true (lexemes.Open Curly) key s l o fs h e = tt
made_key_done_calm false (lexemes.Open Curly) key s l o fs h e = tt
made_key_done_calm true (lexemes.Alias name) key s l o fs h e = tt
made_key_done_calm false (lexemes.Alias name) key s l o fs h e = tt
made_key_done_calm true (lexemes.Anchor name) key s l o fs h e = tt
made_key_done_calm false (lexemes.Anchor name) key s l o fs h e = tt
made_key_done_calm true (lexemes.Tag handle suffix) key s l o fs h e = tt
made_key_done_calm false (lexemes.Tag handle suffix) key s l o fs h e = tt
made_key_done_calm true (lexemes.Scalar style text) key s l o fs h e = tt
made_key_done_calm false (lexemes.Scalar style text) key s l o fs h e = tt

pub made_done_calm :
    (b : Bool) (k : lexemes.LexemeKind) (key : Option KeyStart) (s : Scope) (l : lexemes.Lexeme) (o : OptionsData)
    (fs : List OpenFrame) → Holes fs → nat_le (blocks_open fs) o.block_nesting_limit ≡ true →
    ((is_comma_kind (terminal_kind k key) || closes_kind Square (terminal_kind k key))
    || closes_kind Curly (terminal_kind k key))
    ≡ false →
    Calm o (met_as b k key s l)
    (taken (ended_by (met_as b k key s l) (InFrames (FlowMappingFrame true Done ∷ FlowSequenceFrame false ∷ fs)))
    (met_as b k key s l))
made_done_calm b (lexemes.Directive directive) key s l o fs h e f = tt
made_done_calm b lexemes.DocumentStart key s l o fs h e f = tt
made_done_calm b lexemes.DocumentEnd key s l o fs h e f = tt
made_done_calm b lexemes.StreamEnd key s l o fs h e f = tt
made_done_calm b lexemes.Comma key s l o fs h e f = cc (f)
made_done_calm b (lexemes.Close Square) key s l o fs h e f = cc (f)
made_done_calm b (lexemes.Close Curly) key s l o fs h e f = cc (f)
made_done_calm b lexemes.Dash key s l o fs h e f = tt
made_done_calm b lexemes.Question key s l o fs h e f = tt
made_done_calm b lexemes.Colon None s l o fs h e f = tt
made_done_calm b lexemes.Colon (Some n) s l o fs h e f = tt
made_done_calm true (lexemes.Open Square) key s l o fs h e f = tt
made_done_calm false (lexemes.Open Square) key s l o fs h e f = tt
made_done_calm true (lexemes.Open Curly) key s l o fs h e f = tt
made_done_calm false (lexemes.Open Curly) key s l o fs h e f = tt
made_done_calm true (lexemes.Alias name) key s l o fs h e f = tt
made_done_calm false (lexemes.Alias name) key s l o fs h e f = tt
made_done_calm true (lexemes.Anchor name) key s l o fs h e f = tt
made_done_calm false (lexemes.Anchor name) key s l o fs h e f = tt
made_done_calm true (lexemes.Tag handle suffix) key s l o fs h e f = tt
made_done_calm false (lexemes.Tag handle suffix) key s l o fs h e f = tt
made_done_calm true (lexemes.Scalar style text) key s l o fs h e f = tt
made_done_calm false (lexemes.Scalar style text) key s l o fs h e f = tt

pub square_ask_done_calm :
    (b : Bool) (k : lexemes.LexemeKind) (key : Option KeyStart) (s : Scope) (l : lexemes.Lexeme) (o : OptionsData)
    (fs : List OpenFrame) → Holes fs → nat_le (blocks_open fs) o.block_nesting_limit ≡ true →
    not (is_bare_kind (terminal_kind k key)) ≡ false →
    Calm o (met_as b k key s l)
    (taken (ended_by (met_as b k key s l) (InFrames (FlowPairFrame AskDone ∷ FlowSequenceFrame false ∷ fs)))
    (met_as b k key s l))
square_ask_done_calm b (lexemes.Directive directive) key s l o fs h e f = cc (f)
square_ask_done_calm b lexemes.DocumentStart key s l o fs h e f = cc (f)
square_ask_done_calm b lexemes.DocumentEnd key s l o fs h e f = cc (f)
square_ask_done_calm b lexemes.StreamEnd key s l o fs h e f = cc (f)
square_ask_done_calm b lexemes.Comma key s l o fs h e f = cc (f)
square_ask_done_calm b (lexemes.Close Square) key s l o fs h e f = cc (f)
square_ask_done_calm b (lexemes.Close Curly) key s l o fs h e f = cc (f)
square_ask_done_calm b lexemes.Dash key s l o fs h e f = cc (f)
square_ask_done_calm b lexemes.Question key s l o fs h e f = cc (f)
square_ask_done_calm b lexemes.Colon None s l o fs h e f = cc (f)
square_ask_done_calm b lexemes.Colon (Some n) s l o fs h e f = cc (f)
square_ask_done_calm true (lexemes.Open Square) key s l o fs h e f = cc (f)
square_ask_done_calm false (lexemes.Open Square) key s l o fs h e f = cc (f)
square_ask_done_calm true (lexemes.Open Curly) key s l o fs h e f = cc (f)
square_ask_done_calm false (lexemes.Open Curly) key s l o fs h e f = cc (f)
square_ask_done_calm true (lexemes.Alias name) key s l o fs h e f = cc (f)
square_ask_done_calm false (lexemes.Alias name) key s l o fs h e f = cc (f)
square_ask_done_calm true (lexemes.Anchor name) key s l o fs h e f = cc (f)
square_ask_done_calm false (lexemes.Anchor name) key s l o fs h e f = cc (f)
square_ask_done_calm true (lexemes.Tag handle suffix) key s l o fs h e f = cc (f)
square_ask_done_calm false (lexemes.Tag handle suffix) key s l o fs h e f = cc (f)
square_ask_done_calm true (lexemes.Scalar style text) key s l o fs h e f = cc (f)
square_ask_done_calm false (lexemes.Scalar style text) key s l o fs h e f = cc (f)

pub block_key_calm :
    (b : Bool) (k : lexemes.LexemeKind) (key : Option KeyStart) (s : Scope) (l : lexemes.Lexeme) (o : OptionsData)
    (c : ℕ)
    (fs : List OpenFrame) → Holes fs → nat_le (suc (blocks_open fs)) o.block_nesting_limit ≡ true →
    Calm o (met_as b k key s l)
    (taken (ended_by (met_as b k key s l) (InFrames (MappingFrame c KeyDone ∷ fs))) (met_as b k key s l))
block_key_calm b (lexemes.Directive directive) key s l o c fs h e = tt
block_key_calm b lexemes.DocumentStart key s l o c fs h e = tt
block_key_calm b lexemes.DocumentEnd key s l o c fs h e = tt
block_key_calm b lexemes.StreamEnd key s l o c fs h e = tt
block_key_calm b lexemes.Comma key s l o c fs h e = tt
block_key_calm b (lexemes.Close Square) key s l o c fs h e = tt
block_key_calm b (lexemes.Close Curly) key s l o c fs h e = tt
block_key_calm b lexemes.Dash key s l o c fs h e = tt
block_key_calm b lexemes.Question key s l o c fs h e = tt
block_key_calm b lexemes.Colon None s l o c fs h e = tt
block_key_calm b lexemes.Colon (Some n) s l o c fs h e =
    ap (λ f. first_fault f None)
    (count_flat o.block_nesting_limit (suc (blocks_open fs)) (InFrames (MappingFrame c (Value l.start) ∷ fs)) refl e)
block_key_calm true (lexemes.Open Square) key s l o c fs h e = tt
block_key_calm false (lexemes.Open Square) key s l o c fs h e = tt
block_key_calm true (lexemes.Open Curly) key s l o c fs h e = tt
block_key_calm false (lexemes.Open Curly) key s l o c fs h e = tt
block_key_calm true (lexemes.Alias name) key s l o c fs h e = tt
block_key_calm false (lexemes.Alias name) key s l o c fs h e = tt
block_key_calm true (lexemes.Anchor name) key s l o c fs h e = tt
block_key_calm false (lexemes.Anchor name) key s l o c fs h e = tt
block_key_calm true (lexemes.Tag handle suffix) key s l o c fs h e = tt
block_key_calm false (lexemes.Tag handle suffix) key s l o c fs h e = tt
block_key_calm true (lexemes.Scalar style text) key s l o c fs h e = tt
block_key_calm false (lexemes.Scalar style text) key s l o c fs h e = tt
