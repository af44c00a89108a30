-- Behind each step of the parser nothing waits, or a node with all the room for comments that the options leave.
use Rattle.std.proofs.Common.{◌≡◌, ℕ, ◌&&◌, Bool, true, false, List, [], ◌∷◌, Option, Some, None, Result, Ok, Err}
use Rattle.std.proofs.Common.{refl, sym, subst}
use Rattle.std.proofs.lemmas.Bool.{and_parts}
use Rattle.std.specs.Prelude.{if◌then◌else◌, is_none, not, ◌||◌, nat_le}
use Rattle.granit_base.specs.Place.{Mark}
use Rattle.granit_base.specs.Written.{Written}
use Rattle.granit_base.specs.declared.style.StructureStyle.TheVariants.{Flow}
use Rattle.granit_error.specs.OptionsData.{OptionsData}
use Rattle.granit_lexemes.specs.Comment.{CommentRead}
use Rattle.granit_lexemes.specs.declared.layout.Bracket.{Bracket}
use Rattle.granit_lexemes.specs.declared.layout.Bracket.TheVariants.{Square, Curly}
use Rattle.granit_lexemes.specs.Lexeme.{LexemeKind}
use Rattle.granit_lexemes.specs.Outcome.{Fault, ◌>>=◌}
use Rattle.granit_lexemes.specs.PlainEvent.{PlainTag, EventKind}
use Rattle.granit_machine.proofs.ClosingLemmas.{flush_frames, tail_frames}
use Rattle.granit_machine.proofs.NoneWaits.{flush_none, node_none, leaf_none, end_node_none}
use Rattle.granit_machine.specs.BlockSteps.{in_sequence, mapping_at, mapping_colon, bare_colon_in_mapping, next_pair}
use Rattle.granit_machine.specs.BlockSteps.{behind_indicator, at_block_key, behind_block_key, in_mapping, takes_node}
use Rattle.granit_machine.specs.FlowSteps.{close_flow, flow_at, flow_colon, begin_pair, at_entry, behind_entry_of}
use Rattle.granit_machine.specs.FlowSteps.{in_flow_sequence, in_flow_mapping_by, in_flow_pair}
use Rattle.granit_machine.specs.Entries.{lookup_text}
use Rattle.granit_machine.specs.Frames.{PairStage, BeforePair, AtKey, BehindKey, AtQuestion, BehindQuestion, AtValue}
use Rattle.granit_machine.specs.Frames.{Frame, BlockSequence, BlockMapping}
use Rattle.granit_machine.specs.Frames.{FlowSequence, FlowMapping, FlowPair, Waiting, ParserState}
use Rattle.granit_machine.specs.Giving.{null_at, flush, give, give_empty, below_properties}
use Rattle.granit_machine.specs.NodeEnds.{owed}
use Rattle.granit_machine.specs.NodeEnds.{empty_span, begin, begin_block, block_mapping, waits, with_top}
use Rattle.granit_machine.specs.NodeEnds.{may_be_indentless, block_count}
use Rattle.granit_machine.specs.NodeSteps.{Stepped, alias_by, tag_prefix, tagged, anchored, block_sequence, DashRole}
use Rattle.granit_machine.specs.NodeSteps.{known_prefix}
use Rattle.granit_machine.specs.NodeSteps.{NextEntry, NewSequence, IndentlessSequence, dash_room, give_tail}
use Rattle.granit_machine.specs.NodeSteps.{token_number, take_dash, first_dash, open_flow, bare_by, bare, node_by, node}
use Rattle.granit_machine.specs.TokenSort.{TokenSort, BeginsKey, BeginsNode, QuestionToken, BareColon}
use Rattle.granit_machine.specs.TokenSort.{KeyedColon, CommaToken, SequenceCloser, MappingCloser, Token, is_dash_token}
use Rattle.granit_machine.specs.TokenSort.{token_column, is_in_column, is_right_of, begins_node, begins_pair}
use Rattle.granit_lexemes.specs.PlainEvent as events
use Rattle.granit_lexemes.specs.Lexeme as lexemes
use Rattle.granit_machine.proofs.ClosingLemmas.{no_dash_pair}

-- ---- what waits

-- the frames in which a node can wait
abbrev pub MayWait : List Frame → Type 0
MayWait (BlockSequence column indentless ∷ fs) = Unit {0}
MayWait (BlockMapping column stage ∷ fs) = Unit {0}
MayWait (FlowMapping single stage ∷ fs) = Unit {0}
MayWait fs = ⊥

abbrev pub CalmBy : List Frame → Option Waiting → Type 0
CalmBy fs None = Unit {0}
CalmBy fs (Some w) = MayWait fs

-- nothing waits elsewhere
abbrev pub Calm : ParserState → Type 0
Calm p = CalmBy p.frames p.waiting

-- the room behind a lexeme
abbrev pub room_by : OptionsData → LexemeKind → Option CommentRead → Result ℕ Fault
room_by o lexemes.Dash tail = dash_room o tail
room_by o kind tail = Ok o.max_buffered_comment_events

abbrev pub RoomBehind : OptionsData → Token → Result ℕ Fault
RoomBehind o t = room_by o t.lexeme.kind t.lexeme.tail

abbrev pub FreshBy : Result ℕ Fault → List Frame → Option Waiting → Type 0
FreshBy room fs None = Unit {0}
FreshBy room fs (Some w) = MayWait fs × (room ≡ Ok w.room) × (w.held ≡ [])

pub calm_by : (room : Result ℕ Fault) (fs : List Frame) (w : Option Waiting) → FreshBy room fs w → CalmBy fs w
calm_by room fs None h = tt
calm_by room fs (Some w) h = h.0

abbrev pub LeavesBy : Result ℕ Fault → Stepped → Type 0
LeavesBy room (Ok q) = FreshBy room q.frames q.waiting
LeavesBy room (Err f) = Unit {0}

-- behind a step nothing waits, or a node that no comment came before
pub record Leaves (room : Result ℕ Fault) (r : Stepped) : Type 0 where
  pub says : LeavesBy room r

pub leaves_none : (room : Result ℕ Fault) (q : ParserState) → q.waiting ≡ None → Leaves room (Ok q)
leaves_none room q e = record { says = subst (FreshBy room q.frames) (sym e) tt }

pub leaves_err : (room : Result ℕ Fault) (f : Fault) → Leaves room (Err f)
leaves_err room f = record { says = tt }

pub leaves_if : (b : Bool) (room : Result ℕ Fault) (r s : Stepped) → (b ≡ true → Leaves room r) →
    (b ≡ false → Leaves room s) → Leaves room (if b then r else s)
leaves_if true room r s h k = h refl
leaves_if false room r s h k = k refl

pub leaves_behind : {A : Type 0} (room : Result ℕ Fault) (r : Result A Fault) (f : A → Stepped) →
    ((x : A) → r ≡ Ok x → Leaves room (f x)) → Leaves room (r >>= f)
leaves_behind room (Ok x) f h = h x refl
leaves_behind room (Err e) f h = leaves_err room e

-- ---- giving

begin_block_leaves : (room : Result ℕ Fault) (o : OptionsData) (kind : ℕ → Option PlainTag → EventKind) (m : Mark)
    (f : Frame) (p : ParserState) → Leaves room (begin_block o kind m f p)
unfolding begin_block
begin_block_leaves room o kind m f p =
    leaves_if (nat_le o.block_nesting_limit (block_count p.frames)) room _ _ (λ e. leaves_err room _)
    (λ e. leaves_none room (begin o kind (empty_span m) f p) (node_none o kind (empty_span m) None p))

-- a node waits in frames
pub waits_leaves : (room : Result ℕ Fault) (m : Mark) (n : ℕ) (p : ParserState) → MayWait p.frames → room ≡ Ok n →
    Leaves room (Ok (waits m n p))
waits_leaves room m n p h e = record { says = (subst MayWait (sym (flush_frames p)) h, e, refl) }

-- ---- a `-`

dash_leaves : (o : OptionsData) (t : Token) (role : DashRole) (indentless : Bool) (p : ParserState) → Leaves
    (dash_room o t.lexeme.tail) (take_dash o t role indentless p)
unfolding take_dash begin_block
dash_leaves o t NextEntry indentless p =
    leaves_behind (dash_room o t.lexeme.tail) (dash_room o t.lexeme.tail) _
    (λ n e. waits_leaves (dash_room o t.lexeme.tail) t.lexeme.end n (with_top (BlockSequence
    (token_number t) indentless) (give_tail t.lexeme.tail p)) tt e)
dash_leaves o t NewSequence indentless p = on (nat_le o.block_nesting_limit (block_count p.frames))
  where
    start : ParserState
    start = begin o block_sequence (empty_span t.lexeme.start) (BlockSequence (token_number t) false) p

    on :
        (b : Bool) →
        Leaves (dash_room o t.lexeme.tail)
        ((if b then Rattle.granit_lexemes.specs.Basics.fails_at
        Rattle.granit_error.specs.FaultKind.RecursionLimitExceeded t.lexeme.start else Ok start)
        >>= λ q. dash_room o t.lexeme.tail >>= λ room. Ok (waits t.lexeme.end room (give_tail t.lexeme.tail q)))
    on true = leaves_err _ _
    on false =
        leaves_behind (dash_room o t.lexeme.tail) (dash_room o t.lexeme.tail) _
        (λ n e. waits_leaves (dash_room o t.lexeme.tail) t.lexeme.end n (give_tail t.lexeme.tail start)
        (subst MayWait (sym (tail_frames t.lexeme.tail start)) tt) e)
dash_leaves o t IndentlessSequence indentless p =
    leaves_if (nat_le o.block_nesting_limit (block_count p.frames)) (dash_room o t.lexeme.tail) _ _
    (λ e. leaves_err _ _)
    (λ e. leaves_behind (dash_room o t.lexeme.tail) (dash_room o t.lexeme.tail) _
    (λ n e. waits_leaves (dash_room o t.lexeme.tail) t.lexeme.end n
    (begin o block_sequence (empty_span t.lexeme.end) (BlockSequence (token_number t) true)
    (give_tail t.lexeme.tail p)) tt e))

-- ---- any lexeme of a node

alias_leaves : (room : Result ℕ Fault) (o : OptionsData) (t : Token) (name : Written) (n : Option ℕ)
    (p : ParserState) → Leaves room (alias_by o t name n p)
alias_leaves room o t name (Some n) p = leaves_none room _
    (leaf_none o (λ number tag. events.Alias n) t.lexeme.shown None p)
alias_leaves room o t name None p =
    leaves_if o.emit_unresolved_aliases room _ _
    (λ e. leaves_none room _ (leaf_none o (λ number tag. events.UnresolvedAlias name) t.lexeme.shown None p))
    (λ e. leaves_err room _)

open_flow_none : (o : OptionsData) (b : Bracket) (t : Token) (p : ParserState) → (open_flow o b t p).waiting ≡ None
open_flow_none o Square t p = node_none o (λ number tag. events.SequenceStart Flow number tag) t.lexeme.shown None p
open_flow_none o Curly t p = node_none o (λ number tag. events.MappingStart Flow number tag) t.lexeme.shown None p

colon_leaves : (room : Result ℕ Fault) (o : OptionsData) (t : Token) (p : ParserState) →
    room ≡ Ok o.max_buffered_comment_events → Leaves room
    (begin_block o block_mapping t.lexeme.start (BlockMapping (token_number t) AtValue) p >>= λ q. Ok
    (waits t.lexeme.start o.max_buffered_comment_events (give (null_at t.lexeme.start) q)))
unfolding begin_block
colon_leaves room o t p h = on (nat_le o.block_nesting_limit (block_count p.frames))
  where
    start : ParserState
    start = begin o block_mapping (empty_span t.lexeme.start) (BlockMapping (token_number t) AtValue) p

    on :
        (b : Bool) →
        Leaves room
        ((if b then Rattle.granit_lexemes.specs.Basics.fails_at
        Rattle.granit_error.specs.FaultKind.RecursionLimitExceeded t.lexeme.start else Ok start)
        >>= λ q. Ok (waits t.lexeme.start o.max_buffered_comment_events (give (null_at t.lexeme.start) q)))
    on true = leaves_err _ _
    on false =
        waits_leaves room t.lexeme.start o.max_buffered_comment_events (give (null_at t.lexeme.start) start)
        (subst MayWait (sym (flush_frames start)) tt) h

bare_by_leaves : (o : OptionsData) (kind : LexemeKind) (t : Token) (p : ParserState) →
    Leaves (room_by o kind t.lexeme.tail) (bare_by o kind t p)
bare_by_leaves o (lexemes.Alias name) t p = alias_leaves _ o t name (lookup_text name.characters p.names) p
bare_by_leaves o (lexemes.Scalar style text) t p = leaves_none _ _ (leaf_none o
    (λ number tag. events.Scalar text style number tag) t.lexeme.shown t.lexeme.indent p)
bare_by_leaves o (lexemes.Open bracket) t p = leaves_none _ _ (open_flow_none o bracket t p)
bare_by_leaves o (lexemes.Anchor name) t p = leaves_none _ (anchored t name (flush p)) (flush_none p)
bare_by_leaves o (lexemes.Tag handle suffix) t p =
    leaves_behind _ (tag_prefix t handle (known_prefix o handle p)) _ (λ prefix e. leaves_none _
    (tagged t handle suffix prefix (flush p)) (flush_none p))
bare_by_leaves o lexemes.Dash t p =
    dash_leaves o t (first_dash (may_be_indentless (token_number t) (below_properties p.frames))) false p
bare_by_leaves o lexemes.Question t p =
    begin_block_leaves _ o block_mapping t.lexeme.start (BlockMapping (token_number t) AtQuestion) p
bare_by_leaves o kind t p = colon_leaves _ o t p refl

pub bare_leaves : (o : OptionsData) (t : Token) (p : ParserState) → Leaves (RoomBehind o t) (bare o t p)
bare_leaves o t p = bare_by_leaves o t.lexeme.kind t p

node_by_leaves : (o : OptionsData) (sort : TokenSort) (t : Token) (p : ParserState) →
    Leaves (RoomBehind o t) (node_by o sort t p)
node_by_leaves o BeginsKey t p =
    leaves_behind _ (begin_block o block_mapping t.lexeme.start (BlockMapping (token_number t) AtKey) p) _
    (λ q e. bare_leaves o t q)
node_by_leaves o sort t p = bare_leaves o t p

pub node_leaves : (o : OptionsData) (t : Token) (p : ParserState) → Leaves (RoomBehind o t) (node o t p)
node_leaves o t p = node_by_leaves o t.sort t p

-- ---- block collections

-- a token is a `-` by its sort where its lexeme is one
pub record RoomSorted (o : OptionsData) (t : Token) : Type 0 where
  pub dash : is_dash_token t.sort ≡ true → RoomBehind o t ≡ dash_room o t.lexeme.tail
  pub other : is_dash_token t.sort ≡ false → RoomBehind o t ≡ Ok o.max_buffered_comment_events

pub in_sequence_leaves : (o : OptionsData) (t : Token) (column : ℕ) (indentless : Bool) (p : ParserState) →
    RoomSorted o t → Leaves (RoomBehind o t) (in_sequence o t column indentless p)
unfolding in_sequence
in_sequence_leaves o t column indentless p s =
    leaves_if (is_dash_token t.sort && is_in_column (token_column t) column) _ _ _
    (λ e.
    let d = and_parts (is_dash_token t.sort) (is_in_column (token_column t) column) e in
    subst (λ room. Leaves room (take_dash o t NextEntry indentless (give_empty p))) (sym (s.dash d.0))
    (dash_leaves o t NextEntry indentless (give_empty p)))
    (λ e. leaves_if (is_none p.waiting) _ _ _ (λ f. leaves_err _ _)
    (λ f. leaves_if (begins_node t.sort && is_right_of (token_column t) (Some column)) _ _ _
    (λ g. node_leaves o t p) (λ g. leaves_err _ _)))

mapping_colon_leaves : (o : OptionsData) (t : Token) (column : ℕ) (p : ParserState) →
    RoomBehind o t ≡ Ok o.max_buffered_comment_events → Leaves (RoomBehind o t) (Ok (mapping_colon o t column p))
mapping_colon_leaves o t column p h =
    waits_leaves (RoomBehind o t) t.lexeme.start o.max_buffered_comment_events (mapping_at column AtValue p) tt h

bare_colon_leaves : (o : OptionsData) (t : Token) (column : ℕ) (stage : PairStage) (p : ParserState) →
    RoomBehind o t ≡ Ok o.max_buffered_comment_events →
    Leaves (RoomBehind o t) (Ok (bare_colon_in_mapping o t column stage p))
bare_colon_leaves o t column AtQuestion p h = mapping_colon_leaves o t column _ h
bare_colon_leaves o t column BehindQuestion p h = mapping_colon_leaves o t column p h
bare_colon_leaves o t column stage p h = mapping_colon_leaves o t column _ h

next_pair_leaves : (o : OptionsData) (t : Token) (column : ℕ) (stage : PairStage) (sort : TokenSort) (p : ParserState) →
    RoomBehind o t ≡ Ok o.max_buffered_comment_events → Leaves (RoomBehind o t) (next_pair o t column stage sort p)
next_pair_leaves o t column stage BeginsKey p h = bare_leaves o t (mapping_at column AtKey (owed t.lexeme.start p))
next_pair_leaves o t column stage QuestionToken p h =
    leaves_none _ (mapping_at column AtQuestion (owed t.lexeme.start p)) (flush_none (owed t.lexeme.start p))
next_pair_leaves o t column stage sort p h = bare_colon_leaves o t column stage p h

behind_indicator_leaves : (o : OptionsData) (t : Token) (column : ℕ) (stage : PairStage) (p : ParserState) →
    RoomSorted o t → Leaves (RoomBehind o t) (behind_indicator o t column stage p)
unfolding behind_indicator
behind_indicator_leaves o t column stage p s =
    leaves_if (begins_pair t.sort && is_in_column (token_column t) column) _ _ _
    (λ e. next_pair_leaves o t column stage t.sort p (s.other (no_dash_pair t.sort (and_parts (begins_pair t.sort)
    (is_in_column (token_column t) column) e).0)))
    (λ e. leaves_if (not (takes_node stage)) _ _ _ (λ f. leaves_err _ _)
    (λ f. leaves_if ((is_dash_token t.sort && is_in_column (token_column t) column) ||
    (begins_node t.sort && is_right_of (token_column t) (Some column))) _ _ _
    (λ g. node_leaves o t p) (λ g. leaves_err _ _)))

at_block_key_leaves : (o : OptionsData) (t : Token) (sort : TokenSort) (p : ParserState) →
    Leaves (RoomBehind o t) (at_block_key o t sort p)
at_block_key_leaves o t BeginsNode p = bare_leaves o t p
at_block_key_leaves o t sort p = leaves_err _ _

-- where the sort is the token's
abbrev OtherBy : OptionsData → Token → TokenSort → Type 0
OtherBy o t sort = is_dash_token sort ≡ false → RoomBehind o t ≡ Ok o.max_buffered_comment_events

behind_block_key_leaves : (o : OptionsData) (t : Token) (column : ℕ) (sort : TokenSort) (p : ParserState) →
    OtherBy o t sort → Leaves (RoomBehind o t) (behind_block_key o t column sort p)
behind_block_key_leaves o t column KeyedColon p h = mapping_colon_leaves o t column p (h refl)
behind_block_key_leaves o t column sort p h = leaves_err _ _

pub in_mapping_leaves : (o : OptionsData) (t : Token) (column : ℕ) (stage : PairStage) (p : ParserState) →
    RoomSorted o t → Leaves (RoomBehind o t) (in_mapping o t column stage p)
in_mapping_leaves o t column AtKey p s = at_block_key_leaves o t t.sort p
in_mapping_leaves o t column BehindKey p s = behind_block_key_leaves o t column t.sort p s.other
in_mapping_leaves o t column stage p s = behind_indicator_leaves o t column stage p s

-- ---- flow collections

close_flow_leaves : (room : Result ℕ Fault) (t : Token) (p : ParserState) → Leaves room (Ok (close_flow t p))
close_flow_leaves room t p =
    leaves_none room _ (end_node_none t.lexeme.start (record { start = t.lexeme.start; end = t.lexeme.shown.end }) p)

flow_at_leaves : (room : Result ℕ Fault) (single : Bool) (stage : PairStage) (p : ParserState) →
    Leaves room (Ok (flow_at single stage p))
flow_at_leaves room single stage p = leaves_none room (flow_at single stage p) (flush_none p)

flow_colon_leaves : (o : OptionsData) (t : Token) (single : Bool) (p : ParserState) →
    RoomBehind o t ≡ Ok o.max_buffered_comment_events → Leaves (RoomBehind o t) (Ok (flow_colon o t single p))
flow_colon_leaves o t single p h =
    waits_leaves (RoomBehind o t) t.lexeme.start o.max_buffered_comment_events (flow_at single AtValue p) tt h

at_entry_leaves : (o : OptionsData) (t : Token) (sort : TokenSort) (p : ParserState) → OtherBy o t sort →
    Leaves (RoomBehind o t) (at_entry o t sort p)
at_entry_leaves o t SequenceCloser p h = close_flow_leaves _ t p
at_entry_leaves o t QuestionToken p h =
    leaves_none _ (begin_pair t t.lexeme.shown.end (FlowPair AtQuestion) p) (flush_none p)
at_entry_leaves o t BareColon p h = flow_colon_leaves o t true _ (h refl)
at_entry_leaves o t BeginsKey p h = bare_leaves o t (begin_pair t t.lexeme.start (FlowMapping true AtKey) p)
at_entry_leaves o t BeginsNode p h = bare_leaves o t p
at_entry_leaves o t sort p h = leaves_err _ _

behind_entry_leaves : (room : Result ℕ Fault) (t : Token) (sort : TokenSort) (p : ParserState) → p.waiting ≡ None →
    Leaves room (behind_entry_of t sort p)
behind_entry_leaves room t SequenceCloser p e = close_flow_leaves room t p
behind_entry_leaves room t CommaToken p e = leaves_none room (with_top (FlowSequence false) p) e
behind_entry_leaves room t sort p e = leaves_err _ _

pub in_flow_sequence_leaves : (o : OptionsData) (t : Token) (b : Bool) (p : ParserState) → RoomSorted o t →
    p.waiting ≡ None → Leaves (RoomBehind o t) (in_flow_sequence o t b p)
in_flow_sequence_leaves o t false p s e = at_entry_leaves o t t.sort p s.other
in_flow_sequence_leaves o t true p s e = behind_entry_leaves (RoomBehind o t) t t.sort p e

pub flow_mapping_leaves : (o : OptionsData) (t : Token) (single : Bool) (stage : PairStage) (sort : TokenSort)
    (p : ParserState) → OtherBy o t sort → Leaves (RoomBehind o t) (in_flow_mapping_by o t single stage sort p)
flow_mapping_leaves o t single AtKey BeginsNode p h = bare_leaves o t p
flow_mapping_leaves o t single AtKey sort p h = leaves_err _ _
flow_mapping_leaves o t single BehindKey KeyedColon p h = flow_colon_leaves o t single p (h refl)
flow_mapping_leaves o t single BehindKey sort p h = leaves_err _ _
flow_mapping_leaves o t single stage MappingCloser p h = close_flow_leaves _ t p
flow_mapping_leaves o t single BeforePair CommaToken p h = leaves_err _ _
flow_mapping_leaves o t single stage CommaToken p h = flow_at_leaves _ single BeforePair (owed t.lexeme.start p)
flow_mapping_leaves o t single BeforePair QuestionToken p h = flow_at_leaves _ single AtQuestion p
flow_mapping_leaves o t single BeforePair BeginsKey p h = bare_leaves o t (flow_at single AtKey p)
flow_mapping_leaves o t single BeforePair BareColon p h = flow_colon_leaves o t single _ (h refl)
flow_mapping_leaves o t single AtQuestion BareColon p h = flow_colon_leaves o t single _ (h refl)
flow_mapping_leaves o t single BehindQuestion BareColon p h = flow_colon_leaves o t single p (h refl)
flow_mapping_leaves o t single BeforePair BeginsNode p h = bare_leaves o t p
flow_mapping_leaves o t single AtQuestion BeginsNode p h = bare_leaves o t p
flow_mapping_leaves o t single AtValue BeginsNode p h = bare_leaves o t p
flow_mapping_leaves o t single BeforePair sort p h = leaves_err _ _
flow_mapping_leaves o t single AtQuestion sort p h = leaves_err _ _
flow_mapping_leaves o t single AtValue sort p h = leaves_err _ _
flow_mapping_leaves o t single stage sort p h = leaves_err _ _

pub flow_pair_leaves : (o : OptionsData) (t : Token) (stage : PairStage) (sort : TokenSort) (p : ParserState) →
    p.waiting ≡ None → Leaves (RoomBehind o t) (in_flow_pair o t stage sort p)
flow_pair_leaves o t BehindQuestion sort p e = leaves_none _ (with_top (FlowPair AtValue) p) e
flow_pair_leaves o t stage BeginsNode p e = bare_leaves o t p
flow_pair_leaves o t stage sort p e = leaves_err _ _
