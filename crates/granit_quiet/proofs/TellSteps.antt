-- Each step of the parser tells the comments that were held, and the one behind a `-`.
use Rattle.std.proofs.Common.{◌≡◌, ℕ, ◌&&◌, Bool, true, false, List, Option, Some, None, Result, Ok, Err, refl, ap}
use Rattle.std.proofs.Common.{subst, ◌∙◌}
use Rattle.std.proofs.lemmas.Bool.{and_parts}
use Rattle.std.specs.Prelude.{if◌then◌else◌, is_none, not, ◌||◌, nat_le}
use Rattle.granit_base.specs.Place.{Mark}
use Rattle.granit_base.specs.Written.{Written}
use Rattle.granit_base.specs.declared.style.StructureStyle.TheVariants.{Flow}
use Rattle.granit_error.specs.OptionsData.{OptionsData}
use Rattle.granit_lexemes.specs.Comment.{CommentRead}
use Rattle.granit_lexemes.specs.declared.layout.Bracket.{Bracket}
use Rattle.granit_lexemes.specs.declared.layout.Bracket.TheVariants.{Square, Curly}
use Rattle.granit_lexemes.specs.Lexeme.{LexemeKind}
use Rattle.granit_lexemes.specs.Outcome.{Fault, ◌>>=◌}
use Rattle.granit_lexemes.specs.PlainEvent.{PlainEvent, PlainTag, EventKind, event_at}
use Rattle.granit_machine.specs.BlockSteps.{in_sequence, mapping_at, mapping_colon, bare_colon_in_mapping, next_pair}
use Rattle.granit_machine.specs.BlockSteps.{behind_indicator, at_block_key, behind_block_key, in_mapping, takes_node}
use Rattle.granit_machine.specs.Closing.{is_behind_question}
use Rattle.granit_machine.specs.FlowSteps.{close_flow, flow_at, flow_colon, begin_pair, at_entry, behind_entry_of}
use Rattle.granit_machine.specs.FlowSteps.{in_flow_sequence, in_flow_mapping_by, in_flow_pair}
use Rattle.granit_machine.specs.Entries.{lookup_text}
use Rattle.granit_machine.specs.Frames.{PairStage, BeforePair, AtKey, BehindKey, AtQuestion, BehindQuestion, AtValue}
use Rattle.granit_machine.specs.Frames.{Frame, BlockSequence, BlockMapping, FlowSequence, FlowMapping, FlowPair}
use Rattle.granit_machine.specs.Frames.{ParserState}
use Rattle.granit_machine.specs.Giving.{null_at, with_indent, flush, give, give_empty, below_properties}
use Rattle.granit_machine.specs.NodeEnds.{owed, empty_span, begin, begin_block, block_mapping, waits, with_top}
use Rattle.granit_machine.specs.NodeEnds.{may_be_indentless, block_count}
use Rattle.granit_machine.specs.NodeSteps.{Stepped, alias_by, tag_prefix, tagged, anchored, block_sequence, DashRole}
use Rattle.granit_machine.specs.NodeSteps.{known_prefix}
use Rattle.granit_machine.specs.NodeSteps.{NextEntry, NewSequence, IndentlessSequence, dash_room, give_tail}
use Rattle.granit_machine.specs.NodeSteps.{token_number, take_dash, first_dash, open_flow, bare_by, bare, node_by, node}
use Rattle.granit_machine.specs.TokenSort.{TokenSort, BeginsKey, BeginsNode, QuestionToken, BareColon}
use Rattle.granit_machine.specs.TokenSort.{KeyedColon, CommaToken, SequenceCloser, MappingCloser, Token, is_dash_token}
use Rattle.granit_machine.specs.TokenSort.{token_column, is_in_column, is_right_of, begins_node, begins_pair}
use Rattle.granit_lexemes.specs.PlainEvent as events
use Rattle.granit_lexemes.specs.Lexeme as lexemes
use Rattle.granit_quiet.proofs.Quieting.{NodeKind}
use Rattle.granit_machine.proofs.ClosingLemmas.{no_dash_pair}
use Rattle.granit_quiet.proofs.Telling.{told, flush_told, give_told, give_empty_told, leaf_told, begin_told}
use Rattle.granit_quiet.proofs.Telling.{waits_told, owed_told, end_node_told, with_tail_of, tail_told}

-- ---- steps that may fail

abbrev TellsBy : Stepped → List PlainEvent → Type 0
TellsBy (Ok q) es = told q ≡ es
TellsBy (Err f) es = Unit {0}

-- a step that succeeds has told or holds these comments
pub record Tells (r : Stepped) (es : List PlainEvent) : Type 0 where
  pub says : TellsBy r es

pub tells_ok : (q : ParserState) (es : List PlainEvent) → told q ≡ es → Tells (Ok q) es
tells_ok q es e = record { says = e }

pub tells_err : (f : Fault) (es : List PlainEvent) → Tells (Err f) es
tells_err f es = record { says = tt }

pub tells_if : (b : Bool) (r s : Stepped) (es : List PlainEvent) → (b ≡ true → Tells r es) → (b ≡ false →
    Tells s es) → Tells (if b then r else s) es
tells_if true r s es h k = h refl
tells_if false r s es h k = k refl

pub tells_behind : {A : Type 0} (r : Result A Fault) (f : A → Stepped) (es : List PlainEvent) → ((x : A) → Tells
    (f x) es) → Tells (r >>= f) es
tells_behind (Ok x) f es h = h x
tells_behind (Err e) f es h = tells_err e es

pub tells_then : (r : Stepped) (f : ParserState → Stepped) (ds es : List PlainEvent) → Tells r ds →
    ((q : ParserState) → told q ≡ ds → Tells (f q) es) → Tells (r >>= f) es
tells_then (Ok q) f ds es t h = h q t.says
tells_then (Err e) f ds es t h = tells_err e es

-- what a token adds: the comment behind a `-`
abbrev pub adds : LexemeKind → Option CommentRead → List PlainEvent → List PlainEvent
adds lexemes.Dash tail es = with_tail_of tail es
adds kind tail es = es

abbrev pub Added : Token → List PlainEvent → List PlainEvent
Added t es = adds t.lexeme.kind t.lexeme.tail es

-- a token is a `-` by its sort where its lexeme is one
pub record Sorted (t : Token) : Type 0 where
  pub dash : is_dash_token t.sort ≡ true → (es : List PlainEvent) → with_tail_of t.lexeme.tail es ≡ Added t es
  pub other : is_dash_token t.sort ≡ false → (es : List PlainEvent) → es ≡ Added t es

abbrev pub Adds : Token → ParserState → Stepped → Type 0
Adds t p r = Tells r (Added t (told p))

-- a step of another token
pub plainly : (t : Token) (p : ParserState) (q : ParserState) → ((es : List PlainEvent) → es ≡ Added t es) →
    told q ≡ told p → Adds t p (Ok q)
plainly t p q h e = tells_ok q (Added t (told p)) (e ∙ h (told p))

-- a step from a state that has told the same
from : (t : Token) (p q : ParserState) (r : Stepped) → told q ≡ told p → Adds t q r → Adds t p r
from t p q r e h = subst (λ es. Tells r (Added t es)) e h

-- ---- a node's lexeme

alias_tells : (o : OptionsData) (t : Token) (name : Written) (n : Option ℕ) (p : ParserState) → Tells
    (alias_by o t name n p) (told p)
alias_tells o t name (Some n) p = tells_ok _ _ (leaf_told o (λ number tag. events.Alias n) t.lexeme.shown None p
    (λ n t. refl))
alias_tells o t name None p =
    tells_if o.emit_unresolved_aliases _ _ (told p)
    (λ e. tells_ok _ _ (leaf_told o (λ number tag. events.UnresolvedAlias name) t.lexeme.shown None p (λ n t. refl)))
    (λ e. tells_err _ _)

begin_block_tells : (o : OptionsData) (kind : ℕ → Option PlainTag → EventKind) (m : Mark) (f : Frame)
    (p : ParserState) → NodeKind kind → Tells (begin_block o kind m f p) (told p)
unfolding begin_block
begin_block_tells o kind m f p h = tells_if (nat_le o.block_nesting_limit (block_count p.frames)) _ _ (told p)
    (λ e. tells_err _ _) (λ e. tells_ok _ _ (begin_told o kind (empty_span m) f p h))

-- a `-` with its tail
dash_tells : (o : OptionsData) (t : Token) (role : DashRole) (indentless : Bool) (p : ParserState) → Tells
    (take_dash o t role indentless p) (with_tail_of t.lexeme.tail (told p))
unfolding take_dash
dash_tells o t NextEntry indentless p =
    tells_behind (dash_room o t.lexeme.tail) _ _
    (λ room. tells_ok _ _ (waits_told t.lexeme.end room (with_top (BlockSequence (token_number t) indentless)
    (give_tail t.lexeme.tail p)) ∙ tail_told t.lexeme.tail p))
dash_tells o t NewSequence indentless p =
    tells_then (begin_block o block_sequence t.lexeme.start (BlockSequence (token_number t) false) p) _ (told p) _
    (begin_block_tells o block_sequence t.lexeme.start (BlockSequence (token_number t) false) p (λ n t. refl))
    (λ q e. tells_behind (dash_room o t.lexeme.tail) _ _
    (λ room. tells_ok _ _ (waits_told t.lexeme.end room (give_tail t.lexeme.tail q) ∙ (tail_told t.lexeme.tail q ∙ ap
    (with_tail_of t.lexeme.tail) e))))
dash_tells o t IndentlessSequence indentless p =
    tells_if (nat_le o.block_nesting_limit (block_count p.frames)) _ _ (with_tail_of t.lexeme.tail (told p))
    (λ e. tells_err _ _)
    (λ e. tells_behind (dash_room o t.lexeme.tail) _ _
    (λ room. tells_ok _ _
    (waits_told t.lexeme.end room (begin o block_sequence (empty_span t.lexeme.end) (BlockSequence
    (token_number t) true) (give_tail t.lexeme.tail p))
    ∙ (begin_told o block_sequence (empty_span t.lexeme.end) (BlockSequence (token_number t) true)
    (give_tail t.lexeme.tail p) (λ n t. refl) ∙ tail_told t.lexeme.tail p))))

open_flow_told : (o : OptionsData) (b : Bracket) (t : Token) (p : ParserState) → told (open_flow o b t p) ≡ told p
open_flow_told o Square t p = begin_told o (λ number tag. events.SequenceStart Flow number tag) t.lexeme.shown
    (FlowSequence false) p (λ n t. refl)
open_flow_told o Curly t p = begin_told o (λ number tag. events.MappingStart Flow number tag) t.lexeme.shown
    (FlowMapping false BeforePair) p (λ n t. refl)

colon_tells : (o : OptionsData) (t : Token) (p : ParserState) → Tells (begin_block o block_mapping t.lexeme.start
    (BlockMapping (token_number t) AtValue) p >>= λ q. Ok (waits t.lexeme.start o.max_buffered_comment_events (give
    (null_at t.lexeme.start) q))) (told p)
colon_tells o t p =
    tells_then (begin_block o block_mapping t.lexeme.start (BlockMapping (token_number t) AtValue) p) _ (told p) _
    (begin_block_tells o block_mapping t.lexeme.start (BlockMapping (token_number t) AtValue) p (λ n t. refl))
    (λ q e. tells_ok _ _ (waits_told t.lexeme.start o.max_buffered_comment_events (give (null_at t.lexeme.start) q) ∙
    (give_told (null_at t.lexeme.start) q refl ∙ e)))

bare_by_tells : (o : OptionsData) (kind : LexemeKind) (t : Token) (p : ParserState) → Tells (bare_by o kind t p)
    (adds kind t.lexeme.tail (told p))
bare_by_tells o (lexemes.Alias name) t p = alias_tells o t name (lookup_text name.characters p.names) p
bare_by_tells o (lexemes.Scalar style text) t p = tells_ok _ _ (leaf_told o
    (λ number tag. events.Scalar text style number tag) t.lexeme.shown t.lexeme.indent p (λ n t. refl))
bare_by_tells o (lexemes.Open bracket) t p = tells_ok _ _ (open_flow_told o bracket t p)
bare_by_tells o (lexemes.Anchor name) t p = tells_ok (anchored t name (flush p)) _ (flush_told p)
bare_by_tells o (lexemes.Tag handle suffix) t p = tells_behind (tag_prefix t handle (known_prefix o handle p)) _ _
    (λ prefix. tells_ok (tagged t handle suffix prefix (flush p)) _ (flush_told p))
bare_by_tells o lexemes.Dash t p = dash_tells o t (first_dash (may_be_indentless (token_number t)
    (below_properties p.frames))) false p
bare_by_tells o lexemes.Question t p = begin_block_tells o block_mapping t.lexeme.start (BlockMapping
    (token_number t) AtQuestion) p (λ n t. refl)
bare_by_tells o kind t p = colon_tells o t p

pub bare_adds : (o : OptionsData) (t : Token) (p : ParserState) → Adds t p (bare o t p)
bare_adds o t p = bare_by_tells o t.lexeme.kind t p

node_by_adds : (o : OptionsData) (sort : TokenSort) (t : Token) (p : ParserState) → Adds t p (node_by o sort t p)
node_by_adds o BeginsKey t p =
    tells_then (begin_block o block_mapping t.lexeme.start (BlockMapping (token_number t) AtKey) p) _ (told p) _
    (begin_block_tells o block_mapping t.lexeme.start (BlockMapping (token_number t) AtKey) p (λ n t. refl))
    (λ q e. from t p q _ e (bare_adds o t q))
node_by_adds o sort t p = bare_adds o t p

pub node_adds : (o : OptionsData) (t : Token) (p : ParserState) → Adds t p (node o t p)
node_adds o t p = node_by_adds o t.sort t p

-- ---- block collections

pub in_sequence_adds : (o : OptionsData) (t : Token) (column : ℕ) (indentless : Bool) (p : ParserState) → Sorted t →
    Adds t p (in_sequence o t column indentless p)
unfolding in_sequence
in_sequence_adds o t column indentless p s =
    tells_if (is_dash_token t.sort && is_in_column (token_column t) column) _ _ (Added t (told p))
    (λ e.
    let d = and_parts (is_dash_token t.sort) (is_in_column (token_column t) column) e in
    subst (Tells (take_dash o t NextEntry indentless (give_empty p))) (ap (with_tail_of t.lexeme.tail)
    (give_empty_told p) ∙ s.dash d.0 (told p))
    (dash_tells o t NextEntry indentless (give_empty p)))
    (λ e. tells_if (is_none p.waiting) _ _ (Added t (told p)) (λ f. tells_err _ _)
    (λ f. tells_if (begins_node t.sort && is_right_of (token_column t) (Some column)) _ _ (Added t (told p))
    (λ g. node_adds o t p) (λ g. tells_err _ _)))

mapping_colon_told : (o : OptionsData) (t : Token) (column : ℕ) (p : ParserState) → told
    (mapping_colon o t column p) ≡ told p
mapping_colon_told o t column p = waits_told t.lexeme.start o.max_buffered_comment_events
    (mapping_at column AtValue p) ∙ flush_told p

bare_colon_told : (o : OptionsData) (t : Token) (column : ℕ) (stage : PairStage) (p : ParserState) → told
    (bare_colon_in_mapping o t column stage p) ≡ told p
bare_colon_told o t column AtQuestion p =
    mapping_colon_told o t column (give (with_indent (Some column) (null_at t.lexeme.start)) p) ∙ give_told
    (with_indent (Some column) (null_at t.lexeme.start)) p refl
bare_colon_told o t column BehindQuestion p = mapping_colon_told o t column p
bare_colon_told o t column stage p =
    mapping_colon_told o t column (give (null_at t.lexeme.start) (owed t.lexeme.start p)) ∙ (give_told
    (null_at t.lexeme.start) (owed t.lexeme.start p) refl ∙ owed_told t.lexeme.start p)

abbrev Silent : Token → Type 0
Silent t = (es : List PlainEvent) → es ≡ Added t es

entry_told : (t : Token) (column : ℕ) (stage : PairStage) (p : ParserState) → told (mapping_at column stage
    (owed t.lexeme.start p)) ≡ told p
entry_told t column stage p = flush_told (owed t.lexeme.start p) ∙ owed_told t.lexeme.start p

next_pair_adds : (o : OptionsData) (t : Token) (column : ℕ) (stage : PairStage) (sort : TokenSort) (p : ParserState) →
    Silent t → Adds t p (next_pair o t column stage sort p)
next_pair_adds o t column stage BeginsKey p h = from t p (mapping_at column AtKey (owed t.lexeme.start p)) _
    (entry_told t column AtKey p) (bare_adds o t (mapping_at column AtKey (owed t.lexeme.start p)))
next_pair_adds o t column stage QuestionToken p h = plainly t p _ h (entry_told t column AtQuestion p)
next_pair_adds o t column stage sort p h = plainly t p _ h (bare_colon_told o t column stage p)

behind_indicator_adds : (o : OptionsData) (t : Token) (column : ℕ) (stage : PairStage) (p : ParserState) → Sorted t →
    Adds t p (behind_indicator o t column stage p)
unfolding behind_indicator
behind_indicator_adds o t column stage p s =
    tells_if (begins_pair t.sort && is_in_column (token_column t) column) _ _ (Added t (told p))
    (λ e. next_pair_adds o t column stage t.sort p (s.other (no_dash_pair t.sort (and_parts (begins_pair t.sort)
    (is_in_column (token_column t) column) e).0)))
    (λ e. tells_if (not (takes_node stage)) _ _ (Added t (told p)) (λ f. tells_err _ _)
    (λ f. tells_if ((is_dash_token t.sort && is_in_column (token_column t) column) ||
    (begins_node t.sort && is_right_of (token_column t) (Some column))) _ _ (Added t (told p))
    (λ g. node_adds o t p) (λ g. tells_err _ _)))

at_block_key_adds : (o : OptionsData) (t : Token) (sort : TokenSort) (p : ParserState) → Adds t p
    (at_block_key o t sort p)
at_block_key_adds o t BeginsNode p = bare_adds o t p
at_block_key_adds o t sort p = tells_err _ _

-- where the sort is the token's
abbrev SilentBy : Token → TokenSort → Type 0
SilentBy t sort = is_dash_token sort ≡ false → Silent t

behind_block_key_adds : (o : OptionsData) (t : Token) (column : ℕ) (sort : TokenSort) (p : ParserState) →
    SilentBy t sort → Adds t p (behind_block_key o t column sort p)
behind_block_key_adds o t column KeyedColon p h = plainly t p _ (h refl) (mapping_colon_told o t column p)
behind_block_key_adds o t column sort p h = tells_err _ _

pub in_mapping_adds : (o : OptionsData) (t : Token) (column : ℕ) (stage : PairStage) (p : ParserState) → Sorted t →
    Adds t p (in_mapping o t column stage p)
in_mapping_adds o t column AtKey p s = at_block_key_adds o t t.sort p
in_mapping_adds o t column BehindKey p s = behind_block_key_adds o t column t.sort p s.other
in_mapping_adds o t column stage p s = behind_indicator_adds o t column stage p s

-- ---- flow collections

close_flow_told : (t : Token) (p : ParserState) → told (close_flow t p) ≡ told p
close_flow_told t p = end_node_told t.lexeme.start (record { start = t.lexeme.start; end = t.lexeme.shown.end }) p

flow_at_told : (single : Bool) (stage : PairStage) (p : ParserState) → told (flow_at single stage p) ≡ told p
flow_at_told single stage p = flush_told p

flow_colon_told : (o : OptionsData) (t : Token) (single : Bool) (p : ParserState) → told
    (flow_colon o t single p) ≡ told p
flow_colon_told o t single p = waits_told t.lexeme.start o.max_buffered_comment_events (flow_at single AtValue p)
    ∙ flow_at_told single AtValue p

null_colon_told : (o : OptionsData) (t : Token) (single : Bool) (p : ParserState) → told (flow_colon o t single (give
    (null_at t.lexeme.start) p)) ≡ told p
null_colon_told o t single p = flow_colon_told o t single (give (null_at t.lexeme.start) p) ∙ give_told
    (null_at t.lexeme.start) p refl

begin_pair_told : (t : Token) (end : Mark) (f : Frame) (p : ParserState) → told (begin_pair t end f p) ≡ told p
begin_pair_told t end f p = give_told (event_at (events.MappingStart Flow 0 None) (record {
  start =
      t.lexeme.start;
  end = end;
})) p refl

at_entry_adds : (o : OptionsData) (t : Token) (sort : TokenSort) (p : ParserState) → SilentBy t sort → Adds t p
    (at_entry o t sort p)
at_entry_adds o t SequenceCloser p h = plainly t p _ (h refl) (close_flow_told t p)
at_entry_adds o t QuestionToken p h = plainly t p _ (h refl) (begin_pair_told t t.lexeme.shown.end
    (FlowPair AtQuestion) p)
at_entry_adds o t BareColon p h =
    plainly t p _ (h refl) (null_colon_told o t true (begin_pair t t.lexeme.start (FlowMapping true BeforePair) p)
    ∙ begin_pair_told t t.lexeme.start (FlowMapping true BeforePair) p)
at_entry_adds o t BeginsKey p h =
    from t p (begin_pair t t.lexeme.start (FlowMapping true AtKey) p) _ (begin_pair_told t t.lexeme.start
    (FlowMapping true AtKey) p) (bare_adds o t (begin_pair t t.lexeme.start (FlowMapping true AtKey) p))
at_entry_adds o t BeginsNode p h = bare_adds o t p
at_entry_adds o t sort p h = tells_err _ _

behind_entry_adds : (t : Token) (sort : TokenSort) (p : ParserState) → SilentBy t sort → Adds t p
    (behind_entry_of t sort p)
behind_entry_adds t SequenceCloser p h = plainly t p _ (h refl) (close_flow_told t p)
behind_entry_adds t CommaToken p h = plainly t p _ (h refl) refl
behind_entry_adds t sort p h = tells_err _ _

pub in_flow_sequence_adds : (o : OptionsData) (t : Token) (b : Bool) (p : ParserState) → Sorted t → Adds t p
    (in_flow_sequence o t b p)
in_flow_sequence_adds o t false p s = at_entry_adds o t t.sort p s.other
in_flow_sequence_adds o t true p s = behind_entry_adds t t.sort p s.other

comma_told : (t : Token) (single : Bool) (p : ParserState) → told (flow_at single BeforePair
    (owed t.lexeme.start p)) ≡ told p
comma_told t single p = flow_at_told single BeforePair (owed t.lexeme.start p) ∙ owed_told t.lexeme.start p

flow_mapping_by : (o : OptionsData) (t : Token) (single : Bool) (stage : PairStage) (sort : TokenSort)
    (p : ParserState) → SilentBy t sort → Adds t p (in_flow_mapping_by o t single stage sort p)
flow_mapping_by o t single AtKey BeginsNode p h = bare_adds o t p
flow_mapping_by o t single AtKey sort p h = tells_err _ _
flow_mapping_by o t single BehindKey KeyedColon p h = plainly t p _ (h refl) (flow_colon_told o t single p)
flow_mapping_by o t single BehindKey sort p h = tells_err _ _
flow_mapping_by o t single stage MappingCloser p h = plainly t p _ (h refl) (close_flow_told t p)
flow_mapping_by o t single BeforePair CommaToken p h = tells_err _ _
flow_mapping_by o t single stage CommaToken p h = plainly t p _ (h refl) (comma_told t single p)
flow_mapping_by o t single BeforePair QuestionToken p h = plainly t p _ (h refl) (flow_at_told single AtQuestion p)
flow_mapping_by o t single BeforePair BeginsKey p h = from t p (flow_at single AtKey p) _
    (flow_at_told single AtKey p) (bare_adds o t (flow_at single AtKey p))
flow_mapping_by o t single BeforePair BareColon p h = plainly t p _ (h refl) (null_colon_told o t single p)
flow_mapping_by o t single AtQuestion BareColon p h = plainly t p _ (h refl) (null_colon_told o t single p)
flow_mapping_by o t single BehindQuestion BareColon p h = plainly t p _ (h refl) (flow_colon_told o t single p)
flow_mapping_by o t single BeforePair BeginsNode p h = bare_adds o t p
flow_mapping_by o t single AtQuestion BeginsNode p h = bare_adds o t p
flow_mapping_by o t single AtValue BeginsNode p h = bare_adds o t p
flow_mapping_by o t single BeforePair sort p h = tells_err _ _
flow_mapping_by o t single AtQuestion sort p h = tells_err _ _
flow_mapping_by o t single AtValue sort p h = tells_err _ _
flow_mapping_by o t single stage sort p h = tells_err _ _

pub flow_mapping_adds : (o : OptionsData) (t : Token) (single : Bool) (stage : PairStage) (p : ParserState) →
    Sorted t → Adds t p (in_flow_mapping_by o t single stage t.sort p)
flow_mapping_adds o t single stage p s = flow_mapping_by o t single stage t.sort p s.other

pair_by :
    (o : OptionsData) (t : Token) (stage : PairStage) (sort : TokenSort) (p : ParserState) → SilentBy t sort →
    (is_behind_question stage ≡ true → is_dash_token sort ≡ false) → Adds t p (in_flow_pair o t stage sort p)
pair_by o t BehindQuestion sort p h n = plainly t p _ (h (n refl)) refl
pair_by o t stage BeginsNode p h n = bare_adds o t p
pair_by o t stage sort p h n = tells_err _ _

pub flow_pair_adds :
    (o : OptionsData) (t : Token) (stage : PairStage) (p : ParserState) → Sorted t →
    (is_behind_question stage ≡ true → is_dash_token t.sort ≡ false) → Adds t p (in_flow_pair o t stage t.sort p)
flow_pair_adds o t stage p s n = pair_by o t stage t.sort p s.other n
