-- Each step of the parser in a node or a collection leaves the handles that stay.
use Rattle.std.proofs.Common.{◌≡◌, ℕ, ◌&&◌, Bool, true, false, List, [], ◌∷◌, ◌++◌, Option, Some, None, Result, Ok, Err}
use Rattle.std.proofs.Common.{refl, ◌∙◌}
use Rattle.std.specs.Prelude.{if◌then◌else◌, is_none, not, ◌||◌, nat_le}
use Rattle.granit_base.specs.Place.{Mark}
use Rattle.granit_base.specs.Written.{Written}
use Rattle.granit_base.specs.declared.style.StructureStyle.TheVariants.{Flow}
use Rattle.granit_error.specs.OptionsData.{OptionsData}
use Rattle.granit_lexemes.specs.Comment.{CommentRead}
use Rattle.granit_lexemes.specs.declared.layout.Bracket.{Bracket}
use Rattle.granit_lexemes.specs.declared.layout.Bracket.TheVariants.{Square, Curly}
use Rattle.granit_lexemes.specs.Lexeme as lexemes
use Rattle.granit_lexemes.specs.Lexeme.{LexemeKind}
use Rattle.granit_lexemes.specs.Outcome.{Fault, ◌>>=◌}
use Rattle.granit_lexemes.specs.PlainEvent as events
use Rattle.granit_lexemes.specs.PlainEvent.{PlainTag, EventKind, event_at}
use Rattle.granit_lexemes.specs.Source.{Source}
use Rattle.granit_machine.specs.BlockSteps.{in_sequence, mapping_at, mapping_colon, bare_colon_in_mapping, next_pair}
use Rattle.granit_machine.specs.BlockSteps.{behind_indicator, at_block_key, behind_block_key, in_mapping, takes_node}
use Rattle.granit_machine.specs.FlowSteps.{close_flow, flow_at, flow_colon, begin_pair, at_entry, behind_entry_of}
use Rattle.granit_machine.specs.FlowSteps.{in_flow_sequence, in_flow_mapping_by, in_flow_pair}
use Rattle.granit_machine.specs.Entries.{lookup_text}
use Rattle.granit_machine.specs.Frames.{PairStage, BeforePair, AtKey, BehindKey, AtQuestion, BehindQuestion, AtValue}
use Rattle.granit_machine.specs.Frames.{BehindAlone, NodeProperties, Frame, Root, WithProperties, BlockSequence}
use Rattle.granit_machine.specs.Frames.{BlockMapping, FlowSequence, FlowMapping, FlowPair, Waiting, ParserState}
use Rattle.granit_machine.specs.Giving.{null_at, with_indent, flush_held, flush, put, give, empty_by, give_empty}
use Rattle.granit_machine.specs.Giving.{properties_on, below_properties, tell_anchor, node_event}
use Rattle.granit_machine.specs.NodeEnds.{finish_in, finish, owed_in, owed, below, end_node, null_node, end_properties}
use Rattle.granit_machine.specs.NodeEnds.{empty_span, begin, begin_block, block_mapping, waits, with_top}
use Rattle.granit_machine.specs.NodeEnds.{may_be_indentless, block_count}
use Rattle.granit_machine.specs.NodeSteps.{Stepped, alias_by, tag_prefix, tagged, anchored, block_sequence, DashRole}
use Rattle.granit_machine.specs.NodeSteps.{known_prefix}
use Rattle.granit_machine.specs.NodeSteps.{NextEntry, NewSequence, IndentlessSequence, dash_room, give_tail}
use Rattle.granit_machine.specs.NodeSteps.{token_number, take_dash, first_dash, open_flow, bare_by, bare, node_by, node}
use Rattle.granit_machine.specs.TokenSort.{TokenSort, BeginsKey, BeginsNode, QuestionToken, BareColon}
use Rattle.granit_machine.specs.TokenSort.{KeyedColon, CommaToken, SequenceCloser, MappingCloser, Token, is_dash_token}
use Rattle.granit_machine.specs.TokenSort.{token_column, is_in_column, is_right_of, begins_node, begins_pair}

-- handles, and what they stand for
abbrev pub KeptHandles : Type 0
KeptHandles = List (List ℕ × List ℕ)

-- ---- steps that may fail

abbrev KeepsBy : KeptHandles → Stepped → Type 0
KeepsBy kept (Ok q) = q.kept ≡ kept
KeepsBy kept (Err f) = Unit {0}

-- behind a step these handles stay
pub record KeepsHandles (kept : KeptHandles) (r : Stepped) : Type 0 where
  pub says : KeepsBy kept r

pub keeps_ok : (kept : KeptHandles) (q : ParserState) → q.kept ≡ kept → KeepsHandles kept (Ok q)
keeps_ok kept q e = record { says = e }

pub keeps_err : (kept : KeptHandles) (f : Fault) → KeepsHandles kept (Err f)
keeps_err kept f = record { says = tt }

pub keeps_if : (b : Bool) (kept : KeptHandles) (r s : Stepped) → KeepsHandles kept r → KeepsHandles kept s
    → KeepsHandles kept (if b then r else s)
keeps_if true kept r s h k = h
keeps_if false kept r s h k = k

keeps_any : {A : Type 0} (kept : KeptHandles) (r : Result A Fault) (f : A → Stepped)
    → ((x : A) → KeepsHandles kept (f x)) → KeepsHandles kept (r >>= f)
keeps_any kept (Ok x) f h = h x
keeps_any kept (Err e) f h = keeps_err kept e

keeps_then : (kept : KeptHandles) (r : Stepped) (f : ParserState → Stepped) → KeepsHandles kept r
    → ((q : ParserState) → q.kept ≡ kept → KeepsHandles kept (f q)) → KeepsHandles kept (r >>= f)
keeps_then kept (Ok q) f a h = h q a.says
keeps_then kept (Err e) f a h = keeps_err kept e

-- ---- giving

flush_kept_by : (w : Option Waiting) (p : ParserState) → (flush_held w p).kept ≡ p.kept
flush_kept_by None p = refl
flush_kept_by (Some w) p = refl

-- so does giving an event
pub flush_kept : (p : ParserState) → (flush p).kept ≡ p.kept
flush_kept p = flush_kept_by p.waiting p

empty_kept_by : (w : Option Waiting) (p : ParserState) → (empty_by w p).kept ≡ p.kept
empty_kept_by None p = refl
empty_kept_by (Some w) p = flush_kept (put (null_at w.at) p)

empty_kept : (p : ParserState) → (give_empty p).kept ≡ p.kept
empty_kept p = empty_kept_by p.waiting p

anchor_kept : (o : OptionsData) (a : Option (ℕ × Written × Source)) (p : ParserState)
    → (tell_anchor o a p).kept ≡ p.kept
anchor_kept o None p = refl
anchor_kept o (Some a) p = on o.emit_anchor_events
  where
    on : (b : Bool) → (if b then record p { given = p.given ++ event_at (events.Anchor a.0 a.1) a.2 ∷ [] }
        else p).kept ≡ p.kept
    on true = refl
    on false = refl

node_event_kept : (o : OptionsData) (kind : ℕ → Option PlainTag → EventKind) (source : Source) (indent : Option ℕ)
    (p : ParserState) → (node_event o kind source indent p).kept ≡ p.kept
unfolding node_event
node_event_kept o kind source indent p =
    let q = properties_on p.frames source.end in
    anchor_kept o q.anchor _ ∙ flush_kept (record p { frames = below_properties p.frames })

finish_kept_by : (fs : List Frame) (p : ParserState) → (finish_in fs p).kept ≡ p.kept
finish_kept_by [] p = refl
finish_kept_by (Root explicit ∷ fs) p = refl
finish_kept_by (WithProperties q ∷ fs) p = refl
finish_kept_by (BlockSequence column indentless ∷ fs) p = refl
finish_kept_by (BlockMapping column stage ∷ fs) p = refl
finish_kept_by (FlowSequence behind_entry ∷ fs) p = refl
finish_kept_by (FlowMapping single stage ∷ fs) p = refl
finish_kept_by (FlowPair stage ∷ fs) p = refl

pub finish_kept : (p : ParserState) → (finish p).kept ≡ p.kept
finish_kept p = finish_kept_by p.frames p

leaf_kept : (o : OptionsData) (kind : ℕ → Option PlainTag → EventKind) (source : Source) (indent : Option ℕ)
    (p : ParserState) → (finish (node_event o kind source indent p)).kept ≡ p.kept
leaf_kept o kind source indent p =
    finish_kept (node_event o kind source indent p) ∙ node_event_kept o kind source indent p

-- two events
gives_kept : (e : events.PlainEvent) (p : ParserState) → (flush (give e p)).kept ≡ p.kept
gives_kept e p = flush_kept (give e p) ∙ flush_kept p

owed_kept_by : (fs : List Frame) (m : Mark) (p : ParserState) → (owed_in fs m p).kept ≡ p.kept
owed_kept_by (BlockSequence column indentless ∷ fs) m p = empty_kept p
owed_kept_by (BlockMapping column AtValue ∷ fs) m p = empty_kept p
owed_kept_by (FlowMapping single AtValue ∷ fs) m p = empty_kept p
owed_kept_by (BlockMapping column AtQuestion ∷ fs) m p = gives_kept (with_indent (Some column) (null_at m)) p
owed_kept_by (FlowMapping single AtQuestion ∷ fs) m p = gives_kept (null_at m) p
owed_kept_by (FlowPair AtQuestion ∷ fs) m p = gives_kept (null_at m) p
owed_kept_by (BlockMapping column BehindQuestion ∷ fs) m p = flush_kept p
owed_kept_by (FlowMapping single BehindQuestion ∷ fs) m p = flush_kept p
owed_kept_by (FlowMapping single BehindAlone ∷ fs) m p = flush_kept p
owed_kept_by (FlowPair BehindQuestion ∷ fs) m p = flush_kept p
owed_kept_by (FlowPair AtValue ∷ fs) m p = flush_kept p
owed_kept_by fs m p = refl

owed_kept : (m : Mark) (p : ParserState) → (owed m p).kept ≡ p.kept
owed_kept m p = owed_kept_by p.frames m p

pub end_node_kept : (m : Mark) (source : Source) (p : ParserState) → (end_node m source p).kept ≡ p.kept
unfolding end_node
end_node_kept m source p =
    finish_kept _ ∙ flush_kept (record (owed m p) { frames = below (owed m p).frames }) ∙ owed_kept m p

pub end_properties_kept : (o : OptionsData) (q : NodeProperties) (p : ParserState)
    → (end_properties o q p).kept ≡ p.kept
unfolding end_properties
end_properties_kept o q p = leaf_kept o (null_node q) (empty_span q.end) None p

give_tail_kept : (tail : Option CommentRead) (p : ParserState) → (give_tail tail p).kept ≡ p.kept
give_tail_kept None p = refl
give_tail_kept (Some c) p = flush_kept p

-- ---- where these handles stay

module _ (kept : KeptHandles) where
  leaf_keeps : (o : OptionsData) (kind : ℕ → Option PlainTag → EventKind) (source : Source) (indent : Option ℕ)
      (p : ParserState) → p.kept ≡ kept → KeepsHandles kept (Ok (finish (node_event o kind source indent p)))
  leaf_keeps o kind source indent p e = keeps_ok kept _ (leaf_kept o kind source indent p ∙ e)

  waits_keeps : (m : Mark) (n : ℕ) (p : ParserState) → p.kept ≡ kept → KeepsHandles kept (Ok (waits m n p))
  waits_keeps m n p e = keeps_ok kept (waits m n p) (flush_kept p ∙ e)

  begin_block_keeps : (o : OptionsData) (kind : ℕ → Option PlainTag → EventKind) (m : Mark) (f : Frame)
      (p : ParserState) → p.kept ≡ kept → KeepsHandles kept (begin_block o kind m f p)
  unfolding begin_block
  begin_block_keeps o kind m f p e =
      keeps_if (nat_le o.block_nesting_limit (block_count p.frames)) kept _ _ (keeps_err kept _)
      (keeps_ok kept (begin o kind (empty_span m) f p) (node_event_kept o kind (empty_span m) None p ∙ e))

  -- ---- a `-`

  dash_keeps : (o : OptionsData) (t : Token) (role : DashRole) (indentless : Bool) (p : ParserState) → p.kept ≡ kept
      → KeepsHandles kept (take_dash o t role indentless p)
  unfolding take_dash
  dash_keeps o t NextEntry indentless p e =
      keeps_any kept (dash_room o t.lexeme.tail) _
      (λ n. waits_keeps t.lexeme.end n
      (with_top (BlockSequence (token_number t) indentless) (give_tail t.lexeme.tail p))
      (give_tail_kept t.lexeme.tail p ∙ e))
  dash_keeps o t NewSequence indentless p e =
      keeps_then kept
      (begin_block o block_sequence t.lexeme.start (BlockSequence (token_number t) false) p) _
      (begin_block_keeps o block_sequence t.lexeme.start (BlockSequence (token_number t) false) p e)
      (λ q f. keeps_any kept (dash_room o t.lexeme.tail) _
      (λ n. waits_keeps t.lexeme.end n (give_tail t.lexeme.tail q) (give_tail_kept t.lexeme.tail q ∙ f)))
  dash_keeps o t IndentlessSequence indentless p e =
      keeps_if (nat_le o.block_nesting_limit (block_count p.frames)) kept _ _ (keeps_err kept _)
      (keeps_any kept (dash_room o t.lexeme.tail) _
      (λ n. waits_keeps t.lexeme.end n
      (begin o block_sequence (empty_span t.lexeme.end) (BlockSequence (token_number t) true)
      (give_tail t.lexeme.tail p))
      (node_event_kept o block_sequence (empty_span t.lexeme.end) None (give_tail t.lexeme.tail p)
      ∙ give_tail_kept t.lexeme.tail p ∙ e)))

  -- ---- any lexeme of a node

  alias_keeps : (o : OptionsData) (t : Token) (name : Written) (n : Option ℕ) (p : ParserState) → p.kept ≡ kept
      → KeepsHandles kept (alias_by o t name n p)
  alias_keeps o t name (Some n) p e = leaf_keeps o (λ number tag. events.Alias n) t.lexeme.shown None p e
  alias_keeps o t name None p e =
      keeps_if o.emit_unresolved_aliases kept _ _
      (leaf_keeps o (λ number tag. events.UnresolvedAlias name) t.lexeme.shown None p e) (keeps_err kept _)

  open_flow_kept : (o : OptionsData) (b : Bracket) (t : Token) (p : ParserState) → (open_flow o b t p).kept ≡ p.kept
  open_flow_kept o Square t p =
      node_event_kept o (λ number tag. events.SequenceStart Flow number tag) t.lexeme.shown None p
  open_flow_kept o Curly t p =
      node_event_kept o (λ number tag. events.MappingStart Flow number tag) t.lexeme.shown None p

  bare_by_keeps : (o : OptionsData) (kind : LexemeKind) (t : Token) (p : ParserState) → p.kept ≡ kept
      → KeepsHandles kept (bare_by o kind t p)
  bare_by_keeps o (lexemes.Alias name) t p e = alias_keeps o t name (lookup_text name.characters p.names) p e
  bare_by_keeps o (lexemes.Scalar style text) t p e =
      leaf_keeps o (λ number tag. events.Scalar text style number tag) t.lexeme.shown t.lexeme.indent p e
  bare_by_keeps o (lexemes.Open bracket) t p e = keeps_ok kept _ (open_flow_kept o bracket t p ∙ e)
  bare_by_keeps o (lexemes.Anchor name) t p e = keeps_ok kept (anchored t name (flush p)) (flush_kept p ∙ e)
  bare_by_keeps o (lexemes.Tag handle suffix) t p e =
      keeps_any kept (tag_prefix t handle (known_prefix o handle p)) _
      (λ prefix. keeps_ok kept (tagged t handle suffix prefix (flush p)) (flush_kept p ∙ e))
  bare_by_keeps o lexemes.Dash t p e =
      dash_keeps o t (first_dash (may_be_indentless (token_number t) (below_properties p.frames))) false p e
  bare_by_keeps o lexemes.Question t p e =
      begin_block_keeps o block_mapping t.lexeme.start (BlockMapping (token_number t) AtQuestion) p e
  bare_by_keeps o kind t p e =
      keeps_then kept (begin_block o block_mapping t.lexeme.start (BlockMapping (token_number t) AtValue) p) _
      (begin_block_keeps o block_mapping t.lexeme.start (BlockMapping (token_number t) AtValue) p e)
      (λ q f. waits_keeps t.lexeme.start o.max_buffered_comment_events (give (null_at t.lexeme.start) q)
      (flush_kept q ∙ f))

  bare_keeps : (o : OptionsData) (t : Token) (p : ParserState) → p.kept ≡ kept → KeepsHandles kept (bare o t p)
  bare_keeps o t p e = bare_by_keeps o t.lexeme.kind t p e

  node_by_keeps : (o : OptionsData) (sort : TokenSort) (t : Token) (p : ParserState) → p.kept ≡ kept
      → KeepsHandles kept (node_by o sort t p)
  node_by_keeps o BeginsKey t p e =
      keeps_then kept (begin_block o block_mapping t.lexeme.start (BlockMapping (token_number t) AtKey) p) _
      (begin_block_keeps o block_mapping t.lexeme.start (BlockMapping (token_number t) AtKey) p e)
      (λ q f. bare_keeps o t q f)
  node_by_keeps o sort t p e = bare_keeps o t p e

  pub node_step_keeps : (o : OptionsData) (t : Token) (p : ParserState) → p.kept ≡ kept → KeepsHandles kept (node o t p)
  node_step_keeps o t p e = node_by_keeps o t.sort t p e

  -- ---- block collections

  pub in_sequence_keeps : (o : OptionsData) (t : Token) (column : ℕ) (indentless : Bool) (p : ParserState)
      → p.kept ≡ kept → KeepsHandles kept (in_sequence o t column indentless p)
  unfolding in_sequence
  in_sequence_keeps o t column indentless p e =
      keeps_if (is_dash_token t.sort && is_in_column (token_column t) column) kept _ _
      (dash_keeps o t NextEntry indentless (give_empty p) (empty_kept p ∙ e))
      (keeps_if (is_none p.waiting) kept _ _ (keeps_err kept _)
      (keeps_if (begins_node t.sort && is_right_of (token_column t) (Some column)) kept _ _
      (node_step_keeps o t p e) (keeps_err kept _)))

  mapping_colon_keeps : (o : OptionsData) (t : Token) (column : ℕ) (p : ParserState) → p.kept ≡ kept
      → KeepsHandles kept (Ok (mapping_colon o t column p))
  mapping_colon_keeps o t column p e =
      waits_keeps t.lexeme.start o.max_buffered_comment_events (mapping_at column AtValue p) (flush_kept p ∙ e)

  bare_colon_keeps : (o : OptionsData) (t : Token) (column : ℕ) (stage : PairStage) (p : ParserState)
      → p.kept ≡ kept → KeepsHandles kept (Ok (bare_colon_in_mapping o t column stage p))
  bare_colon_keeps o t column AtQuestion p e =
      mapping_colon_keeps o t column (give (with_indent (Some column) (null_at t.lexeme.start)) p) (flush_kept p ∙ e)
  bare_colon_keeps o t column BehindQuestion p e = mapping_colon_keeps o t column p e
  bare_colon_keeps o t column stage p e =
      mapping_colon_keeps o t column (give (null_at t.lexeme.start) (owed t.lexeme.start p))
      (flush_kept (owed t.lexeme.start p) ∙ owed_kept t.lexeme.start p ∙ e)

  next_pair_keeps : (o : OptionsData) (t : Token) (column : ℕ) (stage : PairStage) (sort : TokenSort)
      (p : ParserState) → p.kept ≡ kept → KeepsHandles kept (next_pair o t column stage sort p)
  next_pair_keeps o t column stage BeginsKey p e =
      bare_keeps o t (mapping_at column AtKey (owed t.lexeme.start p))
      (flush_kept (owed t.lexeme.start p) ∙ owed_kept t.lexeme.start p ∙ e)
  next_pair_keeps o t column stage QuestionToken p e =
      keeps_ok kept (mapping_at column AtQuestion (owed t.lexeme.start p))
      (flush_kept (owed t.lexeme.start p) ∙ owed_kept t.lexeme.start p ∙ e)
  next_pair_keeps o t column stage sort p e = bare_colon_keeps o t column stage p e

  behind_indicator_keeps : (o : OptionsData) (t : Token) (column : ℕ) (stage : PairStage) (p : ParserState)
      → p.kept ≡ kept → KeepsHandles kept (behind_indicator o t column stage p)
  unfolding behind_indicator
  behind_indicator_keeps o t column stage p e =
      keeps_if (begins_pair t.sort && is_in_column (token_column t) column) kept _ _
      (next_pair_keeps o t column stage t.sort p e)
      (keeps_if (not (takes_node stage)) kept _ _ (keeps_err kept _)
      (keeps_if ((is_dash_token t.sort && is_in_column (token_column t) column)
      || (begins_node t.sort && is_right_of (token_column t) (Some column))) kept _ _
      (node_step_keeps o t p e) (keeps_err kept _)))

  at_block_key_keeps : (o : OptionsData) (t : Token) (sort : TokenSort) (p : ParserState) → p.kept ≡ kept
      → KeepsHandles kept (at_block_key o t sort p)
  at_block_key_keeps o t BeginsNode p e = bare_keeps o t p e
  at_block_key_keeps o t sort p e = keeps_err kept _

  behind_block_key_keeps : (o : OptionsData) (t : Token) (column : ℕ) (sort : TokenSort) (p : ParserState)
      → p.kept ≡ kept → KeepsHandles kept (behind_block_key o t column sort p)
  behind_block_key_keeps o t column KeyedColon p e = mapping_colon_keeps o t column p e
  behind_block_key_keeps o t column sort p e = keeps_err kept _

  pub in_mapping_keeps : (o : OptionsData) (t : Token) (column : ℕ) (stage : PairStage) (p : ParserState)
      → p.kept ≡ kept → KeepsHandles kept (in_mapping o t column stage p)
  in_mapping_keeps o t column AtKey p e = at_block_key_keeps o t t.sort p e
  in_mapping_keeps o t column BehindKey p e = behind_block_key_keeps o t column t.sort p e
  in_mapping_keeps o t column stage p e = behind_indicator_keeps o t column stage p e

  -- ---- flow collections

  close_flow_keeps : (t : Token) (p : ParserState) → p.kept ≡ kept → KeepsHandles kept (Ok (close_flow t p))
  close_flow_keeps t p e =
      keeps_ok kept _
      (end_node_kept t.lexeme.start (record { start = t.lexeme.start; end = t.lexeme.shown.end }) p ∙ e)

  flow_at_keeps : (single : Bool) (stage : PairStage) (p : ParserState) → p.kept ≡ kept
      → KeepsHandles kept (Ok (flow_at single stage p))
  flow_at_keeps single stage p e = keeps_ok kept (flow_at single stage p) (flush_kept p ∙ e)

  flow_colon_keeps : (o : OptionsData) (t : Token) (single : Bool) (p : ParserState) → p.kept ≡ kept
      → KeepsHandles kept (Ok (flow_colon o t single p))
  flow_colon_keeps o t single p e =
      waits_keeps t.lexeme.start o.max_buffered_comment_events (flow_at single AtValue p) (flush_kept p ∙ e)

  at_entry_keeps : (o : OptionsData) (t : Token) (sort : TokenSort) (p : ParserState) → p.kept ≡ kept
      → KeepsHandles kept (at_entry o t sort p)
  at_entry_keeps o t SequenceCloser p e = close_flow_keeps t p e
  at_entry_keeps o t QuestionToken p e =
      keeps_ok kept (begin_pair t t.lexeme.shown.end (FlowPair AtQuestion) p) (flush_kept p ∙ e)
  at_entry_keeps o t BareColon p e =
      flow_colon_keeps o t true
      (give (null_at t.lexeme.start) (begin_pair t t.lexeme.start (FlowMapping true BeforePair) p))
      (flush_kept (begin_pair t t.lexeme.start (FlowMapping true BeforePair) p) ∙ flush_kept p ∙ e)
  at_entry_keeps o t BeginsKey p e =
      bare_keeps o t (begin_pair t t.lexeme.start (FlowMapping true AtKey) p) (flush_kept p ∙ e)
  at_entry_keeps o t BeginsNode p e = bare_keeps o t p e
  at_entry_keeps o t sort p e = keeps_err kept _

  behind_entry_keeps : (t : Token) (sort : TokenSort) (p : ParserState) → p.kept ≡ kept
      → KeepsHandles kept (behind_entry_of t sort p)
  behind_entry_keeps t SequenceCloser p e = close_flow_keeps t p e
  behind_entry_keeps t CommaToken p e = keeps_ok kept (with_top (FlowSequence false) p) e
  behind_entry_keeps t sort p e = keeps_err kept _

  pub in_flow_sequence_keeps : (o : OptionsData) (t : Token) (b : Bool) (p : ParserState) → p.kept ≡ kept
      → KeepsHandles kept (in_flow_sequence o t b p)
  in_flow_sequence_keeps o t false p e = at_entry_keeps o t t.sort p e
  in_flow_sequence_keeps o t true p e = behind_entry_keeps t t.sort p e

  pub flow_mapping_keeps : (o : OptionsData) (t : Token) (single : Bool) (stage : PairStage) (sort : TokenSort)
      (p : ParserState) → p.kept ≡ kept → KeepsHandles kept (in_flow_mapping_by o t single stage sort p)
  flow_mapping_keeps o t single AtKey BeginsNode p e = bare_keeps o t p e
  flow_mapping_keeps o t single AtKey sort p e = keeps_err kept _
  flow_mapping_keeps o t single BehindKey KeyedColon p e = flow_colon_keeps o t single p e
  flow_mapping_keeps o t single BehindKey sort p e = keeps_err kept _
  flow_mapping_keeps o t single stage MappingCloser p e = close_flow_keeps t p e
  flow_mapping_keeps o t single BeforePair CommaToken p e = keeps_err kept _
  flow_mapping_keeps o t single stage CommaToken p e =
      flow_at_keeps single BeforePair (owed t.lexeme.start p) (owed_kept t.lexeme.start p ∙ e)
  flow_mapping_keeps o t single BeforePair QuestionToken p e = flow_at_keeps single AtQuestion p e
  flow_mapping_keeps o t single BeforePair BeginsKey p e =
      bare_keeps o t (flow_at single AtKey p) (flush_kept p ∙ e)
  flow_mapping_keeps o t single BeforePair BareColon p e =
      flow_colon_keeps o t single (give (null_at t.lexeme.start) p) (flush_kept p ∙ e)
  flow_mapping_keeps o t single AtQuestion BareColon p e =
      flow_colon_keeps o t single (give (null_at t.lexeme.start) p) (flush_kept p ∙ e)
  flow_mapping_keeps o t single BehindQuestion BareColon p e = flow_colon_keeps o t single p e
  flow_mapping_keeps o t single BeforePair BeginsNode p e = bare_keeps o t p e
  flow_mapping_keeps o t single AtQuestion BeginsNode p e = bare_keeps o t p e
  flow_mapping_keeps o t single AtValue BeginsNode p e = bare_keeps o t p e
  flow_mapping_keeps o t single BeforePair sort p e = keeps_err kept _
  flow_mapping_keeps o t single AtQuestion sort p e = keeps_err kept _
  flow_mapping_keeps o t single AtValue sort p e = keeps_err kept _
  flow_mapping_keeps o t single stage sort p e = keeps_err kept _

  pub flow_pair_keeps : (o : OptionsData) (t : Token) (stage : PairStage) (sort : TokenSort) (p : ParserState)
      → p.kept ≡ kept → KeepsHandles kept (in_flow_pair o t stage sort p)
  flow_pair_keeps o t BehindQuestion sort p e = keeps_ok kept (with_top (FlowPair AtValue) p) e
  flow_pair_keeps o t stage BeginsNode p e = bare_keeps o t p e
  flow_pair_keeps o t stage sort p e = keeps_err kept _
