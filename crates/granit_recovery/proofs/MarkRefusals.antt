-- The end of a document, or of the stream, is never refused for want of a document's start within a document.
use Rattle.std.proofs.Common.{◌≡◌, ℕ, ◌-◌, ◌++◌, ◌==◌, Bool, true, false, List, [], ◌∷◌, Option, Some}
use Rattle.std.proofs.Common.{None, Ok, Err, refl, sym, ap, subst, ◌∙◌}
use Rattle.std.specs.Prelude.{if◌then◌else◌, is_none, nat_le}
use Rattle.granit_base.specs.Place.{Mark}
use Rattle.granit_base.specs.Written.{Written}
use Rattle.granit_error.specs.FaultKind.{RecursionLimitExceeded, TooManyComments}
use Rattle.granit_error.specs.OptionsData.{OptionsData}
use Rattle.granit_lexemes.specs.Basics.{fails_at}
use Rattle.granit_lexemes.specs.Comment.{CommentRead}
use Rattle.granit_lexemes.specs.Lexeme as lexemes
use Rattle.granit_lexemes.specs.Lexeme.{KeyStart, LexemeKind, Lexeme, Item, OfLexeme, OfComment}
use Rattle.granit_lexemes.specs.Outcome.{◌>>=◌}
use Rattle.granit_lexemes.specs.Pieces.{with_front, pieces}
use Rattle.granit_lexemes.specs.PlainEvent.{PlainEvent, PlainTag, EventKind, event_at, Anchor, Comment}
use Rattle.granit_lexemes.specs.Source.{Source}
use Rattle.granit_machine.proofs.ClosingLemmas.{close_turn-Shortens, FeedGiven}
use Rattle.granit_machine.specs.BlockSteps.{behind_indicator, in_mapping, in_sequence}
use Rattle.granit_machine.specs.Closing.{close, close_turn, depth, end_top, ends_top, token_start}
use Rattle.granit_machine.specs.FlowSteps.{in_flow_mapping_by, in_flow_pair, in_flow_sequence}
use Rattle.granit_machine.specs.Lexing.{FlaggedItem}
use Rattle.granit_machine.specs.Frames.{AtKey, BehindKey, PairStage, AtQuestion, BehindQuestion, AtValue}
use Rattle.granit_machine.specs.Frames.{BehindAlone, NodeProperties, Frame, Root, WithProperties}
use Rattle.granit_machine.specs.Frames.{BlockSequence, BlockMapping, FlowSequence, FlowMapping, FlowPair}
use Rattle.granit_machine.specs.Frames.{DocumentStage, Fresh, Directives, Inside, BehindRoot, Between, Waiting}
use Rattle.granit_machine.specs.Frames.{ParserState}
use Rattle.granit_machine.specs.Giving.{below_properties, empty_by, flush, flush_held, give, node_event}
use Rattle.granit_machine.specs.Giving.{null_at, properties_on, put, tell_anchor, with_indent}
use Rattle.granit_machine.specs.NodeEnds.{begin, begin_block, block_count, block_mapping, below, empty_span}
use Rattle.granit_machine.specs.NodeEnds.{end_kind, end_node}
use Rattle.granit_machine.specs.NodeEnds.{end_properties, finish_in, null_node, owed, owed_in}
use Rattle.granit_machine.specs.NodeSteps.{bare_by, Stepped, token_number}
use Rattle.granit_machine.specs.Parser.{feed, hold, placed, take_comment, take_in, take_item, take_tail, take_token}
use Rattle.granit_machine.specs.StreamSteps.{behind_root, outside}
use Rattle.granit_machine.specs.TokenSort.{OfStream}
use Rattle.granit_machine.specs.TokenSort.{Token, token_sort, TokenSort}
use Rattle.granit_recovery.proofs.SeatLaws.{end_top_fine, end_top_sits, IsOuter, Sits, SitsBy}
use Rattle.granit_restart.specs.Header.{is_start_expected}
use Rattle.granit_restart.specs.Skipping.{is_within_document}
use Rattle.granit_feeding.proofs.RoomStream.{Carries, pieces_hold}
use Rattle.granit_streams.proofs.Nesting.{Fine}

abbrev pub end_token : Lexeme → Token
end_token l = record { lexeme = l; sort = OfStream }

-- whether it is the mark or the end that ends a document
abbrev pub ends_document : LexemeKind → Bool
ends_document lexemes.DocumentEnd = true
ends_document lexemes.StreamEnd = true
ends_document kind = false

-- refused, it isn't for want of a document's start
abbrev NotStart : Stepped → Type 0
NotStart (Ok q) = Unit {0}
NotStart (Err f) = is_start_expected f ≡ false

not_if : (b : Bool) (r s : Stepped) → NotStart r → NotStart s → NotStart (if b then r else s)
not_if true r s x y = x
not_if false r s x y = y

not_then : (r : Stepped) (f : ParserState → ParserState) → NotStart r → NotStart (r >>= λ q. Ok (f q))
not_then (Ok q) f x = tt
not_then (Err g) f x = x

-- ---- where a node must stand

block_not : (o : OptionsData) (kind : ℕ → Option PlainTag → EventKind) (m : Mark) (f : Frame) (p : ParserState)
    → NotStart (begin_block o kind m f p)
unfolding begin_block
block_not o kind m f p =
    not_if (nat_le o.block_nesting_limit (block_count p.frames)) (fails_at RecursionLimitExceeded m)
    (Ok (begin o kind (empty_span m) f p)) refl tt

bare_not : (o : OptionsData) (kind : LexemeKind) (t : Token) (p : ParserState) → ends_document kind ≡ true
    → NotStart (bare_by o kind t p)
bare_not o lexemes.DocumentEnd t p e =
    not_then (begin_block o block_mapping t.lexeme.start (BlockMapping (token_number t) AtValue) p) _
    (block_not o block_mapping t.lexeme.start (BlockMapping (token_number t) AtValue) p)
bare_not o lexemes.StreamEnd t p e =
    not_then (begin_block o block_mapping t.lexeme.start (BlockMapping (token_number t) AtValue) p) _
    (block_not o block_mapping t.lexeme.start (BlockMapping (token_number t) AtValue) p)
bare_not o kind t p e = absurd (cc)

-- ---- in frames

sequence_not : (o : OptionsData) (l : Lexeme) (column : ℕ) (indentless : Bool) (p : ParserState)
    → NotStart (in_sequence o (end_token l) column indentless p)
unfolding in_sequence
sequence_not o l column indentless p = not_if (is_none p.waiting) _ _ refl refl

mapping_not : (o : OptionsData) (l : Lexeme) (column : ℕ) (stage : PairStage) (p : ParserState)
    → NotStart (in_mapping o (end_token l) column stage p)
unfolding behind_indicator
mapping_not o l column AtKey p = refl
mapping_not o l column BehindKey p = refl
mapping_not o l column stage p = refl

flow_not : (o : OptionsData) (l : Lexeme) (behind : Bool) (p : ParserState)
    → NotStart (in_flow_sequence o (end_token l) behind p)
flow_not o l true p = refl
flow_not o l false p = refl

flow_mapping_not : (o : OptionsData) (l : Lexeme) (single : Bool) (stage : PairStage) (p : ParserState)
    → NotStart (in_flow_mapping_by o (end_token l) single stage OfStream p)
flow_mapping_not o l single AtKey p = refl
flow_mapping_not o l single BehindKey p = refl
flow_mapping_not o l single stage p = refl

flow_pair_not : (o : OptionsData) (l : Lexeme) (stage : PairStage) (p : ParserState)
    → NotStart (in_flow_pair o (end_token l) stage OfStream p)
flow_pair_not o l BehindQuestion p = tt
flow_pair_not o l stage p = refl

behind_root_not : (kind : LexemeKind) (t : Token) (p : ParserState) → ends_document kind ≡ true
    → NotStart (behind_root kind t p)
behind_root_not lexemes.DocumentEnd t p e = tt
behind_root_not lexemes.StreamEnd t p e = tt
behind_root_not kind t p e = absurd (cc)

outside_not : (o : OptionsData) (stage : DocumentStage) (l : Lexeme) (p : ParserState) → ends_document l.kind ≡ true
    → IsOuter stage → is_within_document stage ≡ true → NotStart (outside o stage (end_token l) p)
outside_not o BehindRoot l p e outer within = behind_root_not l.kind (end_token l) p e
outside_not o Inside l p e outer within = absurd outer
outside_not o Fresh l p e outer within = absurd (cc)
outside_not o (Directives version) l p e outer within = absurd (cc)
outside_not o Between l p e outer within = absurd (cc)

take_not : (o : OptionsData) (fs : List Frame) (l : Lexeme) (p : ParserState) → ends_document l.kind ≡ true
    → SitsBy fs p.stage → is_within_document p.stage ≡ true → NotStart (take_in o fs (end_token l) p)
take_not o [] l p e sits within = outside_not o p.stage l p e sits within
take_not o (Root explicit ∷ fs) l p e sits within = refl
take_not o (WithProperties q ∷ fs) l p e sits within = bare_not o l.kind (end_token l) p e
take_not o (BlockSequence column indentless ∷ fs) l p e sits within = sequence_not o l column indentless p
take_not o (BlockMapping column stage ∷ fs) l p e sits within = mapping_not o l column stage p
take_not o (FlowSequence behind ∷ fs) l p e sits within = flow_not o l behind p
take_not o (FlowMapping single stage ∷ fs) l p e sits within = flow_mapping_not o l single stage p
take_not o (FlowPair stage ∷ fs) l p e sits within = flow_pair_not o l stage p

-- ---- what ends in front of it

flush_stage_by : (w : Option Waiting) (p : ParserState) → (flush_held w p).stage ≡ p.stage
flush_stage_by None p = refl
flush_stage_by (Some w) p = refl

flush_stage : (p : ParserState) → (flush p).stage ≡ p.stage
flush_stage p = flush_stage_by p.waiting p

empty_stage_by : (w : Option Waiting) (p : ParserState) → (empty_by w p).stage ≡ p.stage
empty_stage_by None p = refl
empty_stage_by (Some w) p = flush_stage (put (null_at w.at) p)

two_stages : (d e : PlainEvent) (p : ParserState) → (give d (give e p)).stage ≡ p.stage
two_stages d e p = flush_stage (give e p) ∙ flush_stage p

owed_stage_by : (fs : List Frame) (x : Mark) (p : ParserState) → (owed_in fs x p).stage ≡ p.stage
owed_stage_by [] x p = refl
owed_stage_by (BlockSequence column indentless ∷ fs) x p = empty_stage_by p.waiting p
owed_stage_by (BlockMapping column AtValue ∷ fs) x p = empty_stage_by p.waiting p
owed_stage_by (FlowMapping single AtValue ∷ fs) x p = empty_stage_by p.waiting p
owed_stage_by (BlockMapping column AtQuestion ∷ fs) x p =
    two_stages (null_at x) (with_indent (Some column) (null_at x)) p
owed_stage_by (FlowMapping single AtQuestion ∷ fs) x p = two_stages (null_at x) (null_at x) p
owed_stage_by (FlowPair AtQuestion ∷ fs) x p = two_stages (null_at x) (null_at x) p
owed_stage_by (BlockMapping column BehindQuestion ∷ fs) x p = flush_stage p
owed_stage_by (FlowMapping single BehindQuestion ∷ fs) x p = flush_stage p
owed_stage_by (FlowMapping single BehindAlone ∷ fs) x p = flush_stage p
owed_stage_by (FlowPair BehindQuestion ∷ fs) x p = flush_stage p
owed_stage_by (FlowPair AtValue ∷ fs) x p = flush_stage p
owed_stage_by fs x p = refl

anchor_stage : (o : OptionsData) (a : Option (ℕ × Written × Source)) (p : ParserState)
    → (tell_anchor o a p).stage ≡ p.stage
anchor_stage o None p = refl
anchor_stage o (Some a) p = on o.emit_anchor_events
  where
    on : (b : Bool) → (if b then record p {
      given = p.given ++ event_at (Anchor a.0 a.1) a.2 ∷ [];
    } else p).stage ≡ p.stage
    on true = refl
    on false = refl

finish_within : (fs : List Frame) (p : ParserState) → is_within_document p.stage ≡ true
    → is_within_document (finish_in fs p).stage ≡ true
finish_within [] p e = e
finish_within (Root explicit ∷ fs) p e = refl
finish_within (WithProperties q ∷ fs) p e = e
finish_within (BlockSequence column indentless ∷ fs) p e = e
finish_within (BlockMapping column stage ∷ fs) p e = e
finish_within (FlowSequence behind ∷ fs) p e = e
finish_within (FlowMapping single stage ∷ fs) p e = e
finish_within (FlowPair stage ∷ fs) p e = e

end_node_within : (m : Mark) (source : Source) (p : ParserState) → is_within_document p.stage ≡ true
    → is_within_document (end_node m source p).stage ≡ true
unfolding end_node
end_node_within m source p e =
    let q : ParserState = record (owed m p) { frames = below (owed m p).frames } in
    let x = give (event_at (end_kind (owed m p).frames) source) q in
    finish_within x.frames x (ap is_within_document (flush_stage q ∙ owed_stage_by p.frames m p) ∙ e)

end_properties_within : (o : OptionsData) (q : NodeProperties) (p : ParserState) → is_within_document p.stage ≡ true
    → is_within_document (end_properties o q p).stage ≡ true
unfolding end_properties node_event
end_properties_within o q p e =
    let x = node_event o (null_node q) (empty_span q.end) None p in
    finish_within x.frames x
    (ap is_within_document (anchor_stage o (properties_on p.frames q.end).anchor _
    ∙ flush_stage (record p { frames = below_properties p.frames })) ∙ e)

end_top_within : (o : OptionsData) (t : Token) (p : ParserState) (fs : List Frame) → is_within_document p.stage ≡ true
    → is_within_document (end_top o t p fs).stage ≡ true
end_top_within o t p (Root explicit ∷ fs) e =
    let x = give (null_at p.last_end) p in finish_within x.frames x (ap is_within_document (flush_stage p) ∙ e)
end_top_within o t p (WithProperties q ∷ fs) e = end_properties_within o q p e
end_top_within o t p fs e = end_node_within t.lexeme.start (token_start t) p e

-- closing fails nowhere, and stays in the document or behind its root
abbrev StaysWithin : ParserState → FeedGiven → Type 0
StaysWithin p (Ok x) =
    Fine p.frames → Sits p → is_within_document p.stage ≡ true
    → Fine x.1.frames × Sits x.1 × (is_within_document x.1.stage ≡ true)
StaysWithin p (Err f) = ⊥

within_on : (o : OptionsData) (t : Token) (p : ParserState) (given : FeedGiven) → ends_top t p p.frames ≡ true
    → StaysWithin (end_top o t p p.frames) given → StaysWithin p (with_front [] given)
within_on o t p (Ok x) ends h =
    λ fine sits within. h (end_top_fine o t p p.frames refl fine ends) (end_top_sits o t p p.frames refl fine ends)
    (end_top_within o t p p.frames within)
within_on o t p (Err f) ends h = h

turn_within : (o : OptionsData) (t : Token) (p : ParserState) (b : Bool) → ends_top t p p.frames ≡ b
    → Carries StaysWithin p (if b then Ok (Some [], end_top o t p p.frames) else Ok (None, p))
turn_within o t p true ends = λ given h. within_on o t p given ends h
turn_within o t p false ends = λ fine sits within. (fine, sits, within)

close_turn_within : (o : OptionsData) (t : Token) (p : ParserState) → Carries StaysWithin p (close_turn o t p)
unfolding close_turn
close_turn_within o t p = turn_within o t p (ends_top t p p.frames) refl

-- ---- an item

closed_not : (o : OptionsData) (l : Lexeme) (p : ParserState) (r : FeedGiven) → StaysWithin p r
    → ends_document l.kind ≡ true → Fine p.frames → Sits p → is_within_document p.stage ≡ true
    → NotStart ((r >>= λ x. Ok x.1) >>= take_token o (end_token l))
closed_not o l p (Ok x) h e fine sits within =
    let y = h fine sits within in take_not o x.1.frames l x.1 e y.1 y.2
closed_not o l p (Err f) h e fine sits within = absurd h

hold_not : (c : CommentRead) (e : PlainEvent) (w : Option Waiting) (p : ParserState) → NotStart (hold c e w p)
hold_not c e None p = tt
hold_not c e (Some w) p =
    not_if (w.room == 0) (fails_at TooManyComments c.source.start)
    (Ok (record p { waiting = Some (record w { room = w.room - 1; held = w.held ++ e ∷ [] }) })) refl tt

tail_not : (kind : LexemeKind) (tail : Option CommentRead) (next : Option ℕ) (p : ParserState)
    → NotStart (take_tail kind tail next p)
tail_not lexemes.Dash tail next p = tt
tail_not kind None next p = tt
tail_not kind (Some c) next p = hold_not c (event_at (Comment c.text (placed c next)) c.source) p.waiting p

behind_not : (kind : LexemeKind) (tail : Option CommentRead) (next : Option ℕ) (r : Stepped) → NotStart r
    → NotStart (r >>= take_tail kind tail next)
behind_not kind tail next (Ok q) x = tail_not kind tail next q
behind_not kind tail next (Err f) x = x

of_stream : (b : Bool) (key : Option KeyStart) (kind : LexemeKind) → ends_document kind ≡ true
    → token_sort b key kind ≡ OfStream
of_stream b key lexemes.DocumentEnd e = refl
of_stream b key lexemes.StreamEnd e = refl
of_stream b key kind e = absurd (cc)

abbrev pub EndsDocument : Item → Type 0
EndsDocument (OfLexeme l) = ends_document l.kind ≡ true
EndsDocument (OfComment c) = Unit {0}

item_not : (o : OptionsData) (i : Item) (b : Bool) (next : Option ℕ) (p : ParserState) → EndsDocument i
    → Fine p.frames → Sits p → is_within_document p.stage ≡ true → NotStart (take_item o i b next p)
item_not o (OfComment c) b next p e fine sits within =
    hold_not c (event_at (Comment c.text (placed c next)) c.source) p.waiting p
item_not o (OfLexeme l) b next p e fine sits within =
    subst (λ s. NotStart (take_item_with s)) (sym (of_stream b l.key l.kind e))
    (behind_not l.kind l.tail next (close o (end_token l) p >>= take_token o (end_token l))
    (closed_not o l p (pieces depth (close_turn o (end_token l)) p)
    (pieces_hold StaysWithin depth (close_turn o (end_token l)) (close_turn-Shortens o (end_token l))
    (close_turn_within o (end_token l)) p) e fine sits within))
  where
    take_item_with : TokenSort → Stepped
    take_item_with s =
        let t : Token = record { lexeme = l; sort = s } in
        close o t p >>= take_token o t >>= take_tail l.kind l.tail next

abbrev pub FedNotStart : FeedGiven → Type 0
FedNotStart (Ok x) = Unit {0}
FedNotStart (Err f) = is_start_expected f ≡ false

fed_not : (r : Stepped) → NotStart r → FedNotStart (r >>= λ q. Ok (q.given, record q { given = [] }))
fed_not (Ok q) x = tt
fed_not (Err f) x = x

-- a comment, the end of a document and that of the stream
pub feed_not : (o : OptionsData) (i : FlaggedItem) (next : Option ℕ) (p : ParserState) → EndsDocument i.item
    → Fine p.frames → Sits p → is_within_document p.stage ≡ true → FedNotStart (feed o i next p)
unfolding feed
feed_not o i next p e fine sits within =
    fed_not (take_item o i.item i.begins_key next p) (item_not o i.item i.begins_key next p e fine sits within)

pub comment_not : (o : OptionsData) (c : CommentRead) (b : Bool) (next : Option ℕ) (p : ParserState)
    → FedNotStart (feed o (record { item = OfComment c; begins_key = b }) next p)
unfolding feed
comment_not o c b next p =
    fed_not (take_comment c next p)
    (hold_not c (event_at (Comment c.text (placed c next)) c.source) p.waiting p)
