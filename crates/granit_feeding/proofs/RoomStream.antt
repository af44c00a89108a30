-- What is fed with items: where a node waits, the room for comments is what those in a row behind its `-` or `:` leave.
use Rattle.std.proofs.Common.{◌≡◌, ℕ, ◌==◌, Bool, true, false, List, [], ◌∷◌, Option, Some, None, Result, Ok, Err, refl}
use Rattle.std.proofs.Common.{sym, subst}
use Rattle.std.specs.Prelude.{if◌then◌else◌}
use Rattle.granit_error.specs.OptionsData.{OptionsData}
use Rattle.granit_lexemes.specs.Lexeme as lexemes
use Rattle.granit_lexemes.specs.Lexeme.{DirectiveKind, Version, TagPrefix, Reserved, LexemeKind, KeyStart, Lexeme}
use Rattle.granit_lexemes.specs.Outcome.{Fault, ◌>>=◌}
use Rattle.granit_lexemes.specs.Pieces.{with_front, pieces}
use Rattle.granit_lexemes.specs.PlainEvent as events
use Rattle.granit_lexemes.specs.PlainEvent.{PlainVersion, event_at}
use Rattle.granit_lexemes.specs.declared.layout.Bracket.TheVariants.{Square, Curly}
pub use Rattle.granit_scalars.proofs.Turning.{Carries, pieces_hold}
use Rattle.granit_machine.proofs.ClosingLemmas.{close_turn-Shortens, FeedGiven}
use Rattle.granit_machine.proofs.NoneWaits.{flush_none, end_top_none}
use Rattle.granit_machine.specs.Closing.{ends_top, end_top, close_turn, depth, close}
use Rattle.granit_machine.specs.Entries.{lookup_text}
use Rattle.granit_machine.specs.Frames.{Frame, Root, WithProperties, BlockSequence, BlockMapping, FlowSequence}
use Rattle.granit_machine.specs.Frames.{FlowMapping, FlowPair, DocumentStage, Fresh, Directives, Inside, BehindRoot}
use Rattle.granit_machine.specs.Frames.{Between, Waiting, ParserState}
use Rattle.granit_machine.specs.Giving.{give}
use Rattle.granit_machine.specs.NodeEnds.{empty_span}
use Rattle.granit_machine.specs.Parser.{take_in, take_token}
use Rattle.granit_machine.specs.StreamSteps.{at_root, with_version, declared, with_handle, open_document}
use Rattle.granit_machine.specs.StreamSteps.{with_directive}
use Rattle.granit_machine.specs.StreamSteps.{behind_directives, begin_document, without_directives, when_fresh}
use Rattle.granit_machine.specs.StreamSteps.{when_between, end_document, behind_root, outside}
use Rattle.granit_machine.specs.TokenSort.{Token, token_sort, token_of, is_dash_token, begins_node}
use Rattle.granit_feeding.proofs.RoomSteps.{Calm, CalmBy, room_by, RoomBehind, Leaves, leaves_none, leaves_err}
use Rattle.granit_feeding.proofs.RoomSteps.{leaves_if}
use Rattle.granit_feeding.proofs.RoomSteps.{node_leaves, RoomSorted, in_sequence_leaves, in_mapping_leaves}
use Rattle.granit_feeding.proofs.RoomSteps.{in_flow_sequence_leaves, flow_mapping_leaves, flow_pair_leaves}

-- ---- closing

-- closing leaves a state where a node waits in frames alone
abbrev StaysCalm : ParserState → FeedGiven → Type 0
StaysCalm p (Ok x) = Calm p → Calm x.1
StaysCalm p (Err f) = Unit {0}

calm_none : (q : ParserState) → q.waiting ≡ None → Calm q
calm_none q e = subst (CalmBy q.frames) (sym e) tt

calm_on : (o : OptionsData) (t : Token) (p : ParserState) (given : FeedGiven) →
    StaysCalm (end_top o t p p.frames) given → StaysCalm p (with_front [] given)
calm_on o t p (Ok x) h = λ c. h (calm_none (end_top o t p p.frames) (end_top_none o t p p.frames))
calm_on o t p (Err f) h = tt

turn_calm : (o : OptionsData) (t : Token) (p : ParserState) (b : Bool) → Carries
    StaysCalm p (if b then Ok (Some [], end_top o t p p.frames) else Ok (None, p))
turn_calm o t p true = λ given h. calm_on o t p given h
turn_calm o t p false = λ c. c

close_turn_calm : (o : OptionsData) (t : Token) (p : ParserState) → Carries StaysCalm p (close_turn o t p)
unfolding close_turn
close_turn_calm o t p = turn_calm o t p (ends_top t p p.frames)

all_calm : (o : OptionsData) (t : Token) (p : ParserState) → StaysCalm p (pieces depth (close_turn o t) p)
all_calm o t p = pieces_hold StaysCalm depth (close_turn o t) (close_turn-Shortens o t) (close_turn_calm o t) p

-- ---- around documents

at_root_leaves : (o : OptionsData) (t : Token) (p : ParserState) → Leaves (RoomBehind o t) (at_root o t p)
at_root_leaves o t p = leaves_if (begins_node t.sort) _ _ _ (λ e. node_leaves o t p) (λ e. leaves_err _ _)

version_leaves : (room : Result ℕ Fault) (t : Token) (v : Option PlainVersion) (major minor : ℕ) (p : ParserState) →
    p.waiting ≡ None → Leaves room (with_version t v major minor p)
version_leaves room t (Some v) major minor p e = leaves_err _ _
version_leaves room t None major minor p e =
    leaves_if (major == 1) _ _ _
    (λ f. leaves_none _ (record p { stage = Directives (Some (record { major = major; minor = minor })) }) e)
    (λ f. leaves_err _ _)

handle_leaves : (room : Result ℕ Fault) (o : OptionsData) (t : Token) (version : Option PlainVersion)
    (handle prefix : List ℕ)
    (known : Option (List ℕ)) (p : ParserState) → p.waiting ≡ None → Leaves room
    (with_handle o t version handle prefix known p)
handle_leaves room o t version handle prefix (Some known) p e = leaves_err _ _
handle_leaves room o t version handle prefix None p e = leaves_none room
    (record (declared o.keep_tags handle prefix p) { stage = Directives version }) e

open_document_leaves : (room : Result ℕ Fault) (t : Token) (version : Option PlainVersion) (p : ParserState) →
    Leaves room (open_document t version p)
open_document_leaves room t version p = leaves_none room _ (flush_none (record p { names = []; stage = Inside }))

directive_leaves : (room : Result ℕ Fault) (o : OptionsData) (t : Token) (d : DirectiveKind)
    (version : Option PlainVersion)
    (p : ParserState) → p.waiting ≡ None → Leaves room (with_directive o t d version p)
directive_leaves room o t (Version major minor) version p e = version_leaves room t version major minor p e
directive_leaves room o t (TagPrefix handle prefix) version p e =
    handle_leaves room o t version handle prefix (lookup_text handle p.handles) p e
directive_leaves room o t (Reserved name parameters) version p e =
    leaves_none room (record p { stage = Directives version }) e

directives_leaves : (room : Result ℕ Fault) (o : OptionsData) (kind : LexemeKind) (t : Token)
    (version : Option PlainVersion) (p : ParserState) → p.waiting ≡ None → Leaves room
    (behind_directives o kind t version p)
directives_leaves room o (lexemes.Directive d) t version p e = directive_leaves room o t d version p e
directives_leaves room o lexemes.DocumentStart t version p e = open_document_leaves room t version p
directives_leaves room o kind t version p e = leaves_err _ _

begin_document_leaves : (o : OptionsData) (t : Token) (p : ParserState) →
    Leaves (RoomBehind o t) (begin_document o t p)
begin_document_leaves o t p =
    leaves_if (begins_node t.sort) _ _ _ (λ e. node_leaves o t _) (λ e. leaves_err _ _)

stream_end_leaves : (room : Result ℕ Fault) (t : Token) (p : ParserState) → Leaves room
    (Ok (give (event_at events.StreamEnd t.lexeme.shown) p))
stream_end_leaves room t p = leaves_none room _ (flush_none p)

fresh_leaves : (o : OptionsData) (kind : LexemeKind) (t : Token) (p : ParserState) → p.waiting ≡ None →
    Leaves (RoomBehind o t) (when_fresh o kind t p)
fresh_leaves o lexemes.DocumentEnd t p e = leaves_none _ _ (flush_none p)
fresh_leaves o lexemes.StreamEnd t p e = stream_end_leaves _ t p
fresh_leaves o (lexemes.Directive d) t p e = directive_leaves _ o t d None (without_directives p) e
fresh_leaves o lexemes.DocumentStart t p e = open_document_leaves _ t None (record p { handles = [] })
fresh_leaves o kind t p e = begin_document_leaves o t p

between_leaves : (room : Result ℕ Fault) (kind : LexemeKind) (t : Token) (p : ParserState) →
    Leaves room (when_between kind t p)
between_leaves room (lexemes.Directive d) t p = leaves_err _ _
between_leaves room lexemes.DocumentStart t p = open_document_leaves _ t None (record p { handles = [] })
between_leaves room lexemes.StreamEnd t p = stream_end_leaves _ t p
between_leaves room kind t p = leaves_err _ _

behind_root_leaves : (room : Result ℕ Fault) (kind : LexemeKind) (t : Token) (p : ParserState) →
    Leaves room (behind_root kind t p)
behind_root_leaves room lexemes.DocumentEnd t p =
    leaves_none room (end_document t.lexeme.shown Fresh p) (flush_none p)
behind_root_leaves room kind t p = between_leaves room kind t (end_document (empty_span p.last_end) Between p)

outside_leaves : (o : OptionsData) (stage : DocumentStage) (t : Token) (p : ParserState) → p.waiting ≡ None →
    Leaves (RoomBehind o t) (outside o stage t p)
outside_leaves o Fresh t p e = fresh_leaves o t.lexeme.kind t p e
outside_leaves o (Directives version) t p e = directives_leaves _ o t.lexeme.kind t version p e
outside_leaves o BehindRoot t p e = behind_root_leaves _ t.lexeme.kind t p
outside_leaves o Between t p e = between_leaves _ t.lexeme.kind t p
outside_leaves o Inside t p e = leaves_err _ _

-- ---- a token at the open place

none_by : (fs : List Frame) (w : Option Waiting) → ((w : Waiting) → CalmBy fs (Some w) → ⊥) → CalmBy fs w → w ≡ None
none_by fs None h c = refl
none_by fs (Some w) h c = absurd (h w c)

take_in_leaves : (o : OptionsData) (fs : List Frame) (t : Token) (p : ParserState) → RoomSorted o t →
    CalmBy fs p.waiting → Leaves (RoomBehind o t) (take_in o fs t p)
take_in_leaves o [] t p s c = outside_leaves o p.stage t p (none_by [] p.waiting (λ w c. c) c)
take_in_leaves o (Root explicit ∷ fs) t p s c = at_root_leaves o t p
take_in_leaves o (WithProperties q ∷ fs) t p s c = node_leaves o t p
take_in_leaves o (BlockSequence column indentless ∷ fs) t p s c = in_sequence_leaves o t column indentless p s
take_in_leaves o (BlockMapping column stage ∷ fs) t p s c = in_mapping_leaves o t column stage p s
take_in_leaves o (FlowSequence b ∷ fs) t p s c =
    in_flow_sequence_leaves o t b p s (none_by (FlowSequence b ∷ fs) p.waiting (λ w c. c) c)
take_in_leaves o (FlowMapping single stage ∷ fs) t p s c = flow_mapping_leaves o t single stage t.sort p s.other
take_in_leaves o (FlowPair stage ∷ fs) t p s c =
    flow_pair_leaves o t stage t.sort p (none_by (FlowPair stage ∷ fs) p.waiting (λ w c. c) c)

sorts_dash : (o : OptionsData) (b : Bool) (key : Option KeyStart) (kind : LexemeKind)
    (tail : Option Rattle.granit_lexemes.specs.Comment.CommentRead) →
    is_dash_token (token_sort b key kind) ≡ true → room_by o kind tail ≡ room_by o lexemes.Dash tail
sorts_dash o b key lexemes.Dash tail e = refl
sorts_dash o b None lexemes.Colon tail e = absurd cc
sorts_dash o b (Some k) lexemes.Colon tail e = absurd cc
sorts_dash o b key (lexemes.Close Square) tail e = absurd cc
sorts_dash o b key (lexemes.Close Curly) tail e = absurd cc
sorts_dash o true key (lexemes.Open bracket) tail e = absurd cc
sorts_dash o false key (lexemes.Open bracket) tail e = absurd cc
sorts_dash o true key (lexemes.Alias name) tail e = absurd cc
sorts_dash o false key (lexemes.Alias name) tail e = absurd cc
sorts_dash o true key (lexemes.Anchor name) tail e = absurd cc
sorts_dash o false key (lexemes.Anchor name) tail e = absurd cc
sorts_dash o true key (lexemes.Tag handle suffix) tail e = absurd cc
sorts_dash o false key (lexemes.Tag handle suffix) tail e = absurd cc
sorts_dash o true key (lexemes.Scalar style text) tail e = absurd cc
sorts_dash o false key (lexemes.Scalar style text) tail e = absurd cc
sorts_dash o b key kind tail e = absurd cc

sorts_other : (o : OptionsData) (b : Bool) (key : Option KeyStart) (kind : LexemeKind)
    (tail : Option Rattle.granit_lexemes.specs.Comment.CommentRead) →
    is_dash_token (token_sort b key kind) ≡ false → room_by o kind tail ≡ Ok o.max_buffered_comment_events
sorts_other o b key lexemes.Dash tail e = absurd cc
sorts_other o b key kind tail e = refl

room_sorted : (o : OptionsData) (b : Bool) (l : Lexeme) → RoomSorted o (token_of b l)
room_sorted o b l = record {
  dash = λ e. sorts_dash o b l.key l.kind l.tail e;
  other = λ e. sorts_other o b l.key l.kind l.tail e;
}

closed_leaves : (o : OptionsData) (t : Token) (p : ParserState) (r : FeedGiven) → RoomSorted o t → Calm p →
    StaysCalm p r → Leaves (RoomBehind o t) ((r >>= λ x. Ok x.1) >>= take_token o t)
closed_leaves o t p (Ok x) s c h = take_in_leaves o x.1.frames t x.1 s (h c)
closed_leaves o t p (Err f) s c h = leaves_err _ f

-- what a lexeme leaves, its tail aside where it is no `-`
pub token_leaves : (o : OptionsData) (b : Bool) (l : Lexeme) (p : ParserState) → Calm p →
    Leaves (room_by o l.kind l.tail) (close o (token_of b l) p >>= take_token o (token_of b l))
token_leaves o b l p c =
    let t = token_of b l in
    closed_leaves o t p (pieces depth (close_turn o t) p) (room_sorted o b l) c (all_calm o t p)
