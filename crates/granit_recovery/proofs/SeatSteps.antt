-- Each item leaves a parser that waits in frames alone, and stands around documents or behind a root where no node is
-- open.
use Rattle.std.proofs.Common.{◌≡◌, ℕ, ◌==◌, Bool, true, false, List, [], ◌∷◌, Option, Some, None, Result, Ok, Err, refl}
use Rattle.std.proofs.Common.{sym, subst, ◌-◌, ◌++◌}
use Rattle.std.specs.Prelude.{if◌then◌else◌}
use Rattle.granit_error.specs.FaultKind.{TooManyComments}
use Rattle.granit_error.specs.OptionsData.{OptionsData}
use Rattle.granit_feeding.proofs.RoomSteps.{calm_by}
use Rattle.granit_feeding.proofs.RoomSteps.{Leaves, MayWait}
pub use Rattle.granit_feeding.proofs.RoomSteps.{Calm, CalmBy}
use Rattle.granit_feeding.proofs.RoomStream.{token_leaves}
use Rattle.granit_lexemes.specs.Basics.{fails_at}
use Rattle.granit_lexemes.specs.Comment.{CommentRead}
use Rattle.granit_lexemes.specs.Lexeme as lexemes
use Rattle.granit_lexemes.specs.Lexeme.{DirectiveKind, Version, TagPrefix, Reserved, LexemeKind, Item, OfLexeme}
use Rattle.granit_lexemes.specs.Lexeme.{OfComment}
use Rattle.granit_lexemes.specs.Outcome.{Fault, ◌>>=◌}
use Rattle.granit_lexemes.specs.Pieces.{with_front, pieces}
use Rattle.granit_lexemes.specs.PlainEvent.{PlainEvent, PlainVersion, event_at, Comment}
use Rattle.granit_machine.proofs.ClosingLemmas.{close_turn-Shortens, FeedGiven}
use Rattle.granit_machine.specs.Closing.{close, close_turn, depth, end_top, ends_top}
use Rattle.granit_machine.specs.Entries.{lookup_text}
use Rattle.granit_machine.specs.Frames.{Frame, Root, WithProperties, BlockSequence, BlockMapping, FlowSequence}
use Rattle.granit_machine.specs.Frames.{FlowMapping, FlowPair, DocumentStage, Fresh, Directives, Inside, BehindRoot}
use Rattle.granit_machine.specs.Frames.{Between, Waiting, ParserState}
use Rattle.granit_machine.specs.Giving.{flush_held}
use Rattle.granit_machine.specs.Lexing.{FlaggedItem}
use Rattle.granit_machine.specs.NodeEnds.{below, empty_span}
use Rattle.granit_machine.specs.NodeSteps.{Stepped}
use Rattle.granit_machine.specs.Parser.{feed, hold, placed, take_comment, take_in, take_item, take_tail, take_token}
use Rattle.granit_machine.specs.Reader.{is_end_kind}
use Rattle.granit_machine.specs.StreamSteps.{begin_document, behind_directives, behind_root, end_document, outside}
use Rattle.granit_machine.specs.StreamSteps.{when_between, when_fresh, with_directive, with_handle, with_version}
use Rattle.granit_machine.specs.TokenSort.{begins_node, Token, token_of}
use Rattle.granit_recovery.proofs.SeatLaws.{clean_rooted, end_top_fine, end_top_sits, flow_mapping_sits, flow_pair_sits}
use Rattle.granit_recovery.proofs.SeatLaws.{flow_sequence_sits, mapping_sits, node_sits, Rooted, sequence_sits}
use Rattle.granit_recovery.proofs.SeatLaws.{Sits, sits_if, SitsBy, StepSits}
use Rattle.granit_feeding.proofs.RoomStream.{Carries, pieces_hold}
pub use Rattle.granit_streams.proofs.Nesting.{Fine}
pub use Rattle.granit_streams.proofs.StreamNesting.{is_end_item}

-- ---- around documents

fresh_sits : (fs : List Frame) → SitsBy fs Fresh
fresh_sits [] = tt
fresh_sits (f ∷ fs) = tt

directives_sit : (fs : List Frame) (version : Option PlainVersion) → SitsBy fs (Directives version)
directives_sit [] version = tt
directives_sit (f ∷ fs) version = tt

flush_sits : (w : Option Waiting) (p : ParserState) → Sits p → Sits (flush_held w p)
flush_sits None p x = x
flush_sits (Some w) p x = x

version_sits : (t : Token) (known : Option PlainVersion) (major minor : ℕ) (p : ParserState)
    → StepSits (with_version t known major minor p)
version_sits t (Some v) major minor p = tt
version_sits t None major minor p =
    sits_if (major == 1) _ _ (directives_sit p.frames (Some (record { major = major; minor = minor }))) tt

handle_sits : (o : OptionsData) (t : Token) (version : Option PlainVersion) (handle prefix : List ℕ)
    (known : Option (List ℕ)) (p : ParserState) → StepSits (with_handle o t version handle prefix known p)
handle_sits o t version handle prefix (Some known) p = tt
handle_sits o t version handle prefix None p = directives_sit p.frames version

directive_sits : (o : OptionsData) (t : Token) (d : DirectiveKind) (version : Option PlainVersion) (p : ParserState)
    → StepSits (with_directive o t d version p)
directive_sits o t (Version major minor) version p = version_sits t version major minor p
directive_sits o t (TagPrefix handle prefix) version p =
    handle_sits o t version handle prefix (lookup_text handle p.handles) p
directive_sits o t (Reserved name parameters) version p = directives_sit p.frames version

document_sits : (o : OptionsData) (t : Token) (p : ParserState) → StepSits (begin_document o t p)
document_sits o t p = sits_if (begins_node t.sort) _ _ (node_sits o t _ tt) tt

fresh_step : (o : OptionsData) (kind : LexemeKind) (t : Token) (p : ParserState) → is_end_kind kind ≡ false → Sits p
    → StepSits (when_fresh o kind t p)
fresh_step o lexemes.DocumentEnd t p e x = flush_sits p.waiting p x
fresh_step o lexemes.StreamEnd t p e x = absurd (cc)
fresh_step o (lexemes.Directive d) t p e x = directive_sits o t d None _
fresh_step o lexemes.DocumentStart t p e x = tt
fresh_step o kind t p e x = document_sits o t p

between_step : (kind : LexemeKind) (t : Token) (p : ParserState) → is_end_kind kind ≡ false
    → StepSits (when_between kind t p)
between_step (lexemes.Directive d) t p e = tt
between_step lexemes.DocumentStart t p e = tt
between_step lexemes.StreamEnd t p e = absurd (cc)
between_step kind t p e = tt

root_step : (kind : LexemeKind) (t : Token) (p : ParserState) → is_end_kind kind ≡ false
    → StepSits (behind_root kind t p)
root_step lexemes.DocumentEnd t p e = fresh_sits _
root_step kind t p e = between_step kind t (end_document (empty_span p.last_end) Between p) e

directives_step : (o : OptionsData) (kind : LexemeKind) (t : Token) (version : Option PlainVersion) (p : ParserState)
    → StepSits (behind_directives o kind t version p)
directives_step o (lexemes.Directive d) t version p = directive_sits o t d version p
directives_step o lexemes.DocumentStart t version p = tt
directives_step o kind t version p = tt

outside_step : (o : OptionsData) (stage : DocumentStage) (t : Token) (p : ParserState)
    → is_end_kind t.lexeme.kind ≡ false → Sits p → StepSits (outside o stage t p)
outside_step o Fresh t p e x = fresh_step o t.lexeme.kind t p e x
outside_step o (Directives version) t p e x = directives_step o t.lexeme.kind t version p
outside_step o BehindRoot t p e x = root_step t.lexeme.kind t p e
outside_step o Between t p e x = between_step t.lexeme.kind t p e
outside_step o Inside t p e x = tt

-- ---- a token

take_step : (o : OptionsData) (fs : List Frame) (t : Token) (p : ParserState) → p.frames ≡ fs → Fine fs
    → is_end_kind t.lexeme.kind ≡ false → Sits p → StepSits (take_in o fs t p)
take_step o [] t p e c k x = outside_step o p.stage t p k x
take_step o (Root explicit ∷ fs) t p e c k x =
    sits_if (begins_node t.sort) _ _ (node_sits o t p (subst Rooted (sym e) tt)) tt
take_step o (WithProperties q ∷ fs) t p e c k x = node_sits o t p (subst Rooted (sym e) (clean_rooted fs c))
take_step o (BlockSequence column indentless ∷ fs) t p e c k x =
    sequence_sits o t column indentless p (subst Rooted (sym e) (clean_rooted fs c))
take_step o (BlockMapping column stage ∷ fs) t p e c k x =
    mapping_sits o t column stage p (subst Rooted (sym e) (clean_rooted fs c))
    (subst (λ fs. Rooted (below fs)) (sym e) (clean_rooted fs c))
take_step o (FlowSequence behind ∷ fs) t p e c k x =
    flow_sequence_sits o t behind p (subst Rooted (sym e) (clean_rooted fs c))
    (subst (λ fs. Rooted (below fs)) (sym e) (clean_rooted fs c))
take_step o (FlowMapping single stage ∷ fs) t p e c k x =
    flow_mapping_sits o t single stage t.sort p (subst Rooted (sym e) (clean_rooted fs c))
    (subst (λ fs. Rooted (below fs)) (sym e) (clean_rooted fs c))
take_step o (FlowPair stage ∷ fs) t p e c k x =
    flow_pair_sits o t stage t.sort p (subst Rooted (sym e) (clean_rooted fs c))

-- ---- what a token ends

abbrev StaysSeated : ParserState → FeedGiven → Type 0
StaysSeated p (Ok x) = Fine p.frames → Sits p → Fine x.1.frames × Sits x.1
StaysSeated p (Err f) = Unit {0}

seated_on : (o : OptionsData) (t : Token) (p : ParserState) (given : FeedGiven) → ends_top t p p.frames ≡ true
    → StaysSeated (end_top o t p p.frames) given → StaysSeated p (with_front [] given)
seated_on o t p (Ok x) ends h =
    λ fine sits. h (end_top_fine o t p p.frames refl fine ends) (end_top_sits o t p p.frames refl fine ends)
seated_on o t p (Err f) ends h = tt

turn_seated : (o : OptionsData) (t : Token) (p : ParserState) (b : Bool) → ends_top t p p.frames ≡ b
    → Carries StaysSeated p (if b then Ok (Some [], end_top o t p p.frames) else Ok (None, p))
turn_seated o t p true ends = λ given h. seated_on o t p given ends h
turn_seated o t p false ends = λ fine sits. (fine, sits)

close_turn_seated : (o : OptionsData) (t : Token) (p : ParserState) → Carries StaysSeated p (close_turn o t p)
unfolding close_turn
close_turn_seated o t p = turn_seated o t p (ends_top t p p.frames) refl

closed_step : (o : OptionsData) (t : Token) (p : ParserState) (r : FeedGiven) → StaysSeated p r → Fine p.frames
    → Sits p → is_end_kind t.lexeme.kind ≡ false → StepSits ((r >>= λ x. Ok x.1) >>= take_token o t)
closed_step o t p (Ok x) h fine sits k =
    let y = h fine sits in take_step o x.1.frames t x.1 refl y.0 k y.1
closed_step o t p (Err f) h fine sits k = tt

token_sits : (o : OptionsData) (t : Token) (p : ParserState) → Fine p.frames → Sits p
    → is_end_kind t.lexeme.kind ≡ false → StepSits (close o t p >>= take_token o t)
token_sits o t p fine sits k =
    closed_step o t p (pieces depth (close_turn o t) p)
    (pieces_hold StaysSeated depth (close_turn o t) (close_turn-Shortens o t) (close_turn_seated o t) p) fine sits k

-- ---- an item

-- where a parser stands between items
pub record Seats (p : ParserState) : Type 0 where
  pub calm : Calm p
  pub sits : Sits p

abbrev StepSeats : Stepped → Type 0
StepSeats (Ok q) = Calm q × Sits q
StepSeats (Err f) = Unit {0}

seats_if : (b : Bool) (r s : Stepped) → StepSeats r → StepSeats s → StepSeats (if b then r else s)
seats_if true r s x y = x
seats_if false r s x y = y

hold_seats : (c : CommentRead) (e : PlainEvent) (w : Option Waiting) (p : ParserState) → p.waiting ≡ w → Calm p
    → Sits p → StepSeats (hold c e w p)
hold_seats c e None p is calm sits = (calm, sits)
hold_seats c e (Some w) p is calm sits =
    let may : MayWait p.frames = subst (CalmBy p.frames) is calm in
    seats_if (w.room == 0) (fails_at TooManyComments c.source.start)
    (Ok (record p { waiting = Some (record w { room = w.room - 1; held = w.held ++ e ∷ [] }) })) tt (may, sits)

comment_seats : (c : CommentRead) (next : Option ℕ) (p : ParserState) → Calm p → Sits p
    → StepSeats (take_comment c next p)
comment_seats c next p calm sits =
    hold_seats c (event_at (Comment c.text (placed c next)) c.source) p.waiting p refl calm sits

tail_seats : (kind : LexemeKind) (tail : Option CommentRead) (next : Option ℕ) (p : ParserState) → Calm p → Sits p
    → StepSeats (take_tail kind tail next p)
tail_seats lexemes.Dash tail next p calm sits = (calm, sits)
tail_seats kind None next p calm sits = (calm, sits)
tail_seats kind (Some c) next p calm sits = comment_seats c next p calm sits

behind_tail : (room : Result ℕ Fault) (kind : LexemeKind) (tail : Option CommentRead) (next : Option ℕ) (r : Stepped)
    → Leaves room r → StepSits r → StepSeats (r >>= take_tail kind tail next)
behind_tail room kind tail next (Ok q) leaves sits =
    tail_seats kind tail next q (calm_by room q.frames q.waiting leaves.says) sits
behind_tail room kind tail next (Err f) leaves sits = tt

abbrev pub FedSeats : Bool → FeedGiven → Type 0
FedSeats true r = Unit {0}
FedSeats false (Ok x) = Seats x.1
FedSeats false (Err f) = Unit {0}

fed_seats : (b : Bool) (r : Stepped) → (b ≡ false → StepSeats r)
    → FedSeats b (r >>= λ q. Ok (q.given, record q { given = [] }))
fed_seats true r x = tt
fed_seats false (Ok q) x = let y = x refl in record { calm = y.0; sits = y.1 }
fed_seats false (Err f) x = tt

item_seats : (o : OptionsData) (i : Item) (b : Bool) (next : Option ℕ) (p : ParserState) → Fine p.frames → Seats p
    → is_end_item i ≡ false → StepSeats (take_item o i b next p)
item_seats o (OfComment c) b next p fine x e = comment_seats c next p x.calm x.sits
item_seats o (OfLexeme l) b next p fine x e =
    behind_tail _ l.kind l.tail next (close o (token_of b l) p >>= take_token o (token_of b l))
    (token_leaves o b l p x.calm) (token_sits o (token_of b l) p fine x.sits e)

-- an item that is no end leaves it so
pub feed_seats : (o : OptionsData) (i : FlaggedItem) (next : Option ℕ) (p : ParserState) → Fine p.frames → Seats p
    → FedSeats (is_end_item i.item) (feed o i next p)
unfolding feed
feed_seats o i next p fine x =
    fed_seats (is_end_item i.item) (take_item o i.item i.begins_key next p)
    (λ e. item_seats o i.item i.begins_key next p fine x e)
