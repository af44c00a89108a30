-- What is fed leaves the handles that stay, but for the one that a `%TAG` declares.
use Rattle.std.proofs.Common.{◌≡◌, ◌⊎◌, inl, inr, ℕ, Bool, true, false, ◌==◌, List, [], ◌∷◌, ◌++◌, Option, Some, None}
use Rattle.std.proofs.Common.{Result, Ok, Err, refl, sym, ap, subst, ◌∙◌}
use Rattle.std.specs.Prelude.{if◌then◌else◌}
use Rattle.granit_error.specs.OptionsData.{OptionsData}
use Rattle.granit_lexemes.specs.Comment.{CommentRead}
use Rattle.granit_lexemes.specs.Lexeme as lexemes
use Rattle.granit_lexemes.specs.Lexeme.{DirectiveKind, Version, TagPrefix, Reserved, LexemeKind, Item, OfLexeme}
use Rattle.granit_lexemes.specs.Lexeme.{OfComment}
use Rattle.granit_lexemes.specs.Outcome.{Fault, ◌>>=◌}
use Rattle.granit_lexemes.specs.Pieces.{with_front, pieces}
use Rattle.granit_lexemes.specs.PlainEvent as events
use Rattle.granit_lexemes.specs.PlainEvent.{PlainEvent, PlainVersion, event_at}
use Rattle.granit_scalars.proofs.Turning.{Carries, pieces_hold}
use Rattle.granit_machine.proofs.ClosingLemmas.{close_turn-Shortens, FeedGiven}
use Rattle.granit_machine.specs.Closing.{ends_top, token_start, end_top, close_turn, depth}
use Rattle.granit_machine.specs.Entries.{lookup_text, remembered}
use Rattle.granit_machine.specs.Frames.{Frame, Root, WithProperties, BlockSequence, BlockMapping, FlowSequence}
use Rattle.granit_machine.specs.Frames.{FlowMapping, FlowPair, DocumentStage, Fresh, Directives, Inside, BehindRoot}
use Rattle.granit_machine.specs.Frames.{Between, Waiting, ParserState}
use Rattle.granit_machine.specs.Giving.{null_at, flush, give}
use Rattle.granit_machine.specs.Lexing.{FlaggedItem}
use Rattle.granit_machine.specs.NodeEnds.{empty_span}
use Rattle.granit_machine.specs.NodeSteps.{Stepped}
use Rattle.granit_machine.specs.Parser.{feed, hold, take_comment, take_in, take_item, take_tail, take_token}
use Rattle.granit_machine.specs.StreamSteps.{at_root, with_version, with_handle, open_document}
use Rattle.granit_machine.specs.StreamSteps.{with_directive, behind_directives, begin_document, without_directives}
use Rattle.granit_machine.specs.StreamSteps.{when_fresh, when_between, end_document, behind_root, outside}
use Rattle.granit_machine.specs.TokenSort.{Token, token_of, begins_node}
use Rattle.granit_restart.proofs.LookLaws.{handed}
use Rattle.granit_led.proofs.KeptSteps.{KeptHandles, KeepsHandles, keeps_ok, keeps_err, keeps_if, flush_kept}
use Rattle.granit_led.proofs.KeptSteps.{finish_kept, end_node_kept, end_properties_kept, node_step_keeps}
use Rattle.granit_led.proofs.KeptSteps.{in_sequence_keeps, in_mapping_keeps, in_flow_sequence_keeps}
use Rattle.granit_led.proofs.KeptSteps.{flow_mapping_keeps, flow_pair_keeps}

-- ---- closing

end_top_kept : (o : OptionsData) (t : Token) (p : ParserState) (fs : List Frame) → (end_top o t p fs).kept ≡ p.kept
end_top_kept o t p (Root explicit ∷ fs) = finish_kept (give (null_at p.last_end) p) ∙ flush_kept p
end_top_kept o t p (WithProperties q ∷ fs) = end_properties_kept o q p
end_top_kept o t p fs = end_node_kept t.lexeme.start (token_start t) p

abbrev KeepsAll : ParserState → FeedGiven → Type 0
KeepsAll p (Ok x) = x.1.kept ≡ p.kept
KeepsAll p (Err f) = Unit {0}

closes_given : (o : OptionsData) (t : Token) (p : ParserState) (given : FeedGiven)
    → KeepsAll (end_top o t p p.frames) given → KeepsAll p (with_front [] given)
closes_given o t p (Ok x) h = h ∙ end_top_kept o t p p.frames
closes_given o t p (Err f) h = tt

turn_keeps_all : (o : OptionsData) (t : Token) (p : ParserState) (b : Bool)
    → Carries KeepsAll p (if b then Ok (Some [], end_top o t p p.frames) else Ok (None, p))
turn_keeps_all o t p true = λ given h. closes_given o t p given h
turn_keeps_all o t p false = refl

close_turn_keeps : (o : OptionsData) (t : Token) (p : ParserState) → Carries KeepsAll p (close_turn o t p)
unfolding close_turn
close_turn_keeps o t p = turn_keeps_all o t p (ends_top t p p.frames)

closing_keeps : (o : OptionsData) (t : Token) (p : ParserState) → KeepsAll p (pieces depth (close_turn o t) p)
closing_keeps o t p = pieces_hold KeepsAll depth (close_turn o t) (close_turn-Shortens o t) (close_turn_keeps o t) p

-- ---- a lexeme of a kind

-- the handles that stay behind a lexeme are those before it, with the one that it declares, if it does
abbrev pub Remembers : LexemeKind → (kept now : KeptHandles) → Type 0
Remembers kind kept now = (now ≡ kept)
    ⊎ ((handle prefix : List ℕ) × (kind ≡ lexemes.Directive (TagPrefix handle prefix))
    × (now ≡ remembered handle prefix kept))

abbrev RemembersBy : LexemeKind → KeptHandles → Stepped → Type 0
RemembersBy kind kept (Ok q) = Remembers kind kept q.kept
RemembersBy kind kept (Err f) = Unit {0}

record RemembersIn (kind : LexemeKind) (kept : KeptHandles) (r : Stepped) : Type 0 where
  pub says : RemembersBy kind kept r

kept_remembers_by : (kind : LexemeKind) (kept : KeptHandles) (r : Stepped) → KeepsHandles kept r
    → RemembersBy kind kept r
kept_remembers_by kind kept (Ok q) k = inl k.says
kept_remembers_by kind kept (Err f) k = tt

kept_remembers : (kind : LexemeKind) (kept : KeptHandles) (r : Stepped) → KeepsHandles kept r → RemembersIn kind kept r
kept_remembers kind kept r k = record { says = kept_remembers_by kind kept r k }

-- ---- around documents

version_keeps : (kept : KeptHandles) (t : Token) (v : Option PlainVersion) (major minor : ℕ) (p : ParserState)
    → p.kept ≡ kept → KeepsHandles kept (with_version t v major minor p)
version_keeps kept t (Some v) major minor p e = keeps_err kept _
version_keeps kept t None major minor p e =
    keeps_if (major == 1) kept _ _
    (keeps_ok kept (record p { stage = Directives (Some (record { major = major; minor = minor })) }) e)
    (keeps_err kept _)

handle_remembers : (kept : KeptHandles) (o : OptionsData) (t : Token) (version : Option PlainVersion)
    (handle prefix : List ℕ) (known : Option (List ℕ)) (p : ParserState) → p.kept ≡ kept
    → RemembersIn (lexemes.Directive (TagPrefix handle prefix)) kept (with_handle o t version handle prefix known p)
handle_remembers kept o t version handle prefix (Some known) p e = record { says = tt }
handle_remembers kept o t version handle prefix None p e = record { says = on o.keep_tags }
  where
    on : (b : Bool) → Remembers (lexemes.Directive (TagPrefix handle prefix)) kept
        (if b then remembered handle prefix p.kept else p.kept)
    on true = inr (handle, prefix, refl, ap (λ (k : KeptHandles). remembered handle prefix k) e)
    on false = inl e

directive_remembers : (kept : KeptHandles) (o : OptionsData) (t : Token) (d : DirectiveKind)
    (version : Option PlainVersion) (p : ParserState) → p.kept ≡ kept
    → RemembersIn (lexemes.Directive d) kept (with_directive o t d version p)
directive_remembers kept o t (Version major minor) version p e =
    kept_remembers _ kept _ (version_keeps kept t version major minor p e)
directive_remembers kept o t (TagPrefix handle prefix) version p e =
    handle_remembers kept o t version handle prefix (lookup_text handle p.handles) p e
directive_remembers kept o t (Reserved name parameters) version p e =
    kept_remembers _ kept _ (keeps_ok kept (record p { stage = Directives version }) e)

open_document_keeps : (kept : KeptHandles) (t : Token) (version : Option PlainVersion) (p : ParserState)
    → p.kept ≡ kept → KeepsHandles kept (open_document t version p)
open_document_keeps kept t version p e =
    keeps_ok kept _ (flush_kept (record p { names = []; stage = Inside }) ∙ e)

directives_remember : (kept : KeptHandles) (o : OptionsData) (kind : LexemeKind) (t : Token)
    (version : Option PlainVersion) (p : ParserState) → p.kept ≡ kept
    → RemembersIn kind kept (behind_directives o kind t version p)
directives_remember kept o (lexemes.Directive d) t version p e = directive_remembers kept o t d version p e
directives_remember kept o lexemes.DocumentStart t version p e =
    kept_remembers _ kept _ (open_document_keeps kept t version p e)
directives_remember kept o kind t version p e = record { says = tt }

begin_document_keeps : (kept : KeptHandles) (o : OptionsData) (t : Token) (p : ParserState) → p.kept ≡ kept
    → KeepsHandles kept (begin_document o t p)
begin_document_keeps kept o t p e =
    keeps_if (begins_node t.sort) kept _ _
    (node_step_keeps kept o t _ (flush_kept (record p { names = []; handles = []; stage = Inside }) ∙ e))
    (keeps_err kept _)

stream_end_keeps : (kept : KeptHandles) (t : Token) (p : ParserState) → p.kept ≡ kept
    → KeepsHandles kept (Ok (give (event_at events.StreamEnd t.lexeme.shown) p))
stream_end_keeps kept t p e = keeps_ok kept _ (flush_kept p ∙ e)

fresh_remembers : (kept : KeptHandles) (o : OptionsData) (kind : LexemeKind) (t : Token) (p : ParserState)
    → p.kept ≡ kept → RemembersIn kind kept (when_fresh o kind t p)
fresh_remembers kept o lexemes.DocumentEnd t p e = kept_remembers _ kept _ (keeps_ok kept (flush p) (flush_kept p ∙ e))
fresh_remembers kept o lexemes.StreamEnd t p e = kept_remembers _ kept _ (stream_end_keeps kept t p e)
fresh_remembers kept o (lexemes.Directive d) t p e = directive_remembers kept o t d None (without_directives p) e
fresh_remembers kept o lexemes.DocumentStart t p e =
    kept_remembers _ kept _ (open_document_keeps kept t None (record p { handles = [] }) e)
fresh_remembers kept o kind t p e = kept_remembers _ kept _ (begin_document_keeps kept o t p e)

between_keeps : (kept : KeptHandles) (kind : LexemeKind) (t : Token) (p : ParserState) → p.kept ≡ kept
    → KeepsHandles kept (when_between kind t p)
between_keeps kept (lexemes.Directive d) t p e = keeps_err kept _
between_keeps kept lexemes.DocumentStart t p e = open_document_keeps kept t None (record p { handles = [] }) e
between_keeps kept lexemes.StreamEnd t p e = stream_end_keeps kept t p e
between_keeps kept kind t p e = keeps_err kept _

behind_root_keeps : (kept : KeptHandles) (kind : LexemeKind) (t : Token) (p : ParserState) → p.kept ≡ kept
    → KeepsHandles kept (behind_root kind t p)
behind_root_keeps kept lexemes.DocumentEnd t p e =
    keeps_ok kept (end_document t.lexeme.shown Fresh p) (flush_kept p ∙ e)
behind_root_keeps kept kind t p e =
    between_keeps kept kind t (end_document (empty_span p.last_end) Between p) (flush_kept p ∙ e)

outside_remembers : (kept : KeptHandles) (o : OptionsData) (stage : DocumentStage) (t : Token) (p : ParserState)
    → p.kept ≡ kept → RemembersIn t.lexeme.kind kept (outside o stage t p)
outside_remembers kept o Fresh t p e = fresh_remembers kept o t.lexeme.kind t p e
outside_remembers kept o (Directives version) t p e = directives_remember kept o t.lexeme.kind t version p e
outside_remembers kept o BehindRoot t p e = kept_remembers _ kept _ (behind_root_keeps kept t.lexeme.kind t p e)
outside_remembers kept o Between t p e = kept_remembers _ kept _ (between_keeps kept t.lexeme.kind t p e)
outside_remembers kept o Inside t p e = record { says = tt }

-- ---- a token at the open place

at_root_keeps : (kept : KeptHandles) (o : OptionsData) (t : Token) (p : ParserState) → p.kept ≡ kept
    → KeepsHandles kept (at_root o t p)
at_root_keeps kept o t p e =
    keeps_if (begins_node t.sort) kept _ _ (node_step_keeps kept o t p e) (keeps_err kept _)

take_in_remembers : (kept : KeptHandles) (o : OptionsData) (fs : List Frame) (t : Token) (p : ParserState)
    → p.kept ≡ kept → RemembersIn t.lexeme.kind kept (take_in o fs t p)
take_in_remembers kept o [] t p e = outside_remembers kept o p.stage t p e
take_in_remembers kept o (Root explicit ∷ fs) t p e = kept_remembers _ kept _ (at_root_keeps kept o t p e)
take_in_remembers kept o (WithProperties q ∷ fs) t p e = kept_remembers _ kept _ (node_step_keeps kept o t p e)
take_in_remembers kept o (BlockSequence column indentless ∷ fs) t p e =
    kept_remembers _ kept _ (in_sequence_keeps kept o t column indentless p e)
take_in_remembers kept o (BlockMapping column stage ∷ fs) t p e =
    kept_remembers _ kept _ (in_mapping_keeps kept o t column stage p e)
take_in_remembers kept o (FlowSequence b ∷ fs) t p e = kept_remembers _ kept _ (in_flow_sequence_keeps kept o t b p e)
take_in_remembers kept o (FlowMapping single stage ∷ fs) t p e =
    kept_remembers _ kept _ (flow_mapping_keeps kept o t single stage t.sort p e)
take_in_remembers kept o (FlowPair stage ∷ fs) t p e =
    kept_remembers _ kept _ (flow_pair_keeps kept o t stage t.sort p e)

closed_remembers : (o : OptionsData) (t : Token) (p : ParserState) (r : FeedGiven) → KeepsAll p r
    → RemembersIn t.lexeme.kind p.kept ((r >>= λ x. Ok x.1) >>= take_token o t)
closed_remembers o t p (Ok x) h = take_in_remembers p.kept o x.1.frames t x.1 h
closed_remembers o t p (Err f) h = record { says = tt }

-- ---- comments

held_keeps : (c : CommentRead) (e : PlainEvent) (w : Option Waiting) (p : ParserState)
    → KeepsHandles p.kept (hold c e w p)
held_keeps c e None p = keeps_ok p.kept (record p { given = p.given ++ e ∷ [] }) refl
held_keeps c e (Some w) p = keeps_if (w.room == 0) p.kept _ _ (keeps_err p.kept _) (keeps_ok p.kept _ refl)

comment_keeps : (c : CommentRead) (next : Option ℕ) (p : ParserState) → KeepsHandles p.kept (take_comment c next p)
comment_keeps c next p = held_keeps c _ p.waiting p

tail_leaves_kept : (kind : LexemeKind) (tail : Option CommentRead) (next : Option ℕ) (p : ParserState)
    → KeepsHandles p.kept (take_tail kind tail next p)
tail_leaves_kept lexemes.Dash tail next p = keeps_ok p.kept p refl
tail_leaves_kept kind None next p = keeps_ok p.kept p refl
tail_leaves_kept kind (Some c) next p = comment_keeps c next p

-- ---- one item

-- the same behind an item
abbrev pub RemembersOf : Item → (kept now : KeptHandles) → Type 0
RemembersOf (OfLexeme l) kept now = Remembers l.kind kept now
RemembersOf (OfComment c) kept now = now ≡ kept

abbrev pub FedRemembers : Item → KeptHandles → Result (List PlainEvent × ParserState) Fault → Type 0
FedRemembers i kept (Ok x) = RemembersOf i kept x.1.kept
FedRemembers i kept (Err f) = Unit {0}

behind_its_tail : (l : lexemes.Lexeme) (kept : KeptHandles) (q : ParserState) (r : Stepped)
    → Remembers l.kind kept q.kept → KeepsHandles q.kept r → FedRemembers (OfLexeme l) kept (handed r)
behind_its_tail l kept q (Ok p) h k = subst (Remembers l.kind kept) (sym k.says) h
behind_its_tail l kept q (Err f) h k = tt

lexeme_remembers : (o : OptionsData) (l : lexemes.Lexeme) (next : Option ℕ) (kept : KeptHandles) (r : Stepped)
    → RemembersIn l.kind kept r → FedRemembers (OfLexeme l) kept (handed (r >>= take_tail l.kind l.tail next))
lexeme_remembers o l next kept (Ok q) h =
    behind_its_tail l kept q (take_tail l.kind l.tail next q) h.says (tail_leaves_kept l.kind l.tail next q)
lexeme_remembers o l next kept (Err f) h = tt

comment_remembers : (c : CommentRead) (kept : KeptHandles) (r : Stepped) → KeepsHandles kept r
    → FedRemembers (OfComment c) kept (handed r)
comment_remembers c kept (Ok q) k = k.says
comment_remembers c kept (Err f) k = tt

item_remembers : (o : OptionsData) (i : Item) (begins_key : Bool) (next : Option ℕ) (p : ParserState)
    → FedRemembers i p.kept (handed (take_item o i begins_key next p))
item_remembers o (OfComment c) begins_key next p = comment_remembers c p.kept _ (comment_keeps c next p)
item_remembers o (OfLexeme l) begins_key next p =
    let t = token_of begins_key l in
    lexeme_remembers o l next p.kept _
    (closed_remembers o t p (pieces depth (close_turn o t) p) (closing_keeps o t p))

pub feed_remembers : (o : OptionsData) (i : FlaggedItem) (next : Option ℕ) (p : ParserState)
    → FedRemembers i.item p.kept (feed o i next p)
unfolding feed
feed_remembers o i next p = item_remembers o i.item i.begins_key next p
