-- What a lexeme gives stands behind what is held, or behind the empty node that waits and what is held.
use Rattle.std.proofs.Common.{◌≡◌, ℕ, ◌==◌, Bool, true, false, List, [], ◌∷◌, Option, Some, None}
use Rattle.std.proofs.Common.{Ok, Err, ◌⊎◌, inl, inr, refl, sym, subst}
use Rattle.std.specs.Prelude.{if◌then◌else◌}
use Rattle.granit_error.specs.OptionsData.{OptionsData}
use Rattle.granit_lexemes.specs.Comment.{CommentRead}
use Rattle.granit_lexemes.specs.Lexeme as lexemes
use Rattle.granit_lexemes.specs.Lexeme.{DirectiveKind, Version, TagPrefix, Reserved, LexemeKind, KeyStart, Lexeme}
use Rattle.granit_lexemes.specs.Outcome.{◌>>=◌}
use Rattle.granit_lexemes.specs.Pieces.{with_front, pieces}
use Rattle.granit_lexemes.specs.PlainEvent as events
use Rattle.granit_lexemes.specs.PlainEvent.{PlainVersion, event_at}
use Rattle.granit_lexemes.specs.declared.layout.Bracket.TheVariants.{Square, Curly}
use Rattle.granit_scalars.proofs.Turning.{Carries, pieces_hold}
use Rattle.granit_machine.proofs.ClosingLemmas.{close_turn-Shortens, FeedGiven}
use Rattle.granit_machine.proofs.NoneWaits.{end_top_none}
use Rattle.granit_machine.specs.Closing.{is_behind_question, ends_top, token_start, end_top, close_turn, depth, close}
use Rattle.granit_machine.specs.Entries.{lookup_text}
use Rattle.granit_machine.specs.Frames.{Frame, Root, WithProperties, BlockSequence, BlockMapping, FlowSequence}
use Rattle.granit_machine.specs.Frames.{FlowMapping, FlowPair, DocumentStage, Fresh, Directives, Inside, BehindRoot}
use Rattle.granit_machine.specs.Frames.{Between, ParserState}
use Rattle.granit_machine.specs.Giving.{null_at, give}
use Rattle.granit_machine.specs.NodeEnds.{finish, empty_span}
use Rattle.granit_machine.specs.NodeSteps.{Stepped, node}
use Rattle.granit_machine.specs.Parser.{take_in, take_token}
use Rattle.granit_machine.specs.StreamSteps.{at_root, with_version, with_handle, open_document, with_directive}
use Rattle.granit_machine.specs.StreamSteps.{behind_directives, bare_start, begin_document, without_directives}
use Rattle.granit_machine.specs.StreamSteps.{when_fresh, when_between, end_document, behind_root, outside}
use Rattle.granit_machine.specs.TokenSort.{Token, token_sort, token_of, is_dash_token}
use Rattle.granit_machine.specs.TokenSort.{is_bare_colon, begins_node}
use Rattle.granit_comment_places.proofs.GrowSteps.{More, Grown, same, more_then, grown_of, grown_on}
use Rattle.granit_comment_places.proofs.GrowSteps.{Mores, mores_ok, mores_err, mores_if, mores_from, Grows, grows_of}
use Rattle.granit_comment_places.proofs.GrowSteps.{grows_err, give_full, give_more, flush_full, finish_full}
use Rattle.granit_comment_places.proofs.GrowSteps.{end_node_grown}
use Rattle.granit_comment_places.proofs.GrowSteps.{end_properties_more, dash_tail, TailOf, node_mores, TailSorted}
use Rattle.granit_comment_places.proofs.GrowSteps.{in_sequence_grows, in_mapping_grows, in_flow_sequence_grows}
use Rattle.granit_comment_places.proofs.GrowSteps.{flow_mapping_grows, flow_pair_grows}
use Rattle.granit_comment_room.proofs.RowsFirst.{no_dash_colon, colon_left}

-- ---- closing

end_top_grown : (o : OptionsData) (t : Token) (p : ParserState) (fs : List Frame) → Grown None p (end_top o t p fs)
end_top_grown o t p (Root explicit ∷ fs) =
    let q = give (null_at p.last_end) p in
    grown_of None p (finish q)
    (more_then None p q (finish q) (give_more (null_at p.last_end) p) (same q (finish q) (finish_full q)))
end_top_grown o t p (WithProperties q ∷ fs) = grown_of None p _ (end_properties_more o q p)
end_top_grown o t p fs = end_node_grown t.lexeme.start (token_start t) p

-- closing leaves the state, or one where nothing waits
abbrev Shut : ParserState → ParserState → Type 0
Shut p q = (q ≡ p) ⊎ (Grown None p q × (q.waiting ≡ None))

-- what closing leaves: nothing more ends
abbrev Closed : Token → ParserState → FeedGiven → Type 0
Closed t p (Ok x) = Shut p x.1 × (ends_top t x.1 x.1.frames ≡ false)
Closed t p (Err f) = Unit {0}

shut_on : (p q r : ParserState) → Grown None p q → q.waiting ≡ None → Shut q r → Shut p r
shut_on p q r a n (inl e) = inr (subst (λ r. Grown None p r × (r.waiting ≡ None)) (sym e) (a, n))
shut_on p q r a n (inr b) = inr (grown_on None p q r a n b.0, b.1)

closed_on : (o : OptionsData) (t : Token) (p : ParserState) (given : FeedGiven) →
    Closed t (end_top o t p p.frames) given →
    Closed t p (with_front [] given)
closed_on o t p (Ok x) h =
    let q = end_top o t p p.frames in
    (shut_on p q x.1 (end_top_grown o t p p.frames) (end_top_none o t p p.frames) h.0, h.1)
closed_on o t p (Err f) h = tt

turn_closes : (o : OptionsData) (t : Token) (p : ParserState) (b : Bool) → ends_top t p p.frames ≡ b →
    Carries (Closed t) p (if b then Ok (Some [], end_top o t p p.frames) else Ok (None, p))
turn_closes o t p true e = λ given h. closed_on o t p given h
turn_closes o t p false e = (inl refl, e)

close_turn_closes : (o : OptionsData) (t : Token) (p : ParserState) → Carries (Closed t) p (close_turn o t p)
unfolding close_turn
close_turn_closes o t p = turn_closes o t p (ends_top t p p.frames) refl

all_closed : (o : OptionsData) (t : Token) (p : ParserState) → Closed t p (pieces depth (close_turn o t) p)
all_closed o t p = pieces_hold (Closed t) depth (close_turn o t) (close_turn-Shortens o t) (close_turn_closes o t) p

-- ---- around documents

abbrev SilentIn : Token → LexemeKind → Type 0
SilentIn t kind = dash_tail kind t.lexeme.tail ≡ TailOf t

plain_more : (t : Token) (p q : ParserState) → None ≡ TailOf t → More None p q → Mores (TailOf t) p (Ok q)
plain_more t p q h a = subst (λ tail. Mores tail p (Ok q)) h (mores_ok None p q a)

at_root_mores : (o : OptionsData) (t : Token) (p : ParserState) → Mores (TailOf t) p (at_root o t p)
at_root_mores o t p =
    mores_if (begins_node t.sort) (TailOf t) p _ _ (λ e. node_mores o t p) (λ e. mores_err (TailOf t) p _)

version_mores : (t : Token) (v : Option PlainVersion) (major minor : ℕ) (p : ParserState) → None ≡ TailOf t →
    Mores (TailOf t) p (with_version t v major minor p)
version_mores t (Some v) major minor p h = mores_err (TailOf t) p _
version_mores t None major minor p h =
    mores_if (major == 1) (TailOf t) p _ _ (λ e. plain_more t p _ h (same p _ refl)) (λ e. mores_err (TailOf t) p _)

handle_mores : (o : OptionsData) (t : Token) (version : Option PlainVersion) (handle prefix : List ℕ)
    (known : Option (List ℕ))
    (p : ParserState) → None ≡ TailOf t → Mores (TailOf t) p (with_handle o t version handle prefix known p)
handle_mores o t version handle prefix (Some known) p h = mores_err (TailOf t) p _
handle_mores o t version handle prefix None p h = plain_more t p _ h (same p _ refl)

open_document_mores : (t : Token) (version : Option PlainVersion) (p : ParserState) → None ≡ TailOf t →
    Mores (TailOf t) p (open_document t version p)
open_document_mores t version p h =
    plain_more t p _ h
    (record {
      added = event_at (events.DocumentStart true version) t.lexeme.shown ∷ [];
      full_is =
          give_full (event_at (events.DocumentStart true version) t.lexeme.shown)
          (record p { names = []; stage = Inside });
      ends = tt;
    })

directive_mores : (o : OptionsData) (t : Token) (d : DirectiveKind) (version : Option PlainVersion) (p : ParserState)
    → None ≡ TailOf t →
    Mores (TailOf t) p (with_directive o t d version p)
directive_mores o t (Version major minor) version p h = version_mores t version major minor p h
directive_mores o t (TagPrefix handle prefix) version p h =
    handle_mores o t version handle prefix (lookup_text handle p.handles) p h
directive_mores o t (Reserved name parameters) version p h = plain_more t p _ h (same p _ refl)

directives_mores : (o : OptionsData) (kind : LexemeKind) (t : Token) (version : Option PlainVersion) (p : ParserState) →
    SilentIn t kind → Mores (TailOf t) p (behind_directives o kind t version p)
directives_mores o (lexemes.Directive d) t version p h = directive_mores o t d version p h
directives_mores o lexemes.DocumentStart t version p h = open_document_mores t version p h
directives_mores o kind t version p h = mores_err (TailOf t) p _

begin_document_mores : (o : OptionsData) (t : Token) (p : ParserState) → Mores (TailOf t) p (begin_document o t p)
begin_document_mores o t p =
    let r : ParserState = record p { names = []; handles = []; stage = Inside } in
    let e = bare_start t.sort t in
    let q : ParserState = record (give e r) { frames = Root false ∷ (give e r).frames } in
    mores_if (begins_node t.sort) (TailOf t) p _ _
    (λ b. mores_from (TailOf t) p q (node o t q) (record { added = e ∷ []; full_is = give_full e r; ends = tt })
    (node_mores o t q))
    (λ b. mores_err (TailOf t) p _)

fresh_mores : (o : OptionsData) (kind : LexemeKind) (t : Token) (p : ParserState) → SilentIn t kind →
    Mores (TailOf t) p (when_fresh o kind t p)
fresh_mores o lexemes.DocumentEnd t p h = plain_more t p _ h (same p _ (flush_full p))
fresh_mores o lexemes.StreamEnd t p h = plain_more t p _ h (give_more (event_at events.StreamEnd t.lexeme.shown) p)
fresh_mores o (lexemes.Directive d) t p h =
    let q = without_directives p in
    mores_from (TailOf t) p q (with_directive o t d None q) (same p q refl) (directive_mores o t d None q h)
fresh_mores o lexemes.DocumentStart t p h =
    let q : ParserState = record p { handles = [] } in
    mores_from (TailOf t) p q (open_document t None q) (same p q refl) (open_document_mores t None q h)
fresh_mores o kind t p h = begin_document_mores o t p

between_mores : (kind : LexemeKind) (t : Token) (p : ParserState) → SilentIn t kind →
    Mores (TailOf t) p (when_between kind t p)
between_mores (lexemes.Directive d) t p h = mores_err (TailOf t) p _
between_mores lexemes.DocumentStart t p h =
    let q : ParserState = record p { handles = [] } in
    mores_from (TailOf t) p q (open_document t None q) (same p q refl) (open_document_mores t None q h)
between_mores lexemes.StreamEnd t p h = plain_more t p _ h (give_more (event_at events.StreamEnd t.lexeme.shown) p)
between_mores kind t p h = mores_err (TailOf t) p _

behind_root_mores : (kind : LexemeKind) (t : Token) (p : ParserState) → SilentIn t kind →
    Mores (TailOf t) p (behind_root kind t p)
behind_root_mores lexemes.DocumentEnd t p h =
    plain_more t p (end_document t.lexeme.shown Fresh p) h
    (record {
      added = event_at events.DocumentEnd t.lexeme.shown ∷ [];
      full_is = give_full (event_at events.DocumentEnd t.lexeme.shown) p;
      ends = tt;
    })
behind_root_mores kind t p h =
    let q = end_document (empty_span p.last_end) Between p in
    let e = event_at events.DocumentEnd (empty_span p.last_end) in
    mores_from (TailOf t) p q (when_between kind t q) (record { added = e ∷ []; full_is = give_full e p; ends = tt })
    (between_mores kind t q h)

outside_mores : (o : OptionsData) (stage : DocumentStage) (t : Token) (p : ParserState) →
    Mores (TailOf t) p (outside o stage t p)
outside_mores o Fresh t p = fresh_mores o t.lexeme.kind t p refl
outside_mores o (Directives version) t p = directives_mores o t.lexeme.kind t version p refl
outside_mores o BehindRoot t p = behind_root_mores t.lexeme.kind t p refl
outside_mores o Between t p = between_mores t.lexeme.kind t p refl
outside_mores o Inside t p = mores_err (TailOf t) p _

-- ---- a token at the open place

take_in_grows : (o : OptionsData) (fs : List Frame) (t : Token) (p : ParserState) → TailSorted t →
    ends_top t p fs ≡ false → Grows (TailOf t) p (take_in o fs t p)
take_in_grows o [] t p s e = grows_of (TailOf t) p (outside o p.stage t p) (outside_mores o p.stage t p)
take_in_grows o (Root explicit ∷ fs) t p s e = grows_of (TailOf t) p (at_root o t p) (at_root_mores o t p)
take_in_grows o (WithProperties q ∷ fs) t p s e = grows_of (TailOf t) p (node o t p) (node_mores o t p)
take_in_grows o (BlockSequence column indentless ∷ fs) t p s e = in_sequence_grows o t column indentless p s
take_in_grows o (BlockMapping column stage ∷ fs) t p s e = in_mapping_grows o t column stage p s
take_in_grows o (FlowSequence b ∷ fs) t p s e = in_flow_sequence_grows o t b p s
take_in_grows o (FlowMapping single stage ∷ fs) t p s e = flow_mapping_grows o t single stage p s
take_in_grows o (FlowPair stage ∷ fs) t p s e =
    flow_pair_grows o t stage p s (λ f. no_dash_colon t.sort (colon_left _ (is_behind_question stage)
    (is_bare_colon t.sort) e f))

on_shut : (tail : Option CommentRead) (p q : ParserState) (r : Stepped) → Shut p q → Grows tail q r → Grows tail p r
on_shut tail p q r (inl e) g = subst (λ p. Grows tail p r) e g
on_shut tail p q r (inr a) g = record { says = by r g.says }
  where
    by : (r : Stepped) → Rattle.granit_comment_places.proofs.GrowSteps.GrowsBy tail q r →
        Rattle.granit_comment_places.proofs.GrowSteps.GrowsBy tail p r
    by (Ok x) g = grown_on tail p q x a.0 a.1 g
    by (Err f) g = tt

closed_takes : (o : OptionsData) (t : Token) (p : ParserState) (r : FeedGiven) → TailSorted t → Closed t p r →
    Grows (TailOf t) p ((r >>= λ x. Ok x.1) >>= take_token o t)
closed_takes o t p (Ok x) s c =
    on_shut (TailOf t) p x.1 (take_token o t x.1) c.0 (take_in_grows o x.1.frames t x.1 s c.1)
closed_takes o t p (Err f) s c = grows_err (TailOf t) p f

sorts_dash : (b : Bool) (key : Option KeyStart) (kind : LexemeKind) → is_dash_token (token_sort b key kind) ≡ true →
    (tail : Option CommentRead) → dash_tail kind tail ≡ tail
sorts_dash b key lexemes.Dash e tail = refl
sorts_dash b None lexemes.Colon e tail = absurd cc
sorts_dash b (Some k) lexemes.Colon e tail = absurd cc
sorts_dash b key (lexemes.Close Square) e tail = absurd cc
sorts_dash b key (lexemes.Close Curly) e tail = absurd cc
sorts_dash true key (lexemes.Open bracket) e tail = absurd cc
sorts_dash false key (lexemes.Open bracket) e tail = absurd cc
sorts_dash true key (lexemes.Alias name) e tail = absurd cc
sorts_dash false key (lexemes.Alias name) e tail = absurd cc
sorts_dash true key (lexemes.Anchor name) e tail = absurd cc
sorts_dash false key (lexemes.Anchor name) e tail = absurd cc
sorts_dash true key (lexemes.Tag handle suffix) e tail = absurd cc
sorts_dash false key (lexemes.Tag handle suffix) e tail = absurd cc
sorts_dash true key (lexemes.Scalar style text) e tail = absurd cc
sorts_dash false key (lexemes.Scalar style text) e tail = absurd cc
sorts_dash b key kind e tail = absurd cc

sorts_other : (b : Bool) (key : Option KeyStart) (kind : LexemeKind) → is_dash_token (token_sort b key kind) ≡ false →
    (tail : Option CommentRead) → dash_tail kind tail ≡ None
sorts_other b key lexemes.Dash e tail = absurd cc
sorts_other b key kind e tail = refl

tail_sorted : (b : Bool) (l : Lexeme) → TailSorted (token_of b l)
tail_sorted b l = record {
  dash = λ e. sorts_dash b l.key l.kind e l.tail;
  other = λ e. sorts_other b l.key l.kind e l.tail;
}

-- what a lexeme gives, its tail aside where it is no `-`
pub token_grows : (o : OptionsData) (b : Bool) (l : Lexeme) (p : ParserState) →
    Grows (dash_tail l.kind l.tail) p (close o (token_of b l) p >>= take_token o (token_of b l))
token_grows o b l p =
    let t = token_of b l in
    closed_takes o t p (pieces depth (close_turn o t) p) (tail_sorted b l) (all_closed o t p)
