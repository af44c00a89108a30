-- What is fed with items tells their comments, in order.
pub use Rattle.granit_reading.proofs.WholeLaw.{all_read_whole, one_whole}
pub use Rattle.granit_reading.proofs.Deciding.{flow_decided}
pub use Rattle.granit_reading.proofs.ReadingLaw.{lexed}
use Rattle.std.proofs.Common.{◌≡◌, ℕ, ◌==◌, ◌||◌, ◌&&◌, not, Bool, true, false, List, [], ◌∷◌, ◌++◌, Option, Some, None}
use Rattle.std.proofs.Common.{Ok, Err, refl, sym, ap, subst, ◌∙◌, append_assoc}
use Rattle.std.specs.Prelude.{if◌then◌else◌}
use Rattle.std.proofs.lemmas.List.{append-nil}
use Rattle.granit_error.specs.OptionsData.{OptionsData}
use Rattle.granit_lexemes.specs.Comment.{CommentRead}
use Rattle.granit_lexemes.specs.Lexeme as lexemes
use Rattle.granit_lexemes.specs.Lexeme.{DirectiveKind, Version, TagPrefix, Reserved, LexemeKind, KeyStart, Lexeme, Item}
use Rattle.granit_lexemes.specs.Lexeme.{OfLexeme, OfComment}
use Rattle.granit_lexemes.specs.Outcome.{◌>>=◌}
use Rattle.granit_lexemes.specs.Pieces.{with_front, pieces}
use Rattle.granit_lexemes.specs.PlainEvent as events
use Rattle.granit_lexemes.specs.PlainEvent.{PlainEvent, PlainVersion, event_at}
use Rattle.granit_lexemes.specs.Source.{Source}
use Rattle.granit_reading.proofs.WholeLaw.{Carries, pieces_hold}
use Rattle.granit_machine.proofs.ClosingLemmas.{close_turn-Shortens, FeedGiven}
use Rattle.granit_machine.specs.Closing.{is_behind_question, ends_top, token_start, end_top, close_turn, depth, close}
use Rattle.granit_machine.specs.Entries.{lookup_text}
use Rattle.granit_machine.specs.Frames.{Frame, Root, WithProperties, BlockSequence, BlockMapping, FlowSequence}
use Rattle.granit_machine.specs.Frames.{FlowMapping, FlowPair, DocumentStage, Fresh, Directives, Inside, BehindRoot}
use Rattle.granit_machine.specs.Frames.{Between, Waiting, ParserState}
use Rattle.granit_machine.specs.Giving.{null_at, give}
use Rattle.granit_machine.specs.Lexing.{FlaggedItem}
use Rattle.granit_machine.specs.Machine.{feed_all}
use Rattle.granit_machine.specs.NodeEnds.{empty_span}
use Rattle.granit_machine.specs.NodeSteps.{Stepped, node}
use Rattle.granit_machine.specs.Parser.{next_line, take_in, take_token, placed, hold, take_comment, take_tail}
use Rattle.granit_machine.specs.Parser.{take_lexeme, take_item, feed}
use Rattle.granit_machine.specs.StreamSteps.{at_root, with_version, with_handle, open_document, with_directive}
use Rattle.granit_machine.specs.StreamSteps.{behind_directives, bare_start, begin_document, without_directives}
use Rattle.granit_machine.specs.StreamSteps.{when_fresh, when_between, end_document, behind_root, outside}
use Rattle.granit_machine.specs.TokenSort.{TokenSort, BareColon, Token, token_sort, token_of, is_dash_token}
use Rattle.granit_machine.specs.TokenSort.{is_bare_colon, begins_node}
use Rattle.granit_quiet.proofs.CommentLaws.{CleanFed, clean_fed}
use Rattle.granit_quiet.proofs.QuietStream.{bare_start_tells}
use Rattle.granit_quiet.specs.CommentEvents.{only_comments, held_of, comment_event, tail_events, item_events}
use Rattle.granit_quiet.specs.CommentEvents.{comment_events}
use Rattle.granit_quiet.proofs.Telling.{only_append, told, flush_told, give_told, finish_told, end_node_told}
use Rattle.granit_quiet.proofs.Telling.{end_properties_told, with_tail_of}
use Rattle.granit_quiet.proofs.TellSteps.{Tells, tells_ok, tells_err, tells_if, tells_then, adds, Added, Sorted}
use Rattle.granit_quiet.proofs.TellSteps.{Adds, node_adds, in_sequence_adds, in_mapping_adds, plainly}
use Rattle.granit_quiet.proofs.TellSteps.{in_flow_sequence_adds, flow_mapping_adds, flow_pair_adds}

-- ---- closing

end_top_told : (o : OptionsData) (t : Token) (p : ParserState) (fs : List Frame) → told (end_top o t p fs) ≡ told p
end_top_told o t p (Root explicit ∷ fs) = finish_told (give (null_at p.last_end) p) ∙ give_told
    (null_at p.last_end) p refl
end_top_told o t p (WithProperties q ∷ fs) = end_properties_told o q p
end_top_told o t p fs = end_node_told t.lexeme.start (token_start t) p

-- what closing leaves: nothing more ends
abbrev pub Closed : Token → ParserState → FeedGiven → Type 0
Closed t p (Ok x) = (told x.1 ≡ told p) × (ends_top t x.1 x.1.frames ≡ false)
Closed t p (Err f) = Unit {0}

closed_on : (o : OptionsData) (t : Token) (p : ParserState) (given : FeedGiven) → Closed t
    (end_top o t p p.frames) given → Closed t p (with_front [] given)
closed_on o t p (Ok x) h = (h.0 ∙ end_top_told o t p p.frames, h.1)
closed_on o t p (Err f) h = tt

turn_closes : (o : OptionsData) (t : Token) (p : ParserState) (b : Bool) → ends_top t p p.frames ≡ b → Carries
    (Closed t) p (if b then Ok (Some [], end_top o t p p.frames) else Ok (None, p))
turn_closes o t p true e = λ given h. closed_on o t p given h
turn_closes o t p false e = (refl, e)

close_turn_closes : (o : OptionsData) (t : Token) (p : ParserState) → Carries (Closed t) p (close_turn o t p)
unfolding close_turn
close_turn_closes o t p = turn_closes o t p (ends_top t p p.frames) refl

pub all_closed : (o : OptionsData) (t : Token) (p : ParserState) → Closed t p (pieces depth (close_turn o t) p)
all_closed o t p = pieces_hold (Closed t) depth (close_turn o t) (close_turn-Shortens o t) (close_turn_closes o t) p

-- ---- around documents

abbrev SilentIn : Token → LexemeKind → Type 0
SilentIn t kind = (es : List PlainEvent) → adds kind t.lexeme.tail es ≡ Added t es

at_root_adds : (o : OptionsData) (t : Token) (p : ParserState) → Adds t p (at_root o t p)
at_root_adds o t p = tells_if (begins_node t.sort) _ _ (Added t (told p)) (λ e. node_adds o t p) (λ e. tells_err _ _)

version_adds : (t : Token) (v : Option PlainVersion) (major minor : ℕ) (p : ParserState) → ((es : List PlainEvent) →
    es ≡ Added t es) → Adds t p (with_version t v major minor p)
version_adds t (Some v) major minor p h = tells_err _ _
version_adds t None major minor p h = tells_if (major == 1) _ _ (Added t (told p)) (λ e. plainly t p _ h refl)
    (λ e. tells_err _ _)

handle_adds : (o : OptionsData) (t : Token) (version : Option PlainVersion) (handle prefix : List ℕ)
    (known : Option (List ℕ))
    (p : ParserState) → ((es : List PlainEvent) → es ≡ Added t es) → Adds t p
    (with_handle o t version handle prefix known p)
handle_adds o t version handle prefix (Some known) p h = tells_err _ _
handle_adds o t version handle prefix None p h = plainly t p _ h refl

open_document_adds : (t : Token) (version : Option PlainVersion) (p : ParserState) → ((es : List PlainEvent) →
    es ≡ Added t es) → Adds t p (open_document t version p)
open_document_adds t version p h =
    plainly t p _ h (give_told (event_at (events.DocumentStart true version) t.lexeme.shown) (record p {
      names =
          [];
      stage = Inside;
    }) refl)

directive_adds : (o : OptionsData) (t : Token) (d : DirectiveKind) (version : Option PlainVersion) (p : ParserState) →
    ((es : List PlainEvent) → es ≡ Added t es) → Adds t p (with_directive o t d version p)
directive_adds o t (Version major minor) version p h = version_adds t version major minor p h
directive_adds o t (TagPrefix handle prefix) version p h = handle_adds o t version handle prefix
    (lookup_text handle p.handles) p h
directive_adds o t (Reserved name parameters) version p h = plainly t p _ h refl

directives_adds : (o : OptionsData) (kind : LexemeKind) (t : Token) (version : Option PlainVersion)
    (p : ParserState) → SilentIn t kind → Adds t p (behind_directives o kind t version p)
directives_adds o (lexemes.Directive d) t version p h = directive_adds o t d version p h
directives_adds o lexemes.DocumentStart t version p h = open_document_adds t version p h
directives_adds o kind t version p h = tells_err _ _

begin_document_adds : (o : OptionsData) (t : Token) (p : ParserState) → Adds t p (begin_document o t p)
begin_document_adds o t p =
    let r : ParserState = record p { names = []; handles = []; stage = Inside } in
    let q : ParserState = give (bare_start t.sort t) r in
    tells_if (begins_node t.sort) _ _ (Added t (told p))
    (λ e. subst (λ es. Tells (node o t (record q { frames = Root false ∷ q.frames })) (Added t es)) (give_told
    (bare_start t.sort t) r (bare_start_tells t.sort t))
    (node_adds o t (record q { frames = Root false ∷ q.frames })))
    (λ e. tells_err _ _)

fresh_adds : (o : OptionsData) (kind : LexemeKind) (t : Token) (p : ParserState) → SilentIn t kind → Adds t p
    (when_fresh o kind t p)
fresh_adds o lexemes.DocumentEnd t p h = plainly t p _ h (flush_told p)
fresh_adds o lexemes.StreamEnd t p h = plainly t p _ h (give_told (event_at events.StreamEnd t.lexeme.shown) p refl)
fresh_adds o (lexemes.Directive d) t p h = directive_adds o t d None (without_directives p) h
fresh_adds o lexemes.DocumentStart t p h = open_document_adds t None (record p { handles = [] }) h
fresh_adds o kind t p h = begin_document_adds o t p

between_adds : (kind : LexemeKind) (t : Token) (p : ParserState) → SilentIn t kind → Adds t p (when_between kind t p)
between_adds (lexemes.Directive d) t p h = tells_err _ _
between_adds lexemes.DocumentStart t p h = open_document_adds t None (record p { handles = [] }) h
between_adds lexemes.StreamEnd t p h = plainly t p _ h (give_told (event_at events.StreamEnd t.lexeme.shown) p refl)
between_adds kind t p h = tells_err _ _

end_document_told : (source : Source) (stage : DocumentStage) (p : ParserState) → told
    (end_document source stage p) ≡ told p
end_document_told source stage p = give_told (event_at events.DocumentEnd source) p refl

behind_root_adds : (kind : LexemeKind) (t : Token) (p : ParserState) → SilentIn t kind → Adds t p (behind_root kind t p)
behind_root_adds lexemes.DocumentEnd t p h = plainly t p _ h (end_document_told t.lexeme.shown Fresh p)
behind_root_adds kind t p h =
    let q = end_document (empty_span p.last_end) Between p in
    subst (λ es. Tells (when_between kind t q) (Added t es)) (end_document_told (empty_span p.last_end) Between p)
    (between_adds kind t q h)

outside_adds : (o : OptionsData) (stage : DocumentStage) (t : Token) (p : ParserState) → Adds t p (outside o stage t p)
outside_adds o Fresh t p = fresh_adds o t.lexeme.kind t p (λ es. refl)
outside_adds o (Directives version) t p = directives_adds o t.lexeme.kind t version p (λ es. refl)
outside_adds o BehindRoot t p = behind_root_adds t.lexeme.kind t p (λ es. refl)
outside_adds o Between t p = between_adds t.lexeme.kind t p (λ es. refl)
outside_adds o Inside t p = tells_err _ _

-- ---- a token at the open place

pub no_dash_colon : (sort : TokenSort) → is_bare_colon sort ≡ true → is_dash_token sort ≡ false
no_dash_colon BareColon e = refl
no_dash_colon sort e = absurd cc

pub colon_left : (a b c : Bool) → (a || (b && not c)) ≡ false → b ≡ true → c ≡ true
colon_left true b c e f = absurd cc
colon_left false true true e f = refl
colon_left false true false e f = absurd cc
colon_left false false c e f = absurd cc

take_in_adds : (o : OptionsData) (fs : List Frame) (t : Token) (p : ParserState) → Sorted t →
    ends_top t p fs ≡ false → Adds t p (take_in o fs t p)
take_in_adds o [] t p s e = outside_adds o p.stage t p
take_in_adds o (Root explicit ∷ fs) t p s e = at_root_adds o t p
take_in_adds o (WithProperties q ∷ fs) t p s e = node_adds o t p
take_in_adds o (BlockSequence column indentless ∷ fs) t p s e = in_sequence_adds o t column indentless p s
take_in_adds o (BlockMapping column stage ∷ fs) t p s e = in_mapping_adds o t column stage p s
take_in_adds o (FlowSequence b ∷ fs) t p s e = in_flow_sequence_adds o t b p s
take_in_adds o (FlowMapping single stage ∷ fs) t p s e = flow_mapping_adds o t single stage p s
take_in_adds o (FlowPair stage ∷ fs) t p s e =
    flow_pair_adds o t stage p s (λ f. no_dash_colon t.sort (colon_left _ (is_behind_question stage)
    (is_bare_colon t.sort) e f))

-- what a token takes, from what closing leaves
closed_takes :
    (o : OptionsData) (t : Token) (p : ParserState) (r : FeedGiven) → Sorted t → Closed t p r →
    Adds t p ((r >>= λ x. Ok x.1) >>= take_token o t)
closed_takes o t p (Ok x) s c = subst (λ es. Tells (take_token o t x.1) (Added t es)) c.0
    (take_in_adds o x.1.frames t x.1 s c.1)
closed_takes o t p (Err f) s c = tells_err f _

-- ---- comments

hold_tells :
    (c : CommentRead) (e : PlainEvent) (w : Option Waiting) (p : ParserState) → only_comments (e ∷ []) ≡ e ∷ [] →
    Tells (hold c e w (record p { waiting = w })) (told (record p { waiting = w }) ++ e ∷ [])
hold_tells c e None p h =
    tells_ok _ _
    (append-nil (only_comments (p.given ++ e ∷ [])) ∙ only_append p.given (e ∷ []) ∙ ap
    (λ es. only_comments p.given ++ es) h
    ∙ ap (λ es. es ++ e ∷ []) (sym (append-nil (only_comments p.given))))
hold_tells c e (Some w) p h =
    tells_if (w.room == 0) _ _ (told (record p { waiting = Some w }) ++ e ∷ []) (λ f. tells_err _ _)
    (λ f. tells_ok _ _
    (ap (λ es. only_comments p.given ++ es) (only_append w.held (e ∷ []) ∙ ap (λ es. only_comments w.held ++ es) h)
    ∙ sym (append_assoc (only_comments p.given) (only_comments w.held) (e ∷ []))))

comment_tells : (c : CommentRead) (next : Option ℕ) (p : ParserState) → Tells (take_comment c next p)
    (told p ++ comment_event c (placed c next) ∷ [])
comment_tells c next p = hold_tells c (comment_event c (placed c next)) p.waiting p refl

tail_tells :
    (kind : LexemeKind) (tail : Option CommentRead) (next : Option ℕ) (q : ParserState) (es : List PlainEvent) →
    told q ≡ adds kind tail es → Tells (take_tail kind tail next q) (es ++ tail_events kind tail next)
tail_tells lexemes.Dash None next q es e = tells_ok q _ (e ∙ sym (append-nil es))
tail_tells lexemes.Dash (Some c) next q es e = tells_ok q _ e
tail_tells kind None next q es e = tells_ok q _ (e ∙ sym (append-nil es))
tail_tells kind (Some c) next q es e =
    subst (λ (ds : List PlainEvent). Tells (take_comment c next q) (ds ++ comment_event c (placed c next) ∷ [])) e
    (comment_tells c next q)

-- ---- a lexeme

sorts_dash : (b : Bool) (key : Option KeyStart) (kind : LexemeKind) → is_dash_token (token_sort b key kind) ≡ true →
    (tail : Option CommentRead) (es : List PlainEvent) → with_tail_of tail es ≡ adds kind tail es
sorts_dash b key lexemes.Dash e tail es = refl
sorts_dash b None lexemes.Colon e tail es = absurd cc
sorts_dash b (Some k) lexemes.Colon e tail es = absurd cc
sorts_dash b key (lexemes.Close Rattle.granit_lexemes.specs.declared.layout.Bracket.TheVariants.Square) e tail es =
    absurd cc
sorts_dash b key (lexemes.Close Rattle.granit_lexemes.specs.declared.layout.Bracket.TheVariants.Curly) e tail es =
    absurd cc
sorts_dash true key (lexemes.Open bracket) e tail es = absurd cc
sorts_dash false key (lexemes.Open bracket) e tail es = absurd cc
sorts_dash true key (lexemes.Alias name) e tail es = absurd cc
sorts_dash false key (lexemes.Alias name) e tail es = absurd cc
sorts_dash true key (lexemes.Anchor name) e tail es = absurd cc
sorts_dash false key (lexemes.Anchor name) e tail es = absurd cc
sorts_dash true key (lexemes.Tag handle suffix) e tail es = absurd cc
sorts_dash false key (lexemes.Tag handle suffix) e tail es = absurd cc
sorts_dash true key (lexemes.Scalar style text) e tail es = absurd cc
sorts_dash false key (lexemes.Scalar style text) e tail es = absurd cc
sorts_dash b key kind e tail es = absurd cc

sorts_other : (b : Bool) (key : Option KeyStart) (kind : LexemeKind) → is_dash_token (token_sort b key kind) ≡ false →
    (tail : Option CommentRead) (es : List PlainEvent) → es ≡ adds kind tail es
sorts_other b key lexemes.Dash e tail es = absurd cc
sorts_other b key kind e tail es = refl

sorted_token : (b : Bool) (l : Lexeme) → Sorted (token_of b l)
sorted_token b l = record {
  dash = λ e es. sorts_dash b l.key l.kind e l.tail es;
  other = λ e es. sorts_other b l.key l.kind e l.tail es;
}

lexeme_tells :
    (o : OptionsData) (b : Bool) (l : Lexeme) (next : Option ℕ) (p : ParserState) →
    Tells (take_lexeme o (token_of b l) next p) (told p ++ tail_events l.kind l.tail next)
lexeme_tells o b l next p =
    let t = token_of b l in
    tells_then (close o t p >>= take_token o t) (take_tail l.kind l.tail next) (Added t (told p)) _
    (closed_takes o t p (pieces depth (close_turn o t) p) (sorted_token b l) (all_closed o t p))
    (λ q e. tail_tells l.kind l.tail next q (told p) e)

item_tells :
    (o : OptionsData) (x : Item) (b : Bool) (next : Option ℕ) (p : ParserState) →
    Tells (take_item o x b next p) (told p ++ item_events x next)
item_tells o (OfComment c) b next p = comment_tells c next p
item_tells o (OfLexeme l) b next p = lexeme_tells o b l next p

-- ---- all items

-- the comments that were given, and those that are held then
abbrev pub TellsAll : FeedGiven → List PlainEvent → Type 0
TellsAll (Ok x) es = only_comments x.0 ++ only_comments (held_of x.1.waiting) ≡ es
TellsAll (Err f) es = Unit {0}

handed_tells : (r : Stepped) (es : List PlainEvent) → Tells r es → TellsAll (r >>= λ q. Ok (
  q.given,
  record q
      { given = [] },
)) es
handed_tells (Ok q) es t = t.says
handed_tells (Err f) es t = tt

feed_tells : (o : OptionsData) (i : FlaggedItem) (next : Option ℕ) (p : ParserState) → TellsAll (feed o i next p)
    (told p ++ item_events i.item next)
unfolding feed
feed_tells o i next p = handed_tells (take_item o i.item i.begins_key next p) _
    (item_tells o i.item i.begins_key next p)

front_tells :
    (front before here more : List PlainEvent) (q : ParserState) (r : FeedGiven) →
    only_comments front ++ only_comments (held_of q.waiting) ≡ before ++ here →
    TellsAll r (only_comments (held_of q.waiting) ++ more) → TellsAll (with_front front r) (before ++ (here ++ more))
front_tells front before here more q (Ok x) e h =
    ap (λ es. es ++ only_comments (held_of x.1.waiting)) (only_append front x.0)
    ∙ append_assoc (only_comments front) (only_comments x.0) (only_comments (held_of x.1.waiting))
    ∙ ap (λ es. only_comments front ++ es) h
    ∙ sym (append_assoc (only_comments front) (only_comments (held_of q.waiting)) more)
    ∙ ap (λ es. es ++ more) e
    ∙ append_assoc before here more
front_tells front before here more q (Err f) e h = tt

then_tells :
    (o : OptionsData) (is : List FlaggedItem) (before here : List PlainEvent) (r : FeedGiven) → TellsAll r
    (before ++ here) →
    CleanFed r →
    ((q : ParserState) → q.given ≡ [] → TellsAll (feed_all o is q) (only_comments
    (held_of q.waiting) ++ comment_events is)) →
    TellsAll (r >>= λ x. with_front x.0 (feed_all o is x.1)) (before ++ (here ++ comment_events is))
then_tells o is before here (Ok x) e c h = front_tells x.0 before here (comment_events is) x.1 (feed_all o is x.1) e
    (h x.1 c)
then_tells o is before here (Err f) e c h = tt

all_tell :
    (o : OptionsData) (is : List FlaggedItem) (p : ParserState) → p.given ≡ [] →
    TellsAll (feed_all o is p) (only_comments (held_of p.waiting) ++ comment_events is)
all_tell o [] p e = sym (append-nil (only_comments (held_of p.waiting)))
all_tell o (i ∷ is) p e =
    then_tells o is (only_comments (held_of p.waiting)) (item_events i.item (next_line is)) (feed o i (next_line is) p)
    (subst (λ es. TellsAll (feed o i (next_line is) p) (es ++ item_events i.item (next_line is)))
    (ap (λ es. only_comments es ++ only_comments (held_of p.waiting)) e) (feed_tells o i (next_line is) p))
    (clean_fed o i (next_line is) p) (λ q c. all_tell o is q c)

pub items_told :
    (o : OptionsData) (is : List FlaggedItem) (p q : ParserState) (es : List PlainEvent) → p.given ≡ [] →
    feed_all o is p ≡ Ok (es, q) →
    only_comments es ++ only_comments (held_of q.waiting) ≡ only_comments (held_of p.waiting) ++ comment_events is
items_told o is p q es e f = subst (λ r. TellsAll r (only_comments (held_of p.waiting) ++ comment_events is)) f
    (all_tell o is p e)
