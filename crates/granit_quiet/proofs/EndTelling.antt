-- Behind the end of a text no comment is held, so all comments of a text are told.
use Rattle.std.proofs.Common.{◌≡◌, ℕ, ◌||◌, ◌&&◌, not, Bool, true, false, List, [], ◌∷◌, ◌++◌, Option, Some, None}
use Rattle.std.proofs.Common.{Result, Ok, Err, refl, sym, ap, ap₂, subst, ◌∙◌}
use Rattle.std.proofs.lemmas.Bool.{or_parts}
use Rattle.std.specs.Prelude.{if◌then◌else◌, is_none}
use Rattle.std.proofs.lemmas.List.{append-nil}
use Rattle.granit_base.specs.Place.{Mark}
use Rattle.granit_error.specs.OptionsData.{OptionsData}
use Rattle.granit_lexemes.specs.Comment.{CommentRead}
use Rattle.granit_lexemes.specs.Here.{Here, mark_of}
use Rattle.granit_lexemes.specs.Lexeme as lexemes
use Rattle.granit_lexemes.specs.Lexeme.{LexemeKind, StreamEnd, Lexeme, Item, OfLexeme, OfComment}
use Rattle.granit_lexemes.specs.Outcome.{Fault, ◌>>=◌}
use Rattle.granit_lexemes.specs.Pieces.{with_front, pieces}
use Rattle.granit_lexemes.specs.PlainEvent as events
use Rattle.granit_lexemes.specs.PlainEvent.{PlainEvent, StreamStart, event_at, event_on}
use Rattle.granit_language.specs.Reached.{Reads, of_comment, of_lexeme, ReadWhole, whole_ends, whole_stops}
use Rattle.granit_language.specs.Reached.{whole_goes_on}
use Rattle.granit_language.specs.Standing.{Given, GivenOne}
use Rattle.granit_machine.proofs.ClosingLemmas.{every_frame_ends, FeedGiven}
use Rattle.granit_machine.proofs.NoneWaits.{flush_none_by}
use Rattle.granit_machine.proofs.SortLemmas.{end_kind_is}
use Rattle.granit_machine.specs.Closing.{goes_on_by_kind, goes_on_with, is_behind_pair, is_behind_question, ends_top}
use Rattle.granit_machine.specs.Closing.{close_turn, depth, close}
use Rattle.granit_machine.specs.FlowSteps.{at_entry, behind_entry_of, in_flow_sequence, in_flow_mapping_by}
use Rattle.granit_machine.specs.FlowSteps.{in_flow_pair}
use Rattle.granit_machine.specs.Frames.{NodeProperties, PairStage, BeforePair, AtKey, BehindKey, AtQuestion}
use Rattle.granit_machine.specs.Frames.{BehindQuestion, AtValue, BehindAlone, BehindPair, Frame, Root, WithProperties}
use Rattle.granit_machine.specs.Frames.{BlockSequence, BlockMapping, FlowSequence, FlowMapping, FlowPair, DocumentStage}
use Rattle.granit_machine.specs.Frames.{Fresh, Directives, Inside, BehindRoot, Between, Waiting, ParserState}
use Rattle.granit_machine.specs.Frames.{parser_start}
use Rattle.granit_machine.specs.Giving.{give}
use Rattle.granit_machine.specs.Laid.{Laid}
use Rattle.granit_machine.specs.LexemeSort.{QuoteSign, LexemeSort, Placed}
use Rattle.granit_machine.specs.Lexing.{FlaggedItem, Flagging, is_nearest, flag_lexeme, flag_item, flagging, flagged}
use Rattle.granit_machine.specs.Lexing.{lex}
use Rattle.granit_machine.specs.Machine.{feed_all, run_answer, run_from, settled}
use Rattle.granit_machine.specs.NodeEnds.{empty_span}
use Rattle.granit_machine.specs.NodeSteps.{Stepped}
use Rattle.granit_machine.specs.Parser.{next_line, take_in, take_token, hold, take_tail, take_lexeme, feed}
use Rattle.granit_machine.specs.Reader.{LexState, is_end_kind, is_end}
use Rattle.granit_machine.specs.ReaderState.{ReaderState, reader_start}
use Rattle.granit_machine.specs.StreamSteps.{behind_directives, when_fresh, when_between, end_document, behind_root}
use Rattle.granit_machine.specs.StreamSteps.{outside}
use Rattle.granit_machine.specs.TokenSort.{TokenSort, OfStream, Token, token_of, token_sort, token_column}
use Rattle.granit_machine.specs.TokenSort.{is_bare_colon, is_dash_token, is_in_column, is_key_token}
use Rattle.granit_machine.specs.TokenSort.{begins_node, begins_pair, ends_entry, ends_frame}
pub use Rattle.granit_reading.proofs.WholeLaw.{lexed_whole}
use Rattle.granit_quiet.specs.CommentEvents.{only_comments, held_of, comment_events}
use Rattle.granit_quiet.specs.Quiet.{asking}
use Rattle.granit_quiet.proofs.CommentLaws.{Lexed, answer_to, run_same}
use Rattle.granit_quiet.proofs.TellStream.{Closed, all_closed, items_told}

-- ---- steps behind which nothing waits

abbrev SettlesBy : Stepped → Type 0
SettlesBy (Ok q) = q.waiting ≡ None
SettlesBy (Err f) = Unit {0}

record Settles (r : Stepped) : Type 0 where
  says : SettlesBy r

settles_ok : (q : ParserState) → q.waiting ≡ None → Settles (Ok q)
settles_ok q e = record { says = e }

settles_err : (f : Fault) → Settles (Err f)
settles_err f = record { says = tt }

settles_else : (b : Bool) (r s : Stepped) → b ≡ false → Settles s → Settles (if b then r else s)
settles_else true r s e h = absurd cc
settles_else false r s e h = h

settles_then : (r : Stepped) (f : ParserState → Stepped) → Settles r → ((q : ParserState) → q.waiting ≡ None → Settles
    (f q)) → Settles (r >>= f)
settles_then (Ok q) f t h = h q t.says
settles_then (Err e) f t h = settles_err e

gives_none : (e : PlainEvent) (p : ParserState) → (give e p).waiting ≡ None
gives_none e p = flush_none_by p.waiting p

-- ---- the end of a text

record IsEndToken (t : Token) : Type 0 where
  kind : t.lexeme.kind ≡ StreamEnd
  sort : t.sort ≡ OfStream

end_between : (t : Token) (p : ParserState) → Settles (when_between StreamEnd t p)
end_between t p = settles_ok _ (gives_none (event_at events.StreamEnd t.lexeme.shown) p)

end_outside : (o : OptionsData) (stage : DocumentStage) (t : Token) (p : ParserState) → t.lexeme.kind ≡ StreamEnd →
    Settles (outside o stage t p)
end_outside o Fresh t p e =
    subst (λ kind. Settles (when_fresh o kind t p)) (sym e) (settles_ok _ (gives_none
    (event_at events.StreamEnd t.lexeme.shown) p))
end_outside o (Directives version) t p e = subst (λ kind. Settles (behind_directives o kind t version p)) (sym e)
    (settles_err _)
end_outside o BehindRoot t p e =
    subst (λ kind. Settles (behind_root kind t p)) (sym e) (end_between t (end_document
    (empty_span p.last_end) Between p))
end_outside o Between t p e = subst (λ kind. Settles (when_between kind t p)) (sym e) (end_between t p)
end_outside o Inside t p e = settles_err _

end_in_sequence : (o : OptionsData) (t : Token) (b : Bool) (p : ParserState) → t.sort ≡ OfStream → Settles
    (in_flow_sequence o t b p)
end_in_sequence o t false p e = subst (λ sort. Settles (at_entry o t sort p)) (sym e) (settles_err _)
end_in_sequence o t true p e = subst (λ sort. Settles (behind_entry_of t sort p)) (sym e) (settles_err _)

stream_in_mapping : (o : OptionsData) (t : Token) (single : Bool) (stage : PairStage) (p : ParserState) → Settles
    (in_flow_mapping_by o t single stage OfStream p)
stream_in_mapping o t single BeforePair p = settles_err _
stream_in_mapping o t single AtKey p = settles_err _
stream_in_mapping o t single BehindKey p = settles_err _
stream_in_mapping o t single AtQuestion p = settles_err _
stream_in_mapping o t single BehindQuestion p = settles_err _
stream_in_mapping o t single AtValue p = settles_err _
stream_in_mapping o t single BehindAlone p = settles_err _
stream_in_mapping o t single BehindPair p = settles_err _

stream_in_pair : (o : OptionsData) (t : Token) (stage : PairStage) (p : ParserState) →
    (is_behind_question stage ≡ true → ⊥) → Settles (in_flow_pair o t stage OfStream p)
stream_in_pair o t BehindQuestion p n = absurd (n refl)
stream_in_pair o t BeforePair p n = settles_err _
stream_in_pair o t AtKey p n = settles_err _
stream_in_pair o t BehindKey p n = settles_err _
stream_in_pair o t AtQuestion p n = settles_err _
stream_in_pair o t AtValue p n = settles_err _
stream_in_pair o t BehindAlone p n = settles_err _
stream_in_pair o t BehindPair p n = settles_err _

asked_false : (b : Bool) → (b && true) ≡ false → b ≡ true → ⊥
asked_false true e f = cc
asked_false false e f = cc

properties_end :
    (right in_flow indentless : Bool) (q : NodeProperties) (sort : TokenSort) (kind : LexemeKind) → sort ≡ OfStream →
    kind ≡ StreamEnd →
    (if is_key_token sort && not in_flow then right else goes_on_by_kind right in_flow indentless q sort kind) ≡ false
properties_end right in_flow indentless q sort kind e f =
    ap₂
    (λ (sort : TokenSort) (kind : LexemeKind).
    if is_key_token sort && not in_flow then right else goes_on_by_kind right in_flow indentless q sort kind)
    e f

ends_properties : (t : Token) (q : NodeProperties) (fs : List Frame) → IsEndToken t → goes_on_with t q fs ≡ false
unfolding goes_on_with
ends_properties t q fs s = properties_end _ t.lexeme.in_flow _ q t.sort t.lexeme.kind s.sort s.kind

pub not_both : (b : Bool) → b ≡ false → not b ≡ false → ⊥
not_both true e f = cc
not_both false e f = cc

end_in : (o : OptionsData) (fs : List Frame) (t : Token) (p : ParserState) → IsEndToken t → ends_top t p fs ≡ false →
    Settles (take_in o fs t p)
end_in o [] t p s e = end_outside o p.stage t p s.kind
end_in o (Root explicit ∷ fs) t p s e = settles_else (begins_node t.sort) _ _ (ap begins_node s.sort) (settles_err _)
end_in o (WithProperties q ∷ fs) t p s e = absurd (not_both (goes_on_with t q fs) (ends_properties t q fs s) e)
end_in o (BlockSequence column indentless ∷ fs) t p s e =
    absurd
    (let a = (or_parts (ends_frame (token_column t) column)
    ((indentless && not (is_dash_token t.sort && is_in_column (token_column t) column))
    && (is_none p.waiting || (is_in_column (token_column t) column && begins_pair t.sort))) e).0 in
    let b = every_frame_ends t column s.sort in cc (a, b))
end_in o (BlockMapping column stage ∷ fs) t p s e = absurd (let b = every_frame_ends t column s.sort in cc (e, b))
end_in o (FlowSequence b ∷ fs) t p s e = end_in_sequence o t b p s.sort
end_in o (FlowMapping single stage ∷ fs) t p s e = subst (λ sort. Settles
    (in_flow_mapping_by o t single stage sort p)) (sym s.sort) (stream_in_mapping o t single stage p)
end_in o (FlowPair stage ∷ fs) t p s e =
    subst (λ sort. Settles (in_flow_pair o t stage sort p)) (sym s.sort)
    (stream_in_pair o t stage p
    (asked_false (is_behind_question stage)
    (subst (λ sort. (is_behind_question stage && not (is_bare_colon sort)) ≡ false) s.sort (or_parts
    (ends_entry t.sort || is_behind_pair stage) (is_behind_question stage && not (is_bare_colon t.sort)) e).1)))

closed_ends :
    (o : OptionsData) (t : Token) (p : ParserState) (r : FeedGiven) → IsEndToken t → Closed t p r →
    Settles ((r >>= λ x. Ok x.1) >>= take_token o t)
closed_ends o t p (Ok x) s c = end_in o x.1.frames t x.1 s c.1
closed_ends o t p (Err f) s c = settles_err f

hold_settles : (c : CommentRead) (e : PlainEvent) (w : Option Waiting) (p : ParserState) → w ≡ None → Settles
    (hold c e w (record p { waiting = w }))
hold_settles c e None p n = settles_ok _ refl
hold_settles c e (Some w) p n = absurd cc

tail_settles : (kind : LexemeKind) (tail : Option CommentRead) (next : Option ℕ) (q : ParserState) →
    q.waiting ≡ None → Settles (take_tail kind tail next q)
tail_settles lexemes.Dash tail next q n = settles_ok q n
tail_settles kind None next q n = settles_ok q n
tail_settles kind (Some c) next q n = hold_settles c _ q.waiting q n

is_end_token : (b : Bool) (l : Lexeme) → l.kind ≡ StreamEnd → IsEndToken (token_of b l)
is_end_token b l e = record { kind = e; sort = ap (token_sort b l.key) e }

end_settles : (o : OptionsData) (b : Bool) (l : Lexeme) (next : Option ℕ) (p : ParserState) → l.kind ≡ StreamEnd →
    Settles (take_lexeme o (token_of b l) next p)
end_settles o b l next p e =
    let t = token_of b l in
    settles_then (close o t p >>= take_token o t) (take_tail l.kind l.tail next)
    (closed_ends o t p (pieces depth (close_turn o t) p) (is_end_token b l e) (all_closed o t p))
    (λ q n. tail_settles l.kind l.tail next q n)

-- ---- items that end with it

abbrev SettlesAll : FeedGiven → Type 0
SettlesAll (Ok x) = x.1.waiting ≡ None
SettlesAll (Err f) = Unit {0}

abbrev IsEndItem : Item → Type 0
IsEndItem (OfLexeme l) = l.kind ≡ StreamEnd
IsEndItem (OfComment c) = ⊥

abbrev EndsText : List FlaggedItem → Type 0
EndsText [] = ⊥
EndsText (i ∷ []) = IsEndItem i.item
EndsText (i ∷ j ∷ is) = EndsText (j ∷ is)

handed_settles : (r : Stepped) → Settles r → SettlesAll (r >>= λ q. Ok (q.given, record q { given = [] }))
handed_settles (Ok q) s = s.says
handed_settles (Err f) s = tt

feed_settles : (o : OptionsData) (x : Item) (b : Bool) (next : Option ℕ) (p : ParserState) → IsEndItem x → SettlesAll
    (feed o (record { item = x; begins_key = b }) next p)
unfolding feed
feed_settles o (OfLexeme l) b next p e = handed_settles (take_lexeme o (token_of b l) next p)
    (end_settles o b l next p e)
feed_settles o (OfComment c) b next p e = absurd e

last_settles : (o : OptionsData) (r : FeedGiven) → SettlesAll r → SettlesAll (r >>= λ x. with_front x.0
    (feed_all o [] x.1))
last_settles o (Ok x) s = s
last_settles o (Err f) s = tt

front_settles : (front : List PlainEvent) (r : FeedGiven) → SettlesAll r → SettlesAll (with_front front r)
front_settles front (Ok x) s = s
front_settles front (Err f) s = tt

then_settles : (o : OptionsData) (is : List FlaggedItem) (r : FeedGiven) → ((q : ParserState) → SettlesAll
    (feed_all o is q)) → SettlesAll (r >>= λ x. with_front x.0 (feed_all o is x.1))
then_settles o is (Ok x) h = front_settles x.0 (feed_all o is x.1) (h x.1)
then_settles o is (Err f) h = tt

all_settles : (o : OptionsData) (is : List FlaggedItem) (p : ParserState) → EndsText is → SettlesAll (feed_all o is p)
all_settles o [] p e = absurd e
all_settles o (i ∷ []) p e = last_settles o (feed o i (next_line []) p) (feed_settles o i.item i.begins_key
    (next_line []) p e)
all_settles o (i ∷ j ∷ is) p e = then_settles o (j ∷ is) (feed o i (next_line (j ∷ is)) p) (λ q. all_settles o
    (j ∷ is) q e)

-- ---- the items of a whole text

ends_behind : (i : FlaggedItem) (is : List FlaggedItem) → EndsText is → EndsText (i ∷ is)
ends_behind i [] e = absurd e
ends_behind i (j ∷ is) e = e

lexeme_behind : (v : Bool) (l : Lexeme) (y : Flagging) → EndsText y.0 → EndsText (flag_lexeme v l y).0
lexeme_behind true l y e = ends_behind (record { item = OfLexeme l; begins_key = true }) y.0 e
lexeme_behind false l y e = ends_behind (record { item = OfLexeme l; begins_key = false }) y.0 e

item_behind : (x : Item) (y : Flagging) → EndsText y.0 → EndsText (flag_item x y).0
item_behind (OfComment c) y e = ends_behind (record { item = OfComment c; begins_key = false }) y.0 e
item_behind (OfLexeme l) y e = lexeme_behind (is_nearest l.number y.1) l y e

items_behind : (xs more : List Item) → EndsText (flagged more) → EndsText (flagged (xs ++ more))
items_behind [] more e = e
items_behind (x ∷ xs) more e = item_behind x (flagging (xs ++ more)) (items_behind xs more e)

abbrev IsLast : List Item → Type 0
IsLast items = EndsText (flagged items)

given_one : (o : OptionsData) (ends : Bool) (sort : LexemeSort) (h : Here) (l : Laid) (items : List Item)
    (after : ReaderState) → GivenOne o ends sort h l items after → is_end items ≡ true → IsLast items
given_one o ends sort h l (OfLexeme x ∷ []) after p e = end_kind_is x.kind e
given_one o ends sort h l items after p e = absurd p

quoted_goes_on : (items more : List Item) (x : Lexeme) → items ≡ OfLexeme x ∷ more → is_end_kind x.kind ≡ false →
    is_end items ≡ true → ⊥
quoted_goes_on items more x same k e = let a = subst (λ (items : List Item). is_end items ≡ true) same e in cc (a, k)

given_last : (o : OptionsData) (ends : Bool) (sort : LexemeSort) (h : Here) (l : Laid) (items : List Item)
    (after : ReaderState) → Given o ends sort h l items after → is_end items ≡ true → IsLast items
given_last o ends (Placed (QuoteSign single)) h l items after p e = absurd (quoted_goes_on items _ _ p.gives refl e)
given_last o ends sort h l items after p e = given_one o ends sort h l items after p e

read_last : {o : OptionsData} {s next : ReaderState} {items : List Item} → Reads o s items next →
    is_end items ≡ true → IsLast items
read_last (of_comment at g k) e = absurd cc
read_last {o = o} {items = items} (of_lexeme at behind sort comes given keys) e =
    given_last o _ sort _ _ items behind given.1 e

whole_last : {o : OptionsData} {s t : ReaderState} {items : List Item} → (ended : Bool) → ended ≡ true →
    ReadWhole o s items ended t → IsLast items
whole_last ended v (whole_ends r e) = read_last r e
whole_last ended v (whole_stops n) = absurd cc
whole_last ended v (whole_goes_on next items more r e w is) =
    subst IsLast (sym is) (items_behind items more (whole_last ended v w))

-- ---- a whole run

record ToldWhole (o : OptionsData) (h : Here) (es : List PlainEvent) : Type 0 where
  pub items : List Item
  pub state : ReaderState
  pub whole : ReadWhole o (reader_start h) items true state
  pub told_are : only_comments es ≡ comment_events (flagged items)

nothing_held : (w : Option Waiting) (xs ys : List PlainEvent) → w ≡ None → xs ++ only_comments (held_of w) ≡ ys →
    xs ≡ ys
nothing_held None xs ys e h = sym (append-nil xs) ∙ h
nothing_held (Some w) xs ys e h = absurd cc

fed_told :
    (o : OptionsData) (m : Mark) (items : List Item) (es : List PlainEvent) → IsLast items → (r : FeedGiven) →
    feed_all o (flagged items) (parser_start m) ≡ r → ◌≡◌ {A = Result (List PlainEvent) Fault} (r >>= λ x. Ok
    (event_on StreamStart m ∷ x.0)) (Ok es) →
    only_comments es ≡ comment_events (flagged items)
fed_told o m items es last (Ok (gs, q)) e r =
    let same : event_on StreamStart m ∷ gs ≡ es = cc in
    ap only_comments (sym same)
    ∙ nothing_held q.waiting (only_comments gs) (comment_events (flagged items))
    (subst SettlesAll e (all_settles o (flagged items) (parser_start m) last))
    (items_told o (flagged items) (parser_start m) q gs refl e)
fed_told o m items es last (Err f) e r = absurd cc

never_told : (r : FeedGiven) (f : Fault) (es : List PlainEvent) → ◌≡◌ {A = Result (List PlainEvent) Fault} (r >>=
    λ y. Err f) (Ok es) → ⊥
never_told (Ok y) f es e = cc
never_told (Err g) f es e = cc

fault_told :
    (o : OptionsData) (h : Here) (items : List Item) (t : LexState) (es : List PlainEvent) → lex o h ≡ Ok (items, t) →
    (fault : Option Fault) → t.fault ≡ fault → run_answer o (mark_of h) (flagged items) t.reader.laid fault ≡ Ok es →
    ToldWhole o h es
fault_told o h items t es e None f r =
    let whole = subst (λ fault. ReadWhole o (reader_start h) items (is_none fault) t.reader) f
    (lexed_whole o h items t e).whole in
    record {
      items = items;
      state = t.reader;
      whole = whole;
      told_are =
          fed_told o (mark_of h) items es (whole_last true refl whole) (feed_all o (flagged items) (parser_start
          (mark_of h)))
          refl r;
    }
fault_told o h items t es e (Some g) f r =
    absurd (never_told (feed_all o (settled t.reader.laid (flagged items)) (parser_start (mark_of h))) g es r)

lexed_told :
    (o : OptionsData) (h : Here) (es : List PlainEvent) (r : Result Lexed Fault) → lex o h ≡ r →
    ◌≡◌ {A = Result (List PlainEvent) Fault} (r >>= answer_to o true (mark_of h)) (Ok es) → ToldWhole o h es
lexed_told o h es (Ok (items, t)) e r = fault_told o h items t es e t.fault refl r
lexed_told o h es (Err f) e r = absurd cc

pub run_told :
    (o : OptionsData) (h : Here) (es : List PlainEvent) → run_from (asking true o) h ≡ Ok es →
    (items : List Item) × (s : ReaderState) × ReadWhole o (reader_start h) items true s
    × (only_comments es ≡ comment_events (flagged items))
run_told o h es r =
    let t = lexed_told o h es (lex o h) refl (sym (run_same true o h) ∙ r) in (t.items, t.state, t.whole, t.told_are)

-- behind all items of a text nothing waits
pub none_waits_behind :
    (o : OptionsData) (m : Mark) (s t : ReaderState) (items : List Item) (es : List PlainEvent) (q : ParserState) →
    ReadWhole o s items true t → feed_all o (flagged items) (parser_start m) ≡ Ok (es, q) → q.waiting ≡ None
none_waits_behind o m s t items es q w e =
    subst SettlesAll e (all_settles o (flagged items) (parser_start m) (whole_last true refl w))
