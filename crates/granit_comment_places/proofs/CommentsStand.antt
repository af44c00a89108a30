-- Where each comment's event stands among the others.
pub use Rattle.granit_comment_room.proofs.RowsFirst.{Alike, fed_alike, first_refused, none_given, row_refuses}
use Rattle.std.proofs.Common.{◌≡◌, ℕ, ◌-◌, ◌==◌, Bool, true, false, not, List, [], ◌∷◌, ◌++◌, Option, Some, None}
use Rattle.std.proofs.Common.{Result, Ok, Err, ◌⊎◌, inl, inr, refl, sym, ap, subst, ◌∙◌, append_assoc}
use Rattle.std.specs.Prelude.{if◌then◌else◌}
use Rattle.std.proofs.Math.Bool.{cond}
use Rattle.std.proofs.lemmas.List.{append-nil}
use Rattle.granit_error.specs.FaultKind.{TooManyComments}
use Rattle.granit_error.specs.OptionsData.{OptionsData}
use Rattle.granit_base.specs.declared.style.Placement.TheVariants.{Right}
use Rattle.granit_lexemes.specs.Comment.{CommentRead}
use Rattle.granit_lexemes.specs.Lexeme as lexemes
use Rattle.granit_lexemes.specs.Lexeme.{LexemeKind, Lexeme, Item, OfLexeme, OfComment}
use Rattle.granit_lexemes.specs.Outcome.{Fault, fault_at, ◌>>=◌}
use Rattle.granit_lexemes.specs.Pieces.{with_front}
use Rattle.granit_lexemes.specs.PlainEvent as events
use Rattle.granit_lexemes.specs.PlainEvent.{PlainEvent, EventKind, is_note}
use Rattle.granit_machine.proofs.ClosingLemmas.{FeedGiven}
use Rattle.granit_machine.specs.Closing.{close}
use Rattle.granit_machine.specs.Frames.{Frame, Waiting, ParserState}
use Rattle.granit_machine.specs.Giving.{null_at}
use Rattle.granit_machine.specs.Lexing.{FlaggedItem}
use Rattle.granit_machine.specs.Machine.{untailed, asked_items, feed_all}
use Rattle.granit_machine.specs.NodeSteps.{Stepped}
use Rattle.granit_machine.specs.Parser.{next_line, take_token, placed, hold, take_tail, feed}
use Rattle.granit_machine.specs.TokenSort.{token_of}
use Rattle.granit_comment_room.specs.RefusedRows.{comment_event, comment_events, held_of, only_comments}
use Rattle.granit_comment_places.specs.CommentPlaces.{IsAnchor, AreAnchors, StartsSequence, StandsBehind, directly}
use Rattle.granit_comment_places.specs.CommentPlaces.{behind_empty, before_start, StandsAmong, tail_event}
use Rattle.granit_comment_room.specs.RefusedRows.{but_comments, quiet, waits_alone}
use Rattle.granit_comment_room.proofs.RowsFirst.{FedBy, CommentFed, lexeme_fed, comment_fed}
use Rattle.granit_comment_room.proofs.RowRuns.{then_feed, handed}
use Rattle.granit_comment_places.proofs.GrowSteps.{full, MayBegin, EndsWith, Base, Grown, GrowsBy, dash_tail}
use Rattle.granit_comment_places.proofs.GrowStream.{token_grows}
use Rattle.granit_comment_room.proofs.RowsFirst.{but_append}
use Rattle.granit_comment_room.proofs.RowRuns.{untold_last}
use Rattle.granit_comment_room.proofs.RowRuns.{Calm, room_by, FreshBy, LeavesBy}
use Rattle.granit_comment_room.proofs.RowsFirst.{CalmBy}
use Rattle.granit_comment_room.proofs.RowRuns.{token_leaves}
use Rattle.granit_comment_room.proofs.RowsFirst.{items_told}
use Rattle.granit_comment_room.proofs.RowsFirst.{only_append}
use Rattle.granit_comment_room.proofs.RowRuns.{of_lexeme, asked_append}
use Rattle.granit_comment_room.proofs.RowsFirst.{calm_by}

-- ---- one item in front of others

abbrev of_comment : CommentRead → Bool → FlaggedItem
of_comment c b = record { item = OfComment c; begins_key = b }

record Fed (o : OptionsData) (others : List FlaggedItem) (r : FeedGiven) (es : List PlainEvent)
    (q : ParserState) : Type 0 where
  given : List PlainEvent
  state : ParserState
  first_is : r ≡ Ok (given, state)
  more : List PlainEvent
  rest_is : feed_all o others state ≡ Ok (more, q)
  is : es ≡ given ++ more

front_ok : (front : List PlainEvent) (r : FeedGiven) (es : List PlainEvent) (q : ParserState) →
    with_front front r ≡ Ok (es, q) →
    (more : List PlainEvent) × (r ≡ Ok (more, q)) × (es ≡ front ++ more)
front_ok front (Ok (more, t)) es q e =
    let both : ◌≡◌ {A = List PlainEvent × ParserState} (front ++ more, t) (es, q) = cc (e) in
    let same : t ≡ q = ap (λ (x : List PlainEvent × ParserState). x.1) both in (
      more,
      ap (λ (q : ParserState). let r : FeedGiven = Ok (more, q) in r) same,
      sym (ap (λ (x : List PlainEvent
          × ParserState). x.0) both),
    )
front_ok front (Err f) es q e = absurd cc

fed_ok : (o : OptionsData) (is : List FlaggedItem) (r : FeedGiven) (es : List PlainEvent) (q : ParserState) →
    then_feed o is r ≡ Ok (es, q) → Fed o is r es q
fed_ok o is (Ok (given, state)) es q e =
    let y = front_ok given (feed_all o is state) es q e in
    record { given = given; state = state; first_is = refl; more = y.0; rest_is = y.1; is = y.2 }
fed_ok o is (Err f) es q e = absurd cc

-- ---- a comment

-- what a comment does: its event is given at once, or held behind those that are
data Holds (e : PlainEvent) (p : ParserState) (given : List PlainEvent) (q : ParserState) : Type 0 where
  at_once : p.waiting ≡ None → given ≡ p.given ++ e ∷ [] → q.waiting ≡ None → q.frames ≡ p.frames → q.given ≡ [] →
      Holds e p given q
  is_held : (w v : Waiting) → p.waiting ≡ Some w → given ≡ p.given → q.waiting ≡ Some v → v.at ≡ w.at →
      v.held ≡ w.held ++ e ∷ [] → q.frames ≡ p.frames → q.given ≡ [] → Holds e p given q

handed_same : (p : ParserState) (given : List PlainEvent) (q : ParserState) → handed (Ok p) ≡ Ok (given, q) →
    (given ≡ p.given) × (q ≡ record p { given = [] })
handed_same p given q e =
    let both : ◌≡◌ {A = List PlainEvent × ParserState} (p.given, record p { given = [] }) (given, q) = cc (e) in (
      sym (ap (λ (x : List PlainEvent × ParserState). x.0) both),
      sym (ap (λ (x : List PlainEvent
          × ParserState). x.1) both),
    )

holds_by :
    (c : CommentRead) (e : PlainEvent) (w : Option Waiting) (p : ParserState) (given : List PlainEvent)
    (q : ParserState) →
    p.waiting ≡ w → handed (hold c e w p) ≡ Ok (given, q) → Holds e p given q
holds_by c e None p given q n h =
    let y = handed_same (record p { given = p.given ++ e ∷ [] }) given q h in
    at_once n y.0 (ap (λ (q : ParserState). q.waiting) y.1 ∙ n) (ap (λ (q : ParserState). q.frames) y.1)
    (ap (λ (q : ParserState). q.given) y.1)
holds_by c e (Some w) p given q n h = on (w.room == 0) h
  where
    v : Waiting
    v = record w { room = w.room - 1; held = w.held ++ e ∷ [] }

    on : (b : Bool) →
        handed (if b then Err (fault_at TooManyComments c.source.start) else Ok (record p { waiting = Some v })) ≡ Ok
        (given, q) →
        Holds e p given q
    on true h = absurd cc
    on false h =
        let y = handed_same (record p { waiting = Some v }) given q h in
        is_held w v n y.0 (ap (λ (q : ParserState). q.waiting) y.1) refl refl (ap (λ (q : ParserState). q.frames) y.1)
        (ap (λ (q : ParserState). q.given) y.1)

comment_holds :
    (o : OptionsData) (c : CommentRead) (b : Bool) (next : Option ℕ) (p : ParserState) (given : List PlainEvent)
    (q : ParserState) → feed o (of_comment c b) next p ≡ Ok (given, q) →
    Holds (comment_event c (placed c next)) p given q
unfolding feed
comment_holds o c b next p given q h = holds_by c (comment_event c (placed c next)) p.waiting p given q refl h

-- ---- a lexeme

-- what a lexeme does: behind what it gives its tail stands or is held, but for that of a `-`
data TailHolds (l : Lexeme) (next : Option ℕ) (p : ParserState) (given : List PlainEvent)
    (q : ParserState) : Type 0 where
  no_tail : dash_tail l.kind l.tail ≡ l.tail → given ≡ p.given → q ≡ record p { given = [] } →
      TailHolds l next p given q
  some_tail : (c : CommentRead) → l.tail ≡ Some c → dash_tail l.kind l.tail ≡ None →
      tail_event l.kind c next ≡ comment_event c (placed c next) →
      Holds (comment_event c (placed c next)) p given q → TailHolds l next p given q

record Steps (o : OptionsData) (b : Bool) (l : Lexeme) (next : Option ℕ) (p : ParserState) (given : List PlainEvent)
    (q : ParserState) : Type 0 where
  behind : ParserState
  grown : Grown (dash_tail l.kind l.tail) p behind
  fresh : FreshBy (room_by o l.kind l.tail) behind.frames behind.waiting
  tail : TailHolds l next behind given q

tail_by : (l : Lexeme) (kind : LexemeKind) (tail : Option CommentRead) (next : Option ℕ) (p : ParserState)
    (given : List PlainEvent) (q : ParserState) → l.kind ≡ kind → l.tail ≡ tail →
    handed (take_tail kind tail next p) ≡ Ok (given, q) → TailHolds l next p given q
tail_by l lexemes.Dash tail next p given q k t h =
    let y = handed_same p given q h in no_tail (ap (λ kind. dash_tail kind l.tail) k) y.0 y.1
tail_by l kind None next p given q k t h =
    let y = handed_same p given q h in
    no_tail (ap (λ kind. dash_tail kind l.tail) k ∙ sym t) y.0 y.1
tail_by l kind (Some c) next p given q k t h =
    some_tail c t (ap (λ kind. dash_tail kind l.tail) k) (ap (λ kind. tail_event kind c next) k)
    (holds_by c (comment_event c (placed c next)) p.waiting p given q refl h)

steps_by : (o : OptionsData) (b : Bool) (l : Lexeme) (next : Option ℕ) (p : ParserState) (given : List PlainEvent)
    (q : ParserState) (r : Stepped) → GrowsBy (dash_tail l.kind l.tail) p r → LeavesBy (room_by o l.kind l.tail) r →
    handed (r >>= take_tail l.kind l.tail next) ≡ Ok (given, q) → Steps o b l next p given q
steps_by o b l next p given q (Ok t) g f h =
    record { behind = t; grown = g; fresh = f; tail = tail_by l l.kind l.tail next t given q refl refl h }
steps_by o b l next p given q (Err e) g f h = absurd cc

lexeme_steps : (o : OptionsData) (b : Bool) (l : Lexeme) (next : Option ℕ) (p : ParserState) (given : List PlainEvent)
    (q : ParserState) → Calm p → feed o (of_lexeme l b) next p ≡ Ok (given, q) → Steps o b l next p given q
unfolding feed
lexeme_steps o b l next p given q c h =
    let t = token_of b l in
    let g = token_grows o b l p in
    let f = token_leaves o b l p c in
    steps_by o b l next p given q (close o t p >>= take_token o t) g.says f.says h

-- ---- what holds behind each item

-- nothing is given that isn't told, and only comments are held, where a node waits
record Settled (p : ParserState) : Type 0 where
  clean : p.given ≡ []
  calm : Calm p
  silent : but_comments (held_of p.waiting) ≡ []

none_held : (room : Result ℕ Fault) (fs : List Frame) (w : Option Waiting) → FreshBy room fs w → held_of w ≡ []
none_held room fs None h = refl
none_held room fs (Some w) h = h.2

moved : (p q : ParserState) (w : Option Waiting) → q.waiting ≡ w → q.frames ≡ p.frames → CalmBy p.frames w → Calm q
moved p q w n f c = subst (λ w. CalmBy q.frames w) (sym n) (subst (λ fs. CalmBy fs w) (sym f) c)

held_settled : (e : PlainEvent) (p : ParserState) (given : List PlainEvent) (q : ParserState) →
    is_note e.kind ≡ true →
    Calm p → but_comments (held_of p.waiting) ≡ [] → Holds e p given q → Settled q
held_settled e p given q k c s (at_once n g m f d) =
    record { clean = d; calm = moved p q None m f tt; silent = ap (λ w. but_comments (held_of w)) m }
held_settled e p given q k c s (is_held w v n g m a h f d) =
    record {
      clean = d;
      calm = moved p q (Some v) m f (subst (CalmBy p.frames) n c);
      silent =
          ap (λ w. but_comments (held_of w)) m
          ∙ ap but_comments h
          ∙ untold_last w.held e k
          ∙ sym (ap (λ w. but_comments (held_of w)) n)
          ∙ s;
    }

lexeme_settled : (o : OptionsData) (b : Bool) (l : Lexeme) (next : Option ℕ) (p : ParserState) (given : List PlainEvent)
    (q : ParserState) → Steps o b l next p given q → Settled q
lexeme_settled o b l next p given q s = on s.tail
  where
    calm : Calm s.behind
    calm = calm_by (room_by o l.kind l.tail) s.behind.frames s.behind.waiting s.fresh

    held : held_of s.behind.waiting ≡ []
    held = none_held (room_by o l.kind l.tail) s.behind.frames s.behind.waiting s.fresh

    on : TailHolds l next s.behind given q → Settled q
    on (no_tail d g e) =
        record {
          clean = ap (λ (q : ParserState). q.given) e;
          calm = subst Calm (sym e) calm;
          silent = ap (λ (q : ParserState). but_comments (held_of q.waiting)) e ∙ ap but_comments held;
        }
    on (some_tail c t d k h) =
        held_settled (comment_event c (placed c next)) s.behind given q refl calm (ap but_comments held) h

-- ---- the items in front

record Split (o : OptionsData) (p : ParserState) (front rest : List FlaggedItem) (es : List PlainEvent)
    (q : ParserState) :
    Type 0 where
  first : List PlainEvent
  state : ParserState
  second : List PlainEvent
  is : es ≡ first ++ second
  left : feed_all o rest state ≡ Ok (second, q)
  settled : Settled state
  fed : feed_all o (asked_items false front) (quiet o p) ≡ Ok (but_comments first, quiet o state)

ok_pair : (xs ys : List PlainEvent) (p q : ParserState) → xs ≡ ys → p ≡ q →
    ◌≡◌ {A = FeedGiven} (Ok (xs, p)) (Ok (ys, q))
ok_pair xs ys p q e f =
    ap (λ xs. let r : FeedGiven = Ok (xs, p) in r) e ∙ ap (λ (p : ParserState). let r : FeedGiven = Ok (ys, p) in r) f

split_comment : (o : OptionsData) (c : CommentRead) (b : Bool) (front rest : List FlaggedItem) (p : ParserState)
    (es : List PlainEvent) (q : ParserState) → Settled p →
    (y : Fed o (front ++ rest) (feed o (of_comment c b) (next_line (front ++ rest)) p) es q) →
    (Settled y.state → Split o y.state front rest y.more q) → Split o p (of_comment c b ∷ front) rest es q
split_comment o c b front rest p es q s y more =
    let next = next_line (front ++ rest) in
    let h = comment_holds o c b next p y.given y.state y.first_is in
    let settled = held_settled (comment_event c (placed c next)) p y.given y.state refl s.calm s.silent h in
    let z = more settled in
    let fed = subst (CommentFed o p) y.first_is (comment_fed o c b next p s.clean) in
    record {
      first = y.given ++ z.first;
      state = z.state;
      second = z.second;
      is = y.is ∙ ap (λ xs. y.given ++ xs) z.is ∙ sym (append_assoc y.given z.first z.second);
      left = z.left;
      settled = z.settled;
      fed =
          ap (feed_all o (asked_items false front)) (sym fed.1)
          ∙ z.fed
          ∙ ok_pair (but_comments z.first) (but_comments (y.given ++ z.first)) (quiet o z.state) (quiet o z.state)
          (sym (but_append y.given z.first ∙ ap (λ xs. xs ++ but_comments z.first) fed.0)) refl;
    }

split_lexeme : (o : OptionsData) (l : Lexeme) (b : Bool) (front rest : List FlaggedItem) (p : ParserState)
    (es : List PlainEvent) (q : ParserState) → Settled p →
    (y : Fed o (front ++ rest) (feed o (of_lexeme l b) (next_line (front ++ rest)) p) es q) →
    (Settled y.state → Split o y.state front rest y.more q) → Split o p (of_lexeme l b ∷ front) rest es q
split_lexeme o l b front rest p es q s y more =
    let next = next_line (front ++ rest) in
    let h = lexeme_steps o b l next p y.given y.state s.calm y.first_is in
    let z = more (lexeme_settled o b l next p y.given y.state h) in
    let line = next_line (asked_items false front) in
    let fed =
    subst (λ r. FedBy o r (feed o (untailed (of_lexeme l b)) line (quiet o p))) y.first_is
    (lexeme_fed o l b next line p) in
    record {
      first = y.given ++ z.first;
      state = z.state;
      second = z.second;
      is = y.is ∙ ap (λ xs. y.given ++ xs) z.is ∙ sym (append_assoc y.given z.first z.second);
      left = z.left;
      settled = z.settled;
      fed =
          ap (then_feed o (asked_items false front)) fed
          ∙ ap (with_front (but_comments y.given)) z.fed
          ∙ ok_pair (but_comments y.given ++ but_comments z.first) (but_comments (y.given ++ z.first)) (quiet o z.state)
          (quiet o z.state) (sym (but_append y.given z.first)) refl;
    }

-- from every state on
abbrev AllSplit : OptionsData → List FlaggedItem → List FlaggedItem → ParserState → Type 0
AllSplit o front rest q =
    (t : ParserState) (ds : List PlainEvent) → Settled t → feed_all o (front ++ rest) t ≡ Ok (ds, q) →
    Split o t front rest ds q

split_item : (o : OptionsData) (x : Item) (b : Bool) (front rest : List FlaggedItem) (p : ParserState)
    (es : List PlainEvent) (q : ParserState) → Settled p →
    feed_all o (record { item = x; begins_key = b } ∷ (front ++ rest)) p ≡ Ok (es, q) →
    AllSplit o front rest q → Split o p (record { item = x; begins_key = b } ∷ front) rest es q
split_item o (OfComment c) b front rest p es q s e more =
    let y = fed_ok o (front ++ rest) (feed o (of_comment c b) (next_line (front ++ rest)) p) es q e in
    split_comment o c b front rest p es q s y (λ t. more y.state y.more t y.rest_is)
split_item o (OfLexeme l) b front rest p es q s e more =
    let y = fed_ok o (front ++ rest) (feed o (of_lexeme l b) (next_line (front ++ rest)) p) es q e in
    split_lexeme o l b front rest p es q s y (λ t. more y.state y.more t y.rest_is)

split : (o : OptionsData) (front rest : List FlaggedItem) (p : ParserState) (es : List PlainEvent) (q : ParserState) →
    Settled p → feed_all o (front ++ rest) p ≡ Ok (es, q) → Split o p front rest es q
split o [] rest p es q s e =
    record { first = []; state = p; second = es; is = refl; left = e; settled = s; fed = refl }
split o (i ∷ front) rest p es q s e =
    split_item o i.item i.begins_key front rest p es q s e (λ t ds h k. split o front rest t ds q h k)

-- ---- what is held comes first, or behind the empty node that waits

abbrev Out : Waiting → List PlainEvent → Type 0
Out w es = (xs : List PlainEvent) × ((es ≡ w.held ++ xs) ⊎ (es ≡ null_at w.at ∷ (w.held ++ xs)))

none_waits : (w : Waiting) → ◌≡◌ {A = Option Waiting} (Some w) None → ⊥
none_waits w e = cc (e)

out_more : (w : Waiting) (given more es : List PlainEvent) → es ≡ given ++ more → Out w given → Out w es
out_more w given more es e (xs, inl h) =
    (xs ++ more, inl (e ∙ ap (λ ys. ys ++ more) h ∙ append_assoc w.held xs more))
out_more w given more es e (xs, inr h) =
    (xs ++ more, inr (e ∙ ap (λ ys. ys ++ more) h ∙ ap (λ ys. null_at w.at ∷ ys) (append_assoc w.held xs more)))

full_given : (p : ParserState) → held_of p.waiting ≡ [] → full p ≡ p.given
full_given p e = ap (λ xs. p.given ++ xs) e ∙ append-nil p.given

base_out : (w : Waiting) (front added given : List PlainEvent) → Base [] (Some w) front → given ≡ front ++ added →
    Out w given
base_out w front added given (inl e) h = (added, inl (h ∙ ap (λ xs. xs ++ added) e))
base_out w front added given (inr e) h = (added, inr (h ∙ ap (λ xs. xs ++ added) e))

given_out : (w : Waiting) (tail : Option CommentRead) (p q : ParserState) → p.waiting ≡ Some w → p.given ≡ [] →
    held_of q.waiting ≡ [] → Grown tail p q → Out w q.given
given_out w tail p q n c h g =
    base_out w g.front g.added q.given
    (subst (λ v. Base [] v g.front) n (subst (λ given. Base given p.waiting g.front) c g.begins))
    (sym (full_given q h) ∙ g.full_is)

tail_out : (w : Waiting) (l : Lexeme) (next : Option ℕ) (p : ParserState) (given : List PlainEvent) (q : ParserState) →
    TailHolds l next p given q → Out w p.given → Out w given
tail_out w l next p given q (no_tail d g e) x = subst (Out w) (sym g) x
tail_out w l next p given q (some_tail c t d k (at_once n g m f e)) x = out_more w p.given (_ ∷ []) given g x
tail_out w l next p given q (some_tail c t d k (is_held u v n g m a h f e)) x = subst (Out w) (sym g) x

lexeme_out : (o : OptionsData) (b : Bool) (l : Lexeme) (next : Option ℕ) (w : Waiting) (p : ParserState)
    (given : List PlainEvent) (q : ParserState) → p.waiting ≡ Some w → Settled p →
    feed o (of_lexeme l b) next p ≡ Ok (given, q) → Out w given
lexeme_out o b l next w p given q n s h =
    let x = lexeme_steps o b l next p given q s.calm h in
    tail_out w l next x.behind given q x.tail
    (given_out w (dash_tail l.kind l.tail) p x.behind n s.clean
    (none_held (room_by o l.kind l.tail) x.behind.frames x.behind.waiting x.fresh) x.grown)

out_last : (w v : Waiting) (e : PlainEvent) (es : List PlainEvent) → v.at ≡ w.at → v.held ≡ w.held ++ e ∷ [] →
    Out v es →
    Out w es
out_last w v e es a h (xs, inl k) =
    (e ∷ xs, inl (k ∙ ap (λ ys. ys ++ xs) h ∙ append_assoc w.held (e ∷ []) xs))
out_last w v e es a h (xs, inr k) = (
  e ∷ xs,
  inr (k ∙ ap (λ at. null_at at ∷ (v.held ++ xs)) a
      ∙ ap (λ ys. null_at w.at ∷ (ys ++ xs)) h
      ∙ ap (λ ys. null_at w.at ∷ ys) (append_assoc w.held (e ∷ []) xs)),
)

same_waiting : (p : ParserState) (w v : Waiting) → p.waiting ≡ Some w → p.waiting ≡ Some v → w ≡ v
same_waiting p w v e f = cc (e, f)

-- whatever waits, in every state
abbrev AllOut : OptionsData → List FlaggedItem → ParserState → Type 0
AllOut o is q =
    (v : Waiting) (t : ParserState) (ds : List PlainEvent) → t.waiting ≡ Some v → Settled t →
    feed_all o is t ≡ Ok (ds, q) → Out v ds

item_out : (o : OptionsData) (x : Item) (b : Bool) (is : List FlaggedItem) (w : Waiting) (p : ParserState)
    (es : List PlainEvent) (q : ParserState) → p.waiting ≡ Some w → Settled p →
    feed_all o (record { item = x; begins_key = b } ∷ is) p ≡ Ok (es, q) → AllOut o is q → Out w es
item_out o (OfLexeme l) b is w p es q n s e more =
    let y = fed_ok o is (feed o (of_lexeme l b) (next_line is) p) es q e in
    out_more w y.given y.more es y.is (lexeme_out o b l (next_line is) w p y.given y.state n s y.first_is)
item_out o (OfComment c) b is w p es q n s e more =
    let y = fed_ok o is (feed o (of_comment c b) (next_line is) p) es q e in
    let h = comment_holds o c b (next_line is) p y.given y.state y.first_is in
    let settled = held_settled (comment_event c (placed c (next_line is))) p y.given y.state refl s.calm s.silent h in
    by y.given y.state y.more h settled y.is y.rest_is
  where
    by : (given : List PlainEvent) (t : ParserState) (rest : List PlainEvent) →
        Holds (comment_event c (placed c (next_line is))) p given t → Settled t → es ≡ given ++ rest →
        feed_all o is t ≡ Ok (rest, q) → Out w es
    by given t rest (at_once none g k f d) settled e h = absurd (none_waits w (sym n ∙ none))
    by given t rest (is_held u v some g k a held f d) settled e h =
        let same = same_waiting p u w some n in
        out_last w v (comment_event c (placed c (next_line is))) es
        (a ∙ ap (λ (w : Waiting). w.at) same)
        (held ∙ ap (λ (w : Waiting). w.held ++ comment_event c (placed c (next_line is)) ∷ []) same)
        (subst (Out v) (sym (e ∙ ap (λ xs. xs ++ rest) (g ∙ s.clean))) (more v t rest k settled h))

held_out : (o : OptionsData) (is : List FlaggedItem) (w : Waiting) (p : ParserState) (es : List PlainEvent)
    (q : ParserState) → p.waiting ≡ Some w → Settled p → q.waiting ≡ None → feed_all o is p ≡ Ok (es, q) → Out w es
held_out o [] w p es q n s m e =
    let both : ◌≡◌ {A = List PlainEvent × ParserState} ([], p) (es, q) = cc (e) in
    absurd (none_waits w (sym n ∙ ap (λ (x : List PlainEvent × ParserState). x.1.waiting) both ∙ m))
held_out o (i ∷ is) w p es q n s m e =
    item_out o i.item i.begins_key is w p es q n s e (λ v t ds k h f. held_out o is v t ds q k h m f)

-- ---- a comment that stands alone

silent_front : (xs ys : List PlainEvent) → but_comments ys ≡ [] → but_comments (xs ++ ys) ≡ but_comments xs
silent_front xs ys e = but_append xs ys ∙ ap (λ ys. but_comments xs ++ ys) e ∙ append-nil (but_comments xs)

null_front : (xs ys : List PlainEvent) (w : Waiting) → but_comments ys ≡ [] →
    but_comments (xs ++ (null_at w.at ∷ ys)) ≡ but_comments xs ++ (null_at w.at ∷ [])
null_front xs ys w e =
    but_append xs (null_at w.at ∷ ys) ∙ ap (λ ys. but_comments xs ++ (null_at w.at ∷ ys)) e

quiet_waits : (o : OptionsData) (p : ParserState) (w : Waiting) → p.waiting ≡ Some w →
    (quiet o p).waiting ≡ Some (record { at = w.at; room = o.max_buffered_comment_events; held = but_comments w.held })
quiet_waits o p w n = ap (waits_alone o.max_buffered_comment_events) n

cancel : (xs ys zs : List PlainEvent) → xs ++ ys ≡ xs ++ zs → ys ≡ zs
cancel [] ys zs e = e
cancel (x ∷ xs) ys zs e = let rest : xs ++ ys ≡ xs ++ zs = cc (e) in cancel xs ys zs rest

-- the comments of what items give from a state on
told_on : (o : OptionsData) (is : List FlaggedItem) (p : ParserState) (es : List PlainEvent) (q : ParserState) →
    p.given ≡ [] → q.waiting ≡ None → feed_all o is p ≡ Ok (es, q) →
    only_comments es ≡ only_comments (held_of p.waiting) ++ comment_events is
told_on o is p es q g n e =
    sym (append-nil (only_comments es))
    ∙ ap (λ w. only_comments es ++ only_comments (held_of w)) (sym n)
    ∙ items_told o is p q es g e

none_told_on : (o : OptionsData) (is : List FlaggedItem) (p : ParserState) (es : List PlainEvent) (q : ParserState) →
    p.given ≡ [] → held_of p.waiting ≡ [] → q.waiting ≡ None → feed_all o is p ≡ Ok (es, q) →
    only_comments es ≡ comment_events is
none_told_on o is p es q g h n e =
    told_on o is p es q g n e ∙ ap (λ held. only_comments held ++ comment_events is) h

module _ (o : OptionsData) (p : ParserState) (K : Type 0) (items back : List FlaggedItem) (e : PlainEvent) where
  -- behind these events, which the items before it give
  stands_at_once : (first second es given : List PlainEvent) (left : ParserState) →
      feed_all o (asked_items false items) (quiet o p) ≡ Ok (given, left) → but_comments first ≡ given →
      es ≡ first ++ (e ∷ second) → only_comments second ≡ comment_events back → StandsAmong o p K items back e es
  stands_at_once first second es given left fed h is behind =
      record {
        front = first;
        rest = second;
        is = is;
        given = given;
        left = left;
        fed = fed;
        stands = directly h;
        behind = behind;
      }

  -- held where a node waits, and then told
  stands_held : (first second es given : List PlainEvent) (state : ParserState) (w : Waiting) →
      feed_all o (asked_items false items) (quiet o p) ≡ Ok (given, quiet o state) → but_comments first ≡ given →
      state.waiting ≡ Some w → (v : Waiting) → v.at ≡ w.at → (held : List PlainEvent) → but_comments held ≡ [] →
      v.held ≡ held ++ e ∷ [] → es ≡ first ++ second →
      only_comments second ≡ only_comments v.held ++ comment_events back → Out v second →
      StandsAmong o p K items back e es
  stands_held first second es given state w fed h n v a held s k is told (xs, inl out) =
      record {
        front = first ++ held;
        rest = xs;
        is =
            is
            ∙ ap (λ ys. first ++ ys) (out ∙ ap (λ ys. ys ++ xs) k ∙ append_assoc held (e ∷ []) xs)
            ∙ sym (append_assoc first held (e ∷ xs));
        given = given;
        left = quiet o state;
        fed = fed;
        stands = directly (silent_front first held s ∙ h);
        behind =
            cancel (only_comments v.held) (only_comments xs) (comment_events back)
            (sym (ap only_comments out ∙ only_append v.held xs) ∙ told);
      }
  stands_held first second es given state w fed h n v a held s k is told (xs, inr out) =
      record {
        front = first ++ (null_at w.at ∷ held);
        rest = xs;
        is =
            is
            ∙ ap (λ ys. first ++ ys)
            (out
            ∙ ap (λ at. null_at at ∷ (v.held ++ xs)) a
            ∙ ap (λ ys. null_at w.at ∷ (ys ++ xs)) k
            ∙ ap (λ ys. null_at w.at ∷ ys) (append_assoc held (e ∷ []) xs))
            ∙ sym (append_assoc first (null_at w.at ∷ held) (e ∷ xs));
        given = given;
        left = quiet o state;
        fed = fed;
        stands =
            behind_empty (record { at = w.at; room = o.max_buffered_comment_events; held = but_comments w.held })
            (quiet_waits o state w n)
            (null_front first held w s ∙ ap (λ xs. xs ++ (null_at w.at ∷ [])) h);
        behind =
            cancel (only_comments v.held) (only_comments xs) (comment_events back)
            (sym (ap only_comments out ∙ only_append v.held xs) ∙ told);
      }

comment_stands_by : (o : OptionsData) (p : ParserState) (front back : List FlaggedItem) (c : CommentRead) (b : Bool)
    (es : List PlainEvent) (q : ParserState) → q.waiting ≡ None → Split o p front (of_comment c b ∷ back) es q →
    StandsAmong o p ⊥ front back (comment_event c (placed c (next_line back))) es
comment_stands_by o p front back c b es q m z =
    let y = fed_ok o back (feed o (of_comment c b) (next_line back) z.state) z.second q z.left in
    by y.given y.state y.more (comment_holds o c b (next_line back) z.state y.given y.state y.first_is) y.is y.rest_is
  where
    e : PlainEvent
    e = comment_event c (placed c (next_line back))

    by : (given : List PlainEvent) (t : ParserState) (more : List PlainEvent) → Holds e z.state given t →
        z.second ≡ given ++ more → feed_all o back t ≡ Ok (more, q) → StandsAmong o p ⊥ front back e es
    by given t more (at_once n g k f d) is h =
        stands_at_once o p ⊥ front back e z.first more es (but_comments z.first) (quiet o z.state) z.fed refl
        (z.is ∙ ap (λ ys. z.first ++ ys) (is ∙ ap (λ xs. xs ++ more) (g ∙ ap (λ xs. xs ++ e ∷ []) z.settled.clean)))
        (none_told_on o back t more q d (ap held_of k) m h)
    by given t more (is_held w v n g k a held f d) is h =
        let settled = held_settled e z.state given t refl z.settled.calm z.settled.silent
        (is_held w v n g k a held f d) in
        stands_held o p ⊥ front back e z.first more es (but_comments z.first) z.state w z.fed refl n v a w.held
        (ap (λ w. but_comments (held_of w)) (sym n) ∙ z.settled.silent) held
        (z.is ∙ ap (λ ys. z.first ++ ys) (is ∙ ap (λ xs. xs ++ more) (g ∙ z.settled.clean)))
        (told_on o back t more q d m h ∙ ap (λ w. only_comments (held_of w) ++ comment_events back) k)
        (held_out o back v t more q k settled m h)

pub comment_stands : (o : OptionsData) (p : ParserState) (front back : List FlaggedItem) (c : CommentRead) (b : Bool)
    (es : List PlainEvent) (q : ParserState) → p.waiting ≡ None → p.given ≡ [] →
    feed_all o (front ++ (record { item = OfComment c; begins_key = b } ∷ back)) p ≡ Ok (es, q) → q.waiting ≡ None →
    StandsAmong o p ⊥ front back (comment_event c (placed c (next_line back))) es
comment_stands o p front back c b es q n g e m =
    comment_stands_by o p front back c b es q m
    (split o front (of_comment c b ∷ back) p es q
    (record { clean = g; calm = subst (CalmBy p.frames) (sym n) tt; silent = ap (λ w. but_comments (held_of w)) n }) e)

-- ---- a comment behind a lexeme on its line

anchors_told : (es : List PlainEvent) → AreAnchors es → but_comments es ≡ es
anchors_told [] a = refl
anchors_told (e ∷ es) a =
    ap (λ b. cond (not b) (e ∷ but_comments es) (but_comments es)) (one e.kind a.0)
    ∙ ap (λ es. e ∷ es) (anchors_told es a.1)
  where
    one : (kind : EventKind) → IsAnchor kind → is_note kind ≡ false
    one (events.Anchor number name) a = refl
    one kind a = absurd a

begun_told : (es : List PlainEvent) → MayBegin es → but_comments es ≡ es
begun_told [] b = refl
begun_told (e ∷ es) b =
    ap (λ b. cond (not b) (e ∷ but_comments es) (but_comments es)) (one e.kind b.0)
    ∙ ap (λ es. e ∷ es) (anchors_told es b.1)
  where
    one : (kind : EventKind) → StartsSequence kind → is_note kind ≡ false
    one (events.SequenceStart style number tag) a = refl
    one kind a = absurd a

anchors_silent : (es : List PlainEvent) → AreAnchors es → only_comments es ≡ []
anchors_silent [] a = refl
anchors_silent (e ∷ es) a =
    ap (λ b. cond b (e ∷ only_comments es) (only_comments es)) (one e.kind a.0) ∙ anchors_silent es a.1
  where
    one : (kind : EventKind) → IsAnchor kind → is_note kind ≡ false
    one (events.Anchor number name) a = refl
    one kind a = absurd a

begun_silent : (es : List PlainEvent) → MayBegin es → only_comments es ≡ []
begun_silent [] b = refl
begun_silent (e ∷ es) b =
    ap (λ b. cond b (e ∷ only_comments es) (only_comments es)) (one e.kind b.0) ∙ anchors_silent es b.1
  where
    one : (kind : EventKind) → StartsSequence kind → is_note kind ≡ false
    one (events.SequenceStart style number tag) a = refl
    one kind a = absurd a

module _ (o : OptionsData) (p : ParserState) (front : List FlaggedItem) (l : Lexeme) (b : Bool)
    (back : List FlaggedItem)
    (c : CommentRead) (tail_is : l.tail ≡ Some c) (es : List PlainEvent) (q : ParserState)
    (ends : q.waiting ≡ None) where
  abbrev Up : List FlaggedItem
  Up = front ++ (of_lexeme l b ∷ [])

  lexeme_then : (first : List PlainEvent) (state : ParserState) (given : List PlainEvent) (t : ParserState) →
      feed_all o (asked_items false front) (quiet o p) ≡ Ok (but_comments first, quiet o state) →
      feed o (of_lexeme l b) (next_line back) state ≡ Ok (given, t) →
      feed_all o (asked_items false Up) (quiet o p) ≡ Ok (but_comments (first ++ given), quiet o t)
  lexeme_then first state given t e h =
      let fed =
      subst (λ r. FedBy o r (feed o (untailed (of_lexeme l b)) None (quiet o state))) h
      (lexeme_fed o l b (next_line back) None state) in
      asked_append o front (of_lexeme l b ∷ []) (quiet o p)
      ∙ ap (then_feed o (asked_items false (of_lexeme l b ∷ []))) e
      ∙ ap (λ (r : FeedGiven). with_front (but_comments first) (then_feed o [] r)) fed
      ∙ ok_pair (but_comments first ++ (but_comments given ++ [])) (but_comments (first ++ given)) (quiet o t)
      (quiet o t)
      (ap (λ xs. but_comments first ++ xs) (append-nil (but_comments given)) ∙ sym (but_append first given)) refl

  abbrev Told : PlainEvent
  Told = tail_event l.kind c (next_line back)

  abbrev Shown : Type 0
  Shown = StandsAmong o p (l.kind ≡ lexemes.Dash) Up back Told es

  tail_same : (d : CommentRead) → l.tail ≡ Some d → d ≡ c
  tail_same d e = cc (e, tail_is)

  told_comment : (kind : LexemeKind) → is_note (tail_event kind c (next_line back)).kind ≡ true
  told_comment lexemes.Dash = refl
  told_comment kind = refl

  told_right : l.kind ≡ lexemes.Dash → comment_event c Right ≡ Told
  told_right k = ap (λ kind. tail_event kind c (next_line back)) (sym k)

  silent_told : (xs : List PlainEvent) → but_comments (Told ∷ xs) ≡ but_comments xs
  silent_told xs = ap (λ b. cond (not b) (Told ∷ but_comments xs) (but_comments xs)) (told_comment l.kind)

  parts : (first before begun : List PlainEvent) → but_comments begun ≡ begun →
      but_comments (first ++ (before ++ (Told ∷ begun))) ≡ but_comments (first ++ before) ++ begun
  parts first before begun m =
      ap but_comments (sym (append_assoc first before (Told ∷ begun)))
      ∙ but_append (first ++ before) (Told ∷ begun)
      ∙ ap (λ xs. but_comments (first ++ before) ++ xs) (silent_told begun ∙ m)

  dash_stands : (k : l.kind ≡ lexemes.Dash) (begun told given : List PlainEvent) (left : ParserState) → MayBegin begun →
      given ≡ told ++ begun → StandsBehind (l.kind ≡ lexemes.Dash) given left told
  dash_stands k [] told given left m e = directly (sym (e ∙ append-nil told))
  dash_stands k (x ∷ begun) told given left m e = before_start (x ∷ begun) k m (sym e)

  -- the comment of a `-`, in front of what begins with it
  dash_by : (first given more : List PlainEvent) (t : ParserState) →
      feed_all o (asked_items false Up) (quiet o p) ≡ Ok (but_comments (first ++ given), quiet o t) →
      es ≡ first ++ (given ++ more) → l.kind ≡ lexemes.Dash → (before begun : List PlainEvent) →
      given ≡ before ++ (Told ∷ begun) → MayBegin begun → only_comments more ≡ comment_events back → Shown
  dash_by first given more t fed is k before begun g m b =
      record {
        front = first ++ before;
        rest = begun ++ more;
        is =
            is
            ∙ ap (λ ys. first ++ (ys ++ more)) g
            ∙ ap (λ ys. first ++ ys) (append_assoc before (Told ∷ begun) more)
            ∙ sym (append_assoc first before (Told ∷ (begun ++ more)));
        given = but_comments (first ++ given);
        left = quiet o t;
        fed = fed;
        stands =
            dash_stands k begun (but_comments (first ++ before)) (but_comments (first ++ given)) (quiet o t) m
            (ap (λ xs. but_comments (first ++ xs)) g ∙ parts first before begun (begun_told begun m));
        behind = only_append begun more ∙ ap (λ xs. xs ++ only_comments more) (begun_silent begun m) ∙ b;
      }

  dash_is : (kind : LexemeKind) (tail : Option CommentRead) (c : CommentRead) → tail ≡ Some c →
      dash_tail kind tail ≡ tail →
      kind ≡ lexemes.Dash
  dash_is lexemes.Dash tail c t e = refl
  dash_is kind tail c t e = absurd (cc (e, t))

  -- behind the items in front
  in_front : (z : Split o p front (of_lexeme l b ∷ back) es q) → Shown
  in_front z =
      by y.given y.state y.more y.first_is
      (lexeme_steps o b l (next_line back) z.state y.given y.state z.settled.calm y.first_is) y.is y.rest_is
    where
      y : Fed o back (feed o (of_lexeme l b) (next_line back) z.state) z.second q
      y = fed_ok o back (feed o (of_lexeme l b) (next_line back) z.state) z.second q z.left

      by : (given : List PlainEvent) (t : ParserState) (more : List PlainEvent) →
          feed o (of_lexeme l b) (next_line back) z.state ≡ Ok (given, t) →
          Steps o b l (next_line back) z.state given t →
          z.second ≡ given ++ more → feed_all o back t ≡ Ok (more, q) → Shown
      by given t more h x is rest = on x.tail
        where
          fed : feed_all o (asked_items false Up) (quiet o p) ≡ Ok (but_comments (z.first ++ given), quiet o t)
          fed = lexeme_then z.first z.state given t z.fed h

          all : es ≡ z.first ++ (given ++ more)
          all = z.is ∙ ap (λ ys. z.first ++ ys) is

          full_is : x.behind.given ≡ x.grown.front ++ x.grown.added
          full_is =
              sym (full_given x.behind (none_held (room_by o l.kind l.tail) x.behind.frames x.behind.waiting x.fresh))
              ∙ x.grown.full_is

          -- a `-`
          of_dash : dash_tail l.kind l.tail ≡ l.tail → given ≡ x.behind.given → t ≡ record (x.behind) { given = [] } →
              Shown
          of_dash d g e =
              let k = dash_is l.kind l.tail c tail_is d in
              let (ys, begun, added, m) = subst (λ tail. EndsWith tail x.grown.added) (d ∙ tail_is) x.grown.ends in
              dash_by z.first given more t fed all k (x.grown.front ++ ys) begun
              (g ∙ full_is ∙ ap (λ zs. x.grown.front ++ zs) (added ∙ ap (λ e. ys ++ (e ∷ begun)) (told_right k))
              ∙ sym (append_assoc x.grown.front ys (Told ∷ begun))) m
              (none_told_on o back t more q (ap (λ (t : ParserState). t.given) e)
              (ap (λ (t : ParserState). held_of t.waiting) e
              ∙ none_held (room_by o l.kind l.tail) x.behind.frames x.behind.waiting x.fresh) ends rest)

          -- another lexeme
          of_other : (d : CommentRead) → d ≡ c →
              tail_event l.kind d (next_line back) ≡ comment_event d (placed d (next_line back)) →
              Holds (comment_event d (placed d (next_line back))) x.behind given t → Shown
          of_other d same k hold =
              let told : comment_event d (placed d (next_line back)) ≡ Told =
              sym k ∙ ap (λ d. tail_event l.kind d (next_line back)) same in
              held (subst (λ e. Holds e x.behind given t) told hold)
            where
              held : Holds Told x.behind given t → Shown
              held (at_once n g m f e) =
                  stands_at_once o p (l.kind ≡ lexemes.Dash) Up back Told (z.first ++ x.behind.given) more es
                  (but_comments (z.first ++ given)) (quiet o t) fed
                  (sym (ap (λ xs. but_comments (z.first ++ xs)) g ∙ parts z.first x.behind.given [] refl
                  ∙ append-nil (but_comments (z.first ++ x.behind.given))))
                  (all ∙ ap (λ ys. z.first ++ (ys ++ more)) g
                  ∙ ap (λ ys. z.first ++ ys) (append_assoc x.behind.given (Told ∷ []) more)
                  ∙ sym (append_assoc z.first x.behind.given (Told ∷ more)))
                  (none_told_on o back t more q e (ap held_of m) ends rest)
              held (is_held w v n g m a h f e) =
                  let none = none_held (room_by o l.kind l.tail) x.behind.frames x.behind.waiting x.fresh in
                  let silent : w.held ≡ [] = ap held_of (sym n) ∙ none in
                  let settled = lexeme_settled o b l (next_line back) z.state given t x in
                  stands_held o p (l.kind ≡ lexemes.Dash) Up back Told (z.first ++ given) more es
                  (but_comments (z.first ++ given)) t v fed refl m v refl w.held (ap but_comments silent) h
                  (all ∙ sym (append_assoc z.first given more))
                  (told_on o back t more q e ends rest ∙ ap (λ w. only_comments (held_of w) ++ comment_events back) m)
                  (held_out o back v t more q m settled ends rest)

          on : TailHolds l (next_line back) x.behind given t → Shown
          on (no_tail d g e) = of_dash d g e
          on (some_tail d t n k h) = of_other d (tail_same d t) k h

pub tail_stands : (o : OptionsData) (p : ParserState) (front back : List FlaggedItem) (l : Lexeme) (b : Bool)
    (c : CommentRead) (es : List PlainEvent) (q : ParserState) → p.waiting ≡ None → p.given ≡ [] → l.tail ≡ Some c →
    feed_all o (front ++ (record { item = OfLexeme l; begins_key = b } ∷ back)) p ≡ Ok (es, q) → q.waiting ≡ None →
    StandsAmong o p (l.kind ≡ lexemes.Dash) (front ++ (record { item = OfLexeme l; begins_key = b } ∷ [])) back
    (tail_event l.kind c (next_line back)) es
tail_stands o p front back l b c es q n g t e m =
    in_front o p front l b back c t es q m
    (split o front (of_lexeme l b ∷ back) p es q
    (record { clean = g; calm = subst (CalmBy p.frames) (sym n) tt; silent = ap (λ w. but_comments (held_of w)) n }) e)
