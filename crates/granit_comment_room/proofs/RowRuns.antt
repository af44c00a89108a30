-- Where items are refused for a comment, a row of comments is too long; else they are refused without their comments
-- too.
use Rattle.std.proofs.Common.{◌≡◌, ℕ, suc, ◌-◌, ◌+◌, ◌==◌, Bool, true, false, arith, List, [], ◌∷◌, ◌++◌, length, ◌⊎◌}
use Rattle.std.proofs.Common.{inl, inr, Option, Some, None, Result, Ok, Err, refl, sym, ap, subst, ◌∙◌, append_assoc}
use Rattle.std.specs.Prelude.{if◌then◌else◌}
use Rattle.std.proofs.lemmas.Bool.Decides.{nat_tests}
use Rattle.granit_error.specs.FaultKind.{TooManyComments}
use Rattle.granit_error.specs.OptionsData.{OptionsData}
use Rattle.granit_lexemes.specs.Comment.{CommentRead}
use Rattle.granit_lexemes.specs.Lexeme as lexemes
use Rattle.granit_lexemes.specs.Lexeme.{LexemeKind, Lexeme, Item, OfLexeme, OfComment}
use Rattle.granit_lexemes.specs.Outcome.{Fault, fault_at, ◌>>=◌}
use Rattle.granit_lexemes.specs.Pieces.{with_front}
use Rattle.granit_lexemes.specs.PlainEvent.{PlainEvent, is_note}
use Rattle.granit_machine.proofs.ClosingLemmas.{FeedGiven}
use Rattle.granit_machine.specs.Frames.{Frame, Waiting, ParserState}
use Rattle.granit_machine.specs.Lexing.{FlaggedItem}
use Rattle.granit_machine.specs.Machine.{untailed, asked_items, feed_all}
use Rattle.granit_machine.specs.NodeSteps.{Stepped, dash_room}
use Rattle.granit_machine.specs.Closing.{close}
use Rattle.granit_machine.specs.Parser.{next_line, take_token, placed, hold, take_tail, feed}
use Rattle.granit_machine.specs.TokenSort.{token_of}
pub use Rattle.granit_quiet.proofs.CommentLaws.{handed, then_feed}
use Rattle.granit_quiet.specs.CommentEvents.{comment_event}
use Rattle.granit_comment_room.specs.RefusedRows.{RefusesRow}
use Rattle.granit_quiet.specs.Quiet.{AreComments, tail_comments}
use Rattle.granit_quiet.specs.Quiet.{but_comments, quiet, waits_alone}
pub use Rattle.granit_quiet.proofs.Quieting.{untold_last}
use Rattle.granit_quiet.proofs.QuietSteps.{FitsBy, untailed_token}
use Rattle.granit_quiet.proofs.QuietStream.{token_fits}
use Rattle.granit_feeding.proofs.RoomSteps.{CalmBy}
pub use Rattle.granit_feeding.proofs.RoomSteps.{Calm, FreshBy, LeavesBy, room_by}
pub use Rattle.granit_feeding.proofs.RoomStream.{token_leaves}

abbrev pub of_lexeme : Lexeme → Bool → FlaggedItem
of_lexeme l b = record { item = OfLexeme l; begins_key = b }

-- ---- lexemes without their tails are fed alike before any line

none_taken : (kind : LexemeKind) (line : Option ℕ) (p : ParserState) → take_tail kind None line p ≡ Ok p
none_taken lexemes.Dash line p = refl
none_taken kind line p = refl

abbrev bare_step : OptionsData → Bool → Lexeme → ParserState → Stepped
bare_step o b l p =
    close o (untailed_token (token_of b l)) p >>= take_token o (untailed_token (token_of b l))

no_tail : (kind : LexemeKind) (line : Option ℕ) (r : Stepped) → (r >>= take_tail kind None line) ≡ r
no_tail kind line (Ok p) = none_taken kind line p
no_tail kind line (Err f) = refl

untailed_fed : (o : OptionsData) (b : Bool) (l : Lexeme) (line : Option ℕ) (p : ParserState) →
    feed o (untailed (of_lexeme l b)) line p ≡ handed (bare_step o b l p)
unfolding feed
untailed_fed o b l line p = ap handed (no_tail l.kind line (bare_step o b l p))

front_none : (r : FeedGiven) → with_front [] r ≡ r
front_none (Ok x) = refl
front_none (Err f) = refl

front_front : (es ds : List PlainEvent) (r : FeedGiven) → with_front es (with_front ds r) ≡ with_front (es ++ ds) r
front_front es ds (Ok x) = ap (λ gs. let r : FeedGiven = Ok (gs, x.1) in r) (sym (append_assoc es ds x.0))
front_front es ds (Err f) = refl

front_then : (o : OptionsData) (es : List PlainEvent) (ys : List FlaggedItem) (r : FeedGiven) →
    with_front es (then_feed o ys r) ≡ then_feed o ys (with_front es r)
front_then o es ys (Ok x) = front_front es x.0 (feed_all o ys x.1)
front_then o es ys (Err f) = refl

then_then : (o : OptionsData) (xs ys : List FlaggedItem) (r : FeedGiven) →
    ((p : ParserState) → feed_all o (asked_items false (xs ++ ys)) p ≡ then_feed o (asked_items false ys)
    (feed_all o (asked_items false xs) p)) →
    then_feed o (asked_items false (xs ++ ys)) r ≡ then_feed o (asked_items false ys)
    (then_feed o (asked_items false xs) r)
then_then o xs ys (Ok x) h =
    ap (with_front x.0) (h x.1) ∙ front_then o x.0 (asked_items false ys) (feed_all o (asked_items false xs) x.1)
then_then o xs ys (Err f) h = refl

lexeme_asked : (o : OptionsData) (l : Lexeme) (b : Bool) (is : List FlaggedItem) (p : ParserState) →
    feed_all o (asked_items false (of_lexeme l b ∷ is)) p
    ≡ then_feed o (asked_items false is) (handed (bare_step o b l p))
lexeme_asked o l b is p =
    ap (then_feed o (asked_items false is)) (untailed_fed o b l (next_line (asked_items false is)) p)

append_by : (o : OptionsData) (x : Item) (b : Bool) (xs ys : List FlaggedItem) →
    ((p : ParserState) → feed_all o (asked_items false (xs ++ ys)) p ≡ then_feed o (asked_items false ys)
    (feed_all o (asked_items false xs) p)) →
    (p : ParserState) →
    feed_all o (asked_items false (record { item = x; begins_key = b } ∷ (xs ++ ys))) p
    ≡ then_feed o (asked_items false ys) (feed_all o (asked_items false (record { item = x; begins_key = b } ∷ xs)) p)
append_by o (OfComment c) b xs ys h p = h p
append_by o (OfLexeme l) b xs ys h p =
    lexeme_asked o l b (xs ++ ys) p
    ∙ then_then o xs ys (handed (bare_step o b l p)) h
    ∙ ap (then_feed o (asked_items false ys)) (sym (lexeme_asked o l b xs p))

pub asked_append : (o : OptionsData) (xs ys : List FlaggedItem) (p : ParserState) →
    feed_all o (asked_items false (xs ++ ys)) p ≡ then_feed o (asked_items false ys)
    (feed_all o (asked_items false xs) p)
asked_append o [] ys p = sym (front_none (feed_all o (asked_items false ys) p))
asked_append o (i ∷ xs) ys p = append_by o i.item i.begins_key xs ys (asked_append o xs ys) p

-- ---- behind items

-- the row that what waits has room for
pub record RowBehind (o : OptionsData) (before : List FlaggedItem) (room : ℕ) : Type 0 where
  pub front : List FlaggedItem
  pub lexeme : Lexeme
  pub flag : Bool
  pub row : List FlaggedItem
  pub comments : List CommentRead
  pub is : before ≡ front ++ (of_lexeme lexeme flag ∷ row)
  pub are : AreComments row comments
  pub left : length (tail_comments lexeme.tail ++ comments) + room ≡ o.max_buffered_comment_events

abbrev pub RowBy : OptionsData → List FlaggedItem → Option Waiting → Type 0
RowBy o before None = Unit {0}
RowBy o before (Some w) = RowBehind o before w.room

pub record Behind (o : OptionsData) (start : ParserState) (before : List FlaggedItem) (p : ParserState) : Type 0 where
  pub calm : Calm p
  pub clean : p.given ≡ []
  pub events : List PlainEvent
  pub fed : feed_all o (asked_items false before) start ≡ Ok (events, quiet o p)
  pub rows : RowBy o before p.waiting

abbrev pub FedRows : OptionsData → ParserState → List FlaggedItem → FeedGiven → Type 0
FedRows o start items (Ok x) = Unit {0}
FedRows o start items (Err f) =
    RefusesRow o start items f ⊎ (feed_all o (asked_items false items) start ≡ Err f)

abbrev pub StepRows : OptionsData → ParserState → List FlaggedItem → FlaggedItem → List FlaggedItem → FeedGiven → Type 0
StepRows o start before i is (Ok x) = Behind o start (before ++ (i ∷ [])) x.1
StepRows o start before i is (Err f) = FedRows o start (before ++ (i ∷ is)) (Err f)

-- ---- lists

pub length_last : (xs : List CommentRead) (c : CommentRead) → length (xs ++ (c ∷ [])) ≡ suc (length xs)
length_last [] c = refl
length_last (x ∷ xs) c = ap suc (length_last xs c)

are_last : (is : List FlaggedItem) (cs : List CommentRead) (c : CommentRead) (b : Bool) → AreComments is cs →
    AreComments (is ++ (record { item = OfComment c; begins_key = b } ∷ [])) (cs ++ (c ∷ []))
are_last [] [] c b h = (refl, tt)
are_last [] (d ∷ cs) c b h = absurd h
are_last (i ∷ is) [] c b h = absurd h
are_last (i ∷ is) (d ∷ cs) c b h = (h.0, are_last is cs c b h.1)

one_less : (n room max : ℕ) → n + room ≡ max → (room == 0) ≡ false → suc n + (room - 1) ≡ max
one_less n room max e h = grind (arith, nat_tests)

none_left : (n room max : ℕ) → n + room ≡ max → (room == 0) ≡ true → n ≡ max
none_left n room max e h = grind (arith, nat_tests)

zero_plus : (n : ℕ) → 0 + n ≡ n
zero_plus n = grind (arith)

-- ---- a comment

module _ (o : OptionsData) (start : ParserState) (before : List FlaggedItem) where
  clean_quiet : (p : ParserState) (w v : Option Waiting) → p.given ≡ [] →
      waits_alone o.max_buffered_comment_events w ≡ waits_alone o.max_buffered_comment_events v →
      quiet o (record p { waiting = w; given = [] }) ≡ quiet o (record p { waiting = v })
  clean_quiet p w v e h =
      ap (λ w. record p { waiting = w; given = [] }) h
      ∙ ap (λ es. record p { waiting = waits_alone o.max_buffered_comment_events v; given = but_comments es }) (sym e)

  comment_fed : (c : CommentRead) (b : Bool) (p q : ParserState) (events : List PlainEvent) →
      feed_all o (asked_items false before) start ≡ Ok (events, quiet o p) → quiet o q ≡ quiet o p →
      feed_all o (asked_items false (before ++ (record { item = OfComment c; begins_key = b } ∷ []))) start ≡ Ok
      (events ++ [], quiet o q)
  comment_fed c b p q events e h =
      asked_append o before (record { item = OfComment c; begins_key = b } ∷ []) start
      ∙ ap (then_feed o []) e
      ∙ ap (λ (q : ParserState). let r : FeedGiven = Ok (events ++ [], q) in r) (sym h)

  comment_row : (c : CommentRead) (b : Bool) (w : Waiting) (held : List PlainEvent) → RowBehind o before w.room →
      (w.room == 0) ≡ false →
      RowBehind o (before ++ (record { item = OfComment c; begins_key = b } ∷ [])) (w.room - 1)
  comment_row c b w held r e =
      record {
        front = r.front;
        lexeme = r.lexeme;
        flag = r.flag;
        row = r.row ++ (record { item = OfComment c; begins_key = b } ∷ []);
        comments = r.comments ++ (c ∷ []);
        is =
            ap (λ (is : List FlaggedItem). is ++ (record { item = OfComment c; begins_key = b } ∷ [])) r.is
            ∙ append_assoc r.front (of_lexeme r.lexeme r.flag ∷ r.row)
            (record { item = OfComment c; begins_key = b } ∷ []);
        are = are_last r.row r.comments c b r.are;
        left =
            ap (λ n. n + (w.room - 1))
            (ap length (sym (append_assoc (tail_comments r.lexeme.tail) r.comments (c ∷ [])))
            ∙ length_last (tail_comments r.lexeme.tail ++ r.comments) c)
            ∙ one_less (length (tail_comments r.lexeme.tail
            ++ r.comments)) w.room o.max_buffered_comment_events r.left e;
      }

  pub bare_front : (front row : List FlaggedItem) (l : Lexeme) (flag : Bool) (comments : List CommentRead) →
      AreComments row comments →
      asked_items false (front ++ (of_lexeme l flag ∷ row)) ≡ asked_items false (front ++ (of_lexeme l flag ∷ []))
  bare_front [] row l flag comments a =
      ap (λ (is : List FlaggedItem). untailed (of_lexeme l flag) ∷ is) (bare_row row comments a)
    where
      row_by : (x : Item) (c : CommentRead) (b : Bool) (is : List FlaggedItem) → x ≡ OfComment c →
          asked_items false is ≡ [] →
          asked_items false (record { item = x; begins_key = b } ∷ is) ≡ []
      row_by (OfComment d) c b is e h = h
      row_by (OfLexeme d) c b is e h = absurd cc

      bare_row : (row : List FlaggedItem) (comments : List CommentRead) → AreComments row comments →
          asked_items false row ≡ []
      bare_row [] [] a = refl
      bare_row [] (c ∷ cs) a = absurd a
      bare_row (i ∷ is) [] a = absurd a
      bare_row (i ∷ is) (c ∷ cs) a = row_by i.item c i.begins_key is a.0 (bare_row is cs a.1)
  bare_front (i ∷ front) row l flag comments a = one i.item i.begins_key (bare_front front row l flag comments a)
    where
      one : (x : Item) (b : Bool) →
          asked_items false (front ++ (of_lexeme l flag ∷ row)) ≡ asked_items false (front ++ (of_lexeme l flag ∷ [])) →
          asked_items false (record { item = x; begins_key = b } ∷ (front ++ (of_lexeme l flag ∷ row)))
          ≡ asked_items false (record { item = x; begins_key = b } ∷ (front ++ (of_lexeme l flag ∷ [])))
      one (OfComment d) b h = h
      one (OfLexeme d) b h = ap (λ (is : List FlaggedItem). untailed (of_lexeme d b) ∷ is) h

  refused_row :
      (c : CommentRead) (b : Bool) (is : List FlaggedItem) (p : ParserState) (w : Waiting) (events : List PlainEvent) →
      p.waiting ≡ Some w → feed_all o (asked_items false before) start ≡ Ok (events, quiet o p) →
      RowBehind o before w.room → (w.room == 0) ≡ true →
      RefusesRow o start (before ++ (record { item = OfComment c; begins_key = b } ∷ is))
      (fault_at TooManyComments c.source.start)
  refused_row c b is p w events n fed r e =
      let i : FlaggedItem = record { item = OfComment c; begins_key = b } in
      record {
        front = r.front;
        row =
            record {
              lexeme = r.lexeme;
              flag = r.flag;
              row = r.row ++ (i ∷ []);
              comments = r.comments ++ (c ∷ []);
              rest = is;
              is =
                  ap (λ (xs : List FlaggedItem). xs ++ (i ∷ is)) r.is
                  ∙ append_assoc r.front (of_lexeme r.lexeme r.flag ∷ r.row) (i ∷ is)
                  ∙ ap (λ (xs : List FlaggedItem). r.front ++ (of_lexeme r.lexeme r.flag ∷ xs))
                  (sym (append_assoc r.row (i ∷ []) is));
              are = are_last r.row r.comments c b r.are;
              kept = tail_comments r.lexeme.tail ++ r.comments;
              one = c;
              more = sym (append_assoc (tail_comments r.lexeme.tail) r.comments (c ∷ []));
              full =
                  none_left (length (tail_comments r.lexeme.tail
                  ++ r.comments)) w.room o.max_buffered_comment_events r.left e;
              fault_is = refl;
            };
        events = events;
        state = quiet o p;
        waiting = record { at = w.at; room = o.max_buffered_comment_events; held = but_comments w.held };
        fed =
            ap (λ (xs : List FlaggedItem). feed_all o xs start)
            (sym (bare_front r.front r.row r.lexeme r.flag r.comments r.are) ∙ ap (asked_items false) (sym r.is))
            ∙ fed;
        waits = ap (waits_alone o.max_buffered_comment_events) n;
      }

  comment_rows :
      (c : CommentRead) (b : Bool) (is : List FlaggedItem) (e : PlainEvent) (p : ParserState) (w : Option Waiting) →
      p.waiting ≡ w →
      is_note e.kind ≡ true → Behind o start before p →
      StepRows o start before (record { item = OfComment c; begins_key = b }) is (handed (hold c e w p))
  comment_rows c b is e p None n t h =
      record {
        calm = h.calm;
        clean = refl;
        events = h.events ++ [];
        fed = comment_fed c b p (record p { given = [] }) h.events h.fed
            (clean_quiet p p.waiting p.waiting h.clean refl);
        rows = subst (RowBy o (before ++ (record { item = OfComment c; begins_key = b } ∷ []))) (sym n) tt;
      }
  comment_rows c b is e p (Some w) n t h = on (w.room == 0) refl
    where
      row : RowBehind o before w.room
      row = subst (RowBy o before) n h.rows

      same :
          quiet o (record p { waiting = Some (record w { room = w.room - 1; held = w.held ++ e ∷ [] }); given = [] })
          ≡ quiet o p
      same =
          ap
          (λ es.
          record p {
            waiting = Some
                (record { at = w.at; room = o.max_buffered_comment_events; held = es });
            given = [];
          })
          (untold_last w.held e t)
          ∙ ap (λ w. record p { waiting = w; given = [] }) (ap (waits_alone o.max_buffered_comment_events) (sym n))
          ∙ ap
          (λ es. record p { waiting = waits_alone o.max_buffered_comment_events p.waiting; given = but_comments es })
          (sym h.clean)

      on :
          (v : Bool) → (w.room == 0) ≡ v →
          StepRows o start before (record { item = OfComment c; begins_key = b }) is
          (handed (if v then Err (fault_at TooManyComments c.source.start)
          else Ok (record p { waiting = Some (record w { room = w.room - 1; held = w.held ++ e ∷ [] }) })))
      on true f = inl (refused_row c b is p w h.events n h.fed row f)
      on false f =
          let q : ParserState = record p {
            waiting = Some
                (record w { room = w.room - 1; held = w.held ++ e ∷ [] });
            given = [];
          } in
          record {
            calm = subst (CalmBy p.frames) n h.calm;
            clean = refl;
            events = h.events ++ [];
            fed = comment_fed c b p q h.events h.fed same;
            rows = comment_row c b w w.held row f;
          }

-- ---- a lexeme

abbrev LexemeRows : OptionsData → ParserState → List FlaggedItem → Lexeme → Bool → List FlaggedItem → Stepped → Type 0
LexemeRows o start before l b is r = StepRows o start before (of_lexeme l b) is (handed r)

module _ (o : OptionsData) (start : ParserState) (before : List FlaggedItem) (l : Lexeme) (b : Bool)
    (is : List FlaggedItem) where
  lexeme_fed : (p q : ParserState) (events : List PlainEvent) →
      feed_all o (asked_items false before) start ≡ Ok (events, p) → bare_step o b l p ≡ Ok q →
      feed_all o (asked_items false (before ++ (of_lexeme l b ∷ []))) start
      ≡ Ok (events ++ (q.given ++ []), record q { given = [] })
  lexeme_fed p q events e f =
      asked_append o before (of_lexeme l b ∷ []) start
      ∙ ap (then_feed o (asked_items false (of_lexeme l b ∷ []))) e
      ∙ ap (with_front events) (lexeme_asked o l b [] p ∙ ap (λ r. then_feed o [] (handed r)) f)

  lexeme_refused : (p : ParserState) (events : List PlainEvent) (f : Fault) →
      feed_all o (asked_items false before) start ≡ Ok (events, p) → bare_step o b l p ≡ Err f →
      feed_all o (asked_items false (before ++ (of_lexeme l b ∷ is))) start ≡ Err f
  lexeme_refused p events f e g =
      asked_append o before (of_lexeme l b ∷ is) start
      ∙ ap (then_feed o (asked_items false (of_lexeme l b ∷ is))) e
      ∙ ap (with_front events) (lexeme_asked o l b is p ∙ ap (λ r. then_feed o (asked_items false is) (handed r)) g)

  no_row : (room : ℕ) → length (tail_comments l.tail ++ []) + room ≡ o.max_buffered_comment_events →
      RowBehind o (before ++ (of_lexeme l b ∷ [])) room
  no_row room e =
      record { front = before; lexeme = l; flag = b; row = []; comments = []; is = refl; are = tt; left = e }

  tail_refused : (p q : ParserState) (w : Waiting) (events : List PlainEvent) (c : CommentRead) →
      feed_all o (asked_items false before) start ≡ Ok (events, p) → bare_step o b l p ≡ Ok q → q.waiting ≡ Some w →
      l.tail ≡ Some c → (o.max_buffered_comment_events == 0) ≡ true →
      RefusesRow o start (before ++ (of_lexeme l b ∷ is)) (fault_at TooManyComments c.source.start)
  tail_refused p q w events c e f n t z =
      record {
        front = before;
        row =
            record {
              lexeme = l;
              flag = b;
              row = [];
              comments = [];
              rest = is;
              is = refl;
              are = tt;
              kept = [];
              one = c;
              more = ap (λ t. tail_comments t ++ []) t;
              full =
                  none_left 0 o.max_buffered_comment_events o.max_buffered_comment_events
                  (zero_plus o.max_buffered_comment_events) z;
              fault_is = refl;
            };
        events = events ++ (q.given ++ []);
        state = record q { given = [] };
        waiting = w;
        fed = lexeme_fed p q events e f;
        waits = n;
      }

  dash_refused : (tail : Option CommentRead) (f : Fault) → dash_room o tail ≡ Err f →
      (c : CommentRead) × (tail ≡ Some c) × ((o.max_buffered_comment_events == 0) ≡ true)
      × (f ≡ fault_at TooManyComments c.source.start)
  dash_refused None f e = absurd cc
  dash_refused (Some c) f e = on (o.max_buffered_comment_events == 0) refl e
    where
      on :
          (v : Bool) → (o.max_buffered_comment_events == 0) ≡ v →
          (if v then Err (fault_at TooManyComments c.source.start) else Ok (o.max_buffered_comment_events - 1))
          ≡ Err f →
          (d : CommentRead) × (Some c ≡ Some d) × ((o.max_buffered_comment_events == 0) ≡ true)
          × (f ≡ fault_at TooManyComments d.source.start)
      on true z e = let same : fault_at TooManyComments c.source.start ≡ f = cc (e) in (c, refl, z, sym same)
      on false z e = absurd cc

  dash_left : (tail : Option CommentRead) (room : ℕ) → dash_room o tail ≡ Ok room →
      length (tail_comments tail ++ []) + room ≡ o.max_buffered_comment_events
  dash_left None room e = let same : o.max_buffered_comment_events ≡ room = cc (e) in zero_plus room ∙ sym same
  dash_left (Some c) room e = on (o.max_buffered_comment_events == 0) refl e
    where
      on :
          (v : Bool) → (o.max_buffered_comment_events == 0) ≡ v →
          (if v then Err (fault_at TooManyComments c.source.start) else Ok (o.max_buffered_comment_events - 1))
          ≡ Ok room →
          1 + room ≡ o.max_buffered_comment_events
      on true z e = absurd cc
      on false z e =
          let same : o.max_buffered_comment_events - 1 ≡ room = cc (e) in
          ap (λ n. 1 + n) (sym same)
          ∙ one_less 0 o.max_buffered_comment_events o.max_buffered_comment_events
          (zero_plus o.max_buffered_comment_events) z

  calm_by : (room : Result ℕ Fault) (fs : List Frame) (w : Option Waiting) → FreshBy room fs w → CalmBy fs w
  calm_by room fs None h = tt
  calm_by room fs (Some w) h = h.0

  dash_rows : (w : Option Waiting) (fs : List Frame) → FreshBy (dash_room o l.tail) fs w →
      RowBy o (before ++ (of_lexeme l b ∷ [])) w
  dash_rows None fs h = tt
  dash_rows (Some w) fs h = no_row w.room (dash_left l.tail w.room h.1)

  other_rows : (w : Option Waiting) (fs : List Frame) → l.tail ≡ None →
      FreshBy (Ok o.max_buffered_comment_events) fs w → RowBy o (before ++ (of_lexeme l b ∷ [])) w
  other_rows None fs t h = tt
  other_rows (Some w) fs t h =
      let same : o.max_buffered_comment_events ≡ w.room = cc (h.1) in
      no_row w.room (ap (λ t. length (tail_comments t ++ []) + w.room) t ∙ (zero_plus w.room ∙ sym same))

  goes_on : (p q : ParserState) (events : List PlainEvent) →
      feed_all o (asked_items false before) start ≡ Ok (events, p) →
      bare_step o b l p ≡ Ok (quiet o q) → Calm q → RowBy o (before ++ (of_lexeme l b ∷ [])) q.waiting →
      LexemeRows o start before l b is (Ok q)
  goes_on p q events e f c r =
      record {
        calm = c;
        clean = refl;
        events = events ++ ((quiet o q).given ++ []);
        fed = lexeme_fed p (quiet o q) events e f;
        rows = r;
      }

  held_rows : (p q : ParserState) (events : List PlainEvent) (c : CommentRead) (e : PlainEvent) (w : Option Waiting) →
      feed_all o (asked_items false before) start ≡ Ok (events, p) →
      bare_step o b l p ≡ Ok (quiet o q) → l.tail ≡ Some c → is_note e.kind ≡ true → q.waiting ≡ w →
      FreshBy (Ok o.max_buffered_comment_events) q.frames w → LexemeRows o start before l b is (hold c e w q)
  held_rows p q events c e None d f t k n h =
      record {
        calm = subst (CalmBy q.frames) (sym n) tt;
        clean = refl;
        events = events ++ ((quiet o q).given ++ []);
        fed = lexeme_fed p (quiet o q) events d f;
        rows = subst (RowBy o (before ++ (of_lexeme l b ∷ []))) (sym n) tt;
      }
  held_rows p q events c e (Some w) d f t k n h = on (w.room == 0) refl
    where
      most : o.max_buffered_comment_events ≡ w.room
      most = cc (h.1)

      next : ParserState
      next = record q { waiting = Some (record w { room = w.room - 1; held = w.held ++ e ∷ [] }); given = [] }

      same : record (quiet o q) { given = [] } ≡ quiet o next
      same =
          ap (λ w. record q { waiting = waits_alone o.max_buffered_comment_events w; given = [] }) n
          ∙ ap
          (λ es.
          record q {
            waiting = Some
                (record { at = w.at; room = o.max_buffered_comment_events; held = es });
            given = [];
          })
          (sym (untold_last w.held e k))

      on :
          (v : Bool) → (w.room == 0) ≡ v →
          LexemeRows o start before l b is
          (if v then Err (fault_at TooManyComments c.source.start)
          else Ok (record q { waiting = Some (record w { room = w.room - 1; held = w.held ++ e ∷ [] }) }))
      on true z =
          inl (tail_refused p (quiet o q) _ events c d f (ap (waits_alone o.max_buffered_comment_events) n) t
          (ap (λ n. n == 0) most ∙ z))
      on false z =
          record {
            calm = h.0;
            clean = refl;
            events = events ++ ((quiet o q).given ++ []);
            fed =
                lexeme_fed p (quiet o q) events d f
                ∙ ap (λ (x : ParserState). let r : FeedGiven = Ok (events ++ ((quiet o q).given ++ []), x) in r) same;
            rows =
                no_row (w.room - 1)
                (ap (λ t. length (tail_comments t ++ []) + (w.room - 1)) t
                ∙ one_less 0 w.room o.max_buffered_comment_events (zero_plus w.room ∙ sym most) z);
          }

  tail_rows :
      (p q : ParserState) (events : List PlainEvent) (kind : LexemeKind) (tail : Option CommentRead) (next : Option ℕ) →
      feed_all o (asked_items false before) start ≡ Ok (events, p) →
      bare_step o b l p ≡ Ok (quiet o q) → l.tail ≡ tail →
      FreshBy (room_by o kind l.tail) q.frames q.waiting → LexemeRows o start before l b is (take_tail kind tail next q)
  tail_rows p q events lexemes.Dash tail next d f t h =
      goes_on p q events d f (calm_by (dash_room o l.tail) q.frames q.waiting h) (dash_rows q.waiting q.frames h)
  tail_rows p q events kind None next d f t h =
      goes_on p q events d f (calm_by (Ok o.max_buffered_comment_events) q.frames q.waiting h)
      (other_rows q.waiting q.frames t h)
  tail_rows p q events kind (Some c) next d f t h =
      held_rows p q events c (comment_event c (placed c next)) q.waiting d f t refl refl h

  lexeme_rows : (p : ParserState) (next : Option ℕ) (r : Stepped) → Behind o start before p →
      FitsBy o l.tail r (bare_step o b l (quiet o p)) → LeavesBy (room_by o l.kind l.tail) r →
      LexemeRows o start before l b is (r >>= take_tail l.kind l.tail next)
  lexeme_rows p next (Ok q) h f v = tail_rows (quiet o p) q h.events l.kind l.tail next h.fed f refl v
  lexeme_rows p next (Err x) h (inl t) v =
      let (c, tail_is, none, fault_is) = dash_refused l.tail x t.refused in
      inl (subst (RefusesRow o start (before ++ (of_lexeme l b ∷ is))) (sym fault_is)
      (tail_refused (quiet o p) t.taken t.waiting h.events c h.fed t.is_taken t.waits tail_is none))
  lexeme_rows p next (Err x) h (inr e) v = inr (lexeme_refused (quiet o p) h.events x h.fed e)

-- ---- all items

pub item_rows :
    (o : OptionsData) (start : ParserState) (before : List FlaggedItem) (x : Item) (b : Bool) (is : List FlaggedItem)
    (next : Option ℕ)
    (p : ParserState) → Behind o start before p →
    StepRows o start before (record { item = x; begins_key = b }) is
    (feed o (record { item = x; begins_key = b }) next p)
unfolding feed
item_rows o start before (OfComment c) b is next p h =
    comment_rows o start before c b is (comment_event c (placed c next)) p p.waiting refl refl h
item_rows o start before (OfLexeme l) b is next p h =
    let x = token_fits o (token_of b l) p in
    let y = token_leaves o b l p h.calm in
    lexeme_rows o start before l b is p next (close o (token_of b l) p >>= take_token o (token_of b l)) h x.says y.says

then_rows : (o : OptionsData) (start : ParserState) (before is : List FlaggedItem) (i : FlaggedItem) (r : FeedGiven) →
    StepRows o start before i is r →
    ((q : ParserState) → Behind o start (before ++ (i ∷ [])) q →
    FedRows o start ((before ++ (i ∷ [])) ++ is) (feed_all o is q)) →
    FedRows o start (before ++ (i ∷ is)) (r >>= λ x. with_front x.0 (feed_all o is x.1))
then_rows o start before is i (Err f) h more = h
then_rows o start before is i (Ok x) h more =
    front_rows (feed_all o is x.1)
    (subst (λ items. FedRows o start items (feed_all o is x.1)) (append_assoc before (i ∷ []) is) (more x.1 h))
  where
    front_rows : (r : FeedGiven) → FedRows o start (before ++ (i ∷ is)) r →
        FedRows o start (before ++ (i ∷ is)) (with_front x.0 r)
    front_rows (Ok y) h = tt
    front_rows (Err f) h = h

all_rows : (o : OptionsData) (start : ParserState) (before is : List FlaggedItem) (p : ParserState) →
    Behind o start before p →
    FedRows o start (before ++ is) (feed_all o is p)
all_rows o start before [] p h = tt
all_rows o start before (i ∷ is) p h =
    then_rows o start before is i (feed o i (next_line is) p)
    (item_rows o start before i.item i.begins_key is (next_line is) p h)
    (λ q c. all_rows o start (before ++ (i ∷ [])) is q c)

pub rows_refused : (o : OptionsData) (p : ParserState) (items : List FlaggedItem) (f : Fault) → p.waiting ≡ None →
    p.given ≡ [] →
    feed_all o items p ≡ Err f →
    RefusesRow o (quiet o p) items f ⊎ (feed_all o (asked_items false items) (quiet o p) ≡ Err f)
rows_refused o p items f n e r =
    subst (FedRows o (quiet o p) items) r
    (all_rows o (quiet o p) [] items p (record {
      calm = subst (CalmBy p.frames) (sym n) tt;
      clean = e;
      events = [];
      fed = refl;
      rows = subst (RowBy o []) (sym n) tt;
    }))
