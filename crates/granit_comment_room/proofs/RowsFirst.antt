-- The first comment too many is what items are refused for.
pub use Rattle.granit_feeding.proofs.RoomSteps.{CalmBy, calm_by}
pub use Rattle.granit_quiet.proofs.Telling.{only_append}
pub use Rattle.granit_quiet.proofs.TellStream.{colon_left, items_told, no_dash_colon}
pub use Rattle.granit_quiet.proofs.Quieting.{but_append}
pub use Rattle.granit_quiet.proofs.CommentLaws.{CommentFed, FedBy, comment_fed, lexeme_fed}
use Rattle.std.proofs.Common.{◌≡◌, ℕ, suc, ◌+◌, Bool, false, arith, List, [], ◌∷◌, ◌++◌, length, ◌⊎◌, inl, inr, Option}
use Rattle.std.proofs.Common.{Some, None, Ok, Err, refl, sym, ap, subst, ◌∙◌, append_assoc}
use Rattle.std.proofs.lemmas.List.{append-nil}
use Rattle.granit_error.specs.OptionsData.{OptionsData}
use Rattle.granit_lexemes.specs.Comment.{CommentRead}
use Rattle.granit_lexemes.specs.Lexeme.{Lexeme, Item, OfLexeme, OfComment}
use Rattle.granit_lexemes.specs.Outcome.{Fault, fault_at, ◌>>=◌}
use Rattle.granit_error.specs.FaultKind.{TooManyComments}
use Rattle.granit_lexemes.specs.Pieces.{with_front}
use Rattle.granit_lexemes.specs.PlainEvent.{PlainEvent}
use Rattle.granit_quiet.specs.Quiet.{AreComments, tail_comments}
use Rattle.granit_machine.proofs.ClosingLemmas.{FeedGiven}
use Rattle.granit_machine.specs.Frames.{Waiting, ParserState}
use Rattle.granit_machine.specs.Lexing.{FlaggedItem}
use Rattle.granit_machine.specs.Machine.{asked_items, feed_all}
use Rattle.granit_machine.specs.Parser.{next_line, feed}
use Rattle.granit_quiet.specs.Quiet.{quiet, waits_alone}
use Rattle.granit_comment_room.specs.RefusedRows.{RefusesRow, NoRow, FirstRow}
use Rattle.granit_quiet.proofs.CommentLaws.{items_given}
use Rattle.granit_comment_room.proofs.RowRuns.{of_lexeme, asked_append, RowBehind, RowBy, Behind, StepRows}
use Rattle.granit_comment_room.proofs.RowRuns.{length_last, bare_front, item_rows}

-- ---- lists

-- one of two lists that begin a third begins the other
abbrev Met : {A : Type 0} → (xs ys us vs : List A) → Type 0
Met {A = A} xs ys us vs =
    ((m : List A) × (us ≡ xs ++ m) × (ys ≡ m ++ vs)) ⊎ ((m : List A) × (xs ≡ us ++ m) × (vs ≡ m ++ ys))

met_on : {A : Type 0} (x : A) (xs ys us vs : List A) → Met xs ys us vs → Met (x ∷ xs) ys (x ∷ us) vs
met_on x xs ys us vs (inl (m, e, f)) = inl (m, ap (λ l. x ∷ l) e, f)
met_on x xs ys us vs (inr (m, e, f)) = inr (m, ap (λ l. x ∷ l) e, f)

meet : {A : Type 0} (xs ys us vs : List A) → xs ++ ys ≡ us ++ vs → Met xs ys us vs
meet [] ys us vs e = inl (us, refl, e)
meet (x ∷ xs) ys [] vs e = inr (x ∷ xs, refl, sym e)
meet (x ∷ xs) ys (u ∷ us) vs e =
    let same : x ≡ u = cc (e) in
    let rest : xs ++ ys ≡ us ++ vs = cc (e) in
    subst (λ u. Met (x ∷ xs) ys (u ∷ us) vs) same (met_on x xs ys us vs (meet xs ys us vs rest))

last_same : {A : Type 0} (xs ys : List A) (a b : A) → xs ++ (a ∷ []) ≡ ys ++ (b ∷ []) → a ≡ b
last_same [] [] a b e = cc (e)
last_same [] (y ∷ []) a b e = absurd cc
last_same [] (y ∷ z ∷ ys) a b e = absurd cc
last_same (x ∷ []) [] a b e = absurd cc
last_same (x ∷ z ∷ xs) [] a b e = absurd cc
last_same (x ∷ xs) (y ∷ ys) a b e = let rest : xs ++ (a ∷ []) ≡ ys ++ (b ∷ []) = cc (e) in last_same xs ys a b rest

-- ---- comments in a row

no_lexeme : (x : Item) (l : Lexeme) (c : CommentRead) → x ≡ OfLexeme l → x ≡ OfComment c → ⊥
no_lexeme x l c e f = absurd cc

-- no lexeme stands among comments
never_lexeme : (front back : List FlaggedItem) (l : Lexeme) (b : Bool) (cs : List CommentRead) →
    AreComments (front ++ (of_lexeme l b ∷ back)) cs → ⊥
never_lexeme [] back l b [] a = a
never_lexeme [] back l b (c ∷ cs) a = no_lexeme (OfLexeme l) l c refl a.0
never_lexeme (i ∷ front) back l b [] a = a
never_lexeme (i ∷ front) back l b (c ∷ cs) a = never_lexeme front back l b cs a.1

one_comment : (x y : Item) (c d : CommentRead) → x ≡ OfComment c → y ≡ OfComment d → x ≡ y → c ≡ d
one_comment x y c d e f g = cc (e, f, g)

same_comments : (is js : List FlaggedItem) (cs ds : List CommentRead) → AreComments is cs → AreComments js ds →
    is ≡ js →
    cs ≡ ds
same_comments [] [] [] [] a b e = refl
same_comments [] [] [] (d ∷ ds) a b e = absurd b
same_comments [] [] (c ∷ cs) ds a b e = absurd a
same_comments [] (j ∷ js) cs ds a b e = absurd cc
same_comments (i ∷ is) [] cs ds a b e = absurd cc
same_comments (i ∷ is) (j ∷ js) [] ds a b e = absurd a
same_comments (i ∷ is) (j ∷ js) (c ∷ cs) [] a b e = absurd b
same_comments (i ∷ is) (j ∷ js) (c ∷ cs) (d ∷ ds) a b e =
    let first : i ≡ j = cc (e) in
    let rest : is ≡ js = cc (e) in
    let one : c ≡ d = one_comment i.item j.item c d a.0 b.0 (ap (λ (i : FlaggedItem). i.item) first) in
    let more : cs ≡ ds = same_comments is js cs ds a.1 b.1 rest in
    ap (λ c. c ∷ cs) one ∙ ap (λ cs. d ∷ cs) more

-- as many comments that begin one list
first_comments : (is xs js ys : List FlaggedItem) (cs ds : List CommentRead) → AreComments is cs → AreComments js ds →
    is ++ xs ≡ js ++ ys → length cs ≡ length ds → cs ≡ ds
first_comments [] xs [] ys [] [] a b e n = refl
first_comments [] xs [] ys [] (d ∷ ds) a b e n = absurd b
first_comments [] xs [] ys (c ∷ cs) ds a b e n = absurd a
first_comments [] xs (j ∷ js) ys [] [] a b e n = absurd b
first_comments [] xs (j ∷ js) ys [] (d ∷ ds) a b e n = absurd cc
first_comments [] xs (j ∷ js) ys (c ∷ cs) ds a b e n = absurd a
first_comments (i ∷ is) xs [] ys [] ds a b e n = absurd a
first_comments (i ∷ is) xs [] ys (c ∷ cs) [] a b e n = absurd cc
first_comments (i ∷ is) xs [] ys (c ∷ cs) (d ∷ ds) a b e n = absurd b
first_comments (i ∷ is) xs (j ∷ js) ys [] ds a b e n = absurd a
first_comments (i ∷ is) xs (j ∷ js) ys (c ∷ cs) [] a b e n = absurd b
first_comments (i ∷ is) xs (j ∷ js) ys (c ∷ cs) (d ∷ ds) a b e n =
    let first : i ≡ j = cc (e) in
    let rest : is ++ xs ≡ js ++ ys = cc (e) in
    let fewer : length cs ≡ length ds = cc (n) in
    let one : c ≡ d = one_comment i.item j.item c d a.0 b.0 (ap (λ (i : FlaggedItem). i.item) first) in
    let more : cs ≡ ds = first_comments is xs js ys cs ds a.1 b.1 rest fewer in
    ap (λ c. c ∷ cs) one ∙ ap (λ cs. d ∷ cs) more

-- a row that begins what stands in front of a lexeme, and more
row_within : (row rest front back : List FlaggedItem) (l : Lexeme) (b : Bool) (cs : List CommentRead) →
    AreComments row cs →
    row ++ rest ≡ front ++ (of_lexeme l b ∷ back) → (m : List FlaggedItem) × (front ≡ row ++ m)
row_within row rest front back l b cs a e = on (meet row rest front (of_lexeme l b ∷ back) e)
  where
    by : (k : List FlaggedItem) → row ≡ front ++ k → of_lexeme l b ∷ back ≡ k ++ rest → (m : List FlaggedItem)
        × (front ≡ row ++ m)
    by [] f g = ([], sym (append-nil front) ∙ (sym f ∙ sym (append-nil row)))
    by (x ∷ k) f g =
        let same : of_lexeme l b ≡ x = cc (g) in
        absurd (never_lexeme front k l b cs
        (subst (λ row. AreComments row cs) (f ∙ ap (λ x. front ++ (x ∷ k)) (sym same)) a))

    on : Met row rest front (of_lexeme l b ∷ back) → (m : List FlaggedItem) × (front ≡ row ++ m)
    on (inl (m, f, g)) = (m, f)
    on (inr (m, f, g)) = by m f g

-- the last lexeme of a list, and the comments behind it
record LastRow : Type 0 where
  lexeme : Lexeme
  flag : Bool
  row : List FlaggedItem
  comments : List CommentRead
  are : AreComments row comments

abbrev row_items : LastRow → List FlaggedItem
row_items r = of_lexeme r.lexeme r.flag ∷ r.row

record SameEnd (r s : LastRow) : Type 0 where
  lexemes : r.lexeme ≡ s.lexeme
  rows : r.comments ≡ s.comments

lexeme_same : (l k : Lexeme) (b c : Bool) → of_lexeme l b ≡ of_lexeme k c → l ≡ k
lexeme_same l k b c e = cc (ap (λ (i : FlaggedItem). i.item) e)

same_end : (front others : List FlaggedItem) (r s : LastRow) → front ++ row_items r ≡ others ++ row_items s →
    SameEnd r s
same_end [] [] r s e =
    let first : of_lexeme r.lexeme r.flag ≡ of_lexeme s.lexeme s.flag = cc (e) in
    let rest : r.row ≡ s.row = cc (e) in
    record {
      lexemes = lexeme_same r.lexeme s.lexeme r.flag s.flag first;
      rows = same_comments r.row s.row r.comments s.comments r.are s.are rest;
    }
same_end [] (o ∷ others) r s e =
    let rest : r.row ≡ others ++ row_items s = cc (e) in
    absurd
    (never_lexeme others s.row s.lexeme s.flag r.comments (subst (λ is. AreComments is r.comments) rest r.are))
same_end (f ∷ front) [] r s e =
    let rest : s.row ≡ front ++ row_items r = cc (e) in
    absurd (never_lexeme front r.row r.lexeme r.flag s.comments (subst (λ is. AreComments is s.comments) rest s.are))
same_end (f ∷ front) (o ∷ others) r s e =
    let rest : front ++ row_items r ≡ others ++ row_items s = cc (e) in
    same_end front others r s rest

-- ---- rows in more items

module _ (o : OptionsData) (start : ParserState) where
  -- the row of these items in more of them
  more_row : (items more all : List FlaggedItem) (f : Fault) → all ≡ items ++ more → RefusesRow o start items f →
      RefusesRow o start all f
  more_row items more all f e r =
      record {
        front = r.front;
        row =
            record {
              lexeme = r.row.lexeme;
              flag = r.row.flag;
              row = r.row.row;
              comments = r.row.comments;
              rest = r.row.rest ++ more;
              is =
                  e ∙ ap (λ (xs : List FlaggedItem). xs ++ more) r.row.is
                  ∙ append_assoc r.front (of_lexeme r.row.lexeme r.row.flag ∷ (r.row.row ++ r.row.rest)) more
                  ∙ ap (λ (xs : List FlaggedItem). r.front ++ (of_lexeme r.row.lexeme r.row.flag ∷ xs))
                  (append_assoc r.row.row r.row.rest more);
              are = r.row.are;
              kept = r.row.kept;
              one = r.row.one;
              more = r.row.more;
              full = r.row.full;
              fault_is = r.row.fault_is;
            };
        events = r.events;
        state = r.state;
        waiting = r.waiting;
        fed = r.fed;
        waits = r.waits;
      }

  -- the row of items in those of them that it stands in
  within_row : (items some more : List FlaggedItem) (f : Fault) (r : RefusesRow o start items f) →
      some ≡ r.front ++ (of_lexeme r.row.lexeme r.row.flag ∷ (r.row.row ++ more)) → RefusesRow o start some f
  within_row items some more f r e =
      record {
        front = r.front;
        row =
            record {
              lexeme = r.row.lexeme;
              flag = r.row.flag;
              row = r.row.row;
              comments = r.row.comments;
              rest = more;
              is = e;
              are = r.row.are;
              kept = r.row.kept;
              one = r.row.one;
              more = r.row.more;
              full = r.row.full;
              fault_is = r.row.fault_is;
            };
        events = r.events;
        state = r.state;
        waiting = r.waiting;
        fed = r.fed;
        waits = r.waits;
      }

  fewer_none : (items more all : List FlaggedItem) → all ≡ items ++ more → NoRow o start all → NoRow o start items
  fewer_none items more all e none f r = none f (more_row items more all f e r)

  -- up to the end of its row
  abbrev whole_row : {items : List FlaggedItem} {f : Fault} → RefusesRow o start items f → List FlaggedItem
  whole_row r = r.front ++ (of_lexeme r.row.lexeme r.row.flag ∷ r.row.row)

  whole_is : (items : List FlaggedItem) (f : Fault) (r : RefusesRow o start items f) → items ≡ whole_row r ++ r.row.rest
  whole_is items f r =
      r.row.is ∙ sym (append_assoc r.front (of_lexeme r.row.lexeme r.row.flag ∷ r.row.row) r.row.rest)

  -- a row stands in what comes before an item, or takes it
  abbrev Passes : (before : List FlaggedItem) → FlaggedItem → (f : Fault) → List FlaggedItem → Type 0
  Passes before i f whole = RefusesRow o start before f ⊎ ((m : List FlaggedItem) × (whole ≡ before ++ (i ∷ m)))

  passes_by :
      (before is : List FlaggedItem) (i : FlaggedItem) (f : Fault) (r : RefusesRow o start (before ++ (i ∷ is)) f) →
      (m : List FlaggedItem) → whole_row r ≡ before ++ m → i ∷ is ≡ m ++ r.row.rest → Passes before i f (whole_row r)
  passes_by before is i f r [] e g =
      inl (within_row (before ++ (i ∷ is)) before [] f r
      (sym (append-nil before) ∙ sym e
      ∙ ap (λ (xs : List FlaggedItem). r.front ++ (of_lexeme r.row.lexeme r.row.flag ∷ xs))
      (sym (append-nil r.row.row))))
  passes_by before is i f r (j ∷ m) e g =
      let same : i ≡ j = cc (g) in inr (m, e ∙ ap (λ i. before ++ (i ∷ m)) (sym same))

  passes :
      (before is : List FlaggedItem) (i : FlaggedItem) (f : Fault) (r : RefusesRow o start (before ++ (i ∷ is)) f) →
      Passes before i f (whole_row r)
  passes before is i f r =
      on (meet (whole_row r) r.row.rest before (i ∷ is) (sym (whole_is (before ++ (i ∷ is)) f r)))
    where
      on : Met (whole_row r) r.row.rest before (i ∷ is) → Passes before i f (whole_row r)
      on (inl (m, e, g)) =
          inl (within_row (before ++ (i ∷ is)) before m f r
          (e ∙ append_assoc r.front (of_lexeme r.row.lexeme r.row.flag ∷ r.row.row) m))
      on (inr (m, e, g)) = passes_by before is i f r m e g

  -- without its comments a row is its lexeme
  bare_whole : (items : List FlaggedItem) (f : Fault) (r : RefusesRow o start items f) →
      feed_all o (asked_items false (whole_row r)) start ≡ Ok (r.events, r.state)
  bare_whole items f r =
      ap (λ (xs : List FlaggedItem). feed_all o xs start)
      (bare_front o start [] r.front r.row.row r.row.lexeme r.row.flag r.row.comments r.row.are)
      ∙ r.fed

  -- ---- what waits has no room for a row too long

  too_long : (n room max k : ℕ) → n + room ≡ max → n ≡ suc k → k ≡ max → ⊥
  too_long n room max k e f g = grind (arith)

  no_room : (before : List FlaggedItem) (p : ParserState) (f : Fault) → Behind o start before p →
      (r : RefusesRow o start before f) → whole_row r ≡ before → ⊥
  no_room before p f h r e = on p.waiting refl
    where
      states : (es ds : List PlainEvent) (p q : ParserState) → ◌≡◌ {A = FeedGiven} (Ok (es, p)) (Ok (ds, q)) → p ≡ q
      states es ds p q e =
          let both : ◌≡◌ {A = List PlainEvent × ParserState} (es, p) (ds, q) = cc (e) in
          ap (λ (x : List PlainEvent × ParserState). x.1) both

      waits : waits_alone o.max_buffered_comment_events p.waiting ≡ Some r.waiting
      waits =
          ap (λ (p : ParserState). p.waiting)
          (states h.events r.events (quiet o p) r.state
          (sym h.fed
          ∙ ap (λ (xs : List FlaggedItem). feed_all o (asked_items false xs) start) (sym e)
          ∙ bare_whole before f r))
          ∙ r.waits

      none_waits : (w : Waiting) → ◌≡◌ {A = Option Waiting} None (Some w) → ⊥
      none_waits w e = cc (e)

      full : (w : Waiting) → RowBehind o before w.room → ⊥
      full w b =
          let same =
          same_end r.front b.front
          (record {
            lexeme = r.row.lexeme;
            flag = r.row.flag;
            row = r.row.row;
            comments = r.row.comments;
            are = r.row.are;
          })
          (record { lexeme = b.lexeme; flag = b.flag; row = b.row; comments = b.comments; are = b.are }) (e ∙ b.is) in
          let rows : tail_comments b.lexeme.tail ++ b.comments ≡ r.row.kept ++ (r.row.one ∷ []) =
          sym (ap (λ (l : Lexeme). tail_comments l.tail ++ r.row.comments) same.lexemes
          ∙ ap (λ cs. tail_comments b.lexeme.tail ++ cs) same.rows)
          ∙ r.row.more in
          too_long (length (tail_comments b.lexeme.tail ++ b.comments)) w.room o.max_buffered_comment_events
          (length r.row.kept)
          b.left (ap length rows ∙ length_last r.row.kept r.row.one) r.row.full

      on : (w : Option Waiting) → p.waiting ≡ w → ⊥
      on None n = none_waits r.waiting (sym (ap (waits_alone o.max_buffered_comment_events) n) ∙ waits)
      on (Some w) n = full w (subst (RowBy o before) n h.rows)

  -- ---- one item more

  abbrev FedFirst : List FlaggedItem → FeedGiven → Type 0
  FedFirst items (Ok x) = NoRow o start items
  FedFirst items (Err f) =
      FirstRow o start items f ⊎ (NoRow o start items × (feed_all o (asked_items false items) start ≡ Err f))

  none_behind : (before : List FlaggedItem) (i : FlaggedItem) (p : ParserState) → NoRow o start before →
      Behind o start (before ++ (i ∷ [])) p → NoRow o start (before ++ (i ∷ []))
  none_behind before i p none h f r = on (passes before [] i f r)
    where
      ends : (m : List FlaggedItem) → whole_row r ≡ before ++ (i ∷ m) → ⊥
      ends m e =
          no_room (before ++ (i ∷ [])) p f h r
          (e ∙ ap (λ m. before ++ (i ∷ m)) (nothing_more before m (whole_row r) e
          (whole_is (before ++ (i ∷ [])) f r)))
        where
          tail_of : (before m rest : List FlaggedItem) → before ++ (i ∷ []) ≡ (before ++ (i ∷ m)) ++ rest → m ≡ []
          tail_of [] [] rest e = refl
          tail_of [] (x ∷ m) rest e = absurd cc
          tail_of (x ∷ before) m rest e =
              let more : before ++ (i ∷ []) ≡ (before ++ (i ∷ m)) ++ rest = cc (e) in tail_of before m rest more

          nothing_more : (before m whole : List FlaggedItem) → whole ≡ before ++ (i ∷ m) →
              before ++ (i ∷ []) ≡ whole ++ r.row.rest → m ≡ []
          nothing_more before m whole e g = tail_of before m r.row.rest (g ∙ ap (λ xs. xs ++ r.row.rest) e)

      on : Passes before i f (whole_row r) → ⊥
      on (inl b) = none f b
      on (inr (m, e)) = ends m e

  -- a row that takes the last item begins before it
  first_behind : (before is : List FlaggedItem) (i : FlaggedItem) (f : Fault) → NoRow o start before →
      RefusesRow o start (before ++ (i ∷ [])) f → FirstRow o start (before ++ (i ∷ is)) f
  unfolding more_row
  first_behind before is i f none r =
      record {
        row = more_row (before ++ (i ∷ [])) is (before ++ (i ∷ is)) f (sym (append_assoc before (i ∷ []) is)) r;
        first = on (passes before [] i f r);
      }
    where
      by : Met r.front (of_lexeme r.row.lexeme r.row.flag ∷ (r.row.row ++ r.row.rest)) before (i ∷ []) →
          NoRow o start r.front
      by (inl (m, e, g)) = fewer_none r.front m before e none
      by (inr ([], e, g)) =
          fewer_none r.front [] before (sym (append-nil before) ∙ sym e ∙ sym (append-nil r.front)) none
      by (inr (j ∷ [], e, g)) = absurd cc
      by (inr (j ∷ k ∷ m, e, g)) = absurd cc

      on : Passes before i f (whole_row r) → NoRow o start r.front
      on (inl b) = absurd (none f b)
      on (inr e) =
          by (meet r.front (of_lexeme r.row.lexeme r.row.flag ∷ (r.row.row ++ r.row.rest)) before (i ∷ [])
          (sym r.row.is))

  never_both : (y : List PlainEvent × ParserState) (f : Fault) (r : FeedGiven) → r ≡ Ok y → r ≡ Err f → ⊥
  never_both y f r a b = absurd cc

  err_then : (before more : List FlaggedItem) (f : Fault) → feed_all o (asked_items false before) start ≡ Err f →
      feed_all o (asked_items false (before ++ more)) start ≡ Err f
  err_then before more f e =
      asked_append o before more start
      ∙ ap (λ (r : FeedGiven). r >>= λ x. with_front x.0 (feed_all o (asked_items false more) x.1)) e

  none_refused : (before is : List FlaggedItem) (i : FlaggedItem) (g : Fault) → NoRow o start before →
      feed_all o (asked_items false (before ++ (i ∷ []))) start ≡ Err g → NoRow o start (before ++ (i ∷ is))
  none_refused before is i g none e f r = on (passes before is i f r)
    where
      on : Passes before i f (whole_row r) → ⊥
      on (inl b) = none f b
      on (inr (m, h)) =
          never_both (r.events, r.state) g (feed_all o (asked_items false (whole_row r)) start)
          (bare_whole (before ++ (i ∷ is)) f r)
          (ap (λ (xs : List FlaggedItem). feed_all o (asked_items false xs) start)
          (h ∙ sym (append_assoc before (i ∷ []) m))
          ∙ err_then (before ++ (i ∷ [])) m g e)

  -- ---- all items

  then_first : (before is : List FlaggedItem) (i : FlaggedItem) (r : FeedGiven) → NoRow o start before →
      StepRows o start before i [] r →
      ((q : ParserState) → Behind o start (before ++ (i ∷ [])) q → NoRow o start (before ++ (i ∷ [])) →
      FedFirst ((before ++ (i ∷ [])) ++ is) (feed_all o is q)) →
      FedFirst (before ++ (i ∷ is)) (r >>= λ x. with_front x.0 (feed_all o is x.1))
  then_first before is i (Err f) none (inl r) more = inl (first_behind before is i f none r)
  then_first before is i (Err f) none (inr e) more =
      inr (
        none_refused before is i f none e,
        subst (λ (xs : List FlaggedItem). feed_all o (asked_items false xs) start ≡ Err f)
            (append_assoc before (i ∷ []) is)
            (err_then (before ++ (i ∷ [])) is f e),
      )
  then_first before is i (Ok x) none h more =
      front_first (feed_all o is x.1)
      (subst (λ items. FedFirst items (feed_all o is x.1)) (append_assoc before (i ∷ []) is)
      (more x.1 h (none_behind before i x.1 none h)))
    where
      front_first : (r : FeedGiven) → FedFirst (before ++ (i ∷ is)) r → FedFirst (before ++ (i ∷ is)) (with_front x.0 r)
      front_first (Ok y) h = h
      front_first (Err f) h = h

  all_first : (before is : List FlaggedItem) (p : ParserState) → Behind o start before p → NoRow o start before →
      FedFirst (before ++ is) (feed_all o is p)
  all_first before [] p h none = subst (λ xs. NoRow o start xs) (sym (append-nil before)) none
  all_first before (i ∷ is) p h none =
      then_first before is i (feed o i (next_line is) p) none
      (item_rows o start before i.item i.begins_key [] (next_line is) p h)
      (λ q c n. all_first (before ++ (i ∷ [])) is q c n)

  -- ---- one first row

  no_row_in_none : NoRow o start []
  no_row_in_none f r = on r.front (sym r.row.is)
    where
      on : (front : List FlaggedItem) →
          front ++ (of_lexeme r.row.lexeme r.row.flag ∷ (r.row.row ++ r.row.rest)) ≡ [] → ⊥
      on [] e = absurd cc
      on (x ∷ front) e = absurd cc

  plus_same : (a m n : ℕ) → a + m ≡ a + n → m ≡ n
  plus_same a m n e = grind (arith)

  length_both : (xs ys : List CommentRead) → length (xs ++ ys) ≡ length xs + length ys
  length_both [] ys = grind (arith)
  length_both (x ∷ xs) ys = ap suc (length_both xs ys) ∙ plus_suc (length xs) (length ys)
    where
      plus_suc : (m n : ℕ) → suc (m + n) ≡ suc m + n
      plus_suc m n = grind (arith)

  as_many : (tail : Option CommentRead) (cs ds kept others : List CommentRead) (c d : CommentRead) →
      tail_comments tail ++ cs ≡ kept ++ (c ∷ []) → tail_comments tail ++ ds ≡ others ++ (d ∷ []) →
      length kept ≡ length others → length cs ≡ length ds
  as_many tail cs ds kept others c d e f n =
      plus_same (length (tail_comments tail)) (length cs) (length ds)
      (sym (length_both (tail_comments tail) cs)
      ∙ (ap length e ∙ length_last kept c)
      ∙ ap suc n
      ∙ sym (ap length f ∙ length_last others d)
      ∙ length_both (tail_comments tail) ds)

  -- one of two rows begins in front of the other, or with it
  one_by : (items : List FlaggedItem) (f g : Fault) (r : RefusesRow o start items f) (q : RefusesRow o start items g) →
      NoRow o start q.front → (m : List FlaggedItem) → q.front ≡ r.front ++ m →
      of_lexeme r.row.lexeme r.row.flag ∷ (r.row.row ++ r.row.rest)
      ≡ m ++ (of_lexeme q.row.lexeme q.row.flag ∷ (q.row.row ++ q.row.rest)) → f ≡ g
  one_by items f g r q none [] e h =
      let same : r.row.lexeme ≡ q.row.lexeme =
      lexeme_same r.row.lexeme q.row.lexeme r.row.flag q.row.flag cc in
      let rest : r.row.row ++ r.row.rest ≡ q.row.row ++ q.row.rest = cc (h) in
      let tails : tail_comments r.row.lexeme.tail ++ q.row.comments ≡ q.row.kept ++ (q.row.one ∷ []) =
      ap (λ (l : Lexeme). tail_comments l.tail ++ q.row.comments) same ∙ q.row.more in
      let many =
      as_many r.row.lexeme.tail r.row.comments q.row.comments r.row.kept q.row.kept r.row.one q.row.one r.row.more tails
      (r.row.full ∙ sym q.row.full) in
      let rows =
      first_comments r.row.row r.row.rest q.row.row q.row.rest r.row.comments q.row.comments r.row.are q.row.are rest
      many in
      let ones : r.row.one ≡ q.row.one =
      last_same r.row.kept q.row.kept r.row.one q.row.one
      (sym r.row.more ∙ ap (λ cs. tail_comments r.row.lexeme.tail ++ cs) rows ∙ tails) in
      r.row.fault_is ∙ ap (λ (c : CommentRead). fault_at TooManyComments c.source.start) ones ∙ sym q.row.fault_is
  one_by items f g r q none (x ∷ m) e h =
      let first : of_lexeme r.row.lexeme r.row.flag ≡ x = cc (h) in
      let rest : r.row.row ++ r.row.rest ≡ m ++ (of_lexeme q.row.lexeme q.row.flag ∷ (q.row.row ++ q.row.rest)) = cc
      (h) in
      let within = row_within r.row.row r.row.rest m
      (q.row.row ++ q.row.rest) q.row.lexeme q.row.flag r.row.comments r.row.are rest in
      absurd (none f (within_row items q.front within.0 f r
      (e ∙ ap (λ x. r.front ++ (x ∷ m)) (sym first)
      ∙ ap (λ m. r.front ++ (of_lexeme r.row.lexeme r.row.flag ∷ m)) within.1)))

  one_first :
      (items : List FlaggedItem) (f g : Fault) (r : RefusesRow o start items f) (q : RefusesRow o start items g) →
      NoRow o start r.front → NoRow o start q.front → f ≡ g
  one_first items f g r q a b =
      on (meet r.front (of_lexeme r.row.lexeme r.row.flag ∷ (r.row.row ++ r.row.rest)) q.front
      (of_lexeme q.row.lexeme q.row.flag ∷ (q.row.row ++ q.row.rest)) (sym r.row.is ∙ q.row.is))
    where
      on : Met r.front (of_lexeme r.row.lexeme r.row.flag ∷ (r.row.row ++ r.row.rest)) q.front
          (of_lexeme q.row.lexeme q.row.flag ∷ (q.row.row ++ q.row.rest)) → f ≡ g
      on (inl (m, e, h)) = one_by items f g r q b m e h
      on (inr (m, e, h)) = sym (one_by items g f q r a m e h)

-- ---- from a fresh state

fed_first : (o : OptionsData) (p : ParserState) (items : List FlaggedItem) → p.waiting ≡ None → p.given ≡ [] →
    FedFirst o (quiet o p) items (feed_all o items p)
fed_first o p items n e =
    all_first o (quiet o p) [] items p
    (record {
      calm = subst (CalmBy p.frames) (sym n) tt;
      clean = e;
      events = [];
      fed = refl;
      rows = subst (RowBy o []) (sym n) tt;
    })
    (no_row_in_none o (quiet o p))

pub first_refused : (o : OptionsData) (p : ParserState) (items : List FlaggedItem) (f : Fault) → p.waiting ≡ None →
    p.given ≡ [] → feed_all o items p ≡ Err f →
    FirstRow o (quiet o p) items f
    ⊎ (NoRow o (quiet o p) items × (feed_all o (asked_items false items) (quiet o p) ≡ Err f))
first_refused o p items f n e r = subst (FedFirst o (quiet o p) items) r (fed_first o p items n e)

pub none_given : (o : OptionsData) (p q : ParserState) (items : List FlaggedItem) (es : List PlainEvent) →
    p.waiting ≡ None →
    p.given ≡ [] → feed_all o items p ≡ Ok (es, q) → NoRow o (quiet o p) items
none_given o p q items es n e r = subst (FedFirst o (quiet o p) items) r (fed_first o p items n e)

pub row_refuses : (o : OptionsData) (p : ParserState) (items : List FlaggedItem) (f : Fault) → p.waiting ≡ None →
    p.given ≡ [] → FirstRow o (quiet o p) items f → feed_all o items p ≡ Err f
row_refuses o p items f n e r = on (feed_all o items p) (fed_first o p items n e)
  where
    on : (a : FeedGiven) → FedFirst o (quiet o p) items a → a ≡ Err f
    on (Ok x) none = absurd (none f r.row)
    on (Err g) (inl q) =
        ap (λ (f : Fault). let r : FeedGiven = Err f in r)
        (one_first o (quiet o p) items g f q.row r.row q.first r.first)
    on (Err g) (inr q) = absurd (q.0 f r.row)

-- ---- with and without comments

-- what is given without comments and with them is answered or refused alike
abbrev pub Alike : FeedGiven → FeedGiven → Type 0
Alike (Ok x) s = (y : List PlainEvent × ParserState) × (s ≡ Ok y)
Alike (Err f) s = s ≡ Err f

pub fed_alike : (o : OptionsData) (p : ParserState) (items : List FlaggedItem) → p.waiting ≡ None → p.given ≡ [] →
    NoRow o (quiet o p) items → Alike (feed_all o (asked_items false items) (quiet o p)) (feed_all o items p)
fed_alike o p items n e none = on (feed_all o items p) refl (fed_first o p items n e)
  where
    on : (a : FeedGiven) → feed_all o items p ≡ a → FedFirst o (quiet o p) items a →
        Alike (feed_all o (asked_items false items) (quiet o p)) a
    on (Ok x) r h =
        subst (λ (r : FeedGiven). Alike r (Ok x)) (sym (items_given o items p x.1 x.0 e r)) (x, refl)
    on (Err g) r (inl q) = absurd (none g q.row)
    on (Err g) r (inr q) = subst (λ (r : FeedGiven). Alike r (Err g)) (sym q.1) refl
