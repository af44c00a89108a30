-- A document mark of a sort that waits is the last item that was read, and nothing is read before it is used.
use Rattle.std.proofs.Common.{◌≡◌, Bool, true, false, ◌||◌, ◌&&◌, not, List, [], ◌∷◌, ◌++◌, Option, Some, None, Result}
use Rattle.std.proofs.Common.{Ok}
use Rattle.std.proofs.Common.{Err, refl, ap, subst, ◌∙◌, map}
use Rattle.std.proofs.lemmas.Bool.{or_parts}
use Rattle.std.specs.Prelude.{if◌then◌else◌}
use Rattle.granit_error.specs.OptionsData.{OptionsData}
use Rattle.granit_lexemes.specs.Here.{Here}
use Rattle.granit_lexemes.specs.Lexeme.{Lexeme, LexemeKind, Item, OfLexeme, OfComment}
use Rattle.granit_lexemes.specs.Outcome.{Fault, ◌>>=◌}
use Rattle.granit_lexemes.specs.PlainEvent.{PlainEvent}
use Rattle.granit_machine.specs.Frames.{ParserState}
use Rattle.granit_machine.specs.Laid.{Laid}
use Rattle.granit_machine.specs.Lexing.{FlaggedItem}
use Rattle.granit_machine.specs.Machine.{is_settled}
use Rattle.granit_machine.specs.Parser.{feed}
use Rattle.granit_machine.specs.Reader.{LexState, behind_read, lex_turn, read}
use Rattle.granit_machine.specs.ReaderState.{Read, ReaderState}
use Rattle.granit_restart.proofs.MarkLaws.{MarksSettled, items, pushed_items}
use Rattle.granit_restart.proofs.MarkReads.{any_marks, is_mark, marks}
use Rattle.granit_steps.proofs.Futures.{pushed_nil}
use Rattle.granit_steps.specs.Steps.{StepState, asks_next, incoming, is_next_settled, is_open_comment, line_behind}
use Rattle.granit_steps.specs.Steps.{marked_by, may_go}
use Rattle.granit_steps.specs.Steps.{pushed}
use Rattle.granit_steps.specs.Steps.{Turn, front_turn, read_more, read_unless, step_turn, turn_by}
use Rattle.granit_steps.specs.Steps.{with_fed, with_read}

marked_same : (i : Item) (q : List FlaggedItem) → items (map (marked_by i) q) ≡ items q
marked_same i [] = refl
marked_same i (f ∷ q) = ap (λ (is : List Item). f.item ∷ is) (marked_same i q)

tail_of : List FlaggedItem → List FlaggedItem
tail_of [] = []
tail_of (f ∷ q) = q

-- which marks they are, and what is said of one that was read
module _ (has : LexemeKind → Bool) (Stands : Here → Lexeme → Type 0) where
  abbrev pub of_sort : Item → Bool
  of_sort (OfLexeme l) = has l.kind
  of_sort (OfComment c) = false

  abbrev pub any_of : List Item → Bool
  any_of [] = false
  any_of (i ∷ is) = of_sort i || any_of is

  -- items without such a mark, or one alone
  pub data OneIn (after : Here) : List Item → Type 0 where
    none_in : {is : List Item} → any_of is ≡ false → OneIn after is
    one_in : {x : Lexeme} → Stands after x → OneIn after (OfLexeme x ∷ [])

  -- it waits behind other items
  pub record Waits (h : Here) (q : List FlaggedItem) : Type 0 where
    pub front : List FlaggedItem
    pub lexeme : Lexeme
    pub flag : Bool
    pub are : q ≡ front ++ record { item = OfLexeme lexeme; begins_key = flag } ∷ []
    pub before : any_of (items front) ≡ false
    pub stands : Stands h lexeme

  pub data WaitsLast (l : LexState) (q : List FlaggedItem) : Type 0 where
    none_waits : any_of (items q) ≡ false → WaitsLast l q
    one_waits : Waits l.reader.here q → l.fault ≡ None → WaitsLast l q

  -- ---- what comes in

  joined : (xs ys : List Item) → any_of xs ≡ false → any_of (xs ++ ys) ≡ any_of ys
  joined [] ys e = refl
  joined (x ∷ xs) ys e =
      ap (λ (b : Bool). b || any_of (xs ++ ys)) (or_parts (of_sort x) (any_of xs) e).0
      ∙ joined xs ys (or_parts (of_sort x) (any_of xs) e).1

  asked : (b : Bool) (is : List Item) → any_of (incoming b is) ≡ any_of is
  asked true is = refl
  asked false [] = refl
  asked false (OfLexeme l ∷ is) = ap (λ c. has l.kind || c) (asked false is)
  asked false (OfComment c ∷ is) = asked false is

  -- ---- one turn

  abbrev pub TurnLast : Turn → Type 0
  TurnLast (Ok x) = WaitsLast x.1.reading x.1.queue
  TurnLast (Err f) = Unit {0}

  rest_by : (l : LexState) (i : FlaggedItem) (is front : List FlaggedItem) (x : Lexeme) (flag : Bool)
      → i ∷ is ≡ front ++ record { item = OfLexeme x; begins_key = flag } ∷ [] → any_of (items front) ≡ false
      → Stands l.reader.here x → l.fault ≡ None → WaitsLast l is
  unfolding tail_of
  rest_by l i is [] x flag are before stands fault =
      none_waits (ap (λ (q : List FlaggedItem). any_of (items q)) (ap tail_of are))
  rest_by l i is (g ∷ gs) x flag are before stands fault = one_waits (record {
    front = gs;
    lexeme = x;
    flag = flag;
    are = ap tail_of are;
    before = (or_parts (of_sort g.item) (any_of (items gs)) before).1;
    stands = stands;
  }) fault

  rest_last : (l : LexState) (i : FlaggedItem) (is : List FlaggedItem) → WaitsLast l (i ∷ is) → WaitsLast l is
  rest_last l i is (none_waits e) = none_waits (or_parts (of_sort i.item) (any_of (items is)) e).1
  rest_last l i is (one_waits w fault) = rest_by l i is w.front w.lexeme w.flag w.are w.before w.stands fault

  fed_last : (s : StepState) (i : FlaggedItem) (is : List FlaggedItem)
      (r : Result (List PlainEvent × ParserState) Fault) → s.queue ≡ i ∷ is → WaitsLast s.reading s.queue
      → TurnLast (r >>= λ x. Ok (Some [], with_fed s is x))
  fed_last s i is (Ok x) queue p = rest_last s.reading i is (subst (WaitsLast s.reading) queue p)
  fed_last s i is (Err f) queue p = tt

  -- ---- a read

  module _ (untailed : (h : Here) (x : Lexeme) → Stands h x → Stands h (record x { tail = None }))
      (marked : (k : LexemeKind) → has k ≡ true → is_mark k ≡ true)
      (known : (h : Here) (x : Lexeme) → Stands h x → has x.kind ≡ true)
      (right : (h : Here) (x : Lexeme) → Stands h x → is_open_comment x.tail ≡ false) (o : OptionsData)
      (reads : (s after : ReaderState) (is : List Item) → read o s ≡ Ok (is, after) → OneIn after.here is) where
    asked_one : (b : Bool) (h : Here) (x : Lexeme) → Stands h x
        → (y : Lexeme) × (incoming b (OfLexeme x ∷ []) ≡ OfLexeme y ∷ []) × Stands h y
    asked_one true h x stands = (x, refl, stands)
    asked_one false h x stands = (record x { tail = None }, refl, untailed h x stands)

    came_in : (s : StepState) (is : List Item) (after : ReaderState) (ended : Bool) → any_of (items s.queue) ≡ false
        → OneIn after.here is
        → WaitsLast (record { reader = after; ended = ended; fault = None })
        (pushed s.queue (incoming o.emit_comments is))
    came_in s is after ended none (none_in e) =
        none_waits (ap any_of (pushed_items s.queue (incoming o.emit_comments is))
        ∙ joined (items s.queue) (incoming o.emit_comments is) none ∙ asked o.emit_comments is ∙ e)
    came_in s is after ended none (one_in {x = x} stands) =
        let y = asked_one o.emit_comments after.here x stands in
        let i = OfLexeme y.0 in
        one_waits (record {
          front = map (marked_by i) s.queue;
          lexeme = y.0;
          flag = false;
          are = ap (pushed s.queue) y.1;
          before = ap any_of (marked_same i s.queue) ∙ none;
          stands = y.2;
        }) refl

    nothing_came : (s : StepState) (l : LexState) → any_of (items s.queue) ≡ false
        → WaitsLast l (pushed s.queue (incoming o.emit_comments []))
    nothing_came s l none = none_waits (ap (λ (q : List FlaggedItem). any_of (items q))
        (pushed_nil o.emit_comments s.queue) ∙ none)

    read_last : (s : StepState) (r : Read) → read o s.reading.reader ≡ r → any_of (items s.queue) ≡ false
        → TurnLast (behind_read r s.reading.reader >>= λ x. Ok (Some [], with_read o s x))
    read_last s (Ok x) is none = came_in s x.0 x.1 _ none (reads s.reading.reader x.1 x.0 is)
    read_last s (Err f) is none = nothing_came s _ none

    lexed_last : (b : Bool) (s : StepState) → any_of (items s.queue) ≡ false
        → TurnLast ((if b then Ok (None, s.reading) else behind_read (read o s.reading.reader) s.reading.reader)
        >>= λ x. Ok (Some [], with_read o s x))
    lexed_last true s none = nothing_came s s.reading none
    lexed_last false s none = read_last s (read o s.reading.reader) refl none

    unless_last : (f : Option Fault) (s : StepState) → any_of (items s.queue) ≡ false
        → TurnLast (read_unless o f s)
    unfolding lex_turn
    unless_last (Some f) s none = tt
    unless_last None s none = lexed_last s.reading.ended s none

    more_last : (b : Bool) (s : StepState) → WaitsLast s.reading s.queue
        → (b ≡ false → any_of (items s.queue) ≡ false) → TurnLast (read_more o b s)
    more_last true s p none = p
    more_last false s p none = unless_last s.reading.fault s (none refl)

    -- ---- what waits goes before the next read

    start_marks : (is : List Item) → any_of is ≡ true → any_marks is ≡ true
    start_marks [] e = absurd (cc)
    start_marks (i ∷ is) e = on (of_sort i) (marks i) (any_of is) (any_marks is) (is_one i) (start_marks is) e
      where
        on : (a b c d : Bool) → (a ≡ true → b ≡ true) → (c ≡ true → d ≡ true) → (a || c) ≡ true → (b || d) ≡ true
        on true b c d f g e = ap (λ (b : Bool). b || d) (f refl)
        on false true c d f g e = refl
        on false false c d f g e = g e

        is_one : (i : Item) → of_sort i ≡ true → marks i ≡ true
        is_one (OfLexeme l) e = marked l.kind e
        is_one (OfComment c) e = absurd (cc)

    start_in : (h : Here) (q front : List FlaggedItem) (x : Lexeme) (flag : Bool)
        → q ≡ front ++ record { item = OfLexeme x; begins_key = flag } ∷ [] → Stands h x → any_marks (items q) ≡ true
    start_in h q [] x flag are stands =
        start_marks (items q) (ap (λ (q : List FlaggedItem). any_of (items q)) are
        ∙ ap (λ b. b || false) (known h x stands))
    start_in h q (g ∷ gs) x flag are stands =
        ap (λ (q : List FlaggedItem). any_marks (items q)) are
        ∙ on (marks g.item) (start_in h (gs ++ record { item = OfLexeme x; begins_key = flag } ∷ []) gs x flag refl
        stands)
      where
        on : (b : Bool) → any_marks (items (gs ++ record { item = OfLexeme x; begins_key = flag } ∷ [])) ≡ true
            → (b || any_marks (items (gs ++ record { item = OfLexeme x; begins_key = flag } ∷ []))) ≡ true
        on true e = refl
        on false e = e

    goes : (a b c d : Bool) → b ≡ true → d ≡ true → (a || (b && (c || d))) ≡ true
    goes true b c d e f = refl
    goes false b c d e f = ap (λ (b : Bool). b && (c || d)) e ∙ on c f
      where
        on : (c : Bool) → d ≡ true → (c || d) ≡ true
        on true f = refl
        on false f = f

    next_goes : (l : Laid) (q gs : List FlaggedItem) (x : Lexeme) (flag : Bool) (h : Here)
        → q ≡ gs ++ record { item = OfLexeme x; begins_key = flag } ∷ [] → Stands h x → MarksSettled l (items q)
        → is_next_settled l q ≡ true
    next_goes l [] [] x flag h are stands settled = absurd (cc)
    next_goes l [] (g ∷ gs) x flag h are stands settled = absurd (cc)
    next_goes l (j ∷ js) gs x flag h are stands settled = settled.0 (start_in h (j ∷ js) gs x flag are stands)

    front_of : FlaggedItem → List FlaggedItem → FlaggedItem
    front_of i [] = i
    front_of i (f ∷ q) = f

    asks_not : (i : FlaggedItem) (is front : List FlaggedItem) (l : Laid) (x : Lexeme) (flag : Bool) (h : Here)
        → i ∷ is ≡ front ++ record { item = OfLexeme x; begins_key = flag } ∷ [] → Stands h x
        → MarksSettled l (items is) → (not (asks_next i.item) || is_next_settled l is) ≡ true
    unfolding front_of tail_of
    asks_not i is [] l x flag h are stands settled =
        let first : i ≡ record { item = OfLexeme x; begins_key = flag } = ap (front_of i) are in
        ap (λ (f : FlaggedItem). not (asks_next f.item) || is_next_settled l is) first
        ∙ ap (λ b. not b || is_next_settled l is) (right h x stands)
    asks_not i is (g ∷ gs) l x flag h are stands settled =
        on (not (asks_next i.item)) (next_goes l is gs x flag h (ap tail_of are) stands settled)
      where
        on : (b : Bool) → is_next_settled l is ≡ true → (b || is_next_settled l is) ≡ true
        on true e = refl
        on false e = e

    waits_go : (l : LexState) (i : FlaggedItem) (is : List FlaggedItem) → Waits l.reader.here (i ∷ is)
        → MarksSettled l.reader.laid (items (i ∷ is)) → may_go l i is ≡ true
    waits_go l i is w settled =
        goes l.ended (is_settled l.reader.laid i.item) (Rattle.std.specs.Prelude.is_some l.fault)
        (not (asks_next i.item) || is_next_settled l.reader.laid is)
        (settled.0 (start_in l.reader.here (i ∷ is) w.front w.lexeme w.flag w.are w.stands))
        (asks_not i is w.front l.reader.laid w.lexeme w.flag l.reader.here w.are w.stands settled.1)

    none_left : (l : LexState) (i : FlaggedItem) (is : List FlaggedItem) → WaitsLast l (i ∷ is)
        → MarksSettled l.reader.laid (items (i ∷ is)) → may_go l i is ≡ false → any_of (items (i ∷ is)) ≡ false
    none_left l i is (none_waits e) settled stays = e
    none_left l i is (one_waits w fault) settled stays = absurd (let goes = waits_go l i is w settled in cc)

    -- ---- a turn

    front_last : (b : Bool) (i : FlaggedItem) (is : List FlaggedItem) (s : StepState) → s.queue ≡ i ∷ is
        → may_go s.reading i is ≡ b → WaitsLast s.reading s.queue → MarksSettled s.reading.reader.laid (items s.queue)
        → TurnLast (front_turn b o i is s)
    front_last true i is s queue goes p settled = fed_last s i is (feed o i (line_behind s.reading is) s.parser) queue p
    front_last false i is s queue stays p settled =
        more_last s.reading.ended s p (λ e. ap (λ (q : List FlaggedItem). any_of (items q)) queue
        ∙ none_left s.reading i is (subst (WaitsLast s.reading) queue p)
        (subst (λ (q : List FlaggedItem). MarksSettled s.reading.reader.laid (items q)) queue settled) stays)

    by_last : (es : List PlainEvent) (q : List FlaggedItem) (s : StepState) → s.queue ≡ q → WaitsLast s.reading s.queue
        → MarksSettled s.reading.reader.laid (items s.queue) → TurnLast (turn_by o es q s)
    by_last (e ∷ es) q s queue p settled = p
    by_last [] [] s queue p settled =
        more_last s.reading.ended s p (λ e. ap (λ (q : List FlaggedItem). any_of (items q)) queue)
    by_last [] (i ∷ is) s queue p settled = front_last (may_go s.reading i is) i is s queue refl p settled

    pub turn_last : (s : StepState) → WaitsLast s.reading s.queue → MarksSettled s.reading.reader.laid (items s.queue)
        → TurnLast (step_turn o s)
    unfolding step_turn
    turn_last s p settled = by_last s.pending s.queue s refl p settled
