-- What a state of the steps will still give: no turn changes it.
use Rattle.std.proofs.Common.{◌≡◌, ℕ, suc, ◌+◌, ◌<◌, ◌≤◌, ◌&&◌, ◌||◌, not, Bool, true, false, List, [], ◌∷◌, ◌++◌}
use Rattle.std.proofs.Common.{length, map, Option, Some, None, Result, Ok, Err, refl, sym, ap, subst, ◌∙◌, arith}
use Rattle.std.proofs.Common.{length-append}
use Rattle.std.proofs.lemmas.Bool.{and_parts}
use Rattle.granit_error.specs.OptionsData.{OptionsData}
use Rattle.granit_lexemes.specs.Lexeme.{Item, OfLexeme, OfComment}
use Rattle.granit_lexemes.specs.Outcome.{Fault, ◌>>=◌}
use Rattle.granit_lexemes.specs.Pieces.{with_front, pieces}
use Rattle.granit_lexemes.specs.PlainEvent.{PlainEvent}
use Rattle.granit_machine.specs.Frames.{ParserState}
use Rattle.granit_machine.specs.Laid.{Laid}
use Rattle.granit_machine.specs.Lexing.{FlaggedItem}
use Rattle.granit_machine.specs.Machine.{is_settled, settled, front_if}
use Rattle.granit_machine.specs.Parser.{next_line, feed}
use Rattle.granit_machine.specs.Reader.{read, LexState, lex_turn, lex_len, behind_read, is_end}
use Rattle.granit_machine.specs.ReaderState.{Read, ReaderState}
use Rattle.granit_steps.specs.Steps.{StepState, incoming, marked_by, unflagged, pushed, asks_next, is_next_settled}
use Rattle.granit_steps.specs.Steps.{is_over, may_go, free_items, line_behind, Turn, with_read, read_unless, read_more}
use Rattle.granit_steps.specs.Steps.{with_fed, feed_front, front_turn, turn_by, step_turn, reading_size, step_size}
use Rattle.granit_steps.specs.Told.{EventsTold, before_told, told_behind, fed, parsers_items}
use Rattle.granit_lexemes.proofs.PieceLemmas.{pieces_done, pieces_more}
use Rattle.granit_termination.proofs.LexLengths.{ReadFits, read-fits}
pub use Rattle.granit_termination.proofs.LexLengths.{lex_turn-Shortens}
use Rattle.granit_termination.proofs.ReadLengths.{reader_len}
use Rattle.granit_steps.proofs.Chains.{Chain, LexChain, pieces_chain, items_below}
use Rattle.granit_steps.proofs.Feeding.{feed_any}
use Rattle.granit_steps.proofs.KeyReads.{possibles, Items, IsComment, Lexed, read_keys}
use Rattle.granit_steps.proofs.Queues.{pushed_append, pushed_front, asked_append, IsOld, goes_for_ever, not_begun}
use Rattle.granit_steps.proofs.Subs.{Below}

-- ---- what will be read, and given

abbrev pub read_out : Result (List Item × LexState) Fault → LexState → List Item × LexState
read_out (Ok x) l = x
read_out (Err f) l = ([], l)

abbrev pub rest_by : Bool → OptionsData → LexState → List Item × LexState
rest_by true o l = ([], l)
rest_by false o l = read_out (pieces lex_len (lex_turn o) l) l

abbrev pub rest_of : OptionsData → LexState → List Item × LexState
rest_of o l = rest_by (is_over l) o l

-- the items that the parser will get
abbrev pub coming : OptionsData → List FlaggedItem → List Item × LexState → List FlaggedItem
coming o q x = parsers_items x.1.reader.laid x.1.fault (pushed q (incoming o.emit_comments x.0))

abbrev pub future_of : OptionsData → List FlaggedItem → ParserState → List Item × LexState → EventsTold
future_of o q p x = fed o x.1.fault (coming o q x) p

abbrev pub future : OptionsData → StepState → EventsTold
future o s = before_told s.pending (future_of o s.queue s.parser (rest_of o s.reading))

-- ---- what holds of every state

abbrev pub AllOld : ℕ → List FlaggedItem → Type 0
AllOld n [] = Unit {0}
AllOld n (f ∷ q) = IsOld n f.item × AllOld n q

pub record Ready (l : LexState) (q : List FlaggedItem) : Type 0 where
  pub below : Below l.reader.laid.number (possibles l.reader.laid)
  pub old : AllOld l.reader.laid.number q
  pub one_end : l.ended ≡ true → l.fault ≡ None

abbrev pub IsReady : StepState → Type 0
IsReady s = Ready s.reading s.queue

-- ---- the front may go

asked_nil : (b : Bool) → incoming b [] ≡ []
asked_nil true = refl
asked_nil false = refl

pub pushed_nil : (b : Bool) (q : List FlaggedItem) → pushed q (incoming b []) ≡ q
pushed_nil b q = ap (pushed q) (asked_nil b)

pub parsers_front : (s : Laid) (end : Option Fault) (i : FlaggedItem) (q : List FlaggedItem)
    → is_settled s i.item ≡ true
    → parsers_items s end (i ∷ q) ≡ i ∷ parsers_items s end q
parsers_front s None i q e = refl
parsers_front s (Some f) i q e = ap (λ b. front_if b i (settled s q)) e

-- what the parser gets with the front, and that it is told the right line
record Goes (o : OptionsData) (l : LexState) (i : FlaggedItem) (is : List FlaggedItem) (x : List Item × LexState) : Type
    0 where
  first : coming o (i ∷ is) x ≡ i ∷ coming o is x
  alike : (p : ParserState) → feed o i (line_behind l is) p ≡ feed o i (next_line (coming o is x)) p

feeds_by : (o : OptionsData) (i : FlaggedItem) (n m : Option ℕ) → n ≡ m → (p : ParserState)
    → feed o i n p ≡ feed o i m p
feeds_by o i n m e p = ap (λ k. feed o i k p) e

line_next : (o : OptionsData) (s : Laid) (is : List FlaggedItem) (x : List Item × LexState)
    → Chain s x.0 x.1.reader.laid → AllOld s.number is → is_next_settled s is ≡ true
    → next_line (settled s is) ≡ next_line (coming o is x)
line_next o s [] x ch old e = absurd (cc)
line_next o s (j ∷ js) x ch old e =
    let items = incoming o.emit_comments x.0 in
    ap (λ b. next_line (front_if b j (settled s js))) e
    ∙ sym (ap next_line (ap (parsers_items x.1.reader.laid x.1.fault)
    (pushed_front j js items (not_begun s x.1.reader.laid o.emit_comments j.item x.0 ch old.0 e))
    ∙ parsers_front x.1.reader.laid x.1.fault j (pushed js items)
    (goes_for_ever s x.1.reader.laid j.item x.0 ch old.0 e)))

alike_by : (o : OptionsData) (s : Laid) (i : FlaggedItem) (is : List FlaggedItem) (x : List Item × LexState) (b : Bool)
    → asks_next i.item ≡ b → (not b || is_next_settled s is) ≡ true → Chain s x.0 x.1.reader.laid → AllOld s.number is
    → (p : ParserState) → feed o i (next_line (settled s is)) p ≡ feed o i (next_line (coming o is x)) p
alike_by o s i is x false asks e ch old p = feed_any o i (next_line (settled s is)) (next_line (coming o is x)) p asks
alike_by o s i is x true asks e ch old p = feeds_by o i (next_line (settled s is)) (next_line (coming o is x))
    (line_next o s is x ch old e) p

unread_goes : (o : OptionsData) (s : ReaderState) (i : FlaggedItem) (is : List FlaggedItem)
    (r : Result (List Item × LexState) Fault) (l : LexState) → LexChain s.laid r → IsOld s.laid.number i.item
    → AllOld s.laid.number is
    → (is_settled s.laid i.item && (not (asks_next i.item) || is_next_settled s.laid is)) ≡ true
    → Goes o (record { reader = s; ended = false; fault = None }) i is (read_out r l)
unread_goes o s i is (Err f) l ch old olds e = absurd ch
unread_goes o s i is (Ok x) l ch old olds e =
    let items = incoming o.emit_comments x.0 in
    let now = (and_parts (is_settled s.laid i.item) (not (asks_next i.item) || is_next_settled s.laid is) e).0 in
    let next = (and_parts (is_settled s.laid i.item) (not (asks_next i.item) || is_next_settled s.laid is) e).1 in
    record {
      first = ap (parsers_items x.1.reader.laid x.1.fault)
          (pushed_front i is items (not_begun s.laid x.1.reader.laid o.emit_comments i.item x.0 ch old now))
          ∙ parsers_front x.1.reader.laid x.1.fault i (pushed is items)
          (goes_for_ever s.laid x.1.reader.laid i.item x.0 ch old now);
      alike = alike_by o s.laid i is x (asks_next i.item) refl next ch olds;
    }

-- where reading is over
over_goes : (o : OptionsData) (s : ReaderState) (ended : Bool) (end : Option Fault) (i : FlaggedItem)
    (is : List FlaggedItem) → free_items ended s.laid is ≡ parsers_items s.laid end is
    → parsers_items s.laid end (i ∷ is) ≡ i ∷ parsers_items s.laid end is
    → Goes o (record { reader = s; ended = ended; fault = end }) i is
    ([], record { reader = s; ended = ended; fault = end })
over_goes o s ended end i is free first = record {
  first = ap (parsers_items s.laid end) (pushed_nil o.emit_comments (i ∷ is)) ∙ first
      ∙ ap (λ q. i ∷ parsers_items s.laid end q) (sym (pushed_nil o.emit_comments is));
  alike = feeds_by o i (next_line (free_items ended s.laid is))
      (next_line (parsers_items s.laid end (pushed is (incoming o.emit_comments []))))
      (ap next_line (free ∙ ap (parsers_items s.laid end) (sym (pushed_nil o.emit_comments is))));
}

front_goes : (o : OptionsData) (s : ReaderState) (ended : Bool) (end : Option Fault) (i : FlaggedItem)
    (is : List FlaggedItem) → Ready (record { reader = s; ended = ended; fault = end }) (i ∷ is)
    → may_go (record { reader = s; ended = ended; fault = end }) i is ≡ true
    → Goes o (record { reader = s; ended = ended; fault = end }) i is
    (rest_of o (record { reader = s; ended = ended; fault = end }))
front_goes o s true None i is ready e = over_goes o s true None i is refl refl
front_goes o s true (Some f) i is ready e = absurd (let h = ready.one_end refl in cc)
front_goes o s false (Some f) i is ready e = over_goes o s false (Some f) i is refl
    (parsers_front s.laid (Some f) i is (and_parts (is_settled s.laid i.item) true e).0)
front_goes o s false None i is ready e =
    let l : LexState = record { reader = s; ended = false; fault = None } in
    unread_goes o s i is (pieces lex_len (lex_turn o) l) l (pieces_chain o l ready.below) ready.old.0 ready.old.1 e

-- ---- what a turn keeps

-- with no event pending, nothing is left to give where the loop ends
abbrev pub IsStill : List PlainEvent → EventsTold → Type 0
IsStill [] x = x ≡ ([], None)
IsStill (e ∷ es) x = Unit {0}

abbrev pub TurnKeeps : OptionsData → StepState → Turn → Type 0
TurnKeeps o s (Ok (Some y, t)) = IsReady t × (future o s ≡ future o t) × (step_size t < step_size s)
TurnKeeps o s (Ok (None, t)) = (t ≡ s) × IsStill s.pending (future o s)
TurnKeeps o s (Err f) = future o s ≡ ([], Some f)

state : LexState → List FlaggedItem → ParserState → List PlainEvent → StepState
state l q p es = record { reading = l; queue = q; parser = p; pending = es }

fed_keeps : (o : OptionsData) (l : LexState) (i : FlaggedItem) (is : List FlaggedItem) (p : ParserState)
    (r : Result (List PlainEvent × ParserState) Fault) → Ready l (i ∷ is)
    → future_of o (i ∷ is) p (rest_of o l) ≡ told_behind r (λ q. future_of o is q (rest_of o l))
    → TurnKeeps o (record { reading = l; queue = i ∷ is; parser = p; pending = [] })
    (r >>= λ x. Ok (Some [], with_fed (record { reading = l; queue = i ∷ is; parser = p; pending = [] }) is x))
fed_keeps o l i is p (Ok x) ready e = (
  record { below = ready.below; old = ready.old.1; one_end = ready.one_end },
  e,
  omega arith,
)
fed_keeps o l i is p (Err f) ready e = e

feed_keeps : (o : OptionsData) (l : LexState) (i : FlaggedItem) (is : List FlaggedItem) (p : ParserState)
    → Ready l (i ∷ is) → may_go l i is ≡ true
    → TurnKeeps o (record { reading = l; queue = i ∷ is; parser = p; pending = [] })
    (feed_front o i is (record { reading = l; queue = i ∷ is; parser = p; pending = [] }))
feed_keeps o l i is p ready e =
    let goes = front_goes o l.reader l.ended l.fault i is ready e in
    fed_keeps o l i is p (feed o i (line_behind l is) p) ready
    (ap (λ q. fed o (rest_of o l).1.fault q p) goes.first
    ∙ ap (λ r. told_behind r (λ q. future_of o is q (rest_of o l))) (sym (goes.alike p)))

-- ---- a read

pub rest_unread : (o : OptionsData) (s : ReaderState) (ended : Bool)
    → rest_of o (record { reader = s; ended = ended; fault = None })
    ≡ read_out (pieces lex_len (lex_turn o) (record { reader = s; ended = ended; fault = None }))
    (record { reader = s; ended = ended; fault = None })
unfolding lex_turn
rest_unread o s false = refl
rest_unread o s true =
    let l : LexState = record { reader = s; ended = true; fault = None } in
    ap (λ r. read_out r l) (sym (pieces_done lex_len (lex_turn o) l l refl))

front_out : (o : OptionsData) (s : Laid) (q : List FlaggedItem) (p : ParserState) (front : List Item)
    (r : Result (List Item × LexState) Fault) (l m : LexState) → LexChain s r
    → future_of o q p (read_out (with_front front r) l)
    ≡ future_of o (pushed q (incoming o.emit_comments front)) p (read_out r m)
front_out o s q p front (Err f) l m ch = absurd ch
front_out o s q p front (Ok x) l m ch =
    ap (λ items. fed o x.1.fault (parsers_items x.1.reader.laid x.1.fault items) p)
    (ap (pushed q) (asked_append o.emit_comments front x.0)
    ∙ pushed_append q (incoming o.emit_comments front) (incoming o.emit_comments x.0))

-- ---- how long the queue gets, and what is in it

length_map : (f : FlaggedItem → FlaggedItem) (q : List FlaggedItem) → length (map f q) ≡ length q
length_map f [] = refl
length_map f (x ∷ q) = ap suc (length_map f q)

pub length_pushed : (q : List FlaggedItem) (items : List Item) → length (pushed q items) ≡ length q + length items
length_pushed q [] = omega arith
length_pushed q (i ∷ is) =
    let a = length_pushed (map (marked_by i) q ++ unflagged i ∷ []) is in
    let b = length-append (map (marked_by i) q) (unflagged i ∷ []) in
    let c = length_map (marked_by i) q in
    omega (arith, a, b, c)

pub length_asked : (b : Bool) (items : List Item) → length (incoming b items) ≤ length items
length_asked true items = omega arith
length_asked false [] = omega arith
length_asked false (OfLexeme l ∷ is) = let h = length_asked false is in omega (arith, h)
length_asked false (OfComment c ∷ is) = let h = length_asked false is in omega (arith, h)

comment_length : (is : List Item) → IsComment is → length is ≤ 1
comment_length [] p = omega arith
comment_length (OfLexeme l ∷ is) p = absurd p
comment_length (OfComment c ∷ []) p = omega arith
comment_length (OfComment c ∷ i ∷ is) p = absurd p

pub items_length : (number : ℕ) (before : List ℕ) (items : List Item) (t : Laid) → Items number before items t
    → length items ≤ 2
items_length number before [] t p = absurd p
items_length number before (OfComment c ∷ []) t p = omega arith
items_length number before (OfComment c ∷ i ∷ is) t p = absurd p
items_length number before (OfLexeme l ∷ is) t p = let h = comment_length is p.3 in omega (arith, h)

abbrev pub OldItems : ℕ → List Item → Type 0
OldItems n [] = Unit {0}
OldItems n (i ∷ is) = IsOld n i × OldItems n is

pub old_more : (n m : ℕ) (i : Item) → n ≤ m → IsOld n i → IsOld m i
old_more n m (OfLexeme l) h p = omega (arith, h, p)
old_more n m (OfComment c) h p = tt

pub all_old_more : (n m : ℕ) (q : List FlaggedItem) → n ≤ m → AllOld n q → AllOld m q
all_old_more n m [] h p = tt
all_old_more n m (f ∷ q) h p = (old_more n m f.item h p.0, all_old_more n m q h p.1)

pub old_last : (n : ℕ) (i j : Item) (q : List FlaggedItem) → AllOld n q → IsOld n i
    → AllOld n (map (marked_by j) q ++ unflagged i ∷ [])
old_last n i j [] p h = (h, tt)
old_last n i j (f ∷ q) p h = (p.0, old_last n i j q p.1 h)

pub old_pushed : (n : ℕ) (q : List FlaggedItem) (items : List Item) → AllOld n q → OldItems n items
    → AllOld n (pushed q items)
old_pushed n q [] p h = p
old_pushed n q (i ∷ is) p h = old_pushed n (map (marked_by i) q ++ unflagged i ∷ []) is (old_last n i i q p h.0) h.1

pub old_asked : (n : ℕ) (b : Bool) (items : List Item) → OldItems n items → OldItems n (incoming b items)
old_asked n true items p = p
old_asked n false [] p = tt
old_asked n false (OfLexeme l ∷ is) p = (p.0, old_asked n false is p.1)
old_asked n false (OfComment c ∷ is) p = old_asked n false is p.1

pub old_comment : (n : ℕ) (is : List Item) → IsComment is → OldItems n is
old_comment n [] p = tt
old_comment n (OfLexeme l ∷ is) p = absurd p
old_comment n (OfComment c ∷ []) p = (tt, tt)
old_comment n (OfComment c ∷ i ∷ is) p = absurd p

pub old_items : (number : ℕ) (before : List ℕ) (items : List Item) (t : Laid) → Items number before items t
    → (number ≤ t.number) × OldItems t.number items
old_items number before [] t p = absurd p
old_items number before (OfComment c ∷ []) t p = let e = p.0 in (omega (arith, e), (tt, tt))
old_items number before (OfComment c ∷ i ∷ is) t p = absurd p
old_items number before (OfLexeme l ∷ is) t p = let e = p.0 in let f =
    p.1 in (omega (arith, f), (omega (arith, e, f), old_comment t.number is p.3))

pub size_behind : (b : Bool) (s t : ReaderState) → (b ≡ false → reader_len t < reader_len s)
    → reading_size (record { reader = t; ended = b; fault = None }) ≤ reader_len s
size_behind true s t p = omega arith
size_behind false s t p = let h = p refl in omega (arith, h)

-- ---- a read keeps what will be given

read_keeps : (o : OptionsData) (s : ReaderState) (q : List FlaggedItem) (p : ParserState) (r : Read) → read o s ≡ r
    → Lexed s.laid.number (possibles s.laid) r → ReadFits (reader_len s) r
    → Ready (record { reader = s; ended = false; fault = None }) q
    → TurnKeeps o (record {
      reading = record { reader = s; ended = false; fault = None };
      queue = q;
      parser = p;
      pending = [];
    })
    (behind_read r s >>= λ x. Ok (
      Some [],
      with_read o
          (record { reading = record { reader = s; ended = false; fault = None }; queue = q; parser = p; pending = [] })
          x,
    ))
unfolding lex_turn
read_keeps o s q p (Err f) is ch fits ready =
    let l : LexState = record { reader = s; ended = false; fault = None } in
    let m : LexState = record { reader = s; ended = false; fault = Some f } in
    let none = pushed_nil o.emit_comments q in (
      record {
        below = ready.below;
        old = subst (λ q. AllOld s.laid.number q) (sym none) ready.old;
        one_end =
            λ e. absurd (cc);
      },
      ap (λ r. future_of o q p (read_out r l)) (pieces_done lex_len (lex_turn o) l m (ap (λ r. behind_read r s) is))
          ∙ ap (λ q. future_of o q p ([], m)) (sym none),
      let n = ap length none in omega (arith, n),
    )
read_keeps o s q p (Ok x) is ch fits ready =
    let l : LexState = record { reader = s; ended = false; fault = None } in
    let m : LexState = record { reader = x.1; ended = is_end x.0; fault = None } in
    let below = items_below s.laid x.1.laid x.0 ch ready.below in
    let olds = old_items s.laid.number (possibles s.laid) x.0 x.1.laid ch in
    let a = length_pushed q (incoming o.emit_comments x.0) in
    let b = length_asked o.emit_comments x.0 in
    let c = items_length s.laid.number (possibles s.laid) x.0 x.1.laid ch in
    let d = size_behind (is_end x.0) s x.1 fits in (
      record {
        below = below;
        old = old_pushed x.1.laid.number q (incoming o.emit_comments x.0)
            (all_old_more s.laid.number x.1.laid.number q olds.0 ready.old)
            (old_asked x.1.laid.number o.emit_comments x.0 olds.1);
        one_end = λ e. refl;
      },
      ap (λ r. future_of o q p (read_out r l))
          (pieces_more lex_len (lex_turn o) (lex_turn-Shortens o) l m x.0 (ap (λ r. behind_read r s) is))
          ∙ front_out o x.1.laid q p x.0 (pieces lex_len (lex_turn o) m) l m (pieces_chain o m below)
          ∙ ap (future_of o (pushed q (incoming o.emit_comments x.0)) p) (sym (rest_unread o x.1 (is_end x.0))),
      omega (arith, a, b, c, d),
    )

more_keeps : (o : OptionsData) (s : ReaderState) (q : List FlaggedItem) (p : ParserState)
    → Ready (record { reader = s; ended = false; fault = None }) q
    → TurnKeeps o (record {
      reading = record { reader = s; ended = false; fault = None };
      queue = q;
      parser = p;
      pending = [];
    }) (read_unless o None (record {
      reading = record { reader = s; ended = false; fault = None };
      queue =
          q;
      parser = p;
      pending = [];
    }))
unfolding lex_turn
more_keeps o s q p ready = read_keeps o s q p (read o s) refl (read_keys o s) (read-fits o s) ready

-- ---- nothing may go

stuck_told : (o : OptionsData) (s : ReaderState) (f : Fault) (q : List FlaggedItem) (p : ParserState)
    → settled s.laid q ≡ [] → future_of o q p ([], record { reader = s; ended = false; fault = Some f }) ≡ ([], Some f)
stuck_told o s f q p e = ap (λ q. fed o (Some f) (settled s.laid q) p) (pushed_nil o.emit_comments q)
    ∙ ap (λ q. fed o (Some f) q p) e

-- what is done where the front may not go
wait_keeps : (o : OptionsData) (s : ReaderState) (ended : Bool) (end : Option Fault) (q : List FlaggedItem)
    (p : ParserState) → Ready (record { reader = s; ended = ended; fault = end }) q
    → (ended ≡ true → q ≡ []) → ((f : Fault) → end ≡ Some f → settled s.laid q ≡ [])
    → TurnKeeps o (record {
      reading = record { reader = s; ended = ended; fault = end };
      queue = q;
      parser = p;
      pending = [];
    }) (read_more o ended (record {
      reading = record { reader = s; ended = ended; fault = end };
      queue = q;
      parser = p;
      pending = [];
    }))
wait_keeps o s true (Some f) q p ready none stuck = absurd (let h = ready.one_end refl in cc)
wait_keeps o s true None q p ready none stuck =
    (refl, ap (λ q. fed o None q p) (pushed_nil o.emit_comments q ∙ none refl))
wait_keeps o s false (Some f) q p ready none stuck = stuck_told o s f q p (stuck f refl)
wait_keeps o s false None q p ready none stuck = more_keeps o s q p ready

not_settled : (b : Bool) (i : FlaggedItem) (q : List FlaggedItem) → b ≡ false → front_if b i q ≡ []
not_settled b i q e = ap (λ b. front_if b i q) e

pub and_true_false : (a : Bool) → (a && true) ≡ false → a ≡ false
and_true_false true e = e
and_true_false false e = refl

held_by : (s : ReaderState) (ended : Bool) (end : Option Fault) (i : FlaggedItem) (is : List FlaggedItem)
    → may_go (record { reader = s; ended = ended; fault = end }) i is ≡ false → (f : Fault) → end ≡ Some f
    → settled s.laid (i ∷ is) ≡ []
held_by s true end i is e f h = absurd (cc)
held_by s false None i is e f h = absurd (cc)
held_by s false (Some g) i is e f h = not_settled (is_settled s.laid i.item) i (settled s.laid is)
    (and_true_false (is_settled s.laid i.item) e)

not_ended : (s : ReaderState) (ended : Bool) (end : Option Fault) (i : FlaggedItem) (is : List FlaggedItem)
    → may_go (record { reader = s; ended = ended; fault = end }) i is ≡ false → ended ≡ true → i ∷ is ≡ []
not_ended s true end i is e h = absurd (cc)
not_ended s false end i is e h = absurd (cc)

front_keeps : (b : Bool) (o : OptionsData) (l : LexState) (i : FlaggedItem) (is : List FlaggedItem) (p : ParserState)
    → may_go l i is ≡ b → Ready l (i ∷ is)
    → TurnKeeps o (record { reading = l; queue = i ∷ is; parser = p; pending = [] })
    (front_turn b o i is (record { reading = l; queue = i ∷ is; parser = p; pending = [] }))
front_keeps true o l i is p e ready = feed_keeps o l i is p ready e
front_keeps false o l i is p e ready = wait_keeps o l.reader l.ended l.fault (i ∷ is) p ready
    (not_ended l.reader l.ended l.fault i is e) (held_by l.reader l.ended l.fault i is e)

turn_keeps_by : (o : OptionsData) (es : List PlainEvent) (q : List FlaggedItem) (l : LexState) (p : ParserState)
    → Ready l q
    → TurnKeeps o (record { reading = l; queue = q; parser = p; pending = es })
    (turn_by o es q (record { reading = l; queue = q; parser = p; pending = es }))
turn_keeps_by o (e ∷ es) q l p ready = (refl, tt)
turn_keeps_by o [] [] l p ready = wait_keeps o l.reader l.ended l.fault [] p ready (λ e. refl) (λ f e. refl)
turn_keeps_by o [] (i ∷ is) l p ready = front_keeps (may_go l i is) o l i is p refl ready

-- no turn changes what will be given, and each but the last makes less left to do
pub turn_keeps : (o : OptionsData) (s : StepState) → IsReady s → TurnKeeps o s (step_turn o s)
unfolding step_turn
turn_keeps o s ready = turn_keeps_by o s.pending s.queue s.reading s.parser ready
