-- The machine's states go along a stream: what their pending events leave open is what their frames are in, and each
-- turn keeps that.
use Rattle.std.proofs.Common.{◌≡◌, ℕ, zero, suc, Bool, true, false, List, [], ◌∷◌, ◌++◌, Option, Some, None}
use Rattle.std.proofs.Common.{Result, Ok, Err, refl, sym, ap, subst, ◌∙◌}
use Rattle.std.proofs.lemmas.Bool.{or_parts, or_from}
use Rattle.std.specs.Prelude.{if◌then◌else◌}
use Rattle.granit_error.specs.OptionsData.{OptionsData}
use Rattle.granit_lexemes.specs.Lexeme.{Lexeme, Item, OfLexeme, OfComment}
use Rattle.granit_lexemes.specs.Outcome.{Fault, ◌>>=◌}
use Rattle.granit_lexemes.specs.Pieces.{with_front, then_more, turns, pieces}
use Rattle.granit_lexemes.specs.PlainEvent.{PlainEvent}
use Rattle.granit_machine.specs.Frames.{ParserState}
use Rattle.granit_machine.specs.Laid.{Laid}
use Rattle.granit_machine.specs.Lexing.{FlaggedItem}
use Rattle.granit_machine.specs.Parser.{feed}
use Rattle.granit_machine.specs.Reader.{behind_read, is_end, is_end_kind, lex_turn, read}
use Rattle.granit_machine.specs.ReaderState.{Read}
use Rattle.granit_recovery.proofs.LevelLaws.{split}
use Rattle.granit_recovery.proofs.SeatSteps.{feed_seats, FedSeats, Seats}
use Rattle.granit_restart.proofs.MarkLaws.{items, pushed_items}
use Rattle.granit_restart.specs.Calls.{failing_by, failing_in}
use Rattle.granit_steps.proofs.Futures.{pushed_nil}
use Rattle.granit_steps.proofs.KeyReads.{possibles, Items, IsComment, Lexed, read_keys}
use Rattle.granit_streams.proofs.Nesting.{levels_of}
use Rattle.granit_streams.proofs.StreamLaws.{Fit, OnlyComments, only_rest}
pub use Rattle.granit_streams.proofs.StreamLaws.{has_end}
use Rattle.granit_streams.proofs.StreamNesting.{is_end_item, Rests, Over, comment_over}
pub use Rattle.granit_streams.proofs.StreamNesting.{Fed, feed_fed}
use Rattle.granit_steps.specs.Levels.{Level, behind_event, behind_events}
use Rattle.granit_steps.specs.Steps.{StepState, incoming, may_go, line_behind, Turn}
use Rattle.granit_steps.specs.Steps.{with_read, read_unless, read_more, with_fed, feed_front, front_turn, turn_by}
use Rattle.granit_steps.specs.Steps.{step_turn, first_pending, settle, next_event}

-- ---- items of which the end is the last lexeme

-- items that wait where the end was read, or wasn't
abbrev pub Waits : (ended : Bool) → List Item → Type 0
Waits true is = Fit is
Waits false is = has_end is ≡ false

waits_rest : (ended : Bool) (i : Item) (is : List Item) → is_end_item i ≡ false → Waits ended (i ∷ is)
    → Waits ended is
waits_rest true i is e w = w.1
waits_rest false i is e w = (or_parts (is_end_item i) (has_end is) w).1

waits_end : (ended : Bool) (i : Item) (is : List Item) → is_end_item i ≡ true → Waits ended (i ∷ is)
    → OnlyComments is × (ended ≡ true)
waits_end true i is e w = (w.0 e, refl)
waits_end false i is e w = absurd (let f = (or_parts (is_end_item i) (has_end is) w).0 in cc)

fit_behind : (xs ys : List Item) → has_end xs ≡ false → Fit ys → Fit (xs ++ ys)
fit_behind [] ys e f = f
fit_behind (x ∷ xs) ys e f = (
  λ is. absurd (let n = (or_parts (is_end_item x) (has_end xs) e).0 in cc),
  fit_behind xs ys (or_parts (is_end_item x) (has_end xs) e).1 f,
)

pub none_behind : (xs ys : List Item) → has_end xs ≡ false → has_end ys ≡ false → has_end (xs ++ ys) ≡ false
none_behind [] ys e f = f
none_behind (x ∷ xs) ys e f =
    or_from (is_end_item x) (has_end (xs ++ ys)) (or_parts (is_end_item x) (has_end xs) e).0
    (none_behind xs ys (or_parts (is_end_item x) (has_end xs) e).1 f)

waits_behind : (ended : Bool) (xs ys : List Item) → has_end xs ≡ false → Waits ended ys → Waits ended (xs ++ ys)
waits_behind true xs ys e w = fit_behind xs ys e w
waits_behind false xs ys e w = none_behind xs ys e w

lexeme_waits : (ended : Bool) (l : Lexeme) (is : List Item) → is_end_kind l.kind ≡ ended → OnlyComments is
    → has_end is ≡ false → Fit is → Waits ended (OfLexeme l ∷ is)
lexeme_waits true l is e only none fit = (λ y. only, fit)
lexeme_waits false l is e only none fit = or_from (is_end_kind l.kind) (has_end is) e none

tail_waits : (b : Bool) (l : Lexeme) (is : List Item) → IsComment is
    → Waits (is_end_kind l.kind) (incoming b (OfLexeme l ∷ is))
tail_waits true l [] p = lexeme_waits (is_end_kind l.kind) l [] refl tt refl tt
tail_waits true l (OfLexeme x ∷ is) p = absurd p
tail_waits true l (OfComment c ∷ []) p =
    lexeme_waits (is_end_kind l.kind) l (OfComment c ∷ []) refl tt refl (λ e. absurd (cc), tt)
tail_waits true l (OfComment c ∷ i ∷ is) p = absurd p
tail_waits false l [] p = lexeme_waits (is_end_kind l.kind) (record l { tail = None }) [] refl tt refl tt
tail_waits false l (OfLexeme x ∷ is) p = absurd p
tail_waits false l (OfComment c ∷ []) p =
    lexeme_waits (is_end_kind l.kind) (record l { tail = None }) [] refl tt refl tt
tail_waits false l (OfComment c ∷ i ∷ is) p = absurd p

comment_waits : (b : Bool) (c : _) → Waits false (incoming b (OfComment c ∷ []))
comment_waits true c = refl
comment_waits false c = refl

pub read_waits : (b : Bool) (number : ℕ) (before : List ℕ) (is : List Item) (t : Laid) → Items number before is t
    → Waits (is_end is) (incoming b is)
read_waits b number before [] t p = absurd p
read_waits b number before (OfComment c ∷ []) t p = comment_waits b c
read_waits b number before (OfComment c ∷ i ∷ is) t p = absurd p
read_waits b number before (OfLexeme l ∷ is) t p = tail_waits b l is p.3

-- ---- states along a stream

-- from what these levels leave open on: in the stream, or behind its end
pub data Along (ls : List Level) (s : StepState) : Type 0 where
  along_stream : behind_events s.pending ls ≡ Some (levels_of s.parser.frames s.parser.stage) → Rests s.parser
      → Seats s.parser → Waits s.reading.ended (items s.queue) → Along ls s
  along_end : behind_events s.pending ls ≡ Some [] → Over s.parser → OnlyComments (items s.queue)
      → s.reading.ended ≡ true → Along ls s

abbrev pub TurnAlong : List Level → Turn → Type 0
TurnAlong ls (Ok x) = Along ls x.1
TurnAlong ls (Err f) = Unit {0}

same_some : (ls ms : List Level) → Some ls ≡ Some ms → ls ≡ ms
same_some ls ms e = cc

-- ---- an item is fed

fed_stream : (ls : List Level) (s : StepState) (i : FlaggedItem) (is : List FlaggedItem) (b : Bool)
    (r : Result (List PlainEvent × ParserState) Fault) → is_end_item i.item ≡ b
    → Waits s.reading.ended (i.item ∷ items is) → Fed b ls r → FedSeats b r
    → TurnAlong ls (r >>= λ x. Ok (Some [], with_fed s is x))
fed_stream ls s i is false (Ok x) e w f seats =
    along_stream f.0 f.1 seats (waits_rest s.reading.ended i.item (items is) e w)
fed_stream ls s i is true (Ok x) e w f seats =
    let c = waits_end s.reading.ended i.item (items is) e w in along_end f.0 f.1 c.0 c.1
fed_stream ls s i is false (Err g) e w f seats = tt
fed_stream ls s i is true (Err g) e w f seats = tt

fed_end : (ls : List Level) (s : StepState) (is : List FlaggedItem) (r : Result (List PlainEvent × ParserState) Fault)
    → ls ≡ [] → OnlyComments (items is) → s.reading.ended ≡ true → Fed true [] r
    → TurnAlong ls (r >>= λ x. Ok (Some [], with_fed s is x))
fed_end ls s is (Ok x) e only ended f = along_end (ap (behind_events x.0) e ∙ f.0) f.1 only ended
fed_end ls s is (Err g) e only ended f = tt

comment_fed : (o : OptionsData) (i : Item) (b : Bool) (is : List Item) (next : Option ℕ) (p : ParserState)
    → OnlyComments (i ∷ is) → Over p → Fed true [] (feed o (record { item = i; begins_key = b }) next p)
comment_fed o (OfLexeme l) b is next p only over = absurd only
comment_fed o (OfComment c) b is next p only over = comment_over o c b next p over

front_along : (o : OptionsData) (ls : List Level) (s : StepState) (i : FlaggedItem) (is : List FlaggedItem)
    → s.pending ≡ [] → s.queue ≡ i ∷ is → Along ls s → TurnAlong ls (feed_front o i is s)
front_along o ls s i is none queue (along_stream p r seats w) =
    let e : ls ≡ levels_of s.parser.frames s.parser.stage = same_some ls
    (levels_of s.parser.frames s.parser.stage) (ap (λ es. behind_events es ls) (sym none) ∙ p) in
    fed_stream ls s i is (is_end_item i.item) (feed o i (line_behind s.reading is) s.parser) refl
    (subst (λ q. Waits s.reading.ended (items q)) queue w)
    (subst (λ ks. Fed (is_end_item i.item) ks (feed o i (line_behind s.reading is) s.parser)) (sym e)
    (feed_fed o i (line_behind s.reading is) s.parser r))
    (feed_seats o i (line_behind s.reading is) s.parser r.fine seats)
front_along o ls s i is none queue (along_end p over only ended) =
    let e : ls ≡ [] = same_some ls [] (ap (λ es. behind_events es ls) (sym none) ∙ p) in
    let all : OnlyComments (i.item ∷ items is) = subst (λ q. OnlyComments (items q)) queue only in
    fed_end ls s is (feed o i (line_behind s.reading is) s.parser) e (only_rest i.item (items is) all) ended
    (comment_fed o i.item i.begins_key (items is) (line_behind s.reading is) s.parser all over)

-- ---- a read

read_along : (o : OptionsData) (ls : List Level) (s : StepState) (r : Read) → Along ls s → s.reading.ended ≡ false
    → Lexed s.reading.reader.laid.number (possibles s.reading.reader.laid) r
    → TurnAlong ls (behind_read r s.reading.reader >>= λ x. Ok (Some [], with_read o s x))
read_along o ls s r (along_end p over only ended) e lexed = absurd (cc)
read_along o ls s (Err f) (along_stream p rests seats w) e lexed =
    let none : has_end (items s.queue) ≡ false = subst (λ b. Waits b (items s.queue)) e w in
    along_stream p rests seats (ap (λ q. has_end (items q)) (pushed_nil o.emit_comments s.queue) ∙ none)
read_along o ls s (Ok x) (along_stream p rests seats w) e lexed =
    let none : has_end (items s.queue) ≡ false = subst (λ b. Waits b (items s.queue)) e w in
    along_stream p rests seats (subst (Waits (is_end x.0)) (sym (pushed_items s.queue (incoming o.emit_comments x.0)))
    (waits_behind (is_end x.0) (items s.queue) (incoming o.emit_comments x.0) none
    (read_waits o.emit_comments s.reading.reader.laid.number (possibles s.reading.reader.laid) x.0 x.1.laid lexed)))

turned_by : (b : Bool) (o : OptionsData) (ls : List Level) (s : StepState) → Along ls s → s.reading.ended ≡ false
    → s.reading.ended ≡ b
    → TurnAlong ls ((if b then Ok (None, s.reading) else behind_read (read o s.reading.reader) s.reading.reader)
    >>= λ x. Ok (Some [], with_read o s x))
turned_by true o ls s a e is = absurd (cc)
turned_by false o ls s a e is = read_along o ls s (read o s.reading.reader) a e (read_keys o s.reading.reader)

unless_along : (o : OptionsData) (ls : List Level) (fault : Option Fault) (s : StepState) → Along ls s
    → s.reading.ended ≡ false → TurnAlong ls (read_unless o fault s)
unfolding lex_turn
unless_along o ls (Some f) s a e = tt
unless_along o ls None s a e = turned_by s.reading.ended o ls s a e refl

more_along : (o : OptionsData) (ls : List Level) (b : Bool) (s : StepState) → s.reading.ended ≡ b → Along ls s
    → TurnAlong ls (read_more o b s)
more_along o ls true s e a = a
more_along o ls false s e a = unless_along o ls s.reading.fault s a e

-- ---- a turn

goes_along : (b : Bool) (o : OptionsData) (ls : List Level) (s : StepState) (i : FlaggedItem) (is : List FlaggedItem)
    → s.pending ≡ [] → s.queue ≡ i ∷ is → Along ls s → TurnAlong ls (front_turn b o i is s)
goes_along true o ls s i is none queue a = front_along o ls s i is none queue a
goes_along false o ls s i is none queue a = more_along o ls s.reading.ended s refl a

turn_along : (o : OptionsData) (ls : List Level) (es : List PlainEvent) (q : List FlaggedItem) (s : StepState)
    → s.pending ≡ es → s.queue ≡ q → Along ls s → TurnAlong ls (turn_by o es q s)
turn_along o ls (e ∷ es) q s pending queue a = a
turn_along o ls [] [] s pending queue a = more_along o ls s.reading.ended s refl a
turn_along o ls [] (i ∷ is) s pending queue a = goes_along (may_go s.reading i is) o ls s i is pending queue a

pub step_along : (o : OptionsData) (ls : List Level) (s : StepState) → Along ls s → TurnAlong ls (step_turn o s)
unfolding step_turn
step_along o ls s a = turn_along o ls s.pending s.queue s refl refl a

-- ---- many turns

abbrev AllAlong : List Level → Result (List PlainEvent × StepState) Fault → Type 0
AllAlong ls (Ok x) = Along ls x.1
AllAlong ls (Err f) = Unit {0}

front_all : (ls : List Level) (front : List PlainEvent) (r : Result (List PlainEvent × StepState) Fault)
    → AllAlong ls r → AllAlong ls (with_front front r)
front_all ls front (Ok x) a = a
front_all ls front (Err f) a = tt

then_along : (o : OptionsData) (ls : List Level) (n : ℕ) (r : Turn)
    → ((s : StepState) → Along ls s → AllAlong ls (turns (step_turn o) n s)) → TurnAlong ls r
    → AllAlong ls (r >>= λ x. then_more (turns (step_turn o) n) x.0 x.1)
then_along o ls n (Err f) more a = tt
then_along o ls n (Ok (None, t)) more a = a
then_along o ls n (Ok (Some y, t)) more a = front_all ls y (turns (step_turn o) n t) (more t a)

turns_along : (o : OptionsData) (ls : List Level) (n : ℕ) (s : StepState) → Along ls s
    → AllAlong ls (turns (step_turn o) n s)
unfolding turns
turns_along o ls zero s a = a
turns_along o ls (suc n) s a = then_along o ls n (step_turn o s) (turns_along o ls n) (step_along o ls s a)

settle_along : (o : OptionsData) (ls : List Level) (s : StepState) → Along ls s → AllAlong ls (settle o s)
unfolding pieces
settle_along o ls s a = turns_along o ls _ s a

-- ---- one event

-- an event that may come, and a state along the stream behind it
pub record Told (ls : List Level) (e : PlainEvent) (t : StepState) : Type 0 where
  pub behind : List Level
  pub first : behind_event e.kind ls ≡ Some behind
  pub along : Along behind t

abbrev pub NextAlong : List Level → Result (Option PlainEvent × StepState) Fault → Type 0
NextAlong ls (Ok (Some e, t)) = Told ls e t
NextAlong ls (Ok (None, t)) = Along ls t
NextAlong ls (Err f) = Unit {0}

first_along : (ls : List Level) (es : List PlainEvent) (s : StepState) → s.pending ≡ es → Along ls s
    → NextAlong ls (Ok (first_pending es s))
first_along ls [] s is a = a
first_along ls (e ∷ es) s is (along_stream p rests seats w) =
    let x = split e es ls (levels_of s.parser.frames s.parser.stage) (ap (λ es. behind_events es ls) (sym is) ∙ p) in
    record { behind = x.behind; first = x.first; along = along_stream x.rest rests seats w }
first_along ls (e ∷ es) s is (along_end p over only ended) =
    let x = split e es ls [] (ap (λ es. behind_events es ls) (sym is) ∙ p) in
    record { behind = x.behind; first = x.first; along = along_end x.rest over only ended }

next_by : (ls : List Level) (r : Result (List PlainEvent × StepState) Fault) → AllAlong ls r
    → NextAlong ls (r >>= λ x. Ok (first_pending x.1.pending x.1))
next_by ls (Ok x) a = first_along ls x.1.pending x.1 refl a
next_by ls (Err f) a = tt

pub next_along : (o : OptionsData) (ls : List Level) (s : StepState) → Along ls s → NextAlong ls (next_event o s)
unfolding next_event
next_along o ls s a = next_by ls (settle o s) (settle_along o ls s a)

-- ---- where a call fails

failing_then : (ls : List Level) (later : StepState → StepState) (s : StepState) (r : Turn) → Along ls s
    → ((t : StepState) → Along ls t → Along ls (later t)) → TurnAlong ls r → Along ls (failing_by later s r)
failing_then ls later s (Ok (Some y, t)) a more b = more t b
failing_then ls later s (Ok (None, t)) a more b = a
failing_then ls later s (Err f) a more b = a

pub failing_along : (o : OptionsData) (ls : List Level) (n : ℕ) (s : StepState) → Along ls s
    → Along ls (failing_in o n s)
failing_along o ls zero s a = a
failing_along o ls (suc n) s a = failing_then ls (failing_in o n) s (step_turn o s) a (failing_along o ls n)
    (step_along o ls s a)
