-- What the calls give one by one is what the text tells, and that is the answer of the run.
use Rattle.std.proofs.Common.{◌≡◌, ℕ, zero, suc, ◌<◌, Bool, true, false, List, [], ◌∷◌, length, Option, Some, None}
use Rattle.std.proofs.Common.{Result, Ok, Err, refl, sym, ap, ap₂, subst, ◌∙◌, arith, ◌==◌, ◌≤◌}
use Rattle.std.proofs.lemmas.Bool.{or_from}
use Rattle.granit_error.specs.OptionsData.{OptionsData}
use Rattle.granit_base.specs.Place.{Mark}
use Rattle.granit_lexemes.specs.Here.{Here, mark_of, start_of}
use Rattle.granit_lexemes.specs.Lexeme.{KeyStart, Item, OfLexeme, OfComment}
use Rattle.granit_lexemes.specs.Outcome.{Fault, ◌>>=◌}
use Rattle.granit_lexemes.specs.Pieces.{with_front, then_more, turns, pieces, Shortens}
use Rattle.granit_lexemes.specs.PlainEvent.{PlainEvent, event_on, StreamStart}
use Rattle.granit_machine.specs.Frames.{ParserState, parser_start}
use Rattle.granit_machine.specs.Laid.{Laid}
use Rattle.granit_machine.specs.Lexing.{FlaggedItem, flagged, lex_start, lex}
use Rattle.granit_machine.specs.Machine.{asked_items, feed_all, settled, run_answer, run}
use Rattle.granit_machine.specs.Parser.{next_line, feed}
use Rattle.granit_machine.specs.PossibleKeys.{is_possible}
use Rattle.granit_machine.specs.Reader.{read, behind_read, is_end, lex_turn, LexState}
use Rattle.granit_machine.specs.ReaderState.{Read, ReaderState}
use Rattle.granit_steps.specs.Steps.{StepState, incoming, may_go, line_behind, with_read, read_more, with_fed}
use Rattle.granit_steps.specs.Steps.{front_turn, turn_by, Turn, step_turn, step_size, first_pending, settle, next_event}
use Rattle.granit_steps.specs.Steps.{start_from, steps_start}
use Rattle.granit_steps.specs.Told.{EventsTold, before_told, told_behind, fed, parsers_items, told_read, told_from}
use Rattle.granit_steps.specs.Told.{told_of, answer, GivesEvents, gives_end, gives_fault, gives_event, FlagsOf}
use Rattle.granit_termination.proofs.LexLengths.{ReadFits, read-fits}
use Rattle.granit_termination.proofs.ReadLengths.{reader_len}
use Rattle.granit_steps.proofs.Chains.{LexChain, pieces_chain, not_behind, greater_false}
use Rattle.granit_steps.proofs.Futures.{read_out, future_of, future, Ready, IsReady, IsStill, TurnKeeps, turn_keeps}
use Rattle.granit_steps.proofs.Futures.{pushed_nil, length_pushed, length_asked, items_length, size_behind}
use Rattle.granit_steps.proofs.KeyReads.{possibles, KeysBehind, Items, Lexed, read_keys}
use Rattle.granit_steps.proofs.Queues.{pushed_asked, possible_is}
use Rattle.granit_steps.proofs.Subs.{is_in, sub_in, sub_rest}

-- ---- the loop

abbrev Settles : OptionsData → StepState → Result (List PlainEvent × StepState) Fault → Type 0
Settles o s (Ok x) = IsReady x.1 × (future o s ≡ future o x.1) × IsStill x.1.pending (future o x.1)
Settles o s (Err f) = future o s ≡ ([], Some f)

settles_front : (o : OptionsData) (s t : StepState) (front : List PlainEvent)
    (r : Result (List PlainEvent × StepState) Fault) → future o s ≡ future o t → Settles o t r
    → Settles o s (with_front front r)
settles_front o s t front (Ok x) e p = (p.0, e ∙ p.1, p.2)
settles_front o s t front (Err f) e p = e ∙ p

abbrev SettlesAll : OptionsData → ℕ → Type 0
SettlesAll o n = (s : StepState) → IsReady s → step_size s < n → Settles o s (turns (step_turn o) n s)

settles_turn : (o : OptionsData) (n : ℕ) (s : StepState) (r : Turn) → SettlesAll o n → IsReady s → step_size s < suc n
    → TurnKeeps o s r → Settles o s (r >>= λ x. then_more (turns (step_turn o) n) x.0 x.1)
settles_turn o n s (Err f) more ready h p = p
settles_turn o n s (Ok (Some y, t)) more ready h p = settles_front o s t y (turns (step_turn o) n t) p.1
    (more t p.0 (let less = p.2 in omega (arith, less, h)))
settles_turn o n s (Ok (None, t)) more ready h p =
    let e = sym p.0 in
    (subst IsReady e ready, ap (future o) e, subst (λ t. IsStill t.pending (future o t)) e p.1)

settles_turns : (o : OptionsData) (n : ℕ) → SettlesAll o n
unfolding turns
settles_turns o zero s ready h = absurd (omega arith)
settles_turns o (suc n) s ready h = settles_turn o n s (step_turn o s) (settles_turns o n) ready h
    (turn_keeps o s ready)

settle_keeps : (o : OptionsData) (s : StepState) → IsReady s → Settles o s (settle o s)
unfolding pieces
settle_keeps o s ready = settles_turns o (suc (step_size s)) s ready (omega arith)

-- ---- one event

abbrev NextKeeps : OptionsData → StepState → Result (Option PlainEvent × StepState) Fault → Type 0
NextKeeps o s (Ok (Some e, t)) = IsReady t × (future o s ≡ before_told (e ∷ []) (future o t))
NextKeeps o s (Ok (None, t)) = IsReady t × (future o s ≡ ([], None))
NextKeeps o s (Err f) = future o s ≡ ([], Some f)

first_keeps : (o : OptionsData) (s : StepState) (es : List PlainEvent) (l : LexState) (q : List FlaggedItem)
    (p : ParserState) → Ready l q → future o s ≡ future o (record { reading = l; queue = q; parser = p; pending = es })
    → IsStill es (future o (record { reading = l; queue = q; parser = p; pending = es }))
    → NextKeeps o s (Ok (first_pending es (record { reading = l; queue = q; parser = p; pending = es })))
first_keeps o s [] l q p ready e still = (ready, e ∙ still)
first_keeps o s (x ∷ es) l q p ready e still = (ready, e)

next_by : (o : OptionsData) (s : StepState) (r : Result (List PlainEvent × StepState) Fault) → Settles o s r
    → NextKeeps o s (r >>= λ x. Ok (first_pending x.1.pending x.1))
next_by o s (Ok x) p = first_keeps o s x.1.pending x.1.reading x.1.queue x.1.parser p.0 p.1 p.2
next_by o s (Err f) p = p

next_keeps : (o : OptionsData) (s : StepState) → IsReady s → NextKeeps o s (next_event o s)
unfolding next_event
next_keeps o s ready = next_by o s (settle o s) (settle_keeps o s ready)

-- ---- all events

gives_future : (o : OptionsData) (s : StepState) (es : List PlainEvent) (f : Option Fault) → GivesEvents o s es f
    → IsReady s → future o s ≡ (es, f)
gives_future o s [] None (gives_end e) ready = (subst (NextKeeps o s) e (next_keeps o s ready)).1
gives_future o s [] (Some f) (gives_fault e) ready = subst (NextKeeps o s) e (next_keeps o s ready)
gives_future o s (x ∷ es) f (gives_event {after = t} e more) ready =
    let p = subst (NextKeeps o s) e (next_keeps o s ready) in
    p.1 ∙ ap (before_told (x ∷ [])) (gives_future o t es f more p.0)

gives_nothing : (o : OptionsData) (s : StepState) (f : Option Fault) (r : Result (Option PlainEvent × StepState) Fault)
    → next_event o s ≡ r → NextKeeps o s r → future o s ≡ ([], f) → GivesEvents o s [] f
gives_nothing o s f (Ok (Some e, t)) is p eq = absurd
    (let h : e ∷ (future o t).0 ≡ [] = ap (λ (x : EventsTold). x.0) (sym p.1 ∙ eq) in cc)
gives_nothing o s f (Ok (None, t)) is p eq = subst (λ f. GivesEvents o s [] f)
    (ap (λ (x : EventsTold). x.1) (sym p.1 ∙ eq))
    (gives_end is)
gives_nothing o s f (Err g) is p eq = subst (λ f. GivesEvents o s [] f) (ap (λ (x : EventsTold). x.1) (sym p ∙ eq))
    (gives_fault is)

abbrev GivesAll : OptionsData → List PlainEvent → Option Fault → Type 0
GivesAll o es f = (s : StepState) → IsReady s → future o s ≡ (es, f) → GivesEvents o s es f

same_event : (e x : PlainEvent) (es xs : List PlainEvent) → e ∷ es ≡ x ∷ xs → e ≡ x
same_event e x es xs h = cc

same_events : (e x : PlainEvent) (es xs : List PlainEvent) → e ∷ es ≡ x ∷ xs → es ≡ xs
same_events e x es xs h = cc

gives_some : (o : OptionsData) (s : StepState) (x : PlainEvent) (es : List PlainEvent) (f : Option Fault)
    (r : Result (Option PlainEvent × StepState) Fault) → GivesAll o es f → next_event o s ≡ r → NextKeeps o s r
    → future o s ≡ (x ∷ es, f) → GivesEvents o s (x ∷ es) f
gives_some o s x es f (Ok (Some e, t)) more is p eq =
    let both : e ∷ (future o t).0 ≡ x ∷ es = ap (λ (y : EventsTold). y.0) (sym p.1 ∙ eq) in
    let end : (future o t).1 ≡ f = ap (λ (y : EventsTold). y.1) (sym p.1 ∙ eq) in
    let rest : future o t ≡ (es, f) = ap₂ (λ xs g. (xs, g)) (same_events e x (future o t).0 es both) end in
    subst (λ e. GivesEvents o s (e ∷ es) f) (same_event e x (future o t).0 es both) (gives_event is (more t p.0 rest))
gives_some o s x es f (Ok (None, t)) more is p eq = absurd
    (let h : [] ≡ x ∷ es = ap (λ (y : EventsTold). y.0) (sym p.1 ∙ eq) in cc)
gives_some o s x es f (Err g) more is p eq = absurd
    (let h : [] ≡ x ∷ es = ap (λ (y : EventsTold). y.0) (sym p ∙ eq) in cc)

gives_all : (o : OptionsData) (es : List PlainEvent) (f : Option Fault) → GivesAll o es f
gives_all o [] f s ready eq = gives_nothing o s f (next_event o s) refl (next_keeps o s ready) eq
gives_all o (x ∷ es) f s ready eq = gives_some o s x es f (next_event o s) (gives_all o es f) refl
    (next_keeps o s ready) eq

-- from any state that is ready the calls give all that is told from there on
pub ready_tells : (o : OptionsData) (s : StepState) → IsReady s → GivesEvents o s (future o s).0 (future o s).1
ready_tells o s ready = gives_all o (future o s).0 (future o s).1 s ready refl

-- ---- from the start

start_ready : (h : Here) → IsReady (start_from h)
start_ready h = record { below = tt; old = tt; one_end = λ e. refl }

start_by : (o : OptionsData) (h : Here) (p : ParserState) (r : Result (List Item × LexState) Fault)
    → LexChain (lex_start h).reader.laid r → future_of o [] p (read_out r (lex_start h)) ≡ told_read o p r
start_by o h p (Err f) ch = absurd ch
start_by o h p (Ok x) ch =
    ap (λ items. fed o x.1.fault (parsers_items x.1.reader.laid x.1.fault items) p)
    (pushed_asked o.emit_comments x.0 ∙ ap (asked_items o.emit_comments) (sym ch.same_flags))

start_told : (o : OptionsData) (h : Here) → future o (start_from h) ≡ told_from o h
start_told o h = ap (before_told (event_on StreamStart (mark_of h) ∷ []))
    (start_by o h (parser_start (mark_of h)) (lex o h) (pieces_chain o (lex_start h) tt))

-- the calls give all that is told
pub steps_tell : (o : OptionsData) (text : List ℕ)
    → GivesEvents o (steps_start text) (told_of o text).0 (told_of o text).1
steps_tell o text = gives_all o (told_of o text).0 (told_of o text).1 (steps_start text) (start_ready (start_of text))
    (start_told o (start_of text))

-- and nothing else
pub only_told : (o : OptionsData) (text : List ℕ) (es : List PlainEvent) (f : Option Fault)
    → GivesEvents o (steps_start text) es f → told_of o text ≡ (es, f)
only_told o text es f given = sym (start_told o (start_of text))
    ∙ gives_future o (steps_start text) es f given (start_ready (start_of text))

-- ---- what is told is the run's answer

abbrev TellsLike : EventsTold → Option Fault → Result (List PlainEvent × ParserState) Fault → Type 0
TellsLike t end (Ok x) = t ≡ (x.0, end)
TellsLike t end (Err f) = t.1 ≡ Some f

like_front : (t : EventsTold) (end : Option Fault) (es : List PlainEvent)
    (r : Result (List PlainEvent × ParserState) Fault)
    → TellsLike t end r → TellsLike (before_told es t) end (with_front es r)
like_front t end es (Ok x) e = ap (before_told es) e
like_front t end es (Err f) e = e

abbrev FedLike : OptionsData → Option Fault → List FlaggedItem → Type 0
FedLike o end is = (p : ParserState) → TellsLike (fed o end is p) end (feed_all o is p)

like_behind : (o : OptionsData) (end : Option Fault) (is : List FlaggedItem)
    (r : Result (List PlainEvent × ParserState) Fault) → FedLike o end is
    → TellsLike (told_behind r (λ q. fed o end is q)) end (r >>= λ x. with_front x.0 (feed_all o is x.1))
like_behind o end is (Ok x) more = like_front (fed o end is x.1) end x.0 (feed_all o is x.1) (more x.1)
like_behind o end is (Err f) more = refl

fed_like : (o : OptionsData) (end : Option Fault) (is : List FlaggedItem) → FedLike o end is
fed_like o end [] p = refl
fed_like o end (i ∷ is) p = like_behind o end is (feed o i (next_line is) p) (fed_like o end is)

answer_at_end : (e : PlainEvent) (t : EventsTold)
    (r : Result (List PlainEvent × ParserState) Fault) → TellsLike t None r
    → (r >>= λ x. Ok (e ∷ x.0)) ≡ answer (before_told (e ∷ []) t) t.1
answer_at_end e t (Ok x) like = ap (λ (t : EventsTold). answer (before_told (e ∷ []) t) t.1) (sym like)
answer_at_end e t (Err f) like = ap (answer (before_told (e ∷ []) t)) (sym like)

answer_at_fault : (e : PlainEvent) (g : Fault) (t : EventsTold) (r : Result (List PlainEvent × ParserState) Fault)
    → TellsLike t (Some g) r → (r >>= λ x. Err g) ≡ answer (before_told (e ∷ []) t) t.1
answer_at_fault e g t (Ok x) like = ap (λ (t : EventsTold). answer (before_told (e ∷ []) t) t.1) (sym like)
answer_at_fault e g t (Err f) like = ap (answer (before_told (e ∷ []) t)) (sym like)

answered_is : (o : OptionsData) (m : Mark) (items : List FlaggedItem) (s : Laid) (end : Option Fault)
    → run_answer o m items s end ≡ answer (before_told (event_on StreamStart m ∷ [])
    (fed o end (parsers_items s end items) (parser_start m))) (fed o end (parsers_items s end items) (parser_start m)).1
answered_is o m items s None = answer_at_end (event_on StreamStart m) (fed o None items (parser_start m))
    (feed_all o items (parser_start m)) (fed_like o None items (parser_start m))
answered_is o m items s (Some f) = answer_at_fault (event_on StreamStart m) f
    (fed o (Some f) (settled s items) (parser_start m)) (feed_all o (settled s items) (parser_start m))
    (fed_like o (Some f) (settled s items) (parser_start m))

run_by : (o : OptionsData) (m : Mark) (r : Result (List Item × LexState) Fault)
    → (r >>= λ x. run_answer o m (asked_items o.emit_comments (flagged x.0)) x.1.reader.laid x.1.fault)
    ≡ answer (before_told (event_on StreamStart m ∷ []) (told_read o (parser_start m) r))
    (told_read o (parser_start m) r).1
run_by o m (Ok x) = answered_is o m (asked_items o.emit_comments (flagged x.0)) x.1.reader.laid x.1.fault
run_by o m (Err f) = refl

-- the run's answer is what is told
pub run_told : (o : OptionsData) (text : List ℕ) → run o text ≡ answer (told_of o text) (told_of o text).1
run_told o text = run_by o (mark_of (start_of text)) (lex o (start_of text))

-- the calls give the run's answer
pub steps_give : (o : OptionsData) (text : List ℕ) (es : List PlainEvent) (f : Option Fault)
    → GivesEvents o (steps_start text) es f → run o text ≡ answer (es, f) f
steps_give o text es f given = run_told o text ∙ ap (λ (t : EventsTold). answer t t.1) (only_told o text es f given)

-- ---- keys

flags_by : (r : Result (List Item × LexState) Fault) (h : Here) → LexChain (lex_start h).reader.laid r → FlagsOf r
flags_by (Ok x) h ch = ch.same_flags
flags_by (Err f) h ch = absurd ch

-- the flags by the stack are those by the numbers
pub flags_by_number : (o : OptionsData) (h : Here) → FlagsOf (lex o h)
flags_by_number o h = flags_by (lex o h) h (pieces_chain o (lex_start h) tt)

-- once it isn't possible that a key begins with a lexeme, it never is again
abbrev Once : ℕ → ReaderState → Read → Type 0
Once n s (Ok x) = n < s.laid.number → is_possible n s.laid ≡ false → is_possible n x.1.laid ≡ false
Once n s (Err f) = Unit {0}

not_again : (s : Laid) (n : ℕ) (items : List Item) (t : Laid) → Items s.number (possibles s) items t → n < s.number
    → is_possible n s ≡ false → is_possible n t ≡ false
not_again s n [] t p old none = absurd p
not_again s n (OfComment c ∷ []) t p old none = possible_is n t
    ∙ sub_in n (possibles t) (possibles s) p.1 (sym (possible_is n s) ∙ none)
not_again s n (OfComment c ∷ i ∷ is) t p old none = absurd p
not_again s n (OfLexeme l ∷ is) t p old none = possible_is n t
    ∙ not_behind l.key s.number n (possibles s) (possibles t) p.2 old (sym (possible_is n s) ∙ none)

once_by : (n : ℕ) (s : ReaderState) (r : Read) → Lexed s.laid.number (possibles s.laid) r → Once n s r
once_by n s (Ok x) p = not_again s.laid n x.0 x.1.laid p
once_by n s (Err f) p = tt

pub never_possible_again : (o : OptionsData) (s t : ReaderState) (items : List Item) (n : ℕ) → read o s ≡ Ok (items, t)
    → n < s.laid.number → is_possible n s.laid ≡ false → is_possible n t.laid ≡ false
never_possible_again o s t items n is = subst (Once n s) is (once_by n s (read o s) (read_keys o s))

-- nor is it possible before its lexeme is read

not_yet_by : (key : Option KeyStart) (number n : ℕ) (before after : List ℕ) → KeysBehind key number before after
    → number < n → is_in n before ≡ false → is_in n after ≡ false
not_yet_by None number n before after p h e = sub_in n after (number ∷ before) p
    (or_from (number == n) (is_in n before) (greater_false number n h) e)
not_yet_by (Some k) number n before after p h e = sub_in n after before (sub_rest k.number after before p) e

not_yet : (s : Laid) (n : ℕ) (items : List Item) (t : Laid) → Items s.number (possibles s) items t → t.number ≤ n
    → is_possible n s ≡ false → is_possible n t ≡ false
not_yet s n [] t p new none = absurd p
not_yet s n (OfComment c ∷ []) t p new none = possible_is n t
    ∙ sub_in n (possibles t) (possibles s) p.1 (sym (possible_is n s) ∙ none)
not_yet s n (OfComment c ∷ i ∷ is) t p new none = absurd p
not_yet s n (OfLexeme l ∷ is) t p new none =
    let next = p.1 in
    possible_is n t ∙ not_yet_by l.key s.number n (possibles s) (possibles t) p.2 (omega (arith, next, new))
    (sym (possible_is n s) ∙ none)

abbrev NotYet : ℕ → ReaderState → Read → Type 0
NotYet n s (Ok x) = x.1.laid.number ≤ n → is_possible n s.laid ≡ false → is_possible n x.1.laid ≡ false
NotYet n s (Err f) = Unit {0}

not_yet_read : (n : ℕ) (s : ReaderState) (r : Read) → Lexed s.laid.number (possibles s.laid) r → NotYet n s r
not_yet_read n s (Ok x) p = not_yet s.laid n x.0 x.1.laid p
not_yet_read n s (Err f) p = tt

pub not_possible_yet : (o : OptionsData) (s t : ReaderState) (items : List Item) (n : ℕ) → read o s ≡ Ok (items, t)
    → t.laid.number ≤ n → is_possible n s.laid ≡ false → is_possible n t.laid ≡ false
not_possible_yet o s t items n is = subst (NotYet n s) is (not_yet_read n s (read o s) (read_keys o s))

-- ---- the loop ends, from any state

abbrev Shorter : StepState → Turn → Type 0
Shorter s (Ok (Some y, t)) = step_size t < step_size s
Shorter s (Ok (None, t)) = Unit {0}
Shorter s (Err f) = Unit {0}

fed_shorter : (l : LexState) (i : FlaggedItem) (is : List FlaggedItem) (p : ParserState)
    (r : Result (List PlainEvent × ParserState) Fault)
    → Shorter (record { reading = l; queue = i ∷ is; parser = p; pending = [] })
    (r >>= λ x. Ok (Some [], with_fed (record { reading = l; queue = i ∷ is; parser = p; pending = [] }) is x))
fed_shorter l i is p (Ok x) = omega arith
fed_shorter l i is p (Err f) = tt

read_shorter : (o : OptionsData) (s : ReaderState) (q : List FlaggedItem) (p : ParserState) (r : Read)
    → Lexed s.laid.number (possibles s.laid) r → ReadFits (reader_len s) r
    → Shorter (record {
      reading = record { reader = s; ended = false; fault = None };
      queue = q;
      parser = p;
      pending =
          [];
    })
    (behind_read r s >>= λ x. Ok (
      Some [],
      with_read o
          (record { reading = record { reader = s; ended = false; fault = None }; queue = q; parser = p; pending = [] })
          x,
    ))
read_shorter o s q p (Err f) ch fits = let n = ap length (pushed_nil o.emit_comments q) in omega (arith, n)
read_shorter o s q p (Ok x) ch fits =
    let a = length_pushed q (incoming o.emit_comments x.0) in
    let b = length_asked o.emit_comments x.0 in
    let c = items_length s.laid.number (possibles s.laid) x.0 x.1.laid ch in
    let d = size_behind (is_end x.0) s x.1 fits in
    omega (arith, a, b, c, d)

more_shorter : (o : OptionsData) (s : ReaderState) (ended : Bool) (end : Option Fault) (q : List FlaggedItem)
    (p : ParserState)
    → Shorter (record {
      reading = record { reader = s; ended = ended; fault = end };
      queue = q;
      parser = p;
      pending =
          [];
    }) (read_more o ended (record {
      reading = record { reader = s; ended = ended; fault = end };
      queue = q;
      parser =
          p;
      pending = [];
    }))
unfolding lex_turn
more_shorter o s true end q p = tt
more_shorter o s false (Some f) q p = tt
more_shorter o s false None q p = read_shorter o s q p (read o s) (read_keys o s) (read-fits o s)

front_shorter : (b : Bool) (o : OptionsData) (l : LexState) (i : FlaggedItem) (is : List FlaggedItem) (p : ParserState)
    → Shorter (record { reading = l; queue = i ∷ is; parser = p; pending = [] })
    (front_turn b o i is (record { reading = l; queue = i ∷ is; parser = p; pending = [] }))
front_shorter true o l i is p = fed_shorter l i is p (feed o i (line_behind l is) p)
front_shorter false o l i is p = more_shorter o l.reader l.ended l.fault (i ∷ is) p

turn_shorter : (o : OptionsData) (es : List PlainEvent) (q : List FlaggedItem) (l : LexState) (p : ParserState)
    → Shorter (record { reading = l; queue = q; parser = p; pending = es })
    (turn_by o es q (record { reading = l; queue = q; parser = p; pending = es }))
turn_shorter o (e ∷ es) q l p = tt
turn_shorter o [] [] l p = more_shorter o l.reader l.ended l.fault [] p
turn_shorter o [] (i ∷ is) l p = front_shorter (may_go l i is) o l i is p

-- each turn of the loop but the last leaves less to read or a shorter queue
pub step_turn-Shortens : (o : OptionsData) → Shortens step_size (step_turn o)
unfolding step_turn
step_turn-Shortens o s after piece e = subst (Shorter s) e (turn_shorter o s.pending s.queue s.reading s.parser)

-- where an event waits no turn fails
pub turn_waits_on : (o : OptionsData) (s : StepState) (e : PlainEvent) (es : List PlainEvent) → s.pending ≡ e ∷ es
    → step_turn o s ≡ Ok (None, s)
unfolding step_turn
turn_waits_on o s e es waits = ap (λ xs. turn_by o xs s.queue s) waits
