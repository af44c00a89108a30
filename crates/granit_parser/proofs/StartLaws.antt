-- What the calls give one by one from any beginning is what the run from there answers.
use Rattle.std.proofs.Common.{◌≡◌, ℕ, zero, suc, ◌<◌, List, [], ◌∷◌, Option, Some, None, Result, Ok, Err, refl, sym, ap}
use Rattle.std.proofs.Common.{subst, ◌∙◌, inl, inr, Bool, arith}
use Rattle.std.proofs.lemmas.List.{append-nil}
use Rattle.granit_base.specs.Place.{Mark}
use Rattle.granit_error.specs.OptionsData.{OptionsData}
use Rattle.granit_lexemes.specs.Here.{Here, mark_of}
use Rattle.granit_lexemes.specs.Lexeme.{Item}
use Rattle.granit_lexemes.specs.Outcome.{Fault, ◌>>=◌}
use Rattle.granit_lexemes.specs.Pieces.{with_front, then_more, turns, pieces}
use Rattle.granit_lexemes.specs.PlainEvent.{PlainEvent, event_on, StreamStart}
use Rattle.granit_machine.specs.Frames.{ParserState, parser_start}
use Rattle.granit_machine.specs.Laid.{Laid}
use Rattle.granit_machine.specs.Lexing.{FlaggedItem, flagged, lex_start, lex}
use Rattle.granit_machine.specs.Machine.{asked_items, feed_all, settled, run_answer, run_from}
use Rattle.granit_machine.specs.Parser.{next_line, feed}
use Rattle.granit_machine.specs.Reader.{LexState}
use Rattle.granit_sourced.specs.Giving.{GivesNext}
use Rattle.granit_steps.specs.Steps.{StepState, Turn, first_pending, next_event, settle, start_from, step_size}
use Rattle.granit_steps.specs.Steps.{step_turn}
use Rattle.granit_steps.specs.Told.{EventsTold, GivesEvents, answer, before_told, fed, gives_end, gives_event}
use Rattle.granit_steps.specs.Told.{gives_fault, parsers_items, told_behind, told_from, told_read}
use Rattle.granit_event.specs.Events.{plain_event}
use Rattle.granit_parser.specs.Parsing.{EndsTold, LeadsTo, Next, first_given, none_given}
use Rattle.granit_steps.proofs.Chains.{LexChain, pieces_chain}
use Rattle.granit_steps.proofs.Futures.{IsReady, IsStill, TurnKeeps, future, future_of, read_out, rest_of, turn_keeps}
use Rattle.granit_steps.proofs.Queues.{pushed_asked}

module _ (o : OptionsData) where
  -- ---- one event

  -- the turns until an event is there
  abbrev Settles : StepState → Result (List PlainEvent × StepState) Fault → Type 0
  Settles s (Ok x) = IsReady x.1 × (future o s ≡ future o x.1) × IsStill x.1.pending (future o x.1)
  Settles s (Err f) = future o s ≡ ([], Some f)

  settles_front : (s t : StepState) (front : List PlainEvent) (r : Result (List PlainEvent × StepState) Fault)
      → future o s ≡ future o t → Settles t r → Settles s (with_front front r)
  settles_front s t front (Ok x) e p = (p.0, e ∙ p.1, p.2)
  settles_front s t front (Err f) e p = e ∙ p

  settles_turn : (n : ℕ) (s : StepState) (r : Turn)
      → ((t : StepState) → IsReady t → step_size t < n → Settles t (turns (step_turn o) n t)) → IsReady s
      → step_size s < suc n → TurnKeeps o s r → Settles s (r >>= λ x. then_more (turns (step_turn o) n) x.0 x.1)
  settles_turn n s (Err f) more ready h p = p
  settles_turn n s (Ok (Some y, t)) more ready h p =
      let fewer = p.2 in settles_front s t y (turns (step_turn o) n t) p.1 (more t p.0 (omega (arith, fewer, h)))
  settles_turn n s (Ok (None, t)) more ready h p =
      let e = sym p.0 in
      (subst IsReady e ready, ap (future o) e, subst (λ t. IsStill t.pending (future o t)) e p.1)

  settles_turns : (n : ℕ) (s : StepState) → IsReady s → step_size s < n → Settles s (turns (step_turn o) n s)
  unfolding turns
  settles_turns zero s ready h = absurd (omega arith)
  settles_turns (suc n) s ready h = settles_turn n s (step_turn o s) (settles_turns n) ready h (turn_keeps o s ready)

  settle_keeps : (s : StepState) → IsReady s → Settles s (settle o s)
  unfolding pieces
  settle_keeps s ready = settles_turns (suc (step_size s)) s ready (omega arith)

  abbrev NextKeeps : StepState → Result (Option PlainEvent × StepState) Fault → Type 0
  NextKeeps s (Ok (Some e, t)) = IsReady t × (future o s ≡ before_told (e ∷ []) (future o t))
  NextKeeps s (Ok (None, t)) = IsReady t × (future o s ≡ ([], None))
  NextKeeps s (Err f) = future o s ≡ ([], Some f)

  first_keeps : (s t : StepState) (es : List PlainEvent) → t.pending ≡ es → IsReady t → future o s ≡ future o t
      → IsStill es (future o t) → NextKeeps s (Ok (first_pending es t))
  first_keeps s t [] same ready e still = (ready, e ∙ still)
  first_keeps s t (x ∷ es) same ready e still = (
    ready,
    e ∙ ap (λ (ys : List PlainEvent). before_told ys (future_of o t.queue t.parser (rest_of o t.reading))) same,
  )

  next_by : (s : StepState) (r : Result (List PlainEvent × StepState) Fault) → Settles s r
      → NextKeeps s (r >>= λ x. Ok (first_pending x.1.pending x.1))
  next_by s (Ok x) p = first_keeps s x.1 x.1.pending refl p.0 p.1 p.2
  next_by s (Err f) p = p

  next_keeps : (s : StepState) → IsReady s → NextKeeps s (next_event o s)
  unfolding next_event
  next_keeps s ready = next_by s (settle o s) (settle_keeps s ready)

  -- ---- all events

  gives_future : (s : StepState) (es : List PlainEvent) (f : Option Fault) → GivesEvents o s es f → IsReady s
      → future o s ≡ (es, f)
  gives_future s [] None (gives_end e) ready = (subst (NextKeeps s) e (next_keeps s ready)).1
  gives_future s [] (Some f) (gives_fault e) ready = subst (NextKeeps s) e (next_keeps s ready)
  gives_future s (x ∷ es) f (gives_event {after = t} e more) ready =
      let p = subst (NextKeeps s) e (next_keeps s ready) in
      p.1 ∙ ap (before_told (x ∷ [])) (gives_future t es f more p.0)

  start_by : (h : Here) (p : ParserState) (r : Result (List Item × LexState) Fault)
      → LexChain (lex_start h).reader.laid r → future_of o [] p (read_out r (lex_start h)) ≡ told_read o p r
  start_by h p (Err f) ch = absurd ch
  start_by h p (Ok x) ch =
      ap (λ items. fed o x.1.fault (parsers_items x.1.reader.laid x.1.fault items) p)
      (pushed_asked o.emit_comments x.0 ∙ ap (asked_items o.emit_comments) (sym ch.same_flags))

  start_told : (h : Here) → future o (start_from h) ≡ told_from o h
  start_told h = ap (before_told (event_on StreamStart (mark_of h) ∷ []))
      (start_by h (parser_start (mark_of h)) (lex o h) (pieces_chain o (lex_start h) tt))

  -- ---- the run's answer

  abbrev TellsLike : EventsTold → Option Fault → Result (List PlainEvent × ParserState) Fault → Type 0
  TellsLike t end (Ok x) = t ≡ (x.0, end)
  TellsLike t end (Err f) = t.1 ≡ Some f

  like_front : (t : EventsTold) (end : Option Fault) (es : List PlainEvent)
      (r : Result (List PlainEvent × ParserState) Fault)
      → TellsLike t end r → TellsLike (before_told es t) end (with_front es r)
  like_front t end es (Ok x) e = ap (before_told es) e
  like_front t end es (Err f) e = e

  like_behind : (end : Option Fault) (is : List FlaggedItem) (r : Result (List PlainEvent × ParserState) Fault)
      → ((p : ParserState) → TellsLike (fed o end is p) end (feed_all o is p))
      → TellsLike (told_behind r (λ q. fed o end is q)) end (r >>= λ x. with_front x.0 (feed_all o is x.1))
  like_behind end is (Ok x) more = like_front (fed o end is x.1) end x.0 (feed_all o is x.1) (more x.1)
  like_behind end is (Err f) more = refl

  fed_like : (end : Option Fault) (is : List FlaggedItem) (p : ParserState)
      → TellsLike (fed o end is p) end (feed_all o is p)
  fed_like end [] p = refl
  fed_like end (i ∷ is) p = like_behind end is (feed o i (next_line is) p) (fed_like end is)

  at_end : (e : PlainEvent) (t : EventsTold) (r : Result (List PlainEvent × ParserState) Fault) → TellsLike t None r
      → (r >>= λ x. Ok (e ∷ x.0)) ≡ answer (before_told (e ∷ []) t) t.1
  at_end e t (Ok x) like = ap (λ (t : EventsTold). answer (before_told (e ∷ []) t) t.1) (sym like)
  at_end e t (Err f) like = ap (answer (before_told (e ∷ []) t)) (sym like)

  at_fault : (e : PlainEvent) (g : Fault) (t : EventsTold) (r : Result (List PlainEvent × ParserState) Fault)
      → TellsLike t (Some g) r → (r >>= λ x. Err g) ≡ answer (before_told (e ∷ []) t) t.1
  at_fault e g t (Ok x) like = ap (λ (t : EventsTold). answer (before_told (e ∷ []) t) t.1) (sym like)
  at_fault e g t (Err f) like = ap (answer (before_told (e ∷ []) t)) (sym like)

  answered_is : (m : Mark) (items : List FlaggedItem) (s : Laid) (end : Option Fault)
      → run_answer o m items s end ≡ answer (before_told (event_on StreamStart m ∷ [])
      (fed o end (parsers_items s end items) (parser_start m)))
      (fed o end (parsers_items s end items) (parser_start m)).1
  answered_is m items s None = at_end (event_on StreamStart m) (fed o None items (parser_start m))
      (feed_all o items (parser_start m)) (fed_like None items (parser_start m))
  answered_is m items s (Some f) = at_fault (event_on StreamStart m) f
      (fed o (Some f) (settled s items) (parser_start m)) (feed_all o (settled s items) (parser_start m))
      (fed_like (Some f) (settled s items) (parser_start m))

  run_by : (m : Mark) (r : Result (List Item × LexState) Fault)
      → (r >>= λ x. run_answer o m (asked_items o.emit_comments (flagged x.0)) x.1.reader.laid x.1.fault)
      ≡ answer (before_told (event_on StreamStart m ∷ []) (told_read o (parser_start m) r))
      (told_read o (parser_start m) r).1
  run_by m (Ok x) = answered_is m (asked_items o.emit_comments (flagged x.0)) x.1.reader.laid x.1.fault
  run_by m (Err f) = refl

  -- the calls give the run's answer
  pub calls_give : (h : Here) (es : List PlainEvent) (f : Option Fault) → GivesEvents o (start_from h) es f
      → run_from o h ≡ answer (es, f) f
  calls_give h es f given =
      let told = sym (start_told h)
      ∙ gives_future (start_from h) es f given (record { below = tt; old = tt; one_end = λ e. refl }) in
      run_by (mark_of h) (lex o h) ∙ ap (λ (t : EventsTold). answer t t.1) told

  -- ---- what is told of the events so far

  start_ready : (h : Here) → IsReady (start_from h)
  start_ready h = record { below = tt; old = tt; one_end = λ e. refl }

  -- what is told from a state on are the events that lead to another one, and what is told from there
  leads_on : (s m : StepState) (es : List PlainEvent) → LeadsTo o s es m → IsReady s
      → IsReady m × (future o s ≡ before_told es (future o m))
  leads_on s m [] none_given ready = (ready, refl)
  leads_on s m (e ∷ es) (first_given {next = next} is leads) ready =
      let first = subst (NextKeeps s) is (next_keeps s ready) in
      let rest = leads_on next m es leads first.0 in
      (rest.0, first.1 ∙ ap (before_told (e ∷ [])) rest.1)

  module _ (h : Here) (es : List PlainEvent) (m : StepState) (leads : LeadsTo o (start_from h) es m) where
    -- what a state still tells comes behind these events
    told_behind_them : (rest : EventsTold) → future o m ≡ rest → told_from o h ≡ before_told es rest
    told_behind_them rest is =
        sym (start_told h) ∙ ((leads_on (start_from h) m es leads (start_ready h)).1 ∙ ap (before_told es) is)

    next_is : (r : Result (Option PlainEvent × StepState) Fault) → next_event o m ≡ r → NextKeeps m r
    next_is r is = subst (NextKeeps m) is (next_keeps m (leads_on (start_from h) m es leads (start_ready h)).0)

    told_all : (f : Option Fault) → future o m ≡ ([], f) → told_from o h ≡ (es, f)
    told_all f is = told_behind_them ([], f) is ∙ ap (λ (xs : List PlainEvent). (xs, f)) (append-nil es)

    pub ends_told : (r : Next) (Lands : StepState → Type 0) (renumbered : Bool) → GivesNext r Lands renumbered o m
        → EndsTold (told_from o h) o es renumbered m r
    ends_told None Lands renumbered g = told_all None (next_is (Ok (None, g.0)) g.2).1
    ends_told (Some (Ok e)) Lands renumbered g = (
      (future o g.0).0,
      ap (λ (x : EventsTold). x.0)
          (told_behind_them (before_told (plain_event e ∷ []) (future o g.0))
          (next_is (Ok (Some (plain_event e), g.0)) g.2).1),
    )
    ends_told (Some (Err e)) Lands renumbered (inl fails) =
        inl (λ other. told_all (Some e) (next_is (Err e) (fails other)))
    ends_told (Some (Err e)) Lands renumbered (inr left) = inr left
