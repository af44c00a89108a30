-- A stepper that is known to be in a state of the machine.
use Rattle.std.proofs.Common.{◌≡◌, ℕ, ◌<◌, ◌-◌, ◌^◌, Bool, true, false, ◌||◌, List, [], ◌∷◌, ◌++◌, drop, Option, Some}
use Rattle.std.proofs.Common.{None, is_some, Ok, Err, refl, sym, ap, subst, ◌∙◌, ◌⊎◌, inl, inr}
use Rattle.std.specs.List.{slice_get}
use Rattle.std.specs.Option.{option_map}
use Rattle.granit_base.specs.Place.{Mark, Unread}
use Rattle.granit_base.specs.declared.place.Span.{Span}
use Rattle.granit_cursor.specs.Reading.{GivesTo, Stands}
use Rattle.granit_error.specs.OptionsData.{OptionsData}
use Rattle.granit_error.specs.Refused.{Refused}
use Rattle.granit_event.specs.Events.{plain_event}
use Rattle.granit_event.specs.declared.event.Event.{Event}
use Rattle.granit_lexemes.specs.Here.{Here, mark_of}
use Rattle.granit_lexemes.specs.Outcome.{Fails, ◌>>=◌}
use Rattle.granit_lexemes.specs.PlainEvent.{PlainEvent, event_on, StreamStart}
use Rattle.granit_lexemes.proofs.PieceLemmas.{pieces_done}
use Rattle.granit_machine.specs.Frames.{ParserState, parser_start}
use Rattle.granit_machine.specs.Lexing.{FlaggedItem, lex_start}
use Rattle.granit_machine.specs.Parser.{feed, take_item}
use Rattle.granit_scanner.specs.Scans.{Scanning, Known, KnownBy, ReadsOn, TakesAsked, may_front_go}
use Rattle.granit_stepper.proofs.NumberLemmas.{numberless, some_number}
use Rattle.granit_stepper.specs.Numbers.{GetsLast, IsAnchorStart, IsNumberless, RefusesNumber}
use Rattle.granit_stepper.specs.Stepping.{Stepping, StandsIn, TakesFree, feed_item, first_events, no_events, turn_view}
use Rattle.granit_stepper.proofs.TurnLemmas.{turn_waits_on}
use Rattle.granit_steps.specs.Steps.{StepState, first_pending, is_over, next_event, read_more, read_unless, settle}
use Rattle.granit_steps.specs.Steps.{start_from, step_size, step_turn, with_fed, with_read}

-- ---- facts of the machine

over_ended : (b : Bool) (f : Option Refused) → f ≡ None → (b || is_some f) ≡ true → b ≡ true
over_ended true f none over = refl
over_ended false None none over = over
over_ended false (Some g) none over = absurd (cc)

going_ended : (b c : Bool) → (b || c) ≡ false → b ≡ false
going_ended true c going = going
going_ended false c going = refl

going_fault : (b : Bool) (f : Option Refused) → (b || is_some f) ≡ false → f ≡ None
going_fault b None going = refl
going_fault true (Some f) going = absurd (cc)
going_fault false (Some f) going = absurd (cc)

same_given : (p : ParserState) → p.given ≡ [] → record p { given = [] } ≡ p
same_given p none = ap (λ (es : List PlainEvent). record p { given = es }) (sym none)

first_is : (es : List PlainEvent) (m : StepState) → m.pending ≡ es
    → first_pending es m ≡ (slice_get es 0, record m { pending = drop 1 es })
first_is [] m none = ap (λ (es : List PlainEvent). (None, record m { pending = es })) none
first_is (e ∷ es) m is = refl

pub next_is : (o : OptionsData) (m after : StepState) → settle o m ≡ Ok ([], after)
    → next_event o m ≡ Ok (slice_get after.pending 0, record after { pending = drop 1 after.pending })
unfolding next_event
next_is o m after is = rw is (ap Ok (first_is after.pending after refl))

module _ {I : Type 0} (unread : I → Unread → Type 0) where
  pub starts : (s : Stepping I) (h : Here) → Known unread s.scanner (lex_start h) []
      → s.parser ≡ parser_start (mark_of h) → s.first ≡ Some (mark_of h) → s.failed ≡ false → s.ahead ≡ None
      → StandsIn unread s (start_from h)
  starts s h known parser first going none_ahead = record {
    going = going;
    reading = known;
    parser = ap (λ (p : ParserState). record p { given = [] }) (sym parser);
    pending = sym (ap (λ (x : Option Mark). first_events x ++ s.parser.given) first
        ∙ ap (λ (p : ParserState). event_on StreamStart (mark_of h) ∷ p.given) parser);
    numbers = subst (λ (p : ParserState). p.count < 2 ^ 64 - 1) (sym parser) some_number;
    none_ahead = none_ahead;
  }

  module _ (s : Stepping I) (m : StepState) (at : StandsIn unread s m) where
    -- what waits, where the start was told
    pub waiting : s.first ≡ None → m.pending ≡ s.parser.given
    waiting told = at.pending ∙ ap (λ (x : Option Mark). first_events x ++ s.parser.given) told

    -- ---- an item

    free_by : (sc : Scanning I) (q : List FlaggedItem) (r : Option (FlaggedItem × Option ℕ)) → m.queue ≡ q
        → may_front_go m.reading q ≡ true → TakesAsked unread r sc m.reading q
        → TakesFree unread r (record s { scanner = sc }) m
    free_by sc [] r front goes given = absurd given
    free_by sc (i ∷ is) r front goes given =
        subst (λ (x : Option (FlaggedItem
        × Option ℕ)). TakesFree unread x (record s { scanner = sc }) m) (sym given.0) (
          is,
          front,
          goes,
          refl,
          record {
            going = at.going;
            reading = given.1;
            parser = at.parser;
            pending = at.pending;
            numbers = at.numbers;
            none_ahead = at.none_ahead;
          },
        )

    pub takes_free : (sc : Scanning I) (r : Option (FlaggedItem × Option ℕ)) → may_front_go m.reading m.queue ≡ true
        → TakesAsked unread r sc m.reading m.queue → TakesFree unread r (record s { scanner = sc }) m
    takes_free sc r goes given = free_by sc m.queue r refl goes given

    pub nothing_waits : s.first ≡ None → m.pending ≡ [] → m.parser ≡ s.parser
    nothing_waits told none = at.parser ∙ same_given s.parser (sym (waiting told) ∙ none)

    fed_as : (o : OptionsData) (x : FlaggedItem × Option ℕ) → s.first ≡ None → m.pending ≡ []
        → feed o x.0 x.1 m.parser ≡ (take_item o x.0.item x.0.begins_key x.1 s.parser >>= λ q. Ok
        (q.given, record q { given = [] }))
    unfolding feed
    fed_as o x told none =
        ap (λ (p : ParserState). take_item o x.0.item x.0.begins_key x.1 p >>= λ q. Ok
        (q.given, record q { given = [] })) (nothing_waits told none)

    -- the parser takes an item
    pub feeds : (o : OptionsData) (x : FlaggedItem × Option ℕ) (p : ParserState) → s.first ≡ None → m.pending ≡ []
        → take_item o x.0.item x.0.begins_key x.1 s.parser ≡ Ok p → p.count < 2 ^ 64 - 1
        → GivesTo turn_view (Ok true) (StandsIn unread (record s { parser = p })) (feed_item o x m)
    feeds o x p told none is numbers =
        let after : StepState = with_fed m m.queue (p.given, record p { given = [] }) in (
          after,
          record {
            going = at.going;
            reading = at.reading;
            parser = refl;
            pending = sym (ap (λ (y : Option Mark). first_events y ++ p.given) told);
            numbers = numbers;
            none_ahead = at.none_ahead;
          },
          rw (fed_as o x told none, is) refl,
        )

    -- or refuses it
    pub feed_fails : (o : OptionsData) (x : FlaggedItem × Option ℕ) (e : Refused) → s.first ≡ None → m.pending ≡ []
        → Fails e (take_item o x.0.item x.0.begins_key x.1 s.parser) → Fails e (feed_item o x m)
    feed_fails o x e told none fails = λ other. rw (fed_as o x told none, fails other) refl

    -- or gives the greatest number by it
    pub feeds_last : (o : OptionsData) (x : FlaggedItem × Option ℕ) (p : ParserState) (start : Option Mark)
        (e : Refused) → s.first ≡ None → m.pending ≡ [] → take_item o x.0.item x.0.begins_key x.1 s.parser ≡ Ok p
        → p.count ≡ 2 ^ 64 - 1 → IsAnchorStart start x.0.item → IsNumberless s.renumbered start e
        → Fails e (feed_item o x m) ⊎ ((s.renumbered ≡ true) × GetsLast o x m.parser e)
    feeds_last o x p start e told none is last at_start why =
        numberless o x m.parser (p.given, record p { given = [] }) (rw (fed_as o x told none, is) refl) last
        (feed_item o x m) s.renumbered start e at_start why

    -- ---- a read

    ended_by : (f : Option Refused) → f ≡ None → KnownBy unread f s.scanner m.reading m.queue → is_over m.reading ≡ true
        → (m.reading.ended ≡ true)
        × KnownBy unread None (record (s.scanner) { fault = None; ended = true }) m.reading m.queue
    ended_by None none known over =
        let ended = over_ended m.reading.ended m.reading.fault known.2 over in
        (ended, (known.0, ended, known.2, known.3))
    ended_by (Some f) none known over = absurd (cc)

    -- the end was read
    pub ends : (o : OptionsData) → s.scanner.fault ≡ None → is_over m.reading ≡ true
        → GivesTo turn_view (Ok false) (StandsIn unread
        (record s { scanner = record (s.scanner) { fault = None; ended = true } })) (read_more o m.reading.ended m)
    ends o none over =
        let known = ended_by s.scanner.fault none at.reading over in (
          m,
          record {
            going = at.going;
            reading = known.1;
            parser = at.parser;
            pending = at.pending;
            numbers = at.numbers;
            none_ahead = at.none_ahead;
          },
          ap
              (λ (b : Bool). read_more o b m) known.0,
        )

    fault_by : (o : OptionsData) (g : Option Refused) (f : Refused) → g ≡ Some f
        → KnownBy unread g s.scanner m.reading m.queue
        → read_more o m.reading.ended m ≡ Err f
    fault_by o None f is known = absurd (cc)
    fault_by o (Some g) f is known =
        ap (λ (b : Bool). read_more o b m) known.0 ∙ ap (λ (x : Option Refused). read_unless o x m) (known.1 ∙ is)

    -- a read failed
    pub ends_at_fault : (o : OptionsData) (f : Refused) → s.scanner.fault ≡ Some f
        → Fails f (read_more o m.reading.ended m)
    ends_at_fault o f is = λ other. fault_by o s.scanner.fault f is at.reading

    pub no_fault_yet : is_over m.reading ≡ false → m.reading.fault ≡ None
    no_fault_yet going = going_fault m.reading.ended m.reading.fault going

    -- one more read
    pub reads : (o : OptionsData) (sc : Scanning I) → is_over m.reading ≡ false → ReadsOn unread o sc m.reading m.queue
        → GivesTo turn_view (Ok true) (StandsIn unread (record s { scanner = sc })) (read_more o m.reading.ended m)
    reads o sc going given =
        let ended = going_ended m.reading.ended (is_some m.reading.fault) going in (
          with_read o m given.0,
          record {
            going = at.going;
            reading = given.2;
            parser = at.parser;
            pending = at.pending;
            numbers = at.numbers;
            none_ahead = at.none_ahead;
          },
          ap (λ (b : Bool). read_more o b m) ended
              ∙ ap (λ (x : Option Refused). read_unless o x m) (no_fault_yet going)
              ∙ rw (given.1) refl,
        )

    -- ---- an event

    waits_first : (start : Mark) → s.first ≡ Some start → m.pending ≡ event_on StreamStart start ∷ s.parser.given
    waits_first start first = at.pending ∙ ap (λ (x : Option Mark). first_events x ++ s.parser.given) first

    -- the start of the stream
    pub tells_start : (o : OptionsData) (start : Mark) (e : Event × Span) → s.first ≡ Some start
        → plain_event e ≡ event_on StreamStart start
        → GivesTo (option_map plain_event) (Ok (Some e)) (StandsIn unread (record s { first = None })) (next_event o m)
    tells_start o start e first told =
        let pending = waits_first start first in
        let still = turn_waits_on o m (event_on StreamStart start) s.parser.given pending in (
          record m { pending = s.parser.given },
          record {
            going = at.going;
            reading = at.reading;
            parser = at.parser;
            pending = refl;
            numbers = at.numbers;
            none_ahead = at.none_ahead;
          },
          next_is o m m (pieces_done step_size (step_turn o) m m still)
              ∙ ap (λ (es : List PlainEvent). Ok (slice_get es 0, record m { pending = drop 1 es })) pending
              ∙ ap (λ (x : PlainEvent). Ok (Some x, record m { pending = s.parser.given })) (sym told),
        )

  -- what waits is given, one by one
  pub gives_next : {U : Type 0} (u : U) (o : OptionsData) (s : Stepping I) (m : StepState) (p : ParserState)
      (r : Option (Event × Span))
      → s.first ≡ None → GivesTo no_events (Ok u) (StandsIn unread s) (settle o m)
      → option_map plain_event r ≡ slice_get s.parser.given 0 → p ≡ record (s.parser) { given = drop 1 s.parser.given }
      → GivesTo (option_map plain_event) (Ok r) (StandsIn unread (record s { parser = p })) (next_event o m)
  gives_next u o s m p r told settled first rest =
      let after : StepState = settled.0 in
      let at : StandsIn unread s after = settled.1 in
      let pending : after.pending ≡ s.parser.given = waiting s after at told in (
        record after { pending = drop 1 after.pending },
        record {
          going = at.going;
          reading = at.reading;
          parser = at.parser ∙ sym (ap (λ (q : ParserState). record q { given = [] }) rest);
          pending = ap (drop 1) pending ∙ sym (ap (λ (q : ParserState). q.given) rest)
              ∙ sym (ap (λ (x : Option Mark). first_events x ++ p.given) told);
          numbers = subst (λ (q : ParserState). q.count < 2 ^ 64 - 1) (sym rest) at.numbers;
          none_ahead = at.none_ahead;
        },
        next_is o m after settled.2
            ∙ ap (λ (x : Option PlainEvent). Ok (x, record after { pending = drop 1 after.pending }))
            (ap (λ (es : List PlainEvent). slice_get es 0) pending ∙ sym first),
      )

  -- or nothing is, where turns fail
  fails_on : (o : OptionsData) (m : StepState) (e : Refused) → Fails e (settle o m) → Fails e (next_event o m)
  unfolding next_event
  fails_on o m e fails = λ other. rw (fails other) refl

  pub next_fails : (renumbered : Bool) (o : OptionsData) (m : StepState) (e : Refused)
      → Fails e (settle o m) ⊎ RefusesNumber renumbered o m e
      → Fails e (next_event o m) ⊎ RefusesNumber renumbered o m e
  next_fails renumbered o m e (inl fails) = inl (fails_on o m e fails)
  next_fails renumbered o m e (inr left) = inr left

-- before anything was read it is known where the cursor stands
module _ {I : Type 0} (unread : I → Unread → Type 0) (s : Stepping I) (h : Here) where
  first_by : (fault : Option Refused) → KnownBy unread fault s.scanner (lex_start h) []
      → Stands unread s.scanner.cursor h
  first_by None known = known.0.0
  first_by (Some f) known = let clash : None ≡ Some f = known.1 in absurd (cc)

  pub stands_first : StandsIn unread s (start_from h) → Stands unread s.scanner.cursor h
  stands_first at = first_by s.scanner.fault at.reading
