-- A stepper drops a document turn by turn, as the machine does.
use Rattle.std.proofs.Common.{◌≡◌, ◌<◌, ◌-◌, ◌^◌, Bool, true, false, ◌&&◌, List, [], ◌∷◌, ◌++◌, drop, Option, Some}
use Rattle.std.proofs.Common.{None, Result, Ok, Err}
use Rattle.std.proofs.Common.{refl, sym, ap, subst, ◌∙◌, ◌⊎◌, inl, inr}
use Rattle.std.specs.Prelude.{IfOk, IfSome, if◌then◌else◌}
use Rattle.std.specs.List.{slice_get}
use Rattle.granit_base.specs.Place.{Mark, Unread}
use Rattle.granit_error.specs.FaultKind.{NoMemory}
use Rattle.granit_error.specs.OptionsData.{OptionsData}
use Rattle.granit_error.specs.Refused.{Refused}
use Rattle.granit_lexemes.specs.PlainEvent.{DocumentEnd, EventKind, PlainEvent}
use Rattle.granit_machine.specs.Frames.{ParserState}
use Rattle.granit_restart.proofs.TurnwiseLaws as turnwise
use Rattle.granit_restart.specs.Header.{is_start_expected, takes_front}
use Rattle.granit_restart.specs.Skipping as skipping
use Rattle.granit_restart.specs.Skipping.{Ahead, AtStreamEnd, BehindDocument, Ended, Failed, NoEnd, ahead}
use Rattle.granit_restart.specs.Skipping.{skip_by_turns, with_pending}
use Rattle.granit_restart.specs.Turned.{Turned, turned_on, turned_with}
use Rattle.granit_stepper.proofs.RefusalLemmas.{refused_with}
use Rattle.granit_stepper.proofs.SkipLemmas.{drops_alike, drops_document, drops_one, keeps_stream, none_left}
use Rattle.granit_stepper.proofs.SkipLemmas.{skips_alike}
use Rattle.granit_stepper.proofs.StateLemmas.{waiting}
use Rattle.granit_stepper.specs.Numbers.{GivesOr, RefusesNumber}
use Rattle.granit_stepper.specs.Recovering.{DropsOn, DropsTo, MetIn, Skips, drops_here, drops_turn, front_in}
use Rattle.granit_stepper.specs.Recovering.{front_kind}
use Rattle.granit_stepper.specs.Refusals.{RefusedIn, RefusesIn, StandsAhead}
use Rattle.granit_stepper.specs.Stepping.{StandsIn, Stepping, first_events, turn_view}
use Rattle.granit_stepper.specs.declared.recovery.Front.TheVariants as fronts
use Rattle.granit_steps.specs.Steps.{StepState, step_turn}

-- ---- what waits is dropped

no_front : (kind : EventKind) → front_kind kind ≡ fronts.None → true ≡ false
no_front DocumentEnd is = absurd (cc)
no_front kind is = absurd (cc)

-- none waits
pub drops_none : (es : List PlainEvent) → front_in (slice_get es 0) ≡ fronts.None → DropsTo (ahead es) false es
drops_none [] is = (refl, refl)
drops_none (e ∷ es) is = absurd (let clash : true ≡ false = no_front e.kind is in cc)

pub drops_as : (a b : Ahead) (found : Bool) (es : List PlainEvent) → a ≡ b → DropsTo b found es → DropsTo a found es
drops_as a b found es same = subst (λ (x : Ahead). DropsTo x found es) (sym same)

pub drops_stream : (es : List PlainEvent) → front_in (slice_get es 0) ≡ fronts.StreamEnd → DropsTo (ahead es) true es
drops_stream [] is = absurd (cc)
drops_stream (e ∷ es) is =
    drops_as (ahead (e ∷ es)) (AtStreamEnd (e ∷ es)) true (e ∷ es) (keeps_stream e es is) (refl, refl)

pub drops_end : (es : List PlainEvent) → front_in (slice_get es 0) ≡ fronts.DocumentEnd
    → DropsTo (ahead es) true (drop 1 es)
drops_end [] is = absurd (cc)
drops_end (e ∷ es) is = drops_as (ahead (e ∷ es)) (BehindDocument es) true es (drops_document e es is) (refl, refl)

pub drops_past : (es : List PlainEvent)
    → front_in (slice_get es 0) ≡ fronts.Another ⊎ front_in (slice_get es 0) ≡ fronts.Comment
    → ahead (drop 1 es) ≡ ahead es
drops_past [] (inl is) = absurd (cc)
drops_past [] (inr is) = absurd (cc)
drops_past (e ∷ es) is = drops_one e es is

-- the end of a document was there, or that of the stream
pub dropped_found : (a : Ahead) (es : List PlainEvent) → DropsTo a true es
    → (a ≡ BehindDocument es) ⊎ (a ≡ AtStreamEnd es)
dropped_found NoEnd es d = absurd (let clash : true ≡ false = d.0 in cc)
dropped_found (BehindDocument left) es d = inl (ap BehindDocument (sym d.1))
dropped_found (AtStreamEnd left) es d = inr (ap AtStreamEnd (sym d.1))

pub dropped_none : (a : Ahead) (es : List PlainEvent) → DropsTo a false es → (a ≡ NoEnd) × (es ≡ [])
dropped_none NoEnd es d = (refl, d.1)
dropped_none (BehindDocument left) es d = absurd (let clash : false ≡ true = d.0 in cc)
dropped_none (AtStreamEnd left) es d = absurd (let clash : false ≡ true = d.0 in cc)

first_passed : (first : Option Mark) (es : List PlainEvent) → ahead (first_events first ++ es) ≡ ahead es
first_passed None es = refl
first_passed (Some start) es = refl

-- ---- a document is dropped

-- a stepper stands where the machine's skipping came
pub record SkipsAlong {I : Type 0} (unread : I → Unread → Type 0) (o : OptionsData) (s : Stepping I) (m : StepState)
    : Type 0 where
  pub at : StepState
  pub drops : (k : StepState) → DropsOn o at k → DropsOn o m k
  pub alike : skip_by_turns o at ≡ skip_by_turns o m
  pub turned : Turned o at
  pub stands : StandsAhead unread s at

module _ {I : Type 0} (unread : I → Unread → Type 0) where
  pub ahead_waits : (s : Stepping I) (m : StepState) → StandsAhead unread s m → s.first ≡ None
      → m.pending ≡ s.parser.given
  ahead_waits s m (inl at) told = waiting unread s m at told
  ahead_waits s m (inr h) told = h.refused.stands.pending

  pub ahead_going : (s : Stepping I) (m : StepState) → StandsAhead unread s m → s.failed ≡ false
  ahead_going s m (inl at) = at.going
  ahead_going s m (inr h) = h.going

  -- whatever events wait
  pub waits_other : (s : Stepping I) (m : StepState) (es : List PlainEvent) (p : ParserState) → StandsAhead unread s m
      → s.first ≡ None → p ≡ record (s.parser) { given = es }
      → StandsAhead unread (record s { parser = p }) (with_pending es m)
  waits_other s m es p (inl at) told is = inl (record {
    going = at.going;
    reading = at.reading;
    parser = at.parser ∙ sym (ap (λ (q : ParserState). record q { given = [] }) is);
    pending = sym (ap (λ (x : Option Mark). first_events x ++ p.given) told ∙ ap (λ (q : ParserState). q.given) is);
    numbers = subst (λ (q : ParserState). q.count < 2 ^ 64 - 1) (sym is) at.numbers;
    none_ahead = at.none_ahead;
  })
  waits_other s m es p (inr h) told is = inr (record {
    error = h.error;
    ahead = h.ahead;
    going = h.going;
    other = h.other;
    refused = refused_with unread s m h.error es p s.ahead s.failed is h.refused;
  })

  -- before anything was dropped; the start of the stream goes
  pub skips_first : (o : OptionsData) (s : Stepping I) (m : StepState) → StandsAhead unread s m → Turned o m
      → SkipsAlong unread o (record s { first = None }) m
  skips_first o s m (inl at) turned =
      let es = s.parser.given in
      let same : ahead es ≡ ahead m.pending = sym (ap ahead at.pending ∙ first_passed s.first es) in
      record {
        at = with_pending es m;
        drops = λ k d. drops_alike o m d same refl;
        alike = skips_alike o m es m.pending same;
        turned = turned_with es turned;
        stands = inl (record {
          going = at.going;
          reading = at.reading;
          parser = at.parser;
          pending = refl;
          numbers = at.numbers;
          none_ahead = at.none_ahead;
        });
      }
  skips_first o s m (inr h) turned = record {
    at = m;
    drops = λ k d. d;
    alike = refl;
    turned = turned;
    stands = subst (λ (x : Option Mark). StandsAhead unread (record s { first = x }) m) h.refused.stands.told (inr h);
  }

  module _ (o : OptionsData) (s : Stepping I) (m : StepState) (k : SkipsAlong unread o s m)
      (told : s.first ≡ None) where
    -- the end of the document waits, or that of the stream
    pub skips_found : (new : Stepping I) → DropsTo (ahead s.parser.given) true new.parser.given
        → new ≡ record s { parser = record (s.parser) { given = new.parser.given } } → Skips unread o true new m
    skips_found new d rest =
        let n = k.at in
        let es = new.parser.given in
        let waits = ap ahead (ahead_waits s n k.stands told) in
        let stands : StandsAhead unread new (with_pending es n) =
        subst (λ (t : Stepping I). StandsAhead unread t (with_pending es n)) (sym rest)
        (waits_other s n es (record (s.parser) { given = es }) k.stands told refl) in
        elim (dropped_found (ahead s.parser.given) es d) [
          | inl is ↦
              (with_pending es n, sym k.alike ∙ turnwise.skip_document o n es (waits ∙ is), stands)
          | inr is ↦
              (with_pending es n, sym k.alike ∙ turnwise.skip_stream o n es (waits ∙ is), stands)
        ]

    -- none waits, and all that does is dropped
    pub none_waits : (es : List PlainEvent) → DropsTo (ahead s.parser.given) false es → ahead k.at.pending ≡ NoEnd
    none_waits es d =
        ap ahead (ahead_waits s k.at k.stands told) ∙ (dropped_none (ahead s.parser.given) es d).0

    pub all_dropped : (mid : Stepping I) → DropsTo (ahead s.parser.given) false mid.parser.given
        → mid ≡ record s { parser = record (s.parser) { given = mid.parser.given } }
        → StandsAhead unread mid (with_pending [] k.at)
    all_dropped mid d rest =
        let es = mid.parser.given in
        let none = (dropped_none (ahead s.parser.given) es d).1 in
        subst (λ (t : Stepping I). StandsAhead unread t (with_pending [] k.at)) (sym rest)
        (waits_other s k.at [] (record (s.parser) { given = es }) k.stands told
        (ap (λ (x : List PlainEvent). record (s.parser) { given = x }) none))

    module _ (none : ahead k.at.pending ≡ NoEnd) (new : Stepping I) where
      abbrev here : StepState
      here = with_pending [] k.at

      -- a turn was made
      pub skips_on : (t : StepState) (es : List PlainEvent) → StandsIn unread new t
          → step_turn o here ≡ Ok (Some es, t) → SkipsAlong unread o new m
      skips_on t es at is = record {
        at = t;
        drops = λ x d. k.drops x (drops_turn none is d);
        alike = sym (turnwise.skip_on o k.at t es none is) ∙ k.alike;
        turned = turned_on (turned_with [] k.turned) is;
        stands = inl at;
      }

      -- none is left
      pub skips_all : (t : StepState) → StandsIn unread new t → step_turn o here ≡ Ok (None, t)
          → Skips unread o true new m
      skips_all t at is = (
        here,
        sym k.alike ∙ turnwise.skip_done o k.at t none is,
        inl (subst (StandsIn unread new) (none_left here t o is) at),
      )

-- ---- a turn, in a state where one made ahead may have been refused

module _ {I : Type 0} (unread : I → Unread → Type 0) (s new : Stepping I) (m : StepState)
    (stands : StandsAhead unread s m) where
  pub turn_gives : m.pending ≡ [] → s.first ≡ None → (o : OptionsData) (b : Bool)
      → ((n : StepState) → StandsIn unread s n → s.first ≡ None → n.pending ≡ []
      → GivesOr turn_view (Ok b) (StandsIn unread new) (step_turn o n) (RefusesNumber new.renumbered o n))
      → IfSome s.ahead (λ f. (Ok b ≡ Err f) × (new ≡ record s { ahead = None }))
      → (t : StepState) × StandsIn unread new t × (step_turn o m ≡ Ok (turn_view b, t))
  turn_gives none told o b known over = elim stands [
    | inl at ↦ known m at told none
    | inr h ↦
        let given = subst (λ (x : Option Refused). IfSome x
        (λ f. (Ok b ≡ Err f) × (new ≡ record s { ahead = None }))) h.ahead over in
        absurd (let clash = given.0 in cc)
  ]

  pub turn_fails : (e : Refused) → (StandsIn unread s m → RefusesIn {X = Bool} unread (Err e) new m)
      → IfSome s.ahead (λ f. (◌≡◌ {A = Result Bool Refused} (Err e) (Err f)) × (new ≡ record s { ahead = None }))
      → (e.kind ≡ NoMemory → ⊥) → RefusedIn unread new m e
  turn_fails e refused over other = elim stands [
    | inl at ↦ refused at other
    | inr h ↦
        let given = subst (λ (x : Option Refused). IfSome x
        (λ f. (◌≡◌ {A = Result Bool Refused} (Err e) (Err f)) × (new ≡ record s { ahead = None }))) h.ahead over in
        let both = given.0 in
        let same : e ≡ h.error = cc in
        let here = refused_with unread s m h.error m.pending s.parser None s.failed
        (ap (λ (x : List PlainEvent). record (s.parser) { given = x }) (sym h.refused.stands.pending)) h.refused in
        subst (λ (t : Stepping I). RefusedIn unread t m e) (sym given.1)
        (subst (λ (f : Refused). RefusedIn unread (record s { ahead = None }) m f) (sym same) here)
  ]

-- ---- a refusal on the way

no_start : (a w : Bool) → ((a && false) && w) ≡ true → true ≡ false
no_start true w is = absurd (cc)
no_start false w is = absurd (cc)

-- where no number is left no document's start was expected
not_last : (renumbered : Bool) (o : OptionsData) (m n : StepState) (e : Refused) → RefusesNumber renumbered o m e
    → skipping.ends_before n e ≡ true → true ≡ false
not_last renumbered o m n e left ends =
    no_start (takes_front n) (skipping.is_within_document n.parser.stage)
    (sym (ap (λ (f : Refused). (takes_front n && is_start_expected f) && skipping.is_within_document n.parser.stage)
    left.1.refusal) ∙ ends)

module _ {I : Type 0} (unread : I → Unread → Type 0) (o : OptionsData) (s : Stepping I) (m : StepState)
    (k : SkipsAlong unread o s m) (none : ahead k.at.pending ≡ NoEnd) (new : Stepping I) (e : Refused)
    (options : new.scanner.options ≡ o) where
  fails_as : (ends : Bool) → skipping.ends_before (with_pending [] k.at) e ≡ ends
      → step_turn o (with_pending [] k.at) ≡ Err e
      → skip_by_turns o m ≡ (if ends then Ended (with_pending [] k.at) else Failed e (with_pending [] k.at))
  fails_as ends is fails =
      sym k.alike ∙ turnwise.skip_fails o k.at e none fails
      ∙ ap (λ (b : Bool). if b then Ended (with_pending [] k.at) else Failed e (with_pending [] k.at)) is

  fails_in : (n : StepState) → RefusedIn unread new n e
      → (step_turn o (with_pending [] n) ≡ Err e) ⊎ RefusesNumber new.renumbered o (with_pending [] n) e
  fails_in n refused = subst (λ (p : OptionsData). (step_turn p (with_pending [] n) ≡ Err e)
      ⊎ RefusesNumber new.renumbered p (with_pending [] n) e) options refused.fails

  pub skips_met : (ends : Bool) → MetIn unread e new (with_pending [] k.at) ends → Skips unread o ends new m
  skips_met true given =
      let here = with_pending [] k.at in
      elim (fails_in here given.4) [
        | inl fails ↦ (
          here,
          fails_as true given.0 fails,
          inr (record { error = e; ahead = given.1; going = given.2; other = given.3; refused = given.4 }),
        )
        | inr left ↦
            absurd (let clash : true ≡ false = not_last new.renumbered o here here e left given.0 in cc)
      ]
  skips_met false given =
      let here = with_pending [] k.at in (
        here,
        e,
        k.drops here (drops_here none),
        elim (fails_in here given.1) [
          | inl fails ↦ inl (fails_as false given.0 fails)
          | inr left ↦ inr left
        ],
        given.1,
      )

pub if_met : {I : Type 0} (unread : I → Unread → Type 0) (o : OptionsData) (s : Stepping I) (m : StepState)
    (k : SkipsAlong unread o s m) → ahead k.at.pending ≡ NoEnd → (new : Stepping I) (e : Refused)
    → new.scanner.options ≡ o → (r : Result Bool Refused)
    → IfOk r (λ ends. MetIn unread e new (with_pending [] k.at) ends)
    → IfOk r (λ passed. Skips unread o passed new m)
if_met unread o s m k none new e options (Ok ends) given = skips_met unread o s m k none new e options ends given
if_met unread o s m k none new e options (Err f) given = tt
