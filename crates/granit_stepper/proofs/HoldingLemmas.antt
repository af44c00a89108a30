-- What waits is given before a refusal that waits, whatever options and number were set since.
use Rattle.std.proofs.Common.{◌≡◌, ◌≤◌, ◌⊎◌, inl, inr, ℕ, Bool, true, false, List, [], ◌∷◌, drop, Option, Some, None}
use Rattle.std.proofs.Common.{Result, Ok, Err, refl, sym, ap, subst, ◌∙◌}
use Rattle.std.specs.List.{slice_get}
use Rattle.std.specs.Option.{option_map}
use Rattle.std.specs.Prelude.{IfOk, IfSome, OnOk, if◌then◌else◌}
use Rattle.granit_base.specs.Place.{Mark, Unread}
use Rattle.granit_base.specs.declared.place.Span.{Span}
use Rattle.granit_error.specs.FaultKind.{TooManyComments}
use Rattle.granit_error.specs.OptionsData.{OptionsData}
use Rattle.granit_error.specs.Refused.{Refused}
use Rattle.granit_event.specs.Events.{plain_event}
use Rattle.granit_event.specs.declared.event.Event.{Event}
use Rattle.granit_lexemes.specs.Basics.{fails_at}
use Rattle.granit_lexemes.specs.Outcome.{fault_at}
use Rattle.granit_lexemes.specs.PlainEvent.{PlainEvent}
use Rattle.granit_machine.specs.Frames.{ParserState}
use Rattle.granit_restart.specs.Looking.{told_by}
use Rattle.granit_restart.specs.Skipping.{Ahead, AtStreamEnd, BehindDocument, Ended, Failed, NoEnd, SkipEnd, ahead}
use Rattle.granit_restart.specs.Skipping.{ends_before, skip_ahead, skip_fault, with_pending}
use Rattle.granit_restart.specs.Turned.{Turned, turned_with}
use Rattle.granit_scanner.specs.Scans.{Scanning}
use Rattle.granit_stepper.proofs.LookLemmas.{NotesUpTo, none_there, some_there, told_full, told_none, told_other}
use Rattle.granit_stepper.proofs.LookLemmas.{told_stream}
use Rattle.granit_stepper.proofs.RefusalLemmas.{stands_with}
use Rattle.granit_stepper.specs.Holding.{GivesHeld, HoldsFault, MeetsHeld, PassesHeld, SkipsHeld, held_follows}
use Rattle.granit_stepper.specs.Holding.{held_skip, told_or_refused}
use Rattle.granit_stepper.specs.Recovering.{DropsTo, SkipsFault, front_in}
use Rattle.granit_stepper.specs.Refusals.{SettlesAhead, SettlesBy, StandsRefused}
use Rattle.granit_stepper.specs.Stepping.{Stepping}
use Rattle.granit_stepper.specs.declared.recovery.Front.{Front}
use Rattle.granit_stepper.specs.declared.recovery.Front.TheVariants as fronts
use Rattle.granit_steps.specs.Steps.{StepState}

module _ {I : Type 0} (unread : I → Unread → Type 0) (s : Stepping I) (m : StepState) (e : Refused)
    (h : HoldsFault unread s m e) (mid : Stepping I) where
  held_by : (r : Result (Unit {0}) Refused) → SettlesAhead r s mid → SettlesBy (Some e) s.parser.given r s mid
  held_by r given = subst (λ (f : Option Refused). SettlesBy f s.parser.given r s mid) h.ahead given

  event_by : (u : Unit {0}) (r : Option (Event × Span)) (p : ParserState) (es : List PlainEvent) → s.parser.given ≡ es
      → SettlesBy (Some e) es (Ok u) s mid → option_map plain_event r ≡ slice_get mid.parser.given 0
      → p ≡ record (mid.parser) { given = drop 1 mid.parser.given }
      → GivesHeld unread (option_map plain_event) (Ok r) (record mid { parser = p }) m e
  event_by u r p [] is given first rest = absurd (let clash = given.0 in cc)
  event_by u r p (x ∷ es) is given first rest =
      let waits : mid.parser.given ≡ x ∷ es = ap (λ (t : Stepping I). t.parser.given) given.1 ∙ is in
      let parser : p ≡ record (s.parser) { given = es } =
      rest ∙ ap (λ (xs : List PlainEvent). record (mid.parser) { given = drop 1 xs }) waits
      ∙ ap (λ (t : Stepping I). record (t.parser) { given = es }) given.1 in
      let held : HoldsFault unread (record s { parser = p }) (with_pending es m) e = record {
        ahead = h.ahead;
        going = h.going;
        other = h.other;
        stands = stands_with unread s m e es p s.ahead s.failed parser h.stands;
      } in (
        x,
        es,
        first ∙ ap (λ (xs : List PlainEvent). slice_get xs 0) waits,
        h.stands.pending ∙ is,
        subst (λ (t : Stepping I). HoldsFault unread (record t { parser = p }) (with_pending es m) e) (sym given.1)
            held,
      )

  pub held_event : (u : Unit {0}) (r : Option (Event × Span)) (p : ParserState) → SettlesAhead (Ok u) s mid
      → option_map plain_event r ≡ slice_get mid.parser.given 0
      → p ≡ record (mid.parser) { given = drop 1 mid.parser.given }
      → GivesHeld unread (option_map plain_event) (Ok r) (record mid { parser = p }) m e
  held_event u r p given first rest = event_by u r p s.parser.given refl (held_by (Ok u) given) first rest

  same_by : (f : Refused) (es : List PlainEvent) → SettlesBy (Some e) es (Err f) s mid → f ≡ e
  same_by f [] given = let both = given.0 in cc
  same_by f (x ∷ es) given = absurd (let clash = given.0 in cc)

  -- the refusal is the one that waits
  pub held_same : (f : Refused) → SettlesAhead (Err f) s mid → f ≡ e
  held_same f given = same_by f s.parser.given (held_by (Err f) given)

  error_by : (f : Refused) (es : List PlainEvent) → s.parser.given ≡ es → SettlesBy (Some e) es (Err f) s mid
      → (m.pending ≡ []) × StandsRefused unread (record mid { failed = true }) m e
  error_by f [] is given =
      let here = stands_with unread s m e m.pending s.parser None true
      (ap (λ (xs : List PlainEvent). record (s.parser) { given = xs }) (sym h.stands.pending)) h.stands in (
        h.stands.pending ∙ is,
        subst (λ (t : Stepping I). StandsRefused unread (record t { failed = true }) m e) (sym given.1) here,
      )
  error_by f (x ∷ es) is given = absurd (let clash = given.0 in cc)

  pub held_error : (f : Refused) → SettlesAhead (Err f) s mid
      → (m.pending ≡ []) × StandsRefused unread (record mid { failed = true }) m e
  held_error f given = error_by f s.parser.given refl (held_by (Err f) given)

-- ---- what is dropped before it

module _ {I : Type 0} (unread : I → Unread → Type 0) (old : Stepping I) (m : StepState) (e : Refused)
    (h : HoldsFault unread old m e) where
  -- whatever waits in place of that
  pub held_with : (new : Stepping I) (es : List PlainEvent) (p : ParserState) → p ≡ record (old.parser) { given = es }
      → new ≡ record old { first = None; parser = p } → HoldsFault unread new (with_pending es m) e
  held_with new es p is same =
      let told : record old { first = None; parser = p } ≡ record old { parser = p } =
      ap (λ (first : Option Mark). record old { first = first; parser = p }) (sym h.stands.told) in
      subst (λ (s : Stepping I). HoldsFault unread s (with_pending es m) e) (sym (same ∙ told)) (record {
        ahead = h.ahead;
        going = h.going;
        other = h.other;
        stands = stands_with unread old m e es p old.ahead old.failed is h.stands;
      })

  waits_same : (a : Ahead) → ahead old.parser.given ≡ a → ahead m.pending ≡ a
  waits_same a is = ap ahead h.stands.pending ∙ is

  -- an end waits
  found_by : (a : Ahead) (new : Stepping I) → DropsTo a true new.parser.given
      → new ≡ record old { first = None; parser = record (old.parser) { given = new.parser.given } }
      → PassesHeld unread e (skip_ahead (λ n. skip_fault n e) m a) true old new
  found_by NoEnd new dropped same = absurd (let clash : true ≡ false = dropped.0 in cc)
  found_by (BehindDocument left) new dropped same = (
    refl,
    held_with new left (record (old.parser) { given = new.parser.given })
        (ap (λ (es : List PlainEvent). record (old.parser) { given = es }) dropped.1) same,
  )
  found_by (AtStreamEnd left) new dropped same = (
    refl,
    held_with new left (record (old.parser) { given = new.parser.given })
        (ap (λ (es : List PlainEvent). record (old.parser) { given = es }) dropped.1) same,
  )

  pub passes_found : (new : Stepping I) → DropsTo (ahead old.parser.given) true new.parser.given
      → new ≡ record old { first = None; parser = record (old.parser) { given = new.parser.given } }
      → PassesHeld unread e (held_skip e m) true old new
  passes_found new dropped same =
      subst (λ (a : Ahead). PassesHeld unread e (skip_ahead (λ n. skip_fault n e) m a) true old new)
      (sym (waits_same (ahead old.parser.given) refl))
      (found_by (ahead old.parser.given) new dropped same)

  -- none does: the refusal is met
  met_by : (b ends : Bool) (new : Stepping I) (r : Option Refused) → ends_before (with_pending [] m) e ≡ b
      → new ≡ record old { first = None; ahead = r; parser = record (old.parser) { given = [] } }
      → MeetsHeld e new (with_pending [] m) ends
      → PassesHeld unread e (if b then Ended (with_pending [] m) else Failed e (with_pending [] m)) ends old new
  met_by b true new r is same meets =
      let there : b ≡ true = sym is ∙ meets.0 in
      let again : r ≡ Some e = sym (ap (λ (s : Stepping I). s.ahead) same) ∙ meets.1 in
      subst (λ (b : Bool). PassesHeld unread e (if b then Ended (with_pending [] m) else Failed e (with_pending [] m))
      true old new) (sym there) (
        refl,
        held_with new [] (record (old.parser) { given = [] }) refl (same ∙ ap (λ (x : Option Refused). record old {
          first = None;
          ahead = x;
          parser = record (old.parser) { given = [] };
        }) (again ∙ sym h.ahead)),
      )
  met_by b false new r is same meets =
      let there : b ≡ false = sym is ∙ meets in
      subst (λ (b : Bool). PassesHeld unread e (if b then Ended (with_pending [] m) else Failed e (with_pending [] m))
      false old new) (sym there) (
        refl,
        subst (λ (s : Stepping I). StandsRefused unread s (with_pending [] m) e)
            (sym (same ∙ ap (λ (first : Option Mark). record old {
              first = first;
              ahead = r;
              parser = record (old.parser) { given = [] };
            }) (sym h.stands.told)))
            (stands_with unread old m e [] (record (old.parser) { given = [] }) r old.failed refl h.stands),
        ap (λ (s : Stepping I). s.scanner) same,
      )

  pub passes_met : (r : Result Bool Refused) (new : Stepping I) → ahead old.parser.given ≡ NoEnd
      → new ≡ record old { first = None; ahead = new.ahead; parser = record (old.parser) { given = [] } }
      → IfOk r (λ ends. MeetsHeld e new (with_pending [] m) ends)
      → IfOk r (λ passed. PassesHeld unread e (held_skip e m) passed old new)
  passes_met (Err f) new none same meets = tt
  passes_met (Ok ends) new none same meets =
      subst (λ (a : Ahead). PassesHeld unread e (skip_ahead (λ n. skip_fault n e) m a) ends old new)
      (sym (waits_same NoEnd none))
      (met_by (ends_before (with_pending [] m) e) ends new new.ahead refl same meets)

-- ---- behind it

abbrev EndsTurned : OptionsData → SkipEnd → Type 0
EndsTurned o (Ended n) = Turned o n
EndsTurned o (Failed f n) = Turned o n

module _ (o : OptionsData) (e : Refused) (m : StepState) (turned : Turned o m) where
  met_turned : (b : Bool) (n : StepState) → Turned o n → EndsTurned o (if b then Ended n else Failed e n)
  met_turned true n at = at
  met_turned false n at = at

  ends_turned : (a : Ahead) → EndsTurned o (skip_ahead (λ n. skip_fault n e) m a)
  ends_turned NoEnd =
      met_turned (ends_before (with_pending [] m) e) (with_pending [] m) (turned_with [] turned)
  ends_turned (BehindDocument left) = turned_with left turned
  ends_turned (AtStreamEnd left) = turned_with left turned

  pub held_turned : (f : Refused) (n : StepState) → held_skip e m ≡ Failed f n → Turned o n
  held_turned f n is = subst (EndsTurned o) is (ends_turned (ahead m.pending))

module _ {I : Type 0} (unread : I → Unread → Type 0) (o : OptionsData) (old mid new : Stepping I) (m : StepState)
    (e : Refused) where
  -- passed, the refusal waits on
  pub skips_passed : (x : SkipEnd) (passed : Bool) → passed ≡ true → PassesHeld unread e x passed old mid
      → SkipsHeld unread o old.scanner.cursor e x mid
  skips_passed (Ended n) passed is given = given.1
  skips_passed (Failed f n) passed is given = absurd (let clash : true ≡ false = sym is ∙ given.0 in cc)

  -- else it goes on behind the refusal
  pub skips_behind : (r : Result (Unit {0}) Refused) (x : SkipEnd) (passed : Bool) → held_skip e m ≡ x
      → passed ≡ false → PassesHeld unread e x passed old mid → mid.scanner.options ≡ old.scanner.options
      → Turned old.scanner.options m
      → ((n : StepState) (f : Refused) → StandsRefused unread mid n f → Turned mid.scanner.options n
      → OnOk r (SkipsFault unread mid.scanner.options mid.scanner.cursor f new n))
      → OnOk r (SkipsHeld unread old.scanner.options old.scanner.cursor e x new)
  skips_behind r (Ended n) passed at is given options turned goes =
      absurd (let clash : false ≡ true = sym is ∙ given.0 in cc)
  skips_behind r (Failed f n) passed at is given options turned goes =
      let same : mid.scanner ≡ old.scanner = given.2 in
      subst (λ (s : Scanning I). OnOk r (SkipsFault unread s.options s.cursor f new n)) same
      (goes n f given.1 (subst (λ (s : Scanning I). Turned s.options n) (sym same)
      (held_turned old.scanner.options e m turned f n at)))

-- ---- a look

module _ {I : Type 0} (s new : Stepping I) (e : Refused) (ahead : s.ahead ≡ Some e) where
  -- no turn is made where it waits
  pub never_turned : (b : Bool)
      → IfSome s.ahead (λ f. (◌≡◌ {A = Result Bool Refused} (Ok b) (Err f)) × (new ≡ record s { ahead = None })) → ⊥
  never_turned b over =
      let given = subst (λ (x : Option Refused). IfSome x
      (λ f. (◌≡◌ {A = Result Bool Refused} (Ok b) (Err f)) × (new ≡ record s { ahead = None }))) ahead over in
      let clash = given.0 in cc

  -- it is what is met
  pub met_held : (f : Refused)
      → IfSome s.ahead (λ g. (◌≡◌ {A = Result Bool Refused} (Err f) (Err g)) × (new ≡ record s { ahead = None }))
      → (f ≡ e) × (new ≡ record s { ahead = None })
  met_held f over =
      let given = subst (λ (x : Option Refused). IfSome x
      (λ g. (◌≡◌ {A = Result Bool Refused} (Err f) (Err g)) × (new ≡ record s { ahead = None }))) ahead over in
      (let both = given.0 in cc, given.1)

module _ {I : Type 0} (unread : I → Unread → Type 0) (old : Stepping I) (m : StepState) (e : Refused)
    (h : HoldsFault unread old m e) where
  -- and held again
  pub held_again : (mid new : Stepping I) (f : Refused) (r : Result (Option Bool) Refused)
      → IfSome old.ahead (λ g. (◌≡◌ {A = Result Bool Refused} (Err f) (Err g)) × (mid ≡ record old { ahead = None }))
      → new ≡ record mid { ahead = new.ahead } → IfOk r (λ x. (x ≡ Some true) × (new.ahead ≡ Some f))
      → IfOk r (λ x. (x ≡ Some true) × HoldsFault unread new m e)
  held_again mid new f (Err g) over rest held = tt
  held_again mid new f (Ok x) over rest held =
      let met = met_held old mid e h.ahead f over in
      let again : new.ahead ≡ old.ahead = held.1 ∙ ap Some met.0 ∙ sym h.ahead in
      let same : new ≡ old =
      rest ∙ ap (λ (s : Stepping I). record s { ahead = new.ahead }) met.1
      ∙ ap (λ (x : Option Refused). record old { ahead = x }) again in
      (held.0, subst (λ (s : Stepping I). HoldsFault unread s m e) (sym same) h)

  module _ (room kept : ℕ) (within : kept ≤ room) (notes : NotesUpTo kept old.parser.given) where
    told_there : (told : Result Bool Refused) → told_by room old.parser.given ≡ Some told → told ≡ held_follows room m
    told_there told is = sym (ap told_or_refused (ap (told_by room) h.stands.pending ∙ is))

    pub held_stream : fronts.StreamEnd ≡ front_in (slice_get old.parser.given kept)
        → (Ok false ≡ held_follows room m) × HoldsFault unread old m e
    held_stream is =
        (told_there (Ok false) (told_stream kept room old.parser.given within notes (sym is)), h)

    pub held_other : (f : Front) → f ≡ front_in (slice_get old.parser.given kept)
        → f ≡ fronts.Another ⊎ f ≡ fronts.DocumentEnd → (Ok true ≡ held_follows room m) × HoldsFault unread old m e
    held_other f is other = (
      told_there (Ok true) (told_other kept room old.parser.given within notes
          (elim other [ inl a ↦ inl (sym is ∙ a) | inr d ↦ inr (sym is ∙ d) ])),
      h,
    )

    pub held_full : fronts.Comment ≡ front_in (slice_get old.parser.given kept) → room ≤ kept → (f : Refused)
        → IfSome (slice_get old.parser.given kept) (λ x. f ≡ fault_at TooManyComments x.span.start)
        → (Err f ≡ held_follows room m) × HoldsFault unread old m e
    held_full is full f why =
        let x = some_there kept old.parser.given (sym is) in
        let same : f ≡ fault_at TooManyComments x.0.span.start = subst (λ (y : Option PlainEvent). IfSome y
        (λ z. f ≡ fault_at TooManyComments z.span.start)) x.1 why in (
          ap Err same ∙ told_there (fails_at TooManyComments x.0.span.start)
              (told_full kept room old.parser.given within notes x.0 x.1 (sym is) full),
          h,
        )

    -- nothing but comments waits, and it counts
    pub held_none : fronts.None ≡ front_in (slice_get old.parser.given kept) → Ok true ≡ held_follows room m
    held_none is = sym (ap told_or_refused (ap (told_by room) h.stands.pending
        ∙ told_none kept room old.parser.given within notes (none_there kept old.parser.given (sym is))))
