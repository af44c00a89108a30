-- Why calls give and leave what they do where the source of an input may fail.
use Rattle.std.proofs.Common.{◌≡◌, ◌≤◌, ℕ, Bool, true, false, ◌||◌, Option, Some, None, Result, Ok, Err, is_some, ◌⊎◌}
use Rattle.std.proofs.Common.{inl, inr, [], refl, sym, ap, subst, ◌∙◌, le_trans}
use Rattle.std.proofs.Math.Bool.{or-true}
use Rattle.std.specs.Prelude.{if◌then◌else◌, IfSome}
use Rattle.std.specs.Option.{option_map}
use Rattle.granit_base.specs.Place.{Place, Unread}
use Rattle.granit_cursor.specs.Reading.{Moves, Reading}
use Rattle.granit_error.specs.FaultKind.{FaultKind}
use Rattle.granit_error.specs.OptionsData.{OptionsData}
use Rattle.granit_error.specs.Refused.{Refused}
use Rattle.granit_event.specs.Events.{plain_event}
use Rattle.granit_input.specs.Origin as origins
use Rattle.granit_input.specs.Origin.{Origin, Goes, Gave, error_given}
use Rattle.granit_lexemes.specs.PlainEvent.{PlainEvent}
use Rattle.granit_input.proofs.OriginLemmas.{goes_on}
use Rattle.granit_layers.specs.Turning.{Next}
use Rattle.granit_sourced.specs.Giving.{EndsWith, GivesNext}
use Rattle.granit_sourced.specs.Going.{FailsAt, GoesWithCalls, ReadsNext, SeenNext}
use Rattle.granit_sourced.specs.Sources.{GoesGiving, GoesUnless, IsSourceError, MovesUnless, TellsError, NeverRecovers}
use Rattle.granit_sourced.specs.Sources.{NeverRevives, TellsSource, unless_failed}
use Rattle.granit_restart.specs.Ahead.{AheadOf, NoneComes}
use Rattle.granit_restart.specs.Calls.{Calls, noted}
use Rattle.granit_restart.specs.Skipping.{with_pending}
use Rattle.granit_restart.specs.Turned.{with_count}
use Rattle.granit_stepper.specs.Refusals.{FailsIn, HoldsRefusal, StandsRefused}
use Rattle.granit_stepper.specs.Stepping.{StandsIn, Stepping, refused_kind}
use Rattle.granit_steps.specs.Steps.{StepState, next_event}

-- ---- what is handed out

none_handed : (handed_out : Bool) (error : Option FaultKind) → (if handed_out then None else error) ≡ None
    → (handed_out || is_some error) ≡ handed_out
none_handed true error none = refl
none_handed false None none = refl
none_handed false (Some f) none = absurd cc

none_met : (handed_out : Bool) (error : Option FaultKind) → error ≡ None → (handed_out || is_some error) ≡ handed_out
none_met true error none = refl
none_met false error none = ap is_some none

is_given : (handed_out : Bool) (error : Option FaultKind) (f : FaultKind)
    → Some f ≡ (if handed_out then None else error) → error ≡ Some f
is_given true error f is = absurd cc
is_given false error f is = sym is

-- what is handed out is the error
pub given_met : (o : Origin) (f : FaultKind) → Some f ≡ error_given o → o.error ≡ Some f
given_met o f is = is_given o.handed_out o.error f is

still_given : (handed_out : Bool) (error : Option FaultKind) → handed_out ≡ false
    → (if handed_out then None else error) ≡ error
still_given true error fresh = absurd cc
still_given false error fresh = refl

-- an error that wasn't handed out is
pub met_given : (o : Origin) → o.handed_out ≡ false → error_given o ≡ o.error
met_given o fresh = still_given o.handed_out o.error fresh

-- ---- what calls leave

pub goes_giving : (a b : Origin) → Goes a b → GoesGiving a b
goes_giving a b goes = record {
  sliced = goes.sliced;
  lent = goes.lent;
  tells_offset = goes.tells_offset;
  handed_out = λ _. goes.handed_out;
  knows_end = goes.knows_end;
  error = goes.error;
  floor = goes.floor;
  ends_with = goes.ends_with;
}

pub goes_unless : {X : Type 0} (r : Option (Result X Refused)) (a b : Origin) → Goes a b → GoesUnless r a b
goes_unless None a b goes = goes
goes_unless (Some (Ok x)) a b goes = goes
goes_unless (Some (Err e)) a b goes = goes_giving a b goes

pub giving_on : (a b c : Origin) → Goes a b → GoesGiving b c → GoesGiving a c
giving_on a b c first next = record {
  sliced = next.sliced ∙ first.sliced;
  lent = next.lent ∙ first.lent;
  tells_offset = next.tells_offset ∙ first.tells_offset;
  handed_out = λ none. next.handed_out none ∙ first.handed_out;
  knows_end = λ known.
      let same = first.knows_end known in
      let on = next.knows_end same.0 in (on.0, on.1 ∙ same.1);
  error = λ some. let same = first.error some in next.error (ap is_some same ∙ some) ∙ same;
  floor = le_trans first.floor next.floor;
  ends_with = λ f told. next.ends_with f (first.ends_with f told);
}

module _ (a b c : Origin) (goes : Goes a b) (gave : Gave b c) where
  -- the source was asked, and gave nothing
  pub gave_nothing : error_given b ≡ None → Goes a c
  gave_nothing none = record {
    sliced = gave.sliced ∙ goes.sliced;
    lent = gave.lent ∙ goes.lent;
    tells_offset = gave.tells_offset ∙ goes.tells_offset;
    handed_out = gave.handed_out ∙ none_handed b.handed_out b.error none ∙ goes.handed_out;
    knows_end = λ known. let same = goes.knows_end known in (gave.knows_end ∙ same.0, gave.error ∙ same.1);
    error = λ some. gave.error ∙ goes.error some;
    floor = subst (λ (n : ℕ). a.floor ≤ n) (sym gave.floor) goes.floor;
    ends_with = λ f told. gave.ends_with f (goes.ends_with f told);
  }

  -- or maybe something
  pub gave_maybe : GoesGiving a c
  gave_maybe = record {
    sliced = gave.sliced ∙ goes.sliced;
    lent = gave.lent ∙ goes.lent;
    tells_offset = gave.tells_offset ∙ goes.tells_offset;
    handed_out = λ none. gave.handed_out ∙ none_met b.handed_out b.error (sym gave.error ∙ none) ∙ goes.handed_out;
    knows_end = λ known. let same = goes.knows_end known in (gave.knows_end ∙ same.0, gave.error ∙ same.1);
    error = λ some. gave.error ∙ goes.error some;
    floor = subst (λ (n : ℕ). a.floor ≤ n) (sym gave.floor) goes.floor;
    ends_with = λ f told. gave.ends_with f (goes.ends_with f told);
  }

  -- what it gives is its error
  pub source_tells : (e : Refused) (at : Place) → Some e.kind ≡ error_given b → e.mark.place ≡ at → e.sources ≡ []
      → is_some e.mark.byte_offset ≡ c.tells_offset → IsSourceError c at e
  source_tells e at is place unnamed told = record {
    kind = gave.error ∙ given_met b e.kind is;
    place = place;
    unnamed = unnamed;
    offset = told;
  }

  -- an error that wasn't handed out before is given
  pub never_silent : (f : FaultKind) → error_given b ≡ None → c.error ≡ Some f → a.handed_out ≡ false → ⊥
  never_silent f none met fresh =
      let e : None ≡ Some f = sym none ∙ met_given b (goes.handed_out ∙ fresh) ∙ sym gave.error ∙ met in cc

-- ---- what calls give

-- where it then stands
pub lands_on : (r : Next) (Here There : StepState → Type 0) (renumbered : Bool) (o : OptionsData) (m : StepState)
    → ((n : StepState) → Here n → There n) → GivesNext r Here renumbered o m → GivesNext r There renumbered o m
lands_on None Here There renumbered o m on g = (g.0, on g.0 g.1, g.2)
lands_on (Some (Ok e)) Here There renumbered o m on g = (g.0, on g.0 g.1, g.2)
lands_on (Some (Err e)) Here There renumbered o m on g = g

-- a parser that is over stays so
pub ends_on : {I : Type 0} (r : Next) (s t : Stepping I) (error : Option Refused)
    → t.failed ≡ (s.failed || is_some error) → EndsWith r s → EndsWith r t
ends_on None s t error same ends = tt
ends_on (Some (Ok e)) s t error same ends = tt
ends_on (Some (Err e)) s t error same ends = rw (same, ends) refl

pub revives_on : {I : Type 0} (r : Next) (s t : Stepping I) → t.refusal ≡ s.refusal → NeverRevives r s
    → NeverRevives r t
revives_on None s t same lost = tt
revives_on (Some (Ok e)) s t same lost = tt
revives_on (Some (Err e)) s t same lost = λ none. same ∙ lost none

-- ---- a source that was asked behind a call

module _ {I : Type 0} (unread : I → Unread → Type 0) (origin : I → Origin) (old mid new : Stepping I)
    (goes : Goes (origin old.scanner.cursor.input) (origin mid.scanner.cursor.input))
    (gave : Gave (origin mid.scanner.cursor.input) (origin new.scanner.cursor.input)) where
  landed : (r : Next) (b : Bool) (o : OptionsData) (m : StepState) → new.renumbered ≡ b
      → ((n : StepState) → StandsIn unread mid n → StandsIn unread new n)
      → GivesNext r (StandsIn unread mid) b o m → GivesNext r (StandsIn unread new) new.renumbered o m
  landed r b o m same on gives =
      subst (λ (c : Bool). GivesNext r (StandsIn unread new) c o m) (sym same)
      (lands_on r (StandsIn unread mid) (StandsIn unread new) b o m on gives)

  pub known_by : (error : Option Refused) (r : Next) (b : Bool) (o : OptionsData) (m : StepState) → new.renumbered ≡ b
      → option_map refused_kind error ≡ error_given (origin mid.scanner.cursor.input)
      → IfSome error (λ e. (e.mark.place ≡ new.scanner.cursor.place) × (e.sources ≡ []))
      → IfSome error (λ e. is_some e.mark.byte_offset ≡ (origin new.scanner.cursor.input).tells_offset)
      → ((m : StepState) → StandsIn unread mid m → error ≡ None → StandsIn unread new m)
      → GivesNext r (StandsIn unread mid) b o m
      → GivesNext (unless_failed r error) (StandsIn unread new) new.renumbered o m
      ⊎ TellsSource origin (unless_failed r error) new.scanner.cursor
  known_by None r b o m same is placed told on gives = inl (landed r b o m same (λ n at. on n at refl) gives)
  known_by (Some e) r b o m same is placed told on gives = inr (source_tells (origin old.scanner.cursor.input)
      (origin mid.scanner.cursor.input) (origin new.scanner.cursor.input) goes gave e new.scanner.cursor.place is
      placed.0 placed.1 told)

  pub sure_by : (error : Option Refused) (r : Next) (b : Bool) (o : OptionsData) (m : StepState) → new.renumbered ≡ b
      → option_map refused_kind error ≡ error_given (origin mid.scanner.cursor.input)
      → ((m : StepState) → StandsIn unread mid m → error ≡ None → StandsIn unread new m)
      → (origin new.scanner.cursor.input).error ≡ None
      → GivesNext r (StandsIn unread mid) b o m
      → GivesNext (unless_failed r error) (StandsIn unread new) new.renumbered o m
  sure_by None r b o m same is on none gives = landed r b o m same (λ n at. on n at refl) gives
  sure_by (Some e) r b o m same is on none gives =
      let met = given_met (origin mid.scanner.cursor.input) e.kind is in
      absurd (let no : None ≡ Some e.kind = sym none ∙ gave.error ∙ met in cc)

  pub source_by : (error : Option Refused) (r : Next)
      → option_map refused_kind error ≡ error_given (origin mid.scanner.cursor.input)
      → IfSome error (λ e. (e.mark.place ≡ new.scanner.cursor.place) × (e.sources ≡ []))
      → IfSome error (λ e. is_some e.mark.byte_offset ≡ (origin new.scanner.cursor.input).tells_offset)
      → TellsError origin old (unless_failed r error) new.scanner.cursor
  source_by None r is placed told = λ f met fresh going. absurd (never_silent (origin old.scanner.cursor.input)
      (origin mid.scanner.cursor.input) (origin new.scanner.cursor.input) goes gave f (sym is) met fresh)
  source_by (Some e) r is placed told = λ f met fresh going. source_tells (origin old.scanner.cursor.input)
      (origin mid.scanner.cursor.input) (origin new.scanner.cursor.input) goes gave e new.scanner.cursor.place is
      placed.0 placed.1 told

  pub lost_by : (error : Option Refused) (r : Next)
      → option_map refused_kind error ≡ error_given (origin mid.scanner.cursor.input)
      → new.failed ≡ (mid.failed || is_some error) → IfSome error (λ e. new.refusal ≡ None)
      → (error ≡ None → new.refusal ≡ mid.refusal) → NeverRevives r mid
      → NeverRecovers origin old (unless_failed r error) new
  lost_by None r is failed lost kept memory = record {
    source = λ f met fresh going. absurd (never_silent (origin old.scanner.cursor.input)
        (origin mid.scanner.cursor.input) (origin new.scanner.cursor.input) goes gave f (sym is) met fresh);
    memory = revives_on r mid new (kept refl) memory;
  }
  lost_by (Some e) r is failed lost kept memory = record {
    source = λ f met fresh going. (failed ∙ or-true mid.failed, lost);
    memory = λ none. lost;
  }

  pub goes_by : (error : Option Refused) (r : Next)
      → option_map refused_kind error ≡ error_given (origin mid.scanner.cursor.input)
      → GoesUnless (unless_failed r error) (origin old.scanner.cursor.input) (origin new.scanner.cursor.input)
  goes_by None r is = goes_unless r (origin old.scanner.cursor.input) (origin new.scanner.cursor.input)
      (gave_nothing (origin old.scanner.cursor.input) (origin mid.scanner.cursor.input)
      (origin new.scanner.cursor.input) goes gave (sym is))
  goes_by (Some e) r is = gave_maybe (origin old.scanner.cursor.input) (origin mid.scanner.cursor.input)
      (origin new.scanner.cursor.input) goes gave

pub ends_by : {I : Type 0} (error : Option Refused) (r : Next) (mid new : Stepping I)
    → new.failed ≡ (mid.failed || is_some error) → EndsWith r mid → EndsWith (unless_failed r error) new
ends_by None r mid new same ends = ends_on r mid new None same ends
ends_by (Some e) r mid new same ends = same ∙ or-true mid.failed

-- calls one behind the other
pub moves_on : {I X : Type 0} (unread : I → Unread → Type 0) (left : I → ℕ) (origin : I → Origin)
    (r : Option (Result X Refused)) (a b c : Reading I)
    → Moves unread left origin a b → MovesUnless left origin r b c → MovesUnless left origin r a c
moves_on unread left origin None a b c first next = (le_trans next.0 first.0, goes_on _ _ _ first.1 next.1)
moves_on unread left origin (Some (Ok x)) a b c first next = (le_trans next.0 first.0, goes_on _ _ _ first.1 next.1)
moves_on unread left origin (Some (Err e)) a b c first next = (le_trans next.0 first.0, giving_on _ _ _ first.1 next.1)

-- ---- where the machine's calls led

module _ {I : Type 0} (unread : I → Unread → Type 0) (mid new : Stepping I)
    (options : new.scanner.options ≡ mid.scanner.options) (renumbered : new.renumbered ≡ mid.renumbered)
    (first : new.first ≡ mid.first) (failed : new.failed ≡ (mid.failed || false))
    (known : (m : StepState) → StandsIn unread mid m → StandsIn unread new m)
    (held : (m : StepState) → HoldsRefusal unread mid m → HoldsRefusal unread new m)
    (refused : (m : StepState) (e : Refused) → StandsRefused unread mid m e → StandsRefused unread new m e) where
  pub goes_kept : (c : Calls) → GoesWithCalls unread mid c → GoesWithCalls unread new c
  goes_kept c g = record {
    steps = g.steps;
    ahead = subst (λ o. AheadOf o c.steps g.steps) (sym options) g.ahead;
    stands = elim g.stands [
      | inl at ↦ inl (known g.steps at)
      | inr held_there ↦ inr (held g.steps held_there)
    ];
    between = λ b. subst (λ o. (g.steps ≡ c.steps) ⊎ NoneComes o c.steps) (sym options) (g.between b);
    told = λ b. first ∙ g.told b;
  }

  pub next_kept : (e : PlainEvent) (c : Calls) → SeenNext unread mid e c → SeenNext unread new e c
  next_kept e c s = record {
    steps = s.steps;
    next = subst (λ o. next_event o c.steps ≡ Ok (Some e, s.steps)) (sym options) s.next;
    goes = goes_kept (noted e.kind (record c { steps = s.steps })) s.goes;
  }

  pub reads_kept : (r : Next) (c : Calls) → ReadsNext unread r mid c → ReadsNext unread r new c
  reads_kept None c s = (s.0, subst (λ o. next_event o c.steps ≡ Ok (None, s.0)) (sym options) s.1)
  reads_kept (Some (Ok x)) c s = next_kept (plain_event x) c s
  reads_kept (Some (Err e)) c s = λ other.
      let x = s other in (
        x.0,
        record {
          stands = refused x.0 e x.1.stands;
          options = x.1.options;
          count = x.1.count;
          fails = subst (λ b. FailsIn b x.1.options (with_pending [] (with_count x.1.count x.0)) e) (sym renumbered)
              x.1.fails;
          failed = failed ∙ ap (λ b. b || false) x.1.failed;
        },
        subst (λ o. FailsAt new.renumbered o x.0 c e) (sym options)
            (subst (λ b. FailsAt b mid.scanner.options x.0 c e) (sym renumbered) x.2),
      )

module _ {I : Type 0} (unread : I → Unread → Type 0) (origin : I → Origin) (old mid new : Stepping I)
    (goes : origins.Goes (origin old.scanner.cursor.input) (origin mid.scanner.cursor.input))
    (gave : Gave (origin mid.scanner.cursor.input) (origin new.scanner.cursor.input)) where
  pub reads_by : (error : Option Refused) (r : Next) (c : Calls)
      → option_map refused_kind error ≡ error_given (origin mid.scanner.cursor.input)
      → IfSome error (λ e. (e.mark.place ≡ new.scanner.cursor.place) × (e.sources ≡ []))
      → IfSome error (λ e. is_some e.mark.byte_offset ≡ (origin new.scanner.cursor.input).tells_offset)
      → (error ≡ None → ReadsNext unread r mid c → ReadsNext unread r new c) → ReadsNext unread r mid c
      → ReadsNext unread (unless_failed r error) new c ⊎ TellsSource origin (unless_failed r error) new.scanner.cursor
  reads_by None r c is placed told on reads = inl (on refl reads)
  reads_by (Some e) r c is placed told on reads = inr (source_tells (origin old.scanner.cursor.input)
      (origin mid.scanner.cursor.input) (origin new.scanner.cursor.input) goes gave e new.scanner.cursor.place is
      placed.0 placed.1 told)

-- no source failed
pub never_told : {A : Type 0} → A ⊎ ⊥ → A
never_told (inl a) = a
never_told (inr e) = absurd e
