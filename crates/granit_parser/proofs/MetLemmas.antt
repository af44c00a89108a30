-- Why calls that give many events tell the error of the source exactly where one was met.
use Rattle.std.proofs.Common.{◌≡◌, ℕ, Bool, true, false, true≢false, Option, Some, None, Result, Ok, Err, refl, sym, ap}
use Rattle.std.proofs.Common.{subst, ◌∙◌}
use Rattle.std.specs.Result.{IsErrAnd}
use Rattle.granit_base.specs.declared.place.Span.{Span}
use Rattle.granit_base.specs.Place.{Unread}
use Rattle.granit_cursor.specs.Reading.{Moves, Reading}
use Rattle.granit_error.specs.FaultKind.{FaultKind}
use Rattle.granit_error.specs.Refused.{Refused}
use Rattle.granit_event.specs.declared.event.Event.{Event}
use Rattle.granit_input.specs.Origin.{Origin}
use Rattle.granit_parser.proofs.FirstLemmas.{is_scan, scan_or}
use Rattle.granit_parser.specs.Parsing.{IsOver, Next, Parsing}
use Rattle.granit_parser.specs.Receiving.{scanned}
use Rattle.granit_receivers.specs.declared.error.TryLoadError.{TryLoadError}
use Rattle.granit_receivers.specs.declared.error.TryLoadError.TheVariants.{Scan, Receiver}
use Rattle.granit_sourced.specs.Sources.{IfUnseen, MovesUnless, TellsError, TellsMet, TellsSource}
use Rattle.granit_stepper.specs.Stepping.{Stepping}

none_but : {A : Type 0} (o : Option A) → ((a : A) → o ≡ Some a → ⊥) → o ≡ None
none_but None never = refl
none_but (Some a) never = absurd (never a refl)

unseen : {X A : Type 0} (p : Option X) → p ≡ None → IfUnseen p A → A
unseen None none a = a
unseen (Some x) none a = absurd cc

-- ---- one call

tells_by : {I : Type 0} (origin : I → Origin) (now after : Parsing I) (r : Next) (failed : Bool)
    → now.stepper.failed ≡ failed → now.peeked ≡ None
    → IfUnseen now.peeked (TellsError origin now.stepper r after.stepper.scanner.cursor)
    → (IsOver now → (r ≡ None) × (after ≡ now))
    → TellsMet origin now.stepper.scanner.cursor r after.stepper.scanner.cursor
tells_by origin now after r false going none tells over =
    λ f met before fresh. unseen now.peeked none tells f met fresh going
tells_by origin now after r true failed none tells over = λ f met before fresh.
    let same : after ≡ now = (over (record { none = none; failed = failed })).1 in
    absurd (let no : None ≡ Some f = sym before ∙ sym (ap (λ p. (origin p.stepper.scanner.cursor.input).error) same)
    ∙ met in cc)

-- ---- calls one behind the other

-- nothing is looked at, and as long as the source had no error before, it has none
pub record Quiet {I : Type 0} (origin : I → Origin) (initial now : Parsing I) : Type 0 where
  pub peeked : now.peeked ≡ None
  pub met : (origin initial.stepper.scanner.cursor.input).error ≡ None
      → (origin initial.stepper.scanner.cursor.input).handed_out ≡ false
      → (origin now.stepper.scanner.cursor.input).error ≡ None

module _ {I : Type 0} (unread : I → Unread → Type 0) (left : I → ℕ) (origin : I → Origin)
    (initial now after : Parsing I) (quiet : initial.peeked ≡ None → Quiet origin initial now)
    (moved : Moves unread left origin initial.stepper.scanner.cursor now.stepper.scanner.cursor) where
  module _ (r s : Next) (same : r ≡ s)
      (tells : IfUnseen now.peeked (TellsError origin now.stepper r after.stepper.scanner.cursor))
      (over : IsOver now → (r ≡ None) × (after ≡ now)) where
    -- one more call tells an error that it met
    pub met_behind : initial.peeked ≡ None
        → TellsMet origin initial.stepper.scanner.cursor s after.stepper.scanner.cursor
    met_behind none = λ f met before fresh.
        let q = quiet none in
        subst (λ (x : Next). TellsSource origin x after.stepper.scanner.cursor) same
        (tells_by origin now after r now.stepper.failed refl q.peeked tells over f met (q.met before fresh)
        (moved.1.handed_out ∙ fresh))

  -- what gives an event met none
  pub quiet_on : (r : Next) (x : Event × Span) → r ≡ Some (Ok x)
      → IfUnseen now.peeked (TellsError origin now.stepper r after.stepper.scanner.cursor)
      → (IsOver now → (r ≡ None) × (after ≡ now)) → after.peeked ≡ None
      → initial.peeked ≡ None → Quiet origin initial after
  quiet_on r x same tells over peeked none = record {
    peeked = peeked;
    met = λ before fresh. none_but (origin after.stepper.scanner.cursor.input).error
        (λ f met. met_behind r (Some (Ok x)) same tells over none f met before fresh);
  }

  -- without a call nothing is met
  pub unmet : after.stepper.scanner ≡ now.stepper.scanner → initial.peeked ≡ None → (f : FaultKind)
      → (origin after.stepper.scanner.cursor.input).error ≡ Some f
      → (origin initial.stepper.scanner.cursor.input).error ≡ None
      → (origin initial.stepper.scanner.cursor.input).handed_out ≡ false → ⊥
  unmet same none f met before fresh =
      let is : None ≡ Some f = sym ((quiet none).met before fresh)
      ∙ sym (ap (λ s. (origin s.cursor.input).error) same) ∙ met in cc

pub quiet_first : {I : Type 0} (origin : I → Origin) (p : Parsing I) → p.peeked ≡ None → Quiet origin p p
quiet_first origin p none = record { peeked = none; met = λ before fresh. before }

-- ---- the first event, and what is sent behind it

abbrev refusal : Refused → Next
refusal e = Some (Err e)

module _ {I : Type 0} (left : I → ℕ) (origin : I → Origin) (old : Stepping I) where
  -- a parser that is over meets nothing
  pub over_tells : {X : Type 0} (peeked : Next) (r : Option (Result X Refused)) (at : Reading I) → old.failed ≡ true
      → IfUnseen peeked (TellsError origin old r at)
  over_tells None r at failed = λ f met fresh going. absurd (true≢false (sym failed ∙ going))
  over_tells (Some x) r at failed = tt

  -- a refusal that is handed on
  pub load_tells : {X : Type 0} (peeked : Next) (e : Refused) (at : Reading I) (r : Result X Refused)
      → IsErrAnd r (λ f. f ≡ e) → IfUnseen peeked (TellsError origin old (refusal e) at)
      → IfUnseen peeked (TellsError origin old (Some r) at)
  load_tells peeked e at (Ok x) so tells = absurd so
  load_tells peeked e at (Err f) so tells =
      subst (λ (g : Refused). IfUnseen peeked (TellsError origin old (refusal g) at)) (sym so)
      tells

  pub try_tells : {X E : Type 0} (peeked : Next) (e : Refused) (at : Reading I) (r : Result X (TryLoadError E))
      → IsErrAnd r (λ f. f ≡ Scan e)
      → IfUnseen peeked (TellsError origin old (refusal e) at)
      → IfUnseen peeked (TellsError origin old (scanned r) at)
  try_tells peeked e at (Ok x) so tells = absurd so
  try_tells peeked e at (Err (Scan f)) so tells =
      subst (λ (g : Refused). IfUnseen peeked (TellsError origin old (refusal g) at))
      (sym (ap (scan_or e) so)) tells
  try_tells peeked e at (Err (Receiver f)) so tells = absurd (true≢false (sym (ap is_scan so)))

  -- more is sent behind the first event
  pub rest_tells : {X : Type 0} (peeked : Next) (x : Event × Span) (mid : Parsing I) (r : Option (Result X Refused))
      (at : Reading I) → IfUnseen peeked (TellsError origin old (Some (Ok x)) mid.stepper.scanner.cursor)
      → MovesUnless left origin (Some (Ok x)) old.scanner.cursor mid.stepper.scanner.cursor → mid.peeked ≡ None
      → (mid.peeked ≡ None → TellsMet origin mid.stepper.scanner.cursor r at)
      → IfUnseen peeked (TellsError origin old r at)
  rest_tells None x mid r at tells moves none rest = λ f met fresh going.
      rest none f met (none_but (origin mid.stepper.scanner.cursor.input).error (λ g is. tells g is fresh going))
      (moves.1.handed_out ∙ fresh)
  rest_tells (Some y) x mid r at tells moves none rest = tt
