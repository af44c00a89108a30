-- A turn that was made ahead and refused is refused once what waits was given.
use Rattle.std.proofs.Common.{◌≡◌, Bool, true, false, ◌==◌, List, [], ◌∷◌, drop, length, Option, Some, None, Result, Ok}
use Rattle.std.proofs.Common.{Err, refl, sym, ap, subst, ◌∙◌}
use Rattle.std.specs.Prelude.{IfSome}
use Rattle.std.specs.List.{slice_get}
use Rattle.std.specs.Option.{option_map}
use Rattle.granit_base.specs.Place.{Unread}
use Rattle.granit_base.specs.declared.place.Span.{Span}
use Rattle.granit_error.specs.FaultKind.{NoMemory}
use Rattle.granit_error.specs.Refused.{Refused}
use Rattle.granit_event.specs.Events.{plain_event}
use Rattle.granit_event.specs.declared.event.Event.{Event}
use Rattle.granit_lexemes.specs.PlainEvent.{PlainEvent}
use Rattle.granit_machine.specs.Frames.{ParserState}
use Rattle.granit_restart.specs.Skipping.{with_pending}
use Rattle.granit_stepper.proofs.RefusalLemmas.{refused_with}
use Rattle.granit_stepper.specs.Refusals.{GivesAhead, HoldsRefusal, RefusedIn, SettlesAhead, SettlesBy, TurnsAhead}
use Rattle.granit_stepper.specs.Refusals.{TurnsBy}
use Rattle.granit_stepper.specs.Stepping.{Stepping}
use Rattle.granit_steps.specs.Steps.{StepState}

module _ {I : Type 0} where
  waiting_by : (s : Stepping I) (f : Option Refused) (es : List PlainEvent) → (length es == 0) ≡ false
      → TurnsBy f es (Ok false) s s
  waiting_by s None es some = tt
  waiting_by s (Some f) [] some = absurd (cc)
  waiting_by s (Some f) (e ∷ es) some = (refl, refl)

  pub turns_waiting : (s : Stepping I) → (length s.parser.given == 0) ≡ false → TurnsAhead (Ok false) s s
  turns_waiting s some = waiting_by s s.ahead s.parser.given some

  over_by : (s new : Stepping I) (r : Result Bool Refused) (f : Option Refused) (es : List PlainEvent) → es ≡ []
      → IfSome f (λ e. (r ≡ Err e) × (new ≡ record s { ahead = None })) → TurnsBy f es r s new
  over_by s new r None es none given = tt
  over_by s new r (Some f) [] none given = given
  over_by s new r (Some f) (e ∷ es) none given = absurd (cc)

  pub turns_over : (s new : Stepping I) (r : Result Bool Refused) → s.parser.given ≡ []
      → IfSome s.ahead (λ e. (r ≡ Err e) × (new ≡ record s { ahead = None })) → TurnsAhead r s new
  turns_over s new r none given = over_by s new r s.ahead s.parser.given none given

  -- a turn was made
  none_by : (s new : Stepping I) (f : Option Refused) (es : List PlainEvent) → TurnsBy f es (Ok true) s new → f ≡ None
  none_by s new None es given = refl
  none_by s new (Some f) [] given = absurd (let clash = given.0 in cc)
  none_by s new (Some f) (e ∷ es) given = absurd (let clash = given.0 in cc)

  pub no_ahead : (s new : Stepping I) → TurnsAhead (Ok true) s new → s.ahead ≡ None
  no_ahead s new given = none_by s new s.ahead s.parser.given given

  pub settles_none : (s new : Stepping I) (r : Result (Unit {0}) Refused) → s.ahead ≡ None → SettlesAhead r s new
  settles_none s new r none =
      subst (λ (f : Option Refused). SettlesBy f s.parser.given r s new) (sym none) tt

  -- it was refused
  err_by : (s new : Stepping I) (e : Refused) (f : Option Refused) (es : List PlainEvent) → TurnsBy f es (Err e) s new
      → SettlesBy f es (Err e) s new
  err_by s new e None es given = tt
  err_by s new e (Some f) [] given =
      (let same = given.0 in let is : e ≡ f = cc in ap Err is, given.1)
  err_by s new e (Some f) (x ∷ es) given = absurd (let clash = given.0 in cc)

  pub settles_err : (s new : Stepping I) (e : Refused) → TurnsAhead (Err e) s new → SettlesAhead (Err e) s new
  settles_err s new e given = err_by s new e s.ahead s.parser.given given

  -- none was left to make
  ok_by : (s new : Stepping I) (f : Option Refused) (es : List PlainEvent) → TurnsBy f es (Ok false) s new
      → SettlesBy f es (Ok tt) s new
  ok_by s new None es given = tt
  ok_by s new (Some f) [] given = absurd (let clash = given.0 in cc)
  ok_by s new (Some f) (x ∷ es) given = (refl, given.1)

  pub settles_ok : (s new : Stepping I) → TurnsAhead (Ok false) s new → SettlesAhead (Ok tt) s new
  settles_ok s new given = ok_by s new s.ahead s.parser.given given

  -- one was made, or none was left
  pub settles_turned : (s new : Stepping I) (made : Bool) → TurnsAhead (Ok made) s new → SettlesAhead (Ok tt) s new
  settles_turned s new true given = settles_none s new (Ok tt) (no_ahead s new given)
  settles_turned s new false given = settles_ok s new given

-- ---- what waits is given before it

module _ {I : Type 0} (unread : I → Unread → Type 0) (s : Stepping I) (m : StepState) (h : HoldsRefusal unread s m)
    (mid : Stepping I) where
  held_by : (r : Result (Unit {0}) Refused) → SettlesAhead r s mid → SettlesBy (Some h.error) s.parser.given r s mid
  held_by r given = subst (λ (f : Option Refused). SettlesBy f s.parser.given r s mid) h.ahead given

  event_by : (u : Unit {0}) (r : Option (Event × Span)) (p : ParserState) (es : List PlainEvent) → s.parser.given ≡ es
      → SettlesBy (Some h.error) es (Ok u) s mid → option_map plain_event r ≡ slice_get mid.parser.given 0
      → p ≡ record (mid.parser) { given = drop 1 mid.parser.given }
      → GivesAhead unread (option_map plain_event) (Ok r) (record mid { parser = p }) m
  event_by u r p [] is given first rest = absurd (let clash = given.0 in cc)
  event_by u r p (e ∷ es) is given first rest =
      let waits : mid.parser.given ≡ e ∷ es = ap (λ (t : Stepping I). t.parser.given) given.1 ∙ is in
      let parser : p ≡ record (s.parser) { given = es } =
      rest ∙ ap (λ (xs : List PlainEvent). record (mid.parser) { given = drop 1 xs }) waits
      ∙ ap (λ (t : Stepping I). record (t.parser) { given = es }) given.1 in
      let held : HoldsRefusal unread (record s { parser = p }) (with_pending es m) = record {
        error = h.error;
        ahead = h.ahead;
        going = h.going;
        other = h.other;
        refused = refused_with unread s m h.error es p s.ahead s.failed parser h.refused;
      } in (
        e,
        es,
        first ∙ ap (λ (xs : List PlainEvent). slice_get xs 0) waits,
        h.refused.stands.pending ∙ is,
        subst (λ (t : Stepping I). HoldsRefusal unread (record t { parser = p }) (with_pending es m)) (sym given.1)
            held,
      )

  pub gives_event : (u : Unit {0}) (r : Option (Event × Span)) (p : ParserState) → SettlesAhead (Ok u) s mid
      → option_map plain_event r ≡ slice_get mid.parser.given 0
      → p ≡ record (mid.parser) { given = drop 1 mid.parser.given }
      → GivesAhead unread (option_map plain_event) (Ok r) (record mid { parser = p }) m
  gives_event u r p given first rest = event_by u r p s.parser.given refl (held_by (Ok u) given) first rest

  error_by : (e : Refused) (es : List PlainEvent) → s.parser.given ≡ es → SettlesBy (Some h.error) es (Err e) s mid
      → (m.pending ≡ []) × RefusedIn unread (record mid { failed = true }) m e
  error_by e [] is given =
      let both = given.0 in
      let same : e ≡ h.error = cc in
      let here = refused_with unread s m h.error m.pending s.parser None true
      (ap (λ (xs : List PlainEvent). record (s.parser) { given = xs }) (sym h.refused.stands.pending)) h.refused in (
        h.refused.stands.pending ∙ is,
        subst (λ (t : Stepping I). RefusedIn unread (record t { failed = true }) m e) (sym given.1)
            (subst (λ (f : Refused). RefusedIn unread (record s { ahead = None; failed = true }) m f) (sym same) here),
      )
  error_by e (x ∷ es) is given = absurd (let clash = given.0 in cc)

  other_by : (e : Refused) (es : List PlainEvent) → SettlesBy (Some h.error) es (Err e) s mid → e.kind ≡ NoMemory → ⊥
  other_by e [] given is =
      let both = given.0 in
      let same : e ≡ h.error = cc in
      h.other (sym (ap (λ (f : Refused). f.kind) same) ∙ is)
  other_by e (x ∷ es) given is = absurd (let clash = given.0 in cc)

  -- which is no want of memory
  pub error_other : (e : Refused) → SettlesAhead (Err e) s mid → e.kind ≡ NoMemory → ⊥
  error_other e given = other_by e s.parser.given (held_by (Err e) given)

  pub gives_error : (e : Refused) → SettlesAhead (Err e) s mid
      → (m.pending ≡ []) × RefusedIn unread (record mid { failed = true }) m e
  gives_error e given = error_by e s.parser.given refl (held_by (Err e) given)
