-- All events that a parser still gives, as one list.
use Rattle.std.proofs.Common.{◌≡◌, ◌<◌, ◌-◌, ◌^◌, ℕ, [], ◌∷◌, Some, None, Result, Ok, Err, subst}
use Rattle.std.proofs.Common.{Bool, true, false, List, sym}
use Rattle.std.specs.Prelude.{IfErr, IfOk, IfSome}
use Rattle.granit_base.specs.Place.{Unread}
use Rattle.granit_error.specs.OptionsData.{OptionsData}
use Rattle.granit_error.specs.Refused.{Refused}
use Rattle.granit_base.specs.declared.place.Span.{Span}
use Rattle.granit_event.specs.declared.event.Event.{Event}
use Rattle.granit_input.proofs.OriginLemmas.{goes_on}
use Rattle.granit_input.specs.Origin.{Goes, Origin}
use Rattle.granit_lexemes.specs.PlainEvent.{PlainEvent}
use Rattle.granit_parser.specs.Gathering.{GathersSome}
use Rattle.granit_parser.specs.Parsing.{Next, Parsing, StandsAt, StandsBefore, none_given, first_given}
use Rattle.granit_parser.proofs.SourceLemmas.{moves_seen}
use Rattle.granit_sourced.proofs.GatheredLemmas.{few_numbered}
pub use Rattle.granit_sourced.proofs.GatheredLemmas.{leads_behind}
use Rattle.granit_sourced.proofs.SourceLemmas.{giving_on}
use Rattle.granit_sourced.specs.Gathering.{Gathered, NextGathered}
use Rattle.granit_sourced.specs.Sources.{GoesGiving, GoesUnless, IfUnseen, MovesUnless}
use Rattle.granit_stepper.specs.Stepping.{Stepping}
use Rattle.granit_steps.specs.Steps.{StepState, next_event}

-- fewer anchors are counted than the greatest number of 64 bits, where nothing is given
pub none_numbered : {I : Type 0} (unread : I → Unread → Type 0) (m : StepState) (peeked : Next) (old new : Stepping I)
    → IfSome peeked (λ x. ◌≡◌ {A = Next} None (Some x) × (new ≡ old)) → StandsBefore unread peeked old m
    → m.parser.count < 2 ^ 64 - 1
none_numbered unread m None old new seen at = few_numbered unread old m at
none_numbered unread m (Some x) old new seen at = absurd (let clash : None ≡ Some x = seen.0 in cc)

-- one event was given
pub gathered_first : {I : Type 0} (unread : I → Unread → Type 0) (o : OptionsData) (m : StepState) (p : Parsing I)
    (e : PlainEvent) → p.peeked ≡ None → (n : StepState) → StandsAt unread p n
    → next_event o m ≡ Ok (Some e, n) → Gathered unread o m (e ∷ []) p.stepper
gathered_first unread o m p e none n at is =
    (n, first_given is none_given, subst (λ (r : Next). StandsBefore unread r p.stepper n) none at)

-- these are the next events, and nothing was looked at
pub gathered_some : {I : Type 0} (unread : I → Unread → Type 0) (o : OptionsData) (m : StepState) (origin : I → Origin)
    (p : Parsing I) (r : Result Bool Refused) (es : List PlainEvent) → p.peeked ≡ None
    → NextGathered unread origin o m r es p.stepper → GathersSome unread origin o m r es p
gathered_some unread o m origin p (Ok true) es unseen next = (
  next.0,
  (
    next.1.0,
    next.1.1,
    subst (λ (r : Next). StandsBefore unread r p.stepper next.1.0) (sym unseen) next.1.2,
  ),
)
gathered_some unread o m origin p (Ok false) es unseen next = next
gathered_some unread o m origin p (Err e) es unseen next = next

-- ---- where calls leave the source

-- what a call leaves
pub went : {I : Type 0} (left : I → ℕ) (origin : I → Origin) (r s : Result (Event × Span) Refused)
    (now after : Parsing I)
    → r ≡ s → IfSome now.peeked (λ x. (Some r ≡ Some x) × (after.stepper ≡ now.stepper))
    → IfUnseen now.peeked (MovesUnless left origin (Some r) now.stepper.scanner.cursor after.stepper.scanner.cursor)
    → GoesUnless (Some s) (origin now.stepper.scanner.cursor.input) (origin after.stepper.scanner.cursor.input)
went left origin r s now after same seen moves =
    subst (λ (x : Result (Event × Span) Refused). GoesUnless (Some x) (origin now.stepper.scanner.cursor.input)
    (origin after.stepper.scanner.cursor.input)) same
    (moves_seen left origin (Some r) now.peeked now.stepper after.stepper seen moves)

pub gone_ok : {V : Type 0} (r : Result V Refused) (a b : Origin) → GoesUnless (Some r) a b → IfOk r (λ v. Goes a b)
gone_ok (Ok v) a b goes = goes
gone_ok (Err e) a b goes = tt

pub gone_err : {V : Type 0} (r : Result V Refused) (a b : Origin) → GoesUnless (Some r) a b
    → IfErr r (λ e. GoesGiving a b)
gone_err (Ok v) a b goes = tt
gone_err (Err e) a b goes = goes

pub went_ok : {V : Type 0} (r : Result V Refused) (a b c : Origin) → Goes a b → GoesUnless (Some r) b c
    → IfOk r (λ v. Goes a c)
went_ok (Ok v) a b c first next = goes_on a b c first next
went_ok (Err e) a b c first next = tt

pub went_err : {V : Type 0} (r : Result V Refused) (a b c : Origin) → Goes a b → GoesUnless (Some r) b c
    → IfErr r (λ e. GoesGiving a c)
went_err (Ok v) a b c first next = tt
went_err (Err e) a b c first next = giving_on a b c first next
