-- What a parser gives without memory, by what its stepper gives.
use Rattle.std.proofs.Common.{◌≡◌, inl, inr, false, List, [], ◌∷◌, Option, None, Some, Result, Ok, Err, refl, sym, ap}
use Rattle.std.proofs.Common.{subst, ◌∙◌}
use Rattle.std.specs.Prelude.{IfSome, is_some}
use Rattle.std.specs.Option.{option_map}
use Rattle.granit_base.specs.declared.place.Span.{Span}
use Rattle.granit_error.specs.Refused.{Refused}
use Rattle.granit_event.specs.declared.event.Event.{Event}
use Rattle.granit_event.specs.Events.{plain_event}
use Rattle.granit_input.specs.Origin.{Gave, Goes, Origin, error_given}
use Rattle.granit_lexemes.specs.PlainEvent.{PlainEvent}
use Rattle.granit_sourced.proofs.SourceLemmas.{source_tells}
use Rattle.granit_layers.specs.Turning.{Next}
use Rattle.granit_sourced.specs.Giving.{next_view}
use Rattle.granit_sourced.specs.Sources.{IfUnseen, IsSourceError, TellsSource, unless_failed}
use Rattle.granit_sourced.specs.Waiting.{FailsAtOnce, GivesAtOnce, TakesFirst, TakesFirstOf}
use Rattle.granit_stepper.specs.Stepping.{Stepping, refused_kind}
use Rattle.granit_stepper.specs.Waiting.{GivesOldestOf, GivesFirstWaiting, IsAtEnd, SameButCursor, waiting_events}
use Rattle.granit_stepper.specs.Waiting.{with_waiting}

module _ {I : Type 0} where
  same_cursor : (old new : Stepping I) → new ≡ old → SameButCursor old new
  same_cursor old new is = subst (λ (s : Stepping I). SameButCursor old s) (sym is) refl

  same_on : (old mid new : Stepping I) → SameButCursor old mid → SameButCursor mid new → SameButCursor old new
  same_on old mid new first next =
      next ∙ ap (λ (s : Stepping I). record s { scanner = record (s.scanner) { cursor = new.scanner.cursor } }) first

  -- ---- of what was read

  view_in : (es : List PlainEvent) (r : Result (Option (Event × Span)) Refused) (old new : Stepping I)
      → GivesOldestOf (option_map plain_event) es r old new → TakesFirstOf es (next_view r) old new
  view_in [] r old new given = tt
  view_in (e ∷ es) (Ok None) old new given = absurd (let clash = given.0 in cc)
  view_in (e ∷ es) (Ok (Some x)) old new given =
      (let same = given.0 in cc, same_cursor (with_waiting es old) new given.1)
  view_in (e ∷ es) (Err f) old new given = given

  -- the stepper gives the first event that waits
  pub takes_view : (r : Result (Option (Event × Span)) Refused) (old new : Stepping I)
      → GivesFirstWaiting (option_map plain_event) r old new → TakesFirst (next_view r) old new
  takes_view r old new given = view_in (waiting_events old) r old new given

  -- ---- unless the source failed

  takes_in : (es : List PlainEvent) (r : Next) (old mid new : Stepping I) → SameButCursor mid new
      → TakesFirstOf es r old mid → TakesFirstOf es r old new
  takes_in [] r old mid new same takes = tt
  takes_in (e ∷ es) None old mid new same takes = takes
  takes_in (e ∷ es) (Some (Ok x)) old mid new same takes =
      (takes.0, same_on (with_waiting es old) mid new takes.1 same)
  takes_in (e ∷ es) (Some (Err f)) old mid new same takes = takes

module _ {I : Type 0} (origin : I → Origin) (old mid new : Stepping I)
    (goes : Goes (origin old.scanner.cursor.input) (origin mid.scanner.cursor.input))
    (gave : Gave (origin mid.scanner.cursor.input) (origin new.scanner.cursor.input)) (r : Next)
    (waiting : old.failed ≡ false → TakesFirst r old mid)
    (ended : IsAtEnd old → (r ≡ None) × (mid ≡ old))
    (free : old.failed ≡ false → waiting_events old ≡ [] → FailsAtOnce r old) where
  pub at_once_by : (error : Option Refused)
      → option_map refused_kind error ≡ error_given (origin mid.scanner.cursor.input)
      → IfSome error (λ e. (e.mark.place ≡ new.scanner.cursor.place) × (e.sources ≡ []))
      → IfSome error (λ e. is_some e.mark.byte_offset ≡ (origin new.scanner.cursor.input).tells_offset)
      → (error ≡ None → SameButCursor mid new) → GivesAtOnce origin old (unless_failed r error) new
  at_once_by None is placed offset rest = record {
    waiting = λ going. inl (takes_in (waiting_events old) r old mid new (rest refl) (waiting going));
    ended = λ going at. let none = ended at in
        inl (none.0, same_on old mid new (same_cursor old mid none.1) (rest refl));
    free = λ going none. inl (free going none);
  }
  at_once_by (Some e) is placed offset rest =
      let told : IsSourceError (origin new.scanner.cursor.input) new.scanner.cursor.place e =
      source_tells (origin old.scanner.cursor.input) (origin mid.scanner.cursor.input)
      (origin new.scanner.cursor.input) goes gave e new.scanner.cursor.place is placed.0 placed.1 offset in
      record { waiting = λ going. inr told; ended = λ going at. inr told; free = λ going none. inr told }

-- ---- behind the end

pub if_unseen : {X : Type 0} {seen : Option X} {Gives : Type 0} → seen ≡ None → IfUnseen seen Gives → Gives
if_unseen {Gives = Gives} none gives = subst (λ w. IfUnseen w Gives) none gives

-- what is given there is the error of the source
pub ended_given : {I : Type 0} (origin : I → Origin) (old new : Stepping I) (r : Result (Event × Span) Refused)
    → GivesAtOnce origin old (Some r) new → old.failed ≡ false → IsAtEnd old
    → TellsSource origin (Some r) new.scanner.cursor
ended_given origin old new r at_once going at = elim (at_once.ended going at) [
  | inl none ↦ absurd (let clash = none.0 in cc)
  | inr told ↦ told
]
