-- What a read gives where a refusal waits.
use Rattle.std.proofs.Common.{◌≡◌, ◌⊎◌, inl, inr, true, false, ◌||◌, [], ◌∷◌, Option, Some, None, Result, Ok, Err, refl}
use Rattle.std.proofs.Common.{ap, ◌∙◌}
use Rattle.std.specs.Option.{option_map}
use Rattle.std.specs.Prelude.{IfErr, IfSome, is_some}
use Rattle.granit_base.specs.Place.{Unread}
use Rattle.granit_base.specs.declared.place.Span.{Span}
use Rattle.granit_error.specs.Refused.{Refused}
use Rattle.granit_event.specs.Events.{plain_event}
use Rattle.granit_event.specs.declared.event.Event.{Event}
use Rattle.granit_input.specs.Origin as origins
use Rattle.granit_input.specs.Origin.{Gave, Origin, error_given}
use Rattle.granit_layers.specs.Turning.{Next}
use Rattle.granit_lexemes.specs.Outcome.{Fault}
use Rattle.granit_lexemes.specs.PlainEvent.{PlainEvent}
use Rattle.granit_sourced.proofs.SourceLemmas.{source_tells}
use Rattle.granit_sourced.specs.Going.{ReadsHeld}
use Rattle.granit_sourced.specs.Giving.{next_view}
use Rattle.granit_sourced.specs.Sources.{TellsSource, unless_failed}
use Rattle.granit_restart.specs.Skipping.{with_pending}
use Rattle.granit_stepper.specs.Holding.{GivesHeld, HoldsFault}
use Rattle.granit_stepper.specs.Refusals.{StandsRefused}
use Rattle.granit_stepper.specs.Stepping.{Stepping, refused_kind}
use Rattle.granit_steps.specs.Steps.{StepState}

-- as the stepper says it
pub held_view : {I : Type 0} (unread : I → Unread → Type 0) (r : Result (Option (Event × Span)) Refused)
    (s : Stepping I) (m : StepState) (f : Fault) → IfErr r (λ e. s.failed ≡ true)
    → GivesHeld unread (option_map plain_event) r s m f → ReadsHeld unread (next_view r) s m f
held_view unread (Ok None) s m f failed given = absurd (let clash = given.2 in cc)
held_view unread (Ok (Some x)) s m f failed given =
    let same : given.0 ≡ plain_event x = let is = given.2 in cc in
    (given.1, given.3 ∙ ap (λ (e : PlainEvent). e ∷ given.1) same, given.4)
held_view unread (Err e) s m f failed given = (given.0, given.1, failed, given.2)

-- ---- unless the source failed

module _ {I : Type 0} (unread : I → Unread → Type 0) (mid new : Stepping I) (ahead : new.ahead ≡ mid.ahead)
    (failed : new.failed ≡ (mid.failed || false))
    (refused : (m : StepState) (e : Fault) → StandsRefused unread mid m e → StandsRefused unread new m e) where
  pub held_kept : (m : StepState) (f : Fault) → HoldsFault unread mid m f → HoldsFault unread new m f
  held_kept m f h = record {
    ahead = ahead ∙ h.ahead;
    going = failed ∙ ap (λ b. b || false) h.going;
    other = h.other;
    stands = refused m f h.stands;
  }

  pub waits_kept : (r : Next) (m : StepState) (f : Fault) → ReadsHeld unread r mid m f → ReadsHeld unread r new m f
  waits_kept None m f reads = reads
  waits_kept (Some (Ok x)) m f reads = (reads.0, reads.1, held_kept (with_pending reads.0 m) f reads.2)
  waits_kept (Some (Err e)) m f reads =
      (reads.0, reads.1, failed ∙ ap (λ b. b || false) reads.2, refused m f reads.3)

module _ {I : Type 0} (unread : I → Unread → Type 0) (origin : I → Origin) (old mid new : Stepping I)
    (goes : origins.Goes (origin old.scanner.cursor.input) (origin mid.scanner.cursor.input))
    (gave : Gave (origin mid.scanner.cursor.input) (origin new.scanner.cursor.input)) where
  pub waits_by : (error : Option Refused) (r : Next) (m : StepState) (f : Fault)
      → option_map refused_kind error ≡ error_given (origin mid.scanner.cursor.input)
      → IfSome error (λ e. (e.mark.place ≡ new.scanner.cursor.place) × (e.sources ≡ []))
      → IfSome error (λ e. is_some e.mark.byte_offset ≡ (origin new.scanner.cursor.input).tells_offset)
      → (error ≡ None → ReadsHeld unread r mid m f → ReadsHeld unread r new m f) → ReadsHeld unread r mid m f
      → ReadsHeld unread (unless_failed r error) new m f
      ⊎ TellsSource origin (unless_failed r error) new.scanner.cursor
  waits_by None r m f is placed told on reads = inl (on refl reads)
  waits_by (Some e) r m f is placed told on reads = inr (source_tells (origin old.scanner.cursor.input)
      (origin mid.scanner.cursor.input) (origin new.scanner.cursor.input) goes gave e new.scanner.cursor.place is
      placed.0 placed.1 told)
