-- Where a state gives what a text's start does, all is told that the text tells: alone, or where handles stay from
-- before, behind a text that declares them anew.
use Rattle.std.proofs.Common.{◌≡◌, ℕ, ◌≤◌, Bool, true, false, List, [], ◌∷◌, Option, refl, sym, ap, ◌∙◌, subst, inl}
use Rattle.std.proofs.Common.{inr}
use Rattle.granit_error.specs.OptionsData.{OptionsData}
use Rattle.granit_lexemes.specs.Here.{Here}
use Rattle.granit_lexemes.specs.Outcome.{Fault}
use Rattle.granit_lexemes.specs.PlainEvent.{PlainEvent}
use Rattle.granit_machine.specs.Frames.{ParserState}
use Rattle.granit_steps.proofs.Futures.{future}
use Rattle.granit_steps.proofs.StepLaws.{ready_tells}
use Rattle.granit_steps.specs.Steps.{StepState}
use Rattle.granit_steps.specs.Told.{GivesEvents}
use Rattle.granit_behind.proofs.AloneStates.{own_gives, own_state, start_at}
use Rattle.granit_moved.proofs.MovedEvents.{gives_moved}
use Rattle.granit_behind.proofs.TellsAnewLaws.{tells_anew}
use Rattle.granit_led.specs.Alone.{alone_told, anew_told, handles_before, NoneStays, shift_from, shift_to}
use Rattle.granit_led.specs.Alone.{StaysDeclared, TellsItsText}
use Rattle.granit_led.specs.Declaring.{DeclaresAnew, kept_start}
use Rattle.granit_shifted.specs.Shift.{KeptFits, moved_events, moved_fault_of}

module _ (o : OptionsData) where
  -- what is given where handles stay is given there, moved
  own_anew : (lexemes : ℕ) (h : Here) (p : ParserState) (es : List PlainEvent) (f : Option Fault) → 1 ≤ h.place.line
      → GivesEvents o (kept_start h.unread.text p.kept) es f
      → GivesEvents o (own_state lexemes h p) (moved_events (shift_from lexemes h p) es)
      (moved_fault_of (shift_from lexemes h p) f)
  own_anew lexemes h p es f some gives =
      let shift = shift_from lexemes h p in
      subst (λ (s : StepState). GivesEvents o s (moved_events shift es) (moved_fault_of shift f))
      (start_at lexemes h p p.kept some) (gives_moved shift o (inl refl) gives)

  kept_tells : (text : List ℕ) (kept : List (List ℕ × List ℕ))
      → GivesEvents o (kept_start text kept) (future o (kept_start text kept)).0 (future o (kept_start text kept)).1
  kept_tells text kept = ready_tells o (kept_start text kept) (record { below = tt; old = tt; one_end = λ e. refl })

  -- all that one state gives another one gives
  abbrev pub GivesLike : StepState → StepState → Type 0
  GivesLike s t = (es : List PlainEvent) (f : Option Fault) → GivesEvents o s es f → GivesEvents o t es f

  module _ (lexemes : ℕ) (h : Here) (p : ParserState) (t : StepState) (some : 1 ≤ h.place.line)
      (like : GivesLike (own_state lexemes h p) t) where
    fits : NoneStays o p → KeptFits o (shift_to lexemes h p)
    fits (inl e) = inl (ap handles_before e)
    fits (inr e) = inr e

    none_tells : NoneStays o p → TellsItsText o lexemes h p t
    none_tells none = alone_told none (like _ _ (own_gives o lexemes h p some (fits none)))

    anew_tells : (before : List ℕ) → DeclaresAnew o before p.kept → (kept : List (List ℕ × List ℕ)) → p.kept ≡ kept
        → (keep : Bool) → o.keep_tags ≡ keep → TellsItsText o lexemes h p t
    anew_tells before declares [] is keep keeps = none_tells (inl is)
    anew_tells before declares (x ∷ xs) is false keeps = none_tells (inr keeps)
    anew_tells before declares (x ∷ xs) is true keeps =
        let told = future o (kept_start h.unread.text p.kept) in
        let gives = kept_tells h.unread.text p.kept in
        anew_told ((λ e. absurd (let none : x ∷ xs ≡ [] = sym is ∙ e in cc)), keeps)
        (tells_anew o keeps before h.unread.text p.kept told.0 told.1 declares gives)
        (like _ _ (own_anew lexemes h p told.0 told.1 some gives))

    pub text_tells : StaysDeclared o p → TellsItsText o lexemes h p t
    text_tells (inl none) = none_tells none
    text_tells (inr declared) = anew_tells declared.0 declared.1 p.kept refl o.keep_tags refl
