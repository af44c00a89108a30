-- A comment that waits takes the room of one.
use Rattle.std.proofs.Common.{◌≡◌, ℕ, zero, suc, Bool, true, false, List, [], ◌∷◌, ◌++◌, Option, Some, None, Result, Ok}
use Rattle.std.proofs.Common.{Err, refl, ap, ◌∙◌}
use Rattle.std.specs.Prelude.{if◌then◌else◌}
use Rattle.granit_base.specs.Place.{Mark}
use Rattle.granit_error.specs.OptionsData.{OptionsData}
use Rattle.granit_lexemes.specs.Outcome.{Fault}
use Rattle.granit_lexemes.specs.PlainEvent.{Comment, EventKind, PlainEvent}
use Rattle.granit_restart.specs.Ahead.{is_note}
use Rattle.granit_restart.specs.Header.{is_directives}
use Rattle.granit_restart.specs.Looking.{Look, behind_waiting, look_ahead, look_behind, look_by, look_in, told_by}
use Rattle.granit_restart.specs.Looking.{told_event, turn_ahead}
use Rattle.granit_restart.specs.Skipping.{with_pending}
use Rattle.granit_steps.specs.Steps.{StepState, Turn, step_size, step_turn}

note_told : (kind : EventKind) (room : ℕ) (m : Mark) (more : ℕ → Option (Result Bool Fault)) → is_note kind ≡ true
    → told_event (suc room) kind m more ≡ more room
note_told (Comment text placement) room m more is = refl
note_told kind room m more is = absurd (cc)

module _ (o : OptionsData) (room : ℕ) (e : PlainEvent) (note : is_note e.kind ≡ true) where
  abbrev Shifts : ℕ → Type 0
  Shifts n = (s : StepState) (es : List PlainEvent)
      → (look_in o (suc room) n (with_pending (e ∷ es) s)).0 ≡ (look_in o room n (with_pending es s)).0

  shift_if : (b : Bool) (t u : StepState) (x y : Look) → x.0 ≡ y.0
      → (if b then (Ok true, t) else x).0 ≡ (if b then (Ok true, u) else y).0
  shift_if true t u x y same = refl
  shift_if false t u x y same = same

  shift_turn : (n : ℕ) (s : StepState) (es : List PlainEvent) (r : Turn) → Shifts n
      → (look_behind (look_in o (suc room) n) (with_pending (e ∷ es) s) (behind_waiting (e ∷ es) r)).0
      ≡ (look_behind (look_in o room n) (with_pending es s) (behind_waiting es r)).0
  shift_turn n s es (Ok (Some given, t)) more =
      shift_if (is_directives t.parser.stage) (with_pending (e ∷ es ++ t.pending) t) (with_pending (es ++ t.pending) t)
      (look_in o (suc room) n (with_pending (e ∷ es ++ t.pending) t))
      (look_in o room n (with_pending (es ++ t.pending) t)) (more t (es ++ t.pending))
  shift_turn n s es (Ok (None, t)) more = refl
  shift_turn n s es (Err f) more = refl

  shift_told : (n : ℕ) (s : StepState) (es : List PlainEvent) (told : Option (Result Bool Fault)) → Shifts n
      → (look_by o (look_in o (suc room) n) (with_pending (e ∷ es) s) told).0
      ≡ (look_by o (look_in o room n) (with_pending es s) told).0
  shift_told n s es (Some x) more = refl
  shift_told n s es None more =
      shift_if (is_directives s.parser.stage) (with_pending (e ∷ es) s) (with_pending es s)
      (look_behind (look_in o (suc room) n) (with_pending (e ∷ es) s) (turn_ahead o (with_pending (e ∷ es) s)))
      (look_behind (look_in o room n) (with_pending es s) (turn_ahead o (with_pending es s)))
      (shift_turn n s es (step_turn o (with_pending [] s)) more)

  shifts : (n : ℕ) → Shifts n
  shifts zero s es = refl
  shifts (suc n) s es =
      ap (λ (told : Option (Result Bool Fault)). (look_by o (look_in o (suc room) n) (with_pending (e ∷ es) s) told).0)
      (note_told e.kind room e.span.start (λ left. told_by left es) note)
      ∙ shift_told n s es (told_by room es) (shifts n)

  pub waiting_note : (s : StepState) (es : List PlainEvent)
      → (look_ahead o (suc room) (with_pending (e ∷ es) s)).0 ≡ (look_ahead o room (with_pending es s)).0
  waiting_note s es = shifts (suc (step_size s)) s es
