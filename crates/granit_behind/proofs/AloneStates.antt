-- A text alone, moved to where it is left behind a boundary.
use Rattle.std.proofs.Common.{◌≡◌, ℕ, ◌+◌, ◌-◌, ◌≤◌, true, List, [], ◌∷◌, Option, Some, None, Result, Ok}
use Rattle.std.proofs.Common.{Err, refl, sym, ap, ap₂, ◌∙◌, subst, arith}
use Rattle.std.specs.Option.{option_map}
use Rattle.std.specs.Prelude.{is_some, if◌then◌else◌}
use Rattle.granit_error.specs.OptionsData.{OptionsData}
use Rattle.granit_lexemes.specs.Here.{Here, mark_of, start_of}
use Rattle.granit_lexemes.specs.Outcome.{Fault}
use Rattle.granit_lexemes.specs.PlainEvent.{PlainEvent, event_on, StreamStart}
use Rattle.granit_machine.specs.Frames.{ParserState}
use Rattle.granit_restart.proofs.AheadLaws.{waits_next}
use Rattle.granit_restart.specs.Restart.{dropped}
use Rattle.granit_restart.specs.Skipping.{with_pending}
use Rattle.granit_steps.proofs.StepLaws.{steps_tell}
use Rattle.granit_steps.specs.Steps.{StepState, next_event, steps_start}
use Rattle.granit_steps.specs.Told.{GivesEvents, gives_end, gives_fault, gives_event}
use Rattle.granit_behind.proofs.LineGaps.{Seen, here_at, laid_at}
use Rattle.granit_moved.proofs.MovedEvents.{gives_moved}
use Rattle.granit_behind.proofs.Outer.{fresh_at}
use Rattle.granit_behind.proofs.OuterSteps.{reading_at}
use Rattle.granit_led.specs.Alone.{TellsMoved, handles_before, offset_or_none, shift_from, shift_to}
use Rattle.granit_led.specs.Declaring.{kept_start}
use Rattle.granit_moved.specs.Moved.{moved_steps}
use Rattle.granit_shifted.specs.Shift.{KeptFits, moved_here, moved_kept}

pub sum_none : (n : ℕ) → (n + 0) ≡ n
sum_none n = omega arith

line_back : (n : ℕ) → 1 ≤ n → ((n - 1) + 1) ≡ n
line_back n some = omega (arith, some)

offset_back : (n : Option ℕ) → (if is_some n then option_map (λ k. offset_or_none n + k) (Some 0) else None) ≡ n
offset_back None = refl
offset_back (Some n) = ap (λ (k : ℕ). let x : Option ℕ = Some k in x) (sum_none n)

kept_back : (kept : List (List ℕ × List ℕ)) → moved_kept (handles_before kept) [] ≡ kept
kept_back [] = refl
kept_back (x ∷ xs) = refl

-- ---- where it begins

abbrev pub seen_first : Seen
seen_first = record { column = 0; begins_line = true; tab = None }

abbrev pub afresh : Here → Here
afresh h = here_at h.unread.text h.unread.offset h.unread.lends h.place.index h.place.line seen_first

start_moved : (lexemes : ℕ) (h : Here) (p : ParserState) → 1 ≤ h.place.line
    → moved_here (shift_to lexemes h p) (start_of h.unread.text) ≡ afresh h
start_moved lexemes h p some =
    let made = λ (offset : Option ℕ) (i n : ℕ). here_at h.unread.text offset h.unread.lends i n seen_first in
    ap₂ (λ (offset : Option ℕ) (i : ℕ). made offset i ((h.place.line - 1) + 1)) (offset_back h.unread.offset)
    (sum_none h.place.index)
    ∙ ap (made h.unread.offset h.place.index) (line_back h.place.line some)

abbrev pub own_state : (lexemes : ℕ) → Here → ParserState → StepState
own_state lexemes h p = record {
  reading = reading_at (afresh h) (laid_at lexemes true) None;
  queue = [];
  parser = fresh_at (mark_of (afresh h)) (dropped p);
  pending = [];
}

-- a text's start, moved there
pub start_at : (lexemes : ℕ) (h : Here) (p : ParserState) (kept : List (List ℕ × List ℕ)) → 1 ≤ h.place.line
    → moved_steps (shift_from lexemes h p) (kept_start h.unread.text kept)
    ≡ record (own_state lexemes h p) { parser = record (fresh_at (mark_of (afresh h)) (dropped p)) { kept = kept } }
start_at lexemes h p kept some =
    let made = λ (g : Here) (n count : ℕ). let s : StepState = record {
      reading = reading_at g (laid_at n true) None;
      queue = [];
      parser = record (fresh_at (mark_of g) (dropped p)) { count = count; kept = kept };
      pending = [];
    } in s in
    ap (λ (g : Here). made g (lexemes + 0) (p.count + 0)) (start_moved lexemes h p some)
    ∙ ap₂ (λ (n count : ℕ). made (afresh h) n count) (sum_none lexemes) (sum_none p.count)

own_moved : (lexemes : ℕ) (h : Here) (p : ParserState) → 1 ≤ h.place.line
    → moved_steps (shift_to lexemes h p) (with_pending [] (steps_start h.unread.text)) ≡ own_state lexemes h p
own_moved lexemes h p some =
    start_at lexemes h p (moved_kept (handles_before p.kept) []) some
    ∙ ap (λ (kept : List (List ℕ × List ℕ)). let s : StepState = record (own_state lexemes h p) {
      parser = record (fresh_at (mark_of (afresh h)) (dropped p)) { kept = kept };
    } in s) (kept_back p.kept)

-- ---- what is told there

module _ (o : OptionsData) where
  abbrev Next : Type 0
  Next = Result (Option PlainEvent × StepState) Fault

  state_of : StepState → Next → StepState
  state_of s (Ok x) = x.1
  state_of s (Err f) = s

  behind_start : (x : List ℕ) (e : PlainEvent) (es : List PlainEvent) (f : Option Fault)
      → GivesEvents o (steps_start x) (e ∷ es) f → GivesEvents o (with_pending [] (steps_start x)) es f
  unfolding state_of
  behind_start x e es f (gives_event {after = after} q more) =
      let first = event_on StreamStart (mark_of (start_of x)) in
      let same : after ≡ with_pending [] (steps_start x) =
      ap (state_of after) (sym q ∙ waits_next o (steps_start x) first []) in
      subst (λ (s : StepState). GivesEvents o s es f) same more

  pub own_gives : (lexemes : ℕ) (h : Here) (p : ParserState) → 1 ≤ h.place.line → KeptFits o (shift_to lexemes h p)
      → TellsMoved o h.unread.text (shift_to lexemes h p) (own_state lexemes h p)
  own_gives lexemes h p some fits =
      let shift = shift_to lexemes h p in
      subst (TellsMoved o h.unread.text shift) (own_moved lexemes h p some)
      (gives_moved shift o fits (behind_start h.unread.text _ _ _ (steps_tell o h.unread.text)))

  -- the same call gives the same
  pub gives_from : (s t : StepState) (es : List PlainEvent) (f : Option Fault) → next_event o s ≡ next_event o t
      → GivesEvents o s es f → GivesEvents o t es f
  gives_from s t es f same (gives_end e) = gives_end (sym same ∙ e)
  gives_from s t es f same (gives_fault e) = gives_fault (sym same ∙ e)
  gives_from s t es f same (gives_event e more) = gives_event (sym same ∙ e) more
