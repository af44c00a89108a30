-- Skipping, and the search for the turn that fails, go turn by turn: as many turns as a state may take are enough.
use Rattle.std.proofs.Common.{◌≡◌, ℕ, zero, suc, ◌<◌, List, [], Some, None, Ok, Err, refl, ap}
use Rattle.std.proofs.Common.{◌∙◌, arith}
use Rattle.granit_error.specs.OptionsData.{OptionsData}
use Rattle.granit_lexemes.specs.Outcome.{Fault}
use Rattle.granit_lexemes.specs.PlainEvent.{PlainEvent}
use Rattle.granit_restart.specs.Calls.{failing, failing_by, failing_in}
use Rattle.granit_restart.specs.Skipping.{Ahead, NoEnd, BehindDocument, AtStreamEnd, SkipEnd, Ended, ahead}
use Rattle.granit_restart.specs.Skipping.{skip_by_turns, skip_ahead, skip_fault, skip_in, skip_turn, with_pending}
use Rattle.granit_steps.proofs.StepLaws.{step_turn-Shortens}
use Rattle.granit_steps.specs.Steps.{StepState, Turn, step_size, step_turn}

module _ (o : OptionsData) where
  -- ---- enough turns

  -- what is left to do in at most so many turns
  abbrev then_in : ℕ → StepState → SkipEnd
  then_in n t = skip_turn (skip_in o n) t (step_turn o t)

  abbrev Enough : ℕ → ℕ → Type 0
  Enough n k = (s : StepState) → step_size s < n → step_size s < k → skip_in o n s ≡ skip_in o k s

  enough_turn : (n k : ℕ) (s : StepState) (r : Turn) → Enough n k → step_size s < suc n → step_size s < suc k
      → step_turn o s ≡ r → skip_turn (skip_in o n) s r ≡ skip_turn (skip_in o k) s r
  enough_turn n k s (Ok (Some y, t)) more h g e =
      let less = step_turn-Shortens o s t y e in more t (omega (arith, less, h)) (omega (arith, less, g))
  enough_turn n k s (Ok (None, t)) more h g e = refl
  enough_turn n k s (Err f) more h g e = refl

  enough_ahead : (n k : ℕ) (s : StepState) (r : Ahead) → Enough n k → step_size s < suc n → step_size s < suc k
      → skip_ahead (then_in n) s r ≡ skip_ahead (then_in k) s r
  enough_ahead n k s NoEnd more h g =
      enough_turn n k (with_pending [] s) (step_turn o (with_pending [] s)) more h g refl
  enough_ahead n k s (BehindDocument es) more h g = refl
  enough_ahead n k s (AtStreamEnd es) more h g = refl

  enough : (n k : ℕ) → Enough n k
  enough zero k s h g = absurd (omega arith)
  enough (suc n) zero s h g = absurd (omega arith)
  enough (suc n) (suc k) s h g = enough_ahead n k s (ahead s.pending) (enough n k) h g

  -- ---- one turn of skipping

  skip_by : (s : StepState) (r : Ahead) → ahead s.pending ≡ r
      → skip_by_turns o s ≡ skip_ahead (then_in (step_size s)) s r
  skip_by s r e = ap (skip_ahead (then_in (step_size s)) s) e

  turn_by : (s : StepState) (r : Turn) → ahead s.pending ≡ NoEnd → step_turn o (with_pending [] s) ≡ r
      → skip_by_turns o s ≡ skip_turn (skip_in o (step_size s)) (with_pending [] s) r
  turn_by s r none e = skip_by s NoEnd none ∙ ap (skip_turn (skip_in o (step_size s)) (with_pending [] s)) e

  pub skip_on : (s after : StepState) (es : List PlainEvent) → ahead s.pending ≡ NoEnd
      → step_turn o (with_pending [] s) ≡ Ok (Some es, after) → skip_by_turns o s ≡ skip_by_turns o after
  skip_on s after es none e =
      let less : step_size after < step_size s = step_turn-Shortens o (with_pending [] s) after es e in
      turn_by s (Ok (Some es, after)) none e
      ∙ enough (step_size s) (suc (step_size after)) after less (omega arith)

  pub skip_done : (s after : StepState) → ahead s.pending ≡ NoEnd
      → step_turn o (with_pending [] s) ≡ Ok (None, after) → skip_by_turns o s ≡ Ended (with_pending [] s)
  skip_done s after none e = turn_by s (Ok (None, after)) none e

  pub skip_fails : (s : StepState) (f : Fault) → ahead s.pending ≡ NoEnd → step_turn o (with_pending [] s) ≡ Err f
      → skip_by_turns o s ≡ skip_fault (with_pending [] s) f
  skip_fails s f none e = turn_by s (Err f) none e

  pub skip_document : (s : StepState) (es : List PlainEvent) → ahead s.pending ≡ BehindDocument es
      → skip_by_turns o s ≡ Ended (with_pending es s)
  skip_document s es e = skip_by s (BehindDocument es) e

  pub skip_stream : (s : StepState) (es : List PlainEvent) → ahead s.pending ≡ AtStreamEnd es
      → skip_by_turns o s ≡ Ended (with_pending es s)
  skip_stream s es e = skip_by s (AtStreamEnd es) e

  -- ---- the turn that fails

  abbrev Finds : ℕ → ℕ → Type 0
  Finds n k = (s : StepState) → step_size s < n → step_size s < k → failing_in o n s ≡ failing_in o k s

  finds_by : (n k : ℕ) (s : StepState) (r : Turn) → Finds n k → step_size s < suc n → step_size s < suc k
      → step_turn o s ≡ r → failing_by (failing_in o n) s r ≡ failing_by (failing_in o k) s r
  finds_by n k s (Ok (Some y, t)) more h g e =
      let less = step_turn-Shortens o s t y e in more t (omega (arith, less, h)) (omega (arith, less, g))
  finds_by n k s (Ok (None, t)) more h g e = refl
  finds_by n k s (Err f) more h g e = refl

  finds : (n k : ℕ) → Finds n k
  finds zero k s h g = absurd (omega arith)
  finds (suc n) zero s h g = absurd (omega arith)
  finds (suc n) (suc k) s h g = finds_by n k s (step_turn o s) (finds n k) h g refl

  pub failing_on : (s after : StepState) (es : List PlainEvent) → step_turn o s ≡ Ok (Some es, after)
      → failing o s ≡ failing o after
  failing_on s after es e =
      let less : step_size after < step_size s = step_turn-Shortens o s after es e in
      ap (failing_by (failing_in o (step_size s)) s) e
      ∙ finds (step_size s) (suc (step_size after)) after less (omega arith)

  pub failing_here : (s : StepState) (f : Fault) → step_turn o s ≡ Err f → failing o s ≡ s
  failing_here s f e = ap (failing_by (failing_in o (step_size s)) s) e
