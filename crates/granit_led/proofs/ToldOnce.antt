-- What is told from a state is told once, and so what a text tells alone is all that is told behind a boundary.
use Rattle.std.proofs.Common.{◌≡◌, ℕ, List, ◌∷◌, Option, Some, None, Result, Ok, Err, refl, sym, ap, ap₂, ◌∙◌, subst}
use Rattle.granit_error.specs.OptionsData.{OptionsData}
use Rattle.granit_lexemes.specs.Outcome.{Fault}
use Rattle.granit_lexemes.specs.PlainEvent.{PlainEvent}
use Rattle.granit_steps.proofs.StepLaws.{run_told, steps_tell}
use Rattle.granit_steps.specs.Steps.{StepState, next_event}
use Rattle.granit_steps.specs.Told.{GivesEvents, gives_end, gives_fault, gives_event, told_of}
use Rattle.granit_led.specs.Alone.{TellsMoved, ToldAlone, behind_first}
use Rattle.granit_shifted.specs.Shift.{Shift}

module _ (o : OptionsData) where
  abbrev Next : Type 0
  Next = Result (Option PlainEvent × StepState) Fault

  event_in : Next → Option PlainEvent
  event_in (Ok x) = x.0
  event_in (Err f) = None

  state_in : StepState → Next → StepState
  state_in s (Ok x) = x.1
  state_in s (Err f) = s

  apart : {A : Type 0} (x : PlainEvent) (s t : StepState) → ◌≡◌ {A = Next} (Ok (None, s)) (Ok (Some x, t)) → A
  unfolding event_in
  apart x s t e = absurd (let f : None ≡ Some x = ap event_in e in cc)

  same_call : (s : StepState) (r n : Next) → next_event o s ≡ r → next_event o s ≡ n → r ≡ n
  same_call s r n p q = sym p ∙ q

  pub told_once : (s : StepState) (es all : List PlainEvent) (f g : Option Fault) → GivesEvents o s es f
      → GivesEvents o s all g → (es ≡ all) × (f ≡ g)
  unfolding event_in state_in
  told_once s es all f g (gives_end p) (gives_end q) = (refl, refl)
  told_once s es all f g (gives_end p) (gives_fault q) = absurd (let e = same_call s _ _ p q in cc)
  told_once s es all f g (gives_end p) (gives_event q more) = apart _ _ _ (same_call s _ _ p q)
  told_once s es all f g (gives_fault p) (gives_end q) = absurd (let e = same_call s _ _ p q in cc)
  told_once s es all f g (gives_fault {f = x} p) (gives_fault {f = y} q) =
      let e = same_call s _ _ p q in let same : x ≡ y = cc in
      (refl, ap (λ (f : Fault). let r : Option Fault = Some f in r) same)
  told_once s es all f g (gives_fault p) (gives_event q more) = absurd (let e = same_call s _ _ p q in cc)
  told_once s es all f g (gives_event p more) (gives_end q) = apart _ _ _ (same_call s _ _ q p)
  told_once s es all f g (gives_event p more) (gives_fault q) = absurd (let e = same_call s _ _ p q in cc)
  told_once s es all f g (gives_event {after = s'} {e = x} {es = xs} p more)
      (gives_event {after = t} {e = y} {es = ys} q rest) =
      let e = same_call s _ _ p q in
      let some : Some x ≡ Some y = ap event_in e in
      let event : x ≡ y = cc in
      let after : s' ≡ t = ap (state_in t) e in
      let later = told_once t xs ys f g (subst (λ (s : StepState). GivesEvents o s xs f) after more) rest in
      (ap₂ (λ (e : PlainEvent) (es : List PlainEvent). e ∷ es) event later.0, later.1)

  pub told_alone : (text : List ℕ) (shift : Shift) (s : StepState) (es : List PlainEvent) (f : Option Fault)
      → TellsMoved o text shift s → GivesEvents o s es f → ToldAlone o text shift es f
  told_alone text shift s es f tells gives =
      let same = told_once s es _ f _ gives tells in
      record {
        all = behind_first (told_of o text).0;
        fault = (told_of o text).1;
        alone = steps_tell o text;
        run = run_told o text;
        events = same.0;
        end = same.1;
      }
