-- A look goes turn by turn: as many turns as a state may take are enough.
use Rattle.std.proofs.Common.{◌≡◌, ℕ, zero, suc, ◌<◌, Bool, true, false, List, [], ◌++◌, Option, Some, None, Result, Ok}
use Rattle.std.proofs.Common.{Err, refl, ap, subst, ◌∙◌, arith}
use Rattle.std.specs.Prelude.{if◌then◌else◌}
use Rattle.granit_error.specs.OptionsData.{OptionsData}
use Rattle.granit_lexemes.specs.Outcome.{Fault}
use Rattle.granit_lexemes.specs.PlainEvent.{PlainEvent}
use Rattle.granit_restart.specs.Header.{is_directives}
use Rattle.granit_restart.specs.Looking.{Look, behind_waiting, look_ahead, look_behind, look_by, look_in, told_by}
use Rattle.granit_restart.specs.Looking.{turn_ahead}
use Rattle.granit_restart.specs.Skipping.{with_pending}
use Rattle.granit_steps.proofs.StepLaws.{step_turn-Shortens}
use Rattle.granit_steps.specs.Steps.{StepState, Turn, step_size, step_turn}

-- what a turn gives, and the state behind it; where it fails nothing, and this state
abbrev turned_or : StepState → Turn → Option (List PlainEvent) × StepState
turned_or s (Ok x) = x
turned_or s (Err f) = (None, s)

module _ (o : OptionsData) where
  -- ---- a turn ahead leaves less

  less_by : (es given : List PlainEvent) (s t : StepState) (r : Turn) → step_turn o (with_pending [] s) ≡ r
      → behind_waiting es r ≡ Ok (Some given, t) → step_size t < step_size s
  less_by es given s t (Ok (Some y, u)) is e =
      let less : step_size u < step_size s = step_turn-Shortens o (with_pending [] s) u y is in
      let same : with_pending (es ++ u.pending) u ≡ t = ap (λ (r : Turn). (turned_or s r).1) e in
      subst (λ (v : StepState). step_size v < step_size s) same less
  less_by es given s t (Ok (None, u)) is e =
      let none : None ≡ Some given = ap (λ (r : Turn). (turned_or s r).0) e in
      absurd cc
  less_by es given s t (Err f) is e = absurd cc

  less : (given : List PlainEvent) (s t : StepState) → turn_ahead o s ≡ Ok (Some given, t) → step_size t < step_size s
  less given s t e = less_by s.pending given s t (step_turn o (with_pending [] s)) refl e

  module _ (room : ℕ) where
    -- ---- enough turns

    abbrev Enough : ℕ → ℕ → Type 0
    Enough n k = (s : StepState) → step_size s < n → step_size s < k → look_in o room n s ≡ look_in o room k s

    enough_turn : (n k : ℕ) (s : StepState) (r : Turn) → Enough n k → step_size s < suc n → step_size s < suc k
        → turn_ahead o s ≡ r → look_behind (look_in o room n) s r ≡ look_behind (look_in o room k) s r
    enough_turn n k s (Ok (Some given, t)) more h g e =
        let fewer = less given s t e in
        ap (λ (x : Look). if is_directives t.parser.stage then (Ok true, t) else x)
        (more t (omega (arith, fewer, h)) (omega (arith, fewer, g)))
    enough_turn n k s (Ok (None, t)) more h g e = refl
    enough_turn n k s (Err f) more h g e = refl

    enough_told : (n k : ℕ) (s : StepState) (told : Option (Result Bool Fault)) → Enough n k → step_size s < suc n
        → step_size s < suc k → look_by o (look_in o room n) s told ≡ look_by o (look_in o room k) s told
    enough_told n k s (Some x) more h g = refl
    enough_told n k s None more h g =
        ap (λ (x : Look). if is_directives s.parser.stage then (Ok true, s) else x)
        (enough_turn n k s (turn_ahead o s) more h g refl)

    enough : (n k : ℕ) → Enough n k
    enough zero k s h g = absurd (omega arith)
    enough (suc n) zero s h g = absurd (omega arith)
    enough (suc n) (suc k) s h g = enough_told n k s (told_by room s.pending) (enough n k) h g

    -- ---- one turn of a look

    pub look_told : (s : StepState) (told : Result Bool Fault) → told_by room s.pending ≡ Some told
        → look_ahead o room s ≡ (told, s)
    look_told s told e = ap (look_by o (look_in o room (step_size s)) s) e

    pub look_ends : (s : StepState) (x : Look) → told_by room s.pending ≡ None
        → ((later : StepState → Look) → look_by o later s None ≡ x) → look_ahead o room s ≡ x
    look_ends s x e ends =
        ap (look_by o (look_in o room (step_size s)) s) e ∙ ends (look_in o room (step_size s))

    pub look_on : (s t : StepState) (given : List PlainEvent) → told_by room s.pending ≡ None
        → is_directives s.parser.stage ≡ false → turn_ahead o s ≡ Ok (Some given, t)
        → is_directives t.parser.stage ≡ false → look_ahead o room s ≡ look_ahead o room t
    look_on s t given e stage turn after =
        let fewer = less given s t turn in
        let n = step_size s in
        ap (look_by o (look_in o room n) s) e
        ∙ ap (λ (b : Bool). if b then (Ok true, s) else look_behind (look_in o room n) s (turn_ahead o s)) stage
        ∙ ap (look_behind (look_in o room n) s) turn
        ∙ ap (λ (b : Bool). if b then (Ok true, t) else look_in o room n t) after
        ∙ enough n (suc (step_size t)) t fewer (omega arith)
