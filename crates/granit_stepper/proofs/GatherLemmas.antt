-- What comes behind the events that wait.
use Rattle.std.proofs.Common.{◌≡◌, ℕ, ◌<◌, ◌≤◌, ◌-◌, ◌^◌, ◌==◌, not, Bool, true, false, List, [], ◌∷◌, ◌++◌, length}
use Rattle.std.proofs.Common.{drop, Option, Some, None, Result, Ok, Err, refl, sym, ap, subst, ◌∙◌, ◌⊎◌, inl, inr}
use Rattle.std.proofs.Common.{arith}
use Rattle.std.proofs.lemmas.List.{append-nil}
use Rattle.std.specs.List.{slice_get}
use Rattle.granit_base.specs.Place.{Mark, Unread}
use Rattle.granit_error.specs.OptionsData.{OptionsData}
use Rattle.granit_error.specs.Refused.{Refused}
use Rattle.granit_lexemes.proofs.PieceLemmas.{pieces_done, pieces_fails}
use Rattle.granit_lexemes.specs.Outcome.{Fails}
use Rattle.granit_lexemes.specs.PlainEvent.{PlainEvent, StreamStart, event_on}
use Rattle.granit_machine.specs.Frames.{ParserState}
use Rattle.granit_restart.specs.Looking.{behind_waiting, turn_ahead}
use Rattle.granit_restart.specs.Skipping.{with_pending}
use Rattle.granit_stepper.proofs.NumberLemmas.{left_behind, turns_more}
use Rattle.granit_stepper.proofs.SettleLemmas.{settle_on}
use Rattle.granit_stepper.proofs.SkipLemmas.{none_left}
use Rattle.granit_stepper.proofs.StateLemmas.{next_is, waiting}
use Rattle.granit_stepper.proofs.TurnLemmas.{suc_zero, turn_waits_on}
use Rattle.granit_stepper.specs.Gathering.{GathersBehind}
use Rattle.granit_stepper.specs.Numbers.{GivesOr, RefusesNumber, TurnsTo, no_turn}
use Rattle.granit_stepper.specs.Stepping.{Keeps, Stepping, StandsIn, first_events, turn_view}
use Rattle.granit_steps.specs.Steps.{StepState, Turn, next_event, settle, step_size, step_turn}

-- ---- in the machine

-- the event that a settled state gives
pub settled_gives : (o : OptionsData) (m after : StepState) (e : PlainEvent) (es : List PlainEvent)
    → settle o m ≡ Ok ([], after) → after.pending ≡ e ∷ es → next_event o m ≡ Ok (Some e, with_pending es after)
settled_gives o m after e es settled is =
    next_is o m after settled
    ∙ ap (λ (xs : List PlainEvent). Ok (slice_get xs 0, record after { pending = drop 1 xs })) is

-- or none
pub settled_ends : (o : OptionsData) (m after : StepState) → settle o m ≡ Ok ([], after) → after.pending ≡ []
    → next_event o m ≡ Ok (None, with_pending [] after)
settled_ends o m after settled none =
    next_is o m after settled
    ∙ ap (λ (xs : List PlainEvent). Ok (slice_get xs 0, record after { pending = drop 1 xs })) none

-- where an event waits, the machine has settled
pub waits_settled : (o : OptionsData) (m : StepState) (e : PlainEvent) (es : List PlainEvent) → m.pending ≡ e ∷ es
    → settle o m ≡ Ok ([], m)
waits_settled o m e es is = pieces_done step_size (step_turn o) m m (turn_waits_on o m e es is)

-- a turn behind events is one where none waits
behind_ok : (es : List PlainEvent) (r : Turn) (given : Option (List PlainEvent)) (t : StepState)
    → behind_waiting es r ≡ Ok (given, t)
    → (u : StepState) × (r ≡ Ok (given, u)) × (t ≡ with_pending (es ++ u.pending) u)
behind_ok es (Ok (more, u)) given t is = (
  u,
  let same : ◌≡◌ {A = Option (List PlainEvent) × StepState} (more, with_pending (es ++ u.pending) u) (given, t) =
      cc (is) in ap (λ (g : Option (List PlainEvent)). Ok (g, u))
      (ap (λ (x : Option (List PlainEvent) × StepState). x.0) same),
  let same : ◌≡◌ {A = Option (List PlainEvent) × StepState} (more, with_pending (es ++ u.pending) u) (given, t) =
      cc (is) in sym (ap (λ (x : Option (List PlainEvent) × StepState). x.1) same),
)
behind_ok es (Err f) given t is = absurd (cc)

behind_err : (es : List PlainEvent) (r : Turn) (e : Refused) → behind_waiting es r ≡ Err e → r ≡ Err e
behind_err es (Ok (more, u)) e is = absurd (cc)
behind_err es (Err f) e is = is

none_more : (xs ys : List PlainEvent) → length (xs ++ ys) ≤ length xs → ys ≡ []
none_more [] [] few = refl
none_more [] (y ∷ ys) few = absurd (omega (arith, few))
none_more (x ∷ xs) ys few = none_more xs ys (omega (arith, few))

some_more : (xs : List PlainEvent) → length xs < length (xs ++ []) → ⊥
some_more [] many = omega (arith, many)
some_more (x ∷ xs) many = some_more xs (omega (arith, many))

-- ---- in the code

module _ {I : Type 0} (unread : I → Unread → Type 0) where
  -- the start of the stream waits as any event
  pub start_put : (s t : Stepping I) (start : Mark) (m : StepState) → s.first ≡ Some start
      → t ≡ record s { parser = record (s.parser) { given = event_on StreamStart start ∷ s.parser.given } }
      → StandsIn unread s m → StandsIn unread (record t { first = None }) m
  start_put s t start m first is at =
      subst (λ (r : Stepping I). StandsIn unread (record r { first = None }) m) (sym is) (record {
        going = at.going;
        reading = at.reading;
        parser = at.parser;
        pending = at.pending ∙ ap (λ (x : Option Mark). first_events x ++ s.parser.given) first;
        numbers = at.numbers;
        none_ahead = at.none_ahead;
      })

  -- an event that was given waits again
  pub event_put : (s t : Stepping I) (e : PlainEvent) (m : StepState) → s.first ≡ None
      → t ≡ record s { parser = record (s.parser) { given = e ∷ s.parser.given } } → StandsIn unread s m
      → StandsIn unread t (with_pending (e ∷ m.pending) m)
  event_put s t e m told is at =
      subst (λ (r : Stepping I). StandsIn unread r (with_pending (e ∷ m.pending) m)) (sym is) (record {
        going = at.going;
        reading = at.reading;
        parser = at.parser;
        pending = ap (λ (es : List PlainEvent). e ∷ es) (waiting unread s m at told)
            ∙ sym (ap (λ (x : Option Mark). first_events x ++ e ∷ s.parser.given) told);
        numbers = at.numbers;
        none_ahead = at.none_ahead;
      })

-- ---- turns behind the events that wait

-- as far as turns went, the machine settles as it does where they began
abbrev pub SettlesBehind : {I : Type 0} → (I → Unread → Type 0) → (initial now : Stepping I) → Type 0
SettlesBehind unread initial now =
    (m : StepState) → StandsIn unread initial m → initial.first ≡ None
    → (n : StepState) × StandsIn unread now (with_pending m.pending n)
    × (settle initial.scanner.options (with_pending [] n) ≡ settle initial.scanner.options (with_pending [] m))
    × TurnsTo initial.scanner.options (with_pending [] m) (with_pending [] n)

-- what a turn gives
abbrev pub TurnedEarly : {I : Type 0} → (I → Unread → Type 0) → Stepping I → Result Bool Refused → Stepping I → Type 0
TurnedEarly unread now r after =
    (m : StepState) → StandsIn unread now m → now.first ≡ None
    → GivesOr turn_view r (StandsIn unread after) (turn_ahead now.scanner.options m)
    (RefusesNumber after.renumbered now.scanner.options (with_pending [] m))

pub behind_first : {I : Type 0} (unread : I → Unread → Type 0) (s : Stepping I) → SettlesBehind unread s s
behind_first unread s = λ m at none. (with_pending [] m, at, refl, no_turn)

module _ {I : Type 0} (unread : I → Unread → Type 0) (initial now after : Stepping I) (keeps : Keeps initial now)
    (behind : SettlesBehind unread initial now) where
  abbrev o : OptionsData
  o = initial.scanner.options

  -- what is left behind a turn, or behind none
  abbrev Went : Bool → StepState → StepState → Type 0
  Went made m n = (u : StepState) × StandsIn unread after (with_pending (m.pending ++ u.pending) u)
      × (step_turn o (with_pending [] n) ≡ Ok (turn_view made, u))

  went : (made : Bool) → TurnedEarly unread now (Ok made) after → (m : StepState) (at : StandsIn unread initial m)
      (none : initial.first ≡ None) → Went made m (behind m at none).0
  went made turned m at none =
      let n = behind m at none in
      let t = subst (λ (p : OptionsData). GivesOr turn_view (Ok made) (StandsIn unread after)
      (turn_ahead p (with_pending m.pending n.0)) (RefusesNumber after.renumbered p (with_pending [] n.0)))
      keeps.options (turned (with_pending m.pending n.0) n.1 (keeps.first ∙ none)) in
      let u = behind_ok m.pending (step_turn o (with_pending [] n.0)) (turn_view made) t.0 t.2 in
      (u.0, subst (λ (s : StepState). StandsIn unread after s) u.2 t.1, u.1)

  -- a turn was made that gave no event
  pub behind_more : TurnedEarly unread now (Ok true) after → after.first ≡ initial.first
      → length after.parser.given ≤ length initial.parser.given → SettlesBehind unread initial after
  behind_more turned first few = λ m at none.
      let n = behind m at none in
      let w = went true turned m at none in
      let u = w.0 in
      let all = waiting unread after (with_pending (m.pending ++ u.pending) u) w.1 (first ∙ none) in
      let old = waiting unread initial m at none in
      let empty : u.pending ≡ [] = none_more m.pending u.pending
      (subst (λ (es : List PlainEvent). length es ≤ length m.pending) (sym all)
      (subst (λ (es : List PlainEvent). length after.parser.given ≤ length es) (sym old) few)) in
      let same : u ≡ with_pending [] u = ap (λ (es : List PlainEvent). with_pending es u) empty in (
        u,
        subst (λ (es : List PlainEvent). StandsIn unread after (with_pending es u))
            (ap (λ (es : List PlainEvent). m.pending ++ es) empty ∙ append-nil m.pending) w.1,
        subst (λ (v : StepState). settle o v ≡ settle o (with_pending [] m)) same
            (settle_on o (with_pending [] n.0) u w.2 ∙ n.2),
        subst (λ (v : StepState). TurnsTo o (with_pending [] m) v) same (turns_more n.3 w.2),
      )

  waits_by : (m u : StepState) (more : List PlainEvent) (Refuses : Refused → Type 0) → u.pending ≡ more
      → settle o u ≡ settle o (with_pending [] m)
      → StandsIn unread after (with_pending (m.pending ++ u.pending) u)
      → length m.pending < length (m.pending ++ more) → GathersBehind (Ok true) (StandsIn unread after) o m Refuses
  waits_by m u [] Refuses is settles there many = absurd (some_more m.pending many)
  waits_by m u (e ∷ es) Refuses is settles there many = (
    u,
    sym settles ∙ waits_settled o u e es is,
    there,
    ap not (sym (ap (λ (gs : List PlainEvent). length gs == 0) is ∙ suc_zero (length es))),
  )

  -- one was that gave some
  pub behind_waits : TurnedEarly unread now (Ok true) after → after.first ≡ initial.first
      → length initial.parser.given < length after.parser.given → (m : StepState) → StandsIn unread initial m
      → initial.first ≡ None
      → GathersBehind (Ok true) (StandsIn unread after) o m (RefusesNumber after.renumbered o (with_pending [] m))
  behind_waits turned first many = λ m at none.
      let n = behind m at none in
      let w = went true turned m at none in
      let u = w.0 in
      let all = waiting unread after (with_pending (m.pending ++ u.pending) u) w.1 (first ∙ none) in
      let old = waiting unread initial m at none in
      waits_by m u u.pending (RefusesNumber after.renumbered o (with_pending [] m)) refl
      (settle_on o (with_pending [] n.0) u w.2 ∙ n.2) w.1
      (subst (λ (es : List PlainEvent). length m.pending < length es) (sym all)
      (subst (λ (es : List PlainEvent). length es < length after.parser.given) (sym old) many))

  -- none is left to make
  pub behind_done : TurnedEarly unread now (Ok false) after → (m : StepState) → StandsIn unread initial m
      → initial.first ≡ None
      → GathersBehind (Ok false) (StandsIn unread after) o m (RefusesNumber after.renumbered o (with_pending [] m))
  behind_done turned = λ m at none.
      let n = behind m at none in
      let w = went false turned m at none in
      let u = w.0 in (
        u,
        sym n.2 ∙ pieces_done step_size (step_turn o) (with_pending [] n.0) u w.2,
        w.1,
        sym (ap (λ (s : StepState). not (length s.pending == 0)) (none_left (with_pending [] n.0) u o w.2)),
      )

  -- one fails
  pub behind_fails : (e : Refused) → TurnedEarly unread now (Err e) after → (m : StepState)
      → StandsIn unread initial m → initial.first ≡ None
      → GathersBehind (Err e) (StandsIn unread after) o m (RefusesNumber after.renumbered o (with_pending [] m))
  behind_fails e turned = λ m at none.
      let n = behind m at none in
      let k = with_pending [] n.0 in
      let t : Fails e (turn_ahead o (with_pending m.pending n.0)) ⊎ RefusesNumber after.renumbered o k e =
      subst (λ (p : OptionsData). Fails e (turn_ahead p (with_pending m.pending n.0))
      ⊎ RefusesNumber after.renumbered p k e) keeps.options
      (turned (with_pending m.pending n.0) n.1 (keeps.first ∙ none)) in
      elim t [
        | inl fails ↦ inl (λ other. sym n.2 ∙ pieces_fails step_size (step_turn o) k e
            (behind_err m.pending (step_turn o k) e (fails other)))
        | inr left ↦ inr (left.0, left_behind n.3 left.1)
      ]
