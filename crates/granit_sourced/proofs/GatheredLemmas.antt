-- All events that a stepper still gives, as one list.
use Rattle.std.proofs.Common.{◌≡◌, ◌<◌, ◌-◌, ◌^◌, ℕ, Bool, true, false, ◌==◌, not, List, [], ◌∷◌, ◌++◌, length, Option}
use Rattle.std.proofs.Common.{Some, None, Ok, Err, refl, sym, ap, subst, ◌∙◌, ◌⊎◌, inl, inr, arith}
use Rattle.std.proofs.lemmas.List.{append-nil, length-append}
use Rattle.granit_base.specs.Place.{Mark, Unread}
use Rattle.granit_error.specs.OptionsData.{OptionsData}
use Rattle.granit_error.specs.Refused.{Refused}
use Rattle.granit_input.specs.Origin.{Origin}
use Rattle.granit_lexemes.specs.Outcome.{Fails}
use Rattle.granit_lexemes.specs.PlainEvent.{PlainEvent}
use Rattle.granit_restart.specs.Skipping.{with_pending}
use Rattle.granit_sourced.specs.Gathering.{Gathered, LeadsOut, LeadsTo, NextGathered, RefusedThere, RefusesAfter}
use Rattle.granit_sourced.specs.Gathering.{WaitsGathered, WaitsOrRefuses, none_given, first_given}
use Rattle.granit_sourced.specs.Sources.{TellsSource}
use Rattle.granit_stepper.proofs.GatherLemmas.{settled_ends, settled_gives, waits_settled}
use Rattle.granit_stepper.proofs.StateLemmas.{next_fails, waiting}
use Rattle.granit_stepper.proofs.TurnLemmas.{none_given as none_waits, some_given as some_waits}
use Rattle.granit_stepper.specs.Gathering.{GathersBehind}
use Rattle.granit_stepper.specs.Numbers.{RefusesNumber}
use Rattle.granit_stepper.specs.Stepping.{Stepping, StandsIn, first_events}
use Rattle.granit_steps.specs.Steps.{StepState, settle}

-- ---- in the machine

-- events are given, and others behind them
pub leads_behind : (o : OptionsData) {m n after : StepState} {es fs : List PlainEvent} → LeadsTo o m es n
    → LeadsTo o n fs after → LeadsTo o m (es ++ fs) after
leads_behind o none_given more = more
leads_behind o (first_given is leads) more = first_given is (leads_behind o leads more)

-- all that waits is given
waits_all : (o : OptionsData) (m : StepState) (es : List PlainEvent) → m.pending ≡ es
    → LeadsTo o m es (with_pending [] m)
waits_all o m [] none = subst (λ (es : List PlainEvent). LeadsTo o m [] (with_pending es m)) none none_given
waits_all o m (e ∷ es) is =
    first_given (settled_gives o m m e es (waits_settled o m e es is) is) (waits_all o (with_pending es m) es refl)

-- where turns led to what waits
settled_all : (o : OptionsData) (m after : StepState) (e : PlainEvent) (es : List PlainEvent)
    → settle o m ≡ Ok ([], after)
    → after.pending ≡ e ∷ es → LeadsTo o m (e ∷ es) (with_pending [] after)
settled_all o m after e es settled is =
    first_given (settled_gives o m after e es settled is) (waits_all o (with_pending es after) es refl)

-- ---- in the code

-- fewer anchors are counted than the greatest number of 64 bits
pub few_numbered : {I : Type 0} (unread : I → Unread → Type 0) (s : Stepping I) (m : StepState) → StandsIn unread s m
    → m.parser.count < 2 ^ 64 - 1
few_numbered unread s m at = rw at.parser at.numbers

-- events behind others
longer : (xs ys zs : List PlainEvent) (e : PlainEvent) (es : List PlainEvent) → ys ≡ e ∷ es → xs ++ ys ≡ zs
    → length xs < length zs
longer xs ys zs e es is all = rw (sym all, is, length-append xs (e ∷ es)) (omega arith)

module _ {I : Type 0} (unread : I → Unread → Type 0) (o : OptionsData) (m : StepState) where
  -- it waits before all others
  pub waits_first : (s t : Stepping I) (e : PlainEvent) → t.first ≡ None
      → ((n : StepState) → StandsIn unread s n → StandsIn unread t (with_pending (e ∷ n.pending) n))
      → Gathered unread o m (e ∷ []) s → WaitsGathered unread o m t
  waits_first s t e told puts given =
      let n = given.0 in
      let there = puts n given.2 in
      let is : e ∷ n.pending ≡ t.parser.given = waiting unread t (with_pending (e ∷ n.pending) n) there told in
      record {
        told = told;
        at = n;
        leads = subst (λ (es : List PlainEvent). LeadsTo o m es (with_pending [] n)) is
            (leads_behind o given.1 (waits_all o n n.pending refl));
        stands = subst (λ (es : List PlainEvent). StandsIn unread t (with_pending es n)) is there;
      }

  -- all that waits in a known state
  pub waits_now : (s : Stepping I) → s.first ≡ None → StandsIn unread s m → WaitsGathered unread o m s
  waits_now s told at =
      let is : m.pending ≡ s.parser.given = waiting unread s m at told in
      record {
        told = told;
        at = m;
        leads = waits_all o m s.parser.given is;
        stands = subst (λ (es : List PlainEvent). StandsIn unread s (with_pending es m)) is at;
      }

  -- what waits is taken
  emptied : (s : Stepping I) (n : StepState) (es : List PlainEvent) → s.first ≡ None
      → StandsIn unread s (with_pending es n)
      → StandsIn unread (record s { parser = record (s.parser) { given = [] } }) (with_pending [] n)
  emptied s n es told at = record {
    going = at.going;
    reading = at.reading;
    parser = at.parser;
    pending = ap (λ (x : Option Mark). first_events x ++ []) (sym told);
    numbers = at.numbers;
    none_ahead = at.none_ahead;
  }

  -- and is what comes next
  pub some_gathered : (origin : I → Origin) (s t : Stepping I) (count : ℕ) (more : Bool) (es : List PlainEvent)
      → 0 < count → es ≡ s.parser.given → t ≡ record s { parser = record (s.parser) { given = [] } }
      → WaitsOrRefuses unread origin o m count (Ok more) s → NextGathered unread origin o m (Ok more) es t
  some_gathered origin s t count true es some is left both =
      let w = both.1 in
      let led : Gathered unread o m es t = (
        with_pending [] w.at,
        subst (λ (gs : List PlainEvent). LeadsTo o m gs (with_pending [] w.at)) (sym is) w.leads,
        subst (λ (q : Stepping I). StandsIn unread q (with_pending [] w.at)) (sym left)
            (emptied s w.at s.parser.given w.told w.stands),
      ) in
      (rw is (omega (arith, some, both.0)), led)
  some_gathered origin s t count false es some is left all =
      subst (λ (gs : List PlainEvent). LeadsOut o m gs) (sym is) all

  more_by : (now t : Stepping I) (w : WaitsGathered unread o m now) (after : StepState) (more : List PlainEvent)
      → settle o (with_pending [] w.at) ≡ Ok ([], after) → t.first ≡ None
      → StandsIn unread t (with_pending (now.parser.given ++ after.pending) after) → after.pending ≡ more
      → true ≡ not (length more == 0) → (length now.parser.given < length t.parser.given) × WaitsGathered unread o m t
  more_by now t w after [] settled told there is some =
      absurd (let clash : true ≡ false = some_waits [] (sym some) in cc)
  more_by now t w after (e ∷ es) settled told there is some =
      let all = waiting unread t (with_pending (now.parser.given ++ after.pending) after) there told in (
        longer now.parser.given after.pending t.parser.given e es is all,
        record {
          told = told;
          at = after;
          leads = subst (λ (gs : List PlainEvent). LeadsTo o m gs (with_pending [] after))
              (ap (λ (gs : List PlainEvent). now.parser.given ++ gs) (sym is) ∙ all)
              (leads_behind o w.leads (settled_all o (with_pending [] w.at) after e es settled is));
          stands = subst (λ (gs : List PlainEvent). StandsIn unread t (with_pending gs after)) all there;
        },
      )

  -- more was gathered, one more at least
  pub gathers_more : (now after : Stepping I) (Refuses : StepState → Refused → Type 0) → after.first ≡ now.first
      → ((n : StepState) → StandsIn unread now n → now.first ≡ None
      → GathersBehind (Ok true) (StandsIn unread after) o n (Refuses n))
      → WaitsGathered unread o m now
      → (length now.parser.given < length after.parser.given) × WaitsGathered unread o m after
  gathers_more now after Refuses first gives w =
      let g = gives (with_pending now.parser.given w.at) w.stands w.told in
      more_by now after w g.0 g.0.pending g.1 (first ∙ w.told) g.2 refl g.3

  none_by : (now t : Stepping I) (w : WaitsGathered unread o m now) (after : StepState) (more : List PlainEvent)
      → settle o (with_pending [] w.at) ≡ Ok ([], after) → t.first ≡ None
      → StandsIn unread t (with_pending (now.parser.given ++ after.pending) after) → after.pending ≡ more
      → false ≡ not (length more == 0) → LeadsOut o m t.parser.given
  none_by now t w after [] settled told there is none =
      let all = waiting unread t (with_pending (now.parser.given ++ after.pending) after) there told in
      let last = with_pending [] w.at in
      subst (λ (es : List PlainEvent). LeadsOut o m es)
      (sym (append-nil now.parser.given) ∙ ap (λ (es : List PlainEvent). now.parser.given ++ es) (sym is) ∙ all) (
        last,
        w.leads,
        few_numbered unread now (with_pending now.parser.given w.at) w.stands,
        (with_pending [] after, settled_ends o last after settled is),
      )
  none_by now t w after (e ∷ es) settled told there is none =
      absurd (let clash : e ∷ es ≡ [] = none_waits (e ∷ es) (sym none) in cc)

  -- nothing is left
  pub gathers_all : (now after : Stepping I) (Refuses : StepState → Refused → Type 0) → after.first ≡ now.first
      → ((n : StepState) → StandsIn unread now n → now.first ≡ None
      → GathersBehind (Ok false) (StandsIn unread after) o n (Refuses n))
      → WaitsGathered unread o m now → LeadsOut o m after.parser.given
  gathers_all now after Refuses first gives w =
      let g = gives (with_pending now.parser.given w.at) w.stands w.told in
      none_by now after w g.0 g.0.pending g.1 (first ∙ w.told) g.2 refl g.3

  refused_by : (origin : I → Origin) (n : StepState) (t : Stepping I) (e : Refused)
      → (Fails e (settle o n) ⊎ RefusesNumber t.renumbered o n e)
      ⊎ TellsSource {X = Bool} origin (Some (Err e)) t.scanner.cursor → RefusedThere origin o n t e
  refused_by origin n t e (inl fails) = inl (next_fails unread t.renumbered o n e fails)
  refused_by origin n t e (inr told) = inr told

  -- a refusal follows
  pub gathers_refusal : (origin : I → Origin) (now t : Stepping I) (e : Refused)
      → ((n : StepState) → StandsIn unread now n → now.first ≡ None
      → (Fails e (settle o (with_pending [] n)) ⊎ RefusesNumber t.renumbered o (with_pending [] n) e)
      ⊎ TellsSource {X = Bool} origin (Some (Err e)) t.scanner.cursor)
      → WaitsGathered unread o m now → RefusesAfter origin o m t e
  gathers_refusal origin now t e fails w = (
    now.parser.given,
    with_pending [] w.at,
    w.leads,
    refused_by origin (with_pending [] w.at) t e (fails (with_pending now.parser.given w.at) w.stands w.told),
  )
