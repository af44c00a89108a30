-- Between calls another number is set, or another option: a parser is then where turns made early lead to, with that.
use Rattle.std.proofs.Common.{◌≡◌, inl, inr, ℕ, true, false, List, [], ◌∷◌, Option, Some, None, Ok, Err, refl, sym, ap}
use Rattle.std.proofs.Common.{subst, ◌∙◌}
use Rattle.granit_base.specs.Place.{Unread}
use Rattle.granit_error.specs.OptionsData.{OptionsData}
use Rattle.granit_event.specs.Events.{plain_event}
use Rattle.granit_lexemes.specs.Outcome.{Fault}
use Rattle.granit_lexemes.specs.PlainEvent.{PlainEvent, EventKind, DocumentStart, DocumentEnd, StreamEnd}
use Rattle.granit_parser.proofs.InLemmas.{closed_open, goes_in, open_seen}
use Rattle.granit_parser.specs.Parsing.{Next, Parsing, StandsBefore}
use Rattle.granit_parser.specs.Recovering.{AnswersBy, ChangesIn, GaveUp, IsClosed, IsOpen, ParserIn, SeenBy, SeenNone}
use Rattle.granit_parser.specs.Recovering.{SeenOrFails}
use Rattle.granit_recovery.proofs.RecoveryLaws.{noted_steps}
use Rattle.granit_recovery.specs.Streams.{EarlyOf, not_early, turn_early}
use Rattle.granit_restart.proofs.AheadLaws.{one, OneTurn, waits_next}
use Rattle.granit_restart.specs.Ahead.{AheadOf, not_ahead, turn_made}
use Rattle.granit_restart.specs.Calls.{Calls, noted}
use Rattle.granit_restart.specs.Looking.{behind_waiting, turn_ahead}
use Rattle.granit_restart.specs.Skipping.{with_pending}
use Rattle.granit_restart.specs.Turned.{Turned, with_count}
use Rattle.granit_sourced.proofs.CallLemmas.{Comes, comes, comes_on, waits}
use Rattle.granit_sourced.specs.Going.{Failed, GoesWithCalls, SeenNext}
use Rattle.granit_stepper.specs.Refusals.{FailsIn, StandsAhead, StandsRefused}
use Rattle.granit_stepper.specs.Stepping.{StandsIn, Stepping}
use Rattle.granit_steps.specs.Steps.{StepState, next_event, step_turn}

-- ---- turns that were made early

module _ (o : OptionsData) where
  early_then : (s t u : StepState) → EarlyOf o s t → EarlyOf o t u → EarlyOf o s u
  early_then s t u p not_early = p
  early_then s t u p (turn_early {t = v} q e) = turn_early (early_then s t v p q) e

  pub ahead_early : (s t : StepState) → AheadOf o s t → EarlyOf o s t
  ahead_early s t not_ahead = not_early
  ahead_early s t (turn_made {t = u} p notes e) = turn_early (ahead_early s u p) e

  -- with an event in front
  one_before : (e : PlainEvent) (s t : StepState) (x : OneTurn o s t)
      → turn_ahead o (with_pending (e ∷ s.pending) s) ≡ Ok (Some x.given, with_pending (e ∷ t.pending) t)
  one_before e s t x =
      ap (behind_waiting (e ∷ s.pending)) x.turn
      ∙ ap (λ (u : StepState). Ok (Some x.given, with_pending (e ∷ u.pending) u)) (sym x.is)

  before_early : (e : PlainEvent) (s t : StepState) → AheadOf o s t
      → EarlyOf o (with_pending (e ∷ s.pending) s) (with_pending (e ∷ t.pending) t)
  before_early e s t not_ahead = not_early
  before_early e s t (turn_made {t = u} {given = given} p notes turn) =
      turn_early (before_early e s u p) (one_before e u t (one o u t given turn))

  -- the event that comes next waits, behind the turns that lead there
  waits_early : (e : PlainEvent) (t s : StepState) → Comes o e t s → EarlyOf o s (with_pending (e ∷ t.pending) t)
  waits_early e t s (waits es is after) =
      subst (EarlyOf o s)
      (is ∙ ap (λ (u : StepState). with_pending (e ∷ u.pending) u) (sym after)) not_early
  waits_early e t s (comes_on {u = u} given none turn more) =
      let same : with_pending [] s ≡ s = ap (λ es. with_pending es s) (sym none) in
      early_then s u (with_pending (e ∷ t.pending) t)
      (turn_early not_early (ap (λ es. behind_waiting es (step_turn o (with_pending [] s))) none
      ∙ ap (λ u. behind_waiting [] (step_turn o u)) same ∙ ap (behind_waiting []) turn))
      (waits_early e t u more)

-- what was looked at waits in a state to which turns made early lead
pub seen_early : {I : Type 0} (unread : I → Unread → Type 0) (s : Stepping I) (e : PlainEvent) (c : Calls)
    → Turned s.scanner.options c.steps → (n : SeenNext unread s e c)
    → EarlyOf s.scanner.options c.steps (with_pending (e ∷ n.goes.steps.pending) n.goes.steps)
seen_early unread s e c turned n =
    let o = s.scanner.options in
    let u = n.goes.steps in
    early_then o c.steps (with_pending (e ∷ n.steps.pending) n.steps) (with_pending (e ∷ u.pending) u)
    (waits_early o e n.steps c.steps (comes o c.steps n.steps e turned n.next))
    (before_early o e n.steps u (subst (λ m. AheadOf o m u)
    (noted_steps e.kind (record c { steps = n.steps })) n.goes.ahead))

-- ---- what calls note

noted_alike : (kind : EventKind) (c d : Calls) → d.between ≡ c.between → (noted kind d).between ≡ true
    → (noted kind c).between ≡ true
noted_alike (DocumentStart explicit version) c d same b = b
noted_alike DocumentEnd c d same b = refl
noted_alike StreamEnd c d same b = sym same ∙ b
noted_alike kind c d same b = sym same ∙ b

-- ---- a parser

module _ {I : Type 0} (unread : I → Unread → Type 0) (change : StepState → StepState) (p q : Parsing I)
    (changes : (m : StepState) → StandsIn unread p.stepper m → StandsIn unread q.stepper (change m))
    (keeps : (es : List PlainEvent) (m : StepState) → change (with_pending es m) ≡ with_pending es (change m))
    (peeked : q.peeked ≡ p.peeked) (first : q.stepper.first ≡ p.stepper.first) (between_same : q.between ≡ p.between)
    (over_same : q.over ≡ p.over) where
  -- where it is known to stand in the very state
  pub changed_there : (c : Calls) → IsOpen c → p.peeked ≡ None → StandsBefore unread p.peeked p.stepper c.steps
      → ParserIn unread p c → ParserIn unread q (record c { steps = change c.steps })
  changed_there c opened unseen at is =
      let d : Calls = record c { steps = change c.steps } in
      let g : GoesWithCalls unread p.stepper c =
      subst (λ (w : Next). SeenBy unread w p.stepper c) unseen (open_seen unread p c opened is) in
      goes_in unread q d opened.refusal opened.fault (over_same ∙ is.over) (between_same ∙ is.between opened)
      (subst (λ (w : Next). SeenBy unread w q.stepper d) (sym (peeked ∙ unseen)) (record {
        steps = change c.steps;
        ahead = not_ahead;
        stands = inl (changes c.steps (subst (λ (w : Next). StandsBefore unread w p.stepper c.steps) unseen at));
        between = λ b. inl refl;
        told = λ b. first ∙ g.told b;
      }))

  module _ (none : p.stepper.ahead ≡ None) where
    stands_exactly : (m : StepState) → StandsAhead unread p.stepper m → StandsIn unread p.stepper m
    stands_exactly m (inl at) = at
    stands_exactly m (inr held) = absurd (let f = sym none ∙ held.ahead in cc)

    goes_changed : (c d : Calls) (g : GoesWithCalls unread p.stepper c) → d.steps ≡ change g.steps
        → (d.between ≡ true → c.between ≡ true) → GoesWithCalls unread q.stepper d
    goes_changed c d g is between = record {
      steps = change g.steps;
      ahead = subst (λ m. AheadOf q.stepper.scanner.options m (change g.steps)) (sym is) not_ahead;
      stands = inl (changes g.steps (stands_exactly g.steps g.stands));
      between = λ b. inl (sym is);
      told = λ b. first ∙ g.told (between b);
    }

    -- what was looked at waits
    seen_changed : (e : PlainEvent) (c : Calls) (n : SeenNext unread p.stepper e c)
        → SeenNext unread q.stepper e (record c {
          steps = change (with_pending (e ∷ n.goes.steps.pending) n.goes.steps);
        })
    seen_changed e c n =
        let u = n.goes.steps in
        let d : Calls = record c { steps = change (with_pending (e ∷ u.pending) u) } in
        let before : Calls = record c { steps = n.steps } in
        let behind : Calls = record d { steps = change u } in record {
          steps = change u;
          next = ap (next_event q.stepper.scanner.options) (keeps (e ∷ u.pending) u)
              ∙ waits_next q.stepper.scanner.options (change u) e u.pending
              ∙ ap (λ m. Ok (Some e, m)) (sym (keeps u.pending u));
          goes = goes_changed (noted e.kind before) (noted e.kind behind) n.goes (noted_steps e.kind behind)
              (noted_alike e.kind before behind refl);
        }

    changed_by : (c : Calls) (w : Next) → IsOpen c → q.between ≡ c.between → q.over ≡ c.over
        → Turned p.stepper.scanner.options c.steps → p.peeked ≡ w → SeenBy unread w p.stepper c
        → ChangesIn unread p.stepper.scanner.options change q c
    changed_by c None opened between over turned is g = record {
      steps = g.steps;
      early = ahead_early p.stepper.scanner.options c.steps g.steps g.ahead;
      stands =
          let d : Calls = record c { steps = change g.steps } in
          goes_in unread q d opened.refusal opened.fault over between
          (subst (λ (w : Next). SeenBy unread w q.stepper d) (sym (peeked ∙ is)) (goes_changed c d g refl (λ b. b)));
    }
    changed_by c (Some (Ok x)) opened between over turned is n =
        let e = plain_event x in
        let u = n.goes.steps in record {
          steps = with_pending (e ∷ u.pending) u;
          early = seen_early unread p.stepper e c turned n;
          stands =
              let d : Calls = record c { steps = change (with_pending (e ∷ u.pending) u) } in
              goes_in unread q d opened.refusal opened.fault over between
              (subst (λ (w : Next). SeenBy unread w q.stepper d) (sym (peeked ∙ is)) (seen_changed e c n));
        }
    changed_by c (Some (Err e)) opened between over turned is seen = absurd seen

    pub changed_in : (c : Calls) → Turned p.stepper.scanner.options c.steps → IsOpen c → ParserIn unread p c
        → ChangesIn unread p.stepper.scanner.options change q c
    changed_in c turned opened at =
        changed_by c p.peeked opened (between_same ∙ at.between opened) (over_same ∙ at.over) turned refl
        (open_seen unread p c opened at)

-- ---- behind a fault that was given

module _ {I : Type 0} (unread : I → Unread → Type 0) (change : StepState → StepState) (p q : Parsing I)
    (stands : (m : StepState) (e : Fault) → StandsRefused unread p.stepper m e
    → StandsRefused unread q.stepper (change m) e)
    (counts : (count : ℕ) (m : StepState) → with_count count (change m) ≡ with_count count m)
    (peeked : q.peeked ≡ p.peeked) (failed : q.stepper.failed ≡ p.stepper.failed)
    (renumbered : p.stepper.renumbered ≡ true → q.stepper.renumbered ≡ true)
    (refusal : p.stepper.refusal ≡ None → q.stepper.refusal ≡ None) (given : q.given ≡ p.given)
    (over : q.over ≡ p.over) where
  -- the turn failed as it did
  fails_changed : (o : OptionsData) (m : StepState) (e : Fault) → FailsIn p.stepper.renumbered o m e
      → FailsIn q.stepper.renumbered o m e
  fails_changed o m e (inl fails) = inl fails
  fails_changed o m e (inr left) = inr (renumbered left.0, left.1)

  failed_changed : (m : StepState) (f : Fault) → Failed unread p.stepper m f → Failed unread q.stepper (change m) f
  failed_changed m f at = record {
    stands = stands m f at.stands;
    options = at.options;
    count = at.count;
    fails = fails_changed at.options (with_pending [] (with_count at.count (change m))) f
        (subst (λ n. FailsIn p.stepper.renumbered at.options (with_pending [] n) f) (sym (counts at.count m)) at.fails);
    failed = failed ∙ at.failed;
  }

  gone_changed : (f : Fault) → GaveUp p f → GaveUp q f
  gone_changed f gone = record {
    seen = peeked ∙ gone.seen;
    failed = failed ∙ gone.failed;
    refusal = refusal gone.refusal;
    kept = gone.kept;
    given = given ∙ gone.given;
    is_kept = gone.is_kept;
  }

  answers_changed : (c : Calls) (f g : Option Fault) → c.over ≡ false → c.fault ≡ f → c.refusal ≡ g → IsClosed c
      → AnswersBy unread g p c → AnswersBy unread g q (record c { steps = change c.steps })
  answers_changed c f (Some g) going fault is closed gone = gone_changed g gone
  answers_changed c (Some f) None going fault is closed at =
      let d : Calls = record c { steps = change c.steps } in
      let before = subst (λ (f : Option Fault). SeenOrFails unread f p.peeked p.stepper c) fault at in
      subst (λ (f : Option Fault). SeenOrFails unread f q.peeked q.stepper d) (sym fault)
      (subst (λ (w : Next). SeenNone w) (sym peeked) before.0, failed_changed c.steps f before.1)
  answers_changed c None None going fault is closed at =
      absurd (closed_open c closed (record { over = going; fault = fault; refusal = is }))

  -- no call gives an event, and recovery goes on from the state as it was changed
  pub closed_changed : (c : Calls) → IsClosed c → ParserIn unread p c
      → ParserIn unread q (record c { steps = change c.steps })
  closed_changed c closed at = record {
    over = over ∙ at.over;
    between = λ is. absurd (closed_open c closed (record { over = is.over; fault = is.fault; refusal = is.refusal }));
    ended = at.ended;
    stays = λ going. answers_changed c c.fault c.refusal going refl refl closed (at.stays going);
  }
