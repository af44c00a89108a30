-- What a parser drops where the machine's calls led, and where it then asks whether another document is there.
use Rattle.std.proofs.Common.{◌≡◌, ◌⊎◌, inl, inr, ℕ, suc, ◌+◌, Bool, true, false, not, ◌&&◌, is_some, Option, Some}
use Rattle.std.proofs.Common.{None, Result, Ok, Err, refl, sym, ap, subst, ◌∙◌}
use Rattle.std.specs.Prelude.{IfErr, IfOk, IfSome, OnOk}
use Rattle.granit_base.specs.Place.{Unread}
use Rattle.granit_cursor.specs.Reading.{Reading}
use Rattle.granit_error.specs.OptionsData.{OptionsData}
use Rattle.granit_error.specs.Refused.{Refused}
use Rattle.granit_event.specs.Events.{plain_event}
use Rattle.granit_lexemes.specs.Outcome.{Fault}
use Rattle.granit_lexemes.specs.PlainEvent.{PlainEvent, EventKind, DocumentStart, DocumentEnd, StreamEnd, Comment}
use Rattle.granit_parser.proofs.RecoverLemmas.{answered_steps, any_stops, fits, fitting, asks_dropped, asks_fault}
use Rattle.granit_parser.proofs.RecoverLemmas.{asks_here, asks_on, asks_seen, begins, look_other, seen_call}
use Rattle.granit_parser.proofs.RecoverLemmas.{skipped_here, skipped_on, skipped_to_fault, starts_between, starts_fault}
use Rattle.granit_parser.proofs.RecoverLemmas.{starts_over, starts_steps}
use Rattle.granit_parser.specs.Parsing.{EndsBehind, Next, Parsing}
use Rattle.granit_seen.specs.Seeing as seeing
use Rattle.granit_parser.specs.Recovering.{AnswersBy, AsksBefore, AsksBy, AsksNow, ComesBy, MeetsNumber, ParserIn}
use Rattle.granit_parser.specs.Recovering.{SeenBy, SeenTells, SeenOrFails, asking_document, comes_ahead, comes_anew}
use Rattle.granit_parser.specs.Recovering.{comes_dropping, comes_here, comes_seen, StopsBy, StopsDropping, StopsIn}
use Rattle.granit_parser.specs.Recovering.{comes_behind, comes_ended, seen_comment, seen_in, seen_other}
use Rattle.granit_seen.specs.Seeing.{seen_kind}
use Rattle.granit_seen.specs.declared.seen.Seen.TheVariants as seens
use Rattle.granit_calls.specs.Asking.{LookTells}
use Rattle.granit_recovery.proofs.RecoveryLaws.{noted_steps}
use Rattle.granit_recovery.specs.Streams.{ReachedByCalls, reached_call, reached_recovery}
use Rattle.granit_restart.proofs.AheadLaws.{skip_alike}
use Rattle.granit_restart.specs.Ahead.{AheadOf, NoneComes, is_note, not_ahead}
use Rattle.granit_restart.specs.Calls.{Calls, next_call, noted}
use Rattle.granit_restart.specs.Following.{document_follows}
use Rattle.granit_restart.specs.Recovery.{comment_count, looked_by, recover, recovered, resumed, skipped, starts_by}
use Rattle.granit_restart.specs.Restart.{behind_fault}
use Rattle.granit_restart.specs.Skipping.{Ended, Failed as failed_there, SkipEnd, Stops, skip_by_turns}
use Rattle.granit_restart.specs.Skipping.{skipped_document, skipped_fault, skipped_to}
use Rattle.granit_restart.specs.Turned.{Turned}
use Rattle.granit_sourced.proofs.CallLemmas.{ahead_turned, comes, ends, skip_over, skip_to_end}
use Rattle.granit_sourced.proofs.GoesLemmas.{note_keeps, stands_going}
use Rattle.granit_sourced.specs.Going.{Failed, GoesWithCalls, SeenNext}
use Rattle.granit_stepper.specs.Numbers.{RefusesNumber}
use Rattle.granit_stepper.specs.Recovering.{DropsOn, SkipsDocument, SkipsFault}
use Rattle.granit_stepper.specs.Refusals.{StandsAhead}
use Rattle.granit_stepper.specs.Stepping.{Stepping}
use Rattle.granit_steps.proofs.Futures.{and_true_false}
use Rattle.granit_steps.specs.Steps.{StepState, next_event}

-- recovery asks, by where refused reads stopped
abbrev pub AsksFrom : {I : Type 0} → (I → Unread → Type 0) → (cursor : Reading I) → (looked : Bool) → Stepping I → Calls
    → Type 0
AsksFrom unread cursor looked s c =
    (stops : Stops) × StopsIn unread cursor s.scanner.options stops c × AsksNow unread stops looked s c

pub on_ok : {A B E : Type 0} {X : Type 0} (r : Result X E) → OnOk r A → IfOk r (λ x. B) → (C : Type 0) → (A → B → C)
    → OnOk r C
on_ok (Ok x) a b C f = f a b
on_ok (Err e) a b C f = tt

-- ---- the laws on where recovery asks

abbrev pub TellsHere : OptionsData → Type 0
TellsHere o = (stops : Stops) (c : Calls) → ReachedByCalls o c → c.over ≡ false → LookTells o (skipped o stops c).steps

abbrev pub TellsLooked : OptionsData → Type 0
TellsLooked o = (stops : Stops) (c : Calls) → ReachedByCalls o c → (looked_by c (next_call o c)).over ≡ false
    → LookTells o (skipped o stops (looked_by c (next_call o c))).steps

abbrev pub TakesRoom : OptionsData → Type 0
TakesRoom o = (stops : Stops) (c : Calls) (e : PlainEvent) (after : StepState) (room : ℕ) → ReachedByCalls o c
    → c.over ≡ false → next_event o (skipped o stops c).steps ≡ Ok (Some e, after) → is_note e.kind ≡ true
    → document_follows o (suc room) (skipped o stops c).steps ≡ document_follows o room after

abbrev pub GoByTurns : OptionsData → Type 0
GoByTurns o = (c : Calls) → ReachedByCalls o c → Turned o c.steps

module _ {I : Type 0} (unread : I → Unread → Type 0) where
  -- only the steps matter, and whether the end of a document was the last
  pub goes_same : (s : Stepping I) (c d : Calls) → c.steps ≡ d.steps → (d.between ≡ true → c.between ≡ true)
      → GoesWithCalls unread s c → GoesWithCalls unread s d
  goes_same s c d same between g = record {
    steps = g.steps;
    ahead = subst (λ m. AheadOf s.scanner.options m g.steps) same g.ahead;
    stands = g.stands;
    between = λ b. subst (λ m. (g.steps ≡ m) ⊎ NoneComes s.scanner.options m) same (g.between (between b));
    told = λ b. g.told (between b);
  }

  exactly : (s : Stepping I) (m : StepState) → StandsAhead unread s m → s.first ≡ None
      → GoesWithCalls unread s (asking_document m)
  exactly s m stands first = record {
    steps = m;
    ahead = not_ahead;
    stands = stands;
    between = λ b. inl refl;
    told = λ b. first;
  }

  -- the state in which recovery asks is one that turns and restarts lead to
  asks_turned : (o : OptionsData) (stops : Stops) (looked : Bool) (c : Calls) (m : StepState) → ReachedByCalls o c
      → GoByTurns o → recover o stops looked c ≡ recovered o 0 (resumed m) → Turned o m
  asks_turned o stops looked c m reached by_turns recovers =
      subst (Turned o) (ap (λ (x : Result Bool Fault × Calls). x.1.steps) recovers
      ∙ answered_steps (document_follows o (o.max_buffered_comment_events + 0) m) m)
      (by_turns (recover o stops looked c).1 (reached_recovery stops looked reached))

  -- ---- behind a fault

  module _ (c : Calls) (over : c.over ≡ false) (refusal : c.refusal ≡ None) (o : OptionsData) (looked : Bool)
      (reached : ReachedByCalls o c) (tells : TellsHere o) (by_turns : GoByTurns o) (new : Stepping I)
      (same : new.scanner.options ≡ o) where
    pub fault_asks : (cursor : Reading I) (f : Fault) → c.fault ≡ Some f → SkipsFault unread o cursor f new c.steps
        → new.first ≡ None → AsksFrom unread cursor looked new c
        ⊎ MeetsNumber new.renumbered new.scanner.options c.steps
    unfolding exactly
    fault_asks cursor f is (inl x) first =
        let m = skipped_fault o x.0 f c.steps in
        let stops : StopsBy unread cursor o x.0 c.fault c.steps =
        subst (λ (g : Option Fault). StopsBy unread cursor o x.0 g c.steps) (sym is) (x.1, x.2) in
        inl (
          x.0,
          subst (λ o'. StopsIn unread cursor o' x.0 c) (sym same) (λ over refusal. stops),
          record {
            steps = m;
            asks = record {
              recovers = subst (λ o'. recover o' x.0 looked c ≡ recovered o' 0 (resumed m)) (sym same)
                  (asks_fault o x.0 looked c f refusal over is);
              tells = subst (λ o'. LookTells o' m) (sym same) (subst (LookTells o)
                  (ap (λ (d : Calls). d.steps) (skipped_to_fault o x.0 c f is)) (tells x.0 c reached over));
              comes = subst (λ o'. ComesBy o' c.steps m) (sym same) (comes_behind x.0 f comes_here x.1.0 x.2);
            };
            goes = exactly new m x.3 first;
            turned = subst (λ o'. Turned o' m) (sym same) (asks_turned o x.0 looked c m reached by_turns
                (asks_fault o x.0 looked c f refusal over is));
          },
        )
    fault_asks cursor f is (inr x) first =
        let drops = subst (λ o'. DropsOn o' (behind_fault x.0 c.steps).1 x.2) (sym same) x.4 in
        let number = subst (λ o'. RefusesNumber new.renumbered o' x.2 x.3) (sym same) x.5 in
        inr (x.2, x.3, comes_dropping (comes_anew x.0 comes_here x.1.0) drops, number)

  -- ---- by whether a call failed

  pub seen_going : (r : Next) (s : Stepping I) (c : Calls) → SeenBy unread r s c → s.failed ≡ false
  seen_going None s c g = stands_going unread s g.steps g.stands
  seen_going (Some (Ok x)) s c n = stands_going unread s n.goes.steps n.goes.stands
  seen_going (Some (Err e)) s c n = absurd n

  module _ (p : Parsing I) (c : Calls) (at : ParserIn unread p c) (over : c.over ≡ false) (refusal : c.refusal ≡ None)
    where
      stays_in : SeenOrFails unread c.fault p.peeked p.stepper c
      stays_in = subst (λ f. AnswersBy unread f p c) refusal (at.stays over)

      pub record AtFault : Type 0 where
        pub fault : Fault
        pub is : c.fault ≡ Some fault
        pub failed : Failed unread p.stepper c.steps fault

      pub at_fault : p.stepper.failed ≡ true → AtFault
      at_fault failed = by c.fault refl stays_in
        where
          by : (f : Option Fault) → c.fault ≡ f → SeenOrFails unread f p.peeked p.stepper c → AtFault
          by None is seen =
              absurd (let no : true ≡ false = sym failed ∙ seen_going p.peeked p.stepper c seen in cc)
          by (Some f) is stays = record { fault = f; is = is; failed = stays.1 }

      pub record Going : Type 0 where
        pub fault : c.fault ≡ None
        pub seen : SeenBy unread p.peeked p.stepper c

      pub going : p.stepper.failed ≡ false → Going
      going failed = by c.fault refl stays_in
        where
          by : (f : Option Fault) → c.fault ≡ f → SeenOrFails unread f p.peeked p.stepper c → Going
          by None is seen = record { fault = is; seen = seen }
          by (Some f) is stays = absurd (let no : true ≡ false = sym stays.1.failed ∙ failed in cc)

      -- ---- a document

      module _ (cursor : Reading I) (fault : c.fault ≡ None) (o : OptionsData) (looked : Bool) (new : Stepping I)
          (same : new.scanner.options ≡ o) (t : StepState)
          (skips : skip_by_turns o c.steps ≡ skip_by_turns o t) (path : ComesBy o c.steps t)
          (recovers : (stops : Stops) → recover o stops looked c
          ≡ recovered o 0 (resumed (skipped_document o stops c.steps)))
          (tells : (stops : Stops) → LookTells o (skipped_document o stops c.steps))
          (reached : ReachedByCalls o c) (by_turns : GoByTurns o) where
        stops_fit : (stops : Stops) (r : SkipEnd) → skip_by_turns o t ≡ r → StopsDropping o stops r
            → StopsIn unread cursor new.scanner.options stops c
        stops_fit stops r is fit =
            let by : StopsBy unread cursor o stops c.fault c.steps =
            subst (λ (f : Option Fault). StopsBy unread cursor o stops f c.steps) (sym fault)
            (subst (StopsDropping o stops) (sym (skips ∙ is)) fit) in
            subst (λ o'. StopsIn unread cursor o' stops c) (sym same) (λ over refusal. by)

        skipped_asks : (stops : Stops) (m : StepState) → skipped_document o stops c.steps ≡ m → ComesBy o c.steps m
            → StandsAhead unread new m → new.first ≡ None → AsksNow unread stops looked new c
        unfolding exactly
        skipped_asks stops m is comes stands first = record {
          steps = m;
          asks = record {
            recovers = subst (λ o'. recover o' stops looked c ≡ recovered o' 0 (resumed m)) (sym same)
                (subst (λ m. recover o stops looked c ≡ recovered o 0 (resumed m)) is (recovers stops));
            tells = subst (λ o'. LookTells o' m) (sym same) (subst (LookTells o) is (tells stops));
            comes = subst (λ o'. ComesBy o' c.steps m) (sym same) comes;
          };
          goes = exactly new m stands first;
          turned = subst (λ o'. Turned o' m) (sym same)
              (subst (Turned o) is (asks_turned o stops looked c (skipped_document o stops c.steps) reached by_turns
              (recovers stops)));
        }

        number_met : (n : StepState) (e : Refused) → ComesBy o c.steps n → RefusesNumber new.renumbered o n e
            → MeetsNumber new.renumbered new.scanner.options c.steps
        number_met n e comes number =
            subst (λ o'. MeetsNumber new.renumbered o' c.steps) (sym same) (n, e, comes, number)

        fault_met : (n : StepState) (e : Refused) → ComesBy o c.steps n
            → (skip_by_turns o t ≡ failed_there e n) ⊎ RefusesNumber new.renumbered o n e
            → (later : Reading I) → SkipsFault unread o later e new n → new.first ≡ None
            → AsksFrom unread cursor looked new c
            ⊎ MeetsNumber new.renumbered new.scanner.options c.steps
        fault_met n e comes (inl fails) later (inl x) first =
            inl (
              x.0,
              stops_fit x.0 (failed_there e n) fails (x.1.0, x.2),
              skipped_asks x.0 (skipped_fault o x.0 e n) (ap (skipped_to o x.0) (skips ∙ fails))
                  (comes_behind x.0 e comes x.1.0 x.2) x.3 first,
            )
        fault_met n e comes (inr number) later (inl x) first = inr (number_met n e comes number)
        fault_met n e comes how later (inr x) first =
            inr (number_met x.2 x.3 (comes_dropping (comes_anew x.0 comes x.1.0) x.4) x.5)

        pub document_asks : SkipsDocument unread o new t → new.first ≡ None → AsksFrom unread cursor looked new c
            ⊎ MeetsNumber new.renumbered new.scanner.options c.steps
        document_asks (inl x) first =
            inl (
              any_stops c,
              stops_fit (any_stops c) (Ended x.0) x.1 tt,
              skipped_asks (any_stops c) x.0 (ap (skipped_to o (any_stops c)) (skips ∙ x.1)) (comes_ended path x.1)
                  x.2 first,
            )
        document_asks (inr x) first = fault_met x.0 x.1 (comes_dropping path x.2) x.3 x.4.0 x.4.1 first

-- ---- what was looked at

begins_not : (kind : EventKind) → seeing.seen_starts_document (seen_kind kind) ≡ false → begins kind ≡ false
begins_not (DocumentStart explicit version) e = absurd (cc)
begins_not kind e = refl

begins_is : (kind : EventKind) → seeing.seen_starts_document (seen_kind kind) ≡ true → begins kind ≡ true
begins_is (DocumentStart explicit version) e = refl
begins_is DocumentEnd e = absurd (cc)
begins_is StreamEnd e = absurd (cc)
begins_is (Comment text placement) e = absurd (cc)
begins_is kind e = absurd (cc)

pub ends_is : (kind : EventKind) → seeing.seen_ends_document (seen_kind kind) ≡ true → kind ≡ DocumentEnd
ends_is DocumentEnd e = refl
ends_is (DocumentStart explicit version) e = absurd (cc)
ends_is StreamEnd e = absurd (cc)
ends_is (Comment text placement) e = absurd (cc)
ends_is kind e = absurd (cc)

pub ends_not : (kind : EventKind) → seeing.seen_ends_document (seen_kind kind) ≡ false
    → (seen_kind kind ≡ seens.StreamEnd → ⊥)
    → ends kind ≡ false
ends_not DocumentEnd e other = absurd (cc)
ends_not StreamEnd e other = absurd (other refl)
ends_not kind e other = refl

noted_end : (kind : EventKind) (c : Calls) → kind ≡ DocumentEnd → (noted kind c).between ≡ true
noted_end kind c e = ap (λ k. (noted k c).between) e

dropped_by : (b : Bool) (kind : EventKind) → (b && not (seeing.seen_starts_document (seen_kind kind))) ≡ false
    → (b ≡ false) ⊎ (begins kind ≡ true)
dropped_by false kind e = inl refl
dropped_by true kind e = inr (begins_is kind (started (seeing.seen_starts_document (seen_kind kind)) e))
  where
    started : (b : Bool) → not b ≡ false → b ≡ true
    started true e = refl
    started false e = absurd (cc)

module _ {I : Type 0} (unread : I → Unread → Type 0) (p : Parsing I) (c : Calls) (at : ParserIn unread p c)
    (over : c.over ≡ false) (refusal : c.refusal ≡ None) (fault : c.fault ≡ None) (o : OptionsData)
    (same : p.stepper.scanner.options ≡ o) (reached : ReachedByCalls o c) (tells : TellsHere o) where
  between_is : (b : Bool) → p.between ≡ b → c.between ≡ b
  between_is b e = sym (at.between (record { over = over; fault = fault; refusal = refusal })) ∙ e

  next_in : (e : PlainEvent) → (n : SeenNext unread p.stepper e c) → next_event o c.steps ≡ Ok (Some e, n.steps)
  next_in e n = subst (λ o. next_event o c.steps ≡ Ok (Some e, n.steps)) same n.next

  seen_turned : (e : PlainEvent) (n : SeenNext unread p.stepper e c) → GoByTurns o → Turned o n.goes.steps
  seen_turned e n by_turns =
      let d = (next_call o c).1 in
      let is : d ≡ noted e.kind (record c { steps = n.steps }) =
      ap (λ x. x.1) (seen_call o (any_stops c) c refusal over fault e n.steps (next_in e n)) in
      let ahead = subst (λ o. AheadOf o (noted e.kind (record c { steps = n.steps })).steps n.goes.steps) same
      n.goes.ahead in
      ahead_turned o _ n.goes.steps ahead
      (subst (λ (d : Calls). Turned o d.steps) is (by_turns d (reached_call reached)))

  -- ---- directly behind a document

  module _ (between : p.between ≡ true) where
    abbrev stops : Stops
    stops = fitting o (skip_by_turns o c.steps)

    here : (skipped o stops c).steps ≡ c.steps
    here = ap (λ (d : Calls). d.steps) (skipped_here o stops c fault (between_is true between))

    tells_here : LookTells o c.steps
    tells_here = subst (LookTells o) here (tells stops c reached over)

    none_stays : GoesWithCalls unread p.stepper c → GoByTurns o → AsksNow unread stops false p.stepper c
    unfolding goes_same
    none_stays g by_turns = record {
      steps = c.steps;
      asks = record {
        recovers = subst (λ o'. recover o' stops false c ≡ recovered o' 0 (resumed c.steps)) (sym same)
            (asks_here o stops c refusal over fault (between_is true between));
        tells = subst (λ o'. LookTells o' c.steps) (sym same) tells_here;
        comes = comes_here;
      };
      goes = goes_same unread p.stepper c (asking_document c.steps) refl (λ b. between_is true between) g;
      turned = subst (λ o. Turned o g.steps) (sym same) (ahead_turned o c.steps g.steps
          (subst (λ o. AheadOf o c.steps g.steps) same g.ahead) (by_turns c reached));
    }

    module _ (e : PlainEvent) (n : SeenNext unread p.stepper e c) (by_turns : GoByTurns o) (room : TakesRoom o)
        (other : begins e.kind ≡ false) (going : seen_kind e.kind ≡ seens.StreamEnd → ⊥) where
      behind : (next_call o c).1 ≡ noted e.kind (record c { steps = n.steps })
      behind = ap (λ x. x.1) (seen_call o stops c refusal over fault e n.steps (next_in e n))

      -- behind a comment it is directly behind a document still
      behind_tells : is_note e.kind ≡ true → LookTells o n.steps
      behind_tells note =
          let d = (next_call o c).1 in
          let is : d ≡ record c { steps = n.steps } =
          behind ∙ note_keeps e.kind (record c { steps = n.steps }) note in
          subst (LookTells o)
          (ap (λ (d : Calls). d.steps) (skipped_here o stops d (ap (λ (d : Calls). d.fault) is ∙ fault)
          (ap (λ (d : Calls). d.between) is ∙ between_is true between)) ∙ ap (λ (d : Calls). d.steps) is)
          (tells stops d (reached_call reached) (ap (λ (d : Calls). d.over) is ∙ over))

      seen_tells : (b : Bool) → is_note e.kind ≡ b → SeenTells o c.steps n.steps e.kind
      seen_tells true note =
          seen_comment note
          (λ r. subst (λ m. document_follows o (suc r) m ≡ document_follows o r n.steps) here
          (room stops c e n.steps r reached over (subst (λ m. next_event o m ≡ Ok (Some e, n.steps)) (sym here)
          (next_in e n)) note))
          (behind_tells note)
      seen_tells false note =
          seen_other note (λ r. sym (tells_here.tells r) ∙ look_other o e n.steps note
          (λ is. going (ap seen_kind is)) r c.steps (comes o c.steps n.steps e (by_turns c reached) (next_in e n)))

      event_stays : AsksBefore unread stops true p.stepper e c
      unfolding goes_same
      event_stays = record {
        steps = c.steps;
        asks = record {
          recovers = subst (λ o'. recover o' stops true c ≡ recovered o' (comment_count e.kind) (resumed c.steps)) (sym
              same)
              (asks_seen o stops c refusal over fault e n.steps (next_in e n) (between_is true between) other);
          tells = subst (λ o'. LookTells o' c.steps) (sym same) tells_here;
          comes = comes_here;
        };
        seen = record {
          steps = n.steps;
          next = n.next;
          goes = goes_same unread p.stepper (noted e.kind (record c { steps = n.steps }))
              (noted e.kind (record (asking_document c.steps) { steps = n.steps }))
              (noted_steps e.kind (record c { steps = n.steps })
              ∙ sym (noted_steps e.kind (record (asking_document c.steps) { steps = n.steps })))
              (λ b. noted_same e.kind (record c { steps = n.steps })
              (record (asking_document c.steps) { steps = n.steps })
              (between_is true between) ∙ b) n.goes;
        };
        turned = subst (λ o'. Turned o' n.goes.steps) (sym same) (seen_turned e n by_turns);
        tells = subst (λ o'. SeenTells o' c.steps n.steps e.kind) (sym same) (seen_tells (is_note e.kind) refl);
      }
        where
          noted_same : (kind : EventKind) (a d : Calls) → a.between ≡ d.between
              → (noted kind a).between ≡ (noted kind d).between
          noted_same (DocumentStart explicit version) a d e = refl
          noted_same DocumentEnd a d e = refl
          noted_same StreamEnd a d e = e
          noted_same kind a d e = e

  fitting_in : (cursor : Reading I) → StopsIn unread cursor p.stepper.scanner.options
      (fitting o (skip_by_turns o c.steps)) c
  fitting_in cursor =
      let stops = fitting o (skip_by_turns o c.steps) in
      let by : StopsBy unread cursor o stops c.fault c.steps =
      subst (λ (f : Option Fault). StopsBy unread cursor o stops f c.steps) (sym fault)
      (fits o (skip_by_turns o c.steps)) in
      subst (λ o'. StopsIn unread cursor o' stops c) (sym same) (λ over refusal. by)

  -- what was looked at stays
  pub all_stays : (cursor : Reading I) → SeenBy unread p.peeked p.stepper c → p.between ≡ true → GoByTurns o
      → TakesRoom o → seeing.seen_starts_document (seen_in p.peeked) ≡ false → (seen_in p.peeked ≡ seens.StreamEnd → ⊥)
      → (stops : Stops) × StopsIn unread cursor p.stepper.scanner.options stops c
      × AsksBy unread stops (is_some p.peeked) p.peeked p.stepper c
  all_stays cursor seen between by_turns room other going =
      (fitting o (skip_by_turns o c.steps), fitting_in cursor, by p.peeked seen other going)
    where
      by : (r : Next) → SeenBy unread r p.stepper c → seeing.seen_starts_document (seen_in r) ≡ false
          → (seen_in r ≡ seens.StreamEnd → ⊥)
          → AsksBy unread (fitting o (skip_by_turns o c.steps)) (is_some r) r p.stepper c
      by None g other going = none_stays between g by_turns
      by (Some (Ok x)) n other going =
          event_stays between (plain_event x) n by_turns room (begins_not (plain_event x).kind other) going
      by (Some (Err e)) n other going = n

  -- ---- the end of a document that was looked at goes

  pub end_goes : (cursor : Reading I) → SeenBy unread p.peeked p.stepper c → GoByTurns o
      → (p.between && not (seeing.seen_starts_document (seen_in p.peeked))) ≡ false
      → seeing.seen_ends_document (seen_in p.peeked) ≡ true
      → AsksFrom unread cursor (is_some p.peeked) p.stepper c
  unfolding goes_same
  end_goes cursor seen by_turns not_here ended =
      (fitting o (skip_by_turns o c.steps), fitting_in cursor, by p.peeked seen not_here ended)
    where
      event : (e : PlainEvent) → SeenNext unread p.stepper e c → e.kind ≡ DocumentEnd → c.between ≡ false
          → AsksNow unread (fitting o (skip_by_turns o c.steps)) true p.stepper c
      event e n end within =
          let stops = fitting o (skip_by_turns o c.steps) in
          let skips : skip_by_turns o c.steps ≡ Ended n.steps =
          skip_to_end o c.steps n.steps e (by_turns c reached) (next_in e n) end in
          let is : skipped_document o stops c.steps ≡ n.steps = ap (skipped_to o stops) skips in
          record {
            steps = n.steps;
            asks = record {
              recovers = subst (λ o'. recover o' stops true c ≡ recovered o' 0 (resumed n.steps)) (sym same)
                  (subst (λ m. recover o stops true c ≡ recovered o 0 (resumed m)) is
                  (asks_dropped o stops c refusal over fault e n.steps (next_in e n) (inl within)));
              tells = subst (λ o'. LookTells o' n.steps) (sym same) (subst (LookTells o)
                  (ap (λ (d : Calls). d.steps) (skipped_on o stops c fault within) ∙ is) (tells stops c reached over));
              comes = subst (λ o'. ComesBy o' c.steps n.steps) (sym same) (comes_seen comes_here (next_in e n));
            };
            goes = goes_same unread p.stepper (noted e.kind (record c { steps = n.steps })) (asking_document n.steps)
                (noted_steps e.kind (record c { steps = n.steps })) (λ b. noted_end e.kind (record c {
                  steps = n.steps;
                }) end)
                n.goes;
            turned = subst (λ o'. Turned o' n.goes.steps) (sym same) (seen_turned e n by_turns);
          }

      other_end : (b : Bool) (kind : EventKind) → kind ≡ DocumentEnd
          → (b && not (seeing.seen_starts_document (seen_kind kind))) ≡ false
          → b ≡ false
      other_end b kind end e =
          and_true_false b (ap (λ k. b && not (seeing.seen_starts_document (seen_kind k))) (sym end) ∙ e)

      by : (r : Next) → SeenBy unread r p.stepper c
          → (p.between && not (seeing.seen_starts_document (seen_in r))) ≡ false
          → seeing.seen_ends_document (seen_in r) ≡ true
          → AsksNow unread (fitting o (skip_by_turns o c.steps)) (is_some r) p.stepper c
      by None g not_here ended = absurd (cc)
      by (Some (Ok x)) n not_here ended =
          let end = ends_is (plain_event x).kind ended in
          event (plain_event x) n end (between_is false (other_end p.between (plain_event x).kind end not_here))
      by (Some (Err e)) n not_here ended = absurd n

  -- ---- a document goes

  module _ (cursor : Reading I) (new : Stepping I) (kept : new.scanner.options ≡ o) (first : new.first ≡ None)
      (by_turns : GoByTurns o) (looks : TellsLooked o) where
    none_goes : (g : GoesWithCalls unread p.stepper c) → p.between ≡ false → SkipsDocument unread o new g.steps
        → AsksFrom unread cursor false new c ⊎ MeetsNumber new.renumbered new.scanner.options c.steps
    none_goes g within skips =
        let b = between_is false within in
        let ahead = subst (λ o. AheadOf o c.steps g.steps) same g.ahead in
        document_asks unread p c at over refusal cursor fault o false new kept g.steps
        (skip_alike o c.steps g.steps ahead) (comes_ahead comes_here ahead)
        (λ stops. asks_on o stops c refusal over fault b)
        (λ stops. subst (LookTells o) (ap (λ (d : Calls). d.steps) (skipped_on o stops c fault b))
        (tells stops c reached over)) reached by_turns skips first

    event_goes : (e : PlainEvent) (n : SeenNext unread p.stepper e c)
        → (p.between ≡ false) ⊎ (begins e.kind ≡ true) → ends e.kind ≡ false
        → SkipsDocument unread o new n.goes.steps
        → AsksFrom unread cursor true new c ⊎ MeetsNumber new.renumbered new.scanner.options c.steps
    event_goes e n within other skips =
        let d : Calls = noted e.kind (record c { steps = n.steps }) in
        let ahead : AheadOf o n.steps n.goes.steps =
        subst (λ m. AheadOf o m n.goes.steps) (noted_steps e.kind (record c { steps = n.steps }))
        (subst (λ o. AheadOf o d.steps n.goes.steps) same n.goes.ahead) in
        let inside : (c.between ≡ false) ⊎ (begins e.kind ≡ true) = elim within [
          | inl out ↦ inl (between_is false out)
          | inr begun ↦ inr begun
        ] in
        let looked : looked_by c (next_call o c) ≡ starts_by e.kind c =
        ap (looked_by c) (seen_call o (any_stops c) c refusal over fault e n.steps (next_in e n)) in
        let none : (starts_by e.kind c).between ≡ false = starts_between e.kind c inside in
        document_asks unread p c at over refusal cursor fault o true new kept n.goes.steps
        (skip_over o c.steps n.steps e (by_turns c reached) (next_in e n) other
        ∙ skip_alike o n.steps n.goes.steps ahead)
        (comes_ahead (comes_seen comes_here (next_in e n)) ahead)
        (λ stops. asks_dropped o stops c refusal over fault e n.steps (next_in e n) inside)
        (λ stops. subst (LookTells o)
        (ap (λ (d : Calls). (skipped o stops d).steps) looked
        ∙ ap (λ (d : Calls). d.steps) (skipped_on o stops (starts_by e.kind c) (starts_fault e.kind c ∙ fault) none)
        ∙ ap (skipped_document o stops) (starts_steps e.kind c))
        (looks stops c reached (ap (λ (d : Calls). d.over) looked ∙ starts_over e.kind c ∙ over))) reached by_turns
        skips first

    pub document_goes : SeenBy unread p.peeked p.stepper c
        → (p.between && not (seeing.seen_starts_document (seen_in p.peeked))) ≡ false
        → seeing.seen_ends_document (seen_in p.peeked) ≡ false
        → (seen_in p.peeked ≡ seens.StreamEnd → ⊥)
        → ((m : StepState) → StandsAhead unread p.stepper m → Turned o m → SkipsDocument unread o new m)
        → AsksFrom unread cursor (is_some p.peeked) new c
        ⊎ MeetsNumber new.renumbered new.scanner.options c.steps
    document_goes seen not_here other going skips = by p.peeked seen not_here other going
      where
        by : (r : Next) → SeenBy unread r p.stepper c
            → (p.between && not (seeing.seen_starts_document (seen_in r))) ≡ false
            → seeing.seen_ends_document (seen_in r) ≡ false → (seen_in r ≡ seens.StreamEnd → ⊥)
            → AsksFrom unread cursor (is_some r) new c
            ⊎ MeetsNumber new.renumbered new.scanner.options c.steps
        by None g not_here other going =
            let ahead = subst (λ o. AheadOf o c.steps g.steps) same g.ahead in
            none_goes g (and_true_false p.between not_here)
            (skips g.steps g.stands (ahead_turned o c.steps g.steps ahead (by_turns c reached)))
        by (Some (Ok x)) n not_here other going =
            let e = plain_event x in
            event_goes e n (dropped_by p.between e.kind not_here) (ends_not e.kind other going)
            (skips n.goes.steps n.goes.stands (seen_turned e n by_turns))
        by (Some (Err e)) n not_here other going = absurd n

-- what is kept holds on where nothing fails
pub behind_kept : {I : Type 0} (r : Next) (given : Option Refused) (s t : Stepping I) → t.failed ≡ s.failed
    → EndsBehind r given s → EndsBehind r given t
behind_kept r given s t same behind = record {
  seen = subst (λ b. IfSome r (λ x. IfErr x (λ e. b ≡ true))) (sym same) behind.seen;
  over = subst (λ b. IfSome given (λ e. (r ≡ None) × (b ≡ true))) (sym same) behind.over;
}
