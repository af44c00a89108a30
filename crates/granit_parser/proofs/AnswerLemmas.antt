-- What a parser answers where recovery asks, and where it then is.
use Rattle.std.proofs.Common.{◌≡◌, ◌⊎◌, inl, inr, ℕ, ◌+◌, Bool, true, false, [], Some, None, Result, Ok, Err, refl, sym}
use Rattle.std.proofs.Common.{ap, subst, ◌∙◌, arith}
use Rattle.std.specs.Prelude.{IfOk}
use Rattle.granit_base.specs.Place.{Unread}
use Rattle.granit_base.specs.declared.place.Span.{Span}
use Rattle.granit_error.specs.OptionsData.{OptionsData}
use Rattle.granit_error.specs.Refused.{Refused, UnlessMemory}
use Rattle.granit_event.specs.declared.event.Event.{Event}
use Rattle.granit_event.specs.Events.{plain_event}
use Rattle.granit_lexemes.specs.Outcome.{Fault}
use Rattle.granit_lexemes.specs.PlainEvent.{EventKind, DocumentStart, DocumentEnd, StreamEnd, Comment}
use Rattle.granit_parser.proofs.DropLemmas.{goes_same}
use Rattle.granit_parser.proofs.RecoverLemmas.{answered_steps}
use Rattle.granit_parser.specs.Parsing.{Next, Parsing}
use Rattle.granit_seen.specs.Seeing as seeing
use Rattle.granit_parser.specs.Recovering.{AnswersIn, AsksBefore, AsksBy, AsksNow, ComesBy, Follows, MeetsNumber}
use Rattle.granit_parser.specs.Recovering.{SeenBy, SeenTells, asking_document, comes_ahead, comes_bare, comes_seen}
use Rattle.granit_parser.specs.Recovering.{seen_comment, seen_in, seen_other}
use Rattle.granit_seen.specs.Seeing.{seen_kind}
use Rattle.granit_calls.specs.Asking.{LookTells}
use Rattle.granit_recovery.proofs.RecoveryLaws.{noted_steps}
use Rattle.granit_restart.proofs.AheadLaws.{look_is_ahead}
use Rattle.granit_calls.proofs.AskLaws.{look_none}
use Rattle.granit_restart.specs.Ahead.{AheadOf, NoneComes, is_note}
use Rattle.granit_restart.specs.Calls.{Calls, noted}
use Rattle.granit_restart.specs.Following.{document_follows}
use Rattle.granit_restart.specs.Looking.{look_ahead}
use Rattle.granit_restart.specs.Recovery.{comment_count, recover, recovered, recovery_answer, resumed}
use Rattle.granit_restart.specs.Skipping.{Stops, with_pending}
use Rattle.granit_restart.specs.Turned.{Turned}
use Rattle.granit_sourced.proofs.CallLemmas.{further}
use Rattle.granit_sourced.proofs.GoesLemmas.{note_keeps}
use Rattle.granit_sourced.specs.Going.{GoesWithCalls}
use Rattle.granit_stepper.specs.Numbers.{RefusesNumber}
use Rattle.granit_stepper.specs.Recovering.{Looks}
use Rattle.granit_stepper.specs.Refusals.{StandsAhead}
use Rattle.granit_stepper.specs.Stepping.{Stepping}
use Rattle.granit_steps.specs.Steps.{StepState, next_event}

-- ---- kinds

note_room : (kind : EventKind) → is_note kind ≡ true → comment_count kind ≡ 1
note_room (Comment text placement) e = refl
note_room kind e = absurd (cc)

other_room : (kind : EventKind) → is_note kind ≡ false → comment_count kind ≡ 0
other_room (Comment text placement) e = absurd (cc)
other_room kind e = refl

untold : (kind : EventKind) → seeing.seen_tells_document (seen_kind kind) ≡ false → is_note kind ≡ true
untold (Comment text placement) e = refl
untold (DocumentStart explicit version) e = absurd (cc)
untold DocumentEnd e = absurd (cc)
untold StreamEnd e = absurd (cc)
untold kind e = absurd (cc)

note_untold : (kind : EventKind) → is_note kind ≡ true → seeing.seen_tells_document (seen_kind kind) ≡ false
note_untold (Comment text placement) e = refl
note_untold kind e = absurd (cc)

-- behind an event that was looked at
noted_less : (kind : EventKind) (a d : Calls) → d.between ≡ true → (noted kind a).between ≡ true
    → (noted kind d).between ≡ true
noted_less (DocumentStart explicit version) a d e b = b
noted_less DocumentEnd a d e b = refl
noted_less StreamEnd a d e b = e
noted_less kind a d e b = e

module _ {I : Type 0} (unread : I → Unread → Type 0) (new : Stepping I) (o : OptionsData)
    (same : new.scanner.options ≡ o) where
  -- what a look from where calls led, or from ahead of it, tells and leaves
  record Looked (m : StepState) (room : ℕ) (r : Result Bool Refused) : Type 0 where
    steps : StepState
    ahead : AheadOf o m steps
    stands : StandsAhead unread new steps
    answer : document_follows o room m ≡ r

  -- or an anchor on the way gets the greatest number
  abbrev LooksFrom : StepState → ℕ → Result Bool Refused → Type 0
  LooksFrom m room r = Looked m room r
      ⊎ ((n : StepState) × (e : Refused) × AheadOf o m n × RefusesNumber new.renumbered o (with_pending [] n) e)

  look_from : (m t : StepState) (room : ℕ) (r : Result Bool Refused) → AheadOf o m t
      → (t ≡ m) ⊎ NoneComes o m → LookTells o m → Looks unread o room r new t → LooksFrom m room r
  look_from m t room r ahead exact tells (inl x) = inl (record {
    steps = (look_ahead o room t).1;
    ahead = further o m t (look_ahead o room t).1 ahead (look_is_ahead o room t);
    stands = x.1;
    answer = elim exact [
      | inl here ↦ sym (tells.tells room) ∙ ap (λ s. (look_ahead o room s).0) (sym here) ∙ x.0
      | inr none ↦ sym (look_none o room m t none ahead) ∙ x.0
    ];
  })
  look_from m t room r ahead exact tells (inr x) =
      inr (x.1.0, x.1.2.0, further o m t x.1.0 ahead x.1.1, x.1.2.1)

  -- ---- where the answer leads

  -- behind an answer the stepper goes on from where it was asked
  goes_behind : (m : StepState) (room : ℕ) (r : Result Bool Refused) (c : Calls) → Looked m room r
      → LookTells o m → new.first ≡ None → c.steps ≡ m → (c.between ≡ true → r ≡ Ok false) → GoesWithCalls unread new c
  goes_behind m room r c l tells first is none = record {
    steps = l.steps;
    ahead = subst (λ o. AheadOf o c.steps l.steps) (sym same) (subst (λ m. AheadOf o m l.steps) (sym is) l.ahead);
    stands = l.stands;
    between = λ b. inr (subst (λ o. NoneComes o c.steps) (sym same)
        (subst (NoneComes o) (sym is) (tells.none room (l.answer ∙ none b))));
    told = λ b. first;
  }

  answered_between : (r : Result Bool Fault) (m : StepState)
      → (recovery_answer r (resumed m)).1.between ≡ true → r ≡ Ok false
  answered_between (Ok true) m b = absurd (let f : false ≡ true = b in cc)
  answered_between (Ok false) m b = refl
  answered_between (Err f) m b = absurd (let f : false ≡ true = b in cc)

  if_ok : {A : Type 0} (r : Result Bool Refused) → A → IfOk r (λ follows. A)
  if_ok (Ok x) a = a
  if_ok (Err e) a = tt

  module _ (stops : Stops) (looked : Bool) (c : Calls) where
    number_met : (m n : StepState) (e : Refused) → ComesBy o c.steps m → AheadOf o m n
        → RefusesNumber new.renumbered o (with_pending [] n) e
        → MeetsNumber new.renumbered new.scanner.options c.steps
    number_met m n e comes ahead number =
        subst (λ o'. MeetsNumber new.renumbered o' c.steps) (sym same)
        (with_pending [] n, e, comes_bare (comes_ahead comes ahead), number)

    -- nothing was looked at
    pub none_answers : (old : Stepping I) → old.scanner.options ≡ o → new.first ≡ old.first
        → (p : Parsing I) → p.stepper ≡ new → p.peeked ≡ None → (r : Result Bool Refused)
        → (a : AsksNow unread stops looked old c)
        → Looks unread o o.max_buffered_comment_events r new a.goes.steps
        → AnswersIn unread stops looked r p c ⊎ MeetsNumber new.renumbered new.scanner.options c.steps
    none_answers old before first p at unseen r a looks =
        let m = a.steps in
        let room = o.max_buffered_comment_events in
        let ahead = subst (λ o. AheadOf o m a.goes.steps) before a.goes.ahead in
        let exact = subst (λ o. (a.goes.steps ≡ m) ⊎ NoneComes o m) before (a.goes.between refl) in
        let tells = subst (λ o. LookTells o m) before a.asks.tells in
        let recovers = subst (λ o. recover o stops looked c ≡ recovered o 0 (resumed m)) before
        a.asks.recovers in
        let comes = subst (λ o. ComesBy o c.steps m) before a.asks.comes in
        elim (look_from m a.goes.steps room r ahead exact tells looks) [
          | inl l ↦ inl (record {
            steps = m;
            recovers = subst (λ s. recover s.scanner.options stops looked c ≡ recovery_answer r (resumed m)) (sym at)
                (subst (λ o'. recover o' stops looked c ≡ recovery_answer r (resumed m)) (sym same)
                (recovers ∙ ap (λ (n : ℕ). recovery_answer (document_follows o n m) (resumed m)) (omega arith)
                ∙ ap (λ r. recovery_answer r (resumed m)) l.answer));
            seen = if_ok r (subst (λ s. SeenBy unread p.peeked s (recovery_answer r (resumed m)).1) (sym at)
                (subst (λ (w : Next). SeenBy unread w new (recovery_answer r (resumed m)).1) (sym unseen)
                (goes_behind m room r (recovery_answer r (resumed m)).1 l tells
                (first ∙ a.goes.told refl) (answered_steps r m)
                (answered_between r m))));
          })
          | inr n ↦ inr (number_met m n.0 n.1 comes n.2 n.3)
        ]

    -- a comment was looked at, and stays
    note_answers : (old : Stepping I) → old.scanner.options ≡ o → new.first ≡ old.first
        → (p : Parsing I) → p.stepper ≡ new → (x : Event × Span) → p.peeked ≡ Some (Ok x) → (r : Result Bool Refused)
        → (a : AsksBefore unread stops looked old (plain_event x) c) → is_note (plain_event x).kind ≡ true
        → SeenTells o a.steps a.seen.steps (plain_event x).kind
        → Looks unread o o.max_buffered_comment_events r new a.seen.goes.steps
        → AnswersIn unread stops looked r p c ⊎ MeetsNumber new.renumbered new.scanner.options c.steps
    note_answers old before first p at x seen r a note (seen_other other follows) looks =
        absurd (let f = sym note ∙ other in cc)
    note_answers old before first p at x seen r a note (seen_comment same_note takes tells) looks =
        let e = plain_event x in
        let m = a.steps in
        let after = a.seen.steps in
        let room = o.max_buffered_comment_events in
        let kept : noted e.kind (record (asking_document m) { steps = after })
        ≡ record (asking_document m) { steps = after } =
        note_keeps e.kind (record (asking_document m) { steps = after }) note in
        let steps = ap (λ (d : Calls). d.steps) kept in
        let between = ap (λ (d : Calls). d.between) kept in
        let g = a.seen.goes in
        let t = g.steps in
        let ahead : AheadOf o after t = subst (λ m. AheadOf o m t) steps
        (subst (λ o. AheadOf o (noted e.kind (record (asking_document m) { steps = after })).steps t) before g.ahead) in
        let exact : (t ≡ after) ⊎ NoneComes o after = subst (λ m. (t ≡ m) ⊎ NoneComes o m) steps
        (subst (λ o. (t ≡ (noted e.kind (record (asking_document m) { steps = after })).steps)
        ⊎ NoneComes o (noted e.kind (record (asking_document m) { steps = after })).steps)
        before (g.between between)) in
        let next : next_event o m ≡ Ok (Some e, after) =
        subst (λ o. next_event o m ≡ Ok (Some e, after)) before a.seen.next in
        let recovers = subst (λ o. recover o stops looked c ≡ recovered o (comment_count e.kind) (resumed m)) before
        a.asks.recovers in
        let comes = subst (λ o. ComesBy o c.steps m) before a.asks.comes in
        elim (look_from after t room r ahead exact tells looks) [
          | inl l ↦ inl (record {
            steps = m;
            recovers = subst (λ s. recover s.scanner.options stops looked c ≡ recovery_answer r (resumed m)) (sym at)
                (subst (λ o'. recover o' stops looked c ≡ recovery_answer r (resumed m)) (sym same)
                (recovers ∙ ap (λ (n : ℕ). recovery_answer (document_follows o (room + n) m)
                (resumed m)) (note_room e.kind
                note)
                ∙ ap (λ (n : ℕ). recovery_answer (document_follows o n m) (resumed m)) (omega arith)
                ∙ ap (λ r. recovery_answer r (resumed m)) (takes room ∙ l.answer)));
            seen = if_ok r (subst (λ s. SeenBy unread p.peeked s (recovery_answer r (resumed m)).1) (sym at)
                (subst (λ (w : Next). SeenBy unread w new (recovery_answer r (resumed m)).1) (sym seen) (record {
                  steps = after;
                  next = subst (λ o. next_event o (recovery_answer r (resumed m)).1.steps
                      ≡ Ok (Some e, after)) (sym same)
                      (subst (λ m. next_event o m ≡ Ok (Some e, after)) (sym (answered_steps r m)) next);
                  goes = subst (GoesWithCalls unread new)
                      (sym (note_keeps e.kind (record ((recovery_answer r (resumed m)).1) { steps = after }) note))
                      (goes_behind after room r (record ((recovery_answer r (resumed m)).1) { steps = after }) l tells
                      (first ∙ g.told between) refl (answered_between r m));
                })));
          })
          | inr n ↦ inr (number_met after n.0 n.1 (comes_seen comes next) n.2 n.3)
        ]

    -- what was looked at and isn't a comment tells
    event_answers : (s : Stepping I) → s.scanner.options ≡ o → (p : Parsing I) → p.stepper ≡ s → (x : Event × Span)
        → p.peeked ≡ Some (Ok x) → (a : AsksBefore unread stops looked s (plain_event x) c)
        → seeing.seen_tells_document (seen_kind (plain_event x).kind) ≡ true
        → SeenTells o a.steps a.seen.steps (plain_event x).kind
        → AnswersIn unread stops looked (Ok true) p c
    event_answers s before p at x seen a told (seen_comment note takes tells) =
        absurd (let f = sym told ∙ note_untold (plain_event x).kind note in cc)
    event_answers s before p at x seen a told (seen_other other follows) =
        let e = plain_event x in
        let m = a.steps in
        let room = o.max_buffered_comment_events in
        let recovers = subst (λ o. recover o stops looked c ≡ recovered o (comment_count e.kind) (resumed m)) before
        a.asks.recovers in
        record {
          steps = m;
          recovers = subst (λ s. recover s.scanner.options stops looked c ≡ recovery_answer (Ok true) (resumed m))
              (sym at)
              (subst (λ o'. recover o' stops looked c ≡ recovery_answer (Ok true) (resumed m)) (sym before)
              (recovers ∙ ap (λ r. recovery_answer r (resumed m)) (follows (room + comment_count e.kind))));
          seen = subst (λ s. SeenBy unread p.peeked s (resumed m)) (sym at)
              (subst (λ (w : Next). SeenBy unread w s (resumed m)) (sym seen) (record {
                steps = a.seen.steps;
                next = a.seen.next;
                goes = goes_same unread s (noted e.kind (record (asking_document m) { steps = a.seen.steps }))
                    (noted e.kind (record (resumed m) { steps = a.seen.steps }))
                    (noted_steps e.kind (record (asking_document m) { steps = a.seen.steps })
                    ∙ sym (noted_steps e.kind (record (resumed m) { steps = a.seen.steps })))
                    (noted_less e.kind (record (resumed m) { steps = a.seen.steps })
                    (record (asking_document m) { steps = a.seen.steps }) refl)
                    a.seen.goes;
              }));
        }

pub unless_map : {X A B : Type 0} (r : Result X Refused) → UnlessMemory r A → (A → B) → UnlessMemory r B
unless_map (Ok x) a f = f a
unless_map (Err e) a f = λ other. f (a other)

module _ {I : Type 0} (unread : I → Unread → Type 0) (stops : Stops) (looked : Bool) (c : Calls) where
  -- an event that was looked at tells
  pub follows_told : (p : Parsing I) → AsksBy unread stops looked p.peeked p.stepper c
      → seeing.seen_tells_document (seen_in p.peeked) ≡ true → Follows unread stops looked (Ok true) p c
  follows_told p asks = by p.peeked refl asks
    where
      by : (w : Next) → p.peeked ≡ w → AsksBy unread stops looked w p.stepper c
          → seeing.seen_tells_document (seen_in w) ≡ true
          → Follows unread stops looked (Ok true) p c
      by None is a told = absurd (cc)
      by (Some (Ok x)) is a told =
          inl (event_answers unread p.stepper p.stepper.scanner.options refl stops looked c p.stepper refl p refl x
          is a told a.tells)
      by (Some (Err e)) is a told = absurd a

  -- else a look tells
  pub follows_looked : (p q : Parsing I) (r : Result Bool Refused)
      → q.stepper.scanner.options ≡ p.stepper.scanner.options
      → q.stepper.first ≡ p.stepper.first → q.peeked ≡ p.peeked → AsksBy unread stops looked p.peeked p.stepper c
      → seeing.seen_tells_document (seen_in p.peeked) ≡ false
      → ((m : StepState) → StandsAhead unread p.stepper m → p.stepper.first ≡ None
      → Turned p.stepper.scanner.options m → UnlessMemory r (Looks unread p.stepper.scanner.options
      p.stepper.scanner.options.max_buffered_comment_events r
      q.stepper m))
      → UnlessMemory r (Follows unread stops looked r q c)
  follows_looked p q r options first peeked asks untold_by looks = by p.peeked peeked asks untold_by
    where
      by : (w : Next) → q.peeked ≡ w → AsksBy unread stops looked w p.stepper c
          → seeing.seen_tells_document (seen_in w) ≡ false
          → UnlessMemory r (Follows unread stops looked r q c)
      by None is a told =
          unless_map r (looks a.goes.steps a.goes.stands (a.goes.told refl) a.turned)
          (none_answers unread q.stepper p.stepper.scanner.options options stops looked c p.stepper refl first q refl
          is r a)
      by (Some (Ok x)) is a told =
          let e = plain_event x in
          let note = untold e.kind told in
          let between = ap (λ (d : Calls). d.between)
          (note_keeps e.kind (record (asking_document a.steps) { steps = a.seen.steps }) note) in
          unless_map r (looks a.seen.goes.steps a.seen.goes.stands (a.seen.goes.told between) a.turned)
          (note_answers unread q.stepper p.stepper.scanner.options options stops looked c p.stepper refl first q refl
          x is r a note a.tells)
      by (Some (Err e)) is a told = absurd a
