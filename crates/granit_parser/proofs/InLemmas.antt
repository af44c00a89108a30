-- A parser is where the machine's calls led: what calls give there, and where they leave it.
pub use Rattle.granit_chains.proofs.ChainLaws.{looked_fit, once_less, reached_led}
pub use Rattle.granit_chains.proofs.Telling.{leaves_most}
use Rattle.std.proofs.Common.{◌≡◌, ◌⊎◌, inl, inr, ℕ, Bool, true, false, not, ◌||◌, is_some, Option, Some, None, Result}
use Rattle.std.proofs.Common.{Ok, Err, refl, sym, ap, subst, ◌∙◌}
use Rattle.std.specs.Prelude.{IfSome}
use Rattle.granit_base.specs.Place.{Unread}
use Rattle.granit_base.specs.declared.place.Span.{Span}
use Rattle.granit_cursor.specs.Reading.{GoesOnward, Reading}
use Rattle.granit_error.specs.OptionsData.{OptionsData}
use Rattle.granit_error.specs.Refused.{Refused}
use Rattle.granit_event.specs.declared.event.Event.{Event}
use Rattle.granit_event.specs.Events.{plain_event}
use Rattle.granit_input.specs.Origin.{Origin}
use Rattle.granit_lexemes.specs.Here.{Here}
use Rattle.granit_lexemes.specs.Outcome.{Fault}
use Rattle.granit_lexemes.specs.PlainEvent.{PlainEvent, EventKind, DocumentStart, DocumentEnd, StreamEnd}
use Rattle.granit_parser.specs.Holding.{ParserHolds, WaitsBehind}
use Rattle.granit_parser.specs.Parsing.{IsOver, KeepsGiven, Next, Parsing, ParserPeeksAs, Starves, ShowsNext}
use Rattle.granit_parser.specs.Parsing.{StandsBefore, notes_answered}
use Rattle.granit_parser.specs.Recovering.{AnswersBy, GaveUp, GivesCall, IsClosed, IsOpen, ParserIn, SeenBy, SeenNone}
use Rattle.granit_parser.specs.Recovering.{SeenOrFails, ShowsCall, LookShowsHeld, between_behind, failed_in}
use Rattle.granit_parser.specs.Recovering.{notes_between, notes_over, PeeksIn, over_behind}
use Rattle.granit_recovery.proofs.RecoveryLaws.{noted_fault}
use Rattle.granit_recovery.specs.Streams.{ReachedByCalls, calls_from}
use Rattle.granit_restart.specs.Ahead.{not_ahead}
use Rattle.granit_restart.specs.Calls.{Calls, given_by, next_call, noted}
pub use Rattle.granit_sourced.proofs.CallLemmas.{call_going}
use Rattle.granit_sourced.specs.Giving.{EndsWith, GivesNext}
use Rattle.granit_sourced.specs.Going.{Failed, GoesWithCalls, ReadsNext}
use Rattle.granit_sourced.specs.Sources.{IfUnseen, MovesUnless, NeverRecovers, TellsError, TellsSource}
use Rattle.granit_sourced.specs.Waiting.{GivesAtOnce}
use Rattle.granit_stepper.specs.Stepping.{StandsIn, Stepping}
use Rattle.granit_steps.specs.Steps.{StepState, next_event, start_from}

-- ---- what calls note

pub noted_between : (kind : EventKind) (c : Calls) (b : Bool) → b ≡ c.between
    → between_behind kind b ≡ (noted kind c).between
noted_between (DocumentStart explicit version) c b e = refl
noted_between DocumentEnd c b e = refl
noted_between StreamEnd c b e = e
noted_between kind c b e = e

pub noted_over : (kind : EventKind) (c : Calls) (v : Bool) → v ≡ c.over → over_behind kind v ≡ (noted kind c).over
noted_over (DocumentStart explicit version) c v e = e
noted_over DocumentEnd c v e = e
noted_over StreamEnd c v e = refl
noted_over kind c v e = e

pub noted_refusal : (kind : EventKind) (c : Calls) → (noted kind c).refusal ≡ c.refusal
noted_refusal (DocumentStart explicit version) c = refl
noted_refusal DocumentEnd c = refl
noted_refusal StreamEnd c = refl
noted_refusal kind c = refl

kind_over : (kind : EventKind) → over_behind kind true ≡ true
kind_over StreamEnd = refl
kind_over kind = refl

notes_ended : (r : Next) → notes_over r true ≡ true
notes_ended None = refl
notes_ended (Some (Ok x)) = kind_over (plain_event x).kind
notes_ended (Some (Err e)) = refl

-- ---- closed

pub closed_open : (c : Calls) → IsClosed c → IsOpen c → ⊥
closed_open c closed is =
    let none : ((c.over || is_some c.fault) || is_some c.refusal) ≡ false =
    ap (λ b. (b || is_some c.fault) || is_some c.refusal) is.over
    ∙ ap (λ (f : Option Fault). is_some f || is_some c.refusal) is.fault
    ∙ ap (λ (f : Option Fault). is_some f) is.refusal in
    let f = sym none ∙ closed in cc

-- where nothing is given nothing is noted
pub noted_none : {I : Type 0} (p t q : Parsing I) (r : Next) → r ≡ None → t ≡ p
    → q ≡ record t { given = q.given; starved = q.starved; between = q.between; over = q.over; answered = q.answered }
    → q.between ≡ notes_between r t.between → q.over ≡ notes_over r t.over → q.answered ≡ notes_answered r t.answered
    → KeepsGiven r t.given q.given → Starves r t.starved q.starved → q ≡ p
noted_none p t q r none same rest between over answered given starved =
    let b : q.between ≡ t.between = between ∙ ap (λ (r : Next). notes_between r t.between) none in
    let v : q.over ≡ t.over = over ∙ ap (λ (r : Next). notes_over r t.over) none in
    let a : q.answered ≡ t.answered = answered ∙ ap (λ (r : Next). notes_answered r t.answered) none in
    let g : q.given ≡ t.given = subst (λ (r : Next). KeepsGiven r t.given q.given) none given in
    let s : q.starved ≡ t.starved = subst (λ (r : Next). Starves r t.starved q.starved) none starved in
    rest
    ∙ ap (λ g. record t {
      given = g;
      starved = q.starved;
      between = q.between;
      over = q.over;
      answered = q.answered;
    }) g
    ∙ ap (λ s. record t { starved = s; between = q.between; over = q.over; answered = q.answered }) s
    ∙ ap (λ b. record t { between = b; over = q.over; answered = q.answered }) b
    ∙ ap (λ v. record t { over = v; answered = q.answered }) v
    ∙ ap (λ a. record t { answered = a }) a
    ∙ same

-- nothing is looked at
pub none_seen : (w v : Next) (b : Bool) → v ≡ w → is_some v ≡ not b → b ≡ true → w ≡ None
none_seen w None b same is none = sym same
none_seen w (Some x) b same is none = absurd (let f = is ∙ ap not none in cc)

-- a call of the machine gives something
abbrev pub NeverNone : OptionsData → Calls → Type 0
NeverNone o c = (next_call o c).0 ≡ None → ⊥

-- so does each open call that calls lead to
abbrev pub OpenGives : OptionsData → Type 0
OpenGives o = (c : Calls) → ReachedByCalls o c → c.over ≡ false → c.fault ≡ None → c.refusal ≡ None → NeverNone o c

pub never_none : (o p : OptionsData) (c : Calls) → o ≡ p → OpenGives p → ReachedByCalls p c → IsOpen c → NeverNone o c
never_none o p c same gives reached is none =
    gives c reached is.over is.fault is.refusal (subst (λ q. (next_call q c).0 ≡ None) same none)

module _ {I : Type 0} (unread : I → Unread → Type 0) where
  -- ---- where a parser is

  pub open_seen : (p : Parsing I) (c : Calls) → IsOpen c → ParserIn unread p c → SeenBy unread p.peeked p.stepper c
  open_seen p c is at =
      subst (λ f. SeenOrFails unread f p.peeked p.stepper c) is.fault
      (subst (λ f. AnswersBy unread f p c) is.refusal (at.stays is.over))

  answers_by : (p : Parsing I) (d : Calls) → d.refusal ≡ None → d.fault ≡ None
      → SeenBy unread p.peeked p.stepper d → AnswersBy unread d.refusal p d
  answers_by p d refusal fault seen =
      subst (λ f. AnswersBy unread f p d) (sym refusal)
      (subst (λ f. SeenOrFails unread f p.peeked p.stepper d) (sym fault) seen)

  pub goes_in : (p : Parsing I) (c : Calls) → c.refusal ≡ None → c.fault ≡ None → p.over ≡ c.over
      → p.between ≡ c.between → SeenBy unread p.peeked p.stepper c → ParserIn unread p c
  goes_in p c refusal fault over between seen = record {
    over = over;
    between = λ is. between;
    ended = λ e. refusal;
    stays = λ e. answers_by p c refusal fault seen;
  }

  unseen_by : (p : Parsing I) (c : Calls) → p.peeked ≡ None → GoesWithCalls unread p.stepper c
      → SeenBy unread p.peeked p.stepper c
  unseen_by p c none g = subst (λ (r : Next). SeenBy unread r p.stepper c) (sym none) g

  pub failed_at : (p : Parsing I) (m : StepState) (e : Fault) (c : Calls) → c.refusal ≡ None → p.over ≡ c.over
      → SeenNone p.peeked → Failed unread p.stepper m e → ParserIn unread p (failed_in m e c)
  failed_at p m e c refusal over seen failed = record {
    over = over;
    between = λ is. absurd (let f = is.fault in cc);
    ended = λ b. refusal;
    stays = λ b. subst (λ f. AnswersBy unread f p (failed_in m e c)) (sym refusal) (seen, failed);
  }

  -- ---- one call

  module _ (o : OptionsData) (c : Calls) (is : IsOpen c) where
    pub call_event : (e : PlainEvent) (t : StepState) → next_event o c.steps ≡ Ok (Some e, t)
        → next_call o c ≡ (Some (Ok e), noted e.kind (record c { steps = t }))
    call_event e t next = call_going o c is.over is.fault is.refusal ∙ ap (given_by o c) next

    pub call_none : (t : StepState) → next_event o c.steps ≡ Ok (None, t) → (next_call o c).0 ≡ None
    call_none t next =
        ap (λ x. x.0) (call_going o c is.over is.fault is.refusal ∙ ap (given_by o c) next)

  -- what was read is given
  pub call_gives : (r : Next) (q : Parsing I) (c : Calls) (between over : Bool) → IsOpen c
      → between ≡ c.between → over ≡ c.over → ReadsNext unread r q.stepper c → q.peeked ≡ None
      → q.between ≡ notes_between r between → q.over ≡ notes_over r over → NeverNone q.stepper.scanner.options c
      → GivesCall unread r q c
  call_gives None q c between over is b v reads none noted_b noted_v never =
      never (call_none q.stepper.scanner.options c is reads.0 reads.1)
  call_gives (Some (Ok x)) q c between over is b v reads none noted_b noted_v never =
      let kind = (plain_event x).kind in
      let d : Calls = noted kind (record c { steps = reads.steps }) in (
        d,
        call_event q.stepper.scanner.options c is (plain_event x) reads.steps reads.next,
        goes_in q d (noted_refusal kind (record c { steps = reads.steps }) ∙ is.refusal)
            (noted_fault kind (record c { steps = reads.steps }) ∙ is.fault)
            (noted_v ∙ noted_over kind (record c { steps = reads.steps }) over v)
            (noted_b ∙ noted_between kind (record c { steps = reads.steps }) between b)
            (unseen_by q d none reads.goes),
      )
  call_gives (Some (Err e)) q c between over is b v reads none noted_b noted_v never = λ other.
      let x = reads other in (
        x.0,
        x.2,
        failed_at q x.0 e c is.refusal (noted_v ∙ v)
            (subst (λ (r : Next). SeenNone r) (sym none) tt) x.1,
      )

  -- what was looked at is what a read gave
  pub seen_reads : (r : Result (Event × Span) Refused) (s : Stepping I) (c : Calls) → SeenBy unread (Some r) s c
      → ReadsNext unread (Some r) s c
  seen_reads (Ok x) s c seen = seen
  seen_reads (Err e) s c seen = absurd seen

  -- what was read is looked at
  pub call_shows : (r : Next) (q : Parsing I) (c : Calls) → IsOpen c → ReadsNext unread r q.stepper c
      → q.peeked ≡ r → q.between ≡ c.between → q.over ≡ c.over → NeverNone q.stepper.scanner.options c
      → ShowsCall unread r q c
  call_shows None q c is reads seen b v never = never (call_none q.stepper.scanner.options c is reads.0 reads.1)
  call_shows (Some (Ok x)) q c is reads seen b v never =
      goes_in q c is.refusal is.fault v b (subst (λ (r : Next). SeenBy unread r q.stepper c) (sym seen) reads)
  call_shows (Some (Err e)) q c is reads seen b v never = λ other.
      let x = reads other in
      (x.0, x.2, failed_at q x.0 e c is.refusal v (subst (λ (r : Next). SeenNone r) (sym seen) tt) x.1)

  -- ---- where no call gives an event

  module _ (p q : Parsing I) (c : Calls) (closed : IsClosed c) (at : ParserIn unread p c) (r : Next)
      (ends : IsOver p → q ≡ p)
      (seen : IfSome p.peeked (λ x. (r ≡ Some x) × (q.stepper ≡ p.stepper)))
      (none : q.peeked ≡ None) (over : q.over ≡ notes_over r p.over) where
    refused_stays : (f : Fault) → c.refusal ≡ Some f → c.over ≡ false → ParserIn unread q c
    refused_stays f is going =
        let gone : GaveUp p f = subst (λ r. AnswersBy unread r p c) is (at.stays going) in
        subst (λ (x : Parsing I). ParserIn unread x c) (sym (ends (record {
          none = gone.seen;
          failed = gone.failed;
        }))) at

    failed_stays : (f : Fault) → c.fault ≡ Some f → c.refusal ≡ None → c.over ≡ false → ParserIn unread q c
    failed_stays f is refusal going =
        let stays : SeenOrFails unread (Some f) p.peeked p.stepper c =
        subst (λ f. SeenOrFails unread f p.peeked p.stepper c) is
        (subst (λ r. AnswersBy unread r p c) refusal (at.stays going)) in
        by p.peeked refl stays.0 stays.1
      where
        by : (w : Next) → p.peeked ≡ w → SeenNone w → Failed unread p.stepper c.steps f → ParserIn unread q c
        by None same unseen failed =
            subst (λ (x : Parsing I). ParserIn unread x c)
            (sym (ends (record { none = same; failed = failed.failed }))) at
        by (Some (Ok x)) same unseen failed = absurd unseen
        by (Some (Err e)) same unseen failed =
            let shown : (r ≡ Some (Err e)) × (q.stepper ≡ p.stepper) =
            subst (λ (w : Next). IfSome w (λ x. (r ≡ Some x) × (q.stepper ≡ p.stepper))) same seen in
            record {
              over = over ∙ ap (λ (r : Next). notes_over r p.over) shown.0 ∙ at.over;
              between = λ is. absurd (closed_open c closed is);
              ended = at.ended;
              stays = λ b. subst (λ r. AnswersBy unread r q c) (sym refusal)
                  (subst (λ g. SeenOrFails unread g q.peeked q.stepper c) (sym is) (
                    subst (λ (w : Next). SeenNone w) (sym none) tt,
                    subst (λ s. Failed unread s c.steps f) (sym shown.1) failed,
                  ));
            }

    by_refusal : (f g : Option Fault) → c.fault ≡ f → c.refusal ≡ g → c.over ≡ false → ParserIn unread q c
    by_refusal f (Some g) fault refusal going = refused_stays g refusal going
    by_refusal (Some f) None fault refusal going = failed_stays f fault refusal going
    by_refusal None None fault refusal going =
        absurd (closed_open c closed (record { over = going; fault = fault; refusal = refusal }))

    by_over : (b : Bool) → c.over ≡ b → ParserIn unread q c
    by_over true ended = record {
      over = over ∙ ap (notes_over r) (at.over ∙ ended) ∙ notes_ended r ∙ sym ended;
      between = λ is. absurd (closed_open c closed is);
      ended = at.ended;
      stays = λ going. absurd (let f = sym ended ∙ going in cc);
    }
    by_over false going = by_refusal c.fault c.refusal refl refl going

    pub closed_stays : ParserIn unread q c
    closed_stays = by_over c.over refl

  failed_by : (f g : Option Fault) (p : Parsing I) (c : Calls) → c.fault ≡ f → c.refusal ≡ g → c.over ≡ false
      → IsClosed c → AnswersBy unread c.refusal p c → p.stepper.failed ≡ true
  failed_by f (Some e) p c fault refusal going closed stays =
      let gone : GaveUp p e = subst (λ r. AnswersBy unread r p c) refusal stays in gone.failed
  failed_by (Some f) None p c fault refusal going closed stays =
      let failed : SeenOrFails unread (Some f) p.peeked p.stepper c =
      subst (λ f. SeenOrFails unread f p.peeked p.stepper c) fault
      (subst (λ r. AnswersBy unread r p c) refusal stays) in
      failed.1.failed
  failed_by None None p c fault refusal going closed stays =
      absurd (closed_open c closed (record { over = going; fault = fault; refusal = refusal }))

  -- where a stream that goes on gives nothing any more, a call failed
  pub closed_failed : (p : Parsing I) (c : Calls) → IsClosed c → c.over ≡ false → ParserIn unread p c
      → p.stepper.failed ≡ true
  closed_failed p c closed over at = failed_by c.fault c.refusal p c refl refl over closed (at.stays over)

  -- ---- a look

  shows_seen : (p : Parsing I) (x : Result (Event × Span) Refused) (c : Calls) → ParserIn unread p c
      → SeenBy unread (Some x) p.stepper c → ShowsCall unread (Some x) p c
  shows_seen p (Ok x) c at seen = at
  shows_seen p (Err e) c at seen = absurd seen

  waits_seen : (p : Parsing I) (x : Result (Event × Span) Refused) (c : Calls) (f : Fault) → ParserHolds unread p c f
      → WaitsBehind unread (Some x) p.stepper c.steps f → LookShowsHeld unread (Some x) p c f
  waits_seen p (Ok x) c f holds waits = holds
  waits_seen p (Err e) c f holds waits = absurd waits

  pub holds_shown : (p : Parsing I) (c : Calls) (f : Fault) → ParserHolds unread p c f → is_some p.peeked ≡ true
      → LookShowsHeld unread p.peeked p c f
  holds_shown p c f holds seen = by p.peeked refl seen
    where
      by : (w : Next) → p.peeked ≡ w → is_some w ≡ true → LookShowsHeld unread w p c f
      by None is some = absurd (cc)
      by (Some x) is some = waits_seen p x c f holds
          (subst (λ (r : Next). WaitsBehind unread r p.stepper c.steps f) is holds.waits)

  -- where something was looked at a look shows it
  peeks_some : (origin : I → Origin) (p : Parsing I) (x : Result (Event × Span) Refused) → p.peeked ≡ Some x
      → PeeksIn unread origin p p.peeked p
  peeks_some origin p x is = record {
    calls = λ c reached opened at none. subst (λ (r : Next). ShowsCall unread r p c) (sym is)
        (shows_seen p x c at (subst (λ (r : Next). SeenBy unread r p.stepper c) is (open_seen p c opened at)));
    closed = λ c closed at. at;
    held = λ c f holds free. subst (λ (r : Next). LookShowsHeld unread r p c f) (sym is)
        (waits_seen p x c f holds (subst (λ (r : Next). WaitsBehind unread r p.stepper c.steps f) is holds.waits));
    lost = subst (λ (w : Next). IfUnseen w (NeverRecovers origin p.stepper p.peeked p.stepper)) (sym is) tt;
  }

  pub peeks_seen : (origin : I → Origin) (p : Parsing I) → is_some p.peeked ≡ true → PeeksIn unread origin p p.peeked p
  peeks_seen origin p seen = by p.peeked refl seen
    where
      by : (w : Next) → p.peeked ≡ w → is_some w ≡ true → PeeksIn unread origin p p.peeked p
      by None is some = absurd (cc)
      by (Some x) is some = peeks_some origin p x is

  told_free : (origin : I → Origin) (r : Next) (at : Reading I) → TellsSource origin r at
      → (origin at.input).error ≡ None
      → ⊥
  told_free origin None at told free = told
  told_free origin (Some (Ok x)) at told free = told
  told_free origin (Some (Err e)) at told free = let f = sym free ∙ told.kind in cc

  module _ (origin : I → Origin) (p q : Parsing I) (r : Next) (none : p.peeked ≡ None) (seen : q.peeked ≡ r)
      (between : q.between ≡ p.between) (over : q.over ≡ p.over) (ends : p.stepper.failed ≡ true → q ≡ p) where
    ended_stays : (c : Calls) → IsClosed c → ParserIn unread p c → c.over ≡ true → ParserIn unread q c
    ended_stays c closed at ended = record {
      over = over ∙ at.over;
      between = λ is. absurd (closed_open c closed is);
      ended = at.ended;
      stays = λ going. absurd (let f = sym ended ∙ going in cc);
    }

    closed_by : (b : Bool) (c : Calls) → c.over ≡ b → IsClosed c → ParserIn unread p c → ParserIn unread q c
    closed_by true c is closed at = ended_stays c closed at is
    closed_by false c is closed at =
        subst (λ (z : Parsing I). ParserIn unread z c)
        (sym (ends (closed_failed p c closed is at))) at

    -- else it shows what is read
    pub peeks_read : ((c : Calls) → ReachedByCalls p.stepper.scanner.options c → GoesWithCalls unread p.stepper c
        → ReadsNext unread r q.stepper c ⊎ TellsSource origin r q.stepper.scanner.cursor)
        → NeverRecovers origin p.stepper r q.stepper → q.stepper.scanner.options ≡ p.stepper.scanner.options
        → OpenGives p.stepper.scanner.options
        → ((c : Calls) (f : Fault) → ParserHolds unread p c f
        → LookShowsHeld unread r q c f ⊎ TellsSource origin r q.stepper.scanner.cursor)
        → PeeksIn unread origin p q.peeked q
    peeks_read reads lost same gives waits = record {
      calls = λ c reached opened at free. subst (λ (w : Next). ShowsCall unread w q c) (sym seen)
          (elim (reads c reached (subst (λ (w : Next). SeenBy unread w p.stepper c) none (open_seen p c opened at))) [
            | inl read ↦ call_shows r q c opened read seen (between ∙ at.between opened) (over ∙ at.over)
                (never_none q.stepper.scanner.options p.stepper.scanner.options c same gives reached opened)
            | inr source ↦ absurd (told_free origin r q.stepper.scanner.cursor source free)
          ]);
      closed = λ c closed at. closed_by c.over c refl closed at;
      held = λ c f holds free. subst (λ (w : Next). LookShowsHeld unread w q c f) (sym seen) (elim (waits c f holds) [
        | inl shown ↦ shown
        | inr source ↦ absurd (told_free origin r q.stepper.scanner.cursor source free)
      ]);
      lost = subst (λ (w : Next). IfUnseen w (NeverRecovers origin p.stepper q.peeked q.stepper)) (sym none)
          (subst (λ (w : Next). NeverRecovers origin p.stepper w q.stepper) (sym seen) lost);
    }

  -- ---- before all calls

  pub starts_in : (p : Parsing I) (h : Here) → StandsIn unread p.stepper (start_from h) → p.peeked ≡ None
      → p.between ≡ false → p.over ≡ false → ParserIn unread p (calls_from h)
  starts_in p h at none between over =
      goes_in p (calls_from h) refl refl over between (unseen_by p (calls_from h) none (record {
        steps = start_from h;
        ahead = not_ahead;
        stands = inl at;
        between = λ b. absurd (let f : false ≡ true = b in cc);
        told = λ b. absurd (let f : false ≡ true = b in cc);
      }))

-- ---- a look, in a state of the machine

module _ {I : Type 0} (unread : I → Unread → Type 0) (left : I → ℕ) (origin : I → Origin) (p t : Parsing I) (r : Next)
    (none : p.peeked ≡ None)
    (sure : (m : StepState) → StandsIn unread p.stepper m → (origin t.stepper.scanner.cursor.input).error ≡ None
    → GivesNext r (StandsIn unread t.stepper) t.stepper.renumbered p.stepper.scanner.options m)
    (options : t.stepper.scanner.options ≡ p.stepper.scanner.options) where
  shows_next : (w : Next) (m : StepState)
      → GivesNext w (StandsIn unread t.stepper) t.stepper.renumbered p.stepper.scanner.options m
      → ShowsNext unread w (record t { peeked = w }) p.stepper.scanner.options m
  shows_next None m g = g
  shows_next (Some x) m g =
      subst (λ o. GivesNext (Some x) (StandsIn unread t.stepper) t.stepper.renumbered o m) (sym options) g

  pub peeks_unseen : TellsError origin p.stepper r t.stepper.scanner.cursor
      → GivesAtOnce origin p.stepper r t.stepper → t.given ≡ p.given → t.answered ≡ p.answered → EndsWith r t.stepper
      → (p.stepper.failed ≡ true → (r ≡ None) × (t ≡ p))
      → t.stepper.renumbered ≡ p.stepper.renumbered
      → MovesUnless left origin r p.stepper.scanner.cursor t.stepper.scanner.cursor
      → GoesOnward unread p.stepper.scanner.cursor t.stepper.scanner.cursor
      → ParserPeeksAs unread left origin p r (record t { peeked = r })
  peeks_unseen source at_once given answered refused over renumbered moves onward = record {
    shown = refl;
    known = λ m at free. shows_next r m (sure m (subst (λ (w : Next). StandsBefore unread w p.stepper m) none at) free);
    source = subst (λ (w : Next). IfUnseen w (TellsError origin p.stepper r t.stepper.scanner.cursor)) (sym none)
        source;
    at_once = subst (λ (w : Next). IfUnseen w (GivesAtOnce origin p.stepper r t.stepper)) (sym none) at_once;
    seen = subst (λ (w : Next). IfSome w (λ x. record t { peeked = r } ≡ p)) (sym none) tt;
    given = given;
    answered = answered;
    refused = refused;
    over = λ is. let x = over is.failed in
        ap (λ (q : Parsing I). record q { peeked = r }) x.1 ∙ ap (λ (w : Next). record p { peeked = w }) (x.0
        ∙ sym none);
    options = options;
    renumbered = renumbered;
    moves = subst (λ (w : Next). IfUnseen w (MovesUnless left origin r p.stepper.scanner.cursor
        t.stepper.scanner.cursor)) (sym none) moves;
    onward = onward;
  }
