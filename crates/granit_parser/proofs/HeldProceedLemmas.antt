-- Recovery where a refusal waits, by the branches of the code.
use Rattle.std.proofs.Common.{◌≡◌, ◌⊎◌, inl, inr, ℕ, suc, ◌+◌, Bool, true, false, not, is_some, [], Option, Some, None}
use Rattle.std.proofs.Common.{Result, Ok, Err, refl, sym, ap, subst, ◌∙◌, arith}
use Rattle.std.specs.Prelude.{IfErr, IfOk}
use Rattle.granit_base.specs.Place.{Mark, Unread}
use Rattle.granit_cursor.specs.Reading.{GoesOnward}
use Rattle.granit_error.specs.FaultKind.{NoMemory}
use Rattle.granit_error.specs.OptionsData.{OptionsData}
use Rattle.granit_error.specs.Refused.{Refused, UnlessMemory}
use Rattle.granit_event.specs.Events.{plain_event}
use Rattle.granit_input.specs.Origin.{Origin}
use Rattle.granit_lexemes.specs.Outcome.{Fault}
use Rattle.granit_lexemes.specs.PlainEvent.{Comment, EventKind, StreamEnd}
use Rattle.granit_parser.proofs.DropLemmas.{TellsHere, TellsLooked}
use Rattle.granit_parser.proofs.HeldRecoverLemmas.{looked_first, waits_on}
use Rattle.granit_parser.proofs.ProceedLemmas.{answer_ends, given_up, refused_ends}
use Rattle.granit_parser.proofs.RecoverLemmas.{any_stops}
use Rattle.granit_parser.specs.Holding.{FailsThere, FaultLacksNumber, MetFault, ParserHolds, WaitsBehind, held_behind}
use Rattle.granit_parser.specs.Holding.{held_room, keeping_tags, stays_seen}
use Rattle.granit_parser.specs.Parsing.{Next, Parsing}
use Rattle.granit_parser.specs.Recovering.{AsksBy, EndsHeldBy, EndsHeld, Follows, GaveUp, IsOpen, LookShowsHeld}
use Rattle.granit_parser.specs.Recovering.{ParserIn, Proceeds, ProceedsHeld, ProceedsHeldBy, ProceedsHeldNext}
use Rattle.granit_parser.specs.Recovering.{ProceedsHeldShown, SeenBy, SkipsWaiting, failed_in, seen_in, stays_by}
use Rattle.granit_seen.specs.Seeing.{seen_kind, seen_tells_document}
use Rattle.granit_seen.specs.declared.seen.Seen.TheVariants as seens
use Rattle.granit_recovery.specs.Streams.{ReachedByCalls}
use Rattle.granit_restart.specs.Calls.{Calls}
use Rattle.granit_restart.specs.Looking.{told_by, told_event}
use Rattle.granit_restart.specs.Recovery.{comment_count, recovery_answer, resumed}
use Rattle.granit_restart.specs.Skipping.{Ended, Failed, SkipEnd, Stops, with_pending}
use Rattle.granit_restart.specs.Turned.{with_count}
use Rattle.granit_sourced.specs.Sources.{TellsSource}
use Rattle.granit_stepper.specs.Holding.{HoldsFault, held_follows, told_or_refused}
use Rattle.granit_stepper.specs.Numbers.{RefusesNumber}
use Rattle.granit_stepper.specs.Stepping.{Stepping}
use Rattle.granit_steps.specs.Steps.{StepState}

unless_map : {X A B : Type 0} (r : Result X Refused) → (A → B) → UnlessMemory r A → UnlessMemory r B
unless_map (Ok x) on a = on a
unless_map (Err e) on a = λ other. on (a other)

unless_always : {X A : Type 0} (r : Result X Refused) → A → UnlessMemory r A
unless_always (Ok x) a = a
unless_always (Err e) a = λ other. a

sum_map : {A B C : Type 0} → (A → B) → A ⊎ C → B ⊎ C
sum_map on (inl a) = inl (on a)
sum_map on (inr c) = inr c

-- under the same options it counts as given by the same calls
abbrev met_under : (o p : OptionsData) (n : StepState) (f : Fault) → p ≡ o → MetFault o n f → MetFault p n f
met_under o p n f same m = record {
  calls = m.calls;
  reached = subst (λ q. ReachedByCalls q m.calls) (sym same) m.reached;
  steps = m.steps;
  fault = m.fault;
  over = m.over;
  refusal = m.refusal;
}

-- ---- what waits tells

told_other : (room : ℕ) (kind : EventKind) (mark : Mark) (more : ℕ → Option (Result Bool Fault))
    → seen_tells_document (seen_kind kind) ≡ true → (seen_kind kind ≡ seens.StreamEnd → ⊥)
    → told_event room kind mark more ≡ Some (Ok true)
told_other room (Comment text placement) mark more tells other = absurd (cc)
told_other room StreamEnd mark more tells other = absurd (other refl)
told_other room kind mark more tells other = refl

told_comment_on : (room : ℕ) (kind : EventKind) (mark : Mark) (more : ℕ → Option (Result Bool Fault))
    → seen_tells_document (seen_kind kind) ≡ false → told_event (suc room) kind mark more ≡ more room
told_comment_on room (Comment text placement) mark more tells = refl
told_comment_on room kind mark more tells = absurd (cc)

counts_one : (kind : EventKind) → seen_tells_document (seen_kind kind) ≡ false → comment_count kind ≡ 1
counts_one (Comment text placement) tells = refl
counts_one kind tells = absurd (cc)

module _ {I : Type 0} (unread : I → Unread → Type 0) where
  -- any other event than a comment tells that a document is there
  pub follows_seen : (w : Next) (s : Stepping I) (m : StepState) (f : Fault) (room : ℕ) → WaitsBehind unread w s m f
      → seen_tells_document (seen_in w) ≡ true → (seen_in w ≡ seens.StreamEnd → ⊥)
      → (Ok true ≡ held_follows room m) × WaitsBehind unread w s m f
  follows_seen None s m f room waits tells other = absurd (cc)
  follows_seen (Some (Err e)) s m f room waits tells other = absurd (cc)
  follows_seen (Some (Ok x)) s m f room waits tells other =
      let e = plain_event x in (
        sym (ap told_or_refused (ap (told_by room) waits.1
            ∙ told_other room e.kind e.span.start (λ left. told_by left waits.0) tells other)),
        waits,
      )

  -- behind a comment, or nothing, what waits in the stepper tells
  pub follows_behind : (w : Next) (s new : Stepping I) (m : StepState) (f : Fault) (o : OptionsData)
      (r : Result Bool Refused) → seen_tells_document (seen_in w) ≡ false → WaitsBehind unread w s m f
      → ((n : StepState) (e : Refused) → HoldsFault unread s n e → UnlessMemory r
      ((r ≡ held_follows (o.max_buffered_comment_events) n) × HoldsFault unread new n e))
      → UnlessMemory r ((r ≡ held_follows (held_room o true w) m) × WaitsBehind unread w new m f)
  follows_behind None s new m f o r tells waits known =
      let same : o.max_buffered_comment_events ≡ o.max_buffered_comment_events + 0 = omega arith in
      unless_map r (λ k. (k.0 ∙ ap (λ room. held_follows room m) same, k.1)) (known m f waits)
  follows_behind (Some (Err e)) s new m f o r tells waits known = absurd waits
  follows_behind (Some (Ok x)) s new m f o r tells waits known =
      let e = plain_event x in
      let max = o.max_buffered_comment_events in
      let one : max + 1 ≡ suc max = omega arith in
      let room : held_room o true (Some (Ok x)) ≡ suc max = ap (λ n. max + n) (counts_one e.kind tells) ∙ one in
      let told : held_follows (held_room o true (Some (Ok x))) m ≡ held_follows max (with_pending waits.0 m) =
      ap (λ n. held_follows n m) room
      ∙ ap told_or_refused (ap (told_by (suc max)) waits.1
      ∙ told_comment_on max e.kind e.span.start (λ left. told_by left waits.0) tells) in
      unless_map r (λ k. (k.0 ∙ sym told, (waits.0, waits.1, k.1))) (known (with_pending waits.0 m) f waits.2)

  -- ---- behind what was dropped

  -- what is looked at then is no end of the stream
  pub no_stream_end : (b : Bool) (w : Next) → (seen_in w ≡ seens.StreamEnd → ⊥)
      → seen_in (stays_seen b w) ≡ seens.StreamEnd → ⊥
  no_stream_end true w other = other
  no_stream_end false w other = λ is. absurd (cc)

  room_same : (o : OptionsData) (b : Bool) (w : Next) → held_room o true (stays_seen b w) ≡ held_room o b w
  room_same o true w = refl
  room_same o false w = refl

  module _ (p mid : Parsing I) (c : Calls) (f : Fault) (holds : ParserHolds unread p c f) (going : c.over ≡ false)
      (o1 : mid.stepper.scanner.options ≡ p.stepper.scanner.options)
      (b1 : mid.stepper.renumbered ≡ p.stepper.renumbered)
      (seen : mid.peeked ≡ stays_seen (stays_by p.between p.peeked) p.peeked)
      (skips : SkipsWaiting unread p.stepper.scanner.cursor (is_some p.peeked) f
      (held_behind (stays_by p.between p.peeked) f c.steps) mid
      ⊎ FaultLacksNumber p.stepper.renumbered p.stepper.scanner.options c f) where
    abbrev stays : Bool
    stays = stays_by p.between p.peeked

    abbrev room : ℕ
    room = held_room p.stepper.scanner.options stays p.peeked

    opened : IsOpen c
    opened = record { over = going; fault = holds.fault; refusal = holds.refusal }

    lacks : (q : Parsing I) → q.stepper.scanner.options ≡ p.stepper.scanner.options
        → q.stepper.renumbered ≡ p.stepper.renumbered
        → FaultLacksNumber p.stepper.renumbered p.stepper.scanner.options c f
        → FaultLacksNumber q.stepper.renumbered q.stepper.scanner.options c f
    lacks q o b left = subst (λ o. FaultLacksNumber q.stepper.renumbered o c f) (sym o)
        (subst (λ b. FaultLacksNumber b p.stepper.scanner.options c f) (sym b) left)

    told_here : (r : Result Bool Refused) (n : StepState)
        → r ≡ held_follows (held_room mid.stepper.scanner.options true mid.peeked) n → r ≡ held_follows room n
    told_here r n told =
        told ∙ ap (λ o. held_follows (held_room o true mid.peeked) n) o1
        ∙ ap (λ (w : Next). held_follows (held_room p.stepper.scanner.options true w) n) seen
        ∙ ap (λ k. held_follows k n) (room_same p.stepper.scanner.options stays p.peeked)

    -- a refusal of the look
    pub refused_held : (q : Parsing I) (e : Refused) → q.stepper.scanner.options ≡ mid.stepper.scanner.options
        → q.stepper.renumbered ≡ mid.stepper.renumbered → (seen_in p.peeked ≡ seens.StreamEnd → ⊥)
        → ((stops : Stops) (looked : Bool) (c : Calls) → AsksBy unread stops looked mid.peeked mid.stepper c
        → UnlessMemory {X = Bool} (Err e) (Follows unread stops looked (Err e) q c))
        → ((m : StepState) (f : Fault) → WaitsBehind unread mid.peeked mid.stepper m f
        → (seen_in mid.peeked ≡ seens.StreamEnd → ⊥) → UnlessMemory {X = Bool} (Err e)
        ((Err e ≡ held_follows (held_room mid.stepper.scanner.options true mid.peeked) m)
        × WaitsBehind unread q.peeked q.stepper m f))
        → (e.kind ≡ NoMemory → ⊥) → EndsHeld unread (Err e) p q c f
    refused_held q e o2 b2 end known waits other = by skips
      where
        ends_with : (x : SkipEnd) → SkipsWaiting unread p.stepper.scanner.cursor (is_some p.peeked) f x mid
            → EndsHeldBy unread room x (Err e) p q f
        ends_with (Ended n) there =
            let k = waits n f there (λ is. no_stream_end stays p.peeked end (ap seen_in (sym seen) ∙ is)) other in
            (told_here (Err e) n k.0, tt)
        ends_with (Failed g n) there = (
          met_under mid.stepper.scanner.options q.stepper.scanner.options n g o2 there.0,
          refused_ends unread p mid there.0.calls there.1 q e o2 b2 known other,
        )

        by : SkipsWaiting unread p.stepper.scanner.cursor (is_some p.peeked) f (held_behind stays f c.steps) mid
            ⊎ FaultLacksNumber p.stepper.renumbered p.stepper.scanner.options c f → EndsHeld unread (Err e) p q c f
        by (inl there) = inl (inr (ends_with (held_behind stays f c.steps) there))
        by (inr left) = inr (lacks q (o2 ∙ o1) (b2 ∙ b1) left)

    -- the answer, unless the source failed
    module _ (origin : I → Origin) (was q : Parsing I) (follows : Bool)
        (o2 : was.stepper.scanner.options ≡ mid.stepper.scanner.options)
        (b2 : was.stepper.renumbered ≡ mid.stepper.renumbered)
        (o3 : q.stepper.scanner.options ≡ was.stepper.scanner.options)
        (b3 : q.stepper.renumbered ≡ was.stepper.renumbered) (over : q.over ≡ false)
        (end : seen_in p.peeked ≡ seens.StreamEnd → ⊥) (tells : (o : OptionsData) → TellsHere o)
        (looks : (o : OptionsData) → TellsLooked o)
        (known : (stops : Stops) (looked : Bool) (c : Calls) → AsksBy unread stops looked mid.peeked mid.stepper c
        → Follows unread stops looked (Ok follows) was c)
        (waits : (m : StepState) (f : Fault) → WaitsBehind unread mid.peeked mid.stepper m f
        → (seen_in mid.peeked ≡ seens.StreamEnd → ⊥)
        → (Ok follows ≡ held_follows (held_room mid.stepper.scanner.options true mid.peeked) m)
        × WaitsBehind unread was.peeked was.stepper m f) where
      same_number : q.stepper.renumbered ≡ p.stepper.renumbered
      same_number = b3 ∙ b2 ∙ b1

      same_options : q.stepper.scanner.options ≡ p.stepper.scanner.options
      same_options = o3 ∙ o2 ∙ o1

      -- it waits on
      holds_on : (x : Bool) (n : StepState) → Ok x ≡ held_follows room n → q.between ≡ not x
          → WaitsBehind unread q.peeked q.stepper n f
          → FailsThere q.stepper.renumbered q.stepper.scanner.options (recovery_answer (Ok x) (resumed n)).1 f
          → ParserHolds unread q (recovery_answer (Ok x) (resumed n)).1 f
      holds_on true n told between there fails = record {
        over = over;
        between = between;
        fault = refl;
        refusal = refl;
        waits = there;
        fails = fails;
      }
      holds_on false n told between there fails = record {
        over = over;
        between = between;
        fault = refl;
        refusal = refl;
        waits = there;
        fails = fails;
      }

      fails_on : (x : Bool) (n : StepState) → held_behind stays f c.steps ≡ Ended n → Ok x ≡ held_follows room n
          → FailsThere q.stepper.renumbered q.stepper.scanner.options (recovery_answer (Ok x) (resumed n)).1 f
          ⊎ FaultLacksNumber q.stepper.renumbered q.stepper.scanner.options c f
      fails_on x n at told = elim holds.fails.fails [
        | inl fails ↦
            let o = p.stepper.scanner.options in
            let kept = keeping_tags holds.fails.keep o in
            let still = waits_on p.stepper.renumbered o c f opened holds.fails fails (any_stops c) p.peeked n
            (looked_first unread p.peeked p.stepper c.steps f holds.waits)
            (subst (λ b. held_behind (stays_by b p.peeked) f c.steps ≡ Ended n) holds.between at) (tells kept)
            (looks kept) x
            (subst (λ b. Ok x ≡ held_follows (held_room o (stays_by b p.peeked) p.peeked) n) holds.between told) in
            let d = (recovery_answer (Ok x) (resumed n)).1 in
            inl (subst (λ o. FailsThere q.stepper.renumbered o d f) (sym same_options)
            (subst (λ b. FailsThere b p.stepper.scanner.options d f) (sym same_number) still))
        | inr left ↦ inr (lacks q same_options same_number (holds.fails.keep, holds.fails.count, left))
      ]

      pub answer_held : (r : Result Bool Refused)
          → ((d : Calls) → SeenBy unread was.peeked was.stepper d → IfOk r (λ x. SeenBy unread q.peeked q.stepper d))
          → ((m : StepState) (f : Fault) → WaitsBehind unread was.peeked was.stepper m f
          → IfOk r (λ x. WaitsBehind unread q.peeked q.stepper m f))
          → IfOk r (λ x. (x ≡ follows) × (q.between ≡ not follows))
          → IfErr r (λ e. TellsSource {X = Bool} origin (Some (Err e)) q.stepper.scanner.cursor)
          → UnlessMemory r (EndsHeld unread r p q c f ⊎ TellsSource origin (Some r) q.stepper.scanner.cursor)
      answer_held (Err e) kept waiting answer source = λ other. inr source
      answer_held (Ok x) kept waiting answer source = by skips
        where
          told : (n : StepState) → Ok follows ≡ held_follows room n → Ok x ≡ held_follows room n
          told n is = ap (λ (b : Bool). Ok b) answer.0 ∙ is

          ended : (n : StepState) → held_behind stays f c.steps ≡ Ended n
              → WaitsBehind unread mid.peeked mid.stepper n f
              → EndsHeldBy unread room (Ended n) (Ok x) p q f
              ⊎ FaultLacksNumber q.stepper.renumbered q.stepper.scanner.options c f
          ended n at there =
              let k = waits n f there (λ is. no_stream_end stays p.peeked end (ap seen_in (sym seen) ∙ is)) in
              let same = told n (told_here (Ok follows) n k.0) in
              elim (fails_on x n at same) [
                | inl fails ↦ inl (
                  same,
                  holds_on x n same (answer.1 ∙ ap not (sym answer.0)) (waiting n f k.1) fails,
                )
                | inr left ↦ inr left
              ]

          ends_with : (x' : SkipEnd) → held_behind stays f c.steps ≡ x'
              → SkipsWaiting unread p.stepper.scanner.cursor (is_some p.peeked) f x' mid
              → EndsHeld unread (Ok x) p q c f ⊎ TellsSource {X = Bool} origin (Some (Ok x)) q.stepper.scanner.cursor
          ends_with (Ended n) at there = elim (ended n at there) [
            | inl ends ↦ inl (inl (inr (subst (λ y. EndsHeldBy unread room y (Ok x) p q f) (sym at) ends)))
            | inr left ↦ inl (inr left)
          ]
          ends_with (Failed g n) at there =
              let ends = answer_ends unread p mid there.0.calls there.1 origin was q follows (Ok x) o2 b2 o3 b3 over
              known kept answer source in elim ends [
                | inl ends ↦ inl (inl (inr (subst (λ y. EndsHeldBy unread room y (Ok x) p q f) (sym at) (
                  met_under mid.stepper.scanner.options q.stepper.scanner.options n g (o3 ∙ o2) there.0,
                  ends,
                ))))
                | inr source ↦ inr source
              ]

          by : SkipsWaiting unread p.stepper.scanner.cursor (is_some p.peeked) f (held_behind stays f c.steps) mid
              ⊎ FaultLacksNumber p.stepper.renumbered p.stepper.scanner.options c f
              → EndsHeld unread (Ok x) p q c f ⊎ TellsSource {X = Bool} origin (Some (Ok x)) q.stepper.scanner.cursor
          by (inl there) = ends_with (held_behind stays f c.steps) refl there
          by (inr left) = inl (inr (lacks q same_options same_number left))

  -- ---- where recovery isn't given up, and where it is

  ok_by : (most : ℕ) (x : SkipEnd) (b : Bool) (p q : Parsing I) (f : Fault) → EndsHeldBy unread most x (Ok b) p q f
      → ProceedsHeldBy unread most x (Ok b) p q f
  ok_by most (Ended n) b p q f ends = ends
  ok_by most (Failed e n) b p q f ends = ends

  pub proceeds_ok : (b : Bool) (p q : Parsing I) (c : Calls) (f : Fault) → EndsHeld unread (Ok b) p q c f
      → ProceedsHeld unread (Ok b) p q c f
  proceeds_ok b p q c f (inl (inl sees)) = inl (inl sees)
  proceeds_ok b p q c f (inl (inr ends)) =
      inl (inr (ok_by (held_room p.stepper.scanner.options (stays_by p.between p.peeked) p.peeked)
      (held_behind (stays_by p.between p.peeked) f c.steps) b p q f ends))
  proceeds_ok b p q c f (inr left) = inr left

  module _ (p mid q : Parsing I) (c : Calls) (f : Fault) (e : Refused) (gone : GaveUp q e) (over : mid.over ≡ false)
      (same : q.over ≡ mid.over) (scanner : q.stepper.scanner ≡ mid.stepper.scanner)
      (renumbered : q.stepper.renumbered ≡ mid.stepper.renumbered) where
    err_by : (most : ℕ) (x : SkipEnd) → EndsHeldBy unread most x (Err e) p mid f
        → ProceedsHeldBy unread most x (Err e) p q f
    err_by most (Ended n) ends = (ends.0, tt)
    err_by most (Failed g n) ends = (
      met_under mid.stepper.scanner.options q.stepper.scanner.options n g (ap (λ s. s.options) scanner) ends.0,
      given_up unread p mid q ends.0.calls e gone over same scanner renumbered ends.1,
    )

    pub proceeds_err : EndsHeld unread (Err e) p mid c f → ProceedsHeld unread (Err e) p q c f
    proceeds_err (inl (inl sees)) = absurd (let clash = sees.1 in cc)
    proceeds_err (inl (inr ends)) =
        inl (inr (err_by (held_room p.stepper.scanner.options (stays_by p.between p.peeked) p.peeked)
        (held_behind (stays_by p.between p.peeked) f c.steps) ends))
    proceeds_err (inr left) =
        inr (subst (λ s. FaultLacksNumber q.stepper.renumbered s.options c f) (sym scanner)
        (subst (λ b. FaultLacksNumber b mid.stepper.scanner.options c f) (sym renumbered) left))

  -- ---- where the next event is looked at first

  module _ (origin : I → Origin) (old p q : Parsing I) (r : Result Bool Refused) (c : Calls) (f : Fault)
      (going : c.over ≡ false) (onward : GoesOnward unread old.stepper.scanner.cursor p.stepper.scanner.cursor)
      (same : p.stepper.scanner.options ≡ old.stepper.scanner.options)
      (number : p.stepper.renumbered ≡ old.stepper.renumbered)
      (options : q.stepper.scanner.options ≡ p.stepper.scanner.options)
      (renumbered : q.stepper.renumbered ≡ p.stepper.renumbered)
      (known : (d : Calls) → ReachedByCalls p.stepper.scanner.options d → ParserIn unread p d
      → UnlessMemory r (Proceeds unread r p q d ⊎ TellsSource origin (Some r) q.stepper.scanner.cursor))
      (held : ParserHolds unread p c f
      → UnlessMemory r (ProceedsHeld unread r p q c f ⊎ TellsSource origin (Some r) q.stepper.scanner.cursor)) where
    abbrev Leads : Type 0
    Leads = UnlessMemory r (ProceedsHeldNext unread r old q c f ⊎ TellsSource origin (Some r) q.stepper.scanner.cursor)

    looked_at : (w : Next) → p.peeked ≡ w → ProceedsHeldShown unread w r p q c f
        → ProceedsHeldNext unread r old q c f
    looked_at w is shown = inl (
      p,
      onward,
      same,
      number,
      subst (λ (w : Next). ProceedsHeldShown unread w r p q c f) (sym is) shown,
    )

    abbrev LastNumber : Bool → OptionsData → Bool → ℕ → StepState → Type 0
    LastNumber b o keep count m = RefusesNumber b (keeping_tags keep o) (with_count count m) f

    lacks_next : c.steps.pending ≡ [] → (keep : Bool) (count : ℕ)
        → LastNumber p.stepper.renumbered p.stepper.scanner.options keep count c.steps
        → FaultLacksNumber q.stepper.renumbered q.stepper.scanner.options c f
    lacks_next none keep count left = (
      keep,
      count,
      subst (λ o. LastNumber q.stepper.renumbered o keep count (with_pending [] c.steps)) (sym options)
          (subst (λ b. LastNumber b p.stepper.scanner.options keep count (with_pending [] c.steps)) (sym renumbered)
          (subst (λ es. LastNumber p.stepper.renumbered p.stepper.scanner.options keep count (with_pending es c.steps))
          none left)),
    )

    next_by : (w : Next) → p.peeked ≡ w → LookShowsHeld unread w p c f → Leads
    next_by None is shows = absurd shows
    next_by (Some (Ok x)) is shows =
        unless_map r (sum_map (λ g. looked_at (Some (Ok x)) is (shows, g))) (held shows)
    next_by (Some (Err e)) is shows = elim (shows.3 going) [
      | inl reached ↦ unless_map r (sum_map (λ g. looked_at (Some (Err e)) is (shows.0, shows.1, g)))
          (known (failed_in c.steps f c) reached shows.2)
      | inr left ↦ unless_always r (inl (inr (lacks_next shows.0 left.0 left.1 left.2)))
    ]

    pub held_next : LookShowsHeld unread p.peeked p c f → Leads
    held_next shows = next_by p.peeked refl shows
