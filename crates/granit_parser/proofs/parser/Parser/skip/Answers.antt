use Rattle.std.proofs.Common.{◌≡◌, ◌⊎◌, inl, Bool, true, false, not, ◌&&◌, is_some, None, ap, refl, sym, subst}
use Rattle.std.proofs.Common.{◌∙◌, le_refl}
use Rattle.std.specs.Prelude.{OnOk}
use Rattle.granit_cursor.specs.Reading.{Moves}
use Rattle.granit_input.proofs.OriginLemmas.{goes_nowhere}
use Rattle.granit_parser.proofs.DropLemmas.{on_ok}
use Rattle.granit_parser.proofs.DroppedLemmas.{document_dropped, end_dropped, fault_dropped, none_dropped}
use Rattle.granit_parser.proofs.HeldRecoverLemmas as held
use Rattle.granit_parser.proofs.HeldRecoverLemmas.{end_dropped as end_goes, looked_ok, waits_going, waits_there}
use Rattle.granit_parser.proofs.parser.Parser.skip.Goals as goal
use Rattle.granit_parser.specs.Holding.{FaultLacksNumber, held_behind, stays_seen}
use Rattle.granit_parser.specs.Parsing.{Parsing}
use Rattle.granit_seen.specs.Seeing as seeing
use Rattle.granit_parser.specs.Recovering.{IsOpen, SkipsWaiting, stays_by}
use Rattle.granit_restart.specs.Skipping.{with_pending}
use Rattle.granit_restart.specs.Turned.{Turned, turned_with}
use Rattle.granit_stepper.specs.Holding.{HoldsFault, SkipsHeld, held_skip}
use Rattle.granit_stepper.specs.Stepping.{Stepping}

pub returns-then-has_failed-clause-known : goal.returns-then-has_failed-clause-known
returns-then-has_failed-clause-known g c = λ calls reached at over refusal end.
    let p = c.args.self.now in
    let o = p.stepper.scanner.options in
    let same = c.self.view_is ∙ c.forget_refusal.ensures in
    fault_dropped g.T.Input.unread p calls reached at over refusal (c.a_look_tells_where_recovery_asks.ensures.here o)
    (c.calls_go_by_turns.ensures o) c.self.inside.stepper (ap (λ (x : Parsing _). x.stepper) same) (record {
      stepper = c.skip_fault.new.self;
      peeked = c.self.inside.peeked;
      given = c.self.inside.given;
      starved = c.self.inside.starved;
      between = c.self.inside.between;
      over = c.self.inside.over;
      answered = c.self.inside.answered;
    })
    c.skip_fault.ensures.options (ap (λ (x : Parsing _). x.peeked) same) c.skip_fault.result c.skip_fault.ensures.first
    (sym c.has_failed.ensures ∙ c.if-has_failed.true) c.skip_fault.ensures.known

pub returns-then-stays-clause-known : goal.returns-then-stays-clause-known
returns-then-stays-clause-known g c = λ calls reached at over refusal end.
    let p = c.args.self.now in
    let o = p.stepper.scanner.options in
    none_dropped g.T.Input.unread p calls reached at over refusal (c.a_look_tells_where_recovery_asks.ensures.here o)
    (c.calls_go_by_turns.ensures o) (c.a_comment_takes_room_where_recovery_asks.ensures.here o)
    (sym c.has_failed.ensures ∙ c.if-has_failed.false)
    (ap (λ s. p.between && not (seeing.seen_starts_document s)) (sym c.seen-seen.ensures)
    ∙ sym c.stays.ensures ∙ c.if-stays.true) end

pub returns-then-ends-clause-known : goal.returns-then-ends-clause-known
returns-then-ends-clause-known g c = λ calls reached at over refusal end.
    let p = c.args.self.now in
    let o = p.stepper.scanner.options in
    end_dropped g.T.Input.unread p calls reached at over refusal (c.a_look_tells_where_recovery_asks.ensures.here o)
    (c.calls_go_by_turns.ensures o) c.forget_seen.new.self c.forget_seen.ensures
    (sym c.has_failed.ensures ∙ c.if-has_failed.false)
    (ap (λ s. p.between && not (seeing.seen_starts_document s)) (sym c.seen-seen.ensures)
    ∙ sym c.stays.ensures ∙ c.if-stays.false)
    (ap seeing.seen_ends_document (sym c.seen-seen.ensures) ∙ sym c.ends.ensures ∙ c.if-ends.true)

pub returns-clause-known : goal.returns-clause-known
returns-clause-known g c = λ calls reached at over refusal end.
    let p = c.args.self.now in
    let o = p.stepper.scanner.options in
    let same = c.self-2.view_is ∙ c.forget_seen.ensures in
    document_dropped g.T.Input.unread p calls reached at over refusal
    (c.a_look_tells_where_recovery_asks.ensures.here o) (c.calls_go_by_turns.ensures o) c.self-2.inside.stepper
    (ap (λ (x : Parsing _). x.stepper) same) (record {
      stepper = c.skip_document.new.self;
      peeked = c.self-2.inside.peeked;
      given = c.self-2.inside.given;
      starved = c.self-2.inside.starved;
      between = c.self-2.inside.between;
      over = c.self-2.inside.over;
      answered = c.self-2.inside.answered;
    }) c.skip_document.ensures.options (ap (λ (x : Parsing _). x.peeked) same)
    c.skip_document.result c.skip_document.ensures.first (c.a_look_tells_where_recovery_asks.ensures.looked o)
    (sym c.has_failed.ensures ∙ c.if-has_failed.false)
    (ap (λ s. p.between && not (seeing.seen_starts_document s)) (sym c.seen-seen.ensures)
    ∙ sym c.stays.ensures ∙ c.if-stays.false)
    (ap seeing.seen_ends_document (sym c.seen-seen.ensures) ∙ sym c.ends.ensures ∙ c.if-ends.false) end
    c.skip_document.ensures.known

pub returns-then-has_failed-clause-held : goal.returns-then-has_failed-clause-held
returns-then-has_failed-clause-held g c = λ calls f holds going end.
    let p = c.args.self.now in
    absurd (let no : true ≡ false = sym c.if-has_failed.true ∙ c.has_failed.ensures
    ∙ waits_going g.T.Input.unread p.peeked p.stepper calls.steps f holds.waits in cc)

pub returns-then-has_failed-clause-looked : goal.returns-then-has_failed-clause-looked
returns-then-has_failed-clause-looked g c = λ going.
    absurd (let no : true ≡ false = sym c.if-has_failed.true ∙ c.has_failed.ensures ∙ going in cc)

pub returns-then-stays-clause-held : goal.returns-then-stays-clause-held
returns-then-stays-clause-held g c = λ calls f holds going end.
    let unread = g.T.Input.unread in
    let p = c.args.self.now in
    let stays : stays_by p.between p.peeked ≡ true =
    ap (λ s. p.between && not (seeing.seen_starts_document s)) (sym c.seen-seen.ensures)
    ∙ sym c.stays.ensures ∙ c.if-stays.true in
    inl (subst (λ (b : Bool). SkipsWaiting unread p.stepper.scanner.cursor (is_some p.peeked) f
    (held_behind b f calls.steps) p) (sym stays) holds.waits)

pub returns-then-stays-clause-looked : goal.returns-then-stays-clause-looked
returns-then-stays-clause-looked g c = λ going.
    let p = c.args.self.now in
    let stays : stays_by p.between p.peeked ≡ true =
    ap (λ s. p.between && not (seeing.seen_starts_document s)) (sym c.seen-seen.ensures)
    ∙ sym c.stays.ensures ∙ c.if-stays.true in
    ap (λ (b : Bool). stays_seen b p.peeked) (sym stays)

pub returns-then-ends-clause-held : goal.returns-then-ends-clause-held
returns-then-ends-clause-held g c = λ calls f holds going end.
    let unread = g.T.Input.unread in
    let p = c.args.self.now in
    let q = c.forget_seen.new.self in
    let stays : stays_by p.between p.peeked ≡ false =
    ap (λ s. p.between && not (seeing.seen_starts_document s)) (sym c.seen-seen.ensures)
    ∙ sym c.stays.ensures ∙ c.if-stays.false in
    inl (subst (λ (b : Bool). SkipsWaiting unread p.stepper.scanner.cursor (is_some p.peeked) f
    (held_behind b f calls.steps) q) (sym stays)
    (end_goes unread p.stepper.scanner.cursor (is_some p.peeked) p.peeked p.stepper q calls.steps f
    (ap (λ (x : Parsing _). x.stepper) c.forget_seen.ensures)
    (ap (λ (x : Parsing _). x.peeked) c.forget_seen.ensures)
    (ap seeing.seen_ends_document (sym c.seen-seen.ensures) ∙ sym c.ends.ensures ∙ c.if-ends.true) holds.waits))

pub returns-then-ends-clause-looked : goal.returns-then-ends-clause-looked
returns-then-ends-clause-looked g c = λ going.
    let p = c.args.self.now in
    let stays : stays_by p.between p.peeked ≡ false =
    ap (λ s. p.between && not (seeing.seen_starts_document s)) (sym c.seen-seen.ensures)
    ∙ sym c.stays.ensures ∙ c.if-stays.false in
    ap (λ (x : Parsing _). x.peeked) c.forget_seen.ensures ∙ ap (λ (b : Bool). stays_seen b p.peeked) (sym stays)

pub returns-clause-held : goal.returns-clause-held
returns-clause-held g c = λ calls f holds going end.
    let unread = g.T.Input.unread in
    let p = c.args.self.now in
    let o = p.stepper.scanner.options in
    let same = c.self-2.view_is ∙ c.forget_seen.ensures in
    let stepper : c.self-2.inside.stepper ≡ p.stepper = ap (λ (x : Parsing _). x.stepper) same in
    let none : c.self-2.inside.peeked ≡ None = ap (λ (x : Parsing _). x.peeked) same in
    let q : Parsing _ = record {
      stepper = c.skip_document.new.self;
      peeked = c.self-2.inside.peeked;
      given = c.self-2.inside.given;
      starved = c.self-2.inside.starved;
      between = c.self-2.inside.between;
      over = c.self-2.inside.over;
      answered = c.self-2.inside.answered;
    } in
    let stays : stays_by p.between p.peeked ≡ false =
    ap (λ s. p.between && not (seeing.seen_starts_document s)) (sym c.seen-seen.ensures)
    ∙ sym c.stays.ensures ∙ c.if-stays.false in
    let open_calls : IsOpen calls = record { over = going; fault = holds.fault; refusal = holds.refusal } in
    let there = waits_there unread p.peeked p.stepper calls.steps f
    (ap seeing.seen_ends_document (sym c.seen-seen.ensures) ∙ sym c.ends.ensures ∙ c.if-ends.false) end holds.waits in
    let turned = held.held_turned p.stepper.renumbered o calls f open_calls holds.fails c.calls_go_by_turns.ensures in
    let options : q.stepper.scanner.options ≡ o =
    c.skip_document.ensures.options ∙ ap (λ (s : Stepping _). s.scanner.options) stepper in
    let skips = subst (λ (s : Stepping _). Turned s.scanner.options (with_pending there.waiting calls.steps)
    → OnOk c.skip_document.result (SkipsHeld unread s.scanner.options s.scanner.cursor f
    (held_skip f (with_pending there.waiting calls.steps)) q.stepper)) stepper
    (c.skip_document.ensures.held (with_pending there.waiting calls.steps) f
    (subst (λ (s : Stepping _). HoldsFault unread s (with_pending there.waiting calls.steps) f) (sym stepper)
    there.holds)) (turned_with there.waiting turned) in
    on_ok c.skip_document.result skips c.skip_document.ensures.first
    (SkipsWaiting unread p.stepper.scanner.cursor (is_some p.peeked) f
    (held_behind (stays_by p.between p.peeked) f calls.steps) q
    ⊎ FaultLacksNumber p.stepper.renumbered o calls f)
    (λ goes first. subst (λ (b : Bool). SkipsWaiting unread p.stepper.scanner.cursor (is_some p.peeked) f
    (held_behind b f calls.steps) q ⊎ FaultLacksNumber p.stepper.renumbered o calls f) (sym stays)
    (held.document_dropped p.stepper.renumbered o calls f open_calls holds.fails unread p.stepper.scanner.cursor
    (is_some p.peeked) q options none (c.a_look_tells_where_recovery_asks.ensures.here o)
    (c.calls_go_by_turns.ensures o)
    (subst (λ x. SkipsHeld unread o p.stepper.scanner.cursor f x q.stepper) there.alike goes) first))

pub returns-clause-looked : goal.returns-clause-looked
returns-clause-looked g c = λ going.
    let p = c.args.self.now in
    let same = c.self-2.view_is ∙ c.forget_seen.ensures in
    let stays : stays_by p.between p.peeked ≡ false =
    ap (λ s. p.between && not (seeing.seen_starts_document s)) (sym c.seen-seen.ensures)
    ∙ sym c.stays.ensures ∙ c.if-stays.false in
    looked_ok c.skip_document.result (ap (λ (x : Parsing _). x.peeked) same
    ∙ ap (λ (b : Bool). stays_seen b p.peeked) (sym stays))

pub returns-then-has_failed-clause-memory : goal.returns-then-has_failed-clause-memory
returns-then-has_failed-clause-memory g c = c.skip_fault.ensures.memory

pub returns-then-has_failed-clause-going : goal.returns-then-has_failed-clause-going
returns-then-has_failed-clause-going g c = ap (λ (x : Parsing _). x.over) (c.self.view_is ∙ c.forget_refusal.ensures)

pub returns-then-has_failed-clause-options : goal.returns-then-has_failed-clause-options
returns-then-has_failed-clause-options g c = c.skip_fault.ensures.options
    ∙ ap (λ (x : Parsing _). x.stepper.scanner.options) (c.self.view_is ∙ c.forget_refusal.ensures)

pub returns-then-has_failed-clause-renumbered : goal.returns-then-has_failed-clause-renumbered
returns-then-has_failed-clause-renumbered g c = c.skip_fault.ensures.renumbered
    ∙ ap (λ (x : Parsing _). x.stepper.renumbered) (c.self.view_is ∙ c.forget_refusal.ensures)

pub returns-then-has_failed-clause-moves : goal.returns-then-has_failed-clause-moves
returns-then-has_failed-clause-moves g c = subst (λ (x : Parsing _). Moves g.T.Input.unread g.T.Input.left
    g.T.Input.origin x.stepper.scanner.cursor c.skip_fault.new.self.scanner.cursor)
    (c.self.view_is ∙ c.forget_refusal.ensures) c.skip_fault.ensures.moves

pub returns-clause-memory : goal.returns-clause-memory
returns-clause-memory g c = c.skip_document.ensures.memory

pub returns-clause-going : goal.returns-clause-going
returns-clause-going g c = ap (λ (x : Parsing _). x.over) (c.self-2.view_is ∙ c.forget_seen.ensures)

pub returns-clause-options : goal.returns-clause-options
returns-clause-options g c = c.skip_document.ensures.options
    ∙ ap (λ (x : Parsing _). x.stepper.scanner.options) (c.self-2.view_is ∙ c.forget_seen.ensures)

pub returns-clause-renumbered : goal.returns-clause-renumbered
returns-clause-renumbered g c = c.skip_document.ensures.renumbered
    ∙ ap (λ (x : Parsing _). x.stepper.renumbered) (c.self-2.view_is ∙ c.forget_seen.ensures)

pub returns-clause-moves : goal.returns-clause-moves
returns-clause-moves g c = subst (λ (x : Parsing _). Moves g.T.Input.unread g.T.Input.left g.T.Input.origin
    x.stepper.scanner.cursor c.skip_document.new.self.scanner.cursor) (c.self-2.view_is ∙ c.forget_seen.ensures)
    c.skip_document.ensures.moves

pub returns-then-stays-clause-going : goal.returns-then-stays-clause-going
returns-then-stays-clause-going g c = refl

pub returns-then-stays-clause-options : goal.returns-then-stays-clause-options
returns-then-stays-clause-options g c = refl

pub returns-then-stays-clause-renumbered : goal.returns-then-stays-clause-renumbered
returns-then-stays-clause-renumbered g c = refl

pub returns-then-stays-clause-moves : goal.returns-then-stays-clause-moves
returns-then-stays-clause-moves g c = (le_refl _, goes_nowhere _, λ start before. before)

pub returns-then-ends-clause-going : goal.returns-then-ends-clause-going
returns-then-ends-clause-going g c = ap (λ (x : Parsing _). x.over) c.forget_seen.ensures

pub returns-then-ends-clause-options : goal.returns-then-ends-clause-options
returns-then-ends-clause-options g c = ap (λ (x : Parsing _). x.stepper.scanner.options) c.forget_seen.ensures

pub returns-then-ends-clause-renumbered : goal.returns-then-ends-clause-renumbered
returns-then-ends-clause-renumbered g c = ap (λ (x : Parsing _). x.stepper.renumbered) c.forget_seen.ensures

pub returns-then-ends-clause-moves : goal.returns-then-ends-clause-moves
returns-then-ends-clause-moves g c = rw c.forget_seen.ensures (le_refl _, goes_nowhere _, λ start before. before)
