use Rattle.std.proofs.Common.{◌≡◌, inl, inr, Bool, true, false, not, ◌&&◌, is_some, refl, ap, sym, ◌∙◌}
use Rattle.std.proofs.lemmas.Result.{err_from_is_err_and}
use Rattle.granit_parser.proofs.HeldProceedLemmas.{answer_held, refused_held}
use Rattle.granit_parser.proofs.HeldRecoverLemmas.{waits_going}
use Rattle.granit_parser.proofs.NextLemmas.{noted_by}
use Rattle.granit_parser.proofs.ProceedLemmas.{recovers_part}
use Rattle.granit_parser.proofs.ProceedLemmas.{again_ends, answer_ends, failed_part, gives_again, is_end, not_end}
use Rattle.granit_parser.proofs.ProceedLemmas.{not_given_up, over_ends, refused_ends}
use Rattle.granit_parser.proofs.RecoverLemmas.{any_stops}
use Rattle.granit_parser.proofs.parser.Parser.proceed.Goals as goal
use Rattle.granit_parser.specs.Parsing.{Parsing}
use Rattle.granit_parser.specs.Recovering as spec
use Rattle.granit_seen.specs.Seeing as seeing

pub returns-then-self-clause-known : goal.returns-then-self-clause-known
returns-then-self-clause-known g c = λ calls reached at.
    let p = c.args.self.now in
    let ended : calls.over ≡ true = sym at.over ∙ sym (ap (λ (x : Parsing _). x.over) c.self.view_is)
    ∙ c.if-self.true in
    inl (over_ends g.T.Input.unread p calls at ended (c.nothing_changes_behind_the_end.ensures p.stepper.scanner.options
    (any_stops calls) (is_some p.peeked) calls (at.ended ended) ended))

pub returns-then-cannot_recover-clause-known : goal.returns-then-cannot_recover-clause-known
returns-then-cannot_recover-clause-known g c = λ calls reached at other.
    let p = c.args.self.now in
    inl (again_ends g.T.Input.unread p c.refused.new.self calls c.refused.result at
    (sym at.over ∙ sym (ap (λ (x : Parsing _). x.over) c.self.view_is) ∙ c.if-self.false)
    (sym c.cannot_recover.ensures ∙ c.if-cannot_recover.true) c.refused.ensures.given other)

pub returns-then-cannot_recover-clause-again : goal.returns-then-cannot_recover-clause-again
returns-then-cannot_recover-clause-again g c = λ over failed none.
    gives_again Bool c.args.self.now.given c.refused.result c.refused.ensures.given

pub returns-then-cannot_recover-clause-seen : goal.returns-then-cannot_recover-clause-seen
returns-then-cannot_recover-clause-seen g c = λ over failed none given. c.refused.ensures.seen given

pub returns-in_err-follows-clause-known : goal.returns-in_err-follows-clause-known
returns-in_err-follows-clause-known g c = λ calls reached at.
    let p = c.args.self.now in
    let over : calls.over ≡ false = sym at.over ∙ sym (ap (λ (x : Parsing _). x.over) c.self.view_is)
    ∙ c.if-self.false in
    let going : (p.stepper.failed && not (is_some p.stepper.refusal)) ≡ false =
    sym c.cannot_recover.ensures ∙ c.if-cannot_recover.false in
    let e = c.in_err-follows.field-0.0 in
    let same = err_from_is_err_and c.from_residual-in_err-follows.result c.from_residual-in_err-follows.ensures.1 in
    rw (same.1, same.2) (λ other. inl (refused_ends g.T.Input.unread p c.skip.new.self calls
    (c.in_ok-skip.ensures.known calls reached at over (not_given_up g.T.Input.unread p calls at over going)
    (not_end (spec.seen_in p.peeked) (ap seeing.ends_stream (sym c.seen.ensures) ∙ sym c.ends_stream.ensures
    ∙ c.if-ends_stream.false)))
    c.follows.new.self e c.in_err-follows.ensures.options c.in_err-follows.ensures.renumbered
    c.in_err-follows.ensures.known other))

pub returns-clause-known : goal.returns-clause-known
returns-clause-known g c = λ calls reached at.
    let p = c.args.self.now in
    let open_there : p.over ≡ false = sym (ap (λ (x : Parsing _). x.over) c.self.view_is) ∙ c.if-self.false in
    let over : calls.over ≡ false = sym at.over ∙ open_there in
    let going : (p.stepper.failed && not (is_some p.stepper.refusal)) ≡ false =
    sym c.cannot_recover.ensures ∙ c.if-cannot_recover.false in
    answer_ends g.T.Input.unread p c.skip.new.self calls
    (c.in_ok-skip.ensures.known calls reached at over (not_given_up g.T.Input.unread p calls at over going)
    (not_end (spec.seen_in p.peeked) (ap seeing.ends_stream (sym c.seen.ensures) ∙ sym c.ends_stream.ensures
    ∙ c.if-ends_stream.false)))
    g.T.Input.origin c.follows.new.self c.answer.new.self c.in_ok-follows.follows c.answer.result
    c.in_ok-follows.ensures.options c.in_ok-follows.ensures.renumbered c.answer.ensures.options
    c.answer.ensures.renumbered
    (c.answer.ensures.going ∙ c.in_ok-follows.ensures.going ∙ c.in_ok-skip.ensures.going ∙ open_there)
    c.in_ok-follows.ensures.known c.answer.ensures.known c.answer.ensures.answer c.answer.ensures.source

pub returns-then-self-clause-answered : goal.returns-then-self-clause-answered
returns-then-self-clause-answered g c =
    inr (inl (sym (ap (λ (x : Parsing _). x.over) c.self.view_is) ∙ c.if-self.true))

pub returns-then-ends_stream-clause-answered : goal.returns-then-ends_stream-clause-answered
returns-then-ends_stream-clause-answered g c = inr (inr (is_end (spec.seen_in c.args.self.now.peeked)
    (ap seeing.ends_stream (sym c.seen.ensures) ∙ sym c.ends_stream.ensures ∙ c.if-ends_stream.true)))

pub returns-clause-answered : goal.returns-clause-answered
returns-clause-answered g c =
    noted_by c.answer.new.self c.in_ok-follows.follows c.answer.result c.answer.ensures.answer c.answer.ensures.answered

-- ---- where a refusal waits

pub returns-then-self-clause-held : goal.returns-then-self-clause-held
returns-then-self-clause-held g c = λ calls f holds going.
    absurd (let no : true ≡ false = sym c.if-self.true ∙ ap (λ (x : Parsing _). x.over) c.self.view_is
    ∙ holds.over ∙ going in cc)

pub returns-then-cannot_recover-clause-held : goal.returns-then-cannot_recover-clause-held
returns-then-cannot_recover-clause-held g c = λ calls f holds going.
    let p = c.args.self.now in
    let failed = failed_part p.stepper.failed (is_some p.stepper.refusal)
    (sym c.cannot_recover.ensures ∙ c.if-cannot_recover.true) in
    absurd (let no : true ≡ false = sym failed.0
    ∙ waits_going g.T.Input.unread p.peeked p.stepper calls.steps f holds.waits in cc)

pub returns-then-ends_stream-clause-held : goal.returns-then-ends_stream-clause-held
returns-then-ends_stream-clause-held g c = λ calls f holds going.
    inl (inl (inl (
      is_end (spec.seen_in c.args.self.now.peeked)
          (ap seeing.ends_stream (sym c.seen.ensures) ∙ sym c.ends_stream.ensures ∙ c.if-ends_stream.true),
      refl,
      refl,
    )))

pub returns-in_err-follows-clause-held : goal.returns-in_err-follows-clause-held
returns-in_err-follows-clause-held g c = λ calls f holds going.
    let unread = g.T.Input.unread in
    let p = c.args.self.now in
    let e = c.in_err-follows.field-0.0 in
    let end = not_end (spec.seen_in p.peeked) (ap seeing.ends_stream (sym c.seen.ensures) ∙ sym c.ends_stream.ensures
    ∙ c.if-ends_stream.false) in
    let skipped = c.in_ok-skip.ensures in
    let same = err_from_is_err_and c.from_residual-in_err-follows.result c.from_residual-in_err-follows.ensures.1 in
    rw (same.1, same.2) (λ other. inl (refused_held unread p c.skip.new.self calls f holds going skipped.options
    skipped.renumbered (skipped.looked (waits_going unread p.peeked p.stepper calls.steps f holds.waits))
    (skipped.held calls f holds going end) c.follows.new.self e c.in_err-follows.ensures.options
    c.in_err-follows.ensures.renumbered end c.in_err-follows.ensures.known c.in_err-follows.ensures.waits other))

pub returns-clause-held : goal.returns-clause-held
returns-clause-held g c = λ calls f holds going.
    let unread = g.T.Input.unread in
    let p = c.args.self.now in
    let open_there : p.over ≡ false = sym (ap (λ (x : Parsing _). x.over) c.self.view_is) ∙ c.if-self.false in
    let end = not_end (spec.seen_in p.peeked) (ap seeing.ends_stream (sym c.seen.ensures) ∙ sym c.ends_stream.ensures
    ∙ c.if-ends_stream.false) in
    let skipped = c.in_ok-skip.ensures in
    answer_held unread p c.skip.new.self calls f holds going skipped.options skipped.renumbered
    (skipped.looked (waits_going unread p.peeked p.stepper calls.steps f holds.waits))
    (skipped.held calls f holds going end) g.T.Input.origin c.follows.new.self c.answer.new.self
    c.in_ok-follows.follows c.in_ok-follows.ensures.options c.in_ok-follows.ensures.renumbered
    c.answer.ensures.options c.answer.ensures.renumbered
    (c.answer.ensures.going ∙ c.in_ok-follows.ensures.going ∙ c.in_ok-skip.ensures.going ∙ open_there) end
    (λ o. c.a_look_tells_where_recovery_asks.ensures.here o) (λ o. c.a_look_tells_where_recovery_asks.ensures.looked o)
    c.in_ok-follows.ensures.known c.in_ok-follows.ensures.waits c.answer.result c.answer.ensures.known
    c.answer.ensures.waits c.answer.ensures.answer c.answer.ensures.source

pub returns-in_err-follows-clause-options : goal.returns-in_err-follows-clause-options
returns-in_err-follows-clause-options g c = c.in_err-follows.ensures.options ∙ c.in_ok-skip.ensures.options

pub returns-in_err-follows-clause-renumbered : goal.returns-in_err-follows-clause-renumbered
returns-in_err-follows-clause-renumbered g c = c.in_err-follows.ensures.renumbered ∙ c.in_ok-skip.ensures.renumbered

pub returns-in_err-follows-clause-onward : goal.returns-in_err-follows-clause-onward
returns-in_err-follows-clause-onward g c = λ start before.
    c.in_err-follows.ensures.moves.2 start (c.in_ok-skip.ensures.moves.2 start before)

pub returns-clause-options : goal.returns-clause-options
returns-clause-options g c = c.answer.ensures.options ∙ c.in_ok-follows.ensures.options ∙ c.in_ok-skip.ensures.options

pub returns-clause-renumbered : goal.returns-clause-renumbered
returns-clause-renumbered g c = c.answer.ensures.renumbered ∙ c.in_ok-follows.ensures.renumbered
    ∙ c.in_ok-skip.ensures.renumbered

pub returns-clause-onward : goal.returns-clause-onward
returns-clause-onward g c = λ start before. c.answer.ensures.onward start
    (c.in_ok-follows.ensures.moves.2 start (c.in_ok-skip.ensures.moves.2 start before))

pub returns-in_err-skip-clause-options : goal.returns-in_err-skip-clause-options
returns-in_err-skip-clause-options g c = c.in_err-skip.ensures.options

pub returns-in_err-skip-clause-renumbered : goal.returns-in_err-skip-clause-renumbered
returns-in_err-skip-clause-renumbered g c = c.in_err-skip.ensures.renumbered

pub returns-in_err-skip-clause-onward : goal.returns-in_err-skip-clause-onward
returns-in_err-skip-clause-onward g c = c.in_err-skip.ensures.moves.2

pub returns-then-cannot_recover-clause-over : goal.returns-then-cannot_recover-clause-over
returns-then-cannot_recover-clause-over g c = λ over.
    absurd (let no : true ≡ false = sym over ∙ sym (ap (λ (x : Parsing _). x.over) c.self.view_is)
    ∙ c.if-self.false in cc)

pub returns-then-ends_stream-clause-over : goal.returns-then-ends_stream-clause-over
returns-then-ends_stream-clause-over g c = λ over.
    absurd (let no : true ≡ false = sym over ∙ sym (ap (λ (x : Parsing _). x.over) c.self.view_is)
    ∙ c.if-self.false in cc)

pub returns-in_err-skip-clause-over : goal.returns-in_err-skip-clause-over
returns-in_err-skip-clause-over g c = λ over.
    absurd (let no : true ≡ false = sym over ∙ sym (ap (λ (x : Parsing _). x.over) c.self.view_is)
    ∙ c.if-self.false in cc)

pub returns-in_err-follows-clause-over : goal.returns-in_err-follows-clause-over
returns-in_err-follows-clause-over g c = λ over.
    absurd (let no : true ≡ false = sym over ∙ sym (ap (λ (x : Parsing _). x.over) c.self.view_is)
    ∙ c.if-self.false in cc)

pub returns-clause-over : goal.returns-clause-over
returns-clause-over g c = λ over.
    absurd (let no : true ≡ false = sym over ∙ sym (ap (λ (x : Parsing _). x.over) c.self.view_is)
    ∙ c.if-self.false in cc)

pub returns-then-ends_stream-clause-again : goal.returns-then-ends_stream-clause-again
returns-then-ends_stream-clause-again g c = λ over failed none.
    absurd (recovers_part c.args.self.now.stepper.failed c.args.self.now.stepper.refusal
    (sym c.cannot_recover.ensures ∙ c.if-cannot_recover.false) failed none)

pub returns-then-ends_stream-clause-seen : goal.returns-then-ends_stream-clause-seen
returns-then-ends_stream-clause-seen g c = λ over failed none given.
    absurd (recovers_part c.args.self.now.stepper.failed c.args.self.now.stepper.refusal
    (sym c.cannot_recover.ensures ∙ c.if-cannot_recover.false) failed none)

pub returns-in_err-skip-clause-again : goal.returns-in_err-skip-clause-again
returns-in_err-skip-clause-again g c = λ over failed none.
    absurd (recovers_part c.args.self.now.stepper.failed c.args.self.now.stepper.refusal
    (sym c.cannot_recover.ensures ∙ c.if-cannot_recover.false) failed none)

pub returns-in_err-skip-clause-seen : goal.returns-in_err-skip-clause-seen
returns-in_err-skip-clause-seen g c = λ over failed none given.
    absurd (recovers_part c.args.self.now.stepper.failed c.args.self.now.stepper.refusal
    (sym c.cannot_recover.ensures ∙ c.if-cannot_recover.false) failed none)

pub returns-in_err-follows-clause-again : goal.returns-in_err-follows-clause-again
returns-in_err-follows-clause-again g c = λ over failed none.
    absurd (recovers_part c.args.self.now.stepper.failed c.args.self.now.stepper.refusal
    (sym c.cannot_recover.ensures ∙ c.if-cannot_recover.false) failed none)

pub returns-in_err-follows-clause-seen : goal.returns-in_err-follows-clause-seen
returns-in_err-follows-clause-seen g c = λ over failed none given.
    absurd (recovers_part c.args.self.now.stepper.failed c.args.self.now.stepper.refusal
    (sym c.cannot_recover.ensures ∙ c.if-cannot_recover.false) failed none)

pub returns-clause-again : goal.returns-clause-again
returns-clause-again g c = λ over failed none.
    absurd (recovers_part c.args.self.now.stepper.failed c.args.self.now.stepper.refusal
    (sym c.cannot_recover.ensures ∙ c.if-cannot_recover.false) failed none)

pub returns-clause-seen : goal.returns-clause-seen
returns-clause-seen g c = λ over failed none given.
    absurd (recovers_part c.args.self.now.stepper.failed c.args.self.now.stepper.refusal
    (sym c.cannot_recover.ensures ∙ c.if-cannot_recover.false) failed none)
