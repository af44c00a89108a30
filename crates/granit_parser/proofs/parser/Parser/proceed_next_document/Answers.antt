use Rattle.std.proofs.Common.{inl, inr, Bool, Ok, Err, ap, sym, subst, ◌∙◌}
use Rattle.std.specs.Prelude.{IfSome}
use Rattle.granit_parser.proofs.HeldProceedLemmas.{held_next, proceeds_err, proceeds_ok}
use Rattle.granit_parser.proofs.NextLemmas.{from_same, proceeds_next}
use Rattle.granit_parser.proofs.ProceedLemmas.{given_up}
use Rattle.granit_parser.proofs.parser.Parser.proceed_next_document.Goals as goal
use Rattle.granit_parser.specs.Holding.{ParserHolds}
use Rattle.granit_parser.specs.Parsing.{Parsing}
use Rattle.granit_parser.specs.Recovering.{GivesSeen, ProceedsHeld}
use Rattle.granit_receivers.specs.Kept.{GivesAgain}
use Rattle.granit_recovery.specs.Streams.{ReachedByCalls}

pub returns-in-Ok-clause-known : goal.returns-in-Ok-clause-known
returns-in-Ok-clause-known g c = λ calls reached at no_more.
    let unread = g.T.Input.unread in
    let p = c.look_first.new.self in
    let look = c.look_first.ensures in
    from_same unread g.T.Input.origin c.args.self.now p c.proceed.new.self (Ok c.in-Ok.follows)
    (elim no_more [
      | inl calm ↦ look.calm calm
      | inr closed ↦ look.closed calls closed at
    ]) c.in-Ok.ensures.known calls reached at

pub returns-in-Err-clause-known : goal.returns-in-Err-clause-known
returns-in-Err-clause-known g c = λ calls reached at no_more.
    let unread = g.T.Input.unread in
    let p = c.look_first.new.self in
    let look = c.look_first.ensures in
    from_same unread g.T.Input.origin c.args.self.now p c.give_up.new.self (Err c.in-Err.error)
    (elim no_more [
      | inl calm ↦ look.calm calm
      | inr closed ↦ look.closed calls closed at
    ])
    (λ calls reached at other. elim (c.in-Err.ensures.known calls reached at other) [
      | inl ends ↦ inl (given_up unread p c.proceed.new.self c.give_up.new.self calls
          c.in-Err.error c.give_up.ensures.gone c.in-Err.ensures.refused c.give_up.ensures.over
          c.give_up.ensures.scanner c.give_up.ensures.renumbered ends)
      | inr source ↦ inr (rw c.give_up.ensures.scanner source)
    ]) calls reached at

pub returns-in-Ok-clause-next : goal.returns-in-Ok-clause-next
returns-in-Ok-clause-next g c = λ calls reached at answered opened.
    let look = c.look_first.ensures in
    proceeds_next g.T.Input.unread g.T.Input.origin c.args.self.now c.look_first.new.self c.proceed.new.self
    (Ok c.in-Ok.follows) look.onward look.options look.renumbered c.in-Ok.ensures.options c.in-Ok.ensures.renumbered
    c.in-Ok.ensures.known
    (c.in-Ok.ensures.seen (look.going ∙ at.over ∙ opened.over)) calls
    (subst (λ o. ReachedByCalls o calls) (sym look.options) reached) opened (look.next calls reached at answered opened)

pub returns-in-Err-clause-next : goal.returns-in-Err-clause-next
returns-in-Err-clause-next g c = λ calls reached at answered opened.
    let unread = g.T.Input.unread in
    let look = c.look_first.ensures in
    let up = c.give_up.ensures in
    proceeds_next unread g.T.Input.origin c.args.self.now c.look_first.new.self c.give_up.new.self
    (Err c.in-Err.error) look.onward look.options look.renumbered
    (ap (λ (s : _). s.options) up.scanner ∙ c.in-Err.ensures.options) (up.renumbered ∙ c.in-Err.ensures.renumbered)
    (λ calls reached at other. elim (c.in-Err.ensures.known calls reached at other) [
      | inl ends ↦ inl (given_up unread c.look_first.new.self c.proceed.new.self c.give_up.new.self calls
          c.in-Err.error up.gone c.in-Err.ensures.refused up.over up.scanner up.renumbered ends)
      | inr source ↦ inr (rw up.scanner source)
    ])
    (c.in-Err.ensures.seen (look.going ∙ at.over ∙ opened.over)) calls
    (subst (λ o. ReachedByCalls o calls) (sym look.options) reached) opened (look.next calls reached at answered opened)

pub returns-in-Ok-clause-again : goal.returns-in-Ok-clause-again
returns-in-Ok-clause-again g c = λ over failed none.
    let same = c.look_first.ensures.failed failed in
    subst (λ (p : Parsing _). IfSome p.given (λ e. GivesAgain e (Ok c.in-Ok.follows))) same
    (c.in-Ok.ensures.again (ap (λ (p : Parsing _). p.over) same ∙ over)
    (ap (λ (p : Parsing _). p.stepper.failed) same ∙ failed) (ap (λ (p : Parsing _). p.stepper.refusal) same ∙ none))

pub returns-in-Err-clause-again : goal.returns-in-Err-clause-again
returns-in-Err-clause-again g c = λ over failed none.
    let same = c.look_first.ensures.failed failed in
    subst (λ (p : Parsing _). IfSome p.given (λ e. GivesAgain {X = Bool} e (Err c.in-Err.error))) same
    (c.in-Err.ensures.again (ap (λ (p : Parsing _). p.over) same ∙ over)
    (ap (λ (p : Parsing _). p.stepper.failed) same ∙ failed) (ap (λ (p : Parsing _). p.stepper.refusal) same ∙ none))

pub returns-in-Ok-clause-seen : goal.returns-in-Ok-clause-seen
returns-in-Ok-clause-seen g c = λ over failed none given.
    let same = c.look_first.ensures.failed failed in
    subst (λ (p : Parsing _). GivesSeen p.peeked (Ok c.in-Ok.follows)) same
    (c.in-Ok.ensures.seen (ap (λ (p : Parsing _). p.over) same ∙ over)
    (ap (λ (p : Parsing _). p.stepper.failed) same ∙ failed) (ap (λ (p : Parsing _). p.stepper.refusal) same ∙ none)
    (ap (λ (p : Parsing _). p.given) same ∙ given))

pub returns-in-Err-clause-seen : goal.returns-in-Err-clause-seen
returns-in-Err-clause-seen g c = λ over failed none given.
    let same = c.look_first.ensures.failed failed in
    subst (λ (p : Parsing _). GivesSeen p.peeked (Err c.in-Err.error)) same
    (c.in-Err.ensures.seen (ap (λ (p : Parsing _). p.over) same ∙ over)
    (ap (λ (p : Parsing _). p.stepper.failed) same ∙ failed) (ap (λ (p : Parsing _). p.stepper.refusal) same ∙ none)
    (ap (λ (p : Parsing _). p.given) same ∙ given))

pub returns-in-Ok-clause-over : goal.returns-in-Ok-clause-over
returns-in-Ok-clause-over g c = λ over.
    let same = c.look_first.ensures.over over in
    let x = c.in-Ok.ensures.over (ap (λ (p : Parsing _). p.over) same ∙ over) in
    (x.0, x.1 ∙ same)

pub returns-in-Err-clause-over : goal.returns-in-Err-clause-over
returns-in-Err-clause-over g c = λ over.
    let same = c.look_first.ensures.over over in
    let x = c.in-Err.ensures.over (ap (λ (p : Parsing _). p.over) same ∙ over) in
    absurd (let no = x.0 in cc)

pub returns-in-Ok-clause-onward : goal.returns-in-Ok-clause-onward
returns-in-Ok-clause-onward g c = λ start came. c.in-Ok.ensures.onward start (c.look_first.ensures.onward start came)

pub returns-in-Err-clause-onward : goal.returns-in-Err-clause-onward
returns-in-Err-clause-onward g c =
    rw c.give_up.ensures.scanner (λ start came. c.in-Err.ensures.onward start (c.look_first.ensures.onward start came))

-- ---- where a refusal waits

pub returns-in-Ok-clause-held : goal.returns-in-Ok-clause-held
returns-in-Ok-clause-held g c = λ calls f holds calm going.
    let unread = g.T.Input.unread in
    let new = c.proceed.new.self in
    let same = c.look_first.ensures.calm calm in
    let there = subst (λ (p : Parsing _). ParserHolds unread p calls f) (sym same) holds in
    elim (c.in-Ok.ensures.held calls f there going) [
      | inl ends ↦ inl (subst (λ (p : Parsing _). ProceedsHeld unread (Ok c.in-Ok.follows) p new calls f) same
          (proceeds_ok unread c.in-Ok.follows c.look_first.new.self new calls f ends))
      | inr source ↦ inr source
    ]

pub returns-in-Err-clause-held : goal.returns-in-Err-clause-held
returns-in-Err-clause-held g c = λ calls f holds calm going other.
    let unread = g.T.Input.unread in
    let up = c.give_up.ensures in
    let same = c.look_first.ensures.calm calm in
    let there = subst (λ (p : Parsing _). ParserHolds unread p calls f) (sym same) holds in
    elim (c.in-Err.ensures.held calls f there going other) [
      | inl ends ↦ inl (subst (λ (p : Parsing _). ProceedsHeld unread (Err c.in-Err.error) p c.give_up.new.self calls f)
          same (proceeds_err unread c.look_first.new.self c.proceed.new.self c.give_up.new.self calls f c.in-Err.error
          up.gone c.in-Err.ensures.refused up.over up.scanner up.renumbered ends))
      | inr source ↦ inr (rw up.scanner source)
    ]

pub returns-in-Ok-clause-held_next : goal.returns-in-Ok-clause-held_next
returns-in-Ok-clause-held_next g c = λ calls f holds answered going.
    let unread = g.T.Input.unread in
    let look = c.look_first.ensures in
    let new = c.proceed.new.self in
    held_next unread g.T.Input.origin c.args.self.now c.look_first.new.self new (Ok c.in-Ok.follows) calls f going
    look.onward look.options look.renumbered c.in-Ok.ensures.options c.in-Ok.ensures.renumbered c.in-Ok.ensures.known
    (λ holds. elim (c.in-Ok.ensures.held calls f holds going) [
      | inl ends ↦ inl (proceeds_ok unread c.in-Ok.follows c.look_first.new.self new calls f ends)
      | inr source ↦ inr source
    ])
    (look.holds calls f holds answered going)

pub returns-in-Err-clause-held_next : goal.returns-in-Err-clause-held_next
returns-in-Err-clause-held_next g c = λ calls f holds answered going.
    let unread = g.T.Input.unread in
    let look = c.look_first.ensures in
    let up = c.give_up.ensures in
    held_next unread g.T.Input.origin c.args.self.now c.look_first.new.self c.give_up.new.self (Err c.in-Err.error)
    calls f going look.onward look.options look.renumbered
    (ap (λ (s : _). s.options) up.scanner ∙ c.in-Err.ensures.options) (up.renumbered ∙ c.in-Err.ensures.renumbered)
    (λ calls reached at other. elim (c.in-Err.ensures.known calls reached at other) [
      | inl ends ↦ inl (given_up unread c.look_first.new.self c.proceed.new.self c.give_up.new.self calls
          c.in-Err.error up.gone c.in-Err.ensures.refused up.over up.scanner up.renumbered ends)
      | inr source ↦ inr (rw up.scanner source)
    ])
    (λ holds other. elim (c.in-Err.ensures.held calls f holds going other) [
      | inl ends ↦ inl (proceeds_err unread c.look_first.new.self c.proceed.new.self c.give_up.new.self calls f
          c.in-Err.error up.gone c.in-Err.ensures.refused up.over up.scanner up.renumbered ends)
      | inr source ↦ inr (rw up.scanner source)
    ])
    (look.holds calls f holds answered going)
