use Rattle.std.proofs.Common.{◌≡◌, ◌⊎◌, inl, inr, false, Result, Some, sym, subst, ◌∙◌}
use Rattle.granit_base.specs.declared.place.Span.{Span}
use Rattle.granit_error.specs.Refused.{Refused}
use Rattle.granit_event.specs.declared.event.Event.{Event}
use Rattle.granit_parser.proofs.LedLemmas.{first_again, first_given}
use Rattle.granit_parser.proofs.parser.Parser.first_event.Goals as goal
use Rattle.granit_parser.proofs.parser.Parser.first_event.Goals.{in-None, in-Some-Ok, in-Some-Err}
use Rattle.granit_parser.proofs.WantLemmas.{answered_none}
use Rattle.granit_parser.specs.Receiving.{FirstCall, UnlessRefused}

nothing_given : ⊥ ⊎ ⊥ → ⊥
nothing_given (inl given) = given
nothing_given (inr given) = given

pub returns-clause-calls : goal.returns-clause-calls
returns-clause-calls g c = λ calls reached is at.
    let unread = g.T.Input.unread in
    let origin = g.T.Input.origin in
    let now = c.args.self.now in
    let new = c.next_event.new.self in
    elim c.match-next_event.branch [
      | in-None w ↦ first_again unread origin now new calls reached is at c.match-next_event.result
          w.in-None.ensures.calls
      | in-Some-Ok w ↦ subst (λ (r : Result (Event × Span) Refused). FirstCall unread origin r new calls)
          (w.in-Some-Ok.field-0-is ∙ sym w.result-is)
          (first_given unread origin now new calls reached is at w.in-Some-Ok.field-0 w.in-Some-Ok.ensures.calls)
      | in-Some-Err w ↦ subst (λ (r : Result (Event × Span) Refused). FirstCall unread origin r new calls)
          (w.in-Some-Err.field-0-is ∙ sym w.result-is)
          (first_given unread origin now new calls reached is at w.in-Some-Err.field-0 w.in-Some-Err.ensures.calls)
    ]

pub returns-clause-answered : goal.returns-clause-answered
returns-clause-answered g c = λ calls reached is at.
    let unread = g.T.Input.unread in
    let origin = g.T.Input.origin in
    let new = c.next_event.new.self in
    elim c.match-next_event.branch [
      | in-None w ↦ absurd (nothing_given (w.in-None.ensures.calls calls reached is at))
      | in-Some-Ok w ↦ subst (λ (r : Result (Event × Span) Refused). UnlessRefused (Some r) (new.answered ≡ false))
          (sym w.result-is) (answered_none w.in-Some-Ok.field-0 w.in-Some-Ok.event c.args.self.now.answered new.answered
          w.in-Some-Ok.field-0-is w.in-Some-Ok.ensures.answered)
      | in-Some-Err w ↦ subst (λ (r : Result (Event × Span) Refused). UnlessRefused (Some r) (new.answered ≡ false))
          (sym w.result-is) tt
    ]
