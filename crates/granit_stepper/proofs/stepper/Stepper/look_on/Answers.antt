use Rattle.std.proofs.Common.{sym, ap, ◌∙◌}
use Rattle.granit_restart.specs.Header.{is_directives}
use Rattle.granit_stepper.proofs.HoldingLemmas.{held_again, never_turned}
use Rattle.granit_stepper.proofs.LookLemmas.{looks_ended, looks_held}
use Rattle.granit_stepper.proofs.PassLemmas as pass
use Rattle.granit_stepper.specs.Stepping.{Stepping}
use Rattle.granit_stepper.proofs.stepper.Stepper.look_on.Goals as goal

pub returns-in-Ok-false-clause-known : goal.returns-in-Ok-false-clause-known
returns-in-Ok-false-clause-known g c = λ m stands told calm.
    let s = c.args.self.now in
    let stage = ap (λ (t : Stepping g.row.T.Denot). is_directives t.parser.stage) (sym c.self.view_is)
    ∙ ap is_directives c.stage.ensures ∙ sym c.is_directives.ensures ∙ c.if-is_directives.false in
    looks_ended g.T.Input.unread s.scanner.options s c.advance_ahead.new.self m stands stage c.in-Ok-false.field-0
    c.in-Ok-false.field-0-test (λ at. c.in-Ok-false.ensures.known m at told) c.in-Ok-false.ensures.ahead

pub returns-in-Err-clause-known : goal.returns-in-Err-clause-known
returns-in-Err-clause-known g c = λ m stands told calm.
    let unread = g.T.Input.unread in
    let s = c.args.self.now in
    let mid = c.advance_ahead.new.self in
    let keeps = c.in-Err.ensures.keeps in
    let fails = pass.turn_fails unread s mid m stands c.in-Err.error
    (λ at. c.in-Err.ensures.refused m at told calm) c.in-Err.ensures.ahead in
    looks_held unread s.scanner.options c.follows_by.new.self m
    (ap (λ (t : Stepping g.row.T.Denot). t.scanner.options) c.follows_by.ensures.rest ∙ keeps.options)
    c.follows_by.result
    (c.follows_by.ensures.known m (keeps.failed ∙ pass.ahead_going unread s m stands) fails)

pub returns-in-Ok-false-clause-held : goal.returns-in-Ok-false-clause-held
returns-in-Ok-false-clause-held g c = λ m e h.
    absurd (never_turned c.args.self.now c.advance_ahead.new.self e h.ahead c.in-Ok-false.field-0
    c.in-Ok-false.ensures.ahead)

pub returns-in-Err-clause-held : goal.returns-in-Err-clause-held
returns-in-Err-clause-held g c = λ m e h.
    held_again g.T.Input.unread c.args.self.now m e h c.advance_ahead.new.self c.follows_by.new.self c.in-Err.error
    c.follows_by.result c.in-Err.ensures.ahead c.follows_by.ensures.rest c.follows_by.ensures.held

pub returns-then-is_directives-2-clause-held : goal.returns-then-is_directives-2-clause-held
returns-then-is_directives-2-clause-held g c = λ m e h.
    absurd (never_turned c.args.self.now c.advance_ahead.new.self e h.ahead c.in-Ok-true.field-0
    c.in-Ok-true.ensures.ahead)

pub returns-else-is_directives-2-clause-held : goal.returns-else-is_directives-2-clause-held
returns-else-is_directives-2-clause-held g c = λ m e h.
    absurd (never_turned c.args.self.now c.advance_ahead.new.self e h.ahead c.in-Ok-true.field-0
    c.in-Ok-true.ensures.ahead)
