use Rattle.std.proofs.Common.{◌⊎◌, Bool, Err, refl, sym, ap, subst, ◌∙◌}
use Rattle.std.specs.Prelude.{drop}
use Rattle.std.specs.Option.{option_map}
use Rattle.granit_error.specs.Refused.{Refused}
use Rattle.granit_event.specs.Events.{plain_event}
use Rattle.granit_refused.specs.Answered.{why}
use Rattle.granit_lexemes.specs.Outcome.{Fails}
use Rattle.granit_machine.specs.Frames.{ParserState}
use Rattle.granit_stepper.specs.Numbers.{RefusesNumber}
use Rattle.granit_stepper.specs.Refusals.{RefusedIn, StandsRefused}
use Rattle.granit_stepper.specs.Stepping.{Stepping}
use Rattle.granit_stepper.proofs.AheadLemmas.{error_other, gives_error, gives_event}
use Rattle.granit_stepper.proofs.HoldingLemmas.{held_error, held_event, held_same}
use Rattle.granit_stepper.proofs.RefusalLemmas.{refused_failed}
use Rattle.granit_stepper.proofs.StateLemmas.{gives_next, next_fails}
use Rattle.granit_stepper.proofs.StayLemmas.{pops_none, pops_waiting, refuses_none}
use Rattle.granit_stepper.proofs.stepper.Stepper.later_event.Goals as goal
use Rattle.granit_steps.specs.Steps.{settle}

-- without the first event that waits
abbrev popped : {I : Type 0} → Stepping I → ParserState
popped s = record (s.parser) { given = drop 1 s.parser.given }

pub returns-in-Ok-clause-known : goal.returns-in-Ok-clause-known
returns-in-Ok-clause-known g c = λ m at told.
    let s = c.settle.new.self in
    let x = c.put_waiting.ensures.first in
    rw (x.1, c.put_waiting.ensures.rest) (gives_next g.T.Input.unread c.in-Ok.field-0 c.args.self.now.scanner.options
    s m (popped s) x.0 (c.in-Ok.ensures.keeps.first ∙ told) (c.in-Ok.ensures.known m at told) x.2 refl)

pub returns-in-Err-clause-known : goal.returns-in-Err-clause-known
returns-in-Err-clause-known g c = λ m at told.
    let o = c.args.self.now.scanner.options in
    let e = why c.settle.new.fault c.in-Err.refused in
    let failed = subst (λ (b : Bool). Fails e (settle o m) ⊎ RefusesNumber b o m e) c.in-Err.ensures.keeps.renumbered
    (c.in-Err.ensures.known m at told) in
    rw c.put_refusal.ensures.told (next_fails g.T.Input.unread c.args.self.now.renumbered o m e failed)

pub returns-in-Err-clause-refused : goal.returns-in-Err-clause-refused
returns-in-Err-clause-refused g c = rw c.put_refusal.ensures.told (λ m at told turned other.
    let unread = g.T.Input.unread in
    let e = why c.settle.new.fault c.in-Err.refused in
    let n = c.in-Err.ensures.refused m at told turned other in (
      n.0,
      n.1,
      subst (λ (s : Stepping g.row.T.Denot). RefusedIn unread s n.0 e) (sym (c.put_refusal.ensures.kept other))
          (refused_failed unread c.settle.new.self n.0 e n.2),
    ))

pub returns-in-Ok-clause-ahead : goal.returns-in-Ok-clause-ahead
returns-in-Ok-clause-ahead g c = λ m h.
    let s = c.settle.new.self in
    let x = c.put_waiting.ensures.first in
    rw (x.1, c.put_waiting.ensures.rest) (gives_event g.T.Input.unread c.args.self.now m h s c.in-Ok.field-0 x.0
    (popped s) c.in-Ok.ensures.ahead x.2 refl)

pub returns-in-Err-clause-ahead : goal.returns-in-Err-clause-ahead
returns-in-Err-clause-ahead g c = rw c.put_refusal.ensures.told (λ m h.
    let unread = g.T.Input.unread in
    let e = why c.settle.new.fault c.in-Err.refused in
    let given = c.in-Err.ensures.ahead in
    let other = error_other unread c.args.self.now m h c.settle.new.self e given in
    let is = gives_error unread c.args.self.now m h c.settle.new.self e given in (
      is.0,
      subst (λ (s : Stepping g.row.T.Denot). RefusedIn unread s m e) (sym (c.put_refusal.ensures.kept other))
          is.1,
    ))

pub returns-in-Ok-clause-held : goal.returns-in-Ok-clause-held
returns-in-Ok-clause-held g c = λ m e h.
    let s = c.settle.new.self in
    let x = c.put_waiting.ensures.first in
    rw (x.1, c.put_waiting.ensures.rest) (held_event g.T.Input.unread c.args.self.now m e h s c.in-Ok.field-0 x.0
    (popped s) c.in-Ok.ensures.ahead x.2 refl)

pub returns-in-Err-clause-held : goal.returns-in-Err-clause-held
returns-in-Err-clause-held g c = rw c.put_refusal.ensures.told (λ m e h.
    let unread = g.T.Input.unread in
    let f = why c.settle.new.fault c.in-Err.refused in
    let given = c.in-Err.ensures.ahead in
    let same = held_same unread c.args.self.now m e h c.settle.new.self f given in
    let is = held_error unread c.args.self.now m e h c.settle.new.self f given in (
      is.0,
      same,
      subst (λ (s : Stepping g.row.T.Denot). StandsRefused unread s m e)
          (sym (c.put_refusal.ensures.kept (λ memory. h.other (sym (ap (λ (f : Refused). f.kind) same) ∙ memory))))
          is.1,
    ))

pub returns-in-Ok-clause-waiting : goal.returns-in-Ok-clause-waiting
returns-in-Ok-clause-waiting g c = λ told.
    let s = c.settle.new.self in
    let x = c.put_waiting.ensures.first in
    rw (x.1, c.put_waiting.ensures.rest) (pops_waiting c.args.self.now s x.0 (popped s) x.2 refl c.in-Ok.field-0
    c.in-Ok.ensures.waiting told)

pub returns-in-Err-clause-waiting : goal.returns-in-Err-clause-waiting
returns-in-Err-clause-waiting g c = rw c.put_refusal.ensures.told (λ told.
    let e = why c.settle.new.fault c.in-Err.refused in
    refuses_none c.args.self.now c.settle.new.self e (option_map plain_event) (Err e) c.put_refusal.new.self
    c.in-Err.ensures.waiting told)

pub returns-in-Ok-clause-ended : goal.returns-in-Ok-clause-ended
returns-in-Ok-clause-ended g c =
    let s = c.settle.new.self in
    let x = c.put_waiting.ensures.first in
    rw (x.1, c.put_waiting.ensures.rest) (pops_none c.args.self.now s x.0 (popped s) x.2 refl c.in-Ok.field-0
    c.in-Ok.ensures.ended)

pub returns-in-Err-clause-ended : goal.returns-in-Err-clause-ended
returns-in-Err-clause-ended g c = λ at. absurd (let clash = (c.in-Err.ensures.ended at.over).0 in cc)

pub returns-in-Ok-clause-at_once : goal.returns-in-Ok-clause-at_once
returns-in-Ok-clause-at_once g c = λ given e free.
    absurd (let clash = c.in-Ok.ensures.at_once given e free in cc)

pub returns-in-Err-clause-at_once : goal.returns-in-Err-clause-at_once
returns-in-Err-clause-at_once g c = λ given e free.
    rw c.put_refusal.ensures.told (let is = c.in-Err.ensures.at_once given e free in cc)
