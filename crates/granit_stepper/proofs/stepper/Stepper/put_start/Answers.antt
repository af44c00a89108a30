use Rattle.std.proofs.Common.{◌≡◌, ◌∷◌, None, refl, sym, ap, subst, ◌∙◌}
use Rattle.granit_event.specs.Events.{plain_event}
use Rattle.granit_event.specs.declared.event.Event.TheVariants as events
use Rattle.granit_lexemes.specs.PlainEvent.{PlainEvent, StreamStart, event_on}
use Rattle.granit_stepper.proofs.GatherLemmas.{start_put}
use Rattle.granit_stepper.specs.Stepping.{Stepping, StandsIn}
use Rattle.granit_stepper.proofs.stepper.Stepper.put_start.Goals as goal

pub returns-clause-known : goal.returns-clause-known
returns-clause-known g c = λ m at first.
    let s = c.args.self.now in
    let told : plain_event (events.StreamStart, c.empty.result) ≡ event_on StreamStart c.args.start =
    rw c.empty.ensures refl in
    subst (λ (t : Stepping g.row.T.Denot). StandsIn g.T.Input.unread (record t { first = None }) m)
    (sym c.self.view_is) (start_put g.T.Input.unread s c.put_event.new.self c.args.start m first
    (c.in_ok-put_event.ensures.put ∙ ap (λ (e : PlainEvent). record s {
      parser = record (s.parser) { given = e ∷ s.parser.given };
    }) told) at)
