use Rattle.std.proofs.Common.{◌≡◌, List, [], ◌∷◌, ◌++◌, ap, ◌∙◌}
use Rattle.granit_base.specs.declared.place.Span.{Span}
use Rattle.granit_event.specs.Events.{plain_event, plain_events}
use Rattle.granit_event.specs.declared.event.Event.{Event}
use Rattle.granit_lexemes.specs.PlainEvent.{PlainEvent}
use Rattle.granit_machine.specs.Frames.{ParserState}
use Rattle.granit_stepper.specs.Stepping.{Stepping}
use Rattle.granit_stepper.proofs.stepper.Stepper.put_event.Goals as goal

pub returns-clause-put : goal.returns-clause-put
returns-clause-put g c =
    let inside : Stepping g.row.T.Denot = record {
      scanner = c.self.inside.scanner;
      parser = c.self.inside.parser;
      first = c.self.inside.first;
      failed = c.self.inside.failed;
      renumbered = c.self.inside.renumbered;
      ahead = c.self.inside.ahead;
      refusal = c.self.inside.refusal;
    } in
    let is : plain_events c.push_back.new.self.items ≡ plain_event c.args.event ∷ [] = ap plain_events
    (c.in_ok-push_back.ensures.items
    ∙ ap (λ (xs : List (Event × Span)). xs ++ c.args.event ∷ []) c.new-events.ensures.items) in
    ap (λ (p : ParserState). record inside { parser = p }) (c.in_ok-put_before.ensures.put
    ∙ ap (λ (es : List PlainEvent). record (inside.parser) { given = es ++ inside.parser.given }) is)
    ∙ ap (λ (s : Stepping g.row.T.Denot). record s {
      parser = record (s.parser) { given = plain_event c.args.event ∷ s.parser.given };
    }) c.self.view_is
