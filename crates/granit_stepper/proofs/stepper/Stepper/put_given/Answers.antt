use Rattle.std.proofs.Common.{◌≡◌, List, [], ◌++◌, ap, ◌∙◌}
use Rattle.granit_event.specs.Events.{plain_events}
use Rattle.granit_lexemes.specs.PlainEvent.{PlainEvent}
use Rattle.granit_machine.specs.Frames.{ParserState}
use Rattle.granit_stepper.specs.Stepping.{Stepping}
use Rattle.granit_stepper.proofs.stepper.Stepper.put_given.Goals as goal

pub returns-clause-same : goal.returns-clause-same
returns-clause-same g c =
    let inside : Stepping g.row.T.Denot = record {
      scanner = c.self.inside.scanner;
      parser = c.self.inside.parser;
      first = c.self.inside.first;
      failed = c.self.inside.failed;
      renumbered = c.self.inside.renumbered;
      ahead = c.self.inside.ahead;
      refusal = c.self.inside.refusal;
    } in
    ap (λ (p : ParserState). record inside { parser = p }) (c.in_ok-put_before.ensures.put
    ∙ ap (λ (es : List PlainEvent). record (inside.parser) { given = es ++ inside.parser.given })
    (ap plain_events (c.from.ensures.0 ∙ c.clear_events.ensures)))
    ∙ c.self.view_is
