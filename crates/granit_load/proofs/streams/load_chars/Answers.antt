use Rattle.std.proofs.Common.{refl, ◌∙◌}
use Rattle.granit_error.specs.OptionsView.{options_of}
use Rattle.granit_event.specs.Events.{plain_events}
use Rattle.granit_load.proofs.StreamLemmas.{bare_given_of}
use Rattle.granit_load.proofs.streams.load_chars.Goals as goal
use Rattle.granit_parser.specs.Streams.{bare_text_start}
use Rattle.granit_steps.specs.Steps.{start_from}

pub returns : goal.returns
returns g c = λ x known.
    let parser = c.in_ok-parser.parser in
    bare_given_of _ plain_events (options_of c.args.options) parser.stepper.scanner.options x
    c.in_ok-parser.ensures.options c.gather.result c.gather.new.parser.stepper
    (c.gather.ensures.renumbered ∙ c.in_ok-parser.ensures.renumbered)
    (c.gather.ensures.known (start_from (bare_text_start x)) (c.in_ok-parser.ensures.start x known)) (λ i. refl)
