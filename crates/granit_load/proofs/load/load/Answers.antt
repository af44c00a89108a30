use Rattle.std.proofs.Common.{refl, ◌∙◌}
use Rattle.std.specs.Str.{chars}
use Rattle.granit_error.specs.OptionsView.{options_of}
use Rattle.granit_event.specs.Events.{plain_events}
use Rattle.granit_load.proofs.LoadLemmas.{given_of}
use Rattle.granit_load.proofs.load.load.Goals as goal
use Rattle.granit_steps.specs.Steps.{steps_start}

pub returns : goal.returns
returns c =
    let parser = c.new_from_str_with_options-parser in
    given_of (options_of c.args.options) (chars c.args.text.now) _ plain_events parser.result.stepper.scanner.options
    parser.ensures.options c.gather.result c.gather.new.parser.stepper
    (c.gather.ensures.renumbered ∙ parser.ensures.renumbered)
    (c.gather.ensures.known (steps_start (chars c.args.text.now)) parser.ensures.start) (λ i. refl)
