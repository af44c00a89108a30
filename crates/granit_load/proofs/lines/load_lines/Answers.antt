use Rattle.std.proofs.Common.{refl, ◌∙◌}
use Rattle.std.specs.Str.{chars}
use Rattle.granit_error.specs.OptionsView.{options_of}
use Rattle.granit_load.proofs.LineLemmas.{lines_of_text}
use Rattle.granit_load.proofs.lines.load_lines.Goals as goal
use Rattle.granit_steps.specs.Steps.{steps_start}

pub returns : goal.returns
returns c = record {
  value =
      let parser = c.new_from_str_with_options-parser in
      lines_of_text _ (options_of c.args.options) (chars c.args.text.now) parser.result.stepper.scanner.options
      parser.ensures.options c.gather_lines.result c.gather_lines.new.parser
      (c.gather_lines.ensures.renumbered ∙ parser.ensures.renumbered)
      (c.gather_lines.ensures.known (steps_start (chars c.args.text.now)) parser.ensures.start) (λ i. refl);
}
