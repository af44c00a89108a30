use Rattle.std.proofs.Common.{ap}
use Rattle.std.specs.Str.{chars}
use Rattle.granit_error.specs.OptionsView.{options_of}
use Rattle.granit_parser.specs.Streams.{bare_text_start}
use Rattle.granit_stack.proofs.ReadLemmas.{reads_lent, reads_own}
use Rattle.granit_steps.specs.Steps.{start_from, steps_start}
use Rattle.granit_stack.proofs.include.read_events.Goals as goal

pub returns-in-Borrowed : goal.returns-in-Borrowed
returns-in-Borrowed c =
    let lent = c.in-Borrowed.text in
    reads_lent (options_of c.args.options) c.args.above c.args.text c.replay_of.result c.replay_of.ensures.number _
    lent c.in-Borrowed.is
    c.new_from_str_with_options.ensures.options
    (c.replay_of.ensures.known (steps_start (chars lent.now)) c.new_from_str_with_options.ensures.start
    c.new_from_str_with_options.ensures.renumbered)
    (c.replay_of.ensures.numbers (steps_start (chars lent.now)) c.new_from_str_with_options.ensures.start)

pub returns-in-Ok : goal.returns-in-Ok
returns-in-Ok c =
    let text = chars c.as_str.result.now in
    let start = c.in-Ok.ensures.start text c.characters-characters.ensures.gives in
    reads_own (options_of c.args.options) c.args.above c.args.text c.replay_of-in-Ok.result
    c.replay_of-in-Ok.ensures.number _ c.in-Owned.text
    c.as_str.result.now c.in-Owned.is c.in-Ok.ensures.options (ap chars c.as_str.ensures.value)
    (c.replay_of-in-Ok.ensures.known (start_from (bare_text_start text)) start c.in-Ok.ensures.renumbered)
    (c.replay_of-in-Ok.ensures.numbers (start_from (bare_text_start text)) start)
