use Rattle.std.proofs.Common.{ap, is_some, refl, ◌∙◌}
use Rattle.granit_buffered.specs.Fallible.{characters_of, first_error}
use Rattle.granit_buffered.specs.FallibleLaws.{comes_to_its_error, error_ends}
use Rattle.granit_error.specs.OptionsView.{options_of}
use Rattle.granit_event.specs.Events.{plain_events}
use Rattle.granit_load.proofs.StreamLemmas.{items_of}
use Rattle.granit_load.proofs.fallible.load_fallible.Goals as goal
use Rattle.granit_parser.proofs.PlaceLemmas.{begins}
use Rattle.granit_parser.specs.Streams.{bare_text_start}
use Rattle.granit_steps.specs.Steps.{start_from}

pub returns : goal.returns
returns g c = λ items known.
    let parser = c.in_ok-parser.parser in
    let ends = c.in_ok-parser.ensures.ends items known in
    let came = begins _ parser (bare_text_start (characters_of items)) c.in_ok-parser.ensures.unseen
    (c.in_ok-parser.ensures.start items known) in
    items_of _ _ plain_events (options_of c.args.options) parser.stepper.scanner.options items
    c.in_ok-parser.ensures.options c.gather_whole.result parser.stepper.scanner.cursor
    c.gather_whole.new.parser.stepper.scanner.cursor
    (c.gather_whole.ensures (start_from (bare_text_start (characters_of items))) (first_error items)
    (c.in_ok-parser.ensures.start items known) ends c.in_ok-parser.ensures.fresh
    c.in_ok-parser.ensures.renumbered) came
    (λ k goes failed.
    let feed = c.gather_whole.new.parser.stepper.scanner.cursor.input.feed in
    let kept = goes.ends_with (first_error items) ends in
    let ended = error_ends feed.progress (ap is_some failed) in
    comes_to_its_error g.T.Iterator.next_gives g.T.Iterator.remaining feed.progress feed.iterator kept.0
    (first_error items) ended kept.1 ∙ failed) refl
