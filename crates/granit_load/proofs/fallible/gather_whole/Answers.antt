use Rattle.std.proofs.Common.{inl, inr, sym, ◌∙◌}
use Rattle.granit_event.specs.Events.{plain_events}
use Rattle.granit_load.proofs.GatherLemmas.{never_numbered}
use Rattle.granit_load.proofs.StreamLemmas.{ended_whole, refused_whole}
use Rattle.granit_load.proofs.fallible.gather_whole.Goals as goal

pub returns-in-None : goal.returns-in-None
returns-in-None g c = λ m f at ends fresh never.
    let goes = c.in-Ok.ensures.goes in (
      sym (c.in-None.ensures.told f (goes.ends_with f ends) (goes.handed_out ∙ fresh)),
      c.in-Ok.ensures.known m at,
    )

pub returns : goal.returns
returns g c = λ m f at ends fresh never.
    let goes = c.in-Ok.ensures.goes in
    ended_whole g.T.Input.unread g.T.Input.origin plain_events c.args.parser.now.stepper.scanner.cursor
    c.end_error.new.self.stepper.scanner.cursor c.args.parser.now.stepper.scanner.options m f c.in-Some.error
    c.placed-in-Some.result c.is_lost-in-Some.result c.placed-in-Some.ensures c.is_lost-in-Some.ensures
    (λ start before. c.in-Some.ensures.onward start (c.in-Ok.ensures.onward start before))
    (sym (c.in-Some.ensures.told f (goes.ends_with f ends) (goes.handed_out ∙ fresh))) c.in-Some.ensures.place
    (c.in-Some.ensures.offset ∙ goes.tells_offset)

pub returns-in-Err : goal.returns-in-Err
returns-in-Err g c = λ m f at ends fresh never.
    refused_whole g.T.Input.unread g.T.Input.origin plain_events c.args.parser.now.stepper.scanner.cursor
    c.gather.new.parser.stepper.scanner.cursor c.args.parser.now.stepper.scanner.options m f c.in-Err.error
    c.placed.result c.is_lost.result c.placed.ensures c.is_lost.ensures
    c.in-Err.ensures.onward
    (never_numbered c.gather.new.parser.stepper.renumbered (c.gather.ensures.renumbered ∙ never)
    (c.in-Err.ensures.known m at)) c.in-Err.ensures.failed
