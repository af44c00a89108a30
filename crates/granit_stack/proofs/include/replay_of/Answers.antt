use Rattle.std.proofs.Common.{◌≡◌, ◌∙◌, ap, ap₂, sym}
use Rattle.granit_replay.specs.Replaying.{Replay, raised_by_all}
use Rattle.granit_stack.proofs.ReadLemmas.{fails_all, leaves_alike, unwrapped}
use Rattle.granit_stack.specs.Including.{numbered}
use Rattle.granit_stack.proofs.include.replay_of.Goals as goal

pub returns-clause-known : goal.returns-clause-known
returns-clause-known g c = λ m at fresh.
    let n = numbered c.args.above m in
    fails_all g.T.Input.origin _ _ c.args.above n c.in-Err.error c.gather.new.parser.stepper
    c.number_from.ensures.options c.requires.whole
    (λ none. c.gather.ensures.renumbered ∙ c.number_from.ensures.renumbered none ∙ fresh)
    (c.in-Err.ensures.known n (c.number_from.ensures.known m at))

pub returns-in-Ok-clause-number : goal.returns-in-Ok-clause-number
returns-in-Ok-clause-number g c =
    ap (λ (p : Replay). p.anchor_offset) c.new.ensures ∙ c.number_behind-number.ensures
    ∙ ap₂ raised_by_all (c.unwrap_or.ensures ∙ unwrapped c.args.above)
    (c.as_slice.ensures ∙ sym c.into_vec.ensures ∙ sym (ap (λ (p : Replay). p.events) c.new.ensures))

pub returns-in-Ok-clause-numbers : goal.returns-in-Ok-clause-numbers
returns-in-Ok-clause-numbers g c = λ m at.
    let n = numbered c.args.above m in
    leaves_alike _ _ n _ _ c.number_from.ensures.options
    (sym c.into_vec.ensures ∙ sym (ap (λ (p : Replay). p.events) c.new.ensures))
    (c.in-Ok.ensures.numbers n (c.number_from.ensures.known m at))
