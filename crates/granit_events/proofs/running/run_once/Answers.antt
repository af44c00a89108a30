use Rattle.granit_events.proofs.RunLemmas.{whole_ended, exactly_yields, usage_yields}
use Rattle.granit_events.proofs.running.run_once.Goals as goal

pub returns-in-Ok-respond-clause-exactly : goal.returns-in-Ok-respond-clause-exactly
returns-in-Ok-respond-clause-exactly g c =
    λ bytes wanted told called. exactly_yields _ bytes _ _ _ _ _ wanted
    (whole_ended _ _ _ _ _ _ _ c.in-Ok.ensures.took c.in-Ok-respond.ensures.whole) told called

pub returns-in-Ok-respond-clause-usage : goal.returns-in-Ok-respond-clause-usage
returns-in-Ok-respond-clause-usage g c =
    λ k wrong. usage_yields c.args.words.now _ _ _ _ k _ c.in-Ok-respond.status wrong c.in-Ok.ensures.took
    c.in-Ok-respond.ensures.whole
