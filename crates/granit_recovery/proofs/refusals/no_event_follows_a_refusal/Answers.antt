use Rattle.granit_recovery.proofs.RecoveryLaws.{refused_none}
use Rattle.granit_recovery.proofs.refusals.no_event_follows_a_refusal.Goals as goal

pub returns : goal.returns
returns c = refused_none
