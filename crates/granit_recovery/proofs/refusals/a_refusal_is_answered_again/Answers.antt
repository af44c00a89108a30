use Rattle.granit_recovery.proofs.RecoveryLaws.{refused_again}
use Rattle.granit_recovery.proofs.refusals.a_refusal_is_answered_again.Goals as goal

pub returns : goal.returns
returns c = refused_again
