use Rattle.granit_agreement.proofs.Waitings.{waits_awaits, awaits_waits}
use Rattle.granit_agreement.proofs.runs.a_node_waits_behind_an_indicator.Goals as goal

pub returns-clause-awaits : goal.returns-clause-awaits
returns-clause-awaits c = waits_awaits

pub returns-clause-waits : goal.returns-clause-waits
returns-clause-waits c = awaits_waits
