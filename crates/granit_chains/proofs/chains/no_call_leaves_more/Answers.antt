use Rattle.granit_chains.proofs.ChainLaws.{calls_most}
use Rattle.granit_chains.proofs.chains.no_call_leaves_more.Goals as goal

pub returns : goal.returns
returns c = calls_most
