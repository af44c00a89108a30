use Rattle.granit_grammar.proofs.Leading.{leads_to, one_open, no_stream}
use Rattle.granit_grammar.proofs.trees.no_stream_goes_on.Goals as goal

pub returns-clause-leads : goal.returns-clause-leads
returns-clause-leads c = leads_to

pub returns-clause-one_place : goal.returns-clause-one_place
returns-clause-one_place c = one_open

pub returns-clause-none : goal.returns-clause-none
returns-clause-none c = no_stream
