use Rattle.granit_reading.proofs.Deciding.{tab_told, tab_leads, key_tab_decided, block_tab_decided, goes_decided}
use Rattle.granit_reading.proofs.Deciding.{prefix_decided}
use Rattle.granit_reading.proofs.Gapping.{gap_decided}
use Rattle.granit_read_answers.proofs.tests.tests_of_gaps_decide.Goals as goal

pub returns-clause-told : goal.returns-clause-told
returns-clause-told c = tab_told

pub returns-clause-leads : goal.returns-clause-leads
returns-clause-leads c = tab_leads

pub returns-clause-key : goal.returns-clause-key
returns-clause-key c = key_tab_decided

pub returns-clause-block : goal.returns-clause-block
returns-clause-block c = block_tab_decided

pub returns-clause-cut : goal.returns-clause-cut
returns-clause-cut c = goes_decided

pub returns-clause-prefix : goal.returns-clause-prefix
returns-clause-prefix c = prefix_decided

pub returns-clause-stops : goal.returns-clause-stops
returns-clause-stops c = gap_decided
