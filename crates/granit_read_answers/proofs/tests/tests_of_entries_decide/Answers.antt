use Rattle.granit_reading.proofs.Deciding.{begin_decided, innermost_decided, far_decided, stale_decided, tabbed_decided}
use Rattle.granit_reading.proofs.Deciding.{nul_decided, touches_decided, outside_block_decided}
use Rattle.granit_read_answers.proofs.tests.tests_of_entries_decide.Goals as goal

pub returns-clause-begins : goal.returns-clause-begins
returns-clause-begins c = begin_decided

pub returns-clause-column : goal.returns-clause-column
returns-clause-column c = innermost_decided

pub returns-clause-far : goal.returns-clause-far
returns-clause-far c = far_decided

pub returns-clause-stale : goal.returns-clause-stale
returns-clause-stale c = stale_decided

pub returns-clause-tabbed : goal.returns-clause-tabbed
returns-clause-tabbed c = tabbed_decided

pub returns-clause-nul : goal.returns-clause-nul
returns-clause-nul c = nul_decided

pub returns-clause-touches : goal.returns-clause-touches
returns-clause-touches c = touches_decided

pub returns-clause-left : goal.returns-clause-left
returns-clause-left c = outside_block_decided
