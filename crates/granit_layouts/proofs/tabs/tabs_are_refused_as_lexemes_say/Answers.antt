use Rattle.granit_layouts.proofs.TabRows.{block_row, key_row}
use Rattle.granit_layouts.proofs.tabs.tabs_are_refused_as_lexemes_say.Goals as goal

pub returns-clause-block : goal.returns-clause-block
returns-clause-block c = block_row

pub returns-clause-key : goal.returns-clause-key
returns-clause-key c = key_row
