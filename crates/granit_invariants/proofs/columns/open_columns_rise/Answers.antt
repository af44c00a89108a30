use Rattle.granit_invariants.proofs.ColumnsRise.{columns_rise}
use Rattle.granit_invariants.proofs.columns.open_columns_rise.Goals as goal

pub returns : goal.returns
returns c = columns_rise
