use Rattle.granit_places.proofs.ColumnsWhole.{columns_said}
use Rattle.granit_places.proofs.columns.kept_columns_are_open.Goals as goal

pub returns : goal.returns
returns c = columns_said
