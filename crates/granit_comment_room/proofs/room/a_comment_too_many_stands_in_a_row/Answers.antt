use Rattle.granit_comment_room.proofs.RowRuns.{rows_refused}
use Rattle.granit_comment_room.proofs.room.a_comment_too_many_stands_in_a_row.Goals as goal

pub returns : goal.returns
returns c = rows_refused
