use Rattle.granit_comment_room.proofs.RowsFirst.{first_refused, none_given, row_refuses}
use Rattle.granit_comment_room.proofs.room.the_first_comment_too_many_is_refused.Goals as goal

pub returns-clause-refused : goal.returns-clause-refused
returns-clause-refused c = row_refuses

pub returns-clause-causes : goal.returns-clause-causes
returns-clause-causes c = first_refused

pub returns-clause-none : goal.returns-clause-none
returns-clause-none c = none_given
