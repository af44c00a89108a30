use Rattle.granit_calls.proofs.NoteLaws.{note_here, note_looked}
use Rattle.granit_calls.proofs.asking.a_comment_takes_room_where_recovery_asks.Goals as goal

pub returns-clause-here : goal.returns-clause-here
returns-clause-here c = note_here

pub returns-clause-looked : goal.returns-clause-looked
returns-clause-looked c = note_looked
