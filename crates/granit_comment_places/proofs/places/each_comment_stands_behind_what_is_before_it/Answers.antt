use Rattle.granit_comment_places.proofs.CommentsStand.{comment_stands, tail_stands}
use Rattle.granit_comment_places.proofs.places.each_comment_stands_behind_what_is_before_it.Goals as goal

pub returns-clause-lines : goal.returns-clause-lines
returns-clause-lines c = comment_stands

pub returns-clause-tails : goal.returns-clause-tails
returns-clause-tails c = tail_stands
