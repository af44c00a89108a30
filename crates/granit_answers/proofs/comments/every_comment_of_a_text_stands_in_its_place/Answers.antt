use Rattle.granit_answers.proofs.CommentsInText.{line_stands, tail_in_text}
use Rattle.granit_answers.proofs.comments.every_comment_of_a_text_stands_in_its_place.Goals as goal

pub returns-clause-lines : goal.returns-clause-lines
returns-clause-lines c = line_stands

pub returns-clause-tails : goal.returns-clause-tails
returns-clause-tails c = tail_in_text
