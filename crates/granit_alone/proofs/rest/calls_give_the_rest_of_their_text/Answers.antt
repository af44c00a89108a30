use Rattle.granit_alone.proofs.RestTold.{gives_text}
use Rattle.granit_alone.proofs.rest.calls_give_the_rest_of_their_text.Goals as goal

pub returns : goal.returns
returns c = λ o x before es a d r goes gives. gives_text o x before es a d r goes gives
