use Rattle.granit_alone.proofs.RestTold.{between_rest, calls_rest, dropping_rest}
use Rattle.granit_alone.proofs.rest.the_rest_of_a_text_is_told.Goals as goal

pub returns-clause-calls : goal.returns-clause-calls
returns-clause-calls c = λ o all f before es a d r gives. calls_rest o all f before es a d r gives

pub returns-clause-between : goal.returns-clause-between
returns-clause-between c = λ o stops looked follows a b d all before f is over fault between e r.
    between_rest o stops a b d follows looked is over fault e all before f r between

pub returns-clause-dropping : goal.returns-clause-dropping
returns-clause-dropping c = λ o stops looked follows a b d t all before f is over fault between ended e r.
    dropping_rest o stops a b d follows looked is over fault e all before f r t between ended
