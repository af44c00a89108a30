use Rattle.granit_agreement.proofs.OpenRuns.{fed_left}
use Rattle.granit_agreement.proofs.runs.what_is_given_is_before_the_open_place.Goals as goal

pub returns : goal.returns
returns c = λ o m fs gs p fair e. let l = fed_left o m fs gs p fair e in (l.place, l.before)
