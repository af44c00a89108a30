use Rattle.granit_alone.proofs.AloneLaws.{gives_alone, rest_alone}
use Rattle.granit_alone.proofs.AnewLaws.{rest_anew}
use Rattle.granit_alone.proofs.behind.calls_give_what_their_text_tells.Goals as goal

pub returns-clause-all : goal.returns-clause-all
returns-clause-all c = gives_alone

pub returns-clause-rest : goal.returns-clause-rest
returns-clause-rest c = λ o x shift c d before es tells goes gives. rest_alone o x shift c d before es tells goes gives

pub returns-clause-anew : goal.returns-clause-anew
returns-clause-anew c = λ o x kept shift all f a d before es told rest goes gives.
    rest_anew o x kept shift all f told a d before es rest goes gives
