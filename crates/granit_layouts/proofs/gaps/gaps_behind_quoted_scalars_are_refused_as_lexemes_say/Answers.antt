use Rattle.granit_layouts.proofs.QuotedGapSaid.{quoted_gap_said, said_quoted_gap}
use Rattle.granit_layouts.proofs.gaps.gaps_behind_quoted_scalars_are_refused_as_lexemes_say.Goals as goal

pub returns-clause-said : goal.returns-clause-said
returns-clause-said c = λ o text items t at single closes read end kind m r g p.
    quoted_gap_said o text items t at single closes read r g end kind m p

pub returns-clause-refused : goal.returns-clause-refused
returns-clause-refused c = λ o text items t at single closes read end kind m r g p.
    said_quoted_gap o text items t at single closes read r g end kind m p
