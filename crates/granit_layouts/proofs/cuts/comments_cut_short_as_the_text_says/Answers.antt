use Rattle.granit_layouts.proofs.CutSaid.{cut_said, cut_held}
use Rattle.granit_layouts.proofs.cuts.comments_cut_short_as_the_text_says.Goals as goal

pub returns-clause-said : goal.returns-clause-said
returns-clause-said c = cut_said

pub returns-clause-held : goal.returns-clause-held
returns-clause-held c = cut_held
