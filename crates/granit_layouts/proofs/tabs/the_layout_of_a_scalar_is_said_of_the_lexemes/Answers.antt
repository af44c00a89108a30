use Rattle.granit_layouts.proofs.LayoutSaid.{layout_said, said_layout}
use Rattle.granit_layouts.proofs.tabs.the_layout_of_a_scalar_is_said_of_the_lexemes.Goals as goal

pub returns-clause-told : goal.returns-clause-told
returns-clause-told c = layout_said

pub returns-clause-said : goal.returns-clause-said
returns-clause-said c = said_layout
