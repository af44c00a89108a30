use Rattle.std.proofs.Common.{refl}
use Rattle.granit_grammar_rows.proofs.flow_collections_are_read.Goals as goal

pub returns-clause-square_brackets : goal.returns-clause-square_brackets
returns-clause-square_brackets c = refl

pub returns-clause-curly_brackets : goal.returns-clause-curly_brackets
returns-clause-curly_brackets c = refl
