use Rattle.granit_declared.proofs.FieldsSaid.{fields_said}
use Rattle.granit_declared.proofs.keys.fields_of_lexemes_are_said_of_those_before.Goals as goal

pub returns : goal.returns
returns c = fields_said
