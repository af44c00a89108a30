use Rattle.granit_termination.proofs.LexLengths.{lex_turn-Shortens}
use Rattle.granit_termination.proofs.laws.every_read_takes_a_character.Goals as goal

pub returns : goal.returns
returns c = lex_turn-Shortens
