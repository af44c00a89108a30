use Rattle.granit_quiet.proofs.SameOptions.{lex_same}
use Rattle.granit_quiet.proofs.comments.reading_asks_for_no_comments.Goals as goal

pub returns : goal.returns
returns c = lex_same
