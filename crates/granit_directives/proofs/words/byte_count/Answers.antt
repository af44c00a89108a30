use Rattle.granit_directives.proofs.WordLemmas.{bytes_are}
use Rattle.granit_directives.proofs.words.byte_count.Goals as goal

pub returns : goal.returns
returns c = bytes_are c.args.text.now c.utf8.text
