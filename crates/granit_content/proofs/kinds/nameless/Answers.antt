use Rattle.std.proofs.Common.{refl}
use Rattle.std.proofs.lemmas.Str.{chars-nil}
use Rattle.granit_content.proofs.kinds.nameless.Goals as goal

pub returns : goal.returns
returns c = rw (c.borrowed.ensures, c.new.ensures, chars-nil) refl
