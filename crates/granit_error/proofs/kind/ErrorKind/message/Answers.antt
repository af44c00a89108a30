use Rattle.std.proofs.Common.{rules}
use Rattle.std.proofs.lemmas.Str.{chars-nil}
use Rattle.granit_error.proofs.kind.ErrorKind.message.Goals as goal

pub returns-in_default : goal.returns-in_default
returns-in_default c = rw chars-nil (search rules)
