use Rattle.granit_quoted_laws.proofs.QuotedOnce.{one_quoted}
use Rattle.granit_quoted_laws.proofs.quoted.one_quoted_scalar.Goals as goal

pub returns : goal.returns
returns c = λ single at h source value gap left x rest other spelled further right y behind.
    one_quoted single at h
    (record { source = source; value = value; gap = gap; left = left; between = x; rest = rest })
    (record { source = other; value = spelled; gap = further; left = right; between = y; rest = behind })
