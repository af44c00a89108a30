-- What is refused before keys that were left behind are dropped is refused whatever is left then.
use Rattle.std.proofs.Common.{◌≡◌, Result, Ok, Err, ap}
use Rattle.granit_error.specs.Refused.{Refused}
use Rattle.granit_lexemes.specs.Outcome.{Fault, ◌>>=◌}

pub refused_first : {A B : Type 0} (r : Result (Unit {0}) Fault) (a : A) (b : B) (e : Refused)
    → (r >>= λ u. Ok a) ≡ Err e → (r >>= λ u. Ok b) ≡ Err e
refused_first (Ok u) a b e is = absurd cc
refused_first (Err f) a b e is = let same : f ≡ e = cc in ap (λ (d : Fault). Err d) same
