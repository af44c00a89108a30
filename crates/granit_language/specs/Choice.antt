-- One of two.
use Rattle.std.specs.Prelude.{Bool, true, false}

abbrev pub choose : {A : Type 0} → Bool → A → A → A
choose true a b = a
choose false a b = b
