-- What a function of the code that changes a state leaves, by the definition that it equals.
use Rattle.std.specs.Prelude.{◌≡◌, Result, Ok, Err}
use Rattle.granit_error.specs.Refused.{Refused}
use Rattle.granit_lexemes.specs.Outcome.{Fault, Fails}

-- the state that is left is the definition's, and a refusal its fault, unless memory ran out
abbrev pub LeavesIfRoom : {X S : Type 0} → Result X Refused → S → Result S Fault → Type 0
LeavesIfRoom (Ok x) after given = given ≡ Ok after
LeavesIfRoom (Err e) after given = Fails e given

-- the same, where no memory is wanted
abbrev pub Leaves : {X S : Type 0} → Result X Refused → S → Result S Fault → Type 0
Leaves (Ok x) after given = given ≡ Ok after
Leaves (Err e) after given = given ≡ Err e
