-- What is refused where no memory was taken before.
use Rattle.std.specs.Prelude.{◌≡◌, Result, Ok, Err}
use Rattle.granit_error.specs.Refused.{Refused}
use Rattle.granit_lexemes.specs.Outcome.{Fault}

-- what the definition refuses is refused by its fault, and never for want of memory
abbrev pub RefusesByFault : {X S : Type 0} → Result X Refused → Result S Fault → Type 0
RefusesByFault result given = (f : Fault) → given ≡ Err f → result ≡ Err f

-- the value of the definition, or its fault, and no memory is wanted
abbrev pub AnswersValue : {X Y : Type 0} → (X → Y) → Result X Refused → Result Y Fault → Type 0
AnswersValue view (Ok x) given = given ≡ Ok (view x)
AnswersValue view (Err e) given = given ≡ Err e
