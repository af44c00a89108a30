-- What a function of the machine gives: a value and the state behind it, or a fault.
use Rattle.std.specs.Prelude.{◌≡◌, [], Result, Ok, Err}
use Rattle.granit_base.specs.Place.{Mark}
use Rattle.granit_error.specs.FaultKind.{FaultKind, NoMemory}
use Rattle.granit_error.specs.Refused.{Refused}

-- what is wrong, and where: an error, as contracts see it
abbrev pub Fault : Type 0
Fault = Refused

-- what is wrong there, outside any named source
abbrev pub fault_at : FaultKind → Mark → Fault
fault_at kind mark = record { kind = kind; mark = mark; sources = [] }

infixl 10 ◌>>=◌
abbrev pub ◌>>=◌ : {A B : Type 0} → Result A Fault → (A → Result B Fault) → Result B Fault
(Ok x) >>= f = f x
(Err e) >>= f = Err e

-- a refusal of the code is the fault of the definition, unless memory ran out
abbrev pub Fails : {Y : Type 0} → Refused → Result Y Fault → Type 0
Fails e given = (e.kind ≡ NoMemory → ⊥) → given ≡ Err e

-- what the code returned, seen by a view, and the state that it left are what the definition gives
abbrev pub Gives : {X Y S : Type 0} → (X → Y) → Result X Refused → S → Result (Y × S) Fault → Type 0
Gives view (Ok x) after given = given ≡ Ok (view x, after)
Gives view (Err e) after given = Fails e given

-- the same, where no state is left
abbrev pub GivesValue : {X Y : Type 0} → (X → Y) → Result X Refused → Result Y Fault → Type 0
GivesValue view (Ok x) given = given ≡ Ok (view x)
GivesValue view (Err e) given = Fails e given
