-- Refusals that are kept, to be given again.
use Rattle.std.specs.Prelude.{◌≡◌, ◌⊎◌, ℕ, Option, Some, None, Result, Ok, Err, IfOk, IfErr}
use Rattle.granit_base.specs.Counts.{Rose}
use Rattle.granit_error.specs.FaultKind.{NoMemory}
use Rattle.granit_error.specs.Refused.{Refused}
use Rattle.granit_receivers.specs.declared.error.TryLoadError.{TryLoadError}
use Rattle.granit_receivers.specs.declared.error.TryLoadError.TheVariants.{Scan, Receiver}

-- a refusal as it is kept: itself, or want of memory where there was no room for it
abbrev pub IsKept : Refused → Refused → Type 0
IsKept e kept = (kept ≡ e) ⊎ (kept.kind ≡ NoMemory)

-- the same refusal, or want of memory
abbrev pub GivesAgain : {X : Type 0} → Refused → Result X Refused → Type 0
GivesAgain e r = IfOk r (λ x. ⊥) × IfErr r (λ f. IsKept e f)

abbrev pub ScansAgain : {X E : Type 0} → Refused → Result X (TryLoadError E) → Type 0
ScansAgain e (Ok x) = ⊥
ScansAgain e (Err (Scan f)) = IsKept e f
ScansAgain e (Err (Receiver f)) = ⊥

-- what was given, as it is given again
abbrev pub KeptAgain : Option Refused → Option Refused → Type 0
KeptAgain None r = r ≡ None
KeptAgain (Some e) r = (f : Refused) × (r ≡ Some f) × IsKept e f

-- a count of a receiver's errors rose where it gave one, and is else as before
abbrev pub CountsErrors : {X E : Type 0} → (old new : ℕ) → Result X (TryLoadError E) → Type 0
CountsErrors old new (Ok x) = new ≡ old
CountsErrors old new (Err (Scan e)) = new ≡ old
CountsErrors old new (Err (Receiver e)) = Rose old new
