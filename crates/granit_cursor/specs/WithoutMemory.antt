-- Where a call is never refused for want of memory.
use Rattle.std.specs.Prelude.{◌≡◌, Bool, true, Result, IfErr}
use Rattle.granit_base.specs.Place.{Unread}
use Rattle.granit_cursor.specs.Reading.{Reading, Stands}
use Rattle.granit_error.specs.FaultKind.{NoMemory}
use Rattle.granit_error.specs.Refused.{Refused}
use Rattle.granit_lexemes.specs.Here.{Here}

-- wherever a cursor is known to stand at such a place, no refusal is for want of memory
abbrev pub WithoutMemoryAt : {I X : Type 0} → (I → Unread → Type 0) → Reading I → Result X Refused
    → (takes_none : Here → Bool) → Type 0
WithoutMemoryAt unread old result takes_none =
    (h : Here) → Stands unread old h → takes_none h ≡ true → IfErr result (λ e. ¬ (e.kind ≡ NoMemory))
