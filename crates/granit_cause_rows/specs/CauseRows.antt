-- The rows of a table: a text with its cause and the place of its mark, and a text that has no such cause.
use Rattle.std.specs.Prelude.{◌≡◌, ℕ, List, Some}
use Rattle.granit_base.specs.Place.{Mark}
use Rattle.granit_declared.specs.DeclaredCause.{DeclaredCause}
use Rattle.granit_error.specs.FaultKind.{FaultKind, fault_number}
use Rattle.granit_error.specs.OptionsData.{OptionsData}
use Rattle.granit_lexemes.specs.Outcome.{Fault, fault_at}

-- a mark with characters of one byte before it: its index, its line from 1 and its column from 0
abbrev pub mark_by : (index line column : ℕ) → Mark
mark_by index line column =
    record { place = record { index = index; line = line; column = column }; byte_offset = Some index }

-- the text has a cause of this kind there
abbrev pub CausedAt : OptionsData → List ℕ → FaultKind → (index line column : ℕ) → Type 0
CausedAt o text kind index line column = DeclaredCause o text (fault_at kind (mark_by index line column))

-- the text has no cause at any place
abbrev pub NoCause : OptionsData → List ℕ → Type 0
NoCause o text = (f : Fault) → DeclaredCause o text f → ⊥

-- the text has no cause of the kind with this number, at any place
abbrev pub NoCauseOf : OptionsData → List ℕ → (number : ℕ) → Type 0
NoCauseOf o text number = (f : Fault) → DeclaredCause o text f → fault_number f.kind ≡ number → ⊥
