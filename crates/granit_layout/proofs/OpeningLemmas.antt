-- Entries that open no column.
use Rattle.std.proofs.Common.{◌≡◌, ℕ, Bool, true, false, ◌&&◌, not, if◌then◌else◌, List, length, Result}
use Rattle.std.proofs.Common.{Ok, refl, sym, subst, arith}
use Rattle.std.specs.Prelude.{nat_lt, nat_le, IfErr}
use Rattle.std.proofs.lemmas.Bool.Decides.{nat_tests}
use Rattle.granit_base.specs.Place.{Mark}
use Rattle.granit_error.specs.FaultKind.{NoMemory, RecursionLimitExceeded}
use Rattle.granit_error.specs.OptionsData.{OptionsData}
use Rattle.granit_error.specs.Refused.{Refused}
use Rattle.granit_lexemes.specs.Basics.{fails_at}
use Rattle.granit_lexemes.specs.Outcome.{Fault}
use Rattle.granit_lexemes.specs.declared.layout.OpenColumn.{OpenColumn}
use Rattle.granit_machine.specs.Columns.{refuse_column}
use Rattle.granit_machine.specs.Laid.{innermost_column, is_column}
use Rattle.granit_layout.specs.Opening.{opens_column}

-- by whether an entry stands there, and whether as many columns are open as may be
abbrev refused_by : (there full : Bool) → Mark → Result (Unit {0}) Fault
refused_by there full m = if there then Ok tt else if full then fails_at RecursionLimitExceeded m else Ok tt

refusal_other : (there full : Bool) (m : Mark) → IfErr (refused_by there full m) (λ e. e.kind ≡ NoMemory → ⊥)
refusal_other true full m = tt
refusal_other false true m = λ is. absurd cc
refusal_other false false m = tt

-- a column that is one too many is another fault
pub column_refused : (o : OptionsData) (column : ℕ) (m : Mark) (columns : List OpenColumn)
    (r : Result (Unit {0}) Refused) → r ≡ refuse_column o column m columns → IfErr r (λ e. e.kind ≡ NoMemory → ⊥)
unfolding refuse_column
column_refused o column m columns r is =
    subst (λ (t : Result (Unit {0}) Fault). IfErr t (λ e. e.kind ≡ NoMemory → ⊥)) (sym is)
    (refusal_other (is_column (innermost_column columns) column) (nat_le o.block_nesting_limit (length columns)) m)

there_by : (there full : Bool) (m : Mark) → Ok tt ≡ refused_by there full m → (not there && not full) ≡ false
    → there ≡ true
there_by true full m fits none = refl
there_by false true m fits none = absurd cc
there_by false false m fits none = absurd cc

-- where none is opened and none refused, an entry stands in it
pub stands_there : (o : OptionsData) (column : ℕ) (m : Mark) (columns : List OpenColumn)
    → Ok tt ≡ refuse_column o column m columns → opens_column o column columns ≡ false
    → is_column (innermost_column columns) column ≡ true
unfolding refuse_column
stands_there o column m columns fits none =
    let room : nat_lt (length columns) o.block_nesting_limit ≡ not (nat_le o.block_nesting_limit (length columns)) =
    grind (arith, nat_tests) in
    there_by (is_column (innermost_column columns) column) (nat_le o.block_nesting_limit (length columns)) m fits
    (rw room at none)
