-- Open columns: which an entry begins, and which a lexeme ends (YAML 1.2.2, 8.1 and 8.2).
use Rattle.std.specs.Prelude.{ℕ, Bool, true, false, ◌&&◌, ◌||◌, not, nat_lt, nat_le, if◌then◌else◌, List, [], ◌∷◌}
use Rattle.std.specs.Prelude.{length, map, drop, Result, Ok}
use Rattle.granit_base.specs.Place.{Mark}
use Rattle.granit_error.specs.FaultKind.{RecursionLimitExceeded}
use Rattle.granit_error.specs.OptionsData.{OptionsData}
use Rattle.granit_lexemes.specs.Basics.{fails_at}
use Rattle.granit_lexemes.specs.LayoutData.{is_left}
use Rattle.granit_lexemes.specs.Outcome.{Fault, ◌>>=◌}
use Rattle.granit_machine.specs.Laid.{Laid, is_nonempty, is_in_flow, innermost_column, block_column, is_column}
use Rattle.granit_lexemes.specs.declared.layout.OpenColumn.{OpenColumn}

abbrev pub widened : OpenColumn → OpenColumn
widened c = record c { is_wide = true }

abbrev pub all_wide : Laid → Laid
all_wide l = record l { columns = map widened l.columns }

-- ---- entries

-- no more columns than the limit may be open
unfoldable pub refuse_column : OptionsData → ℕ → Mark → List OpenColumn → Result (Unit {0}) Fault
refuse_column o column mark columns =
    if is_column (innermost_column columns) column then Ok tt
    else if nat_le o.block_nesting_limit (length columns) then fails_at RecursionLimitExceeded mark
    else Ok tt

-- the columns with an entry in one, which is new where no entry stands in it
unfoldable pub entered_columns : ℕ → List OpenColumn → List OpenColumn
entered_columns column columns =
    record { column = column; is_wide = false }
    ∷ (if is_column (innermost_column columns) column then drop 1 columns else columns)

abbrev pub entered : ℕ → Laid → Laid
entered column l = record l { columns = entered_columns column l.columns }

-- an entry begins in a column
abbrev pub with_entry : OptionsData → ℕ → Mark → Laid → Result Laid Fault
with_entry o column mark l = refuse_column o column mark l.columns >>= λ u. Ok (entered column l)

-- an entry of a block mapping, with a `:`
abbrev pub pair_entered : ℕ → Laid → Laid
pair_entered column l = all_wide (record (entered column l) { rolled = true })

abbrev pub with_pair : OptionsData → ℕ → Mark → Laid → Result Laid Fault
with_pair o column mark l = refuse_column o column mark l.columns >>= λ u. Ok (pair_entered column l)

-- ---- ends

abbrev pub chosen_columns : Bool → List OpenColumn → List OpenColumn → List OpenColumn
chosen_columns true a b = a
chosen_columns false a b = b

-- without the columns right of one
abbrev pub up_to_column : ℕ → List OpenColumn → List OpenColumn
up_to_column column [] = []
up_to_column column (c ∷ cs) = chosen_columns (nat_lt column c.column) (up_to_column column cs) (c ∷ cs)

-- what a lexeme in a column leaves open
abbrev pub closed_at : ℕ → Laid → Laid
closed_at column l = record l {
  columns = if is_in_flow l then l.columns else up_to_column column l.columns;
  rolled = l.rolled && (is_in_flow l || not (is_left (block_column l) column));
}

-- what a document mark, a directive or the end leaves open
abbrev pub closed_all : Laid → Laid
closed_all l = record l { columns = if is_in_flow l then l.columns else []; rolled = l.rolled && is_in_flow l }

abbrev pub is_right_of_column : ℕ → List OpenColumn → Bool
is_right_of_column column [] = false
is_right_of_column column (c ∷ cs) = nat_lt column c.column

-- whether a lexeme in a column ends one
abbrev pub ends_at : ℕ → Laid → Bool
ends_at column l = not (is_in_flow l) && is_right_of_column column l.columns

-- whether a document mark, a directive or the end does
abbrev pub ends_all : Laid → Bool
ends_all l = not (is_in_flow l) && is_nonempty l.columns
