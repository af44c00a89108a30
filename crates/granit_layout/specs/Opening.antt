-- Which entries open a column.
use Rattle.std.specs.Prelude.{ℕ, Bool, ◌&&◌, not, nat_lt, List, length}
use Rattle.granit_error.specs.OptionsData.{OptionsData}
use Rattle.granit_lexemes.specs.declared.layout.OpenColumn.{OpenColumn}
use Rattle.granit_machine.specs.Laid.{innermost_column, is_column}

-- none stands in it, and one more may be open
abbrev pub opens_column : OptionsData → ℕ → List OpenColumn → Bool
opens_column o column columns =
    not (is_column (innermost_column columns) column) && nat_lt (length columns) o.block_nesting_limit
