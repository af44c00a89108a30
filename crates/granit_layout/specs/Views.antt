-- How the open columns are kept.
use Rattle.std.specs.Prelude.{ℕ, Bool, false, nat_lt, List, [], ◌∷◌, length, reverse, ◌&&◌, ◌||◌, ◌==◌, not, Option}
use Rattle.std.specs.Prelude.{None, Some}
use Rattle.granit_lexemes.specs.declared.layout.OpenColumn.{OpenColumn}

-- the open columns, the innermost first, of which so many outermost ones are wide
abbrev pub marked_columns : ℕ → List ℕ → List OpenColumn
marked_columns wide [] = []
marked_columns wide (c ∷ cs) = record { column = c; is_wide = nat_lt (length cs) wide } ∷ marked_columns wide cs

-- the same of the columns from the outermost on
abbrev pub columns_view : ℕ → List ℕ → List OpenColumn
columns_view wide columns = marked_columns wide (reverse columns)

-- the innermost column's next entry begins
abbrev pub columns_renewed : List OpenColumn → List OpenColumn
columns_renewed [] = []
columns_renewed (c ∷ cs) = record c { is_wide = false } ∷ cs

-- whether an open column, where there is one, is wide there
abbrev pub is_wide_in : Bool → ℕ → Option OpenColumn → Bool
is_wide_in in_flow column None = false
is_wide_in in_flow column (Some c) = c.is_wide && (in_flow || not (c.column == column))
