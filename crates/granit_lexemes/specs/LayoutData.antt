-- What a scalar is told of the place where it stands.
use Rattle.std.specs.Prelude.{ℕ, Bool, false, ◌&&◌, ◌||◌, not, nat_le, Option, Some, None}

pub record LayoutData : Type 0 where
  -- the column of the innermost open block collection, None at the root
  pub block_column : Option ℕ
  -- the column left of which a quoted scalar refuses a tab
  pub tab_column : ℕ
  -- whether a flow collection is open
  pub in_flow : Bool
  -- whether lines in flow are indented too
  pub strict : Bool
  -- whether comments are asked for
  pub comments : Bool

-- whether a column is left of where a node may stand, which is right of the block column
abbrev pub is_left : Option ℕ → ℕ → Bool
is_left None column = false
is_left (Some n) column = nat_le column n

-- whether a line whose content is in a column is left of its block, where that matters
abbrev pub is_outside : LayoutData → ℕ → Bool
is_outside at column = (not at.in_flow || at.strict) && is_left at.block_column column
