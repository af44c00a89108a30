-- What was read of a plain scalar, as clauses see it.
use Rattle.std.specs.Prelude.{ℕ, Bool, List}
use Rattle.granit_base.specs.Place.{Mark}

pub record PlainTaken : Type 0 where
  -- its value up to the last character of content
  pub value : List ℕ
  -- what was read since then: blanks, or behind a break an LF for each empty line
  pub pending : List ℕ
  -- the place behind the last character of content
  pub end : Mark
  -- whether a break was read since then
  pub on_new_line : Bool
  -- whether a tab left of where a node may stand is among the blanks that begin this line
  pub left_tab : Bool
