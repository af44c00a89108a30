-- What was read of a quoted scalar, as clauses see it.
use Rattle.std.specs.Prelude.{ℕ, Bool, List}

pub record QuotedTaken : Type 0 where
  -- its value up to the last character of content
  pub value : List ℕ
  -- what was read since then: blanks, or behind a break an LF for each empty line
  pub pending : List ℕ
  -- whether a break was read since then
  pub on_new_line : Bool
  -- whether a backslash escapes the first of these breaks
  pub escaped : Bool
