-- Texts without the white space at their ends.
use Rattle.std.specs.Prelude.{ℕ, List}
use Rattle.std.specs.Str.{skip_leading_whitespace, drop_trailing_whitespace}

-- without the characters of Unicode's `White_Space` at both ends
abbrev pub trimmed : List ℕ → List ℕ
trimmed text = drop_trailing_whitespace (skip_leading_whitespace text)
