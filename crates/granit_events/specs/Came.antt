-- The bytes of the input that came.
use Rattle.std.specs.Prelude.{◌≡◌, ℕ, ◌+◌, ◌≤◌, List, length, Option}
use Rattle.std.specs.Io.KnownBytes.{Consumes, IsAtEnd}

-- the most bytes that an input may have
abbrev pub most_bytes : ℕ
most_bytes = 67_108_864

-- all bytes that a source had left came, and they are not too many
pub record CameWhole (before now : Option (List ℕ)) (bytes : List ℕ) : Type 0 where
  pub came : Consumes before now bytes
  pub none_left : IsAtEnd now
  pub fits : length bytes ≤ most_bytes

-- one byte too many came, and no more
pub record CameTooMany (before now : Option (List ℕ)) (bytes : List ℕ) : Type 0 where
  pub came : Consumes before now bytes
  pub too_many : length bytes ≡ most_bytes + 1
