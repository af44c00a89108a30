-- Bytes in the lanes of a vector.
use Rattle.std.specs.Prelude.{◌≡◌, ◌+◌, ◌<◌, ℕ, Bool, true, if◌then◌else◌, List, ◌∷◌, map, drop, slice_index}
use Rattle.std.specs.Str.{chars, is_utf8}

-- the lane of a mask
abbrev pub lane : Bool → ℕ
lane b = if b then 255 else 0

-- the mask of the lanes that pass a test
abbrev pub lanes_where : (ℕ → Bool) → List ℕ → List ℕ
lanes_where test bytes = map (λ c. lane (test c)) bytes

-- a byte at a place is a character of ASCII that a run takes
pub record TakesByte (test : List ℕ → Bool) (bytes : List ℕ) (at : ℕ) : Type 0 where
  pub low : slice_index bytes at < 0x80
  pub takes : is_utf8 (drop (at + 1) bytes) ≡ true
      → test (slice_index bytes at ∷ chars (drop (at + 1) bytes)) ≡ true
