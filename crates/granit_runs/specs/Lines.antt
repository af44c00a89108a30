-- Line feeds, each with the spaces behind it, seen at once.
use Rattle.std.specs.Prelude.{◌≡◌, ℕ, zero, suc, ◌==◌, ◌||◌, Bool, if◌then◌else◌, List, [], ◌∷◌, take, Option, Some}
use Rattle.std.specs.Prelude.{None}
use Rattle.granit_base.specs.Classes.{is_within}
use Rattle.granit_base.specs.Place.{Unread, first}
use Rattle.granit_runs.specs.Runs.{run_length, starts}
use Rattle.granit_runs.specs.Unread.{past_count}

-- a line feed or a space
abbrev pub is_line_gap : ℕ → Bool
is_line_gap c = c == 0x0A || c == 0x20

-- a character from `!` to `~`
abbrev pub is_visible : ℕ → Bool
is_visible c = is_within 0x21 0x7E c

-- how many line feeds a text has
unfoldable pub feed_count : List ℕ → ℕ
feed_count [] = zero
feed_count (c ∷ cs) = if c == 0x0A then suc (feed_count cs) else feed_count cs

-- the column behind a text of line feeds and spaces that begins in a column
unfoldable pub column_behind : ℕ → List ℕ → ℕ
column_behind column [] = column
column_behind column (c ∷ cs) = column_behind (if c == 0x0A then zero else suc column) cs

-- A text begins with a line feed, and so many line feeds and spaces stand in front: so many line feeds, and so many
-- spaces behind the last one.
pub record IsLines (text : List ℕ) (count lines spaces : ℕ) : Type 0 where
  pub begins : first text ≡ 0x0A
  pub whole : count ≡ run_length (starts is_line_gap) text
  pub feeds : lines ≡ feed_count (take count text)
  pub column : spaces ≡ column_behind 0 (take count text)

-- how many characters were taken
abbrev pub lines_taken : Option (ℕ × ℕ × ℕ) → ℕ
lines_taken None = zero
lines_taken (Some r) = r.0

-- all of them were taken, or nothing was
abbrev pub TakesLines : Unread → Option (ℕ × ℕ × ℕ) → (Unread → Type 0) → Type 0
TakesLines u None Lands = Lands u
TakesLines u (Some r) Lands = IsLines u.text r.0 r.1 r.2 × Lands (past_count r.0 u)
