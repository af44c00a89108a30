-- A string as input.
use Rattle.std.specs.Prelude.{◌≡◌, ℕ, ◌+◌, ◌-◌, ◌<◌, ◌≤◌, ◌^◌, Bool, List, length, min, max, Option, MatchOption}
use Rattle.std.specs.Borrow.{Bor}
use Rattle.std.specs.Str.{chars}
use Rattle.granit_base.specs.Place.{Unread}
use Rattle.granit_input.specs.declared.str_input.StrInput.{StrInput}
use Rattle.granit_runs.specs.Chunks.{TakesText}
use Rattle.granit_input.specs.Origin.{Origin, Goes, of_string}
use Rattle.granit_runs.specs.Runs.{run_length}
use Rattle.granit_runs.specs.Unread.{left_of}

-- what is left of it
abbrev pub LeftInString : StrInput → Unread → Type 0
LeftInString s u = u ≡ left_of s.source.now s.rest.now

abbrev pub count_left : StrInput → ℕ
count_left s = length (chars s.rest.now)

-- as many of its characters may be looked at as can be counted
abbrev pub window_of : StrInput → ℕ
window_of s = 2 ^ 64 - 1

abbrev pub string_origin : StrInput → Origin
string_origin s = of_string s.source.now (window_of s)

-- n characters were consumed, or all where fewer were left
abbrev pub MovesBy : ℕ → StrInput → StrInput → Type 0
MovesBy n old new =
    (count_left new ≤ count_left old - n) × (window_of old ≤ window_of new + min n (count_left old))
    × Goes (string_origin old) (string_origin new)

-- nothing was consumed, and n characters at least may be looked at
abbrev pub MayLook : ℕ → StrInput → StrInput → Type 0
MayLook n old new = (count_left new ≤ count_left old) × (max n (window_of old) ≤ window_of new)
    × Goes (string_origin old) (string_origin new)

-- a character was consumed where one is answered
abbrev pub MovesIfSome : Option ℕ → StrInput → StrInput → Type 0
MovesIfSome answer old new =
    (MatchOption answer (count_left new ≤ count_left old) (λ c. count_left new < count_left old))
    × (MatchOption answer (window_of old ≤ window_of new) (λ c. window_of old ≤ window_of new + 1))
    × Goes (string_origin old) (string_origin new)

-- the text of a run was taken
abbrev pub TakesRun : (List ℕ → Bool) → Bor (List ℕ) → StrInput → StrInput → Type 0
TakesRun test text old new =
    ((u : Unread) → LeftInString old u → TakesText test u (chars text.now) (LeftInString new))
    × (count_left new + length (chars text.now) ≤ count_left old)
    × (window_of old ≤ window_of new + length (chars text.now))
    × Goes (string_origin old) (string_origin new)

-- all of the run
abbrev pub IsWhole : (List ℕ → Bool) → Bor (List ℕ) → StrInput → Type 0
IsWhole test text old = length (chars text.now) ≡ run_length test (chars old.rest.now)
