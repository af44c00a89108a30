-- Long texts of the worked rows, and what is looked at of what is printed for them.
use Rattle.std.specs.Prelude.{ℕ, zero, suc, ◌-◌, ◌==◌, if◌then◌else◌, List, [], ◌∷◌, ◌++◌, length, drop}

abbrev pub repeated : ℕ → List ℕ → List ℕ
repeated zero cs = []
repeated (suc n) cs = cs ++ repeated n cs

abbrev pub line_count : List ℕ → ℕ
line_count [] = 0
line_count (c ∷ cs) = if c == 0x0A then suc (line_count cs) else line_count cs

-- so many of the last characters
abbrev pub last_lines : ℕ → List ℕ → List ℕ
last_lines n cs = drop (length cs - n) cs
