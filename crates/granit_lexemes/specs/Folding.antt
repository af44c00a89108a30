-- The value of a scalar of several lines, from its finished source (YAML 1.2.2, 6.5).
use Rattle.std.specs.Prelude.{ℕ, zero, suc, Bool, true, false, List, [], ◌∷◌, ◌++◌, replicate}
use Rattle.granit_base.specs.Classes.{is_blank, is_break}
use Rattle.granit_base.specs.Place.{ends_line}

-- a character before some lines: it ends a line, or it is the CR of a CR LF, or it stands in the first of them
abbrev pub before_lines : (ends part_of_break : Bool) → ℕ → List (List ℕ) → List (List ℕ)
before_lines true part_of_break c lines = [] ∷ lines
before_lines false true c lines = lines
before_lines false false c [] = (c ∷ []) ∷ []
before_lines false false c (line ∷ more) = (c ∷ line) ∷ more

-- the lines of a text, without their breaks
abbrev pub lines_of : List ℕ → List (List ℕ)
lines_of [] = [] ∷ []
lines_of (c ∷ cs) = before_lines (ends_line (c ∷ cs)) (is_break c) c (lines_of cs)

abbrev pub without_blank : Bool → (cs more : List ℕ) → List ℕ
without_blank true cs more = more
without_blank false cs more = cs

-- a line without the blanks that begin it
abbrev pub trim_start : List ℕ → List ℕ
trim_start [] = []
trim_start (c ∷ cs) = without_blank (is_blank c) (c ∷ cs) (trim_start cs)

abbrev pub before_trimmed : Bool → ℕ → List ℕ → List ℕ
before_trimmed true c [] = []
before_trimmed true c (d ∷ ds) = c ∷ d ∷ ds
before_trimmed false c ds = c ∷ ds

-- a line without the blanks that end it
abbrev pub trim_end : List ℕ → List ℕ
trim_end [] = []
trim_end (c ∷ cs) = before_trimmed (is_blank c) c (trim_end cs)

-- lines behind a break, without the blanks around breaks
abbrev pub trim_behind : List (List ℕ) → List (List ℕ)
trim_behind [] = []
trim_behind (line ∷ []) = trim_start line ∷ []
trim_behind (line ∷ next ∷ more) = trim_end (trim_start line) ∷ trim_behind (next ∷ more)

-- lines without the blanks around breaks
abbrev pub trim_lines : List (List ℕ) → List (List ℕ)
trim_lines [] = []
trim_lines (line ∷ []) = line ∷ []
trim_lines (line ∷ next ∷ more) = trim_end line ∷ trim_behind (next ∷ more)

-- what stands for the breaks between two lines with so many empty ones between them
abbrev pub break_text : ℕ → List ℕ
break_text zero = 0x20 ∷ []
break_text (suc k) = replicate (suc k) 0x0A

-- lines behind a line and so many empty ones; the last line is content even where it is empty
abbrev pub fold_behind : ℕ → List (List ℕ) → List ℕ
fold_behind k [] = []
fold_behind k (line ∷ []) = break_text k ++ line
fold_behind k ([] ∷ next ∷ more) = fold_behind (suc k) (next ∷ more)
fold_behind k ((c ∷ cs) ∷ next ∷ more) = break_text k ++ (c ∷ cs) ++ fold_behind 0 (next ∷ more)

-- lines as one text: one break gives a space, and k empty lines between two lines give k LF; the first line is content
-- even where it is empty
abbrev pub fold : List (List ℕ) → List ℕ
fold [] = []
fold (line ∷ more) = line ++ fold_behind 0 more

-- the text of a source of one or more lines
abbrev pub folded : List ℕ → List ℕ
folded source = fold (trim_lines (lines_of source))
