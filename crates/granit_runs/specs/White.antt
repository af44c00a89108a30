-- White space up to the end of a line, and a comment behind it.
use Rattle.std.specs.Prelude.{◌≡◌, ℕ, ◌+◌, ◌==◌, ◌||◌, Bool, false, if◌then◌else◌, List, [], ◌∷◌, take, drop, Result}
use Rattle.std.specs.Prelude.{Ok, Err}
use Rattle.granit_base.specs.Classes.{is_non_breakz}
use Rattle.granit_base.specs.Place.{Unread, first}
use Rattle.granit_error.specs.declared.kind.ErrorKind.{ErrorKind}
use Rattle.granit_error.specs.declared.kind.ErrorKind.TheVariants.{CommentNotSeparated}
use Rattle.granit_runs.specs.Runs.{run_length, starts}
use Rattle.granit_runs.specs.Unread.{past_count}
use Rattle.granit_runs.specs.declared.whitespace.SkipTabs.{SkipTabs}
use Rattle.granit_runs.specs.declared.whitespace.SkipTabs.TheVariants.{Yes, No}
use Rattle.granit_runs.specs.declared.whitespace.WhitespaceResult.{WhitespaceResult}

-- a space, or a tab where tabs are skipped
abbrev pub is_skipped : SkipTabs → ℕ → Bool
is_skipped Yes c = c == 0x20 || c == 0x09
is_skipped No c = c == 0x20

-- how many spaces, and tabs where these are skipped, stand in front
abbrev pub blanks_length : SkipTabs → List ℕ → ℕ
blanks_length tabs text = run_length (starts (is_skipped tabs)) text

-- whether a character is in a text
abbrev pub holds : ℕ → List ℕ → Bool
holds c [] = false
holds c (x ∷ xs) = x == c || holds c xs

-- what was found in the blanks: a tab, and a space
abbrev pub whitespace_found : List ℕ → WhitespaceResult
whitespace_found blanks = record { found_tabs = holds 0x09 blanks; has_valid_yaml_ws = holds 0x20 blanks }

-- the same with one character more
abbrev pub found_more : WhitespaceResult → ℕ → WhitespaceResult
found_more found c = record {
  found_tabs = found.found_tabs || c == 0x09;
  has_valid_yaml_ws = found.has_valid_yaml_ws || c == 0x20;
}

abbrev pub SkipsBlanks : SkipTabs → Unread → ℕ × WhitespaceResult → (Unread → Type 0) → Type 0
SkipsBlanks tabs u result Lands =
    (result.0 ≡ blanks_length tabs u.text) × (result.1 ≡ whitespace_found (take result.0 u.text))
    × Lands (past_count result.0 u)

-- whether a comment begins behind so many characters (6.6)
abbrev pub comment_behind : ℕ → List ℕ → Bool
comment_behind blanks text = first (drop blanks text) == 0x23

-- how many characters it has, up to a break, NUL or the end
abbrev pub comment_length : ℕ → List ℕ → ℕ
comment_length blanks text = run_length (starts is_non_breakz) (drop blanks text)

-- Blanks, and a comment behind them, are skipped. A comment that no blank separates is refused, and then nothing is
-- skipped.
abbrev pub white_skipped : ℕ → List ℕ → ℕ × Result WhitespaceResult ErrorKind
white_skipped blanks text =
    if comment_behind blanks text
    then (if blanks == 0 then (0, Err CommentNotSeparated)
    else (blanks + comment_length blanks text, Ok (whitespace_found (take blanks text))))
    else (blanks, Ok (whitespace_found (take blanks text)))

abbrev pub white_answer : SkipTabs → List ℕ → ℕ × Result WhitespaceResult ErrorKind
white_answer tabs text = white_skipped (blanks_length tabs text) text

-- what is answered, and that as much was consumed as is answered
abbrev pub SkipsWhite : SkipTabs → Unread → ℕ × Result WhitespaceResult ErrorKind → (Unread → Type 0) → Type 0
SkipsWhite tabs u result Lands = (result ≡ white_answer tabs u.text) × Lands (past_count result.0 u)
