-- What the calls that look ahead answer.
use Rattle.std.specs.Prelude.{◌≡◌, ℕ, ◌==◌, ◌&&◌, Bool, true, false, List, slice_index, Option, MatchOption}
use Rattle.granit_base.specs.Classes.{is_breakz}
pub use Rattle.granit_base.specs.DocumentMark.{is_document_start, is_document_end, is_document_mark}
use Rattle.granit_base.specs.Place.{Unread, first}
use Rattle.granit_runs.specs.Unread.{past_count}

-- the text begins with these characters, none of which is NUL
abbrev pub begins_with_2 : ℕ → ℕ → List ℕ → Bool
begins_with_2 c1 c2 text = slice_index text 0 == c1 && slice_index text 1 == c2

abbrev pub begins_with_3 : ℕ → ℕ → ℕ → List ℕ → Bool
begins_with_3 c1 c2 c3 text = (slice_index text 0 == c1 && slice_index text 1 == c2) && slice_index text 2 == c3

-- the next character is read, unless it is a break or NUL, or the end is here
abbrev pub ReadsNonBreakz : Unread → Option ℕ → (Unread → Type 0) → Type 0
ReadsNonBreakz u result Lands =
    MatchOption result ((is_breakz (first u.text) ≡ true) × Lands u)
    (λ c. (is_breakz (first u.text) ≡ false) × (c ≡ first u.text) × Lands (past_count 1 u))
