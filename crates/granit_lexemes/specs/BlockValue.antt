-- The value of a block scalar, from its finished lines (YAML 1.2.2, 8.1.1.2, 8.1.2 and 8.1.3).
use Rattle.std.specs.Prelude.{ℕ, zero, suc, Bool, true, false, ◌||◌, nat_lt, if◌then◌else◌, List, [], ◌∷◌, ◌++◌}
use Rattle.std.specs.Prelude.{replicate, Option, Some, None}
use Rattle.granit_base.specs.Classes.{is_blank}
use Rattle.granit_base.specs.Place.{first}
use Rattle.granit_lexemes.specs.BlockHeader.{Chomping, Strip, Clip, Keep}
use Rattle.granit_lexemes.specs.Folding.{break_text}
use Rattle.granit_lexemes.specs.LinesExtent.{BlockLine}

abbrev pub line_feeds : ℕ → List ℕ
line_feeds k = replicate k 0x0A

-- What stands before a line of content with k empty lines before it: k LF before the first, k + 1 LF before another
-- one, but between two lines of a folded scalar neither of which begins with a blank a space for k = 0, and else k LF.
abbrev pub line_gap : (literal : Bool) → (before : Option Bool) → (blank : Bool) → ℕ → List ℕ
line_gap literal None blank k = line_feeds k
line_gap literal (Some before) blank k = if literal || (before || blank) then line_feeds (suc k) else break_text k

abbrev pub begins_blank : List ℕ → Bool
begins_blank cs = is_blank (first cs)

-- the text of lines behind a line, whether it began with a blank
abbrev pub content_text : (literal : Bool) → (before : Option Bool) → List BlockLine → List ℕ
content_text literal before [] = []
content_text literal before (l ∷ ls) =
    line_gap literal before (begins_blank l.text) l.empty
    ++ (l.text ++ content_text literal (Some (begins_blank l.text)) ls)

-- what stands for the break behind the last line of content, and for k empty lines behind it
abbrev pub ending : Chomping → ℕ → List ℕ
ending Strip k = []
ending Clip k = line_feeds 1
ending Keep k = line_feeds (suc k)

abbrev pub kept_lines : Chomping → ℕ → List ℕ
kept_lines Strip k = []
kept_lines Clip k = []
kept_lines Keep k = line_feeds k

-- the value of lines of content with k empty lines behind them
abbrev pub block_value : (literal : Bool) → Chomping → List BlockLine → ℕ → List ℕ
block_value literal chomping [] k = kept_lines chomping k
block_value literal chomping (l ∷ ls) k = content_text literal None (l ∷ ls) ++ ending chomping k

-- how many lines stand at the end of a text that ends in a column, behind so many empty ones: a last line of spaces
-- counts where it is the only one
abbrev pub lines_at_end : (k column : ℕ) → ℕ
lines_at_end zero column = if nat_lt 0 column then 1 else 0
lines_at_end (suc k) column = suc k

-- the value where the text ends behind so many empty lines; directly behind a header nothing is kept
abbrev pub empty_value : Chomping → (broken : Bool) → (k column : ℕ) → List ℕ
empty_value chomping false k column = []
empty_value chomping true k column = kept_lines chomping (lines_at_end k column)
