-- The lines between quotes with their escapes decoded, and what they fold to (YAML 1.2.2, 5.7, 6.5, 7.3.1 and 7.3.2).
use Rattle.std.specs.Prelude.{ℕ, zero, suc, ◌==◌, Bool, true, false, ◌&&◌, not}
use Rattle.std.specs.Prelude.{List, [], ◌∷◌, ◌++◌, take, drop, Option, Some, None}
use Rattle.granit_base.specs.Classes.{is_blank, is_break}
use Rattle.granit_base.specs.Place.{first, ends_line}
use Rattle.granit_lexemes.specs.Decoding.{letter_value, digit_count, number_of, is_high, joined}
use Rattle.granit_lexemes.specs.QuotedExtent.{lines_text}

-- ---- what stands between the quotes, with its escapes decoded

pub data QuotedItem : Type 0 where
  -- a blank that stands for itself, where no break is beside it
  Blank : ℕ → QuotedItem
  -- a character of content, as it stands there or as its escape tells it
  Shown : ℕ → QuotedItem
  -- a backslash before a break
  Joins : QuotedItem
  Break : QuotedItem

-- what so many digits write, or they and those of a second half behind its `\u`; and how many characters that is with
-- the letter
abbrev pub number_by : (half : Bool) → (count : ℕ) → List ℕ → ℕ × ℕ
number_by true count digits = (joined (number_of (take 4 digits)) (number_of (take 4 (drop 6 digits))), 11)
number_by false count digits = (number_of (take count digits), suc count)

-- by what its letter stands for, or how many digits it wants
abbrev pub escape_by : (value count : Option ℕ) → (digits : List ℕ) → ℕ × ℕ
escape_by (Some c) count digits = (c, 1)
escape_by None (Some count) digits = number_by (count == 4 && is_high (number_of (take count digits))) count digits
escape_by None None digits = (0, 0)

-- what stands behind a backslash stands for, and how many characters that is
abbrev pub escape_of : List ℕ → ℕ × ℕ
escape_of [] = (0, 0)
escape_of (l ∷ digits) = escape_by (letter_value l) (digit_count l) digits

-- what begins with a character in front of others, and how many of those belong to it
abbrev pub front_by : (blank brk ends doubled slash joins : Bool) → ℕ → List ℕ → List QuotedItem × ℕ
front_by true brk ends doubled slash joins c cs = (Blank c ∷ [], 0)
front_by false true true doubled slash joins c cs = (Break ∷ [], 0)
front_by false true false doubled slash joins c cs = ([], 0)
front_by false false ends true slash joins c cs = (Shown c ∷ [], 1)
front_by false false ends false true true c cs = (Joins ∷ [], 0)
front_by false false ends false true false c cs = (Shown (escape_of cs).0 ∷ [], (escape_of cs).1)
front_by false false ends false false joins c cs = (Shown c ∷ [], 0)

-- the CR of a CR LF begins nothing
abbrev pub front : (single : Bool) → ℕ → List ℕ → List QuotedItem × ℕ
front single c cs =
    front_by (is_blank c) (is_break c) (ends_line (c ∷ cs)) (single && c == 0x27) (not single && c == 0x5C)
    (is_break (first cs)) c cs

-- what stands between the quotes behind so many characters
abbrev pub items : (single : Bool) → (skipped : ℕ) → List ℕ → List QuotedItem
items single skipped [] = []
items single (suc n) (c ∷ cs) = items single n cs
items single zero (c ∷ cs) = (front single c cs).0 ++ items single (front single c cs).1 cs

-- ---- its lines

abbrev pub in_first_line : QuotedItem → List (List QuotedItem) → List (List QuotedItem)
in_first_line i [] = (i ∷ []) ∷ []
in_first_line i (line ∷ more) = (i ∷ line) ∷ more

abbrev pub item_lines : List QuotedItem → List (List QuotedItem)
item_lines [] = [] ∷ []
item_lines (Break ∷ is) = [] ∷ item_lines is
item_lines (i ∷ is) = in_first_line i (item_lines is)

-- a line without the blanks that begin it
abbrev pub drop_blanks : List QuotedItem → List QuotedItem
drop_blanks [] = []
drop_blanks (Blank b ∷ is) = drop_blanks is
drop_blanks (i ∷ is) = i ∷ is

abbrev pub before_kept : ℕ → List QuotedItem → List QuotedItem
before_kept b [] = []
before_kept b (i ∷ is) = Blank b ∷ i ∷ is

-- a line without the blanks that end it
abbrev pub drop_end : List QuotedItem → List QuotedItem
drop_end [] = []
drop_end (Blank b ∷ is) = before_kept b (drop_end is)
drop_end (i ∷ is) = i ∷ drop_end is

-- lines behind a break, without the blanks around breaks
abbrev pub trimmed_behind : List (List QuotedItem) → List (List QuotedItem)
trimmed_behind [] = []
trimmed_behind (line ∷ []) = drop_blanks line ∷ []
trimmed_behind (line ∷ next ∷ more) = drop_end (drop_blanks line) ∷ trimmed_behind (next ∷ more)

-- lines without the blanks around breaks
abbrev pub lines_trimmed : List (List QuotedItem) → List (List QuotedItem)
lines_trimmed [] = []
lines_trimmed (line ∷ []) = line ∷ []
lines_trimmed (line ∷ next ∷ more) = drop_end line ∷ trimmed_behind (next ∷ more)

-- the lines between the quotes
abbrev pub decoded_lines : (single : Bool) → List ℕ → List (List QuotedItem)
decoded_lines single source = lines_trimmed (item_lines (items single 0 source))

-- ---- their fold

-- the characters of a line
abbrev pub line_text : List QuotedItem → List ℕ
line_text [] = []
line_text (Blank b ∷ is) = b ∷ line_text is
line_text (Shown c ∷ is) = c ∷ line_text is
line_text (i ∷ is) = line_text is

-- whether a backslash escapes the break behind a line
abbrev pub joins_next : List QuotedItem → Bool
joins_next [] = false
joins_next (Joins ∷ []) = true
joins_next (i ∷ is) = joins_next is

-- lines behind a line, whose break is escaped or not, and so many empty ones; the last line is content even where it is
-- empty
abbrev pub fold_lines_behind : (escaped : Bool) → (empty : ℕ) → List (List QuotedItem) → List ℕ
fold_lines_behind escaped k [] = []
fold_lines_behind escaped k (line ∷ []) = lines_text escaped k ++ line_text line
fold_lines_behind escaped k ([] ∷ next ∷ more) = fold_lines_behind escaped (suc k) (next ∷ more)
fold_lines_behind escaped k ((i ∷ is) ∷ next ∷ more) =
    lines_text escaped k ++ (line_text (i ∷ is) ++ fold_lines_behind (joins_next (i ∷ is)) 0 (next ∷ more))

-- Lines as one text: one break gives a space, or nothing where it is escaped, and k empty lines between two lines give
-- k LF; the first line is content even where it is empty.
abbrev pub fold_lines : List (List QuotedItem) → List ℕ
fold_lines [] = []
fold_lines (line ∷ more) = line_text line ++ fold_lines_behind (joins_next line) 0 more
