-- How far a quoted scalar goes, what it spells, and what is refused at it (YAML 1.2.2, 7.3.1, 7.3.2 and 6.5).
use Rattle.std.specs.Prelude.{◌≡◌, ℕ, suc, ◌<◌, ◌==◌, Bool, true, false, ◌&&◌, ◌||◌, not, List, [], ◌∷◌, ◌++◌, length}
use Rattle.std.specs.Prelude.{slice_index, replicate, Option, Some, None}
use Rattle.std.specs.List.{list_all}
use lib.Utf8.{scalar}
use Rattle.granit_base.specs.Classes.{is_blank, is_break, is_gap, is_hex, is_printable}
use Rattle.granit_base.specs.Place.{Mark, first}
use Rattle.granit_error.specs.FaultKind.{FaultKind, InvalidIndentation, UnclosedQuotedScalar}
use Rattle.granit_error.specs.FaultKind.{DocumentIndicatorInQuotedScalar, TabInIndentation, InvalidQuotedScalarIndent}
use Rattle.granit_error.specs.FaultKind.{InvalidTrailingSingleQuotedScalar, InvalidTrailingDoubleQuotedScalar}
use Rattle.granit_error.specs.FaultKind.{UnknownQuotedScalarEscape, InvalidQuotedScalarHexEscape, MissingLowSurrogate}
use Rattle.granit_error.specs.FaultKind.{InvalidLowSurrogateHexEscape, InvalidLowSurrogate, UnpairedLowSurrogate}
use Rattle.granit_error.specs.FaultKind.{InvalidUnicodeEscape, CommentNotSeparated, UnexpectedCharacter}
use Rattle.granit_lexemes.specs.Comment.{CommentRead, StandsComment, Spoils}
use Rattle.granit_lexemes.specs.Decoding.{letter_value, digit_count, number_of, is_high, is_low, AreDigits, Escape}
use Rattle.granit_lexemes.specs.Folding.{break_text}
use Rattle.granit_lexemes.specs.Gap.{Each}
use Rattle.granit_lexemes.specs.Here.{Here, mark_of}
use Rattle.granit_lexemes.specs.LayoutData.{LayoutData, is_left}
use Rattle.granit_lexemes.specs.PlainExtent.{over, starts_comment}
use Rattle.granit_lexemes.specs.Basics.{is_document_mark, lent_if}
use Rattle.granit_lexemes.specs.QuotedScalar.{QuotedRead, quote_char, is_closing, is_tab_left, is_literal, is_kept}
use Rattle.granit_lexemes.specs.QuotedScalar.{asked_comment, may_trail}

-- ---- blanks and breaks

-- the characters of one break, in front of what stands behind it (5.4)
pub data OneBreak : (brk behind : List ℕ) → Type 0 where
  line_feed : {behind : List ℕ} → OneBreak (0x0A ∷ []) behind
  pair : {behind : List ℕ} → OneBreak (0x0D ∷ 0x0A ∷ []) behind
  carriage_return : {behind : List ℕ} → (first behind == 0x0A) ≡ false → OneBreak (0x0D ∷ []) behind

-- Blanks and breaks from a column of a further line on: so many empty lines end in them, and so wide is the blank part
-- of the last line. No tab stands left of the tab column (6.1).
pub data NewLine (at : LayoutData) : (column : ℕ) → (text behind : List ℕ) → (empty last : ℕ) → Type 0 where
  no_more : {column : ℕ} {behind : List ℕ} → NewLine at column [] behind 0 column
  blank : {column : ℕ} {text behind : List ℕ} {empty last : ℕ} (b : ℕ) → is_blank b ≡ true
      → (b == 0x09 && is_tab_left at column) ≡ false
      → NewLine at (suc column) text behind empty last → NewLine at column (b ∷ text) behind empty last
  break : {column : ℕ} {text behind : List ℕ} {empty last : ℕ} (brk : List ℕ) → OneBreak brk (text ++ behind)
      → NewLine at 0 text behind empty last → NewLine at column (brk ++ text) behind (suc empty) last

-- what stands before content or the closing quote: blanks on its line, or breaks with so many empty lines between, and
-- a column
pub data Between : Type 0 where
  Blanks : (blanks : List ℕ) → Between
  Lines : (empty column : ℕ) → Between

-- blanks of a line; or blanks that end it, its break, and the blanks and breaks behind that
pub data Separates (at : LayoutData) : (text behind : List ℕ) → Between → Type 0 where
  on_line : {blanks behind : List ℕ} → Each is_blank blanks → Separates at blanks behind (Blanks blanks)
  folded : {text behind : List ℕ} {empty column : ℕ} (blanks brk : List ℕ) → Each is_blank blanks
      → OneBreak brk (text ++ behind)
      → NewLine at 0 text behind empty column → Separates at (blanks ++ (brk ++ text)) behind (Lines empty column)

-- the text of so many empty lines: without one a space, but nothing behind an escaped break
abbrev pub lines_text : (escaped : Bool) → ℕ → List ℕ
lines_text true empty = replicate empty 0x0A
lines_text false empty = break_text empty

-- what stands for it in the value: blanks inside a line stay, those around a break go
abbrev pub between_text : (escaped : Bool) → Between → List ℕ
between_text escaped (Blanks blanks) = blanks
between_text escaped (Lines empty column) = lines_text escaped empty

-- ---- content

-- One piece of content, in front of what stands behind it, what it stands for, and whether it escapes a break. A
-- backslash before a break is content that stands for nothing.
pub data Piece : (single : Bool) → (piece behind value : List ℕ) → (escapes : Bool) → Type 0 where
  itself : {single : Bool} {c : ℕ} {behind : List ℕ} → is_literal single c ≡ true
      → Piece single (c ∷ []) behind (c ∷ []) false
  doubled : {behind : List ℕ} → Piece true (0x27 ∷ 0x27 ∷ []) behind (0x27 ∷ []) false
  escape : {c : ℕ} {e behind : List ℕ} → Escape e c → Piece false e behind (c ∷ []) false
  before_break : {behind : List ℕ} → is_break (first behind) ≡ true → Piece false (0x5C ∷ []) behind [] true

-- whether content, or the closing quote, may stand left of its block: where indentation isn't strict, in flow, behind
-- an escaped break, or as the closing quote
abbrev pub may_be_left : Bool → LayoutData → (escaped : Bool) → List ℕ → Bool
may_be_left single at escaped text = not at.strict && ((at.in_flow || escaped) || is_closing single text)

-- whether content, or the closing quote, stands in a column left of its block, where it may not
abbrev pub is_misplaced : Bool → LayoutData → (escaped : Bool) → (column : ℕ) → List ℕ → Bool
is_misplaced single at escaped column text =
    is_left at.block_column column && not (may_be_left single at escaped text)

-- Whether content, or the closing quote, may stand at the front of a text, behind this. No document mark stands in
-- column 0 (9.1.2).
abbrev pub MayStand : Bool → LayoutData → (escaped : Bool) → Between → List ℕ → Type 0
MayStand single at escaped (Blanks blanks) text = Unit {0}
MayStand single at escaped (Lines empty column) text =
    (is_misplaced single at escaped column text ≡ false) × ((column == 0 && is_document_mark text) ≡ false)

-- Pieces of content with blanks and breaks before each, in front of what stands behind the last one, and their value. A
-- backslash at the front, or at the end, escapes the break that follows.
pub data Inside (single : Bool) (at : LayoutData) : (escaped : Bool) → (source behind value : List ℕ) → (left : Bool)
    → Type 0 where
  nothing : {escaped : Bool} {behind : List ℕ} → Inside single at escaped [] behind [] escaped
  content : {escaped escapes left : Bool} {source behind value gap piece cs taken more : List ℕ} (x : Between)
      → source ≡ gap ++ (piece ++ cs) → value ≡ between_text escaped x ++ (taken ++ more)
      → Separates at gap (piece ++ (cs ++ behind)) x → Piece single piece (cs ++ behind) taken escapes
      → MayStand single at escaped x (piece ++ (cs ++ behind))
      → Inside single at escapes cs behind more left → Inside single at escaped source behind value left

-- ---- the scalar

-- what stands behind an opening quote: content, and blanks and breaks behind it
pub record QuotedFront (single : Bool) (at : LayoutData) (h : Here) (source value gap : List ℕ) (left : Bool)
    (x : Between) (rest : List ℕ) : Type 0 where
  pub whole : h.unread.text ≡ quote_char single ∷ (source ++ (gap ++ rest))
  pub inside : Inside single at false source (gap ++ rest) value left
  pub separated : Separates at gap rest x

-- where it ends
abbrev pub front_end : Bool → Here → (source gap : List ℕ) → Here
front_end single h source gap = over (quote_char single ∷ (source ++ gap)) h

-- a quoted scalar that stands here, with its value and what stands from the closing quote on
pub record QuotedStands (single : Bool) (at : LayoutData) (h : Here) (source value gap : List ℕ) (left : Bool)
    (x : Between) (rest : List ℕ) : Type 0 where
  pub front : QuotedFront single at h source value gap left x rest
  pub closing : is_closing single rest ≡ true
  pub placed : MayStand single at left x rest

abbrev pub quoted_value : (value : List ℕ) → Bool → Between → List ℕ
quoted_value value left x = value ++ between_text left x

-- behind the closing quote
abbrev pub quoted_end : Bool → Here → (source gap : List ℕ) → Here
quoted_end single h source gap = over (quote_char single ∷ []) (front_end single h source gap)

-- blanks behind a closing quote, and what stands behind them
pub record BlanksBehind (end : Here) (blanks rest : List ℕ) : Type 0 where
  pub whole : end.unread.text ≡ blanks ++ rest
  pub each : Each is_blank blanks
  pub all : is_blank (first rest) ≡ false

-- whether an end, or a character that may follow, stands behind the scalar that began on a line
abbrev pub ends_quoted : LayoutData → Mark → Here → Bool
ends_quoted at start h = length h.unread.text == 0
    || (is_printable (first h.unread.text) && may_trail at (h.place.line == start.place.line) (first h.unread.text))

-- what may stand behind the closing quote, and where reading then stands
pub data Trails (at : LayoutData) (start : Mark) (end : Here) : Option CommentRead → Here → Type 0 where
  -- blanks and a comment
  comment : {noted : Option CommentRead} {after : Here} (b : ℕ) (blanks rest : List ℕ) (c : CommentRead)
      → BlanksBehind end (b ∷ blanks) rest → starts_comment rest ≡ true
      → StandsComment (over (b ∷ blanks) end) c after → noted ≡ asked_comment at c → Trails at start end noted after
  -- blanks, and then a break, the end, in flow `,` `:` `]` or `}`, or on the line where the scalar began `:`
  nothing : {after : Here} (blanks rest : List ℕ) → BlanksBehind end blanks rest → starts_comment rest ≡ false
      → after ≡ over blanks end → ends_quoted at start after ≡ true
      → Trails at start end None after

-- whether what stands between the quotes is the value as it is: it holds no break, no escape and no doubled quote
abbrev pub is_unchanged : Bool → (inside : List ℕ) → Bool
is_unchanged single inside = list_all (is_kept single) inside

-- what is answered for it; no break behind it is read
abbrev pub quoted_answer : Bool → Here → (source gap : List ℕ) → (value : List ℕ) → Option CommentRead → QuotedRead
quoted_answer single h source gap value noted = record {
  text = lent_if (is_unchanged single (source ++ gap)) h value;
  source = record { start = mark_of h; end = mark_of (quoted_end single h source gap) };
  comment = noted;
  on_new_line = false;
}

-- A quoted scalar is answered where it stands, with its value and what stands behind it.
pub record AnswersQuoted (single : Bool) (at : LayoutData) (h : Here) (read : QuotedRead) (after : Here) : Type 0 where
  pub source : List ℕ
  pub value : List ℕ
  pub gap : List ℕ
  pub left : Bool
  pub between : Between
  pub rest : List ℕ
  pub noted : Option CommentRead
  pub stands : QuotedStands single at h source value gap left between rest
  pub trails : Trails at (mark_of h) (quoted_end single h source gap) noted after
  pub answer : read ≡ quoted_answer single h source gap (quoted_value value left between) noted

-- ---- refusals

-- fewer hexadecimal digits than are wanted
pub record TooFewDigits (count : ℕ) (text : List ℕ) : Type 0 where
  pub digits : List ℕ
  pub rest : List ℕ
  pub are : text ≡ digits ++ rest
  pub each : Each is_hex digits
  pub fewer : length digits < count
  pub ended : is_hex (first rest) ≡ false

-- what is wrong behind a backslash
pub data WrongEscape : FaultKind → List ℕ → Type 0 where
  -- no such letter, or the end
  unknown : {text : List ℕ} → letter_value (first text) ≡ None → digit_count (first text) ≡ None
      → WrongEscape UnknownQuotedScalarEscape text
  -- a digit is missing
  hex : {l count : ℕ} {text : List ℕ} → digit_count l ≡ Some count → TooFewDigits count text
      → WrongEscape InvalidQuotedScalarHexEscape (l ∷ text)
  -- a first half of a character without `\u` behind it
  no_second : (high rest : List ℕ) → AreDigits 4 high → is_high (number_of high) ≡ true
      → (first rest == 0x5C && slice_index rest 1 == 0x75) ≡ false
      → WrongEscape MissingLowSurrogate (0x75 ∷ (high ++ rest))
  -- a first half, and a digit of the second is missing
  second_hex : (high rest : List ℕ) → AreDigits 4 high → is_high (number_of high) ≡ true → TooFewDigits 4 rest
      → WrongEscape InvalidLowSurrogateHexEscape (0x75 ∷ (high ++ 0x5C ∷ 0x75 ∷ rest))
  -- a first half, and what should be the second isn't one
  no_half : (high low rest : List ℕ) → AreDigits 4 high → is_high (number_of high) ≡ true → AreDigits 4 low
      → is_low (number_of low) ≡ false → WrongEscape InvalidLowSurrogate (0x75 ∷ (high ++ 0x5C ∷ 0x75 ∷ (low ++ rest)))
  -- a second half without a first
  alone : (low rest : List ℕ) → AreDigits 4 low → is_low (number_of low) ≡ true
      → WrongEscape UnpairedLowSurrogate (0x75 ∷ (low ++ rest))
  -- `U` with the number of no character
  no_character : (digits rest : List ℕ) → AreDigits 8 digits → scalar (number_of digits) ≡ false
      → WrongEscape InvalidUnicodeEscape (0x55 ∷ (digits ++ rest))

-- What is refused behind an opening quote, content, blanks and breaks, and where. Each cause says that no other stands.
pub data WrongInside (single : Bool) (at : LayoutData) (start : Mark) (left : Bool)
    : Between → (rest : List ℕ) → (place : Here) → FaultKind → Mark → Type 0 where
  -- a tab left of the tab column, at it
  tab : {empty column : ℕ} {rest : List ℕ} {place : Here} → first rest ≡ 0x09 → is_tab_left at column ≡ true
      → WrongInside single at start left (Lines empty column) rest place TabInIndentation (mark_of place)
  -- content, the closing quote or the end, left of its block, at it: where indentation is strict, in flow and behind an
  -- escaped break
  strict : {empty column : ℕ} {rest : List ℕ} {place : Here} → is_gap (first rest) ≡ false → at.strict ≡ true
      → (at.in_flow || left) ≡ true → is_left at.block_column column ≡ true
      → WrongInside single at start left (Lines empty column) rest place InvalidIndentation (mark_of place)
  -- and otherwise outside flow, but not the closing quote, unless indentation is strict
  loose : {empty column : ℕ} {rest : List ℕ} {place : Here} → is_gap (first rest) ≡ false → at.in_flow ≡ false
      → left ≡ false → is_left at.block_column column ≡ true → (at.strict || not (is_closing single rest)) ≡ true
      → WrongInside single at start left (Lines empty column) rest place InvalidQuotedScalarIndent (mark_of place)
  -- a document mark in column 0 that isn't left of its block, at the scalar's start
  mark : {empty : ℕ} {rest : List ℕ} {place : Here} → is_misplaced single at left 0 rest ≡ false
      → is_document_mark rest ≡ true
      → WrongInside single at start left (Lines empty 0) rest place DocumentIndicatorInQuotedScalar start
  -- the end before the closing quote, where it may stand, at the scalar's start
  end : {x : Between} {place : Here} → MayStand single at left x []
      → WrongInside single at start left x [] place UnclosedQuotedScalar start
  -- an unprintable character, where content may stand, at it
  character : {x : Between} {c : ℕ} {rest : List ℕ} {place : Here} → MayStand single at left x (c ∷ rest)
      → is_printable c ≡ false
      → WrongInside single at start left x (c ∷ rest) place (UnexpectedCharacter c) (mark_of place)
  -- a wrong escape, where content may stand, at the scalar's start
  escape : {x : Between} {rest : List ℕ} {place : Here} {kind : FaultKind} → single ≡ false
      → MayStand single at left x (0x5C ∷ rest) → is_break (first rest) ≡ false → WrongEscape kind rest
      → WrongInside single at start left x (0x5C ∷ rest) place kind start

-- What is refused behind a closing quote, and where. Each cause says that no other stands.
pub data WrongBehind (single : Bool) (at : LayoutData) (start : Mark) (end : Here) : FaultKind → Mark → Type 0 where
  -- a `#` directly behind it (6.6)
  touching : starts_comment end.unread.text ≡ true → WrongBehind single at start end CommentNotSeparated (mark_of end)
  -- an unprintable character in the comment
  comment : {kind : FaultKind} {m : Mark} (b : ℕ) (blanks rest : List ℕ) → BlanksBehind end (b ∷ blanks) rest
      → Spoils (over (b ∷ blanks) end) kind m → WrongBehind single at start end kind m
  -- an unprintable character behind it and its blanks
  character : {c : ℕ} (blanks rest : List ℕ) → BlanksBehind end blanks (c ∷ rest) → is_printable c ≡ false
      → WrongBehind single at start end (UnexpectedCharacter c) (mark_of (over blanks end))
  -- a printable character that may not follow
  trailing_single : (blanks rest : List ℕ) → single ≡ true → BlanksBehind end blanks rest
      → starts_comment rest ≡ false → is_printable (first rest) ≡ true → ends_quoted at start (over blanks end) ≡ false
      → WrongBehind single at start end InvalidTrailingSingleQuotedScalar (mark_of (over blanks end))
  trailing_double : (blanks rest : List ℕ) → single ≡ false → BlanksBehind end blanks rest
      → starts_comment rest ≡ false → is_printable (first rest) ≡ true → ends_quoted at start (over blanks end) ≡ false
      → WrongBehind single at start end InvalidTrailingDoubleQuotedScalar (mark_of (over blanks end))

-- why a quoted scalar is refused
pub data RefusesQuoted (single : Bool) (at : LayoutData) (h : Here) (kind : FaultKind) (m : Mark) : Type 0 where
  inside : (source value gap : List ℕ) (left : Bool) (x : Between) (rest : List ℕ)
      → QuotedFront single at h source value gap left x rest
      → WrongInside single at (mark_of h) left x rest (front_end single h source gap) kind m
      → RefusesQuoted single at h kind m
  behind : (source value gap : List ℕ) (left : Bool) (x : Between) (rest : List ℕ)
      → QuotedStands single at h source value gap left x rest
      → WrongBehind single at (mark_of h) (quoted_end single h source gap) kind m → RefusesQuoted single at h kind m
