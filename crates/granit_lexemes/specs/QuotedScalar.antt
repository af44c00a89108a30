-- A quoted scalar over any number of lines, read character by character (YAML 1.2.2, 7.3.1, 7.3.2, 6.5 and 5.7).
use Rattle.std.specs.Prelude.{ℕ, zero, suc, ◌+◌, ◌*◌, ◌==◌, Bool, true, false, ◌&&◌, ◌||◌, not, if◌then◌else◌, nat_lt}
use Rattle.std.specs.Prelude.{List, [], ◌∷◌, ◌++◌, length, slice_index, Option, Some, None, Result, Ok}
use lib.Utf8.{scalar}
use Rattle.granit_base.specs.Classes.{is_blank, is_break, is_gap, is_hex, hex_value, is_printable}
use Rattle.granit_base.specs.Place.{Mark, first}
use Rattle.granit_base.specs.Written.{Written}
use Rattle.granit_base.specs.declared.style.ScalarStyle.{ScalarStyle}
use Rattle.granit_base.specs.declared.style.ScalarStyle.TheVariants.{SingleQuoted, DoubleQuoted}
use Rattle.granit_error.specs.FaultKind.{FaultKind, InvalidIndentation, UnclosedQuotedScalar}
use Rattle.granit_error.specs.FaultKind.{DocumentIndicatorInQuotedScalar, TabInIndentation, InvalidQuotedScalarIndent}
use Rattle.granit_error.specs.FaultKind.{InvalidTrailingSingleQuotedScalar, InvalidTrailingDoubleQuotedScalar}
use Rattle.granit_error.specs.FaultKind.{UnknownQuotedScalarEscape, InvalidQuotedScalarHexEscape, MissingLowSurrogate}
use Rattle.granit_error.specs.FaultKind.{InvalidLowSurrogateHexEscape, InvalidLowSurrogate, UnpairedLowSurrogate}
use Rattle.granit_error.specs.FaultKind.{InvalidUnicodeEscape, CommentNotSeparated, UnexpectedCharacter}
use Rattle.granit_lexemes.specs.Comment.{CommentRead, comment}
use Rattle.granit_lexemes.specs.Decoding.{letter_value, digit_count, is_high, is_low, joined}
use Rattle.granit_lexemes.specs.Here.{Here, text_len, next_char, mark_of, step, past}
use Rattle.granit_lexemes.specs.LayoutData.{LayoutData, is_left}
use Rattle.granit_lexemes.specs.Source.{Source}
use Rattle.granit_lexemes.specs.Outcome.{Fault, ◌>>=◌}
use Rattle.granit_lexemes.specs.Pieces.{pieces}
use Rattle.granit_lexemes.specs.Basics.{fails_at, past_break, is_document_mark, lent_if}

-- where reading stands in a quoted scalar
pub record QuotedState : Type 0 where
  pub here : Here
  -- what was read since the last character of content: blanks, or behind a break an LF for each empty line
  pub pending : List ℕ
  -- whether a break was read since then
  pub on_new_line : Bool
  -- whether a backslash directly before it escapes the first of these breaks
  pub escaped : Bool

-- a quoted scalar, as the call that reads it gives it
pub record QuotedRead : Type 0 where
  pub text : Written
  pub source : Source
  -- the comment behind it on its last line, where comments are asked for
  pub comment : Option CommentRead
  -- whether a break was read behind the scalar, which is never so
  pub on_new_line : Bool

-- the quote, and the style that it tells
abbrev pub quote_char : Bool → ℕ
quote_char true = 0x27
quote_char false = 0x22

abbrev pub quoted_style : Bool → ScalarStyle
quoted_style true = SingleQuoted
quoted_style false = DoubleQuoted

-- whether a text begins with the closing quote; between single quotes a doubled one is content
unfoldable pub is_closing : Bool → List ℕ → Bool
is_closing single text = first text == quote_char single && not (single && slice_index text 1 == 0x27)

-- ---- escapes, where each refusal has its kind at the scalar's start

-- so many more hexadecimal digits of a number
unfoldable pub digits_or : FaultKind → Mark → ℕ → ℕ → Here → Result (ℕ × Here) Fault
digits_or kind start zero n h = Ok (n, h)
digits_or kind start (suc count) n h =
    if is_hex (next_char h) then digits_or kind start count (n * 16 + hex_value (next_char h)) (step h)
    else fails_at kind start

abbrev pub joined_or : Mark → (high low : ℕ) → Here → Result (ℕ × Here) Fault
joined_or start high low h = if is_low low then Ok (joined high low, h) else fails_at InvalidLowSurrogate start

-- the second half of a character, behind its first
unfoldable pub second_half_or : Mark → ℕ → Here → Result (ℕ × Here) Fault
second_half_or start high h =
    if next_char h == 0x5C && slice_index h.unread.text 1 == 0x75 then
    (digits_or InvalidLowSurrogateHexEscape start 4 0 (step (step h)) >>= λ x. joined_or start high x.0 x.1)
    else fails_at MissingLowSurrogate start

-- what a number of so many digits stands for
unfoldable pub numbered_or : Mark → ℕ → ℕ → Here → Result (ℕ × Here) Fault
numbered_or start count n h =
    if scalar n then Ok (n, h)
    else if count == 4 && is_high n then second_half_or start n h
    else if count == 4 && is_low n then fails_at UnpairedLowSurrogate start
    else fails_at InvalidUnicodeEscape start

abbrev pub escape_or_by : Mark → Option ℕ → Option ℕ → Here → Result (ℕ × Here) Fault
escape_or_by start (Some c) count h = Ok (c, step h)
escape_or_by start None (Some count) h = digits_or InvalidQuotedScalarHexEscape start count 0 (step h) >>=
    λ x. numbered_or start count x.0 x.1
escape_or_by start None None h = fails_at UnknownQuotedScalarEscape start

-- an escape, from its letter on
unfoldable pub escape_or : Mark → Here → Result (ℕ × Here) Fault
escape_or start h = escape_or_by start (letter_value (next_char h)) (digit_count (next_char h)) h

-- ---- where the content of a further line, or the closing quote, may not stand

-- whether a tab in a column is refused on a further line
abbrev pub is_tab_left : LayoutData → ℕ → Bool
is_tab_left at column = nat_lt column at.tab_column

-- left of its block where indentation is strict: in flow, and outside flow behind an escaped break
unfoldable pub is_strictly_left : LayoutData → Bool → ℕ → Bool
is_strictly_left at escaped column = (at.strict && (at.in_flow || escaped)) && is_left at.block_column column

-- left of its block outside flow; the closing quote may stand there, unless indentation is strict
unfoldable pub is_loosely_left : LayoutData → Bool → Bool → ℕ → Bool
is_loosely_left at escaped closing column = (not (at.in_flow || escaped) && (at.strict || not closing))
    && is_left at.block_column column

-- ---- a turn

-- what stands for the blanks and breaks before a character: one break gives a space, unless a backslash escapes it
abbrev pub between_quoted : QuotedState → List ℕ
between_quoted s = if (s.on_new_line && not s.escaped) && length s.pending == 0 then 0x20 ∷ [] else s.pending

abbrev pub quoted_at : Bool → Here → QuotedState
quoted_at escaped h = record { here = h; pending = []; on_new_line = false; escaped = escaped }

-- a blank on, which is dropped where it begins a line
unfoldable pub over_blank : QuotedState → QuotedState
over_blank s =
    if s.on_new_line then record s { here = step s.here }
    else record s { here = step s.here; pending = s.pending ++ next_char s.here ∷ [] }

-- a break on: blanks before the first are dropped, and each further one is an empty line
unfoldable pub over_break : QuotedState → QuotedState
over_break s =
    if s.on_new_line then record s { here = past_break s.here; pending = s.pending ++ 0x0A ∷ [] }
    else record s { here = past_break s.here; pending = []; on_new_line = true }

-- a character of content, behind what stands before it
abbrev pub quoted_piece : QuotedState → ℕ × Here → Result (Option (List ℕ) × QuotedState) Fault
quoted_piece s x = Ok (Some (between_quoted s ++ x.0 ∷ []), quoted_at false x.1)

-- content: a doubled quote, a backslash that escapes a break, an escape, or a character that stands for itself
unfoldable pub quoted_content : Bool → Mark → QuotedState → Result (Option (List ℕ) × QuotedState) Fault
quoted_content single start s =
    if single && next_char s.here == 0x27 then quoted_piece s (0x27, step (step s.here))
    else if single || not (next_char s.here == 0x5C) then quoted_piece s (next_char s.here, step s.here)
    else if is_break (slice_index s.here.unread.text 1) then Ok (Some (between_quoted s), quoted_at true (step s.here))
    else escape_or start (step s.here) >>= quoted_piece s

-- the next character, which the scalar takes or is refused for; its closing quote ends it
unfoldable pub quoted_turn : Bool → LayoutData → Mark → QuotedState → Result (Option (List ℕ) × QuotedState) Fault
quoted_turn single at start s =
    if is_blank (next_char s.here) then
    (if s.on_new_line && (next_char s.here == 0x09 && is_tab_left at s.here.place.column) then fails_at TabInIndentation
    (mark_of s.here)
    else Ok (Some [], over_blank s))
    else if is_break (next_char s.here) then Ok (Some [], over_break s)
    else if s.on_new_line && is_strictly_left at s.escaped s.here.place.column then fails_at InvalidIndentation
    (mark_of s.here)
    else if s.on_new_line && is_loosely_left at s.escaped (is_closing single s.here.unread.text) s.here.place.column
    then fails_at InvalidQuotedScalarIndent (mark_of s.here)
    else if s.on_new_line && (s.here.place.column == 0 && is_document_mark s.here.unread.text) then fails_at
    DocumentIndicatorInQuotedScalar start
    else if text_len s.here == 0 then fails_at UnclosedQuotedScalar start
    else if not (is_printable (next_char s.here)) then fails_at (UnexpectedCharacter (next_char s.here))
    (mark_of s.here)
    else if is_closing single s.here.unread.text then Ok (None, s)
    else quoted_content single start s

abbrev pub quoted_len : QuotedState → ℕ
quoted_len s = text_len s.here

-- ---- what nothing is decoded of

-- neither the quote, nor between double quotes a backslash
abbrev pub is_simple : Bool → ℕ → Bool
is_simple single c = not (c == quote_char single) && (single || not (c == 0x5C))

-- a character that stands for itself: neither a blank nor a break, nor the quote, nor between double quotes a backslash
unfoldable pub is_literal : Bool → ℕ → Bool
is_literal single c = (not (is_gap c) && is_printable c) && is_simple single c

-- such a character, or a blank, which stands for itself inside a line
abbrev pub is_kept : Bool → ℕ → Bool
is_kept single c = is_blank c || is_literal single c

-- whether no other stands before the closing quote: no break, no escape and no doubled quote
abbrev pub is_verbatim : Bool → (text : List ℕ) → Bool
is_verbatim single [] = false
is_verbatim single (c ∷ cs) = if is_kept single c then is_verbatim single cs else is_closing single (c ∷ cs)

-- the text of a quoted scalar, from behind its opening quote
abbrev pub quoted_text : Bool → Here → (value : List ℕ) → Written
quoted_text single h value = lent_if (is_verbatim single h.unread.text) h value

-- ---- behind the closing quote

abbrev pub quoted_read : Bool → Mark → Written → Mark → Option CommentRead → QuotedRead
quoted_read single start text end noted = record {
  text = text;
  source = record { start = start; end = end };
  comment = noted;
  on_new_line = false;
}

abbrev pub asked_comment : LayoutData → CommentRead → Option CommentRead
asked_comment at c = if at.comments then Some c else None

abbrev pub trailing_kind : Bool → FaultKind
trailing_kind true = InvalidTrailingSingleQuotedScalar
trailing_kind false = InvalidTrailingDoubleQuotedScalar

-- whether a character may follow the scalar and its blanks, where it began on this line or not
unfoldable pub may_trail : LayoutData → Bool → ℕ → Bool
may_trail at on_line c = (is_break c || (at.in_flow && ((c == 0x2C || c == 0x3A) || (c == 0x5D || c == 0x7D))))
    || (on_line && c == 0x3A)

-- behind the closing quote and blanks, where no comment begins
unfoldable pub behind_quoted : Bool → LayoutData → Mark → Written → Mark → Here → Result (QuotedRead × Here) Fault
behind_quoted single at start text end h =
    if text_len h == 0 then Ok (quoted_read single start text end None, h)
    else if not (is_printable (next_char h)) then fails_at (UnexpectedCharacter (next_char h)) (mark_of h)
    else if may_trail at (h.place.line == start.place.line) (next_char h) then Ok
    (quoted_read single start text end None, h)
    else fails_at (trailing_kind single) (mark_of h)

-- behind the closing quote: a comment, which blanks part from it, or what may follow
unfoldable pub quoted_tail : Bool → LayoutData → Mark → Written → Here → Result (QuotedRead × Here) Fault
quoted_tail single at start text h =
    if next_char h == 0x23 then fails_at CommentNotSeparated (mark_of h)
    else if next_char (past is_blank h) == 0x23 then
    (comment (past is_blank h) >>= λ x. Ok (quoted_read single start text (mark_of h) (asked_comment at x.0), x.1))
    else behind_quoted single at start text (mark_of h) (past is_blank h)

-- what is read from a state on
abbrev pub quoted_rest : Bool → LayoutData → Mark → QuotedState → Result (List ℕ × QuotedState) Fault
quoted_rest single at start s = pieces quoted_len (quoted_turn single at start) s

-- the quoted scalar that begins here with its quote, and where reading then stands: behind it, its blanks, and a
-- comment on its last line
unfoldable pub quoted_scalar : (single : Bool) → LayoutData → Here → Result (QuotedRead × Here) Fault
quoted_scalar single at h =
    quoted_rest single at (mark_of h) (quoted_at false (step h)) >>= λ x.
    quoted_tail single at (mark_of h) (quoted_text single (step h) (x.0 ++ between_quoted x.1)) (step x.1.here)
