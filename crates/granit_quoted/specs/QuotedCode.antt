-- How the code reads a quoted scalar: a character of content a turn.
use Rattle.std.specs.Prelude.{◌≡◌, ◌⊎◌, ℕ, ◌==◌, Bool, true, false, ◌&&◌, ◌||◌, not, if◌then◌else◌, List, [], ◌∷◌, ◌++◌}
use Rattle.std.specs.Prelude.{◌+◌, length, slice_index, take, Option, Some, None, Result, Ok, Err}
use Rattle.std.specs.Borrow.{Bor}
use Rattle.std.specs.Str.{chars}
use Rattle.std.specs.Option.{option_map}
use Rattle.granit_base.specs.Classes.{is_blank, is_break, is_printable}
use Rattle.granit_base.specs.Place.{Mark}
use Rattle.granit_error.specs.FaultKind.{FaultKind, NoMemory, InvalidIndentation, UnclosedQuotedScalar}
use Rattle.granit_error.specs.FaultKind.{DocumentIndicatorInQuotedScalar, TabInIndentation, InvalidQuotedScalarIndent}
use Rattle.granit_error.specs.FaultKind.{InvalidTrailingSingleQuotedScalar, InvalidTrailingDoubleQuotedScalar}
use Rattle.granit_error.specs.FaultKind.{UnknownQuotedScalarEscape, InvalidQuotedScalarHexEscape, MissingLowSurrogate}
use Rattle.granit_error.specs.FaultKind.{InvalidLowSurrogateHexEscape, InvalidLowSurrogate, UnpairedLowSurrogate}
use Rattle.granit_error.specs.FaultKind.{InvalidUnicodeEscape, CommentNotSeparated, UnexpectedCharacter}
use Rattle.granit_error.specs.FaultKind.{InputSlicingUnavailable}
use Rattle.granit_base.specs.Written.{Written, string_chars}
use Rattle.granit_error.specs.Refused.{Refused}
use Rattle.granit_runs.specs.Quotes.{IsQuoted}
use Rattle.granit_runs.specs.Runs.{run_length, starts}
use Rattle.granit_lexemes.specs.Comment.{comment}
use Rattle.granit_lexemes.specs.Here.{Here, text_len, next_char, mark_of, step}
use Rattle.granit_lexemes.specs.LayoutData.{LayoutData}
use Rattle.granit_lexemes.specs.Moves.{steps}
use Rattle.granit_lexemes.specs.Outcome.{Fault, Fails, ◌>>=◌}
use Rattle.granit_lexemes.specs.Pieces.{with_front}
use Rattle.granit_lexemes.specs.Basics.{fails_at, is_document_mark, owned}
use Rattle.granit_lexemes.specs.QuotedScalar.{QuotedRead, quoted_style, asked_comment, QuotedState, is_closing}
use Rattle.granit_lexemes.specs.QuotedScalar.{is_kept, quoted_tail}
use Rattle.granit_lexemes.specs.QuotedScalar.{is_tab_left, is_strictly_left, is_loosely_left, escape_or, between_quoted}
use Rattle.granit_lexemes.specs.QuotedScalar.{quoted_at, over_blank, over_break, quoted_content, quoted_rest}
use Rattle.granit_cursor.specs.Tokens.{comment_token, scalar_token}
use Rattle.granit_cursor.specs.declared.token.Lexed.{Lexed}
use Rattle.granit_cursor.specs.declared.token.Token.{Token}
use Rattle.granit_cursor.specs.declared.token.TokenType.TheVariants as tokens
use Rattle.granit_quoted.specs.QuotedTaken.{QuotedTaken}
use Rattle.granit_quoted.specs.declared.quoted.Ahead.{Ahead}
use Rattle.granit_quoted.specs.declared.begun.QuotedBegun.{QuotedBegun}
use Rattle.granit_quoted.specs.declared.begun.QuotedBegun.TheVariants.{Closed, Open}
use Rattle.granit_quoted.specs.declared.quoted.QuotedScalar.{QuotedScalar}
use Rattle.granit_quoted.specs.declared.quoted.Remark.{Remark}
use Rattle.granit_quoted.specs.declared.quoted.Ahead.TheVariants.{Blank, Break, Content, End}

-- a quoted scalar, with the comment behind it
abbrev pub quoted_lexed : Bool → QuotedRead → Lexed
quoted_lexed single r = record {
  token = scalar_token (quoted_style single) r.text r.source;
  comment = option_map comment_token r.comment;
  cut_by_comment = None;
  on_new_line = r.on_new_line;
}

-- the same by its parts
abbrev pub quoted_with : Bool → Mark → Written → Mark → Option Token → Lexed
quoted_with single start text end noted = record {
  token = scalar_token (quoted_style single) text (record { start = start; end = end });
  comment = noted;
  cut_by_comment = None;
  on_new_line = false;
}

-- a comment by its token
abbrev pub remark_token : Remark → Token
remark_token r = record { span = r.span; token_type = tokens.Comment r.comment }

-- the same by what was read of a scalar that begins there
abbrev pub quoted_from : Bool → Mark → QuotedScalar → Lexed
quoted_from single start r = quoted_with single start r.text r.end (option_map remark_token r.comment)

-- the comment that begins here, where comments are asked for
abbrev pub asked : LayoutData → Here → Result (Option Token × Here) Fault
asked at h = comment h >>= λ x. Ok (option_map comment_token (asked_comment at x.0), x.1)

-- where reading stands, by what the code holds
abbrev pub quoted_state : QuotedTaken → Here → QuotedState
quoted_state p h = record {
  here = h;
  pending = p.pending;
  on_new_line = p.on_new_line;
  escaped = p.escaped;
}

-- the same behind what was read
abbrev pub quoted_whole : Bool → LayoutData → Mark → QuotedTaken → Here → Result (List ℕ × QuotedState) Fault
quoted_whole single at start p h = with_front p.value (quoted_rest single at start (quoted_state p h))

-- nothing was taken yet
abbrev pub nothing_quoted : QuotedTaken
nothing_quoted = record { value = []; pending = []; on_new_line = false; escaped = false }

-- what is held behind a character that stands for itself, and behind several
abbrev pub kept_char : QuotedTaken → ℕ → QuotedTaken
kept_char p c =
    if is_blank c then record p { pending = p.pending ++ c ∷ [] }
    else record p { value = (p.value ++ p.pending) ++ c ∷ []; pending = [] }

abbrev pub kept_chars : QuotedTaken → List ℕ → QuotedTaken
kept_chars p [] = p
kept_chars p (c ∷ cs) = kept_chars (kept_char p c) cs

-- What stands in front was passed: all characters that stand for themselves, which are lent where the input lends, and
-- else none.
abbrev pub PassesKept : {E : Type 0} → Bool → Here → Result (Option (Bor (List ℕ))) E → (Here → Type 0) → Type 0
PassesKept single h (Ok None) Lands = (h.unread.lends ≡ false) × Lands h
PassesKept single h (Ok (Some part)) Lands =
    (n : ℕ) × (n ≡ run_length (starts (is_kept single)) h.unread.text) × Lands (steps n h)
    × (h.unread.lends ≡ true) × (chars part.now ≡ take n h.unread.text)
PassesKept single h (Err e) Lands = ⊥

-- a scalar whose text is copied, behind what was taken of it
abbrev pub taken_scalar : Bool → LayoutData → Mark → QuotedTaken → Here → Result (QuotedRead × Here) Fault
taken_scalar single at start p h =
    quoted_whole single at start p h >>= λ x.
    quoted_tail single at start (owned (x.0 ++ between_quoted x.1)) (step x.1.here)

-- the same where some of its text was passed already
abbrev pub copied_scalar : Bool → LayoutData → Mark → (front : List ℕ) → Here → Result (QuotedRead × Here) Fault
copied_scalar single at start front h = taken_scalar single at start (kept_chars nothing_quoted front) h

-- words alone were taken
abbrev pub words_alone : List ℕ → QuotedTaken
words_alone words = record { value = words; pending = []; on_new_line = false; escaped = false }

-- Of a scalar that begins here its words in front were read: they are all of it, and its end is seen, or what follows
-- them is left.
abbrev pub QuotedBeginsTo : Bool → (in_flow : Bool) → Here → QuotedBegun → (Here → Type 0) → Type 0
QuotedBeginsTo single in_flow h (Closed text) Lands =
    IsQuoted single in_flow h.unread.text (string_chars text) × Lands (steps (length (string_chars text) + 2) h)
QuotedBeginsTo single in_flow h (Open text) Lands =
    (now : Here) × Lands now × ((at : LayoutData) (start : Mark)
    → taken_scalar single at start (words_alone (string_chars text)) now ≡ copied_scalar single at start [] (step h))

-- where the closing quote is next, what was passed is the text
abbrev pub passed_scalar : Bool → LayoutData → Mark → (front : List ℕ) → Here → Result (QuotedRead × Here) Fault
passed_scalar single at start front h =
    if is_closing single h.unread.text
    then quoted_tail single at start (record { characters = front; is_borrowed = true }) (step h)
    else copied_scalar single at start front h

-- what stands next, or why it is refused
unfoldable pub quoted_ahead : Bool → LayoutData → Mark → QuotedState → Result Ahead Fault
quoted_ahead single at start s =
    if is_blank (next_char s.here) then
    (if s.on_new_line && (next_char s.here == 0x09 && is_tab_left at s.here.place.column)
    then fails_at TabInIndentation (mark_of s.here)
    else Ok Blank)
    else if is_break (next_char s.here) then Ok Break
    else if s.on_new_line && is_strictly_left at s.escaped s.here.place.column
    then fails_at InvalidIndentation (mark_of s.here)
    else if s.on_new_line && is_loosely_left at s.escaped (is_closing single s.here.unread.text) s.here.place.column
    then fails_at InvalidQuotedScalarIndent (mark_of s.here)
    else if s.on_new_line && (s.here.place.column == 0 && is_document_mark s.here.unread.text)
    then fails_at DocumentIndicatorInQuotedScalar start
    else if text_len s.here == 0 then fails_at UnclosedQuotedScalar start
    else if not (is_printable (next_char s.here))
    then fails_at (UnexpectedCharacter (next_char s.here)) (mark_of s.here)
    else if is_closing single s.here.unread.text then Ok End
    else Ok Content

-- what a turn gives where that is next
abbrev pub quoted_turn_of : Bool → Mark → QuotedState → Ahead → Result (Option (List ℕ) × QuotedState) Fault
quoted_turn_of single start s Blank = Ok (Some [], over_blank s)
quoted_turn_of single start s Break = Ok (Some [], over_break s)
quoted_turn_of single start s Content = quoted_content single start s
quoted_turn_of single start s End = Ok (None, s)

-- what was seen is what is next
abbrev pub SeesTo : Result Ahead Refused → Result Ahead Fault → Type 0
SeesTo (Ok a) given = given ≡ Ok a
SeesTo (Err e) given = Fails e given

-- what a turn takes is there
abbrev pub SeesSome : Result Ahead Refused → Type 0 → Type 0
SeesSome (Ok End) some = Unit {0}
SeesSome (Ok a) some = some
SeesSome (Err e) some = Unit {0}

-- what content stands for: a character, or nothing where it is a backslash that escapes a break
unfoldable pub content_read : Bool → Mark → Here → Result (Option ℕ × Here) Fault
content_read single start h =
    if single && next_char h == 0x27 then Ok (Some 0x27, step (step h))
    else if single || not (next_char h == 0x5C) then Ok (Some (next_char h), step h)
    else if is_break (slice_index h.unread.text 1) then Ok (None, step h)
    else escape_or start (step h) >>= λ x. Ok (Some x.0, x.1)

-- that as the characters that it adds, and whether it escapes a break
abbrev pub added : Option ℕ → List ℕ
added None = []
added (Some c) = c ∷ []

abbrev pub escapes : Option ℕ → Bool
escapes None = true
escapes (Some c) = false

-- content was taken, behind what stands before it
abbrev pub TakesContent : Result (Unit {0}) Refused → (Here → Type 0) → (old : List ℕ) → QuotedState → QuotedTaken
    → Result (Option ℕ × Here) Fault → Type 0
TakesContent (Ok u) Lands old s p given =
    (now : Here) × (x : Option ℕ) × Lands now × (given ≡ Ok (x, now))
    × (p.value ≡ (old ++ between_quoted s) ++ added x) × (quoted_state p now ≡ quoted_at (escapes x) now)
TakesContent (Err e) Lands old s p given = Fails e given

-- Where nothing was read since the last content, the same whole is read behind what was taken.
abbrev pub GoesWords : {U E : Type 0} → Bool → (old new : QuotedTaken) → Here → Result U E → (Here → Type 0) → Type 0
GoesWords single old new h (Ok u) Lands =
    old.pending ≡ [] → old.on_new_line ≡ false
    → (now : Here) × Lands now × ((at : LayoutData) (start : Mark)
    → quoted_whole single at start new now ≡ quoted_whole single at start old h)
GoesWords single old new h (Err e) Lands = Unit {0}

-- a turn goes on with the same whole, or that is all of it
abbrev pub QuotedTurnsTo : Bool → LayoutData → Mark → Result Bool Refused → (Here → Type 0) → QuotedTaken
    → Result (List ℕ × QuotedState) Fault → Type 0
QuotedTurnsTo single at start (Ok true) Lands p before =
    (now : Here) × Lands now × (quoted_whole single at start p now ≡ before)
QuotedTurnsTo single at start (Ok false) Lands p before =
    (now : Here) × Lands now × (before ≡ Ok (p.value, quoted_state p now))
QuotedTurnsTo single at start (Err e) Lands p before = Fails e before

-- what was read is all of it
abbrev pub QuotedPartsTo : Result QuotedTaken Refused → (Here → Type 0) → Result (List ℕ × QuotedState) Fault → Type 0
QuotedPartsTo (Ok p) Lands given = (now : Here) × Lands now × (given ≡ Ok (p.value, quoted_state p now))
QuotedPartsTo (Err e) Lands given = Fails e given

-- the kind by which a missing digit is refused
abbrev pub hex_refusal : Bool → FaultKind
hex_refusal true = InvalidLowSurrogateHexEscape
hex_refusal false = InvalidQuotedScalarHexEscape

-- the kinds that a quoted scalar is refused by, want of memory apart
abbrev pub IsQuotedFault : FaultKind → Type 0
IsQuotedFault InvalidIndentation = Unit {0}
IsQuotedFault UnclosedQuotedScalar = Unit {0}
IsQuotedFault DocumentIndicatorInQuotedScalar = Unit {0}
IsQuotedFault TabInIndentation = Unit {0}
IsQuotedFault InvalidQuotedScalarIndent = Unit {0}
IsQuotedFault InvalidTrailingSingleQuotedScalar = Unit {0}
IsQuotedFault InvalidTrailingDoubleQuotedScalar = Unit {0}
IsQuotedFault UnknownQuotedScalarEscape = Unit {0}
IsQuotedFault InvalidQuotedScalarHexEscape = Unit {0}
IsQuotedFault MissingLowSurrogate = Unit {0}
IsQuotedFault InvalidLowSurrogateHexEscape = Unit {0}
IsQuotedFault InvalidLowSurrogate = Unit {0}
IsQuotedFault UnpairedLowSurrogate = Unit {0}
IsQuotedFault InvalidUnicodeEscape = Unit {0}
IsQuotedFault CommentNotSeparated = Unit {0}
IsQuotedFault InputSlicingUnavailable = Unit {0}
IsQuotedFault (UnexpectedCharacter c) = Unit {0}
IsQuotedFault _ = ⊥

abbrev pub IsQuotedKind : FaultKind → Type 0
IsQuotedKind kind = (kind ≡ NoMemory) ⊎ IsQuotedFault kind
