-- How the code reads a block scalar.
use Rattle.std.specs.Prelude.{◌≡◌, ℕ, ◌<◌, ◌≤◌, ◌||◌, ◌&&◌, ◌==◌, not, Bool, true, false, List, [], ◌∷◌, ◌++◌, length}
use Rattle.std.specs.Prelude.{if◌then◌else◌, Option, Some, None, is_some, Result, Ok, Err}
use Rattle.std.specs.Option.{option_map}
use Rattle.granit_base.specs.Classes.{is_non_breakz}
use Rattle.granit_base.specs.Place.{Mark}
use Rattle.granit_base.specs.Written.{string_chars}
use Rattle.granit_error.specs.FaultKind.{FaultKind, InputSlicingUnavailable, NoMemory, ZeroBlockScalarIndent}
use Rattle.granit_error.specs.FaultKind.{InvalidBlockScalarHeader}
use Rattle.granit_error.specs.FaultKind.{TabAtBlockScalarStart, InvalidBlockScalarIndent, CommentNotSeparated}
use Rattle.granit_error.specs.FaultKind.{UnexpectedCharacter}
use Rattle.granit_error.specs.Refused.{Refused}
use Rattle.granit_lexemes.specs.Basics.{owned, is_document_mark}
use Rattle.granit_lexemes.specs.BlockHeader as spec
use Rattle.granit_lexemes.specs.BlockHeader.{BlockHeader, block_header, leading_turn, greatest, content_column}
use Rattle.granit_lexemes.specs.BlockScalar.{BlockState, BlockRead, BlockGiven, empty_lines, line_up_to}
use Rattle.granit_lexemes.specs.BlockScalar.{block_turn, block_len, block_style, block_body, block_scalar, behind_block}
use Rattle.granit_lexemes.specs.BlockScalar.{kept}
use Rattle.granit_lexemes.specs.BlockValue.{line_feeds}
use Rattle.granit_lexemes.specs.Comment.{CommentRead, comment}
use Rattle.granit_lexemes.specs.Here.{Here, text_len, next_char, mark_of, mid_line, past}
use Rattle.granit_lexemes.specs.LayoutData.{LayoutData}
use Rattle.granit_lexemes.specs.LinesExtent.{is_clear}
use Rattle.granit_lexemes.specs.Outcome.{Fault, fault_at, Fails, ◌>>=◌}
use Rattle.granit_lexemes.specs.Pieces.{with_front, pieces}
use Rattle.granit_lexemes.specs.PlainEvent.{plain_span}
use Rattle.granit_lexemes.specs.QuotedScalar.{asked_comment}
use Rattle.granit_lexemes.specs.Tail.{tail_at}
use Rattle.granit_block.specs.declared.content.Content.{Content}
use Rattle.granit_block.specs.declared.header.Chomping.{Chomping}
use Rattle.granit_block.specs.declared.header.Chomping.TheVariants.{Strip, Clip, Keep}
use Rattle.granit_block.specs.declared.header.Header.{Header}
use Rattle.granit_block.specs.declared.lines.Lines.{Lines}
use Rattle.granit_cursor.specs.Tokens.{comment_token}
use Rattle.granit_cursor.specs.declared.token.Lexed.{Lexed}
use Rattle.granit_cursor.specs.declared.token.Token.{Token}
use Rattle.granit_cursor.specs.declared.token.TokenType.TheVariants as tokens

-- ---- what the code holds, as plain data

abbrev pub chomping_data : Chomping → spec.Chomping
chomping_data Strip = spec.Strip
chomping_data Clip = spec.Clip
chomping_data Keep = spec.Keep

abbrev pub header_data : Header → BlockHeader
header_data h = record { chomping = option_map chomping_data h.chomping; digit = h.digit }

abbrev pub content_data : Content → BlockRead
content_data c = record { text = owned (string_chars c.value); shown = c.shown; indent = c.indent }

-- where reading stands in the content
abbrev pub block_state : Lines → Here → BlockState
block_state l h = record { here = h; empty = string_chars l.empty; before = l.before; broken = l.broken }

-- ---- the token

-- the comment behind a header, where comments are asked for
abbrev pub asked_note : LayoutData → Option CommentRead → Option Token
asked_note at None = None
asked_note at (Some c) = option_map comment_token (asked_comment at c)

-- the comment that begins here, where comments are asked for
abbrev pub note_at : LayoutData → Here → Result (Option Token × Here) Fault
note_at at h = comment h >>= λ x. Ok (asked_note at (Some x.0), x.1)

-- what stands behind a header on its line
abbrev pub noted_tail : LayoutData → Here → Result (Option Token × Here) Fault
noted_tail at h = tail_at h >>= λ x. Ok (asked_note at x.0, x.1)

-- a scalar with the comment behind its header
abbrev pub block_with : Bool → BlockRead → Mark → Option Token → Bool → Lexed
block_with literal read end noted on_new_line = record {
  token = record {
    span = record (plain_span read.shown end) { indent = read.indent };
    token_type = tokens.Scalar (block_style literal) read.text;
  };
  comment = noted;
  cut_by_comment = None;
  on_new_line = on_new_line;
}

-- up to a place; a break with nothing but spaces behind it was read where that begins a line
abbrev pub block_lexed : LayoutData → Bool → BlockGiven → Here → Lexed
block_lexed at literal given after =
    block_with literal given.read (mark_of after) (asked_note at given.noted) after.begins_line

abbrev pub block_lexed_at : LayoutData → Bool → Here → Result (Lexed × Here) Fault
block_lexed_at at literal h = block_scalar literal at.block_column h >>= λ x. Ok (block_lexed at literal x.0 x.1, x.1)

-- the same, part by part
abbrev pub body_read : Bool → Option Token → Result (BlockRead × Here) Fault → Result (Lexed × Here) Fault
body_read literal noted given = given >>= λ z. Ok (block_with literal z.0 (mark_of z.1) noted z.1.begins_line, z.1)

abbrev pub tail_read : LayoutData → Bool → Mark → BlockHeader → Result (Option Token × Here) Fault
    → Result (Lexed × Here) Fault
tail_read at literal start header given =
    given >>= λ y. body_read literal y.0 (block_body literal header at.block_column start y.1)

abbrev pub block_chained : LayoutData → Bool → Here → Result (Lexed × Here) Fault
block_chained at literal h = block_header h >>= λ x. tail_read at literal (mark_of h) x.0 (noted_tail at x.1)

-- the kinds that a block scalar is refused by
abbrev pub IsBlockKind : FaultKind → Type 0
IsBlockKind NoMemory = Unit {0}
IsBlockKind InputSlicingUnavailable = Unit {0}
IsBlockKind ZeroBlockScalarIndent = Unit {0}
IsBlockKind InvalidBlockScalarHeader = Unit {0}
IsBlockKind TabAtBlockScalarStart = Unit {0}
IsBlockKind InvalidBlockScalarIndent = Unit {0}
IsBlockKind CommentNotSeparated = Unit {0}
IsBlockKind (UnexpectedCharacter c) = Unit {0}
IsBlockKind _ = ⊥

-- ---- empty lines

-- a turn that goes on leaves less
abbrev pub Shrinks : {E : Type 0} → Result Bool E → ℕ → ℕ → Type 0
Shrinks (Ok true) old new = new < old
Shrinks _ old new = new ≤ old

abbrev pub ShrinksIf : {A E : Type 0} → Result (Option A) E → ℕ → ℕ → Type 0
ShrinksIf (Ok (Some a)) old new = new < old
ShrinksIf _ old new = new ≤ old

-- empty lines behind those that were read
abbrev pub empty_whole : ℕ → List ℕ → Here → Result (List ℕ × Here) Fault
empty_whole column empty h = with_front empty (empty_lines column h)

-- a turn goes on with the same whole, or that is all of it
abbrev pub EmptyTurnsTo : {E : Type 0} → ℕ → Result Bool E → (Here → Type 0) → List ℕ → Result (List ℕ × Here) Fault
    → Type 0
EmptyTurnsTo column (Ok true) Lands empty before = (now : Here) × Lands now × (empty_whole column empty now ≡ before)
EmptyTurnsTo column (Ok false) Lands empty before = (now : Here) × Lands now × (before ≡ Ok (empty, now))
EmptyTurnsTo column (Err e) Lands empty before = Unit {0}

-- all empty lines were read
abbrev pub EmptiesTo : {E : Type 0} → Result (Unit {0}) E → (Here → Type 0) → List ℕ → Result (List ℕ × Here) Fault
    → Type 0
EmptiesTo (Ok u) Lands empty given = (now : Here) × Lands now × (given ≡ Ok (empty, now))
EmptiesTo (Err e) Lands empty given = Unit {0}

-- a leading line is behind it, of that width, or its spaces are
abbrev pub WidthGiven : {E : Type 0} → Result (Option ℕ) E → (Here → Type 0) → (old new : List ℕ) → Here → Type 0
WidthGiven (Ok (Some width)) Lands old new h =
    (now : Here) × Lands now × (leading_turn h ≡ Ok (Some (width ∷ []), now)) × (new ≡ old ++ 0x0A ∷ [])
WidthGiven (Ok None) Lands old new h = (now : Here) × Lands now × (leading_turn h ≡ Ok (None, now)) × (new ≡ old)
WidthGiven (Err e) Lands old new h = Unit {0}

-- so many leading lines are behind it, and the spaces of the next line
abbrev pub WidestGiven : {E : Type 0} → Result ℕ E → (Here → Type 0) → (old new : List ℕ) → Here → Type 0
WidestGiven (Ok widest) Lands old new h =
    (now : Here) × (widths : List ℕ) × Lands now × (pieces text_len leading_turn h ≡ Ok (widths, now))
    × (widest ≡ greatest widths now.place.column) × (new ≡ old ++ line_feeds (length widths))
WidestGiven (Err e) Lands old new h = Unit {0}

-- the content's column is found, and the empty lines before the content are behind it
abbrev pub FindsColumn : {E : Type 0} → Option ℕ → Option ℕ → Result ℕ E → (Here → Type 0) → (old new : List ℕ) → Here
    → Type 0
FindsColumn block digit (Ok column) Lands old new h =
    (now : Here) × (k : ℕ) × Lands now × (content_column block digit h ≡ Ok column)
    × (empty_lines column h ≡ Ok (line_feeds k, now)) × (new ≡ old ++ line_feeds k)
FindsColumn block digit (Err e) Lands old new h = Unit {0}

-- ---- lines

-- no unprintable character stands there, or it is refused
abbrev pub IsClear : Result (Unit {0}) Refused → (Here → Type 0) → Here → Type 0
IsClear (Ok u) Lands h = Lands h × (is_clear h ≡ true)
IsClear (Err e) Lands h = (is_clear h ≡ false) × (e ≡ fault_at (UnexpectedCharacter (next_char h)) (mark_of h))

-- the end, or another column than the content's
abbrev pub is_off_content : ℕ → Here → Bool
is_off_content column h = text_len h == 0 || not (h.place.column == column)

-- a document mark in column 0 of the content
abbrev pub is_content_mark : ℕ → Here → Bool
is_content_mark column h = column == 0 && is_document_mark h.unread.text

-- the same lines behind what was read
abbrev pub block_whole : Bool → ℕ → Lines → Here → Result (List ℕ × BlockState) Fault
block_whole literal column l h =
    with_front (string_chars l.value) (pieces block_len (block_turn literal column) (block_state l h))

-- a line of content is behind it, and the empty lines that follow
abbrev pub TakesLine : Bool → ℕ → Result (Unit {0}) Refused → (Here → Type 0) → (old : List ℕ) → BlockState → Lines
    → Type 0
TakesLine literal column (Ok u) Lands old s l =
    (now : Here) × (piece : List ℕ) × Lands now
    × (line_up_to literal column s (mid_line (past is_non_breakz s.here)) ≡ Ok (Some piece, block_state l now))
    × (string_chars l.value ≡ old ++ piece)
TakesLine literal column (Err e) Lands old s l =
    Fails e (line_up_to literal column s (mid_line (past is_non_breakz s.here)))

-- a turn goes on with the same whole, or that is all of it
abbrev pub LineTurnsTo : Bool → ℕ → Result Bool Refused → (Here → Type 0) → Lines → Result (List ℕ × BlockState) Fault
    → Type 0
LineTurnsTo literal column (Ok true) Lands l before =
    (now : Here) × Lands now × (block_whole literal column l now ≡ before)
LineTurnsTo literal column (Ok false) Lands l before =
    (now : Here) × Lands now × (before ≡ Ok (string_chars l.value, block_state l now))
LineTurnsTo literal column (Err e) Lands l before = Fails e before

-- what was read is all of it
abbrev pub LinesTo : Result (Unit {0}) Refused → (Here → Type 0) → Lines → Result (List ℕ × BlockState) Fault → Type 0
LinesTo (Ok u) Lands l given = (now : Here) × Lands now × (given ≡ Ok (string_chars l.value, block_state l now))
LinesTo (Err e) Lands l given = Fails e given

-- ---- the value

-- the lines of content from here on in a column, behind so many empty ones
abbrev pub text_given : Bool → spec.Chomping → ℕ → ℕ → Here → Result (BlockRead × Here) Fault
text_given literal chomping column k h =
    pieces block_len (block_turn literal column)
    (record { here = h; empty = line_feeds k; before = None; broken = false }) >>= λ x.
    behind_block chomping column (mark_of h) x.0 x.1

-- the value with the last break and the empty lines behind the content, as far as they are kept
abbrev pub ending_of : spec.Chomping → Bool → Lines → List ℕ
ending_of chomping ended l =
    (string_chars l.value
    ++ (if not (spec.is_strip chomping) && (l.broken || (is_some l.before && ended)) then 0x0A ∷ [] else []))
    ++ kept chomping (string_chars l.empty)
