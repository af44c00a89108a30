-- The lines of a block scalar (YAML 1.2.2, 8.1), and its value.
use Rattle.std.specs.List.{list_all}
use Rattle.std.specs.Prelude.{ℕ, zero, suc, ◌-◌, Bool, true, false, ◌==◌, ◌&&◌, ◌||◌, not, nat_lt, if◌then◌else◌, List}
use Rattle.std.specs.Prelude.{[], ◌∷◌, ◌++◌, length, Option, Some, None, is_none, is_some, Result, Ok}
use Rattle.granit_base.specs.Classes.{is_within, is_blank, is_break, is_non_breakz}
use Rattle.granit_base.specs.Place.{Mark}
use Rattle.granit_base.specs.Written.{Written}
use Rattle.granit_base.specs.declared.style.ScalarStyle.TheVariants.{Literal, Folded}
use Rattle.granit_base.specs.declared.style.ScalarStyle.{ScalarStyle}
use Rattle.granit_error.specs.FaultKind.{InvalidBlockScalarHeader, TabAtBlockScalarStart, InvalidBlockScalarIndent}
use Rattle.granit_lexemes.specs.Comment.{CommentRead}
use Rattle.granit_lexemes.specs.Here.{Here, text_len, next_char, mark_of, step, mid_line, past}
use Rattle.granit_lexemes.specs.LayoutData.{is_left}
use Rattle.granit_lexemes.specs.Outcome.{Fault, ◌>>=◌}
use Rattle.granit_lexemes.specs.Pieces.{pieces}
use Rattle.granit_lexemes.specs.Tail.{tail_at}
use Rattle.granit_lexemes.specs.Basics.{fails_at, past_break, is_document_mark, only_printable, unprintable, owned}
use Rattle.granit_lexemes.specs.Basics.{text_up_to}
use Rattle.granit_lexemes.specs.BlockHeader.{Chomping, is_strip, is_keep, BlockHeader, chomping_of, refuse_unprintable}
use Rattle.granit_lexemes.specs.BlockHeader.{content_column, block_header}

-- over spaces left of a column, at most so many
unfoldable pub over_spaces : ℕ → Here → Here
over_spaces zero h = h
over_spaces (suc n) h = if next_char h == 0x20 then over_spaces n (step h) else h

abbrev pub indented : ℕ → Here → Here
indented column h = over_spaces (column - h.place.column) h

-- a line without content left of a column, for which an LF stands
unfoldable pub empty_turn : ℕ → Here → Result (Option (List ℕ) × Here) Fault
empty_turn column h =
    if is_break (next_char (indented column h)) then Ok (Some (0x0A ∷ []), past_break (indented column h))
    else Ok (None, indented column h)

-- empty lines, and the indentation behind them
abbrev pub empty_lines : ℕ → Here → Result (List ℕ × Here) Fault
empty_lines column h = pieces text_len (empty_turn column) h

-- where reading stands in the content
pub record BlockState : Type 0 where
  pub here : Here
  -- an LF for each empty line since the last content
  pub empty : List ℕ
  -- whether the last line of content began with a blank
  pub before : Option Bool
  -- whether a break ended it
  pub broken : Bool

-- what stands for the breaks before a line: between two lines of a folded scalar that begin with no blank one break is
-- a space (8.1.3)
abbrev pub between_lines : Bool → Option Bool → Bool → List ℕ → List ℕ
between_lines literal None blank empty = empty
between_lines literal (Some before) blank empty =
    if not literal && not (before || blank) then (if length empty == 0 then 0x20 ∷ [] else empty)
    else 0x0A ∷ empty

-- a line of content that goes up to a place, and the empty lines behind it
unfoldable pub line_up_to : Bool → ℕ → BlockState → Here → Result (Option (List ℕ) × BlockState) Fault
line_up_to literal column s after =
    let piece = between_lines literal s.before (is_blank (next_char s.here)) s.empty ++ text_up_to s.here after in
    if text_len after == 0 then
    Ok (Some piece, record { here = after; empty = []; before = Some (is_blank (next_char s.here)); broken = false })
    else refuse_unprintable after (empty_lines column (past_break after) >>= λ x.
    Ok (Some piece, record { here = x.1; empty = x.0; before = Some (is_blank (next_char s.here)); broken = true }))

unfoldable pub block_turn : Bool → ℕ → BlockState → Result (Option (List ℕ) × BlockState) Fault
block_turn literal column s =
    if text_len s.here == 0 || not (s.here.place.column == column) then Ok (None, s)
    else refuse_unprintable s.here (
    if column == 0 && is_document_mark s.here.unread.text then Ok (None, s)
    else line_up_to literal column s (mid_line (past is_non_breakz s.here)))

abbrev pub block_len : BlockState → ℕ
block_len s = text_len s.here

-- ---- the value

-- a block scalar: its value, where its content begins, and its content's column
pub record BlockRead : Type 0 where
  pub text : Written
  pub shown : Mark
  pub indent : Option ℕ

-- white space of Unicode
unfoldable pub is_white : ℕ → Bool
is_white c =
    ((((is_within 0x09 0x0D c || c == 0x20) || (c == 0x85 || c == 0xA0)) || (c == 0x1680 || is_within 0x2000 0x200A c))
    || ((c == 0x2028 || c == 0x2029) || (c == 0x202F || c == 0x205F))) || c == 0x3000

abbrev pub kept : Chomping → List ℕ → List ℕ
kept chomping empty = if is_keep chomping then empty else []

-- the last break, unless it is stripped or there is none
abbrev pub last_break : Chomping → BlockState → List ℕ
last_break chomping s =
    if not (is_strip chomping) && (s.broken || (is_some s.before && text_len s.here == 0)) then 0x0A ∷ []
    else []

abbrev pub block_read : ℕ → Mark → List ℕ → BlockRead
block_read column shown text = record {
  text = owned text;
  shown = shown;
  indent = if list_all is_white text then None else Some column;
}

-- behind the last line
unfoldable pub behind_block : Chomping → ℕ → Mark → List ℕ → BlockState → Result (BlockRead × Here) Fault
behind_block chomping column shown text s =
    let whole = (text ++ last_break chomping s) ++ kept chomping s.empty in
    refuse_unprintable s.here (only_printable (unprintable whole) shown (Ok (block_read column shown whole, s.here)))

-- a scalar without content
abbrev pub no_content : Chomping → Bool → List ℕ → Here → List ℕ
no_content chomping broken empty h =
    if not (is_keep chomping && broken) then []
    else if length empty == 0 && nat_lt 0 h.place.column then 0x0A ∷ []
    else empty

-- a line whose content is left of the scalar's, but right of its block
abbrev pub is_between : Option ℕ → ℕ → Here → Bool
is_between block column h =
    (nat_lt h.place.column column && not (is_left block h.place.column))
    && not ((is_none block && h.place.column == 0) && (is_document_mark h.unread.text || next_char h == 0x23))

-- the lines behind the first empty ones
unfoldable pub content_lines : Bool → Chomping → Bool → Option ℕ → ℕ → Mark → List ℕ → Here
    → Result (BlockRead × Here) Fault
content_lines literal chomping broken block column start empty h =
    refuse_unprintable h (
    if text_len h == 0 then
    Ok (record { text = owned (no_content chomping broken empty h); shown = start; indent = None }, h)
    else if is_between block column h then fails_at InvalidBlockScalarIndent (mark_of h)
    else pieces block_len (block_turn literal column)
    (record { here = h; empty = empty; before = None; broken = false }) >>= λ x.
    behind_block chomping column (mark_of h) x.0 x.1)

-- the lines behind the header's break
unfoldable pub block_lines : Bool → BlockHeader → Bool → Option ℕ → Mark → Here → Result (BlockRead × Here) Fault
block_lines literal header broken block start h =
    refuse_unprintable h (
    if next_char h == 0x09 then fails_at TabAtBlockScalarStart start
    else content_column block header.digit h >>= λ column. empty_lines column h >>= λ x.
    content_lines literal (chomping_of header.chomping) broken block column start x.0 x.1)

-- what stands behind the header, its blanks and its comment: a break or the end
unfoldable pub block_body : (literal : Bool) → BlockHeader → Option ℕ → Mark → Here → Result (BlockRead × Here) Fault
block_body literal header block start h =
    refuse_unprintable h (
    if is_break (next_char h) then block_lines literal header true block start (past_break h)
    else if text_len h == 0 then block_lines literal header false block start h
    else fails_at InvalidBlockScalarHeader start)

abbrev pub block_style : Bool → ScalarStyle
block_style true = Literal
block_style false = Folded

-- ---- all of it

-- a block scalar, and the comment behind its header
pub record BlockGiven : Type 0 where
  pub read : BlockRead
  pub noted : Option CommentRead

-- The block scalar that begins here with its `|` or `>`, and where reading then stands: behind its last line and the
-- spaces left of its content.
unfoldable pub block_scalar : (literal : Bool) → (block : Option ℕ) → Here → Result (BlockGiven × Here) Fault
block_scalar literal block h =
    block_header h >>= λ x. tail_at x.1 >>= λ y. block_body literal x.0 block (mark_of h) y.1 >>= λ z.
    Ok (record { read = z.0; noted = y.0 }, z.1)

-- the indicator of its style: `|` or `>`
abbrev pub block_indicator : Bool → ℕ
block_indicator true = 0x7C
block_indicator false = 0x3E
