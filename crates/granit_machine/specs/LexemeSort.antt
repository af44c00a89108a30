-- Which lexeme a text begins with, told by its first characters.
use Rattle.std.specs.Prelude.{ℕ, Bool, ◌==◌, ◌&&◌, ◌||◌, not, if◌then◌else◌, slice_index}
use Rattle.granit_base.specs.Classes.{is_blank_or_breakz, is_flow, is_printable, is_bom}
use Rattle.granit_lexemes.specs.Basics.{is_document_mark}
use Rattle.granit_lexemes.specs.Here.{Here, text_len, next_char}
use Rattle.granit_lexemes.specs.declared.layout.Bracket.{Bracket}
use Rattle.granit_lexemes.specs.declared.layout.Bracket.TheVariants.{Square, Curly}

-- a lexeme that stands in a column
pub data PlacedSort : Type 0 where
  OpenSign CloseSign : (bracket : Bracket) → PlacedSort
  CommaSign DashSign QuestionSign ColonSign AliasSign AnchorSign TagSign : PlacedSort
  BlockSign : (literal : Bool) → PlacedSort
  QuoteSign : (single : Bool) → PlacedSort
  -- a byte-order mark, another character that begins nothing, a plain scalar
  StrayMark NoSign PlainSign : PlacedSort

pub data LexemeSort : Type 0 where
  -- the end, `---` and `...` in column 0, a character that isn't printable, `%` in column 0
  TextEnd StartMark EndMark Unprintable DirectiveSign : LexemeSort
  Placed : PlacedSort → LexemeSort

-- by the first character and the next one; a `:` needs no blank in flow before a flow indicator or behind a quoted
-- scalar or a closer (7.3.3, 7.4.2)
unfoldable pub sort_of : (in_flow adjacent : Bool) → (c next : ℕ) → PlacedSort
sort_of in_flow adjacent c next =
    if c == 0x5B then OpenSign Square
    else if c == 0x7B then OpenSign Curly
    else if c == 0x5D then CloseSign Square
    else if c == 0x7D then CloseSign Curly
    else if c == 0x2C then CommaSign
    else if c == 0x2D && is_blank_or_breakz next then DashSign
    else if c == 0x3F && is_blank_or_breakz next then QuestionSign
    else if c == 0x3A && (is_blank_or_breakz next || (in_flow && (is_flow next || adjacent))) then ColonSign
    else if c == 0x2A then AliasSign
    else if c == 0x26 then AnchorSign
    else if c == 0x21 then TagSign
    else if (c == 0x7C || c == 0x3E) && not in_flow then BlockSign (c == 0x7C)
    else if c == 0x27 || c == 0x22 then QuoteSign (c == 0x27)
    else if is_bom c then StrayMark
    else if ((c == 0x40 || c == 0x60) || c == 0x25) || (c == 0x7C || c == 0x3E) then NoSign
    else PlainSign

-- by what stands here
unfoldable pub sort_at : (in_flow adjacent : Bool) → Here → LexemeSort
sort_at in_flow adjacent h =
    if text_len h == 0 then TextEnd
    else if h.place.column == 0 && is_document_mark h.unread.text then
    (if next_char h == 0x2D then StartMark else EndMark)
    else if not (is_printable (next_char h)) then Unprintable
    else if h.place.column == 0 && next_char h == 0x25 then DirectiveSign
    else Placed (sort_of in_flow adjacent (next_char h) (slice_index h.unread.text 1))
