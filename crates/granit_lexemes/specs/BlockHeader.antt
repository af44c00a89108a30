-- The header of a block scalar (YAML 1.2.2, 8.1.1), and where its content stands.
use Rattle.std.specs.Prelude.{ℕ, ◌+◌, ◌-◌, Bool, true, false, ◌==◌, ◌&&◌, ◌||◌, max, if◌then◌else◌, List, [], ◌∷◌}
use Rattle.std.specs.Prelude.{Option, Some, None, is_none, Result, Ok}
use Rattle.granit_base.specs.Classes.{is_break, is_digit, is_printable}
use Rattle.granit_base.specs.Place.{Mark}
use Rattle.granit_error.specs.FaultKind.{ZeroBlockScalarIndent, UnexpectedCharacter}
use Rattle.granit_lexemes.specs.Here.{Here, text_len, next_char, mark_of, step, past}
use Rattle.granit_lexemes.specs.Outcome.{Fault, ◌>>=◌}
use Rattle.granit_lexemes.specs.Pieces.{pieces}
use Rattle.granit_lexemes.specs.Basics.{fails_at, past_break}

-- how the last break and the empty lines behind the content are kept (8.1.1.2)
pub data Chomping : Type 0 where
  Strip Clip Keep : Chomping

abbrev pub is_strip : Chomping → Bool
is_strip Strip = true
is_strip _ = false

abbrev pub is_keep : Chomping → Bool
is_keep Keep = true
is_keep _ = false

-- the indicators behind `|` or `>`
pub record BlockHeader : Type 0 where
  pub chomping : Option Chomping
  pub digit : Option ℕ

abbrev pub chomping_of : Option Chomping → Chomping
chomping_of None = Clip
chomping_of (Some c) = c

-- no unprintable character may stand here
abbrev pub refuse_unprintable : {Y : Type 0} → Here → Result Y Fault → Result Y Fault
refuse_unprintable h given =
    if text_len h == 0 || is_printable (next_char h) then given
    else fails_at (UnexpectedCharacter (next_char h)) (mark_of h)

-- one more indicator of the header, of a sort that hasn't come yet (8.1.1)
unfoldable pub header_sign : Mark → BlockHeader → Here → Result (BlockHeader × Here) Fault
header_sign start b h =
    if next_char h == 0x2B && is_none b.chomping then Ok (record b { chomping = Some Keep }, step h)
    else if next_char h == 0x2D && is_none b.chomping then Ok (record b { chomping = Some Strip }, step h)
    else if is_digit (next_char h) && is_none b.digit then
    (if next_char h == 0x30 then fails_at ZeroBlockScalarIndent start
    else Ok (record b { digit = Some (next_char h - 0x30) }, step h))
    else Ok (b, h)

-- the header of the block scalar that begins here
unfoldable pub block_header : Here → Result (BlockHeader × Here) Fault
block_header h =
    header_sign (mark_of h) (record { chomping = None; digit = None }) (step h) >>= λ x.
    header_sign (mark_of h) x.0 x.1

-- ---- where content stands (8.1.1.1)

abbrev pub is_space : ℕ → Bool
is_space c = c == 0x20

-- one line of the leading ones: the column of its first other character
unfoldable pub leading_turn : Here → Result (Option (List ℕ) × Here) Fault
leading_turn h =
    if is_break (next_char (past is_space h)) then
    Ok (Some ((past is_space h).place.column ∷ []), past_break (past is_space h))
    else Ok (None, past is_space h)

abbrev pub greatest : List ℕ → ℕ → ℕ
greatest [] n = n
greatest (m ∷ ms) n = max m (greatest ms n)

-- right of the block column, and of all empty lines in front of the first other one
abbrev pub margin_of : Option ℕ → ℕ
margin_of None = 0
margin_of (Some n) = n + 1

abbrev pub outer_of : Option ℕ → ℕ
outer_of None = 0
outer_of (Some n) = n

-- the content's column
unfoldable pub content_column : Option ℕ → Option ℕ → Here → Result ℕ Fault
content_column block (Some d) h = Ok (outer_of block + d)
content_column block None h =
    pieces text_len leading_turn h >>= λ x.
    Ok (max (margin_of block) (greatest x.0 x.1.place.column))
