-- Tags, anchors and aliases, read character by character (YAML 1.2.2, 6.9 and 7.1). Each refusal stands at the start.
use Rattle.std.specs.Prelude.{ℕ, zero, suc, ◌+◌, ◌-◌, ◌*◌, Bool, ◌==◌, ◌&&◌, ◌||◌, not, nat_lt, nat_le, nat_eq}
use Rattle.std.specs.Prelude.{if◌then◌else◌, List, [], ◌∷◌, ◌++◌, length, slice_index, Option, Some, None, Result, Ok}
use Rattle.std.specs.Str.{chars, encode_utf8_all}
use lib.Utf8.{scalars}
use lib.Pointwise.{pointwise}
use Rattle.granit_base.specs.Classes.{is_within, is_hex, hex_value, is_alpha, is_uri_char, is_tag_char, is_anchor_char}
use Rattle.granit_base.specs.Classes.{is_blank_or_breakz}
use Rattle.granit_base.specs.Place.{Mark}
use Rattle.granit_base.specs.Written.{Written}
use Rattle.granit_error.specs.FaultKind.{DirectiveByteLimitExceeded, InvalidTagEscape, InvalidTagUtf8LeadingByte}
use Rattle.granit_error.specs.FaultKind.{InvalidTagUtf8TrailingByte, InvalidTagUtf8, MissingTagUri, UnclosedVerbatimTag}
use Rattle.granit_error.specs.FaultKind.{InvalidTagTerminator, MissingAnchorOrAliasName}
use Rattle.granit_lexemes.specs.Here.{Here, text_len, next_char, mark_of, step, past}
use Rattle.granit_lexemes.specs.Moves.{steps}
use Rattle.granit_lexemes.specs.Outcome.{Fault, ◌>>=◌}
use Rattle.granit_lexemes.specs.Pieces.{pieces}
use Rattle.granit_lexemes.specs.Basics.{fails_at, as_spelled, count_up_to, text_up_to}

-- how many bytes a directive may still hold, and how many it may hold in all
pub record Budget : Type 0 where
  pub left : ℕ
  pub limit : ℕ

-- so many bytes of it are taken, where there is one
abbrev pub spent : Option Budget → ℕ → Mark → Result (Option Budget) Fault
spent None n start = Ok None
spent (Some b) n start = if nat_lt b.left n then fails_at (DirectiveByteLimitExceeded b.limit) start else Ok
    (Some (record b { left = b.left - n }))

-- where reading stands in a URI, and what may still be read of it
pub record UriState : Type 0 where
  pub here : Here
  pub budget : Option Budget

-- whether some bytes are the UTF-8 of a text
abbrev pub is_utf8 : List ℕ → Bool
is_utf8 bytes = scalars (chars bytes) && pointwise nat_eq (encode_utf8_all (chars bytes)) bytes

-- ---- percent escapes, which spell a character's bytes in UTF-8 (5.6)

-- one byte
unfoldable pub escaped_byte : Mark → UriState → Result (ℕ × UriState) Fault
escaped_byte start s =
    if (next_char s.here == 0x25 && is_hex (slice_index s.here.unread.text 1))
    && is_hex (slice_index s.here.unread.text 2) then
    (spent s.budget 3 start >>= λ left. Ok (
      hex_value (slice_index s.here.unread.text 1) * 16 + hex_value
          (slice_index s.here.unread.text 2),
      record { here = steps 3 s.here; budget = left },
    ))
    else fails_at InvalidTagEscape start

-- how many bytes follow the first one of a character
unfoldable pub bytes_behind : ℕ → Option ℕ
bytes_behind b =
    if nat_le b 0x7F then Some 0
    else if is_within 0xC0 0xDF b then Some 1
    else if is_within 0xE0 0xEF b then Some 2
    else if is_within 0xF0 0xF7 b then Some 3
    else None

-- so many more bytes of a character
unfoldable pub trailing_bytes : Mark → ℕ → List ℕ → UriState → Result (List ℕ × UriState) Fault
trailing_bytes start zero bytes s = Ok (bytes, s)
trailing_bytes start (suc count) bytes s = escaped_byte start s >>= λ x. if is_within 0x80 0xBF x.0 then trailing_bytes
    start count (bytes ++ x.0 ∷ []) x.1 else fails_at InvalidTagUtf8TrailingByte start

-- the character that some bytes spell
abbrev pub spelled_char : Mark → List ℕ → UriState → Result (Option (List ℕ) × UriState) Fault
spelled_char start bytes s = if is_utf8 bytes then Ok (Some (chars bytes), s) else fails_at InvalidTagUtf8 start

abbrev pub escaped_by : Mark → Option ℕ → ℕ → UriState → Result (Option (List ℕ) × UriState) Fault
escaped_by start None b s = fails_at InvalidTagUtf8LeadingByte start
escaped_by start (Some count) b s = trailing_bytes start count (b ∷ []) s >>= λ x. spelled_char start x.0 x.1

-- the next character of a URI, an escaped one decoded
unfoldable pub uri_turn : (ℕ → Bool) → Mark → UriState → Result (Option (List ℕ) × UriState) Fault
uri_turn test start s =
    if not (test (next_char s.here)) then Ok (None, s)
    else if next_char s.here == 0x25 then (escaped_byte start s >>= λ x. escaped_by start (bytes_behind x.0) x.0 x.1)
    else (spent s.budget 1 start >>= λ left. Ok
    (Some (next_char s.here ∷ []), record { here = step s.here; budget = left }))

abbrev pub uri_len : UriState → ℕ
uri_len s = text_len s.here

-- the characters of a class that NUL isn't in, escaped ones decoded
abbrev pub decoded : (ℕ → Bool) → Mark → Option Budget → Here → Result (List ℕ × UriState) Fault
decoded test start budget h = pieces uri_len (uri_turn test start) (record { here = h; budget = budget })

-- ---- tags (6.9.1)

-- a tag by its handle and what follows it, its escapes decoded
pub record TagRead : Type 0 where
  pub handle : List ℕ
  pub suffix : List ℕ

abbrev pub tag_of : (handle suffix : List ℕ) → TagRead
tag_of handle suffix = record { handle = handle; suffix = suffix }

-- a tag that ends here, with what may follow it
unfoldable pub tag_ends : Bool → Mark → TagRead → Here → Result (TagRead × Here) Fault
tag_ends in_flow start tag h =
    if is_blank_or_breakz (next_char h) || (in_flow
    && (next_char h == 0x2C || (next_char h == 0x5D || next_char h == 0x7D))) then Ok (tag, h)
    else fails_at InvalidTagTerminator start

-- `!<`, a URI and `>`
abbrev pub behind_verbatim : Bool → Mark → List ℕ → Here → Result (TagRead × Here) Fault
behind_verbatim in_flow start suffix h =
    if length suffix == 0 then fails_at MissingTagUri start
    else if not (next_char h == 0x3E) then fails_at UnclosedVerbatimTag start
    else tag_ends in_flow start (tag_of [] suffix) (step h)

-- a handle of a name, and a suffix
abbrev pub behind_handle : Bool → Mark → List ℕ → List ℕ → Here → Result (TagRead × Here) Fault
behind_handle in_flow start handle suffix h =
    if length suffix == 0 then fails_at MissingTagUri start
    else tag_ends in_flow start (tag_of handle suffix) h

-- `!` and a suffix, or `!` alone
abbrev pub short_tag : List ℕ → TagRead
short_tag [] = tag_of [] (0x21 ∷ [])
short_tag (c ∷ cs) = tag_of (0x21 ∷ []) (c ∷ cs)

-- a tag whose `!` stands here, by the place behind the word that follows it
abbrev pub tag_by : Bool → Here → Here → Result (TagRead × Here) Fault
tag_by in_flow h word =
    if next_char word == 0x21 then (decoded is_tag_char (mark_of h) None (step word) >>= λ x. behind_handle in_flow
    (mark_of h) (text_up_to h (step word)) x.0 x.1.here)
    else (decoded is_tag_char (mark_of h) None word >>= λ x. tag_ends in_flow (mark_of h)
    (short_tag (text_up_to (step h) word ++ x.0)) x.1.here)

-- the tag that begins here with its `!`, and the place behind it
unfoldable pub tag_at : (in_flow : Bool) → Here → Result (TagRead × Here) Fault
tag_at in_flow h =
    if slice_index h.unread.text 1 == 0x3C then
    (decoded is_uri_char (mark_of h) None (steps 2 h) >>= λ x. behind_verbatim in_flow (mark_of h) x.0 x.1.here)
    else tag_by in_flow h (past is_alpha (step h))

-- ---- anchors and aliases (6.9.2, 7.1)

abbrev pub name_up_to : Here → Here → Result (Written × Here) Fault
name_up_to h after =
    if count_up_to (step h) after == 0 then fails_at MissingAnchorOrAliasName (mark_of h)
    else Ok (as_spelled h (text_up_to (step h) after), after)

-- the name behind an `&` or `*` that stands here, and the place behind it
unfoldable pub name_at : Here → Result (Written × Here) Fault
name_at h = name_up_to h (past is_anchor_char (step h))
