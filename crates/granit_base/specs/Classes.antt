-- The classes of characters, as tests on code points (YAML 1.2.2, chapter 5).
use Rattle.std.specs.Prelude.{ℕ, Bool, ◌==◌, ◌||◌, ◌&&◌, ◌-◌, ◌+◌, not, if◌then◌else◌, nat_le}

abbrev pub is_within : ℕ → ℕ → ℕ → Bool
is_within low high c = nat_le low c && nat_le c high

-- NUL
unfoldable pub is_z : ℕ → Bool
is_z c = c == 0x00

-- a line feed or a carriage return (5.4)
unfoldable pub is_break : ℕ → Bool
is_break c = c == 0x0A || c == 0x0D

unfoldable pub is_breakz : ℕ → Bool
is_breakz c = is_break c || is_z c

-- a space or a tab (5.5)
unfoldable pub is_blank : ℕ → Bool
is_blank c = c == 0x20 || c == 0x09

unfoldable pub is_blank_or_breakz : ℕ → Bool
is_blank_or_breakz c = is_blank c || is_breakz c

-- any character but breaks and NUL
abbrev pub is_non_breakz : ℕ → Bool
is_non_breakz c = not (is_breakz c)

-- a decimal digit (5.6)
unfoldable pub is_digit : ℕ → Bool
is_digit c = is_within 0x30 0x39 c

-- a hexadecimal digit (5.6)
unfoldable pub is_hex : ℕ → Bool
is_hex c = (is_digit c || is_within 0x41 0x46 c) || is_within 0x61 0x66 c

-- the value of a hexadecimal digit, whose letters `A` and `a` are ten
unfoldable pub hex_value : ℕ → ℕ
hex_value c = if is_digit c then c - 0x30 else if is_within 0x41 0x46 c then 10 + (c - 0x41) else 10 + (c - 0x61)

-- a letter, a digit or `-` (5.6)
unfoldable pub is_word_char : ℕ → Bool
is_word_char c = ((is_digit c || is_within 0x41 0x5A c) || is_within 0x61 0x7A c) || c == 0x2D

-- a character of a word (5.6), or `_`
unfoldable pub is_alpha : ℕ → Bool
is_alpha c = is_word_char c || c == 0x5F

-- a flow indicator: `,` `[` `]` `{` `}` (5.3)
unfoldable pub is_flow : ℕ → Bool
is_flow c = (c == 0x2C || (c == 0x5B || c == 0x5D)) || (c == 0x7B || c == 0x7D)

-- the byte-order mark (5.2)
unfoldable pub is_bom : ℕ → Bool
is_bom c = c == 0xFEFF

-- a printable character (5.1)
unfoldable pub is_printable : ℕ → Bool
is_printable c =
    ((((c == 0x09 || is_break c) || is_within 0x20 0x7E c) || (c == 0x85 || is_within 0xA0 0xD7FF c))
    || is_within 0xE000 0xFFFD c) || is_within 0x10000 0x10FFFF c

-- a printable character but breaks and NUL: what a comment, and a line, is made of
abbrev pub is_line_char : ℕ → Bool
is_line_char c = not (is_breakz c) && is_printable c

-- printable, neither a break nor the byte-order mark (5.4)
unfoldable pub is_yaml_non_break : ℕ → Bool
is_yaml_non_break c = (is_printable c && not (is_break c)) && not (is_bom c)

-- the same without blanks (5.5)
unfoldable pub is_yaml_non_space : ℕ → Bool
is_yaml_non_space c = is_yaml_non_break c && not (is_blank c)

-- a character of an anchor's name (6.9.2)
unfoldable pub is_anchor_char : ℕ → Bool
is_anchor_char c = is_yaml_non_space c && not (is_flow c)

-- a sign that a URI may have beside words: # ; / ? : @ & = + $ , _ . ! ~ * ' ( ) [ ] %
unfoldable pub is_uri_sign : ℕ → Bool
is_uri_sign c =
    (((((((c == 0x23 || c == 0x3B) || c == 0x2F) || (c == 0x3F || c == 0x3A))
    || ((c == 0x40 || c == 0x26) || (c == 0x3D || c == 0x2B)))
    || ((c == 0x24 || c == 0x2C) || (c == 0x5F || c == 0x2E)))
    || ((c == 0x21 || c == 0x7E) || (c == 0x2A || c == 0x27)))
    || ((c == 0x28 || c == 0x29) || (c == 0x5B || c == 0x5D)))
    || c == 0x25

-- a character of a URI (5.6)
unfoldable pub is_uri_char : ℕ → Bool
is_uri_char c = is_word_char c || is_uri_sign c

-- a character of a tag's suffix (5.6)
unfoldable pub is_tag_char : ℕ → Bool
is_tag_char c = is_uri_char c && not (is_flow c || c == 0x21)

-- a blank or a break: what parts lexemes (6.1)
unfoldable pub is_gap : ℕ → Bool
is_gap c = is_blank c || is_break c
