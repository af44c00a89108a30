-- No line ends, and no tab stands, in a name, a tag or a quoted scalar of canonical text.
use Rattle.std.proofs.Common.{Bool, List, [], arith, false, refl, subst, true, ℕ, ◌+◌, ◌/◌, ◌<◌, ◌==◌, ◌||◌}
use Rattle.std.proofs.Common.{◌∷◌, ◌≡◌}
use Rattle.std.proofs.lemmas.Bool.Decides.{nat_tests}
use Rattle.std.specs.Prelude.{if◌then◌else◌, nat_le, nat_lt, ◌%◌}
use Rattle.std.specs.Str.{encode_utf8_all}
use Rattle.granit_base.specs.Classes.{is_anchor_char, is_blank, is_break, is_digit}
use Rattle.granit_base.specs.Classes.{is_within, is_word_char, is_yaml_non_break, is_yaml_non_space}
use Rattle.granit_block_lines.proofs.Lines.{is_flat}
use Rattle.granit_canonical_steps.proofs.Fronts.{byte_by, character_by, tag_bytes_front}
use Rattle.granit_canonical_steps.proofs.Names.{tag_source}
use Rattle.granit_canonical_steps.proofs.Naming.{stands_itself}
use Rattle.granit_lexemes.specs.Gap.{Each}
use Rattle.granit_model.specs.FlowText.{eight_digits, four_digits, quoted_character, quoted_characters, tag_byte}
use Rattle.granit_model.specs.FlowText.{tag_bytes, two_digits, upper_digit}

pub high_flat : (c : ℕ) → 0x0D < c → is_flat c ≡ true
unfolding is_break
high_flat c h = grind (arith, nat_tests)

anchor_flat : (c : ℕ) → is_anchor_char c ≡ true → is_flat c ≡ true
unfolding is_anchor_char is_yaml_non_space is_yaml_non_break is_blank is_break
anchor_flat c h = grind (arith, nat_tests)

pub name_flat : (name : List ℕ) → Each is_anchor_char name → Each is_flat name
name_flat [] h = tt
name_flat (c ∷ cs) h = (anchor_flat c h.0, name_flat cs h.1)

-- ---- digits

digit_by : (v : Bool) (d : ℕ) → nat_lt d 10 ≡ v → 0x0D < (if v then d + 0x30 else d + 0x37)
digit_by true d e = omega arith
digit_by false d e = omega arith

digit_flat : (d : ℕ) → is_flat (upper_digit d) ≡ true
unfolding upper_digit
digit_flat d = high_flat (if nat_lt d 10 then d + 0x30 else d + 0x37) (digit_by (nat_lt d 10) d refl)

two_flat : (n : ℕ) (rest : List ℕ) → Each is_flat rest → Each is_flat (two_digits n rest)
two_flat n rest h = (digit_flat (n / 16), (digit_flat (n % 16), h))

four_flat : (n : ℕ) (rest : List ℕ) → Each is_flat rest → Each is_flat (four_digits n rest)
four_flat n rest h = two_flat (n / 0x100) (two_digits (n % 0x100) rest) (two_flat (n % 0x100) rest h)

eight_flat : (n : ℕ) (rest : List ℕ) → Each is_flat rest → Each is_flat (eight_digits n rest)
eight_flat n rest h = four_flat (n / 0x10000) (four_digits (n % 0x10000) rest) (four_flat (n % 0x10000) rest h)

-- ---- tags

itself_high : (b : ℕ) → stands_itself b ≡ true → 0x0D < b
unfolding is_word_char is_digit
itself_high b h = grind (arith, nat_tests)

byte_flat : (v : Bool) (b : ℕ) (rest : List ℕ) → stands_itself b ≡ v → Each is_flat rest
    → Each is_flat (byte_by v b rest)
byte_flat true b rest e h = (high_flat b (itself_high b e), h)
byte_flat false b rest e h = (high_flat 0x25 (omega arith), two_flat b rest h)

tag_byte_flat : (b : ℕ) (rest : List ℕ) → Each is_flat rest → Each is_flat (tag_byte b rest)
unfolding tag_byte
tag_byte_flat b rest h = byte_flat (stands_itself b) b rest refl h

bytes_flat : (bs rest : List ℕ) → Each is_flat rest → Each is_flat (tag_bytes bs rest)
bytes_flat [] rest h = h
bytes_flat (b ∷ bs) rest h = tag_byte_flat b (tag_bytes bs rest) (bytes_flat bs rest h)

pub tag_flat : (name : List ℕ) → Each is_flat (tag_source name)
tag_flat name = (
  high_flat 0x21 (omega arith),
  (
    high_flat 0x3C (omega arith),
    subst (Each is_flat) (tag_bytes_front (encode_utf8_all name) (0x3E ∷ []))
        (bytes_flat (encode_utf8_all name) (0x3E ∷ []) (high_flat 0x3E (omega arith), tt)),
  ),
)

-- ---- scalars

escaped_high : (c : ℕ) → (c == 0x22 || c == 0x5C) ≡ true → 0x0D < c
escaped_high c h = grind (arith, nat_tests)

plain_high : (c : ℕ) → is_within 0x20 0x7E c ≡ true → 0x0D < c
plain_high c h = grind (arith, nat_tests)

character_flat : (quote plain byte short : Bool) (c : ℕ) (rest : List ℕ) → (c == 0x22 || c == 0x5C) ≡ quote
    → is_within 0x20 0x7E c ≡ plain → Each is_flat rest → Each is_flat (character_by quote plain byte short c rest)
character_flat true plain byte short c rest e f h =
    (high_flat 0x5C (omega arith), (high_flat c (escaped_high c e), h))
character_flat false true byte short c rest e f h = (high_flat c (plain_high c f), h)
character_flat false false true short c rest e f h =
    (high_flat 0x5C (omega arith), (high_flat 0x78 (omega arith), two_flat c rest h))
character_flat false false false true c rest e f h =
    (high_flat 0x5C (omega arith), (high_flat 0x75 (omega arith), four_flat c rest h))
character_flat false false false false c rest e f h =
    (high_flat 0x5C (omega arith), (high_flat 0x55 (omega arith), eight_flat c rest h))

quoted_character_flat : (c : ℕ) (rest : List ℕ) → Each is_flat rest → Each is_flat (quoted_character c rest)
unfolding quoted_character
quoted_character_flat c rest h =
    character_flat (c == 0x22 || c == 0x5C) (is_within 0x20 0x7E c) (nat_le c 0xFF) (nat_le c 0xFFFF) c rest refl refl h

pub quoted_flat : (chars rest : List ℕ) → Each is_flat rest → Each is_flat (quoted_characters chars rest)
quoted_flat [] rest h = h
quoted_flat (c ∷ cs) rest h = quoted_character_flat c (quoted_characters cs rest) (quoted_flat cs rest h)
