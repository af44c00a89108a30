-- Canonical text stands in front of what follows: what is written, and then that.
-- what a function writes stands in front of what it is given
use Rattle.std.proofs.Common.{Bool, List, [], ap, append_assoc, false, refl, sym, true, ℕ}
use Rattle.std.proofs.Common.{◌++◌, ◌==◌, ◌||◌, ◌∙◌, ◌∷◌, ◌≡◌}
use Rattle.std.specs.Prelude.{if◌then◌else◌, nat_le}
use Rattle.granit_base.specs.Classes.{is_within, is_word_char}
use Rattle.granit_model.specs.FlowText.{eight_digits, four_digits, quoted_character, quoted_characters, tag_byte}
use Rattle.granit_model.specs.FlowText.{tag_bytes, two_digits}

abbrev pub Fronts : (List ℕ → List ℕ) → Type 0
Fronts write = (rest : List ℕ) → write rest ≡ write [] ++ rest

-- one write in front of another
pub both : (f g : List ℕ → List ℕ) → Fronts f → Fronts g → Fronts (λ rest. f (g rest))
both f g p q rest =
    p (g rest) ∙ ap (λ (l : List ℕ). f [] ++ l) (q rest) ∙ sym (append_assoc (f []) (g []) rest)
    ∙ ap (λ (l : List ℕ). l ++ rest) (sym (p (g [])))

-- a byte of a tag, by whether it stands for itself
abbrev pub byte_by : Bool → ℕ → List ℕ → List ℕ
byte_by word b rest = if word then b ∷ rest else 0x25 ∷ two_digits b rest

byte_by_front : (word : Bool) (b : ℕ) → Fronts (byte_by word b)
byte_by_front true b = λ rest. refl
byte_by_front false b = λ rest. refl

tag_byte_front : (b : ℕ) → Fronts (tag_byte b)
unfolding tag_byte
tag_byte_front b = byte_by_front (is_word_char b || ((b == 0x3A || b == 0x2C) || (b == 0x2E || b == 0x2F))) b

pub tag_bytes_front : (bs : List ℕ) → Fronts (tag_bytes bs)
tag_bytes_front [] = λ rest. refl
tag_bytes_front (b ∷ bs) = both (tag_byte b) (tag_bytes bs) (tag_byte_front b) (tag_bytes_front bs)

-- a character by the tests of its class
abbrev pub character_by : (quote plain byte short : Bool) → ℕ → List ℕ → List ℕ
character_by quote plain byte short c rest =
    if quote then 0x5C ∷ c ∷ rest
    else if plain then c ∷ rest
    else if byte then 0x5C ∷ 0x78 ∷ two_digits c rest
    else if short then 0x5C ∷ 0x75 ∷ four_digits c rest
    else 0x5C ∷ 0x55 ∷ eight_digits c rest

character_by_front : (quote plain byte short : Bool) (c : ℕ) → Fronts (character_by quote plain byte short c)
character_by_front true plain byte short c = λ rest. refl
character_by_front false true byte short c = λ rest. refl
character_by_front false false true short c = λ rest. refl
character_by_front false false false true c = λ rest. refl
character_by_front false false false false c = λ rest. refl

pub quoted_character_front : (c : ℕ) → Fronts (quoted_character c)
unfolding quoted_character
quoted_character_front c = character_by_front (c == 0x22 || c == 0x5C) (is_within 0x20 0x7E c) (nat_le c 0xFF)
    (nat_le c 0xFFFF) c

pub quoted_front : (cs : List ℕ) → Fronts (quoted_characters cs)
quoted_front [] = λ rest. refl
quoted_front (c ∷ cs) = both (quoted_character c) (quoted_characters cs) (quoted_character_front c) (quoted_front cs)
