-- What is written for a tag spells it, and names are of characters that a name may have.
use Rattle.std.proofs.Common.{Bool, List, [], ap, arith, cond, false, length, refl, subst, suc, true, ℕ, ⊎_elim, ◌++◌}
use Rattle.std.proofs.Common.{◌+◌, ◌/◌, ◌<◌, ◌==◌, ◌||◌, ◌∷◌, ◌≡◌, ◌≢◌}
use Rattle.std.proofs.lemmas.Bool.{and_parts}
use Rattle.std.proofs.lemmas.Bool.Decides.{nat_tests}
use Rattle.std.proofs.lemmas.Str.{len_utf8_bounds, length-encode}
use Rattle.std.specs.List.{AllPass}
use Rattle.std.specs.Prelude.{◌%◌}
use Rattle.std.specs.Str.{encode_utf8_all}
use lib.Dec.{ltb}
use lib.Utf8.{encode, next, scalar, scalar_cases, scalars}
use Rattle.granit_base.specs.Classes.{is_digit, is_uri_char, is_uri_sign, is_word_char}
use Rattle.granit_canonical_steps.proofs.Fronts.{byte_by}
use Rattle.granit_canonical_steps.proofs.Quoting.{digit_is_hex, digit_writes}
use Rattle.granit_lexemes.specs.Gap.{Each}
use Rattle.granit_lexemes.specs.TagExtent.{itself, nothing}
use Rattle.granit_lexemes.specs.TagExtent.{SpellsBytes, percent}
use Rattle.granit_model.specs.FlowText.{tag_byte, tag_bytes, two_digits}

-- numbers below 256
abbrev pub AreBytes : List ℕ → Type 0
AreBytes [] = Unit {0}
AreBytes (b ∷ bs) = (b < 0x100) × AreBytes bs

last_scalar : (c : ℕ) → scalar c ≡ true → c < 0x110000
last_scalar c s = ⊎_elim (λ h. omega (arith, h)) (λ h. h.1) (scalar_cases c s)

-- the bytes of a character
encoded : (one two three : Bool) (c : ℕ) → ltb c 128 ≡ one → ltb c 2048 ≡ two → ltb c 65536 ≡ three → c < 0x110000
    → AreBytes (cond one (c ∷ []) (cond two ((192 + c / 64) ∷ next c ∷ [])
    (cond three ((224 + c / 4096) ∷ next (c / 64) ∷ next c ∷ [])
    ((240 + c / 262144) ∷ next (c / 4096) ∷ next (c / 64) ∷ next c ∷ []))))
encoded true two three c e f g h = (grind (arith, nat_tests), tt)
encoded false true three c e f g h = let k : c < 2048 = grind (arith, nat_tests) in (omega arith, (omega arith, tt))
encoded false false true c e f g h = let k : c < 65536 = grind
    (arith, nat_tests) in (omega arith, (omega arith, (omega arith, tt)))
encoded false false false c e f g h = (omega arith, (omega arith, (omega arith, (omega arith, tt))))

are_bytes : (c : ℕ) → scalar c ≡ true → AreBytes (encode c)
unfolding encode
are_bytes c s = encoded (ltb c 128) (ltb c 2048) (ltb c 65536) c refl refl refl (last_scalar c s)

bytes_and : (xs ys : List ℕ) → AreBytes xs → AreBytes ys → AreBytes (xs ++ ys)
bytes_and [] ys h k = k
bytes_and (x ∷ xs) ys h k = (h.0, bytes_and xs ys h.1 k)

-- the UTF-8 of a text is of bytes
pub utf8_bytes : (text : List ℕ) → scalars text ≡ true → AreBytes (encode_utf8_all text)
utf8_bytes [] e = tt
utf8_bytes (c ∷ cs) e = bytes_and (encode c) (encode_utf8_all cs) (are_bytes c (and_parts (scalar c) (scalars cs) e).0)
    (utf8_bytes cs (and_parts (scalar c) (scalars cs) e).1)

append_some : (xs ys : List ℕ) → xs ≢ [] → xs ++ ys ≢ []
append_some [] ys h e = h refl
append_some (x ∷ xs) ys h e = cc

encode_some : (c : ℕ) → encode c ≢ []
encode_some c e = omega (arith, ap (length {A = ℕ}) e, length-encode c, len_utf8_bounds c)

utf8_some : (text : List ℕ) → text ≢ [] → encode_utf8_all text ≢ []
utf8_some [] h e = h refl
utf8_some (c ∷ cs) h e = append_some (encode c) (encode_utf8_all cs) (encode_some c) e

-- a byte that is written as it stands
abbrev pub stands_itself : ℕ → Bool
stands_itself b = is_word_char b || ((b == 0x3A || b == 0x2C) || (b == 0x2E || b == 0x2F))

uri_is : (b : ℕ) → stands_itself b ≡ true → is_uri_char b ≡ true
unfolding is_uri_char is_uri_sign
uri_is b h = by (is_word_char b) h
  where
    by : (word : Bool) → (word || ((b == 0x3A || b == 0x2C) || (b == 0x2E || b == 0x2F))) ≡ true
        → (word || is_uri_sign b) ≡ true
    by true e = refl
    by false e = grind (arith, nat_tests)

no_percent : (b : ℕ) → stands_itself b ≡ true → (b == 0x25) ≡ false
unfolding is_word_char is_digit
no_percent b h = grind (arith, nat_tests)

byte_spells : (itself_so : Bool) (b : ℕ) (rest bytes : List ℕ) → stands_itself b ≡ itself_so → b < 0x100
    → SpellsBytes is_uri_char rest bytes → SpellsBytes is_uri_char (byte_by itself_so b rest) (b ∷ bytes)
byte_spells true b rest bytes e h r = itself (uri_is b e) (no_percent b e) r
byte_spells false b rest bytes e h r =
    subst (λ n. SpellsBytes is_uri_char (0x25 ∷ two_digits b rest) (n ∷ bytes))
    (omega (arith, digit_writes (b / 16) (omega arith), digit_writes (b % 16) (omega arith)))
    (percent (digit_is_hex (b / 16) (omega arith)) (digit_is_hex (b % 16) (omega arith)) r)

tag_byte_spells : (b : ℕ) (rest bytes : List ℕ) → b < 0x100 → SpellsBytes is_uri_char rest bytes
    → SpellsBytes is_uri_char (tag_byte b rest) (b ∷ bytes)
unfolding tag_byte
tag_byte_spells b rest bytes h r = byte_spells (stands_itself b) b rest bytes refl h r

-- what is written for bytes spells them
pub bytes_spell : (bs : List ℕ) → AreBytes bs → SpellsBytes is_uri_char (tag_bytes bs []) bs
bytes_spell [] h = nothing
bytes_spell (b ∷ bs) h = tag_byte_spells b (tag_bytes bs []) bs h.0 (bytes_spell bs h.1)

by_some : (itself_so : Bool) (b : ℕ) (rest : List ℕ) → byte_by itself_so b rest ≢ []
by_some true b rest e = cc
by_some false b rest e = cc

tag_byte_some : (b : ℕ) (rest : List ℕ) → tag_byte b rest ≢ []
unfolding tag_byte
tag_byte_some b rest = by_some (stands_itself b) b rest

bytes_some : (bs : List ℕ) → bs ≢ [] → tag_bytes bs [] ≢ []
bytes_some [] h = h
bytes_some (b ∷ bs) h = tag_byte_some b (tag_bytes bs [])

-- and something is written for a tag that isn't empty
pub uri_some : (tag : List ℕ) → tag ≢ [] → tag_bytes (encode_utf8_all tag) [] ≢ []
uri_some tag h = bytes_some (encode_utf8_all tag) (utf8_some tag h)

-- each character of a name passes
pub each_of : (test : ℕ → Bool) (name : List ℕ) → AllPass test name → Each test name
each_of test [] h = tt
each_of test (c ∷ cs) h = (h 0 c (omega arith), each_of test cs (λ k d l. h (suc k) d (omega arith)))
