-- What characters of a class spell, put together and taken apart.
use Rattle.std.proofs.Common.{◌≡◌, ℕ, ◌+◌, ◌/◌, ◌<◌, ◌≤◌, ◌==◌, Bool, true, false, ◌&&◌, List, [], ◌∷◌, ◌++◌, length}
use Rattle.std.proofs.Common.{append_assoc, Some, refl, sym, ap, ap₂, ◌∙◌, subst, arith, ◌⊎◌, inl, inr}
use Rattle.std.proofs.lemmas.Bool.{and_parts, cases_lt}
use Rattle.std.proofs.lemmas.Bool.Decides.{nat_tests}
use Rattle.std.proofs.lemmas.Str.{encodes-append, encode_ascii, encodes_same}
use lib.Dec.{ltb}
use lib.Utf8.{scalar, scalars, encode, next, scalar_cases, low_scalar}
use Rattle.granit_base.specs.Classes.{is_digit, is_hex, is_word_char, is_uri_sign, is_uri_char, is_flow, is_tag_char}
use Rattle.granit_lexemes.specs.Gap.{Each}
use Rattle.granit_lexemes.specs.Tags.{bytes_behind}
use Rattle.granit_lexemes.specs.TagExtent.{byte_of, SpellsBytes, nothing, itself, percent, SpellsText, Escapes, no_more}
use Rattle.granit_lexemes.specs.TagExtent.{one_more, is_trailing}

-- a class of characters that URIs have: ASCII, with `%` and digits
pub record IsUriClass (test : ℕ → Bool) : Type 0 where
  pub nul : test 0 ≡ false
  pub sign : test 0x25 ≡ true
  pub small : (c : ℕ) → test c ≡ true → c < 128
  pub digit : (c : ℕ) → is_hex c ≡ true → test c ≡ true

uri_small : (c : ℕ) → is_uri_char c ≡ true → c < 128
unfolding is_uri_char is_word_char is_uri_sign is_digit
uri_small c e = grind (arith, nat_tests)

uri_digit : (c : ℕ) → is_hex c ≡ true → is_uri_char c ≡ true
unfolding is_hex is_uri_char is_word_char is_digit
uri_digit c e = grind (arith, nat_tests)

pub uri_class : IsUriClass is_uri_char
unfolding is_uri_char is_word_char is_uri_sign is_digit
uri_class = record { nul = refl; sign = refl; small = uri_small; digit = uri_digit }

tag_small : (c : ℕ) → is_tag_char c ≡ true → c < 128
unfolding is_tag_char
tag_small c e = uri_small c (and_parts _ _ e).0

tag_digit : (c : ℕ) → is_hex c ≡ true → is_tag_char c ≡ true
unfolding is_hex is_tag_char is_uri_char is_word_char is_digit is_flow
tag_digit c e = grind (arith, nat_tests)

pub tag_class : IsUriClass is_tag_char
unfolding is_tag_char is_flow is_uri_char is_word_char is_uri_sign is_digit
tag_class = record { nul = refl; sign = refl; small = tag_small; digit = tag_digit }

-- ---- put together

pub escapes_spell : {source bytes : List ℕ} (test : ℕ → Bool) → Escapes source bytes → SpellsBytes test source bytes
escapes_spell test no_more = nothing
escapes_spell test (one_more p q e) = percent p q (escapes_spell test e)

pub spells-append : {test : ℕ → Bool} {a s : List ℕ} (b t : List ℕ) → SpellsBytes test a s → SpellsBytes test b t
    → SpellsBytes test (a ++ b) (s ++ t)
spells-append b t nothing q = q
spells-append b t (itself y n p) q = itself y n (spells-append b t p q)
spells-append b t (percent y z p) q = percent y z (spells-append b t p q)

pub escapes-append : {a s : List ℕ} (b t : List ℕ) → Escapes a s → Escapes b t → Escapes (a ++ b) (s ++ t)
escapes-append b t no_more q = q
escapes-append b t (one_more y z p) q = one_more y z (escapes-append b t p q)

scalars_both : (s t : List ℕ) → scalars s ≡ true → scalars t ≡ true → scalars (s ++ t) ≡ true
scalars_both [] t p q = q
scalars_both (c ∷ s) t p q = let h = and_parts (scalar c) (scalars s) p in ap₂ (λ a b. a && b) h.0
    (scalars_both s t h.1 q)

pub text-append : {test : ℕ → Bool} {a s b t : List ℕ} → SpellsText test a s → SpellsText test b t
    → SpellsText test (a ++ b) (s ++ t)
text-append {a = a} {s = s} {b = b} {t = t} p q = record {
  bytes = p.bytes ++ q.bytes;
  spells = spells-append b q.bytes p.spells q.spells;
  scalar = scalars_both s t p.scalar q.scalar;
  encodes = encodes-append s t ∙ ap₂ (λ (x y : List ℕ). x ++ y) p.encodes q.encodes;
}

pub empty_spells : (test : ℕ → Bool) → SpellsText test [] []
empty_spells test = record { bytes = []; spells = nothing; scalar = refl; encodes = refl }

-- an ASCII character that stands for itself
pub one_text : {test : ℕ → Bool} (c : ℕ) → IsUriClass test → test c ≡ true → (c == 0x25) ≡ false
    → SpellsText test (c ∷ []) (c ∷ [])
one_text c k y n = record {
  bytes = c ∷ [];
  spells = itself y n nothing;
  scalar = ap (λ b. b && true) (low_scalar c (let s = k.small c y in omega arith));
  encodes = ap (λ (l : List ℕ). l ++ []) (encode_ascii c (k.small c y));
}

-- ---- taken apart

-- all characters are of the class
pub spelled_each : {test : ℕ → Bool} {source bytes : List ℕ} → IsUriClass test → SpellsBytes test source bytes
    → Each test source
spelled_each k nothing = tt
spelled_each k (itself y n p) = (y, spelled_each k p)
spelled_each k (percent y z p) = (k.sign, (k.digit _ y, (k.digit _ z, spelled_each k p)))

not_percent : (c : ℕ) → c ≡ 0x25 → (c == 0x25) ≡ false → ⊥
not_percent c e n = grind (arith, nat_tests)

-- characters spell one row of bytes
pub one_row : {test : ℕ → Bool} {source bytes : List ℕ} (other row : List ℕ) → source ≡ other
    → SpellsBytes test source bytes → SpellsBytes test other row → bytes ≡ row
one_row other row e nothing nothing = refl
one_row other row e nothing (itself y n q) = cc
one_row other row e nothing (percent y z q) = cc
one_row other row e (itself y n p) nothing = cc
one_row other row e (percent y z p) nothing = cc
one_row other row e (itself {c} {source} y n p) (itself {c = d} {source = more} {bytes = ds} z m q) =
    let h : c ≡ d = cc in
    let t : source ≡ more = cc in
    ap₂ (λ k (l : List ℕ). k ∷ l) h (one_row more ds t p q)
one_row other row e (itself {c} y n p) (percent z w q) = absurd (not_percent c (cc) n)
one_row other row e (percent y z p) (itself {c = d} w m q) = absurd (not_percent d (cc) m)
one_row other row e (percent {high} {low} {source} y z p)
    (percent {high = a} {low = b} {source = more} {bytes = ds} v w q) =
    let h : high ≡ a = cc in
    let g : low ≡ b = cc in
    let t : source ≡ more = cc in
    ap₂ (λ k (l : List ℕ). k ∷ l) (ap₂ byte_of h g) (one_row more ds t p q)

-- and one text
pub one_spelled : {test : ℕ → Bool} (source other text more : List ℕ) → source ≡ other → SpellsText test source text
    → SpellsText test other more → text ≡ more
one_spelled source other text more e p q = encodes_same text more
    (p.encodes ∙ one_row other q.bytes e p.spells q.spells ∙ sym q.encodes)

-- bytes that no character of the class is
abbrev pub AreHigh : List ℕ → Type 0
AreHigh [] = Unit {0}
AreHigh (b ∷ bs) = (128 ≤ b) × AreHigh bs

-- escapes in front, and what is spelled behind them
pub record Parted (test : ℕ → Bool) (source highs bytes : List ℕ) : Type 0 where
  pub front : List ℕ
  pub rest : List ℕ
  pub whole : source ≡ front ++ rest
  pub escapes : Escapes front highs
  pub spells : SpellsBytes test rest bytes

part_one : {test : ℕ → Bool} (source bytes : List ℕ) (b : ℕ) (row : List ℕ) → IsUriClass test → 128 ≤ b
    → row ≡ b ∷ bytes → SpellsBytes test source row → Parted test source (b ∷ []) bytes
part_one source bytes b row k l e nothing = cc
part_one source bytes b row k l e (itself {c} y n p) = absurd
    (let same : c ≡ b = cc in let s = k.small c y in omega arith)
part_one {test} source bytes b row k l e (percent {high} {low} {source = s} {bytes = bs} y z p) =
    let same : byte_of high low ≡ b = cc in
    let more : bs ≡ bytes = cc in
    record {
      front = 0x25 ∷ high ∷ low ∷ [];
      rest = s;
      whole = refl;
      escapes = subst (λ x. Escapes (0x25 ∷ high ∷ low ∷ []) (x ∷ [])) same (one_more y z no_more);
      spells = subst (SpellsBytes test s) more p;
    }

pub part : {test : ℕ → Bool} (highs source bytes : List ℕ) → IsUriClass test → AreHigh highs
    → SpellsBytes test source (highs ++ bytes) → Parted test source highs bytes
part [] source bytes k h p = record { front = []; rest = source; whole = refl; escapes = no_more; spells = p }
part (b ∷ highs) source bytes k h p =
    let a = part_one source (highs ++ bytes) b (b ∷ (highs ++ bytes)) k h.0 refl p in
    let d = part highs a.rest bytes k h.1 a.spells in
    record {
      front = a.front ++ d.front;
      rest = d.rest;
      whole = a.whole ∙ ap (λ (l : List ℕ). a.front ++ l) d.whole ∙ sym (append_assoc a.front d.front d.rest);
      escapes = escapes-append d.front highs a.escapes d.escapes;
      spells = d.spells;
    }

-- ---- the bytes of a character

-- its first byte tells how many follow
pub record Rows (c : ℕ) : Type 0 where
  pub lead : ℕ
  pub more : List ℕ
  pub is : encode c ≡ lead ∷ more
  pub wants : bytes_behind lead ≡ Some (length more)
  pub each : Each is_trailing more
  pub high : 128 ≤ c → AreHigh (lead ∷ more)

trails : (b : ℕ) → 128 ≤ b → b < 192 → is_trailing b ≡ true
trails b l h = grind (arith, nat_tests)

wants_none : (b : ℕ) → b < 128 → bytes_behind b ≡ Some 0
unfolding bytes_behind
wants_none b h = grind (arith, nat_tests)

wants_one : (b : ℕ) → 192 ≤ b → b < 224 → bytes_behind b ≡ Some 1
unfolding bytes_behind
wants_one b l h = grind (arith, nat_tests)

wants_two : (b : ℕ) → 224 ≤ b → b < 240 → bytes_behind b ≡ Some 2
unfolding bytes_behind
wants_two b l h = grind (arith, nat_tests)

wants_three : (b : ℕ) → 240 ≤ b → b < 248 → bytes_behind b ≡ Some 3
unfolding bytes_behind
wants_three b l h = grind (arith, nat_tests)

-- the second byte of two, and those behind it
follows : (x : ℕ) → (128 ≤ next x) × (next x < 192)
follows x = (omega arith, omega arith)

next_trails : (x : ℕ) → is_trailing (next x) ≡ true
next_trails x = let f = follows x in trails (next x) f.0 f.1

two_rows : (c : ℕ) → 128 ≤ c → c < 2048 → encode c ≡ (192 + c / 64) ∷ next c ∷ []
unfolding encode
two_rows c l h =
    let a : ltb c 128 ≡ false = grind (arith, nat_tests) in
    let b : ltb c 2048 ≡ true = grind (arith, nat_tests) in
    rw (a, b) refl

three_rows : (c : ℕ) → 2048 ≤ c → c < 65536 → encode c ≡ (224 + c / 4096) ∷ next (c / 64) ∷ next c ∷ []
unfolding encode
three_rows c l h =
    let a : ltb c 128 ≡ false = grind (arith, nat_tests) in
    let b : ltb c 2048 ≡ false = grind (arith, nat_tests) in
    let d : ltb c 65536 ≡ true = grind (arith, nat_tests) in
    rw (a, b, d) refl

four_rows : (c : ℕ) → 65536 ≤ c → encode c ≡ (240 + c / 262144) ∷ next (c / 4096) ∷ next (c / 64) ∷ next c ∷ []
unfolding encode
four_rows c l =
    let a : ltb c 128 ≡ false = grind (arith, nat_tests) in
    let b : ltb c 2048 ≡ false = grind (arith, nat_tests) in
    let d : ltb c 65536 ≡ false = grind (arith, nat_tests) in
    rw (a, b, d) refl

below : (c : ℕ) → (c < 55296) ⊎ ((57344 ≤ c) × (c < 1114112)) → c < 1114112
below c (inl h) = omega arith
below c (inr h) = h.1

rows_by :
    (c : ℕ) → c < 1114112 → (c < 128) ⊎ (128 ≤ c) → (c < 2048) ⊎ (2048 ≤ c) → (c < 65536) ⊎ (65536 ≤ c) →
    Rows c
rows_by c top (inl h) _ _ = record {
  lead = c;
  more = [];
  is = encode_ascii c h;
  wants = wants_none c h;
  each = tt;
  high = λ l. absurd (omega arith);
}
rows_by c top (inr l) (inl h) _ = record {
  lead = 192 + c / 64;
  more = next c ∷ [];
  is = two_rows c l h;
  wants = wants_one (192 + c / 64) (omega arith) (omega arith);
  each = (next_trails c, tt);
  high = λ _. (omega arith, ((follows c).0, tt));
}
rows_by c top (inr _) (inr l) (inl h) = record {
  lead = 224 + c / 4096;
  more = next (c / 64) ∷ next c ∷ [];
  is = three_rows c l h;
  wants = wants_two (224 + c / 4096) (omega arith) (omega arith);
  each = (next_trails (c / 64), (next_trails c, tt));
  high = λ _. (omega arith, ((follows (c / 64)).0, ((follows c).0, tt)));
}
rows_by c top (inr _) (inr _) (inr l) = record {
  lead = 240 + c / 262144;
  more = next (c / 4096) ∷ next (c / 64) ∷ next c ∷ [];
  is = four_rows c l;
  wants = wants_three (240 + c / 262144) (omega arith) (omega arith);
  each = (next_trails (c / 4096), (next_trails (c / 64), (next_trails c, tt)));
  high = λ _. (omega arith, ((follows (c / 4096)).0, ((follows (c / 64)).0, ((follows c).0, tt))));
}

pub rows : (c : ℕ) → scalar c ≡ true → Rows c
rows c s = rows_by c (below c (scalar_cases c s)) (cases_lt c 128) (cases_lt c 2048) (cases_lt c 65536)
