-- Whether a character or a byte is in a text.
use Rattle.std.proofs.Common.{◌≡◌, ℕ, zero, suc, ◌-◌, ◌==◌, nat_eq, ◌||◌, Bool, true, false, List, [], ◌∷◌, ◌++◌}
use Rattle.std.proofs.Common.{length, drop, refl, sym, ap, ◌∙◌, inl, inr, arith}
use Rattle.std.specs.Char.{encode_utf8}
use Rattle.std.specs.List.{list_any}
use Rattle.std.specs.Str.{chars, encode_utf8_all, is_utf8}
use Rattle.std.proofs.lemmas.Bool.{cases_Bool, or_right}
use Rattle.std.proofs.lemmas.Bool.Decides.{nat_tests}
use Rattle.std.proofs.lemmas.Str.{encodes-chars, IsUtf8-from_is_utf8}
use Rattle.granit_runs.specs.White.{holds}
use Rattle.granit_runs.proofs.WhiteLemmas.{or_more}

pub any_holds : (c : ℕ) (xs : List ℕ) → list_any (λ y. nat_eq y c) xs ≡ holds c xs
any_holds c [] = refl
any_holds c (x ∷ xs) = ap (λ (b : Bool). (x == c) || b) (any_holds c xs)

holds_append : (c : ℕ) (xs ys : List ℕ) → holds c (xs ++ ys) ≡ (holds c xs || holds c ys)
holds_append c [] ys = refl
holds_append c (x ∷ xs) ys = ap (λ (b : Bool). (x == c) || b) (holds_append c xs ys)
    ∙ or_more (x == c) (holds c xs) (holds c ys)

holds_drop : (c n : ℕ) (xs : List ℕ) → holds c (drop n xs) ≡ true → holds c xs ≡ true
holds_drop c zero xs e = e
holds_drop c (suc n) [] e = e
holds_drop c (suc n) (x ∷ xs) e = or_right (x == c) (holds c xs) (holds_drop c n xs e)

-- a `#` of a text is one of its bytes
hash_encoded : (cs : List ℕ) → holds 0x23 cs ≡ true → holds 0x23 (encode_utf8_all cs) ≡ true
unfolding encode_utf8
hash_encoded [] e = e
hash_encoded (c ∷ cs) e =
    elim (cases_Bool (c == 0x23)) [
      | inl is ↦ (let same : c ≡ 0x23 = grind (arith, nat_tests, is) in rw
          (same, holds_append 0x23 (encode_utf8 0x23) (encode_utf8_all cs)) refl)
      | inr other ↦ (let more : holds 0x23 cs ≡ true = cc in
          holds_append 0x23 (encode_utf8 c) (encode_utf8_all cs)
          ∙ or_right (holds 0x23 (encode_utf8 c)) (holds 0x23 (encode_utf8_all cs)) (hash_encoded cs more))
    ]

-- where no byte of a source is a `#`, none is left
pub no_hash_left : (source rest : List ℕ) → drop (length source - length rest) source ≡ rest → is_utf8 rest ≡ true
    → holds 0x23 source ≡ false → holds 0x23 (chars rest) ≡ false
no_hash_left source rest suffix utf8 none =
    elim (cases_Bool (holds 0x23 (chars rest))) [
      | inl some ↦ absurd (
          let bytes : holds 0x23 rest ≡ true = ap (holds 0x23)
          (sym (encodes-chars rest (IsUtf8-from_is_utf8 rest utf8))) ∙ hash_encoded (chars rest) some in
          let all = holds_drop 0x23 (length source - length rest) source (ap (holds 0x23) suffix ∙ bytes) in cc)
      | inr without ↦ without
    ]
