-- The bytes of a text and its characters.
use Rattle.std.proofs.Common.{◌≡◌, ℕ, zero, suc, ◌+◌, ◌-◌, ◌*◌, ◌≤◌, ◌==◌, nat_eq, List, [], ◌∷◌, ◌++◌, length, refl}
use Rattle.std.proofs.Common.{sym, ap, ◌∙◌, arith, Option, Some, None}
use Rattle.std.specs.Str.{chars, chars_after, continuation_len, lead_bits, IsUtf8, encode_utf8_all}
use Rattle.std.specs.List.{slice_get, slice_index}
use Rattle.std.specs.Option.{unwrap_or, option_map}
use Rattle.std.specs.Char.{encode_utf8, IsScalar}
use Rattle.std.proofs.lemmas.Str.{length-le-encodes, encodes-chars, chars-append, chars-nil, chars_past_char}
use Rattle.std.proofs.lemmas.Str.{IsUtf8-encode}
use Rattle.std.proofs.lemmas.List.{append-nil}
use Rattle.std.proofs.lemmas.Bool.Decides.{nat_tests}
use Rattle.std.proofs.lemmas.Option.{unwrap_or-slice_get}
use Rattle.std.proofs.lemmas.Bool.Decides.{same_from_decides}
use Rattle.std.specs.Cmp.Lexicographic.{pointwise, bytes_decides}

after_len : (n c : ℕ) (bs : List ℕ) → length (chars_after n c bs) ≤ suc (length bs)
after_len zero c [] = omega arith
after_len zero c (b ∷ bs) = omega (arith, after_len (continuation_len b) (lead_bits b) bs)
after_len (suc n) c [] = omega arith
after_len (suc n) c (b ∷ bs) = omega (arith, after_len n (c * 64 + (b - 128)) bs)

-- no more characters than bytes, whatever the bytes are
pub chars_len : (bs : List ℕ) → length (chars bs) ≤ length bs
unfolding chars
chars_len [] = omega arith
chars_len (b ∷ bs) = after_len (continuation_len b) (lead_bits b) bs

encoded_empty : (cs : List ℕ) → length cs ≤ length (encode_utf8_all cs)
    → (length (encode_utf8_all cs) == 0) ≡ (length cs == 0)
encoded_empty [] h = refl
encoded_empty (c ∷ cs) h = grind (arith, nat_tests, h)

-- a text has no byte exactly where it has no character
pub empty_chars : (bs : List ℕ) → IsUtf8 bs → (length bs == 0) ≡ (length (chars bs) == 0)
empty_chars bs u = rw (encodes-chars bs u) at (encoded_empty (chars bs) (length-le-encodes (chars bs)))

same_option : (o : Option ℕ) → option_map (λ c. c) o ≡ o
same_option None = refl
same_option (Some c) = refl

-- what `nth` gives, or NUL
pub or_nul : (xs : List ℕ) (n : ℕ) (o : Option ℕ) → option_map (λ c. c) o ≡ slice_get xs n
    → unwrap_or o 0 ≡ slice_index xs n
or_nul xs n o h = ap (λ (p : Option ℕ). unwrap_or p 0) (sym (same_option o) ∙ h) ∙ unwrap_or-slice_get xs n 0

pub one_char : (c : ℕ) → IsScalar c → chars (encode_utf8 c) ≡ c ∷ []
one_char c s = chars_past_char (encode_utf8 c) [] c (IsUtf8-encode c s) (sym (append-nil _))
    ∙ ap (λ (cs : List ℕ). c ∷ cs) chars-nil

-- one more character
pub chars_push : (bs : List ℕ) (c : ℕ) → IsUtf8 bs → IsScalar c → chars (bs ++ encode_utf8 c) ≡ chars bs ++ c ∷ []
chars_push bs c u s = chars-append bs (encode_utf8 c) u ∙ ap (λ (cs : List ℕ). chars bs ++ cs) (one_char c s)

-- two texts have the same bytes exactly where they have the same characters
pub same_spelling : (xs ys : List ℕ) → IsUtf8 xs → IsUtf8 ys
    → pointwise nat_eq xs ys ≡ pointwise nat_eq (chars xs) (chars ys)
same_spelling xs ys u v =
    let one = bytes_decides xs ys in
    let two = bytes_decides (chars xs) (chars ys) in
    same_from_decides _ _ one (
      λ e. sym (encodes-chars xs u) ∙ ap encode_utf8_all (two.0 e)
          ∙ encodes-chars ys v,
      λ e. two.1 (ap chars e),
    )
