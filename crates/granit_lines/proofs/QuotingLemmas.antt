-- What stands for itself between quotes.
use Rattle.std.proofs.Common.{◌≡◌, ℕ, suc, ◌+◌, ◌-◌, ◌<◌, ◌≤◌, Bool, true, false, List, [], ◌∷◌, ◌++◌, length, take}
use Rattle.std.proofs.Common.{drop, map, get_or, refl, sym, ap, ap₂, subst, ◌∙◌, arith, length-append}
use Rattle.std.proofs.Common.{append_assoc, take-append-drop}
use Rattle.std.specs.Prelude.{nat_le, ◌==◌, ◌&&◌, ◌||◌}
use Rattle.std.specs.List.{All, range_with_len}
use Rattle.std.specs.Str.{chars, IsAscii, IsUtf8, IsCharBoundary}
use Rattle.std.proofs.lemmas.Bool.Decides.{nat_tests}
use Rattle.std.proofs.lemmas.Grind.{flat_map-append}
use Rattle.std.proofs.lemmas.List.{take_more}
use Rattle.std.proofs.lemmas.List.Elements.{All-push}
use Rattle.std.proofs.lemmas.List.FromFn.{get_or-map-range_with_len}
use Rattle.std.proofs.lemmas.Str.{chars-append, chars-IsAscii, IsCharBoundary-from_take, IsUtf8-from_ascii}
use Rattle.std.proofs.lemmas.Str.Ascii.{IsAscii-from_all}
use Rattle.granit_lexemes.specs.Line.{quoted_char, quoted_line_text}
use Rattle.granit_lines.specs.Pieces.{is_plain}
use Rattle.granit_lines.specs.declared.quoting.TheConstants.{PLAIN}

-- ---- the table

abbrev mark_if : Bool → ℕ
mark_if true = 0x31
mark_if false = 0x30

all_plain : PLAIN ≡ map (λ (b : ℕ). mark_if (is_plain b)) (range_with_len 0 256)
all_plain = refl

is_marked : (plain : Bool) → (mark_if plain == 0x31) ≡ plain
is_marked true = refl
is_marked false = refl

pub plain_at : (b : ℕ) → b < 256 → (get_or PLAIN b 0 == 0x31) ≡ is_plain b
plain_at b small =
    ap (λ (bs : List ℕ). get_or bs b 0 == 0x31) all_plain
    ∙ ap (λ (n : ℕ). n == 0x31)
    (get_or-map-range_with_len (λ (c : ℕ). mark_if (is_plain c)) 0 256 b b 0 small (omega arith))
    ∙ is_marked (is_plain b)

-- ---- what stands in front of a text

-- one more plain byte
pub plain_more : (bs : List ℕ) (n : ℕ) → n < length bs → All (λ b. is_plain b ≡ true) (take n bs)
    → is_plain (get_or bs n 0) ≡ true → All (λ b. is_plain b ≡ true) (take (n + 1) bs)
plain_more bs n within plain more =
    subst (All (λ b. is_plain b ≡ true)) (sym (take_more bs n 0 within))
    (All-push (λ b. is_plain b ≡ true) (take n bs) (get_or bs n 0) plain more)

-- four more
pub plain_four : (bs : List ℕ) (n : ℕ) → n + 4 ≤ length bs → All (λ b. is_plain b ≡ true) (take n bs)
    → is_plain (get_or bs n 0) ≡ true → is_plain (get_or bs (n + 1) 0) ≡ true → is_plain (get_or bs (n + 2) 0) ≡ true
    → is_plain (get_or bs (n + 3) 0) ≡ true → All (λ b. is_plain b ≡ true) (take (n + 4) bs)
plain_four bs n within plain a b c d =
    let third : is_plain (get_or bs (n + 1 + 1) 0) ≡ true =
    subst (λ (k : ℕ). is_plain (get_or bs k 0) ≡ true) (omega arith) c in
    let fourth : is_plain (get_or bs (n + 1 + 1 + 1) 0) ≡ true =
    subst (λ (k : ℕ). is_plain (get_or bs k 0) ≡ true) (omega arith) d in
    let whole : n + 1 + 1 + 1 + 1 ≡ n + 4 = omega arith in
    subst (λ (k : ℕ). All (λ b. is_plain b ≡ true) (take k bs)) whole
    (plain_more bs (n + 1 + 1 + 1) (omega (arith, within))
    (plain_more bs (n + 1 + 1) (omega (arith, within))
    (plain_more bs (n + 1) (omega (arith, within)) (plain_more bs n (omega (arith, within)) plain a) b) third) fourth)

small : (b : ℕ) → is_plain b ≡ true → b < 128
small b p = grind (arith, nat_tests, p)

plain_ascii : (bs : List ℕ) → All (λ b. is_plain b ≡ true) bs → IsAscii bs
plain_ascii bs plain = IsAscii-from_all bs (λ k d low. small (get_or bs k d) (plain k d low))

itself : (b : ℕ) → is_plain b ≡ true → quoted_char b ≡ b ∷ []
unfolding quoted_char
itself b p =
    let quote : (b == 0x22 || b == 0x5C) ≡ false = grind (arith, nat_tests, p) in
    let shown : (nat_le 0x20 b && nat_le b 0x7E) ≡ true = grind (arith, nat_tests, p) in
    rw (quote, shown) refl

themselves : (bs : List ℕ) → All (λ b. is_plain b ≡ true) bs → quoted_line_text bs ≡ bs
themselves [] plain = refl
themselves (b ∷ bs) plain =
    ap₂ (λ (front rest : List ℕ). front ++ rest) (itself b (plain 0 b (omega arith)))
    (themselves bs (λ k d low. plain (suc k) d (omega arith)))

-- a text may be cut behind plain bytes
pub plain_boundary : (bs : List ℕ) (n : ℕ) → IsUtf8 bs → n ≤ length bs → All (λ b. is_plain b ≡ true) (take n bs)
    → IsCharBoundary bs n
plain_boundary bs n utf8 within plain =
    IsCharBoundary-from_take bs n utf8 within (IsUtf8-from_ascii (take n bs) (plain_ascii (take n bs) plain))

chars_cut : (bs : List ℕ) (n : ℕ) → All (λ b. is_plain b ≡ true) (take n bs)
    → chars bs ≡ take n bs ++ chars (drop n bs)
chars_cut bs n plain =
    let ascii = plain_ascii (take n bs) plain in
    ap chars (sym (take-append-drop n bs))
    ∙ chars-append (take n bs) (drop n bs) (IsUtf8-from_ascii (take n bs) ascii)
    ∙ ap (λ (cs : List ℕ). cs ++ chars (drop n bs)) (chars-IsAscii (take n bs) ascii)

pub quoted_front : (bs : List ℕ) (n : ℕ) (front behind : List ℕ) → All (λ b. is_plain b ≡ true) (take n bs)
    → front ≡ take (n - 0) (drop 0 bs) → behind ≡ drop n bs
    → quoted_line_text (chars bs) ≡ front ++ quoted_line_text (chars behind)
quoted_front bs n front behind plain is rest =
    let first : front ≡ take n bs = is ∙ ap (λ (k : ℕ). take k bs) (omega arith) in
    ap quoted_line_text (chars_cut bs n plain) ∙ flat_map-append quoted_char (take n bs) (chars (drop n bs))
    ∙ ap₂ (λ (a b : List ℕ). a ++ b) (themselves (take n bs) plain ∙ sym first)
    (ap (λ (r : List ℕ). quoted_line_text (chars r)) (sym rest))

pub front_put : (bs : List ℕ) (n : ℕ) (old now behind : List ℕ) → All (λ b. is_plain b ≡ true) (take n bs)
    → now ≡ old ++ take n bs → behind ≡ drop n bs
    → now ++ quoted_line_text (chars behind) ≡ old ++ quoted_line_text (chars bs)
front_put bs n old now behind plain put rest =
    let all : take n bs ≡ take (n - 0) (drop 0 bs) = ap (λ (k : ℕ). take k bs) (omega arith) in
    ap (λ (xs : List ℕ). xs ++ quoted_line_text (chars behind)) put
    ∙ append_assoc old (take n bs) (quoted_line_text (chars behind))
    ∙ ap (λ (xs : List ℕ). old ++ xs) (sym (quoted_front bs n (take n bs) behind plain all rest))

pub fewer_behind : (bs : List ℕ) (n : ℕ) (behind : List ℕ) → All (λ b. is_plain b ≡ true) (take n bs)
    → behind ≡ drop n bs → length (chars behind) ≤ length (chars bs)
fewer_behind bs n behind plain rest =
    let all : length (chars bs) ≡ length (take n bs) + length (chars (drop n bs)) =
    ap length (chars_cut bs n plain) ∙ length-append (take n bs) (chars (drop n bs)) in
    rw (rest, all) (omega arith)
