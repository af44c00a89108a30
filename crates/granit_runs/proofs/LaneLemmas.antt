-- From the lanes of a vector to the bytes that a run takes.
use Rattle.std.proofs.Common.{◌≡◌, ℕ, zero, suc, ◌+◌, ◌<◌, ◌≤◌, ◌==◌, ◌&&◌, ◌||◌, not, Bool, true, false, List, []}
use Rattle.std.proofs.Common.{◌∷◌, map, length, drop, get_or, slice_index, replicate, eqb, leb, cond, bit_and, bit_or}
use Rattle.std.proofs.Common.{◌^◌, ◌%◌, refl, sym, ap, ap₂, ◌∙◌, subst, inl, inr, arith, w8}
use lib.Count.{count_trailing_zeros}
use Rattle.std.specs.List.{prefix_len}
use Rattle.std.specs.Simd.Lanes.{chunk, zip2, sel_l, top, mask_l}
use Rattle.std.specs.Str.{chars, is_utf8}
use Rattle.std.proofs.lemmas.Bool.{and_parts, cases_Bool, eqb-true, or_right}
use Rattle.std.proofs.lemmas.Bool.Decides.{nat_tests}
use Rattle.std.proofs.lemmas.List.{get_or-map, length-map}
use Rattle.std.proofs.lemmas.List.Sums.{prefix_len-le-length, prefix_len_passes}
use Rattle.std.proofs.lemmas.Simd.{bitmask_splat, first_set_mask_l, get_or-chunk, get_or-zip2, length-chunk}
use Rattle.std.proofs.lemmas.Simd.{length-zip2, tops_compared, zip2_splat, zip2_splat_left}
use Rattle.granit_base.specs.Classes.{is_flow, is_printable, is_within}
use Rattle.granit_base.specs.Place.{first}
use Rattle.granit_runs.specs.Cuts.{IsAsciiFront}
use Rattle.granit_runs.specs.Lanes.{TakesByte, lane, lanes_where}
use Rattle.granit_runs.specs.Runs.{is_line_char, is_plain_ascii, is_plain_word, is_quoted_ascii, is_quoted_char}
use Rattle.granit_runs.specs.Runs.{is_quoted_word, starts}
use Rattle.granit_runs.proofs.AsciiLemmas.{ascii_more, first_byte, line_ascii, space_ascii, utf8_after}
use Rattle.granit_runs.proofs.AsciiLemmas.{word_ascii}

-- ---- what operations leave in the lanes

all_or_none : (ms : List Bool) (n : ℕ) → length ms ≡ n → sel_l ms (replicate n 255) (replicate n 0) ≡ map lane ms
all_or_none [] n long = refl
all_or_none (m ∷ ms) zero long = absurd cc
all_or_none (m ∷ ms) (suc n) long = ap (λ (r : List ℕ). lane m ∷ r) (all_or_none ms n (omega (arith, long)))

lanes_of : (test : ℕ → Bool) (xs : List ℕ) → map lane (map test xs) ≡ lanes_where test xs
lanes_of test [] = refl
lanes_of test (x ∷ xs) = ap (λ (r : List ℕ). lane (test x) ∷ r) (lanes_of test xs)

-- a comparison of each lane with one byte
pub compared : (t : ℕ → ℕ → Bool) (xs : List ℕ) (n y : ℕ) → length xs ≡ n
    → sel_l (map (top 7) (zip2 (λ a b. cond (t a b) 255 0) xs (replicate n y))) (replicate n 255) (replicate n 0)
    ≡ lanes_where (λ x. t x y) xs
compared t xs n y long =
    let ms : map (top 7) (zip2 (λ a b. cond (t a b) 255 0) xs (replicate n y)) ≡ map (λ x. t x y) xs =
    tops_compared w8 t xs (replicate n y) ∙ zip2_splat t xs n y long in
    ap (λ (b : List Bool). sel_l b (replicate n 255) (replicate n 0)) ms
    ∙ all_or_none (map (λ x. t x y) xs) n (length-map xs (λ x. t x y) ∙ long) ∙ lanes_of (λ x. t x y) xs

pub compared_left : (t : ℕ → ℕ → Bool) (xs : List ℕ) (n y : ℕ) → length xs ≡ n
    → sel_l (map (top 7) (zip2 (λ a b. cond (t a b) 255 0) (replicate n y) xs)) (replicate n 255) (replicate n 0)
    ≡ lanes_where (λ x. t y x) xs
compared_left t xs n y long =
    let ms : map (top 7) (zip2 (λ a b. cond (t a b) 255 0) (replicate n y) xs) ≡ map (λ x. t y x) xs =
    tops_compared w8 t (replicate n y) xs ∙ zip2_splat_left t y n xs long in
    ap (λ (b : List Bool). sel_l b (replicate n 255) (replicate n 0)) ms
    ∙ all_or_none (map (λ x. t y x) xs) n (length-map xs (λ x. t y x) ∙ long) ∙ lanes_of (λ x. t y x) xs

both_lane : (a b : Bool) → bit_and (lane a) (lane b) ≡ lane (a && b)
both_lane true true = refl
both_lane true false = refl
both_lane false true = refl
both_lane false false = refl

either_lane : (a b : Bool) → bit_or (lane a) (lane b) ≡ lane (a || b)
either_lane true true = refl
either_lane true false = refl
either_lane false true = refl
either_lane false false = refl

pub both_lanes : (p q : ℕ → Bool) (xs : List ℕ) → zip2 bit_and (lanes_where p xs) (lanes_where q xs)
    ≡ lanes_where (λ x. p x && q x) xs
both_lanes p q [] = refl
both_lanes p q (x ∷ xs) = ap₂ (λ (a : ℕ) (r : List ℕ). a ∷ r) (both_lane (p x) (q x)) (both_lanes p q xs)

pub either_lanes : (p q : ℕ → Bool) (xs : List ℕ) → zip2 bit_or (lanes_where p xs) (lanes_where q xs)
    ≡ lanes_where (λ x. p x || q x) xs
either_lanes p q [] = refl
either_lanes p q (x ∷ xs) = ap₂ (λ (a : ℕ) (r : List ℕ). a ∷ r) (either_lane (p x) (q x)) (either_lanes p q xs)

pub both_are : (p q : ℕ → Bool) (xs : List ℕ) {a b : List ℕ} → a ≡ lanes_where p xs → b ≡ lanes_where q xs
    → zip2 {C = ℕ} bit_and a b ≡ lanes_where (λ x. p x && q x) xs
both_are p q xs first second = ap₂ (zip2 {C = ℕ} bit_and) first second ∙ both_lanes p q xs

pub either_are : (p q : ℕ → Bool) (xs : List ℕ) {a b : List ℕ} → a ≡ lanes_where p xs → b ≡ lanes_where q xs
    → zip2 {C = ℕ} bit_or a b ≡ lanes_where (λ x. p x || q x) xs
either_are p q xs first second = ap₂ (zip2 {C = ℕ} bit_or) first second ∙ either_lanes p q xs

pub same_lanes : (p q : ℕ → Bool) → ((c : ℕ) → p c ≡ q c) → (xs : List ℕ) → lanes_where p xs ≡ lanes_where q xs
same_lanes p q same [] = refl
same_lanes p q same (x ∷ xs) = ap₂ (λ (b : Bool) (r : List ℕ). lane b ∷ r) (same x) (same_lanes p q same xs)

neither : (a b : Bool) → (not a && not b) ≡ not (a || b)
neither true b = refl
neither false b = refl

outside : (c : ℕ) → ((not (c == 0x2C) && (not (c == 0x5B) && not (c == 0x5D))) && (not (c == 0x7B) && not (c == 0x7D)))
    ≡ not (is_flow c)
unfolding is_flow
outside c =
    let brackets = ap (λ (b : Bool). not (c == 0x2C) && b) (neither (c == 0x5B) (c == 0x5D))
    ∙ neither (c == 0x2C) (c == 0x5B || c == 0x5D) in
    ap₂ (λ (a b : Bool). a && b) brackets (neither (c == 0x7B) (c == 0x7D))
    ∙ neither (c == 0x2C || (c == 0x5B || c == 0x5D)) (c == 0x7B || c == 0x7D)

pub outside_lanes : (xs : List ℕ)
    → lanes_where (λ c. (not (c == 0x2C) && (not (c == 0x5B) && not (c == 0x5D)))
    && (not (c == 0x7B) && not (c == 0x7D))) xs ≡ lanes_where (λ c. not (is_flow c)) xs
outside_lanes xs = same_lanes _ _ outside xs

kept : (a b : Bool) → (a && b) ≡ (a && (b && true))
kept true true = refl
kept true false = refl
kept false b = refl

-- where nothing is asked of flow indicators
pub block_lanes : (xs : List ℕ) → lanes_where (λ c. is_within 0x21 0x7E c && not (c == 0x3A)) xs
    ≡ lanes_where (is_plain_ascii false) xs
block_lanes xs = same_lanes _ _ (λ c. kept (is_within 0x21 0x7E c) (not (c == 0x3A))) xs

pub double_lanes : (xs : List ℕ)
    → lanes_where (λ c. is_within 0x21 0x7E c && (not (c == 0x22) && not (c == 0x5C))) xs
    ≡ lanes_where (is_quoted_ascii false) xs
double_lanes xs = same_lanes _ _
    (λ c. ap (λ (b : Bool). is_within 0x21 0x7E c && b) (neither (c == 0x22) (c == 0x5C))) xs

-- ---- how many lanes in front are set

pub front_is : (xs : List ℕ) → length xs ≡ 16
    → cond (eqb (mask_l (map (top 7) (zip2 (λ a b. cond (eqb a b) 255 0) xs (replicate 16 0))) % 2 ^ 64) 0) 16
    (count_trailing_zeros 64 (mask_l (map (top 7) (zip2 (λ a b. cond (eqb a b) 255 0) xs (replicate 16 0))) % 2 ^ 64))
    ≡ prefix_len (λ a. not (a == 0)) xs
front_is xs long =
    ap (λ (m : ℕ). cond (eqb m 0) 16 (count_trailing_zeros 64 m)) (bitmask_splat w8 eqb xs 16 0 long (omega arith))
    ∙ first_set_mask_l (λ x. eqb x 0) xs 16 long (omega arith)

-- ---- two loads, of which one begins a byte further on

pub both_pairs : (p q : ℕ → Bool) (xs ys : List ℕ) → zip2 bit_and (lanes_where p xs) (lanes_where q ys)
    ≡ zip2 (λ x y. lane (p x && q y)) xs ys
both_pairs p q [] ys = refl
both_pairs p q (x ∷ xs) [] = refl
both_pairs p q (x ∷ xs) (y ∷ ys) =
    ap₂ (λ (a : ℕ) (r : List ℕ). a ∷ r) (both_lane (p x) (q y)) (both_pairs p q xs ys)

pub either_pairs : (p : ℕ → Bool) (q : ℕ → ℕ → Bool) (xs ys : List ℕ)
    → zip2 bit_or (lanes_where p xs) (zip2 (λ x y. lane (q x y)) xs ys) ≡ zip2 (λ x y. lane (p x || q x y)) xs ys
either_pairs p q [] ys = refl
either_pairs p q (x ∷ xs) [] = refl
either_pairs p q (x ∷ xs) (y ∷ ys) =
    ap₂ (λ (a : ℕ) (r : List ℕ). a ∷ r) (either_lane (p x) (q x y)) (either_pairs p q xs ys)

-- a test of each byte, or a space before a byte that passes another
pub words_are : (p q : ℕ → Bool) (xs ys : List ℕ) {words spaces begins : List ℕ} → words ≡ lanes_where p xs
    → spaces ≡ lanes_where (λ c. c == 0x20) xs → begins ≡ lanes_where q ys
    → zip2 {C = ℕ} bit_or words (zip2 {C = ℕ} bit_and spaces begins)
    ≡ zip2 (λ x y. lane (p x || (x == 0x20 && q y))) xs ys
words_are p q xs ys words spaces begins =
    ap₂ (zip2 {C = ℕ} bit_or) words (ap₂ (zip2 {C = ℕ} bit_and) spaces begins ∙ both_pairs (λ c. c == 0x20) q xs ys)
    ∙ either_pairs p (λ x y. x == 0x20 && q y) xs ys

-- the second load doesn't matter
pub alone_lanes : (p : ℕ → Bool) (xs ys : List ℕ) → length xs ≡ length ys
    → lanes_where p xs ≡ zip2 (λ x y. lane (p x)) xs ys
alone_lanes p [] ys long = refl
alone_lanes p (x ∷ xs) [] long = absurd cc
alone_lanes p (x ∷ xs) (y ∷ ys) long = ap (λ (r : List ℕ). lane (p x) ∷ r) (alone_lanes p xs ys (omega (arith, long)))

lane_set : (b : Bool) → not (lane b == 0) ≡ true → b ≡ true
lane_set true e = refl
lane_set false e = absurd cc

-- what is known of a run of which a test of two bytes is sure
pub record IsSure (test : List ℕ → Bool) (pair : ℕ → ℕ → Bool) : Type 0 where
  pub low : (c n : ℕ) → pair c n ≡ true → c < 0x80
  pub takes : (c n : ℕ) (after : List ℕ) → pair c n ≡ true → (c ≡ 0x20 → 0 < n → n < 0x80 → first after ≡ n)
      → test (c ∷ after) ≡ true

module _ (test : List ℕ → Bool) (pair : ℕ → ℕ → Bool) (sure : IsSure test pair) (bytes : List ℕ) (at : ℕ)
    (lanes : List ℕ) (r : ℕ) (room : at + 16 < length bytes)
    (loaded : lanes ≡ zip2 (λ x y. lane (pair x y)) (chunk at 16 bytes) (chunk (at + 1) 16 bytes))
    (counted : r ≡ prefix_len (λ a. not (a == 0)) lanes) where
  here_long : length (chunk at 16 bytes) ≡ 16
  here_long = length-chunk at 16 bytes (omega (arith, room))

  next_long : length (chunk (at + 1) 16 bytes) ≡ 16
  next_long = length-chunk (at + 1) 16 bytes (omega (arith, room))

  long : length lanes ≡ 16
  long = ap length loaded
      ∙ length-zip2 (λ x y. lane (pair x y)) (chunk at 16 bytes) (chunk (at + 1) 16 bytes) (here_long ∙ sym next_long)
      ∙ here_long

  pub taken_few : r ≤ 16
  taken_few = omega (arith, counted, long, prefix_len-le-length (λ (a : ℕ). not (a == 0)) lanes)

  pub pair_at : (k : ℕ) → k < r → pair (slice_index bytes (at + k)) (slice_index bytes (at + k + 1)) ≡ true
  pair_at k few =
      let set : not (get_or lanes k 0 == 0) ≡ true = prefix_len_passes (λ (a : ℕ). not (a == 0)) lanes k 0
      (omega (arith, counted, few)) in
      let lane_is : get_or lanes k 0
      ≡ lane (pair (get_or (chunk at 16 bytes) k 0) (get_or (chunk (at + 1) 16 bytes) k 0)) =
      ap (λ (l : List ℕ). get_or l k 0) loaded
      ∙ get_or-zip2 (λ x y. lane (pair x y)) (chunk at 16 bytes) (chunk (at + 1) 16 bytes) k 0 0 0
      (omega (arith, few, taken_few, here_long)) (omega (arith, few, taken_few, next_long)) in
      let here = get_or-chunk at 16 bytes k 0 (omega (arith, few, taken_few)) in
      let behind : at + 1 + k ≡ at + k + 1 = omega arith in
      let next = get_or-chunk (at + 1) 16 bytes k 0 (omega (arith, few, taken_few))
      ∙ ap (λ (j : ℕ). get_or bytes j 0) behind in
      sym (ap₂ pair here next) ∙ lane_set _ (sym (ap (λ (a : ℕ). not (a == 0)) lane_is) ∙ set)

  pub taken_each : (k : ℕ) → k < r → TakesByte test bytes (at + k)
  taken_each k few =
      let held = pair_at k few in
      record {
        low = sure.low (slice_index bytes (at + k)) (slice_index bytes (at + k + 1)) held;
        takes = λ utf8. sure.takes (slice_index bytes (at + k)) (slice_index bytes (at + k + 1))
            (chars (drop (at + k + 1) bytes)) held
            (λ space some low. first_byte bytes (at + k + 1) (omega (arith, few, taken_few, room)) low utf8);
      }

-- ---- the runs that are looked at so

pub line_sure : IsSure (starts is_line_char) (λ c n. is_within 0x20 0x7E c || c == 0x09)
line_sure = record {
  low = λ c n held. grind (arith, nat_tests);
  takes = λ c n after held seen. line_ascii c held;
}

word_low : (in_flow : Bool) (c n : ℕ)
    → (is_plain_ascii in_flow c || (c == 0x20 && (not (n == 0x23) && is_plain_ascii in_flow n))) ≡ true → c < 0x80
word_low true c n held = grind (arith, nat_tests)
word_low false c n held = grind (arith, nat_tests)

pub words_sure : (in_flow : Bool) → IsSure (is_plain_word in_flow)
    (λ c n. is_plain_ascii in_flow c || (c == 0x20 && (not (n == 0x23) && is_plain_ascii in_flow n)))
words_sure in_flow = record {
  low = word_low in_flow;
  takes = λ c n after held seen. elim (cases_Bool (is_plain_ascii in_flow c)) [
    | inl plain ↦ word_ascii in_flow c after plain
    | inr other ↦
        let space = rw other at held in
        let parts = and_parts (c == 0x20) (not (n == 0x23) && is_plain_ascii in_flow n) space in
        space_ascii in_flow c n after (eqb-true c 0x20 parts.0) parts.1 seen
  ];
}

quoted_low : (single : Bool) (c n : ℕ)
    → (is_quoted_ascii single c || (c == 0x20 && is_quoted_ascii single n)) ≡ true → c < 0x80
quoted_low true c n held = grind (arith, nat_tests)
quoted_low false c n held = grind (arith, nat_tests)

quoted_between : (single : Bool) (c : ℕ) → is_quoted_ascii single c ≡ true → (0 < c) × (c < 0x80)
quoted_between true c held = (grind (arith, nat_tests), grind (arith, nat_tests))
quoted_between false c held = (grind (arith, nat_tests), grind (arith, nat_tests))

quoted_is : (single : Bool) (c : ℕ) → is_quoted_ascii single c ≡ true → is_quoted_char single c ≡ true
quoted_is single c held = ap (λ (b : Bool). b || (is_within 0x80 0x10FFFF c && is_printable c)) held

pub quoted_sure : (single : Bool) → IsSure (is_quoted_word single)
    (λ c n. is_quoted_ascii single c || (c == 0x20 && is_quoted_ascii single n))
quoted_sure single = record {
  low = quoted_low single;
  takes = λ c n after held seen. elim (cases_Bool (is_quoted_ascii single c)) [
    | inl shown ↦ ap (λ (b : Bool). b || (c == 0x20 && is_quoted_char single (first after))) (quoted_is single c shown)
    | inr other ↦
        let space = rw other at held in
        let parts = and_parts (c == 0x20) (is_quoted_ascii single n) space in
        let is : c ≡ 0x20 = eqb-true c 0x20 parts.0 in
        let between = quoted_between single n parts.1 in
        let there : first after ≡ n = seen is between.0 between.1 in
        or_right (is_quoted_char single c) (c == 0x20 && is_quoted_char single (first after))
        (rw (is, there) (quoted_is single n parts.1))
  ];
}

-- ---- characters of ASCII in front, many at once

pub ascii_on : (test : List ℕ → Bool) (s : List ℕ) (i n : ℕ) → test [] ≡ false → IsAsciiFront test s i
    → i + n ≤ length s → ((k : ℕ) → k < n → TakesByte test s (i + k)) → IsAsciiFront test s (i + n)
ascii_on test s i zero nul so_far within each =
    let same : i ≡ i + 0 = omega arith in
    subst (IsAsciiFront test s) same so_far
ascii_on test s i (suc n) nul so_far within each =
    let before = ascii_on test s i n nul so_far (omega (arith, within)) (λ k few. each k (omega (arith, few))) in
    let byte = each n (omega arith) in
    let inside : i + n < length s = omega (arith, within) in
    let next : i + n + 1 ≡ i + suc n = omega arith in
    subst (IsAsciiFront test s) next (ascii_more test s (i + n) nul before inside byte.low
    (byte.takes (utf8_after test s (i + n) before inside byte.low)))
