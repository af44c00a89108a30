-- What is read behind a backslash: an escape, or what is wrong there.
use Rattle.std.proofs.Common.{◌≡◌, ℕ, zero, suc, ◌+◌, ◌*◌, ◌<◌, Bool, true, false, ◌==◌, ◌&&◌, List, [], ◌∷◌, ◌++◌}
use Rattle.std.proofs.Common.{length, refl, sym, ap, ap₂, ◌∙◌, subst, arith, append_assoc, Option, Some, None}
use Rattle.std.proofs.Common.{Result, Ok, Err, ◌⊎◌, inl, inr}
use Rattle.std.specs.Prelude.{slice_index, if◌then◌else◌}
use Rattle.std.proofs.lemmas.Bool.{cond-true, cond-false, and_parts}
use Rattle.std.proofs.lemmas.Bool.Decides.{nat_tests}
use lib.Utf8.{scalar}
use Rattle.granit_base.specs.Classes.{is_hex, hex_value}
use Rattle.granit_base.specs.Place.{Mark, first}
use Rattle.granit_error.specs.FaultKind.{FaultKind, InvalidQuotedScalarHexEscape, MissingLowSurrogate}
use Rattle.granit_error.specs.FaultKind.{InvalidLowSurrogateHexEscape, InvalidLowSurrogate, UnpairedLowSurrogate}
use Rattle.granit_error.specs.FaultKind.{InvalidUnicodeEscape}
use Rattle.granit_lexemes.specs.Decoding.{letter_value, digit_count, number_behind, number_of, is_high, is_low, joined}
use Rattle.granit_lexemes.specs.Decoding.{AreDigits, Escape, letter, number, halves}
use Rattle.granit_lexemes.specs.Gap.{Each}
use Rattle.granit_lexemes.specs.Here.{Here, next_char, step}
use Rattle.granit_lexemes.specs.Outcome.{Fault, fault_at, ◌>>=◌}
use Rattle.granit_lexemes.specs.PlainExtent.{over}
use Rattle.granit_lexemes.specs.Basics.{fails_at}
use Rattle.granit_lexemes.specs.QuotedExtent.{TooFewDigits, WrongEscape, unknown, hex, no_second, second_hex, no_half}
use Rattle.granit_lexemes.specs.QuotedExtent.{alone, no_character}
use Rattle.granit_lexemes.specs.QuotedScalar.{digits_or, joined_or, second_half_or, numbered_or, escape_or_by}
use Rattle.granit_lexemes.specs.QuotedScalar.{escape_or}
use Rattle.granit_lexemes.proofs.DecodingLemmas.{no_hex_nul, no_letter_nul, no_count_nul, number_letter, u_wants_four}
use Rattle.granit_lexemes.proofs.DecodingLemmas.{four_digits, half_is_none, begins_second, digit_below}
use Rattle.granit_lexemes.proofs.HereLemmas.{stepped_text}
use Rattle.granit_scalars.proofs.Stepping.{over-append, Seen, seen, seen_as}

-- ---- which numbers stand for no character

two_small : (ds : List ℕ) → AreDigits 2 ds → number_of ds < 0x100
two_small [] a = absurd (let k = a.counted in omega arith)
two_small (b ∷ []) a = absurd (let k = a.counted in omega arith)
two_small (b ∷ c ∷ []) a = let p = digit_below b a.each.0 in let q = digit_below c a.each.1.0 in omega arith
two_small (b ∷ c ∷ d ∷ ds) a = absurd (let k = a.counted in omega arith)

four_small : (ds : List ℕ) → AreDigits 4 ds → number_of ds < 0x10000
four_small [] a = absurd (let k = a.counted in omega arith)
four_small (b ∷ []) a = absurd (let k = a.counted in omega arith)
four_small (b ∷ c ∷ []) a = absurd (let k = a.counted in omega arith)
four_small (b ∷ c ∷ d ∷ []) a = absurd (let k = a.counted in omega arith)
four_small (b ∷ c ∷ d ∷ e ∷ []) a = let p = digit_below b a.each.0 in let q =
    digit_below c a.each.1.0 in let r = digit_below d a.each.1.1.0 in let s = digit_below e a.each.1.1.1.0
    in omega arith
four_small (b ∷ c ∷ d ∷ e ∷ f ∷ ds) a = absurd (let k = a.counted in omega arith)

small_scalar : (n : ℕ) → n < 0x100 → scalar n ≡ true
small_scalar n l = grind (arith, nat_tests)

half_or_scalar : (n : ℕ) → n < 0x10000 → scalar n ≡ false → is_high n ≡ false → is_low n ≡ false → ⊥
unfolding is_high is_low
half_or_scalar n l s p q = grind (arith, nat_tests)

count_cases : (l count : ℕ) → digit_count l ≡ Some count → (count ≡ 2) ⊎ ((count ≡ 4) ⊎ ((count ≡ 8) × (l ≡ 0x55)))
unfolding digit_count
count_cases l count e = cases (l == 0x78) (l == 0x75) (l == 0x55) refl refl refl
  where
    cases : (a b c : Bool) → (l == 0x78) ≡ a → (l == 0x75) ≡ b → (l == 0x55) ≡ c → (count ≡ 2)
        ⊎ ((count ≡ 4) ⊎ ((count ≡ 8) × (l ≡ 0x55)))
    cases true b c p q r = inl (grind (arith, nat_tests))
    cases false true c p q r = inr (inl (grind (arith, nat_tests)))
    cases false false true p q r = inr (inr (grind (arith, nat_tests), grind (arith, nat_tests)))
    cases false false false p q r = absurd (grind (arith, nat_tests))

-- only eight digits write the number of no character that is no half of one
wants_eight : (l count : ℕ) (ds : List ℕ) → digit_count l ≡ Some count → AreDigits count ds
    → scalar (number_of ds) ≡ false → (count == 4 && is_high (number_of ds)) ≡ false
    → (count == 4 && is_low (number_of ds)) ≡ false → (l ≡ 0x55) × (count ≡ 8)
wants_eight l count ds e a s p q = by (count_cases l count e)
  where
    by : (count ≡ 2) ⊎ ((count ≡ 4) ⊎ ((count ≡ 8) × (l ≡ 0x55))) → (l ≡ 0x55) × (count ≡ 8)
    by (inl two) = absurd (let t = small_scalar (number_of ds) (two_small ds (subst (λ m. AreDigits m ds) two a)) in cc)
    by (inr (inl four)) =
        let high : is_high (number_of ds) ≡ false = ap (λ m. m == 4 && is_high (number_of ds)) (sym four) ∙ p in
        let low : is_low (number_of ds) ≡ false = ap (λ m. m == 4 && is_low (number_of ds)) (sym four) ∙ q in
        absurd (half_or_scalar (number_of ds) (four_small ds (subst (λ m. AreDigits m ds) four a)) s high low)
    by (inr (inr eight)) = (eight.1, eight.0)

-- ---- what is read is there

pub record DigitsRead (count n value : ℕ) (h after : Here) : Type 0 where
  pub digits : List ℕ
  pub are : AreDigits count digits
  pub writes : value ≡ number_behind n digits
  pub text : h.unread.text ≡ digits ++ after.unread.text
  pub lands : after ≡ over digits h

abbrev ReadsDigits : FaultKind → Mark → ℕ → ℕ → Here → Result (ℕ × Here) Fault → Type 0
ReadsDigits kind start count n h (Ok (value, after)) = DigitsRead count n value h after
ReadsDigits kind start count n h (Err f) = (f ≡ fault_at kind start) × TooFewDigits count h.unread.text

one_digit : (kind : FaultKind) (start : Mark) (count n : ℕ) (h : Here) (b : Bool) → is_hex (next_char h) ≡ b
    → (r : Result (ℕ × Here) Fault) → ReadsDigits kind start count (n * 16 + hex_value (next_char h)) (step h) r
    → ReadsDigits kind start (suc count) n h (if b then r else fails_at kind start)
one_digit kind start count n h true y (Ok (value, after)) d =
    let s = seen is_hex h no_hex_nul y in
    record {
      digits = next_char h ∷ d.digits;
      are = record { counted = ap suc d.are.counted; each = (y, d.are.each) };
      writes = d.writes;
      text = s.is ∙ ap (λ (l : List ℕ). next_char h ∷ l) d.text;
      lands = d.lands;
    }
one_digit kind start count n h true y (Err f) d =
    let s = seen is_hex h no_hex_nul y in
    let t = d.1 in (
      d.0,
      record {
        digits = next_char h ∷ t.digits;
        rest = t.rest;
        are = s.is ∙ ap (λ (l : List ℕ). next_char h ∷ l) t.are;
        each = (y, t.each);
        fewer = let k = t.fewer in omega arith;
        ended = t.ended;
      },
    )
one_digit kind start count n h false y r d =
    (refl, record { digits = []; rest = h.unread.text; are = refl; each = tt; fewer = omega arith; ended = y })

reads_digits : (kind : FaultKind) (start : Mark) (count n : ℕ) (h : Here)
    → ReadsDigits kind start count n h (digits_or kind start count n h)
unfolding digits_or
reads_digits kind start zero n h =
    record { digits = []; are = record { counted = refl; each = tt }; writes = refl; text = refl; lands = refl }
reads_digits kind start (suc count) n h =
    one_digit kind start count n h (is_hex (next_char h)) refl
    (digits_or kind start count (n * 16 + hex_value (next_char h)) (step h))
    (reads_digits kind start count (n * 16 + hex_value (next_char h)) (step h))

-- ---- the second half of a character

pub record SecondRead (high value : ℕ) (h after : Here) : Type 0 where
  pub low : List ℕ
  pub are : AreDigits 4 low
  pub half : is_low (number_of low) ≡ true
  pub writes : value ≡ joined high (number_of low)
  pub text : h.unread.text ≡ 0x5C ∷ 0x75 ∷ (low ++ after.unread.text)
  pub lands : after ≡ over (0x5C ∷ 0x75 ∷ low) h

abbrev ReadsSecond : Mark → ℕ → Here → Result (ℕ × Here) Fault → Type 0
ReadsSecond start high h (Ok (value, after)) = SecondRead high value h after
ReadsSecond start high h (Err f) = (f.mark ≡ start)
    × ((ds : List ℕ) → AreDigits 4 ds → is_high (number_of ds) ≡ true
    → WrongEscape f.kind (0x75 ∷ (ds ++ h.unread.text)))

joins : (start : Mark) (high value : ℕ) (h after : Here) (t : List ℕ) → h.unread.text ≡ 0x5C ∷ 0x75 ∷ t
    → t ≡ (step (step h)).unread.text → DigitsRead 4 0 value (step (step h)) after
    → (b : Bool) → is_low value ≡ b
    → ReadsSecond start high h (if b then Ok (joined high value, after) else fails_at InvalidLowSurrogate start)
joins start high value h after t e f d true y = record {
  low = d.digits;
  are = d.are;
  half = ap is_low (sym d.writes) ∙ y;
  writes = ap (joined high) d.writes;
  text = e ∙ ap (λ (l : List ℕ). 0x5C ∷ 0x75 ∷ l) (f ∙ d.text);
  lands = d.lands;
}
joins start high value h after t e f d false y = (
  refl,
  λ ds a p. subst (λ (l : List ℕ). WrongEscape InvalidLowSurrogate (0x75 ∷ (ds ++ l))) (sym (e
      ∙ ap (λ (l : List ℕ). 0x5C ∷ 0x75 ∷ l) (f
      ∙ d.text))) (no_half ds d.digits after.unread.text a p d.are (ap is_low (sym d.writes) ∙ y)),
)

second_digits : (start : Mark) (high : ℕ) (h : Here) (t : List ℕ) → h.unread.text ≡ 0x5C ∷ 0x75 ∷ t
    → t ≡ (step (step h)).unread.text → (r : Result (ℕ × Here) Fault)
    → ReadsDigits InvalidLowSurrogateHexEscape start 4 0 (step (step h)) r
    → ReadsSecond start high h (r >>= λ x. joined_or start high x.0 x.1)
second_digits start high h t e f (Ok (value, after)) d = joins start high value h after t e f d (is_low value) refl
second_digits start high h t e f (Err g) d = (
  ap (λ (x : Fault). x.mark) d.0,
  λ ds a p. subst (λ k. WrongEscape k (0x75 ∷ (ds ++ h.unread.text))) (sym (ap (λ (x : Fault). x.kind) d.0))
      (subst (λ (l : List ℕ). WrongEscape InvalidLowSurrogateHexEscape (0x75 ∷ (ds ++ l))) (sym e)
      (second_hex ds t a p (subst (TooFewDigits 4) (sym f) d.1))),
)

second_if : (start : Mark) (high : ℕ) (h : Here) (b : Bool)
    → (next_char h == 0x5C && slice_index h.unread.text 1 == 0x75) ≡ b
    → ReadsSecond start high h (if b then
    (digits_or InvalidLowSurrogateHexEscape start 4 0 (step (step h)) >>= λ x. joined_or start high x.0 x.1)
    else fails_at MissingLowSurrogate start)
second_if start high h true y =
    let s = begins_second h.unread.text y in
    second_digits start high h s.0 s.1 (sym (stepped_text (step h) 0x75 s.0 (stepped_text h 0x5C (0x75 ∷ s.0) s.1)))
    (digits_or InvalidLowSurrogateHexEscape start 4 0 (step (step h)))
    (reads_digits InvalidLowSurrogateHexEscape start 4 0 (step (step h)))
second_if start high h false y = (refl, λ ds a p. no_second ds h.unread.text a p y)

reads_second : (start : Mark) (high : ℕ) (h : Here) → ReadsSecond start high h (second_half_or start high h)
unfolding second_half_or
reads_second start high h = second_if start high h (next_char h == 0x5C && slice_index h.unread.text 1 == 0x75) refl

-- ---- escapes, from their letter on

pub record EscapeRead (c : ℕ) (h after : Here) : Type 0 where
  pub characters : List ℕ
  pub is : Escape (0x5C ∷ characters) c
  pub text : h.unread.text ≡ characters ++ after.unread.text
  pub lands : after ≡ over characters h

abbrev pub ReadsEscape : Mark → Here → Result (ℕ × Here) Fault → Type 0
ReadsEscape start h (Ok (c, after)) = EscapeRead c h after
ReadsEscape start h (Err f) = (f.mark ≡ start) × WrongEscape f.kind h.unread.text

-- a number of digits that were read behind a letter that wants so many
record Numbered (l count n : ℕ) (h mid : Here) : Type 0 where
  wants : digit_count l ≡ Some count
  there : h.unread.text ≡ l ∷ (step h).unread.text
  read : DigitsRead count 0 n (step h) mid

whole_text : {l count n : ℕ} {h mid : Here} (p : Numbered l count n h mid)
    → h.unread.text ≡ l ∷ (p.read.digits ++ mid.unread.text)
whole_text {l} p = p.there ∙ ap (λ (t : List ℕ). l ∷ t) p.read.text

with_second : (start : Mark) (l count n : ℕ) (h mid : Here) → Numbered l count n h mid
    → (count == 4 && is_high n) ≡ true → (r : Result (ℕ × Here) Fault) → ReadsSecond start n mid r
    → ReadsEscape start h r
with_second start l count n h mid p y (Ok (value, after)) s =
    let d = p.read in
    let four : count ≡ 4 = grind (arith, nat_tests) in
    let half : is_high n ≡ true = (and_parts (count == 4) (is_high n) y).1 in
    let is_u : l ≡ 0x75 = four_digits l count p.wants four in
    let high : is_high (number_of d.digits) ≡ true = ap is_high (sym d.writes) ∙ half in
    let joint = halves (subst (λ m. AreDigits m d.digits) four d.are) high s.are s.half in
    let tail : d.digits ++ (0x5C ∷ 0x75 ∷ (s.low ++ after.unread.text)) ≡
    (d.digits ++ 0x5C ∷ 0x75 ∷ s.low) ++ after.unread.text = sym
    (append_assoc d.digits (0x5C ∷ 0x75 ∷ s.low) after.unread.text) in
    record {
      characters = 0x75 ∷ (d.digits ++ 0x5C ∷ 0x75 ∷ s.low);
      is = subst (λ m. Escape (0x5C ∷ 0x75 ∷ (d.digits ++ 0x5C ∷ 0x75 ∷ s.low)) m) (sym (s.writes
          ∙ ap (λ m. joined m (number_of s.low)) d.writes)) joint;
      text = whole_text p ∙ ap₂ (λ m (t : List ℕ). m ∷ (d.digits ++ t)) is_u s.text
          ∙ ap (λ (t : List ℕ). 0x75 ∷ t) tail;
      lands = s.lands ∙ ap (over (0x5C ∷ 0x75 ∷ s.low)) d.lands
          ∙ sym (over-append d.digits (0x5C ∷ 0x75 ∷ s.low) (step h));
    }
with_second start l count n h mid p y (Err f) s =
    let d = p.read in
    let four : count ≡ 4 = grind (arith, nat_tests) in
    let half : is_high n ≡ true = (and_parts (count == 4) (is_high n) y).1 in
    let is_u : l ≡ 0x75 = four_digits l count p.wants four in (
      s.0,
      subst (WrongEscape f.kind) (sym (whole_text p
          ∙ ap (λ m. m ∷ (d.digits ++ mid.unread.text)) is_u))
          (s.1 d.digits (subst (λ m. AreDigits m d.digits) four d.are) (ap is_high (sym d.writes) ∙ half)),
    )

with_low : (start : Mark) (l count n : ℕ) (h mid : Here) → Numbered l count n h mid → scalar n ≡ false
    → (count == 4 && is_high n) ≡ false → (b : Bool) → (count == 4 && is_low n) ≡ b
    → ReadsEscape start h (if b then fails_at UnpairedLowSurrogate start else fails_at InvalidUnicodeEscape start)
with_low start l count n h mid p none high true y =
    let d = p.read in
    let four : count ≡ 4 = grind (arith, nat_tests) in
    let half : is_low n ≡ true = (and_parts (count == 4) (is_low n) y).1 in
    let is_u : l ≡ 0x75 = four_digits l count p.wants four in (
      refl,
      subst (WrongEscape UnpairedLowSurrogate) (sym (whole_text p
          ∙ ap (λ m. m ∷ (d.digits ++ mid.unread.text)) is_u))
          (alone d.digits mid.unread.text (subst (λ m. AreDigits m d.digits) four d.are)
          (ap is_low (sym d.writes) ∙ half)),
    )
with_low start l count n h mid p none high false y =
    let d = p.read in
    let no_scalar : scalar (number_of d.digits) ≡ false = ap scalar (sym d.writes) ∙ none in
    let eight = wants_eight l count d.digits p.wants d.are no_scalar (ap (λ m. count == 4 && is_high m) (sym d.writes)
    ∙ high) (ap (λ m. count == 4 && is_low m) (sym d.writes) ∙ y) in (
      refl,
      subst (WrongEscape InvalidUnicodeEscape) (sym (whole_text p
          ∙ ap (λ m. m ∷ (d.digits ++ mid.unread.text)) eight.0))
          (no_character d.digits mid.unread.text (subst (λ m. AreDigits m d.digits) eight.1 d.are) no_scalar),
    )

with_high : (start : Mark) (l count n : ℕ) (h mid : Here) → Numbered l count n h mid → scalar n ≡ false → (b : Bool)
    → (count == 4 && is_high n) ≡ b
    → ReadsEscape start h (if b then second_half_or start n mid else if count == 4
    && is_low n then fails_at UnpairedLowSurrogate start else fails_at InvalidUnicodeEscape start)
with_high start l count n h mid p none true y =
    with_second start l count n h mid p y (second_half_or start n mid) (reads_second start n mid)
with_high start l count n h mid p none false y = with_low start l count n h mid p none y (count == 4 && is_low n) refl

with_number : (start : Mark) (l count n : ℕ) (h mid : Here) → Numbered l count n h mid → (b : Bool) → scalar n ≡ b
    → ReadsEscape start h (if b then Ok (n, mid) else if count == 4
    && is_high n then second_half_or start n mid else if count == 4
    && is_low n then fails_at UnpairedLowSurrogate start else fails_at InvalidUnicodeEscape start)
with_number start l count n h mid p true y =
    let d = p.read in
    record {
      characters = l ∷ d.digits;
      is = subst (λ m. Escape (0x5C ∷ l ∷ d.digits) m) (sym d.writes) (number p.wants d.are (ap scalar (sym d.writes)
          ∙ y));
      text = whole_text p;
      lands = d.lands;
    }
with_number start l count n h mid p false y = with_high start l count n h mid p y (count == 4 && is_high n) refl

numbered_reads : (start : Mark) (l count n : ℕ) (h mid : Here) → Numbered l count n h mid
    → ReadsEscape start h (numbered_or start count n mid)
unfolding numbered_or
numbered_reads start l count n h mid p = with_number start l count n h mid p (scalar n) refl

with_digits : (start : Mark) (l count : ℕ) (h : Here) → digit_count l ≡ Some count
    → h.unread.text ≡ l ∷ (step h).unread.text → (r : Result (ℕ × Here) Fault)
    → ReadsDigits InvalidQuotedScalarHexEscape start count 0 (step h) r
    → ReadsEscape start h (r >>= λ x. numbered_or start count x.0 x.1)
with_digits start l count h wants there (Ok (n, mid)) d =
    numbered_reads start l count n h mid (record { wants = wants; there = there; read = d })
with_digits start l count h wants there (Err f) d = (
  ap (λ (x : Fault). x.mark) d.0,
  subst (λ k. WrongEscape k h.unread.text) (sym (ap (λ (x : Fault). x.kind) d.0))
      (subst (WrongEscape InvalidQuotedScalarHexEscape) (sym there) (hex wants d.1)),
)

some_letter : (text : List ℕ) (h : Here) (c : ℕ) → h.unread.text ≡ text → letter_value (first text) ≡ Some c → Seen h
some_letter [] h c e y = absurd (let n = no_letter_nul in cc)
some_letter (l ∷ t) h c e y = seen_as h l t e

some_count : (text : List ℕ) (h : Here) (c : ℕ) → h.unread.text ≡ text → digit_count (first text) ≡ Some c → Seen h
some_count [] h c e y = absurd (let n = no_count_nul in cc)
some_count (l ∷ t) h c e y = seen_as h l t e

with_letter : (start : Mark) (h : Here) (value count : Option ℕ) → letter_value (next_char h) ≡ value
    → digit_count (next_char h) ≡ count → ReadsEscape start h (escape_or_by start value count h)
with_letter start h (Some c) count p q =
    let s = some_letter h.unread.text h c refl p in
    record { characters = next_char h ∷ []; is = letter p; text = s.is; lands = refl }
with_letter start h None (Some count) p q =
    let s = some_count h.unread.text h count refl q in
    with_digits start (next_char h) count h q s.is (digits_or InvalidQuotedScalarHexEscape start count 0 (step h))
    (reads_digits InvalidQuotedScalarHexEscape start count 0 (step h))
with_letter start h None None p q = (refl, unknown p q)

-- what is read behind a backslash stands there, or is wrong
pub reads_escape : (start : Mark) (h : Here) → ReadsEscape start h (escape_or start h)
unfolding escape_or
reads_escape start h = with_letter start h (letter_value (next_char h)) (digit_count (next_char h)) refl refl

-- ---- what is there is read

digits_are : (kind : FaultKind) (start : Mark) (ds t : List ℕ) (n : ℕ) (h : Here) → h.unread.text ≡ ds ++ t
    → Each is_hex ds → digits_or kind start (length ds) n h ≡ Ok (number_behind n ds, over ds h)
unfolding digits_or
digits_are kind start [] t n h e y = refl
digits_are kind start (d ∷ ds) t n h e y =
    let next : next_char h ≡ d = ap first e in
    cond-true (is_hex (next_char h)) _ _ (ap is_hex next ∙ y.0)
    ∙ ap (λ m. digits_or kind start (length ds) (n * 16 + hex_value m) (step h)) next
    ∙ digits_are kind start ds t (n * 16 + hex_value d) (step h) (stepped_text h d (ds ++ t) e) y.1

pub counted : (kind : FaultKind) (start : Mark) (count : ℕ) (ds t : List ℕ) (h : Here) → h.unread.text ≡ ds ++ t
    → AreDigits count ds → digits_or kind start count 0 h ≡ Ok (number_of ds, over ds h)
counted kind start count ds t h e a =
    ap (λ m. digits_or kind start m 0 h) (sym a.counted) ∙ digits_are kind start ds t 0 h e a.each

pub over_text : (cs t : List ℕ) (h : Here) → h.unread.text ≡ cs ++ t → (over cs h).unread.text ≡ t
over_text [] t h e = e
over_text (c ∷ cs) t h e = over_text cs t (step h) (stepped_text h c (cs ++ t) e)

second_is : (start : Mark) (high : ℕ) (low t : List ℕ) (h : Here) → h.unread.text ≡ 0x5C ∷ 0x75 ∷ (low ++ t)
    → AreDigits 4 low → is_low (number_of low) ≡ true
    → second_half_or start high h ≡ Ok (joined high (number_of low), over (0x5C ∷ 0x75 ∷ low) h)
unfolding second_half_or
second_is start high low t h e a y =
    cond-true (next_char h == 0x5C && slice_index h.unread.text 1 == 0x75) _ _ (ap (λ (l : List ℕ). first l == 0x5C
    && slice_index l 1 == 0x75) e)
    ∙ ap (λ r. r >>= λ x. joined_or start high x.0 x.1)
    (counted InvalidLowSurrogateHexEscape start 4 low t (step (step h))
    (stepped_text (step h) 0x75 (low ++ t) (stepped_text h 0x5C (0x75 ∷ (low ++ t)) e)) a)
    ∙ cond-true (is_low (number_of low)) _ _ y

numbered_is : (start : Mark) (count n : ℕ) (h : Here) → scalar n ≡ true → numbered_or start count n h ≡ Ok (n, h)
unfolding numbered_or
numbered_is start count n h y = cond-true (scalar n) _ _ y

pub numbered_half : (start : Mark) (n : ℕ) (h : Here) → is_high n ≡ true
    → numbered_or start 4 n h ≡ second_half_or start n h
unfolding numbered_or
numbered_half start n h y = cond-false (scalar n) _ _ (half_is_none n y) ∙ cond-true (4 == 4 && is_high n) _ _ y

by_letter : (start : Mark) (h : Here) (c : ℕ) → letter_value (next_char h) ≡ Some c → escape_or start h ≡ Ok (c, step h)
unfolding escape_or
by_letter start h c y = ap (λ v. escape_or_by start v (digit_count (next_char h)) h) y

pub by_digits : (start : Mark) (h : Here) (l count : ℕ) (ds t : List ℕ) → h.unread.text ≡ l ∷ (ds ++ t)
    → digit_count l ≡ Some count → AreDigits count ds
    → escape_or start h ≡ numbered_or start count (number_of ds) (over ds (step h))
unfolding escape_or
by_digits start h l count ds t e y a =
    let next : next_char h ≡ l = ap first e in
    ap₂ (λ v w. escape_or_by start v w h) (ap letter_value next ∙ number_letter l count y) (ap digit_count next ∙ y)
    ∙ ap (λ r. r >>= λ x. numbered_or start count x.0 x.1)
    (counted InvalidQuotedScalarHexEscape start count ds t (step h) (stepped_text h l (ds ++ t) e) a)

-- an escape that stands there is read
pub escape_is : (start : Mark) (e : List ℕ) (c : ℕ) (t : List ℕ) (h : Here) → Escape e c → h.unread.text ≡ e ++ t
    → escape_or start (step h) ≡ Ok (c, over e h)
escape_is start e c t h (letter {l = l} y) is =
    by_letter start (step h) c (ap (λ (s : List ℕ). letter_value (first s)) (stepped_text h 0x5C (l ∷ t) is) ∙ y)
escape_is start e c t h (number {l = l} {count = count} {digits = ds} y a v) is =
    by_digits start (step h) l count ds t (stepped_text h 0x5C (l ∷ (ds ++ t)) is) y a
    ∙ numbered_is start count (number_of ds) (over ds (step (step h))) v
escape_is start e c t h (halves {high = high} {low = low} a p b q) is =
    let there : h.unread.text ≡ 0x5C ∷ 0x75 ∷ (high ++ (0x5C ∷ 0x75 ∷ (low ++ t))) = is
    ∙ ap (λ (s : List ℕ). 0x5C ∷ 0x75 ∷ s) (append_assoc high (0x5C ∷ 0x75 ∷ low) t) in
    let letter_on = stepped_text h 0x5C (0x75 ∷ (high ++ (0x5C ∷ 0x75 ∷ (low ++ t)))) there in
    by_digits start (step h) 0x75 4 high (0x5C ∷ 0x75 ∷ (low ++ t)) letter_on u_wants_four a
    ∙ numbered_half start (number_of high) (over high (step (step h))) p
    ∙ second_is start (number_of high) low t (over high (step (step h)))
    (over_text high (0x5C ∷ 0x75 ∷ (low ++ t)) (step (step h))
    (stepped_text (step h) 0x75 (high ++ (0x5C ∷ 0x75 ∷ (low ++ t))) letter_on)) b q
    ∙ ap (λ g. Ok (joined (number_of high) (number_of low), g))
    (sym (over-append high (0x5C ∷ 0x75 ∷ low) (step (step h))))
