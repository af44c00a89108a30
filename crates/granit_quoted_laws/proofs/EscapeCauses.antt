-- A wrong escape is refused with exactly its kind.
use Rattle.std.proofs.Common.{◌≡◌, ℕ, zero, suc, ◌*◌, ◌+◌, ◌<◌, ◌==◌, true, false, ◌&&◌, List, [], ◌∷◌, ◌++◌, length}
use Rattle.std.proofs.Common.{Some, None, Err, refl, ap, ap₂, ◌∙◌, arith}
use Rattle.std.specs.Prelude.{slice_index}
use Rattle.std.proofs.lemmas.Bool.{cond-true, cond-false}
use Rattle.std.proofs.lemmas.Bool.Decides.{nat_tests}
use lib.Utf8.{scalar}
use Rattle.granit_base.specs.Classes.{is_hex, hex_value}
use Rattle.granit_base.specs.Place.{Mark, first}
use Rattle.granit_error.specs.FaultKind.{FaultKind, UnknownQuotedScalarEscape, InvalidQuotedScalarHexEscape}
use Rattle.granit_error.specs.FaultKind.{MissingLowSurrogate, InvalidLowSurrogateHexEscape, UnpairedLowSurrogate}
use Rattle.granit_error.specs.FaultKind.{InvalidUnicodeEscape}
use Rattle.granit_lexemes.specs.Decoding.{letter_value, digit_count, number_of, is_high, is_low}
use Rattle.granit_lexemes.specs.Gap.{Each}
use Rattle.granit_lexemes.specs.Here.{Here, next_char, step}
use Rattle.granit_lexemes.specs.Outcome.{fault_at, ◌>>=◌}
use Rattle.granit_lexemes.specs.PlainExtent.{over}
use Rattle.granit_lexemes.specs.QuotedExtent.{WrongEscape, unknown, hex, no_second, second_hex, no_half, alone}
use Rattle.granit_lexemes.specs.QuotedExtent.{no_character}
use Rattle.granit_lexemes.specs.QuotedScalar.{digits_or, joined_or, second_half_or, numbered_or, escape_or_by}
use Rattle.granit_lexemes.specs.QuotedScalar.{escape_or}
use Rattle.granit_lexemes.proofs.DecodingLemmas.{number_letter, u_wants_four}
use Rattle.granit_lexemes.proofs.HereLemmas.{stepped_text}
use Rattle.granit_scalars.proofs.QuotedEscapes.{over_text, counted, numbered_half, by_digits}

too_few : (kind : FaultKind) (start : Mark) (count n : ℕ) (ds t : List ℕ) (h : Here) → h.unread.text ≡ ds ++ t
    → Each is_hex ds → length ds < count → is_hex (first t) ≡ false
    → digits_or kind start count n h ≡ Err (fault_at kind start)
unfolding digits_or
too_few kind start zero n ds t h e y l m = absurd (omega arith)
too_few kind start (suc count) n [] t h e y l m =
    cond-false (is_hex (next_char h)) _ _ (ap (λ (u : List ℕ). is_hex (first u)) e ∙ m)
too_few kind start (suc count) n (d ∷ ds) t h e y l m =
    cond-true (is_hex (next_char h)) _ _ (ap (λ (u : List ℕ). is_hex (first u)) e ∙ y.0)
    ∙ too_few kind start count (n * 16 + hex_value (next_char h)) ds t (step h) (stepped_text h d (ds ++ t) e) y.1
    (omega arith) m

letter_wants : (start : Mark) (h : Here) (l count : ℕ) → next_char h ≡ l → digit_count l ≡ Some count
    → escape_or start h
    ≡ (digits_or InvalidQuotedScalarHexEscape start count 0 (step h) >>= λ x. numbered_or start count x.0 x.1)
unfolding escape_or
letter_wants start h l count next y =
    ap₂ (λ v w. escape_or_by start v w h) (ap letter_value next ∙ number_letter l count y) (ap digit_count next ∙ y)

letter_unknown : (start : Mark) (h : Here) → letter_value (next_char h) ≡ None → digit_count (next_char h) ≡ None
    → escape_or start h ≡ Err (fault_at UnknownQuotedScalarEscape start)
unfolding escape_or
letter_unknown start h p q = ap₂ (λ v w. escape_or_by start v w h) p q

second_missing : (start : Mark) (high : ℕ) (t : List ℕ) (h : Here) → h.unread.text ≡ t
    → (first t == 0x5C && slice_index t 1 == 0x75) ≡ false
    → second_half_or start high h ≡ Err (fault_at MissingLowSurrogate start)
unfolding second_half_or
second_missing start high t h e n =
    cond-false (next_char h == 0x5C && slice_index h.unread.text 1 == 0x75) _ _
    (ap (λ (u : List ℕ). first u == 0x5C && slice_index u 1 == 0x75) e ∙ n)

second_begun : (start : Mark) (high : ℕ) (t : List ℕ) (h : Here) → h.unread.text ≡ 0x5C ∷ 0x75 ∷ t
    → second_half_or start high h
    ≡ (digits_or InvalidLowSurrogateHexEscape start 4 0 (step (step h)) >>= λ x. joined_or start high x.0 x.1)
unfolding second_half_or
second_begun start high t h e =
    cond-true (next_char h == 0x5C && slice_index h.unread.text 1 == 0x75) _ _
    (ap (λ (u : List ℕ). first u == 0x5C && slice_index u 1 == 0x75) e)

low_is_none : (n : ℕ) → is_low n ≡ true → (scalar n ≡ false) × (is_high n ≡ false)
unfolding is_high is_low
low_is_none n y = (grind (arith, nat_tests), grind (arith, nat_tests))

numbered_low : (start : Mark) (n : ℕ) (h : Here) → is_low n ≡ true
    → numbered_or start 4 n h ≡ Err (fault_at UnpairedLowSurrogate start)
unfolding numbered_or
numbered_low start n h y =
    let none = low_is_none n y in
    cond-false (scalar n) _ _ none.0 ∙ cond-false (4 == 4 && is_high n) _ _ none.1
    ∙ cond-true (4 == 4 && is_low n) _ _ y

numbered_none : (start : Mark) (n : ℕ) (h : Here) → scalar n ≡ false
    → numbered_or start 8 n h ≡ Err (fault_at InvalidUnicodeEscape start)
unfolding numbered_or
numbered_none start n h y = cond-false (scalar n) _ _ y

wide_wants_eight : digit_count 0x55 ≡ Some 8
unfolding digit_count
wide_wants_eight = refl

-- behind a backslash, what is wrong is refused
pub wrong_escape : (start : Mark) {kind : FaultKind} {t : List ℕ} → WrongEscape kind t → (h : Here) → h.unread.text ≡ t
    → escape_or start h ≡ Err (fault_at kind start)
wrong_escape start (unknown p q) h e =
    letter_unknown start h (ap (λ (u : List ℕ). letter_value (first u)) e ∙ p)
    (ap (λ (u : List ℕ). digit_count (first u)) e ∙ q)
wrong_escape start (hex {l = l} {count = count} {text = t} y few) h e =
    letter_wants start h l count (ap first e) y
    ∙ ap (λ r. r >>= λ x. numbered_or start count x.0 x.1)
    (too_few InvalidQuotedScalarHexEscape start count 0 few.digits few.rest (step h)
    (stepped_text h l t e ∙ few.are) few.each few.fewer few.ended)
wrong_escape start (no_second high rest a y n) h e =
    let there = stepped_text h 0x75 (high ++ rest) e in
    by_digits start h 0x75 4 high rest e u_wants_four a
    ∙ numbered_half start (number_of high) (over high (step h)) y
    ∙ second_missing start (number_of high) rest (over high (step h)) (over_text high rest (step h) there) n
wrong_escape start (second_hex high rest a y few) h e =
    let tail = 0x5C ∷ 0x75 ∷ rest in
    let next = over high (step h) in
    let there : next.unread.text ≡ 0x5C ∷ 0x75 ∷ rest =
    over_text high tail (step h) (stepped_text h 0x75 (high ++ tail) e) in
    by_digits start h 0x75 4 high tail e u_wants_four a
    ∙ numbered_half start (number_of high) next y
    ∙ second_begun start (number_of high) rest next there
    ∙ ap (λ r. r >>= λ x. joined_or start (number_of high) x.0 x.1)
    (too_few InvalidLowSurrogateHexEscape start 4 0 few.digits few.rest (step (step next))
    (stepped_text (step next) 0x75 rest (stepped_text next 0x5C (0x75 ∷ rest) there) ∙ few.are)
    few.each few.fewer few.ended)
wrong_escape start (no_half high low rest a y b n) h e =
    let tail = 0x5C ∷ 0x75 ∷ (low ++ rest) in
    let next = over high (step h) in
    let there : next.unread.text ≡ 0x5C ∷ 0x75 ∷ (low ++ rest) =
    over_text high tail (step h) (stepped_text h 0x75 (high ++ tail) e) in
    by_digits start h 0x75 4 high tail e u_wants_four a
    ∙ numbered_half start (number_of high) next y
    ∙ second_begun start (number_of high) (low ++ rest) next there
    ∙ ap (λ r. r >>= λ x. joined_or start (number_of high) x.0 x.1)
    (counted InvalidLowSurrogateHexEscape start 4 low rest (step (step next))
    (stepped_text (step next) 0x75 (low ++ rest) (stepped_text next 0x5C (0x75 ∷ (low ++ rest)) there)) b)
    ∙ cond-false (is_low (number_of low)) _ _ n
wrong_escape start (alone low rest a y) h e =
    by_digits start h 0x75 4 low rest e u_wants_four a ∙ numbered_low start (number_of low) (over low (step h)) y
wrong_escape start (no_character digits rest a n) h e =
    by_digits start h 0x55 8 digits rest e wide_wants_eight a
    ∙ numbered_none start (number_of digits) (over digits (step h)) n
