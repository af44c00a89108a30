-- Characters of ASCII in front of a text, taken as bytes.
use Rattle.std.proofs.Common.{inl, inr}
use Rattle.std.proofs.Common.{◌≡◌, ℕ, suc, ◌+◌, ◌<◌, ◌≤◌, ◌==◌, ◌&&◌, ◌||◌, not, Bool, true, false, List, []}
use Rattle.std.proofs.Common.{◌∷◌, ◌++◌, length, take, drop, slice_index, refl, sym, ap, ◌∙◌, arith, drop-cons}
use Rattle.std.proofs.Common.{take-add, append_assoc}
use Rattle.std.specs.Char.{encode_utf8}
use Rattle.std.specs.Str.{chars, encode_utf8_all, is_utf8}
use Rattle.std.proofs.lemmas.Str.{chars_past_char, encode_ascii, encodes-append, IsUtf8-past_char, IsUtf8-from_is_utf8}
use Rattle.std.proofs.lemmas.Str.{is_utf8-from_IsUtf8, encodes-chars, chars-nil}
use Rattle.std.proofs.lemmas.Bool.{cases_Bool, or_right}
use Rattle.std.proofs.lemmas.List.{drop_all}
use Rattle.std.proofs.lemmas.Bool.Decides.{nat_tests}
use Rattle.granit_base.specs.Classes.{is_blank, is_blank_or_breakz, is_break, is_breakz, is_printable, is_within, is_z}
use Rattle.granit_base.specs.Place.{first}
use Rattle.granit_base.specs.PlainContent.{is_content}
use Rattle.granit_runs.specs.Cuts.{SpellsFront, IsAsciiFront}
use Rattle.granit_runs.specs.Runs.{begins_word, is_line_char, is_plain_ascii, is_plain_word, starts}
use Rattle.granit_runs.specs.White.{blanks_length, is_skipped}
use Rattle.granit_runs.specs.declared.whitespace.SkipTabs.{SkipTabs}
use Rattle.granit_runs.specs.declared.whitespace.SkipTabs.TheVariants.{Yes, No}
use Rattle.granit_runs.proofs.RunLemmas.{front_none, front_more, front_whole}
use Rattle.granit_runs.proofs.WhiteLemmas.{skipped_nul, skipped_some}
use Rattle.granit_runs.proofs.StringLemmas.{behind_more}

-- the first character of a text whose first byte is of ASCII
pub spelt : (s : List ℕ) (i : ℕ) → i < length s → slice_index s i < 0x80
    → drop i s ≡ encode_utf8 (slice_index s i) ++ drop (i + 1) s
spelt s i within low =
    let one : i + 1 ≡ suc i = omega arith in
    let next : drop (i + 1) s ≡ drop (suc i) s = ap (λ (n : ℕ). drop n s) one in
    drop-cons s i 0 within
    ∙ ap (λ (bs : List ℕ). bs ++ drop (suc i) s) (sym (encode_ascii (slice_index s i) low))
    ∙ ap (λ (bs : List ℕ). encode_utf8 (slice_index s i) ++ bs) (sym next)

pub first_byte : (s : List ℕ) (i : ℕ) → i < length s → slice_index s i < 0x80 → is_utf8 (drop i s) ≡ true
    → first (chars (drop i s)) ≡ slice_index s i
first_byte s i within low utf8 =
    ap first (chars_past_char (drop i s) (drop (i + 1) s) (slice_index s i) (IsUtf8-from_is_utf8 (drop i s) utf8)
    (spelt s i within low))

pub ascii_none : (test : List ℕ → Bool) (s : List ℕ) → is_utf8 s ≡ true → IsAsciiFront test s 0
ascii_none test s utf8 = record {
  within = omega arith;
  utf8 = utf8;
  front = (front_none test (chars s)).rest;
  rest = refl;
  bytes = refl;
}

-- the text behind a byte of ASCII
pub utf8_after : (test : List ℕ → Bool) (s : List ℕ) (i : ℕ) → IsAsciiFront test s i → i < length s
    → slice_index s i < 0x80 → is_utf8 (drop (i + 1) s) ≡ true
utf8_after test s i so_far within low =
    is_utf8-from_IsUtf8 (drop (i + 1) s) (IsUtf8-past_char (drop i s) (drop (i + 1) s) (slice_index s i)
    (IsUtf8-from_is_utf8 (drop i s) so_far.utf8) (spelt s i within low))

pub ascii_more : (test : List ℕ → Bool) (s : List ℕ) (i : ℕ) → test [] ≡ false → IsAsciiFront test s i → i < length s
    → slice_index s i < 0x80 → test (slice_index s i ∷ chars (drop (i + 1) s)) ≡ true → IsAsciiFront test s (i + 1)
ascii_more test s i nul so_far within low passes =
    let b = slice_index s i in
    let bytes = spelt s i within low in
    let first_is : chars (drop i s) ≡ b ∷ chars (drop (i + 1) s) =
    chars_past_char (drop i s) (drop (i + 1) s) b (IsUtf8-from_is_utf8 (drop i s) so_far.utf8) bytes in
    let more = behind_more s (drop i s) (drop (i + 1) s) i b so_far.rest first_is bytes so_far.bytes in
    let here : drop i (chars s) ≡ b ∷ chars (drop (i + 1) s) = sym so_far.rest ∙ first_is in
    let front = front_more test (chars s) i nul (record { rest = so_far.front }) (ap test here ∙ passes) in
    record {
      within = omega arith;
      utf8 = utf8_after test s i so_far within low;
      front = front.rest;
      rest = more.0;
      bytes = more.1;
    }

-- a text that goes on behind its front is spelt by both
pub spells_on : (s rest after : List ℕ) (m n : ℕ) → chars rest ≡ drop m (chars s) → SpellsFront s m rest
    → SpellsFront rest n after → SpellsFront s (m + n) after
spells_on s rest after m n text front more =
    let both : take (m + n) (chars s) ≡ take m (chars s) ++ take n (chars rest) = take-add m n (chars s)
    ∙ ap (λ (t : List ℕ). take m (chars s) ++ take n t) (sym text) in
    front ∙ ap (λ (bs : List ℕ). encode_utf8_all (take m (chars s)) ++ bs) more
    ∙ sym (append_assoc (encode_utf8_all (take m (chars s))) (encode_utf8_all (take n (chars rest))) after)
    ∙ ap (λ (bs : List ℕ). bs ++ after) (sym (ap encode_utf8_all both
    ∙ encodes-append (take m (chars s)) (take n (chars rest))))

-- ---- what a run takes of ASCII

pub line_ascii : (c : ℕ) → (is_within 0x20 0x7E c || c == 0x09) ≡ true → is_line_char c ≡ true
unfolding is_breakz is_break is_z is_printable
line_ascii c y = grind (arith, nat_tests)

pub plain_ascii : (in_flow : Bool) (c : ℕ) (after : List ℕ) → is_plain_ascii in_flow c ≡ true
    → is_content in_flow (c ∷ after) ≡ true
unfolding is_blank_or_breakz is_breakz is_blank is_break is_z
plain_ascii true c after y = grind (arith, nat_tests)
plain_ascii false c after y = grind (arith, nat_tests)

pub word_ascii : (in_flow : Bool) (c : ℕ) (after : List ℕ) → is_plain_ascii in_flow c ≡ true
    → is_plain_word in_flow (c ∷ after) ≡ true
word_ascii in_flow c after y =
    ap (λ b. b || (c == 0x20 && begins_word in_flow (first after))) (plain_ascii in_flow c after y)

begins_ascii : (in_flow : Bool) (c : ℕ) → (not (c == 0x23) && is_plain_ascii in_flow c) ≡ true
    → begins_word in_flow c ≡ true
unfolding is_blank_or_breakz is_breakz is_blank is_break is_z
begins_ascii true c y = grind (arith, nat_tests)
begins_ascii false c y = grind (arith, nat_tests)

ascii_below : (in_flow : Bool) (c : ℕ) → (not (c == 0x23) && is_plain_ascii in_flow c) ≡ true → (0 < c) × (c < 0x80)
ascii_below true c y = (grind (arith, nat_tests), grind (arith, nat_tests))
ascii_below false c y = (grind (arith, nat_tests), grind (arith, nat_tests))

-- a space before such a character
pub space_ascii : (in_flow : Bool) (c next : ℕ) (after : List ℕ) → c ≡ 0x20
    → (not (next == 0x23) && is_plain_ascii in_flow next) ≡ true
    → (c ≡ 0x20 → 0 < next → next < 0x80 → first after ≡ next) → is_plain_word in_flow (c ∷ after) ≡ true
space_ascii in_flow c next after is y seen =
    let below = ascii_below in_flow next y in
    let there : first after ≡ next = seen is below.0 below.1 in
    or_right (is_content in_flow (c ∷ after)) (c == 0x20 && begins_word in_flow (first after))
    (rw (is, there) (begins_ascii in_flow next y))

-- ---- blanks

skipped_low : (tabs : SkipTabs) (c : ℕ) → is_skipped tabs c ≡ true → c < 0x80
skipped_low Yes c y = grind (arith, nat_tests, y)
skipped_low No c y = grind (arith, nat_tests, y)

-- a first character of ASCII is the first byte
pub low_first : (cs bytes : List ℕ) → encode_utf8_all cs ≡ bytes → 0 < first cs → first cs < 0x80
    → first cs ≡ first bytes
low_first [] bytes is some low = absurd (omega (arith, some))
low_first (c ∷ cs) bytes is some low =
    sym (ap (λ (bs : List ℕ). first (bs ++ encode_utf8_all cs)) (encode_ascii c low)) ∙ ap first is

-- behind a byte that is no blank stands no blank
pub unskipped_byte : (tabs : SkipTabs) (s : List ℕ) (i : ℕ) → i < length s → is_utf8 (drop i s) ≡ true
    → is_skipped tabs (slice_index s i) ≡ false → is_skipped tabs (first (chars (drop i s))) ≡ false
unskipped_byte tabs s i within utf8 none =
    elim (cases_Bool (is_skipped tabs (first (chars (drop i s))))) [
      | inl some ↦ absurd (
          let same : first (chars (drop i s)) ≡ slice_index s i =
          low_first (chars (drop i s)) (drop i s) (encodes-chars (drop i s) (IsUtf8-from_is_utf8 (drop i s) utf8))
          (skipped_some tabs (first (chars (drop i s))) some) (skipped_low tabs (first (chars (drop i s))) some)
          ∙ ap first (drop-cons s i 0 within) in
          let also : is_skipped tabs (first (chars (drop i s))) ≡ false = ap (is_skipped tabs) same ∙ none in cc)
      | inr other ↦ other
    ]

-- such a byte is a blank
pub skipped_byte : (tabs : SkipTabs) (s : List ℕ) (i : ℕ) → IsAsciiFront (starts (is_skipped tabs)) s i → i < length s
    → is_skipped tabs (slice_index s i) ≡ true
    → IsAsciiFront (starts (is_skipped tabs)) s (i + 1) × (slice_index s i ≡ first (drop i (chars s)))
skipped_byte tabs s i so_far within is =
    let low = skipped_low tabs (slice_index s i) is in (
      ascii_more (starts (is_skipped tabs)) s i (skipped_nul tabs) so_far within low is,
      sym (first_byte s i within low so_far.utf8) ∙ ap first so_far.rest,
    )

-- behind all bytes stands nothing
pub nothing_behind : (s : List ℕ) (i : ℕ) → length s ≤ i → chars (drop i s) ≡ []
nothing_behind s i all = ap chars (drop_all i s all) ∙ chars-nil

pub whole_white : (tabs : SkipTabs) (s : List ℕ) (i : ℕ) → IsAsciiFront (starts (is_skipped tabs)) s i
    → is_skipped tabs (first (chars (drop i s))) ≡ false → i ≡ blanks_length tabs (chars s)
whole_white tabs s i front stop = front_whole (starts (is_skipped tabs)) (chars s) i (record { rest = front.front })
    (ap (λ (cs : List ℕ). is_skipped tabs (first cs)) (sym front.rest) ∙ stop)
