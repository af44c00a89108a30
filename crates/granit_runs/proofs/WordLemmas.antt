-- Words of a plain scalar in front of a text, taken as bytes.
use Rattle.std.proofs.Common.{◌≡◌, ℕ, zero, suc, ◌+◌, ◌-◌, ◌<◌, ◌≤◌, ◌==◌, ◌&&◌, ◌||◌, not, nat_lt, Bool, true, false}
use Rattle.std.proofs.Common.{List, [], ◌∷◌, ◌++◌, length, take, drop, slice_index, None, refl, sym, ap, ap₂, ◌∙◌}
use Rattle.std.proofs.Common.{Option, subst, inl, inr, arith}
use Rattle.std.specs.Char.{encode_utf8, is_ascii_graphic}
use Rattle.std.specs.List.{find}
use Rattle.std.specs.Str.{chars, encode_utf8_all, is_utf8}
use Rattle.std.proofs.lemmas.Bool.{cases_Bool}
use Rattle.std.proofs.lemmas.Bool.Decides.{nat_tests}
use Rattle.std.proofs.lemmas.List.{drop-drop}
use Rattle.std.proofs.lemmas.Str.{chars_past_char, encode_ascii, is_utf8-from_IsUtf8, IsUtf8-from_is_utf8}
use Rattle.std.proofs.lemmas.Str.{IsUtf8-past_char}
use Rattle.granit_base.specs.Classes.{is_blank, is_blank_or_breakz, is_break, is_breakz, is_flow, is_printable, is_z}
use Rattle.granit_base.specs.Classes.{is_within}
use Rattle.granit_base.specs.Place.{first}
use Rattle.granit_runs.specs.Cuts.{SpellsFront}
use Rattle.granit_runs.specs.Runs.{is_plain_ascii}
use Rattle.granit_runs.specs.Unread.{utf8_length}
use Rattle.granit_runs.specs.White.{blanks_length}
use Rattle.granit_runs.specs.Words.{AreWords, EndsBelow, SplitsLineEnd, ShowsByte, ShowsFront, stops_words}
use Rattle.granit_runs.specs.declared.class.Run.{Run}
use Rattle.granit_runs.specs.declared.class.Run.TheVariants.{PlainWords}
use Rattle.granit_runs.specs.declared.whitespace.SkipTabs.TheVariants.{No}
use Rattle.granit_runs.proofs.AsciiLemmas.{first_byte, spells_on, spelt}
use Rattle.granit_runs.proofs.RunLemmas.{none_taken}
use Rattle.granit_runs.proofs.StringLemmas.{one_bytes}

-- ---- what the run surely takes is shown

pub word_shows : (in_flow : Bool) (c : ℕ) → is_plain_ascii in_flow c ≡ true → is_within 0x20 0x7E c ≡ true
word_shows true c y = grind (arith, nat_tests)
word_shows false c y = grind (arith, nat_tests)

pub pair_shows : (in_flow : Bool) (c n : ℕ)
    → (is_plain_ascii in_flow c || (c == 0x20 && (not (n == 0x23) && is_plain_ascii in_flow n))) ≡ true
    → is_within 0x20 0x7E c ≡ true
pair_shows true c n held = grind (arith, nat_tests)
pair_shows false c n held = grind (arith, nat_tests)

pub shows_none : (run : Run) (bytes : List ℕ) → ShowsFront run bytes 0
shows_none run bytes = λ k few. absurd (omega (arith, few))

-- so many more
pub shows_on : (run : Run) (bytes : List ℕ) (m n : ℕ) → ShowsFront run bytes m
    → ((k : ℕ) → k < n → ShowsByte run (slice_index bytes (m + k))) → ShowsFront run bytes (m + n)
shows_on run bytes m n front more = λ k few.
    elim (cases_Bool (nat_lt k m)) [
      | inl before ↦ front k (grind (arith, nat_tests, before))
      | inr behind ↦
          let j : m + (k - m) ≡ k = grind (arith, nat_tests, behind) in
          let small : k - m < n = grind (arith, nat_tests, behind, few) in
          subst (λ (i : ℕ). ShowsByte run (slice_index bytes i)) j (more (k - m) small)
    ]

pub shows_more : (run : Run) (bytes : List ℕ) (n : ℕ) → ShowsFront run bytes n → ShowsByte run (slice_index bytes n)
    → ShowsFront run bytes (n + 1)
shows_more run bytes n front one = shows_on run bytes n 1 front (λ k few.
    let none : n ≡ n + k = omega (arith, few) in
    subst (λ (i : ℕ). ShowsByte run (slice_index bytes i)) none one)

-- ---- bytes that are characters

module _ (c : ℕ) (cs : List ℕ) (utf8 : is_utf8 (c ∷ cs) ≡ true) (low : c < 0x80) where
  one_char : c ∷ cs ≡ encode_utf8 c ++ cs
  one_char = ap (λ (bs : List ℕ). bs ++ cs) (sym (encode_ascii c low))

  chars_more : chars (c ∷ cs) ≡ c ∷ chars cs
  chars_more = chars_past_char (c ∷ cs) cs c (IsUtf8-from_is_utf8 (c ∷ cs) utf8) one_char

  utf8_more : is_utf8 cs ≡ true
  utf8_more = is_utf8-from_IsUtf8 cs (IsUtf8-past_char (c ∷ cs) cs c (IsUtf8-from_is_utf8 (c ∷ cs) utf8) one_char)

-- each of so many bytes is shown, or a space
abbrev pub AreShown : List ℕ → ℕ → Type 0
AreShown s n = (k : ℕ) → k < n → is_within 0x20 0x7E (slice_index s k) ≡ true

shown_low : (c : ℕ) → is_within 0x20 0x7E c ≡ true → c < 0x80
shown_low c is = grind (arith, nat_tests)

shown_prints : (c : ℕ) → is_within 0x20 0x7E c ≡ true → is_printable c ≡ true
unfolding is_printable is_break
shown_prints c is = grind (arith, nat_tests)

rest_shown : (c : ℕ) (cs : List ℕ) (n : ℕ) → AreShown (c ∷ cs) (suc n) → AreShown cs n
rest_shown c cs n shown = λ k few. shown (suc k) (omega (arith, few))

first_shown : (c : ℕ) (cs : List ℕ) (n : ℕ) → AreShown (c ∷ cs) (suc n) → is_within 0x20 0x7E c ≡ true
first_shown c cs n shown = shown 0 (omega arith)

-- the first characters are the first bytes
pub front_chars : (n : ℕ) (s : List ℕ) → is_utf8 s ≡ true → n ≤ length s → AreShown s n
    → take n (chars s) ≡ take n s
front_chars zero s utf8 within shown = none_taken (chars s) ∙ sym (none_taken s)
front_chars (suc n) [] utf8 within shown = absurd (omega (arith, within))
front_chars (suc n) (c ∷ cs) utf8 within shown =
    let low = shown_low c (first_shown c cs n shown) in
    ap (take (suc n)) (chars_more c cs utf8 low)
    ∙ ap (λ (t : List ℕ). c ∷ t) (front_chars n cs (utf8_more c cs utf8 low) (omega (arith, within))
    (rest_shown c cs n shown))

-- and each is one of them
front_length : (n : ℕ) (s : List ℕ) → n ≤ length s → AreShown s n → utf8_length (take n s) ≡ n
front_length zero [] within shown = refl
front_length zero (c ∷ cs) within shown = refl
front_length (suc n) [] within shown = absurd (omega (arith, within))
front_length (suc n) (c ∷ cs) within shown =
    let one = encode_ascii c (shown_low c (first_shown c cs n shown)) in
    let more = front_length n cs (omega (arith, within)) (rest_shown c cs n shown) in
    ap (λ (bs : List ℕ). length (bs ++ encode_utf8_all (take n cs))) one ∙ ap suc more

front_prints : (n : ℕ) (s : List ℕ) → n ≤ length s → AreShown s n → find (λ c. not (is_printable c)) (take n s) ≡ None
front_prints zero [] within shown = refl
front_prints zero (c ∷ cs) within shown = refl
front_prints (suc n) [] within shown = absurd (omega (arith, within))
front_prints (suc n) (c ∷ cs) within shown =
    rw (shown_prints c (first_shown c cs n shown)) (front_prints n cs (omega (arith, within)) (rest_shown c cs n shown))

-- characters of ASCII that are surely words in front of a text
pub are_words : (in_flow : Bool) (s : List ℕ) (n : ℕ) → is_utf8 s ≡ true → n ≤ length s
    → ShowsFront (PlainWords in_flow) s n → 0 < n → (slice_index s 0 ≡ 0x2D → 1 < n) → AreWords (chars s) n
are_words in_flow s n utf8 within shown some dash =
    let same = front_chars n s utf8 within shown in
    record {
      some = some;
      single = ap utf8_length same ∙ front_length n s within shown;
      printable = ap (find (λ c. not (is_printable c))) same ∙ front_prints n s within shown;
      dash = λ is. dash (sym (first_byte s 0 (omega (arith, some, within)) (shown_low (slice_index s 0) (shown 0 some))
          utf8) ∙ is);
    }

-- ---- what ends words

flow_low : (c : ℕ) → is_flow c ≡ true → c < 0x80
unfolding is_flow
flow_low c is = grind (arith, nat_tests)

pub flow_stops : (text : List ℕ) → is_flow (first text) ≡ true → stops_words true text ≡ true
flow_stops text is =
    ap₂ (λ (a b : Bool). (first text == 0x3A || a) && not (no_blank && (goes && not b))) is is
    ∙ both (first text == 0x3A) no_blank goes
  where
    no_blank : Bool
    no_blank = not (is_blank_or_breakz (first text))

    goes : Bool
    goes = not (first text == 0x3A && (is_blank_or_breakz (slice_index text 1) || is_flow (slice_index text 1)))

    both : (a b c : Bool) → ((a || true) && not (b && (c && not true))) ≡ true
    both true true true = refl
    both true true false = refl
    both true false c = refl
    both false true true = refl
    both false true false = refl
    both false false c = refl

pub colon_stops : (in_flow : Bool) (text : List ℕ) → first text ≡ 0x3A
    → ((slice_index text 1 == 0x20 || slice_index text 1 == 0x0A) || (in_flow && is_flow (slice_index text 1))) ≡ true
    → stops_words in_flow text ≡ true
unfolding is_blank_or_breakz is_breakz is_blank is_break is_z
colon_stops true text is next = grind (arith, nat_tests)
colon_stops false text is next = grind (arith, nat_tests)

module _ (s : List ℕ) (utf8 : is_utf8 s ≡ true) (low : slice_index s 0 < 0x80) where
  first_is : 0 < length s → first (chars s) ≡ slice_index s 0
  first_is some = first_byte s 0 some low utf8

  pub all_chars : 0 < length s → chars s ≡ slice_index s 0 ∷ chars (drop 1 s)
  all_chars some = chars_past_char s (drop 1 s) (slice_index s 0) (IsUtf8-from_is_utf8 s utf8) (spelt s 0 some low)

  pub utf8_behind : 0 < length s → is_utf8 (drop 1 s) ≡ true
  utf8_behind some = is_utf8-from_IsUtf8 (drop 1 s) (IsUtf8-past_char s (drop 1 s) (slice_index s 0)
      (IsUtf8-from_is_utf8 s utf8) (spelt s 0 some low))

  second_is : 1 < length s → slice_index s 1 < 0x80 → slice_index (chars s) 1 ≡ slice_index s 1
  second_is some next =
      ap (λ (cs : List ℕ). slice_index cs 1) (all_chars (omega (arith, some)))
      ∙ first_byte s 1 some next (utf8_behind (omega (arith, some)))

divider_low : (in_flow : Bool) (c : ℕ) → ((c == 0x20 || c == 0x0A) || (in_flow && is_flow c)) ≡ true → c < 0x80
unfolding is_flow
divider_low true c is = grind (arith, nat_tests)
divider_low false c is = grind (arith, nat_tests)

-- a flow indicator, or a `:` that divides a pair, by their bytes
pub flow_first : (s : List ℕ) → is_utf8 s ≡ true → 0 < length s → is_flow (slice_index s 0) ≡ true
    → is_flow (first (chars s)) ≡ true
flow_first s utf8 some is = ap is_flow (first_is s utf8 (flow_low (slice_index s 0) is) some) ∙ is

pub flow_byte : (s : List ℕ) → is_utf8 s ≡ true → 0 < length s → is_flow (slice_index s 0) ≡ true
    → stops_words true (chars s) ≡ true
flow_byte s utf8 some is = flow_stops (chars s) (flow_first s utf8 some is)

pub colon_byte : (in_flow : Bool) (s : List ℕ) → is_utf8 s ≡ true → 1 < length s → slice_index s 0 ≡ 0x3A
    → ((slice_index s 1 == 0x20 || slice_index s 1 == 0x0A) || (in_flow && is_flow (slice_index s 1))) ≡ true
    → stops_words in_flow (chars s) ≡ true
colon_byte in_flow s utf8 some is next =
    let low : slice_index s 0 < 0x80 = omega (arith, is) in
    let there = second_is s utf8 low some (divider_low in_flow (slice_index s 1) next) in
    colon_stops in_flow (chars s) (first_is s utf8 low (omega (arith, some)) ∙ is)
    (ap (λ (c : ℕ). (c == 0x20 || c == 0x0A) || (in_flow && is_flow c)) there ∙ next)

-- ---- a line behind words

pub line_passed : (in_flow : Bool) (column : Option ℕ) (spaces : ℕ) (s behind after : List ℕ)
    → chars s ≡ 0x0A ∷ chars behind → s ≡ encode_utf8 0x0A ++ behind → spaces ≡ blanks_length No (chars behind)
    → chars after ≡ drop spaces (chars behind) → SpellsFront behind spaces after → is_utf8 after ≡ true
    → is_within 0x21 0x7E (first (chars after)) ≡ true → EndsBelow in_flow column spaces (first (chars after))
    → SplitsLineEnd in_flow column s spaces after
line_passed in_flow column spaces s behind after text bytes blanks rest spelt utf8 visible ends =
    let dropped : drop 1 (chars s) ≡ chars behind = ap (drop 1) text in
    let there : chars after ≡ drop spaces (drop 1 (chars s)) = rest ∙ ap (drop spaces) (sym dropped) in
    record {
      ends = record {
        feed = ap first text;
        blanks = blanks ∙ ap (blanks_length No) (sym dropped);
        visible = ap (λ (cs : List ℕ). is_within 0x21 0x7E (first cs)) (sym there) ∙ visible;
        ends = subst (λ (cs : List ℕ). EndsBelow in_flow column spaces (first cs)) there ends;
      };
      rest = there ∙ drop-drop spaces 1 (chars s);
      bytes = spells_on s behind after 1 spaces (sym dropped) (one_bytes s behind 0x0A text bytes) spelt;
      utf8 = utf8;
    }

-- ---- by what the code has seen

pub dash_more : (n c : ℕ) → 0 < n → (n == 1 && c == 0x2D) ≡ false → c ≡ 0x2D → 1 < n
dash_more n c some other is = grind (arith, nat_tests, some, other, is)

pub graphic_first : (s : List ℕ) → is_utf8 s ≡ true → 0 < length s → is_ascii_graphic (slice_index s 0) ≡ true
    → is_within 0x21 0x7E (first (chars s)) ≡ true
graphic_first s utf8 some is =
    let within : is_within 0x21 0x7E (slice_index s 0) ≡ true = grind (arith, nat_tests, is) in
    let low : slice_index s 0 < 0x80 = grind (arith, nat_tests, within) in
    ap (is_within 0x21 0x7E) (first_is s utf8 low some) ∙ within
