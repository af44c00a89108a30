-- Quoted scalars of ASCII in front of a string.
use Rattle.std.proofs.Common.{◌≡◌, ℕ, suc, ◌+◌, ◌-◌, ◌<◌, ◌≤◌, Bool, true, false, List, [], ◌∷◌}
use Rattle.std.proofs.Common.{◌++◌, length, take, drop, slice_index}
use Rattle.std.proofs.Common.{sym, ap, subst, ◌∙◌, arith, drop-cons, length-append, length-drop}
use Rattle.std.specs.Str.{chars, encode_utf8_all, is_utf8}
use Rattle.std.proofs.lemmas.Bool.Decides.{nat_tests}
use Rattle.std.proofs.lemmas.List.{take-append-drop, drop-drop, length-take-le}
use Rattle.std.proofs.lemmas.Str.{chars_past_char, encode_ascii, encodes-chars, IsUtf8-past_char, IsUtf8-from_is_utf8}
use Rattle.std.proofs.lemmas.Str.{is_utf8-from_IsUtf8}
use Rattle.granit_base.specs.Place.{first}
use Rattle.granit_runs.specs.Cuts.{SpellsFront, IsAsciiFront}
use Rattle.granit_runs.specs.Quotes.{BeginsQuoted, ends_after_quote, quote_of}
use Rattle.granit_runs.specs.Runs.{run_length, is_quoted_word}
use Rattle.granit_runs.proofs.AsciiLemmas.{first_byte, low_first, spells_on}
use Rattle.granit_runs.proofs.RunLemmas.{run_within}
use Rattle.granit_runs.proofs.StringLemmas.{one_bytes}

pub quote_low : (single : Bool) → (0 < quote_of single) × (quote_of single < 0x80)
quote_low true = (omega arith, omega arith)
quote_low false = (omega arith, omega arith)

pub end_low : (in_flow : Bool) (c : ℕ) → ends_after_quote in_flow c ≡ true → c < 0x80
end_low true c y = grind (arith, nat_tests, y)
end_low false c y = grind (arith, nat_tests, y)

-- ---- one character of ASCII in front

pub record LowFront (c : ℕ) (s rest : List ℕ) : Type 0 where
  pub text : chars s ≡ c ∷ chars rest
  pub bytes : SpellsFront s 1 rest
  pub utf8 : is_utf8 rest ≡ true

pub low_front : (c : ℕ) (s rest : List ℕ) → s ≡ c ∷ rest → c < 0x80 → is_utf8 s ≡ true → LowFront c s rest
low_front c s rest is low utf8 =
    let spelt = is ∙ ap (λ (bs : List ℕ). bs ++ rest) (sym (encode_ascii c low)) in
    let text = chars_past_char s rest c (IsUtf8-from_is_utf8 s utf8) spelt in
    record {
      text = text;
      bytes = one_bytes s rest c text spelt;
      utf8 = is_utf8-from_IsUtf8 rest (IsUtf8-past_char s rest c (IsUtf8-from_is_utf8 s utf8) spelt);
    }

-- a first character of ASCII is a byte
pub first_low : (c : ℕ) (s : List ℕ) → is_utf8 s ≡ true → first (chars s) ≡ c → 0 < c → c < 0x80 → s ≡ c ∷ drop 1 s
first_low c s utf8 is some low =
    let spelt = encodes-chars s (IsUtf8-from_is_utf8 s utf8) in
    by s (sym (low_first (chars s) s spelt (omega (arith, is)) (omega (arith, is))) ∙ is)
  where
    by : (t : List ℕ) → first t ≡ c → t ≡ c ∷ drop 1 t
    by [] none = absurd (omega (arith, none, some))
    by (b ∷ bs) same = ap (λ (x : ℕ). x ∷ bs) same

-- the opening quote
pub opened : (single : Bool) (s : List ℕ) → is_utf8 s ≡ true → first (chars s) ≡ quote_of single
    → LowFront (quote_of single) s (drop 1 s) × (1 ≤ length s)
opened single s utf8 is =
    let low = quote_low single in
    let front = first_low (quote_of single) s utf8 is low.0 low.1 in
    (low_front (quote_of single) s (drop 1 s) front low.1 utf8, omega (arith, ap length front))

-- ---- the whole scalar

-- what is behind characters that are behind an opening quote, and a closing one
spelt_behind : (s inner t rest : List ℕ) (count a b : ℕ) → LowFront a s inner → chars t ≡ drop count (chars inner)
    → SpellsFront inner count t → LowFront b t rest
    → (chars rest ≡ drop (count + 2) (chars s)) × SpellsFront s (count + 2) rest
spelt_behind s inner t rest count a b opens behind bytes closes =
    let inner_is : chars inner ≡ drop 1 (chars s) = sym (ap (drop 1) opens.text) in
    let closed : chars rest ≡ drop (count + 1) (chars inner) = sym (ap (drop 1) closes.text) ∙ ap (drop 1) behind
    ∙ drop-drop 1 count (chars inner) in
    let all : 1 + (count + 1) ≡ count + 2 = omega arith in
    let inside = spells_on inner t rest count 1 behind bytes closes.bytes in (
      closed ∙ ap (drop (count + 1)) inner_is ∙ drop-drop (count + 1) 1 (chars s)
          ∙ ap (λ (n : ℕ). drop n (chars s)) all,
      subst (λ (n : ℕ). SpellsFront s n rest) all (spells_on s inner rest 1 (count + 1) inner_is opens.bytes inside),
    )

pub begins_quoted : (single in_flow : Bool) (s inner rest : List ℕ) (count : ℕ) → is_utf8 s ≡ true
    → first (chars s) ≡ quote_of single → inner ≡ drop 1 s → IsAsciiFront (is_quoted_word single) inner count
    → count + 1 < length inner → slice_index inner count ≡ quote_of single
    → ends_after_quote in_flow (slice_index inner (count + 1)) ≡ true → rest ≡ drop (count + 1) inner
    → BeginsQuoted single in_flow s count rest
begins_quoted single in_flow s inner rest count utf8 is inner_is front within quote ends rest_is =
    let q = quote_of single in
    let opens : LowFront q s inner = subst (LowFront q s) (sym inner_is) (opened single s utf8 is).0 in
    let t = drop count inner in
    let next : suc count ≡ count + 1 = omega arith in
    let t_is : t ≡ q ∷ rest = drop-cons inner count 0 (omega (arith, within))
    ∙ ap (λ (c : ℕ). c ∷ drop (suc count) inner) quote
    ∙ ap (λ (n : ℕ). q ∷ drop n inner) next ∙ ap (λ (r : List ℕ). q ∷ r) (sym rest_is) in
    let closes : LowFront q t rest = low_front q t rest t_is (quote_low single).1 front.utf8 in
    let cs = chars inner in
    let inside = take count cs in
    let fits : count ≤ run_length (is_quoted_word single) cs = omega (arith, front.front) in
    let long : length inside ≡ count = length-take-le count cs
    (omega (arith, fits, run_within (is_quoted_word single) cs)) in
    let parts : cs ≡ inside ++ q ∷ chars rest = sym (take-append-drop count cs)
    ∙ ap (λ (r : List ℕ). inside ++ r) (sym front.rest ∙ closes.text) in
    let behind = spelt_behind s inner t rest count q q opens front.rest front.bytes closes in
    let last : first (chars rest) ≡ slice_index inner (count + 1) = ap (λ (r : List ℕ). first (chars r)) rest_is
    ∙ first_byte inner (count + 1) within (end_low in_flow (slice_index inner (count + 1)) ends)
    (subst (λ (r : List ℕ). is_utf8 r ≡ true) rest_is closes.utf8) in
    record {
      inside = inside;
      quoted = record {
        behind = chars rest;
        is = opens.text ∙ ap (λ (r : List ℕ). q ∷ r) parts;
        words = subst (λ (r : List ℕ). length inside ≤ run_length (is_quoted_word single) r)
            (sym (ap (drop 1) opens.text)) (omega (arith, long, fits));
        ends = ap (ends_after_quote in_flow) last ∙ ends;
      };
      counted = long;
      ascii = omega (
        arith,
        ap length front.bytes ∙ length-append (encode_utf8_all inside) t,
        length-drop count inner,
        within,
      );
      text = behind.0;
      bytes = behind.1;
      utf8 = closes.utf8;
    }
