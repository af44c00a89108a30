-- What is written between quotes for a text stands for that text.
use Rattle.std.proofs.Common.{Bool, List, [], ap, append_assoc, arith, false, refl, subst, sym, true, ℕ, ◌*◌, ◌++◌}
use Rattle.std.proofs.Common.{◌+◌, ◌/◌, ◌<◌, ◌==◌, ◌||◌, ◌∙◌, ◌∷◌, ◌≡◌}
use Rattle.std.proofs.lemmas.Bool.{and_parts}
use Rattle.std.proofs.lemmas.Bool.Decides.{nat_tests}
use Rattle.std.proofs.lemmas.List.{append-nil}
use Rattle.std.proofs.Common.{not, ◌&&◌}
use Rattle.std.specs.List.{list_all}
use Rattle.std.specs.Prelude.{Some, nat_le, ◌%◌}
use lib.Utf8.{scalar, scalar_fits, scalars}
use Rattle.granit_base.specs.Classes.{hex_value, is_blank, is_break, is_digit, is_gap, is_hex, is_printable}
use Rattle.granit_base.specs.Classes.{is_within}
use Rattle.granit_canonical_steps.proofs.Fronts.{character_by, quoted_character_front}
use Rattle.granit_canonical_steps.specs.Canonical.{stands_for_itself}
use Rattle.granit_lexemes.proofs.CharTests.{backslash_stops}
use Rattle.granit_lexemes.specs.Decoding.{AreDigits, Escape, digit_count, letter, letter_value, number, number_behind}
use Rattle.granit_lexemes.specs.Decoding.{number_of}
use Rattle.granit_lexemes.specs.Gap.{Each}
use Rattle.granit_lexemes.specs.LayoutData.{LayoutData}
use Rattle.granit_lexemes.specs.QuotedExtent.{Blanks, Inside, Piece, content, escape, itself, nothing, on_line}
use Rattle.granit_lexemes.specs.QuotedScalar.{is_kept, is_literal}
use Rattle.granit_model.specs.FlowText.{eight_digits, four_digits, quoted_character, quoted_characters, two_digits}
use Rattle.granit_model.specs.FlowText.{upper_digit}

-- the digit of a number below 16 is hexadecimal, and writes it
pub digit_is_hex : (d : ℕ) → d < 16 → is_hex (upper_digit d) ≡ true
unfolding is_hex is_digit upper_digit
digit_is_hex d h = grind (arith, nat_tests)

pub digit_writes : (d : ℕ) → d < 16 → hex_value (upper_digit d) ≡ d
unfolding hex_value is_digit upper_digit
digit_writes d h = grind (arith, nat_tests)

literal_is : (c : ℕ) → (c == 0x22 || c == 0x5C) ≡ false → is_within 0x20 0x7E c ≡ true → (c == 0x20) ≡ false
    → is_literal false c ≡ true
unfolding is_literal is_printable is_gap is_blank is_break
literal_is c e f g = grind (arith, nat_tests)

-- a quote and a backslash stand behind a backslash for themselves
letter_by : (quote backslash : Bool) (c : ℕ) → (c == 0x22) ≡ quote → (c == 0x5C) ≡ backslash
    → (quote || backslash) ≡ true → letter_value c ≡ Some c
unfolding letter_value
letter_by true backslash c e f h = let k : 0x22
    ≡ c = grind (arith, nat_tests) in subst (λ v. letter_value v ≡ Some v) k refl
letter_by false true c e f h = let k : 0x5C ≡ c = grind (arith, nat_tests) in subst (λ v. letter_value v ≡ Some v) k
    refl
letter_by false false c e f h = absurd cc

letter_is : (c : ℕ) → (c == 0x22 || c == 0x5C) ≡ true → letter_value c ≡ Some c
letter_is c h = letter_by (c == 0x22) (c == 0x5C) c refl refl h

-- what digits write behind a number
two_write : (m n : ℕ) (rest : List ℕ) → n < 0x100
    → number_behind m (two_digits n rest) ≡ number_behind (m * 0x100 + n) rest
two_write m n rest h =
    ap (λ v. number_behind v rest) (omega (
      arith,
      digit_writes (n / 16) (omega arith),
      digit_writes (n % 16)
          (omega arith),
    ))

four_write : (m n : ℕ) (rest : List ℕ) → n < 0x10000
    → number_behind m (four_digits n rest) ≡ number_behind (m * 0x10000 + n) rest
four_write m n rest h =
    two_write m (n / 0x100) (two_digits (n % 0x100) rest) (omega arith)
    ∙ two_write (m * 0x100 + n / 0x100) (n % 0x100) rest (omega arith)
    ∙ ap (λ v. number_behind v rest) (omega arith)

eight_write : (n : ℕ) → n < 0x100000000 → number_of (eight_digits n []) ≡ n
eight_write n h =
    four_write 0 (n / 0x10000) (four_digits (n % 0x10000) []) (omega arith)
    ∙ four_write (0 * 0x10000 + n / 0x10000) (n % 0x10000) [] (omega arith) ∙ omega arith

two_hex : (n : ℕ) (rest : List ℕ) → n < 0x100 → Each is_hex rest → Each is_hex (two_digits n rest)
two_hex n rest h e = (digit_is_hex (n / 16) (omega arith), (digit_is_hex (n % 16) (omega arith), e))

four_hex : (n : ℕ) (rest : List ℕ) → n < 0x10000 → Each is_hex rest → Each is_hex (four_digits n rest)
four_hex n rest h e = two_hex (n / 0x100) (two_digits (n % 0x100) rest) (omega arith)
    (two_hex (n % 0x100) rest (omega arith) e)

eight_hex : (n : ℕ) (rest : List ℕ) → n < 0x100000000 → Each is_hex rest → Each is_hex (eight_digits n rest)
eight_hex n rest h e = four_hex (n / 0x10000) (four_digits (n % 0x10000) rest) (omega arith)
    (four_hex (n % 0x10000) rest (omega arith) e)

-- a character by its number
by_number : (l count c : ℕ) (digits : List ℕ) → digit_count l ≡ Some count → AreDigits count digits
    → number_of digits ≡ c → scalar c ≡ true → Escape (0x5C ∷ l ∷ digits) c
by_number l count c digits d a e s = subst (Escape (0x5C ∷ l ∷ digits)) e (number d a (ap scalar e ∙ s))

pub below : (c : ℕ) → scalar c ≡ true → c < 0x100000000
below c s = omega (arith, scalar_fits c s)

-- a character by the tests of its class
piece : (quote plain byte short : Bool) (c : ℕ) (behind : List ℕ) → (c == 0x22 || c == 0x5C) ≡ quote
    → is_within 0x20 0x7E c ≡ plain → nat_le c 0xFF ≡ byte → nat_le c 0xFFFF ≡ short
    → (c == 0x20) ≡ false → scalar c ≡ true → Piece false (character_by quote plain byte short c []) behind (c ∷ [])
    false
unfolding digit_count
piece true plain byte short c behind q p b t n s = escape (letter (letter_is c q))
piece false true byte short c behind q p b t n s = itself (literal_is c q p n)
piece false false true short c behind q p b t n s =
    let h : c < 0x100 = grind (arith, nat_tests) in
    escape (by_number 0x78 2 c (two_digits c []) refl (record { counted = refl; each = two_hex c [] h tt })
    (two_write 0 c [] h ∙ omega arith) s)
piece false false false true c behind q p b t n s =
    let h : c < 0x10000 = grind (arith, nat_tests) in
    escape (by_number 0x75 4 c (four_digits c []) refl (record { counted = refl; each = four_hex c [] h tt })
    (four_write 0 c [] h ∙ omega arith) s)
piece false false false false c behind q p b t n s =
    escape (by_number 0x55 8 c (eight_digits c []) refl
    (record { counted = refl; each = eight_hex c [] (below c s) tt }) (eight_write c (below c s)) s)

quoted_piece : (c : ℕ) (behind : List ℕ) → (c == 0x20) ≡ false → scalar c ≡ true
    → Piece false (quoted_character c []) behind (c ∷ []) false
unfolding quoted_character
quoted_piece c behind n s = piece (c == 0x22 || c == 0x5C) (is_within 0x20 0x7E c) (nat_le c 0xFF) (nat_le c 0xFFFF)
    c behind refl refl refl refl n s

a_space : (rest : List ℕ) → quoted_character 0x20 rest ≡ 0x20 ∷ rest
unfolding quoted_character
a_space rest = refl

space_is : (c : ℕ) (rest : List ℕ) → (c == 0x20) ≡ true → quoted_character c rest ≡ 0x20 ∷ rest
space_is c rest e =
    let same : 0x20 ≡ c = grind (arith, nat_tests) in
    ap (λ c. quoted_character c rest) (sym same) ∙ a_space rest

pub blank_space : is_blank 0x20 ≡ true
unfolding is_blank
blank_space = refl

pub one_more_blank : (bl : List ℕ) → Each is_blank bl → Each is_blank (bl ++ 0x20 ∷ [])
one_more_blank [] e = (blank_space, tt)
one_more_blank (b ∷ bl) e = (e.0, one_more_blank bl e.1)

-- what stands between the quotes behind these blanks: content, and the blanks behind it
pub record Between (at : LayoutData) (bl text behind : List ℕ) : Type 0 where
  pub source : List ℕ
  pub gap : List ℕ
  pub value : List ℕ
  pub whole : bl ++ quoted_characters text [] ≡ source ++ gap
  pub inside : Inside false at false source (gap ++ behind) value false
  pub blanks : Each is_blank gap
  pub spells : value ++ gap ≡ bl ++ text

pub spelled_between : (at : LayoutData) (bl text behind : List ℕ) → Each is_blank bl → scalars text ≡ true
    → Between at bl text behind
spelled_between at bl [] behind b s = record {
  source = [];
  gap = bl;
  value = [];
  whole = append-nil bl;
  inside = nothing;
  blanks = b;
  spells = sym (append-nil bl);
}
spelled_between at bl (c ∷ cs) behind b s =
    let more = (and_parts (scalar c) (scalars cs) s).1 in
    by (c == 0x20) refl (spelled_between at (bl ++ 0x20 ∷ []) cs behind (one_more_blank bl b) more)
    (spelled_between at [] cs behind tt more)
  where
    by : (v : Bool) → (c == 0x20) ≡ v → Between at (bl ++ 0x20 ∷ []) cs behind → Between at [] cs behind
        → Between at bl (c ∷ cs) behind
    by true e r q =
        let same : 0x20 ≡ c = grind (arith, nat_tests) in record {
          source = r.source;
          gap = r.gap;
          value = r.value;
          whole = ap (λ (l : List ℕ). bl ++ l) (space_is c (quoted_characters cs []) e)
              ∙ sym (append_assoc bl (0x20 ∷ []) (quoted_characters cs [])) ∙ r.whole;
          inside = r.inside;
          blanks = r.blanks;
          spells = r.spells ∙ append_assoc bl (0x20 ∷ []) cs ∙ ap (λ c. bl ++ c ∷ cs) same;
        }
    by false e q r =
        let one = quoted_character c [] in record {
          source = bl ++ (one ++ r.source);
          gap = r.gap;
          value = bl ++ c ∷ r.value;
          whole = ap (λ (l : List ℕ). bl ++ l) (quoted_character_front c (quoted_characters cs [])
              ∙ ap (λ (l : List ℕ). one ++ l) r.whole ∙ sym (append_assoc one r.source r.gap))
              ∙ sym (append_assoc bl (one ++ r.source) r.gap);
          inside = content (Blanks bl) refl refl (on_line b) (quoted_piece c (r.source ++ (r.gap ++ behind)) e
              (and_parts (scalar c) (scalars cs) s).0) tt r.inside;
          blanks = r.blanks;
          spells = append_assoc bl (c ∷ r.value) r.gap ∙ ap (λ (l : List ℕ). bl ++ c ∷ l) r.spells;
        }

-- ---- what is written as it is

plain_kept : (c : ℕ) → (c == 0x22 || c == 0x5C) ≡ false → is_within 0x20 0x7E c ≡ true → is_kept false c ≡ true
unfolding is_literal is_printable is_gap is_blank is_break
plain_kept c e f = grind (arith, nat_tests)

-- no character of an escape but the first tells more
escape_tells : (rest : List ℕ) → list_all (is_kept false) (0x5C ∷ rest) ≡ false
escape_tells rest = ap (λ b. b && list_all (is_kept false) rest) backslash_stops

one_itself : (quote plain byte short : Bool) (c : ℕ) (rest : List ℕ) → (c == 0x22 || c == 0x5C) ≡ quote
    → is_within 0x20 0x7E c ≡ plain → list_all (is_kept false) (character_by quote plain byte short c rest)
    ≡ ((plain && not quote) && list_all (is_kept false) rest)
one_itself true true byte short c rest e f = escape_tells (c ∷ rest)
one_itself true false byte short c rest e f = escape_tells (c ∷ rest)
one_itself false true byte short c rest e f = ap (λ b. b && list_all (is_kept false) rest) (plain_kept c e f)
one_itself false false true short c rest e f = escape_tells (0x78 ∷ two_digits c rest)
one_itself false false false true c rest e f = escape_tells (0x75 ∷ four_digits c rest)
one_itself false false false false c rest e f = escape_tells (0x55 ∷ eight_digits c rest)

-- what is written for a text holds no escape where each character stands for itself
pub all_itself : (text : List ℕ)
    → list_all (is_kept false) (quoted_characters text []) ≡ list_all stands_for_itself text
unfolding quoted_character
all_itself [] = refl
all_itself (c ∷ cs) =
    one_itself (c == 0x22 || c == 0x5C) (is_within 0x20 0x7E c) (nat_le c 0xFF) (nat_le c 0xFFFF) c
    (quoted_characters cs []) refl refl
    ∙ ap (λ b. stands_for_itself c && b) (all_itself cs)
