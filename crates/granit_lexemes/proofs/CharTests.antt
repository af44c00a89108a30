-- What the tests of a character tell of each other.
use Rattle.std.proofs.Common.{◌≡◌, ℕ, arith, false, true, Bool, ap, ◌||◌, refl, ◌==◌, not, ◌&&◌}
use Rattle.std.proofs.lemmas.Bool.{or_right}
use Rattle.std.proofs.lemmas.Bool.Decides.{nat_tests}
use Rattle.granit_base.specs.Classes.{is_blank, is_break, is_gap, is_printable, is_breakz, is_z, is_bom}
use Rattle.granit_lexemes.specs.Comment.{is_line_char}
use Rattle.granit_lexemes.specs.QuotedScalar.{is_kept, is_literal}

-- a blank is no break
pub blank_apart_from_break : (b : ℕ) → is_blank b ≡ true → is_break b ≡ false
unfolding is_blank is_break
blank_apart_from_break b y = grind (arith, nat_tests)

pub no_blank_break : (c : ℕ) → is_break c ≡ true → is_blank c ≡ false
unfolding is_blank is_break
no_blank_break c y = grind (arith, nat_tests)

pub blank_gap : (c : ℕ) → is_blank c ≡ true → is_gap c ≡ true
unfolding is_gap
blank_gap c y = ap (λ (b : Bool). b || is_break c) y

pub break_gap : (c : ℕ) → is_break c ≡ true → is_gap c ≡ true
unfolding is_gap
break_gap c y = or_right (is_blank c) (is_break c) y

pub solid_no_blank : (c : ℕ) → is_gap c ≡ false → is_blank c ≡ false
unfolding is_gap
solid_no_blank c e = by (is_blank c) (is_break c) e
  where
    by : (a b : Bool) → (a || b) ≡ false → a ≡ false
    by true b e = e
    by false b e = refl

pub hash_no_blank : (c : ℕ) → c ≡ 0x23 → is_blank c ≡ false
unfolding is_blank
hash_no_blank c e = grind (arith, nat_tests)

pub blank_no_hash : (b : ℕ) → is_blank b ≡ true → (b == 0x23) ≡ false
unfolding is_blank
blank_no_hash b y = grind (arith, nat_tests)

pub break_prints : (c : ℕ) → is_break c ≡ true → is_printable c ≡ true
unfolding is_break is_printable
break_prints c y = grind (arith, nat_tests)

pub no_break_noted : (c : ℕ) → is_line_char c ≡ true → is_break c ≡ false
unfolding is_breakz
no_break_noted c e = by (is_break c) refl
  where
    by : (b : Bool) → is_break c ≡ b → is_break c ≡ false
    by true is = absurd (let g : is_line_char c ≡ false = ap (λ b. not (b || is_z c) && is_printable c) is in cc)
    by false is = is

pub bom_is : (c : ℕ) → is_bom c ≡ true → c ≡ 0xFEFF
unfolding is_bom
bom_is c e = grind (arith, nat_tests)

pub is_break_lf : is_break 0x0A ≡ true
unfolding is_break
is_break_lf = refl

pub backslash_stops : is_kept false 0x5C ≡ false
unfolding is_blank is_break is_gap is_printable is_literal
backslash_stops = refl

pub feed_prints : is_printable 0x0A ≡ true
unfolding is_printable is_break
feed_prints = refl
