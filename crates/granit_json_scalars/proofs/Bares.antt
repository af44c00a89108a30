-- Numbers and names of JSON are characters of which YAML's plain scalars are made.
use Rattle.std.proofs.Common.{Bool, List, [], ap, arith, false, inl, inr, refl, subst, sym, true, ℕ, ◌++◌, ◌==◌}
use Rattle.std.proofs.Common.{◌||◌, ◌∙◌, ◌∷◌, ◌≡◌, ◌⊎◌}
use Rattle.granit_base.specs.Classes.{is_digit, is_within}
use Rattle.granit_json_scalars.specs.JsonScalars.{Digits, Exponent, Fraction, IsJsonNumber, IsName, Minus, NumberSign}
use Rattle.granit_json_scalars.specs.JsonScalars.{Whole}
use Rattle.granit_json_scalars.specs.JsonScalars.{exponent, fraction, minus, negative, no_exponent, no_fraction, plus}
use Rattle.granit_json_scalars.specs.JsonScalars.{positive}
use Rattle.granit_json_scalars.specs.JsonScalars.{unsigned}
use Rattle.granit_lexemes.specs.Gap.{Each}

-- a digit, a small letter, `+`, `-`, `.` or `E`
unfoldable pub is_bare : ℕ → Bool
is_bare c = (is_digit c || is_within 0x61 0x7A c) || ((c == 0x2B || c == 0x2D) || (c == 0x2E || c == 0x45))

-- a digit, a small letter or `-`
unfoldable pub is_bare_start : ℕ → Bool
is_bare_start c = (is_digit c || is_within 0x61 0x7A c) || c == 0x2D

-- the first of them, and what stands behind it: behind a `-` a digit
pub record Sound (characters : List ℕ) : Type 0 where
  pub start : ℕ
  pub more : List ℕ
  pub is : characters ≡ start ∷ more
  pub starts : is_bare_start start ≡ true
  pub each : Each is_bare more
  pub dash : start ≡ 0x2D → (d : ℕ) × (ds : List ℕ) × (more ≡ d ∷ ds) × (is_digit d ≡ true)

digit_bare : (c : ℕ) → is_digit c ≡ true → is_bare c ≡ true
unfolding is_bare
digit_bare c e = grind (arith, e)

digit_starts : (c : ℕ) → is_digit c ≡ true → is_bare_start c ≡ true
unfolding is_bare_start
digit_starts c e = grind (arith, e)

digits_bare : (ds : List ℕ) → Each is_digit ds → Each is_bare ds
digits_bare [] e = tt
digits_bare (d ∷ ds) e = (digit_bare d e.0, digits_bare ds e.1)

some_bare : (ds : List ℕ) → Digits ds → Each is_bare ds
some_bare [] e = absurd e
some_bare (d ∷ ds) e = (digit_bare d e.0, digits_bare ds e.1)

bare_both : (a b : List ℕ) → Each is_bare a → Each is_bare b → Each is_bare (a ++ b)
bare_both [] b p q = q
bare_both (c ∷ cs) b p q = (p.0, bare_both cs b p.1 q)

minus_bare : is_bare 0x2D ≡ true
unfolding is_bare is_digit
minus_bare = refl

plus_bare : is_bare 0x2B ≡ true
unfolding is_bare is_digit
plus_bare = refl

dot_bare : is_bare 0x2E ≡ true
unfolding is_bare is_digit
dot_bare = refl

e_bare : (e : ℕ) → (e ≡ 0x65) ⊎ (e ≡ 0x45) → is_bare e ≡ true
unfolding is_bare is_digit
e_bare e (inl p) = ap is_bare p
e_bare e (inr p) = ap is_bare p

sign_bare : (s : List ℕ) → NumberSign s → Each is_bare s
sign_bare _ unsigned = tt
sign_bare _ plus = (plus_bare, tt)
sign_bare _ minus = (minus_bare, tt)

fraction_bare : (r : List ℕ) → Fraction r → Each is_bare r
fraction_bare _ no_fraction = tt
fraction_bare _ (fraction {ds = ds} d) = (dot_bare, some_bare ds d)

exponent_bare : (p : List ℕ) → Exponent p → Each is_bare p
exponent_bare _ no_exponent = tt
exponent_bare _ (exponent e sign ds is s d) =
    (e_bare e is, bare_both sign ds (sign_bare sign s) (some_bare ds d))

minus_starts : is_bare_start 0x2D ≡ true
unfolding is_bare_start is_digit
minus_starts = refl

pub no_digit_dash : (d : ℕ) → is_digit d ≡ true → d ≡ 0x2D → ⊥
unfolding is_digit
no_digit_dash d e p = let y : is_digit 0x2D ≡ true = ap is_digit (sym p) ∙ e in cc

number_sound : (minus whole back : List ℕ) → Minus minus → Whole whole → Each is_bare back
    → Sound (minus ++ (whole ++ back))
number_sound _ [] back m w b = absurd w
number_sound _ (d ∷ ds) back positive w b = record {
  start = d;
  more = ds ++ back;
  is = refl;
  starts = digit_starts d w.0;
  each = bare_both ds back (digits_bare ds w.1) b;
  dash = λ p. absurd (no_digit_dash d w.0 p);
}
number_sound _ (d ∷ ds) back negative w b = record {
  start = 0x2D;
  more = d ∷ (ds ++ back);
  is = refl;
  starts = minus_starts;
  each = (digit_bare d w.0, bare_both ds back (digits_bare ds w.1) b);
  dash = λ p. (d, ds ++ back, refl, w.0);
}

no_dash : (c : ℕ) → (c == 0x2D) ≡ false → c ≡ 0x2D → ⊥
no_dash c e p = let y : (0x2D == 0x2D) ≡ false = ap (λ n. n == 0x2D) (sym p) ∙ e in cc

true_sound : Sound (0x74 ∷ 0x72 ∷ 0x75 ∷ 0x65 ∷ [])
unfolding is_bare is_bare_start is_digit
true_sound = record {
  start = 0x74;
  more = 0x72 ∷ 0x75 ∷ 0x65 ∷ [];
  is = refl;
  starts = refl;
  each = (refl, (refl, (refl, tt)));
  dash = λ p. absurd (no_dash 0x74 refl p);
}

false_sound : Sound (0x66 ∷ 0x61 ∷ 0x6C ∷ 0x73 ∷ 0x65 ∷ [])
unfolding is_bare is_bare_start is_digit
false_sound = record {
  start = 0x66;
  more = 0x61 ∷ 0x6C ∷ 0x73 ∷ 0x65 ∷ [];
  is = refl;
  starts = refl;
  each = (refl, (refl, (refl, (refl, tt))));
  dash = λ p. absurd (no_dash 0x66 refl p);
}

null_sound : Sound (0x6E ∷ 0x75 ∷ 0x6C ∷ 0x6C ∷ [])
unfolding is_bare is_bare_start is_digit
null_sound = record {
  start = 0x6E;
  more = 0x75 ∷ 0x6C ∷ 0x6C ∷ [];
  is = refl;
  starts = refl;
  each = (refl, (refl, (refl, tt)));
  dash = λ p. absurd (no_dash 0x6E refl p);
}

pub sound : (cs : List ℕ) → IsJsonNumber cs ⊎ IsName cs → Sound cs
sound cs (inl n) =
    subst Sound (sym n.is)
    (number_sound n.sign n.whole (n.rest ++ n.power) n.minus n.digits
    (bare_both n.rest n.power (fraction_bare n.rest n.fraction) (exponent_bare n.power n.exponent)))
sound cs (inr (inl e)) = subst Sound (sym e) true_sound
sound cs (inr (inr (inl e))) = subst Sound (sym e) false_sound
sound cs (inr (inr (inr e))) = subst Sound (sym e) null_sound
