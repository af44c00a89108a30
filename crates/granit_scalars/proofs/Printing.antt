-- Blanks and breaks are printable.
use Rattle.std.proofs.Common.{◌≡◌, ℕ, zero, suc, true, cond, not, List, [], ◌∷◌, ◌++◌, replicate, Some, refl, ap, ◌∙◌}
use Rattle.std.proofs.Common.{arith}
use Rattle.std.proofs.lemmas.Bool.Decides.{nat_tests}
use Rattle.granit_base.specs.Classes.{is_blank, is_break, is_gap, is_printable}
use Rattle.granit_lexemes.specs.Folding.{break_text}
use Rattle.granit_lexemes.specs.Gap.{Each}
use Rattle.granit_lexemes.specs.Basics.{unprintable}

gap_printable : (c : ℕ) → is_gap c ≡ true → is_printable c ≡ true
unfolding is_gap is_blank is_break is_printable
gap_printable c e = grind (arith, nat_tests)

-- the first unprintable character doesn't stand among blanks and breaks
pub unprintable_behind : (front text : List ℕ) → Each is_gap front → unprintable (front ++ text) ≡ unprintable text
unprintable_behind [] text e = refl
unprintable_behind (c ∷ front) text e = ap (λ b. cond (not b) (Some c) (unprintable (front ++ text)))
    (gap_printable c e.0) ∙ unprintable_behind front text e.1

space_gap : is_gap 0x20 ≡ true
unfolding is_gap is_blank is_break
space_gap = refl

lf_gap : is_gap 0x0A ≡ true
unfolding is_gap is_blank is_break
lf_gap = refl

all_gap : (k c : ℕ) → is_gap c ≡ true → Each is_gap (replicate k c)
all_gap zero c e = tt
all_gap (suc k) c e = (e, all_gap k c e)

-- what stands for breaks is blanks and breaks
pub break_text_gap : (k : ℕ) → Each is_gap (break_text k)
break_text_gap zero = (space_gap, tt)
break_text_gap (suc k) = all_gap (suc k) 0x0A lf_gap
