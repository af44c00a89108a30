-- The first character of a text that fails a test, behind characters that pass another.
use Rattle.std.proofs.Common.{◌≡◌, ℕ, zero, suc, ◌+◌, Bool, true, false, not, List, [], ◌∷◌}
use Rattle.std.proofs.Common.{drop, refl, sym, ap, ◌∙◌, inl, inr, arith}
use Rattle.std.specs.List.{find}
use Rattle.std.proofs.lemmas.Bool.{and_parts, cases_Bool}
use Rattle.granit_base.specs.Classes.{is_breakz, is_printable}
use Rattle.granit_runs.specs.Chunks.{FrontOf}
use Rattle.granit_runs.specs.Runs.{is_line_char, run_length, starts}

find_past : (p q : ℕ → Bool) → ((c : ℕ) → p c ≡ true → q c ≡ false) → (n : ℕ) (text : List ℕ)
    → FrontOf (starts p) text n → find q text ≡ find q (drop n text)
unfolding run_length
find_past p q apart zero [] front = refl
find_past p q apart zero (c ∷ cs) front = refl
find_past p q apart (suc n) [] front = absurd (omega (arith, front))
find_past p q apart (suc n) (c ∷ cs) front =
    elim (cases_Bool (p c)) [
      | inl held ↦
          let all = rw held at front in
          let rest : n + run_length (starts p) (drop n cs) ≡ run_length (starts p) cs = omega (arith, all) in
          rw (apart c held) (find_past p q apart n cs rest)
      | inr failed ↦ absurd (let none = rw failed at front in omega (arith, none))
    ]

abbrev pub unprintable : ℕ → Bool
unprintable c = not (is_printable c)

printable_apart : (c : ℕ) → is_line_char c ≡ true → unprintable c ≡ false
printable_apart c is = ap (λ b. not b) (and_parts (not (is_breakz c)) (is_printable c) is).1

-- behind a printable character, and so many more of its line
pub printable_past : (text : List ℕ) (c : ℕ) (cs behind : List ℕ) (n : ℕ) → text ≡ c ∷ cs → is_printable c ≡ true
    → FrontOf (starts is_line_char) cs n → behind ≡ drop n cs → find unprintable behind ≡ find unprintable text
printable_past text c cs behind n is prints front rest =
    ap (find unprintable) rest ∙ sym (find_past is_line_char unprintable printable_apart n cs front)
    ∙ rw (is, prints) refl
