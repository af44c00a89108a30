-- Runs of characters of a class: how far they go, and how a reader moves over them.
use Rattle.std.proofs.Common.{◌≡◌, ℕ, ◌+◌, Bool, true, false, List, [], ◌∷◌, ◌++◌, length, take, refl, sym, ap, ap₂}
use Rattle.std.proofs.Common.{◌∙◌, arith, length-append}
use Rattle.granit_base.specs.Place.{first}
use Rattle.granit_lexemes.specs.Gap.{Each}
use Rattle.granit_lexemes.specs.Here.{Here, text_len, step, past}
use Rattle.granit_lexemes.specs.PlainExtent.{over}
use Rattle.granit_lexemes.proofs.HereLemmas.{past_goes, past_stops, stepped_text}
pub use Rattle.granit_scalars.proofs.QuotedEscapes.{over_text}
use Rattle.granit_lexemes.specs.Basics.{count_up_to, text_up_to}

-- the characters in front of a class, all of them, and what stands behind
pub record Run (test : ℕ → Bool) (text : List ℕ) : Type 0 where
  pub front : List ℕ
  pub rest : List ℕ
  pub whole : text ≡ front ++ rest
  pub each : Each test front
  pub all : test (first rest) ≡ false

run_on : (test : ℕ → Bool) (c : ℕ) (t : List ℕ) → Run test t → (b : Bool) → test c ≡ b → Run test (c ∷ t)
run_on test c t r true y = record {
  front = c
      ∷ r.front;
  rest = r.rest;
  whole = ap (λ (l : List ℕ). c ∷ l) r.whole;
  each = (y, r.each);
  all = r.all;
}
run_on test c t r false y = record { front = []; rest = c ∷ t; whole = refl; each = tt; all = y }

pub run_of : (test : ℕ → Bool) → test 0 ≡ false → (text : List ℕ) → Run test text
run_of test nul [] = record { front = []; rest = []; whole = refl; each = tt; all = nul }
run_of test nul (c ∷ t) = run_on test c t (run_of test nul t) (test c) refl

-- moving past a class is moving over its run
pub past_run : (test : ℕ → Bool) → test 0 ≡ false → (front rest : List ℕ) (h : Here) → h.unread.text ≡ front ++ rest
    → Each test front → test (first rest) ≡ false → past test h ≡ over front h
past_run test nul [] rest h e y n = past_stops test h (ap (λ (t : List ℕ). test (first t)) e ∙ n)
past_run test nul (c ∷ front) rest h e y n =
    sym (past_goes test h nul (ap (λ (t : List ℕ). test (first t)) e ∙ y.0))
    ∙ past_run test nul front rest (step h) (stepped_text h c (front ++ rest) e) y.1 n

take_front : (f b : List ℕ) → take (length f) (f ++ b) ≡ f
take_front [] b = refl
take_front (c ∷ f) b = ap (λ (l : List ℕ). c ∷ l) (take_front f b)

-- how many characters a reader went over, and which
pub count_over : (front rest : List ℕ) (h : Here) → h.unread.text ≡ front ++ rest
    → count_up_to h (over front h) ≡ length front
count_over front rest h e =
    let n : text_len h ≡ length front + length rest = ap (length {A = ℕ}) e ∙ length-append front rest in
    let m : text_len (over front h) ≡ length rest = ap (length {A = ℕ}) (over_text front rest h e) in
    omega (arith, n, m)

pub text_over : (front rest : List ℕ) (h : Here) → h.unread.text ≡ front ++ rest → text_up_to h (over front h) ≡ front
text_over front rest h e = ap₂ take (count_over front rest h e) e ∙ take_front front rest
