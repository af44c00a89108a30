-- Line feeds and spaces, taken as bytes.
use Rattle.std.proofs.Common.{◌≡◌, ℕ, suc, ◌+◌, ◌<◌, ◌==◌, Bool, true, false, if◌then◌else◌, List, [], ◌∷◌, ◌++◌}
use Rattle.std.proofs.Common.{length, take, drop, slice_index, refl, sym, ap, ◌∙◌, arith}
use Rattle.std.specs.Str.{chars}
use Rattle.std.proofs.lemmas.Bool.Decides.{nat_tests}
use Rattle.granit_base.specs.Place.{first}
use Rattle.granit_runs.specs.Cuts.{IsAsciiFront}
use Rattle.granit_runs.specs.Lines.{is_line_gap, is_visible, feed_count, column_behind}
use Rattle.granit_runs.specs.Runs.{run_length, starts}
use Rattle.granit_runs.proofs.AsciiLemmas.{ascii_more, first_byte}
use Rattle.granit_runs.proofs.RunLemmas.{front_whole}
use Rattle.granit_runs.proofs.WhiteLemmas.{take_more, passes_some}

-- ---- one character more

feeds_more : (c : ℕ) (xs : List ℕ) → feed_count (xs ++ c ∷ [])
    ≡ (if c == 0x0A then suc (feed_count xs) else feed_count xs)
unfolding feed_count
feeds_more c [] = refl
feeds_more c (x ∷ xs) = swapped (x == 0x0A) (c == 0x0A) (feeds_more c xs)
  where
    swapped : (a b : Bool) → feed_count (xs ++ c ∷ []) ≡ (if b then suc (feed_count xs) else feed_count xs)
        → (if a then suc (feed_count (xs ++ c ∷ [])) else feed_count (xs ++ c ∷ []))
        ≡ (if b then suc (if a then suc (feed_count xs) else feed_count xs)
        else (if a then suc (feed_count xs) else feed_count xs))
    swapped true true e = ap suc e
    swapped true false e = ap suc e
    swapped false true e = e
    swapped false false e = e

column_more : (k c : ℕ) (xs : List ℕ) → column_behind k (xs ++ c ∷ [])
    ≡ (if c == 0x0A then 0 else suc (column_behind k xs))
unfolding column_behind
column_more k c [] = refl
column_more k c (x ∷ xs) = column_more (if x == 0x0A then 0 else suc k) c xs

-- so many bytes are line feeds and spaces, the next one is too, and it is what stands there
pub record GapByte (s : List ℕ) (i : ℕ) : Type 0 where
  pub front : IsAsciiFront (starts is_line_gap) s (i + 1)
  pub text : take (i + 1) (chars s) ≡ take i (chars s) ++ slice_index s i ∷ []

gap_low : (c : ℕ) → is_line_gap c ≡ true → c < 0x80
gap_low c is = grind (arith, nat_tests, is)

gap_byte : (s : List ℕ) (i : ℕ) → IsAsciiFront (starts is_line_gap) s i → i < length s
    → is_line_gap (slice_index s i) ≡ true → GapByte s i
gap_byte s i so_far within is =
    let low = gap_low (slice_index s i) is in
    let here : first (drop i (chars s)) ≡ slice_index s i =
    sym (ap first so_far.rest) ∙ first_byte s i within low so_far.utf8 in
    let some = passes_some (starts is_line_gap) (drop i (chars s)) refl (ap is_line_gap here ∙ is) in
    record {
      front = ascii_more (starts is_line_gap) s i refl so_far within low is;
      text = take_more i (chars s) some ∙ ap (λ (c : ℕ). take i (chars s) ++ c ∷ []) here;
    }

-- behind a line feed
pub record Fed (s : List ℕ) (i : ℕ) : Type 0 where
  pub front : IsAsciiFront (starts is_line_gap) s (i + 1)
  pub lines : feed_count (take (i + 1) (chars s)) ≡ suc (feed_count (take i (chars s)))
  pub column : column_behind 0 (take (i + 1) (chars s)) ≡ 0

pub fed : (s : List ℕ) (i : ℕ) → IsAsciiFront (starts is_line_gap) s i → i < length s → slice_index s i ≡ 0x0A
    → Fed s i
fed s i so_far within is =
    let one = gap_byte s i so_far within (rw is refl) in
    let more : take (i + 1) (chars s) ≡ take i (chars s) ++ 0x0A ∷ [] = one.text
    ∙ ap (λ (c : ℕ). take i (chars s) ++ c ∷ []) is in
    record {
      front = one.front;
      lines = ap feed_count more ∙ feeds_more 0x0A (take i (chars s));
      column = ap (column_behind 0) more ∙ column_more 0 0x0A (take i (chars s));
    }

-- behind a space
pub record Spaced (s : List ℕ) (i : ℕ) : Type 0 where
  pub front : IsAsciiFront (starts is_line_gap) s (i + 1)
  pub lines : feed_count (take (i + 1) (chars s)) ≡ feed_count (take i (chars s))
  pub column : column_behind 0 (take (i + 1) (chars s)) ≡ suc (column_behind 0 (take i (chars s)))

pub spaced : (s : List ℕ) (i : ℕ) → IsAsciiFront (starts is_line_gap) s i → i < length s → slice_index s i ≡ 0x20
    → Spaced s i
spaced s i so_far within is =
    let one = gap_byte s i so_far within (rw is refl) in
    let more : take (i + 1) (chars s) ≡ take i (chars s) ++ 0x20 ∷ [] = one.text
    ∙ ap (λ (c : ℕ). take i (chars s) ++ c ∷ []) is in
    record {
      front = one.front;
      lines = ap feed_count more ∙ feeds_more 0x20 (take i (chars s));
      column = ap (column_behind 0) more ∙ column_more 0 0x20 (take i (chars s));
    }

-- ---- a visible character behind them

visible_low : (c : ℕ) → is_visible c ≡ true → c < 0x80
visible_low c is = grind (arith, nat_tests, is)

visible_stops : (c : ℕ) → is_visible c ≡ true → is_line_gap c ≡ false
visible_stops c is = grind (arith, nat_tests, is)

pub visible_there : (s : List ℕ) (i : ℕ) → IsAsciiFront (starts is_line_gap) s i → i < length s
    → is_visible (slice_index s i) ≡ true → is_visible (first (chars (drop i s))) ≡ true
visible_there s i so_far within is =
    ap is_visible (first_byte s i within (visible_low (slice_index s i) is) so_far.utf8) ∙ is

-- they are all that stand there
pub visible_whole : (s : List ℕ) (i : ℕ) → IsAsciiFront (starts is_line_gap) s i
    → is_visible (first (chars (drop i s))) ≡ true → i ≡ run_length (starts is_line_gap) (chars s)
visible_whole s i so_far is = front_whole (starts is_line_gap) (chars s) i (record { rest = so_far.front })
    (ap (λ (cs : List ℕ). is_line_gap (first cs)) (sym so_far.rest) ∙ visible_stops (first (chars (drop i s))) is)

-- the first character is the first byte
pub begins_fed : (s : List ℕ) (i : ℕ) → IsAsciiFront (starts is_line_gap) s i → i < length s → slice_index s i ≡ 0x0A
    → i ≡ 0 → first (chars s) ≡ 0x0A
begins_fed s i so_far within is none =
    let here : first (chars (drop i s)) ≡ 0x0A = first_byte s i within (rw is (omega arith)) so_far.utf8 ∙ is in
    ap (λ (n : ℕ). first (chars (drop n s))) (sym none) ∙ here
