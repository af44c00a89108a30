-- A step that gives some items a turn and is repeated, a turn at a time.
use Rattle.std.proofs.Common.{◌≡◌, ℕ, zero, suc, ◌<◌, List, [], ◌++◌, Option, Some, None, Result, Ok, Err, refl, sym}
use Rattle.std.proofs.Common.{ap, ◌∙◌, append_assoc, arith}
use Rattle.std.proofs.lemmas.List.{append-nil}
use Rattle.granit_error.specs.Refused.{Refused}
use Rattle.granit_lexemes.specs.Outcome.{Fault, Fails, ◌>>=◌}
use Rattle.granit_lexemes.specs.Pieces.{with_front, then_more, turns, pieces, Shortens}
use Rattle.std.proofs.Common.{true}
use Rattle.std.specs.Prelude.{is_none}

pub fault_none : (f : Option Fault) → is_none f ≡ true → f ≡ None
fault_none None e = refl
fault_none (Some f) e = absurd cc

pub with_front-nil : {S A : Type 0} (given : Result (List A × S) Fault) → with_front [] given ≡ given
with_front-nil (Ok x) = refl
with_front-nil (Err f) = refl

pub with_front-with_front : {S A : Type 0} (xs ys : List A) (given : Result (List A × S) Fault)
    → with_front xs (with_front ys given) ≡ with_front (xs ++ ys) given
with_front-with_front xs ys (Ok x) = rw (append_assoc xs ys x.0)
with_front-with_front xs ys (Err f) = refl

enough_after : {S A : Type 0} (size : S → ℕ) (turn : S → Result (Option (List A) × S) Fault) → Shortens size turn
    → (m n : ℕ) (s : S)
    → ((after : S) → size after < m → size after < n → turns turn m after ≡ turns turn n after)
    → (r : Result (Option (List A) × S) Fault) → turn s ≡ r → size s < suc m → size s < suc n
    → (r >>= λ x. then_more (turns turn m) x.0 x.1) ≡ (r >>= λ x. then_more (turns turn n) x.0 x.1)
enough_after size turn less m n s enough (Err f) is p q = refl
enough_after size turn less m n s enough (Ok (None, after)) is p q = refl
enough_after size turn less m n s enough (Ok (Some piece, after)) is p q =
    let shorter = less s after piece is in
    ap (with_front piece) (enough after (omega arith) (omega arith))

-- more turns than the size says change nothing
pub turns_enough : {S A : Type 0} (size : S → ℕ) (turn : S → Result (Option (List A) × S) Fault) → Shortens size turn
    → (m n : ℕ) (s : S) → size s < m → size s < n → turns turn m s ≡ turns turn n s
unfolding turns
turns_enough size turn less zero n s p q = absurd (omega arith)
turns_enough size turn less (suc m) zero s p q = absurd (omega arith)
turns_enough size turn less (suc m) (suc n) s p q = enough_after size turn less m n s
    (λ after a b. turns_enough size turn less m n after a b) (turn s) refl p q

pub pieces_done : {S A : Type 0} (size : S → ℕ) (turn : S → Result (Option (List A) × S) Fault) (s after : S)
    → turn s ≡ Ok (None, after) → pieces size turn s ≡ Ok ([], after)
unfolding pieces turns
pieces_done size turn s after is = rw is refl

pub pieces_more : {S A : Type 0} (size : S → ℕ) (turn : S → Result (Option (List A) × S) Fault) → Shortens size turn
    → (s after : S) (piece : List A) → turn s ≡ Ok (Some piece, after)
    → pieces size turn s ≡ with_front piece (pieces size turn after)
unfolding pieces turns
pieces_more size turn less s after piece is =
    let shorter = less s after piece is in
    rw is (ap (with_front piece) (turns_enough size turn less (size s) (suc (size after)) after (omega arith)
    (omega arith)))

pub pieces_fails : {S A : Type 0} (size : S → ℕ) (turn : S → Result (Option (List A) × S) Fault) (s : S) (f : Fault)
    → turn s ≡ Err f → pieces size turn s ≡ Err f
unfolding pieces turns
pieces_fails size turn s f is = rw is refl

-- ---- a loop has gathered `front`, and goes on from `now`

pub loop_more : {S A : Type 0} (size : S → ℕ) (turn : S → Result (Option (List A) × S) Fault) → Shortens size turn
    → (front more : List A) (now after : S) (piece : List A) (total : Result (List A × S) Fault)
    → with_front front (pieces size turn now) ≡ total → turn now ≡ Ok (Some piece, after) → more ≡ front ++ piece
    → with_front more (pieces size turn after) ≡ total
loop_more size turn less front more now after piece total so_far is grown =
    rw (
      grown,
      ← with_front-with_front front piece (pieces size turn after),
      ← pieces_more size turn less now after
          piece is,
    ) so_far

pub loop_done : {S A : Type 0} (size : S → ℕ) (turn : S → Result (Option (List A) × S) Fault) (front : List A)
    (now after : S) (total : Result (List A × S) Fault)
    → with_front front (pieces size turn now) ≡ total → turn now ≡ Ok (None, after) → total ≡ Ok (front, after)
loop_done {A = A} size turn front now after total so_far is =
    let done = rw (pieces_done size turn now after is) at so_far in
    sym done ∙ ap (λ (xs : List A). Ok (xs, after)) (append-nil front)

pub loop_fails : {S A : Type 0} (size : S → ℕ) (turn : S → Result (Option (List A) × S) Fault) (front : List A)
    (now : S) (e : Refused) (total : Result (List A × S) Fault)
    → with_front front (pieces size turn now) ≡ total → Fails e (turn now) → Fails e total
loop_fails size turn front now e total so_far is other = sym so_far
    ∙ ap (with_front front) (pieces_fails size turn now _ (is other))

pub same_error : {Y : Type 0} (g f : Fault) → ◌≡◌ {A = Result Y Fault} (Err g) (Err f) → g ≡ f
same_error g f e = cc
