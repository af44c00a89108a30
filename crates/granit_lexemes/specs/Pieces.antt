-- A step that gives some items a turn, repeated until it says that it is done.
use Rattle.std.specs.Prelude.{◌≡◌, ℕ, zero, suc, ◌<◌, List, [], ◌++◌, Option, Some, None, Result, Ok}
use Rattle.granit_lexemes.specs.Outcome.{Fault, ◌>>=◌}

abbrev pub with_front : {S A : Type 0} → List A → Result (List A × S) Fault → Result (List A × S) Fault
with_front front given = given >>= λ x. Ok (front ++ x.0, x.1)

abbrev pub then_more : {S A : Type 0} → (S → Result (List A × S) Fault) → Option (List A) → S
    → Result (List A × S) Fault
then_more more None s = Ok ([], s)
then_more more (Some piece) s = with_front piece (more s)

-- at most n turns
unfoldable pub turns : {S A : Type 0} → (S → Result (Option (List A) × S) Fault) → ℕ → S → Result (List A × S) Fault
turns turn zero s = Ok ([], s)
turns turn (suc n) s = turn s >>= λ x. then_more (turns turn n) x.0 x.1

-- as many turns as the size of the state says, and one more
unfoldable pub pieces : {S A : Type 0} → (S → ℕ) → (S → Result (Option (List A) × S) Fault) → S
    → Result (List A × S) Fault
pieces size turn s = turns turn (suc (size s)) s

-- each turn but the last makes the state smaller
abbrev pub Shortens : {S A : Type 0} → (S → ℕ) → (S → Result (Option (List A) × S) Fault) → Type 0
Shortens size turn = (s after : _) (piece : _) → turn s ≡ Ok (Some piece, after) → size after < size s
