-- What holds of each run of a loop of turns.
use Rattle.std.proofs.Common.{◌≡◌, ℕ, zero, suc, ◌<◌, List, [], Option, Some, None, Result, Ok, Err, refl, arith}
use Rattle.granit_lexemes.specs.Outcome.{Fault, ◌>>=◌}
use Rattle.granit_lexemes.specs.Pieces.{with_front, then_more, turns, pieces, Shortens}

-- what a turn has to carry, for something to hold of what the run from a state gives
abbrev pub Carries : {S A : Type 0} → (S → Result (List A × S) Fault → Type 0) → S → Result (Option (List A) × S) Fault
    → Type 0
Carries Holds s (Err f) = Holds s (Err f)
Carries Holds s (Ok (None, after)) = Holds s (Ok ([], after))
Carries {A = A} Holds s (Ok (Some piece, after)) = (given : Result (List A × _) Fault) → Holds after given
    → Holds s (with_front piece given)

turn_holds : {S A : Type 0} (Holds : S → Result (List A × S) Fault → Type 0) (size : S → ℕ)
    (turn : S → Result (Option (List A) × S) Fault) → Shortens size turn → (n : ℕ) (s : S) → size s < suc n
    → ((after : S) → size after < n → Holds after (turns turn n after))
    → (r : Result (Option (List A) × S) Fault) → turn s ≡ r → Carries Holds s r
    → Holds s (r >>= λ x. then_more (turns turn n) x.0 x.1)
turn_holds Holds size turn less n s fits more (Err f) is carries = carries
turn_holds Holds size turn less n s fits more (Ok (None, after)) is carries = carries
turn_holds Holds size turn less n s fits more (Ok (Some piece, after)) is carries =
    let shorter = less s after piece is in
    carries (turns turn n after) (more after (omega arith))

turns_hold : {S A : Type 0} (Holds : S → Result (List A × S) Fault → Type 0) (size : S → ℕ)
    (turn : S → Result (Option (List A) × S) Fault) → Shortens size turn → ((s : S) → Carries Holds s (turn s))
    → (n : ℕ) (s : S) → size s < n → Holds s (turns turn n s)
unfolding turns
turns_hold Holds size turn less carries zero s fits = absurd (omega arith)
turns_hold Holds size turn less carries (suc n) s fits = turn_holds Holds size turn less n s fits
    (λ after p. turns_hold Holds size turn less carries n after p) (turn s) refl (carries s)

-- what each turn carries holds of the run
pub pieces_hold : {S A : Type 0} (Holds : S → Result (List A × S) Fault → Type 0) (size : S → ℕ)
    (turn : S → Result (Option (List A) × S) Fault) → Shortens size turn → ((s : S) → Carries Holds s (turn s))
    → (s : S) → Holds s (pieces size turn s)
unfolding pieces
pieces_hold Holds size turn less carries s = turns_hold Holds size turn less carries (suc (size s)) s (omega arith)
