-- Reading never goes back: what is left behind a part is at most what was left before it.
use Rattle.std.proofs.Common.{ℕ, zero, suc, ◌≤◌, Bool, true, false, List, [], ◌∷◌, Option, Some, None, Result, Ok, Err}
use Rattle.std.proofs.Common.{arith}
use Rattle.std.specs.Prelude.{if◌then◌else◌}
use Rattle.granit_base.specs.Classes.{is_blank}
use Rattle.granit_lexemes.specs.Basics.{past_break}
use Rattle.granit_lexemes.specs.Comment.{past_comment, behind_comment, skipped_comment, comment}
use Rattle.granit_lexemes.specs.Here.{Here, text_len, next_char, step, chosen, skip, past}
use Rattle.granit_lexemes.specs.Moves.{steps}
use Rattle.granit_lexemes.specs.Outcome.{Fault, ◌>>=◌}
use Rattle.granit_lexemes.specs.Pieces.{with_front, then_more, turns, pieces}
use Rattle.granit_lexemes.specs.Tail.{tail_behind, tail_at}
use Rattle.granit_lexemes.proofs.HereLemmas.{step_len}

-- at most so much is left behind a value
abbrev pub Fits : {A S : Type 0} → (S → ℕ) → ℕ → Result (A × S) Fault → Type 0
Fits size n (Ok x) = size x.1 ≤ n
Fits size n (Err f) = Unit {0}

pub fits_if : {A S : Type 0} (size : S → ℕ) (n : ℕ) (b : Bool) (x y : Result (A × S) Fault) → Fits size n x
    → Fits size n y → Fits size n (if b then x else y)
fits_if size n true x y p q = p
fits_if size n false x y p q = q

pub fits_bind : {A B S T : Type 0} (size : S → ℕ) (other : T → ℕ) (m n : ℕ) (r : Result (A × S) Fault)
    (f : A × S → Result (B × T) Fault)
    → Fits size m r → ((x : A × S) → size x.1 ≤ m → Fits other n (f x)) → Fits other n (r >>= f)
fits_bind size other m n (Ok x) f p q = q x p
fits_bind size other m n (Err e) f p q = tt

-- behind a value without a place
pub fits_behind : {A B T : Type 0} (other : T → ℕ) (n : ℕ) (r : Result A Fault) (f : A → Result (B × T) Fault)
    → ((x : A) → Fits other n (f x)) → Fits other n (r >>= f)
fits_behind other n (Ok x) f q = q x
fits_behind other n (Err e) f q = tt

-- ---- loops

with_front-fits : {A S : Type 0} (size : S → ℕ) (n : ℕ) (front : List A) (r : Result (List A × S) Fault) → Fits size n r
    → Fits size n (with_front front r)
with_front-fits size n front (Ok x) p = p
with_front-fits size n front (Err f) p = tt

pub then_more-fits : {A S : Type 0} (size : S → ℕ) (n : ℕ) (more : S → Result (List A × S) Fault) (o : Option (List A))
    (s : S) → size s ≤ n → Fits size n (more s) → Fits size n (then_more more o s)
then_more-fits size n more None s p q = p
then_more-fits size n more (Some piece) s p q = with_front-fits size n piece (more s) q

pub turns-fits : {A S : Type 0} (size : S → ℕ) (turn : S → Result (Option (List A) × S) Fault)
    → ((n : ℕ) (s : S) → size s ≤ n → Fits size n (turn s)) → (k n : ℕ) (s : S) → size s ≤ n
    → Fits size n (turns turn k s)
unfolding turns
turns-fits size turn never zero n s p = p
turns-fits size turn never (suc k) n s p =
    fits_bind size size n n (turn s) (λ x. then_more (turns turn k) x.0 x.1) (never n s p)
    (λ x q. then_more-fits size n (turns turn k) x.0 x.1 q (turns-fits size turn never k n x.1 q))

-- a loop whose turns never go back
pub pieces-fits : {A S : Type 0} (size : S → ℕ) (turn : S → Result (Option (List A) × S) Fault)
    → ((n : ℕ) (s : S) → size s ≤ n → Fits size n (turn s)) → (n : ℕ) (s : S) → size s ≤ n
    → Fits size n (pieces size turn s)
unfolding pieces
pieces-fits size turn never n s p = turns-fits size turn never (suc (size s)) n s p

-- ---- moves

pub here_if : (n : ℕ) (b : Bool) (g h : Here) → text_len g ≤ n → text_len h ≤ n → text_len (if b then g else h) ≤ n
here_if n true g h p q = p
here_if n false g h p q = q

pub step-fits : (n : ℕ) (h : Here) → text_len h ≤ n → text_len (step h) ≤ n
step-fits n h p = let m = step_len h in omega (arith, m, p)

-- one character is taken
pub step-less : (n : ℕ) (h : Here) → text_len h ≤ suc n → text_len (step h) ≤ n
step-less n h p = let m = step_len h in omega (arith, m, p)

pub steps-fits : (k n : ℕ) (h : Here) → text_len h ≤ n → text_len (steps k h) ≤ n
unfolding steps
steps-fits zero n h p = p
steps-fits (suc k) n h p = steps-fits k n (step h) (step-fits n h p)

chosen-fits : (b : Bool) (g h : Here) (n : ℕ) → text_len g ≤ n → text_len h ≤ n → text_len (chosen b g h) ≤ n
chosen-fits true g h n p q = p
chosen-fits false g h n p q = q

skip-fits : (test : ℕ → Bool) (cs : List ℕ) (n : ℕ) (h : Here) → text_len h ≤ n → text_len (skip test cs h) ≤ n
skip-fits test [] n h p = p
skip-fits test (c ∷ cs) n h p = chosen-fits (test (next_char h)) (skip test cs (step h)) h n
    (skip-fits test cs n (step h) (step-fits n h p)) p

pub past-fits : (test : ℕ → Bool) (n : ℕ) (h : Here) → text_len h ≤ n → text_len (past test h) ≤ n
unfolding past
past-fits test n h p = skip-fits test h.unread.text n h p

pub past_break-fits : (n : ℕ) (h : Here) → text_len h ≤ n → text_len (past_break h) ≤ n
unfolding past_break
past_break-fits n h p = here_if n _ (step (step h)) (step h) (step-fits n (step h) (step-fits n h p)) (step-fits n h p)

-- ---- comments

behind_comment-fits : (n : ℕ) (h : Here) → text_len h ≤ n → Fits text_len n (behind_comment h)
unfolding behind_comment
behind_comment-fits n h p = search (fits_if, p)

pub comment-fits : (n : ℕ) (h : Here) → text_len h ≤ suc n → Fits text_len n (comment h)
unfolding comment skipped_comment
comment-fits n h p =
    fits_bind text_len text_len n n (skipped_comment h) _
    (behind_comment-fits n (past_comment h) (steps-fits _ n (step h) (step-less n h p))) (λ x q. q)

-- ---- tails

tail_behind-fits : (n : ℕ) (end h : Here) → text_len h ≤ n → Fits text_len n (tail_behind end h)
unfolding tail_behind
tail_behind-fits n end h p =
    let more : text_len h ≤ suc n = omega (arith, p) in
    let e = fits_bind text_len text_len n n (comment h) (λ x. Ok (Some x.0, x.1)) (comment-fits n h more) (λ x q. q) in
    search (fits_if, e, p)

pub tail_at-fits : (n : ℕ) (end : Here) → text_len end ≤ n → Fits text_len n (tail_at end)
tail_at-fits n end p = tail_behind-fits n end (past is_blank end) (past-fits is_blank n end p)
