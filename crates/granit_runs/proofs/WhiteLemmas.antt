-- What stands among blanks.
use Rattle.std.proofs.Common.{◌≡◌, Ok, Err, ℕ, zero, suc, ◌+◌, ◌<◌, ◌==◌, ◌||◌, Bool, true, false, List, [], ◌∷◌, ◌++◌}
use Rattle.std.proofs.Common.{length, take, drop, refl, ap, ◌∙◌, arith}
use Rattle.std.proofs.Math.Bool.{or-false}
use Rattle.std.proofs.Math.Seq.{take-add}
use Rattle.std.proofs.lemmas.Bool.{eq-eqb, ne_eqb}
use Rattle.granit_error.specs.declared.kind.ErrorKind.TheVariants.{CommentNotSeparated}
use Rattle.granit_base.specs.Place.{first}
use Rattle.granit_runs.specs.White.{holds, is_skipped, whitespace_found, found_more, white_skipped, comment_length}
use Rattle.granit_runs.specs.declared.whitespace.SkipTabs.{SkipTabs}
use Rattle.granit_runs.specs.declared.whitespace.SkipTabs.TheVariants.{Yes, No}

pub skipped_nul : (tabs : SkipTabs) → is_skipped tabs 0 ≡ false
skipped_nul Yes = refl
skipped_nul No = refl

pub skipped_some : (tabs : SkipTabs) (c : ℕ) → is_skipped tabs c ≡ true → 0 < c
skipped_some tabs zero e = absurd (let f = skipped_nul tabs in cc)
skipped_some tabs (suc c) e = omega arith

pub or_more : (a b c : Bool) → (a || (b || c)) ≡ ((a || b) || c)
or_more true b c = refl
or_more false b c = refl

holds_more : (c x : ℕ) (xs : List ℕ) → holds c (xs ++ x ∷ []) ≡ (holds c xs || (x == c))
holds_more c x [] = or-false (x == c)
holds_more c x (y ∷ xs) = ap (λ (b : Bool). (y == c) || b) (holds_more c x xs) ∙ or_more (y == c) (holds c xs) (x == c)

one_more : (text : List ℕ) → 0 < length text → take 1 text ≡ first text ∷ []
one_more [] some = absurd (omega arith)
one_more (c ∷ cs) some = refl

-- one character more of a text that has it
pub take_more : (n : ℕ) (text : List ℕ) → 0 < length (drop n text)
    → take (n + 1) text ≡ take n text ++ first (drop n text) ∷ []
take_more n text some = take-add n 1 text ∙ ap (λ (xs : List ℕ). take n text ++ xs) (one_more (drop n text) some)

pub holds_next : (c n : ℕ) (text : List ℕ) → 0 < length (drop n text)
    → holds c (take (n + 1) text) ≡ (holds c (take n text) || (first (drop n text) == c))
holds_next c n text some = ap (holds c) (take_more n text some) ∙ holds_more c (first (drop n text)) (take n text)

-- what is found among the blanks with one more
pub found_next : (n : ℕ) (text : List ℕ) (c : ℕ) → 0 < length (drop n text) → c ≡ first (drop n text)
    → found_more (whitespace_found (take n text)) c ≡ whitespace_found (take (n + 1) text)
found_next n text c some is = rw (is, holds_next 0x09 n text some, holds_next 0x20 n text some) refl

-- a text that a test which refuses the end passes isn't at its end
pub passes_some : (test : List ℕ → Bool) (text : List ℕ) → test [] ≡ false → test text ≡ true → 0 < length text
passes_some test [] nul go = absurd cc
passes_some test (c ∷ cs) nul go = omega arith

pub white_without : (blanks : ℕ) (text : List ℕ) → (first (drop blanks text) ≡ 0x23 → ⊥)
    → white_skipped blanks text ≡ (blanks, Ok (whitespace_found (take blanks text)))
white_without blanks text none = rw (ne_eqb (first (drop blanks text)) 0x23 none) refl

pub white_refused : (blanks : ℕ) (text : List ℕ) → first (drop blanks text) ≡ 0x23 → blanks ≡ 0
    → white_skipped blanks text ≡ (0, Err CommentNotSeparated)
white_refused blanks text here none = rw (eq-eqb (first (drop blanks text)) 0x23 here, eq-eqb blanks 0 none) refl

pub white_comment : (blanks : ℕ) (text : List ℕ) → first (drop blanks text) ≡ 0x23 → (blanks ≡ 0 → ⊥)
    → white_skipped blanks text ≡ (blanks + comment_length blanks text, Ok (whitespace_found (take blanks text)))
white_comment blanks text here some = rw (eq-eqb (first (drop blanks text)) 0x23 here, ne_eqb blanks 0 some) refl
