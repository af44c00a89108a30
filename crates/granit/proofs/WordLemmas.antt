-- The words that have come, beside the arguments that are left.
use Rattle.std.proofs.Common.{◌≡◌, ℕ, zero, suc, ◌+◌, Bool, true, false, List, [], ◌∷◌, ◌++◌, take, drop, refl, sym, ap}
use Rattle.std.proofs.Common.{◌∙◌, append_assoc, arith}
use Rattle.std.proofs.lemmas.List.{append-nil}
use Rattle.std.proofs.lemmas.Option.{slice_get-map}
use Rattle.std.proofs.lemmas.Str.{is_utf8-from_IsUtf8, IsUtf8-from_is_utf8}
use Rattle.std.specs.Option.{option_map}
use Rattle.std.specs.Prelude.{slice_get, Option, Some, None, IfSome, Ok, Err}
use Rattle.std.specs.Str.{chars, is_utf8, IsUtf8}
use Rattle.std.specs.declared.env.FillError.{FillError}
use Rattle.std.specs.declared.env.FillError.TheVariants as fill
use Rattle.granit_base.specs.Written.{Written}
use Rattle.granit.specs.Words.{Fills, owned_word, texts, words_of}

pub word_of_utf8 : (bytes : List ℕ) → IsUtf8 bytes
    → owned_word bytes ≡ record { characters = chars bytes; is_borrowed = false }
word_of_utf8 bytes u = rw (is_utf8-from_IsUtf8 bytes u) refl

other_word : (bytes : List ℕ) → (IsUtf8 bytes → ⊥) → (b : Bool) → is_utf8 bytes ≡ b
    → owned_word bytes ≡ record { characters = []; is_borrowed = false }
other_word bytes u true e = absurd (u (IsUtf8-from_is_utf8 bytes e))
other_word bytes u false e = rw e refl

pub word_of_other_bytes : (bytes : List ℕ) → (IsUtf8 bytes → ⊥)
    → owned_word bytes ≡ record { characters = []; is_borrowed = false }
word_of_other_bytes bytes u = other_word bytes u (is_utf8 bytes) refl

-- a call that filled the buffer found the argument
pub found : (all : Option (List (List ℕ))) (i n : ℕ) (buffer : List ℕ) (text : Written)
    → IfSome all (λ list. Fills (slice_get list i) buffer (Ok n)) → text ≡ owned_word (take n buffer)
    → IfSome all (λ list. Some text ≡ slice_get (texts list) i)
found None i n buffer text f e = tt
found (Some list) i n buffer text f e = ap Some e ∙ sym (slice_get-map owned_word list i ∙ ap (option_map owned_word) f)

-- one that says that there is none is behind the last
pub missing : (all : Option (List (List ℕ))) (i : ℕ) (buffer : List ℕ) (why : FillError)
    → IfSome all (λ list. Fills (slice_get list i) buffer (Err why)) → why ≡ fill.NotPresent
    → IfSome all (λ list. None ≡ slice_get (texts list) i)
missing None i buffer why f is = tt
missing (Some list) i buffer fill.NotPresent f is = sym (slice_get-map owned_word list i ∙ ap (option_map owned_word) f)
missing (Some list) i buffer fill.TooLong f is = absurd cc

-- the words so far, and the texts from the i-th on, are the words
abbrev pub AreSoFar : Option (List (List ℕ)) → List Written → ℕ → Type 0
AreSoFar all list i = IfSome all (λ told. list ++ drop i (texts told) ≡ words_of told)

next_text : (list : List Written) (i : ℕ) (text : Written) → Some text ≡ slice_get list i
    → drop i list ≡ text ∷ drop (suc i) list
next_text [] i text e = absurd cc
next_text (x ∷ xs) zero text e = let same : text ≡ x = cc in rw same refl
next_text (x ∷ xs) (suc i) text e = next_text xs i text e

pub one_more : (all : Option (List (List ℕ))) (list next : List Written) (i : ℕ) (answer : Option Written)
    (text : Written) → AreSoFar all list i → IfSome all (λ told. answer ≡ slice_get (texts told) i) → answer ≡ Some text
    → next ≡ list ++ text ∷ [] → AreSoFar all next (i + 1)
one_more None list next i answer text s e is n = tt
one_more (Some told) list next i answer text s e is n =
    let after : i + 1 ≡ suc i = omega arith in
    rw (after, n) (
    append_assoc list (text ∷ []) (drop (suc i) (texts told))
    ∙ ap (λ (rest : List Written). list ++ rest) (sym (next_text (texts told) i text (sym is ∙ e)))
    ∙ s)

nothing_left : (list : List Written) (i : ℕ) → None ≡ slice_get list i → drop i list ≡ []
nothing_left [] zero e = refl
nothing_left [] (suc i) e = refl
nothing_left (x ∷ xs) zero e = absurd cc
nothing_left (x ∷ xs) (suc i) e = nothing_left xs i e

pub all_so_far : (all : Option (List (List ℕ))) (list : List Written) (i : ℕ) (answer : Option Written)
    → AreSoFar all list i → IfSome all (λ told. answer ≡ slice_get (texts told) i) → answer ≡ None
    → IfSome all (λ told. list ≡ words_of told)
all_so_far None list i answer s e is = tt
all_so_far (Some told) list i answer s e is =
    sym (append-nil list)
    ∙ ap (λ (rest : List Written). list ++ rest) (sym (nothing_left (texts told) i (sym is ∙ e)))
    ∙ s
