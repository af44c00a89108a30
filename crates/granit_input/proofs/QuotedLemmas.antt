-- Chunks of quoted scalars.
use Rattle.std.proofs.Common.{◌≡◌, ◌≤◌, ℕ, Bool, true, List, [], ◌∷◌, length, refl, sym, ap, subst, inl, inr}
use Rattle.std.proofs.Common.{arith}
use Rattle.std.specs.Str.{chars}
use Rattle.std.proofs.lemmas.Bool.{cases_Bool, or_left}
use Rattle.std.proofs.lemmas.Str.{chars-nil}
use Rattle.granit_base.specs.Place.{Unread, first}
use Rattle.granit_runs.specs.Runs.{run_length, starts, is_quoted_ascii, is_quoted_char}
use Rattle.granit_runs.specs.Chunks.{TakesText}
use Rattle.granit_input.proofs.UnreadLemmas.{past_none}

pub no_chars : length (chars []) ≡ 0
no_chars = ap length chars-nil

-- no text is a front of any run
pub takes_none : (test : List ℕ → Bool) (u : Unread) (Lands : Unread → Type 0) → Lands u
    → TakesText test u (chars []) Lands
takes_none test u Lands here =
    rw chars-nil (record { fits = omega arith; text = refl; lands = subst Lands (sym (past_none u)) here })

-- a test that passes more has no shorter runs
run_wider : (narrow wide : List ℕ → Bool) → ((text : List ℕ) → narrow text ≡ true → wide text ≡ true) → (text : List ℕ)
    → run_length narrow text ≤ run_length wide text
unfolding run_length
run_wider narrow wide more [] = omega arith
run_wider narrow wide more (c ∷ cs) =
    elim (cases_Bool (narrow (c ∷ cs))) [
      | inl held ↦ rw (held, more (c ∷ cs) held) (omega (arith, run_wider narrow wide more cs))
      | inr failed ↦ rw failed (omega arith)
    ]

-- a front of the run of ASCII is one of the wider run
pub takes_wider : (single : Bool) (u : Unread) (taken : List ℕ) (Lands : Unread → Type 0)
    → TakesText (starts (is_quoted_ascii single)) u taken Lands
    → TakesText (starts (is_quoted_char single)) u taken Lands
takes_wider single u taken Lands t =
    let wider = run_wider (starts (is_quoted_ascii single)) (starts (is_quoted_char single))
    (λ text e. or_left (is_quoted_ascii single (first text)) _ e) u.text in
    record { fits = omega (arith, t.fits); text = t.text; lands = t.lands }
