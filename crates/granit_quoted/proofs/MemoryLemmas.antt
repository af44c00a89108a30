-- Where reading a quoted scalar takes no memory.
use Rattle.std.proofs.Common.{◌≡◌, ℕ, zero, suc, Bool, true, false}
use Rattle.std.proofs.Common.{List, [], ◌∷◌}
use Rattle.std.proofs.Common.{refl, sym, ◌∙◌}
use Rattle.std.proofs.lemmas.Bool.{and_parts}
use Rattle.granit_runs.specs.Runs.{run_length, starts}
use Rattle.granit_lexemes.specs.Here.{Here, chosen, next_char, past, skip, step}
use Rattle.granit_lexemes.specs.Moves.{steps}
use Rattle.granit_lexemes.specs.QuotedScalar.{is_closing, is_kept, is_verbatim}
use Rattle.granit_lexemes.proofs.HereLemmas.{step_lends}
use Rattle.granit_scalars.proofs.Comments.{steps_text}
use Rattle.granit_quoted.specs.QuotedMemory.{quoted_takes_none}
use Rattle.granit_quoted.proofs.KeptLemmas.{text_behind}

chosen_lends : (b : Bool) (g h : Here) (l : Bool) → g.unread.lends ≡ l → h.unread.lends ≡ l
    → (chosen b g h).unread.lends ≡ l
chosen_lends true g h l p q = p
chosen_lends false g h l p q = q

skip_lends : (test : ℕ → Bool) (cs : List ℕ) (h : Here) → (skip test cs h).unread.lends ≡ h.unread.lends
skip_lends test [] h = refl
skip_lends test (c ∷ cs) h =
    chosen_lends (test (next_char h)) (skip test cs (step h)) h h.unread.lends
    (skip_lends test cs (step h) ∙ step_lends h) refl

-- what follows is lent where this is
pub past_lends : (test : ℕ → Bool) (h : Here) → (past test h).unread.lends ≡ h.unread.lends
unfolding past
past_lends test h = skip_lends test h.unread.text h

pub steps_lends : (n : ℕ) (h : Here) → (steps n h).unread.lends ≡ h.unread.lends
unfolding steps
steps_lends zero h = refl
steps_lends (suc n) h = steps_lends n (step h) ∙ step_lends h

pub quoted_lent : (single : Bool) (h : Here) → quoted_takes_none single h ≡ true → (step h).unread.lends ≡ true
unfolding quoted_takes_none
quoted_lent single h none =
    step_lends h ∙ (and_parts h.unread.lends (is_verbatim single (step h).unread.text) none).0

-- behind what was passed of a scalar that takes none, its closing quote is next
pub closing_next : (single : Bool) (h : Here) (n : ℕ) → quoted_takes_none single h ≡ true
    → n ≡ run_length (starts (is_kept single)) (step h).unread.text
    → is_closing single (steps n (step h)).unread.text ≡ true
unfolding quoted_takes_none
closing_next single h n none whole =
    sym (text_behind single (step h) n (steps_text n (step h)) whole)
    ∙ (and_parts h.unread.lends (is_verbatim single (step h).unread.text) none).1
