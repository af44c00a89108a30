-- Pieces pushed one after another.
use Rattle.std.proofs.Common.{◌≡◌, ℕ, List, ◌++◌, ap, ◌∙◌, append_assoc, Result, Ok, Err}
use Rattle.std.specs.Prelude.{OnOk}

pub after_one : {X E : Type 0} (r : Result X E) (new mid old a b : List ℕ) → mid ≡ old ++ a → OnOk r (new ≡ mid ++ b)
    → OnOk r (new ≡ old ++ (a ++ b))
after_one (Ok x) new mid old a b first then = then ∙ ap (λ (k : List ℕ). k ++ b) first ∙ append_assoc old a b
after_one (Err e) new mid old a b first then = tt

pub after_two : {X E : Type 0} (r : Result X E) (new mid before old a b d : List ℕ) → before ≡ old ++ a
    → mid ≡ before ++ b → OnOk r (new ≡ mid ++ d) → OnOk r (new ≡ old ++ ((a ++ b) ++ d))
after_two r new mid before old a b d first second then = after_one r new mid old (a ++ b) d
    (second ∙ ap (λ (k : List ℕ). k ++ b) first ∙ append_assoc old a b) then
