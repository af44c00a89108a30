-- Loops whose pieces are moved too.
use Rattle.std.proofs.Common.{◌≡◌, ℕ, zero, suc, List, [], map, Option, Some, None, Result, Ok, Err, sym, ap, ◌∙◌}
use Rattle.std.proofs.Common.{refl}
use Rattle.std.proofs.lemmas.List.{map-append}
use Rattle.granit_lexemes.specs.Outcome.{Fault}
use Rattle.granit_lexemes.specs.Pieces.{with_front, then_more, turns, pieces}
use Rattle.granit_shifted.specs.Shift.{Shift}
use Rattle.granit_shifted.proofs.MovedLexemes.{Same, same_ok, same_then, same_at}

module _ (shift : Shift) where
  abbrev pub on_some : {A : Type 0} → (A → A) → Option (List A) → Option (List A)
  on_some g None = None
  on_some g (Some xs) = Some (map g xs)

  abbrev pub on_piece : {A S : Type 0} → (A → A) → (S → S) → Option (List A) × S → Option (List A) × S
  on_piece g b x = (on_some g x.0, b x.1)

  abbrev pub on_all : {A S : Type 0} → (A → A) → (S → S) → List A × S → List A × S
  on_all g b x = (map g x.0, b x.1)

  front_same : {A S : Type 0} (g : A → A) (b : S → S) (xs : List A) (r s : Result (List A × S) Fault)
      → Same shift (on_all g b) r s → Same shift (on_all g b) (with_front (map g xs) r) (with_front xs s)
  front_same {A} {S} g b xs r (Ok x) p = record {
    is = ap (with_front (map g xs)) p.is
        ∙ ap (λ (ys : List A). let y : Result (List A × S) Fault = Ok (ys, b x.1) in y) (sym (map-append g xs x.0));
  }
  front_same g b xs r (Err e) p = record { is = ap (with_front (map g xs)) p.is }

  more_same : {A S : Type 0} (g : A → A) (b : S → S) (k l : S → Result (List A × S) Fault)
      → ((s : S) → Same shift (on_all g b) (k (b s)) (l s)) → (x : Option (List A)) (s : S)
      → Same shift (on_all g b) (then_more k (on_some g x) (b s)) (then_more l x s)
  more_same g b k l h None s = same_ok shift (on_all g b) ([], s) _ refl
  more_same g b k l h (Some xs) s = front_same g b xs (k (b s)) (l s) (h s)

  pub turns_same : {A S : Type 0} (g : A → A) (b : S → S) (k l : S → Result (Option (List A) × S) Fault)
      → ((s : S) → Same shift (on_piece g b) (k (b s)) (l s)) → (n : ℕ) (s : S)
      → Same shift (on_all g b) (turns k n (b s)) (turns l n s)
  unfolding turns
  turns_same g b k l h zero s = same_ok shift (on_all g b) ([], s) _ refl
  turns_same g b k l h (suc n) s = same_then shift (on_piece g b) (on_all g b) _ _ _ _ (h s)
      (λ x. more_same g b (turns k n) (turns l n) (turns_same g b k l h n) x.0 x.1)

  pub pieces_same : {A S : Type 0} (g : A → A) (b : S → S) (size : S → ℕ)
      (k l : S → Result (Option (List A) × S) Fault) → ((s : S) → size (b s) ≡ size s)
      → ((s : S) → Same shift (on_piece g b) (k (b s)) (l s)) → (s : S)
      → Same shift (on_all g b) (pieces size k (b s)) (pieces size l s)
  unfolding pieces
  pieces_same g b size k l e h s = same_at shift (on_all g b) (λ n. turns k (suc n) (b s)) (size (b s)) (size s) _ (e s)
      (turns_same g b k l h (suc (size s)) s)
