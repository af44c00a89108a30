-- What is remembered in the order of the texts is found as what was read last.
use Rattle.std.proofs.Common.{◌≡◌, ℕ, Bool, true, false, List, [], ◌∷◌, Option, Some, refl, sym, ap, ◌∙◌}
use Rattle.std.specs.Prelude.{if◌then◌else◌}
use Rattle.std.specs.declared.cmp.Ordering.{Ordering}
use Rattle.std.specs.declared.cmp.Ordering.TheVariants.{Less, Equal, Greater}
use Rattle.std.specs.Ordering.{match_ordering, is_eq, nat_cmp}
use Rattle.std.specs.Cmp.Lexicographic.{slice_cmp, texts_ties}
use Rattle.std.proofs.lemmas.Cmp.{nat_list_eq_equiv}
use Rattle.granit_base.specs.Written.{same_text}
use Rattle.granit_language.specs.Scope.{entry_of}
use Rattle.granit_machine.specs.Entries.{lookup_text, remembered}
use Rattle.granit_views.specs.Ordered.{ordered}

module _ {A : Type 0} where
  twice : (b : Bool) (x y z : Option A) → (if b then x else y) ≡ (if b then x else (if b then z else y))
  twice true x y z = refl
  twice false x y z = refl

  apart : (s t : Bool) (x y z : Option A) → (s ≡ true → t ≡ true → ⊥)
      → (if s then x else (if t then y else z)) ≡ (if t then y else (if s then x else z))
  apart true true x y z n = absurd (n refl refl)
  apart true false x y z n = refl
  apart false t x y z n = refl

-- a text that compares equal has the same characters
ties : (q k e : List ℕ) → slice_cmp nat_cmp k e ≡ Equal → same_text q k ≡ same_text q e
ties q k e h =
    let alike : same_text k e ≡ true = texts_ties k e ∙ ap is_eq h in
    nat_list_eq_equiv.symm q k ∙ nat_list_eq_equiv.congr k e q alike ∙ nat_list_eq_equiv.symm e q

-- a text that comes behind another one is found apart from it
parts : (q k e : List ℕ) → slice_cmp nat_cmp k e ≡ Greater → same_text q e ≡ true → same_text q k ≡ true → ⊥
parts q k e h t s =
    let apart_ones : same_text k e ≡ false = texts_ties k e ∙ ap is_eq h in
    let on : same_text q e ≡ same_text k e = nat_list_eq_equiv.congr q k e s in
    cc

module _ {A : Type 0} where
  placed : (k q : List ℕ) (v : A) (e : List ℕ × A) (es : List (List ℕ × A)) (r : Ordering) → slice_cmp nat_cmp k e.0 ≡ r
      → lookup_text q (remembered k v es) ≡ (if same_text q k then Some v else lookup_text q es)
      → lookup_text q (match_ordering r ((k, v) ∷ e ∷ es) ((e.0, v) ∷ es) (e ∷ remembered k v es))
      ≡ (if same_text q k then Some v else lookup_text q (e ∷ es))
  placed k q v e es Less h ih = refl
  placed k q v e es Equal h ih =
      let t = ties q k e.0 h in
      ap (λ (b : Bool). if b then Some v else lookup_text q es) (sym t)
      ∙ twice (same_text q k) (Some v) (lookup_text q es) (Some e.1)
      ∙ ap (λ (b : Bool). if same_text q k then Some v else (if b then Some e.1 else lookup_text q es)) t
  placed k q v e es Greater h ih =
      ap (λ (o : Option A). if same_text q e.0 then Some e.1 else o) ih
      ∙ apart (same_text q e.0) (same_text q k) (Some e.1) (Some v) (lookup_text q es) (parts q k e.0 h)

  -- a text is found where it was put in last, and other texts where they were
  pub found_behind : (k q : List ℕ) (v : A) (es : List (List ℕ × A))
      → lookup_text q (remembered k v es) ≡ (if same_text q k then Some v else lookup_text q es)
  found_behind k q v [] = refl
  found_behind k q v (e ∷ es) = placed k q v e es (slice_cmp nat_cmp k e.0) refl (found_behind k q v es)

  pub found_in_order : (name : List ℕ) (xs : List (List ℕ × A)) → lookup_text name (ordered xs) ≡ entry_of name xs
  found_in_order name [] = refl
  found_in_order name (x ∷ xs) =
      found_behind x.0 name x.1 (ordered xs) ∙ ap (λ (o : Option A). if same_text name x.0 then Some x.1 else o)
      (found_in_order name xs)
