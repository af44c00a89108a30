-- What a handle stands for by the scope is what it stands for by the lexemes before it.
use Rattle.std.proofs.Common.{◌≡◌, ℕ, Bool, true, false, List, length, codes, refl, ◌∙◌, subst, Option, Some, None}
use Rattle.std.proofs.Common.{◌==◌, nat_lt}
use Rattle.std.specs.Prelude.{◌&&◌, if◌then◌else◌}
use Rattle.granit_error.specs.OptionsData.{OptionsData}
use Rattle.granit_language.specs.Declared.{StandsFor, by_document, by_earlier, of_core, of_itself}
use Rattle.granit_language.specs.Scope.{no_scope, entry_of}
use Rattle.granit_language.specs.Scoping.{scope_behind, kept_of, or_kept, prefix_by, prefix_of}
use Rattle.granit_language.specs.Terminal.{Terminal}
use Rattle.granit_grammar.proofs.Declares.{in_force, not_in_force}
use Rattle.granit_grammar.proofs.Kept.{declared_ever}

some_same : {A : Type 0} {a b : A} → Some a ≡ Some b → a ≡ b
some_same e = cc (e)

-- what is kept says that handles stay, and that this is a long one
kept_says : (keep long : Bool) (last : Option (List ℕ)) (prefix : List ℕ)
    → (if long && keep then last else None) ≡ Some prefix → (keep ≡ true) × (long ≡ true) × (last ≡ Some prefix)
kept_says true true last prefix e = (refl, refl, e)
kept_says true false last prefix e = absurd cc
kept_says false true last prefix e = absurd cc
kept_says false false last prefix e = absurd cc

module _ (o : OptionsData) (handle : List ℕ) (front : List Terminal) where
  by_default : (core long : Bool) (prefix : List ℕ) → (length handle == 2) ≡ core → nat_lt 2 (length handle) ≡ long
      → entry_of handle (scope_behind front no_scope).handles ≡ None
      → (if core then Some (codes "tag:yaml.org,2002:") else (if long then None else Some handle)) ≡ Some prefix
      → StandsFor o handle front prefix
  by_default true long prefix c l none e =
      subst (StandsFor o handle front) (some_same e) (of_core (not_in_force handle front none) c)
  by_default false true prefix c l none e = absurd cc
  by_default false false prefix c l none e =
      subst (StandsFor o handle front) (some_same e) (of_itself (not_in_force handle front none) l)

  by_known : (known kept : Option (List ℕ)) (prefix : List ℕ)
      → entry_of handle (scope_behind front no_scope).handles ≡ known
      → kept_of o handle (scope_behind front no_scope) ≡ kept
      → prefix_by handle (or_kept known kept) ≡ Some prefix → StandsFor o handle front prefix
  by_known (Some p) kept prefix k s e = by_document (in_force handle front prefix (k ∙ e))
  by_known None (Some p) prefix k s e =
      let says = kept_says o.keep_tags (nat_lt 2 (length handle))
      (entry_of handle (scope_behind front no_scope).all_handles) prefix (s ∙ e) in
      by_earlier (not_in_force handle front k) says.0 says.1 (declared_ever handle front prefix says.2)
  by_known None None prefix k s e =
      by_default (length handle == 2) (nat_lt 2 (length handle)) prefix refl refl k e

  pub stands_for_by : (prefix : List ℕ) → prefix_of o handle (scope_behind front no_scope) ≡ Some prefix
      → StandsFor o handle front prefix
  stands_for_by prefix e =
      by_known (entry_of handle (scope_behind front no_scope).handles) (kept_of o handle (scope_behind front no_scope))
      prefix refl refl e

pub stands_for : (o : OptionsData) (handle : List ℕ) (front : List Terminal) (prefix : List ℕ)
    → prefix_of o handle (scope_behind front no_scope) ≡ Some prefix → StandsFor o handle front prefix
stands_for o handle front prefix e = stands_for_by o handle front prefix e
