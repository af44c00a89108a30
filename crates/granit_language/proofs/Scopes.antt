-- Scopes of lists that stand one behind another.
use Rattle.std.proofs.Common.{◌≡◌, List, [], ap, refl, ◌++◌, ◌∷◌}
use Rattle.granit_language.specs.Scope.{Scope}
use Rattle.granit_language.specs.Scoping.{in_scope, next_scope, scope_behind, scoped}
use Rattle.granit_language.specs.Terminal.{Terminal}

pub scoped_append : (s : Scope) (xs ys : List Terminal)
    → scoped s (xs ++ ys) ≡ scoped s xs ++ scoped (scope_behind xs s) ys
scoped_append s [] ys = refl
scoped_append s (x ∷ xs) ys =
    ap (λ (zs : List Terminal). in_scope s x ∷ zs) (scoped_append (next_scope x.kind s) xs ys)

pub behind_append : (s : Scope) (xs ys : List Terminal)
    → scope_behind (xs ++ ys) s ≡ scope_behind ys (scope_behind xs s)
behind_append s [] ys = refl
behind_append s (x ∷ xs) ys = behind_append (next_scope x.kind s) xs ys
