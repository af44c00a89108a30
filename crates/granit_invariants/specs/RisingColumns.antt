-- Lists of columns, the innermost first, of which each is right of the next.
use Rattle.std.specs.Prelude.{ℕ, ◌<◌, List, [], ◌∷◌}

abbrev pub RightOf : ℕ → List ℕ → Type 0
RightOf n [] = Unit {0}
RightOf n (m ∷ ms) = m < n

-- from the outermost to the innermost each is right of the one before
abbrev pub Rise : List ℕ → Type 0
Rise [] = Unit {0}
Rise (n ∷ ns) = RightOf n ns × Rise ns
