-- What a scope says of texts, as the parser keeps it.
use Rattle.std.specs.Prelude.{ℕ, List, [], ◌∷◌}
use Rattle.granit_machine.specs.Entries.{remembered}

-- what was read last stands first; remembered one after another, in the order of the texts
abbrev pub ordered : {A : Type 0} → List (List ℕ × A) → List (List ℕ × A)
ordered [] = []
ordered (x ∷ xs) = remembered x.0 x.1 (ordered xs)
