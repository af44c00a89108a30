-- What texts stand for: a list in the order of the texts.
use Rattle.std.specs.Prelude.{ℕ, nat_eq, if◌then◌else◌, List, [], ◌∷◌, Option, Some, None}
use Rattle.std.specs.BTreeMap.{insert_entry}
use Rattle.std.specs.Cmp.Lexicographic.{slice_cmp}
use Rattle.std.specs.Ordering.{nat_cmp}
use lib.Pointwise.{pointwise}

-- what a text stands for in a list
abbrev pub lookup_text : {A : Type 0} → List ℕ → List (List ℕ × A) → Option A
lookup_text name [] = None
lookup_text name (x ∷ xs) = if pointwise nat_eq name x.0 then Some x.1 else lookup_text name xs

-- from now on a text stands for that
abbrev pub remembered : {A : Type 0} → List ℕ → A → List (List ℕ × A) → List (List ℕ × A)
remembered name a entries = insert_entry (slice_cmp nat_cmp) entries name a
