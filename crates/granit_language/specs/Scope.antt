-- What the lexemes before a place declare: the anchors, and the handles of the document (YAML 1.2.2, 3.2.2.2, 6.8 and
-- 6.9).
use Rattle.std.specs.Prelude.{ℕ, nat_eq, if◌then◌else◌, List, [], ◌∷◌, Option, Some, None}
use lib.Pointwise.{pointwise}

pub record Scope : Type 0 where
  -- how many anchors stand before, and those of the document by name with their numbers, the last first
  pub count : ℕ
  pub names : List (List ℕ × ℕ)
  -- what the handles of the document stand for
  pub handles : List (List ℕ × List ℕ)
  -- the same, and the version, of directives whose `---` must come
  pub pending : List (List ℕ × List ℕ)
  pub version : Option (ℕ × ℕ)
  -- what the handles of all directives so far stand for, the last first
  pub all_handles : List (List ℕ × List ℕ)

abbrev pub no_scope : Scope
no_scope = record { count = 0; names = []; handles = []; pending = []; version = None; all_handles = [] }

-- what a list says of a text: the first entry counts
abbrev pub entry_of : {A : Type 0} → List ℕ → List (List ℕ × A) → Option A
entry_of name [] = None
entry_of name (x ∷ xs) = if pointwise nat_eq name x.0 then Some x.1 else entry_of name xs
