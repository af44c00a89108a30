-- The name of a tag: its handle followed by its suffix, and what the calls of a tag answer of it.
use Rattle.std.specs.Prelude.{ℕ, Bool, true, false, ◌==◌, ◌&&◌, not, if◌then◌else◌, List, [], ◌∷◌, ◌++◌, codes}
use Rattle.std.specs.Prelude.{Option, Some, None}
use Rattle.std.specs.Borrow.{Bor}
use Rattle.std.specs.Option.{option_map, option_and_then}
use Rattle.std.specs.Str.{chars}
use Rattle.granit_base.specs.Written.{Written, same_text}
use Rattle.granit_lexemes.specs.PlainEvent.{PlainTag}

-- the characters of a text, where there is one
abbrev pub told : Option (Bor (List ℕ)) → Option (List ℕ)
told answer = option_map (λ s. chars s.now) answer

-- the characters of two texts, one after the other, where there are any
abbrev pub told_pair : Option (Bor (List ℕ) × Bor (List ℕ)) → Option (List ℕ)
told_pair answer = option_map (λ p. chars p.0.now ++ chars p.1.now) answer

abbrev pub name_of : PlainTag → List ℕ
name_of t = t.handle ++ t.suffix

-- what follows a front in a text, where the text begins with it
abbrev pub behind_front : List ℕ → List ℕ → Option (List ℕ)
behind_front [] x = Some x
behind_front (c ∷ front) [] = None
behind_front (c ∷ front) (d ∷ x) = if d == c then behind_front front x else None

abbrev pub core_namespace : List ℕ
core_namespace = codes "tag:yaml.org,2002:"

-- the names of the tags of the core schema (10.3.2)
abbrev pub core_names : List (List ℕ)
core_names = codes "bool" ∷ codes "float" ∷ codes "int" ∷ codes "map" ∷ codes "null" ∷ codes "seq" ∷ codes "str" ∷ []

-- a name where it is the text, else what was found before
abbrev pub name_or : List ℕ → List ℕ → Option (List ℕ) → Option (List ℕ)
name_or n x found = if same_text x n then Some n else found

-- the first of some names that is the text
abbrev pub named : List (List ℕ) → List ℕ → Option (List ℕ)
named [] x = None
named (n ∷ ns) x = name_or n x (named ns x)

abbrev pub core_suffix_of : List ℕ → Option (List ℕ)
core_suffix_of x = option_and_then (named core_names) (behind_front core_namespace x)

abbrev pub is_text_in : Option (List ℕ) → List ℕ → Bool
is_text_in None x = false
is_text_in (Some y) x = same_text y x

-- whether a text goes on behind a front
abbrev pub more_than : List ℕ → Bool
more_than [] = false
more_than (c ∷ x) = true

abbrev pub has_more : Option (List ℕ) → Bool
has_more None = false
has_more (Some x) = more_than x

abbrev pub lent_unless : Bool → List ℕ → Written
lent_unless true x = record { characters = x; is_borrowed = false }
lent_unless false x = record { characters = x; is_borrowed = true }

-- what follows a namespace in the name of a tag: lent, unless the handle goes on behind the namespace
abbrev pub suffix_behind : List ℕ → PlainTag → Option Written
suffix_behind namespace t = option_map (lent_unless (has_more (behind_front namespace t.handle)))
    (behind_front namespace (name_of t))

abbrev pub verbatim : List ℕ → List ℕ
verbatim suffix = (codes "!<" ++ suffix) ++ codes ">"

abbrev pub is_verbatim_tag : PlainTag → Bool
is_verbatim_tag t = same_text t.original_handle [] && not (same_text t.suffix (codes "!"))

-- a tag as it is written: a verbatim one has no handle, and neither has the non-specific one, `!` (6.9.1)
abbrev pub original_of : PlainTag → List ℕ
original_of t = if is_verbatim_tag t then verbatim t.suffix else t.original_handle ++ t.suffix
