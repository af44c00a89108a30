-- Iterators of strings and lists, call by call.
use Rattle.std.proofs.Common.{◌≡◌, ◌≤◌, ℕ, true, List, [], ◌∷◌, length, Option, Some, None, refl, sym, ap, ◌∙◌, arith}
use Rattle.std.proofs.Math.Utf8.{encodes, scalars}
use Rattle.std.proofs.lemmas.Bool.{and_parts}
use Rattle.std.proofs.lemmas.Str.{chars_from_encodes, cons_from_encodes, length-le-encodes}
use Rattle.std.specs.Iterator.{Count, size, at_most}
use Rattle.std.specs.List.{slice_get}
use Rattle.std.specs.Str.{chars}
use Rattle.std.specs.Str.Iter.{chars_rest, chars_steps}
use Rattle.std.specs.Vec.Iter.{into_iter_items, into_iter_len, into_iter_steps}
use Rattle.std.specs.declared.str.Chars.{Chars}
use Rattle.std.specs.declared.vec.IntoIter.{IntoIter}
use Rattle.granit_buffered.specs.Feeds.{GivesOnly}

-- ---- a list

list_ends : {X Z : Type 0} (s t : IntoIter X Z) (r : Option X) → into_iter_items s ≡ [] → into_iter_steps s r t
    → r ≡ None
list_ends s t None none h = refl
list_ends s t (Some x) none h = let e = sym none ∙ h.0 in absurd cc

list_goes_on : {X Z : Type 0} (s t : IntoIter X Z) (r : Option X) (x : X) (xs : List X) → into_iter_items s ≡ x ∷ xs
    → into_iter_len s ≡ length (x ∷ xs) → into_iter_steps s r t
    → (r ≡ Some x) × (into_iter_items t ≡ xs) × (into_iter_len t ≡ length xs)
list_goes_on s t None x xs items len h = let none = h.0 in absurd (omega (arith, len, none))
list_goes_on s t (Some y) x xs items len h =
    let e : x ∷ xs ≡ y ∷ into_iter_items t = sym items ∙ h.0 in
    let fewer = h.1 in
    (cc, cc, omega (arith, len, fewer))

pub list_gives : {X Z : Type 0} (s : IntoIter X Z) (xs : List X) → into_iter_items s ≡ xs → into_iter_len s ≡ length xs
    → GivesOnly into_iter_steps (λ t. at_most (into_iter_len t)) s xs
list_gives s [] items len = λ r t h. list_ends s t r items h
list_gives s (x ∷ xs) items len = (
  omega (arith, len),
  λ r t h.
      let next = list_goes_on s t r x xs items len h in
      (next.0, list_gives t xs next.1 next.2),
)

-- ---- a string

-- with the characters off that are given, the bytes spell the others
string_goes_on : (s t : Chars) (r : Option ℕ) (c : ℕ) (cs : List ℕ) → chars (chars_rest s) ≡ c ∷ cs
    → encodes (c ∷ cs) ≡ chars_rest s → chars_steps s r t → (r ≡ Some c) × (encodes cs ≡ chars_rest t)
string_goes_on s t None c cs text bytes h =
    let e = h.2 ∙ ap (λ (xs : List ℕ). slice_get xs 0) text in absurd cc
string_goes_on s t (Some x) c cs text bytes h =
    let e : Some x ≡ Some c = h.2 ∙ ap (λ (xs : List ℕ). slice_get xs 0) text in
    let cut = cons_from_encodes (c ∷ cs) (chars_rest t) x (bytes ∙ h.0) in
    let same : cs ≡ cut.0 = cc in
    (e, ap encodes same ∙ cut.2)

pub string_gives : (remaining : Chars → Count) → ((s : Chars) → length (chars_rest s) ≤ size (remaining s))
    → (s : Chars) (cs : List ℕ) → scalars cs ≡ true → encodes cs ≡ chars_rest s
    → GivesOnly chars_steps remaining s cs
string_gives remaining within s [] good bytes = λ r t h.
    h.2 ∙ ap (λ (xs : List ℕ). slice_get xs 0) (sym (chars_from_encodes [] (chars_rest s) ([], (good, bytes)) bytes))
string_gives remaining within s (c ∷ cs) good bytes =
    let long = length-le-encodes (c ∷ cs) in
    let text = sym (chars_from_encodes (c ∷ cs) (chars_rest s) (c ∷ cs, (good, bytes)) bytes) in (
      omega (arith, long, ap length bytes, within s),
      λ r t h.
          let next = string_goes_on s t r c cs text bytes h in
          (next.0, string_gives remaining within t cs (and_parts _ (scalars cs) good).1 next.1),
    )
