-- Lists with the innermost at the end.
use Rattle.std.proofs.Common.{◌≡◌, ℕ, suc, ◌-◌, ◌<◌, ◌||◌, Bool, true, false, List, [], ◌∷◌, ◌++◌, length, map, reverse}
use Rattle.std.proofs.Common.{take, drop, set, get_or, Option, refl, sym, ap, ◌∙◌, arith}
use Rattle.std.specs.List.{list_any}
use Rattle.std.proofs.lemmas.List.{map-append, reverse-append, set_split}
use Rattle.std.proofs.Math.Seq.{drop-length}
use Rattle.std.proofs.lemmas.List.Folds.{list_any-append}
use Rattle.std.proofs.lemmas.Grind.{common_steps, reverse_onto}
use Rattle.granit_lexemes.specs.declared.layout.OpenBracket.{OpenBracket}
use Rattle.granit_lexemes.specs.declared.layout.PossibleKey.{PossibleKey}
use Rattle.granit_machine.specs.PossibleKeys.{keyed_brackets}

either : (a b d : Bool) → b ≡ d → (b || (a || false)) ≡ (a || d)
either true true d e = e ∙ cc
either true false d e = refl
either false true d e = e
either false false d e = e

pub any_reversed : {X : Type 0} (p : X → Bool) (xs : List X) → list_any p (reverse xs) ≡ list_any p xs
any_reversed p [] = refl
any_reversed p (x ∷ xs) =
    let more = any_reversed p xs in
    ap (list_any p) (reverse_onto xs x []) ∙ list_any-append p (reverse xs) (x ∷ []) ∙ either (p x) _ _ more

pub map_reversed : {A B : Type 0} (f : A → B) (xs : List A) → reverse (map f xs) ≡ map f (reverse xs)
map_reversed f [] = refl
map_reversed f (x ∷ xs) =
    reverse_onto (map f xs) (f x) [] ∙ ap (λ (ys : List _). ys ++ f x ∷ []) (map_reversed f xs)
    ∙ sym (ap (map f) (reverse_onto xs x []) ∙ map-append f (reverse xs) (x ∷ []))

-- another key in the innermost bracket, which is the last one
pub keyed_last : (key : Option PossibleKey) (bs : List OpenBracket) (n : ℕ) (b : OpenBracket)
    → n ≡ length bs → (n ≡ 0 → ⊥) → b ≡ get_or bs (n - 1) b
    → reverse (set bs (n - 1) (record b { key = key })) ≡ keyed_brackets key (reverse bs)
keyed_last key bs n b all some is =
    let before : bs ≡ take (n - 1) bs ++ b ∷ [] = grind (arith, common_steps, all, some, is) in
    let within : n - 1 < length bs = omega arith in
    let end : suc (n - 1) ≡ length bs = omega arith in
    let none : drop (suc (n - 1)) bs ≡ [] = ap (λ (i : ℕ). drop i bs) end ∙ drop-length bs in
    let behind : set bs (n - 1) (record b { key = key }) ≡ take (n - 1) bs ++ record b { key = key } ∷ [] =
    set_split bs (n - 1) (record b { key = key }) within
    ∙ ap (λ (cs : List OpenBracket). take (n - 1) bs ++ record b { key = key } ∷ cs) none in
    ap reverse behind ∙ reverse-append (take (n - 1) bs) (record b { key = key } ∷ [])
    ∙ sym (ap (λ (cs : List OpenBracket). keyed_brackets key (reverse cs)) before
    ∙ ap (keyed_brackets key) (reverse-append (take (n - 1) bs) (b ∷ [])))
