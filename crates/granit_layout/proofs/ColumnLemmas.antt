-- Columns of which some outermost ones are wide.
use Rattle.std.proofs.Common.{◌≡◌, ℕ, suc, ◌-◌, ◌≤◌, ◌<◌, Bool, true, false, List, [], ◌∷◌, ◌++◌, length, map, reverse}
use Rattle.std.proofs.Common.{refl, ap, ap₂, ◌∙◌, arith}
use Rattle.std.specs.Prelude.{nat_lt, min}
use Rattle.std.proofs.lemmas.Bool.Decides.{nat_tests}
use Rattle.std.proofs.lemmas.List.{length-reverse, reverse-append}
use Rattle.granit_lexemes.specs.declared.layout.OpenColumn.{OpenColumn}
use Rattle.granit_machine.specs.Columns.{widened, up_to_column}
use Rattle.granit_layout.specs.Views.{marked_columns, columns_view, columns_renewed}

marked_length : (wide : ℕ) (cs : List ℕ) → length (marked_columns wide cs) ≡ length cs
marked_length wide [] = refl
marked_length wide (c ∷ cs) = ap (λ (n : ℕ). suc n) (marked_length wide cs)

pub columns_length : (wide : ℕ) (cs : List ℕ) → length (columns_view wide cs) ≡ length cs
columns_length wide cs = marked_length wide (reverse cs) ∙ length-reverse cs

-- it is enough that the same ones are wide
marked_same : (a b : ℕ) (cs : List ℕ) → ((n : ℕ) → n < length cs → nat_lt n a ≡ nat_lt n b)
    → marked_columns a cs ≡ marked_columns b cs
marked_same a b [] same = refl
marked_same a b (c ∷ cs) same =
    ap₂ (λ (w : Bool) (ds : List OpenColumn). record { column = c; is_wide = w } ∷ ds)
    (same (length cs) (omega arith)) (marked_same a b cs (λ n within. same n (omega arith)))

marked_all : (wide all : ℕ) (cs : List ℕ) → length cs ≤ all
    → marked_columns all cs ≡ map widened (marked_columns wide cs)
marked_all wide all [] more = refl
marked_all wide all (c ∷ cs) more =
    let same : nat_lt (length cs) all ≡ true = grind (arith, nat_tests, more) in
    ap₂ (λ (b : Bool) (ds : List OpenColumn). record { column = c; is_wide = b } ∷ ds) same
    (marked_all wide all cs (omega arith))

-- where as many are wide as there are, all are
pub all_widened : (wide : ℕ) (cs : List ℕ) → columns_view (length cs) cs ≡ map widened (columns_view wide cs)
all_widened wide cs = marked_all wide (length cs) (reverse cs) (rw length-reverse (omega arith))

-- a number of wide ones above that of all says no more than that
pub fewer_wide : (wide : ℕ) (cs : List ℕ) → columns_view (min wide (length cs)) cs ≡ columns_view wide cs
fewer_wide wide cs =
    marked_same (min wide (length cs)) wide (reverse cs)
    (λ n within. let inside : n < length cs = rw (← length-reverse cs) within in grind (arith, nat_tests, inside))

innermost_narrow : (wide least : ℕ) (cs : List ℕ) → wide ≤ length cs → least ≡ min wide (length cs - 1)
    → marked_columns least cs ≡ columns_renewed (marked_columns wide cs)
innermost_narrow wide least [] fit is = refl
innermost_narrow wide least (c ∷ cs) fit is =
    let narrow : nat_lt (length cs) least ≡ false = grind (arith, nat_tests, fit, is) in
    ap₂ (λ (b : Bool) (ds : List OpenColumn). record { column = c; is_wide = b } ∷ ds) narrow
    (marked_same least wide cs (λ n within. grind (arith, nat_tests, fit, is, within)))

-- all but the innermost stay wide
pub renewed_columns : (wide : ℕ) (cs : List ℕ) → wide ≤ length cs
    → columns_view (min wide (length cs - 1)) cs ≡ columns_renewed (columns_view wide cs)
renewed_columns wide cs fit =
    innermost_narrow wide _ (reverse cs) (rw length-reverse fit) (rw length-reverse refl)

-- without the innermost one, which is right of a column
pub popped_columns : (wide least column c : ℕ) (old new : List ℕ) → old ≡ new ++ c ∷ [] → column < c
    → least ≡ min wide (length new)
    → up_to_column column (columns_view least new) ≡ up_to_column column (columns_view wide old)
popped_columns wide least column c old new is right fewer =
    let right_of : nat_lt column c ≡ true = grind (arith, nat_tests, right) in
    rw (is, reverse-append new (c ∷ []), right_of, fewer, fewer_wide wide new) refl
