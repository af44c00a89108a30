-- Open columns in block text: which a lexeme leaves open, and which an entry begins.
use Rattle.std.proofs.Common.{Bool, List, [], ap, arith, false, inl, inr, length, map, refl, subst, suc, sym, true}
use Rattle.std.proofs.Common.{ℕ, ◌<◌, ◌==◌, ◌∙◌, ◌∷◌, ◌≡◌, ◌≤◌, ◌⊎◌}
use Rattle.std.proofs.lemmas.Bool.Decides.{nat_tests}
use Rattle.std.specs.Prelude.{if◌then◌else◌, nat_lt}
use Rattle.granit_block_lines.proofs.Ready.{Around, bound, outside, up_to}
use Rattle.granit_lexemes.specs.declared.layout.OpenBracket.{OpenBracket}
use Rattle.granit_lexemes.specs.declared.layout.OpenColumn.{OpenColumn}
use Rattle.granit_machine.specs.Columns.{chosen_columns, entered_columns, up_to_column, widened}
use Rattle.granit_machine.specs.Laid.{is_nonempty}
use Rattle.granit_canonical_steps.proofs.Places.{cols}

up_if : (v : Bool) (c : OpenColumn) (xs cs : List OpenColumn) (ns : List ℕ) → cols xs ≡ ns
    → cols (chosen_columns v xs (c ∷ cs)) ≡ (if v then ns else c.column ∷ cols cs)
up_if true c xs cs ns e = e
up_if false c xs cs ns e = refl

pub up_map : (n : ℕ) (cs : List OpenColumn) → cols (up_to_column n cs) ≡ up_to n (cols cs)
up_map n [] = refl
up_map n (c ∷ cs) = up_if (nat_lt n c.column) c (up_to_column n cs) cs (up_to n (cols cs)) (up_map n cs)

pub widened_map : (cs : List OpenColumn) → cols (map widened cs) ≡ cols cs
widened_map [] = refl
widened_map (c ∷ cs) = ap (λ (ns : List ℕ). c.column ∷ ns) (widened_map cs)

columns_length : (cs : List OpenColumn) → length (cols cs) ≡ length cs
columns_length [] = refl
columns_length (c ∷ cs) = ap suc (columns_length cs)

-- no column is closed by what stands right of all
pub up_bound : (n : ℕ) (cs : List ℕ) → bound cs ≤ n → up_to n cs ≡ cs
up_bound n [] h = refl
up_bound n (c ∷ cs) h =
    let e : nat_lt n c ≡ false = grind (arith, nat_tests) in ap (λ v. if v then up_to n cs else c ∷ cs) e

pub up_self : (c : ℕ) (cs : List ℕ) → up_to c (c ∷ cs) ≡ c ∷ cs
up_self c cs =
    let e : nat_lt c c ≡ false = grind (arith, nat_tests) in ap (λ v. if v then up_to c cs else c ∷ cs) e

pub up_less : (n c : ℕ) (cs : List ℕ) → n < c → up_to n (c ∷ cs) ≡ up_to n cs
up_less n c cs h =
    let e : nat_lt n c ≡ true = grind (arith, nat_tests) in ap (λ v. if v then up_to n cs else c ∷ cs) e

-- what a lexeme in a column leaves open
pub closed_map : (n : ℕ) (obs : List OpenBracket) (cs : List OpenColumn) (ds : List ℕ) → Around [] obs
    → cols cs ≡ ds → cols (if is_nonempty obs then cs else up_to_column n cs) ≡ up_to n ds
closed_map n _ cs ds outside e = up_map n cs ∙ ap (up_to n) e

-- An entry begins in a column: one more of the innermost collection, or the first of one, which may be opened.
pub data Enters (limit c : ℕ) (ds : List ℕ) : List ℕ → Type 0 where
  again : {cs : List ℕ} → up_to c ds ≡ c ∷ cs → Enters limit c ds cs
  anew : {cs : List ℕ} → up_to c ds ≡ cs → bound cs ≤ c → length cs < limit → Enters limit c ds cs

entered_again : (c : ℕ) (cs : List OpenColumn) (ns : List ℕ) → cols cs ≡ c ∷ ns
    → cols (entered_columns c cs) ≡ c ∷ ns
unfolding entered_columns
entered_again c [] ns e = absurd cc
entered_again c (k ∷ ks) ns e =
    let same : k.column ≡ c = cc in
    let rest : cols ks ≡ ns = cc in
    let test : (k.column == c) ≡ true = grind (arith, nat_tests) in
    ap (λ v. c ∷ cols (if v then ks else k ∷ ks)) test ∙ ap (λ (ns : List ℕ). c ∷ ns) rest

entered_anew : (c : ℕ) (cs : List OpenColumn) (ns : List ℕ) → cols cs ≡ ns → bound ns ≤ c
    → cols (entered_columns c cs) ≡ c ∷ ns
unfolding entered_columns
entered_anew c [] ns e h = ap (λ (ns : List ℕ). c ∷ ns) e
entered_anew c (k ∷ ks) ns e h =
    let less : suc k.column ≤ c = subst (λ (ns : List ℕ). bound ns ≤ c) (sym e) h in
    let test : (k.column == c) ≡ false = grind (arith, nat_tests) in
    ap (λ v. c ∷ cols (if v then ks else k ∷ ks)) test ∙ ap (λ (ns : List ℕ). c ∷ ns) e

pub entered_map : {limit c : ℕ} {ds cs : List ℕ} (columns : List OpenColumn) → cols columns ≡ up_to c ds
    → Enters limit c ds cs → cols (entered_columns c columns) ≡ c ∷ cs
entered_map {c = c} {cs = cs} columns e (again f) = entered_again c columns cs (e ∙ f)
entered_map {c = c} {cs = cs} columns e (anew f h r) = entered_anew c columns cs (e ∙ f) h

abbrev RoomIn : ℕ → ℕ → List OpenColumn → Type 0
RoomIn limit n columns =
    ((c : OpenColumn) × (cs : List OpenColumn) × (columns ≡ c ∷ cs) × (c.column ≡ n)) ⊎ (length columns < limit)

room_again : (limit c : ℕ) (cs : List OpenColumn) (ns : List ℕ) → cols cs ≡ c ∷ ns → RoomIn limit c cs
room_again limit c [] ns e = absurd cc
room_again limit c (k ∷ ks) ns e = inl (k, ks, refl, cc)

pub room_in : {limit c : ℕ} {ds cs : List ℕ} (columns : List OpenColumn) → cols columns ≡ up_to c ds
    → Enters limit c ds cs → RoomIn limit c columns
room_in {limit = limit} {c = c} {cs = cs} columns e (again f) = room_again limit c columns cs (e ∙ f)
room_in {limit = limit} {c = c} {cs = cs} columns e (anew f h r) =
    let same : length (cols columns) ≡ length cs = ap (length {A = ℕ}) (e ∙ f) in
    let long = columns_length columns in
    inr (omega (arith, same, long, r))
