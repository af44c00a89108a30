-- One more letter, entry, pair or document, and the content of a level.
use Rattle.std.proofs.Common.{◌≡◌, ◌≢◌, ℕ, zero, suc, ◌+◌, ◌-◌, List, [], ◌∷◌, ◌++◌, refl, ap, ◌∙◌, sym, arith}
use Rattle.granit_model.specs.Tree.{Properties, PlainTree, PlainTrees, AfterTrees, PlainPairs, AfterPairs}
use Rattle.granit_generator.specs.Generator.{Draws, Made, letter, letters, entries_made, pairs_made, documents_made}
use Rattle.granit_generator.specs.Generator.{no_anchors, node_made, content_made, scalar_made, shape, shape_made}

next : (n : ℕ) → n + 1 ≡ suc n
next n = omega arith

pub letters_next :
    (n : ℕ) (s : Draws) → let before = letters n s in
    ((letters (n + 1) s).value ≡ before.value ++ (letter before.draws).value ∷ [])
    × ((letters (n + 1) s).draws ≡ (letter before.draws).draws)
letters_next n s = (ap (λ k. (letters k s).value) (next n), ap (λ k. (letters k s).draws) (next n))

pub entries_next :
    (node : Draws → Made PlainTree) (n : ℕ) (s : Draws) → let before = entries_made node n s in
    ((entries_made node (n + 1) s).value ≡ AfterTrees before.value (node before.draws).value)
    × ((entries_made node (n + 1) s).draws ≡ (node before.draws).draws)
entries_next node n s =
    (ap (λ k. (entries_made node k s).value) (next n), ap (λ k. (entries_made node k s).draws) (next n))

pub pairs_next :
    (node : Draws → Made PlainTree) (n : ℕ) (s : Draws) → let before = pairs_made node n s in
    let key = node before.draws in let value = node key.draws in
    ((pairs_made node (n + 1) s).value ≡ AfterPairs before.value key.value value.value)
    × ((pairs_made node (n + 1) s).draws ≡ value.draws)
pairs_next node n s =
    (ap (λ k. (pairs_made node k s).value) (next n), ap (λ k. (pairs_made node k s).draws) (next n))

pub documents_next :
    (n : ℕ) (s : Draws) → let before = documents_made n s in let root = node_made 6 (no_anchors before.draws) in
    ((documents_made (n + 1) s).value ≡ AfterTrees before.value root.value)
    × ((documents_made (n + 1) s).draws ≡ root.draws)
documents_next n s = (ap (λ k. (documents_made k s).value) (next n), ap (λ k. (documents_made k s).draws) (next n))

-- at the last level all content is scalars
pub content_leaf : (l n : ℕ) (p : Properties) (s : Draws) → l ≡ 0 → content_made l n p s ≡ scalar_made p s
unfolding content_made
content_leaf zero n p s h = refl
content_leaf (suc l) n p s h = absurd (omega (arith, h))

pub content_above : (l n : ℕ) (p : Properties) (s : Draws) → l ≢ 0
    → content_made l n p s ≡ shape_made (shape n) (node_made (l - 1)) p s
unfolding content_made
content_above zero n p s h = absurd (h refl)
content_above (suc l) n p s h =
    let e : l ≡ suc l - 1 = omega arith in ap (λ k. shape_made (shape n) (node_made k) p s) e
