-- Generated trees fit, and are no deeper than their levels: the anchors before a node are those that were counted.
use Rattle.std.proofs.Common.{◌≡◌, ◌≢◌, ℕ, zero, suc, ◌+◌, ◌-◌, ◌/◌, ◌%◌, ◌<◌, ◌≤◌, ◌==◌, ◌&&◌, nat_lt, Bool, true}
use Rattle.std.proofs.Common.{false, if◌then◌else◌, List, [], ◌∷◌, ◌++◌, length, Some, None, Contains}
use Rattle.std.proofs.Common.{refl, sym, ap, ◌∙◌}
use Rattle.std.proofs.Common.{subst, arith, codes, decimal}
use Rattle.std.specs.Fmt.{digits, digits_onto, digit_glyph}
use Rattle.std.specs.List.{list_all, slice_index_or}
use Rattle.std.proofs.Math.Nat.{mod-lt}
use Rattle.std.proofs.lemmas.Bool.Decides.{nat_tests}
use Rattle.std.proofs.lemmas.Bool.{and_parts, and_from}
use Rattle.std.proofs.lemmas.List.Sums.{AllPass-from_list_all}
use Rattle.granit_base.specs.Classes.{is_anchor_char, is_yaml_non_space, is_yaml_non_break, is_printable, is_break}
use Rattle.granit_base.specs.Classes.{is_blank, is_flow, is_bom}
use Rattle.granit_model.specs.Tree.{Properties, PlainTree, PlainTrees, PlainPairs, NoTrees, AfterTrees, with_anchor}
use Rattle.granit_model.specs.Tree.{behind_tree, behind_trees, behind_pairs, IsAnchorName, PropertiesFit, TreeFits}
use Rattle.granit_model.specs.Tree.{TreesFit, PairsFit, DocumentsFit, tree_depth, trees_depth, pairs_depth}
use Rattle.granit_generator.specs.Generator.{Draws, Made, made, draw, anchor_name, Beginning, AliasTo, NodeWith}
use Rattle.granit_generator.specs.Generator.{only_tagged, without_properties, alias_begun, anchored_begun, beginning}
use Rattle.granit_generator.specs.Generator.{draw_beginning, letters, scalar_made, entries_made, pairs_made}
use Rattle.granit_generator.specs.Generator.{sequence_made, mapping_made, Shape, IsScalar, IsSequence, IsMapping, shape}
use Rattle.granit_generator.specs.Generator.{shape_made, drawn_node, begun_node, content_made, no_anchors}
use Rattle.granit_generator.specs.Generator.{documents_made}

-- a digit may stand in an anchor's name
digit_passes : (d : ℕ) → d < 10 → is_anchor_char (digit_glyph false d) ≡ true
unfolding is_anchor_char is_yaml_non_space is_yaml_non_break is_printable is_break is_blank is_flow is_bom
digit_passes zero h = refl
digit_passes (suc zero) h = refl
digit_passes (suc (suc zero)) h = refl
digit_passes (suc (suc (suc zero))) h = refl
digit_passes (suc (suc (suc (suc zero)))) h = refl
digit_passes (suc (suc (suc (suc (suc zero))))) h = refl
digit_passes (suc (suc (suc (suc (suc (suc zero)))))) h = refl
digit_passes (suc (suc (suc (suc (suc (suc (suc zero))))))) h = refl
digit_passes (suc (suc (suc (suc (suc (suc (suc (suc zero)))))))) h = refl
digit_passes (suc (suc (suc (suc (suc (suc (suc (suc (suc zero))))))))) h = refl
digit_passes (suc (suc (suc (suc (suc (suc (suc (suc (suc (suc d)))))))))) h = absurd (omega (arith, h))

n_passes : is_anchor_char 110 ≡ true
unfolding is_anchor_char is_yaml_non_space is_yaml_non_break is_printable is_break is_blank is_flow is_bom
n_passes = refl

-- what holds of both sides of a choice
both : {A : Type 0} (P : A → Type 0) (b : Bool) (x y : A) → (b ≡ true → P x) → (b ≡ false → P y)
    → P (if b then x else y)
both P true x y h k = h refl
both P false x y h k = k refl

last_passes : (n : ℕ) → is_anchor_char (digit_glyph false (n % 10)) ≡ true
last_passes n = digit_passes (n % 10) (mod-lt n (omega arith))

digits_pass : (k n : ℕ) (acc : List ℕ) → list_all is_anchor_char acc ≡ true
    → list_all is_anchor_char (digits_onto k 10 false n acc) ≡ true
digits_pass zero n acc h = h
digits_pass (suc k) n acc h =
    let more : list_all is_anchor_char (digit_glyph false (n % 10) ∷ acc) ≡ true = and_from _ _ (last_passes n) h in
    both (λ cs. list_all is_anchor_char cs ≡ true) (n / 10 == 0) (digit_glyph false (n % 10) ∷ acc)
    (digits_onto k 10 false (n / 10) (digit_glyph false (n % 10) ∷ acc)) (λ e. more)
    (λ e. digits_pass k (n / 10) (digit_glyph false (n % 10) ∷ acc) more)

name_fits : (n : ℕ) → IsAnchorName (anchor_name n)
unfolding digits
name_fits n = (
  (λ e. cc),
  AllPass-from_list_all is_anchor_char (anchor_name n) (and_from _ _ n_passes (digits_pass 64 n [] refl)),
)

-- the names of the anchors that a document has, the newest first
abbrev names : ℕ → List (List ℕ)
names zero = []
names (suc n) = anchor_name (suc n) ∷ names n

names_counted : (n : ℕ) → length (names n) ≡ n
names_counted zero = refl
names_counted (suc n) = ap suc (names_counted n)

names_at : (n i : ℕ) (x : List ℕ) → i < n → slice_index_or (names n) i x ≡ anchor_name (n - i)
names_at zero i x h = absurd (omega (arith, h))
names_at (suc n) zero x h = let e : suc n ≡ suc n - 0 = omega arith in ap anchor_name e
names_at (suc n) (suc i) x h =
    let e : n - i ≡ suc n - suc i = omega arith in names_at n i x (omega (arith, h)) ∙ ap anchor_name e

names_contain : (n k : ℕ) → k < n → Contains (names n) (anchor_name (k + 1))
names_contain n k h =
    let i = n - (k + 1) in
    let e : n - i ≡ k + 1 = omega (arith, h) in (
      i,
      omega (arith, h, names_counted n),
      names_at n i (anchor_name (k + 1)) (omega (arith, h)) ∙ ap anchor_name e,
    )

names_more : (n : ℕ) → anchor_name (n + 1) ∷ names n ≡ names (n + 1)
names_more n = let e : suc n ≡ n + 1 = omega arith in ap (λ m. anchor_name m ∷ names n) (sym e) ∙ ap names e

-- a draw makes no anchor
draw_keeps : (b : ℕ) (s : Draws) → (draw b s).draws.anchors ≡ s.anchors
unfolding draw
draw_keeps b s = refl

draw_below : (b : ℕ) (s : Draws) → 0 < b → (draw b s).value < b
unfolding draw
draw_below b s h = mod-lt _ h

-- how a node begins: with an alias of an anchor before it, or with properties that fit
abbrev Begins : (before : ℕ) → Beginning → (after : Draws) → Type 0
Begins a (AliasTo name) s = Contains (names a) name × (s.anchors ≡ a)
Begins a (NodeWith p) s = PropertiesFit p × (with_anchor p.anchor (names a) ≡ names s.anchors)

abbrev BeginsAs : (before : ℕ) → Made Beginning → Type 0
BeginsAs a m = Begins a m.value m.draws

begins_alias : (s : Draws) → 0 < s.anchors → BeginsAs s.anchors (alias_begun s)
begins_alias s h =
    (names_contain s.anchors (draw s.anchors s).value (draw_below s.anchors s h), draw_keeps s.anchors s)

begins_anchored : (s : Draws) → BeginsAs s.anchors (anchored_begun s)
begins_anchored s = ((tt, name_fits (s.anchors + 1)), names_more s.anchors)

begins_tagged : (s : Draws) → BeginsAs s.anchors (made (NodeWith only_tagged) s)
begins_tagged s = (((λ e. cc), tt), refl)

some_anchors : (n a : ℕ) → (n == 0 && nat_lt 0 a) ≡ true → 0 < a
some_anchors n a e = let f = (and_parts (n == 0) (nat_lt 0 a) e).1 in grind (arith, nat_tests)

beginning_fits : (n : ℕ) (s : Draws) → BeginsAs s.anchors (beginning n s)
unfolding beginning
beginning_fits n s =
    both (BeginsAs s.anchors) (n == 0 && nat_lt 0 s.anchors) (alias_begun s) _
    (λ e. begins_alias s (some_anchors n s.anchors e))
    (λ e. both (BeginsAs s.anchors) (n == 1) (anchored_begun s) _ (λ f. begins_anchored s)
    (λ f. both (BeginsAs s.anchors) (n == 2) (made (NodeWith only_tagged) s) (made (NodeWith without_properties) s)
    (λ g. begins_tagged s) (λ g. ((tt, tt), refl))))

begin_fits : (s : Draws) → BeginsAs s.anchors (draw_beginning s)
begin_fits s = let m = draw 16 s in
    subst (λ a. BeginsAs a (draw_beginning s)) (draw_keeps 16 s) (beginning_fits m.value m.draws)

-- a tree fits behind so many anchors, and those behind it are counted
abbrev Fits : (before : ℕ) → Made PlainTree → Type 0
Fits a m = TreeFits m.value (names a) × (behind_tree m.value (names a) ≡ names m.draws.anchors)

abbrev NodeFits : (Draws → Made PlainTree) → Type 0
NodeFits node = (s : Draws) → Fits s.anchors (node s)

abbrev ContentFits : (Properties → Draws → Made PlainTree) → Type 0
ContentFits content = (p : Properties) (s : Draws) (a : ℕ) → PropertiesFit p
    → with_anchor p.anchor (names a) ≡ names s.anchors → Fits a (content p s)

letters_keep : (n : ℕ) (s : Draws) → (letters n s).draws.anchors ≡ s.anchors
letters_keep zero s = refl
letters_keep (suc n) s = draw_keeps 26 (letters n s).draws ∙ letters_keep n s

scalar_fits : ContentFits scalar_made
scalar_fits p s a h w =
    let m = draw 8 s in (h, w ∙ ap names (sym (letters_keep m.value m.draws ∙ draw_keeps 8 s)))

entries_fit :
    (node : Draws → Made PlainTree) → NodeFits node → (n : ℕ) (s : Draws) → let m = entries_made node n s in
    TreesFit m.value (names s.anchors) × (behind_trees m.value (names s.anchors) ≡ names m.draws.anchors)
entries_fit node h zero s = (tt, refl)
entries_fit node h (suc n) s =
    let before = entries_made node n s in
    let fit = entries_fit node h n s in
    let entry = node before.draws in
    let last = h before.draws in (
      (fit.0, subst (TreeFits entry.value) (sym fit.1) last.0),
      ap (behind_tree entry.value) fit.1 ∙ last.1,
    )

pairs_fit :
    (node : Draws → Made PlainTree) → NodeFits node → (n : ℕ) (s : Draws) → let m = pairs_made node n s in
    PairsFit m.value (names s.anchors) × (behind_pairs m.value (names s.anchors) ≡ names m.draws.anchors)
pairs_fit node h zero s = (tt, refl)
pairs_fit node h (suc n) s =
    let before = pairs_made node n s in
    let fit = pairs_fit node h n s in
    let key = node before.draws in
    let value = node key.draws in
    let of_key = h before.draws in
    let of_value = h key.draws in
    let behind_key = ap (behind_tree key.value) fit.1 ∙ of_key.1 in (
      (
        fit.0,
        subst (TreeFits key.value) (sym fit.1) of_key.0,
        subst (TreeFits value.value) (sym behind_key) of_value.0,
      ),
      ap (behind_tree value.value) behind_key ∙ of_value.1,
    )

sequence_fits : (node : Draws → Made PlainTree) → NodeFits node → ContentFits (sequence_made node)
sequence_fits node h p s a fit w =
    let count = draw 4 s in
    let entries = entries_fit node h count.value count.draws in
    let list = (entries_made node count.value count.draws).value in
    let here = ap names (draw_keeps 4 s) ∙ sym w in
    ((fit, subst (TreesFit list) here entries.0), ap (behind_trees list) (sym here) ∙ entries.1)

mapping_fits : (node : Draws → Made PlainTree) → NodeFits node → ContentFits (mapping_made node)
mapping_fits node h p s a fit w =
    let count = draw 4 s in
    let pairs = pairs_fit node h count.value count.draws in
    let list = (pairs_made node count.value count.draws).value in
    let here = ap names (draw_keeps 4 s) ∙ sym w in
    ((fit, subst (PairsFit list) here pairs.0), ap (behind_pairs list) (sym here) ∙ pairs.1)

shape_fits : (f : Shape) (node : Draws → Made PlainTree) → NodeFits node → ContentFits (shape_made f node)
shape_fits IsScalar node h p s a fit w = scalar_fits p s a fit w
shape_fits IsSequence node h p s a fit w = sequence_fits node h p s a fit w
shape_fits IsMapping node h p s a fit w = mapping_fits node h p s a fit w

begun_fits :
    (content : ℕ → Properties → Draws → Made PlainTree) → ((n : ℕ) → ContentFits (content n))
    → (b : Beginning) (s : Draws) (a : ℕ) → Begins a b s → Fits a (drawn_node content b s)
begun_fits content h (AliasTo name) s a begins = (begins.0, ap names (sym begins.1))
begun_fits content h (NodeWith p) s a begins =
    let m = draw 8 s in h m.value p m.draws a begins.0 (begins.1 ∙ ap names (sym (draw_keeps 8 s)))

node_fits : (content : ℕ → Properties → Draws → Made PlainTree) → ((n : ℕ) → ContentFits (content n))
    → NodeFits (begun_node content)
node_fits content h s = begun_fits content h (draw_beginning s).value (draw_beginning s).draws s.anchors (begin_fits s)

content_fits : (l n : ℕ) (p : Properties) (s : Draws) (a : ℕ) → PropertiesFit p
    → with_anchor p.anchor (names a) ≡ names s.anchors → Fits a (content_made l n p s)
unfolding content_made
content_fits zero n p s a fit w = scalar_fits p s a fit w
content_fits (suc l) n p s a fit w =
    shape_fits (shape n) (begun_node (content_made l)) (node_fits (content_made l) (content_fits l)) p s a fit w

pub documents_fit : (n : ℕ) (s : Draws) → DocumentsFit (documents_made n s).value
documents_fit zero s = tt
documents_fit (suc n) s =
    (documents_fit n s, (node_fits (content_made 6) (content_fits 6) (no_anchors (documents_made n s).draws)).0)

-- a node is no deeper than its levels
abbrev AtMost : ℕ → (Draws → Made PlainTree) → Type 0
AtMost l node = (s : Draws) → tree_depth (node s).value ≤ l

entries_depth : (node : Draws → Made PlainTree) (l : ℕ) → AtMost l node → (n : ℕ) (s : Draws)
    → trees_depth (entries_made node n s).value ≤ l
entries_depth node l h zero s = omega arith
entries_depth node l h (suc n) s =
    omega (arith, entries_depth node l h n s, h (entries_made node n s).draws)

pairs_depth_of : (node : Draws → Made PlainTree) (l : ℕ) → AtMost l node → (n : ℕ) (s : Draws)
    → pairs_depth (pairs_made node n s).value ≤ l
pairs_depth_of node l h zero s = omega arith
pairs_depth_of node l h (suc n) s =
    let before = pairs_made node n s in
    omega (arith, pairs_depth_of node l h n s, h before.draws, h (node before.draws).draws)

shape_depth : (f : Shape) (node : Draws → Made PlainTree) (l : ℕ) → AtMost l node → (p : Properties) (s : Draws)
    → tree_depth (shape_made f node p s).value ≤ suc l
shape_depth IsScalar node l h p s = omega arith
shape_depth IsSequence node l h p s =
    let count = draw 4 s in omega (arith, entries_depth node l h count.value count.draws)
shape_depth IsMapping node l h p s =
    let count = draw 4 s in omega (arith, pairs_depth_of node l h count.value count.draws)

begun_depth :
    (content : ℕ → Properties → Draws → Made PlainTree) (l : ℕ)
    → ((n : ℕ) (p : Properties) (s : Draws) → tree_depth (content n p s).value ≤ l)
    → (b : Beginning) (s : Draws) → tree_depth (drawn_node content b s).value ≤ l
begun_depth content l h (AliasTo name) s = omega arith
begun_depth content l h (NodeWith p) s = let m = draw 8 s in h m.value p m.draws

content_depth : (l n : ℕ) (p : Properties) (s : Draws) → tree_depth (content_made l n p s).value ≤ l
unfolding content_made
content_depth zero n p s = omega arith
content_depth (suc l) n p s =
    shape_depth (shape n) (begun_node (content_made l)) l
    (λ s'. begun_depth (content_made l) l (content_depth l) (draw_beginning s').value (draw_beginning s').draws) p s

pub documents_depth : (n : ℕ) (s : Draws) → trees_depth (documents_made n s).value ≤ 6
documents_depth zero s = omega arith
documents_depth (suc n) s =
    let start = no_anchors (documents_made n s).draws in
    omega (
      arith,
      documents_depth n s,
      begun_depth (content_made 6) 6 (content_depth 6) (draw_beginning start).value (draw_beginning start).draws,
    )
