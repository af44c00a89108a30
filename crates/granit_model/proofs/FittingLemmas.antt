-- Each alias names an anchor that stands before it, exactly where the first mention of each alias's name in its
-- document is an anchor.
use Rattle.std.proofs.Common.{◌≡◌, ◌≢◌, ℕ, ◌==◌, Bool, true, false, not, ◌&&◌, ◌||◌, List, [], ◌∷◌, length, Option}
use Rattle.std.proofs.Common.{Some, None, IfSome, Contains, refl, sym, ap, ◌∙◌, subst, arith, eqb-true, eq-eqb}
use Rattle.std.specs.List.{list_any, list_all, slice_index_or}
use Rattle.std.proofs.lemmas.List.Folds.{Any-from_list_any}
use Rattle.std.proofs.lemmas.List.Sums.{AllPass-from_list_all, list_all-from_AllPass}
use Rattle.std.proofs.lemmas.Map.Views.{list_any-from_Contains}
use Rattle.std.proofs.lemmas.Cmp.{nat_list_eq_equiv}
use Rattle.std.proofs.lemmas.Bool.Decides.{nat_tests}
use Rattle.std.proofs.lemmas.Bool.{and_parts, and_from}
use mathlib.Core.Bool.{true≢false}
use lib.Pointwise.{pointwise_decides}
use Rattle.granit_base.specs.Classes.{is_anchor_char}
use Rattle.granit_base.specs.Written.{same_text}
use Rattle.granit_model.specs.declared.fitting.Mention.{Mention}
use Rattle.granit_model.specs.declared.fitting.Mention.TheVariants.{Anchor, Alias}
use Rattle.granit_model.specs.Tree.{Properties, PlainTree, AliasOf, ScalarOf, SequenceOf, MappingOf, PlainTrees}
use Rattle.granit_model.specs.Tree.{NoTrees, AfterTrees, PlainPairs, NoPairs, AfterPairs, with_anchor, behind_tree}
use Rattle.granit_model.specs.Tree.{behind_trees, behind_pairs, IsAnchorName, PropertiesFit, TreeFits, TreesFit}
use Rattle.granit_model.specs.Tree.{PairsFit, DocumentsFit}
use Rattle.granit_model.specs.FirstMention.{or_else, mention_as, anchor_mention, mention_in_tree}
use Rattle.granit_model.specs.FirstMention.{mention_in_trees, mention_in_pairs, by_anchor, is_anchor_name, tag_fits}
use Rattle.granit_model.specs.FirstMention.{anchor_fits, properties_fit, tree_fits, trees_fit, pairs_fit, documents_fit}

-- what of a tree its fitting speaks of, in the order of the document
data Mark : Type 0 where
  TagAt AnchorAt AliasAt : List ℕ → Mark

abbrev tag_marks : Option (List ℕ) → List Mark → List Mark
tag_marks None rest = rest
tag_marks (Some tag) rest = TagAt tag ∷ rest

abbrev anchor_marks : Option (List ℕ) → List Mark → List Mark
anchor_marks None rest = rest
anchor_marks (Some name) rest = AnchorAt name ∷ rest

abbrev mutual
  marks : PlainTree → List Mark → List Mark
  marks (AliasOf name) rest = AliasAt name ∷ rest
  marks (ScalarOf p text) rest = tag_marks p.tag (anchor_marks p.anchor rest)
  marks (SequenceOf p entries) rest = tag_marks p.tag (anchor_marks p.anchor (marks_of_trees entries rest))
  marks (MappingOf p pairs) rest = tag_marks p.tag (anchor_marks p.anchor (marks_of_pairs pairs rest))

  marks_of_trees : PlainTrees → List Mark → List Mark
  marks_of_trees NoTrees rest = rest
  marks_of_trees (AfterTrees ts t) rest = marks_of_trees ts (marks t rest)

  marks_of_pairs : PlainPairs → List Mark → List Mark
  marks_of_pairs NoPairs rest = rest
  marks_of_pairs (AfterPairs ps k v) rest = marks_of_pairs ps (marks k (marks v rest))

-- the first mention of a name
abbrev first : List ℕ → List Mark → Option Mention
first n [] = None
first n (TagAt tag ∷ ms) = first n ms
first n (AnchorAt a ∷ ms) = or_else (mention_as Anchor (same_text a n)) (first n ms)
first n (AliasAt a ∷ ms) = or_else (mention_as Alias (same_text a n)) (first n ms)

or_else_or_else : (a b c : Option Mention) → or_else (or_else a b) c ≡ or_else a (or_else b c)
or_else_or_else None b c = refl
or_else_or_else (Some m) b c = refl

or_else_none : (a : Option Mention) → or_else a None ≡ a
or_else_none None = refl
or_else_none (Some m) = refl

first_past_tag : (n : List ℕ) (o : Option (List ℕ)) (rest : List Mark) → first n (tag_marks o rest) ≡ first n rest
first_past_tag n None rest = refl
first_past_tag n (Some tag) rest = refl

first_past_anchor : (n : List ℕ) (o : Option (List ℕ)) (rest : List Mark)
    → first n (anchor_marks o rest) ≡ or_else (anchor_mention n o) (first n rest)
first_past_anchor n None rest = refl
first_past_anchor n (Some a) rest = refl

first_past_properties :
    (n : List ℕ) (p : Properties) (rest : List Mark)
    → first n (tag_marks p.tag (anchor_marks p.anchor rest)) ≡ or_else (anchor_mention n p.anchor) (first n rest)
first_past_properties n p rest = first_past_tag n p.tag (anchor_marks p.anchor rest) ∙ first_past_anchor n p.anchor rest

mutual
  first_in_tree : (n : List ℕ) (t : PlainTree) (rest : List Mark)
      → first n (marks t rest) ≡ or_else (mention_in_tree n t) (first n rest)
  first_in_tree n (AliasOf name) rest = refl
  first_in_tree n (ScalarOf p text) rest = first_past_properties n p rest
  first_in_tree n (SequenceOf p entries) rest =
      first_past_properties n p (marks_of_trees entries rest)
      ∙ ap (or_else (anchor_mention n p.anchor)) (first_in_trees n entries rest)
      ∙ sym (or_else_or_else (anchor_mention n p.anchor) (mention_in_trees n entries) (first n rest))
  first_in_tree n (MappingOf p pairs) rest =
      first_past_properties n p (marks_of_pairs pairs rest)
      ∙ ap (or_else (anchor_mention n p.anchor)) (first_in_pairs n pairs rest)
      ∙ sym (or_else_or_else (anchor_mention n p.anchor) (mention_in_pairs n pairs) (first n rest))

  first_in_trees : (n : List ℕ) (ts : PlainTrees) (rest : List Mark)
      → first n (marks_of_trees ts rest) ≡ or_else (mention_in_trees n ts) (first n rest)
  first_in_trees n NoTrees rest = refl
  first_in_trees n (AfterTrees ts t) rest =
      first_in_trees n ts (marks t rest) ∙ ap (or_else (mention_in_trees n ts)) (first_in_tree n t rest)
      ∙ sym (or_else_or_else (mention_in_trees n ts) (mention_in_tree n t) (first n rest))

  first_in_pairs : (n : List ℕ) (ps : PlainPairs) (rest : List Mark)
      → first n (marks_of_pairs ps rest) ≡ or_else (mention_in_pairs n ps) (first n rest)
  first_in_pairs n NoPairs rest = refl
  first_in_pairs n (AfterPairs ps k v) rest =
      first_in_pairs n ps (marks k (marks v rest))
      ∙ ap (or_else (mention_in_pairs n ps))
      (first_in_tree n k (marks v rest) ∙ ap (or_else (mention_in_tree n k)) (first_in_tree n v rest)
      ∙ sym (or_else_or_else (mention_in_tree n k) (mention_in_tree n v) (first n rest)))
      ∙ sym (or_else_or_else (mention_in_pairs n ps) (or_else (mention_in_tree n k) (mention_in_tree n v))
      (first n rest))

-- each mark passes, where a test of names stands for what aliases need
abbrev pass : (List ℕ → Bool) → List Mark → Bool
pass P [] = true
pass P (TagAt tag ∷ ms) = not (length tag == 0) && pass P ms
pass P (AnchorAt a ∷ ms) = is_anchor_name a && pass P ms
pass P (AliasAt a ∷ ms) = P a && pass P ms

and_and : (a b c : Bool) → ((a && b) && c) ≡ (a && (b && c))
and_and true b c = refl
and_and false b c = refl

and_true : (a : Bool) → (a && true) ≡ a
and_true true = refl
and_true false = refl

pass_alike : (P Q : List ℕ → Bool) (ms : List Mark) → ((n : List ℕ) → P n ≡ Q n) → pass P ms ≡ pass Q ms
pass_alike P Q ms h = ap (λ R. pass R ms) (λ i n. h n i)

module _ (root : PlainTree) where
  abbrev named_first : List ℕ → Bool
  named_first n = by_anchor (mention_in_tree n root)

  pass_tag : (o : Option (List ℕ)) (rest : List Mark)
      → pass named_first (tag_marks o rest) ≡ (tag_fits o && pass named_first rest)
  pass_tag None rest = refl
  pass_tag (Some tag) rest = refl

  pass_anchor : (o : Option (List ℕ)) (rest : List Mark)
      → pass named_first (anchor_marks o rest) ≡ (anchor_fits o && pass named_first rest)
  pass_anchor None rest = refl
  pass_anchor (Some a) rest = refl

  pass_properties : (p : Properties) (rest : List Mark)
      → pass named_first (tag_marks p.tag (anchor_marks p.anchor rest)) ≡ (properties_fit p && pass named_first rest)
  pass_properties p rest =
      pass_tag p.tag (anchor_marks p.anchor rest) ∙ ap (λ b. tag_fits p.tag && b) (pass_anchor p.anchor rest)
      ∙ sym (and_and (tag_fits p.tag) (anchor_fits p.anchor) (pass named_first rest))

  mutual
    pass_tree : (t : PlainTree) (rest : List Mark)
        → pass named_first (marks t rest) ≡ (tree_fits t root && pass named_first rest)
    pass_tree (AliasOf name) rest = refl
    pass_tree (ScalarOf p text) rest = pass_properties p rest
    pass_tree (SequenceOf p entries) rest =
        pass_properties p (marks_of_trees entries rest) ∙ ap (λ b. properties_fit p && b) (pass_trees entries rest)
        ∙ sym (and_and (properties_fit p) (trees_fit entries root) (pass named_first rest))
    pass_tree (MappingOf p pairs) rest =
        pass_properties p (marks_of_pairs pairs rest) ∙ ap (λ b. properties_fit p && b) (pass_pairs pairs rest)
        ∙ sym (and_and (properties_fit p) (pairs_fit pairs root) (pass named_first rest))

    pass_trees : (ts : PlainTrees) (rest : List Mark)
        → pass named_first (marks_of_trees ts rest) ≡ (trees_fit ts root && pass named_first rest)
    pass_trees NoTrees rest = refl
    pass_trees (AfterTrees ts t) rest =
        pass_trees ts (marks t rest) ∙ ap (λ b. trees_fit ts root && b) (pass_tree t rest)
        ∙ sym (and_and (trees_fit ts root) (tree_fits t root) (pass named_first rest))

    pass_pairs : (ps : PlainPairs) (rest : List Mark)
        → pass named_first (marks_of_pairs ps rest) ≡ (pairs_fit ps root && pass named_first rest)
    pass_pairs NoPairs rest = refl
    pass_pairs (AfterPairs ps k v) rest =
        pass_pairs ps (marks k (marks v rest))
        ∙ ap (λ b. pairs_fit ps root && b)
        (pass_tree k (marks v rest) ∙ ap (λ b. tree_fits k root && b) (pass_tree v rest)
        ∙ sym (and_and (tree_fits k root) (tree_fits v root) (pass named_first rest)))
        ∙ sym (and_and (pairs_fit ps root) (tree_fits k root && tree_fits v root) (pass named_first rest))

-- the same, where an alias's name must be among the known ones
abbrev has : List ℕ → List (List ℕ) → Bool
has n known = list_any (same_text n) known

abbrev fit : List (List ℕ) → List Mark → Bool
fit known [] = true
fit known (TagAt tag ∷ ms) = not (length tag == 0) && fit known ms
fit known (AnchorAt a ∷ ms) = is_anchor_name a && fit (a ∷ known) ms
fit known (AliasAt a ∷ ms) = has a known && fit known ms

same_decides : (a b : List ℕ) → (same_text a b ≡ true → a ≡ b) × (a ≡ b → same_text a b ≡ true)
same_decides = pointwise_decides (λ x y. (eqb-true x y, eq-eqb x y))

abbrev known_or_first : List (List ℕ) → List Mark → List ℕ → Bool
known_or_first known ms n = has n known || by_anchor (first n ms)

or_true : (h : Bool) → true ≡ (h || true)
or_true true = refl
or_true false = refl

-- a name that is an anchor's passes before the anchor as behind it
joined_anchor : (s t h : Bool) (f : Option Mention) → t ≡ s
    → ((t || h) || by_anchor f) ≡ (h || by_anchor (or_else (mention_as Anchor s) f))
joined_anchor true t h f e = rw e (or_true h)
joined_anchor false t h f e = rw e refl

joined_alias : (s h : Bool) (f : Option Mention) → (s ≡ true → h ≡ true)
    → (h || by_anchor f) ≡ (h || by_anchor (or_else (mention_as Alias s) f))
joined_alias s true f e = refl
joined_alias true false f e = absurd (true≢false (sym (e refl)))
joined_alias false false f e = refl

-- a name is known, or its first mention is no anchor: that of an alias is itself
alias_itself : (s h : Bool) (f : Option Mention) → s ≡ true → (h || by_anchor (or_else (mention_as Alias s) f)) ≡ h
alias_itself s true f e = refl
alias_itself s false f e = rw e refl

under : (h a b : Bool) → (h ≡ true → a ≡ b) → (h && a) ≡ (h && b)
under true a b f = f refl
under false a b f = refl

fit_is_pass : (known : List (List ℕ)) (ms : List Mark) → fit known ms ≡ pass (known_or_first known ms) ms
fit_is_pass known [] = refl
fit_is_pass known (TagAt tag ∷ ms) = ap (λ b. not (length tag == 0) && b) (fit_is_pass known ms)
fit_is_pass known (AnchorAt a ∷ ms) =
    ap (λ b. is_anchor_name a && b)
    (fit_is_pass (a ∷ known) ms
    ∙ pass_alike (known_or_first (a ∷ known) ms) (known_or_first known (AnchorAt a ∷ ms)) ms
    (λ n. joined_anchor (same_text a n) (same_text n a) (has n known) (first n ms) (nat_list_eq_equiv.symm n a)))
fit_is_pass known (AliasAt a ∷ ms) =
    let later : has a known ≡ true → fit known ms ≡ pass (known_or_first known (AliasAt a ∷ ms)) ms =
    λ h. fit_is_pass known ms
    ∙ pass_alike (known_or_first known ms) (known_or_first known (AliasAt a ∷ ms)) ms
    (λ n. joined_alias (same_text a n) (has n known) (first n ms)
    (λ e. subst (λ m. has m known ≡ true) ((same_decides a n).0 e) h)) in
    under (has a known) (fit known ms) (pass (known_or_first known (AliasAt a ∷ ms)) ms) later
    ∙ ap (λ b. b && pass (known_or_first known (AliasAt a ∷ ms)) ms)
    (sym (alias_itself (same_text a a) (has a known) (first a ms) (nat_list_eq_equiv.refl a)))

-- the test of a document
document_fits : (t : PlainTree) → fit [] (marks t []) ≡ tree_fits t t
document_fits t =
    fit_is_pass [] (marks t [])
    ∙ pass_alike (known_or_first [] (marks t [])) (named_first t) (marks t [])
    (λ n. ap by_anchor (first_in_tree n t [] ∙ or_else_none (mention_in_tree n t)))
    ∙ pass_tree t t [] ∙ and_true (tree_fits t t)

-- what passes the tests fits, and the other way round
not_empty : (xs : List ℕ) → not (length xs == 0) ≡ true → xs ≢ []
not_empty [] h e = true≢false (sym h)
not_empty (x ∷ xs) h e = omega (arith, ap length e)

test_not_empty : (xs : List ℕ) → xs ≢ [] → not (length xs == 0) ≡ true
test_not_empty [] h = absurd (h refl)
test_not_empty (x ∷ xs) h = grind (arith, nat_tests)

found_known : (a : List ℕ) (known : List (List ℕ)) → has a known ≡ true → Contains known a
found_known a known h =
    let any = Any-from_list_any (same_text a) known h in
    (any.0, any.2, subst (λ x. slice_index_or known any.0 x ≡ x) (sym ((same_decides a any.1).0 any.4)) any.3)

anchor_named : (a : List ℕ) → is_anchor_name a ≡ true → IsAnchorName a
anchor_named a h =
    let both = and_parts (not (length a == 0)) (list_all is_anchor_char a) h in
    (not_empty a both.0, AllPass-from_list_all is_anchor_char a both.1)

test_anchor : (a : List ℕ) → IsAnchorName a → is_anchor_name a ≡ true
test_anchor a h = and_from (not (length a == 0)) (list_all is_anchor_char a) (test_not_empty a h.0)
    (list_all-from_AllPass is_anchor_char a h.1)

told_tag : (o : Option (List ℕ)) (known : List (List ℕ)) (rest : List Mark) → fit known (tag_marks o rest) ≡ true
    → IfSome o (λ tag. tag ≢ []) × (fit known rest ≡ true)
told_tag None known rest h = (tt, h)
told_tag (Some tag) known rest h = let both = and_parts (not (length tag == 0)) (fit known rest)
    h in (not_empty tag both.0, both.1)

told_anchor : (o : Option (List ℕ)) (known : List (List ℕ)) (rest : List Mark) → fit known (anchor_marks o rest) ≡ true
    → IfSome o IsAnchorName × (fit (with_anchor o known) rest ≡ true)
told_anchor None known rest h = (tt, h)
told_anchor (Some a) known rest h = let both = and_parts (is_anchor_name a) (fit (a ∷ known) rest)
    h in (anchor_named a both.0, both.1)

told_properties :
    (p : Properties) (known : List (List ℕ)) (rest : List Mark)
    → fit known (tag_marks p.tag (anchor_marks p.anchor rest)) ≡ true
    → PropertiesFit p × (fit (with_anchor p.anchor known) rest ≡ true)
told_properties p known rest h =
    let tag = told_tag p.tag known (anchor_marks p.anchor rest) h in
    let anchor = told_anchor p.anchor known rest tag.1 in
    ((tag.0, anchor.0), anchor.1)

mutual
  told_tree : (t : PlainTree) (known : List (List ℕ)) (rest : List Mark) → fit known (marks t rest) ≡ true
      → TreeFits t known × (fit (behind_tree t known) rest ≡ true)
  told_tree (AliasOf name) known rest h = let both = and_parts (has name known) (fit known rest)
      h in (found_known name known both.0, both.1)
  told_tree (ScalarOf p text) known rest h = told_properties p known rest h
  told_tree (SequenceOf p entries) known rest h =
      let own = told_properties p known (marks_of_trees entries rest) h in
      let inner = told_trees entries (with_anchor p.anchor known) rest own.1 in
      ((own.0, inner.0), inner.1)
  told_tree (MappingOf p pairs) known rest h =
      let own = told_properties p known (marks_of_pairs pairs rest) h in
      let inner = told_pairs pairs (with_anchor p.anchor known) rest own.1 in
      ((own.0, inner.0), inner.1)

  told_trees : (ts : PlainTrees) (known : List (List ℕ)) (rest : List Mark) → fit known (marks_of_trees ts rest) ≡ true
      → TreesFit ts known × (fit (behind_trees ts known) rest ≡ true)
  told_trees NoTrees known rest h = (tt, h)
  told_trees (AfterTrees ts t) known rest h =
      let front = told_trees ts known (marks t rest) h in
      let last = told_tree t (behind_trees ts known) rest front.1 in
      ((front.0, last.0), last.1)

  told_pairs : (ps : PlainPairs) (known : List (List ℕ)) (rest : List Mark) → fit known (marks_of_pairs ps rest) ≡ true
      → PairsFit ps known × (fit (behind_pairs ps known) rest ≡ true)
  told_pairs NoPairs known rest h = (tt, h)
  told_pairs (AfterPairs ps k v) known rest h =
      let front = told_pairs ps known (marks k (marks v rest)) h in
      let key = told_tree k (behind_pairs ps known) (marks v rest) front.1 in
      let value = told_tree v (behind_tree k (behind_pairs ps known)) rest key.1 in
      ((front.0, key.0, value.0), value.1)

test_tag : (o : Option (List ℕ)) (known : List (List ℕ)) (rest : List Mark) → IfSome o (λ tag. tag ≢ [])
    → fit known rest ≡ true → fit known (tag_marks o rest) ≡ true
test_tag None known rest h r = r
test_tag (Some tag) known rest h r = and_from (not (length tag == 0)) (fit known rest) (test_not_empty tag h) r

test_anchors : (o : Option (List ℕ)) (known : List (List ℕ)) (rest : List Mark) → IfSome o IsAnchorName
    → fit (with_anchor o known) rest ≡ true → fit known (anchor_marks o rest) ≡ true
test_anchors None known rest h r = r
test_anchors (Some a) known rest h r = and_from (is_anchor_name a) (fit (a ∷ known) rest) (test_anchor a h) r

test_properties :
    (p : Properties) (known : List (List ℕ)) (rest : List Mark)
    → PropertiesFit p → fit (with_anchor p.anchor known) rest ≡ true
    → fit known (tag_marks p.tag (anchor_marks p.anchor rest)) ≡ true
test_properties p known rest h r = test_tag p.tag known (anchor_marks p.anchor rest) h.0
    (test_anchors p.anchor known rest h.1 r)

mutual
  test_tree : (t : PlainTree) (known : List (List ℕ)) (rest : List Mark) → TreeFits t known
      → fit (behind_tree t known) rest ≡ true → fit known (marks t rest) ≡ true
  test_tree (AliasOf name) known rest h r = and_from (has name known) (fit known rest)
      (list_any-from_Contains nat_list_eq_equiv name known h) r
  test_tree (ScalarOf p text) known rest h r = test_properties p known rest h r
  test_tree (SequenceOf p entries) known rest h r =
      test_properties p known (marks_of_trees entries rest) h.0
      (test_trees entries (with_anchor p.anchor known) rest h.1 r)
  test_tree (MappingOf p pairs) known rest h r =
      test_properties p known (marks_of_pairs pairs rest) h.0 (test_pairs pairs (with_anchor p.anchor known) rest h.1 r)

  test_trees : (ts : PlainTrees) (known : List (List ℕ)) (rest : List Mark) → TreesFit ts known
      → fit (behind_trees ts known) rest ≡ true → fit known (marks_of_trees ts rest) ≡ true
  test_trees NoTrees known rest h r = r
  test_trees (AfterTrees ts t) known rest h r = test_trees ts known (marks t rest) h.0
      (test_tree t (behind_trees ts known) rest h.1 r)

  test_pairs : (ps : PlainPairs) (known : List (List ℕ)) (rest : List Mark) → PairsFit ps known
      → fit (behind_pairs ps known) rest ≡ true → fit known (marks_of_pairs ps rest) ≡ true
  test_pairs NoPairs known rest h r = r
  test_pairs (AfterPairs ps k v) known rest h r =
      let here = behind_pairs ps known in
      test_pairs ps known (marks k (marks v rest)) h.0
      (test_tree k here (marks v rest) h.1 (test_tree v (behind_tree k here) rest h.2 r))

-- the test of documents tells those that fit from the others
pub told_documents : (ts : PlainTrees) → documents_fit ts ≡ true → DocumentsFit ts
told_documents NoTrees h = tt
told_documents (AfterTrees ts t) h =
    let both = and_parts (documents_fit ts) (tree_fits t t) h in
    (told_documents ts both.0, (told_tree t [] [] (document_fits t ∙ both.1)).0)

pub test_documents : (ts : PlainTrees) → DocumentsFit ts → documents_fit ts ≡ true
test_documents NoTrees h = refl
test_documents (AfterTrees ts t) h = and_from (documents_fit ts) (tree_fits t t) (test_documents ts h.0)
    (sym (document_fits t) ∙ test_tree t [] [] h.1 refl)
