-- Canonical text of trees is read as nodes with their events.
use Rattle.granit_lexemes.specs.Lexeme as lexemes
use Rattle.granit_machine.specs.LexemeSort as sorts
use Rattle.std.proofs.Common.{Bool, List, [], ap, arith, false, length, max, refl, suc, true, ℕ, ◌++◌, ◌+◌, ◌∙◌, ◌∷◌}
use Rattle.std.proofs.Common.{◌≡◌, ◌≤◌}
use Rattle.std.proofs.Math.Nat.{le-max_left, le-max_right}
use Rattle.std.specs.Prelude.{None}
use Rattle.granit_base.specs.Place.{Mark}
use Rattle.granit_canonical_steps.proofs.Calm.{Calm, Fine}
use Rattle.granit_canonical_steps.proofs.Flows.{flow_read, no_contents}
use Rattle.granit_canonical_steps.proofs.Known.{Knows, knows_anchor, knows_pairs, knows_tree, knows_trees}
use Rattle.granit_canonical_steps.proofs.Names.{EndsName, ends_closer, ends_comma, ends_spaced}
use Rattle.granit_canonical_steps.proofs.Nodes.{NodeRead, alias_read, closer_starts, colon_starts, comma_starts}
use Rattle.granit_canonical_steps.proofs.Nodes.{opener_starts, properties_start, question_starts, quote_starts}
use Rattle.granit_canonical_steps.proofs.Nodes.{scalar_read}
use Rattle.granit_canonical_steps.proofs.Nodes.{star_starts}
use Rattle.granit_canonical_steps.proofs.Passing.{Passage, passage_one, passage_then, place_in, plain_inside}
use Rattle.granit_canonical_steps.proofs.Passing.{plain_item}
use Rattle.granit_canonical_steps.proofs.Places.{Before, Starts, spaced, touching}
use Rattle.granit_canonical_steps.proofs.Signs.{takes_colon, takes_comma, takes_question}
use Rattle.granit_canonical_steps.proofs.Spelling.{CanSpell, CanSpellPairs, CanSpellTrees}
use Rattle.granit_canonical_steps.proofs.Taking.{Follows, follows_parts, follows_starts, in_brackets, reads_one}
use Rattle.granit_canonical_steps.specs.Canonical.{Anchors, entries_before, pairs_before, past_anchor, past_pairs}
use Rattle.granit_canonical_steps.specs.Canonical.{past_tree}
use Rattle.granit_canonical_steps.specs.Canonical.{past_trees, tree_before}
use Rattle.granit_error.specs.OptionsData.{OptionsData}
use Rattle.granit_language.specs.Node.{AfterItem, Asked, FlowLead, Just, LastItem, NoItem, Node, Pair, Paired, Single}
use Rattle.granit_language.specs.Node.{WithColon}
use Rattle.granit_language.specs.Placed.{FlowPlaced, PairPlaced, Placed}
use Rattle.granit_language.specs.Room.{FlowIn, Inside, ItemIn}
use Rattle.granit_language.specs.Telling.{events_told}
use Rattle.granit_language.specs.Terminal.{Colon, Comma, Question, Terminal, terminal}
use Rattle.granit_language.specs.TreeEvents.{TreeEvent, flow_events, node_events, pair_events}
use Rattle.granit_language.specs.Within.{flow_within, node_within, pair_within}
use Rattle.granit_language.specs.Yield.{spell, spell_flow, spell_pair}
use Rattle.granit_lexemes.specs.Lexeme.{closer_char}
use Rattle.granit_lexemes.specs.PlainEvent.{PlainEvent}
use Rattle.granit_lexemes.specs.declared.layout.Bracket.{Bracket}
use Rattle.granit_lexemes.specs.declared.layout.Bracket.TheVariants.{Curly, Square}
use Rattle.granit_machine.specs.LexemeSort.{ColonSign, CommaSign, QuestionSign}
use Rattle.granit_machine.specs.ReaderState.{ReaderState}
use Rattle.granit_model.specs.FlowText.{entries_text, pair_text, pairs_text, quoted_characters, tree_text}
use Rattle.granit_model.specs.Tree.{AfterPairs, AfterTrees, AliasOf, MappingOf, NoPairs, NoTrees, PairsFit, PlainPairs}
use Rattle.granit_model.specs.Tree.{PlainTree, PlainTrees, ScalarOf, SequenceOf, TreeFits, TreesFit, behind_pairs}
use Rattle.granit_model.specs.Tree.{behind_tree, behind_trees, no_pairs, no_trees, pairs_depth, tree_depth, trees_depth}
use Rattle.granit_model.specs.Tree.{with_anchor}

pub most_both : (a b n m : ℕ) → max a b + n ≤ m → (a + n ≤ m) × (b + n ≤ m)
most_both a b n m h = (omega (arith, h, le-max_left a b), omega (arith, h, le-max_right a b))

tree_starts : (t : PlainTree) (to : List ℕ) → Starts (tree_text t to)
tree_starts (AliasOf name) to = star_starts (name ++ to)
tree_starts (ScalarOf p text) to =
    properties_start p (0x22 ∷ quoted_characters text (0x22 ∷ to)) (quote_starts (quoted_characters text (0x22 ∷ to)))
tree_starts (SequenceOf p entries) to =
    properties_start p (0x5B ∷ entries_text entries (0x5D ∷ to))
    (opener_starts Square (entries_text entries (0x5D ∷ to)))
tree_starts (MappingOf p pairs) to =
    properties_start p (0x7B ∷ pairs_text pairs (0x7D ∷ to)) (opener_starts Curly (pairs_text pairs (0x7D ∷ to)))

entries_start : (ts : PlainTrees) (closing : List ℕ) → Starts closing → Starts (entries_text ts closing)
entries_start NoTrees closing s = s
entries_start (AfterTrees NoTrees t) closing s = tree_starts t closing
entries_start (AfterTrees (AfterTrees us u) t) closing s =
    entries_start (AfterTrees us u) (0x2C ∷ 0x20 ∷ tree_text t closing) (comma_starts (0x20 ∷ tree_text t closing))

pairs_start : (ps : PlainPairs) (closing : List ℕ) → Starts closing → Starts (pairs_text ps closing)
pairs_start NoPairs closing s = s
pairs_start (AfterPairs NoPairs k v) closing s =
    question_starts (0x20 ∷ tree_text k (0x20 ∷ 0x3A ∷ 0x20 ∷ tree_text v closing))
pairs_start (AfterPairs (AfterPairs qs l w) k v) closing s =
    let next = 0x2C ∷ 0x20 ∷ pair_text k v closing in
    pairs_start (AfterPairs qs l w) next (comma_starts (0x20 ∷ pair_text k v closing))

-- what follows an item, directly
pub record Directly (b : Bracket) (bs : List Bracket) (closing : List ℕ) : Type 0 where
  pub follows : Follows (b ∷ bs) [] closing
  pub ended : EndsName [] closing

comma_follows : (b : Bracket) (bs : List Bracket) (rest : List ℕ) → Directly b bs (0x2C ∷ rest)
comma_follows b bs rest =
    record { follows = in_brackets touching refl; ended = ends_comma rest }

closer_follows : (b d : Bracket) (bs : List Bracket) (rest : List ℕ) → Directly d bs (closer_char b ∷ rest)
closer_follows Square d bs rest = record { follows = in_brackets touching refl; ended = ends_closer Square rest }
closer_follows Curly d bs rest = record { follows = in_brackets touching refl; ended = ends_closer Curly rest }

-- entries that are read, the last one apart
pub record SomeEntries (o : OptionsData) (x : List ℕ) (bs : List Bracket) (closing : List ℕ) (s : ReaderState)
    (ts : PlainTrees) (a : Anchors) : Type 0 where
  pub after : ReaderState
  pub lead : FlowLead
  pub node : Node
  pub passage : Passage o s a (past_trees ts a) (λ more. spell_flow lead (spell node more)) after
  pub before : Before x closing after.here
  pub calm : Calm (Square ∷ bs) after.laid
  pub placed : FlowPlaced lead Square
  pub placed_node : (y : Terminal) → Placed node ItemIn y
  pub within : (n d : ℕ) (v : Bool) → node_within n node d (flow_within n lead d v) ≡ v
  pub told : (more : List TreeEvent)
      → events_told o (flow_events lead Square (node_events node None more))
      ≡ entries_before o x ts a closing (events_told o more)

-- pairs that are read, the last one apart
pub record SomePairs (o : OptionsData) (x : List ℕ) (bs : List Bracket) (closing : List ℕ) (s : ReaderState)
    (ps : PlainPairs) (a : Anchors) : Type 0 where
  pub after : ReaderState
  pub lead : FlowLead
  pub pair : Pair
  pub passage : Passage o s a (past_pairs ps a) (λ more. spell_flow lead (spell_pair pair more)) after
  pub before : Before x closing after.here
  pub calm : Calm (Curly ∷ bs) after.laid
  pub placed : FlowPlaced lead Curly
  pub placed_pair : (y : Terminal) → PairPlaced pair (FlowIn Curly) y
  pub within : (n d : ℕ) (v : Bool) → pair_within n pair d (flow_within n lead d v) ≡ v
  pub told : (e : Mark) (more : List TreeEvent)
      → events_told o (flow_events lead Curly (pair_events pair (FlowIn Curly) e more))
      ≡ pairs_before o x ps a closing (events_told o more)

-- one pair that is read
pub record PairRead (o : OptionsData) (x : List ℕ) (bs : List Bracket) (closing : List ℕ) (s : ReaderState)
    (k v : PlainTree) (a : Anchors) : Type 0 where
  pub after : ReaderState
  pub pair : Pair
  pub passage : Passage o s a (past_tree v (past_tree k a)) (spell_pair pair) after
  pub before : Before x closing after.here
  pub calm : Calm (Curly ∷ bs) after.laid
  pub placed : (y : Terminal) → PairPlaced pair (FlowIn Curly) y
  pub within : (n d : ℕ) (b : Bool) → pair_within n pair d b ≡ b
  pub told : (e : Mark) (more : List TreeEvent)
      → events_told o (pair_events pair (FlowIn Curly) e more)
      ≡ tree_before o x k a (0x20 ∷ 0x3A ∷ 0x20 ∷ tree_text v closing)
      (tree_before o x v (past_tree k a) closing (events_told o more))

module _ (o : OptionsData) (x : List ℕ) where
  -- a tree that is read wherever it stands
  abbrev Readable : PlainTree → List (List ℕ) → Type 0
  Readable t known =
      (bs : List Bracket) (g rest : List ℕ) (s : ReaderState) (a : Anchors) → Follows bs g rest → EndsName g rest
      → Knows known a → tree_depth t + length bs ≤ o.flow_nesting_limit → Before x (tree_text t (g ++ rest)) s.here
      → Calm bs s.laid → Fine bs s.laid.last → NodeRead o x bs (g ++ rest) rest s t a

  pair_read : (bs : List Bracket) (closing : List ℕ) (s : ReaderState) (k v : PlainTree) (a : Anchors)
      (known : List (List ℕ)) → Directly Curly bs closing → Readable k known → Readable v (behind_tree k known)
      → Knows known a → tree_depth k + suc (length bs) ≤ o.flow_nesting_limit
      → tree_depth v + suc (length bs) ≤ o.flow_nesting_limit
      → Before x (pair_text k v closing) s.here → Calm (Curly ∷ bs) s.laid → PairRead o x bs closing s k v a
  pair_read bs closing s k v a known d key value knows deep_key deep_value before calm =
      let value_text = tree_text v closing in
      let at_colon = 0x3A ∷ 0x20 ∷ value_text in
      let key_text = tree_text k (0x20 ∷ at_colon) in
      let b = past_tree k a in
      let c = past_tree v b in
      let q = reads_one o x (Curly ∷ bs) (Curly ∷ bs) (sorts.Placed QuestionSign) lexemes.Question
      (0x3F ∷ 0x20 ∷ key_text)
      (0x20 ∷ key_text) key_text false s before calm (question_starts (0x20 ∷ key_text))
      (λ t h e c f. takes_question o x bs key_text t h e c) in
      let kn = key (Curly ∷ bs) (0x20 ∷ []) at_colon q.after a (in_brackets spaced refl) (ends_spaced at_colon) knows
      deep_key
      q.before q.calm q.opener in
      let m = reads_one o x (Curly ∷ bs) (Curly ∷ bs) (sorts.Placed ColonSign) lexemes.Colon at_colon
      (0x20 ∷ value_text)
      value_text false kn.after kn.before kn.calm (colon_starts (0x20 ∷ value_text))
      (λ t h e c f. takes_colon o x bs value_text t (tree_starts v closing) h e c) in
      let vn = value (Curly ∷ bs) [] closing m.after b d.follows d.ended (knows_tree k known a knows) deep_value
      m.before
      m.calm m.opener in
      let i = place_in a q.lexeme in
      let j = place_in b m.lexeme in
      let first = passage_one o lexemes.Question s a a q.read refl refl refl in
      let third = passage_one o lexemes.Colon kn.after b b m.read refl refl refl in
      let asked = λ (more : List Terminal). terminal Question i ∷ more in
      let parted = λ (more : List Terminal). terminal (Colon None) j ∷ more in
      let rear = passage_then o kn.after m.after vn.after b b c parted (spell vn.node) third vn.passage in
      let body = passage_then o q.after kn.after vn.after a b c (spell kn.node) (λ more. parted (spell vn.node more))
      kn.passage
      rear in
      record {
        after = vn.after;
        pair = WithColon (Asked i (Just kn.node)) j (Just vn.node);
        passage = passage_then o s q.after vn.after a a c asked (λ more. spell kn.node (parted (spell vn.node more)))
            first body;
        before = vn.before;
        calm = vn.calm;
        placed = λ y. (
          (refl, kn.placed Inside plain_inside (terminal (Colon None) j), refl),
          vn.placed Inside plain_inside y,
        );
        within = λ n d b. vn.within n d (node_within n kn.node d b) ∙ kn.within n d b;
        told = λ e more. kn.told (node_events vn.node None more)
            ∙ ap (λ (es : List PlainEvent). tree_before o x k a (0x20 ∷ at_colon) es) (vn.told more);
      }

  mutual
    pub tree_read : (t : PlainTree) (known : List (List ℕ)) → CanSpell t → TreeFits t known → Readable t known
    tree_read (AliasOf name) known can fits bs g rest s a f ended knows deep before calm fine =
        let number = knows name fits in
        alias_read o x bs g rest s name a number.0 f ended can.0 number.1 before calm fine
    tree_read (ScalarOf p text) known can fits bs g rest s a f ended knows deep before calm fine =
        scalar_read o x bs g rest s p text a f can.0 can.1 before calm fine
    tree_read (SequenceOf p NoTrees) known can fits bs g rest s a f ended knows deep before calm fine =
        let c = past_anchor p.anchor a in
        let r = flow_read o x Square bs (0x5D ∷ (g ++ rest)) g rest s p a c (λ es. es) (follows_parts f)
        (follows_starts f)
        (closer_starts Square (g ++ rest)) (omega (arith, deep)) can.0 before calm fine
        (λ u b c. no_contents o x Square bs (0x5D ∷ (g ++ rest)) u (past_anchor p.anchor a) b c) in
        record {
          after = r.after;
          node = r.node;
          passage = r.passage;
          before = r.before;
          passed = r.passed;
          calm = r.calm;
          opener = r.opener;
          placed = r.placed;
          within = r.within;
          told = r.told;
          ends = r.ends;
        }
    tree_read (SequenceOf p (AfterTrees ts t)) known can fits bs g rest s a f ended knows deep before calm fine =
        let closing = 0x5D ∷ (g ++ rest) in
        let inside = entries_text (AfterTrees ts t) closing in
        let m = past_anchor p.anchor a in
        let c = past_trees (AfterTrees ts t) m in
        let tell = λ (es : List PlainEvent). entries_before o x (AfterTrees ts t) m closing es in
        let r = flow_read o x Square bs inside g rest s p a c tell (follows_parts f) (follows_starts f)
        (entries_start (AfterTrees ts t) closing (closer_starts Square (g ++ rest))) (omega (arith, deep)) can.0 before
        calm
        fine
        (λ u b c.
        let e = entries_read (AfterTrees ts t) (with_anchor p.anchor known) can.1 fits.1 refl bs closing u m
        (closer_follows Square Square bs (g ++ rest)) (knows_anchor p.anchor known a knows) (omega (arith, deep)) b
        c in
        record {
          after = e.after;
          lead = e.lead;
          last = LastItem (Single e.node);
          passage = e.passage;
          before = e.before;
          calm = e.calm;
          placed = e.placed;
          placed_last = e.placed_node;
          within = e.within;
          told = λ i more. e.told more;
        }) in
        record {
          after = r.after;
          node = r.node;
          passage = r.passage;
          before = r.before;
          passed = r.passed;
          calm = r.calm;
          opener = r.opener;
          placed = r.placed;
          within = r.within;
          told = r.told;
          ends = r.ends;
        }
    tree_read (MappingOf p NoPairs) known can fits bs g rest s a f ended knows deep before calm fine =
        let c = past_anchor p.anchor a in
        let r = flow_read o x Curly bs (0x7D ∷ (g ++ rest)) g rest s p a c (λ es. es) (follows_parts f)
        (follows_starts f)
        (closer_starts Curly (g ++ rest)) (omega (arith, deep)) can.0 before calm fine
        (λ u b c. no_contents o x Curly bs (0x7D ∷ (g ++ rest)) u (past_anchor p.anchor a) b c) in
        record {
          after = r.after;
          node = r.node;
          passage = r.passage;
          before = r.before;
          passed = r.passed;
          calm = r.calm;
          opener = r.opener;
          placed = r.placed;
          within = r.within;
          told = r.told;
          ends = r.ends;
        }
    tree_read (MappingOf p (AfterPairs ps k v)) known can fits bs g rest s a f ended knows deep before calm fine =
        let closing = 0x7D ∷ (g ++ rest) in
        let inside = pairs_text (AfterPairs ps k v) closing in
        let m = past_anchor p.anchor a in
        let c = past_pairs (AfterPairs ps k v) m in
        let tell = λ (es : List PlainEvent). pairs_before o x (AfterPairs ps k v) m closing es in
        let r = flow_read o x Curly bs inside g rest s p a c tell (follows_parts f) (follows_starts f)
        (pairs_start (AfterPairs ps k v) closing (closer_starts Curly (g ++ rest))) (omega (arith, deep)) can.0 before
        calm
        fine
        (λ u b c.
        let e = pairs_read (AfterPairs ps k v) (with_anchor p.anchor known) can.1 fits.1 refl bs closing u m
        (closer_follows Curly Curly bs (g ++ rest)) (knows_anchor p.anchor known a knows) (omega (arith, deep)) b c in
        record {
          after = e.after;
          lead = e.lead;
          last = LastItem (Paired e.pair);
          passage = e.passage;
          before = e.before;
          calm = e.calm;
          placed = e.placed;
          placed_last = e.placed_pair;
          within = e.within;
          told = λ i more. e.told i.start more;
        }) in
        record {
          after = r.after;
          node = r.node;
          passage = r.passage;
          before = r.before;
          passed = r.passed;
          calm = r.calm;
          opener = r.opener;
          placed = r.placed;
          within = r.within;
          told = r.told;
          ends = r.ends;
        }

    entries_read : (ts : PlainTrees) (known : List (List ℕ)) → CanSpellTrees ts → TreesFit ts known
        → no_trees ts ≡ false
        → (bs : List Bracket) (closing : List ℕ) (s : ReaderState) (a : Anchors) → Directly Square bs closing
        → Knows known a → trees_depth ts + suc (length bs) ≤ o.flow_nesting_limit
        → Before x (entries_text ts closing) s.here → Calm (Square ∷ bs) s.laid → SomeEntries o x bs closing s ts a
    entries_read NoTrees known can fits some bs closing s a d knows deep before calm = absurd cc
    entries_read (AfterTrees NoTrees t) known can fits some bs closing s a d knows deep before calm =
        let n = tree_read t known can.1 fits.1 (Square ∷ bs) [] closing s a d.follows d.ended knows
        (most_both 0 (tree_depth t) (suc (length bs)) o.flow_nesting_limit deep).1 before calm tt in
        record {
          after = n.after;
          lead = NoItem;
          node = n.node;
          passage = n.passage;
          before = n.before;
          calm = n.calm;
          placed = tt;
          placed_node = n.placed ItemIn plain_item;
          within = n.within;
          told = n.told;
        }
    entries_read (AfterTrees (AfterTrees us u) t) known can fits some bs closing s a d knows deep before calm =
        let ts = AfterTrees us u in
        let next = tree_text t closing in
        let deeper = most_both (trees_depth ts) (tree_depth t) (suc (length bs)) o.flow_nesting_limit deep in
        let r = entries_read (AfterTrees us u) known can.0 fits.0 refl bs (0x2C ∷ 0x20 ∷ next) s a
        (comma_follows Square bs (0x20 ∷ next)) knows deeper.0 before calm in
        let b = past_trees ts a in
        let q = reads_one o x (Square ∷ bs) (Square ∷ bs) (sorts.Placed CommaSign) lexemes.Comma (0x2C ∷ 0x20 ∷ next)
        (0x20 ∷ next) next true r.after r.before r.calm (comma_starts (0x20 ∷ next))
        (λ y h e c f. takes_comma o x bs Square next y (tree_starts t closing) h e c) in
        let n = tree_read t (behind_trees ts known) can.1 fits.1 (Square ∷ bs) [] closing q.after b d.follows d.ended
        (knows_trees ts known a knows) deeper.1 q.before q.calm tt in
        let m = place_in b q.lexeme in
        let middle = passage_one o lexemes.Comma r.after b b q.read refl refl refl in
        let parted = λ (more : List Terminal). terminal Comma m ∷ more in
        let rear = passage_then o r.after q.after n.after b b (past_tree t b) parted (spell n.node) middle n.passage in
        record {
          after = n.after;
          lead = AfterItem r.lead (Single r.node) m;
          node = n.node;
          passage = passage_then o s r.after n.after a b (past_tree t b) (λ more. spell_flow r.lead (spell r.node more))
              (λ more. parted (spell n.node more)) r.passage rear;
          before = n.before;
          calm = n.calm;
          placed = (r.placed, r.placed_node (terminal Comma m));
          placed_node = n.placed ItemIn plain_item;
          within = λ most around v. n.within most around
              (node_within most r.node around (flow_within most r.lead around v)) ∙ r.within most around v;
          told = λ more. r.told (node_events n.node None more)
              ∙ ap (λ (es : List PlainEvent). entries_before o x ts a (0x2C ∷ 0x20 ∷ next) es) (n.told more);
        }

    pairs_read : (ps : PlainPairs) (known : List (List ℕ)) → CanSpellPairs ps → PairsFit ps known → no_pairs ps ≡ false
        → (bs : List Bracket) (closing : List ℕ) (s : ReaderState) (a : Anchors) → Directly Curly bs closing
        → Knows known a → pairs_depth ps + suc (length bs) ≤ o.flow_nesting_limit
        → Before x (pairs_text ps closing) s.here → Calm (Curly ∷ bs) s.laid → SomePairs o x bs closing s ps a
    pairs_read NoPairs known can fits some bs closing s a d knows deep before calm = absurd cc
    pairs_read (AfterPairs NoPairs k v) known can fits some bs closing s a d knows deep before calm =
        let deeper = most_both 0 (max (tree_depth k) (tree_depth v)) (suc (length bs)) o.flow_nesting_limit deep in
        let deepest = most_both (tree_depth k) (tree_depth v) (suc (length bs)) o.flow_nesting_limit deeper.1 in
        let n = pair_read bs closing s k v a known d (tree_read k known can.1 fits.1)
        (tree_read v (behind_tree k known) can.2 fits.2) knows deepest.0 deepest.1 before calm in
        record {
          after = n.after;
          lead = NoItem;
          pair = n.pair;
          passage = n.passage;
          before = n.before;
          calm = n.calm;
          placed = tt;
          placed_pair = n.placed;
          within = n.within;
          told = n.told;
        }
    pairs_read (AfterPairs (AfterPairs qs l w) k v) known can fits some bs closing s a d knows deep before calm =
        let ps = AfterPairs qs l w in
        let next = pair_text k v closing in
        let deeper = most_both (pairs_depth ps) (max (tree_depth k) (tree_depth v)) (suc (length bs))
        o.flow_nesting_limit
        deep in
        let deepest = most_both (tree_depth k) (tree_depth v) (suc (length bs)) o.flow_nesting_limit deeper.1 in
        let r = pairs_read (AfterPairs qs l w) known can.0 fits.0 refl bs (0x2C ∷ 0x20 ∷ next) s a
        (comma_follows Curly bs (0x20 ∷ next)) knows deeper.0 before calm in
        let b = past_pairs ps a in
        let here = behind_pairs ps known in
        let q = reads_one o x (Curly ∷ bs) (Curly ∷ bs) (sorts.Placed CommaSign) lexemes.Comma (0x2C ∷ 0x20 ∷ next)
        (0x20 ∷ next) next true r.after r.before r.calm (comma_starts (0x20 ∷ next))
        (λ y h e c f. takes_comma o x bs Curly next y
        (question_starts (0x20 ∷ tree_text k (0x20 ∷ 0x3A ∷ 0x20 ∷ tree_text v closing))) h e c) in
        let n = pair_read bs closing q.after k v b here d (tree_read k here can.1 fits.1)
        (tree_read v (behind_tree k here) can.2 fits.2) (knows_pairs ps known a knows) deepest.0 deepest.1 q.before
        q.calm in
        let m = place_in b q.lexeme in
        let c = past_tree v (past_tree k b) in
        let middle = passage_one o lexemes.Comma r.after b b q.read refl refl refl in
        let parted = λ (more : List Terminal). terminal Comma m ∷ more in
        let rear = passage_then o r.after q.after n.after b b c parted (spell_pair n.pair) middle n.passage in
        record {
          after = n.after;
          lead = AfterItem r.lead (Paired r.pair) m;
          pair = n.pair;
          passage = passage_then o s r.after n.after a b c (λ more. spell_flow r.lead (spell_pair r.pair more))
              (λ more. parted (spell_pair n.pair more)) r.passage rear;
          before = n.before;
          calm = n.calm;
          placed = (r.placed, r.placed_pair (terminal Comma m));
          placed_pair = n.placed;
          within = λ most around v. n.within most around
              (pair_within most r.pair around (flow_within most r.lead around v)) ∙ r.within most around v;
          told = λ e more. r.told m.start (pair_events n.pair (FlowIn Curly) e more)
              ∙ ap (λ (es : List PlainEvent). pairs_before o x ps a (0x2C ∷ 0x20 ∷ next) es) (n.told e more);
        }
