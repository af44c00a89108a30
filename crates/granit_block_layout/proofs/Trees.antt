-- Block text of trees is read as nodes with their events.
use Rattle.granit_language.specs.Node as nodes
use Rattle.granit_lexemes.specs.PlainEvent as plain
use Rattle.std.proofs.Common.{Bool, List, Option, [], ap, arith, false, length, max, refl, subst, suc, sym, true, zero}
use Rattle.std.proofs.Common.{ℕ, ◌&&◌, ◌++◌, ◌+◌, ◌∙◌, ◌∷◌, ◌≡◌, ◌≤◌}
use Rattle.std.proofs.Math.Nat.{le-max_left, le-max_right}
use Rattle.std.proofs.lemmas.Bool.Decides.{nat_tests}
use Rattle.std.specs.Prelude.{None, nat_le}
use Rattle.granit_block_lines.proofs.Columns.{Enters, again, anew, up_bound, up_less, up_self}
use Rattle.granit_block_layout.proofs.Entries.{Readable, entry_read, pair_read}
use Rattle.granit_block_layout.proofs.Fronts.{block_pair, first_entries, first_pairs}
use Rattle.granit_block_lines.proofs.Lines.{indent_front}
use Rattle.granit_block_layout.proofs.Nodes.{Closes, alias_read, empty_read, node_starts, properties_read}
use Rattle.granit_block_layout.proofs.Nodes.{scalar_read}
use Rattle.granit_block_lines.proofs.Passing.{Follows, collection_in, follows_left}
use Rattle.granit_block_lines.proofs.Ready.{Begun, OnLine, Ready, bound, fed_to}
use Rattle.granit_block_layout.proofs.Telling.{pairs_tell, start_tells, trees_tell}
use Rattle.granit_block_layout.specs.Alike.{kinds_of}
use Rattle.granit_canonical_steps.proofs.Known.{Knows, knows_anchor, knows_pairs, knows_trees}
use Rattle.granit_canonical_steps.proofs.Nodes.{dash_starts, question_starts}
use Rattle.granit_canonical_steps.proofs.Passing.{Passage, passage_then}
use Rattle.granit_canonical_steps.proofs.Places.{Starts}
use Rattle.granit_canonical_steps.proofs.Spelling.{CanSpell, CanSpellPairs, CanSpellTrees}
use Rattle.granit_canonical_steps.specs.Canonical.{Anchors, past_anchor, past_pairs, past_tree, past_trees, spot}
use Rattle.granit_canonical.proofs.Trees.{most_both}
use Rattle.granit_error.specs.OptionsData.{OptionsData}
use Rattle.granit_generator.specs.BlockText.{block_node, indent}
use Rattle.granit_language.specs.Node.{AfterEntry, AfterPair, Entries, Entry, Just, NoEntry, NoPair, Pairs, Through}
use Rattle.granit_language.specs.Node.{TreeProperties}
use Rattle.granit_language.specs.Placed.{EntriesPlaced, PairsPlaced, pair_front}
use Rattle.granit_language.specs.Room.{BlockIn}
use Rattle.granit_language.specs.Telling.{events_told, one_less}
use Rattle.granit_language.specs.Terminal.{Dash, Terminal, terminal, text_start}
use Rattle.granit_language.specs.TreeEvents.{MappingEnds, SequenceEnds, TreeEvent, entries_events, node_events}
use Rattle.granit_language.specs.TreeEvents.{pair_events, pairs_events, pointed}
use Rattle.granit_language.specs.Within.{entries_within, pairs_within}
use Rattle.granit_language.specs.Yield.{spell, spell_entries, spell_pair, spell_pairs, spell_properties}
use Rattle.granit_lexemes.specs.PlainEvent.{EventKind}
use Rattle.granit_lexemes.specs.declared.layout.Bracket.TheVariants.{Curly, Square}
use Rattle.granit_machine.specs.ReaderState.{ReaderState}
use Rattle.granit_base.specs.declared.style.StructureStyle.TheVariants.{Block}
use Rattle.granit_model.specs.FlowText.{tree_text}
use Rattle.granit_model.specs.Tree.{AfterPairs, AfterTrees, AliasOf, MappingOf, NoPairs, NoTrees, PairsFit, PlainPairs}
use Rattle.granit_model.specs.Tree.{PlainTree, PlainTrees, ScalarOf, SequenceOf, TreeFits, TreesFit, behind_pairs}
use Rattle.granit_model.specs.Tree.{behind_tree, behind_trees, no_pairs, no_trees, pairs_depth, tree_depth, trees_depth}
use Rattle.granit_model.specs.Tree.{with_anchor}

-- entries that are read
pub record EntriesRead (o : OptionsData) (x : List ℕ) (cs : List ℕ) (c reach : ℕ) (next : List ℕ) (s : ReaderState)
    (ts : PlainTrees) (a : Anchors) : Type 0 where
  pub after : ReaderState
  pub left : List ℕ
  pub entries : Entries
  pub passage : Passage o s a (past_trees ts a) (spell_entries entries) after
  pub ready : Ready x next [] left (Begun (one_less reach)) after
  pub closes : Closes reach left (c ∷ cs)
  pub placed : (y : Terminal) → Follows x reach next y → EntriesPlaced entries false (suc c) y
  pub within : (v : Bool) → entries_within o.block_nesting_limit entries (suc (length cs)) v ≡ v
  pub told : (q : TreeProperties) (indent : Option ℕ) (more : List TreeEvent)
      → kinds_of (events_told o (entries_events entries q false indent more))
      ≡ start_tells o q (plain.SequenceStart Block) (trees_tell o ts a (kinds_of (events_told o more)))

-- pairs that are read
pub record PairsRead (o : OptionsData) (x : List ℕ) (cs : List ℕ) (c reach : ℕ) (next : List ℕ) (s : ReaderState)
    (ps : PlainPairs) (a : Anchors) : Type 0 where
  pub after : ReaderState
  pub left : List ℕ
  pub pairs : Pairs
  pub passage : Passage o s a (past_pairs ps a) (spell_pairs pairs) after
  pub ready : Ready x next [] left (Begun (one_less reach)) after
  pub closes : Closes reach left (c ∷ cs)
  pub placed : (y : Terminal) → Follows x reach next y → PairsPlaced pairs (suc c) y
  pub within : (v : Bool) → pairs_within o.block_nesting_limit pairs (suc (length cs)) v ≡ v
  pub told : (q : TreeProperties) (indent : Option ℕ) (more : List TreeEvent)
      → kinds_of (events_told o (pairs_events pairs (suc c) q indent more))
      ≡ start_tells o q (plain.MappingStart Block) (pairs_tell o ps a (kinds_of (events_told o more)))

-- what ends the entries of a collection ends it
closes_one : (reach c : ℕ) (left cs : List ℕ) → reach ≤ c → Closes reach left (c ∷ cs) → Closes reach left cs
closes_one zero c left cs h e = tt
closes_one (suc n) c left cs h e = e ∙ up_less n c cs (omega (arith, h))

one_within : (n d : ℕ) (v : Bool) → suc d ≤ n → (v && nat_le (suc d) n) ≡ v
one_within n d v h =
    let e : nat_le (suc d) n ≡ true = grind (arith, nat_tests) in ap (λ w. v && w) e ∙ and_true v
  where
    and_true : (v : Bool) → (v && true) ≡ v
    and_true true = refl
    and_true false = refl

module _ (o : OptionsData) (x : List ℕ) where
  mutual
    pub tree_read : (t : PlainTree) (known : List (List ℕ)) → CanSpell t → TreeFits t known → Readable o x t known
    tree_read (AliasOf name) known can fits cs d reach next rest s a bd low st e knows deep flat ready =
        let number = knows name fits in
        alias_read o x cs reach name next s a number.0 can.0 number.1
        (subst (λ (l : List ℕ). Ready x (tree_text (AliasOf name) (0x0A ∷ l)) [] cs (OnLine (bound cs)) s) e ready)
    tree_read (ScalarOf p text) known can fits cs d reach next rest s a bd low st e knows deep flat ready =
        scalar_read o x cs reach p text next s a st can.0 can.1
        (subst (λ (l : List ℕ). Ready x (tree_text (ScalarOf p text) (0x0A ∷ l)) [] cs (OnLine (bound cs)) s) e ready)
    tree_read (SequenceOf p NoTrees) known can fits cs d reach next rest s a bd low st e knows deep flat ready =
        empty_read o x Square cs reach p next s a st can.0 (omega (arith, flat))
        (subst (λ (l : List ℕ). Ready x (tree_text (SequenceOf p NoTrees) (0x0A ∷ l)) [] cs (OnLine (bound cs)) s) e
        ready)
    tree_read (SequenceOf p (AfterTrees ts t)) known can fits cs d reach next rest s a bd low st e knows deep flat
        ready =
        let m = past_anchor p.anchor a in
        let r = properties_read o x (fed_to d) cs (first_entries d (AfterTrees ts t) rest) s p.tag p.anchor a
        (can.0).0.0 (can.0).1.0 (can.0).0.1 ready in
        let k = entries_read (AfterTrees ts t) (with_anchor p.anchor known) can.1 fits.1 refl cs cs d reach next rest
        r.after m (anew (up_bound d cs bd) bd (omega (arith, deep))) (omega (arith, low)) st e
        (knows_anchor p.anchor known a knows) (omega (arith, deep)) (omega (arith, flat)) r.ready in
        let z = past_trees (AfterTrees ts t) m in
        record {
          after = k.after;
          left = k.left;
          node = nodes.Sequence r.properties false (suc d) k.entries (spot x next);
          passage = passage_then o s r.after k.after a m z (spell_properties r.properties) (spell_entries k.entries)
              r.passage k.passage;
          ready = k.ready;
          closes = closes_one reach d k.left cs low k.closes;
          placed = λ room h y f. (
            r.placed room h,
            collection_in (r.behind room h) d bd,
            k.placed y f,
            follows_left x reach d next y f low,
            sym f.start,
          );
          within = λ v. k.within (v && nat_le (suc (length cs)) o.block_nesting_limit)
              ∙ one_within o.block_nesting_limit (length cs) v (omega (arith, deep));
          told = λ indent more. k.told r.properties indent (pointed SequenceEnds (spot x next) ∷ more)
              ∙ r.starts (plain.SequenceStart Block)
              (trees_tell o (AfterTrees ts t) m (plain.SequenceEnd ∷ kinds_of (events_told o more)));
        }
    tree_read (MappingOf p NoPairs) known can fits cs d reach next rest s a bd low st e knows deep flat ready =
        empty_read o x Curly cs reach p next s a st can.0 (omega (arith, flat))
        (subst (λ (l : List ℕ). Ready x (tree_text (MappingOf p NoPairs) (0x0A ∷ l)) [] cs (OnLine (bound cs)) s) e
        ready)
    tree_read (MappingOf p (AfterPairs ps k v)) known can fits cs d reach next rest s a bd low st e knows deep flat
        ready =
        let m = past_anchor p.anchor a in
        let r = properties_read o x (fed_to d) cs (first_pairs d (AfterPairs ps k v) rest) s p.tag p.anchor a
        (can.0).0.0 (can.0).1.0 (can.0).0.1 ready in
        let q = pairs_read (AfterPairs ps k v) (with_anchor p.anchor known) can.1 fits.1 refl cs cs d reach next rest
        r.after m (anew (up_bound d cs bd) bd (omega (arith, deep))) (omega (arith, low)) st e
        (knows_anchor p.anchor known a knows) (omega (arith, deep)) (omega (arith, flat)) r.ready in
        let z = past_pairs (AfterPairs ps k v) m in
        record {
          after = q.after;
          left = q.left;
          node = nodes.Mapping r.properties (suc d) q.pairs (spot x next);
          passage = passage_then o s r.after q.after a m z (spell_properties r.properties) (spell_pairs q.pairs)
              r.passage q.passage;
          ready = q.ready;
          closes = closes_one reach d q.left cs low q.closes;
          placed = λ room h y f. (
            r.placed room h,
            collection_in (r.behind room h) d bd,
            q.placed y f,
            follows_left x reach d next y f low,
            sym f.start,
          );
          within = λ v. q.within (v && nat_le (suc (length cs)) o.block_nesting_limit)
              ∙ one_within o.block_nesting_limit (length cs) v (omega (arith, deep));
          told = λ indent more. q.told r.properties indent (pointed MappingEnds (spot x next) ∷ more)
              ∙ r.starts (plain.MappingStart Block)
              (pairs_tell o (AfterPairs ps k v) m (plain.MappingEnd ∷ kinds_of (events_told o more)));
        }

    entries_read : (ts : PlainTrees) (known : List (List ℕ)) → CanSpellTrees ts → TreesFit ts known
        → no_trees ts ≡ false
        → (cs ds : List ℕ) (c reach : ℕ) (next rest : List ℕ) (s : ReaderState) (a : Anchors)
        → Enters o.block_nesting_limit c ds cs → reach ≤ suc c → Starts next → rest ≡ indent (one_less reach) [] ++ next
        → Knows known a → trees_depth ts + suc (length cs) ≤ o.block_nesting_limit
        → trees_depth ts ≤ o.flow_nesting_limit
        → Ready x (first_entries c ts rest) [] ds (Begun c) s → EntriesRead o x cs c reach next s ts a
    entries_read NoTrees known can fits some cs ds c reach next rest s a enters low st e knows deep flat ready =
        absurd cc
    entries_read (AfterTrees NoTrees t) known can fits some cs ds c reach next rest s a enters low st e knows deep flat
        ready =
        let n = entry_read o x cs ds c reach next rest s t a known enters low st e (tree_read t known can.1 fits.1)
        knows (most_both 0 (tree_depth t) (suc (length cs)) o.block_nesting_limit deep).1
        (omega (arith, flat, le-max_right 0 (tree_depth t))) ready in
        record {
          after = n.after;
          left = n.left;
          entries = Entry NoEntry n.dash (Just n.node);
          passage = n.passage;
          ready = n.ready;
          closes = n.closes;
          placed = λ y f. (tt, n.stands, n.placed y f);
          within = n.within;
          told = λ q indent more.
              node_starts o q (plain.SequenceStart Block) n.dash.start n.dash.start indent
              (events_told o (node_events n.node None more))
              ∙ ap (start_tells o q (plain.SequenceStart Block)) (n.told more);
        }
    entries_read (AfterTrees (AfterTrees us u) t) known can fits some cs ds c reach next rest s a enters low st e knows
        deep flat ready =
        let ts = AfterTrees us u in
        let here = 0x2D ∷ block_node (c + 2) t rest in
        let deeper = most_both (trees_depth ts) (tree_depth t) (suc (length cs)) o.block_nesting_limit deep in
        let r = entries_read (AfterTrees us u) known can.0 fits.0 refl cs ds c (suc c) here (indent c here) s a enters
        (omega arith) (dash_starts (block_node (c + 2) t rest)) (indent_front c here) knows deeper.0
        (omega (arith, flat, le-max_left (trees_depth ts) (tree_depth t))) ready in
        let b = past_trees ts a in
        let n = entry_read o x cs r.left c reach next rest r.after t b (behind_trees ts known)
        (again (r.closes ∙ up_self c cs)) low st e (tree_read t (behind_trees ts known) can.1 fits.1)
        (knows_trees ts known a knows) deeper.1 (omega (arith, flat, le-max_right (trees_depth ts) (tree_depth t)))
        r.ready in
        record {
          after = n.after;
          left = n.left;
          entries = Entry (AfterEntry r.entries) n.dash (Just n.node);
          passage = passage_then o s r.after n.after a b (past_tree t b) (spell_entries r.entries)
              (λ more. terminal Dash n.dash ∷ spell n.node more) r.passage n.passage;
          ready = n.ready;
          closes = n.closes;
          placed = λ y f. (r.placed (terminal Dash n.dash) n.follows, n.stands, n.placed y f);
          within = λ v. n.within (entries_within o.block_nesting_limit r.entries (suc (length cs)) v) ∙ r.within v;
          told = λ q indent more. r.told q indent (node_events n.node None more)
              ∙ ap (λ (ks : List EventKind). start_tells o q (plain.SequenceStart Block) (trees_tell o ts a ks))
              (n.told more);
        }

    pairs_read : (ps : PlainPairs) (known : List (List ℕ)) → CanSpellPairs ps → PairsFit ps known
        → no_pairs ps ≡ false
        → (cs ds : List ℕ) (c reach : ℕ) (next rest : List ℕ) (s : ReaderState) (a : Anchors)
        → Enters o.block_nesting_limit c ds cs → reach ≤ suc c → Starts next → rest ≡ indent (one_less reach) [] ++ next
        → Knows known a → pairs_depth ps + suc (length cs) ≤ o.block_nesting_limit
        → pairs_depth ps ≤ o.flow_nesting_limit
        → Ready x (first_pairs c ps rest) [] ds (Begun c) s → PairsRead o x cs c reach next s ps a
    pairs_read NoPairs known can fits some cs ds c reach next rest s a enters low st e knows deep flat ready =
        absurd cc
    pairs_read (AfterPairs NoPairs k v) known can fits some cs ds c reach next rest s a enters low st e knows deep flat
        ready =
        let both = max (tree_depth k) (tree_depth v) in
        let deeper = (most_both 0 both (suc (length cs)) o.block_nesting_limit deep).1 in
        let deepest = most_both (tree_depth k) (tree_depth v) (suc (length cs)) o.block_nesting_limit deeper in
        let flatter : both ≤ o.flow_nesting_limit = omega (arith, flat, le-max_right 0 both) in
        let n = pair_read o x cs ds c reach next rest s k v a known enters low st e (tree_read k known can.1 fits.1)
        (tree_read v (behind_tree k known) can.2 fits.2) knows deepest.0
        (omega (arith, flatter, le-max_left (tree_depth k) (tree_depth v))) deepest.1
        (omega (arith, flatter, le-max_right (tree_depth k) (tree_depth v))) ready in
        record {
          after = n.after;
          left = n.left;
          pairs = Through NoPair n.pair;
          passage = n.passage;
          ready = n.ready;
          closes = n.closes;
          placed = λ y f. (tt, n.placed y f);
          within = n.within;
          told = λ q indent more.
              node_starts o q (plain.MappingStart Block) (pair_front n.pair).at.start (pair_front n.pair).at.start
              indent (events_told o (pair_events n.pair (BlockIn (suc c)) text_start more))
              ∙ ap (start_tells o q (plain.MappingStart Block)) (n.told text_start more);
        }
    pairs_read (AfterPairs (AfterPairs qs l w) k v) known can fits some cs ds c reach next rest s a enters low st e
        knows deep flat ready =
        let ps = AfterPairs qs l w in
        let here = block_pair c k v rest in
        let both = max (tree_depth k) (tree_depth v) in
        let deeper = most_both (pairs_depth ps) both (suc (length cs)) o.block_nesting_limit deep in
        let deepest = most_both (tree_depth k) (tree_depth v) (suc (length cs)) o.block_nesting_limit deeper.1 in
        let flatter : both ≤ o.flow_nesting_limit = omega (arith, flat, le-max_right (pairs_depth ps) both) in
        let r = pairs_read (AfterPairs qs l w) known can.0 fits.0 refl cs ds c (suc c) here (indent c here) s a enters
        (omega arith) (question_starts (block_node (c + 2) k (indent c (0x3A ∷ block_node (c + 2) v rest))))
        (indent_front c here) knows deeper.0 (omega (arith, flat, le-max_left (pairs_depth ps) both)) ready in
        let b = past_pairs ps a in
        let known_here = behind_pairs ps known in
        let n = pair_read o x cs r.left c reach next rest r.after k v b known_here (again (r.closes ∙ up_self c cs)) low
        st e (tree_read k known_here can.1 fits.1) (tree_read v (behind_tree k known_here) can.2 fits.2)
        (knows_pairs ps known a knows) deepest.0
        (omega (arith, flatter, le-max_left (tree_depth k) (tree_depth v))) deepest.1
        (omega (arith, flatter, le-max_right (tree_depth k) (tree_depth v))) r.ready in
        record {
          after = n.after;
          left = n.left;
          pairs = Through (AfterPair r.pairs) n.pair;
          passage = passage_then o s r.after n.after a b (past_tree v (past_tree k b)) (spell_pairs r.pairs)
              (spell_pair n.pair) r.passage n.passage;
          ready = n.ready;
          closes = n.closes;
          placed = λ y f. (r.placed (pair_front n.pair) n.follows, n.placed y f);
          within = λ v. n.within (pairs_within o.block_nesting_limit r.pairs (suc (length cs)) v) ∙ r.within v;
          told = λ q indent more. r.told q indent (pair_events n.pair (BlockIn (suc c)) text_start more)
              ∙ ap (λ (ks : List EventKind). start_tells o q (plain.MappingStart Block) (pairs_tell o ps a ks))
              (n.told text_start more);
        }
