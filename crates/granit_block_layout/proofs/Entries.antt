-- An entry of a block sequence, and a pair of a block mapping, are read.
use Rattle.granit_lexemes.specs.Lexeme as lexemes
use Rattle.granit_machine.specs.LexemeSort as sorts
use Rattle.std.proofs.Common.{Bool, List, [], ap, arith, length, refl, subst, suc, sym, true, ℕ, ◌++◌, ◌+◌, ◌==◌, ◌∙◌}
use Rattle.std.proofs.Common.{◌∷◌, ◌≡◌, ◌≤◌}
use Rattle.std.proofs.lemmas.Bool.Decides.{nat_tests}
use Rattle.std.specs.Prelude.{None, Some}
use Rattle.granit_base.specs.Place.{Mark}
use Rattle.granit_block_lines.proofs.Columns.{Enters, again, up_self}
use Rattle.granit_block_layout.proofs.Fronts.{block_pair, open_behind, open_gap, open_starts, open_text, opening}
use Rattle.granit_block_lines.proofs.Lines.{indent_front}
use Rattle.granit_block_layout.proofs.Nodes.{Closes, NodeRead}
use Rattle.granit_block_lines.proofs.Passing.{Follows, right_of, value_in}
use Rattle.granit_block_lines.proofs.Ready.{Begun, Ready, bound, leads}
use Rattle.granit_block_lines.proofs.Signs.{takes_colon, takes_dash, takes_question}
use Rattle.granit_block_lines.proofs.Taking.{reads_one}
use Rattle.granit_block_layout.proofs.Telling.{tree_tells}
use Rattle.granit_block_layout.specs.Alike.{kinds_of}
use Rattle.granit_canonical_steps.proofs.Known.{Knows, knows_tree}
use Rattle.granit_canonical_steps.proofs.Nodes.{colon_starts, dash_starts, question_starts}
use Rattle.granit_canonical_steps.proofs.Passing.{Passage, passage_one, passage_then, place_in}
use Rattle.granit_canonical_steps.proofs.Places.{Starts}
use Rattle.granit_canonical_steps.specs.Canonical.{Anchors, past_tree, spot}
use Rattle.granit_error.specs.OptionsData.{OptionsData}
use Rattle.granit_generator.specs.BlockText.{block_node, indent}
use Rattle.granit_language.specs.Node.{Asked, Just, Node, Pair, WithColon}
use Rattle.granit_language.specs.Placed.{PairPlaced, Placed, pair_front}
use Rattle.granit_language.specs.Room.{BlockIn, RightOf, ValueIn}
use Rattle.granit_language.specs.Telling.{events_told, one_less}
use Rattle.granit_language.specs.Terminal.{At, Colon, Dash, Question, Terminal, edge, terminal}
use Rattle.granit_language.specs.TreeEvents.{TreeEvent, node_events, pair_events}
use Rattle.granit_language.specs.Within.{node_within, pair_within}
use Rattle.granit_language.specs.Yield.{spell, spell_pair}
use Rattle.granit_machine.specs.ReaderState.{ReaderState}
use Rattle.granit_model.specs.Tree.{PlainTree, behind_tree, tree_depth}

-- one entry that is read
pub record EntryRead (o : OptionsData) (x : List ℕ) (cs : List ℕ) (c reach : ℕ) (here next : List ℕ) (s : ReaderState)
    (t : PlainTree) (a : Anchors) : Type 0 where
  pub after : ReaderState
  pub left : List ℕ
  pub dash : At
  pub node : Node
  pub passage : Passage o s a (past_tree t a) (λ more. terminal Dash dash ∷ spell node more) after
  pub ready : Ready x next [] left (Begun (one_less reach)) after
  pub closes : Closes reach left (c ∷ cs)
  pub stands : (edge dash == suc c) ≡ true
  pub follows : Follows x (suc c) here (terminal Dash dash)
  pub placed : (y : Terminal) → Follows x reach next y → Placed node (RightOf (suc c)) y
  pub within : (v : Bool) → node_within o.block_nesting_limit node (suc (length cs)) v ≡ v
  pub told : (more : List TreeEvent)
      → kinds_of (events_told o (node_events node None more)) ≡ tree_tells o t a (kinds_of (events_told o more))

-- one pair that is read
pub record PairRead (o : OptionsData) (x : List ℕ) (cs : List ℕ) (c reach : ℕ) (here next : List ℕ) (s : ReaderState)
    (k v : PlainTree) (a : Anchors) : Type 0 where
  pub after : ReaderState
  pub left : List ℕ
  pub pair : Pair
  pub passage : Passage o s a (past_tree v (past_tree k a)) (spell_pair pair) after
  pub ready : Ready x next [] left (Begun (one_less reach)) after
  pub closes : Closes reach left (c ∷ cs)
  pub follows : Follows x (suc c) here (pair_front pair)
  pub placed : (y : Terminal) → Follows x reach next y → PairPlaced pair (BlockIn (suc c)) y
  pub within : (b : Bool) → pair_within o.block_nesting_limit pair (suc (length cs)) b ≡ b
  pub told : (e : Mark) (more : List TreeEvent)
      → kinds_of (events_told o (pair_events pair (BlockIn (suc c)) e more))
      ≡ tree_tells o k a (tree_tells o v (past_tree k a) (kinds_of (events_told o more)))

in_edge : (n c : ℕ) → n ≡ c → (suc n == suc c) ≡ true
in_edge n c e = grind (arith, nat_tests)

module _ (o : OptionsData) (x : List ℕ) where
  -- a tree that is read wherever it stands behind a sign, its entries in a column
  abbrev pub Readable : PlainTree → List (List ℕ) → Type 0
  Readable t known =
      (cs : List ℕ) (d reach : ℕ) (next rest : List ℕ) (s : ReaderState) (a : Anchors) → bound cs ≤ d → reach ≤ d
      → Starts next → rest ≡ indent (one_less reach) [] ++ next → Knows known a
      → tree_depth t + length cs ≤ o.block_nesting_limit → tree_depth t ≤ o.flow_nesting_limit
      → Ready x (open_text d t rest) [] cs (leads (open_behind d t) (bound cs)) s
      → NodeRead o x cs reach next s a (past_tree t a) (tree_tells o t a)

  -- what stands behind a sign, by its gap
  sign_text : (sign d : ℕ) (t : PlainTree) (rest : List ℕ) → sign ∷ block_node d t rest
      ≡ sign ∷ (open_gap d t ++ open_text d t rest)
  sign_text sign d t rest = ap (λ (l : List ℕ). sign ∷ l) (opening d t rest)

  pub entry_read : (cs ds : List ℕ) (c reach : ℕ) (next rest : List ℕ) (s : ReaderState) (t : PlainTree) (a : Anchors)
      (known : List (List ℕ)) → Enters o.block_nesting_limit c ds cs → reach ≤ suc c → Starts next
      → rest ≡ indent (one_less reach) [] ++ next → Readable t known → Knows known a
      → tree_depth t + suc (length cs) ≤ o.block_nesting_limit → tree_depth t ≤ o.flow_nesting_limit
      → Ready x (0x2D ∷ block_node (c + 2) t rest) [] ds (Begun c) s
      → EntryRead o x cs c reach (0x2D ∷ block_node (c + 2) t rest) next s t a
  entry_read cs ds c reach next rest s t a known enters low st e tree knows deep flat ready =
      let d = c + 2 in
      let from = 0x2D ∷ (open_gap d t ++ open_text d t rest) in
      let same = sign_text 0x2D d t rest in
      let w = leads (open_behind d t) (suc c) in
      let q = reads_one o x [] [] ds (c ∷ cs) (Begun c) w (sorts.Placed sorts.DashSign) lexemes.Dash from
      (open_text d t rest) s (subst (λ (l : List ℕ). Ready x l [] ds (Begun c) s) same ready)
      (dash_starts (open_gap d t ++ open_text d t rest))
      (λ y b. takes_dash o x (open_behind d t) c ds cs (open_text d t rest) y (open_starts d t rest) enters b) in
      let n = tree (c ∷ cs) d reach next rest q.after a (omega arith) (omega (arith, low)) st e knows deep flat
      q.ready in
      let i = place_in a q.lexeme in
      let column = q.column in
      let first = passage_one o lexemes.Dash s a a q.read refl refl refl in
      record {
        after = n.after;
        left = n.left;
        dash = i;
        node = n.node;
        passage = passage_then o s q.after n.after a a (past_tree t a) (λ more. terminal Dash i ∷ more) (spell n.node)
            first n.passage;
        ready = n.ready;
        closes = n.closes;
        stands = in_edge (q.lexeme).start.place.column c column;
        follows = record {
          start = q.start_is ∙ ap (spot x) (sym same);
          reaches = omega (arith, column);
        };
        placed = n.placed (RightOf (suc c)) right_of;
        within = n.within;
        told = n.told None;
      }

  pub pair_read : (cs ds : List ℕ) (c reach : ℕ) (next rest : List ℕ) (s : ReaderState) (k v : PlainTree)
      (a : Anchors) (known : List (List ℕ)) → Enters o.block_nesting_limit c ds cs → reach ≤ suc c → Starts next
      → rest ≡ indent (one_less reach) [] ++ next → Readable k known → Readable v (behind_tree k known) → Knows known a
      → tree_depth k + suc (length cs) ≤ o.block_nesting_limit → tree_depth k ≤ o.flow_nesting_limit
      → tree_depth v + suc (length cs) ≤ o.block_nesting_limit → tree_depth v ≤ o.flow_nesting_limit
      → Ready x (block_pair c k v rest) [] ds (Begun c) s
      → PairRead o x cs c reach (block_pair c k v rest) next s k v a
  pair_read cs ds c reach next rest s k v a known enters low st e key value knows deep flat deep_value flat_value
      ready =
      let d = c + 2 in
      let colon = 0x3A ∷ block_node d v rest in
      let behind_key = indent c colon in
      let b = past_tree k a in
      let z = past_tree v b in
      let key_from = 0x3F ∷ (open_gap d k ++ open_text d k behind_key) in
      let same = sign_text 0x3F d k behind_key in
      let kw = leads (open_behind d k) (suc c) in
      let q = reads_one o x [] [] ds (c ∷ cs) (Begun c) kw (sorts.Placed sorts.QuestionSign) lexemes.Question key_from
      (open_text d k behind_key) s (subst (λ (l : List ℕ). Ready x l [] ds (Begun c) s) same ready)
      (question_starts (open_gap d k ++ open_text d k behind_key))
      (λ y f. takes_question o x (open_behind d k) c ds cs (open_text d k behind_key) y (open_starts d k behind_key)
      enters f) in
      let kn = key (c ∷ cs) d (suc c) colon behind_key q.after a (omega arith) (omega arith)
      (colon_starts (block_node d v rest)) (indent_front c colon) knows deep flat q.ready in
      let value_from = 0x3A ∷ (open_gap d v ++ open_text d v rest) in
      let same_value = sign_text 0x3A d v rest in
      let vw = leads (open_behind d v) (suc c) in
      let m = reads_one o x [] [] kn.left (c ∷ cs) (Begun c) vw (sorts.Placed sorts.ColonSign) lexemes.Colon value_from
      (open_text d v rest) kn.after
      (subst (λ (l : List ℕ). Ready x l [] kn.left (Begun c) kn.after) same_value kn.ready)
      (colon_starts (open_gap d v ++ open_text d v rest))
      (λ y f. takes_colon o x (open_behind d v) c kn.left cs (open_text d v rest) y (open_starts d v rest)
      (again (kn.closes ∙ up_self c cs)) f) in
      let vn = value (c ∷ cs) d reach next rest m.after b (omega arith) (omega (arith, low)) st e
      (knows_tree k known a knows) deep_value flat_value m.ready in
      let i = place_in a q.lexeme in
      let j = place_in b m.lexeme in
      let in_key = q.column in
      let in_colon = m.column in
      let first = passage_one o lexemes.Question s a a q.read refl refl refl in
      let third = passage_one o lexemes.Colon kn.after b b m.read refl refl refl in
      let asked = λ (more : List Terminal). terminal Question i ∷ more in
      let parted = λ (more : List Terminal). terminal (Colon None) j ∷ more in
      let rear = passage_then o kn.after m.after vn.after b b z parted (spell vn.node) third vn.passage in
      let body = passage_then o q.after kn.after vn.after a b z (spell kn.node) (λ more. parted (spell vn.node more))
      kn.passage rear in
      record {
        after = vn.after;
        left = vn.left;
        pair = WithColon (Asked i (Just kn.node)) j (Just vn.node);
        passage = passage_then o s q.after vn.after a a z asked (λ more. spell kn.node (parted (spell vn.node more)))
            first body;
        ready = vn.ready;
        closes = vn.closes;
        follows = record { start = q.start_is ∙ ap (spot x) (sym same); reaches = omega (arith, in_key) };
        placed = λ y f. (
          (
            in_edge (q.lexeme).start.place.column c in_key,
            kn.placed (ValueIn (suc c)) value_in (terminal (Colon None) j) (record {
              start = m.start_is ∙ ap (spot x) (sym same_value);
              reaches = omega (arith, in_colon);
            }),
            in_edge (m.lexeme).start.place.column c in_colon,
          ),
          vn.placed (ValueIn (suc c)) value_in y f,
        );
        within = λ w. vn.within (node_within o.block_nesting_limit kn.node (suc (length cs)) w) ∙ kn.within w;
        told = λ p more. kn.told (Some (suc c)) (node_events vn.node None more)
            ∙ ap (tree_tells o k a) (vn.told None more);
      }
