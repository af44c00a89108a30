-- Events in pairs are nodes of which each mapping holds an even number.
use Rattle.std.proofs.Common.{◌≡◌, ℕ, suc, Bool, true, false, List, [], ◌∷◌, Some, refl, ap}
use Rattle.std.specs.Prelude.{not}
use Rattle.granit_lexemes.specs.PlainEvent.{PlainEvent, EventKind, Alias, UnresolvedAlias, Scalar}
use Rattle.granit_lexemes.specs.PlainEvent.{SequenceStart, SequenceEnd, MappingStart, MappingEnd}
use Rattle.granit_shapes.specs.EvenNodes.{is_even, is_leaf, is_beside_nodes, starts_sequence, starts_mapping, Nodes}
use Rattle.granit_shapes.specs.EvenNodes.{no_node, beside_nodes, leaf_node, sequence_node, mapping_node, AreNodes}
use Rattle.granit_shapes.specs.Turns.{NextNode, AnyNode, KeyNode, ValueNode, node_passed, event_passed, passed_then}
use Rattle.granit_shapes.specs.Turns.{events_passed, InPairs}

-- how many nodes are still to come where one of a kind is next
abbrev Due : NextNode → ℕ → Type 0
Due AnyNode n = Unit {0}
Due KeyNode n = is_even n ≡ true
Due ValueNode n = is_even n ≡ false

abbrev end_of : NextNode → EventKind
end_of AnyNode = SequenceEnd
end_of next = MappingEnd

-- behind whole nodes stands the end of a collection, and then something holds
record Inside (next : NextNode) (es : List PlainEvent) (Q : List PlainEvent → Type 0) : Type 0 where
  n : ℕ
  last : PlainEvent
  behind : List PlainEvent
  nodes : Nodes n es (last ∷ behind)
  due : Due next n
  ends : last.kind ≡ end_of next
  more : Q behind

abbrev turned : Bool → NextNode → NextNode
turned true KeyNode = ValueNode
turned true ValueNode = KeyNode
turned b next = next

-- what closes all open collections, where a node of the innermost one is to be counted or not
abbrev Closes : Bool → List NextNode → List PlainEvent → Type 0
Closes b [] es = AreNodes es
Closes b (next ∷ ns) es = Inside (turned b next) es (Closes true ns)

counted : (ns : List NextNode) (es : List PlainEvent) → Closes false (node_passed ns) es → Closes true ns es
counted [] es c = c
counted (AnyNode ∷ ns) es c = c
counted (KeyNode ∷ ns) es c = c
counted (ValueNode ∷ ns) es c = c

uncounted : (ns : List NextNode) (es : List PlainEvent) → Closes true ns es → Closes false (node_passed ns) es
uncounted [] es c = c
uncounted (AnyNode ∷ ns) es c = c
uncounted (KeyNode ∷ ns) es c = c
uncounted (ValueNode ∷ ns) es c = c

-- a node in front
one_more : (ns : List NextNode) (es fs : List PlainEvent)
    → ((n : ℕ) (rest : List PlainEvent) → Nodes n es rest → Nodes (suc n) fs rest)
    → Closes false (node_passed ns) es → Closes false ns fs
one_more [] es fs f (n, d) = (suc n, f n [] d)
one_more (AnyNode ∷ ns) es fs f c = record {
  n = suc c.n;
  last = c.last;
  behind = c.behind;
  nodes = f c.n (c.last ∷ c.behind) c.nodes;
  due = tt;
  ends = c.ends;
  more = c.more;
}
one_more (KeyNode ∷ ns) es fs f c = record {
  n = suc c.n;
  last = c.last;
  behind = c.behind;
  nodes = f c.n (c.last ∷ c.behind) c.nodes;
  due = ap not c.due;
  ends = c.ends;
  more = c.more;
}
one_more (ValueNode ∷ ns) es fs f c = record {
  n = suc c.n;
  last = c.last;
  behind = c.behind;
  nodes = f c.n (c.last ∷ c.behind) c.nodes;
  due = ap not c.due;
  ends = c.ends;
  more = c.more;
}

-- an event of no node in front
beside : (ns : List NextNode) (e : PlainEvent) (es : List PlainEvent)
    → is_beside_nodes e.kind ≡ true → Closes false ns es
    → Closes false ns (e ∷ es)
beside [] e es p (n, d) = (n, beside_nodes p d)
beside (next ∷ ns) e es p c = record {
  n = c.n;
  last = c.last;
  behind = c.behind;
  nodes = beside_nodes p c.nodes;
  due = c.due;
  ends = c.ends;
  more = c.more;
}

module _ (e : PlainEvent) (es : List PlainEvent)
    (later : (ns : List NextNode) → events_passed es ns ≡ Some [] → Closes false ns es) where
  leaf : (ns : List NextNode) → is_leaf e.kind ≡ true → events_passed es (node_passed ns) ≡ Some []
      → Closes false ns (e ∷ es)
  leaf ns l p = one_more ns es (e ∷ es) (λ n rest d. leaf_node l d) (later (node_passed ns) p)

  sequence : (ns : List NextNode) → starts_sequence e.kind ≡ true → events_passed es (AnyNode ∷ ns) ≡ Some []
      → Closes false ns (e ∷ es)
  sequence ns s p =
      let c = later (AnyNode ∷ ns) p in
      one_more ns c.behind (e ∷ es) (λ n rest d. sequence_node s c.nodes c.ends d) (uncounted ns c.behind c.more)

  mapping : (ns : List NextNode) → starts_mapping e.kind ≡ true → events_passed es (KeyNode ∷ ns) ≡ Some []
      → Closes false ns (e ∷ es)
  mapping ns s p =
      let c = later (KeyNode ∷ ns) p in
      one_more ns c.behind (e ∷ es) (λ n rest d. mapping_node s c.due c.nodes c.ends d)
      (uncounted ns c.behind c.more)

  ended : (next : NextNode) (ns : List NextNode) → Due next 0 → e.kind ≡ end_of next
      → events_passed es (node_passed ns) ≡ Some [] → Inside next (e ∷ es) (Closes true ns)
  ended next ns due q p = record {
    n = 0;
    last = e;
    behind = es;
    nodes = no_node;
    due = due;
    ends = q;
    more = counted ns es (later (node_passed ns) p);
  }

  by_kind : (k : EventKind) → e.kind ≡ k → (ns : List NextNode)
      → passed_then (event_passed k ns) (events_passed es) ≡ Some [] → Closes false ns (e ∷ es)
  by_kind (Alias n) q ns p = leaf ns (ap is_leaf q) p
  by_kind (UnresolvedAlias name) q ns p = leaf ns (ap is_leaf q) p
  by_kind (Scalar text style anchor tag) q ns p = leaf ns (ap is_leaf q) p
  by_kind (SequenceStart style anchor tag) q ns p = sequence ns (ap starts_sequence q) p
  by_kind (MappingStart style anchor tag) q ns p = mapping ns (ap starts_mapping q) p
  by_kind SequenceEnd q (AnyNode ∷ ns) p = ended AnyNode ns tt q p
  by_kind SequenceEnd q [] p = absurd cc
  by_kind SequenceEnd q (KeyNode ∷ ns) p = absurd cc
  by_kind SequenceEnd q (ValueNode ∷ ns) p = absurd cc
  by_kind MappingEnd q (KeyNode ∷ ns) p = ended KeyNode ns refl q p
  by_kind MappingEnd q [] p = absurd cc
  by_kind MappingEnd q (AnyNode ∷ ns) p = absurd cc
  by_kind MappingEnd q (ValueNode ∷ ns) p = absurd cc
  by_kind kind q ns p = beside ns e es (ap is_beside_nodes q) (later ns p)

all_closed : (es : List PlainEvent) (ns : List NextNode) → events_passed es ns ≡ Some [] → Closes false ns es
all_closed [] [] p = (0, no_node)
all_closed [] (n ∷ ns) p = absurd cc
all_closed (e ∷ es) ns p = by_kind e es (all_closed es) e.kind refl ns p

pub pairs_are_nodes : (es : List PlainEvent) → InPairs es → AreNodes es
pairs_are_nodes es p = all_closed es [] p
