-- Events as nodes one behind the other, of which each mapping holds an even number (YAML 1.2.2, 3.2.1).
use Rattle.std.specs.Prelude.{◌≡◌, ℕ, zero, suc, Bool, true, false, not, List, [], ◌∷◌}
use Rattle.granit_lexemes.specs.PlainEvent.{PlainEvent, EventKind, Alias, UnresolvedAlias, Scalar}
use Rattle.granit_lexemes.specs.PlainEvent.{SequenceStart, SequenceEnd, MappingStart, MappingEnd}

abbrev pub is_even : ℕ → Bool
is_even zero = true
is_even (suc n) = not (is_even n)

-- a node of one event
abbrev pub is_leaf : EventKind → Bool
is_leaf (Alias n) = true
is_leaf (UnresolvedAlias name) = true
is_leaf (Scalar text style anchor tag) = true
is_leaf kind = false

abbrev pub starts_sequence : EventKind → Bool
starts_sequence (SequenceStart style anchor tag) = true
starts_sequence kind = false

abbrev pub starts_mapping : EventKind → Bool
starts_mapping (MappingStart style anchor tag) = true
starts_mapping kind = false

-- no node's: comments, anchors, and what begins and ends documents and the stream
abbrev pub is_beside_nodes : EventKind → Bool
is_beside_nodes (Alias n) = false
is_beside_nodes (UnresolvedAlias name) = false
is_beside_nodes (Scalar text style anchor tag) = false
is_beside_nodes (SequenceStart style anchor tag) = false
is_beside_nodes SequenceEnd = false
is_beside_nodes (MappingStart style anchor tag) = false
is_beside_nodes MappingEnd = false
is_beside_nodes kind = true

-- events that begin with so many whole nodes, and what stands behind them
pub data Nodes : ℕ → List PlainEvent → List PlainEvent → Type 0 where
  no_node : {rest : List PlainEvent} → Nodes 0 rest rest
  beside_nodes :
      {n : ℕ} {e : PlainEvent} {es rest : List PlainEvent} → is_beside_nodes e.kind ≡ true → Nodes n es rest →
      Nodes n (e ∷ es) rest
  leaf_node :
      {n : ℕ} {e : PlainEvent} {es rest : List PlainEvent} → is_leaf e.kind ≡ true → Nodes n es rest →
      Nodes (suc n) (e ∷ es) rest
  sequence_node :
      {m n : ℕ} {e f : PlainEvent} {es gs rest : List PlainEvent} → starts_sequence e.kind ≡ true →
      Nodes m es (f ∷ gs) → f.kind ≡ SequenceEnd → Nodes n gs rest → Nodes (suc n) (e ∷ es) rest
  mapping_node :
      {m n : ℕ} {e f : PlainEvent} {es gs rest : List PlainEvent} → starts_mapping e.kind ≡ true →
      is_even m ≡ true → Nodes m es (f ∷ gs) → f.kind ≡ MappingEnd → Nodes n gs rest → Nodes (suc n) (e ∷ es) rest

-- all of these events are whole nodes and what stands beside them
abbrev pub AreNodes : List PlainEvent → Type 0
AreNodes es = (n : ℕ) × Nodes n es []
