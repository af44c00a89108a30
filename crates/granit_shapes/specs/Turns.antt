-- Mappings in pairs: what the next node of each open collection is, by the events before it (YAML 1.2.2, 3.2.1).
use Rattle.std.specs.Prelude.{◌≡◌, ℕ, List, [], ◌∷◌, Option, Some, None, map, Result, Ok, Err}
use Rattle.granit_error.specs.OptionsData.{default_options}
use Rattle.granit_lexemes.specs.Here.{mark_of, start_of}
use Rattle.granit_lexemes.specs.PlainEvent.{PlainEvent, EventKind, Alias, UnresolvedAlias, Scalar, event_on}
use Rattle.granit_lexemes.specs.PlainEvent.{SequenceStart, SequenceEnd, MappingStart, MappingEnd}
use Rattle.granit_lexemes.specs.Outcome.{Fault}
use Rattle.granit_machine.specs.Machine.{run}

-- the next node of an open collection: any in a sequence, a key or a value in a mapping
pub data NextNode : Type 0 where
  AnyNode KeyNode ValueNode : NextNode

-- a whole node stands in the innermost collection, or in none
abbrev pub node_passed : List NextNode → List NextNode
node_passed [] = []
node_passed (AnyNode ∷ ns) = AnyNode ∷ ns
node_passed (KeyNode ∷ ns) = ValueNode ∷ ns
node_passed (ValueNode ∷ ns) = KeyNode ∷ ns

abbrev pub sequence_passed : List NextNode → Option (List NextNode)
sequence_passed (AnyNode ∷ ns) = Some (node_passed ns)
sequence_passed ns = None

-- a mapping ends behind a value, or behind its start
abbrev pub mapping_passed : List NextNode → Option (List NextNode)
mapping_passed (KeyNode ∷ ns) = Some (node_passed ns)
mapping_passed ns = None

-- behind an event: comments, anchors and what begins and ends documents change nothing
abbrev pub event_passed : EventKind → List NextNode → Option (List NextNode)
event_passed (Alias n) ns = Some (node_passed ns)
event_passed (UnresolvedAlias name) ns = Some (node_passed ns)
event_passed (Scalar text style anchor tag) ns = Some (node_passed ns)
event_passed (SequenceStart style anchor tag) ns = Some (AnyNode ∷ ns)
event_passed SequenceEnd ns = sequence_passed ns
event_passed (MappingStart style anchor tag) ns = Some (KeyNode ∷ ns)
event_passed MappingEnd ns = mapping_passed ns
event_passed kind ns = Some ns

abbrev pub passed_then : Option (List NextNode) → (List NextNode → Option (List NextNode)) → Option (List NextNode)
passed_then None f = None
passed_then (Some ns) f = f ns

abbrev pub events_passed : List PlainEvent → List NextNode → Option (List NextNode)
events_passed [] ns = Some ns
events_passed (e ∷ es) ns = passed_then (event_passed e.kind ns) (events_passed es)

-- in each mapping keys and values take turns, and behind the last value it ends
abbrev pub InPairs : List PlainEvent → Type 0
InPairs es = events_passed es [] ≡ Some []

-- ---- for the examples

abbrev pub kinds_passed : List EventKind → Option (List NextNode)
kinds_passed kinds = events_passed (map (λ kind. event_on kind (mark_of (start_of []))) kinds) []

abbrev pub answer_passed : Result (List PlainEvent) Fault → Option (List NextNode)
answer_passed (Ok es) = events_passed es []
answer_passed (Err f) = None

-- what is left open by the answer of a text
abbrev pub text_passed : List ℕ → Option (List NextNode)
text_passed x = answer_passed (run default_options x)
