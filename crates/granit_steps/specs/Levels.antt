-- Well-formed events: a stream of documents, each with one node, whose collections close in order.
use Rattle.std.specs.Prelude.{◌≡◌, List, [], ◌∷◌, ◌++◌, Option, Some, None}
use Rattle.granit_lexemes.specs.PlainEvent.{PlainEvent, EventKind, StreamStart, StreamEnd, DocumentStart, DocumentEnd}
use Rattle.granit_lexemes.specs.PlainEvent.{Alias, UnresolvedAlias, Anchor, Comment, Scalar, SequenceStart, SequenceEnd}
use Rattle.granit_lexemes.specs.PlainEvent.{MappingStart, MappingEnd}

-- what is open: a stream, a document before or behind its node, a collection
pub data Level : Type 0 where
  InStream BeforeNode BehindNode InSequence InMapping : Level

-- where a node stands, and is finished
abbrev pub node_done : List Level → Option (List Level)
node_done (BeforeNode ∷ ls) = Some (BehindNode ∷ ls)
node_done (InSequence ∷ ls) = Some (InSequence ∷ ls)
node_done (InMapping ∷ ls) = Some (InMapping ∷ ls)
node_done ls = None

-- where a node stands, and is begun
abbrev pub node_begun : Level → List Level → Option (List Level)
node_begun l (BeforeNode ∷ ls) = Some (l ∷ BeforeNode ∷ ls)
node_begun l (InSequence ∷ ls) = Some (l ∷ InSequence ∷ ls)
node_begun l (InMapping ∷ ls) = Some (l ∷ InMapping ∷ ls)
node_begun l ls = None

abbrev pub sequence_ends : List Level → Option (List Level)
sequence_ends (InSequence ∷ ls) = node_done ls
sequence_ends ls = None

abbrev pub mapping_ends : List Level → Option (List Level)
mapping_ends (InMapping ∷ ls) = node_done ls
mapping_ends ls = None

abbrev pub document_begins : List Level → Option (List Level)
document_begins (InStream ∷ ls) = Some (BeforeNode ∷ InStream ∷ ls)
document_begins ls = None

abbrev pub document_ends : List Level → Option (List Level)
document_ends (BehindNode ∷ ls) = Some ls
document_ends ls = None

abbrev pub stream_ends : List Level → Option (List Level)
stream_ends (InStream ∷ []) = Some []
stream_ends ls = None

-- what an event leaves open, where it may stand: comments and anchors change nothing, and within a stream none begins
abbrev pub behind_event : EventKind → List Level → Option (List Level)
behind_event StreamStart ls = None
behind_event StreamEnd ls = stream_ends ls
behind_event (DocumentStart explicit version) ls = document_begins ls
behind_event DocumentEnd ls = document_ends ls
behind_event (Alias n) ls = node_done ls
behind_event (UnresolvedAlias name) ls = node_done ls
behind_event (Anchor n name) ls = Some ls
behind_event (Comment text placement) ls = Some ls
behind_event (Scalar text style anchor tag) ls = node_done ls
behind_event (SequenceStart style anchor tag) ls = node_begun InSequence ls
behind_event SequenceEnd ls = sequence_ends ls
behind_event (MappingStart style anchor tag) ls = node_begun InMapping ls
behind_event MappingEnd ls = mapping_ends ls

abbrev pub and_then : Option (List Level) → (List Level → Option (List Level)) → Option (List Level)
and_then None f = None
and_then (Some ls) f = f ls

abbrev pub behind_events : List PlainEvent → List Level → Option (List Level)
behind_events [] ls = Some ls
behind_events (e ∷ es) ls = and_then (behind_event e.kind ls) (behind_events es)

-- what the events of a stream leave open, where they may stand: the first one begins the stream
abbrev pub levels_behind_first : EventKind → List PlainEvent → Option (List Level)
levels_behind_first StreamStart es = behind_events es (InStream ∷ [])
levels_behind_first kind es = None

abbrev pub stream_levels : List PlainEvent → Option (List Level)
stream_levels [] = None
stream_levels (e ∷ es) = levels_behind_first e.kind es

-- a whole stream: it begins first and ends last, each document has one node, and all is closed in order
abbrev pub IsStream : List PlainEvent → Type 0
IsStream es = stream_levels es ≡ Some []

-- events behind which a whole stream may go on
abbrev pub BeginsStream : List PlainEvent → Type 0
BeginsStream es = (more : List PlainEvent) × IsStream (es ++ more)
