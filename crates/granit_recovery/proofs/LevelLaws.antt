-- What the events of a stream leave open can be closed.
pub use Rattle.granit_streams.proofs.StreamLaws.{end_behind}
use Rattle.std.proofs.Common.{◌≡◌, List, [], ◌∷◌, ◌++◌, Option, Some, None, refl, sym, ap, subst, ◌∙◌}
use Rattle.granit_base.specs.Place.{Mark}
use Rattle.granit_lexemes.specs.PlainEvent.{PlainEvent, EventKind, event_on, StreamStart, StreamEnd, DocumentStart}
use Rattle.granit_lexemes.specs.PlainEvent.{DocumentEnd, Alias, UnresolvedAlias, Anchor, Comment, Scalar, SequenceStart}
use Rattle.granit_lexemes.specs.PlainEvent.{SequenceEnd, MappingStart, MappingEnd}
use Rattle.granit_streams.proofs.Nesting.{behind_append}
use Rattle.granit_steps.specs.Levels.{Level, InStream, BeforeNode, BehindNode, InSequence, InMapping, node_done}
use Rattle.granit_steps.specs.Levels.{node_begun, sequence_ends, mapping_ends, document_begins, document_ends}
use Rattle.granit_steps.specs.Levels.{stream_ends, behind_event, and_then, behind_events}

-- a document before its node, and collections in it
pub data Within : List Level → Type 0 where
  in_document : Within (BeforeNode ∷ InStream ∷ [])
  in_sequence : {ls : List Level} → Within ls → Within (InSequence ∷ ls)
  in_mapping : {ls : List Level} → Within ls → Within (InMapping ∷ ls)

-- what may be open in a stream
pub data Open : List Level → Type 0 where
  all_closed : Open []
  in_stream : Open (InStream ∷ [])
  behind_node : Open (BehindNode ∷ InStream ∷ [])
  within : {ls : List Level} → Within ls → Open ls

-- ---- events it so

-- what is behind a node that stands within
abbrev done : {ls : List Level} → Within ls → List Level
done in_document = BehindNode ∷ InStream ∷ []
done (in_sequence {ls = ls} w) = InSequence ∷ ls
done (in_mapping {ls = ls} w) = InMapping ∷ ls

done_is : {ls : List Level} → (w : Within ls) → node_done ls ≡ Some (done w)
done_is in_document = refl
done_is (in_sequence w) = refl
done_is (in_mapping w) = refl

done_open : {ls : List Level} → (w : Within ls) → Open (done w)
done_open in_document = behind_node
done_open (in_sequence w) = within (in_sequence w)
done_open (in_mapping w) = within (in_mapping w)

same_open : (ls ms : List Level) → Some ls ≡ Some ms → Open ls → Open ms
same_open ls ms e p = let s : ls ≡ ms = cc in subst Open s p

node_keeps : (ls ms : List Level) → Open ls → node_done ls ≡ Some ms → Open ms
node_keeps ls ms all_closed e = absurd (cc)
node_keeps ls ms in_stream e = absurd (cc)
node_keeps ls ms behind_node e = absurd (cc)
node_keeps ls ms (within w) e = same_open (done w) ms (sym (done_is w) ∙ e) (done_open w)

sequence_begins : (ls ms : List Level) → Open ls → node_begun InSequence ls ≡ Some ms → Open ms
sequence_begins ls ms all_closed e = absurd (cc)
sequence_begins ls ms in_stream e = absurd (cc)
sequence_begins ls ms behind_node e = absurd (cc)
sequence_begins ls ms (within in_document) e = same_open _ ms e (within (in_sequence in_document))
sequence_begins ls ms (within (in_sequence w)) e = same_open _ ms e (within (in_sequence (in_sequence w)))
sequence_begins ls ms (within (in_mapping w)) e = same_open _ ms e (within (in_sequence (in_mapping w)))

mapping_begins : (ls ms : List Level) → Open ls → node_begun InMapping ls ≡ Some ms → Open ms
mapping_begins ls ms all_closed e = absurd (cc)
mapping_begins ls ms in_stream e = absurd (cc)
mapping_begins ls ms behind_node e = absurd (cc)
mapping_begins ls ms (within in_document) e = same_open _ ms e (within (in_mapping in_document))
mapping_begins ls ms (within (in_sequence w)) e = same_open _ ms e (within (in_mapping (in_sequence w)))
mapping_begins ls ms (within (in_mapping w)) e = same_open _ ms e (within (in_mapping (in_mapping w)))

sequence_keeps : (ls ms : List Level) → Open ls → sequence_ends ls ≡ Some ms → Open ms
sequence_keeps ls ms all_closed e = absurd (cc)
sequence_keeps ls ms in_stream e = absurd (cc)
sequence_keeps ls ms behind_node e = absurd (cc)
sequence_keeps ls ms (within in_document) e = absurd (cc)
sequence_keeps ls ms (within (in_sequence {ls = ks} w)) e = node_keeps ks ms (within w) e
sequence_keeps ls ms (within (in_mapping w)) e = absurd (cc)

mapping_keeps : (ls ms : List Level) → Open ls → mapping_ends ls ≡ Some ms → Open ms
mapping_keeps ls ms all_closed e = absurd (cc)
mapping_keeps ls ms in_stream e = absurd (cc)
mapping_keeps ls ms behind_node e = absurd (cc)
mapping_keeps ls ms (within in_document) e = absurd (cc)
mapping_keeps ls ms (within (in_sequence w)) e = absurd (cc)
mapping_keeps ls ms (within (in_mapping {ls = ks} w)) e = node_keeps ks ms (within w) e

document_keeps : (ls ms : List Level) → Open ls → document_begins ls ≡ Some ms → Open ms
document_keeps ls ms all_closed e = absurd (cc)
document_keeps ls ms in_stream e = same_open _ ms e (within in_document)
document_keeps ls ms behind_node e = absurd (cc)
document_keeps ls ms (within in_document) e = absurd (cc)
document_keeps ls ms (within (in_sequence w)) e = absurd (cc)
document_keeps ls ms (within (in_mapping w)) e = absurd (cc)

-- behind a document the stream alone is open
pub document_leaves : (ls ms : List Level) → Open ls → document_ends ls ≡ Some ms → ms ≡ InStream ∷ []
document_leaves ls ms all_closed e = absurd (cc)
document_leaves ls ms in_stream e = absurd (cc)
document_leaves ls ms behind_node e = cc
document_leaves ls ms (within in_document) e = absurd (cc)
document_leaves ls ms (within (in_sequence w)) e = absurd (cc)
document_leaves ls ms (within (in_mapping w)) e = absurd (cc)

-- and so before the end of the stream
pub stream_leaves : (ls ms : List Level) → Open ls → stream_ends ls ≡ Some ms → (ls ≡ InStream ∷ []) × (ms ≡ [])
stream_leaves ls ms all_closed e = absurd (cc)
stream_leaves ls ms in_stream e = (refl, cc)
stream_leaves ls ms behind_node e = absurd (cc)
stream_leaves ls ms (within in_document) e = absurd (cc)
stream_leaves ls ms (within (in_sequence w)) e = absurd (cc)
stream_leaves ls ms (within (in_mapping w)) e = absurd (cc)

pub event_keeps : (kind : EventKind) (ls ms : List Level) → Open ls → behind_event kind ls ≡ Some ms → Open ms
event_keeps StreamStart ls ms p e = absurd (cc)
event_keeps StreamEnd ls ms p e = subst Open (sym (stream_leaves ls ms p e).1) all_closed
event_keeps (DocumentStart explicit version) ls ms p e = document_keeps ls ms p e
event_keeps DocumentEnd ls ms p e = subst Open (sym (document_leaves ls ms p e)) in_stream
event_keeps (Alias n) ls ms p e = node_keeps ls ms p e
event_keeps (UnresolvedAlias name) ls ms p e = node_keeps ls ms p e
event_keeps (Anchor n name) ls ms p e = same_open ls ms e p
event_keeps (Comment text placement) ls ms p e = same_open ls ms e p
event_keeps (Scalar text style anchor tag) ls ms p e = node_keeps ls ms p e
event_keeps (SequenceStart style anchor tag) ls ms p e = sequence_begins ls ms p e
event_keeps SequenceEnd ls ms p e = sequence_keeps ls ms p e
event_keeps (MappingStart style anchor tag) ls ms p e = mapping_begins ls ms p e
event_keeps MappingEnd ls ms p e = mapping_keeps ls ms p e

-- what the first of some events leaves
pub record Split (kind : EventKind) (es : List PlainEvent) (ls ms : List Level) : Type 0 where
  pub behind : List Level
  pub first : behind_event kind ls ≡ Some behind
  pub rest : behind_events es behind ≡ Some ms

split_by : (kind : EventKind) (es : List PlainEvent) (ls ms : List Level) (r : Option (List Level))
    → behind_event kind ls ≡ r → and_then r (behind_events es) ≡ Some ms → Split kind es ls ms
split_by kind es ls ms None is e = absurd (cc)
split_by kind es ls ms (Some ks) is e = record { behind = ks; first = is; rest = e }

pub split : (x : PlainEvent) (es : List PlainEvent) (ls ms : List Level) → behind_events (x ∷ es) ls ≡ Some ms
    → Split x.kind es ls ms
split x es ls ms e = split_by x.kind es ls ms (behind_event x.kind ls) refl e

pub events_keep : (es : List PlainEvent) (ls ms : List Level) → Open ls → behind_events es ls ≡ Some ms → Open ms
events_keep [] ls ms p e = same_open ls ms e p
events_keep (x ∷ es) ls ms p e =
    let s = split x es ls ms e in events_keep es s.behind ms (event_keeps x.kind ls s.behind p s.first) s.rest

-- ---- what is open can be closed

record Closes (ls : List Level) : Type 0 where
  events : List PlainEvent
  close : behind_events events ls ≡ Some []

then_closes : (m : Mark) (kind : EventKind) (ls ms : List Level) → behind_event kind ls ≡ Some ms → Closes ms
    → Closes ls
then_closes m kind ls ms e c = record {
  events = event_on kind m ∷ c.events;
  close = ap (λ x. and_then x (behind_events c.events)) e ∙ c.close;
}

done_closes : (m : Mark) {ls : List Level} → (w : Within ls) → Closes (done w)
done_closes m in_document = record { events = event_on DocumentEnd m ∷ event_on StreamEnd m ∷ []; close = refl }
done_closes m (in_sequence {ls = ls} w) = then_closes m SequenceEnd (InSequence ∷ ls) (done w) (done_is w)
    (done_closes m w)
done_closes m (in_mapping {ls = ls} w) = then_closes m MappingEnd (InMapping ∷ ls) (done w) (done_is w)
    (done_closes m w)

closes : (m : Mark) (ls : List Level) → Open ls → Closes ls
closes m ls all_closed = record { events = []; close = refl }
closes m ls in_stream = record { events = event_on StreamEnd m ∷ []; close = refl }
closes m ls behind_node = record { events = event_on DocumentEnd m ∷ event_on StreamEnd m ∷ []; close = refl }
closes m ls (within w) = then_closes m (Alias 0) ls (done w) (done_is w) (done_closes m w)

-- events that may come leave what other events close
pub record Closed (es : List PlainEvent) (ls : List Level) : Type 0 where
  pub more : List PlainEvent
  pub all : behind_events (es ++ more) ls ≡ Some []

pub can_close : (m : Mark) (es : List PlainEvent) (ls ms : List Level) → Open ls → behind_events es ls ≡ Some ms
    → Closed es ls
can_close m es ls ms p e =
    let c = closes m ms (events_keep es ls ms p e) in
    record {
      more = c.events;
      all = behind_append es c.events ls ∙ ap (λ x. and_then x (behind_events c.events)) e ∙ c.close;
    }
