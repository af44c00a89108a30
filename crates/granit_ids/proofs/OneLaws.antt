-- Events that stand strictly, of which at most one starts a document, are those of one document.
use Rattle.std.proofs.Common.{◌≡◌, ◌≤◌, ℕ, ◌+◌, Bool, true, false, List, [], ◌∷◌, Option, Some, None, refl, sym}
use Rattle.std.proofs.Common.{ap, subst, ◌∙◌, arith}
use Rattle.granit_lexemes.specs.PlainEvent.{PlainEvent, EventKind, StreamStart, StreamEnd, DocumentStart, DocumentEnd}
use Rattle.granit_lexemes.specs.PlainEvent.{Alias, UnresolvedAlias, Anchor, Comment, Scalar, SequenceStart, SequenceEnd}
use Rattle.granit_lexemes.specs.PlainEvent.{MappingStart, MappingEnd}
use Rattle.granit_ids.proofs.AnchorOrder.{is_anchor, is_node}
use Rattle.granit_recovery.proofs.LevelLaws.{Open, document_leaves, event_keeps, in_document, stream_leaves, within}
use Rattle.granit_ids.specs.OneDocument.{BehindStart, document_starts, EventFits, OneDocument, StandStrictly}
use Rattle.granit_ids.specs.OneDocument.{starts_in, strict_event, strict_events}
use Rattle.granit_steps.specs.Levels.{Level, InStream, BeforeNode, BehindNode, InSequence, InMapping, and_then}
use Rattle.granit_steps.specs.Levels.{behind_event, mapping_ends, node_begun, node_done, sequence_ends}

-- a document is open
abbrev pub Inside : List Level → Type 0
Inside [] = ⊥
Inside (InStream ∷ ls) = ⊥
Inside ls = Unit {0}

-- ---- what events leave open in a document

same_inside : (ls ms : List Level) → Some ls ≡ Some ms → Inside ls → Inside ms
same_inside ls ms e i = let same : ls ≡ ms = cc in subst (λ x. Inside x) same i

done_inside : (ls ms : List Level) → node_done ls ≡ Some ms → Inside ms
done_inside [] ms e = absurd (cc)
done_inside (InStream ∷ ls) ms e = absurd (cc)
done_inside (BeforeNode ∷ ls) ms e = same_inside (BehindNode ∷ ls) ms e tt
done_inside (BehindNode ∷ ls) ms e = absurd (cc)
done_inside (InSequence ∷ ls) ms e = same_inside (InSequence ∷ ls) ms e tt
done_inside (InMapping ∷ ls) ms e = same_inside (InMapping ∷ ls) ms e tt

begun_inside : (l : Level) (ls ms : List Level) → ((xs : List Level) → Inside (l ∷ xs)) → node_begun l ls ≡ Some ms
    → Inside ms
begun_inside l [] ms w e = absurd (cc)
begun_inside l (InStream ∷ ls) ms w e = absurd (cc)
begun_inside l (BeforeNode ∷ ls) ms w e = same_inside (l ∷ BeforeNode ∷ ls) ms e (w (BeforeNode ∷ ls))
begun_inside l (BehindNode ∷ ls) ms w e = absurd (cc)
begun_inside l (InSequence ∷ ls) ms w e = same_inside (l ∷ InSequence ∷ ls) ms e (w (InSequence ∷ ls))
begun_inside l (InMapping ∷ ls) ms w e = same_inside (l ∷ InMapping ∷ ls) ms e (w (InMapping ∷ ls))

sequence_inside : (ls ms : List Level) → sequence_ends ls ≡ Some ms → Inside ms
sequence_inside (InSequence ∷ ls) ms e = done_inside ls ms e
sequence_inside ls ms e = absurd (cc)

mapping_inside : (ls ms : List Level) → mapping_ends ls ≡ Some ms → Inside ms
mapping_inside (InMapping ∷ ls) ms e = done_inside ls ms e
mapping_inside ls ms e = absurd (cc)

pub node_inside : (kind : EventKind) (ls ms : List Level) → is_node kind ≡ true → behind_event kind ls ≡ Some ms
    → Inside ms
node_inside (Alias n) ls ms node e = done_inside ls ms e
node_inside (UnresolvedAlias name) ls ms node e = done_inside ls ms e
node_inside (Scalar text style anchor tag) ls ms node e = done_inside ls ms e
node_inside (SequenceStart style anchor tag) ls ms node e = begun_inside InSequence ls ms (λ xs. tt) e
node_inside (MappingStart style anchor tag) ls ms node e = begun_inside InMapping ls ms (λ xs. tt) e
node_inside kind ls ms node e = absurd (cc)

-- ---- strictly

pub strict_first : (kind : EventKind) (ls ms : List Level) → behind_event kind ls ≡ Some ms → (ls ≡ [] → ⊥)
    → (is_anchor kind ≡ true → Inside ls) → strict_event kind ls ≡ Some ms
strict_first kind [] ms e some inside = absurd (some refl)
strict_first (Anchor n name) (InStream ∷ ls) ms e some inside = absurd (inside refl)
strict_first kind ls ms e some inside = e

weaker : (kind : EventKind) (ls ms : List Level) → strict_event kind ls ≡ Some ms → behind_event kind ls ≡ Some ms
weaker kind [] ms e = absurd (cc)
weaker (Anchor n name) (InStream ∷ ls) ms e = absurd (cc)
weaker kind ls ms e = e

none_behind : (es : List PlainEvent) (ls ms : List Level) → ls ≡ [] → strict_events es ls ≡ Some ms → es ≡ []
none_behind [] ls ms none e = refl
none_behind (x ∷ es) ls ms none e =
    absurd (let f = ap (λ ls. and_then (strict_event x.kind ls) (strict_events es)) (sym none) ∙ e in cc)

-- what the first of some events leaves
record Split (kind : EventKind) (es : List PlainEvent) (ls ms : List Level) : Type 0 where
  behind : List Level
  first : strict_event kind ls ≡ Some behind
  rest : strict_events es behind ≡ Some ms

split_by : (kind : EventKind) (es : List PlainEvent) (ls ms : List Level) (r : Option (List Level))
    → strict_event kind ls ≡ r → and_then r (strict_events es) ≡ Some ms → Split kind es ls ms
split_by kind es ls ms None is e = absurd (cc)
split_by kind es ls ms (Some ks) is e = record { behind = ks; first = is; rest = e }

-- ---- one document

-- whether its end was told, what is open, and how many documents may begin
data Phase : Bool → List Level → ℕ → Type 0 where
  before : Phase false (InStream ∷ []) 1
  inside : {ls : List Level} → Open ls → Inside ls → Phase false ls 0
  behind : Phase true (InStream ∷ []) 0

same_phase : (b : Bool) (ls ms : List Level) (n : ℕ) → Some ls ≡ Some ms → Phase b ls n → Phase b ms n
same_phase b ls ms n e p = let same : ls ≡ ms = cc in subst (λ x. Phase b x n) same p

-- where events go on from these levels
abbrev GoesOn : List PlainEvent → List Level → Type 0
GoesOn es ks = (b : Bool) (n : ℕ) → Phase b ks n → document_starts es ≤ n → OneDocument b es

abbrev Fits : Bool → EventKind → List PlainEvent → Type 0
Fits ended kind es = EventFits ended kind (λ b. OneDocument b es) (es ≡ [])

end_fits : (es : List PlainEvent) (ks ms : List Level) → Some [] ≡ Some ks → strict_events es ks ≡ Some ms → es ≡ []
end_fits es ks ms e rest = let none : ks ≡ [] = cc in none_behind es ks ms none rest

before_fits : (kind : EventKind) (es : List PlainEvent) (ks ms : List Level)
    → strict_event kind (InStream ∷ []) ≡ Some ks → strict_events es ks ≡ Some ms
    → starts_in kind + document_starts es ≤ 1 → GoesOn es ks → Fits false kind es
before_fits StreamEnd es ks ms e rest n more = end_fits es ks ms e rest
before_fits (DocumentStart explicit version) es ks ms e rest n more =
    more false 0 (same_phase false (BeforeNode ∷ InStream ∷ []) ks 0 e (inside (within in_document) tt))
    (omega (arith, n))
before_fits (Comment text placement) es ks ms e rest n more =
    more false 1 (same_phase false (InStream ∷ []) ks 1 e before) (omega (arith, n))
before_fits kind es ks ms e rest n more = absurd (cc)

behind_fits : (kind : EventKind) (es : List PlainEvent) (ks ms : List Level)
    → strict_event kind (InStream ∷ []) ≡ Some ks → strict_events es ks ≡ Some ms
    → starts_in kind + document_starts es ≤ 0 → GoesOn es ks → Fits true kind es
behind_fits StreamEnd es ks ms e rest n more = end_fits es ks ms e rest
behind_fits (DocumentStart explicit version) es ks ms e rest n more = absurd (omega (arith, n))
behind_fits (Comment text placement) es ks ms e rest n more =
    more true 0 (same_phase true (InStream ∷ []) ks 0 e behind) (omega (arith, n))
behind_fits kind es ks ms e rest n more = absurd (cc)

inside_fits : (kind : EventKind) (es : List PlainEvent) (ls ks ms : List Level) → Open ls → Inside ls
    → behind_event kind ls ≡ Some ks → strict_events es ks ≡ Some ms → starts_in kind + document_starts es ≤ 0
    → GoesOn es ks → Fits false kind es
inside_fits StreamStart es ls ks ms p i e rest n more = absurd (cc)
inside_fits StreamEnd es ls ks ms p i e rest n more =
    absurd (subst (λ x. Inside x) (stream_leaves ls ks p e).0 i)
inside_fits (DocumentStart explicit version) es ls ks ms p i e rest n more = absurd (omega (arith, n))
inside_fits DocumentEnd es ls ks ms p i e rest n more =
    more true 0 (subst (λ x. Phase true x 0) (sym (document_leaves ls ks p e)) behind) (omega (arith, n))
inside_fits (Comment text placement) es ls ks ms p i e rest n more =
    more false 0 (inside (event_keeps (Comment text placement) ls ks p e) (same_inside ls ks e i)) (omega (arith, n))
inside_fits (Anchor m name) es ls ks ms p i e rest n more =
    more false 0 (inside (event_keeps (Anchor m name) ls ks p e) (same_inside ls ks e i)) (omega (arith, n))
inside_fits SequenceEnd es ls ks ms p i e rest n more =
    more false 0 (inside (event_keeps SequenceEnd ls ks p e) (sequence_inside ls ks e)) (omega (arith, n))
inside_fits MappingEnd es ls ks ms p i e rest n more =
    more false 0 (inside (event_keeps MappingEnd ls ks p e) (mapping_inside ls ks e)) (omega (arith, n))
inside_fits kind es ls ks ms p i e rest n more =
    more false 0 (inside (event_keeps kind ls ks p e) (node_inside kind ls ks refl e)) (omega (arith, n))

kind_fits : (kind : EventKind) (ended : Bool) (es : List PlainEvent) (ls ks ms : List Level) (n : ℕ)
    → Phase ended ls n → strict_event kind ls ≡ Some ks → strict_events es ks ≡ Some ms
    → starts_in kind + document_starts es ≤ n → GoesOn es ks → Fits ended kind es
kind_fits kind ended es ls ks ms n before e rest less more = before_fits kind es ks ms e rest less more
kind_fits kind ended es ls ks ms n (inside p i) e rest less more =
    inside_fits kind es ls ks ms p i (weaker kind ls ks e) rest less more
kind_fits kind ended es ls ks ms n behind e rest less more = behind_fits kind es ks ms e rest less more

phase_fits : (es : List PlainEvent) (ended : Bool) (ls ms : List Level) (n : ℕ) → Phase ended ls n
    → strict_events es ls ≡ Some ms → document_starts es ≤ n → OneDocument ended es
phase_fits [] ended ls ms n p e less = tt
phase_fits (x ∷ es) ended ls ms n p e less =
    let s = split_by x.kind es ls ms (strict_event x.kind ls) refl e in
    kind_fits x.kind ended es ls s.behind ms n p s.first s.rest less
    (λ b m q fewer. phase_fits es b s.behind ms m q s.rest fewer)

-- of events that stand strictly behind a stream's start at most one starts a document
pub strict_one : (es : List PlainEvent) (ls : List Level) → strict_events es (InStream ∷ []) ≡ Some ls
    → document_starts es ≤ 1 → OneDocument false es
strict_one es ls e n = phase_fits es false (InStream ∷ []) ls 1 before e n

started_one : (kind : EventKind) (es : List PlainEvent) → BehindStart kind es
    → starts_in kind + document_starts es ≤ 1 → Fits false kind es
started_one StreamStart es b n = strict_one es b.0 b.1 (omega (arith, n))
started_one kind es b n = absurd b

pub stand_one : (es : List PlainEvent) → StandStrictly es → document_starts es ≤ 1 → OneDocument false es
stand_one [] s n = tt
stand_one (e ∷ es) s n = started_one e.kind es s n
