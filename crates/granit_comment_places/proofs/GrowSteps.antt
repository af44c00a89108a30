-- Each step of the parser gives behind what is held, or behind the empty node that waits and what is held.
use Rattle.std.proofs.Common.{◌≡◌, ℕ, ◌&&◌, Bool, true, false, List, [], ◌∷◌, ◌++◌, Option, Some, None, Result, Ok, Err}
use Rattle.std.proofs.Common.{◌⊎◌, inl, inr, refl, sym, ap, subst, ◌∙◌, append_assoc}
use Rattle.std.proofs.lemmas.Bool.{and_parts}
use Rattle.std.proofs.lemmas.List.{append-nil}
use Rattle.std.specs.Prelude.{if◌then◌else◌, is_none, not, ◌||◌, nat_le}
use Rattle.granit_base.specs.Place.{Mark}
use Rattle.granit_base.specs.Written.{Written}
use Rattle.granit_base.specs.declared.style.Placement.TheVariants.{Right}
use Rattle.granit_base.specs.declared.style.StructureStyle.TheVariants.{Flow}
use Rattle.granit_error.specs.OptionsData.{OptionsData}
use Rattle.granit_lexemes.specs.Comment.{CommentRead}
use Rattle.granit_lexemes.specs.declared.layout.Bracket.{Bracket}
use Rattle.granit_lexemes.specs.declared.layout.Bracket.TheVariants.{Square, Curly}
use Rattle.granit_lexemes.specs.Lexeme as lexemes
use Rattle.granit_lexemes.specs.Lexeme.{LexemeKind}
use Rattle.granit_lexemes.specs.Outcome.{Fault, ◌>>=◌}
use Rattle.granit_lexemes.specs.PlainEvent as events
use Rattle.granit_lexemes.specs.PlainEvent.{PlainEvent, PlainTag, EventKind, event_at}
use Rattle.granit_lexemes.specs.Source.{Source}
use Rattle.granit_machine.proofs.NoneWaits.{flush_none}
use Rattle.granit_machine.specs.BlockSteps.{in_sequence, mapping_at, mapping_colon, bare_colon_in_mapping, next_pair}
use Rattle.granit_machine.specs.BlockSteps.{behind_indicator, at_block_key, behind_block_key, in_mapping, takes_node}
use Rattle.granit_machine.specs.FlowSteps.{close_flow, flow_at, flow_colon, begin_pair, at_entry, behind_entry_of}
use Rattle.granit_machine.specs.FlowSteps.{in_flow_sequence, in_flow_mapping_by, in_flow_pair}
use Rattle.granit_machine.specs.Closing.{is_behind_question}
use Rattle.granit_machine.specs.Entries.{lookup_text}
use Rattle.granit_machine.specs.Frames.{PairStage, BeforePair, AtKey, BehindKey, AtQuestion, BehindQuestion, AtValue}
use Rattle.granit_machine.specs.Frames.{BehindAlone, NodeProperties, Frame, Root, WithProperties, BlockSequence}
use Rattle.granit_machine.specs.Frames.{BlockMapping, FlowSequence, FlowMapping, FlowPair, Waiting, ParserState}
use Rattle.granit_machine.specs.Giving.{null_at, with_indent, flush_held, flush, put, give, empty_by, give_empty}
use Rattle.granit_machine.specs.Giving.{properties_on, below_properties, key_indent, anchor_number, tag_value}
use Rattle.granit_machine.specs.Giving.{span_with_tag, tell_anchor, node_event}
use Rattle.granit_machine.specs.NodeEnds.{finish_in, finish, owed_in, owed, end_kind, below, end_node, null_node}
use Rattle.granit_machine.specs.NodeEnds.{end_properties, empty_span, begin, begin_block, block_mapping, waits}
use Rattle.granit_machine.specs.NodeEnds.{with_top, may_be_indentless, block_count}
use Rattle.granit_machine.specs.NodeSteps.{Stepped, alias_by, tag_prefix, tagged, anchored, block_sequence, DashRole}
use Rattle.granit_machine.specs.NodeSteps.{known_prefix}
use Rattle.granit_machine.specs.NodeSteps.{NextEntry, NewSequence, IndentlessSequence, dash_room, give_tail}
use Rattle.granit_machine.specs.NodeSteps.{token_number, take_dash, first_dash, open_flow, bare_by, bare, node_by, node}
use Rattle.granit_machine.specs.TokenSort.{TokenSort, BeginsKey, BeginsNode, QuestionToken, BareColon}
use Rattle.granit_machine.specs.TokenSort.{KeyedColon, CommaToken, SequenceCloser, MappingCloser, Token, is_dash_token}
use Rattle.granit_machine.specs.TokenSort.{token_column, is_in_column, is_right_of, begins_node, begins_pair}
use Rattle.granit_machine.proofs.ClosingLemmas.{no_dash_pair}
use Rattle.granit_comment_room.specs.RefusedRows.{held_of, comment_event}
use Rattle.granit_comment_places.specs.CommentPlaces.{AreAnchors, SequenceStarted}

-- ---- what a step adds

-- what was given, and what is held
abbrev pub full : ParserState → List PlainEvent
full p = p.given ++ held_of p.waiting

-- nothing, or the start of a sequence
abbrev pub MayBegin : List PlainEvent → Type 0
MayBegin [] = Unit {0}
MayBegin (e ∷ es) = SequenceStarted (e ∷ es)

-- these events end with the comment behind a `-`, where one stands there, or with the start of a sequence behind it
abbrev pub EndsWith : Option CommentRead → List PlainEvent → Type 0
EndsWith None xs = Unit {0}
EndsWith (Some c) xs =
    (ys : List PlainEvent) × (begun : List PlainEvent) × (xs ≡ ys ++ (comment_event c Right ∷ begun)) × MayBegin begun

-- events are added behind what was given and is held
pub record More (tail : Option CommentRead) (p q : ParserState) : Type 0 where
  pub added : List PlainEvent
  pub full_is : full q ≡ full p ++ added
  pub ends : EndsWith tail added

-- what was given, and the empty node that waits, in front of what is held
abbrev pub EmptyFirst : List PlainEvent → Option Waiting → List PlainEvent → Type 0
EmptyFirst given None front = ⊥
EmptyFirst given (Some w) front = front ≡ given ++ (null_at w.at ∷ w.held)

abbrev pub Base : List PlainEvent → Option Waiting → List PlainEvent → Type 0
Base given w front = (front ≡ given ++ held_of w) ⊎ EmptyFirst given w front

pub record Grown (tail : Option CommentRead) (p q : ParserState) : Type 0 where
  pub front : List PlainEvent
  pub added : List PlainEvent
  pub begins : Base p.given p.waiting front
  pub full_is : full q ≡ front ++ added
  pub ends : EndsWith tail added

ends_front : (tail : Option CommentRead) (xs ys : List PlainEvent) → EndsWith tail ys → EndsWith tail (xs ++ ys)
ends_front None xs ys e = tt
ends_front (Some c) xs ys e =
    (xs ++ e.0, e.1, ap (λ zs. xs ++ zs) e.2 ∙ sym (append_assoc xs e.0 (comment_event c Right ∷ e.1)), e.3)

pub same : (p q : ParserState) → full q ≡ full p → More None p q
same p q e = record { added = []; full_is = e ∙ sym (append-nil (full p)); ends = tt }

pub more_then : (tail : Option CommentRead) (p q r : ParserState) → More None p q → More tail q r → More tail p r
more_then tail p q r a b =
    record {
      added = a.added ++ b.added;
      full_is = b.full_is ∙ ap (λ xs. xs ++ b.added) a.full_is ∙ append_assoc (full p) a.added b.added;
      ends = ends_front tail a.added b.added b.ends;
    }

more_same : (tail : Option CommentRead) (p q r : ParserState) → More tail p q → full r ≡ full q → More tail p r
more_same tail p q r a e = record { added = a.added; full_is = e ∙ a.full_is; ends = a.ends }

pub grown_of : (tail : Option CommentRead) (p q : ParserState) → More tail p q → Grown tail p q
grown_of tail p q a =
    record { front = full p; added = a.added; begins = inl refl; full_is = a.full_is; ends = a.ends }

pub grown_then : (tail : Option CommentRead) (p q r : ParserState) → Grown None p q → More tail q r → Grown tail p r
grown_then tail p q r a b =
    record {
      front = a.front;
      added = a.added ++ b.added;
      begins = a.begins;
      full_is = b.full_is ∙ ap (λ xs. xs ++ b.added) a.full_is ∙ append_assoc a.front a.added b.added;
      ends = ends_front tail a.added b.added b.ends;
    }

base_full : (given : List PlainEvent) (w : Option Waiting) (front : List PlainEvent) → w ≡ None → Base given w front →
    front ≡ given ++ held_of w
base_full given w front n (inl e) = e
base_full given None front n (inr e) = absurd e
base_full given (Some w) front n (inr e) = absurd cc

-- behind a state where nothing waits
pub grown_on : (tail : Option CommentRead) (p q r : ParserState) → Grown None p q → q.waiting ≡ None → Grown tail q r →
    Grown tail p r
grown_on tail p q r a n b =
    grown_then tail p q r a
    (record {
      added = b.added;
      full_is = b.full_is
          ∙ ap (λ xs. xs ++ b.added) (base_full q.given q.waiting b.front n b.begins);
      ends = b.ends;
    })

-- ---- steps that may fail

abbrev MoresBy : Option CommentRead → ParserState → Stepped → Type 0
MoresBy tail p (Ok q) = More tail p q
MoresBy tail p (Err f) = Unit {0}

pub record Mores (tail : Option CommentRead) (p : ParserState) (r : Stepped) : Type 0 where
  pub says : MoresBy tail p r

abbrev pub GrowsBy : Option CommentRead → ParserState → Stepped → Type 0
GrowsBy tail p (Ok q) = Grown tail p q
GrowsBy tail p (Err f) = Unit {0}

pub record Grows (tail : Option CommentRead) (p : ParserState) (r : Stepped) : Type 0 where
  pub says : GrowsBy tail p r

pub mores_ok : (tail : Option CommentRead) (p q : ParserState) → More tail p q → Mores tail p (Ok q)
mores_ok tail p q a = record { says = a }

pub mores_err : (tail : Option CommentRead) (p : ParserState) (f : Fault) → Mores tail p (Err f)
mores_err tail p f = record { says = tt }

pub mores_if : (b : Bool) (tail : Option CommentRead) (p : ParserState) (r s : Stepped) → (b ≡ true → Mores tail p r) →
    (b ≡ false → Mores tail p s) → Mores tail p (if b then r else s)
mores_if true tail p r s h k = h refl
mores_if false tail p r s h k = k refl

mores_behind : {A : Type 0} (tail : Option CommentRead) (p : ParserState) (r : Result A Fault) (f : A → Stepped) →
    ((x : A) → Mores tail p (f x)) → Mores tail p (r >>= f)
mores_behind tail p (Ok x) f h = h x
mores_behind tail p (Err e) f h = mores_err tail p e

from_by : (tail : Option CommentRead) (p q : ParserState) (r : Stepped) → More None p q → MoresBy tail q r →
    MoresBy tail p r
from_by tail p q (Ok r) a b = more_then tail p q r a b
from_by tail p q (Err f) a b = tt

pub mores_from : (tail : Option CommentRead) (p q : ParserState) (r : Stepped) → More None p q → Mores tail q r →
    Mores tail p r
mores_from tail p q r a b = record { says = from_by tail p q r a b.says }

mores_then : (tail : Option CommentRead) (p : ParserState) (r : Stepped) (f : ParserState → Stepped) → Mores None p r →
    ((q : ParserState) → Mores tail q (f q)) → Mores tail p (r >>= f)
mores_then tail p (Ok q) f a h = mores_from tail p q (f q) a.says (h q)
mores_then tail p (Err e) f a h = mores_err tail p e

of_by : (tail : Option CommentRead) (p : ParserState) (r : Stepped) → MoresBy tail p r → GrowsBy tail p r
of_by tail p (Ok q) a = grown_of tail p q a
of_by tail p (Err f) a = tt

pub grows_of : (tail : Option CommentRead) (p : ParserState) (r : Stepped) → Mores tail p r → Grows tail p r
grows_of tail p r a = record { says = of_by tail p r a.says }

grown_by : (tail : Option CommentRead) (p q : ParserState) (r : Stepped) → Grown None p q → MoresBy tail q r →
    GrowsBy tail p r
grown_by tail p q (Ok r) a b = grown_then tail p q r a b
grown_by tail p q (Err f) a b = tt

pub grows_from : (tail : Option CommentRead) (p q : ParserState) (r : Stepped) → Grown None p q → Mores tail q r →
    Grows tail p r
grows_from tail p q r a b = record { says = grown_by tail p q r a b.says }

pub grows_ok : (tail : Option CommentRead) (p q : ParserState) → Grown tail p q → Grows tail p (Ok q)
grows_ok tail p q a = record { says = a }

pub grows_err : (tail : Option CommentRead) (p : ParserState) (f : Fault) → Grows tail p (Err f)
grows_err tail p f = record { says = tt }

pub grows_if : (b : Bool) (tail : Option CommentRead) (p : ParserState) (r s : Stepped) → (b ≡ true → Grows tail p r) →
    (b ≡ false → Grows tail p s) → Grows tail p (if b then r else s)
grows_if true tail p r s h k = h refl
grows_if false tail p r s h k = k refl

-- ---- giving

flush_by : (w : Option Waiting) (p : ParserState) →
    full (flush_held w (record p { waiting = w })) ≡ p.given ++ held_of w
flush_by None p = refl
flush_by (Some w) p = append-nil (p.given ++ w.held)

pub flush_full : (p : ParserState) → full (flush p) ≡ full p
flush_full p = flush_by p.waiting p

give_by : (e : PlainEvent) (w : Option Waiting) (p : ParserState) →
    full (put e (flush_held w (record p { waiting = w }))) ≡ (p.given ++ held_of w) ++ e ∷ []
give_by e None p = append-nil (p.given ++ e ∷ []) ∙ ap (λ xs. xs ++ e ∷ []) (sym (append-nil p.given))
give_by e (Some w) p = append-nil ((p.given ++ w.held) ++ e ∷ [])

pub give_full : (e : PlainEvent) (p : ParserState) → full (give e p) ≡ full p ++ e ∷ []
give_full e p = give_by e p.waiting p

pub give_more : (e : PlainEvent) (p : ParserState) → More None p (give e p)
give_more e p = record { added = e ∷ []; full_is = give_full e p; ends = tt }

pub flush_more : (p : ParserState) → More None p (flush p)
flush_more p = same p (flush p) (flush_full p)

empty_grown : (w : Option Waiting) (p : ParserState) →
    Grown None (record p { waiting = w }) (empty_by w (record p { waiting = w }))
empty_grown None p = grown_of None (record p { waiting = None }) (record p { waiting = None }) (same _ _ refl)
empty_grown (Some w) p =
    record {
      front = p.given ++ (null_at w.at ∷ w.held);
      added = [];
      begins = inr refl;
      full_is =
          append-nil ((p.given ++ null_at w.at ∷ []) ++ w.held)
          ∙ append_assoc p.given (null_at w.at ∷ []) w.held
          ∙ sym (append-nil (p.given ++ (null_at w.at ∷ w.held)));
      ends = tt;
    }

pub give_empty_grown : (p : ParserState) → Grown None p (give_empty p)
give_empty_grown p = empty_grown p.waiting p

-- the event of an anchor
abbrev anchors_of : OptionsData → Option (ℕ × Written × Source) → List PlainEvent
anchors_of o None = []
anchors_of o (Some a) = if o.emit_anchor_events then event_at (events.Anchor a.0 a.1) a.2 ∷ [] else []

are_anchors : (o : OptionsData) (a : Option (ℕ × Written × Source)) → AreAnchors (anchors_of o a)
are_anchors o None = tt
are_anchors o (Some a) = on o.emit_anchor_events
  where
    on : (b : Bool) → AreAnchors (if b then event_at (events.Anchor a.0 a.1) a.2 ∷ [] else [])
    on true = (tt, tt)
    on false = tt

anchor_full : (o : OptionsData) (a : Option (ℕ × Written × Source)) (p : ParserState) → p.waiting ≡ None →
    full (tell_anchor o a p) ≡ full p ++ anchors_of o a
anchor_full o None p n = sym (append-nil (full p))
anchor_full o (Some a) p n = on o.emit_anchor_events
  where
    e : PlainEvent
    e = event_at (events.Anchor a.0 a.1) a.2

    on :
        (b : Bool) → full (if b then record p { given = p.given ++ e ∷ [] } else p) ≡ full p ++
        (if b then e ∷ [] else [])
    on true =
        ap (λ w. (p.given ++ e ∷ []) ++ held_of w) n
        ∙ append-nil (p.given ++ e ∷ [])
        ∙ ap (λ xs. xs ++ e ∷ []) (sym (append-nil p.given))
        ∙ ap (λ w. (p.given ++ held_of w) ++ e ∷ []) (sym n)
    on false = sym (append-nil (full p))

-- a node's events
record NodeAdds (kind : ℕ → Option PlainTag → EventKind) (p q : ParserState) : Type 0 where
  number : ℕ
  tag : Option PlainTag
  event : PlainEvent
  anchors : List PlainEvent
  kind_is : event.kind ≡ kind number tag
  are : AreAnchors anchors
  full_is : full q ≡ full p ++ (event ∷ anchors)

node_adds : (o : OptionsData) (kind : ℕ → Option PlainTag → EventKind) (source : Source) (indent : Option ℕ)
    (p : ParserState) → NodeAdds kind p (node_event o kind source indent p)
unfolding node_event
node_adds o kind source indent p =
    let q = properties_on p.frames source.end in
    let r : ParserState = record p { frames = below_properties p.frames } in
    let e : PlainEvent = record {
      kind = kind (anchor_number q.anchor) (tag_value q.tag);
      span = span_with_tag q.tag source (key_indent r.frames indent);
    } in
    record {
      number = anchor_number q.anchor;
      tag = tag_value q.tag;
      event = e;
      anchors = anchors_of o q.anchor;
      kind_is = refl;
      are = are_anchors o q.anchor;
      full_is =
          anchor_full o q.anchor (give e r) (flush_none r)
          ∙ ap (λ xs. xs ++ anchors_of o q.anchor) (give_full e r)
          ∙ append_assoc (full p) (e ∷ []) (anchors_of o q.anchor);
    }

node_more : (o : OptionsData) (kind : ℕ → Option PlainTag → EventKind) (source : Source) (indent : Option ℕ)
    (p : ParserState) → More None p (node_event o kind source indent p)
node_more o kind source indent p =
    let a = node_adds o kind source indent p in
    record { added = a.event ∷ a.anchors; full_is = a.full_is; ends = tt }

-- ---- ending and beginning

finish_by : (fs : List Frame) (p : ParserState) → full (finish_in fs p) ≡ full p
finish_by [] p = refl
finish_by (Root explicit ∷ fs) p = refl
finish_by (WithProperties q ∷ fs) p = refl
finish_by (BlockSequence column indentless ∷ fs) p = refl
finish_by (BlockMapping column stage ∷ fs) p = refl
finish_by (FlowSequence b ∷ fs) p = refl
finish_by (FlowMapping single stage ∷ fs) p = refl
finish_by (FlowPair stage ∷ fs) p = refl

pub finish_full : (p : ParserState) → full (finish p) ≡ full p
finish_full p = finish_by p.frames p

leaf_more : (o : OptionsData) (kind : ℕ → Option PlainTag → EventKind) (source : Source) (indent : Option ℕ)
    (p : ParserState) → More None p (finish (node_event o kind source indent p))
leaf_more o kind source indent p =
    more_same None p (node_event o kind source indent p) (finish (node_event o kind source indent p))
    (node_more o kind source indent p) (finish_full (node_event o kind source indent p))

begin_more :
    (o : OptionsData) (kind : ℕ → Option PlainTag → EventKind) (source : Source) (f : Frame) (p : ParserState) →
    More None p (begin o kind source f p)
begin_more o kind source f p =
    more_same None p (node_event o kind source None p) (begin o kind source f p) (node_more o kind source None p) refl

waits_by : (m : Mark) (room : ℕ) (w : Option Waiting) (p : ParserState) →
    full (record (flush_held w (record p { waiting = w })) {
      waiting = Some
          (record { at = m; room = room; held = [] });
    })
    ≡ p.given ++ held_of w
waits_by m room None p = refl
waits_by m room (Some w) p = append-nil (p.given ++ w.held)

waits_full : (m : Mark) (room : ℕ) (p : ParserState) → full (waits m room p) ≡ full p
waits_full m room p = waits_by m room p.waiting p

two_more : (e f : PlainEvent) (p : ParserState) → More None p (give f (give e p))
two_more e f p = more_then None p (give e p) (give f (give e p)) (give_more e p) (give_more f (give e p))

owed_by : (fs : List Frame) (x : Mark) (p : ParserState) → Grown None p (owed_in fs x p)
owed_by (BlockSequence column indentless ∷ fs) x p = give_empty_grown p
owed_by (BlockMapping column AtValue ∷ fs) x p = give_empty_grown p
owed_by (FlowMapping single AtValue ∷ fs) x p = give_empty_grown p
owed_by (BlockMapping column AtQuestion ∷ fs) x p =
    grown_of None p _ (two_more (with_indent (Some column) (null_at x)) (null_at x) p)
owed_by (FlowMapping single AtQuestion ∷ fs) x p = grown_of None p _ (two_more (null_at x) (null_at x) p)
owed_by (FlowPair AtQuestion ∷ fs) x p = grown_of None p _ (two_more (null_at x) (null_at x) p)
owed_by (BlockMapping column BehindQuestion ∷ fs) x p = grown_of None p _ (give_more (null_at x) p)
owed_by (FlowMapping single BehindQuestion ∷ fs) x p = grown_of None p _ (give_more (null_at x) p)
owed_by (FlowMapping single BehindAlone ∷ fs) x p = grown_of None p _ (give_more (null_at x) p)
owed_by (FlowPair BehindQuestion ∷ fs) x p = grown_of None p _ (give_more (null_at x) p)
owed_by (FlowPair AtValue ∷ fs) x p = grown_of None p _ (give_more (null_at x) p)
owed_by fs x p = grown_of None p p (same p p refl)

owed_grown : (x : Mark) (p : ParserState) → Grown None p (owed x p)
owed_grown x p = owed_by p.frames x p

pub end_node_grown : (x : Mark) (source : Source) (p : ParserState) → Grown None p (end_node x source p)
unfolding end_node
end_node_grown x source p =
    let q = owed x p in
    let r : ParserState = record q { frames = below q.frames } in
    let e = event_at (end_kind q.frames) source in
    grown_then None p q (finish (give e r)) (owed_grown x p)
    (more_same None q (give e r) (finish (give e r)) (record { added = e ∷ []; full_is = give_full e r; ends = tt })
    (finish_full (give e r)))

pub end_properties_more : (o : OptionsData) (q : NodeProperties) (p : ParserState) → More None p (end_properties o q p)
unfolding end_properties
end_properties_more o q p = leaf_more o (null_node q) (empty_span q.end) None p

begin_block_mores :
    (o : OptionsData) (kind : ℕ → Option PlainTag → EventKind) (m : Mark) (f : Frame) (p : ParserState) →
    Mores None p (begin_block o kind m f p)
unfolding begin_block
begin_block_mores o kind m f p =
    mores_if (nat_le o.block_nesting_limit (block_count p.frames)) None p _ _ (λ e. mores_err None p _)
    (λ e. mores_ok None p _ (begin_more o kind (empty_span m) f p))

-- ---- a `-` with its tail

tail_by : (c : CommentRead) (w : Option Waiting) (p : ParserState) →
    full (let q = flush_held w (record p { waiting = w }) in record q { given = q.given ++ comment_event c Right ∷ [] })
    ≡ (p.given ++ held_of w) ++ comment_event c Right ∷ []
tail_by c None p =
    append-nil (p.given ++ comment_event c Right ∷ [])
    ∙ ap (λ xs. xs ++ comment_event c Right ∷ []) (sym (append-nil p.given))
tail_by c (Some w) p = append-nil ((p.given ++ w.held) ++ comment_event c Right ∷ [])

tail_more : (tail : Option CommentRead) (p : ParserState) → More tail p (give_tail tail p)
tail_more None p = same p p refl
tail_more (Some c) p =
    record { added = comment_event c Right ∷ []; full_is = tail_by c p.waiting p; ends = ([], [], refl, tt) }

sequence_begun : (e : PlainEvent) (es : List PlainEvent) (n : ℕ) (t : Option PlainTag) → e.kind ≡ block_sequence n t →
    AreAnchors es → MayBegin (e ∷ es)
sequence_begun e es n t k a =
    (subst Rattle.granit_comment_places.specs.CommentPlaces.StartsSequence (sym k) tt, a)

indentless_more : (o : OptionsData) (source : Source) (f : Frame) (tail : Option CommentRead) (p : ParserState) →
    More tail p (begin o block_sequence source f (give_tail tail p))
indentless_more o source f None p = begin_more o block_sequence source f p
indentless_more o source f (Some c) p =
    let q = give_tail (Some c) p in
    let a = node_adds o block_sequence source None q in
    record {
      added = comment_event c Right ∷ (a.event ∷ a.anchors);
      full_is =
          a.full_is
          ∙ ap (λ xs. xs ++ (a.event ∷ a.anchors)) (tail_by c p.waiting p)
          ∙ append_assoc (full p) (comment_event c Right ∷ []) (a.event ∷ a.anchors);
      ends = ([], a.event ∷ a.anchors, refl, sequence_begun a.event a.anchors a.number a.tag a.kind_is a.are);
    }

dash_mores : (o : OptionsData) (t : Token) (role : DashRole) (indentless : Bool) (p : ParserState) →
    Mores t.lexeme.tail p (take_dash o t role indentless p)
unfolding take_dash
dash_mores o t NextEntry indentless p =
    mores_behind t.lexeme.tail p (dash_room o t.lexeme.tail) _
    (λ room.
    let q = with_top (BlockSequence (token_number t) indentless) (give_tail t.lexeme.tail p) in
    mores_ok t.lexeme.tail p (waits t.lexeme.end room q)
    (more_same t.lexeme.tail p (give_tail t.lexeme.tail p) (waits t.lexeme.end room q) (tail_more t.lexeme.tail p)
    (waits_full t.lexeme.end room q)))
dash_mores o t NewSequence indentless p =
    mores_then t.lexeme.tail p (begin_block o block_sequence t.lexeme.start (BlockSequence (token_number t) false) p) _
    (begin_block_mores o block_sequence t.lexeme.start (BlockSequence (token_number t) false) p)
    (λ q. mores_behind t.lexeme.tail q (dash_room o t.lexeme.tail) _
    (λ room.
    let r = give_tail t.lexeme.tail q in
    mores_ok t.lexeme.tail q (waits t.lexeme.end room r)
    (more_same t.lexeme.tail q r (waits t.lexeme.end room r) (tail_more t.lexeme.tail q)
    (waits_full t.lexeme.end room r))))
dash_mores o t IndentlessSequence indentless p =
    mores_if (nat_le o.block_nesting_limit (block_count p.frames)) t.lexeme.tail p _ _
    (λ e. mores_err t.lexeme.tail p _)
    (λ e. mores_behind t.lexeme.tail p (dash_room o t.lexeme.tail) _
    (λ room.
    let f = BlockSequence (token_number t) true in
    let r = begin o block_sequence (empty_span t.lexeme.end) f (give_tail t.lexeme.tail p) in
    mores_ok t.lexeme.tail p (waits t.lexeme.end room r)
    (more_same t.lexeme.tail p r (waits t.lexeme.end room r)
    (indentless_more o (empty_span t.lexeme.end) f t.lexeme.tail p) (waits_full t.lexeme.end room r))))

-- ---- any lexeme of a node

-- the comment behind a `-`
abbrev pub dash_tail : LexemeKind → Option CommentRead → Option CommentRead
dash_tail lexemes.Dash tail = tail
dash_tail kind tail = None

abbrev pub TailOf : Token → Option CommentRead
TailOf t = dash_tail t.lexeme.kind t.lexeme.tail

alias_mores : (o : OptionsData) (t : Token) (name : Written) (n : Option ℕ) (p : ParserState) →
    Mores None p (alias_by o t name n p)
alias_mores o t name (Some n) p = mores_ok None p _ (leaf_more o (λ number tag. events.Alias n) t.lexeme.shown None p)
alias_mores o t name None p =
    mores_if o.emit_unresolved_aliases None p _ _
    (λ e. mores_ok None p _ (leaf_more o (λ number tag. events.UnresolvedAlias name) t.lexeme.shown None p))
    (λ e. mores_err None p _)

open_flow_more : (o : OptionsData) (b : Bracket) (t : Token) (p : ParserState) → More None p (open_flow o b t p)
open_flow_more o Square t p =
    begin_more o (λ number tag. events.SequenceStart Flow number tag) t.lexeme.shown (FlowSequence false) p
open_flow_more o Curly t p =
    begin_more o (λ number tag. events.MappingStart Flow number tag) t.lexeme.shown (FlowMapping false BeforePair) p

colon_mores : (o : OptionsData) (t : Token) (p : ParserState) →
    Mores None p
    (begin_block o block_mapping t.lexeme.start (BlockMapping (token_number t) AtValue) p >>= λ q.
    Ok (waits t.lexeme.start o.max_buffered_comment_events (give (null_at t.lexeme.start) q)))
colon_mores o t p =
    mores_then None p (begin_block o block_mapping t.lexeme.start (BlockMapping (token_number t) AtValue) p) _
    (begin_block_mores o block_mapping t.lexeme.start (BlockMapping (token_number t) AtValue) p)
    (λ q.
    let r = give (null_at t.lexeme.start) q in
    mores_ok None q (waits t.lexeme.start o.max_buffered_comment_events r)
    (more_same None q r (waits t.lexeme.start o.max_buffered_comment_events r) (give_more (null_at t.lexeme.start) q)
    (waits_full t.lexeme.start o.max_buffered_comment_events r)))

bare_by_mores : (o : OptionsData) (kind : LexemeKind) (t : Token) (p : ParserState) →
    Mores (dash_tail kind t.lexeme.tail) p (bare_by o kind t p)
bare_by_mores o (lexemes.Alias name) t p = alias_mores o t name (lookup_text name.characters p.names) p
bare_by_mores o (lexemes.Scalar style text) t p =
    mores_ok None p _ (leaf_more o (λ number tag. events.Scalar text style number tag) t.lexeme.shown t.lexeme.indent p)
bare_by_mores o (lexemes.Open bracket) t p = mores_ok None p _ (open_flow_more o bracket t p)
bare_by_mores o (lexemes.Anchor name) t p =
    mores_ok None p (anchored t name (flush p)) (same p (anchored t name (flush p)) (flush_full p))
bare_by_mores o (lexemes.Tag handle suffix) t p =
    mores_behind None p (tag_prefix t handle (known_prefix o handle p)) _
    (λ prefix. mores_ok None p (tagged t handle suffix prefix (flush p))
    (same p (tagged t handle suffix prefix (flush p)) (flush_full p)))
bare_by_mores o lexemes.Dash t p =
    dash_mores o t (first_dash (may_be_indentless (token_number t) (below_properties p.frames))) false p
bare_by_mores o lexemes.Question t p =
    begin_block_mores o block_mapping t.lexeme.start (BlockMapping (token_number t) AtQuestion) p
bare_by_mores o kind t p = colon_mores o t p

pub bare_mores : (o : OptionsData) (t : Token) (p : ParserState) → Mores (TailOf t) p (bare o t p)
bare_mores o t p = bare_by_mores o t.lexeme.kind t p

node_by_mores : (o : OptionsData) (sort : TokenSort) (t : Token) (p : ParserState) →
    Mores (TailOf t) p (node_by o sort t p)
node_by_mores o BeginsKey t p =
    mores_then (TailOf t) p (begin_block o block_mapping t.lexeme.start (BlockMapping (token_number t) AtKey) p) _
    (begin_block_mores o block_mapping t.lexeme.start (BlockMapping (token_number t) AtKey) p)
    (λ q. bare_mores o t q)
node_by_mores o sort t p = bare_mores o t p

pub node_mores : (o : OptionsData) (t : Token) (p : ParserState) → Mores (TailOf t) p (node o t p)
node_mores o t p = node_by_mores o t.sort t p

node_grows : (o : OptionsData) (t : Token) (p : ParserState) → Grows (TailOf t) p (node o t p)
node_grows o t p = grows_of (TailOf t) p (node o t p) (node_mores o t p)

bare_grows : (o : OptionsData) (t : Token) (p : ParserState) → Grows (TailOf t) p (bare o t p)
bare_grows o t p = grows_of (TailOf t) p (bare o t p) (bare_mores o t p)

-- ---- block collections

-- a token is a `-` by its sort where its lexeme is one
pub record TailSorted (t : Token) : Type 0 where
  pub dash : is_dash_token t.sort ≡ true → TailOf t ≡ t.lexeme.tail
  pub other : is_dash_token t.sort ≡ false → TailOf t ≡ None

-- a step of another token
pub plainly : (t : Token) (p q : ParserState) → TailOf t ≡ None → Grown None p q → Grows (TailOf t) p (Ok q)
plainly t p q h a = subst (λ tail. Grows tail p (Ok q)) (sym h) (grows_ok None p q a)

abbrev Silent : Token → TokenSort → Type 0
Silent t sort = is_dash_token sort ≡ false → TailOf t ≡ None

dash_grows : (o : OptionsData) (t : Token) (column : ℕ) (indentless : Bool) (p : ParserState) →
    TailOf t ≡ t.lexeme.tail →
    Grows (TailOf t) p (take_dash o t NextEntry indentless (give_empty p))
dash_grows o t column indentless p h =
    grows_from (TailOf t) p (give_empty p) (take_dash o t NextEntry indentless (give_empty p)) (give_empty_grown p)
    (subst (λ tail. Mores tail (give_empty p) (take_dash o t NextEntry indentless (give_empty p))) (sym h)
    (dash_mores o t NextEntry indentless (give_empty p)))

pub in_sequence_grows : (o : OptionsData) (t : Token) (column : ℕ) (indentless : Bool) (p : ParserState) →
    TailSorted t →
    Grows (TailOf t) p (in_sequence o t column indentless p)
unfolding in_sequence
in_sequence_grows o t column indentless p s =
    grows_if (is_dash_token t.sort && is_in_column (token_column t) column) (TailOf t) p _ _
    (λ e. dash_grows o t column indentless p
    (s.dash (and_parts (is_dash_token t.sort) (is_in_column (token_column t) column) e).0))
    (λ e. grows_if (is_none p.waiting) (TailOf t) p _ _ (λ f. grows_err (TailOf t) p _)
    (λ f. grows_if (begins_node t.sort && is_right_of (token_column t) (Some column)) (TailOf t) p _ _
    (λ g. node_grows o t p) (λ g. grows_err (TailOf t) p _)))

mapping_more : (column : ℕ) (stage : PairStage) (p : ParserState) → More None p (mapping_at column stage p)
mapping_more column stage p = same p (mapping_at column stage p) (flush_full p)

mapping_colon_more : (o : OptionsData) (t : Token) (column : ℕ) (p : ParserState) →
    More None p (mapping_colon o t column p)
mapping_colon_more o t column p =
    let q = mapping_at column AtValue p in
    more_same None p q (mapping_colon o t column p) (mapping_more column AtValue p)
    (waits_full t.lexeme.start o.max_buffered_comment_events q)

given_colon_more : (o : OptionsData) (t : Token) (column : ℕ) (e : PlainEvent) (p : ParserState) →
    More None p (mapping_colon o t column (give e p))
given_colon_more o t column e p =
    more_then None p (give e p) (mapping_colon o t column (give e p)) (give_more e p)
    (mapping_colon_more o t column (give e p))

bare_colon_grown : (o : OptionsData) (t : Token) (column : ℕ) (stage : PairStage) (p : ParserState) →
    Grown None p (bare_colon_in_mapping o t column stage p)
bare_colon_grown o t column AtQuestion p =
    grown_of None p _ (given_colon_more o t column (with_indent (Some column) (null_at t.lexeme.start)) p)
bare_colon_grown o t column BehindQuestion p = grown_of None p _ (mapping_colon_more o t column p)
bare_colon_grown o t column stage p =
    let q = owed t.lexeme.start p in
    grown_then None p q (mapping_colon o t column (give (null_at t.lexeme.start) q)) (owed_grown t.lexeme.start p)
    (given_colon_more o t column (null_at t.lexeme.start) q)

entry_grown : (t : Token) (column : ℕ) (stage : PairStage) (p : ParserState) →
    Grown None p (mapping_at column stage (owed t.lexeme.start p))
entry_grown t column stage p =
    let q = owed t.lexeme.start p in
    grown_then None p q (mapping_at column stage q) (owed_grown t.lexeme.start p) (mapping_more column stage q)

next_pair_grows : (o : OptionsData) (t : Token) (column : ℕ) (stage : PairStage) (sort : TokenSort) (p : ParserState) →
    TailOf t ≡ None → Grows (TailOf t) p (next_pair o t column stage sort p)
next_pair_grows o t column stage BeginsKey p h =
    let q = mapping_at column AtKey (owed t.lexeme.start p) in
    grows_from (TailOf t) p q (bare o t q) (entry_grown t column AtKey p) (bare_mores o t q)
next_pair_grows o t column stage QuestionToken p h = plainly t p _ h (entry_grown t column AtQuestion p)
next_pair_grows o t column stage sort p h = plainly t p _ h (bare_colon_grown o t column stage p)

behind_indicator_grows : (o : OptionsData) (t : Token) (column : ℕ) (stage : PairStage) (p : ParserState) →
    TailSorted t →
    Grows (TailOf t) p (behind_indicator o t column stage p)
unfolding behind_indicator
behind_indicator_grows o t column stage p s =
    grows_if (begins_pair t.sort && is_in_column (token_column t) column) (TailOf t) p _ _
    (λ e. next_pair_grows o t column stage t.sort p (s.other (no_dash_pair t.sort
    (and_parts (begins_pair t.sort) (is_in_column (token_column t) column) e).0)))
    (λ e. grows_if (not (takes_node stage)) (TailOf t) p _ _ (λ f. grows_err (TailOf t) p _)
    (λ f. grows_if ((is_dash_token t.sort && is_in_column (token_column t) column)
    || (begins_node t.sort && is_right_of (token_column t) (Some column))) (TailOf t) p _ _
    (λ g. node_grows o t p) (λ g. grows_err (TailOf t) p _)))

at_block_key_grows : (o : OptionsData) (t : Token) (sort : TokenSort) (p : ParserState) →
    Grows (TailOf t) p (at_block_key o t sort p)
at_block_key_grows o t BeginsNode p = bare_grows o t p
at_block_key_grows o t sort p = grows_err (TailOf t) p _

behind_block_key_grows : (o : OptionsData) (t : Token) (column : ℕ) (sort : TokenSort) (p : ParserState) →
    Silent t sort →
    Grows (TailOf t) p (behind_block_key o t column sort p)
behind_block_key_grows o t column KeyedColon p h =
    plainly t p _ (h refl) (grown_of None p _ (mapping_colon_more o t column p))
behind_block_key_grows o t column sort p h = grows_err (TailOf t) p _

pub in_mapping_grows : (o : OptionsData) (t : Token) (column : ℕ) (stage : PairStage) (p : ParserState) → TailSorted t →
    Grows (TailOf t) p (in_mapping o t column stage p)
in_mapping_grows o t column AtKey p s = at_block_key_grows o t t.sort p
in_mapping_grows o t column BehindKey p s = behind_block_key_grows o t column t.sort p s.other
in_mapping_grows o t column stage p s = behind_indicator_grows o t column stage p s

-- ---- flow collections

close_flow_grown : (t : Token) (p : ParserState) → Grown None p (close_flow t p)
close_flow_grown t p = end_node_grown t.lexeme.start (record { start = t.lexeme.start; end = t.lexeme.shown.end }) p

flow_more : (single : Bool) (stage : PairStage) (p : ParserState) → More None p (flow_at single stage p)
flow_more single stage p = same p (flow_at single stage p) (flush_full p)

flow_colon_more : (o : OptionsData) (t : Token) (single : Bool) (p : ParserState) →
    More None p (flow_colon o t single p)
flow_colon_more o t single p =
    let q = flow_at single AtValue p in
    more_same None p q (flow_colon o t single p) (flow_more single AtValue p)
    (waits_full t.lexeme.start o.max_buffered_comment_events q)

null_colon_more : (o : OptionsData) (t : Token) (single : Bool) (p : ParserState) →
    More None p (flow_colon o t single (give (null_at t.lexeme.start) p))
null_colon_more o t single p =
    let q = give (null_at t.lexeme.start) p in
    more_then None p q (flow_colon o t single q) (give_more (null_at t.lexeme.start) p) (flow_colon_more o t single q)

begin_pair_more : (t : Token) (end : Mark) (f : Frame) (p : ParserState) → More None p (begin_pair t end f p)
begin_pair_more t end f p =
    let e = event_at (events.MappingStart Flow 0 None) (record { start = t.lexeme.start; end = end }) in
    more_same None p (give e p) (begin_pair t end f p) (give_more e p) refl

at_entry_grows : (o : OptionsData) (t : Token) (sort : TokenSort) (p : ParserState) → Silent t sort →
    Grows (TailOf t) p (at_entry o t sort p)
at_entry_grows o t SequenceCloser p h = plainly t p _ (h refl) (close_flow_grown t p)
at_entry_grows o t QuestionToken p h =
    plainly t p _ (h refl) (grown_of None p _ (begin_pair_more t t.lexeme.shown.end (FlowPair AtQuestion) p))
at_entry_grows o t BareColon p h =
    let q = begin_pair t t.lexeme.start (FlowMapping true BeforePair) p in
    plainly t p _ (h refl)
    (grown_of None p _ (more_then None p q _ (begin_pair_more t t.lexeme.start (FlowMapping true BeforePair) p)
    (null_colon_more o t true q)))
at_entry_grows o t BeginsKey p h =
    let q = begin_pair t t.lexeme.start (FlowMapping true AtKey) p in
    grows_of (TailOf t) p (bare o t q)
    (mores_from (TailOf t) p q (bare o t q) (begin_pair_more t t.lexeme.start (FlowMapping true AtKey) p)
    (bare_mores o t q))
at_entry_grows o t BeginsNode p h = bare_grows o t p
at_entry_grows o t sort p h = grows_err (TailOf t) p _

behind_entry_grows : (t : Token) (sort : TokenSort) (p : ParserState) → Silent t sort →
    Grows (TailOf t) p (behind_entry_of t sort p)
behind_entry_grows t SequenceCloser p h = plainly t p _ (h refl) (close_flow_grown t p)
behind_entry_grows t CommaToken p h = plainly t p _ (h refl) (grown_of None p _ (same p _ refl))
behind_entry_grows t sort p h = grows_err (TailOf t) p _

pub in_flow_sequence_grows : (o : OptionsData) (t : Token) (b : Bool) (p : ParserState) → TailSorted t →
    Grows (TailOf t) p (in_flow_sequence o t b p)
in_flow_sequence_grows o t false p s = at_entry_grows o t t.sort p s.other
in_flow_sequence_grows o t true p s = behind_entry_grows t t.sort p s.other

comma_grown : (t : Token) (single : Bool) (p : ParserState) →
    Grown None p (flow_at single BeforePair (owed t.lexeme.start p))
comma_grown t single p =
    let q = owed t.lexeme.start p in
    grown_then None p q (flow_at single BeforePair q) (owed_grown t.lexeme.start p) (flow_more single BeforePair q)

flow_mapping_by :
    (o : OptionsData) (t : Token) (single : Bool) (stage : PairStage) (sort : TokenSort) (p : ParserState) →
    Silent t sort → Grows (TailOf t) p (in_flow_mapping_by o t single stage sort p)
flow_mapping_by o t single AtKey BeginsNode p h = bare_grows o t p
flow_mapping_by o t single AtKey sort p h = grows_err (TailOf t) p _
flow_mapping_by o t single BehindKey KeyedColon p h =
    plainly t p _ (h refl) (grown_of None p _ (flow_colon_more o t single p))
flow_mapping_by o t single BehindKey sort p h = grows_err (TailOf t) p _
flow_mapping_by o t single stage MappingCloser p h = plainly t p _ (h refl) (close_flow_grown t p)
flow_mapping_by o t single BeforePair CommaToken p h = grows_err (TailOf t) p _
flow_mapping_by o t single stage CommaToken p h = plainly t p _ (h refl) (comma_grown t single p)
flow_mapping_by o t single BeforePair QuestionToken p h =
    plainly t p _ (h refl) (grown_of None p _ (flow_more single AtQuestion p))
flow_mapping_by o t single BeforePair BeginsKey p h =
    let q = flow_at single AtKey p in
    grows_of (TailOf t) p (bare o t q)
    (mores_from (TailOf t) p q (bare o t q) (flow_more single AtKey p) (bare_mores o t q))
flow_mapping_by o t single BeforePair BareColon p h =
    plainly t p _ (h refl) (grown_of None p _ (null_colon_more o t single p))
flow_mapping_by o t single AtQuestion BareColon p h =
    plainly t p _ (h refl) (grown_of None p _ (null_colon_more o t single p))
flow_mapping_by o t single BehindQuestion BareColon p h =
    plainly t p _ (h refl) (grown_of None p _ (flow_colon_more o t single p))
flow_mapping_by o t single BeforePair BeginsNode p h = bare_grows o t p
flow_mapping_by o t single AtQuestion BeginsNode p h = bare_grows o t p
flow_mapping_by o t single AtValue BeginsNode p h = bare_grows o t p
flow_mapping_by o t single BeforePair sort p h = grows_err (TailOf t) p _
flow_mapping_by o t single AtQuestion sort p h = grows_err (TailOf t) p _
flow_mapping_by o t single AtValue sort p h = grows_err (TailOf t) p _
flow_mapping_by o t single stage sort p h = grows_err (TailOf t) p _

pub flow_mapping_grows : (o : OptionsData) (t : Token) (single : Bool) (stage : PairStage) (p : ParserState) →
    TailSorted t → Grows (TailOf t) p (in_flow_mapping_by o t single stage t.sort p)
flow_mapping_grows o t single stage p s = flow_mapping_by o t single stage t.sort p s.other

pair_by : (o : OptionsData) (t : Token) (stage : PairStage) (sort : TokenSort) (p : ParserState) → Silent t sort →
    (is_behind_question stage ≡ true → is_dash_token sort ≡ false) → Grows (TailOf t) p (in_flow_pair o t stage sort p)
pair_by o t BehindQuestion sort p h n = plainly t p _ (h (n refl)) (grown_of None p _ (same p _ refl))
pair_by o t stage BeginsNode p h n = bare_grows o t p
pair_by o t stage sort p h n = grows_err (TailOf t) p _

pub flow_pair_grows : (o : OptionsData) (t : Token) (stage : PairStage) (p : ParserState) → TailSorted t →
    (is_behind_question stage ≡ true → is_dash_token t.sort ≡ false) →
    Grows (TailOf t) p (in_flow_pair o t stage t.sort p)
flow_pair_grows o t stage p s n = pair_by o t stage t.sort p s.other n
