-- Giving, ending and beginning nodes tells the comments that were held, and no others.
use Rattle.std.proofs.Common.{◌≡◌, ℕ, Bool, true, false, List, [], ◌∷◌, ◌++◌, Option, Some, None, refl, sym, ap, ◌∙◌}
use Rattle.std.specs.Prelude.{if◌then◌else◌}
use Rattle.std.proofs.Math.Bool.{cond}
use Rattle.std.proofs.lemmas.List.{append-nil}
use Rattle.std.proofs.lemmas.List.Elements.{filter-append}
use Rattle.granit_base.specs.Place.{Mark}
use Rattle.granit_base.specs.Written.{Written}
use Rattle.granit_base.specs.declared.style.Placement.TheVariants.{Right}
use Rattle.granit_error.specs.OptionsData.{OptionsData}
use Rattle.granit_lexemes.specs.Comment.{CommentRead}
use Rattle.granit_lexemes.specs.PlainEvent.{PlainEvent, PlainTag, EventKind, event_at, Anchor, is_note}
use Rattle.granit_lexemes.specs.Source.{Source}
use Rattle.granit_machine.specs.Frames.{AtQuestion, BehindQuestion, AtValue, BehindAlone, NodeProperties, Frame, Root}
use Rattle.granit_machine.specs.Frames.{WithProperties, BlockSequence, BlockMapping, FlowSequence, FlowMapping}
use Rattle.granit_machine.specs.Frames.{FlowPair, Waiting, ParserState}
use Rattle.granit_machine.specs.Giving.{null_at, with_indent, flush_held, flush, put, give, empty_by, give_empty}
use Rattle.granit_machine.specs.Giving.{properties_on, below_properties, key_indent, anchor_number, tag_value}
use Rattle.granit_machine.specs.Giving.{span_with_tag, tell_anchor, node_event}
use Rattle.granit_machine.specs.NodeEnds.{finish_in, finish, owed_in, owed, end_kind, below, end_node, null_node}
use Rattle.granit_machine.specs.NodeEnds.{empty_span, end_properties, begin, waits}
use Rattle.granit_machine.specs.NodeSteps.{give_tail}
use Rattle.granit_quiet.specs.CommentEvents.{only_comments, held_of, comment_event}
use Rattle.granit_quiet.proofs.Quieting.{NodeKind, end_kind_tells}

-- ---- lists of events

pub only_append : (xs ys : List PlainEvent) → only_comments (xs ++ ys) ≡ only_comments xs ++ only_comments ys
only_append xs ys = filter-append (λ e. is_note e.kind) xs ys

silent_one : (e : PlainEvent) → is_note e.kind ≡ false → only_comments (e ∷ []) ≡ []
silent_one e h = ap (λ b. cond b (e ∷ []) []) h

silent_last : (xs : List PlainEvent) (e : PlainEvent) → is_note e.kind ≡ false → only_comments
    (xs ++ e ∷ []) ≡ only_comments xs
silent_last xs e h = only_append xs (e ∷ []) ∙ (ap (λ es. only_comments xs ++ es) (silent_one e h) ∙ append-nil
    (only_comments xs))

-- the comments that were given or are held
abbrev pub told : ParserState → List PlainEvent
told p = only_comments p.given ++ only_comments (held_of p.waiting)

-- ---- giving

flush_by : (w : Option Waiting) (p : ParserState) → told (flush_held w (record p { waiting = w })) ≡ told (record p
    { waiting = w })
flush_by None p = refl
flush_by (Some w) p = append-nil (only_comments (p.given ++ w.held)) ∙ only_append p.given w.held

pub flush_told : (p : ParserState) → told (flush p) ≡ told p
flush_told p = flush_by p.waiting p

pub put_told : (e : PlainEvent) (p : ParserState) → is_note e.kind ≡ false → told (put e p) ≡ told p
put_told e p h = ap (λ es. es ++ only_comments (held_of p.waiting)) (silent_last p.given e h)

pub give_told : (e : PlainEvent) (p : ParserState) → is_note e.kind ≡ false → told (give e p) ≡ told p
give_told e p h = put_told e (flush p) h ∙ flush_told p

empty_told_by : (w : Option Waiting) (p : ParserState) → told (empty_by w p) ≡ told p
empty_told_by None p = refl
empty_told_by (Some w) p = flush_told (put (null_at w.at) p) ∙ put_told (null_at w.at) p refl

pub give_empty_told : (p : ParserState) → told (give_empty p) ≡ told p
give_empty_told p = empty_told_by p.waiting p

anchor_told : (o : OptionsData) (a : Option (ℕ × Written × Source)) (p : ParserState) → told
    (tell_anchor o a p) ≡ told p
anchor_told o None p = refl
anchor_told o (Some a) p = on o.emit_anchor_events
  where
    on : (b : Bool) → told (if b then record p {
      given = p.given ++ event_at
          (Anchor a.0 a.1) a.2 ∷ [];
    } else p) ≡ told p
    on true = ap (λ es. es ++ only_comments (held_of p.waiting)) (silent_last p.given (event_at
        (Anchor a.0 a.1) a.2) refl)
    on false = refl

pub node_told :
    (o : OptionsData) (kind : ℕ → Option PlainTag → EventKind) (source : Source) (indent : Option ℕ) (p : ParserState) →
    NodeKind kind → told (node_event o kind source indent p) ≡ told p
unfolding node_event
node_told o kind source indent p h =
    let q = properties_on p.frames source.end in
    let r : ParserState = record p { frames = below_properties p.frames } in
    let e : PlainEvent = record {
      kind = kind (anchor_number q.anchor) (tag_value q.tag);
      span = span_with_tag q.tag source (key_indent r.frames indent);
    } in
    anchor_told o q.anchor (give e r) ∙ give_told e r (h (anchor_number q.anchor) (tag_value q.tag))

-- ---- ending and beginning

finish_by : (fs : List Frame) (p : ParserState) → told (finish_in fs p) ≡ told p
finish_by [] p = refl
finish_by (Root explicit ∷ fs) p = refl
finish_by (WithProperties q ∷ fs) p = refl
finish_by (BlockSequence column indentless ∷ fs) p = refl
finish_by (BlockMapping column stage ∷ fs) p = refl
finish_by (FlowSequence b ∷ fs) p = refl
finish_by (FlowMapping single stage ∷ fs) p = refl
finish_by (FlowPair stage ∷ fs) p = refl

pub finish_told : (p : ParserState) → told (finish p) ≡ told p
finish_told p = finish_by p.frames p

pub leaf_told :
    (o : OptionsData) (kind : ℕ → Option PlainTag → EventKind) (source : Source) (indent : Option ℕ) (p : ParserState) →
    NodeKind kind → told (finish (node_event o kind source indent p)) ≡ told p
leaf_told o kind source indent p h = finish_told (node_event o kind source indent p)
    ∙ node_told o kind source indent p h

pub begin_told :
    (o : OptionsData) (kind : ℕ → Option PlainTag → EventKind) (source : Source) (f : Frame) (p : ParserState) →
    NodeKind kind → told (begin o kind source f p) ≡ told p
begin_told o kind source f p h = node_told o kind source None p h

waits_by : (m : Mark) (room : ℕ) (w : Option Waiting) (p : ParserState) → told (record (flush_held w (record p
    { waiting = w })) { waiting = Some (record { at = m; room = room; held = [] }) }) ≡ told (record p { waiting = w })
waits_by m room None p = refl
waits_by m room (Some w) p = append-nil (only_comments (p.given ++ w.held)) ∙ only_append p.given w.held

pub waits_told : (m : Mark) (room : ℕ) (p : ParserState) → told (waits m room p) ≡ told p
waits_told m room p = waits_by m room p.waiting p

two_nulls : (m : Mark) (e : PlainEvent) (p : ParserState) → is_note e.kind ≡ false → told (give (null_at m)
    (give e p)) ≡ told p
two_nulls m e p h = give_told (null_at m) (give e p) refl ∙ give_told e p h

owed_by : (fs : List Frame) (x : Mark) (p : ParserState) → told (owed_in fs x p) ≡ told p
owed_by (BlockSequence column indentless ∷ fs) x p = give_empty_told p
owed_by (BlockMapping column AtValue ∷ fs) x p = give_empty_told p
owed_by (FlowMapping single AtValue ∷ fs) x p = give_empty_told p
owed_by (BlockMapping column AtQuestion ∷ fs) x p = two_nulls x (with_indent (Some column) (null_at x)) p refl
owed_by (FlowMapping single AtQuestion ∷ fs) x p = two_nulls x (null_at x) p refl
owed_by (FlowPair AtQuestion ∷ fs) x p = two_nulls x (null_at x) p refl
owed_by (BlockMapping column BehindQuestion ∷ fs) x p = give_told (null_at x) p refl
owed_by (FlowMapping single BehindQuestion ∷ fs) x p = give_told (null_at x) p refl
owed_by (FlowMapping single BehindAlone ∷ fs) x p = give_told (null_at x) p refl
owed_by (FlowPair BehindQuestion ∷ fs) x p = give_told (null_at x) p refl
owed_by (FlowPair AtValue ∷ fs) x p = give_told (null_at x) p refl
owed_by fs x p = refl

pub owed_told : (x : Mark) (p : ParserState) → told (owed x p) ≡ told p
owed_told x p = owed_by p.frames x p

pub end_node_told : (x : Mark) (source : Source) (p : ParserState) → told (end_node x source p) ≡ told p
unfolding end_node
end_node_told x source p =
    let q = owed x p in
    let r : ParserState = record q { frames = below q.frames } in
    let e = event_at (end_kind q.frames) source in
    finish_told (give e r) ∙ (give_told e r (end_kind_tells q.frames) ∙ owed_told x p)

pub end_properties_told : (o : OptionsData) (q : NodeProperties) (p : ParserState) → told
    (end_properties o q p) ≡ told p
unfolding end_properties
end_properties_told o q p = leaf_told o (null_node q) (empty_span q.end) None p (λ n t. refl)

-- ---- the comment behind a `-`

abbrev pub with_tail_of : Option CommentRead → List PlainEvent → List PlainEvent
with_tail_of None es = es
with_tail_of (Some c) es = es ++ comment_event c Right ∷ []

tail_by :
    (c : CommentRead) (w : Option Waiting) (p : ParserState) →
    told (let q = flush_held w (record p { waiting = w }) in record q { given = q.given ++ comment_event c Right ∷ [] })
    ≡ told (record p { waiting = w }) ++ comment_event c Right ∷ []
tail_by c None p =
    append-nil (only_comments (p.given ++ comment_event c Right ∷ [])) ∙ only_append p.given
    (comment_event c Right ∷ [])
    ∙ ap (λ es. es ++ comment_event c Right ∷ []) (sym (append-nil (only_comments p.given)))
tail_by c (Some w) p =
    append-nil (only_comments ((p.given ++ w.held) ++ comment_event c Right ∷ []))
    ∙ only_append (p.given ++ w.held) (comment_event c Right ∷ [])
    ∙ ap (λ es. es ++ comment_event c Right ∷ []) (only_append p.given w.held)

pub tail_told : (tail : Option CommentRead) (p : ParserState) → told (give_tail tail p) ≡ with_tail_of tail (told p)
tail_told None p = refl
tail_told (Some c) p = tail_by c p.waiting p
