-- Giving, ending and beginning nodes does the same to a state without what comments left in it.
use Rattle.std.proofs.Common.{◌≡◌, ℕ, Bool, true, false, not, List, [], ◌∷◌, ◌++◌, Option, Some, None, refl, sym, ap}
use Rattle.std.proofs.Common.{◌∙◌}
use Rattle.std.specs.Prelude.{if◌then◌else◌, is_none}
use Rattle.std.proofs.Math.Bool.{cond}
use Rattle.std.proofs.lemmas.List.{append-nil}
use Rattle.std.proofs.lemmas.List.Elements.{filter-append}
use Rattle.granit_base.specs.Place.{Mark}
use Rattle.granit_base.specs.Written.{Written}
use Rattle.granit_error.specs.OptionsData.{OptionsData}
use Rattle.granit_lexemes.specs.PlainEvent.{PlainEvent, PlainTag, EventKind, event_at, Anchor, is_note}
use Rattle.granit_lexemes.specs.Source.{Source}
use Rattle.granit_machine.specs.Frames.{AtQuestion, BehindQuestion, AtValue, BehindAlone, NodeProperties, Frame, Root}
use Rattle.granit_machine.specs.Frames.{WithProperties, BlockSequence, BlockMapping, FlowSequence, FlowMapping}
use Rattle.granit_machine.specs.Frames.{FlowPair, Waiting, ParserState}
use Rattle.granit_machine.specs.Giving.{null_at, with_indent, flush_held, flush, put, give, empty_by, give_empty}
use Rattle.granit_machine.specs.Giving.{properties_on, below_properties, key_indent, anchor_number, tag_value}
use Rattle.granit_machine.specs.Giving.{span_with_tag, tell_anchor, node_event}
use Rattle.granit_machine.specs.NodeEnds.{finish_in, finish, owed_in, owed, end_kind, below, end_by, end_node}
use Rattle.granit_machine.specs.NodeEnds.{null_node, empty_span, end_properties, begin, waits}
use Rattle.granit_quiet.specs.Quiet.{but_comments, waits_alone, quiet}

-- ---- events

told_one : (e : PlainEvent) → is_note e.kind ≡ false → but_comments (e ∷ []) ≡ e ∷ []
told_one e h = ap (λ b. cond (not b) (e ∷ []) []) h

untold_one : (e : PlainEvent) → is_note e.kind ≡ true → but_comments (e ∷ []) ≡ []
untold_one e h = ap (λ b. cond (not b) (e ∷ []) []) h

pub but_append : (xs ys : List PlainEvent) → but_comments (xs ++ ys) ≡ but_comments xs ++ but_comments ys
but_append xs ys = filter-append (λ e. not (is_note e.kind)) xs ys

told_last : (xs : List PlainEvent) (e : PlainEvent) → is_note e.kind ≡ false
    → but_comments xs ++ e ∷ [] ≡ but_comments (xs ++ e ∷ [])
told_last xs e h = ap (λ ys. but_comments xs ++ ys) (sym (told_one e h)) ∙ sym (but_append xs (e ∷ []))

pub untold_last : (xs : List PlainEvent) (e : PlainEvent) → is_note e.kind ≡ true
    → but_comments (xs ++ e ∷ []) ≡ but_comments xs
untold_last xs e h = but_append xs (e ∷ []) ∙ ap (λ ys. but_comments xs ++ ys) (untold_one e h)
    ∙ append-nil (but_comments xs)

-- ---- what is given

flush_by : (o : OptionsData) (w : Option Waiting) (p : ParserState)
    → flush_held (waits_alone o.max_buffered_comment_events w) (quiet o p) ≡ quiet o (flush_held w p)
flush_by o None p = refl
flush_by o (Some w) p = ap (λ es. record p { waiting = None; given = es }) (sym (but_append p.given w.held))

pub flush_quiet : (o : OptionsData) (p : ParserState) → flush (quiet o p) ≡ quiet o (flush p)
flush_quiet o p = flush_by o p.waiting p

add_quiet : (o : OptionsData) (e : PlainEvent) (p : ParserState) → is_note e.kind ≡ false
    → record (quiet o p) { given = but_comments p.given ++ e ∷ [] } ≡ quiet o (record p { given = p.given ++ e ∷ [] })
add_quiet o e p h = ap (λ es. record (quiet o p) { given = es }) (told_last p.given e h)

put_quiet : (o : OptionsData) (e : PlainEvent) (p : ParserState) → is_note e.kind ≡ false
    → put e (quiet o p) ≡ quiet o (put e p)
put_quiet o e p h = ap (λ es. record (quiet o p) { last_end = e.span.end; given = es }) (told_last p.given e h)

pub give_quiet : (o : OptionsData) (e : PlainEvent) (p : ParserState) → is_note e.kind ≡ false
    → give e (quiet o p) ≡ quiet o (give e p)
give_quiet o e p h = ap (put e) (flush_quiet o p) ∙ put_quiet o e (flush p) h

pub null_quiet : (o : OptionsData) (m : Mark) (p : ParserState)
    → give (null_at m) (quiet o p) ≡ quiet o (give (null_at m) p)
null_quiet o m p = give_quiet o (null_at m) p refl

empty_quiet : (o : OptionsData) (w : Option Waiting) (p : ParserState)
    → empty_by (waits_alone o.max_buffered_comment_events w) (quiet o p) ≡ quiet o (empty_by w p)
empty_quiet o None p = refl
empty_quiet o (Some w) p = ap flush (put_quiet o (null_at w.at) p refl) ∙ flush_quiet o (put (null_at w.at) p)

pub give_empty_quiet : (o : OptionsData) (p : ParserState) → give_empty (quiet o p) ≡ quiet o (give_empty p)
give_empty_quiet o p = empty_quiet o p.waiting p

pub waits_none : (room : ℕ) (w : Option Waiting) → is_none (waits_alone room w) ≡ is_none w
waits_none room None = refl
waits_none room (Some w) = refl

-- ---- nodes

anchor_quiet : (o : OptionsData) (a : Option (ℕ × Written × Source)) (p : ParserState)
    → tell_anchor o a (quiet o p) ≡ quiet o (tell_anchor o a p)
anchor_quiet o None p = refl
anchor_quiet o (Some a) p = told o.emit_anchor_events
  where
    told : (b : Bool) → (if b then record (quiet o p) {
      given = but_comments p.given
          ++ event_at (Anchor a.0 a.1) a.2 ∷ [];
    } else quiet o p)
        ≡ quiet o (if b then record p { given = p.given ++ event_at (Anchor a.0 a.1) a.2 ∷ [] } else p)
    told true = add_quiet o (event_at (Anchor a.0 a.1) a.2) p refl
    told false = refl

-- no event of a node is a comment
abbrev pub NodeKind : (ℕ → Option PlainTag → EventKind) → Type 0
NodeKind kind = (n : ℕ) (t : Option PlainTag) → is_note (kind n t) ≡ false

pub node_quiet : (o : OptionsData) (kind : ℕ → Option PlainTag → EventKind) (source : Source) (indent : Option ℕ)
    (p : ParserState) → NodeKind kind → node_event o kind source indent (quiet o p)
    ≡ quiet o (node_event o kind source indent p)
unfolding node_event
node_quiet o kind source indent p h =
    let q = properties_on p.frames source.end in
    let r : ParserState = record p { frames = below_properties p.frames } in
    let e : PlainEvent = record {
      kind = kind (anchor_number q.anchor) (tag_value q.tag);
      span = span_with_tag q.tag
          source (key_indent r.frames indent);
    } in
    ap (tell_anchor o q.anchor) (give_quiet o e r (h (anchor_number q.anchor) (tag_value q.tag)))
    ∙ anchor_quiet o q.anchor (give e r)

finish_by : (o : OptionsData) (fs : List Frame) (p : ParserState) → finish_in fs (quiet o p) ≡ quiet o (finish_in fs p)
finish_by o [] p = refl
finish_by o (Root explicit ∷ fs) p = refl
finish_by o (WithProperties q ∷ fs) p = refl
finish_by o (BlockSequence column indentless ∷ fs) p = refl
finish_by o (BlockMapping column stage ∷ fs) p = refl
finish_by o (FlowSequence behind_entry ∷ fs) p = refl
finish_by o (FlowMapping single stage ∷ fs) p = refl
finish_by o (FlowPair stage ∷ fs) p = refl

pub finish_quiet : (o : OptionsData) (p : ParserState) → finish (quiet o p) ≡ quiet o (finish p)
finish_quiet o p = finish_by o p.frames p

pub leaf_quiet : (o : OptionsData) (kind : ℕ → Option PlainTag → EventKind) (source : Source) (indent : Option ℕ)
    (p : ParserState) → NodeKind kind → finish (node_event o kind source indent (quiet o p))
    ≡ quiet o (finish (node_event o kind source indent p))
leaf_quiet o kind source indent p h = ap finish (node_quiet o kind source indent p h)
    ∙ finish_quiet o (node_event o kind source indent p)

pub begin_quiet : (o : OptionsData) (kind : ℕ → Option PlainTag → EventKind) (source : Source) (f : Frame)
    (p : ParserState) → NodeKind kind → begin o kind source f (quiet o p) ≡ quiet o (begin o kind source f p)
begin_quiet o kind source f p h = ap (λ (q : ParserState). record q { frames = f ∷ q.frames })
    (node_quiet o kind source None p h)

-- ---- what waits

pub waits_quiet : (o : OptionsData) (m : Mark) (room : ℕ) (p : ParserState)
    → waits m o.max_buffered_comment_events (quiet o p) ≡ quiet o (waits m room p)
waits_quiet o m room p = ap (λ (q : ParserState). record q {
  waiting = Some
      (record { at = m; room = o.max_buffered_comment_events; held = [] });
}) (flush_quiet o p)

-- ---- what ends

two_nulls : (o : OptionsData) (e f : PlainEvent) (p : ParserState) → is_note e.kind ≡ false
    → is_note f.kind ≡ false → give f (give e (quiet o p)) ≡ quiet o (give f (give e p))
two_nulls o e f p h k = ap (give f) (give_quiet o e p h) ∙ give_quiet o f (give e p) k

owed_by : (o : OptionsData) (fs : List Frame) (m : Mark) (p : ParserState)
    → owed_in fs m (quiet o p) ≡ quiet o (owed_in fs m p)
owed_by o (BlockSequence column indentless ∷ fs) m p = give_empty_quiet o p
owed_by o (BlockMapping column AtValue ∷ fs) m p = give_empty_quiet o p
owed_by o (FlowMapping single AtValue ∷ fs) m p = give_empty_quiet o p
owed_by o (BlockMapping column AtQuestion ∷ fs) m p = two_nulls o (with_indent (Some column) (null_at m)) (null_at m) p
    refl refl
owed_by o (FlowMapping single AtQuestion ∷ fs) m p = two_nulls o (null_at m) (null_at m) p refl refl
owed_by o (FlowPair AtQuestion ∷ fs) m p = two_nulls o (null_at m) (null_at m) p refl refl
owed_by o (BlockMapping column BehindQuestion ∷ fs) m p = null_quiet o m p
owed_by o (FlowMapping single BehindQuestion ∷ fs) m p = null_quiet o m p
owed_by o (FlowMapping single BehindAlone ∷ fs) m p = null_quiet o m p
owed_by o (FlowPair BehindQuestion ∷ fs) m p = null_quiet o m p
owed_by o (FlowPair AtValue ∷ fs) m p = null_quiet o m p
owed_by o fs m p = refl

pub owed_quiet : (o : OptionsData) (m : Mark) (p : ParserState) → owed m (quiet o p) ≡ quiet o (owed m p)
owed_quiet o m p = owed_by o p.frames m p

pub end_kind_tells : (fs : List Frame) → is_note (end_kind fs) ≡ false
end_kind_tells (BlockSequence column indentless ∷ fs) = refl
end_kind_tells (FlowSequence behind_entry ∷ fs) = refl
end_kind_tells fs = refl

end_by_quiet : (o : OptionsData) (source : Source) (p : ParserState)
    → end_by source (quiet o p) ≡ quiet o (end_by source p)
end_by_quiet o source p =
    let q : ParserState = record p { frames = below p.frames } in
    let e = event_at (end_kind p.frames) source in
    ap finish (give_quiet o e q (end_kind_tells p.frames)) ∙ finish_quiet o (give e q)

pub end_node_quiet : (o : OptionsData) (m : Mark) (source : Source) (p : ParserState)
    → end_node m source (quiet o p) ≡ quiet o (end_node m source p)
unfolding end_node
end_node_quiet o m source p = ap (end_by source) (owed_quiet o m p) ∙ end_by_quiet o source (owed m p)

pub end_properties_quiet : (o : OptionsData) (q : NodeProperties) (p : ParserState)
    → end_properties o q (quiet o p) ≡ quiet o (end_properties o q p)
unfolding end_properties
end_properties_quiet o q p = leaf_quiet o (null_node q) (empty_span q.end) None p (λ n t. refl)
