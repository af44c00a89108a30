-- Nothing waits for a node where events were given.
use Rattle.std.proofs.Common.{◌≡◌, None, Option, Some, refl, Bool, [], false, true, ◌++◌, ◌∷◌, ◌∙◌, List, ℕ}
use Rattle.std.specs.Prelude.{if◌then◌else◌}
use Rattle.granit_base.specs.Place.{Mark}
use Rattle.granit_base.specs.Written.{Written}
use Rattle.granit_error.specs.OptionsData.{OptionsData}
use Rattle.granit_lexemes.specs.PlainEvent.{event_at, EventKind, PlainTag, Anchor}
use Rattle.granit_lexemes.specs.Source.{Source}
use Rattle.granit_machine.specs.Closing.{end_top, token_start}
use Rattle.granit_machine.specs.Frames.{ParserState, Waiting, BlockMapping, BlockSequence, FlowMapping, FlowPair, Frame}
use Rattle.granit_machine.specs.Frames.{FlowSequence, Root, WithProperties, NodeProperties}
use Rattle.granit_machine.specs.Giving.{flush_held, flush, tell_anchor, below_properties, node_event, properties_on}
use Rattle.granit_machine.specs.Giving.{give, null_at}
use Rattle.granit_machine.specs.NodeEnds.{finish_in, finish, below, end_node, owed, empty_span, end_properties}
use Rattle.granit_machine.specs.NodeEnds.{null_node}
use Rattle.granit_machine.specs.TokenSort.{Token}

pub flush_none_by : (w : Option Waiting) (p : ParserState) → (flush_held w (record p { waiting = w })).waiting ≡ None
flush_none_by None p = refl
flush_none_by (Some w) p = refl

pub flush_none : (p : ParserState) → (flush p).waiting ≡ None
flush_none p = flush_none_by p.waiting p

pub anchor_keeps : (o : OptionsData) (a : Option (ℕ × Written × Source)) (p : ParserState) →
    (tell_anchor o a p).waiting ≡ p.waiting
anchor_keeps o None p = refl
anchor_keeps o (Some a) p = on o.emit_anchor_events
  where
    on : (b : Bool) → (if b then record p {
      given = p.given ++ event_at
          (Anchor a.0 a.1) a.2 ∷ [];
    } else p).waiting ≡ p.waiting
    on true = refl
    on false = refl

pub node_none :
    (o : OptionsData) (kind : ℕ → Option PlainTag → EventKind) (source : Source) (indent : Option ℕ) (p : ParserState) →
    (node_event o kind source indent p).waiting ≡ None
unfolding node_event
node_none o kind source indent p =
    let q = properties_on p.frames source.end in
    anchor_keeps o q.anchor _ ∙ flush_none (record p { frames = below_properties p.frames })

pub finish_keeps_by : (fs : List Frame) (p : ParserState) → (finish_in fs p).waiting ≡ p.waiting
finish_keeps_by [] p = refl
finish_keeps_by (Root explicit ∷ fs) p = refl
finish_keeps_by (WithProperties q ∷ fs) p = refl
finish_keeps_by (BlockSequence column indentless ∷ fs) p = refl
finish_keeps_by (BlockMapping column stage ∷ fs) p = refl
finish_keeps_by (FlowSequence behind_entry ∷ fs) p = refl
finish_keeps_by (FlowMapping single stage ∷ fs) p = refl
finish_keeps_by (FlowPair stage ∷ fs) p = refl

pub finish_keeps : (p : ParserState) → (finish p).waiting ≡ p.waiting
finish_keeps p = finish_keeps_by p.frames p

pub leaf_none :
    (o : OptionsData) (kind : ℕ → Option PlainTag → EventKind) (source : Source) (indent : Option ℕ) (p : ParserState) →
    (finish (node_event o kind source indent p)).waiting ≡ None
leaf_none o kind source indent p =
    finish_keeps (node_event o kind source indent p) ∙ node_none o kind source indent p

pub end_node_none : (m : Mark) (source : Source) (p : ParserState) → (end_node m source p).waiting ≡ None
unfolding end_node
end_node_none m source p = finish_keeps _ ∙ flush_none (record (owed m p) { frames = below (owed m p).frames })

pub end_properties_none : (o : OptionsData) (q : NodeProperties) (p : ParserState) →
    (end_properties o q p).waiting ≡ None
unfolding end_properties
end_properties_none o q p = leaf_none o (null_node q) (empty_span q.end) None p

pub end_top_none : (o : OptionsData) (t : Token) (p : ParserState) (fs : List Frame) → (end_top o t p fs).waiting ≡ None
end_top_none o t p (Root explicit ∷ fs) = finish_keeps (give (null_at p.last_end) p) ∙ flush_none p
end_top_none o t p (WithProperties q ∷ fs) = end_properties_none o q p
end_top_none o t p fs = end_node_none t.lexeme.start (token_start t) p
