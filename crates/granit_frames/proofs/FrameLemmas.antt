-- Frames with the properties of a node inside them.
use Rattle.std.proofs.Common.{◌≡◌, ℕ, Bool, true, false, if◌then◌else◌, List, [], ◌∷◌, ◌++◌, Option, Some, None, refl}
use Rattle.std.proofs.Common.{◌∙◌}
use Rattle.granit_base.specs.Place.{Mark}
use Rattle.granit_base.specs.Written.{Written}
use Rattle.granit_error.specs.OptionsData.{OptionsData}
use Rattle.granit_lexemes.specs.PlainEvent.{PlainEvent, PlainTag, EventKind, event_at, Anchor}
use Rattle.granit_lexemes.specs.Source.{Source}
use Rattle.granit_machine.specs.Frames as spec
use Rattle.granit_machine.specs.Giving.{no_properties, properties_on, below_properties, anchor_number, tag_value}
use Rattle.granit_machine.specs.Giving.{span_with_tag, key_indent, tell_anchor, flush_held, put, node_event_by}
use Rattle.granit_machine.specs.NodeEnds.{block_count}
use Rattle.granit_node_properties.specs.declared.properties.NodeProperties.{NodeProperties}
use Rattle.granit_frames.specs.StateViews.{all_frames, has_properties}
use Rattle.granit_nesting.specs.declared.frames.Frame.{Frame}
use Rattle.granit_nesting.specs.declared.frames.Frame.TheVariants as frames
use Rattle.granit_nesting.specs.FrameViews.{frame_view, frames_view}

-- the properties of a node that must come are no frame
pub no_properties_below : (fs : List Frame) → below_properties (frames_view fs) ≡ frames_view fs
no_properties_below [] = refl
no_properties_below (frames.Root explicit ∷ fs) = refl
no_properties_below (frames.BlockSequence column indentless ∷ fs) = refl
no_properties_below (frames.BlockMapping column stage ∷ fs) = refl
no_properties_below (frames.FlowSequence behind_entry ∷ fs) = refl
no_properties_below (frames.FlowMapping single stage ∷ fs) = refl
no_properties_below (frames.FlowPair stage ∷ fs) = refl

pub no_properties_on : (m : Mark) (fs : List Frame) → properties_on (frames_view fs) m ≡ no_properties m
no_properties_on m [] = refl
no_properties_on m (frames.Root explicit ∷ fs) = refl
no_properties_on m (frames.BlockSequence column indentless ∷ fs) = refl
no_properties_on m (frames.BlockMapping column stage ∷ fs) = refl
no_properties_on m (frames.FlowSequence behind_entry ∷ fs) = refl
no_properties_on m (frames.FlowMapping single stage ∷ fs) = refl
no_properties_on m (frames.FlowPair stage ∷ fs) = refl

pub none_on_top : (fs : List Frame) → has_properties (frames_view fs) ≡ false
none_on_top [] = refl
none_on_top (frames.Root explicit ∷ fs) = refl
none_on_top (frames.BlockSequence column indentless ∷ fs) = refl
none_on_top (frames.BlockMapping column stage ∷ fs) = refl
none_on_top (frames.FlowSequence behind_entry ∷ fs) = refl
none_on_top (frames.FlowMapping single stage ∷ fs) = refl
none_on_top (frames.FlowPair stage ∷ fs) = refl

pub below_all : (q : Option NodeProperties) (fs : List Frame) → below_properties (all_frames q fs) ≡ frames_view fs
below_all None fs = no_properties_below fs
below_all (Some q) fs = refl

pub blocks_below : (q : Option NodeProperties) (fs : List Frame)
    → block_count (all_frames q fs) ≡ block_count (frames_view fs)
blocks_below None fs = refl
blocks_below (Some q) fs = refl

pub pushed_frame : (q : Option NodeProperties) (fs : List Frame) (f : Frame) → has_properties (all_frames q fs) ≡ false
    → all_frames q (f ∷ fs) ≡ frame_view f ∷ all_frames q fs
pushed_frame None fs f bare = refl
pushed_frame (Some q) fs f bare = absurd (cc bare)

-- events leave the frames as they are
told_frames : (o : OptionsData) (a : Option (ℕ × Written × Source)) (p : spec.ParserState)
    → (tell_anchor o a p).frames ≡ p.frames
told_frames o None p = refl
told_frames o (Some a) p = by_cases o.emit_anchor_events
  where
    by_cases : (b : Bool)
        → (if b then record p { given = p.given ++ event_at (Anchor a.0 a.1) a.2 ∷ [] } else p).frames ≡ p.frames
    by_cases true = refl
    by_cases false = refl

given_frames : (e : PlainEvent) (w : Option spec.Waiting) (p : spec.ParserState)
    → (put e (flush_held w p)).frames ≡ p.frames
given_frames e None p = refl
given_frames e (Some w) p = refl

pub same_frames : (o : OptionsData) (q : spec.NodeProperties) (kind : ℕ → Option PlainTag → EventKind)
    (source : Source) (indent : Option ℕ) (p : spec.ParserState)
    → (node_event_by o q kind source indent p).frames ≡ p.frames
same_frames o q kind source indent p =
    let e : PlainEvent = record {
      kind = kind (anchor_number q.anchor) (tag_value q.tag);
      span = span_with_tag q.tag source (key_indent p.frames indent);
    } in
    told_frames o q.anchor (put e (flush_held p.waiting p)) ∙ given_frames e p.waiting p

-- frames without properties
pub ruleset bare_frames = (no_properties_below, no_properties_on)

-- frames where a node begins
pub ruleset at_node = (same_frames, no_properties_below, no_properties_on, none_on_top)
