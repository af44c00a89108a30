-- Each turn of closing ends a frame.
use Rattle.std.proofs.Common.{◌≡◌, ℕ, suc, ◌<◌, ◌≤◌, Bool, true, false, List, [], ◌∷◌, ◌++◌, length, Option, Some, None}
use Rattle.std.proofs.Common.{Ok, Err, refl, ap, ◌∙◌, arith, Result}
use Rattle.std.specs.Prelude.{if◌then◌else◌, is_some}
use Rattle.granit_base.specs.Place.{Mark}
use Rattle.granit_base.specs.Written.{Written}
use Rattle.granit_error.specs.OptionsData.{OptionsData}
use Rattle.granit_lexemes.specs.Comment.{CommentRead}
use Rattle.granit_lexemes.specs.Outcome.{Fault}
use Rattle.granit_lexemes.specs.Pieces.{Shortens}
use Rattle.granit_lexemes.specs.PlainEvent.{PlainEvent, PlainTag, EventKind, event_at, Anchor}
use Rattle.granit_lexemes.specs.Source.{Source}
use Rattle.granit_machine.specs.Closing.{Closing, ends_top, end_top, close_turn, depth, token_start}
use Rattle.granit_machine.specs.Frames.{AtQuestion, BehindQuestion, AtValue, BehindAlone, NodeProperties, Frame, Root}
use Rattle.granit_machine.specs.Frames.{WithProperties, BlockSequence, BlockMapping, FlowSequence, FlowMapping}
use Rattle.granit_machine.specs.Frames.{FlowPair, Waiting, ParserState}
use Rattle.granit_machine.specs.Giving.{flush_held, put, give, empty_by, below_properties, tell_anchor, node_event_by}
use Rattle.granit_machine.specs.Giving.{node_event, null_at, with_indent, anchor_number, tag_value, span_with_tag}
use Rattle.granit_machine.specs.Giving.{key_indent, properties_on, flush}
use Rattle.granit_machine.specs.NodeEnds.{finish_in, finish, owed_in, owed, below, end_kind, end_node, end_properties}
use Rattle.granit_machine.specs.NodeEnds.{null_node, empty_span}
use Rattle.granit_machine.specs.NodeSteps.{give_tail}
use Rattle.granit_machine.specs.TokenSort.{Token, OfStream, column_of_token, ends_frame, token_column}
use Rattle.granit_machine.specs.TokenSort.{TokenSort, DashToken, is_dash_token, begins_pair}

pub no_dash_pair : (sort : TokenSort) → begins_pair sort ≡ true → is_dash_token sort ≡ false
no_dash_pair DashToken e = absurd cc
no_dash_pair sort e = refl

pub flush_held-frames : (w : Option Waiting) (p : ParserState) → (flush_held w p).frames ≡ p.frames
flush_held-frames None p = refl
flush_held-frames (Some w) p = refl

pub flush_frames : (p : ParserState) → (flush p).frames ≡ p.frames
flush_frames p = flush_held-frames p.waiting p

give-frames : (e : PlainEvent) (p : ParserState) → (give e p).frames ≡ p.frames
give-frames e p = flush_held-frames p.waiting p

pub give_twice-frames : (e d : PlainEvent) (p : ParserState) → (give e (give d p)).frames ≡ p.frames
give_twice-frames e d p = give-frames e (give d p) ∙ give-frames d p

pub empty_by-frames : (w : Option Waiting) (p : ParserState) → (empty_by w p).frames ≡ p.frames
empty_by-frames None p = refl
empty_by-frames (Some w) p = flush_held-frames p.waiting (put (null_at w.at) p)

-- the events that a pair owes leave the frames
pub owed_in-frames : (fs : List Frame) (x : Mark) (p : ParserState) → (owed_in fs x p).frames ≡ p.frames
owed_in-frames (BlockSequence column indentless ∷ fs) x p = empty_by-frames p.waiting p
owed_in-frames (BlockMapping column AtValue ∷ fs) x p = empty_by-frames p.waiting p
owed_in-frames (FlowMapping single AtValue ∷ fs) x p = empty_by-frames p.waiting p
owed_in-frames (BlockMapping column AtQuestion ∷ fs) x p = give_twice-frames (null_at x)
    (with_indent (Some column) (null_at x)) p
owed_in-frames (FlowMapping single AtQuestion ∷ fs) x p = give_twice-frames (null_at x) (null_at x) p
owed_in-frames (FlowPair AtQuestion ∷ fs) x p = give_twice-frames (null_at x) (null_at x) p
owed_in-frames (BlockMapping column BehindQuestion ∷ fs) x p = give-frames (null_at x) p
owed_in-frames (FlowMapping single BehindQuestion ∷ fs) x p = give-frames (null_at x) p
owed_in-frames (FlowMapping single BehindAlone ∷ fs) x p = give-frames (null_at x) p
owed_in-frames (FlowPair BehindQuestion ∷ fs) x p = give-frames (null_at x) p
owed_in-frames (FlowPair AtValue ∷ fs) x p = give-frames (null_at x) p
owed_in-frames fs x p = refl

-- finishing a node leaves at most the frames that were there
finish_in-depth : (fs : List Frame) (p : ParserState) → p.frames ≡ fs → length (finish_in fs p).frames ≤ length fs
finish_in-depth (Root explicit ∷ fs) p e = omega arith
finish_in-depth (BlockMapping column stage ∷ fs) p e = omega arith
finish_in-depth (FlowMapping single stage ∷ fs) p e = omega arith
finish_in-depth (FlowPair stage ∷ fs) p e = omega arith
finish_in-depth (FlowSequence behind_entry ∷ fs) p e = omega arith
finish_in-depth fs p e = let n : length p.frames ≡ length fs = ap (λ (gs : List Frame). length gs) e in omega (arith, n)

finish-depth : (p : ParserState) (fs : List Frame) → p.frames ≡ fs → depth (finish p) ≤ length fs
finish-depth p fs e = let n : length p.frames
    ≡ length fs = ap (λ (gs : List Frame). length gs) e in let m = finish_in-depth p.frames p refl in omega
    (arith, n, m)

end_node-depth : (x : Mark) (source : Source) (p : ParserState) → depth (end_node x source p) ≤ length (below p.frames)
unfolding end_node
end_node-depth x source p =
    let q : ParserState = record (owed x p) { frames = below (owed x p).frames } in
    finish-depth (give (event_at (end_kind (owed x p).frames) source) q) (below p.frames)
    (give-frames (event_at (end_kind (owed x p).frames) source) q
    ∙ ap (λ (gs : List Frame). below gs) (owed_in-frames p.frames x p))

if_frames : (b : Bool) (p q : ParserState) (fs : List Frame) → p.frames ≡ fs → q.frames ≡ fs
    → (if b then p else q).frames ≡ fs
if_frames true p q fs x y = x
if_frames false p q fs x y = y

pub tell_anchor-frames : (o : OptionsData) (a : Option (ℕ × Written × Source)) (p : ParserState)
    → (tell_anchor o a p).frames ≡ p.frames
tell_anchor-frames o None p = refl
tell_anchor-frames o (Some a) p = if_frames o.emit_anchor_events
    (record p { given = p.given ++ event_at (Anchor a.0 a.1) a.2 ∷ [] }) p p.frames refl refl

node_event_by-frames : (o : OptionsData) (q : NodeProperties) (kind : ℕ → Option PlainTag → EventKind) (source : Source)
    (indent : Option ℕ) (p : ParserState) → (node_event_by o q kind source indent p).frames ≡ p.frames
node_event_by-frames o q kind source indent p =
    let e : PlainEvent = record {
      kind = kind (anchor_number q.anchor) (tag_value q.tag);
      span = span_with_tag q.tag
          source (key_indent p.frames indent);
    } in
    tell_anchor-frames o q.anchor (give e p) ∙ give-frames e p

pub node_event-frames : (o : OptionsData) (kind : ℕ → Option PlainTag → EventKind) (source : Source) (indent : Option ℕ)
    (p : ParserState) → (node_event o kind source indent p).frames ≡ below_properties p.frames
unfolding node_event
node_event-frames o kind source indent p = node_event_by-frames o (properties_on p.frames source.end) kind source indent
    (record p { frames = below_properties p.frames })

end_properties-depth : (o : OptionsData) (q : NodeProperties) (fs : List Frame) (p : ParserState)
    → p.frames ≡ WithProperties q ∷ fs → depth (end_properties o q p) ≤ length fs
unfolding end_properties
end_properties-depth o q fs p e =
    finish-depth (node_event o (null_node q) (empty_span q.end) None p) fs
    (node_event-frames o (null_node q) (empty_span q.end) None p ∙ ap (λ (gs : List Frame). below_properties gs) e)

finish-root : (explicit : Bool) (fs : List Frame) (p : ParserState) → p.frames ≡ Root explicit ∷ fs
    → depth (finish p) ≡ length fs
finish-root explicit fs p e = ap (λ (gs : List Frame). length (finish_in gs p).frames) e

ended-depth : (p q : ParserState) (f : Frame) (fs : List Frame) → p.frames ≡ f ∷ fs → depth q ≤ length (below p.frames)
    → depth q < suc (length fs)
ended-depth p q f fs e less = let m : length (below p.frames)
    ≡ length fs = ap (λ (gs : List Frame). length (below gs)) e in omega (arith, m, less)

end_top-depth : (o : OptionsData) (t : Token) (p : ParserState) (fs : List Frame) → p.frames ≡ fs
    → ends_top t p fs ≡ true → depth (end_top o t p fs) < length fs
end_top-depth o t p [] e ends = absurd cc
end_top-depth o t p (Root explicit ∷ fs) e ends = let n = finish-root explicit fs (give (null_at p.last_end) p)
    (give-frames (null_at p.last_end) p ∙ e) in omega (arith, n)
end_top-depth o t p (WithProperties q ∷ fs) e ends = let n = end_properties-depth o q fs p e in omega (arith, n)
end_top-depth o t p (f ∷ fs) e ends = ended-depth p (end_node t.lexeme.start (token_start t) p) f fs e
    (end_node-depth t.lexeme.start (token_start t) p)

abbrev after_of : Closing → ParserState → ParserState
after_of (Ok x) p = x.1
after_of (Err f) p = p

abbrev is_more : Closing → Bool
is_more (Ok x) = is_some x.0
is_more (Err f) = false

abbrev pub close_by : Bool → OptionsData → Token → ParserState → Closing
close_by b o t p = if b then Ok (Some [], end_top o t p p.frames) else Ok (None, p)

closes_as : (o : OptionsData) (t : Token) (p after : ParserState) (piece : List PlainEvent) (b : Bool)
    → ends_top t p p.frames ≡ b
    → close_by b o t p ≡ Ok (Some piece, after) → depth after < depth p
closes_as o t p after piece true ends e =
    let less = end_top-depth o t p p.frames refl ends in
    let n : depth (end_top o t p p.frames) ≡ depth after = ap (λ (r : Closing). depth (after_of r p)) e in omega
    (arith, less, n)
closes_as o t p after piece false ends e = absurd (let m : is_more (Ok (None, p)) ≡ true = ap is_more e in cc)

pub close_turn-Shortens : (o : OptionsData) (t : Token) → Shortens depth (close_turn o t)
unfolding close_turn
close_turn-Shortens o t p after piece e = closes_as o t p after piece (ends_top t p p.frames) refl e

pub tail_frames : (tail : Option CommentRead) (p : ParserState) → (give_tail tail p).frames ≡ p.frames
tail_frames None p = refl
tail_frames (Some c) p = flush_frames p

pub every_frame_ends : (t : Token) (column : ℕ) → t.sort ≡ OfStream → ends_frame (token_column t) column ≡ true
every_frame_ends t column e = ap (λ s. ends_frame (column_of_token s t.lexeme.start.place.column) column) e

abbrev pub FeedGiven : Type 0
FeedGiven = Result (List PlainEvent × ParserState) Fault
