-- The parser ends a frame with the events that the grammar's machine gives.
use Rattle.std.proofs.Common.{◌≡◌, ℕ, Bool, true, false, List, [], ◌∷◌, ◌++◌, refl, ap, ap₂, ◌∙◌, append_assoc, Option}
use Rattle.std.proofs.Common.{Some, None}
use Rattle.std.specs.Prelude.{if◌then◌else◌}
use Rattle.std.proofs.lemmas.List.{append-nil}
use Rattle.granit_base.specs.Place.{Mark, Mark}
use Rattle.granit_base.specs.Written.{Written, lent}
use Rattle.granit_base.specs.declared.style.ScalarStyle.TheVariants.{Plain}
use Rattle.granit_error.specs.OptionsData.{OptionsData}
use Rattle.granit_lexemes.specs.Source.{Source}
use Rattle.granit_lexemes.specs.PlainEvent.{PlainEvent, PlainTag, event_at}
use Rattle.granit_lexemes.specs.PlainEvent as plain
use Rattle.granit_lexemes.specs.Lexeme as lexemes
use Rattle.granit_views.specs.Fair.{frame_ends_at}
use Rattle.granit_views.specs.Good.{Holes, at_root, at_entry, at_key, at_asked, at_value, at_item, at_curly}
use Rattle.granit_views.specs.Good.{curly_key, curly_asked, curly_value, made_key, made_value, pair_asked}
use Rattle.granit_views.specs.Good.{pair_value, GoodProperties, Good, hole, behind_properties, past_entry, key_done}
use Rattle.granit_views.specs.Good.{ask_done, pair_done, item_done, curly_key_done, curly_ask_done, curly_solo}
use Rattle.granit_views.specs.Good.{curly_done, made_key_done, made_done, square_ask_done, square_done}
use Rattle.granit_views.specs.View.{frames_of, parser_properties, Beside, state_of, give_all, with_given, waits_at}
use Rattle.granit_language.specs.Seen.{terminal_of}
use Rattle.granit_event_machine.specs.EventMachine.{Asking, AskDone, Done, Value, OpenFrame, DocumentFrame}
use Rattle.granit_event_machine.specs.EventMachine.{PropertiesFrame}
use Rattle.granit_event_machine.specs.EventMachine.{SequenceFrame, MappingFrame, FlowSequenceFrame, FlowMappingFrame}
use Rattle.granit_event_machine.specs.EventMachine.{FlowPairFrame, InFrames, frames_indent, put_frames, PairAt}
use Rattle.granit_language.specs.Node.{TreeProperties, NoProperties, One, Two}
use Rattle.granit_language.specs.Scope.{Scope}
use Rattle.granit_language.specs.Telling.{number_told, tag_told, span_told, one_less, AnchorTold, TagTold}
use Rattle.granit_language.specs.Telling.{properties_anchor, properties_tag, indent_told, anchor_told}
use Rattle.granit_language.specs.Terminal.{Anchor, Tag}
use Rattle.granit_language.specs.TreeEvents.{alone_text, SequenceEnds, MappingEnds, TreeEvent, null, pointed}
use Rattle.granit_language.specs.TreeEvents.{alone_event, properties_end}
use Rattle.granit_machine.specs.Closing.{end_top}
use Rattle.granit_machine.specs.Frames.{ParserState}
use Rattle.granit_machine.specs.Giving.{put, flush_held, null_at, key_indent, tell_anchor, node_event_by, node_event}
use Rattle.granit_machine.specs.NodeEnds.{null_text, finish, end_by, end_node, end_properties, null_node, empty_span}
use Rattle.granit_machine.specs.TokenSort.{token_of}
use Rattle.granit_views.proofs.Standing.{popped, finish_view}

-- the indent of a key's first event, or a node's own
abbrev pub indent_or : Option ℕ → Option ℕ → Option ℕ
indent_or None own = own
indent_or (Some c) own = Some (one_less c)

-- the events of ending the frame on top in front of what stands at a place, and the end of the last
abbrev pub entry_gives : Option Mark → List TreeEvent → List TreeEvent
entry_gives None more = more
entry_gives (Some w) more = null w None ∷ more

abbrev pub pair_gives : Option ℕ → PairAt → Mark → List TreeEvent → List TreeEvent
pair_gives indent Asking x more = null x indent ∷ null x None ∷ more
pair_gives indent AskDone x more = null x None ∷ more
pair_gives indent (Value w) x more = null w None ∷ more
pair_gives indent at x more = more

abbrev pub square_gives : PairAt → Mark → List TreeEvent → List TreeEvent
square_gives Asking x more = null x None ∷ null x None ∷ more
square_gives AskDone x more = null x None ∷ more
square_gives (Value w) x more = null x None ∷ more
square_gives at x more = more

abbrev pub ending_gives : Mark → List OpenFrame → List TreeEvent
ending_gives x (DocumentFrame (Some m) ∷ fs) = null m None ∷ []
ending_gives x (PropertiesFrame p ∷ fs) = alone_event p (frames_indent fs) ∷ []
ending_gives x (SequenceFrame loose c w ∷ fs) = entry_gives w (pointed SequenceEnds x ∷ [])
ending_gives x (MappingFrame c at ∷ fs) = pair_gives (Some c) at x (pointed MappingEnds x ∷ [])
ending_gives x (FlowMappingFrame single at ∷ fs) = pair_gives None at x (pointed MappingEnds x ∷ [])
ending_gives x (FlowPairFrame at ∷ fs) = square_gives at x (pointed MappingEnds x ∷ [])
ending_gives x fs = []

abbrev pub ending_at : Mark → List OpenFrame → Mark
ending_at x (DocumentFrame (Some m) ∷ fs) = m
ending_at x (PropertiesFrame p ∷ fs) = properties_end p
ending_at x fs = x

abbrev pub top_below : List OpenFrame → List OpenFrame
top_below (DocumentFrame m ∷ fs) = DocumentFrame m ∷ fs
top_below (f ∷ fs) = fs
top_below [] = []

-- the state behind that
abbrev pub Popped : OptionsData → Mark → List OpenFrame → Beside → ParserState
Popped o x fs d =
    state_of o (put_frames (ending_at x fs) (top_below fs))
    (with_given (ending_at x fs) (give_all o (ending_gives x fs) d.given) d)

-- what waits for comments gives none
pub flushed :
    (o : OptionsData) (w : Mark) (room : ℕ) (p : ParserState) →
    flush_held (waits_at room w) p ≡ record p { waiting = None }
flushed o w room p = ap (λ given. record p { waiting = None; given = given }) (append-nil p.given)

-- an end event in front of a place
ended :
    (o : OptionsData) (x : Mark) (fs : List OpenFrame) (kind : plain.EventKind) (given : List PlainEvent) (d : Beside) →
    Holes fs →
    finish (popped o fs x (given ++ event_at kind (empty_span x) ∷ []) d)
    ≡ state_of o (put_frames x fs) (with_given x (given ++ event_at kind (empty_span x) ∷ []) d)
ended o x fs kind given d h = finish_view o fs x (given ++ event_at kind (empty_span x) ∷ []) d h

pops_sequence_waiting :
    (o : OptionsData) (t : Mark) (d : Beside) (loose : Bool) (c : ℕ) (w : Mark) (fs : List OpenFrame) → Holes fs →
    end_node t (empty_span t) (state_of o (InFrames (SequenceFrame loose c (Some w) ∷ fs)) d)
    ≡ Popped o t (SequenceFrame loose c (Some w) ∷ fs) d
unfolding end_node
pops_sequence_waiting o t d loose c w fs h =
    ap (end_by (empty_span t))
    (flushed o w o.max_buffered_comment_events
    (put (null_at w) (state_of o (InFrames (SequenceFrame loose c (Some w) ∷ fs)) d)))
    ∙ ended o t fs plain.SequenceEnd (d.given ++ null_at w ∷ []) d h

pops_sequence :
    (o : OptionsData) (t : Mark) (d : Beside) (loose : Bool) (c : ℕ) (fs : List OpenFrame) → Holes fs →
    end_node t (empty_span t) (state_of o (InFrames (SequenceFrame loose c None ∷ fs)) d)
    ≡ Popped o t (SequenceFrame loose c None ∷ fs) d
unfolding end_node
pops_sequence o t d loose c fs h = ended o t fs plain.SequenceEnd d.given d h

pops_value :
    (o : OptionsData) (t : Mark) (d : Beside) (c : ℕ) (w : Mark) (fs : List OpenFrame) → Holes fs →
    end_node t (empty_span t) (state_of o (InFrames (MappingFrame c (Value w) ∷ fs)) d)
    ≡ Popped o t (MappingFrame c (Value w) ∷ fs) d
unfolding end_node
pops_value o t d c w fs h =
    ap (end_by (empty_span t))
    (flushed o w o.max_buffered_comment_events
    (put (null_at w) (state_of o (InFrames (MappingFrame c (Value w) ∷ fs)) d)))
    ∙ ended o t fs plain.MappingEnd (d.given ++ null_at w ∷ []) d h

pops_made_value :
    (o : OptionsData) (t : Mark) (d : Beside) (w : Mark) (fs : List OpenFrame) → Holes fs →
    end_node t (empty_span t) (state_of o (InFrames (FlowMappingFrame true (Value w) ∷ fs)) d)
    ≡ Popped o t (FlowMappingFrame true (Value w) ∷ fs) d
unfolding end_node
pops_made_value o t d w fs h =
    ap (end_by (empty_span t))
    (flushed o w o.max_buffered_comment_events
    (put (null_at w) (state_of o (InFrames (FlowMappingFrame true (Value w) ∷ fs)) d)))
    ∙ ended o t fs plain.MappingEnd (d.given ++ null_at w ∷ []) d h

pops_asked :
    (o : OptionsData) (t : Mark) (d : Beside) (c : ℕ) (fs : List OpenFrame) → Holes fs →
    end_node t (empty_span t) (state_of o (InFrames (MappingFrame c Asking ∷ fs)) d)
    ≡ Popped o t (MappingFrame c Asking ∷ fs) d
unfolding end_node
pops_asked o t d c fs h = finish_view o fs t (give_all o (ending_gives t (MappingFrame c Asking ∷ fs)) d.given) d h

pops_ask_done :
    (o : OptionsData) (t : Mark) (d : Beside) (c : ℕ) (fs : List OpenFrame) → Holes fs →
    end_node t (empty_span t) (state_of o (InFrames (MappingFrame c AskDone ∷ fs)) d)
    ≡ Popped o t (MappingFrame c AskDone ∷ fs) d
unfolding end_node
pops_ask_done o t d c fs h = finish_view o fs t (give_all o (ending_gives t (MappingFrame c AskDone ∷ fs)) d.given) d h

pops_done :
    (o : OptionsData) (t : Mark) (d : Beside) (c : ℕ) (fs : List OpenFrame) → Holes fs →
    end_node t (empty_span t) (state_of o (InFrames (MappingFrame c Done ∷ fs)) d)
    ≡ Popped o t (MappingFrame c Done ∷ fs) d
unfolding end_node
pops_done o t d c fs h = finish_view o fs t (give_all o (ending_gives t (MappingFrame c Done ∷ fs)) d.given) d h

pops_made_done :
    (o : OptionsData) (t : Mark) (d : Beside) (fs : List OpenFrame) → Holes fs →
    end_node t (empty_span t) (state_of o (InFrames (FlowMappingFrame true Done ∷ fs)) d)
    ≡ Popped o t (FlowMappingFrame true Done ∷ fs) d
unfolding end_node
pops_made_done o t d fs h =
    finish_view o fs t (give_all o (ending_gives t (FlowMappingFrame true Done ∷ fs)) d.given) d h

pops_square_asked :
    (o : OptionsData) (t : Mark) (d : Beside) (fs : List OpenFrame) → Holes fs →
    end_node t (empty_span t) (state_of o (InFrames (FlowPairFrame Asking ∷ fs)) d)
    ≡ Popped o t (FlowPairFrame Asking ∷ fs) d
unfolding end_node
pops_square_asked o t d fs h = finish_view o fs t (give_all o (ending_gives t (FlowPairFrame Asking ∷ fs)) d.given) d h

pops_square_ask_done :
    (o : OptionsData) (t : Mark) (d : Beside) (fs : List OpenFrame) → Holes fs →
    end_node t (empty_span t) (state_of o (InFrames (FlowPairFrame AskDone ∷ fs)) d)
    ≡ Popped o t (FlowPairFrame AskDone ∷ fs) d
unfolding end_node
pops_square_ask_done o t d fs h =
    finish_view o fs t (give_all o (ending_gives t (FlowPairFrame AskDone ∷ fs)) d.given) d h

pops_square_value :
    (o : OptionsData) (t : Mark) (d : Beside) (w : Mark) (fs : List OpenFrame) → Holes fs →
    end_node t (empty_span t) (state_of o (InFrames (FlowPairFrame (Value w) ∷ fs)) d)
    ≡ Popped o t (FlowPairFrame (Value w) ∷ fs) d
unfolding end_node
pops_square_value o t d w fs h =
    finish_view o fs t (give_all o (ending_gives t (FlowPairFrame (Value w) ∷ fs)) d.given) d h

pops_square_done :
    (o : OptionsData) (t : Mark) (d : Beside) (fs : List OpenFrame) → Holes fs →
    end_node t (empty_span t) (state_of o (InFrames (FlowPairFrame Done ∷ fs)) d)
    ≡ Popped o t (FlowPairFrame Done ∷ fs) d
unfolding end_node
pops_square_done o t d fs h = finish_view o fs t (give_all o (ending_gives t (FlowPairFrame Done ∷ fs)) d.given) d h

-- ---- properties alone

pub indent_view :
    (o : OptionsData) (fs : List OpenFrame) (own : Option ℕ) → Holes fs →
    key_indent (frames_of o fs) own ≡ indent_or (frames_indent fs) own
indent_view o fs own at_root = refl
indent_view o fs own (at_entry q h) = refl
indent_view o fs own (at_key q h) = refl
indent_view o fs own (at_asked q h) = refl
indent_view o fs own (at_value q h) = refl
indent_view o fs own (at_item h) = refl
indent_view o fs own (at_curly h) = refl
indent_view o fs own (curly_key h) = refl
indent_view o fs own (curly_asked h) = refl
indent_view o fs own (curly_value h) = refl
indent_view o fs own (made_key h) = refl
indent_view o fs own (made_value h) = refl
indent_view o fs own (pair_asked h) = refl
indent_view o fs own (pair_value h) = refl

-- the anchor's event behind
abbrev AnchorBehind : Bool → ℕ × Written × Source → List PlainEvent → List PlainEvent
AnchorBehind b a given = if b then given ++ event_at (plain.Anchor a.0 a.1) a.2 ∷ [] else given

pub anchor_view :
    (o : OptionsData) (b : Bool) (a : ℕ × Written × Source) (p : ParserState) →
    (if b then record p { given = p.given ++ event_at (plain.Anchor a.0 a.1) a.2 ∷ [] } else p)
    ≡ record p { given = AnchorBehind b a p.given }
anchor_view o true a p = refl
anchor_view o false a p = refl

told_behind :
    (b : Bool) (a : ℕ × Written × Source) (given : List PlainEvent) (e : PlainEvent) →
    AnchorBehind b a (given ++ e ∷ []) ≡ given ++ e ∷ (if b then event_at (plain.Anchor a.0 a.1) a.2 ∷ [] else [])
told_behind true a given e = append_assoc given (e ∷ []) (event_at (plain.Anchor a.0 a.1) a.2 ∷ [])
told_behind false a given e = refl

pub tell_view :
    (o : OptionsData) (a : AnchorTold) (e : PlainEvent) (p : ParserState) →
    tell_anchor o a (put e p) ≡ record p { last_end = e.span.end; given = p.given ++ e ∷ anchor_told o a [] }
tell_view o None e p = refl
tell_view o (Some a) e p =
    anchor_view o o.emit_anchor_events a (put e p)
    ∙ ap (λ given. record p { last_end = e.span.end; given = given }) (told_behind o.emit_anchor_events a p.given e)

-- the first event of a node with its properties
unfoldable pub node_head :
    (A : AnchorTold) (T : TagTold) → (ℕ → Option PlainTag → plain.EventKind) → Source → Option ℕ → PlainEvent
node_head A T kind source indent = record {
  kind = kind (number_told A) (tag_told T);
  span = span_told T source.start source.end indent;
}

pub node_event_view :
    (o : OptionsData) (A : AnchorTold) (T : TagTold) (behind : Mark) (kind : ℕ → Option PlainTag → plain.EventKind)
    (source : Source) (own : Option ℕ) (fs : List OpenFrame) (d : Beside) →
    node_event_by o (record { anchor = A; tag = T; end = behind }) kind source own (popped o fs d.last d.given d)
    ≡ popped o fs source.end
    (d.given ++ node_head A T kind source (key_indent (frames_of o fs) own) ∷ anchor_told o A []) d
unfolding node_head
node_event_view o None None behind kind source own fs d = refl
node_event_view o None (Some t) behind kind source own fs d = refl
node_event_view o (Some a) None behind kind source own fs d =
    tell_view o (Some a) (node_head (Some a) None kind source (key_indent (frames_of o fs) own))
    (popped o fs d.last d.given d)
node_event_view o (Some a) (Some t) behind kind source own fs d =
    tell_view o (Some a) (node_head (Some a) (Some t) kind source (key_indent (frames_of o fs) own))
    (popped o fs d.last d.given d)

text_same : (o : OptionsData) (p : TreeProperties) → GoodProperties p → null_text (properties_tag o p) ≡ alone_text p
text_same o NoProperties g = absurd g
text_same o (One (Anchor a) i) g = refl
text_same o (One (Tag h t) i) g = refl
text_same o (Two (Anchor a) i (Anchor b) j) g = cc (g)
text_same o (Two (Anchor a) i (Tag h t) j) g = refl
text_same o (Two (Tag h t) i (Anchor a) j) g = refl
text_same o (Two (Tag h t) i (Tag u v) j) g = refl

pub indent_none : (i : Option ℕ) → indent_or i None ≡ indent_told i
indent_none None = refl
indent_none (Some c) = refl

abbrev AloneGiven : OptionsData → TreeProperties → List ℕ → Option ℕ → List PlainEvent → List PlainEvent
AloneGiven o p text indent given =
    given
    ++ node_head (properties_anchor p) (properties_tag o p) (plain.Scalar (lent text) Plain)
    (empty_span (properties_end p)) indent
    ∷ anchor_told o (properties_anchor p) []

pops_properties :
    (o : OptionsData) (x : Mark) (d : Beside) (p : TreeProperties) (fs : List OpenFrame) → GoodProperties p → Holes fs →
    end_properties o (parser_properties o p) (state_of o (InFrames (PropertiesFrame p ∷ fs)) d)
    ≡ Popped o x (PropertiesFrame p ∷ fs) d
unfolding end_properties node_event node_head
pops_properties o x d p fs g h =
    ap finish
    (node_event_view o (properties_anchor p) (properties_tag o p) (properties_end p) (null_node (parser_properties o p))
    (empty_span (properties_end p)) None fs d)
    ∙
    (ap₂ (λ text indent. finish (popped o fs (properties_end p) (AloneGiven o p text indent d.given) d))
    (text_same o p g)
    (indent_view o fs None h ∙ indent_none (frames_indent fs))
    ∙ finish_view o fs (properties_end p) (AloneGiven o p (alone_text p) (indent_told (frames_indent fs)) d.given) d h)

-- ---- each

pub pops :
    (b : Bool) (s : Scope) (l : lexemes.Lexeme) (o : OptionsData) (d : Beside) (fs : List OpenFrame) →
    Good (InFrames fs) → frame_ends_at (terminal_of b s l) (InFrames fs) ≡ true →
    end_top o (token_of b l) (state_of o (InFrames fs) d) (frames_of o fs) ≡ Popped o l.start fs d
pops b s l o d fs (hole (at_root {m = None})) e = cc (e)
pops b s l o d fs (hole (at_root {m = Some m})) e = refl
pops b s l o d fs (hole (at_entry {loose = loose} {c = c} {w = w} {fs = gs} q h)) e =
    pops_sequence_waiting o l.start d loose c w gs h
pops b s l o d fs (hole (at_key q h)) e = cc (e)
pops b s l o d fs (hole (at_asked {c = c} {fs = gs} q h)) e = pops_asked o l.start d c gs h
pops b s l o d fs (hole (at_value {c = c} {w = w} {fs = gs} q h)) e = pops_value o l.start d c w gs h
pops b s l o d fs (hole (at_item h)) e = cc (e)
pops b s l o d fs (hole (at_curly h)) e = cc (e)
pops b s l o d fs (hole (curly_key h)) e = cc (e)
pops b s l o d fs (hole (curly_asked h)) e = cc (e)
pops b s l o d fs (hole (curly_value h)) e = cc (e)
pops b s l o d fs (hole (made_key h)) e = cc (e)
pops b s l o d fs (hole (made_value {w = w} {fs = gs} h)) e =
    pops_made_value o l.start d w (FlowSequenceFrame false ∷ gs) (at_item h)
pops b s l o d fs (hole (pair_asked {fs = gs} h)) e =
    pops_square_asked o l.start d (FlowSequenceFrame false ∷ gs) (at_item h)
pops b s l o d fs (hole (pair_value {w = w} {fs = gs} h)) e =
    pops_square_value o l.start d w (FlowSequenceFrame false ∷ gs) (at_item h)
pops b s l o d fs (behind_properties {p = p} {fs = gs} g h) e = pops_properties o l.start d p gs g h
pops b s l o d fs (past_entry {loose = loose} {c = c} {fs = gs} q h) e = pops_sequence o l.start d loose c gs h
pops b s l o d fs (key_done q h) e = cc (e)
pops b s l o d fs (ask_done {c = c} {fs = gs} q h) e = pops_ask_done o l.start d c gs h
pops b s l o d fs (pair_done {c = c} {fs = gs} q h) e = pops_done o l.start d c gs h
pops b s l o d fs (item_done h) e = cc (e)
pops b s l o d fs (curly_key_done h) e = cc (e)
pops b s l o d fs (curly_ask_done h) e = cc (e)
pops b s l o d fs (curly_solo h) e = cc (e)
pops b s l o d fs (curly_done h) e = cc (e)
pops b s l o d fs (made_key_done h) e = cc (e)
pops b s l o d fs (made_done {fs = gs} h) e = pops_made_done o l.start d (FlowSequenceFrame false ∷ gs) (at_item h)
pops b s l o d fs (square_ask_done {fs = gs} h) e =
    pops_square_ask_done o l.start d (FlowSequenceFrame false ∷ gs) (at_item h)
pops b s l o d fs (square_done {fs = gs} h) e = pops_square_done o l.start d (FlowSequenceFrame false ∷ gs) (at_item h)
