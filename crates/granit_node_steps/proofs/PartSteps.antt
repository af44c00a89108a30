-- A lexeme of a node, at a place for one or behind properties.
use Rattle.granit_views.specs.Good.{Holes, at_root, at_entry, at_key, at_asked, at_value, at_item, at_curly}
use Rattle.granit_views.specs.Good.{curly_key, curly_asked, curly_value, made_key, made_value, pair_asked}
use Rattle.granit_views.specs.Good.{pair_value}
use Rattle.granit_views.specs.Stepping.{MeansView, StepView, at_kind, staying}
use Rattle.granit_views.specs.Steps.{topped}
use Rattle.granit_views.specs.View.{last_of, with_given, frames_of, Beside, state_of}
use Rattle.granit_language.specs.Seen.{indent_of}
use Rattle.granit_event_machine.specs.EventMachine.{OpenFrame, InFrames, frames_indent, put_frames, flow_frame}
use Rattle.granit_event_machine.specs.EventMachine.{part_frames}
use Rattle.granit_language.specs.GrammarFault.{GrammarFault, UnknownAnchor, UndeclaredTagHandle}
use Rattle.granit_language.specs.Node.{TreeProperties, NoProperties, One, Two}
use Rattle.granit_language.specs.Room.{joins}
use Rattle.granit_language.specs.Scope.{Scope, entry_of}
use Rattle.granit_language.specs.Scoping.{number_of_anchor, prefix_of, prefix_by, fault_if_none, alias_fault, kept_of}
use Rattle.granit_language.specs.Scoping.{or_kept, scope_fault}
use Rattle.granit_language.specs.Telling.{alias_told, or_handle, properties_anchor, properties_tag, indent_told}
use Rattle.granit_language.specs.Telling.{anchor_told}
use Rattle.granit_language.specs.Terminal.{Anchor, Tag, Part, Alias, Property, Scalar, Open}
use Rattle.granit_language.specs.TreeEvents.{imposed}
use Rattle.granit_lexemes.specs.declared.layout.Bracket.TheVariants.{Square, Curly}
use Rattle.granit_machine.specs.Frames.{ParserState}
use Rattle.granit_machine.specs.Giving.{put, flush, key_indent, node_event}
use Rattle.granit_machine.specs.NodeEnds.{finish, begin}
use Rattle.granit_machine.specs.TokenSort.{token_of}
use Rattle.std.proofs.Common.{◌≡◌, ℕ, Bool, true, false, List, [], ◌∷◌, ◌++◌, length, codes, refl, sym, ap, ap₂, ◌∙◌}
use Rattle.std.proofs.Common.{subst, ◌==◌, nat_lt, Option, Some, None, Result, Ok, Err}
use Rattle.std.specs.Prelude.{◌&&◌, if◌then◌else◌}
use Rattle.granit_base.specs.Written.{Written}
use Rattle.granit_base.specs.declared.style.ScalarStyle.{ScalarStyle}
use Rattle.granit_base.specs.declared.style.StructureStyle.TheVariants.{Flow}
use Rattle.granit_error.specs.FaultKind as refused
use Rattle.granit_error.specs.OptionsData.{OptionsData}
use Rattle.granit_lexemes.specs.Lexeme as lexemes
use Rattle.granit_lexemes.specs.Source.{Source}
use Rattle.granit_lexemes.specs.Outcome.{Fault, fault_at, ◌>>=◌}
use Rattle.granit_lexemes.specs.PlainEvent as plain
use Rattle.granit_lexemes.specs.PlainEvent.{PlainEvent, PlainTag}
use Rattle.granit_machine.specs.Frames as machine
use Rattle.granit_machine.specs.Entries.{lookup_text}
use Rattle.granit_machine.specs.NodeSteps as steps
use Rattle.granit_views.specs.Ordered.{ordered}
use Rattle.granit_views.proofs.Arrivals.{Arrival, arriving, arriving_token, beside_at, parser_at, PartsAgree}
use Rattle.granit_views.proofs.Lookups.{found_in_order}
use Rattle.granit_views.proofs.Pops.{indent_none, node_head, node_event_view, flushed, indent_or, indent_view}
use Rattle.granit_views.proofs.Standing.{popped, finish_view}
use Rattle.granit_lexemes.specs.declared.layout.Bracket.TheVariants as brackets

-- the first event of a node
abbrev pub HeadGiven :
    OptionsData → TreeProperties → (ℕ → Option PlainTag → plain.EventKind) → Source → Option ℕ → List PlainEvent →
    List PlainEvent
HeadGiven o p kind source indent given =
    given ++ node_head (properties_anchor p) (properties_tag o p) kind source indent
    ∷ anchor_told o (properties_anchor p) []

hole_event :
    (o : OptionsData) (kind : ℕ → Option PlainTag → plain.EventKind) (source : Source) (own : Option ℕ)
    (fs : List OpenFrame) (d : Beside) → Holes fs →
    node_event o kind source own (state_of o (InFrames fs) d)
    ≡ popped o fs source.end (HeadGiven o NoProperties kind source (key_indent (frames_of o fs) own) d.given) d
unfolding node_event node_head
hole_event o kind source own fs d (at_root {m = None}) = refl
hole_event o kind source own fs d (at_root {m = Some m}) = refl
hole_event o kind source own fs d (at_entry {w = w} q h) =
    ap (put (node_head None None kind source (key_indent (frames_of o fs) own)))
    (flushed o w o.max_buffered_comment_events (state_of o (InFrames fs) d))
hole_event o kind source own fs d (at_key q h) = refl
hole_event o kind source own fs d (at_asked q h) = refl
hole_event o kind source own fs d (at_value {w = w} q h) =
    ap (put (node_head None None kind source (key_indent (frames_of o fs) own)))
    (flushed o w o.max_buffered_comment_events (state_of o (InFrames fs) d))
hole_event o kind source own fs d (at_item h) = refl
hole_event o kind source own fs d (at_curly h) = refl
hole_event o kind source own fs d (curly_key h) = refl
hole_event o kind source own fs d (curly_asked h) = refl
hole_event o kind source own fs d (curly_value {w = w} h) =
    ap (put (node_head None None kind source (key_indent (frames_of o fs) own)))
    (flushed o w o.max_buffered_comment_events (state_of o (InFrames fs) d))
hole_event o kind source own fs d (made_key h) = refl
hole_event o kind source own fs d (made_value {w = w} h) =
    ap (put (node_head None None kind source (key_indent (frames_of o fs) own)))
    (flushed o w o.max_buffered_comment_events (state_of o (InFrames fs) d))
hole_event o kind source own fs d (pair_asked h) = refl
hole_event o kind source own fs d (pair_value h) = refl

pub node_begins :
    (o : OptionsData) (p : TreeProperties) (kind : ℕ → Option PlainTag → plain.EventKind) (source : Source)
    (own : Option ℕ) (fs : List OpenFrame) (d : Beside) → Holes fs →
    node_event o kind source own (state_of o (InFrames (topped p fs)) d)
    ≡ popped o fs source.end (HeadGiven o p kind source (key_indent (frames_of o fs) own) d.given) d
unfolding node_event
node_begins o NoProperties kind source own fs d h = hole_event o kind source own fs d h
node_begins o (One k i) kind source own fs d h =
    node_event_view o (properties_anchor (One k i)) (properties_tag o (One k i)) i.shown.end kind source own fs d
node_begins o (Two k i m j) kind source own fs d h =
    node_event_view o (properties_anchor (Two k i m j)) (properties_tag o (Two k i m j)) j.shown.end kind source own fs
    d

-- its indent
indent_imposed : (i own : Option ℕ) → indent_or i own ≡ indent_told (imposed i (indent_of own))
indent_imposed None None = refl
indent_imposed None (Some n) = refl
indent_imposed (Some c) own = refl

abbrev pub framed : machine.Frame → ParserState → ParserState
framed f q = record q { frames = f ∷ q.frames }

scalar_given :
    (o : OptionsData) (p : TreeProperties) (style : ScalarStyle) (text : Written) (l : lexemes.Lexeme)
    (fs : List OpenFrame) (d : Beside) → Holes fs →
    finish
    (node_event o (λ number tag. plain.Scalar text style number tag) l.shown l.indent
    (state_of o (InFrames (topped p fs)) d))
    ≡ state_of o (put_frames l.shown.end fs)
    (with_given l.shown.end
    (HeadGiven o p (λ number tag. plain.Scalar text style number tag) l.shown
    (indent_told (imposed (frames_indent fs) (indent_of l.indent))) d.given)
    d)
scalar_given o p style text l fs d h =
    ap finish (node_begins o p (λ number tag. plain.Scalar text style number tag) l.shown l.indent fs d h)
    ∙
    (ap
    (λ i.
    finish
    (popped o fs l.shown.end
    (HeadGiven o p (λ number tag. plain.Scalar text style number tag) l.shown i d.given) d))
    (indent_view o fs l.indent h ∙ indent_imposed (frames_indent fs) l.indent)
    ∙ finish_view o fs l.shown.end
    (HeadGiven o p (λ number tag. plain.Scalar text style number tag) l.shown
    (indent_told (imposed (frames_indent fs) (indent_of l.indent))) d.given)
    d h)

pub scalar_parts :
    (b : Bool) (style : ScalarStyle) (text : Written) (a : Arrival) (p : TreeProperties) (fs : List OpenFrame)
    (stop : GrammarFault) → Holes fs → PartsAgree b (Scalar style text) (lexemes.Scalar style text) a p fs stop
unfolding node_head
scalar_parts b style text a NoProperties fs stop h =
    ((a.lexeme.shown.end, scalar_given a.options NoProperties style text a.lexeme fs (beside_at a) h), refl)
scalar_parts b style text a (One k i) fs stop h =
    ((a.lexeme.shown.end, scalar_given a.options (One k i) style text a.lexeme fs (beside_at a) h), refl)
scalar_parts b style text a (Two k i m j) fs stop h =
    ((a.lexeme.shown.end, scalar_given a.options (Two k i m j) style text a.lexeme fs (beside_at a) h), refl)

square_given :
    (o : OptionsData) (p : TreeProperties) (l : lexemes.Lexeme) (fs : List OpenFrame) (d : Beside) → Holes fs →
    begin o (λ number tag. plain.SequenceStart Flow number tag) l.shown (machine.FlowSequence false)
    (state_of o (InFrames (topped p fs)) d)
    ≡ state_of o (InFrames (flow_frame Square ∷ fs))
    (with_given l.shown.end
    (HeadGiven o p (λ number tag. plain.SequenceStart Flow number tag) l.shown (indent_told (frames_indent fs))
    d.given)
    d)
square_given o p l fs d h =
    ap (framed (machine.FlowSequence false))
    (node_begins o p (λ number tag. plain.SequenceStart Flow number tag) l.shown None fs d h)
    ∙ ap
    (λ i.
    state_of o (InFrames (flow_frame Square ∷ fs))
    (with_given l.shown.end (HeadGiven o p (λ number tag. plain.SequenceStart Flow number tag) l.shown i d.given)
    d))
    (indent_view o fs None h ∙ indent_none (frames_indent fs))

pub square_parts :
    (b : Bool) (a : Arrival) (p : TreeProperties) (fs : List OpenFrame) (stop : GrammarFault) →
    Holes fs → PartsAgree b (Open Square) (lexemes.Open brackets.Square) a p fs stop
unfolding node_head
square_parts b a NoProperties fs stop h =
    ((a.lexeme.shown.end, square_given a.options NoProperties a.lexeme fs (beside_at a) h), refl)
square_parts b a (One k i) fs stop h =
    ((a.lexeme.shown.end, square_given a.options (One k i) a.lexeme fs (beside_at a) h), refl)
square_parts b a (Two k i m j) fs stop h =
    ((a.lexeme.shown.end, square_given a.options (Two k i m j) a.lexeme fs (beside_at a) h), refl)

curly_given :
    (o : OptionsData) (p : TreeProperties) (l : lexemes.Lexeme) (fs : List OpenFrame) (d : Beside) → Holes fs →
    begin o (λ number tag. plain.MappingStart Flow number tag) l.shown (machine.FlowMapping false machine.BeforePair)
    (state_of o (InFrames (topped p fs)) d)
    ≡ state_of o (InFrames (flow_frame Curly ∷ fs))
    (with_given l.shown.end
    (HeadGiven o p (λ number tag. plain.MappingStart Flow number tag) l.shown (indent_told (frames_indent fs))
    d.given)
    d)
curly_given o p l fs d h =
    ap (framed (machine.FlowMapping false machine.BeforePair))
    (node_begins o p (λ number tag. plain.MappingStart Flow number tag) l.shown None fs d h)
    ∙ ap
    (λ i.
    state_of o (InFrames (flow_frame Curly ∷ fs))
    (with_given l.shown.end (HeadGiven o p (λ number tag. plain.MappingStart Flow number tag) l.shown i d.given)
    d))
    (indent_view o fs None h ∙ indent_none (frames_indent fs))

pub curly_parts :
    (b : Bool) (a : Arrival) (p : TreeProperties) (fs : List OpenFrame) (stop : GrammarFault) →
    Holes fs → PartsAgree b (Open Curly) (lexemes.Open brackets.Curly) a p fs stop
unfolding node_head
curly_parts b a NoProperties fs stop h =
    ((a.lexeme.shown.end, curly_given a.options NoProperties a.lexeme fs (beside_at a) h), refl)
curly_parts b a (One k i) fs stop h =
    ((a.lexeme.shown.end, curly_given a.options (One k i) a.lexeme fs (beside_at a) h), refl)
curly_parts b a (Two k i m j) fs stop h =
    ((a.lexeme.shown.end, curly_given a.options (Two k i m j) a.lexeme fs (beside_at a) h), refl)

-- ---- properties

pub anchor_parts :
    (b : Bool) (name : Written) (a : Arrival) (p : TreeProperties) (fs : List OpenFrame) (stop : GrammarFault) →
    Holes fs → joins p (Property (Anchor name)) ≡ true →
    PartsAgree b (Property (Anchor name)) (lexemes.Anchor name) a p fs stop
anchor_parts b name a (One (Anchor n) i) fs stop h e = cc (e)
anchor_parts b name a (One (Tag u v) i) fs stop h e = ((a.last, refl), refl)
anchor_parts b name a (Two k i m j) fs stop h e = cc (e)
anchor_parts b name a NoProperties fs stop (at_root {m = None}) e = ((last_of fs a.last, refl), refl)
anchor_parts b name a NoProperties fs stop (at_root {m = Some m}) e = ((last_of fs a.last, refl), refl)
anchor_parts b name a NoProperties fs stop (at_entry {w = w} q h) e = (
  (
    a.last,
    ap (steps.anchored (arriving_token b (lexemes.Anchor name) None a) name)
        (flushed a.options w a.options.max_buffered_comment_events (parser_at fs a)),
  ),
  refl,
)
anchor_parts b name a NoProperties fs stop (at_key q h) e = ((last_of fs a.last, refl), refl)
anchor_parts b name a NoProperties fs stop (at_asked q h) e = ((last_of fs a.last, refl), refl)
anchor_parts b name a NoProperties fs stop (at_value {w = w} q h) e = (
  (
    a.last,
    ap (steps.anchored (arriving_token b (lexemes.Anchor name) None a) name)
        (flushed a.options w a.options.max_buffered_comment_events (parser_at fs a)),
  ),
  refl,
)
anchor_parts b name a NoProperties fs stop (at_item h) e = ((last_of fs a.last, refl), refl)
anchor_parts b name a NoProperties fs stop (at_curly h) e = ((last_of fs a.last, refl), refl)
anchor_parts b name a NoProperties fs stop (curly_key h) e = ((last_of fs a.last, refl), refl)
anchor_parts b name a NoProperties fs stop (curly_asked h) e = ((last_of fs a.last, refl), refl)
anchor_parts b name a NoProperties fs stop (curly_value {w = w} h) e = (
  (
    a.last,
    ap (steps.anchored (arriving_token b (lexemes.Anchor name) None a) name)
        (flushed a.options w a.options.max_buffered_comment_events (parser_at fs a)),
  ),
  refl,
)
anchor_parts b name a NoProperties fs stop (made_key h) e = ((last_of fs a.last, refl), refl)
anchor_parts b name a NoProperties fs stop (made_value {w = w} h) e = (
  (
    a.last,
    ap (steps.anchored (arriving_token b (lexemes.Anchor name) None a) name)
        (flushed a.options w a.options.max_buffered_comment_events (parser_at fs a)),
  ),
  refl,
)
anchor_parts b name a NoProperties fs stop (pair_asked h) e = ((last_of fs a.last, refl), refl)
anchor_parts b name a NoProperties fs stop (pair_value h) e = ((last_of fs a.last, refl), refl)

-- what lists say is one
-- ---- tags

abbrev of_prefix : lexemes.Lexeme → Option (List ℕ) → Result (List ℕ) Fault
of_prefix l (Some prefix) = Ok prefix
of_prefix l None = Err (fault_at refused.UndeclaredTagHandle l.shown.start)

prefix_tests :
    (l : lexemes.Lexeme) (handle : List ℕ) (a b : Bool) →
    (if a then Ok (codes "tag:yaml.org,2002:") else if b then Err (fault_at refused.UndeclaredTagHandle l.shown.start)
    else Ok handle)
    ≡ of_prefix l (if a then Some (codes "tag:yaml.org,2002:") else if b then None else Some handle)
prefix_tests l handle true b = refl
prefix_tests l handle false true = refl
prefix_tests l handle false false = refl

prefix_same :
    (b : Bool) (l : lexemes.Lexeme) (handle : List ℕ) (q : Option (List ℕ)) →
    steps.tag_prefix (token_of b l) handle q ≡ of_prefix l (prefix_by handle q)
prefix_same b l handle (Some prefix) = refl
prefix_same b l handle None = prefix_tests l handle (length handle == 2) (nat_lt 2 (length handle))

-- what the parser knows of a handle is what is declared
abbrev known_in : OptionsData → List ℕ → Scope → Option (List ℕ)
known_in o handle s =
    steps.or_kept_handle o handle (lookup_text handle (ordered s.handles)) (lookup_text handle (staying o s))

kept_off : (long : Bool) (p q : Option (List ℕ)) → (if long && false then p else None)
    ≡ (if long && false then q else None)
kept_off true p q = refl
kept_off false p q = refl

kept_found :
    (keep : Bool) (handle : List ℕ) (all : List (List ℕ × List ℕ)) →
    (if nat_lt 2 (length handle) && keep then lookup_text handle (if keep then ordered all else []) else None)
    ≡ (if nat_lt 2 (length handle) && keep then entry_of handle all else None)
kept_found true handle all =
    ap (λ (q : Option (List ℕ)). if nat_lt 2 (length handle) && true then q else None) (found_in_order handle all)
kept_found false handle all = kept_off (nat_lt 2 (length handle)) None (entry_of handle all)

kept_same :
    (o : OptionsData) (handle : List ℕ) (known : Option (List ℕ)) (s : Scope) →
    steps.or_kept_handle o handle known (lookup_text handle (staying o s)) ≡ or_kept known (kept_of o handle s)
kept_same o handle (Some prefix) s = refl
kept_same o handle None s = kept_found o.keep_tags handle s.all_handles

known_same :
    (o : OptionsData) (handle : List ℕ) (s : Scope) →
    known_in o handle s ≡ or_kept (entry_of handle s.handles) (kept_of o handle s)
known_same o handle s =
    ap (λ q. steps.or_kept_handle o handle q (lookup_text handle (staying o s))) (found_in_order handle s.handles)
    ∙ kept_same o handle (entry_of handle s.handles) s

abbrev TagLexeme : lexemes.Lexeme → List ℕ → List ℕ → lexemes.Lexeme
TagLexeme l handle suffix = at_kind l (lexemes.Tag handle suffix) None

-- behind properties, with a prefix
tag_goes :
    (b : Bool) (handle suffix : List ℕ) (a : Arrival) (p : TreeProperties) (fs : List OpenFrame) (stop : GrammarFault)
    (r : List ℕ) →
    Holes fs → joins p (Property (Tag handle suffix)) ≡ true → prefix_of a.options handle a.scope ≡ Some r →
    StepView a.options (arriving b (lexemes.Tag handle suffix) None a) (beside_at a)
    (Ok
    (steps.tagged (arriving_token b (lexemes.Tag handle suffix) None a) handle suffix
    (or_handle handle (prefix_of a.options handle a.scope))
    (flush (parser_at (topped p fs) a))))
    (part_frames stop fs p (Property (Tag handle suffix)) (arriving b (lexemes.Tag handle suffix) None a).at)
tag_goes b handle suffix a (One (Tag u v) i) fs stop r h e t = cc (e)
tag_goes b handle suffix a (One (Anchor n) i) fs stop r h e t = (a.last, refl)
tag_goes b handle suffix a (Two k i m j) fs stop r h e t = cc (e)
tag_goes b handle suffix a NoProperties fs stop r (at_root {m = None}) e t = (last_of fs a.last, refl)
tag_goes b handle suffix a NoProperties fs stop r (at_root {m = Some m}) e t = (last_of fs a.last, refl)
tag_goes b handle suffix a NoProperties fs stop r (at_entry {w = w} q h) e t = (
  a.last,
  ap (steps.tagged (arriving_token b (lexemes.Tag handle suffix) None a) handle suffix
      (or_handle handle (prefix_of a.options handle a.scope)))
      (flushed a.options w a.options.max_buffered_comment_events (parser_at fs a)),
)
tag_goes b handle suffix a NoProperties fs stop r (at_key q h) e t = (last_of fs a.last, refl)
tag_goes b handle suffix a NoProperties fs stop r (at_asked q h) e t = (last_of fs a.last, refl)
tag_goes b handle suffix a NoProperties fs stop r (at_value {w = w} q h) e t = (
  a.last,
  ap (steps.tagged (arriving_token b (lexemes.Tag handle suffix) None a) handle suffix
      (or_handle handle (prefix_of a.options handle a.scope)))
      (flushed a.options w a.options.max_buffered_comment_events (parser_at fs a)),
)
tag_goes b handle suffix a NoProperties fs stop r (at_item h) e t = (last_of fs a.last, refl)
tag_goes b handle suffix a NoProperties fs stop r (at_curly h) e t = (last_of fs a.last, refl)
tag_goes b handle suffix a NoProperties fs stop r (curly_key h) e t = (last_of fs a.last, refl)
tag_goes b handle suffix a NoProperties fs stop r (curly_asked h) e t = (last_of fs a.last, refl)
tag_goes b handle suffix a NoProperties fs stop r (curly_value {w = w} h) e t = (
  a.last,
  ap (steps.tagged (arriving_token b (lexemes.Tag handle suffix) None a) handle suffix
      (or_handle handle (prefix_of a.options handle a.scope)))
      (flushed a.options w a.options.max_buffered_comment_events (parser_at fs a)),
)
tag_goes b handle suffix a NoProperties fs stop r (made_key h) e t = (last_of fs a.last, refl)
tag_goes b handle suffix a NoProperties fs stop r (made_value {w = w} h) e t = (
  a.last,
  ap (steps.tagged (arriving_token b (lexemes.Tag handle suffix) None a) handle suffix
      (or_handle handle (prefix_of a.options handle a.scope)))
      (flushed a.options w a.options.max_buffered_comment_events (parser_at fs a)),
)
tag_goes b handle suffix a NoProperties fs stop r (pair_asked h) e t = (last_of fs a.last, refl)
tag_goes b handle suffix a NoProperties fs stop r (pair_value h) e t = (last_of fs a.last, refl)

abbrev TagMeans :
    Bool → List ℕ → List ℕ → Arrival → TreeProperties → List OpenFrame → GrammarFault → Result (List ℕ) Fault → Type 0
TagMeans b handle suffix a p fs stop r =
    MeansView a.options (arriving b (lexemes.Tag handle suffix) None a) (beside_at a)
    (r
    >>= λ prefix.
    Ok
    (steps.tagged (arriving_token b (lexemes.Tag handle suffix) None a) handle suffix prefix
    (flush (parser_at (topped p fs) a))))
    (part_frames stop fs p (Property (Tag handle suffix)) (arriving b (lexemes.Tag handle suffix) None a).at)

tag_means :
    (b : Bool) (handle suffix : List ℕ) (a : Arrival) (p : TreeProperties) (fs : List OpenFrame) (stop : GrammarFault)
    (r : Option (List ℕ)) →
    Holes fs → joins p (Property (Tag handle suffix)) ≡ true → prefix_of a.options handle a.scope ≡ r →
    TagMeans b handle suffix a p fs stop (of_prefix a.lexeme r)
tag_means b handle suffix a (One (Tag u v) i) fs stop r h e t = cc (e)
tag_means b handle suffix a (Two k i m j) fs stop r h e t = cc (e)
tag_means b handle suffix a (One (Anchor n) i) fs stop None h e t =
    (UndeclaredTagHandle, ap (λ r. fault_if_none r UndeclaredTagHandle) t, refl)
tag_means b handle suffix a NoProperties fs stop None h e t =
    (UndeclaredTagHandle, ap (λ r. fault_if_none r UndeclaredTagHandle) t, refl)
tag_means b handle suffix a (One (Anchor n) i) fs stop (Some r) h e t = (
  subst
      (λ prefix.
      StepView a.options (arriving b (lexemes.Tag handle suffix) None a) (beside_at a)
      (Ok
      (steps.tagged (arriving_token b (lexemes.Tag handle suffix) None a) handle suffix prefix
      (flush (parser_at (topped (One (Anchor n) i) fs) a))))
      (part_frames stop fs (One (Anchor n) i) (Property (Tag handle suffix))
      (arriving b (lexemes.Tag handle suffix) None a).at))
      (ap (or_handle handle) t) (tag_goes b handle suffix a (One (Anchor n) i) fs stop r h e t),
  ap (λ r. fault_if_none r UndeclaredTagHandle) t,
)
tag_means b handle suffix a NoProperties fs stop (Some r) h e t = (
  subst
      (λ prefix.
      StepView a.options (arriving b (lexemes.Tag handle suffix) None a) (beside_at a)
      (Ok
      (steps.tagged (arriving_token b (lexemes.Tag handle suffix) None a) handle suffix prefix
      (flush (parser_at fs a))))
      (part_frames stop fs NoProperties (Property (Tag handle suffix))
      (arriving b (lexemes.Tag handle suffix) None a).at))
      (ap (or_handle handle) t) (tag_goes b handle suffix a NoProperties fs stop r h e t),
  ap (λ r. fault_if_none r UndeclaredTagHandle) t,
)

pub tag_parts :
    (b : Bool) (handle suffix : List ℕ) (a : Arrival) (p : TreeProperties) (fs : List OpenFrame) (stop : GrammarFault) →
    Holes fs → joins p (Property (Tag handle suffix)) ≡ true →
    PartsAgree b (Property (Tag handle suffix)) (lexemes.Tag handle suffix) a p fs stop
tag_parts b handle suffix a NoProperties fs stop h e =
    subst (TagMeans b handle suffix a NoProperties fs stop)
    (sym
    (prefix_same b (TagLexeme a.lexeme handle suffix) handle (known_in a.options handle a.scope)
    ∙ ap (λ q. of_prefix a.lexeme (prefix_by handle q)) (known_same a.options handle a.scope)))
    (tag_means b handle suffix a NoProperties fs stop (prefix_of a.options handle a.scope) h e refl)
tag_parts b handle suffix a (One k i) fs stop h e =
    subst (TagMeans b handle suffix a (One k i) fs stop)
    (sym
    (prefix_same b (TagLexeme a.lexeme handle suffix) handle (known_in a.options handle a.scope)
    ∙ ap (λ q. of_prefix a.lexeme (prefix_by handle q)) (known_same a.options handle a.scope)))
    (tag_means b handle suffix a (One k i) fs stop (prefix_of a.options handle a.scope) h e refl)
tag_parts b handle suffix a (Two k i m j) fs stop h e =
    subst (TagMeans b handle suffix a (Two k i m j) fs stop)
    (sym
    (prefix_same b (TagLexeme a.lexeme handle suffix) handle (known_in a.options handle a.scope)
    ∙ ap (λ q. of_prefix a.lexeme (prefix_by handle q)) (known_same a.options handle a.scope)))
    (tag_means b handle suffix a (Two k i m j) fs stop (prefix_of a.options handle a.scope) h e refl)

-- ---- aliases

alias_given :
    (o : OptionsData) (kind : plain.EventKind) (l : lexemes.Lexeme) (fs : List OpenFrame) (d : Beside) → Holes fs →
    finish (node_event o (λ number tag. kind) l.shown None (state_of o (InFrames fs) d))
    ≡ state_of o (put_frames l.shown.end fs)
    (with_given l.shown.end
    (HeadGiven o NoProperties (λ number tag. kind) l.shown (indent_told (frames_indent fs)) d.given) d)
alias_given o kind l fs d h =
    ap finish (node_begins o NoProperties (λ number tag. kind) l.shown None fs d h)
    ∙
    (ap (λ i. finish (popped o fs l.shown.end (HeadGiven o NoProperties (λ number tag. kind) l.shown i d.given) d))
    (indent_view o fs None h ∙ indent_none (frames_indent fs))
    ∙ finish_view o fs l.shown.end
    (HeadGiven o NoProperties (λ number tag. kind) l.shown (indent_told (frames_indent fs)) d.given) d h)

-- the parser behind an alias that is told so
abbrev TellsAlias : Written → Arrival → List OpenFrame → Option ℕ → ParserState
TellsAlias name a fs r =
    state_of a.options (put_frames a.lexeme.shown.end fs)
    (with_given a.lexeme.shown.end
    (HeadGiven a.options NoProperties (λ number tag. alias_told name r) a.lexeme.shown (indent_told (frames_indent fs))
    a.given)
    (beside_at a))

alias_told_as :
    (name : Written) (a : Arrival) (r : Option ℕ) (fs : List OpenFrame) →
    number_of_anchor name.characters a.scope ≡ r →
    TellsAlias name a fs r ≡ TellsAlias name a fs (number_of_anchor name.characters a.scope)
alias_told_as name a r fs e = ap (TellsAlias name a fs) (sym e)

abbrev AliasMeans : Bool → Written → Arrival → List OpenFrame → GrammarFault → Result ParserState Fault → Type 0
AliasMeans b name a fs stop r =
    MeansView a.options (arriving b (lexemes.Alias name) None a) (beside_at a) r
    (part_frames stop fs NoProperties (Alias name) (arriving b (lexemes.Alias name) None a).at)

alias_goes :
    (b : Bool) (name : Written) (a : Arrival) (fs : List OpenFrame) (stop : GrammarFault) (r : Option ℕ) →
    Holes fs → number_of_anchor name.characters a.scope ≡ r →
    scope_fault a.options (Part (Alias name)) a.scope ≡ None →
    AliasMeans b name a fs stop
    (Ok
    (finish
    (node_event a.options (λ number tag. alias_told name r) a.lexeme.shown None (parser_at fs a))))
unfolding node_head
alias_goes b name a fs stop r h e f = (
  (
    a.lexeme.shown.end,
    alias_given a.options (alias_told name r) a.lexeme fs (beside_at a) h ∙ alias_told_as name a r fs e,
  ),
  f,
)

alias_unknown :
    (b : Bool) (name : Written) (a : Arrival) (fs : List OpenFrame) (stop : GrammarFault) (u : Bool) →
    a.options.emit_unresolved_aliases ≡ u → Holes fs → number_of_anchor name.characters a.scope ≡ None →
    AliasMeans b name a fs stop
    (if u then Ok
    (finish
    (node_event a.options (λ number tag. plain.UnresolvedAlias name) a.lexeme.shown None (parser_at fs a)))
    else Err (fault_at refused.UnknownAnchor a.lexeme.shown.start))
alias_unknown b name a fs stop true u h e =
    alias_goes b name a fs stop None h e (ap₂ (λ u r. alias_fault u r) u e)
alias_unknown b name a fs stop false u h e = (UnknownAnchor, ap₂ (λ u r. alias_fault u r) u e, refl)

known_alias : (u : Bool) (n : ℕ) → alias_fault u (Some n) ≡ None
known_alias true n = refl
known_alias false n = refl

alias_means :
    (b : Bool) (name : Written) (a : Arrival) (fs : List OpenFrame) (stop : GrammarFault) (r : Option ℕ) →
    Holes fs → number_of_anchor name.characters a.scope ≡ r →
    AliasMeans b name a fs stop
    (steps.alias_by a.options (arriving_token b (lexemes.Alias name) None a) name r (parser_at fs a))
alias_means b name a fs stop (Some n) h e =
    alias_goes b name a fs stop (Some n) h e
    (ap (alias_fault a.options.emit_unresolved_aliases) e ∙ known_alias a.options.emit_unresolved_aliases n)
alias_means b name a fs stop None h e =
    alias_unknown b name a fs stop a.options.emit_unresolved_aliases refl h e

pub alias_parts :
    (b : Bool) (name : Written) (a : Arrival) (fs : List OpenFrame) (stop : GrammarFault) →
    Holes fs → PartsAgree b (Alias name) (lexemes.Alias name) a NoProperties fs stop
alias_parts b name a fs stop h =
    subst
    (λ r.
    AliasMeans b name a fs stop
    (steps.alias_by a.options (arriving_token b (lexemes.Alias name) None a) name r (parser_at fs a)))
    (sym (found_in_order name.characters a.scope.names))
    (alias_means b name a fs stop (number_of_anchor name.characters a.scope) h refl)
