-- The parser's frames are what its events left open.
use Rattle.std.proofs.Common.{◌≡◌, ℕ, Bool, true, false, List, [], ◌∷◌, ◌++◌, Option, Some, None, refl, sym, ap, subst}
use Rattle.std.proofs.Common.{◌∙◌}
use Rattle.std.specs.Prelude.{if◌then◌else◌}
use Rattle.granit_base.specs.Place.{Mark}
use Rattle.granit_base.specs.Written.{Written}
use Rattle.granit_error.specs.OptionsData.{OptionsData}
use Rattle.granit_lexemes.specs.PlainEvent.{PlainEvent, PlainTag, EventKind, event_at, Anchor}
use Rattle.granit_lexemes.specs.Source.{Source}
use Rattle.granit_machine.specs.Frames.{AtQuestion, BehindQuestion, AtValue, BehindAlone, NodeProperties, Frame, Root}
use Rattle.granit_machine.specs.Frames.{WithProperties, BlockSequence, BlockMapping, FlowSequence, FlowMapping}
use Rattle.granit_machine.specs.Frames.{FlowPair, DocumentStage, BehindRoot, Waiting, ParserState}
use Rattle.granit_machine.specs.Giving.{null_at, with_indent, flush_held, flush, put, give, empty_by, give_empty}
use Rattle.granit_machine.specs.Giving.{properties_on, below_properties, key_indent, anchor_number, tag_value}
use Rattle.granit_machine.specs.Giving.{span_with_tag, tell_anchor, node_event}
use Rattle.granit_machine.specs.NodeEnds.{finished_stage, finish_in, finish, owed_in, owed, end_kind, below, end_by}
use Rattle.granit_machine.specs.NodeEnds.{end_node, null_node, empty_span, end_properties, begin, waits, with_top}
use Rattle.granit_steps.specs.Levels.{Level, InStream, BeforeNode, BehindNode, InSequence, InMapping, node_done}
use Rattle.granit_steps.specs.Levels.{node_begun, behind_event, and_then, behind_events}

-- ---- what frames leave open

abbrev pub base_levels : DocumentStage → List Level
base_levels BehindRoot = BehindNode ∷ InStream ∷ []
base_levels stage = InStream ∷ []

abbrev pub levels_of : List Frame → DocumentStage → List Level
levels_of [] st = base_levels st
levels_of (Root explicit ∷ fs) st = BeforeNode ∷ InStream ∷ []
levels_of (WithProperties q ∷ fs) st = levels_of fs st
levels_of (BlockSequence column indentless ∷ fs) st = InSequence ∷ levels_of fs st
levels_of (BlockMapping column stage ∷ fs) st = InMapping ∷ levels_of fs st
levels_of (FlowSequence behind_entry ∷ fs) st = InSequence ∷ levels_of fs st
levels_of (FlowMapping single stage ∷ fs) st = InMapping ∷ levels_of fs st
levels_of (FlowPair stage ∷ fs) st = InMapping ∷ levels_of fs st

abbrev pub NoFrames : List Frame → Type 0
NoFrames [] = Unit {0}
NoFrames (f ∷ fs) = ⊥

-- collections above a document, without properties
abbrev pub Clean : List Frame → Type 0
Clean [] = ⊥
Clean (Root explicit ∷ fs) = NoFrames fs
Clean (WithProperties q ∷ fs) = ⊥
Clean (BlockSequence column indentless ∷ fs) = Clean fs
Clean (BlockMapping column stage ∷ fs) = Clean fs
Clean (FlowSequence behind_entry ∷ fs) = Clean fs
Clean (FlowMapping single stage ∷ fs) = Clean fs
Clean (FlowPair stage ∷ fs) = Clean fs

-- no frame, or properties on top at most
abbrev pub Fine : List Frame → Type 0
Fine [] = Unit {0}
Fine (WithProperties q ∷ fs) = Clean fs
Fine (Root explicit ∷ fs) = NoFrames fs
Fine (BlockSequence column indentless ∷ fs) = Clean fs
Fine (BlockMapping column stage ∷ fs) = Clean fs
Fine (FlowSequence behind_entry ∷ fs) = Clean fs
Fine (FlowMapping single stage ∷ fs) = Clean fs
Fine (FlowPair stage ∷ fs) = Clean fs

-- ---- held events change nothing

abbrev pub Quiet : List PlainEvent → Type 0
Quiet [] = Unit {0}
Quiet (e ∷ es) = ((ls : List Level) → behind_event e.kind ls ≡ Some ls) × Quiet es

abbrev pub Held : Option Waiting → Type 0
Held None = Unit {0}
Held (Some w) = Quiet w.held

quiet_all : (es : List PlainEvent) (ls : List Level) → Quiet es → behind_events es ls ≡ Some ls
quiet_all [] ls q = refl
quiet_all (e ∷ es) ls q = ap (λ x. and_then x (behind_events es)) (q.0 ls) ∙ quiet_all es ls q.1

pub quiet_last : (es : List PlainEvent) (e : PlainEvent) → Quiet es
    → ((ls : List Level) → behind_event e.kind ls ≡ Some ls) → Quiet (es ++ e ∷ [])
quiet_last [] e q h = (h, tt)
quiet_last (x ∷ es) e q h = (q.0, quiet_last es e q.1 h)

then_assoc : (x : Option (List Level)) (f g : List Level → Option (List Level))
    → and_then (and_then x f) g ≡ and_then x (λ ls. and_then (f ls) g)
then_assoc None f g = refl
then_assoc (Some ls) f g = refl

then_same : (x : Option (List Level)) (f g : List Level → Option (List Level)) → ((ls : List Level) → f ls ≡ g ls)
    → and_then x f ≡ and_then x g
then_same None f g e = refl
then_same (Some ls) f g e = e ls

pub behind_append : (xs ys : List PlainEvent) (ls : List Level)
    → behind_events (xs ++ ys) ls ≡ and_then (behind_events xs ls) (behind_events ys)
behind_append [] ys ls = refl
behind_append (x ∷ xs) ys ls =
    then_same (behind_event x.kind ls) (behind_events (xs ++ ys))
    (λ ms. and_then (behind_events xs ms) (behind_events ys)) (behind_append xs ys)
    ∙ sym (then_assoc (behind_event x.kind ls) (behind_events xs) (behind_events ys))

-- ---- a state, its frames, and what its events left open from a beginning on

pub record Is (a : List Level) (p : ParserState) (fs : List Frame) (st : DocumentStage) (ls : List Level) : Type 0 where
  pub left : behind_events p.given a ≡ Some ls
  pub frames : p.frames ≡ fs
  pub stage : p.stage ≡ st
  pub held : Held p.waiting

pub record Agrees (a : List Level) (p : ParserState) : Type 0 where
  pub left : behind_events p.given a ≡ Some (levels_of p.frames p.stage)
  pub fine : Fine p.frames
  pub held : Held p.waiting

pub as_is : (a : List Level) (p : ParserState) → Agrees a p → Is a p p.frames p.stage (levels_of p.frames p.stage)
as_is a p x = record { left = x.left; frames = refl; stage = refl; held = x.held }

pub agrees : (a : List Level) (p : ParserState) (fs : List Frame) (st : DocumentStage) → Is a p fs st (levels_of fs st)
    → Fine fs → Agrees a p
agrees a p fs st x fine = record {
  left = x.left ∙ ap (λ f. Some (levels_of f st)) (sym x.frames) ∙ ap (λ s. Some (levels_of p.frames s)) (sym x.stage);
  fine = subst Fine (sym x.frames) fine;
  held = x.held;
}

pub more_left : (a : List Level) (given es : List PlainEvent) (ls ms : List Level) → behind_events given a ≡ Some ls
    → behind_events es ls ≡ Some ms → behind_events (given ++ es) a ≡ Some ms
more_left a given es ls ms p q = behind_append given es a ∙ ap (λ x. and_then x (behind_events es)) p ∙ q

one_left : (e : PlainEvent) (ls ms : List Level) → behind_event e.kind ls ≡ Some ms
    → behind_events (e ∷ []) ls ≡ Some ms
one_left e ls ms h = ap (λ x. and_then x (behind_events [])) h

flush_by : (a : List Level) (w : Option Waiting) (p : ParserState) (fs : List Frame) (st : DocumentStage)
    (ls : List Level) → Held w → Is a p fs st ls → Is a (flush_held w p) fs st ls
flush_by a None p fs st ls h x = x
flush_by a (Some w) p fs st ls h x = record {
  left = more_left a p.given w.held ls ls x.left (quiet_all w.held ls h);
  frames = x.frames;
  stage = x.stage;
  held = tt;
}

pub flush_is : (a : List Level) (p : ParserState) (fs : List Frame) (st : DocumentStage) (ls : List Level)
    → Is a p fs st ls → Is a (flush p) fs st ls
flush_is a p fs st ls x = flush_by a p.waiting p fs st ls x.held x

pub put_is : (a : List Level) (e : PlainEvent) (p : ParserState) (fs : List Frame) (st : DocumentStage)
    (ls ms : List Level) → behind_event e.kind ls ≡ Some ms → Is a p fs st ls → Is a (put e p) fs st ms
put_is a e p fs st ls ms h x = record {
  left = more_left a p.given (e ∷ []) ls ms x.left (one_left e ls ms h);
  frames =
      x.frames;
  stage = x.stage;
  held = x.held;
}

pub give_is : (a : List Level) (e : PlainEvent) (p : ParserState) (fs : List Frame) (st : DocumentStage)
    (ls ms : List Level) → behind_event e.kind ls ≡ Some ms → Is a p fs st ls → Is a (give e p) fs st ms
give_is a e p fs st ls ms h x = put_is a e (flush p) fs st ls ms h (flush_is a p fs st ls x)

empty_is_by : (a : List Level) (w : Option Waiting) (p : ParserState) (fs : List Frame) (st : DocumentStage)
    (ls : List Level) → node_done ls ≡ Some ls → Is a p fs st ls → Is a (empty_by w p) fs st ls
empty_is_by a None p fs st ls h x = x
empty_is_by a (Some w) p fs st ls h x = flush_is a (put (null_at w.at) p) fs st ls
    (put_is a (null_at w.at) p fs st ls ls h x)

pub give_empty_is : (a : List Level) (p : ParserState) (fs : List Frame) (st : DocumentStage) (ls : List Level)
    → node_done ls ≡ Some ls → Is a p fs st ls → Is a (give_empty p) fs st ls
give_empty_is a p fs st ls h x = empty_is_by a p.waiting p fs st ls h x

-- ---- nodes

-- what a finished node leaves open
abbrev pub done_levels : List Frame → DocumentStage → List Level
done_levels (Root explicit ∷ fs) st = BehindNode ∷ InStream ∷ []
done_levels fs st = levels_of fs st

pub clean_done : (fs : List Frame) (st : DocumentStage) → Clean fs
    → node_done (levels_of fs st) ≡ Some (done_levels fs st)
clean_done [] st c = absurd c
clean_done (Root explicit ∷ fs) st c = refl
clean_done (WithProperties q ∷ fs) st c = absurd c
clean_done (BlockSequence column indentless ∷ fs) st c = refl
clean_done (BlockMapping column stage ∷ fs) st c = refl
clean_done (FlowSequence behind_entry ∷ fs) st c = refl
clean_done (FlowMapping single stage ∷ fs) st c = refl
clean_done (FlowPair stage ∷ fs) st c = refl

pub clean_begun : (l : Level) (fs : List Frame) (st : DocumentStage) → Clean fs
    → node_begun l (levels_of fs st) ≡ Some (l ∷ levels_of fs st)
clean_begun l [] st c = absurd c
clean_begun l (Root explicit ∷ fs) st c = refl
clean_begun l (WithProperties q ∷ fs) st c = absurd c
clean_begun l (BlockSequence column indentless ∷ fs) st c = refl
clean_begun l (BlockMapping column stage ∷ fs) st c = refl
clean_begun l (FlowSequence behind_entry ∷ fs) st c = refl
clean_begun l (FlowMapping single stage ∷ fs) st c = refl
clean_begun l (FlowPair stage ∷ fs) st c = refl

-- a node may stand here
pub record Open (a : List Level) (p : ParserState) (fs : List Frame) (st : DocumentStage) : Type 0 where
  pub is : Is a p fs st (levels_of (below_properties fs) st)
  pub clean : Clean (below_properties fs)

no_frames : (fs : List Frame) → NoFrames fs → fs ≡ []
no_frames [] n = refl
no_frames (f ∷ fs) n = absurd n

finish_by : (a : List Level) (p : ParserState) (fs : List Frame) (st : DocumentStage) → Clean fs
    → Is a p fs st (done_levels fs st) → Agrees a (finish_in fs p)
finish_by a p [] st c x = absurd c
finish_by a p (Root explicit ∷ fs) st c x = agrees a (record p { frames = fs; stage = BehindRoot }) [] BehindRoot
    (record { left = x.left; frames = no_frames fs c; stage = refl; held = x.held }) tt
finish_by a p (WithProperties q ∷ fs) st c x = absurd c
finish_by a p (BlockSequence column indentless ∷ fs) st c x = agrees a p (BlockSequence column indentless ∷ fs) st x c
finish_by a p (BlockMapping column stage ∷ fs) st c x = agrees a
    (record p { frames = BlockMapping column (finished_stage stage) ∷ fs })
    (BlockMapping column (finished_stage stage) ∷ fs) st
    (record { left = x.left; frames = refl; stage = x.stage; held = x.held }) c
finish_by a p (FlowSequence behind_entry ∷ fs) st c x = agrees a (record p { frames = FlowSequence true ∷ fs })
    (FlowSequence true ∷ fs) st (record { left = x.left; frames = refl; stage = x.stage; held = x.held }) c
finish_by a p (FlowMapping single stage ∷ fs) st c x = agrees a
    (record p { frames = FlowMapping single (finished_stage stage) ∷ fs })
    (FlowMapping single (finished_stage stage) ∷ fs) st
    (record { left = x.left; frames = refl; stage = x.stage; held = x.held }) c
finish_by a p (FlowPair stage ∷ fs) st c x = agrees a (record p { frames = FlowPair (finished_stage stage) ∷ fs })
    (FlowPair (finished_stage stage) ∷ fs) st (record { left = x.left; frames = refl; stage = x.stage; held = x.held })
    c

pub finish_agrees : (a : List Level) (p : ParserState) (fs : List Frame) (st : DocumentStage) → Clean fs
    → Is a p fs st (done_levels fs st) → Agrees a (finish p)
finish_agrees a p fs st c x = subst (λ gs. Agrees a (finish_in gs p)) (sym x.frames) (finish_by a p fs st c x)

anchor_is : (a : List Level) (o : OptionsData) (q : Option (ℕ × Written × Source)) (p : ParserState) (fs : List Frame)
    (st : DocumentStage) (ls : List Level) → Is a p fs st ls → Is a (tell_anchor o q p) fs st ls
anchor_is a o None p fs st ls x = x
anchor_is a o (Some q) p fs st ls x = told_if o.emit_anchor_events
  where
    told_if : (b : Bool) → Is a (if b then record p { given = p.given ++ event_at (Anchor q.0 q.1) q.2 ∷ [] } else p) fs
        st ls
    told_if true = record {
      left = more_left a p.given (event_at (Anchor q.0 q.1) q.2 ∷ []) ls ls x.left refl;
      frames =
          x.frames;
      stage = x.stage;
      held = x.held;
    }
    told_if false = x

-- the event that begins a node, or is all of it, but for what its properties make of it
record NodeTold : Type 0 where
  kind : ℕ → Option PlainTag → EventKind
  source : Source
  indent : Option ℕ

-- such an event leads from some levels to others, whatever its node's number and tag
abbrev LeadsTo : NodeTold → List Level → List Level → Type 0
LeadsTo e ls ms = (n : ℕ) (t : Option PlainTag) → behind_event (e.kind n t) ls ≡ Some ms

-- it does to all levels what this does
abbrev pub ActsAs : (ℕ → Option PlainTag → EventKind) → (List Level → Option (List Level)) → Type 0
ActsAs kind f = (n : ℕ) (t : Option PlainTag) (ls : List Level) → behind_event (kind n t) ls ≡ f ls

node_event_is : (a : List Level) (o : OptionsData) (e : NodeTold) (p : ParserState) (fs : List Frame)
    (st : DocumentStage) (ls ms : List Level) → LeadsTo e ls ms → Is a p fs st ls
    → Is a (node_event o e.kind e.source e.indent p) (below_properties fs) st ms
unfolding node_event
node_event_is a o e p fs st ls ms h x =
    let q = properties_on p.frames e.source.end in
    let r : ParserState = record p { frames = below_properties p.frames } in
    anchor_is a o q.anchor _ (below_properties fs) st ms
    (give_is a (record {
      kind = e.kind (anchor_number q.anchor) (tag_value q.tag);
      span = span_with_tag q.tag e.source
          (key_indent r.frames e.indent);
    }) r (below_properties fs) st ls ms (h (anchor_number q.anchor) (tag_value q.tag))
    (record { left = x.left; frames = ap below_properties x.frames; stage = x.stage; held = x.held }))

-- a node of one event
pub leaf_agrees : (a : List Level) (o : OptionsData) (kind : ℕ → Option PlainTag → EventKind) (source : Source)
    (indent : Option ℕ) (p : ParserState) (fs : List Frame) (st : DocumentStage) → ActsAs kind node_done
    → Open a p fs st → Agrees a (finish (node_event o kind source indent p))
leaf_agrees a o kind source indent p fs st h x =
    let gs = below_properties fs in
    finish_agrees a (node_event o kind source indent p) gs st x.clean
    (node_event_is a o (record { kind = kind; source = source; indent = indent }) p fs st (levels_of gs st)
    (done_levels gs st) (λ n t. h n t (levels_of gs st) ∙ clean_done gs st x.clean) x.is)

-- a collection begins
pub begin_is : (a : List Level) (o : OptionsData) (kind : ℕ → Option PlainTag → EventKind) (source : Source) (l : Level)
    (f : Frame) (p : ParserState) (fs : List Frame) (st : DocumentStage) → ActsAs kind (node_begun l) → Open a p fs st
    → Is a (begin o kind source f p) (f ∷ below_properties fs) st (l ∷ levels_of (below_properties fs) st)
begin_is a o kind source l f p fs st h x =
    let gs = below_properties fs in
    let q = node_event_is a o (record { kind = kind; source = source; indent = None }) p fs st (levels_of gs st)
    (l ∷ levels_of gs st) (λ n t. h n t (levels_of gs st) ∙ clean_begun l gs st x.clean) x.is in
    record { left = q.left; frames = ap (λ gs. f ∷ gs) q.frames; stage = q.stage; held = q.held }

pub waits_is : (a : List Level) (m : Mark) (room : ℕ) (p : ParserState) (fs : List Frame) (st : DocumentStage)
    (ls : List Level) → Is a p fs st ls → Is a (waits m room p) fs st ls
waits_is a m room p fs st ls x = let q = flush_is a p fs st ls
    x in record { left = q.left; frames = q.frames; stage = q.stage; held = tt }

pub top_is : (a : List Level) (g f : Frame) (p : ParserState) (fs : List Frame) (st : DocumentStage) (ls : List Level)
    → Is a p (f ∷ fs) st ls → Is a (with_top g p) (g ∷ fs) st ls
top_is a g f p fs st ls x = record {
  left = x.left;
  frames = ap (λ gs. g ∷ below gs) x.frames;
  stage = x.stage;
  held =
      x.held;
}

-- ---- what ends

pub null_is : (a : List Level) (m : Mark) (p : ParserState) (fs : List Frame) (st : DocumentStage) (ls ms : List Level)
    → node_done ls ≡ Some ms → Is a p fs st ls → Is a (give (null_at m) p) fs st ms
null_is a m p fs st ls ms h x = give_is a (null_at m) p fs st ls ms h x

pub owed_by : (a : List Level) (fs : List Frame) (m : Mark) (p : ParserState) (st : DocumentStage)
    → Is a p fs st (levels_of fs st) → Is a (owed_in fs m p) fs st (levels_of fs st)
owed_by a (BlockSequence column indentless ∷ fs) m p st x = give_empty_is a p _ st _ refl x
owed_by a (BlockMapping column AtValue ∷ fs) m p st x = give_empty_is a p _ st _ refl x
owed_by a (FlowMapping single AtValue ∷ fs) m p st x = give_empty_is a p _ st _ refl x
owed_by a (BlockMapping column AtQuestion ∷ fs) m p st x = null_is a m (give (with_indent (Some column) (null_at m)) p)
    _ st _ _ refl (give_is a (with_indent (Some column) (null_at m)) p _ st _ _ refl x)
owed_by a (FlowMapping single AtQuestion ∷ fs) m p st x = null_is a m (give (null_at m) p) _ st _ _ refl
    (null_is a m p _ st _ _ refl x)
owed_by a (FlowPair AtQuestion ∷ fs) m p st x = null_is a m (give (null_at m) p) _ st _ _ refl
    (null_is a m p _ st _ _ refl x)
owed_by a (BlockMapping column BehindQuestion ∷ fs) m p st x = null_is a m p _ st _ _ refl x
owed_by a (FlowMapping single BehindQuestion ∷ fs) m p st x = null_is a m p _ st _ _ refl x
owed_by a (FlowMapping single BehindAlone ∷ fs) m p st x = null_is a m p _ st _ _ refl x
owed_by a (FlowPair BehindQuestion ∷ fs) m p st x = null_is a m p _ st _ _ refl x
owed_by a (FlowPair AtValue ∷ fs) m p st x = null_is a m p _ st _ _ refl x
owed_by a fs m p st x = x

pub owed_is : (a : List Level) (m : Mark) (p : ParserState) (fs : List Frame) (st : DocumentStage)
    → Is a p fs st (levels_of fs st) → Is a (owed m p) fs st (levels_of fs st)
owed_is a m p fs st x = subst (λ gs. Is a (owed_in gs m p) fs st (levels_of fs st)) (sym x.frames)
    (owed_by a fs m p st x)

end_by_agrees : (a : List Level) (source : Source) (p : ParserState) (f : Frame) (fs : List Frame) (st : DocumentStage)
    → behind_event (end_kind (f ∷ fs)) (levels_of (f ∷ fs) st) ≡ node_done (levels_of fs st) → Clean fs
    → Is a p (f ∷ fs) st (levels_of (f ∷ fs) st) → Agrees a (end_by source p)
end_by_agrees a source p f fs st h c x =
    let q : ParserState = record p { frames = below p.frames } in
    let k : behind_event (end_kind p.frames) (levels_of (f ∷ fs) st)
    ≡ Some (done_levels fs st) = ap (λ gs. behind_event (end_kind gs) (levels_of (f ∷ fs) st)) x.frames ∙ h
    ∙ clean_done fs st c in
    finish_agrees a (give (event_at (end_kind p.frames) source) q) fs st c
    (give_is a (event_at (end_kind p.frames) source) q fs st (levels_of (f ∷ fs) st) (done_levels fs st) k
    (record { left = x.left; frames = ap below x.frames; stage = x.stage; held = x.held }))

pub end_node_agrees : (a : List Level) (m : Mark) (source : Source) (p : ParserState) (f : Frame) (fs : List Frame)
    (st : DocumentStage) → behind_event (end_kind (f ∷ fs)) (levels_of (f ∷ fs) st) ≡ node_done (levels_of fs st)
    → Clean fs → Is a p (f ∷ fs) st (levels_of (f ∷ fs) st) → Agrees a (end_node m source p)
unfolding end_node
end_node_agrees a m source p f fs st h c x = end_by_agrees a source (owed m p) f fs st h c (owed_is a m p (f ∷ fs) st x)

pub end_properties_agrees : (a : List Level) (o : OptionsData) (q : NodeProperties) (p : ParserState) (fs : List Frame)
    (st : DocumentStage) → Open a p fs st → Agrees a (end_properties o q p)
unfolding end_properties
end_properties_agrees a o q p fs st x = leaf_agrees a o (null_node q) (empty_span q.end) None p fs st (λ n t ls. refl) x
