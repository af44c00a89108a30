-- Each step of the parser keeps its ids above a bound and up to its count, which never falls.
use Rattle.std.proofs.Common.{◌≡◌, ℕ, suc, ◌<◌, ◌≤◌, Bool, true, false, ◌⊎◌, inl, inr, List, [], ◌∷◌, ◌++◌, Option}
use Rattle.std.proofs.Common.{Some, None, Result, Ok, Err, refl, sym, subst, arith}
use Rattle.std.specs.Prelude.{if◌then◌else◌}
use Rattle.granit_base.specs.Place.{Mark}
use Rattle.granit_base.specs.Written.{Written}
use Rattle.granit_base.specs.declared.style.Placement.TheVariants.{Right}
use Rattle.granit_base.specs.declared.style.StructureStyle.TheVariants.{Flow}
use Rattle.granit_error.specs.OptionsData.{OptionsData}
use Rattle.granit_lexemes.specs.Comment.{CommentRead}
use Rattle.granit_lexemes.specs.Lexeme as lexemes
use Rattle.granit_lexemes.specs.Lexeme.{LexemeKind}
use Rattle.granit_lexemes.specs.Outcome.{Fault, ◌>>=◌}
use Rattle.granit_lexemes.specs.PlainEvent as events
use Rattle.granit_lexemes.specs.PlainEvent.{PlainEvent, PlainTag, EventKind, event_at}
use Rattle.granit_lexemes.specs.Source.{Source}
use Rattle.granit_lexemes.specs.declared.layout.Bracket.{Bracket}
use Rattle.granit_lexemes.specs.declared.layout.Bracket.TheVariants.{Square, Curly}
use Rattle.granit_machine.specs.Entries.{lookup_text}
use Rattle.granit_machine.specs.Frames.{BeforePair, AtKey, AtQuestion, BehindQuestion, AtValue}
use Rattle.granit_machine.specs.Frames.{BehindAlone, NodeProperties, Frame, Root, WithProperties}
use Rattle.granit_machine.specs.Frames.{BlockSequence, BlockMapping, FlowSequence, FlowMapping, FlowPair, Waiting}
use Rattle.granit_machine.specs.Frames.{ParserState}
use Rattle.granit_machine.specs.Giving.{null_at, flush_held, flush, put, give, empty_by, give_empty, properties_on}
use Rattle.granit_machine.specs.Giving.{below_properties, anchor_number, tag_value, span_with_tag, key_indent}
use Rattle.granit_machine.specs.Giving.{tell_anchor, node_event}
use Rattle.granit_machine.specs.NodeEnds.{finish_in, finish, owed_in, owed, end_kind, below, end_by, end_node}
use Rattle.granit_machine.specs.NodeEnds.{null_node, empty_span, end_properties, begin, begin_block}
use Rattle.granit_machine.specs.NodeEnds.{block_mapping, waits, with_top, may_be_indentless}
use Rattle.granit_machine.specs.NodeSteps.{Stepped, alias_by, tag_prefix, anchored, tagged}
use Rattle.granit_machine.specs.NodeSteps.{known_prefix}
use Rattle.granit_machine.specs.NodeSteps.{block_sequence, DashRole, NextEntry, NewSequence, IndentlessSequence}
use Rattle.granit_machine.specs.NodeSteps.{dash_room, give_tail, token_number, take_dash, first_dash, open_flow}
use Rattle.granit_machine.specs.NodeSteps.{bare_by}
use Rattle.granit_machine.specs.NodeSteps.{bare, node_by, node}
use Rattle.granit_machine.specs.TokenSort.{TokenSort, BeginsKey, Token}
use Rattle.granit_ids.proofs.AnchorOrder.{Follow, follow_append, follow_node, follow_one, is_anchor, is_node}
use Rattle.granit_ids.proofs.AnchorOrder.{node_no_anchor, none_told, number_told}
use Rattle.granit_ids.specs.Ids.{id_of}

-- ---- bounds

-- what ids are above, and what the count of anchors is at least
pub record Bounds : Type 0 where
  pub low : ℕ
  pub least : ℕ

abbrev pub Above : Bounds → ℕ → ℕ → Type 0
Above b n id = (id ≡ 0) ⊎ ((b.low < id) × (id ≤ n))

abbrev pub IdsIn : Bounds → ℕ → List PlainEvent → Type 0
IdsIn b n [] = Unit {0}
IdsIn b n (e ∷ es) = Above b n (id_of e.kind) × IdsIn b n es

abbrev pub FrameIds : Bounds → ℕ → List Frame → Type 0
FrameIds b n [] = Unit {0}
FrameIds b n (WithProperties q ∷ fs) = Above b n (anchor_number q.anchor) × FrameIds b n fs
FrameIds b n (f ∷ fs) = FrameIds b n fs

abbrev pub HeldIds : Bounds → ℕ → Option Waiting → Type 0
HeldIds b n None = Unit {0}
HeldIds b n (Some w) = IdsIn b n w.held × Follow false w.held

pub record Counts (b : Bounds) (n : ℕ) (es : List PlainEvent) (fs : List Frame) (w : Option Waiting) : Type 0 where
  pub least : b.least ≤ n
  pub low : b.low ≤ n
  pub given : IdsIn b n es
  pub frames : FrameIds b n fs
  pub held : HeldIds b n w
  pub follow : Follow false es

abbrev pub Num : Bounds → ParserState → Type 0
Num b p = Counts b p.count p.given p.frames p.waiting

abbrev pub NumR : Bounds → Stepped → Type 0
NumR b (Ok p) = Num b p
NumR b (Err f) = Unit {0}

-- ---- lists

pub ids_append : (b : Bounds) (n : ℕ) (xs ys : List PlainEvent) → IdsIn b n xs → IdsIn b n ys → IdsIn b n (xs ++ ys)
ids_append b n [] ys p q = q
ids_append b n (x ∷ xs) ys p q = (p.0, ids_append b n xs ys p.1 q)

above_more : (b : Bounds) (n id : ℕ) → Above b n id → Above b (suc n) id
above_more b n id (inl e) = inl e
above_more b n id (inr p) = let h = p.1 in inr (p.0, omega (arith, h))

ids_more : (b : Bounds) (n : ℕ) (es : List PlainEvent) → IdsIn b n es → IdsIn b (suc n) es
ids_more b n [] p = tt
ids_more b n (e ∷ es) p = (above_more b n (id_of e.kind) p.0, ids_more b n es p.1)

frames_more : (b : Bounds) (n : ℕ) (fs : List Frame) → FrameIds b n fs → FrameIds b (suc n) fs
frames_more b n [] p = tt
frames_more b n (WithProperties q ∷ fs) p = (above_more b n (anchor_number q.anchor) p.0, frames_more b n fs p.1)
frames_more b n (f ∷ fs) p = frames_more b n fs p

held_more : (b : Bounds) (n : ℕ) (w : Option Waiting) → HeldIds b n w → HeldIds b (suc n) w
held_more b n None p = tt
held_more b n (Some w) p = (ids_more b n w.held p.0, p.1)

frames_below : (b : Bounds) (n : ℕ) (fs : List Frame) → FrameIds b n fs → FrameIds b n (below fs)
frames_below b n [] p = tt
frames_below b n (WithProperties q ∷ fs) p = p.1
frames_below b n (f ∷ fs) p = p

frames_without : (b : Bounds) (n : ℕ) (fs : List Frame) → FrameIds b n fs → FrameIds b n (below_properties fs)
frames_without b n [] p = tt
frames_without b n (WithProperties q ∷ fs) p = p.1
frames_without b n (f ∷ fs) p = p

properties_above : (b : Bounds) (n : ℕ) (fs : List Frame) (m : Mark) → FrameIds b n fs
    → Above b n (anchor_number (properties_on fs m).anchor)
properties_above b n [] m p = inl refl
properties_above b n (WithProperties q ∷ fs) m p = p.0
properties_above b n (f ∷ fs) m p = inl refl

-- ---- events are given

flushed_by : (b : Bounds) (w : Option Waiting) (p : ParserState) → p.waiting ≡ w → Num b p → Num b (flush_held w p)
flushed_by b None p e x = x
flushed_by b (Some w) p e x =
    let h : HeldIds b p.count (Some w) = subst (HeldIds b p.count) e x.held in
    record {
      least = x.least;
      low = x.low;
      given = ids_append b p.count p.given w.held x.given h.0;
      frames = x.frames;
      held = tt;
      follow = follow_append false p.given w.held x.follow h.1;
    }

pub num_flush : (b : Bounds) (p : ParserState) → Num b p → Num b (flush p)
num_flush b p x = flushed_by b p.waiting p refl x

flush_count_by : (w : Option Waiting) (p : ParserState) → (flush_held w p).count ≡ p.count
flush_count_by None p = refl
flush_count_by (Some w) p = refl

flush_count : (p : ParserState) → (flush p).count ≡ p.count
flush_count p = flush_count_by p.waiting p

more_given : (b : Bounds) (e : PlainEvent) (p : ParserState) → Above b p.count (id_of e.kind)
    → Follow false (p.given ++ e ∷ []) → Num b p → Counts b p.count (p.given ++ e ∷ []) p.frames p.waiting
more_given b e p a f x = record {
  least = x.least;
  low = x.low;
  given = ids_append b p.count p.given (e ∷ []) x.given (a, tt);
  frames = x.frames;
  held = x.held;
  follow = f;
}

one_behind : (b : Bounds) (e : PlainEvent) (p : ParserState) → is_anchor e.kind ≡ false → Num b p
    → Follow false (p.given ++ e ∷ [])
one_behind b e p other x = follow_append false p.given (e ∷ []) x.follow (follow_one e other)

give_above : (b : Bounds) (e : PlainEvent) (p : ParserState) → Above b p.count (id_of e.kind)
    → is_anchor e.kind ≡ false → Num b p → Num b (give e p)
give_above b e p a other x =
    let y = num_flush b p x in
    more_given b e (flush p) (subst (λ n. Above b n (id_of e.kind)) (sym (flush_count p)) a)
    (one_behind b e (flush p) other y) y

-- an event that gives no id, and is no anchor's
pub num_give : (b : Bounds) (e : PlainEvent) (p : ParserState) → number_told e.kind ≡ 0 → Num b p → Num b (give e p)
num_give b e p none x =
    let n = none_told e.kind none in give_above b e p (inl n.0) n.1 x

pub num_null : (b : Bounds) (m : Mark) (p : ParserState) → Num b p → Num b (give (null_at m) p)
num_null b m p x = num_give b (null_at m) p refl x

empty_num : (b : Bounds) (w : Option Waiting) (p : ParserState) → Num b p → Num b (empty_by w p)
empty_num b None p x = x
empty_num b (Some w) p x =
    num_flush b (put (null_at w.at) p)
    (more_given b (null_at w.at) p (inl refl) (one_behind b (null_at w.at) p refl x) x)

pub num_empty : (b : Bounds) (p : ParserState) → Num b p → Num b (give_empty p)
num_empty b p x = empty_num b p.waiting p x

-- kinds of nodes' first events, which give the node's id, or none
abbrev KindIds : (ℕ → Option PlainTag → EventKind) → Type 0
KindIds kind =
    (n : ℕ) (tag : Option PlainTag) → ((id_of (kind n tag) ≡ n) ⊎ (id_of (kind n tag) ≡ 0))
    × (is_node (kind n tag) ≡ true)

kind_above : (b : Bounds) (n id k : ℕ) → (k ≡ id) ⊎ (k ≡ 0) → Above b n id → Above b n k
kind_above b n id k (inl e) a = subst (Above b n) (sym e) a
kind_above b n id k (inr e) a = inl e

tell_by : (b : Bounds) (c : Bool) (e : PlainEvent) (p : ParserState) → Above b p.count (id_of e.kind)
    → Follow false (p.given ++ e ∷ []) → Num b p → Num b (if c then record p { given = p.given ++ e ∷ [] } else p)
tell_by b true e p a f x = more_given b e p a f x
tell_by b false e p a f x = x

-- behind a node's first event
num_tell : (b : Bounds) (o : OptionsData) (a : Option (ℕ × Written × Source)) (e : PlainEvent) (p : ParserState)
    → Above b (give e p).count (anchor_number a) → is_node e.kind ≡ true → Num b p → Num b (give e p)
    → Num b (tell_anchor o a (give e p))
num_tell b o None e p h node x y = y
num_tell b o (Some a) e p h node x y =
    let f = num_flush b p x in
    let told = event_at (events.Anchor a.0 a.1) a.2 in
    tell_by b o.emit_anchor_events told (give e p) h (follow_node false (flush p).given e told node f.follow) y

pub num_node_event : (b : Bounds) (o : OptionsData) (kind : ℕ → Option PlainTag → EventKind) (source : Source)
    (indent : Option ℕ) (p : ParserState) → KindIds kind → Num b p → Num b (node_event o kind source indent p)
unfolding node_event
num_node_event b o kind source indent p ids x =
    let q = properties_on p.frames source.end in
    let a = properties_above b p.count p.frames source.end x.frames in
    let p' : ParserState = record p { frames = below_properties p.frames } in
    let y : Num b p' = record {
      least = x.least;
      low = x.low;
      given = x.given;
      frames = frames_without b p.count p.frames x.frames;
      held = x.held;
      follow = x.follow;
    } in
    let e : PlainEvent = record {
      kind = kind (anchor_number q.anchor) (tag_value q.tag);
      span = span_with_tag q.tag source (key_indent p'.frames indent);
    } in
    let k = ids (anchor_number q.anchor) (tag_value q.tag) in
    num_tell b o q.anchor e p' (subst (λ n. Above b n (anchor_number q.anchor)) (sym (flush_count p')) a) k.1 y
    (give_above b e p' (kind_above b p.count (anchor_number q.anchor) (id_of e.kind) k.0 a)
    (node_no_anchor e.kind k.1) y)

-- ---- nodes end and begin

pub with_frames : (b : Bounds) (fs : List Frame) (p : ParserState) → FrameIds b p.count fs → Num b p
    → Counts b p.count p.given fs p.waiting
with_frames b fs p f x =
    record { least = x.least; low = x.low; given = x.given; frames = f; held = x.held; follow = x.follow }

finish_by : (b : Bounds) (fs : List Frame) (p : ParserState) → FrameIds b p.count fs → Num b p
    → Num b (finish_in fs p)
finish_by b [] p f x = x
finish_by b (Root explicit ∷ fs) p f x = with_frames b fs p f x
finish_by b (WithProperties q ∷ fs) p f x = x
finish_by b (BlockSequence column indentless ∷ fs) p f x = x
finish_by b (BlockMapping column stage ∷ fs) p f x = with_frames b _ p f x
finish_by b (FlowSequence behind_entry ∷ fs) p f x = with_frames b _ p f x
finish_by b (FlowMapping single stage ∷ fs) p f x = with_frames b _ p f x
finish_by b (FlowPair stage ∷ fs) p f x = with_frames b _ p f x

pub num_finish : (b : Bounds) (p : ParserState) → Num b p → Num b (finish p)
num_finish b p x = finish_by b p.frames p x.frames x

two_nulls : (b : Bounds) (m : Mark) (p : ParserState) → Num b p → Num b (give (null_at m) (give (null_at m) p))
two_nulls b m p x = num_null b m (give (null_at m) p) (num_null b m p x)

owed_by : (b : Bounds) (fs : List Frame) (m : Mark) (p : ParserState) → Num b p → Num b (owed_in fs m p)
owed_by b (BlockSequence column indentless ∷ fs) m p x = num_empty b p x
owed_by b (BlockMapping column AtValue ∷ fs) m p x = num_empty b p x
owed_by b (FlowMapping single AtValue ∷ fs) m p x = num_empty b p x
owed_by b (BlockMapping column AtQuestion ∷ fs) m p x = num_null b m (give _ p) (num_give b _ p refl x)
owed_by b (FlowMapping single AtQuestion ∷ fs) m p x = two_nulls b m p x
owed_by b (FlowPair AtQuestion ∷ fs) m p x = two_nulls b m p x
owed_by b (BlockMapping column BehindQuestion ∷ fs) m p x = num_null b m p x
owed_by b (FlowMapping single BehindQuestion ∷ fs) m p x = num_null b m p x
owed_by b (FlowMapping single BehindAlone ∷ fs) m p x = num_null b m p x
owed_by b (FlowPair BehindQuestion ∷ fs) m p x = num_null b m p x
owed_by b (FlowPair AtValue ∷ fs) m p x = num_null b m p x
owed_by b fs m p x = x

pub num_owed : (b : Bounds) (m : Mark) (p : ParserState) → Num b p → Num b (owed m p)
num_owed b m p x = owed_by b p.frames m p x

end_id : (fs : List Frame) → number_told (end_kind fs) ≡ 0
end_id (BlockSequence column indentless ∷ fs) = refl
end_id (FlowSequence behind_entry ∷ fs) = refl
end_id fs = refl

num_end_by : (b : Bounds) (source : Source) (p : ParserState) → Num b p → Num b (end_by source p)
num_end_by b source p x =
    let q : ParserState = record p { frames = below p.frames } in
    let y : Num b q = with_frames b (below p.frames) p (frames_below b p.count p.frames x.frames) x in
    num_finish b (give (event_at (end_kind p.frames) source) q) (num_give b _ q (end_id p.frames) y)

pub num_end_node : (b : Bounds) (m : Mark) (source : Source) (p : ParserState) → Num b p
    → Num b (end_node m source p)
unfolding end_node
num_end_node b m source p x = num_end_by b source (owed m p) (num_owed b m p x)

pub num_end_properties : (b : Bounds) (o : OptionsData) (q : NodeProperties) (p : ParserState) → Num b p
    → Num b (end_properties o q p)
unfolding end_properties
num_end_properties b o q p x =
    num_finish b _ (num_node_event b o (null_node q) (empty_span q.end) None p (λ n tag. (inl refl, refl)) x)

-- a frame without an id
abbrev Bare : Frame → Type 0
Bare f = (b : Bounds) (n : ℕ) (fs : List Frame) → FrameIds b n fs → FrameIds b n (f ∷ fs)

num_begin : (b : Bounds) (o : OptionsData) (kind : ℕ → Option PlainTag → EventKind) (source : Source) (f : Frame)
    (p : ParserState) → KindIds kind → Bare f → Num b p → Num b (begin o kind source f p)
num_begin b o kind source f p ids bare-f x =
    let q = node_event o kind source None p in
    let y = num_node_event b o kind source None p ids x in
    with_frames b (f ∷ q.frames) q (bare-f b q.count q.frames y.frames) y

pub num_if : (b : Bounds) (c : Bool) (x y : Stepped) → NumR b x → NumR b y → NumR b (if c then x else y)
num_if b true x y p q = p
num_if b false x y p q = q

pub num_then : (b : Bounds) (r : Stepped) (f : ParserState → Stepped) → NumR b r
    → ((p : ParserState) → Num b p → NumR b (f p)) → NumR b (r >>= f)
num_then b (Ok p) f x more = more p x
num_then b (Err e) f x more = tt

num_behind : {A : Type 0} → (b : Bounds) (r : Result A Fault) (f : A → Stepped) → ((a : A) → NumR b (f a))
    → NumR b (r >>= f)
num_behind b (Ok a) f more = more a
num_behind b (Err e) f more = tt

num_begin_block : (b : Bounds) (o : OptionsData) (kind : ℕ → Option PlainTag → EventKind) (m : Mark) (f : Frame)
    (p : ParserState) → KindIds kind → Bare f → Num b p → NumR b (begin_block o kind m f p)
unfolding begin_block
num_begin_block b o kind m f p ids bare-f x =
    let e = num_begin b o kind (empty_span m) f p ids bare-f x in search (num_if, e)

pub num_waits : (b : Bounds) (m : Mark) (room : ℕ) (p : ParserState) → Num b p → Num b (waits m room p)
num_waits b m room p x =
    let y = num_flush b p x in
    record { least = y.least; low = y.low; given = y.given; frames = y.frames; held = (tt, tt); follow = y.follow }

pub num_top : (b : Bounds) (f : Frame) (p : ParserState) → Bare f → Num b p → Num b (with_top f p)
num_top b f p bare-f x = with_frames b (f ∷ below p.frames) p
    (bare-f b p.count (below p.frames) (frames_below b p.count p.frames x.frames)) x

-- ---- a node's lexeme

num_alias : (b : Bounds) (o : OptionsData) (t : Token) (name : Written) (n : Option ℕ) (p : ParserState) → Num b p
    → NumR b (alias_by o t name n p)
num_alias b o t name (Some n) p x =
    num_finish b _ (num_node_event b o (λ number tag. events.Alias n) t.lexeme.shown None p
    (λ k tag. (inr refl, refl)) x)
num_alias b o t name None p x = num_if b o.emit_unresolved_aliases _ _
    (num_finish b _ (num_node_event b o (λ number tag. events.UnresolvedAlias name) t.lexeme.shown None p
    (λ k tag. (inr refl, refl)) x)) tt

num_anchored : (b : Bounds) (t : Token) (name : Written) (p : ParserState) → Num b p → Num b (anchored t name p)
num_anchored b t name p x =
    let l = x.low in
    let m = x.least in
    record {
      least = omega (arith, m);
      low = omega (arith, l);
      given = ids_more b p.count p.given x.given;
      frames = (
        inr (omega (arith, l), omega arith),
        frames_more b p.count (below_properties p.frames) (frames_without b p.count p.frames x.frames),
      );
      held = held_more b p.count p.waiting x.held;
      follow = x.follow;
    }

num_tagged : (b : Bounds) (t : Token) (handle suffix prefix : List ℕ) (p : ParserState) → Num b p
    → Num b (tagged t handle suffix prefix p)
num_tagged b t handle suffix prefix p x = record {
  least = x.least;
  low = x.low;
  given = x.given;
  frames = (
    properties_above b p.count p.frames t.lexeme.shown.end x.frames,
    frames_without b p.count p.frames x.frames,
  );
  held = x.held;
  follow = x.follow;
}

num_give_tail : (b : Bounds) (c : Option CommentRead) (p : ParserState) → Num b p → Num b (give_tail c p)
num_give_tail b None p x = x
num_give_tail b (Some c) p x =
    let y = num_flush b p x in
    let e = event_at (events.Comment c.text Right) c.source in
    more_given b e (flush p) (inl refl) (one_behind b e (flush p) refl y) y

pub num_dash : (b : Bounds) (o : OptionsData) (t : Token) (role : DashRole) (indentless : Bool) (p : ParserState)
    → Num b p → NumR b (take_dash o t role indentless p)
unfolding take_dash
num_dash b o t NextEntry indentless p x = num_behind b (dash_room o t.lexeme.tail) _ (λ room.
    num_waits b t.lexeme.end room _ (num_top b (BlockSequence (token_number t) indentless) (give_tail t.lexeme.tail p)
    (λ b n fs f. f) (num_give_tail b t.lexeme.tail p x)))
num_dash b o t NewSequence indentless p x =
    num_then b (begin_block o block_sequence t.lexeme.start (BlockSequence (token_number t) false) p) _
    (num_begin_block b o block_sequence t.lexeme.start (BlockSequence (token_number t) false) p
    (λ n tag. (inl refl, refl)) (λ b n fs f. f) x)
    (λ q y. num_behind b (dash_room o t.lexeme.tail) _ (λ room.
    num_waits b t.lexeme.end room _ (num_give_tail b t.lexeme.tail q y)))
num_dash b o t IndentlessSequence indentless p x =
    let q = begin o block_sequence (empty_span t.lexeme.end) (BlockSequence (token_number t) true)
    (give_tail t.lexeme.tail p) in
    let e = num_behind b (dash_room o t.lexeme.tail) (λ room. Ok (waits t.lexeme.end room q)) (λ room.
    num_waits b t.lexeme.end room q (num_begin b o block_sequence (empty_span t.lexeme.end)
    (BlockSequence (token_number t) true) (give_tail t.lexeme.tail p) (λ n tag. (inl refl, refl)) (λ b n fs f. f)
    (num_give_tail b t.lexeme.tail p x))) in
    search (num_if, e)

num_open_flow : (b : Bounds) (o : OptionsData) (bracket : Bracket) (t : Token) (p : ParserState) → Num b p
    → Num b (open_flow o bracket t p)
num_open_flow b o Square t p x =
    num_begin b o (λ number tag. events.SequenceStart Flow number tag) t.lexeme.shown (FlowSequence false) p
    (λ n tag. (inl refl, refl)) (λ b n fs f. f) x
num_open_flow b o Curly t p x =
    num_begin b o (λ number tag. events.MappingStart Flow number tag) t.lexeme.shown (FlowMapping false BeforePair) p
    (λ n tag. (inl refl, refl)) (λ b n fs f. f) x

num_bare_by : (b : Bounds) (o : OptionsData) (kind : LexemeKind) (t : Token) (p : ParserState) → Num b p
    → NumR b (bare_by o kind t p)
num_bare_by b o (lexemes.Alias name) t p x = num_alias b o t name (lookup_text name.characters p.names) p x
num_bare_by b o (lexemes.Scalar style text) t p x =
    num_finish b _ (num_node_event b o (λ number tag. events.Scalar text style number tag) t.lexeme.shown
    t.lexeme.indent p (λ n tag. (inl refl, refl)) x)
num_bare_by b o (lexemes.Open bracket) t p x = num_open_flow b o bracket t p x
num_bare_by b o (lexemes.Anchor name) t p x = num_anchored b t name (flush p) (num_flush b p x)
num_bare_by b o (lexemes.Tag handle suffix) t p x =
    num_behind b (tag_prefix t handle (known_prefix o handle p)) _
    (λ prefix. num_tagged b t handle suffix prefix (flush p) (num_flush b p x))
num_bare_by b o lexemes.Dash t p x =
    num_dash b o t (first_dash (may_be_indentless (token_number t) (below_properties p.frames))) false p x
num_bare_by b o lexemes.Question t p x =
    num_begin_block b o block_mapping t.lexeme.start (BlockMapping (token_number t) AtQuestion) p
    (λ n tag. (inl refl, refl)) (λ b n fs f. f) x
num_bare_by b o kind t p x =
    num_then b (begin_block o block_mapping t.lexeme.start (BlockMapping (token_number t) AtValue) p) _
    (num_begin_block b o block_mapping t.lexeme.start (BlockMapping (token_number t) AtValue) p
    (λ n tag. (inl refl, refl)) (λ b n fs f. f) x)
    (λ q y. num_waits b t.lexeme.start o.max_buffered_comment_events _ (num_null b t.lexeme.start q y))

pub num_bare : (b : Bounds) (o : OptionsData) (t : Token) (p : ParserState) → Num b p → NumR b (bare o t p)
num_bare b o t p x = num_bare_by b o t.lexeme.kind t p x

num_node_by : (b : Bounds) (o : OptionsData) (sort : TokenSort) (t : Token) (p : ParserState) → Num b p
    → NumR b (node_by o sort t p)
num_node_by b o BeginsKey t p x =
    num_then b (begin_block o block_mapping t.lexeme.start (BlockMapping (token_number t) AtKey) p) (bare o t)
    (num_begin_block b o block_mapping t.lexeme.start (BlockMapping (token_number t) AtKey) p
    (λ n tag. (inl refl, refl)) (λ b n fs f. f) x)
    (λ q y. num_bare b o t q y)
num_node_by b o sort t p x = num_bare b o t p x

pub num_node : (b : Bounds) (o : OptionsData) (t : Token) (p : ParserState) → Num b p → NumR b (node o t p)
num_node b o t p x = num_node_by b o t.sort t p x
