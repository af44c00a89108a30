-- Each step of the parser gives events whose spans lie in the text, where those of its lexemes do.
use Rattle.std.proofs.Common.{ℕ, ◌+◌, ◌-◌, ◌≤◌, Bool, true, false, List, [], ◌∷◌, ◌++◌, length, Option, Some, None}
use Rattle.std.proofs.Common.{Result, Ok, Err, arith}
use Rattle.std.specs.Prelude.{◌^◌, nat_lt, if◌then◌else◌}
use Rattle.granit_base.specs.Place.{Mark}
use Rattle.granit_base.specs.Written.{Written}
use Rattle.granit_base.specs.declared.style.StructureStyle.TheVariants.{Flow}
use Rattle.granit_error.specs.OptionsData.{OptionsData}
use Rattle.granit_lexemes.specs.Comment.{CommentRead}
use Rattle.granit_lexemes.specs.declared.layout.Bracket.{Bracket}
use Rattle.granit_lexemes.specs.declared.layout.Bracket.TheVariants.{Square, Curly}
use Rattle.granit_lexemes.specs.Lexeme.{DirectiveKind, Version, TagPrefix, Reserved, LexemeKind, Lexeme}
use Rattle.granit_lexemes.specs.Lexeme as lexemes
use Rattle.granit_lexemes.specs.Outcome.{Fault, ◌>>=◌}
use Rattle.granit_lexemes.specs.PlainEvent.{PlainEvent, PlainTag, PlainVersion, EventKind, event_at, told_length}
use Rattle.granit_lexemes.specs.PlainEvent as events
use Rattle.granit_lexemes.specs.Source.{Source}
use Rattle.granit_machine.specs.BlockSteps.{in_sequence, mapping_at, mapping_colon, bare_colon_in_mapping, next_pair}
use Rattle.granit_machine.specs.BlockSteps.{behind_indicator, at_block_key, behind_block_key, in_mapping}
use Rattle.granit_machine.specs.FlowSteps.{close_flow, flow_at, flow_colon, begin_pair, at_entry, behind_entry_of}
use Rattle.granit_machine.specs.FlowSteps.{in_flow_sequence, in_flow_mapping_by, in_flow_pair}
use Rattle.granit_machine.specs.Frames.{PairStage, BeforePair, AtKey, BehindKey, AtQuestion, BehindQuestion, AtValue}
use Rattle.granit_machine.specs.Frames.{BehindAlone, NodeProperties, Frame, Root, WithProperties, BlockSequence}
use Rattle.granit_machine.specs.Frames.{BlockMapping, FlowSequence, FlowMapping, FlowPair, Waiting, ParserState}
use Rattle.granit_machine.specs.Giving.{null_at, with_indent, flush_held, flush, put, give, empty_by, give_empty}
use Rattle.granit_machine.specs.Giving.{properties_on, below_properties, key_indent, span_with_tag, tell_anchor}
use Rattle.granit_machine.specs.Giving.{node_event}
use Rattle.granit_machine.specs.NodeEnds.{finish_in, finish, owed_in, owed, end_kind, below, end_by, end_node}
use Rattle.granit_machine.specs.NodeEnds.{null_node, empty_span, end_properties, begin, begin_block, block_mapping}
use Rattle.granit_machine.specs.NodeEnds.{waits, with_top, may_be_indentless}
use Rattle.granit_machine.specs.NodeSteps.{Stepped, alias_by, tag_prefix, with_properties, tagged, anchored}
use Rattle.granit_machine.specs.NodeSteps.{known_prefix}
use Rattle.granit_machine.specs.NodeSteps.{block_sequence, DashRole, NextEntry, NewSequence, IndentlessSequence}
use Rattle.granit_machine.specs.NodeSteps.{dash_room, give_tail, token_number, take_dash, first_dash, open_flow}
use Rattle.granit_machine.specs.NodeSteps.{bare_by, bare, node_by, node}
use Rattle.granit_machine.specs.Entries.{lookup_text}
use Rattle.granit_machine.specs.TokenSort.{TokenSort, BeginsKey, BeginsNode, QuestionToken, BareColon, KeyedColon}
use Rattle.granit_machine.specs.TokenSort.{CommaToken, SequenceCloser, MappingCloser, Token}
use Rattle.granit_invariants.specs.EventPlaces.{InText, Stretches, SpanInText, SpansInText}

module _ (x ms : List ℕ) where
  abbrev pub In : Mark → Type 0
  In m = InText x ms m

  abbrev pub SourceIn : Source → Type 0
  SourceIn s = Stretches x ms s.start s.end

  -- ---- what the parser keeps

  abbrev pub AnchorIn : Option (ℕ × Written × Source) → Type 0
  AnchorIn None = Unit {0}
  AnchorIn (Some a) = SourceIn a.2

  abbrev pub TagIn : Option (PlainTag × Source) → Type 0
  TagIn None = Unit {0}
  TagIn (Some t) = SourceIn t.1

  abbrev pub PropertiesIn : NodeProperties → Type 0
  PropertiesIn q = AnchorIn q.anchor × TagIn q.tag × In q.end

  abbrev pub FramesIn : List Frame → Type 0
  FramesIn [] = Unit {0}
  FramesIn (WithProperties q ∷ fs) = PropertiesIn q × FramesIn fs
  FramesIn (f ∷ fs) = FramesIn fs

  abbrev pub WaitingIn : Option Waiting → Type 0
  WaitingIn None = Unit {0}
  WaitingIn (Some w) = In w.at × SpansInText x ms w.held

  pub record Sound (p : ParserState) : Type 0 where
    pub frames : FramesIn p.frames
    pub last_end : In p.last_end
    pub waiting : WaitingIn p.waiting
    pub given : SpansInText x ms p.given

  abbrev pub TailIn : Option CommentRead → Type 0
  TailIn None = Unit {0}
  TailIn (Some c) = SourceIn c.source

  -- the places of a lexeme
  pub record LexemeIn (y : Lexeme) : Type 0 where
    pub start : In y.start
    pub shown : SourceIn y.shown
    pub spans : Stretches x ms y.start y.shown.end
    pub end : In y.end
    pub tail : TailIn y.tail

  abbrev pub SoundBy : Stepped → Type 0
  SoundBy (Ok p) = Sound p
  SoundBy (Err f) = Unit {0}

  pub record SoundStep (r : Stepped) : Type 0 where
    pub says : SoundBy r

  pub ok : (p : ParserState) → Sound p → SoundStep (Ok p)
  ok p q = record { says = q }

  pub no : (f : Fault) → SoundStep (Err f)
  no f = record { says = tt }

  pub step_if : (b : Bool) (r s : Stepped) → SoundStep r → SoundStep s → SoundStep (if b then r else s)
  step_if true r s p q = p
  step_if false r s p q = q

  pub step_then : (r : Stepped) (f : ParserState → Stepped) → SoundStep r
      → ((p : ParserState) → Sound p → SoundStep (f p)) → SoundStep (r >>= f)
  step_then (Ok p) f s g = g p s.says
  step_then (Err e) f s g = no e

  pub step_behind : {A : Type 0} (r : Result A Fault) (f : A → Stepped) → ((a : A) → SoundStep (f a))
      → SoundStep (r >>= f)
  step_behind (Ok a) f g = g a
  step_behind (Err e) f g = no e

  -- ---- events

  pub empty_in : (m : Mark) → In m → Stretches x ms m m
  empty_in m p = (p, p, omega arith)

  pub spans_joined : (es more : List PlainEvent) → SpansInText x ms es → SpansInText x ms more
      → SpansInText x ms (es ++ more)
  spans_joined [] more s t = t
  spans_joined (e ∷ es) more s t = (s.0, spans_joined es more s.1 t)

  put_in : (e : PlainEvent) (p : ParserState) → SpanInText x ms e.span → Sound p → Sound (put e p)
  put_in e p s q = record {
    frames = q.frames;
    last_end = s.0.1;
    waiting = q.waiting;
    given = spans_joined p.given
        (e ∷ []) q.given (s, tt);
  }

  flush_held_in : (w : Option Waiting) (p : ParserState) → WaitingIn w → Sound p → Sound (flush_held w p)
  flush_held_in None p w q = q
  flush_held_in (Some v) p w q = record {
    frames = q.frames;
    last_end = q.last_end;
    waiting = tt;
    given = spans_joined
        p.given v.held q.given w.1;
  }

  pub flush_in : (p : ParserState) → Sound p → Sound (flush p)
  flush_in p q = flush_held_in p.waiting p q.waiting q

  pub give_in : (e : PlainEvent) (p : ParserState) → SpanInText x ms e.span → Sound p → Sound (give e p)
  give_in e p s q = put_in e (flush p) s (flush_in p q)

  pub null_in : (m : Mark) (p : ParserState) → In m → Sound p → Sound (give (null_at m) p)
  null_in m p i q = give_in (null_at m) p (empty_in m i, tt) q

  empty_by_in : (w : Option Waiting) (p : ParserState) → WaitingIn w → Sound p → Sound (empty_by w p)
  empty_by_in None p w q = q
  empty_by_in (Some v) p w q = let e = put_in (null_at v.at) p (empty_in v.at w.0, tt) q in flush_in
      (put (null_at v.at) p) e

  give_empty_in : (p : ParserState) → Sound p → Sound (give_empty p)
  give_empty_in p q = empty_by_in p.waiting p q.waiting q

  pub framed : (fs : List Frame) (p : ParserState) → FramesIn fs → Sound p → Sound (record p { frames = fs })
  framed fs p f q = record { frames = f; last_end = q.last_end; waiting = q.waiting; given = q.given }

  -- ---- a node's first event

  properties_in : (fs : List Frame) (m : Mark) → FramesIn fs → In m → PropertiesIn (properties_on fs m)
  properties_in (WithProperties q ∷ fs) m f i = f.0
  properties_in fs m f i = (tt, tt, i)

  below_in : (fs : List Frame) → FramesIn fs → FramesIn (below_properties fs)
  below_in (WithProperties q ∷ fs) f = f.1
  below_in fs f = f

  bounded : (m : Mark) → In m → m.place.index ≤ length x
  bounded m (i, less, c) = let e = c.index in omega (arith, less, e)

  told_in : (start end : Mark) → Stretches x ms start end
      → start.place.index + told_length (end.place.index - start.place.index) ≤ length x
  told_in start end s = let a = s.2 in let b = bounded end s.1 in on
      (nat_lt (end.place.index - start.place.index) (2 ^ 32)) a b
    where
      on : (v : Bool) → start.place.index ≤ end.place.index → end.place.index ≤ length x
          → start.place.index + (if v then end.place.index - start.place.index else 0) ≤ length x
      on true a b = omega (arith, a, b)
      on false a b = omega (arith, a, b)

  tagged_span_in : (tag : Option (PlainTag × Source)) (s : Source) (indent : Option ℕ) → TagIn tag → SourceIn s
      → SpanInText x ms (span_with_tag tag s indent)
  tagged_span_in None s indent t q = (q, tt)
  tagged_span_in (Some y) s indent t q = (q, (t.0, told_in y.1.start y.1.end t))

  tell_anchor_in : (o : OptionsData) (a : Option (ℕ × Written × Source)) (p : ParserState) → AnchorIn a → Sound p
      → Sound (tell_anchor o a p)
  tell_anchor_in o None p s q = q
  tell_anchor_in o (Some a) p s q = on o.emit_anchor_events
    where
      on : (b : Bool) → Sound (if b then record p { given = p.given ++ event_at (events.Anchor a.0 a.1) a.2 ∷ [] } else
          p)
      on true = record {
        frames = q.frames;
        last_end = q.last_end;
        waiting = q.waiting;
        given = spans_joined p.given _
            q.given ((s, tt), tt);
      }
      on false = q

  node_event_in : (o : OptionsData) (kind : ℕ → Option PlainTag → EventKind) (s : Source) (indent : Option ℕ)
      (p : ParserState) → SourceIn s → Sound p → Sound (node_event o kind s indent p)
  unfolding node_event
  node_event_in o kind s indent p i q =
      let props = properties_on p.frames s.end in
      let h = properties_in p.frames s.end q.frames i.1 in
      let below = record p { frames = below_properties p.frames } in
      tell_anchor_in o props.anchor _ h.0 (give_in _ below
      (tagged_span_in props.tag s (key_indent (below_properties p.frames) indent) h.1 i)
      (framed (below_properties p.frames) p (below_in p.frames q.frames) q))

  -- ---- ends and beginnings

  finish_by : (fs : List Frame) (p : ParserState) → FramesIn fs → Sound p → Sound (finish_in fs p)
  finish_by (Root explicit ∷ fs) p f q = record {
    frames = f;
    last_end = q.last_end;
    waiting = q.waiting;
    given =
        q.given;
  }
  finish_by (BlockMapping column stage ∷ fs) p f q = framed _ p f q
  finish_by (FlowMapping single stage ∷ fs) p f q = framed _ p f q
  finish_by (FlowPair stage ∷ fs) p f q = framed _ p f q
  finish_by (FlowSequence behind_entry ∷ fs) p f q = framed _ p f q
  finish_by fs p f q = q

  pub finish_sound : (p : ParserState) → Sound p → Sound (finish p)
  finish_sound p q = finish_by p.frames p q.frames q

  owed_by : (fs : List Frame) (m : Mark) (p : ParserState) → In m → Sound p → Sound (owed_in fs m p)
  owed_by (BlockSequence column indentless ∷ fs) m p i q = give_empty_in p q
  owed_by (BlockMapping column AtValue ∷ fs) m p i q = give_empty_in p q
  owed_by (FlowMapping single AtValue ∷ fs) m p i q = give_empty_in p q
  owed_by (BlockMapping column AtQuestion ∷ fs) m p i q = null_in m _ i
      (give_in (with_indent (Some column) (null_at m)) p (empty_in m i, tt) q)
  owed_by (FlowMapping single AtQuestion ∷ fs) m p i q = null_in m _ i (null_in m p i q)
  owed_by (FlowPair AtQuestion ∷ fs) m p i q = null_in m _ i (null_in m p i q)
  owed_by (BlockMapping column BehindQuestion ∷ fs) m p i q = null_in m p i q
  owed_by (FlowMapping single BehindQuestion ∷ fs) m p i q = null_in m p i q
  owed_by (FlowMapping single BehindAlone ∷ fs) m p i q = null_in m p i q
  owed_by (FlowPair BehindQuestion ∷ fs) m p i q = null_in m p i q
  owed_by (FlowPair AtValue ∷ fs) m p i q = null_in m p i q
  owed_by fs m p i q = q

  owed_sound : (m : Mark) (p : ParserState) → In m → Sound p → Sound (owed m p)
  owed_sound m p i q = owed_by p.frames m p i q

  lower : (fs : List Frame) → FramesIn fs → FramesIn (below fs)
  lower [] f = tt
  lower (WithProperties q ∷ fs) f = f.1
  lower (Root explicit ∷ fs) f = f
  lower (BlockSequence column indentless ∷ fs) f = f
  lower (BlockMapping column stage ∷ fs) f = f
  lower (FlowSequence behind_entry ∷ fs) f = f
  lower (FlowMapping single stage ∷ fs) f = f
  lower (FlowPair stage ∷ fs) f = f

  end_by_in : (s : Source) (p : ParserState) → SourceIn s → Sound p → Sound (end_by s p)
  end_by_in s p i q =
      let e = event_at (end_kind p.frames) s in
      let low = record p { frames = below p.frames } in
      finish_sound (give e low) (give_in e low (i, tt) (framed (below p.frames) p (lower p.frames q.frames) q))

  pub end_node_in : (m : Mark) (s : Source) (p : ParserState) → In m → SourceIn s → Sound p → Sound (end_node m s p)
  unfolding end_node
  end_node_in m s p i j q = end_by_in s (owed m p) j (owed_sound m p i q)

  pub end_properties_in : (o : OptionsData) (r : NodeProperties) (p : ParserState) → In r.end → Sound p
      → Sound (end_properties o r p)
  unfolding end_properties
  end_properties_in o r p i q = let e = node_event_in o (null_node r) (empty_span r.end) None p (empty_in r.end i)
      q in finish_sound _ e

  -- frames other than properties
  abbrev IsPlainFrame : Frame → Type 0
  IsPlainFrame f = (fs : List Frame) → FramesIn fs → FramesIn (f ∷ fs)

  begin_in : (o : OptionsData) (kind : ℕ → Option PlainTag → EventKind) (s : Source) (f : Frame) (p : ParserState)
      → IsPlainFrame f → SourceIn s → Sound p → Sound (begin o kind s f p)
  begin_in o kind s f p h i q = let e = node_event_in o kind s None p i q in let r = node_event o kind s None
      p in framed (f ∷ r.frames) r (h r.frames e.frames) e

  begin_block_in : (o : OptionsData) (kind : ℕ → Option PlainTag → EventKind) (m : Mark) (f : Frame) (p : ParserState)
      → IsPlainFrame f → In m → Sound p → SoundStep (begin_block o kind m f p)
  unfolding begin_block
  begin_block_in o kind m f p h i q = step_if _ _ _ (no _)
      (ok _ (begin_in o kind (empty_span m) f p h (empty_in m i) q))

  waits_in : (m : Mark) (room : ℕ) (p : ParserState) → In m → Sound p → Sound (waits m room p)
  waits_in m room p i q = let r = flush_in p q in record {
    frames = r.frames;
    last_end = r.last_end;
    waiting = (i, tt);
    given = r.given;
  }

  with_top_in : (f : Frame) (p : ParserState) → IsPlainFrame f → Sound p → Sound (with_top f p)
  with_top_in f p h q = framed (f ∷ below p.frames) p (h (below p.frames) (lower p.frames q.frames)) q

  -- ---- a node's lexeme

  leaf_in : (o : OptionsData) (kind : ℕ → Option PlainTag → EventKind) (s : Source) (indent : Option ℕ)
      (p : ParserState) → SourceIn s → Sound p → Sound (finish (node_event o kind s indent p))
  leaf_in o kind s indent p i q = finish_sound _ (node_event_in o kind s indent p i q)

  give_tail_in : (tail : Option CommentRead) (p : ParserState) → TailIn tail → Sound p → Sound (give_tail tail p)
  give_tail_in None p t q = q
  give_tail_in (Some c) p t q = let r = flush_in p
      q in record {
        frames = r.frames;
        last_end = r.last_end;
        waiting = r.waiting;
        given = spans_joined (flush p).given
            _ r.given ((t, tt), tt);
      }

  module _ (o : OptionsData) (t : Token) (y : LexemeIn t.lexeme) where
    alias_in : (name : Written) (n : Option ℕ) (p : ParserState) → Sound p → SoundStep (alias_by o t name n p)
    alias_in name (Some n) p q = ok _ (leaf_in o (λ number tag. events.Alias n) t.lexeme.shown None p y.shown q)
    alias_in name None p q = step_if _ _ _ (ok _
        (leaf_in o (λ number tag. events.UnresolvedAlias name) t.lexeme.shown None p y.shown q)) (no _)

    with_properties_in : (r : NodeProperties) (p : ParserState) → PropertiesIn r → Sound p → Sound (with_properties r p)
    with_properties_in r p h q = framed (WithProperties r ∷ below_properties p.frames) p (h, below_in p.frames q.frames)
        q

    anchored_in : (name : Written) (p : ParserState) → Sound p → Sound (anchored t name p)
    anchored_in name p q =
        let h = properties_in p.frames t.lexeme.shown.end q.frames y.shown.1 in
        record {
          frames = ((y.shown, h.1, y.shown.1), below_in p.frames q.frames);
          last_end = q.last_end;
          waiting =
              q.waiting;
          given = q.given;
        }

    tagged_in : (handle suffix prefix : List ℕ) (p : ParserState) → Sound p → Sound (tagged t handle suffix prefix p)
    tagged_in handle suffix prefix p q =
        let h = properties_in p.frames t.lexeme.shown.end q.frames y.shown.1 in
        record {
          frames = ((h.0, y.shown, y.shown.1), below_in p.frames q.frames);
          last_end = q.last_end;
          waiting =
              q.waiting;
          given = q.given;
        }

    dash_in : (role : DashRole) (indentless : Bool) (p : ParserState) → Sound p
        → SoundStep (take_dash o t role indentless p)
    unfolding take_dash
    dash_in NextEntry indentless p q =
        step_behind (dash_room o t.lexeme.tail) _
        (λ room. ok _ (waits_in t.lexeme.end room _ y.end
        (with_top_in _ _ (λ fs f. f) (give_tail_in t.lexeme.tail p y.tail q))))
    dash_in NewSequence indentless p q =
        step_then (begin_block o block_sequence t.lexeme.start (BlockSequence (token_number t) false) p) _
        (begin_block_in o block_sequence t.lexeme.start (BlockSequence (token_number t) false) p (λ fs f. f) y.start
        q)
        (λ r s. step_behind (dash_room o t.lexeme.tail) _
        (λ room. ok _ (waits_in t.lexeme.end room _ y.end (give_tail_in t.lexeme.tail r y.tail s))))
    dash_in IndentlessSequence indentless p q =
        step_if _ _ _ (no _) (step_behind (dash_room o t.lexeme.tail) _
        (λ room. ok _ (waits_in t.lexeme.end room _ y.end
        (begin_in o block_sequence (empty_span t.lexeme.end) (BlockSequence (token_number t) true) _ (λ fs f. f)
        (empty_in t.lexeme.end y.end) (give_tail_in t.lexeme.tail p y.tail q)))))

    open_flow_in : (bracket : Bracket) (p : ParserState) → Sound p → Sound (open_flow o bracket t p)
    open_flow_in Square p q = begin_in o _ t.lexeme.shown (FlowSequence false) p (λ fs f. f) y.shown q
    open_flow_in Curly p q = begin_in o _ t.lexeme.shown (FlowMapping false BeforePair) p (λ fs f. f) y.shown q

    colon_value_in : (p : ParserState) → Sound p
        → SoundStep (begin_block o block_mapping t.lexeme.start (BlockMapping (token_number t) AtValue) p >>= λ q. Ok
        (waits t.lexeme.start o.max_buffered_comment_events (give (null_at t.lexeme.start) q)))
    colon_value_in p q =
        step_then (begin_block o block_mapping t.lexeme.start (BlockMapping (token_number t) AtValue) p) _
        (begin_block_in o block_mapping t.lexeme.start (BlockMapping (token_number t) AtValue) p (λ fs f. f) y.start
        q)
        (λ r s. ok _ (waits_in t.lexeme.start o.max_buffered_comment_events _ y.start
        (null_in t.lexeme.start r y.start s)))

    bare_by_in : (kind : LexemeKind) (p : ParserState) → Sound p → SoundStep (bare_by o kind t p)
    bare_by_in (lexemes.Alias name) p q = alias_in name (lookup_text name.characters p.names) p q
    bare_by_in (lexemes.Scalar style text) p q = ok _
        (leaf_in o (λ number tag. events.Scalar text style number tag) t.lexeme.shown t.lexeme.indent p y.shown q)
    bare_by_in (lexemes.Open bracket) p q = ok _ (open_flow_in bracket p q)
    bare_by_in (lexemes.Anchor name) p q = ok _ (anchored_in name (flush p) (flush_in p q))
    bare_by_in (lexemes.Tag handle suffix) p q = step_behind (tag_prefix t handle (known_prefix o handle p)) _
        (λ prefix. ok _ (tagged_in handle suffix prefix (flush p) (flush_in p q)))
    bare_by_in lexemes.Dash p q = dash_in (first_dash (may_be_indentless (token_number t) (below_properties p.frames)))
        false p q
    bare_by_in lexemes.Question p q = begin_block_in o block_mapping t.lexeme.start
        (BlockMapping (token_number t) AtQuestion) p (λ fs f. f) y.start q
    bare_by_in kind p q = colon_value_in p q

    bare_in : (p : ParserState) → Sound p → SoundStep (bare o t p)
    bare_in p q = bare_by_in t.lexeme.kind p q

    node_by_in : (sort : TokenSort) (p : ParserState) → Sound p → SoundStep (node_by o sort t p)
    node_by_in BeginsKey p q = step_then (begin_block o block_mapping t.lexeme.start
        (BlockMapping (token_number t) AtKey) p) (bare o t)
        (begin_block_in o block_mapping t.lexeme.start (BlockMapping (token_number t) AtKey) p (λ fs f. f) y.start q)
        bare_in
    node_by_in sort p q = bare_in p q

    pub node_in : (p : ParserState) → Sound p → SoundStep (node o t p)
    node_in p q = node_by_in t.sort p q

    -- ---- block collections

    pub in_sequence_in : (column : ℕ) (indentless : Bool) (p : ParserState) → Sound p
        → SoundStep (in_sequence o t column indentless p)
    unfolding in_sequence
    in_sequence_in column indentless p q =
        step_if _ _ _ (dash_in NextEntry indentless (give_empty p) (give_empty_in p q))
        (step_if _ _ _ (no _) (step_if _ _ _ (node_in p q) (no _)))

    mapping_at_in : (column : ℕ) (stage : PairStage) (p : ParserState) → Sound p → Sound (mapping_at column stage p)
    mapping_at_in column stage p q = with_top_in (BlockMapping column stage) (flush p) (λ fs f. f) (flush_in p q)

    mapping_colon_in : (column : ℕ) (p : ParserState) → Sound p → Sound (mapping_colon o t column p)
    mapping_colon_in column p q = waits_in t.lexeme.start o.max_buffered_comment_events _ y.start
        (mapping_at_in column AtValue p q)

    null_here : (p : ParserState) → Sound p → Sound (give (null_at t.lexeme.start) p)
    null_here p q = null_in t.lexeme.start p y.start q

    owed_here : (p : ParserState) → Sound p → Sound (owed t.lexeme.start p)
    owed_here p q = owed_sound t.lexeme.start p y.start q

    bare_colon_in : (column : ℕ) (stage : PairStage) (p : ParserState) → Sound p
        → Sound (bare_colon_in_mapping o t column stage p)
    bare_colon_in column AtQuestion p q = mapping_colon_in column _
        (give_in (with_indent (Some column) (null_at t.lexeme.start)) p (empty_in t.lexeme.start y.start, tt) q)
    bare_colon_in column BehindQuestion p q = mapping_colon_in column p q
    bare_colon_in column stage p q = mapping_colon_in column _ (null_here _ (owed_here p q))

    next_pair_in : (column : ℕ) (stage : PairStage) (sort : TokenSort) (p : ParserState) → Sound p
        → SoundStep (next_pair o t column stage sort p)
    next_pair_in column stage BeginsKey p q = bare_in _ (mapping_at_in column AtKey _ (owed_here p q))
    next_pair_in column stage QuestionToken p q = ok _ (mapping_at_in column AtQuestion _ (owed_here p q))
    next_pair_in column stage sort p q = ok _ (bare_colon_in column stage p q)

    behind_indicator_in : (column : ℕ) (stage : PairStage) (p : ParserState) → Sound p
        → SoundStep (behind_indicator o t column stage p)
    unfolding behind_indicator
    behind_indicator_in column stage p q = step_if _ _ _ (next_pair_in column stage t.sort p q)
        (step_if _ _ _ (no _) (step_if _ _ _ (node_in p q) (no _)))

    at_block_key_in : (sort : TokenSort) (p : ParserState) → Sound p → SoundStep (at_block_key o t sort p)
    at_block_key_in BeginsNode p q = bare_in p q
    at_block_key_in sort p q = no _

    behind_block_key_in : (column : ℕ) (sort : TokenSort) (p : ParserState) → Sound p
        → SoundStep (behind_block_key o t column sort p)
    behind_block_key_in column KeyedColon p q = ok _ (mapping_colon_in column p q)
    behind_block_key_in column sort p q = no _

    pub in_mapping_in : (column : ℕ) (stage : PairStage) (p : ParserState) → Sound p
        → SoundStep (in_mapping o t column stage p)
    in_mapping_in column AtKey p q = at_block_key_in t.sort p q
    in_mapping_in column BehindKey p q = behind_block_key_in column t.sort p q
    in_mapping_in column stage p q = behind_indicator_in column stage p q

    -- ---- flow collections

    close_flow_in : (p : ParserState) → Sound p → Sound (close_flow t p)
    close_flow_in p q = end_node_in t.lexeme.start (record { start = t.lexeme.start; end = t.lexeme.shown.end }) p
        y.start y.spans q

    flow_at_in : (single : Bool) (stage : PairStage) (p : ParserState) → Sound p → Sound (flow_at single stage p)
    flow_at_in single stage p q = with_top_in (FlowMapping single stage) (flush p) (λ fs f. f) (flush_in p q)

    flow_colon_in : (single : Bool) (p : ParserState) → Sound p → Sound (flow_colon o t single p)
    flow_colon_in single p q = waits_in t.lexeme.start o.max_buffered_comment_events _ y.start
        (flow_at_in single AtValue p q)

    begin_pair_in : (end : Mark) (f : Frame) (p : ParserState) → IsPlainFrame f → Stretches x ms t.lexeme.start end
        → Sound p → Sound (begin_pair t end f p)
    begin_pair_in end f p h i q =
        let e = event_at (events.MappingStart Flow 0 None) (record { start = t.lexeme.start; end = end }) in
        let r = give_in e p (i, tt) q in
        framed (f ∷ (give e p).frames) (give e p) (h (give e p).frames r.frames) r

    at_entry_in : (sort : TokenSort) (p : ParserState) → Sound p → SoundStep (at_entry o t sort p)
    at_entry_in SequenceCloser p q = ok _ (close_flow_in p q)
    at_entry_in QuestionToken p q = ok _ (begin_pair_in t.lexeme.shown.end (FlowPair AtQuestion) p (λ fs f. f) y.spans
        q)
    at_entry_in BareColon p q = ok _ (flow_colon_in true _
        (null_here _ (begin_pair_in t.lexeme.start (FlowMapping true BeforePair) p (λ fs f. f)
        (empty_in t.lexeme.start y.start) q)))
    at_entry_in BeginsKey p q = bare_in _ (begin_pair_in t.lexeme.start (FlowMapping true AtKey) p (λ fs f. f)
        (empty_in t.lexeme.start y.start) q)
    at_entry_in BeginsNode p q = bare_in p q
    at_entry_in sort p q = no _

    behind_entry_in : (sort : TokenSort) (p : ParserState) → Sound p → SoundStep (behind_entry_of t sort p)
    behind_entry_in SequenceCloser p q = ok _ (close_flow_in p q)
    behind_entry_in CommaToken p q = ok _ (with_top_in (FlowSequence false) p (λ fs f. f) q)
    behind_entry_in sort p q = no _

    pub flow_sequence_in : (behind : Bool) (p : ParserState) → Sound p → SoundStep (in_flow_sequence o t behind p)
    flow_sequence_in false p q = at_entry_in t.sort p q
    flow_sequence_in true p q = behind_entry_in t.sort p q

    pub flow_mapping_in : (single : Bool) (stage : PairStage) (sort : TokenSort) (p : ParserState) → Sound p
        → SoundStep (in_flow_mapping_by o t single stage sort p)
    flow_mapping_in single AtKey BeginsNode p q = bare_in p q
    flow_mapping_in single AtKey sort p q = no _
    flow_mapping_in single BehindKey KeyedColon p q = ok _ (flow_colon_in single p q)
    flow_mapping_in single BehindKey sort p q = no _
    flow_mapping_in single stage MappingCloser p q = ok _ (close_flow_in p q)
    flow_mapping_in single BeforePair CommaToken p q = no _
    flow_mapping_in single stage CommaToken p q = ok _ (flow_at_in single BeforePair _ (owed_here p q))
    flow_mapping_in single BeforePair QuestionToken p q = ok _ (flow_at_in single AtQuestion p q)
    flow_mapping_in single BeforePair BeginsKey p q = bare_in _ (flow_at_in single AtKey p q)
    flow_mapping_in single BeforePair BareColon p q = ok _ (flow_colon_in single _ (null_here p q))
    flow_mapping_in single AtQuestion BareColon p q = ok _ (flow_colon_in single _ (null_here p q))
    flow_mapping_in single BehindQuestion BareColon p q = ok _ (flow_colon_in single p q)
    flow_mapping_in single BeforePair BeginsNode p q = bare_in p q
    flow_mapping_in single AtQuestion BeginsNode p q = bare_in p q
    flow_mapping_in single AtValue BeginsNode p q = bare_in p q
    flow_mapping_in single BeforePair sort p q = no _
    flow_mapping_in single AtQuestion sort p q = no _
    flow_mapping_in single AtValue sort p q = no _
    flow_mapping_in single stage sort p q = no _

    pub flow_pair_in : (stage : PairStage) (sort : TokenSort) (p : ParserState) → Sound p
        → SoundStep (in_flow_pair o t stage sort p)
    flow_pair_in BehindQuestion sort p q = ok _ (with_top_in (FlowPair AtValue) p (λ fs f. f) q)
    flow_pair_in stage BeginsNode p q = bare_in p q
    flow_pair_in stage sort p q = no _
