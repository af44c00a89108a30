-- Each step of the parser in a node does the same where events wait: what it gives comes behind them.
use Rattle.std.proofs.Common.{◌≡◌, ℕ, Bool, true, false, List, [], ◌∷◌, ◌++◌, Option, Some, None, Result, Ok, Err, refl}
use Rattle.std.proofs.Common.{sym, ap, ◌∙◌, subst, append_assoc}
use Rattle.std.specs.Prelude.{nat_le, if◌then◌else◌}
use Rattle.granit_base.specs.Place.{Mark}
use Rattle.granit_base.specs.Written.{Written}
use Rattle.granit_base.specs.declared.style.Placement.TheVariants.{Right}
use Rattle.granit_base.specs.declared.style.StructureStyle.TheVariants.{Flow}
use Rattle.granit_error.specs.OptionsData.{OptionsData}
use Rattle.granit_lexemes.specs.Comment.{CommentRead}
use Rattle.granit_lexemes.specs.declared.layout.Bracket.{Bracket}
use Rattle.granit_lexemes.specs.declared.layout.Bracket.TheVariants.{Square, Curly}
use Rattle.granit_lexemes.specs.Lexeme.{LexemeKind}
use Rattle.granit_lexemes.specs.Lexeme as lexemes
use Rattle.granit_lexemes.specs.Outcome.{Fault, ◌>>=◌}
use Rattle.granit_lexemes.specs.PlainEvent.{PlainEvent, PlainTag, EventKind, event_at}
use Rattle.granit_lexemes.specs.PlainEvent as events
use Rattle.granit_lexemes.specs.Source.{Source}
use Rattle.granit_machine.specs.Entries.{lookup_text}
use Rattle.granit_machine.specs.Frames.{BeforePair, AtKey, AtQuestion, BehindQuestion, AtValue, BehindAlone}
use Rattle.granit_machine.specs.Frames.{NodeProperties, Frame, Root, WithProperties, BlockSequence, BlockMapping}
use Rattle.granit_machine.specs.Frames.{FlowSequence, FlowMapping, FlowPair, Waiting, ParserState}
use Rattle.granit_machine.specs.Giving.{null_at, with_indent, flush_held, flush, put, give, empty_by, give_empty}
use Rattle.granit_machine.specs.Giving.{properties_on, below_properties, key_indent, anchor_number, tag_value}
use Rattle.granit_machine.specs.Giving.{span_with_tag, tell_anchor, node_event}
use Rattle.granit_machine.specs.NodeEnds.{finish_in, finish, owed_in, owed, end_kind, below, end_by, end_node}
use Rattle.granit_machine.specs.NodeEnds.{null_node, empty_span, end_properties, block_count, begin}
use Rattle.granit_machine.specs.NodeEnds.{begin_block, block_mapping, waits, with_top, may_be_indentless}
use Rattle.granit_machine.specs.NodeSteps.{Stepped, alias_by, tag_prefix, tagged, anchored, known_prefix}
use Rattle.granit_machine.specs.NodeSteps.{block_sequence, DashRole, NextEntry, NewSequence, IndentlessSequence}
use Rattle.granit_machine.specs.NodeSteps.{dash_room, give_tail, token_number, take_dash, first_dash, open_flow}
use Rattle.granit_machine.specs.NodeSteps.{bare_by, bare, node_by, node}
use Rattle.granit_machine.specs.TokenSort.{TokenSort, BeginsKey, Token}

module _ (es : List PlainEvent) where
  -- a state behind whose events others were given
  abbrev pub behind : ParserState → ParserState
  behind p = record p { given = es ++ p.given }

  -- ---- steps that may fail

  abbrev pub behind_step : Stepped → Stepped
  behind_step (Ok p) = Ok (behind p)
  behind_step (Err f) = Err f

  pub record Alike (r s : Stepped) : Type 0 where
    pub is : r ≡ behind_step s

  pub alike_ok : (p q : ParserState) → q ≡ behind p → Alike (Ok q) (Ok p)
  alike_ok p q e = record { is = ap (λ (x : ParserState). let r : Stepped = Ok x in r) e }

  pub refused : (f : Fault) → Alike (Err f) (Err f)
  refused f = record { is = refl }

  pub alike_if : (b : Bool) (x y v w : Stepped) → Alike v x → Alike w y
      → Alike (if b then v else w) (if b then x else y)
  alike_if true x y v w p q = p
  alike_if false x y v w p q = q

  pub alike_any : {A : Type 0} (r : Result A Fault) (f g : A → Stepped) → ((x : A) → Alike (f x) (g x))
      → Alike (r >>= f) (r >>= g)
  alike_any (Ok x) f g h = h x
  alike_any (Err e) f g h = refused e

  pub alike_then : (r s : Stepped) (f g : ParserState → Stepped) → Alike r s
      → ((p : ParserState) → Alike (f (behind p)) (g p)) → Alike (r >>= f) (s >>= g)
  alike_then r (Ok p) f g e h = subst (λ (r : Stepped). Alike (r >>= f) (g p)) (sym e.is) (h p)
  alike_then r (Err x) f g e h = record { is = ap (λ (r : Stepped). r >>= f) e.is }

  -- ---- what is given

  pub more_behind : (more : List PlainEvent) (p : ParserState)
      → record (behind p) { given = (es ++ p.given) ++ more } ≡ behind (record p { given = p.given ++ more })
  more_behind more p = ap (λ (given : List PlainEvent). record p { given = given }) (append_assoc es p.given more)

  flush_by : (w : Option Waiting) (p : ParserState) → flush_held w (behind p) ≡ behind (flush_held w p)
  flush_by None p = refl
  flush_by (Some w) p = more_behind w.held (record p { waiting = None })

  pub flush_behind : (p : ParserState) → flush (behind p) ≡ behind (flush p)
  flush_behind p = flush_by p.waiting p

  put_behind : (e : PlainEvent) (p : ParserState) → put e (behind p) ≡ behind (put e p)
  put_behind e p = more_behind (e ∷ []) (record p { last_end = e.span.end })

  pub give_behind : (e : PlainEvent) (p : ParserState) → give e (behind p) ≡ behind (give e p)
  give_behind e p = ap (put e) (flush_behind p) ∙ put_behind e (flush p)

  empty_behind : (w : Option Waiting) (p : ParserState) → empty_by w (behind p) ≡ behind (empty_by w p)
  empty_behind None p = refl
  empty_behind (Some w) p = ap flush (put_behind (null_at w.at) p) ∙ flush_behind (put (null_at w.at) p)

  pub give_empty_behind : (p : ParserState) → give_empty (behind p) ≡ behind (give_empty p)
  give_empty_behind p = empty_behind p.waiting p

  -- ---- a node's first event

  tell_behind : (o : OptionsData) (a : Option (ℕ × Written × Source)) (p : ParserState)
      → tell_anchor o a (behind p) ≡ behind (tell_anchor o a p)
  tell_behind o None p = refl
  tell_behind o (Some a) p = on o.emit_anchor_events
    where
      on : (b : Bool)
          → (if b then record (behind p) { given = (es ++ p.given) ++ event_at (events.Anchor a.0 a.1) a.2 ∷ [] }
          else behind p)
          ≡ behind (if b then record p { given = p.given ++ event_at (events.Anchor a.0 a.1) a.2 ∷ [] } else p)
      on true = more_behind (event_at (events.Anchor a.0 a.1) a.2 ∷ []) p
      on false = refl

  pub node_event_behind : (o : OptionsData) (kind : ℕ → Option PlainTag → EventKind) (s : Source) (indent : Option ℕ)
      (p : ParserState) → node_event o kind s indent (behind p) ≡ behind (node_event o kind s indent p)
  unfolding node_event
  node_event_behind o kind s indent p =
      let low = record p { frames = below_properties p.frames } in
      let q = properties_on p.frames s.end in
      let e : PlainEvent = record {
        kind = kind (anchor_number q.anchor) (tag_value q.tag);
        span = span_with_tag q.tag s (key_indent low.frames indent);
      } in
      ap (tell_anchor o q.anchor) (give_behind e low) ∙ tell_behind o q.anchor (give e low)

  -- ---- ends and beginnings

  finish_by : (fs : List Frame) (p : ParserState) → finish_in fs (behind p) ≡ behind (finish_in fs p)
  finish_by [] p = refl
  finish_by (WithProperties q ∷ fs) p = refl
  finish_by (Root explicit ∷ fs) p = refl
  finish_by (BlockSequence column indentless ∷ fs) p = refl
  finish_by (BlockMapping column stage ∷ fs) p = refl
  finish_by (FlowSequence entry ∷ fs) p = refl
  finish_by (FlowMapping single stage ∷ fs) p = refl
  finish_by (FlowPair stage ∷ fs) p = refl

  pub finish_behind : (p : ParserState) → finish (behind p) ≡ behind (finish p)
  finish_behind p = finish_by p.frames p

  two_behind : (e f : PlainEvent) (p : ParserState) → give f (give e (behind p)) ≡ behind (give f (give e p))
  two_behind e f p = ap (give f) (give_behind e p) ∙ give_behind f (give e p)

  owed_by : (fs : List Frame) (m : Mark) (p : ParserState) → owed_in fs m (behind p) ≡ behind (owed_in fs m p)
  owed_by (BlockSequence column indentless ∷ fs) m p = give_empty_behind p
  owed_by (BlockMapping column AtValue ∷ fs) m p = give_empty_behind p
  owed_by (FlowMapping single AtValue ∷ fs) m p = give_empty_behind p
  owed_by (BlockMapping column AtQuestion ∷ fs) m p = two_behind (with_indent (Some column) (null_at m)) (null_at m) p
  owed_by (FlowMapping single AtQuestion ∷ fs) m p = two_behind (null_at m) (null_at m) p
  owed_by (FlowPair AtQuestion ∷ fs) m p = two_behind (null_at m) (null_at m) p
  owed_by (BlockMapping column BehindQuestion ∷ fs) m p = give_behind (null_at m) p
  owed_by (FlowMapping single BehindQuestion ∷ fs) m p = give_behind (null_at m) p
  owed_by (FlowMapping single BehindAlone ∷ fs) m p = give_behind (null_at m) p
  owed_by (FlowPair BehindQuestion ∷ fs) m p = give_behind (null_at m) p
  owed_by (FlowPair AtValue ∷ fs) m p = give_behind (null_at m) p
  owed_by fs m p = refl

  pub owed_behind : (m : Mark) (p : ParserState) → owed m (behind p) ≡ behind (owed m p)
  owed_behind m p = owed_by p.frames m p

  end_by_behind : (s : Source) (p : ParserState) → end_by s (behind p) ≡ behind (end_by s p)
  end_by_behind s p =
      let low = record p { frames = below p.frames } in
      let e = event_at (end_kind p.frames) s in
      ap finish (give_behind e low) ∙ finish_behind (give e low)

  pub end_node_behind : (m : Mark) (s : Source) (p : ParserState) → end_node m s (behind p) ≡ behind (end_node m s p)
  unfolding end_node
  end_node_behind m s p = ap (end_by s) (owed_behind m p) ∙ end_by_behind s (owed m p)

  leaf_behind : (o : OptionsData) (kind : ℕ → Option PlainTag → EventKind) (s : Source) (indent : Option ℕ)
      (p : ParserState)
      → finish (node_event o kind s indent (behind p)) ≡ behind (finish (node_event o kind s indent p))
  leaf_behind o kind s indent p =
      ap finish (node_event_behind o kind s indent p) ∙ finish_behind (node_event o kind s indent p)

  pub end_properties_behind : (o : OptionsData) (q : NodeProperties) (p : ParserState)
      → end_properties o q (behind p) ≡ behind (end_properties o q p)
  unfolding end_properties
  end_properties_behind o q p = leaf_behind o (null_node q) (empty_span q.end) None p

  pub framed_behind : (f : Frame) (q p : ParserState) → q ≡ behind p
      → record q { frames = f ∷ q.frames } ≡ behind (record p { frames = f ∷ p.frames })
  framed_behind f q p e = ap (λ (q : ParserState). record q { frames = f ∷ q.frames }) e

  begin_behind : (o : OptionsData) (kind : ℕ → Option PlainTag → EventKind) (s : Source) (f : Frame) (p : ParserState)
      → begin o kind s f (behind p) ≡ behind (begin o kind s f p)
  begin_behind o kind s f p = framed_behind f _ (node_event o kind s None p) (node_event_behind o kind s None p)

  begin_block_behind : (o : OptionsData) (kind : ℕ → Option PlainTag → EventKind) (m : Mark) (f : Frame)
      (p : ParserState) → Alike (begin_block o kind m f (behind p)) (begin_block o kind m f p)
  unfolding begin_block
  begin_block_behind o kind m f p =
      alike_if (nat_le o.block_nesting_limit (block_count p.frames)) _ _ _ _ (refused _)
      (alike_ok _ _ (begin_behind o kind (empty_span m) f p))

  pub waits_behind : (m : Mark) (room : ℕ) (p : ParserState) → waits m room (behind p) ≡ behind (waits m room p)
  waits_behind m room p = ap (λ (q : ParserState). record q {
    waiting = Some
        (record { at = m; room = room; held = [] });
  }) (flush_behind p)

  -- ---- a node's lexeme

  tail_behind : (tail : Option CommentRead) (p : ParserState) → give_tail tail (behind p) ≡ behind (give_tail tail p)
  tail_behind None p = refl
  tail_behind (Some c) p =
      let e = event_at (events.Comment c.text Right) c.source in
      ap (λ (q : ParserState). record q { given = q.given ++ e ∷ [] }) (flush_behind p) ∙ more_behind (e ∷ []) (flush p)

  module _ (o : OptionsData) (t : Token) where
    alias_behind : (name : Written) (n : Option ℕ) (p : ParserState)
        → Alike (alias_by o t name n (behind p)) (alias_by o t name n p)
    alias_behind name (Some n) p =
        alike_ok _ _ (leaf_behind o (λ number tag. events.Alias n) t.lexeme.shown None p)
    alias_behind name None p =
        alike_if o.emit_unresolved_aliases _ _ _ _
        (alike_ok _ _ (leaf_behind o (λ number tag. events.UnresolvedAlias name) t.lexeme.shown None p)) (refused _)

    pub dash_behind : (role : DashRole) (indentless : Bool) (p : ParserState)
        → Alike (take_dash o t role indentless (behind p)) (take_dash o t role indentless p)
    unfolding take_dash
    dash_behind NextEntry indentless p =
        let f = BlockSequence (token_number t) indentless in
        alike_any (dash_room o t.lexeme.tail) _ _ (λ room. alike_ok _ _
        (ap (λ (q : ParserState). waits t.lexeme.end room (with_top f q)) (tail_behind t.lexeme.tail p)
        ∙ waits_behind t.lexeme.end room (with_top f (give_tail t.lexeme.tail p))))
    dash_behind NewSequence indentless p =
        alike_then (begin_block o block_sequence t.lexeme.start (BlockSequence (token_number t) false) (behind p))
        (begin_block o block_sequence t.lexeme.start (BlockSequence (token_number t) false) p) _ _
        (begin_block_behind o block_sequence t.lexeme.start (BlockSequence (token_number t) false) p)
        (λ q. alike_any (dash_room o t.lexeme.tail) _ _ (λ room. alike_ok _ _
        (ap (waits t.lexeme.end room) (tail_behind t.lexeme.tail q)
        ∙ waits_behind t.lexeme.end room (give_tail t.lexeme.tail q))))
    dash_behind IndentlessSequence indentless p =
        let f = BlockSequence (token_number t) true in
        alike_if (nat_le o.block_nesting_limit (block_count p.frames)) _ _ _ _ (refused _)
        (alike_any (dash_room o t.lexeme.tail) _ _ (λ room. alike_ok _ _
        (ap (λ (q : ParserState). waits t.lexeme.end room
        (begin o block_sequence (empty_span t.lexeme.end) f q)) (tail_behind t.lexeme.tail p)
        ∙ ap (waits t.lexeme.end room)
        (begin_behind o block_sequence (empty_span t.lexeme.end) f (give_tail t.lexeme.tail p))
        ∙ waits_behind t.lexeme.end room (begin o block_sequence (empty_span t.lexeme.end) f
        (give_tail t.lexeme.tail p)))))

    open_flow_behind : (bracket : Bracket) (p : ParserState)
        → open_flow o bracket t (behind p) ≡ behind (open_flow o bracket t p)
    open_flow_behind Square p =
        begin_behind o (λ n tag. events.SequenceStart Flow n tag) t.lexeme.shown (FlowSequence false) p
    open_flow_behind Curly p =
        begin_behind o (λ n tag. events.MappingStart Flow n tag) t.lexeme.shown (FlowMapping false BeforePair) p

    colon_value_behind : (p : ParserState) → Alike
        (begin_block o block_mapping t.lexeme.start (BlockMapping (token_number t) AtValue) (behind p) >>=
        λ q. Ok (waits t.lexeme.start o.max_buffered_comment_events (give (null_at t.lexeme.start) q)))
        (begin_block o block_mapping t.lexeme.start (BlockMapping (token_number t) AtValue) p >>= λ q. Ok
        (waits t.lexeme.start o.max_buffered_comment_events (give (null_at t.lexeme.start) q)))
    colon_value_behind p =
        alike_then _ _ _ _
        (begin_block_behind o block_mapping t.lexeme.start (BlockMapping (token_number t) AtValue) p)
        (λ q. alike_ok _ _ (ap (waits t.lexeme.start o.max_buffered_comment_events)
        (give_behind (null_at t.lexeme.start) q) ∙ waits_behind t.lexeme.start o.max_buffered_comment_events
        (give (null_at t.lexeme.start) q)))

    bare_by_behind : (kind : LexemeKind) (p : ParserState) → Alike (bare_by o kind t (behind p)) (bare_by o kind t p)
    bare_by_behind (lexemes.Alias name) p = alias_behind name (lookup_text name.characters p.names) p
    bare_by_behind (lexemes.Scalar style text) p = alike_ok _ _
        (leaf_behind o (λ number tag. events.Scalar text style number tag) t.lexeme.shown t.lexeme.indent p)
    bare_by_behind (lexemes.Open bracket) p = alike_ok _ _ (open_flow_behind bracket p)
    bare_by_behind (lexemes.Anchor name) p = alike_ok _ _ (ap (anchored t name) (flush_behind p))
    bare_by_behind (lexemes.Tag handle suffix) p =
        alike_any (tag_prefix t handle (known_prefix o handle p)) _ _
        (λ prefix. alike_ok _ _ (ap (tagged t handle suffix prefix) (flush_behind p)))
    bare_by_behind lexemes.Dash p =
        dash_behind (first_dash (may_be_indentless (token_number t) (below_properties p.frames))) false p
    bare_by_behind lexemes.Question p =
        begin_block_behind o block_mapping t.lexeme.start (BlockMapping (token_number t) AtQuestion) p
    bare_by_behind kind p = colon_value_behind p

    pub bare_behind : (p : ParserState) → Alike (bare o t (behind p)) (bare o t p)
    bare_behind p = bare_by_behind t.lexeme.kind p

    node_by_behind : (sort : TokenSort) (p : ParserState) → Alike (node_by o sort t (behind p)) (node_by o sort t p)
    node_by_behind BeginsKey p = alike_then _ _ (bare o t) (bare o t)
        (begin_block_behind o block_mapping t.lexeme.start (BlockMapping (token_number t) AtKey) p) bare_behind
    node_by_behind sort p = bare_behind p

    pub node_behind : (p : ParserState) → Alike (node o t (behind p)) (node o t p)
    node_behind p = node_by_behind t.sort p

  -- ---- where the state is another one's behind

  pub step_in : (f : ParserState → Stepped) (q p : ParserState) → q ≡ behind p → Alike (f (behind p)) (f p)
      → Alike (f q) (f p)
  step_in f q p e h = subst (λ (q : ParserState). Alike (f q) (f p)) (sym e) h
