-- Each step of the parser does the same where byte offsets or lending are forgotten.
use Rattle.std.proofs.Common.{◌≡◌, ℕ, suc, ◌-◌, ◌==◌, Bool, true, false, List, [], ◌∷◌, ◌++◌, map, Option, Some, None}
use Rattle.std.proofs.Common.{Result, Ok, Err, refl, sym, ap, ap₂, ◌∙◌, subst, arith}
use Rattle.std.proofs.lemmas.Bool.{cond-true}
use Rattle.std.proofs.lemmas.Bool.Decides.{nat_tests}
use Rattle.std.specs.Prelude.{nat_lt, nat_le, codes, length, if◌then◌else◌}
use Rattle.std.proofs.lemmas.List.{map-append}
use Rattle.granit_base.specs.Place.{Mark}
use Rattle.granit_base.specs.Written.{Written, lent}
use Rattle.granit_base.specs.declared.style.Placement.TheVariants.{Right}
use Rattle.granit_base.specs.declared.style.ScalarStyle.TheVariants.{Plain}
use Rattle.granit_base.specs.declared.style.StructureStyle.TheVariants.{Flow}
use Rattle.granit_error.specs.FaultKind.{FaultKind}
use Rattle.granit_error.specs.OptionsData.{OptionsData}
use Rattle.granit_lexemes.specs.Comment.{CommentRead}
use Rattle.granit_lexemes.specs.declared.layout.Bracket.{Bracket}
use Rattle.granit_lexemes.specs.declared.layout.Bracket.TheVariants.{Square, Curly}
use Rattle.granit_lexemes.specs.Lexeme.{LexemeKind}
use Rattle.granit_lexemes.specs.Lexeme as lexemes
use Rattle.granit_lexemes.specs.Outcome.{Fault, ◌>>=◌}
use Rattle.granit_lexemes.specs.PlainEvent.{PlainEvent, PlainTag, EventKind, event_at, event_on}
use Rattle.granit_lexemes.specs.PlainEvent as events
use Rattle.granit_lexemes.specs.Source.{Source}
use Rattle.granit_machine.specs.Frames.{BeforePair, AtKey, AtQuestion, BehindQuestion, AtValue, BehindAlone}
use Rattle.granit_machine.specs.Frames.{NodeProperties, Frame, Root, WithProperties, BlockSequence, BlockMapping}
use Rattle.granit_machine.specs.Frames.{FlowSequence, FlowMapping, FlowPair, Waiting, ParserState}
use Rattle.granit_machine.specs.Giving.{null_at, with_indent, flush_held, flush, put, give, empty_by, give_empty}
use Rattle.granit_machine.specs.Giving.{properties_on, below_properties, key_indent, anchor_number, tag_value}
use Rattle.granit_machine.specs.Giving.{span_with_tag, tell_anchor, node_event_by, node_event}
use Rattle.granit_machine.specs.NodeEnds.{finish_in, finish, owed_in, owed, end_kind, below, end_by, end_node}
use Rattle.granit_machine.specs.NodeEnds.{null_text, null_node, empty_span, end_properties, block_count, begin}
use Rattle.granit_machine.specs.NodeEnds.{begin_block, block_mapping, waits, with_top, may_be_indentless}
use Rattle.granit_machine.specs.NodeSteps.{Stepped, alias_by, tag_prefix, with_properties, tagged, anchored}
use Rattle.granit_machine.specs.NodeSteps.{known_prefix}
use Rattle.granit_machine.specs.NodeSteps.{block_sequence, DashRole, NextEntry, NewSequence, IndentlessSequence}
use Rattle.granit_machine.specs.NodeSteps.{dash_room, give_tail, token_number, take_dash, first_dash, open_flow}
use Rattle.granit_machine.specs.NodeSteps.{bare_by, bare, node_by, node}
use Rattle.granit_machine.specs.Entries.{lookup_text, remembered}
use Rattle.granit_machine.specs.TokenSort.{TokenSort, BeginsKey, Token}
use Rattle.granit_feeding.specs.Offsets.{bare_mark, bare_source, bare_event, bare_events, bare_fault, bare_tail}
use Rattle.granit_feeding.specs.Offsets.{bare_lexeme, bare_anchor, bare_tag, bare_properties, bare_frame}
use Rattle.granit_feeding.specs.Offsets.{bare_waiting, bare_state, Kept, bare_text, bare_scalar, bare_kind}
use Rattle.granit_feeding.specs.Offsets.{bare_word}

module _ (keep : Kept) where
  abbrev pub bare_frames : List Frame → List Frame
  bare_frames fs = map (bare_frame keep) fs

  abbrev pub bare_token : Token → Token
  bare_token t = record { lexeme = bare_lexeme keep t.lexeme; sort = t.sort }

  -- ---- steps that may fail

  abbrev pub bare_step : Stepped → Stepped
  bare_step (Ok p) = Ok (bare_state keep p)
  bare_step (Err f) = Err (bare_fault keep f)

  pub record Alike (r s : Stepped) : Type 0 where
    pub is : r ≡ bare_step s

  pub alike_ok : (p q : ParserState) → q ≡ bare_state keep p → Alike (Ok q) (Ok p)
  alike_ok p q e = record { is = ap (λ (x : ParserState). let r : Stepped = Ok x in r) e }

  pub refused : (f : Fault) → Alike (Err (bare_fault keep f)) (Err f)
  refused f = record { is = refl }

  pub alike_if : (b c : Bool) (x y v w : Stepped) → c ≡ b → Alike v x → Alike w y
      → Alike (if c then v else w) (if b then x else y)
  alike_if b c x y v w e p q = subst (λ d. Alike (if d then v else w) (if b then x else y)) (sym e) (on b)
    where
      on : (b : Bool) → Alike (if b then v else w) (if b then x else y)
      on true = p
      on false = q

  pub alike_then : (r s : Stepped) (f g : ParserState → Stepped) → Alike r s
      → ((p : ParserState) → Alike (f (bare_state keep p)) (g p)) → Alike (r >>= f) (s >>= g)
  alike_then r (Ok p) f g e h = subst (λ (r : Stepped). Alike (r >>= f) (g p)) (sym e.is) (h p)
  alike_then r (Err x) f g e h = record { is = ap (λ (r : Stepped). r >>= f) e.is }

  -- ---- what is given

  flush_by : (w : Option Waiting) (p : ParserState)
      → flush_held (bare_waiting keep w) (bare_state keep p) ≡ bare_state keep (flush_held w p)
  flush_by None p = refl
  flush_by (Some w) p = ap (λ es. record (bare_state keep p) { waiting = None; given = es })
      (sym (map-append (bare_event keep) p.given w.held))

  pub flush_bare : (p : ParserState) → flush (bare_state keep p) ≡ bare_state keep (flush p)
  flush_bare p = flush_by p.waiting p

  put_bare : (e : PlainEvent) (p : ParserState)
      → put (bare_event keep e) (bare_state keep p) ≡ bare_state keep (put e p)
  put_bare e p = ap (λ es. record (bare_state keep p) { last_end = bare_mark keep e.span.end; given = es })
      (sym (map-append (bare_event keep) p.given (e ∷ [])))

  pub give_bare : (e : PlainEvent) (p : ParserState)
      → give (bare_event keep e) (bare_state keep p) ≡ bare_state keep (give e p)
  give_bare e p = ap (put (bare_event keep e)) (flush_bare p) ∙ put_bare e (flush p)

  same_index : (m : Mark) → (m.place.index == m.place.index) ≡ true
  same_index m = grind (arith, nat_tests)

  -- the text of an empty node is as it was
  pub empty_text_bare : (m : Mark) (text : Written) → text ≡ bare_scalar keep Plain m m text
  empty_text_bare m text = sym (cond-true (m.place.index == m.place.index) text (bare_text keep text) (same_index m))

  null_at_bare : (m : Mark) → null_at (bare_mark keep m) ≡ bare_event keep (null_at m)
  null_at_bare m = ap (λ (text : Written). event_on (events.Scalar text Plain 0 None) (bare_mark keep m))
      (empty_text_bare m (lent (codes "~")))

  pub indented_bare : (indent : Option ℕ) (m : Mark) (p : ParserState)
      → give (with_indent indent (null_at (bare_mark keep m))) (bare_state keep p)
      ≡ bare_state keep (give (with_indent indent (null_at m)) p)
  indented_bare indent m p =
      ap (λ (e : PlainEvent). give (with_indent indent e) (bare_state keep p)) (null_at_bare m)
      ∙ give_bare (with_indent indent (null_at m)) p

  pub null_bare : (m : Mark) (p : ParserState) → give (null_at (bare_mark keep m)) (bare_state keep p)
      ≡ bare_state keep (give (null_at m) p)
  null_bare m p = indented_bare None m p

  empty_bare : (w : Option Waiting) (p : ParserState)
      → empty_by (bare_waiting keep w) (bare_state keep p) ≡ bare_state keep (empty_by w p)
  empty_bare None p = refl
  empty_bare (Some w) p =
      ap (λ (e : PlainEvent). flush (put e (bare_state keep p))) (null_at_bare w.at)
      ∙ ap flush (put_bare (null_at w.at) p) ∙ flush_bare (put (null_at w.at) p)

  pub give_empty_bare : (p : ParserState) → give_empty (bare_state keep p) ≡ bare_state keep (give_empty p)
  give_empty_bare p = empty_bare p.waiting p

  -- ---- frames

  on_bare : (fs : List Frame) (m : Mark) → properties_on (bare_frames fs) (bare_mark keep m)
      ≡ bare_properties keep (properties_on fs m)
  on_bare [] m = refl
  on_bare (WithProperties q ∷ fs) m = refl
  on_bare (Root explicit ∷ fs) m = refl
  on_bare (BlockSequence column indentless ∷ fs) m = refl
  on_bare (BlockMapping column stage ∷ fs) m = refl
  on_bare (FlowSequence behind ∷ fs) m = refl
  on_bare (FlowMapping single stage ∷ fs) m = refl
  on_bare (FlowPair stage ∷ fs) m = refl

  pub under_bare : (fs : List Frame) → below_properties (bare_frames fs) ≡ bare_frames (below_properties fs)
  under_bare [] = refl
  under_bare (WithProperties q ∷ fs) = refl
  under_bare (Root explicit ∷ fs) = refl
  under_bare (BlockSequence column indentless ∷ fs) = refl
  under_bare (BlockMapping column stage ∷ fs) = refl
  under_bare (FlowSequence behind ∷ fs) = refl
  under_bare (FlowMapping single stage ∷ fs) = refl
  under_bare (FlowPair stage ∷ fs) = refl

  key_indent_bare : (fs : List Frame) (own : Option ℕ) → key_indent (bare_frames fs) own ≡ key_indent fs own
  key_indent_bare [] own = refl
  key_indent_bare (WithProperties q ∷ fs) own = refl
  key_indent_bare (Root explicit ∷ fs) own = refl
  key_indent_bare (BlockSequence column indentless ∷ fs) own = refl
  key_indent_bare (BlockMapping column AtKey ∷ fs) own = refl
  key_indent_bare (BlockMapping column AtQuestion ∷ fs) own = refl
  key_indent_bare (BlockMapping column stage ∷ fs) own = refl
  key_indent_bare (FlowSequence behind ∷ fs) own = refl
  key_indent_bare (FlowMapping single stage ∷ fs) own = refl
  key_indent_bare (FlowPair stage ∷ fs) own = refl

  pub indentless_bare : (c : ℕ) (fs : List Frame) → may_be_indentless c (bare_frames fs) ≡ may_be_indentless c fs
  indentless_bare c [] = refl
  indentless_bare c (WithProperties q ∷ fs) = refl
  indentless_bare c (Root explicit ∷ fs) = refl
  indentless_bare c (BlockSequence column indentless ∷ fs) = refl
  indentless_bare c (BlockMapping column AtQuestion ∷ fs) = refl
  indentless_bare c (BlockMapping column AtValue ∷ fs) = refl
  indentless_bare c (BlockMapping column stage ∷ fs) = refl
  indentless_bare c (FlowSequence behind ∷ fs) = refl
  indentless_bare c (FlowMapping single stage ∷ fs) = refl
  indentless_bare c (FlowPair stage ∷ fs) = refl

  pub count_bare : (fs : List Frame) → block_count (bare_frames fs) ≡ block_count fs
  count_bare [] = refl
  count_bare (WithProperties q ∷ fs) = count_bare fs
  count_bare (Root explicit ∷ fs) = count_bare fs
  count_bare (BlockSequence column indentless ∷ fs) = ap suc (count_bare fs)
  count_bare (BlockMapping column stage ∷ fs) = ap suc (count_bare fs)
  count_bare (FlowSequence behind ∷ fs) = count_bare fs
  count_bare (FlowMapping single stage ∷ fs) = count_bare fs
  count_bare (FlowPair stage ∷ fs) = count_bare fs

  pub below_bare : (fs : List Frame) → below (bare_frames fs) ≡ bare_frames (below fs)
  below_bare [] = refl
  below_bare (f ∷ fs) = refl

  end_kind_bare : (start end : Mark) (fs : List Frame)
      → end_kind (bare_frames fs) ≡ bare_kind keep start end (end_kind fs)
  end_kind_bare start end [] = refl
  end_kind_bare start end (WithProperties q ∷ fs) = refl
  end_kind_bare start end (Root explicit ∷ fs) = refl
  end_kind_bare start end (BlockSequence column indentless ∷ fs) = refl
  end_kind_bare start end (BlockMapping column stage ∷ fs) = refl
  end_kind_bare start end (FlowSequence behind ∷ fs) = refl
  end_kind_bare start end (FlowMapping single stage ∷ fs) = refl
  end_kind_bare start end (FlowPair stage ∷ fs) = refl

  -- a state with other frames
  pub reframed : (gs fs : List Frame) (p : ParserState) → gs ≡ bare_frames fs
      → record (bare_state keep p) { frames = gs } ≡ bare_state keep (record p { frames = fs })
  reframed gs fs p e = ap (λ (gs : List Frame). record (bare_state keep p) { frames = gs }) e

  -- ---- a node's first event

  number_bare : (a : Option (ℕ × Written × Source)) → anchor_number (bare_anchor keep a) ≡ anchor_number a
  number_bare None = refl
  number_bare (Some a) = refl

  value_bare : (t : Option (PlainTag × Source)) → tag_value (bare_tag keep t) ≡ tag_value t
  value_bare None = refl
  value_bare (Some t) = refl

  tell_bare : (o : OptionsData) (a : Option (ℕ × Written × Source)) (p : ParserState)
      → tell_anchor o (bare_anchor keep a) (bare_state keep p) ≡ bare_state keep (tell_anchor o a p)
  tell_bare o None p = refl
  tell_bare o (Some a) p = on o.emit_anchor_events
    where
      on : (b : Bool) → (if b then record (bare_state keep p) {
        given = bare_events keep p.given
            ++ event_at (events.Anchor a.0 (bare_text keep a.1)) (bare_source keep a.2) ∷ [];
      } else bare_state keep p)
          ≡ bare_state keep (if b then record p { given = p.given ++ event_at (events.Anchor a.0 a.1) a.2 ∷ [] } else p)
      on true = ap (λ es. record (bare_state keep p) { given = es })
          (sym (map-append (bare_event keep) p.given (event_at (events.Anchor a.0 a.1) a.2 ∷ [])))
      on false = refl

  -- what a node's first event is told as, where texts are told as they are kept
  abbrev pub Told : (bared kind : ℕ → Option PlainTag → EventKind) → Source → Type 0
  Told bared kind s = (n : ℕ) (tag : Option PlainTag) → bared n tag ≡ bare_kind keep s.start s.end (kind n tag)

  first_bare : (bared kind : ℕ → Option PlainTag → EventKind) (n : ℕ) (tag : Option (PlainTag × Source)) (s : Source)
      (indent : Option ℕ) → Told bared kind s
      → ◌≡◌ {A = PlainEvent} (record {
        kind = bared n (tag_value (bare_tag keep tag));
        span = span_with_tag (bare_tag keep tag) (bare_source keep s) indent;
      }) (bare_event keep (record { kind = kind n (tag_value tag); span = span_with_tag tag s indent }))
  first_bare bared kind n None s indent h = ap (λ (kind : EventKind). let e : PlainEvent =
      record { kind = kind; span = span_with_tag None (bare_source keep s) indent } in e) (h n None)
  first_bare bared kind n (Some t) s indent h = ap (λ (kind : EventKind). let e : PlainEvent =
      record { kind = kind; span = span_with_tag (bare_tag keep (Some t)) (bare_source keep s) indent } in e)
      (h n (Some t.0))

  event_by_bare : (o : OptionsData) (q : NodeProperties) (bared kind : ℕ → Option PlainTag → EventKind) (s : Source)
      (indent : Option ℕ) (p : ParserState) → Told bared kind s
      → node_event_by o (bare_properties keep q) bared (bare_source keep s) indent (bare_state keep p)
      ≡ bare_state keep (node_event_by o q kind s indent p)
  event_by_bare o q bared kind s indent p h =
      let n = anchor_number q.anchor in
      let e : PlainEvent = record {
        kind = kind n (tag_value q.tag);
        span = span_with_tag q.tag s (key_indent p.frames indent);
      } in
      let tell = tell_anchor o (bare_anchor keep q.anchor) in
      ap₂ (λ (n : ℕ) (indent : Option ℕ). tell (give (record {
        kind = bared n (tag_value (bare_tag keep q.tag));
        span = span_with_tag (bare_tag keep q.tag) (bare_source keep s) indent;
      }) (bare_state keep p))) (number_bare q.anchor) (key_indent_bare p.frames indent)
      ∙ ap (λ (e : PlainEvent). tell (give e (bare_state keep p)))
      (first_bare bared kind n q.tag s (key_indent p.frames indent) h)
      ∙ ap tell (give_bare e p) ∙ tell_bare o q.anchor (give e p)

  pub node_event_bare : (o : OptionsData) (bared kind : ℕ → Option PlainTag → EventKind) (s : Source)
      (indent : Option ℕ) (p : ParserState) → Told bared kind s
      → node_event o bared (bare_source keep s) indent (bare_state keep p)
      ≡ bare_state keep (node_event o kind s indent p)
  unfolding node_event
  node_event_bare o bared kind s indent p h =
      let low = below_properties p.frames in
      ap₂ (λ (q : NodeProperties) (p : ParserState). node_event_by o q bared (bare_source keep s) indent p)
      (on_bare p.frames s.end) (reframed (below_properties (bare_frames p.frames)) low p (under_bare p.frames))
      ∙ event_by_bare o (properties_on p.frames s.end) bared kind s indent (record p { frames = low }) h

  -- ---- ends and beginnings

  finish_by : (fs : List Frame) (p : ParserState)
      → finish_in (bare_frames fs) (bare_state keep p) ≡ bare_state keep (finish_in fs p)
  finish_by [] p = refl
  finish_by (WithProperties q ∷ fs) p = refl
  finish_by (Root explicit ∷ fs) p = refl
  finish_by (BlockSequence column indentless ∷ fs) p = refl
  finish_by (BlockMapping column stage ∷ fs) p = refl
  finish_by (FlowSequence behind ∷ fs) p = refl
  finish_by (FlowMapping single stage ∷ fs) p = refl
  finish_by (FlowPair stage ∷ fs) p = refl

  pub finish_bare : (p : ParserState) → finish (bare_state keep p) ≡ bare_state keep (finish p)
  finish_bare p = finish_by p.frames p

  two_bare : (indent : Option ℕ) (m : Mark) (p : ParserState)
      → give (null_at (bare_mark keep m)) (give (with_indent indent (null_at (bare_mark keep m))) (bare_state keep p))
      ≡ bare_state keep (give (null_at m) (give (with_indent indent (null_at m)) p))
  two_bare indent m p = ap (give (null_at (bare_mark keep m))) (indented_bare indent m p)
      ∙ null_bare m (give (with_indent indent (null_at m)) p)

  owed_by : (fs : List Frame) (m : Mark) (p : ParserState)
      → owed_in (bare_frames fs) (bare_mark keep m) (bare_state keep p) ≡ bare_state keep (owed_in fs m p)
  owed_by (BlockSequence column indentless ∷ fs) m p = give_empty_bare p
  owed_by (BlockMapping column AtValue ∷ fs) m p = give_empty_bare p
  owed_by (FlowMapping single AtValue ∷ fs) m p = give_empty_bare p
  owed_by (BlockMapping column AtQuestion ∷ fs) m p = two_bare (Some column) m p
  owed_by (FlowMapping single AtQuestion ∷ fs) m p = two_bare None m p
  owed_by (FlowPair AtQuestion ∷ fs) m p = two_bare None m p
  owed_by (BlockMapping column BehindQuestion ∷ fs) m p = null_bare m p
  owed_by (FlowMapping single BehindQuestion ∷ fs) m p = null_bare m p
  owed_by (FlowMapping single BehindAlone ∷ fs) m p = null_bare m p
  owed_by (FlowPair BehindQuestion ∷ fs) m p = null_bare m p
  owed_by (FlowPair AtValue ∷ fs) m p = null_bare m p
  owed_by fs m p = refl

  pub owed_bare : (m : Mark) (p : ParserState)
      → owed (bare_mark keep m) (bare_state keep p) ≡ bare_state keep (owed m p)
  owed_bare m p = owed_by p.frames m p

  end_by_bare : (s : Source) (p : ParserState)
      → end_by (bare_source keep s) (bare_state keep p) ≡ bare_state keep (end_by s p)
  end_by_bare s p =
      let low = record p { frames = below p.frames } in
      ap₂ (λ (k : EventKind) (q : ParserState). finish (give (event_at k (bare_source keep s)) q))
      (end_kind_bare s.start s.end p.frames)
      (reframed (below (bare_frames p.frames)) (below p.frames) p (below_bare p.frames))
      ∙ ap finish (give_bare (event_at (end_kind p.frames) s) low)
      ∙ finish_bare (give (event_at (end_kind p.frames) s) low)

  pub end_node_bare : (m : Mark) (s : Source) (p : ParserState)
      → end_node (bare_mark keep m) (bare_source keep s) (bare_state keep p) ≡ bare_state keep (end_node m s p)
  unfolding end_node
  end_node_bare m s p = ap (end_by (bare_source keep s)) (owed_bare m p) ∙ end_by_bare s (owed m p)

  text_bare : (t : Option (PlainTag × Source)) → null_text (bare_tag keep t) ≡ null_text t
  text_bare None = refl
  text_bare (Some t) = refl

  pub end_properties_bare : (o : OptionsData) (q : NodeProperties) (p : ParserState)
      → end_properties o (bare_properties keep q) (bare_state keep p) ≡ bare_state keep (end_properties o q p)
  unfolding end_properties
  end_properties_bare o q p =
      ap (λ (cs : List ℕ). finish (node_event o (λ n tag. events.Scalar (lent cs) Plain n tag)
      (empty_span (bare_mark keep q.end)) None (bare_state keep p))) (text_bare q.tag)
      ∙ ap finish (node_event_bare o (null_node q) (null_node q) (empty_span q.end) None p
      (λ n tag. ap (λ (text : Written). events.Scalar text Plain n tag)
      (empty_text_bare q.end (lent (null_text q.tag)))))
      ∙ finish_bare (node_event o (null_node q) (empty_span q.end) None p)

  -- a frame that keeps no place
  abbrev pub IsPlaceless : Frame → Type 0
  IsPlaceless f = bare_frame keep f ≡ f

  pub begin_bare : (o : OptionsData) (kind : ℕ → Option PlainTag → EventKind) (s : Source) (f : Frame)
      (p : ParserState) → Told kind kind s → IsPlaceless f
      → begin o kind (bare_source keep s) f (bare_state keep p) ≡ bare_state keep (begin o kind s f p)
  begin_bare o kind s f p told h =
      let q = node_event o kind s None p in
      ap (λ (q : ParserState). record q { frames = f ∷ q.frames }) (node_event_bare o kind kind s None p told)
      ∙ reframed (f ∷ bare_frames q.frames) (f ∷ q.frames) q (ap (λ (g : Frame). g ∷ bare_frames q.frames) (sym h))

  pub begin_block_bare : (o : OptionsData) (kind : ℕ → Option PlainTag → EventKind) (m : Mark) (f : Frame)
      (p : ParserState) → Told kind kind (empty_span m) → IsPlaceless f
      → Alike (begin_block o kind (bare_mark keep m) f (bare_state keep p)) (begin_block o kind m f p)
  unfolding begin_block
  begin_block_bare o kind m f p told h = alike_if _ _ _ _ _ _ (ap (nat_le o.block_nesting_limit) (count_bare p.frames))
      (refused _) (alike_ok _ _ (begin_bare o kind (empty_span m) f p told h))

  pub waits_bare : (m : Mark) (room : ℕ) (p : ParserState)
      → waits (bare_mark keep m) room (bare_state keep p) ≡ bare_state keep (waits m room p)
  waits_bare m room p = ap (λ (q : ParserState). record q {
    waiting = Some
        (record { at = bare_mark keep m; room = room; held = [] });
  }) (flush_bare p)

  pub top_bare : (f : Frame) (p : ParserState) → IsPlaceless f
      → with_top f (bare_state keep p) ≡ bare_state keep (with_top f p)
  top_bare f p h = reframed (f ∷ below (bare_frames p.frames)) (f ∷ below p.frames) p
      (ap₂ (λ (g : Frame) (gs : List Frame). g ∷ gs) (sym h) (below_bare p.frames))

  -- ---- a node's lexeme

  leaf_bare : (o : OptionsData) (bared kind : ℕ → Option PlainTag → EventKind) (s : Source) (indent : Option ℕ)
      (p : ParserState) → Told bared kind s
      → finish (node_event o bared (bare_source keep s) indent (bare_state keep p))
      ≡ bare_state keep (finish (node_event o kind s indent p))
  leaf_bare o bared kind s indent p told = ap finish (node_event_bare o bared kind s indent p told)
      ∙ finish_bare (node_event o kind s indent p)

  tail_given_bare : (tail : Option CommentRead) (p : ParserState)
      → give_tail (bare_tail keep tail) (bare_state keep p) ≡ bare_state keep (give_tail tail p)
  tail_given_bare None p = refl
  tail_given_bare (Some c) p =
      let e = event_at (events.Comment c.text Right) c.source in
      ap (λ (q : ParserState). record q { given = q.given ++ (bare_event keep) e ∷ [] }) (flush_bare p)
      ∙ ap (λ es. record (bare_state keep (flush p)) { given = es })
      (sym (map-append (bare_event keep) (flush p).given (e ∷ [])))

  -- the room behind a `-`
  room_then : (o : OptionsData) (tail : Option CommentRead) (f g : ℕ → Stepped) → ((room : ℕ) → Alike (f room) (g room))
      → Alike (dash_room o (bare_tail keep tail) >>= f) (dash_room o tail >>= g)
  room_then o None f g h = h o.max_buffered_comment_events
  room_then o (Some c) f g h = on (o.max_buffered_comment_events == 0)
    where
      on : (b : Bool) → Alike ((if b then Rattle.granit_lexemes.specs.Basics.fails_at
          Rattle.granit_error.specs.FaultKind.TooManyComments (bare_mark keep c.source.start) else Ok
          (o.max_buffered_comment_events - 1)) >>= f)
          ((if b then Rattle.granit_lexemes.specs.Basics.fails_at Rattle.granit_error.specs.FaultKind.TooManyComments
          c.source.start else Ok (o.max_buffered_comment_events - 1)) >>= g)
      on true = refused _
      on false = h (o.max_buffered_comment_events - 1)

  module _ (o : OptionsData) (t : Token) where
    abbrev u : Token
    u = bare_token t

    alias_bare : (name : Written) (n : Option ℕ) (p : ParserState)
        → Alike (alias_by o u (bare_text keep name) n (bare_state keep p)) (alias_by o t name n p)
    alias_bare name (Some n) p =
        let kind = λ (number : ℕ) (tag : Option PlainTag). events.Alias n in
        alike_ok _ _ (leaf_bare o kind kind t.lexeme.shown None p (λ number tag. refl))
    alias_bare name None p =
        let kind = λ (name : Written) (number : ℕ) (tag : Option PlainTag). events.UnresolvedAlias name in
        alike_if _ _ _ _ _ _ refl (alike_ok _ _
        (leaf_bare o (kind (bare_text keep name)) (kind name) t.lexeme.shown None p (λ number tag. refl))) (refused _)

    propertied : (r q : NodeProperties) (p : ParserState) → r ≡ bare_properties keep q
        → with_properties r (bare_state keep p) ≡ bare_state keep (with_properties q p)
    propertied r q p e = reframed (WithProperties r ∷ below_properties (bare_frames p.frames))
        (WithProperties q ∷ below_properties p.frames) p
        (ap₂ (λ (r : NodeProperties) (gs : List Frame). WithProperties r ∷ gs) e (under_bare p.frames))

    anchored_bare : (name : Written) (p : ParserState)
        → anchored u (bare_text keep name) (bare_state keep p) ≡ bare_state keep (anchored t name p)
    anchored_bare name p =
        let q = properties_on p.frames t.lexeme.shown.end in
        propertied _ (record q { anchor = Some (suc p.count, name, t.lexeme.shown); end = t.lexeme.shown.end })
        (record p { count = suc p.count; names = remembered name.characters (suc p.count) p.names })
        (ap (λ (q : NodeProperties). record q {
          anchor = Some (suc p.count, bare_text keep name, bare_source keep t.lexeme.shown);
          end =
              bare_mark keep t.lexeme.shown.end;
        }) (on_bare p.frames t.lexeme.shown.end))

    tagged_bare : (handle suffix prefix : List ℕ) (p : ParserState)
        → tagged u handle suffix prefix (bare_state keep p) ≡ bare_state keep (tagged t handle suffix prefix p)
    tagged_bare handle suffix prefix p =
        let q = properties_on p.frames t.lexeme.shown.end in
        let tag : PlainTag = record { handle = prefix; suffix = suffix; original_handle = handle } in
        propertied _ (record q { tag = Some (tag, t.lexeme.shown); end = t.lexeme.shown.end }) p
        (ap (λ (q : NodeProperties). record q {
          tag = Some (tag, bare_source keep t.lexeme.shown);
          end = bare_mark keep
              t.lexeme.shown.end;
        }) (on_bare p.frames t.lexeme.shown.end))

    abbrev undeclared : Mark → Result (List ℕ) Fault
    undeclared m = Rattle.granit_lexemes.specs.Basics.fails_at Rattle.granit_error.specs.FaultKind.UndeclaredTagHandle m

    prefix_then : (handle : List ℕ) (found : Option (List ℕ)) (f g : List ℕ → Stepped)
        → ((prefix : List ℕ) → Alike (f prefix) (g prefix))
        → Alike (tag_prefix u handle found >>= f) (tag_prefix t handle found >>= g)
    prefix_then handle (Some prefix) f g h = h prefix
    prefix_then handle None f g h = on (length handle == 2) (nat_lt 2 (length handle))
      where
        on : (b c : Bool) → Alike ((if b then Ok (codes "tag:yaml.org,2002:") else if c then undeclared
            (bare_mark keep t.lexeme.shown.start) else Ok handle) >>= f)
            ((if b then Ok (codes "tag:yaml.org,2002:") else if c then undeclared t.lexeme.shown.start else Ok handle)
            >>=
            g)
        on true c = h (codes "tag:yaml.org,2002:")
        on false true = refused _
        on false false = h handle

    pub dash_bare : (role : DashRole) (indentless : Bool) (p : ParserState)
        → Alike (take_dash o u role indentless (bare_state keep p)) (take_dash o t role indentless p)
    unfolding take_dash
    dash_bare NextEntry indentless p =
        let f = BlockSequence (token_number t) indentless in
        room_then o t.lexeme.tail _ _ (λ room. alike_ok _ _
        (ap (λ (q : ParserState). waits (bare_mark keep t.lexeme.end) room (with_top f q))
        (tail_given_bare t.lexeme.tail p) ∙ ap (waits (bare_mark keep t.lexeme.end) room)
        (top_bare f (give_tail t.lexeme.tail p) refl)
        ∙ waits_bare t.lexeme.end room (with_top f (give_tail t.lexeme.tail p))))
    dash_bare NewSequence indentless p =
        alike_then (begin_block o block_sequence (bare_mark keep t.lexeme.start) (BlockSequence (token_number t) false)
        (bare_state keep p)) (begin_block o block_sequence t.lexeme.start (BlockSequence (token_number t) false) p) _ _
        (begin_block_bare o block_sequence t.lexeme.start (BlockSequence (token_number t) false) p (λ n tag. refl) refl)
        (λ q. room_then o t.lexeme.tail _ _ (λ room. alike_ok _ _
        (ap (waits (bare_mark keep t.lexeme.end) room) (tail_given_bare t.lexeme.tail q)
        ∙ waits_bare t.lexeme.end room (give_tail t.lexeme.tail q))))
    dash_bare IndentlessSequence indentless p =
        let f = BlockSequence (token_number t) true in
        alike_if _ _ _ _ _ _ (ap (nat_le o.block_nesting_limit) (count_bare p.frames)) (refused _)
        (room_then o t.lexeme.tail _ _ (λ room. alike_ok _ _
        (ap (λ (q : ParserState). waits (bare_mark keep t.lexeme.end) room
        (begin o block_sequence (empty_span (bare_mark keep t.lexeme.end)) f q)) (tail_given_bare t.lexeme.tail p)
        ∙ ap (waits (bare_mark keep t.lexeme.end) room)
        (begin_bare o block_sequence (empty_span t.lexeme.end) f (give_tail t.lexeme.tail p) (λ n tag. refl) refl)
        ∙ waits_bare t.lexeme.end room (begin o block_sequence (empty_span t.lexeme.end) f
        (give_tail t.lexeme.tail p)))))

    open_flow_bare : (bracket : Bracket) (p : ParserState)
        → open_flow o bracket u (bare_state keep p) ≡ bare_state keep (open_flow o bracket t p)
    open_flow_bare Square p = begin_bare o (λ n tag. events.SequenceStart Flow n tag) t.lexeme.shown
        (FlowSequence false) p (λ n tag. refl) refl
    open_flow_bare Curly p = begin_bare o (λ n tag. events.MappingStart Flow n tag) t.lexeme.shown
        (FlowMapping false BeforePair) p (λ n tag. refl) refl

    colon_value_bare : (p : ParserState) → Alike
        (begin_block o block_mapping (bare_mark keep t.lexeme.start) (BlockMapping (token_number t) AtValue)
        (bare_state keep p) >>=
        λ q. Ok (waits (bare_mark keep t.lexeme.start) o.max_buffered_comment_events
        (give (null_at (bare_mark keep t.lexeme.start)) q)))
        (begin_block o block_mapping t.lexeme.start (BlockMapping (token_number t) AtValue) p >>= λ q. Ok
        (waits t.lexeme.start o.max_buffered_comment_events (give (null_at t.lexeme.start) q)))
    colon_value_bare p =
        alike_then _ _ _ _ (begin_block_bare o block_mapping t.lexeme.start (BlockMapping (token_number t) AtValue) p
        (λ n tag. refl) refl)
        (λ q. alike_ok _ _ (ap (waits (bare_mark keep t.lexeme.start) o.max_buffered_comment_events)
        (null_bare t.lexeme.start q) ∙ waits_bare t.lexeme.start o.max_buffered_comment_events
        (give (null_at t.lexeme.start) q)))

    first_dash_bare : (p : ParserState) → first_dash
        (may_be_indentless (token_number t) (below_properties (bare_frames p.frames)))
        ≡ first_dash (may_be_indentless (token_number t) (below_properties p.frames))
    first_dash_bare p = ap (λ (fs : List Frame). first_dash (may_be_indentless (token_number t) fs))
        (under_bare p.frames)
        ∙ ap first_dash (indentless_bare (token_number t) (below_properties p.frames))

    bare_by_bare : (kind : LexemeKind) (p : ParserState)
        → Alike (bare_by o (bare_word keep t.lexeme.shown.start t.lexeme.shown.end kind) u (bare_state keep p))
        (bare_by o kind t p)
    bare_by_bare (lexemes.Alias name) p = alias_bare name (lookup_text name.characters p.names) p
    bare_by_bare (lexemes.Scalar style text) p = alike_ok _ _
        (leaf_bare o (λ number tag. events.Scalar (bare_scalar keep style t.lexeme.shown.start t.lexeme.shown.end text)
        style number tag) (λ number tag. events.Scalar text style number tag) t.lexeme.shown t.lexeme.indent p
        (λ number tag. refl))
    bare_by_bare (lexemes.Open bracket) p = alike_ok _ _ (open_flow_bare bracket p)
    bare_by_bare (lexemes.Anchor name) p = alike_ok _ _
        (ap (anchored u (bare_text keep name)) (flush_bare p) ∙ anchored_bare name (flush p))
    bare_by_bare (lexemes.Tag handle suffix) p =
        prefix_then handle (known_prefix o handle p) _ _
        (λ prefix. alike_ok _ _ (ap (tagged u handle suffix prefix) (flush_bare p)
        ∙ tagged_bare handle suffix prefix (flush p)))
    bare_by_bare lexemes.Dash p =
        subst (λ (role : DashRole). Alike (take_dash o u role false (bare_state keep p)) (bare_by o lexemes.Dash t p))
        (sym (first_dash_bare p)) (dash_bare
        (first_dash (may_be_indentless (token_number t) (below_properties p.frames))) false p)
    bare_by_bare lexemes.Question p = begin_block_bare o block_mapping t.lexeme.start
        (BlockMapping (token_number t) AtQuestion) p (λ n tag. refl) refl
    bare_by_bare kind p = colon_value_bare p

    pub bare_bare : (p : ParserState) → Alike (bare o u (bare_state keep p)) (bare o t p)
    bare_bare p = bare_by_bare t.lexeme.kind p

    node_by_bare : (sort : TokenSort) (p : ParserState)
        → Alike (node_by o sort u (bare_state keep p)) (node_by o sort t p)
    node_by_bare BeginsKey p = alike_then _ _ (bare o u) (bare o t)
        (begin_block_bare o block_mapping t.lexeme.start (BlockMapping (token_number t) AtKey) p (λ n tag. refl) refl)
        bare_bare
    node_by_bare sort p = bare_bare p

    pub node_bare : (p : ParserState) → Alike (node o u (bare_state keep p)) (node o t p)
    node_bare p = node_by_bare t.sort p
