-- Each step of the parser does the same wherever a text stands.
use Rattle.std.proofs.Common.{◌≡◌, ℕ, suc, ◌-◌, ◌==◌, Bool, true, false, List, [], ◌∷◌, ◌++◌, map, Option, Some, None}
use Rattle.std.proofs.Common.{Result, Ok, Err, refl, sym, ap, ap₂, ◌∙◌, subst, arith, ◌+◌, ◌&&◌, ◌⊎◌, inl, inr}
use Rattle.std.proofs.lemmas.Bool.{cond-true}
use Rattle.std.proofs.lemmas.Bool.Decides.{nat_tests}
use Rattle.std.specs.Prelude.{nat_lt, nat_le, nat_eq, codes, length, if◌then◌else◌}
use Rattle.std.specs.Option.{option_map}
use Rattle.std.specs.Ordering.{match_ordering, nat_cmp}
use Rattle.std.specs.declared.cmp.Ordering.{Ordering}
use Rattle.std.specs.declared.cmp.Ordering.TheVariants.{Less, Equal, Greater}
use Rattle.std.specs.Cmp.Lexicographic.{slice_cmp}
use lib.Pointwise.{pointwise}
use Rattle.std.proofs.lemmas.List.{map-append}
use Rattle.granit_base.specs.Place.{Mark}
use Rattle.granit_base.specs.Written.{Written, lent}
use Rattle.granit_base.specs.declared.style.Placement.TheVariants.{Right}
use Rattle.granit_base.specs.declared.style.ScalarStyle.TheVariants.{Plain}
use Rattle.granit_base.specs.declared.style.StructureStyle.TheVariants.{Flow}
use Rattle.granit_error.specs.OptionsData.{OptionsData}
use Rattle.granit_lexemes.specs.Comment.{CommentRead}
use Rattle.granit_lexemes.specs.declared.layout.Bracket.{Bracket}
use Rattle.granit_lexemes.specs.declared.layout.Bracket.TheVariants.{Square, Curly}
use Rattle.granit_lexemes.specs.Lexeme.{LexemeKind}
use Rattle.granit_lexemes.specs.Lexeme as lexemes
use Rattle.granit_lexemes.specs.Outcome.{Fault, ◌>>=◌}
use Rattle.granit_lexemes.specs.PlainEvent.{PlainEvent, PlainTag, EventKind, event_at, event_on, told_length}
use Rattle.granit_lexemes.specs.PlainEvent as events
use Rattle.granit_lexemes.specs.Source.{Source}
use Rattle.granit_machine.specs.Frames.{BeforePair, AtKey, AtQuestion, BehindQuestion, AtValue, BehindAlone}
use Rattle.granit_machine.specs.Frames.{NodeProperties, Frame, Root, WithProperties, BlockSequence, BlockMapping}
use Rattle.granit_machine.specs.Frames.{FlowSequence, FlowMapping, FlowPair, Waiting, ParserState}
use Rattle.granit_machine.specs.Giving.{null_at, with_indent, flush_held, flush, put, give, empty_by, give_empty}
use Rattle.granit_machine.specs.Giving.{properties_on, below_properties, key_indent, anchor_number, tag_value}
use Rattle.granit_machine.specs.Giving.{span_with_tag, tell_anchor, node_event_by, node_event}
use Rattle.granit_machine.specs.NodeEnds.{finish_in, finish, owed_in, owed, end_kind, below, end_by, end_node}
use Rattle.granit_machine.specs.NodeEnds.{null_text, null_node, empty_span, end_properties, block_count, begin}
use Rattle.granit_machine.specs.NodeEnds.{begin_block, block_mapping, waits, with_top, may_be_indentless}
use Rattle.granit_machine.specs.NodeSteps.{Stepped, alias_by, tag_prefix, with_properties, tagged, anchored}
use Rattle.granit_machine.specs.NodeSteps.{known_prefix, or_kept_handle}
use Rattle.granit_machine.specs.NodeSteps.{block_sequence, DashRole, NextEntry, NewSequence, IndentlessSequence}
use Rattle.granit_machine.specs.NodeSteps.{dash_room, give_tail, token_number, take_dash, first_dash, open_flow}
use Rattle.granit_machine.specs.NodeSteps.{bare_by, bare, node_by, node}
use Rattle.granit_machine.specs.Entries.{lookup_text, remembered}
use Rattle.granit_machine.specs.TokenSort.{TokenSort, BeginsKey, Token}
use Rattle.granit_shifted.specs.Shift.{moved_mark, moved_source, moved_event, moved_events, moved_fault, moved_tail}
use Rattle.granit_shifted.specs.Shift.{moved_lexeme, moved_anchor, moved_tag, moved_properties, moved_frame}
use Rattle.granit_shifted.specs.Shift.{moved_waiting, moved_state, Shift, moved_text, moved_scalar, moved_kind}
use Rattle.granit_shifted.specs.Shift.{moved_word, moved_id, moved_names, moved_kept, KeptFits}
use Rattle.granit_shifted.proofs.Sums.{sum_minus, sum_suc}

module _ (shift : Shift) where
  abbrev pub moved_frames : List Frame → List Frame
  moved_frames fs = map (moved_frame shift) fs

  abbrev pub moved_token : Token → Token
  moved_token t = record { lexeme = moved_lexeme shift t.lexeme; sort = t.sort }

  -- ---- steps that may fail

  abbrev pub moved_step : Stepped → Stepped
  moved_step (Ok p) = Ok (moved_state shift p)
  moved_step (Err f) = Err (moved_fault shift f)

  pub record Alike (r s : Stepped) : Type 0 where
    pub is : r ≡ moved_step s

  pub alike_ok : (p q : ParserState) → q ≡ moved_state shift p → Alike (Ok q) (Ok p)
  alike_ok p q e = record { is = ap (λ (x : ParserState). let r : Stepped = Ok x in r) e }

  pub refused : (f : Fault) → Alike (Err (moved_fault shift f)) (Err f)
  refused f = record { is = refl }

  pub alike_if : (b c : Bool) (x y v w : Stepped) → c ≡ b → Alike v x → Alike w y
      → Alike (if c then v else w) (if b then x else y)
  alike_if b c x y v w e p q = subst (λ d. Alike (if d then v else w) (if b then x else y)) (sym e) (on b)
    where
      on : (b : Bool) → Alike (if b then v else w) (if b then x else y)
      on true = p
      on false = q

  pub alike_then : (r s : Stepped) (f g : ParserState → Stepped) → Alike r s
      → ((p : ParserState) → Alike (f (moved_state shift p)) (g p)) → Alike (r >>= f) (s >>= g)
  alike_then r (Ok p) f g e h = subst (λ (r : Stepped). Alike (r >>= f) (g p)) (sym e.is) (h p)
  alike_then r (Err x) f g e h = record { is = ap (λ (r : Stepped). r >>= f) e.is }

  -- ---- what is given

  flush_by : (w : Option Waiting) (p : ParserState)
      → flush_held (moved_waiting shift w) (moved_state shift p) ≡ moved_state shift (flush_held w p)
  flush_by None p = refl
  flush_by (Some w) p = ap (λ es. record (moved_state shift p) { waiting = None; given = es })
      (sym (map-append (moved_event shift) p.given w.held))

  pub flush_moved : (p : ParserState) → flush (moved_state shift p) ≡ moved_state shift (flush p)
  flush_moved p = flush_by p.waiting p

  put_moved : (e : PlainEvent) (p : ParserState)
      → put (moved_event shift e) (moved_state shift p) ≡ moved_state shift (put e p)
  put_moved e p = ap (λ es. record (moved_state shift p) { last_end = moved_mark shift e.span.end; given = es })
      (sym (map-append (moved_event shift) p.given (e ∷ [])))

  pub give_moved : (e : PlainEvent) (p : ParserState)
      → give (moved_event shift e) (moved_state shift p) ≡ moved_state shift (give e p)
  give_moved e p = ap (put (moved_event shift e)) (flush_moved p) ∙ put_moved e (flush p)

  same_index : (m : Mark) → (m.place.index == m.place.index) ≡ true
  same_index m = grind (arith, nat_tests)

  -- the text of an empty node is as it was
  pub empty_text_moved : (m : Mark) (text : Written) → text ≡ moved_scalar shift Plain m m text
  empty_text_moved m text = sym (cond-true (m.place.index == m.place.index) text (moved_text shift text) (same_index m))

  null_at_moved : (m : Mark) → null_at (moved_mark shift m) ≡ moved_event shift (null_at m)
  null_at_moved m = ap (λ (text : Written). event_on (events.Scalar text Plain 0 None) (moved_mark shift m))
      (empty_text_moved m (lent (codes "~")))

  pub indented_moved : (indent : Option ℕ) (m : Mark) (p : ParserState)
      → give (with_indent indent (null_at (moved_mark shift m))) (moved_state shift p)
      ≡ moved_state shift (give (with_indent indent (null_at m)) p)
  indented_moved indent m p =
      ap (λ (e : PlainEvent). give (with_indent indent e) (moved_state shift p)) (null_at_moved m)
      ∙ give_moved (with_indent indent (null_at m)) p

  pub null_moved : (m : Mark) (p : ParserState) → give (null_at (moved_mark shift m)) (moved_state shift p)
      ≡ moved_state shift (give (null_at m) p)
  null_moved m p = indented_moved None m p

  empty_moved : (w : Option Waiting) (p : ParserState)
      → empty_by (moved_waiting shift w) (moved_state shift p) ≡ moved_state shift (empty_by w p)
  empty_moved None p = refl
  empty_moved (Some w) p =
      ap (λ (e : PlainEvent). flush (put e (moved_state shift p))) (null_at_moved w.at)
      ∙ ap flush (put_moved (null_at w.at) p) ∙ flush_moved (put (null_at w.at) p)

  pub give_empty_moved : (p : ParserState) → give_empty (moved_state shift p) ≡ moved_state shift (give_empty p)
  give_empty_moved p = empty_moved p.waiting p

  -- ---- frames

  on_moved : (fs : List Frame) (m : Mark) → properties_on (moved_frames fs) (moved_mark shift m)
      ≡ moved_properties shift (properties_on fs m)
  on_moved [] m = refl
  on_moved (WithProperties q ∷ fs) m = refl
  on_moved (Root explicit ∷ fs) m = refl
  on_moved (BlockSequence column indentless ∷ fs) m = refl
  on_moved (BlockMapping column stage ∷ fs) m = refl
  on_moved (FlowSequence behind ∷ fs) m = refl
  on_moved (FlowMapping single stage ∷ fs) m = refl
  on_moved (FlowPair stage ∷ fs) m = refl

  pub under_moved : (fs : List Frame) → below_properties (moved_frames fs) ≡ moved_frames (below_properties fs)
  under_moved [] = refl
  under_moved (WithProperties q ∷ fs) = refl
  under_moved (Root explicit ∷ fs) = refl
  under_moved (BlockSequence column indentless ∷ fs) = refl
  under_moved (BlockMapping column stage ∷ fs) = refl
  under_moved (FlowSequence behind ∷ fs) = refl
  under_moved (FlowMapping single stage ∷ fs) = refl
  under_moved (FlowPair stage ∷ fs) = refl

  key_indent_moved : (fs : List Frame) (own : Option ℕ) → key_indent (moved_frames fs) own ≡ key_indent fs own
  key_indent_moved [] own = refl
  key_indent_moved (WithProperties q ∷ fs) own = refl
  key_indent_moved (Root explicit ∷ fs) own = refl
  key_indent_moved (BlockSequence column indentless ∷ fs) own = refl
  key_indent_moved (BlockMapping column AtKey ∷ fs) own = refl
  key_indent_moved (BlockMapping column AtQuestion ∷ fs) own = refl
  key_indent_moved (BlockMapping column stage ∷ fs) own = refl
  key_indent_moved (FlowSequence behind ∷ fs) own = refl
  key_indent_moved (FlowMapping single stage ∷ fs) own = refl
  key_indent_moved (FlowPair stage ∷ fs) own = refl

  pub indentless_moved : (c : ℕ) (fs : List Frame) → may_be_indentless c (moved_frames fs) ≡ may_be_indentless c fs
  indentless_moved c [] = refl
  indentless_moved c (WithProperties q ∷ fs) = refl
  indentless_moved c (Root explicit ∷ fs) = refl
  indentless_moved c (BlockSequence column indentless ∷ fs) = refl
  indentless_moved c (BlockMapping column AtQuestion ∷ fs) = refl
  indentless_moved c (BlockMapping column AtValue ∷ fs) = refl
  indentless_moved c (BlockMapping column stage ∷ fs) = refl
  indentless_moved c (FlowSequence behind ∷ fs) = refl
  indentless_moved c (FlowMapping single stage ∷ fs) = refl
  indentless_moved c (FlowPair stage ∷ fs) = refl

  pub count_moved : (fs : List Frame) → block_count (moved_frames fs) ≡ block_count fs
  count_moved [] = refl
  count_moved (WithProperties q ∷ fs) = count_moved fs
  count_moved (Root explicit ∷ fs) = count_moved fs
  count_moved (BlockSequence column indentless ∷ fs) = ap suc (count_moved fs)
  count_moved (BlockMapping column stage ∷ fs) = ap suc (count_moved fs)
  count_moved (FlowSequence behind ∷ fs) = count_moved fs
  count_moved (FlowMapping single stage ∷ fs) = count_moved fs
  count_moved (FlowPair stage ∷ fs) = count_moved fs

  pub below_moved : (fs : List Frame) → below (moved_frames fs) ≡ moved_frames (below fs)
  below_moved [] = refl
  below_moved (f ∷ fs) = refl

  end_kind_moved : (start end : Mark) (fs : List Frame)
      → end_kind (moved_frames fs) ≡ moved_kind shift start end (end_kind fs)
  end_kind_moved start end [] = refl
  end_kind_moved start end (WithProperties q ∷ fs) = refl
  end_kind_moved start end (Root explicit ∷ fs) = refl
  end_kind_moved start end (BlockSequence column indentless ∷ fs) = refl
  end_kind_moved start end (BlockMapping column stage ∷ fs) = refl
  end_kind_moved start end (FlowSequence behind ∷ fs) = refl
  end_kind_moved start end (FlowMapping single stage ∷ fs) = refl
  end_kind_moved start end (FlowPair stage ∷ fs) = refl

  -- a state with other frames
  pub reframed : (gs fs : List Frame) (p : ParserState) → gs ≡ moved_frames fs
      → record (moved_state shift p) { frames = gs } ≡ moved_state shift (record p { frames = fs })
  reframed gs fs p e = ap (λ (gs : List Frame). record (moved_state shift p) { frames = gs }) e

  -- ---- a node's first event

  number_moved : (a : Option (ℕ × Written × Source))
      → anchor_number (moved_anchor shift a) ≡ moved_id shift (anchor_number a)
  number_moved None = refl
  number_moved (Some a) = refl

  value_moved : (t : Option (PlainTag × Source)) → tag_value (moved_tag shift t) ≡ tag_value t
  value_moved None = refl
  value_moved (Some t) = refl

  tell_moved : (o : OptionsData) (a : Option (ℕ × Written × Source)) (p : ParserState)
      → tell_anchor o (moved_anchor shift a) (moved_state shift p) ≡ moved_state shift (tell_anchor o a p)
  tell_moved o None p = refl
  tell_moved o (Some a) p = on o.emit_anchor_events
    where
      on : (b : Bool) → (if b then record (moved_state shift p) {
        given = moved_events shift p.given
            ++ event_at (events.Anchor (moved_id shift a.0) (moved_text shift a.1)) (moved_source shift a.2) ∷ [];
      } else moved_state shift p)
          ≡ moved_state shift (if b then record p { given = p.given ++ event_at (events.Anchor a.0 a.1) a.2 ∷ [] } else
          p)
      on true = ap (λ es. record (moved_state shift p) { given = es })
          (sym (map-append (moved_event shift) p.given (event_at (events.Anchor a.0 a.1) a.2 ∷ [])))
      on false = refl

  -- what a node's first event is told as
  abbrev pub Told : (raised kind : ℕ → Option PlainTag → EventKind) → Source → Type 0
  Told raised kind s = (n : ℕ) (tag : Option PlainTag)
      → raised (moved_id shift n) tag ≡ moved_kind shift s.start s.end (kind n tag)

  first_moved : (raised kind : ℕ → Option PlainTag → EventKind) (n : ℕ) (tag : Option (PlainTag × Source)) (s : Source)
      (indent : Option ℕ) → Told raised kind s
      → ◌≡◌ {A = PlainEvent} (record {
        kind = raised (moved_id shift n) (tag_value (moved_tag shift tag));
        span = span_with_tag (moved_tag shift tag) (moved_source shift s) indent;
      }) (moved_event shift (record { kind = kind n (tag_value tag); span = span_with_tag tag s indent }))
  first_moved raised kind n None s indent h = ap (λ (kind : EventKind). let e : PlainEvent =
      record { kind = kind; span = span_with_tag None (moved_source shift s) indent } in e) (h n None)
  first_moved raised kind n (Some t) s indent h =
      ap₂ (λ (kind : EventKind) (length : ℕ). let e : PlainEvent = record {
        kind = kind;
        span = record (span_with_tag (moved_tag shift (Some t)) (moved_source shift s) indent) {
          tag_length = told_length length;
        };
      } in e) (h n (Some t.0)) (sum_minus shift.index t.1.end.place.index t.1.start.place.index)

  event_by_moved : (o : OptionsData) (q : NodeProperties) (raised kind : ℕ → Option PlainTag → EventKind) (s : Source)
      (indent : Option ℕ) (p : ParserState) → Told raised kind s
      → node_event_by o (moved_properties shift q) raised (moved_source shift s) indent (moved_state shift p)
      ≡ moved_state shift (node_event_by o q kind s indent p)
  event_by_moved o q raised kind s indent p h =
      let n = anchor_number q.anchor in
      let e : PlainEvent = record {
        kind = kind n (tag_value q.tag);
        span = span_with_tag q.tag s (key_indent p.frames indent);
      } in
      let tell = tell_anchor o (moved_anchor shift q.anchor) in
      ap₂ (λ (n : ℕ) (indent : Option ℕ). tell (give (record {
        kind = raised n (tag_value (moved_tag shift q.tag));
        span = span_with_tag (moved_tag shift q.tag) (moved_source shift s) indent;
      }) (moved_state shift p))) (number_moved q.anchor) (key_indent_moved p.frames indent)
      ∙ ap (λ (e : PlainEvent). tell (give e (moved_state shift p)))
      (first_moved raised kind n q.tag s (key_indent p.frames indent) h)
      ∙ ap tell (give_moved e p) ∙ tell_moved o q.anchor (give e p)

  pub node_event_moved : (o : OptionsData) (raised kind : ℕ → Option PlainTag → EventKind) (s : Source)
      (indent : Option ℕ) (p : ParserState) → Told raised kind s
      → node_event o raised (moved_source shift s) indent (moved_state shift p)
      ≡ moved_state shift (node_event o kind s indent p)
  unfolding node_event
  node_event_moved o raised kind s indent p h =
      let low = below_properties p.frames in
      ap₂ (λ (q : NodeProperties) (p : ParserState). node_event_by o q raised (moved_source shift s) indent p)
      (on_moved p.frames s.end) (reframed (below_properties (moved_frames p.frames)) low p (under_moved p.frames))
      ∙ event_by_moved o (properties_on p.frames s.end) raised kind s indent (record p { frames = low }) h

  -- ---- ends and beginnings

  finish_by : (fs : List Frame) (p : ParserState)
      → finish_in (moved_frames fs) (moved_state shift p) ≡ moved_state shift (finish_in fs p)
  finish_by [] p = refl
  finish_by (WithProperties q ∷ fs) p = refl
  finish_by (Root explicit ∷ fs) p = refl
  finish_by (BlockSequence column indentless ∷ fs) p = refl
  finish_by (BlockMapping column stage ∷ fs) p = refl
  finish_by (FlowSequence behind ∷ fs) p = refl
  finish_by (FlowMapping single stage ∷ fs) p = refl
  finish_by (FlowPair stage ∷ fs) p = refl

  pub finish_moved : (p : ParserState) → finish (moved_state shift p) ≡ moved_state shift (finish p)
  finish_moved p = finish_by p.frames p

  two_moved : (indent : Option ℕ) (m : Mark) (p : ParserState)
      → give (null_at (moved_mark shift m)) (give (with_indent indent (null_at (moved_mark shift m)))
      (moved_state shift p))
      ≡ moved_state shift (give (null_at m) (give (with_indent indent (null_at m)) p))
  two_moved indent m p = ap (give (null_at (moved_mark shift m))) (indented_moved indent m p)
      ∙ null_moved m (give (with_indent indent (null_at m)) p)

  owed_by : (fs : List Frame) (m : Mark) (p : ParserState)
      → owed_in (moved_frames fs) (moved_mark shift m) (moved_state shift p) ≡ moved_state shift (owed_in fs m p)
  owed_by (BlockSequence column indentless ∷ fs) m p = give_empty_moved p
  owed_by (BlockMapping column AtValue ∷ fs) m p = give_empty_moved p
  owed_by (FlowMapping single AtValue ∷ fs) m p = give_empty_moved p
  owed_by (BlockMapping column AtQuestion ∷ fs) m p = two_moved (Some column) m p
  owed_by (FlowMapping single AtQuestion ∷ fs) m p = two_moved None m p
  owed_by (FlowPair AtQuestion ∷ fs) m p = two_moved None m p
  owed_by (BlockMapping column BehindQuestion ∷ fs) m p = null_moved m p
  owed_by (FlowMapping single BehindQuestion ∷ fs) m p = null_moved m p
  owed_by (FlowMapping single BehindAlone ∷ fs) m p = null_moved m p
  owed_by (FlowPair BehindQuestion ∷ fs) m p = null_moved m p
  owed_by (FlowPair AtValue ∷ fs) m p = null_moved m p
  owed_by fs m p = refl

  pub owed_moved : (m : Mark) (p : ParserState)
      → owed (moved_mark shift m) (moved_state shift p) ≡ moved_state shift (owed m p)
  owed_moved m p = owed_by p.frames m p

  end_by_moved : (s : Source) (p : ParserState)
      → end_by (moved_source shift s) (moved_state shift p) ≡ moved_state shift (end_by s p)
  end_by_moved s p =
      let low = record p { frames = below p.frames } in
      ap₂ (λ (k : EventKind) (q : ParserState). finish (give (event_at k (moved_source shift s)) q))
      (end_kind_moved s.start s.end p.frames)
      (reframed (below (moved_frames p.frames)) (below p.frames) p (below_moved p.frames))
      ∙ ap finish (give_moved (event_at (end_kind p.frames) s) low)
      ∙ finish_moved (give (event_at (end_kind p.frames) s) low)

  pub end_node_moved : (m : Mark) (s : Source) (p : ParserState)
      → end_node (moved_mark shift m) (moved_source shift s) (moved_state shift p) ≡ moved_state shift (end_node m s p)
  unfolding end_node
  end_node_moved m s p = ap (end_by (moved_source shift s)) (owed_moved m p) ∙ end_by_moved s (owed m p)

  text_moved : (t : Option (PlainTag × Source)) → null_text (moved_tag shift t) ≡ null_text t
  text_moved None = refl
  text_moved (Some t) = refl

  pub end_properties_moved : (o : OptionsData) (q : NodeProperties) (p : ParserState)
      → end_properties o (moved_properties shift q) (moved_state shift p) ≡ moved_state shift (end_properties o q p)
  unfolding end_properties
  end_properties_moved o q p =
      ap (λ (cs : List ℕ). finish (node_event o (λ n tag. events.Scalar (lent cs) Plain n tag)
      (empty_span (moved_mark shift q.end)) None (moved_state shift p))) (text_moved q.tag)
      ∙ ap finish (node_event_moved o (null_node q) (null_node q) (empty_span q.end) None p
      (λ n tag. ap (λ (text : Written). events.Scalar text Plain (moved_id shift n) tag)
      (empty_text_moved q.end (lent (null_text q.tag)))))
      ∙ finish_moved (node_event o (null_node q) (empty_span q.end) None p)

  -- a frame that keeps no place
  abbrev pub IsPlaceless : Frame → Type 0
  IsPlaceless f = moved_frame shift f ≡ f

  pub begin_moved : (o : OptionsData) (kind : ℕ → Option PlainTag → EventKind) (s : Source) (f : Frame)
      (p : ParserState) → Told kind kind s → IsPlaceless f
      → begin o kind (moved_source shift s) f (moved_state shift p) ≡ moved_state shift (begin o kind s f p)
  begin_moved o kind s f p told h =
      let q = node_event o kind s None p in
      ap (λ (q : ParserState). record q { frames = f ∷ q.frames }) (node_event_moved o kind kind s None p told)
      ∙ reframed (f ∷ moved_frames q.frames) (f ∷ q.frames) q (ap (λ (g : Frame). g ∷ moved_frames q.frames) (sym h))

  pub begin_block_moved : (o : OptionsData) (kind : ℕ → Option PlainTag → EventKind) (m : Mark) (f : Frame)
      (p : ParserState) → Told kind kind (empty_span m) → IsPlaceless f
      → Alike (begin_block o kind (moved_mark shift m) f (moved_state shift p)) (begin_block o kind m f p)
  unfolding begin_block
  begin_block_moved o kind m f p told h = alike_if _ _ _ _ _ _
      (ap (nat_le o.block_nesting_limit) (count_moved p.frames))
      (refused _) (alike_ok _ _ (begin_moved o kind (empty_span m) f p told h))

  pub waits_moved : (m : Mark) (room : ℕ) (p : ParserState)
      → waits (moved_mark shift m) room (moved_state shift p) ≡ moved_state shift (waits m room p)
  waits_moved m room p = ap (λ (q : ParserState). record q {
    waiting = Some
        (record { at = moved_mark shift m; room = room; held = [] });
  }) (flush_moved p)

  pub top_moved : (f : Frame) (p : ParserState) → IsPlaceless f
      → with_top f (moved_state shift p) ≡ moved_state shift (with_top f p)
  top_moved f p h = reframed (f ∷ below (moved_frames p.frames)) (f ∷ below p.frames) p
      (ap₂ (λ (g : Frame) (gs : List Frame). g ∷ gs) (sym h) (below_moved p.frames))

  -- ---- a node's lexeme

  leaf_moved : (o : OptionsData) (raised kind : ℕ → Option PlainTag → EventKind) (s : Source) (indent : Option ℕ)
      (p : ParserState) → Told raised kind s
      → finish (node_event o raised (moved_source shift s) indent (moved_state shift p))
      ≡ moved_state shift (finish (node_event o kind s indent p))
  leaf_moved o raised kind s indent p told = ap finish (node_event_moved o raised kind s indent p told)
      ∙ finish_moved (node_event o kind s indent p)

  tail_given_moved : (tail : Option CommentRead) (p : ParserState)
      → give_tail (moved_tail shift tail) (moved_state shift p) ≡ moved_state shift (give_tail tail p)
  tail_given_moved None p = refl
  tail_given_moved (Some c) p =
      let e = event_at (events.Comment c.text Right) c.source in
      ap (λ (q : ParserState). record q { given = q.given ++ (moved_event shift) e ∷ [] }) (flush_moved p)
      ∙ ap (λ es. record (moved_state shift (flush p)) { given = es })
      (sym (map-append (moved_event shift) (flush p).given (e ∷ [])))

  -- the room behind a `-`
  room_then : (o : OptionsData) (tail : Option CommentRead) (f g : ℕ → Stepped) → ((room : ℕ) → Alike (f room) (g room))
      → Alike (dash_room o (moved_tail shift tail) >>= f) (dash_room o tail >>= g)
  room_then o None f g h = h o.max_buffered_comment_events
  room_then o (Some c) f g h = on (o.max_buffered_comment_events == 0)
    where
      on : (b : Bool) → Alike ((if b then Rattle.granit_lexemes.specs.Basics.fails_at
          Rattle.granit_error.specs.FaultKind.TooManyComments (moved_mark shift c.source.start) else Ok
          (o.max_buffered_comment_events - 1)) >>= f)
          ((if b then Rattle.granit_lexemes.specs.Basics.fails_at Rattle.granit_error.specs.FaultKind.TooManyComments
          c.source.start else Ok (o.max_buffered_comment_events - 1)) >>= g)
      on true = refused _
      on false = h (o.max_buffered_comment_events - 1)

  -- ---- what names and handles stand for

  found_moved : (name : List ℕ) (names : List (List ℕ × ℕ))
      → lookup_text name (moved_names shift names) ≡ option_map (moved_id shift) (lookup_text name names)
  found_moved name [] = refl
  found_moved name (x ∷ xs) = on (pointwise nat_eq name x.0) (found_moved name xs)
    where
      on : (b : Bool) → lookup_text name (moved_names shift xs) ≡ option_map (moved_id shift) (lookup_text name xs)
          → (if b then Some (moved_id shift x.1) else lookup_text name (moved_names shift xs))
          ≡ option_map (moved_id shift) (if b then Some x.1 else lookup_text name xs)
      on true e = refl
      on false e = e

  remembered_moved : (name : List ℕ) (n : ℕ) (names : List (List ℕ × ℕ))
      → remembered name (moved_id shift n) (moved_names shift names) ≡ moved_names shift (remembered name n names)
  remembered_moved name n [] = refl
  remembered_moved name n (x ∷ xs) = on (slice_cmp nat_cmp name x.0) (remembered_moved name n xs)
    where
      on : (r : Ordering) → remembered name (moved_id shift n) (moved_names shift xs)
          ≡ moved_names shift (remembered name n xs)
          → match_ordering r ((name, moved_id shift n) ∷ moved_names shift (x ∷ xs))
          ((x.0, moved_id shift n) ∷ moved_names shift xs)
          ((x.0, moved_id shift x.1) ∷ remembered name (moved_id shift n) (moved_names shift xs))
          ≡ moved_names shift (match_ordering r ((name, n) ∷ x ∷ xs) ((x.0, n) ∷ xs) (x ∷ remembered name n xs))
      on Less e = refl
      on Equal e = refl
      on Greater e = ap (λ (ys : List (List ℕ × ℕ)). (x.0, moved_id shift x.1) ∷ ys) e

  abbrev Handles : Type 0
  Handles = List (List ℕ × List ℕ)

  pub stays_moved : (b : Bool) (handle prefix : List ℕ) (kept : Handles) → (shift.kept ≡ None) ⊎ (b ≡ false)
      → (if b then remembered handle prefix (moved_kept shift.kept kept) else moved_kept shift.kept kept)
      ≡ moved_kept shift.kept (if b then remembered handle prefix kept else kept)
  stays_moved b handle prefix kept (inl e) =
      subst (λ (before : Option Handles). (if b then remembered handle prefix (moved_kept before kept)
      else moved_kept before kept) ≡ moved_kept before (if b then remembered handle prefix kept else kept)) (sym e) refl
  stays_moved b handle prefix kept (inr e) =
      subst (λ (b : Bool). (if b then remembered handle prefix (moved_kept shift.kept kept)
      else moved_kept shift.kept kept)
      ≡ moved_kept shift.kept (if b then remembered handle prefix kept else kept)) (sym e) refl

  lost : (b c : Bool) (x y : Option (List ℕ)) → c ≡ false → (if b && c then x else None) ≡ (if b && c then y else None)
  lost b c x y e = subst (λ (c : Bool). (if b && c then x else None) ≡ (if b && c then y else None)) (sym e) (on b)
    where
      on : (b : Bool) → (if b && false then x else None) ≡ (if b && false then y else None)
      on true = refl
      on false = refl

  or_kept_moved : (o : OptionsData) (handle : List ℕ) (found : Option (List ℕ)) (kept : Handles) → KeptFits o shift
      → or_kept_handle o handle found (lookup_text handle (moved_kept shift.kept kept))
      ≡ or_kept_handle o handle found (lookup_text handle kept)
  or_kept_moved o handle (Some prefix) kept fits = refl
  or_kept_moved o handle None kept (inl e) =
      ap (λ (before : Option Handles). or_kept_handle o handle None (lookup_text handle (moved_kept before kept))) e
  or_kept_moved o handle None kept (inr e) =
      lost (nat_lt 2 (length handle)) o.keep_tags (lookup_text handle (moved_kept shift.kept kept))
      (lookup_text handle kept) e

  prefix_moved : (o : OptionsData) (handle : List ℕ) (p : ParserState) → KeptFits o shift
      → known_prefix o handle (moved_state shift p) ≡ known_prefix o handle p
  prefix_moved o handle p fits = or_kept_moved o handle (lookup_text handle p.handles) p.kept fits

  module _ (o : OptionsData) (t : Token) (fits : KeptFits o shift) where
    abbrev u : Token
    u = moved_token t

    alias_moved : (name : Written) (n : Option ℕ) (p : ParserState)
        → Alike (alias_by o u (moved_text shift name) (option_map (moved_id shift) n) (moved_state shift p))
        (alias_by o t name n p)
    alias_moved name (Some n) p =
        let kind = λ (n number : ℕ) (tag : Option PlainTag). events.Alias n in
        alike_ok _ _ (leaf_moved o (kind (moved_id shift n)) (kind n) t.lexeme.shown None p (λ number tag. refl))
    alias_moved name None p =
        let kind = λ (name : Written) (number : ℕ) (tag : Option PlainTag). events.UnresolvedAlias name in
        alike_if _ _ _ _ _ _ refl (alike_ok _ _
        (leaf_moved o (kind (moved_text shift name)) (kind name) t.lexeme.shown None p (λ number tag. refl)))
        (refused _)

    propertied : (r q : NodeProperties) (p : ParserState) → r ≡ moved_properties shift q
        → with_properties r (moved_state shift p) ≡ moved_state shift (with_properties q p)
    propertied r q p e = reframed (WithProperties r ∷ below_properties (moved_frames p.frames))
        (WithProperties q ∷ below_properties p.frames) p
        (ap₂ (λ (r : NodeProperties) (gs : List Frame). WithProperties r ∷ gs) e (under_moved p.frames))

    anchored_moved : (name : Written) (p : ParserState)
        → anchored u (moved_text shift name) (moved_state shift p) ≡ moved_state shift (anchored t name p)
    anchored_moved name p =
        let q = properties_on p.frames t.lexeme.shown.end in
        let r = record p { count = suc p.count; names = remembered name.characters (suc p.count) p.names } in
        ap₂ (λ (n : ℕ) (names : List (List ℕ × ℕ)).
        with_properties (record (properties_on (moved_frames p.frames) (moved_mark shift t.lexeme.shown.end)) {
          anchor = Some (suc (shift.anchors + p.count), moved_text shift name, moved_source shift t.lexeme.shown);
          end = moved_mark shift t.lexeme.shown.end;
        }) (record (moved_state shift p) { count = n; names = names })) (sum_suc shift.anchors p.count)
        (remembered_moved name.characters (suc p.count) p.names)
        ∙ propertied _ (record q { anchor = Some (suc p.count, name, t.lexeme.shown); end = t.lexeme.shown.end }) r
        (ap (λ (q : NodeProperties). record q {
          anchor = Some (suc (shift.anchors + p.count), moved_text shift name, moved_source shift t.lexeme.shown);
          end =
              moved_mark shift t.lexeme.shown.end;
        }) (on_moved p.frames t.lexeme.shown.end))

    tagged_moved : (handle suffix prefix : List ℕ) (p : ParserState)
        → tagged u handle suffix prefix (moved_state shift p) ≡ moved_state shift (tagged t handle suffix prefix p)
    tagged_moved handle suffix prefix p =
        let q = properties_on p.frames t.lexeme.shown.end in
        let tag : PlainTag = record { handle = prefix; suffix = suffix; original_handle = handle } in
        propertied _ (record q { tag = Some (tag, t.lexeme.shown); end = t.lexeme.shown.end }) p
        (ap (λ (q : NodeProperties). record q {
          tag = Some (tag, moved_source shift t.lexeme.shown);
          end = moved_mark shift
              t.lexeme.shown.end;
        }) (on_moved p.frames t.lexeme.shown.end))

    abbrev undeclared : Mark → Result (List ℕ) Fault
    undeclared m = Rattle.granit_lexemes.specs.Basics.fails_at Rattle.granit_error.specs.FaultKind.UndeclaredTagHandle m

    prefix_then : (handle : List ℕ) (found : Option (List ℕ)) (f g : List ℕ → Stepped)
        → ((prefix : List ℕ) → Alike (f prefix) (g prefix))
        → Alike (tag_prefix u handle found >>= f) (tag_prefix t handle found >>= g)
    prefix_then handle (Some prefix) f g h = h prefix
    prefix_then handle None f g h = on (length handle == 2) (nat_lt 2 (length handle))
      where
        on : (b c : Bool) → Alike ((if b then Ok (codes "tag:yaml.org,2002:") else if c then undeclared
            (moved_mark shift t.lexeme.shown.start) else Ok handle) >>= f)
            ((if b then Ok (codes "tag:yaml.org,2002:") else if c then undeclared t.lexeme.shown.start else Ok handle)
            >>=
            g)
        on true c = h (codes "tag:yaml.org,2002:")
        on false true = refused _
        on false false = h handle

    pub dash_moved : (role : DashRole) (indentless : Bool) (p : ParserState)
        → Alike (take_dash o u role indentless (moved_state shift p)) (take_dash o t role indentless p)
    unfolding take_dash
    dash_moved NextEntry indentless p =
        let f = BlockSequence (token_number t) indentless in
        room_then o t.lexeme.tail _ _ (λ room. alike_ok _ _
        (ap (λ (q : ParserState). waits (moved_mark shift t.lexeme.end) room (with_top f q))
        (tail_given_moved t.lexeme.tail p) ∙ ap (waits (moved_mark shift t.lexeme.end) room)
        (top_moved f (give_tail t.lexeme.tail p) refl)
        ∙ waits_moved t.lexeme.end room (with_top f (give_tail t.lexeme.tail p))))
    dash_moved NewSequence indentless p =
        alike_then (begin_block o block_sequence (moved_mark shift t.lexeme.start)
        (BlockSequence (token_number t) false)
        (moved_state shift p)) (begin_block o block_sequence t.lexeme.start (BlockSequence (token_number t) false) p) _
        _
        (begin_block_moved o block_sequence t.lexeme.start (BlockSequence (token_number t) false) p (λ n tag. refl)
        refl)
        (λ q. room_then o t.lexeme.tail _ _ (λ room. alike_ok _ _
        (ap (waits (moved_mark shift t.lexeme.end) room) (tail_given_moved t.lexeme.tail q)
        ∙ waits_moved t.lexeme.end room (give_tail t.lexeme.tail q))))
    dash_moved IndentlessSequence indentless p =
        let f = BlockSequence (token_number t) true in
        alike_if _ _ _ _ _ _ (ap (nat_le o.block_nesting_limit) (count_moved p.frames)) (refused _)
        (room_then o t.lexeme.tail _ _ (λ room. alike_ok _ _
        (ap (λ (q : ParserState). waits (moved_mark shift t.lexeme.end) room
        (begin o block_sequence (empty_span (moved_mark shift t.lexeme.end)) f q)) (tail_given_moved t.lexeme.tail p)
        ∙ ap (waits (moved_mark shift t.lexeme.end) room)
        (begin_moved o block_sequence (empty_span t.lexeme.end) f (give_tail t.lexeme.tail p) (λ n tag. refl) refl)
        ∙ waits_moved t.lexeme.end room (begin o block_sequence (empty_span t.lexeme.end) f
        (give_tail t.lexeme.tail p)))))

    open_flow_moved : (bracket : Bracket) (p : ParserState)
        → open_flow o bracket u (moved_state shift p) ≡ moved_state shift (open_flow o bracket t p)
    open_flow_moved Square p = begin_moved o (λ n tag. events.SequenceStart Flow n tag) t.lexeme.shown
        (FlowSequence false) p (λ n tag. refl) refl
    open_flow_moved Curly p = begin_moved o (λ n tag. events.MappingStart Flow n tag) t.lexeme.shown
        (FlowMapping false BeforePair) p (λ n tag. refl) refl

    colon_value_moved : (p : ParserState) → Alike
        (begin_block o block_mapping (moved_mark shift t.lexeme.start) (BlockMapping (token_number t) AtValue)
        (moved_state shift p) >>=
        λ q. Ok (waits (moved_mark shift t.lexeme.start) o.max_buffered_comment_events
        (give (null_at (moved_mark shift t.lexeme.start)) q)))
        (begin_block o block_mapping t.lexeme.start (BlockMapping (token_number t) AtValue) p >>= λ q. Ok
        (waits t.lexeme.start o.max_buffered_comment_events (give (null_at t.lexeme.start) q)))
    colon_value_moved p =
        alike_then _ _ _ _ (begin_block_moved o block_mapping t.lexeme.start (BlockMapping (token_number t) AtValue) p
        (λ n tag. refl) refl)
        (λ q. alike_ok _ _ (ap (waits (moved_mark shift t.lexeme.start) o.max_buffered_comment_events)
        (null_moved t.lexeme.start q) ∙ waits_moved t.lexeme.start o.max_buffered_comment_events
        (give (null_at t.lexeme.start) q)))

    first_dash_moved : (p : ParserState) → first_dash
        (may_be_indentless (token_number t) (below_properties (moved_frames p.frames)))
        ≡ first_dash (may_be_indentless (token_number t) (below_properties p.frames))
    first_dash_moved p = ap (λ (fs : List Frame). first_dash (may_be_indentless (token_number t) fs))
        (under_moved p.frames)
        ∙ ap first_dash (indentless_moved (token_number t) (below_properties p.frames))

    bare_by_moved : (kind : LexemeKind) (p : ParserState)
        → Alike (bare_by o (moved_word shift t.lexeme.shown.start t.lexeme.shown.end kind) u (moved_state shift p))
        (bare_by o kind t p)
    bare_by_moved (lexemes.Alias name) p =
        subst (λ (n : Option ℕ). Alike (alias_by o u (moved_text shift name) n (moved_state shift p))
        (alias_by o t name (lookup_text name.characters p.names) p)) (sym (found_moved name.characters p.names))
        (alias_moved name (lookup_text name.characters p.names) p)
    bare_by_moved (lexemes.Scalar style text) p = alike_ok _ _
        (leaf_moved o (λ number tag. events.Scalar
        (moved_scalar shift style t.lexeme.shown.start t.lexeme.shown.end text)
        style number tag) (λ number tag. events.Scalar text style number tag) t.lexeme.shown t.lexeme.indent p
        (λ number tag. refl))
    bare_by_moved (lexemes.Open bracket) p = alike_ok _ _ (open_flow_moved bracket p)
    bare_by_moved (lexemes.Anchor name) p = alike_ok _ _
        (ap (anchored u (moved_text shift name)) (flush_moved p) ∙ anchored_moved name (flush p))
    bare_by_moved (lexemes.Tag handle suffix) p =
        subst (λ (found : Option (List ℕ)). Alike (tag_prefix u handle found >>= λ prefix. Ok
        (tagged u handle suffix prefix (flush (moved_state shift p)))) (bare_by o (lexemes.Tag handle suffix) t p))
        (sym (prefix_moved o handle p fits))
        (prefix_then handle (known_prefix o handle p) _ _
        (λ prefix. alike_ok _ _ (ap (tagged u handle suffix prefix) (flush_moved p)
        ∙ tagged_moved handle suffix prefix (flush p))))
    bare_by_moved lexemes.Dash p =
        subst (λ (role : DashRole). Alike (take_dash o u role false (moved_state shift p)) (bare_by o lexemes.Dash t p))
        (sym (first_dash_moved p)) (dash_moved
        (first_dash (may_be_indentless (token_number t) (below_properties p.frames))) false p)
    bare_by_moved lexemes.Question p = begin_block_moved o block_mapping t.lexeme.start
        (BlockMapping (token_number t) AtQuestion) p (λ n tag. refl) refl
    bare_by_moved kind p = colon_value_moved p

    pub bare_moved : (p : ParserState) → Alike (bare o u (moved_state shift p)) (bare o t p)
    bare_moved p = bare_by_moved t.lexeme.kind p

    node_by_moved : (sort : TokenSort) (p : ParserState)
        → Alike (node_by o sort u (moved_state shift p)) (node_by o sort t p)
    node_by_moved BeginsKey p = alike_then _ _ (bare o u) (bare o t)
        (begin_block_moved o block_mapping t.lexeme.start (BlockMapping (token_number t) AtKey) p (λ n tag. refl) refl)
        bare_moved
    node_by_moved sort p = bare_moved p

    pub node_moved : (p : ParserState) → Alike (node o u (moved_state shift p)) (node o t p)
    node_moved p = node_by_moved t.sort p
