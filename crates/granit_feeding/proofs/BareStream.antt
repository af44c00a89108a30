-- Items are fed to the same events where byte offsets or lending are forgotten.
use Rattle.std.proofs.Common.{◌≡◌, ℕ, zero, suc, ◌-◌, ◌&&◌, ◌||◌, not, Bool, true, false, List, [], ◌∷◌, map, Option}
use Rattle.std.proofs.Common.{Some, None, Result, Ok, Err, refl, sym, ap, ap₂, ◌∙◌, subst}
use Rattle.std.specs.Prelude.{is_none, is_some, if◌then◌else◌}
use Rattle.std.proofs.lemmas.List.{map-append, length-map}
use Rattle.granit_base.specs.Place.{Mark}
use Rattle.granit_base.specs.declared.style.StructureStyle.TheVariants.{Flow}
use Rattle.granit_error.specs.OptionsData.{OptionsData}
use Rattle.granit_lexemes.specs.Comment.{CommentRead}
use Rattle.granit_lexemes.specs.Lexeme.{DirectiveKind, Version, TagPrefix, Reserved, LexemeKind, KeyStart, Lexeme, Item}
use Rattle.granit_lexemes.specs.Lexeme.{OfLexeme, OfComment}
use Rattle.granit_lexemes.specs.Lexeme as lexemes
use Rattle.granit_lexemes.specs.Outcome.{Fault, ◌>>=◌}
use Rattle.granit_lexemes.specs.Pieces.{with_front, then_more, turns, pieces}
use Rattle.granit_lexemes.specs.PlainEvent.{PlainEvent, PlainVersion, EventKind, event_at}
use Rattle.granit_lexemes.specs.PlainEvent as events
use Rattle.granit_lexemes.specs.Source.{Source}
use Rattle.granit_machine.specs.BlockSteps.{in_sequence, mapping_at, mapping_colon, bare_colon_in_mapping, next_pair}
use Rattle.granit_machine.specs.BlockSteps.{behind_indicator, at_block_key, behind_block_key, in_mapping}
use Rattle.granit_machine.specs.Closing.{goes_on_with, goes_on_by_kind, ends_top, token_start, end_top, close_turn}
use Rattle.granit_machine.specs.Closing.{depth, close}
use Rattle.granit_machine.specs.FlowSteps.{close_flow, flow_at, flow_colon, begin_pair, at_entry, behind_entry_of}
use Rattle.granit_machine.specs.FlowSteps.{in_flow_sequence, in_flow_mapping_by, in_flow_pair}
use Rattle.granit_machine.specs.Frames.{PairStage, BeforePair, AtKey, BehindKey, AtQuestion, BehindQuestion, AtValue}
use Rattle.granit_machine.specs.Frames.{NodeProperties, Frame, Root, WithProperties, BlockSequence, BlockMapping}
use Rattle.granit_machine.specs.Frames.{FlowSequence, FlowMapping, FlowPair, DocumentStage, Fresh, Directives, Inside}
use Rattle.granit_machine.specs.Frames.{BehindRoot, Between, Waiting, ParserState}
use Rattle.granit_machine.specs.Giving.{null_at, with_indent, flush, give, give_empty}
use Rattle.granit_machine.specs.Lexing.{FlaggedItem}
use Rattle.granit_machine.specs.Machine.{feed_all}
use Rattle.granit_machine.specs.NodeEnds.{owed, end_node, end_properties, empty_span, under_column, may_be_indentless}
use Rattle.granit_machine.specs.NodeEnds.{waits, with_top}
use Rattle.granit_machine.specs.NodeSteps.{Stepped, NextEntry, take_dash, bare, node}
use Rattle.granit_machine.specs.Entries.{lookup_text}
use Rattle.granit_machine.specs.Parser.{take_in, take_token, placed, line_of_lexeme, line_of_item, next_line, hold}
use Rattle.granit_machine.specs.Parser.{take_comment, take_tail, take_lexeme, take_item, feed}
use Rattle.granit_machine.specs.StreamSteps.{at_root, with_version, with_handle, open_document, with_directive}
use Rattle.granit_machine.specs.StreamSteps.{behind_directives, bare_start, begin_document, without_directives}
use Rattle.granit_machine.specs.StreamSteps.{when_fresh, when_between, end_document, behind_root, outside}
use Rattle.granit_machine.specs.TokenSort.{TokenSort, BeginsKey, BeginsNode, QuestionToken, BareColon, KeyedColon}
use Rattle.granit_machine.specs.TokenSort.{CommaToken, SequenceCloser, MappingCloser, Token, token_sort, token_of}
use Rattle.granit_machine.specs.TokenSort.{token_column, is_right_of, is_key_in_block, begins_node}
use Rattle.granit_feeding.specs.Offsets.{bare_mark, bare_source, bare_event, bare_events, bare_fault, bare_comment}
use Rattle.granit_feeding.specs.Offsets.{bare_tail, bare_key, bare_lexeme, bare_item, bare_flagged, bare_anchor}
use Rattle.granit_feeding.specs.Offsets.{bare_tag, bare_properties, bare_frame, bare_waiting, bare_state, bare_fed}
use Rattle.granit_feeding.specs.Offsets.{Kept, bare_word}
use Rattle.granit_feeding.proofs.BareSteps.{bare_frames, bare_token, Alike, alike_ok, refused, alike_if, alike_then}
use Rattle.granit_feeding.proofs.BareSteps.{flush_bare, give_bare, null_bare, give_empty_bare, indentless_bare}
use Rattle.granit_feeding.proofs.BareSteps.{reframed, finish_bare, owed_bare, end_node_bare, end_properties_bare}
use Rattle.granit_feeding.proofs.BareSteps.{IsPlaceless, waits_bare, top_bare, dash_bare, bare_bare, node_bare}
use Rattle.granit_feeding.proofs.BareSteps.{indented_bare}

module _ (keep : Kept) where
  none_bare : (w : Option Waiting) → is_none (bare_waiting keep w) ≡ is_none w
  none_bare None = refl
  none_bare (Some w) = refl

  under_column_bare : (fs : List Frame) → under_column (bare_frames keep fs) ≡ under_column fs
  under_column_bare [] = refl
  under_column_bare (WithProperties q ∷ fs) = under_column_bare fs
  under_column_bare (Root explicit ∷ fs) = under_column_bare fs
  under_column_bare (BlockSequence column indentless ∷ fs) = refl
  under_column_bare (BlockMapping column stage ∷ fs) = refl
  under_column_bare (FlowSequence behind ∷ fs) = under_column_bare fs
  under_column_bare (FlowMapping single stage ∷ fs) = under_column_bare fs
  under_column_bare (FlowPair stage ∷ fs) = under_column_bare fs

  -- a state with an event, then another change that tells no place
  module _ (o : OptionsData) (t : Token) where
    abbrev u : Token
    u = bare_token keep t

    -- ---- block collections

    mapping_at_bare : (column : ℕ) (stage : PairStage) (p : ParserState)
        → mapping_at column stage (bare_state keep p) ≡ bare_state keep (mapping_at column stage p)
    mapping_at_bare column stage p = ap (with_top (BlockMapping column stage)) (flush_bare keep p)
        ∙ top_bare keep (BlockMapping column stage) (flush p) refl

    waits_here : (p : ParserState) → waits (bare_mark keep t.lexeme.start) o.max_buffered_comment_events
        (bare_state keep p)
        ≡ bare_state keep (waits t.lexeme.start o.max_buffered_comment_events p)
    waits_here p = waits_bare keep t.lexeme.start o.max_buffered_comment_events p

    mapping_colon_bare : (column : ℕ) (p : ParserState)
        → mapping_colon o u column (bare_state keep p) ≡ bare_state keep (mapping_colon o t column p)
    mapping_colon_bare column p = ap (waits (bare_mark keep t.lexeme.start) o.max_buffered_comment_events)
        (mapping_at_bare column AtValue p) ∙ waits_here (mapping_at column AtValue p)

    bare_colon_bare : (column : ℕ) (stage : PairStage) (p : ParserState)
        → bare_colon_in_mapping o u column stage (bare_state keep p)
        ≡ bare_state keep (bare_colon_in_mapping o t column stage p)
    bare_colon_bare column AtQuestion p =
        ap (mapping_colon o u column) (indented_bare keep (Some column) t.lexeme.start p)
        ∙ mapping_colon_bare column (give (with_indent (Some column) (null_at t.lexeme.start)) p)
    bare_colon_bare column BehindQuestion p = mapping_colon_bare column p
    bare_colon_bare column stage p =
        ap (λ (q : ParserState). mapping_colon o u column (give (null_at (bare_mark keep t.lexeme.start)) q))
        (owed_bare keep t.lexeme.start p) ∙ ap (mapping_colon o u column)
        (null_bare keep t.lexeme.start (owed t.lexeme.start p))
        ∙ mapping_colon_bare column (give (null_at t.lexeme.start) (owed t.lexeme.start p))

    pair_at_bare : (column : ℕ) (stage : PairStage) (p : ParserState)
        → mapping_at column stage (owed (bare_mark keep t.lexeme.start) (bare_state keep p))
        ≡ bare_state keep (mapping_at column stage (owed t.lexeme.start p))
    pair_at_bare column stage p = ap (mapping_at column stage) (owed_bare keep t.lexeme.start p)
        ∙ mapping_at_bare column stage (owed t.lexeme.start p)

    -- a bare lexeme in a state that is the same
    bare_in : (q p : ParserState) → q ≡ bare_state keep p → Alike keep (bare o u q) (bare o t p)
    bare_in q p e = subst (λ (q : ParserState). Alike keep (bare o u q) (bare o t p)) (sym e) (bare_bare keep o t p)

    next_pair_bare : (column : ℕ) (stage : PairStage) (sort : TokenSort) (p : ParserState)
        → Alike keep (next_pair o u column stage sort (bare_state keep p)) (next_pair o t column stage sort p)
    next_pair_bare column stage BeginsKey p = bare_in _ (mapping_at column AtKey (owed t.lexeme.start p))
        (pair_at_bare column AtKey p)
    next_pair_bare column stage QuestionToken p = alike_ok keep _ _ (pair_at_bare column AtQuestion p)
    next_pair_bare column stage sort p = alike_ok keep _ _ (bare_colon_bare column stage p)

    behind_indicator_bare : (column : ℕ) (stage : PairStage) (p : ParserState)
        → Alike keep (behind_indicator o u column stage (bare_state keep p)) (behind_indicator o t column stage p)
    unfolding behind_indicator
    behind_indicator_bare column stage p =
        alike_if keep _ _ _ _ _ _ refl (next_pair_bare column stage t.sort p)
        (alike_if keep _ _ _ _ _ _ refl (refused keep _)
        (alike_if keep _ _ _ _ _ _ refl (node_bare keep o t p) (refused keep _)))

    at_block_key_bare : (sort : TokenSort) (p : ParserState)
        → Alike keep (at_block_key o u sort (bare_state keep p)) (at_block_key o t sort p)
    at_block_key_bare BeginsNode p = bare_bare keep o t p
    at_block_key_bare sort p = refused keep _

    behind_block_key_bare : (column : ℕ) (sort : TokenSort) (p : ParserState)
        → Alike keep (behind_block_key o u column sort (bare_state keep p)) (behind_block_key o t column sort p)
    behind_block_key_bare column KeyedColon p = alike_ok keep _ _ (mapping_colon_bare column p)
    behind_block_key_bare column sort p = refused keep _

    in_mapping_bare : (column : ℕ) (stage : PairStage) (p : ParserState)
        → Alike keep (in_mapping o u column stage (bare_state keep p)) (in_mapping o t column stage p)
    in_mapping_bare column AtKey p = at_block_key_bare t.sort p
    in_mapping_bare column BehindKey p = behind_block_key_bare column t.sort p
    in_mapping_bare column stage p = behind_indicator_bare column stage p

    dash_in : (q p : ParserState) (indentless : Bool) → q ≡ bare_state keep p
        → Alike keep (take_dash o u NextEntry indentless q) (take_dash o t NextEntry indentless p)
    dash_in q p indentless e = subst (λ (q : ParserState). Alike keep (take_dash o u NextEntry indentless q)
        (take_dash o t NextEntry indentless p)) (sym e) (dash_bare keep o t NextEntry indentless p)

    in_sequence_bare : (column : ℕ) (indentless : Bool) (p : ParserState)
        → Alike keep (in_sequence o u column indentless (bare_state keep p)) (in_sequence o t column indentless p)
    unfolding in_sequence
    in_sequence_bare column indentless p =
        alike_if keep _ _ _ _ _ _ refl (dash_in (give_empty (bare_state keep p)) (give_empty p) indentless
        (give_empty_bare keep p))
        (alike_if keep _ _ _ _ _ _ (none_bare p.waiting) (refused keep _)
        (alike_if keep _ _ _ _ _ _ refl (node_bare keep o t p) (refused keep _)))

    -- ---- flow collections

    close_flow_bare : (p : ParserState) → close_flow u (bare_state keep p) ≡ bare_state keep (close_flow t p)
    close_flow_bare p = end_node_bare keep t.lexeme.start (record { start = t.lexeme.start; end = t.lexeme.shown.end })
        p

    flow_at_bare : (single : Bool) (stage : PairStage) (p : ParserState)
        → flow_at single stage (bare_state keep p) ≡ bare_state keep (flow_at single stage p)
    flow_at_bare single stage p = ap (with_top (FlowMapping single stage)) (flush_bare keep p)
        ∙ top_bare keep (FlowMapping single stage) (flush p) refl

    flow_colon_bare : (single : Bool) (p : ParserState)
        → flow_colon o u single (bare_state keep p) ≡ bare_state keep (flow_colon o t single p)
    flow_colon_bare single p = ap (waits (bare_mark keep t.lexeme.start) o.max_buffered_comment_events)
        (flow_at_bare single AtValue p) ∙ waits_here (flow_at single AtValue p)

    flow_null_bare : (single : Bool) (p : ParserState)
        → flow_colon o u single (give (null_at (bare_mark keep t.lexeme.start)) (bare_state keep p))
        ≡ bare_state keep (flow_colon o t single (give (null_at t.lexeme.start) p))
    flow_null_bare single p = ap (flow_colon o u single) (null_bare keep t.lexeme.start p)
        ∙ flow_colon_bare single (give (null_at t.lexeme.start) p)

    begin_pair_bare : (end : Mark) (f : Frame) (p : ParserState) → IsPlaceless keep f
        → begin_pair u (bare_mark keep end) f (bare_state keep p) ≡ bare_state keep (begin_pair t end f p)
    begin_pair_bare end f p h =
        let q = give (event_at (events.MappingStart Flow 0 None) (record { start = t.lexeme.start; end = end })) p in
        ap (λ (q : ParserState). record q { frames = f ∷ q.frames })
        (give_bare keep (event_at (events.MappingStart Flow 0 None) (record { start = t.lexeme.start; end = end })) p)
        ∙ reframed keep (f ∷ bare_frames keep q.frames) (f ∷ q.frames) q
        (ap (λ (g : Frame). g ∷ bare_frames keep q.frames) (sym h))

    at_entry_bare : (sort : TokenSort) (p : ParserState)
        → Alike keep (at_entry o u sort (bare_state keep p)) (at_entry o t sort p)
    at_entry_bare SequenceCloser p = alike_ok keep _ _ (close_flow_bare p)
    at_entry_bare QuestionToken p = alike_ok keep _ _ (begin_pair_bare t.lexeme.shown.end (FlowPair AtQuestion) p refl)
    at_entry_bare BareColon p =
        alike_ok keep _ _ (ap (λ (q : ParserState). flow_colon o u true
        (give (null_at (bare_mark keep t.lexeme.start)) q))
        (begin_pair_bare t.lexeme.start (FlowMapping true BeforePair) p refl)
        ∙ flow_null_bare true (begin_pair t t.lexeme.start (FlowMapping true BeforePair) p))
    at_entry_bare BeginsKey p = bare_in _ (begin_pair t t.lexeme.start (FlowMapping true AtKey) p)
        (begin_pair_bare t.lexeme.start (FlowMapping true AtKey) p refl)
    at_entry_bare BeginsNode p = bare_bare keep o t p
    at_entry_bare sort p = refused keep _

    behind_entry_bare : (sort : TokenSort) (p : ParserState)
        → Alike keep (behind_entry_of u sort (bare_state keep p)) (behind_entry_of t sort p)
    behind_entry_bare SequenceCloser p = alike_ok keep _ _ (close_flow_bare p)
    behind_entry_bare CommaToken p = alike_ok keep _ _ (top_bare keep (FlowSequence false) p refl)
    behind_entry_bare sort p = refused keep _

    flow_sequence_bare : (behind : Bool) (p : ParserState)
        → Alike keep (in_flow_sequence o u behind (bare_state keep p)) (in_flow_sequence o t behind p)
    flow_sequence_bare false p = at_entry_bare t.sort p
    flow_sequence_bare true p = behind_entry_bare t.sort p

    flow_mapping_bare : (single : Bool) (stage : PairStage) (sort : TokenSort) (p : ParserState)
        → Alike keep (in_flow_mapping_by o u single stage sort (bare_state keep p))
        (in_flow_mapping_by o t single stage sort p)
    flow_mapping_bare single AtKey BeginsNode p = bare_bare keep o t p
    flow_mapping_bare single AtKey sort p = refused keep _
    flow_mapping_bare single BehindKey KeyedColon p = alike_ok keep _ _ (flow_colon_bare single p)
    flow_mapping_bare single BehindKey sort p = refused keep _
    flow_mapping_bare single stage MappingCloser p = alike_ok keep _ _ (close_flow_bare p)
    flow_mapping_bare single BeforePair CommaToken p = refused keep _
    flow_mapping_bare single stage CommaToken p = alike_ok keep _ _
        (ap (flow_at single BeforePair) (owed_bare keep t.lexeme.start p)
        ∙ flow_at_bare single BeforePair (owed t.lexeme.start p))
    flow_mapping_bare single BeforePair QuestionToken p = alike_ok keep _ _ (flow_at_bare single AtQuestion p)
    flow_mapping_bare single BeforePair BeginsKey p = bare_in _ (flow_at single AtKey p) (flow_at_bare single AtKey p)
    flow_mapping_bare single BeforePair BareColon p = alike_ok keep _ _ (flow_null_bare single p)
    flow_mapping_bare single AtQuestion BareColon p = alike_ok keep _ _ (flow_null_bare single p)
    flow_mapping_bare single BehindQuestion BareColon p = alike_ok keep _ _ (flow_colon_bare single p)
    flow_mapping_bare single BeforePair BeginsNode p = bare_bare keep o t p
    flow_mapping_bare single AtQuestion BeginsNode p = bare_bare keep o t p
    flow_mapping_bare single AtValue BeginsNode p = bare_bare keep o t p
    flow_mapping_bare single BeforePair sort p = refused keep _
    flow_mapping_bare single AtQuestion sort p = refused keep _
    flow_mapping_bare single AtValue sort p = refused keep _
    flow_mapping_bare single stage sort p = refused keep _

    flow_pair_bare : (stage : PairStage) (sort : TokenSort) (p : ParserState)
        → Alike keep (in_flow_pair o u stage sort (bare_state keep p)) (in_flow_pair o t stage sort p)
    flow_pair_bare BehindQuestion sort p = alike_ok keep _ _ (top_bare keep (FlowPair AtValue) p refl)
    flow_pair_bare stage BeginsNode p = bare_bare keep o t p
    flow_pair_bare stage sort p = refused keep _

    -- ---- documents

    node_in : (q p : ParserState) → q ≡ bare_state keep p → Alike keep (node o u q) (node o t p)
    node_in q p e = subst (λ (q : ParserState). Alike keep (node o u q) (node o t p)) (sym e) (node_bare keep o t p)

    at_root_bare : (p : ParserState) → Alike keep (at_root o u (bare_state keep p)) (at_root o t p)
    at_root_bare p = alike_if keep _ _ _ _ _ _ refl (node_bare keep o t p) (refused keep _)

    with_version_bare : (known : Option PlainVersion) (major minor : ℕ) (p : ParserState)
        → Alike keep (with_version u known major minor (bare_state keep p)) (with_version t known major minor p)
    with_version_bare (Some v) major minor p = refused keep _
    with_version_bare None major minor p = alike_if keep _ _ _ _ _ _ refl (alike_ok keep _ _ refl) (refused keep _)

    with_handle_bare : (version : Option PlainVersion) (handle prefix : List ℕ) (known : Option (List ℕ))
        (p : ParserState) → Alike keep (with_handle o u version handle prefix known (bare_state keep p))
        (with_handle o t version handle prefix known p)
    with_handle_bare version handle prefix (Some known) p = refused keep _
    with_handle_bare version handle prefix None p = alike_ok keep _ _ refl

    open_document_bare : (version : Option PlainVersion) (p : ParserState)
        → Alike keep (open_document u version (bare_state keep p)) (open_document t version p)
    open_document_bare version p =
        alike_ok keep _ _ (ap (λ (q : ParserState). record q { frames = Root true ∷ q.frames })
        (give_bare keep (event_at (events.DocumentStart true version) t.lexeme.shown)
        (record p { names = []; stage = Inside })))

    directive_bare : (d : DirectiveKind) (version : Option PlainVersion) (p : ParserState)
        → Alike keep (with_directive o u d version (bare_state keep p)) (with_directive o t d version p)
    directive_bare (Version major minor) version p = with_version_bare version major minor p
    directive_bare (TagPrefix handle prefix) version p = with_handle_bare version handle prefix
        (lookup_text handle p.handles) p
    directive_bare (Reserved name parameters) version p = alike_ok keep _ _ refl

    directives_bare : (kind : LexemeKind) (version : Option PlainVersion) (p : ParserState)
        → Alike keep (behind_directives o (bare_word keep t.lexeme.shown.start t.lexeme.shown.end kind) u version
        (bare_state keep p)) (behind_directives o kind t version p)
    directives_bare (lexemes.Directive d) version p = directive_bare d version p
    directives_bare lexemes.DocumentStart version p = open_document_bare version p
    directives_bare kind version p = refused keep _

    start_bare : (sort : TokenSort) → bare_start sort u ≡ bare_event keep (bare_start sort t)
    start_bare BeginsNode = refl
    start_bare sort = refl

    begin_document_bare : (p : ParserState) → Alike keep (begin_document o u (bare_state keep p)) (begin_document o t p)
    begin_document_bare p =
        let r = record p { names = []; handles = []; stage = Inside } in
        alike_if keep _ _ _ _ _ _ refl (node_in _ (record
        (give (bare_start t.sort t) r) { frames = Root false ∷ (give (bare_start t.sort t) r).frames })
        (ap (λ (e : PlainEvent). let q = give e (bare_state keep r) in record q { frames = Root false ∷ q.frames })
        (start_bare t.sort) ∙ ap (λ (q : ParserState). record q { frames = Root false ∷ q.frames })
        (give_bare keep (bare_start t.sort t) r))) (refused keep _)

    stream_end_bare : (p : ParserState) → Alike keep
        (Ok (give (event_at events.StreamEnd (bare_source keep t.lexeme.shown)) (bare_state keep p)))
        (Ok (give (event_at events.StreamEnd t.lexeme.shown) p))
    stream_end_bare p = alike_ok keep _ _ (give_bare keep (event_at events.StreamEnd t.lexeme.shown) p)

    fresh_bare : (kind : LexemeKind) (p : ParserState)
        → Alike keep (when_fresh o (bare_word keep t.lexeme.shown.start t.lexeme.shown.end kind) u (bare_state keep p))
        (when_fresh o kind t p)
    fresh_bare lexemes.DocumentEnd p = alike_ok keep _ _ (flush_bare keep p)
    fresh_bare lexemes.StreamEnd p = stream_end_bare p
    fresh_bare (lexemes.Directive d) p = directive_bare d None (without_directives p)
    fresh_bare lexemes.DocumentStart p = open_document_bare None (record p { handles = [] })
    fresh_bare kind p = begin_document_bare p

    between_bare : (kind : LexemeKind) (p : ParserState)
        → Alike keep (when_between (bare_word keep t.lexeme.shown.start t.lexeme.shown.end kind) u (bare_state keep p))
        (when_between kind t p)
    between_bare (lexemes.Directive d) p = refused keep _
    between_bare lexemes.DocumentStart p = open_document_bare None (record p { handles = [] })
    between_bare lexemes.StreamEnd p = stream_end_bare p
    between_bare kind p = refused keep _

    end_document_bare : (s : Source) (stage : DocumentStage) (p : ParserState)
        → end_document (bare_source keep s) stage (bare_state keep p) ≡ bare_state keep (end_document s stage p)
    end_document_bare s stage p = ap (λ (q : ParserState). record q { handles = []; stage = stage })
        (give_bare keep (event_at events.DocumentEnd s) p)

    behind_root_bare : (kind : LexemeKind) (p : ParserState)
        → Alike keep (behind_root (bare_word keep t.lexeme.shown.start t.lexeme.shown.end kind) u (bare_state keep p))
        (behind_root kind t p)
    behind_root_bare lexemes.DocumentEnd p = alike_ok keep _ _ (end_document_bare t.lexeme.shown Fresh p)
    behind_root_bare kind p =
        let q = end_document (empty_span p.last_end) Between p in
        subst (λ (r : ParserState). Alike keep
        (when_between (bare_word keep t.lexeme.shown.start t.lexeme.shown.end kind) u r) (when_between kind t q))
        (sym (end_document_bare (empty_span p.last_end) Between p)) (between_bare kind q)

    outside_bare : (stage : DocumentStage) (p : ParserState)
        → Alike keep (outside o stage u (bare_state keep p)) (outside o stage t p)
    outside_bare Fresh p = fresh_bare t.lexeme.kind p
    outside_bare (Directives version) p = directives_bare t.lexeme.kind version p
    outside_bare BehindRoot p = behind_root_bare t.lexeme.kind p
    outside_bare Between p = between_bare t.lexeme.kind p
    outside_bare Inside p = refused keep _

    -- ---- a token at the open place

    token_bare : (fs : List Frame) (p : ParserState)
        → Alike keep (take_in o (bare_frames keep fs) u (bare_state keep p)) (take_in o fs t p)
    token_bare [] p = outside_bare p.stage p
    token_bare (Root explicit ∷ fs) p = at_root_bare p
    token_bare (WithProperties r ∷ fs) p = node_bare keep o t p
    token_bare (BlockSequence column indentless ∷ fs) p = in_sequence_bare column indentless p
    token_bare (BlockMapping column stage ∷ fs) p = in_mapping_bare column stage p
    token_bare (FlowSequence behind_entry ∷ fs) p = flow_sequence_bare behind_entry p
    token_bare (FlowMapping single stage ∷ fs) p = flow_mapping_bare single stage t.sort p
    token_bare (FlowPair stage ∷ fs) p = flow_pair_bare stage t.sort p

    -- ---- what a token ends

    no_anchor_bare : (q : NodeProperties) → is_none (bare_anchor keep q.anchor) ≡ is_none q.anchor
    no_anchor_bare q = on q.anchor
      where
        on : (a : _) → is_none (bare_anchor keep a) ≡ is_none a
        on None = refl
        on (Some a) = refl

    no_tag_bare : (q : NodeProperties) → is_none (bare_tag keep q.tag) ≡ is_none q.tag
    no_tag_bare q = on q.tag
      where
        on : (a : _) → is_none (bare_tag keep a) ≡ is_none a
        on None = refl
        on (Some a) = refl

    by_kind_bare : (right in_flow indentless : Bool) (q : NodeProperties) (sort : TokenSort) (kind : LexemeKind)
        → goes_on_by_kind right in_flow indentless (bare_properties keep q) sort
        (bare_word keep t.lexeme.shown.start t.lexeme.shown.end kind)
        ≡ goes_on_by_kind right in_flow indentless q sort kind
    by_kind_bare right in_flow indentless q sort (lexemes.Anchor name) = ap (λ b. right && b) (no_anchor_bare q)
    by_kind_bare right in_flow indentless q sort (lexemes.Tag handle suffix) = ap (λ b. right && b) (no_tag_bare q)
    by_kind_bare right in_flow indentless q sort kind = refl

    goes_on_bare : (q : NodeProperties) (fs : List Frame)
        → goes_on_with u (bare_properties keep q) (bare_frames keep fs) ≡ goes_on_with t q fs
    unfolding goes_on_with
    goes_on_bare q fs =
        let right = λ (under : Option ℕ). t.lexeme.in_flow || is_right_of (token_column t) under in
        ap₂ (λ (under : Option ℕ) (indentless : Bool). if is_key_in_block t then t.lexeme.in_flow
        || is_right_of (token_column t) under else goes_on_by_kind
        (t.lexeme.in_flow || is_right_of (token_column t) under) t.lexeme.in_flow indentless (bare_properties keep q)
        t.sort u.lexeme.kind) (under_column_bare fs) (indentless_bare keep t.lexeme.start.place.column fs)
        ∙ ap (λ (b : Bool). if is_key_in_block t then t.lexeme.in_flow
        || is_right_of (token_column t) (under_column fs) else b)
        (by_kind_bare (t.lexeme.in_flow || is_right_of (token_column t) (under_column fs)) t.lexeme.in_flow
        (may_be_indentless t.lexeme.start.place.column fs) q t.sort t.lexeme.kind)

    ends_bare : (p : ParserState) (fs : List Frame)
        → ends_top u (bare_state keep p) (bare_frames keep fs) ≡ ends_top t p fs
    ends_bare p [] = refl
    ends_bare p (Root explicit ∷ fs) = refl
    ends_bare p (WithProperties q ∷ fs) = ap not (goes_on_bare q fs)
    ends_bare p (BlockSequence column indentless ∷ fs) =
        ap (λ (b : Bool). Rattle.granit_machine.specs.TokenSort.ends_frame (token_column t) column
        || ((indentless && not (Rattle.granit_machine.specs.TokenSort.is_dash_token t.sort
        && Rattle.granit_machine.specs.TokenSort.is_in_column (token_column t) column))
        && (b || (Rattle.granit_machine.specs.TokenSort.is_in_column (token_column t) column
        && Rattle.granit_machine.specs.TokenSort.begins_pair t.sort)))) (none_bare p.waiting)
    ends_bare p (BlockMapping column stage ∷ fs) = refl
    ends_bare p (FlowSequence behind_entry ∷ fs) = refl
    ends_bare p (FlowMapping single stage ∷ fs) = refl
    ends_bare p (FlowPair stage ∷ fs) = refl

    end_top_bare : (fs : List Frame) (p : ParserState)
        → end_top o u (bare_state keep p) (bare_frames keep fs) ≡ bare_state keep (end_top o t p fs)
    end_top_bare (Root explicit ∷ fs) p = ap Rattle.granit_machine.specs.NodeEnds.finish (null_bare keep p.last_end p)
        ∙ finish_bare keep (give (null_at p.last_end) p)
    end_top_bare (WithProperties r ∷ fs) p = end_properties_bare keep o r p
    end_top_bare fs p = end_node_bare keep t.lexeme.start (token_start t) p

    abbrev bare_closed : Result (List PlainEvent × ParserState) Fault → Result (List PlainEvent × ParserState) Fault
    bare_closed (Ok r) = Ok (r.0, bare_state keep r.1)
    bare_closed (Err f) = Err (bare_fault keep f)

    front_bare : (r : Result (List PlainEvent × ParserState) Fault)
        → with_front [] (bare_closed r) ≡ bare_closed (with_front [] r)
    front_bare (Ok r) = refl
    front_bare (Err f) = refl

    turns_bare : (n : ℕ) (p : ParserState) → turns (close_turn o u) n (bare_state keep p)
        ≡ bare_closed (turns (close_turn o t) n p)
    unfolding turns close_turn
    turns_bare zero p = refl
    turns_bare (suc n) p =
        ap (λ (b : Bool). ◌>>=◌ {A = Option (List PlainEvent) × ParserState}
        (if b then Ok (Some [], end_top o u (bare_state keep p) (bare_frames keep p.frames)) else Ok
        (None, bare_state keep p))
        (λ r. then_more (turns (close_turn o u) n) r.0 r.1)) (ends_bare p p.frames)
        ∙ on (ends_top t p p.frames) (ap (λ (q : ParserState). with_front [] (turns (close_turn o u) n q))
        (end_top_bare p.frames p) ∙ ap (with_front []) (turns_bare n (end_top o t p p.frames))
        ∙ front_bare (turns (close_turn o t) n (end_top o t p p.frames)))
      where
        on : (v : Bool) → with_front [] (turns (close_turn o u) n
            (end_top o u (bare_state keep p) (bare_frames keep p.frames)))
            ≡ bare_closed (with_front [] (turns (close_turn o t) n (end_top o t p p.frames)))
            → ◌>>=◌ {A = Option (List PlainEvent) × ParserState}
            (if v then Ok (Some [], end_top o u (bare_state keep p) (bare_frames keep p.frames)) else Ok
            (None, bare_state keep p))
            (λ r. then_more (turns (close_turn o u) n) r.0 r.1)
            ≡ bare_closed (◌>>=◌ {A = Option (List PlainEvent) × ParserState}
            (if v then Ok (Some [], end_top o t p p.frames) else Ok (None, p))
            (λ r. then_more (turns (close_turn o t) n) r.0 r.1))
        on true e = e
        on false e = refl

    closed_step : (r : Result (List PlainEvent × ParserState) Fault)
        → Alike keep (bare_closed r >>= λ r. Ok r.1) (r >>= λ r. Ok r.1)
    closed_step (Ok r) = alike_ok keep r.1 (bare_state keep r.1) refl
    closed_step (Err f) = refused keep f

    depth_bare : (p : ParserState) → depth (bare_state keep p) ≡ depth p
    depth_bare p = length-map p.frames (bare_frame keep)

    close_bare : (p : ParserState) → Alike keep (close o u (bare_state keep p)) (close o t p)
    unfolding pieces
    close_bare p =
        subst (λ (r : Result (List PlainEvent × ParserState) Fault). Alike keep (r >>= λ r. Ok r.1) (close o t p))
        (sym (ap (λ n. turns (close_turn o u) (suc n) (bare_state keep p)) (depth_bare p)
        ∙ turns_bare (suc (depth p)) p))
        (closed_step (turns (close_turn o t) (suc (depth p)) p))

  -- ---- comments

  hold_bare : (c : CommentRead) (e : PlainEvent) (w : Option Waiting) (p : ParserState)
      → Alike keep (hold (bare_comment keep c) (bare_event keep e) (bare_waiting keep w) (bare_state keep p))
      (hold c e w p)
  hold_bare c e None p = alike_ok keep _ _ (ap (λ es. record (bare_state keep p) { given = es })
      (sym (map-append (bare_event keep) p.given (e ∷ []))))
  hold_bare c e (Some w) p =
      alike_if keep _ _ _ _ _ _ refl (refused keep _) (alike_ok keep _ _
      (ap (λ es. record (bare_state keep p) {
        waiting = Some
            (record { at = bare_mark keep w.at; room = w.room - 1; held = es });
      })
      (sym (map-append (bare_event keep) w.held (e ∷ [])))))

  comment_bare : (c : CommentRead) (next : Option ℕ) (p : ParserState)
      → Alike keep (take_comment (bare_comment keep c) next (bare_state keep p)) (take_comment c next p)
  comment_bare c next p = hold_bare c (event_at (events.Comment c.text (placed c next)) c.source) p.waiting p

  tail_bare : (start end : Mark) (kind : LexemeKind) (tail : Option CommentRead) (next : Option ℕ) (p : ParserState)
      → Alike keep (take_tail (bare_word keep start end kind) (bare_tail keep tail) next (bare_state keep p))
      (take_tail kind tail next p)
  tail_bare start end lexemes.Dash tail next p = alike_ok keep _ _ refl
  tail_bare start end kind None next p = alike_ok keep _ _ refl
  tail_bare start end kind (Some c) next p = comment_bare c next p

  -- ---- items

  sort_bare : (start end : Mark) (begins_key : Bool) (key : Option KeyStart) (kind : LexemeKind)
      → token_sort begins_key (bare_key keep key) (bare_word keep start end kind) ≡ token_sort begins_key key kind
  sort_bare start end begins_key None lexemes.Colon = refl
  sort_bare start end begins_key (Some k) lexemes.Colon = refl
  sort_bare start end begins_key key kind = refl

  lexeme_bare : (o : OptionsData) (t : Token) (next : Option ℕ) (p : ParserState)
      → Alike keep (take_lexeme o (bare_token keep t) next (bare_state keep p)) (take_lexeme o t next p)
  lexeme_bare o t next p =
      alike_then keep (close o (bare_token keep t) (bare_state keep p) >>= take_token o (bare_token keep t))
      (close o t p >>= take_token o t)
      _ _
      (alike_then keep (close o (bare_token keep t) (bare_state keep p)) (close o t p)
      (take_token o (bare_token keep t)) (take_token o t)
      (close_bare o t p) (λ q. token_bare o t q.frames q))
      (λ q. tail_bare t.lexeme.shown.start t.lexeme.shown.end t.lexeme.kind t.lexeme.tail next q)

  item_bare : (o : OptionsData) (i : Item) (begins_key : Bool) (next : Option ℕ) (p : ParserState)
      → Alike keep (take_item o (bare_item keep i) begins_key next (bare_state keep p))
      (take_item o i begins_key next p)
  item_bare o (OfComment c) begins_key next p = comment_bare c next p
  item_bare o (OfLexeme l) begins_key next p =
      subst (λ (sort : TokenSort). Alike keep (take_lexeme o (record { lexeme = bare_lexeme keep l; sort = sort }) next
      (bare_state keep p)) (take_item o (OfLexeme l) begins_key next p))
      (sym (sort_bare l.shown.start l.shown.end begins_key l.key l.kind))
      (lexeme_bare o (token_of begins_key l) next p)

  fed_by : (r s : Stepped) → Alike keep r s → (r >>= λ q. Ok (q.given, record q { given = [] }))
      ≡ bare_fed keep (s >>= λ q. Ok (q.given, record q { given = [] }))
  fed_by r (Ok p) e = ap (λ (r : Stepped). r >>= λ q. Ok (q.given, record q { given = [] })) e.is
  fed_by r (Err f) e = ap (λ (r : Stepped). r >>= λ q. Ok (q.given, record q { given = [] })) e.is

  feed_bare : (o : OptionsData) (i : FlaggedItem) (next : Option ℕ) (p : ParserState)
      → feed o (bare_flagged keep i) next (bare_state keep p) ≡ bare_fed keep (feed o i next p)
  unfolding feed
  feed_bare o i next p = fed_by (take_item o (bare_item keep i.item) i.begins_key next (bare_state keep p))
      (take_item o i.item i.begins_key next p) (item_bare o i.item i.begins_key next p)

  keyed_bare : (key : Option KeyStart) → is_some (bare_key keep key) ≡ is_some key
  keyed_bare None = refl
  keyed_bare (Some k) = refl

  line_by : (start end : Mark) (kind : LexemeKind) (l : Lexeme) (flag : Bool)
      → line_of_lexeme (bare_word keep start end kind) (bare_lexeme keep l) flag ≡ line_of_lexeme kind l flag
  line_by start end lexemes.StreamEnd l flag = refl
  line_by start end kind l flag = refl

  line_bare : (i : Item) (flag : Bool) → line_of_item (bare_item keep i) flag ≡ line_of_item i flag
  line_bare (OfComment c) flag = refl
  line_bare (OfLexeme l) flag =
      ap (λ b. line_of_lexeme (bare_word keep l.shown.start l.shown.end l.kind) (bare_lexeme keep l) (flag || b))
      (keyed_bare l.key) ∙ line_by l.shown.start l.shown.end l.kind l (flag || is_some l.key)

  next_bare : (is : List FlaggedItem) → next_line (map (bare_flagged keep) is) ≡ next_line is
  next_bare [] = refl
  next_bare (i ∷ is) = line_bare i.item i.begins_key

  fronts_bare : (es : List PlainEvent) (r : Result (List PlainEvent × ParserState) Fault)
      → with_front (bare_events keep es) (bare_fed keep r) ≡ bare_fed keep (with_front es r)
  fronts_bare es (Ok r) = ap (λ (es : List PlainEvent). let x : Result (List PlainEvent × ParserState) Fault = Ok
      (es, bare_state keep r.1) in x) (sym (map-append (bare_event keep) es r.0))
  fronts_bare es (Err f) = refl

  fed_then : (r : Result (List PlainEvent × ParserState) Fault)
      (f g : ParserState → Result (List PlainEvent × ParserState) Fault)
      → ((p : ParserState) → f (bare_state keep p) ≡ bare_fed keep (g p))
      → (bare_fed keep r >>= λ y. with_front y.0 (f y.1)) ≡ bare_fed keep (r >>= λ y. with_front y.0 (g y.1))
  fed_then (Ok r) f g h = ap (with_front (bare_events keep r.0)) (h r.1) ∙ fronts_bare r.0 (g r.1)
  fed_then (Err e) f g h = refl

  pub feed_all_bare : (o : OptionsData) (is : List FlaggedItem) (p : ParserState)
      → feed_all o (map (bare_flagged keep) is) (bare_state keep p) ≡ bare_fed keep (feed_all o is p)
  feed_all_bare o [] p = refl
  feed_all_bare o (i ∷ is) p =
      ap (λ next. feed o (bare_flagged keep i) next (bare_state keep p) >>= λ y. with_front y.0
      (feed_all o (map (bare_flagged keep) is) y.1)) (next_bare is)
      ∙ ap (λ r. r >>= λ y. with_front y.0 (feed_all o (map (bare_flagged keep) is) y.1))
      (feed_bare o i (next_line is) p)
      ∙ fed_then (feed o i (next_line is) p) (feed_all o (map (bare_flagged keep) is)) (feed_all o is)
      (λ q. feed_all_bare o is q)
