-- Items are fed to the same events wherever a text stands.
use Rattle.std.proofs.Common.{◌≡◌, ℕ, zero, suc, ◌-◌, ◌&&◌, ◌||◌, not, Bool, true, false, List, [], ◌∷◌, map, Option}
use Rattle.std.proofs.Common.{Some, None, Result, Ok, Err, refl, sym, ap, ap₂, ◌∙◌, subst}
use Rattle.std.specs.Prelude.{is_none, is_some, if◌then◌else◌}
use Rattle.std.proofs.lemmas.List.{map-append, length-map}
use Rattle.granit_base.specs.Place.{Mark}
use Rattle.granit_base.specs.declared.style.Placement.{Placement}
use Rattle.granit_base.specs.declared.style.Placement.TheVariants.{Above, Right, Free}
use Rattle.granit_base.specs.declared.style.StructureStyle.TheVariants.{Flow}
use Rattle.granit_error.specs.OptionsData.{OptionsData}
use Rattle.granit_lexemes.specs.Comment.{CommentRead}
use Rattle.granit_lexemes.specs.Lexeme.{DirectiveKind, Version, TagPrefix, Reserved, LexemeKind, KeyStart, Lexeme, Item}
use Rattle.granit_lexemes.specs.Lexeme.{OfLexeme, OfComment}
use Rattle.granit_lexemes.specs.Lexeme as lexemes
use Rattle.granit_lexemes.specs.Outcome.{Fault, ◌>>=◌}
use Rattle.granit_lexemes.specs.Pieces.{with_front, then_more, turns, pieces}
use Rattle.granit_lexemes.specs.PlainEvent.{PlainEvent, PlainVersion, event_at}
use Rattle.granit_lexemes.specs.PlainEvent as events
use Rattle.granit_lexemes.specs.Source.{Source}
use Rattle.granit_machine.specs.BlockSteps.{in_sequence, mapping_at, mapping_colon, bare_colon_in_mapping, next_pair}
use Rattle.granit_machine.specs.BlockSteps.{behind_indicator, at_block_key, behind_block_key, in_mapping}
use Rattle.granit_machine.specs.Closing.{goes_on_with, goes_on_by_kind, ends_top, token_start, end_top, close_turn}
use Rattle.granit_machine.specs.Closing.{depth, close}
use Rattle.granit_machine.specs.FlowSteps.{close_flow, flow_at, flow_colon, begin_pair, at_entry, behind_entry_of}
use Rattle.granit_machine.specs.FlowSteps.{in_flow_sequence, in_flow_mapping_by, in_flow_pair}
use Rattle.granit_machine.specs.Frames.{PairStage, BeforePair, AtKey, BehindKey, AtQuestion, BehindQuestion, AtValue}
use Rattle.granit_machine.specs.Frames.{NodeProperties, Frame, Root, WithProperties, BlockSequence, BlockMapping}
use Rattle.granit_machine.specs.Frames.{FlowSequence, FlowMapping, FlowPair, DocumentStage, Fresh, Directives, Inside}
use Rattle.granit_machine.specs.Frames.{BehindRoot, Between, Waiting, ParserState}
use Rattle.granit_machine.specs.Giving.{null_at, with_indent, flush, give, give_empty}
use Rattle.granit_machine.specs.Lexing.{FlaggedItem}
use Rattle.granit_machine.specs.Machine.{feed_all}
use Rattle.granit_machine.specs.NodeEnds.{owed, empty_span, under_column, may_be_indentless}
use Rattle.granit_machine.specs.NodeEnds.{waits, with_top}
use Rattle.granit_machine.specs.NodeSteps.{Stepped, NextEntry, take_dash, bare, node}
use Rattle.granit_machine.specs.Entries.{lookup_text, remembered}
use Rattle.granit_machine.specs.Parser.{take_in, take_token, placed, placed_by_line, line_of_lexeme, line_of_item}
use Rattle.granit_machine.specs.Parser.{next_line, hold}
use Rattle.granit_machine.specs.Parser.{take_comment, take_tail, take_lexeme, take_item, feed}
use Rattle.granit_machine.specs.StreamSteps.{at_root, with_version, with_handle, open_document, with_directive}
use Rattle.granit_machine.specs.StreamSteps.{behind_directives, bare_start, begin_document, without_directives}
use Rattle.granit_machine.specs.StreamSteps.{when_fresh, when_between, end_document, behind_root, outside}
use Rattle.granit_machine.specs.TokenSort.{TokenSort, BeginsKey, BeginsNode, QuestionToken, BareColon, KeyedColon}
use Rattle.granit_machine.specs.TokenSort.{CommaToken, SequenceCloser, MappingCloser, Token, token_sort, token_of}
use Rattle.granit_machine.specs.TokenSort.{token_column, is_right_of, is_key_in_block}
use Rattle.granit_shifted.specs.Shift.{moved_mark, moved_source, moved_event, moved_events, moved_fault, moved_comment}
use Rattle.granit_shifted.specs.Shift.{moved_tail, moved_key, moved_lexeme, moved_item, moved_flagged, moved_anchor}
use Rattle.granit_shifted.specs.Shift.{moved_tag, moved_properties, moved_frame, moved_waiting, moved_state, moved_fed}
use Rattle.granit_shifted.specs.Shift.{Shift, moved_word, moved_line, moved_next, KeptFits, moved_text}
use Rattle.granit_shifted.proofs.Sums.{sum_eq_suc}
use Rattle.granit_moved.proofs.MovedSteps.{moved_frames, moved_token, Alike, alike_ok, refused, alike_if, alike_then}
use Rattle.granit_moved.proofs.MovedSteps.{flush_moved, give_moved, null_moved, give_empty_moved, indentless_moved}
use Rattle.granit_moved.proofs.MovedSteps.{reframed, finish_moved, owed_moved, end_node_moved, end_properties_moved}
use Rattle.granit_moved.proofs.MovedSteps.{IsPlaceless, waits_moved, top_moved, dash_moved, bare_moved, node_moved}
use Rattle.granit_moved.proofs.MovedSteps.{indented_moved, stays_moved}

module _ (shift : Shift) where
  none_moved : (w : Option Waiting) → is_none (moved_waiting shift w) ≡ is_none w
  none_moved None = refl
  none_moved (Some w) = refl

  under_column_moved : (fs : List Frame) → under_column (moved_frames shift fs) ≡ under_column fs
  under_column_moved [] = refl
  under_column_moved (WithProperties q ∷ fs) = under_column_moved fs
  under_column_moved (Root explicit ∷ fs) = under_column_moved fs
  under_column_moved (BlockSequence column indentless ∷ fs) = refl
  under_column_moved (BlockMapping column stage ∷ fs) = refl
  under_column_moved (FlowSequence behind ∷ fs) = under_column_moved fs
  under_column_moved (FlowMapping single stage ∷ fs) = under_column_moved fs
  under_column_moved (FlowPair stage ∷ fs) = under_column_moved fs

  -- a state with an event, then another change that tells no place
  module _ (o : OptionsData) (t : Token) (fits : KeptFits o shift) where
    abbrev u : Token
    u = moved_token shift t

    -- ---- block collections

    mapping_at_moved : (column : ℕ) (stage : PairStage) (p : ParserState)
        → mapping_at column stage (moved_state shift p) ≡ moved_state shift (mapping_at column stage p)
    mapping_at_moved column stage p = ap (with_top (BlockMapping column stage)) (flush_moved shift p)
        ∙ top_moved shift (BlockMapping column stage) (flush p) refl

    waits_here : (p : ParserState) → waits (moved_mark shift t.lexeme.start) o.max_buffered_comment_events
        (moved_state shift p)
        ≡ moved_state shift (waits t.lexeme.start o.max_buffered_comment_events p)
    waits_here p = waits_moved shift t.lexeme.start o.max_buffered_comment_events p

    mapping_colon_moved : (column : ℕ) (p : ParserState)
        → mapping_colon o u column (moved_state shift p) ≡ moved_state shift (mapping_colon o t column p)
    mapping_colon_moved column p = ap (waits (moved_mark shift t.lexeme.start) o.max_buffered_comment_events)
        (mapping_at_moved column AtValue p) ∙ waits_here (mapping_at column AtValue p)

    bare_colon_moved : (column : ℕ) (stage : PairStage) (p : ParserState)
        → bare_colon_in_mapping o u column stage (moved_state shift p)
        ≡ moved_state shift (bare_colon_in_mapping o t column stage p)
    bare_colon_moved column AtQuestion p =
        ap (mapping_colon o u column) (indented_moved shift (Some column) t.lexeme.start p)
        ∙ mapping_colon_moved column (give (with_indent (Some column) (null_at t.lexeme.start)) p)
    bare_colon_moved column BehindQuestion p = mapping_colon_moved column p
    bare_colon_moved column stage p =
        ap (λ (q : ParserState). mapping_colon o u column (give (null_at (moved_mark shift t.lexeme.start)) q))
        (owed_moved shift t.lexeme.start p) ∙ ap (mapping_colon o u column)
        (null_moved shift t.lexeme.start (owed t.lexeme.start p))
        ∙ mapping_colon_moved column (give (null_at t.lexeme.start) (owed t.lexeme.start p))

    pair_at_moved : (column : ℕ) (stage : PairStage) (p : ParserState)
        → mapping_at column stage (owed (moved_mark shift t.lexeme.start) (moved_state shift p))
        ≡ moved_state shift (mapping_at column stage (owed t.lexeme.start p))
    pair_at_moved column stage p = ap (mapping_at column stage) (owed_moved shift t.lexeme.start p)
        ∙ mapping_at_moved column stage (owed t.lexeme.start p)

    -- a bare lexeme in a state that is the same
    bare_in : (q p : ParserState) → q ≡ moved_state shift p → Alike shift (bare o u q) (bare o t p)
    bare_in q p e = subst (λ (q : ParserState). Alike shift (bare o u q) (bare o t p)) (sym e)
        (bare_moved shift o t fits p)

    next_pair_moved : (column : ℕ) (stage : PairStage) (sort : TokenSort) (p : ParserState)
        → Alike shift (next_pair o u column stage sort (moved_state shift p)) (next_pair o t column stage sort p)
    next_pair_moved column stage BeginsKey p = bare_in _ (mapping_at column AtKey (owed t.lexeme.start p))
        (pair_at_moved column AtKey p)
    next_pair_moved column stage QuestionToken p = alike_ok shift _ _ (pair_at_moved column AtQuestion p)
    next_pair_moved column stage sort p = alike_ok shift _ _ (bare_colon_moved column stage p)

    behind_indicator_moved : (column : ℕ) (stage : PairStage) (p : ParserState)
        → Alike shift (behind_indicator o u column stage (moved_state shift p)) (behind_indicator o t column stage p)
    unfolding behind_indicator
    behind_indicator_moved column stage p =
        alike_if shift _ _ _ _ _ _ refl (next_pair_moved column stage t.sort p)
        (alike_if shift _ _ _ _ _ _ refl (refused shift _)
        (alike_if shift _ _ _ _ _ _ refl (node_moved shift o t fits p) (refused shift _)))

    at_block_key_moved : (sort : TokenSort) (p : ParserState)
        → Alike shift (at_block_key o u sort (moved_state shift p)) (at_block_key o t sort p)
    at_block_key_moved BeginsNode p = bare_moved shift o t fits p
    at_block_key_moved sort p = refused shift _

    behind_block_key_moved : (column : ℕ) (sort : TokenSort) (p : ParserState)
        → Alike shift (behind_block_key o u column sort (moved_state shift p)) (behind_block_key o t column sort p)
    behind_block_key_moved column KeyedColon p = alike_ok shift _ _ (mapping_colon_moved column p)
    behind_block_key_moved column sort p = refused shift _

    in_mapping_moved : (column : ℕ) (stage : PairStage) (p : ParserState)
        → Alike shift (in_mapping o u column stage (moved_state shift p)) (in_mapping o t column stage p)
    in_mapping_moved column AtKey p = at_block_key_moved t.sort p
    in_mapping_moved column BehindKey p = behind_block_key_moved column t.sort p
    in_mapping_moved column stage p = behind_indicator_moved column stage p

    dash_in : (q p : ParserState) (indentless : Bool) → q ≡ moved_state shift p
        → Alike shift (take_dash o u NextEntry indentless q) (take_dash o t NextEntry indentless p)
    dash_in q p indentless e = subst (λ (q : ParserState). Alike shift (take_dash o u NextEntry indentless q)
        (take_dash o t NextEntry indentless p)) (sym e) (dash_moved shift o t fits NextEntry indentless p)

    in_sequence_moved : (column : ℕ) (indentless : Bool) (p : ParserState)
        → Alike shift (in_sequence o u column indentless (moved_state shift p)) (in_sequence o t column indentless p)
    unfolding in_sequence
    in_sequence_moved column indentless p =
        alike_if shift _ _ _ _ _ _ refl (dash_in (give_empty (moved_state shift p)) (give_empty p) indentless
        (give_empty_moved shift p))
        (alike_if shift _ _ _ _ _ _ (none_moved p.waiting) (refused shift _)
        (alike_if shift _ _ _ _ _ _ refl (node_moved shift o t fits p) (refused shift _)))

    -- ---- flow collections

    close_flow_moved : (p : ParserState) → close_flow u (moved_state shift p) ≡ moved_state shift (close_flow t p)
    close_flow_moved p = end_node_moved shift t.lexeme.start
        (record { start = t.lexeme.start; end = t.lexeme.shown.end })
        p

    flow_at_moved : (single : Bool) (stage : PairStage) (p : ParserState)
        → flow_at single stage (moved_state shift p) ≡ moved_state shift (flow_at single stage p)
    flow_at_moved single stage p = ap (with_top (FlowMapping single stage)) (flush_moved shift p)
        ∙ top_moved shift (FlowMapping single stage) (flush p) refl

    flow_colon_moved : (single : Bool) (p : ParserState)
        → flow_colon o u single (moved_state shift p) ≡ moved_state shift (flow_colon o t single p)
    flow_colon_moved single p = ap (waits (moved_mark shift t.lexeme.start) o.max_buffered_comment_events)
        (flow_at_moved single AtValue p) ∙ waits_here (flow_at single AtValue p)

    flow_null_moved : (single : Bool) (p : ParserState)
        → flow_colon o u single (give (null_at (moved_mark shift t.lexeme.start)) (moved_state shift p))
        ≡ moved_state shift (flow_colon o t single (give (null_at t.lexeme.start) p))
    flow_null_moved single p = ap (flow_colon o u single) (null_moved shift t.lexeme.start p)
        ∙ flow_colon_moved single (give (null_at t.lexeme.start) p)

    begin_pair_moved : (end : Mark) (f : Frame) (p : ParserState) → IsPlaceless shift f
        → begin_pair u (moved_mark shift end) f (moved_state shift p) ≡ moved_state shift (begin_pair t end f p)
    begin_pair_moved end f p h =
        let q = give (event_at (events.MappingStart Flow 0 None) (record { start = t.lexeme.start; end = end })) p in
        ap (λ (q : ParserState). record q { frames = f ∷ q.frames })
        (give_moved shift (event_at (events.MappingStart Flow 0 None) (record { start = t.lexeme.start; end = end })) p)
        ∙ reframed shift (f ∷ moved_frames shift q.frames) (f ∷ q.frames) q
        (ap (λ (g : Frame). g ∷ moved_frames shift q.frames) (sym h))

    at_entry_moved : (sort : TokenSort) (p : ParserState)
        → Alike shift (at_entry o u sort (moved_state shift p)) (at_entry o t sort p)
    at_entry_moved SequenceCloser p = alike_ok shift _ _ (close_flow_moved p)
    at_entry_moved QuestionToken p = alike_ok shift _ _
        (begin_pair_moved t.lexeme.shown.end (FlowPair AtQuestion) p refl)
    at_entry_moved BareColon p =
        alike_ok shift _ _ (ap (λ (q : ParserState). flow_colon o u true
        (give (null_at (moved_mark shift t.lexeme.start)) q))
        (begin_pair_moved t.lexeme.start (FlowMapping true BeforePair) p refl)
        ∙ flow_null_moved true (begin_pair t t.lexeme.start (FlowMapping true BeforePair) p))
    at_entry_moved BeginsKey p = bare_in _ (begin_pair t t.lexeme.start (FlowMapping true AtKey) p)
        (begin_pair_moved t.lexeme.start (FlowMapping true AtKey) p refl)
    at_entry_moved BeginsNode p = bare_moved shift o t fits p
    at_entry_moved sort p = refused shift _

    behind_entry_moved : (sort : TokenSort) (p : ParserState)
        → Alike shift (behind_entry_of u sort (moved_state shift p)) (behind_entry_of t sort p)
    behind_entry_moved SequenceCloser p = alike_ok shift _ _ (close_flow_moved p)
    behind_entry_moved CommaToken p = alike_ok shift _ _ (top_moved shift (FlowSequence false) p refl)
    behind_entry_moved sort p = refused shift _

    flow_sequence_moved : (behind : Bool) (p : ParserState)
        → Alike shift (in_flow_sequence o u behind (moved_state shift p)) (in_flow_sequence o t behind p)
    flow_sequence_moved false p = at_entry_moved t.sort p
    flow_sequence_moved true p = behind_entry_moved t.sort p

    flow_mapping_moved : (single : Bool) (stage : PairStage) (sort : TokenSort) (p : ParserState)
        → Alike shift (in_flow_mapping_by o u single stage sort (moved_state shift p))
        (in_flow_mapping_by o t single stage sort p)
    flow_mapping_moved single AtKey BeginsNode p = bare_moved shift o t fits p
    flow_mapping_moved single AtKey sort p = refused shift _
    flow_mapping_moved single BehindKey KeyedColon p = alike_ok shift _ _ (flow_colon_moved single p)
    flow_mapping_moved single BehindKey sort p = refused shift _
    flow_mapping_moved single stage MappingCloser p = alike_ok shift _ _ (close_flow_moved p)
    flow_mapping_moved single BeforePair CommaToken p = refused shift _
    flow_mapping_moved single stage CommaToken p = alike_ok shift _ _
        (ap (flow_at single BeforePair) (owed_moved shift t.lexeme.start p)
        ∙ flow_at_moved single BeforePair (owed t.lexeme.start p))
    flow_mapping_moved single BeforePair QuestionToken p = alike_ok shift _ _ (flow_at_moved single AtQuestion p)
    flow_mapping_moved single BeforePair BeginsKey p = bare_in _ (flow_at single AtKey p) (flow_at_moved single AtKey p)
    flow_mapping_moved single BeforePair BareColon p = alike_ok shift _ _ (flow_null_moved single p)
    flow_mapping_moved single AtQuestion BareColon p = alike_ok shift _ _ (flow_null_moved single p)
    flow_mapping_moved single BehindQuestion BareColon p = alike_ok shift _ _ (flow_colon_moved single p)
    flow_mapping_moved single BeforePair BeginsNode p = bare_moved shift o t fits p
    flow_mapping_moved single AtQuestion BeginsNode p = bare_moved shift o t fits p
    flow_mapping_moved single AtValue BeginsNode p = bare_moved shift o t fits p
    flow_mapping_moved single BeforePair sort p = refused shift _
    flow_mapping_moved single AtQuestion sort p = refused shift _
    flow_mapping_moved single AtValue sort p = refused shift _
    flow_mapping_moved single stage sort p = refused shift _

    flow_pair_moved : (stage : PairStage) (sort : TokenSort) (p : ParserState)
        → Alike shift (in_flow_pair o u stage sort (moved_state shift p)) (in_flow_pair o t stage sort p)
    flow_pair_moved BehindQuestion sort p = alike_ok shift _ _ (top_moved shift (FlowPair AtValue) p refl)
    flow_pair_moved stage BeginsNode p = bare_moved shift o t fits p
    flow_pair_moved stage sort p = refused shift _

    -- ---- documents

    node_in : (q p : ParserState) → q ≡ moved_state shift p → Alike shift (node o u q) (node o t p)
    node_in q p e = subst (λ (q : ParserState). Alike shift (node o u q) (node o t p)) (sym e)
        (node_moved shift o t fits p)

    at_root_moved : (p : ParserState) → Alike shift (at_root o u (moved_state shift p)) (at_root o t p)
    at_root_moved p = alike_if shift _ _ _ _ _ _ refl (node_moved shift o t fits p) (refused shift _)

    with_version_moved : (known : Option PlainVersion) (major minor : ℕ) (p : ParserState)
        → Alike shift (with_version u known major minor (moved_state shift p)) (with_version t known major minor p)
    with_version_moved (Some v) major minor p = refused shift _
    with_version_moved None major minor p = alike_if shift _ _ _ _ _ _ refl (alike_ok shift _ _ refl) (refused shift _)

    with_handle_moved : (version : Option PlainVersion) (handle prefix : List ℕ) (known : Option (List ℕ))
        (p : ParserState) → Alike shift (with_handle o u version handle prefix known (moved_state shift p))
        (with_handle o t version handle prefix known p)
    with_handle_moved version handle prefix (Some known) p = refused shift _
    with_handle_moved version handle prefix None p = alike_ok shift _ _
        (ap (λ (kept : List (List ℕ × List ℕ)). record (moved_state shift p) {
          handles = remembered handle prefix p.handles;
          kept = kept;
          stage = Directives version;
        }) (stays_moved shift o.keep_tags handle prefix p.kept fits))

    open_document_moved : (version : Option PlainVersion) (p : ParserState)
        → Alike shift (open_document u version (moved_state shift p)) (open_document t version p)
    open_document_moved version p =
        alike_ok shift _ _ (ap (λ (q : ParserState). record q { frames = Root true ∷ q.frames })
        (give_moved shift (event_at (events.DocumentStart true version) t.lexeme.shown)
        (record p { names = []; stage = Inside })))

    directive_moved : (d : DirectiveKind) (version : Option PlainVersion) (p : ParserState)
        → Alike shift (with_directive o u d version (moved_state shift p)) (with_directive o t d version p)
    directive_moved (Version major minor) version p = with_version_moved version major minor p
    directive_moved (TagPrefix handle prefix) version p = with_handle_moved version handle prefix
        (lookup_text handle p.handles) p
    directive_moved (Reserved name parameters) version p = alike_ok shift _ _ refl

    directives_moved : (kind : LexemeKind) (version : Option PlainVersion) (p : ParserState)
        → Alike shift (behind_directives o (moved_word shift t.lexeme.shown.start t.lexeme.shown.end kind) u version
        (moved_state shift p)) (behind_directives o kind t version p)
    directives_moved (lexemes.Directive d) version p = directive_moved d version p
    directives_moved lexemes.DocumentStart version p = open_document_moved version p
    directives_moved kind version p = refused shift _

    start_moved : (sort : TokenSort) → bare_start sort u ≡ moved_event shift (bare_start sort t)
    start_moved BeginsNode = refl
    start_moved sort = refl

    begin_document_moved : (p : ParserState) → Alike shift (begin_document o u (moved_state shift p))
        (begin_document o t p)
    begin_document_moved p =
        let r = record p { names = []; handles = []; stage = Inside } in
        alike_if shift _ _ _ _ _ _ refl (node_in _ (record
        (give (bare_start t.sort t) r) { frames = Root false ∷ (give (bare_start t.sort t) r).frames })
        (ap (λ (e : PlainEvent). let q = give e (moved_state shift r) in record q { frames = Root false ∷ q.frames })
        (start_moved t.sort) ∙ ap (λ (q : ParserState). record q { frames = Root false ∷ q.frames })
        (give_moved shift (bare_start t.sort t) r))) (refused shift _)

    stream_end_moved : (p : ParserState) → Alike shift
        (Ok (give (event_at events.StreamEnd (moved_source shift t.lexeme.shown)) (moved_state shift p)))
        (Ok (give (event_at events.StreamEnd t.lexeme.shown) p))
    stream_end_moved p = alike_ok shift _ _ (give_moved shift (event_at events.StreamEnd t.lexeme.shown) p)

    fresh_moved : (kind : LexemeKind) (p : ParserState)
        → Alike shift (when_fresh o (moved_word shift t.lexeme.shown.start t.lexeme.shown.end kind) u
        (moved_state shift p))
        (when_fresh o kind t p)
    fresh_moved lexemes.DocumentEnd p = alike_ok shift _ _ (flush_moved shift p)
    fresh_moved lexemes.StreamEnd p = stream_end_moved p
    fresh_moved (lexemes.Directive d) p = directive_moved d None (without_directives p)
    fresh_moved lexemes.DocumentStart p = open_document_moved None (record p { handles = [] })
    fresh_moved kind p = begin_document_moved p

    between_moved : (kind : LexemeKind) (p : ParserState)
        → Alike shift (when_between (moved_word shift t.lexeme.shown.start t.lexeme.shown.end kind) u
        (moved_state shift p))
        (when_between kind t p)
    between_moved (lexemes.Directive d) p = refused shift _
    between_moved lexemes.DocumentStart p = open_document_moved None (record p { handles = [] })
    between_moved lexemes.StreamEnd p = stream_end_moved p
    between_moved kind p = refused shift _

    end_document_moved : (s : Source) (stage : DocumentStage) (p : ParserState)
        → end_document (moved_source shift s) stage (moved_state shift p) ≡ moved_state shift (end_document s stage p)
    end_document_moved s stage p = ap (λ (q : ParserState). record q { handles = []; stage = stage })
        (give_moved shift (event_at events.DocumentEnd s) p)

    behind_root_moved : (kind : LexemeKind) (p : ParserState)
        → Alike shift (behind_root (moved_word shift t.lexeme.shown.start t.lexeme.shown.end kind) u
        (moved_state shift p))
        (behind_root kind t p)
    behind_root_moved lexemes.DocumentEnd p = alike_ok shift _ _ (end_document_moved t.lexeme.shown Fresh p)
    behind_root_moved kind p =
        let q = end_document (empty_span p.last_end) Between p in
        subst (λ (r : ParserState). Alike shift
        (when_between (moved_word shift t.lexeme.shown.start t.lexeme.shown.end kind) u r) (when_between kind t q))
        (sym (end_document_moved (empty_span p.last_end) Between p)) (between_moved kind q)

    outside_moved : (stage : DocumentStage) (p : ParserState)
        → Alike shift (outside o stage u (moved_state shift p)) (outside o stage t p)
    outside_moved Fresh p = fresh_moved t.lexeme.kind p
    outside_moved (Directives version) p = directives_moved t.lexeme.kind version p
    outside_moved BehindRoot p = behind_root_moved t.lexeme.kind p
    outside_moved Between p = between_moved t.lexeme.kind p
    outside_moved Inside p = refused shift _

    -- ---- a token at the open place

    token_moved : (fs : List Frame) (p : ParserState)
        → Alike shift (take_in o (moved_frames shift fs) u (moved_state shift p)) (take_in o fs t p)
    token_moved [] p = outside_moved p.stage p
    token_moved (Root explicit ∷ fs) p = at_root_moved p
    token_moved (WithProperties r ∷ fs) p = node_moved shift o t fits p
    token_moved (BlockSequence column indentless ∷ fs) p = in_sequence_moved column indentless p
    token_moved (BlockMapping column stage ∷ fs) p = in_mapping_moved column stage p
    token_moved (FlowSequence behind_entry ∷ fs) p = flow_sequence_moved behind_entry p
    token_moved (FlowMapping single stage ∷ fs) p = flow_mapping_moved single stage t.sort p
    token_moved (FlowPair stage ∷ fs) p = flow_pair_moved stage t.sort p

    -- ---- what a token ends

    no_anchor_moved : (q : NodeProperties) → is_none (moved_anchor shift q.anchor) ≡ is_none q.anchor
    no_anchor_moved q = on q.anchor
      where
        on : (a : _) → is_none (moved_anchor shift a) ≡ is_none a
        on None = refl
        on (Some a) = refl

    no_tag_moved : (q : NodeProperties) → is_none (moved_tag shift q.tag) ≡ is_none q.tag
    no_tag_moved q = on q.tag
      where
        on : (a : _) → is_none (moved_tag shift a) ≡ is_none a
        on None = refl
        on (Some a) = refl

    by_kind_moved : (right in_flow indentless : Bool) (q : NodeProperties) (sort : TokenSort) (kind : LexemeKind)
        → goes_on_by_kind right in_flow indentless (moved_properties shift q) sort
        (moved_word shift t.lexeme.shown.start t.lexeme.shown.end kind)
        ≡ goes_on_by_kind right in_flow indentless q sort kind
    by_kind_moved right in_flow indentless q sort (lexemes.Anchor name) = ap (λ b. right && b) (no_anchor_moved q)
    by_kind_moved right in_flow indentless q sort (lexemes.Tag handle suffix) = ap (λ b. right && b) (no_tag_moved q)
    by_kind_moved right in_flow indentless q sort kind = refl

    goes_on_moved : (q : NodeProperties) (fs : List Frame)
        → goes_on_with u (moved_properties shift q) (moved_frames shift fs) ≡ goes_on_with t q fs
    unfolding goes_on_with
    goes_on_moved q fs =
        let right = λ (under : Option ℕ). t.lexeme.in_flow || is_right_of (token_column t) under in
        ap₂ (λ (under : Option ℕ) (indentless : Bool). if is_key_in_block t then t.lexeme.in_flow
        || is_right_of (token_column t) under else goes_on_by_kind
        (t.lexeme.in_flow || is_right_of (token_column t) under) t.lexeme.in_flow indentless (moved_properties shift q)
        t.sort u.lexeme.kind) (under_column_moved fs) (indentless_moved shift t.lexeme.start.place.column fs)
        ∙ ap (λ (b : Bool). if is_key_in_block t then t.lexeme.in_flow
        || is_right_of (token_column t) (under_column fs) else b)
        (by_kind_moved (t.lexeme.in_flow || is_right_of (token_column t) (under_column fs)) t.lexeme.in_flow
        (may_be_indentless t.lexeme.start.place.column fs) q t.sort t.lexeme.kind)

    ends_moved : (p : ParserState) (fs : List Frame)
        → ends_top u (moved_state shift p) (moved_frames shift fs) ≡ ends_top t p fs
    ends_moved p [] = refl
    ends_moved p (Root explicit ∷ fs) = refl
    ends_moved p (WithProperties q ∷ fs) = ap not (goes_on_moved q fs)
    ends_moved p (BlockSequence column indentless ∷ fs) =
        ap (λ (b : Bool). Rattle.granit_machine.specs.TokenSort.ends_frame (token_column t) column
        || ((indentless && not (Rattle.granit_machine.specs.TokenSort.is_dash_token t.sort
        && Rattle.granit_machine.specs.TokenSort.is_in_column (token_column t) column))
        && (b || (Rattle.granit_machine.specs.TokenSort.is_in_column (token_column t) column
        && Rattle.granit_machine.specs.TokenSort.begins_pair t.sort)))) (none_moved p.waiting)
    ends_moved p (BlockMapping column stage ∷ fs) = refl
    ends_moved p (FlowSequence behind_entry ∷ fs) = refl
    ends_moved p (FlowMapping single stage ∷ fs) = refl
    ends_moved p (FlowPair stage ∷ fs) = refl

    end_top_moved : (fs : List Frame) (p : ParserState)
        → end_top o u (moved_state shift p) (moved_frames shift fs) ≡ moved_state shift (end_top o t p fs)
    end_top_moved (Root explicit ∷ fs) p = ap Rattle.granit_machine.specs.NodeEnds.finish
        (null_moved shift p.last_end p)
        ∙ finish_moved shift (give (null_at p.last_end) p)
    end_top_moved (WithProperties r ∷ fs) p = end_properties_moved shift o r p
    end_top_moved fs p = end_node_moved shift t.lexeme.start (token_start t) p

    abbrev moved_closed : Result (List PlainEvent × ParserState) Fault → Result (List PlainEvent × ParserState) Fault
    moved_closed (Ok r) = Ok (r.0, moved_state shift r.1)
    moved_closed (Err f) = Err (moved_fault shift f)

    front_moved : (r : Result (List PlainEvent × ParserState) Fault)
        → with_front [] (moved_closed r) ≡ moved_closed (with_front [] r)
    front_moved (Ok r) = refl
    front_moved (Err f) = refl

    turns_moved : (n : ℕ) (p : ParserState) → turns (close_turn o u) n (moved_state shift p)
        ≡ moved_closed (turns (close_turn o t) n p)
    unfolding turns close_turn
    turns_moved zero p = refl
    turns_moved (suc n) p =
        ap (λ (b : Bool). ◌>>=◌ {A = Option (List PlainEvent) × ParserState}
        (if b then Ok (Some [], end_top o u (moved_state shift p) (moved_frames shift p.frames)) else Ok
        (None, moved_state shift p))
        (λ r. then_more (turns (close_turn o u) n) r.0 r.1)) (ends_moved p p.frames)
        ∙ on (ends_top t p p.frames) (ap (λ (q : ParserState). with_front [] (turns (close_turn o u) n q))
        (end_top_moved p.frames p) ∙ ap (with_front []) (turns_moved n (end_top o t p p.frames))
        ∙ front_moved (turns (close_turn o t) n (end_top o t p p.frames)))
      where
        on : (v : Bool) → with_front [] (turns (close_turn o u) n
            (end_top o u (moved_state shift p) (moved_frames shift p.frames)))
            ≡ moved_closed (with_front [] (turns (close_turn o t) n (end_top o t p p.frames)))
            → ◌>>=◌ {A = Option (List PlainEvent) × ParserState}
            (if v then Ok (Some [], end_top o u (moved_state shift p) (moved_frames shift p.frames)) else Ok
            (None, moved_state shift p))
            (λ r. then_more (turns (close_turn o u) n) r.0 r.1)
            ≡ moved_closed (◌>>=◌ {A = Option (List PlainEvent) × ParserState}
            (if v then Ok (Some [], end_top o t p p.frames) else Ok (None, p))
            (λ r. then_more (turns (close_turn o t) n) r.0 r.1))
        on true e = e
        on false e = refl

    closed_step : (r : Result (List PlainEvent × ParserState) Fault)
        → Alike shift (moved_closed r >>= λ r. Ok r.1) (r >>= λ r. Ok r.1)
    closed_step (Ok r) = alike_ok shift r.1 (moved_state shift r.1) refl
    closed_step (Err f) = refused shift f

    depth_moved : (p : ParserState) → depth (moved_state shift p) ≡ depth p
    depth_moved p = length-map p.frames (moved_frame shift)

    close_moved : (p : ParserState) → Alike shift (close o u (moved_state shift p)) (close o t p)
    unfolding pieces
    close_moved p =
        subst (λ (r : Result (List PlainEvent × ParserState) Fault). Alike shift (r >>= λ r. Ok r.1) (close o t p))
        (sym (ap (λ n. turns (close_turn o u) (suc n) (moved_state shift p)) (depth_moved p)
        ∙ turns_moved (suc (depth p)) p))
        (closed_step (turns (close_turn o t) (suc (depth p)) p))

  -- ---- comments

  hold_moved : (c : CommentRead) (e : PlainEvent) (w : Option Waiting) (p : ParserState)
      → Alike shift (hold (moved_comment shift c) (moved_event shift e) (moved_waiting shift w) (moved_state shift p))
      (hold c e w p)
  hold_moved c e None p = alike_ok shift _ _ (ap (λ es. record (moved_state shift p) { given = es })
      (sym (map-append (moved_event shift) p.given (e ∷ []))))
  hold_moved c e (Some w) p =
      alike_if shift _ _ _ _ _ _ refl (refused shift _) (alike_ok shift _ _
      (ap (λ es. record (moved_state shift p) {
        waiting = Some
            (record { at = moved_mark shift w.at; room = w.room - 1; held = es });
      })
      (sym (map-append (moved_event shift) w.held (e ∷ [])))))

  placed_by_moved : (line : ℕ) (next : Option ℕ)
      → placed_by_line (moved_line shift line) (moved_next shift next) ≡ placed_by_line line next
  placed_by_moved line None = refl
  placed_by_moved line (Some next) = ap (λ (b : Bool). if b then Above else Free) (sum_eq_suc shift.line next line)

  placed_moved : (c : CommentRead) (next : Option ℕ)
      → placed (moved_comment shift c) (moved_next shift next) ≡ placed c next
  placed_moved c next = ap (λ (place : Placement). if c.is_right then Right else place)
      (placed_by_moved c.source.end.place.line next)

  comment_moved : (c : CommentRead) (next : Option ℕ) (p : ParserState)
      → Alike shift (take_comment (moved_comment shift c) (moved_next shift next) (moved_state shift p))
      (take_comment c next p)
  comment_moved c next p =
      subst (λ (place : Placement). Alike shift (hold (moved_comment shift c)
      (event_at (events.Comment (moved_text shift c.text) place) (moved_source shift c.source))
      (moved_waiting shift p.waiting) (moved_state shift p)) (take_comment c next p)) (sym (placed_moved c next))
      (hold_moved c (event_at (events.Comment c.text (placed c next)) c.source) p.waiting p)

  tail_moved : (start end : Mark) (kind : LexemeKind) (tail : Option CommentRead) (next : Option ℕ) (p : ParserState)
      → Alike shift (take_tail (moved_word shift start end kind) (moved_tail shift tail) (moved_next shift next)
      (moved_state shift p)) (take_tail kind tail next p)
  tail_moved start end lexemes.Dash tail next p = alike_ok shift _ _ refl
  tail_moved start end kind None next p = alike_ok shift _ _ refl
  tail_moved start end kind (Some c) next p = comment_moved c next p

  -- ---- items

  sort_moved : (start end : Mark) (begins_key : Bool) (key : Option KeyStart) (kind : LexemeKind)
      → token_sort begins_key (moved_key shift key) (moved_word shift start end kind) ≡ token_sort begins_key key kind
  sort_moved start end begins_key None lexemes.Colon = refl
  sort_moved start end begins_key (Some k) lexemes.Colon = refl
  sort_moved start end begins_key key kind = refl

  lexeme_moved : (o : OptionsData) (fits : KeptFits o shift) (t : Token) (next : Option ℕ) (p : ParserState)
      → Alike shift (take_lexeme o (moved_token shift t) (moved_next shift next) (moved_state shift p))
      (take_lexeme o t next p)
  lexeme_moved o fits t next p =
      alike_then shift (close o (moved_token shift t) (moved_state shift p) >>= take_token o (moved_token shift t))
      (close o t p >>= take_token o t)
      _ _
      (alike_then shift (close o (moved_token shift t) (moved_state shift p)) (close o t p)
      (take_token o (moved_token shift t)) (take_token o t)
      (close_moved o t fits p) (λ q. token_moved o t fits q.frames q))
      (λ q. tail_moved t.lexeme.shown.start t.lexeme.shown.end t.lexeme.kind t.lexeme.tail next q)

  item_moved : (o : OptionsData) (fits : KeptFits o shift) (i : Item) (begins_key : Bool) (next : Option ℕ)
      (p : ParserState)
      → Alike shift (take_item o (moved_item shift i) begins_key (moved_next shift next) (moved_state shift p))
      (take_item o i begins_key next p)
  item_moved o fits (OfComment c) begins_key next p = comment_moved c next p
  item_moved o fits (OfLexeme l) begins_key next p =
      subst (λ (sort : TokenSort). Alike shift (take_lexeme o (record { lexeme = moved_lexeme shift l; sort = sort })
      (moved_next shift next) (moved_state shift p)) (take_item o (OfLexeme l) begins_key next p))
      (sym (sort_moved l.shown.start l.shown.end begins_key l.key l.kind))
      (lexeme_moved o fits (token_of begins_key l) next p)

  fed_by : (r s : Stepped) → Alike shift r s → (r >>= λ q. Ok (q.given, record q { given = [] }))
      ≡ moved_fed shift (s >>= λ q. Ok (q.given, record q { given = [] }))
  fed_by r (Ok p) e = ap (λ (r : Stepped). r >>= λ q. Ok (q.given, record q { given = [] })) e.is
  fed_by r (Err f) e = ap (λ (r : Stepped). r >>= λ q. Ok (q.given, record q { given = [] })) e.is

  pub feed_moved : (o : OptionsData) (fits : KeptFits o shift) (i : FlaggedItem) (next : Option ℕ) (p : ParserState)
      → feed o (moved_flagged shift i) (moved_next shift next) (moved_state shift p) ≡ moved_fed shift (feed o i next p)
  unfolding feed
  feed_moved o fits i next p =
      fed_by (take_item o (moved_item shift i.item) i.begins_key (moved_next shift next) (moved_state shift p))
      (take_item o i.item i.begins_key next p) (item_moved o fits i.item i.begins_key next p)

  keyed_moved : (key : Option KeyStart) → is_some (moved_key shift key) ≡ is_some key
  keyed_moved None = refl
  keyed_moved (Some k) = refl

  line_by : (start end : Mark) (kind : LexemeKind) (l : Lexeme) (flag : Bool)
      → line_of_lexeme (moved_word shift start end kind) (moved_lexeme shift l) flag
      ≡ moved_next shift (line_of_lexeme kind l flag)
  line_by start end lexemes.StreamEnd l flag = on l.ends_column
    where
      on : (b : Bool) → (if b then Some (moved_line shift l.start.place.line) else None)
          ≡ moved_next shift (if b then Some l.start.place.line else None)
      on true = refl
      on false = refl
  line_by start end kind l flag = on (l.ends_column || flag)
    where
      on : (b : Bool) → (if b then Some (moved_line shift l.start.place.line) else
          Some (moved_line shift l.shown.start.place.line))
          ≡ moved_next shift (if b then Some l.start.place.line else Some l.shown.start.place.line)
      on true = refl
      on false = refl

  line_moved : (i : Item) (flag : Bool) → line_of_item (moved_item shift i) flag
      ≡ moved_next shift (line_of_item i flag)
  line_moved (OfComment c) flag = refl
  line_moved (OfLexeme l) flag =
      ap (λ b. line_of_lexeme (moved_word shift l.shown.start l.shown.end l.kind) (moved_lexeme shift l) (flag || b))
      (keyed_moved l.key) ∙ line_by l.shown.start l.shown.end l.kind l (flag || is_some l.key)

  pub next_moved : (is : List FlaggedItem) → next_line (map (moved_flagged shift) is) ≡ moved_next shift (next_line is)
  next_moved [] = refl
  next_moved (i ∷ is) = line_moved i.item i.begins_key

  fronts_moved : (es : List PlainEvent) (r : Result (List PlainEvent × ParserState) Fault)
      → with_front (moved_events shift es) (moved_fed shift r) ≡ moved_fed shift (with_front es r)
  fronts_moved es (Ok r) = ap (λ (es : List PlainEvent). let x : Result (List PlainEvent × ParserState) Fault = Ok
      (es, moved_state shift r.1) in x) (sym (map-append (moved_event shift) es r.0))
  fronts_moved es (Err f) = refl

  fed_then : (r : Result (List PlainEvent × ParserState) Fault)
      (f g : ParserState → Result (List PlainEvent × ParserState) Fault)
      → ((p : ParserState) → f (moved_state shift p) ≡ moved_fed shift (g p))
      → (moved_fed shift r >>= λ y. with_front y.0 (f y.1)) ≡ moved_fed shift (r >>= λ y. with_front y.0 (g y.1))
  fed_then (Ok r) f g h = ap (with_front (moved_events shift r.0)) (h r.1) ∙ fronts_moved r.0 (g r.1)
  fed_then (Err e) f g h = refl

  pub feed_all_moved : (o : OptionsData) (fits : KeptFits o shift) (is : List FlaggedItem) (p : ParserState)
      → feed_all o (map (moved_flagged shift) is) (moved_state shift p) ≡ moved_fed shift (feed_all o is p)
  feed_all_moved o fits [] p = refl
  feed_all_moved o fits (i ∷ is) p =
      ap (λ next. feed o (moved_flagged shift i) next (moved_state shift p) >>= λ y. with_front y.0
      (feed_all o (map (moved_flagged shift) is) y.1)) (next_moved is)
      ∙ ap (λ r. r >>= λ y. with_front y.0 (feed_all o (map (moved_flagged shift) is) y.1))
      (feed_moved o fits i (next_line is) p)
      ∙ fed_then (feed o i (next_line is) p) (feed_all o (map (moved_flagged shift) is)) (feed_all o is)
      (λ q. feed_all_moved o fits is q)
