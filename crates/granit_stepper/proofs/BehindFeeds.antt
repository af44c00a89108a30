-- Items are fed to the same events where events wait: these come behind them.
use Rattle.std.proofs.Common.{◌≡◌, ℕ, zero, suc, ◌==◌, ◌&&◌, ◌||◌, not, Bool, true, false, List, [], ◌∷◌}
use Rattle.std.proofs.Common.{Option, Some, None, Result, Ok, Err, refl, sym, ap, ◌∙◌, subst}
use Rattle.std.specs.Prelude.{is_none, if◌then◌else◌}
use Rattle.granit_base.specs.Place.{Mark}
use Rattle.granit_base.specs.declared.style.StructureStyle.TheVariants.{Flow}
use Rattle.granit_error.specs.OptionsData.{OptionsData}
use Rattle.granit_lexemes.specs.Comment.{CommentRead}
use Rattle.granit_lexemes.specs.Lexeme.{DirectiveKind, Version, TagPrefix, Reserved, LexemeKind, Item, OfLexeme}
use Rattle.granit_lexemes.specs.Lexeme.{OfComment}
use Rattle.granit_lexemes.specs.Lexeme as lexemes
use Rattle.granit_lexemes.specs.Outcome.{Fault, ◌>>=◌}
use Rattle.granit_lexemes.specs.Pieces.{with_front, then_more, turns, pieces}
use Rattle.granit_lexemes.specs.PlainEvent.{PlainEvent, PlainVersion, event_at}
use Rattle.granit_lexemes.specs.PlainEvent as events
use Rattle.granit_lexemes.specs.Source.{Source}
use Rattle.granit_machine.specs.BlockSteps.{in_sequence, mapping_at, mapping_colon, bare_colon_in_mapping, next_pair}
use Rattle.granit_machine.specs.BlockSteps.{behind_indicator, at_block_key, behind_block_key, in_mapping, takes_node}
use Rattle.granit_machine.specs.Closing.{ends_top, token_start, end_top, close_turn, depth, close}
use Rattle.granit_machine.specs.Entries.{lookup_text}
use Rattle.granit_machine.specs.FlowSteps.{close_flow, flow_at, flow_colon, begin_pair, at_entry, behind_entry_of}
use Rattle.granit_machine.specs.FlowSteps.{in_flow_sequence, in_flow_mapping_by, in_flow_pair}
use Rattle.granit_machine.specs.Frames.{PairStage, BeforePair, AtKey, BehindKey, AtQuestion, BehindQuestion, AtValue}
use Rattle.granit_machine.specs.Frames.{Frame, Root, WithProperties, BlockSequence, BlockMapping, FlowSequence}
use Rattle.granit_machine.specs.Frames.{FlowMapping, FlowPair, DocumentStage, Fresh, Directives, Inside, BehindRoot}
use Rattle.granit_machine.specs.Frames.{Between, Waiting, ParserState}
use Rattle.granit_machine.specs.Giving.{null_at, with_indent, give, give_empty}
use Rattle.granit_machine.specs.NodeEnds.{finish, owed, empty_span, waits, with_top}
use Rattle.granit_machine.specs.NodeSteps.{NextEntry, take_dash, bare, node}
use Rattle.granit_machine.specs.Parser.{take_in, take_token, placed, hold, take_comment, take_tail, take_lexeme}
use Rattle.granit_machine.specs.Parser.{take_item}
use Rattle.granit_machine.specs.StreamSteps.{at_root, with_version, with_handle, open_document, with_directive}
use Rattle.granit_machine.specs.StreamSteps.{behind_directives, bare_start, begin_document, without_directives}
use Rattle.granit_machine.specs.StreamSteps.{when_fresh, when_between, end_document, behind_root, outside}
use Rattle.granit_machine.specs.TokenSort.{TokenSort, BeginsKey, BeginsNode, QuestionToken, BareColon, KeyedColon}
use Rattle.granit_machine.specs.TokenSort.{CommaToken, SequenceCloser, MappingCloser, Token, token_of, token_column}
use Rattle.granit_machine.specs.TokenSort.{begins_node, begins_pair, is_dash_token, is_in_column, is_right_of}
use Rattle.granit_stepper.proofs.BehindSteps.{behind, behind_step, Alike, alike_ok, refused, alike_if, alike_then}
use Rattle.granit_stepper.proofs.BehindSteps.{more_behind, flush_behind, give_behind, give_empty_behind, finish_behind}
use Rattle.granit_stepper.proofs.BehindSteps.{owed_behind, end_node_behind, end_properties_behind, framed_behind}
use Rattle.granit_stepper.proofs.BehindSteps.{waits_behind, dash_behind, bare_behind, node_behind, step_in}

module _ (es : List PlainEvent) where
  module _ (o : OptionsData) (t : Token) where
    -- ---- block collections

    mapping_at_behind : (column : ℕ) (stage : PairStage) (p : ParserState)
        → mapping_at column stage (behind es p) ≡ behind es (mapping_at column stage p)
    mapping_at_behind column stage p = ap (with_top (BlockMapping column stage)) (flush_behind es p)

    waits_here : (p : ParserState) → waits t.lexeme.start o.max_buffered_comment_events (behind es p)
        ≡ behind es (waits t.lexeme.start o.max_buffered_comment_events p)
    waits_here p = waits_behind es t.lexeme.start o.max_buffered_comment_events p

    mapping_colon_behind : (column : ℕ) (p : ParserState)
        → mapping_colon o t column (behind es p) ≡ behind es (mapping_colon o t column p)
    mapping_colon_behind column p = ap (waits t.lexeme.start o.max_buffered_comment_events)
        (mapping_at_behind column AtValue p) ∙ waits_here (mapping_at column AtValue p)

    bare_colon_behind : (column : ℕ) (stage : PairStage) (p : ParserState)
        → bare_colon_in_mapping o t column stage (behind es p) ≡ behind es (bare_colon_in_mapping o t column stage p)
    bare_colon_behind column AtQuestion p =
        let e = with_indent (Some column) (null_at t.lexeme.start) in
        ap (mapping_colon o t column) (give_behind es e p) ∙ mapping_colon_behind column (give e p)
    bare_colon_behind column BehindQuestion p = mapping_colon_behind column p
    bare_colon_behind column stage p =
        ap (λ (q : ParserState). mapping_colon o t column (give (null_at t.lexeme.start) q))
        (owed_behind es t.lexeme.start p) ∙ ap (mapping_colon o t column)
        (give_behind es (null_at t.lexeme.start) (owed t.lexeme.start p))
        ∙ mapping_colon_behind column (give (null_at t.lexeme.start) (owed t.lexeme.start p))

    pair_at_behind : (column : ℕ) (stage : PairStage) (p : ParserState)
        → mapping_at column stage (owed t.lexeme.start (behind es p))
        ≡ behind es (mapping_at column stage (owed t.lexeme.start p))
    pair_at_behind column stage p = ap (mapping_at column stage) (owed_behind es t.lexeme.start p)
        ∙ mapping_at_behind column stage (owed t.lexeme.start p)

    bare_in : (q p : ParserState) → q ≡ behind es p → Alike es (bare o t q) (bare o t p)
    bare_in q p e = step_in es (bare o t) q p e (bare_behind es o t p)

    next_pair_behind : (column : ℕ) (stage : PairStage) (sort : TokenSort) (p : ParserState)
        → Alike es (next_pair o t column stage sort (behind es p)) (next_pair o t column stage sort p)
    next_pair_behind column stage BeginsKey p =
        bare_in _ (mapping_at column AtKey (owed t.lexeme.start p)) (pair_at_behind column AtKey p)
    next_pair_behind column stage QuestionToken p = alike_ok es _ _ (pair_at_behind column AtQuestion p)
    next_pair_behind column stage sort p = alike_ok es _ _ (bare_colon_behind column stage p)

    behind_indicator_behind : (column : ℕ) (stage : PairStage) (p : ParserState)
        → Alike es (behind_indicator o t column stage (behind es p)) (behind_indicator o t column stage p)
    unfolding behind_indicator
    behind_indicator_behind column stage p =
        alike_if es (begins_pair t.sort && is_in_column (token_column t) column) _ _ _ _
        (next_pair_behind column stage t.sort p)
        (alike_if es (not (takes_node stage)) _ _ _ _ (refused es _)
        (alike_if es ((is_dash_token t.sort && is_in_column (token_column t) column)
        || (begins_node t.sort && is_right_of (token_column t) (Some column))) _ _ _ _ (node_behind es o t p)
        (refused es _)))

    at_block_key_behind : (sort : TokenSort) (p : ParserState)
        → Alike es (at_block_key o t sort (behind es p)) (at_block_key o t sort p)
    at_block_key_behind BeginsNode p = bare_behind es o t p
    at_block_key_behind sort p = refused es _

    behind_block_key_behind : (column : ℕ) (sort : TokenSort) (p : ParserState)
        → Alike es (behind_block_key o t column sort (behind es p)) (behind_block_key o t column sort p)
    behind_block_key_behind column KeyedColon p = alike_ok es _ _ (mapping_colon_behind column p)
    behind_block_key_behind column sort p = refused es _

    in_mapping_behind : (column : ℕ) (stage : PairStage) (p : ParserState)
        → Alike es (in_mapping o t column stage (behind es p)) (in_mapping o t column stage p)
    in_mapping_behind column AtKey p = at_block_key_behind t.sort p
    in_mapping_behind column BehindKey p = behind_block_key_behind column t.sort p
    in_mapping_behind column stage p = behind_indicator_behind column stage p

    in_sequence_behind : (column : ℕ) (indentless : Bool) (p : ParserState)
        → Alike es (in_sequence o t column indentless (behind es p)) (in_sequence o t column indentless p)
    unfolding in_sequence
    in_sequence_behind column indentless p =
        alike_if es (is_dash_token t.sort && is_in_column (token_column t) column) _ _ _ _
        (step_in es (take_dash o t NextEntry indentless) (give_empty (behind es p)) (give_empty p)
        (give_empty_behind es p) (dash_behind es o t NextEntry indentless (give_empty p)))
        (alike_if es (is_none p.waiting) _ _ _ _ (refused es _)
        (alike_if es (begins_node t.sort && is_right_of (token_column t) (Some column)) _ _ _ _ (node_behind es o t p)
        (refused es _)))

    -- ---- flow collections

    close_flow_behind : (p : ParserState) → close_flow t (behind es p) ≡ behind es (close_flow t p)
    close_flow_behind p =
        end_node_behind es t.lexeme.start (record { start = t.lexeme.start; end = t.lexeme.shown.end }) p

    flow_at_behind : (single : Bool) (stage : PairStage) (p : ParserState)
        → flow_at single stage (behind es p) ≡ behind es (flow_at single stage p)
    flow_at_behind single stage p = ap (with_top (FlowMapping single stage)) (flush_behind es p)

    flow_colon_behind : (single : Bool) (p : ParserState)
        → flow_colon o t single (behind es p) ≡ behind es (flow_colon o t single p)
    flow_colon_behind single p = ap (waits t.lexeme.start o.max_buffered_comment_events)
        (flow_at_behind single AtValue p) ∙ waits_here (flow_at single AtValue p)

    flow_null_behind : (single : Bool) (p : ParserState)
        → flow_colon o t single (give (null_at t.lexeme.start) (behind es p))
        ≡ behind es (flow_colon o t single (give (null_at t.lexeme.start) p))
    flow_null_behind single p = ap (flow_colon o t single) (give_behind es (null_at t.lexeme.start) p)
        ∙ flow_colon_behind single (give (null_at t.lexeme.start) p)

    begin_pair_behind : (end : Mark) (f : Frame) (p : ParserState)
        → begin_pair t end f (behind es p) ≡ behind es (begin_pair t end f p)
    begin_pair_behind end f p =
        let e = event_at (events.MappingStart Flow 0 None) (record { start = t.lexeme.start; end = end }) in
        framed_behind es f (give e (behind es p)) (give e p) (give_behind es e p)

    at_entry_behind : (sort : TokenSort) (p : ParserState)
        → Alike es (at_entry o t sort (behind es p)) (at_entry o t sort p)
    at_entry_behind SequenceCloser p = alike_ok es _ _ (close_flow_behind p)
    at_entry_behind QuestionToken p = alike_ok es _ _ (begin_pair_behind t.lexeme.shown.end (FlowPair AtQuestion) p)
    at_entry_behind BareColon p =
        alike_ok es _ _ (ap (λ (q : ParserState). flow_colon o t true (give (null_at t.lexeme.start) q))
        (begin_pair_behind t.lexeme.start (FlowMapping true BeforePair) p)
        ∙ flow_null_behind true (begin_pair t t.lexeme.start (FlowMapping true BeforePair) p))
    at_entry_behind BeginsKey p = bare_in _ (begin_pair t t.lexeme.start (FlowMapping true AtKey) p)
        (begin_pair_behind t.lexeme.start (FlowMapping true AtKey) p)
    at_entry_behind BeginsNode p = bare_behind es o t p
    at_entry_behind sort p = refused es _

    behind_entry_behind : (sort : TokenSort) (p : ParserState)
        → Alike es (behind_entry_of t sort (behind es p)) (behind_entry_of t sort p)
    behind_entry_behind SequenceCloser p = alike_ok es _ _ (close_flow_behind p)
    behind_entry_behind CommaToken p = alike_ok es _ _ refl
    behind_entry_behind sort p = refused es _

    flow_sequence_behind : (entry : Bool) (p : ParserState)
        → Alike es (in_flow_sequence o t entry (behind es p)) (in_flow_sequence o t entry p)
    flow_sequence_behind false p = at_entry_behind t.sort p
    flow_sequence_behind true p = behind_entry_behind t.sort p

    flow_mapping_behind : (single : Bool) (stage : PairStage) (sort : TokenSort) (p : ParserState)
        → Alike es (in_flow_mapping_by o t single stage sort (behind es p))
        (in_flow_mapping_by o t single stage sort p)
    flow_mapping_behind single AtKey BeginsNode p = bare_behind es o t p
    flow_mapping_behind single AtKey sort p = refused es _
    flow_mapping_behind single BehindKey KeyedColon p = alike_ok es _ _ (flow_colon_behind single p)
    flow_mapping_behind single BehindKey sort p = refused es _
    flow_mapping_behind single stage MappingCloser p = alike_ok es _ _ (close_flow_behind p)
    flow_mapping_behind single BeforePair CommaToken p = refused es _
    flow_mapping_behind single stage CommaToken p = alike_ok es _ _
        (ap (flow_at single BeforePair) (owed_behind es t.lexeme.start p)
        ∙ flow_at_behind single BeforePair (owed t.lexeme.start p))
    flow_mapping_behind single BeforePair QuestionToken p = alike_ok es _ _ (flow_at_behind single AtQuestion p)
    flow_mapping_behind single BeforePair BeginsKey p =
        bare_in _ (flow_at single AtKey p) (flow_at_behind single AtKey p)
    flow_mapping_behind single BeforePair BareColon p = alike_ok es _ _ (flow_null_behind single p)
    flow_mapping_behind single AtQuestion BareColon p = alike_ok es _ _ (flow_null_behind single p)
    flow_mapping_behind single BehindQuestion BareColon p = alike_ok es _ _ (flow_colon_behind single p)
    flow_mapping_behind single BeforePair BeginsNode p = bare_behind es o t p
    flow_mapping_behind single AtQuestion BeginsNode p = bare_behind es o t p
    flow_mapping_behind single AtValue BeginsNode p = bare_behind es o t p
    flow_mapping_behind single BeforePair sort p = refused es _
    flow_mapping_behind single AtQuestion sort p = refused es _
    flow_mapping_behind single AtValue sort p = refused es _
    flow_mapping_behind single stage sort p = refused es _

    flow_pair_behind : (stage : PairStage) (sort : TokenSort) (p : ParserState)
        → Alike es (in_flow_pair o t stage sort (behind es p)) (in_flow_pair o t stage sort p)
    flow_pair_behind BehindQuestion sort p = alike_ok es _ _ refl
    flow_pair_behind stage BeginsNode p = bare_behind es o t p
    flow_pair_behind stage sort p = refused es _

    -- ---- documents

    at_root_behind : (p : ParserState) → Alike es (at_root o t (behind es p)) (at_root o t p)
    at_root_behind p = alike_if es (begins_node t.sort) _ _ _ _ (node_behind es o t p) (refused es _)

    with_version_behind : (known : Option PlainVersion) (major minor : ℕ) (p : ParserState)
        → Alike es (with_version t known major minor (behind es p)) (with_version t known major minor p)
    with_version_behind (Some v) major minor p = refused es _
    with_version_behind None major minor p =
        alike_if es (major == 1) _ _ _ _ (alike_ok es _ _ refl) (refused es _)

    with_handle_behind : (version : Option PlainVersion) (handle prefix : List ℕ) (known : Option (List ℕ))
        (p : ParserState) → Alike es (with_handle o t version handle prefix known (behind es p))
        (with_handle o t version handle prefix known p)
    with_handle_behind version handle prefix (Some known) p = refused es _
    with_handle_behind version handle prefix None p = alike_ok es _ _ refl

    open_document_behind : (version : Option PlainVersion) (p : ParserState)
        → Alike es (open_document t version (behind es p)) (open_document t version p)
    open_document_behind version p =
        let e = event_at (events.DocumentStart true version) t.lexeme.shown in
        let q = record p { names = []; stage = Inside } in
        alike_ok es _ _ (framed_behind es (Root true) (give e (behind es q)) (give e q) (give_behind es e q))

    directive_behind : (d : DirectiveKind) (version : Option PlainVersion) (p : ParserState)
        → Alike es (with_directive o t d version (behind es p)) (with_directive o t d version p)
    directive_behind (Version major minor) version p = with_version_behind version major minor p
    directive_behind (TagPrefix handle prefix) version p =
        with_handle_behind version handle prefix (lookup_text handle p.handles) p
    directive_behind (Reserved name parameters) version p = alike_ok es _ _ refl

    directives_behind : (kind : LexemeKind) (version : Option PlainVersion) (p : ParserState)
        → Alike es (behind_directives o kind t version (behind es p)) (behind_directives o kind t version p)
    directives_behind (lexemes.Directive d) version p = directive_behind d version p
    directives_behind lexemes.DocumentStart version p = open_document_behind version p
    directives_behind kind version p = refused es _

    begin_document_behind : (p : ParserState) → Alike es (begin_document o t (behind es p)) (begin_document o t p)
    begin_document_behind p =
        let r = record p { names = []; handles = []; stage = Inside } in
        let q = give (bare_start t.sort t) r in
        alike_if es (begins_node t.sort) _ _ _ _
        (step_in es (node o t) _ (record q { frames = Root false ∷ q.frames })
        (framed_behind es (Root false) (give (bare_start t.sort t) (behind es r)) q
        (give_behind es (bare_start t.sort t) r)) (node_behind es o t (record q { frames = Root false ∷ q.frames })))
        (refused es _)

    stream_end_behind : (p : ParserState) → Alike es
        (Ok (give (event_at events.StreamEnd t.lexeme.shown) (behind es p)))
        (Ok (give (event_at events.StreamEnd t.lexeme.shown) p))
    stream_end_behind p = alike_ok es _ _ (give_behind es (event_at events.StreamEnd t.lexeme.shown) p)

    fresh_behind : (kind : LexemeKind) (p : ParserState)
        → Alike es (when_fresh o kind t (behind es p)) (when_fresh o kind t p)
    fresh_behind lexemes.DocumentEnd p = alike_ok es _ _ (flush_behind es p)
    fresh_behind lexemes.StreamEnd p = stream_end_behind p
    fresh_behind (lexemes.Directive d) p = directive_behind d None (without_directives p)
    fresh_behind lexemes.DocumentStart p = open_document_behind None (record p { handles = [] })
    fresh_behind kind p = begin_document_behind p

    between_behind : (kind : LexemeKind) (p : ParserState)
        → Alike es (when_between kind t (behind es p)) (when_between kind t p)
    between_behind (lexemes.Directive d) p = refused es _
    between_behind lexemes.DocumentStart p = open_document_behind None (record p { handles = [] })
    between_behind lexemes.StreamEnd p = stream_end_behind p
    between_behind kind p = refused es _

    end_document_behind : (s : Source) (stage : DocumentStage) (p : ParserState)
        → end_document s stage (behind es p) ≡ behind es (end_document s stage p)
    end_document_behind s stage p = ap (λ (q : ParserState). record q { handles = []; stage = stage })
        (give_behind es (event_at events.DocumentEnd s) p)

    behind_root_behind : (kind : LexemeKind) (p : ParserState)
        → Alike es (behind_root kind t (behind es p)) (behind_root kind t p)
    behind_root_behind lexemes.DocumentEnd p = alike_ok es _ _ (end_document_behind t.lexeme.shown Fresh p)
    behind_root_behind kind p =
        let q = end_document (empty_span p.last_end) Between p in
        step_in es (when_between kind t) _ q (end_document_behind (empty_span p.last_end) Between p)
        (between_behind kind q)

    outside_behind : (stage : DocumentStage) (p : ParserState)
        → Alike es (outside o stage t (behind es p)) (outside o stage t p)
    outside_behind Fresh p = fresh_behind t.lexeme.kind p
    outside_behind (Directives version) p = directives_behind t.lexeme.kind version p
    outside_behind BehindRoot p = behind_root_behind t.lexeme.kind p
    outside_behind Between p = between_behind t.lexeme.kind p
    outside_behind Inside p = refused es _

    -- ---- a token at the open place

    token_behind : (fs : List Frame) (p : ParserState) → Alike es (take_in o fs t (behind es p)) (take_in o fs t p)
    token_behind [] p = outside_behind p.stage p
    token_behind (Root explicit ∷ fs) p = at_root_behind p
    token_behind (WithProperties r ∷ fs) p = node_behind es o t p
    token_behind (BlockSequence column indentless ∷ fs) p = in_sequence_behind column indentless p
    token_behind (BlockMapping column stage ∷ fs) p = in_mapping_behind column stage p
    token_behind (FlowSequence entry ∷ fs) p = flow_sequence_behind entry p
    token_behind (FlowMapping single stage ∷ fs) p = flow_mapping_behind single stage t.sort p
    token_behind (FlowPair stage ∷ fs) p = flow_pair_behind stage t.sort p

    -- ---- what a token ends

    end_top_behind : (fs : List Frame) (p : ParserState)
        → end_top o t (behind es p) fs ≡ behind es (end_top o t p fs)
    end_top_behind (Root explicit ∷ fs) p = ap finish (give_behind es (null_at p.last_end) p)
        ∙ finish_behind es (give (null_at p.last_end) p)
    end_top_behind (WithProperties r ∷ fs) p = end_properties_behind es o r p
    end_top_behind fs p = end_node_behind es t.lexeme.start (token_start t) p

    ends_behind : (p : ParserState) (fs : List Frame) → ends_top t (behind es p) fs ≡ ends_top t p fs
    ends_behind p [] = refl
    ends_behind p (Root explicit ∷ fs) = refl
    ends_behind p (WithProperties q ∷ fs) = refl
    ends_behind p (BlockSequence column indentless ∷ fs) = refl
    ends_behind p (BlockMapping column stage ∷ fs) = refl
    ends_behind p (FlowSequence entry ∷ fs) = refl
    ends_behind p (FlowMapping single stage ∷ fs) = refl
    ends_behind p (FlowPair stage ∷ fs) = refl

    abbrev closed : Type 0
    closed = Result (List PlainEvent × ParserState) Fault

    abbrev behind_closed : closed → closed
    behind_closed (Ok r) = Ok (r.0, behind es r.1)
    behind_closed (Err f) = Err f

    front_behind : (r : closed) → with_front [] (behind_closed r) ≡ behind_closed (with_front [] r)
    front_behind (Ok r) = refl
    front_behind (Err f) = refl

    turns_behind : (n : ℕ) (p : ParserState)
        → turns (close_turn o t) n (behind es p) ≡ behind_closed (turns (close_turn o t) n p)
    unfolding turns close_turn
    turns_behind zero p = refl
    turns_behind (suc n) p =
        ap (λ (b : Bool). ◌>>=◌ {A = Option (List PlainEvent) × ParserState}
        (if b then Ok (Some [], end_top o t (behind es p) p.frames) else Ok (None, behind es p))
        (λ r. then_more (turns (close_turn o t) n) r.0 r.1)) (ends_behind p p.frames)
        ∙ on (ends_top t p p.frames) (ap (λ (q : ParserState). with_front [] (turns (close_turn o t) n q))
        (end_top_behind p.frames p) ∙ ap (with_front []) (turns_behind n (end_top o t p p.frames))
        ∙ front_behind (turns (close_turn o t) n (end_top o t p p.frames)))
      where
        on : (v : Bool) → with_front [] (turns (close_turn o t) n (end_top o t (behind es p) p.frames))
            ≡ behind_closed (with_front [] (turns (close_turn o t) n (end_top o t p p.frames)))
            → ◌>>=◌ {A = Option (List PlainEvent) × ParserState}
            (if v then Ok (Some [], end_top o t (behind es p) p.frames) else Ok (None, behind es p))
            (λ r. then_more (turns (close_turn o t) n) r.0 r.1)
            ≡ behind_closed (◌>>=◌ {A = Option (List PlainEvent) × ParserState}
            (if v then Ok (Some [], end_top o t p p.frames) else Ok (None, p))
            (λ r. then_more (turns (close_turn o t) n) r.0 r.1))
        on true e = e
        on false e = refl

    closed_step : (r : closed) → Alike es (behind_closed r >>= λ r. Ok r.1) (r >>= λ r. Ok r.1)
    closed_step (Ok r) = alike_ok es r.1 (behind es r.1) refl
    closed_step (Err f) = refused es f

    close_behind : (p : ParserState) → Alike es (close o t (behind es p)) (close o t p)
    unfolding pieces
    close_behind p =
        subst (λ (r : closed). Alike es (r >>= λ r. Ok r.1) (close o t p)) (sym (turns_behind (suc (depth p)) p))
        (closed_step (turns (close_turn o t) (suc (depth p)) p))

  -- ---- comments

  hold_behind : (c : CommentRead) (e : PlainEvent) (w : Option Waiting) (p : ParserState)
      → Alike es (hold c e w (behind es p)) (hold c e w p)
  hold_behind c e None p = alike_ok es _ _ (more_behind es (e ∷ []) p)
  hold_behind c e (Some w) p = alike_if es (w.room == 0) _ _ _ _ (refused es _) (alike_ok es _ _ refl)

  comment_behind : (c : CommentRead) (next : Option ℕ) (p : ParserState)
      → Alike es (take_comment c next (behind es p)) (take_comment c next p)
  comment_behind c next p = hold_behind c (event_at (events.Comment c.text (placed c next)) c.source) p.waiting p

  tail_behind : (kind : LexemeKind) (tail : Option CommentRead) (next : Option ℕ) (p : ParserState)
      → Alike es (take_tail kind tail next (behind es p)) (take_tail kind tail next p)
  tail_behind lexemes.Dash tail next p = alike_ok es _ _ refl
  tail_behind kind None next p = alike_ok es _ _ refl
  tail_behind kind (Some c) next p = comment_behind c next p

  -- ---- items

  lexeme_behind : (o : OptionsData) (t : Token) (next : Option ℕ) (p : ParserState)
      → Alike es (take_lexeme o t next (behind es p)) (take_lexeme o t next p)
  lexeme_behind o t next p =
      alike_then es (close o t (behind es p) >>= take_token o t) (close o t p >>= take_token o t) _ _
      (alike_then es (close o t (behind es p)) (close o t p) (take_token o t) (take_token o t) (close_behind o t p)
      (λ q. token_behind o t q.frames q))
      (λ q. tail_behind t.lexeme.kind t.lexeme.tail next q)

  item_alike : (o : OptionsData) (i : Item) (begins_key : Bool) (next : Option ℕ) (p : ParserState)
      → Alike es (take_item o i begins_key next (behind es p)) (take_item o i begins_key next p)
  item_alike o (OfComment c) begins_key next p = comment_behind c next p
  item_alike o (OfLexeme l) begins_key next p = lexeme_behind o (token_of begins_key l) next p

  -- an item is taken to the same events, which come behind those that were given
  pub item_behind : (o : OptionsData) (i : Item) (begins_key : Bool) (next : Option ℕ) (p : ParserState)
      → take_item o i begins_key next (behind es p) ≡ behind_step es (take_item o i begins_key next p)
  item_behind o i begins_key next p = (item_alike o i begins_key next p).is
