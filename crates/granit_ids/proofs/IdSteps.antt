-- Each item keeps ids above a bound and up to the count.
use Rattle.std.proofs.Common.{◌≡◌, ℕ, zero, suc, ◌-◌, Bool, true, false, inl, List, []}
use Rattle.std.proofs.Common.{◌∷◌, ◌++◌, Option, Some, None, Result, Ok, Err, refl}
use Rattle.std.specs.Prelude.{if◌then◌else◌}
use Rattle.granit_base.specs.Place.{Mark}
use Rattle.granit_error.specs.OptionsData.{OptionsData}
use Rattle.granit_lexemes.specs.Comment.{CommentRead}
use Rattle.granit_lexemes.specs.Lexeme as lexemes
use Rattle.granit_lexemes.specs.Lexeme.{DirectiveKind, Version, TagPrefix, Reserved, LexemeKind, Item, OfLexeme}
use Rattle.granit_lexemes.specs.Lexeme.{OfComment}
use Rattle.granit_lexemes.specs.Outcome.{Fault, ◌>>=◌}
use Rattle.granit_lexemes.specs.Pieces.{with_front, then_more, turns, pieces}
use Rattle.granit_lexemes.specs.PlainEvent as events
use Rattle.granit_lexemes.specs.PlainEvent.{PlainEvent, PlainVersion, event_at}
use Rattle.granit_lexemes.specs.Source.{Source}
use Rattle.granit_machine.specs.BlockSteps.{in_sequence, mapping_at, mapping_colon, bare_colon_in_mapping, next_pair}
use Rattle.granit_machine.specs.BlockSteps.{behind_indicator, at_block_key, behind_block_key, in_mapping}
use Rattle.granit_machine.specs.Closing.{token_start, end_top, ends_top, Closing, close_turn, depth, close}
use Rattle.granit_machine.specs.Entries.{lookup_text}
use Rattle.granit_machine.specs.FlowSteps.{close_flow, flow_at, flow_colon, begin_pair, at_entry, behind_entry_of}
use Rattle.granit_machine.specs.FlowSteps.{in_flow_sequence, in_flow_mapping_by, in_flow_pair}
use Rattle.granit_machine.specs.Frames.{PairStage, BeforePair, AtKey, BehindKey, AtQuestion, BehindQuestion, AtValue}
use Rattle.granit_machine.specs.Frames.{Frame, Root, WithProperties, BlockSequence}
use Rattle.granit_machine.specs.Frames.{BlockMapping, FlowSequence, FlowMapping, FlowPair, DocumentStage, Fresh}
use Rattle.granit_machine.specs.Frames.{Directives, Inside, BehindRoot, Between, Waiting, ParserState}
use Rattle.granit_machine.specs.Giving.{null_at, flush, give, give_empty, with_indent}
use Rattle.granit_machine.specs.Lexing.{FlaggedItem}
use Rattle.granit_machine.specs.NodeEnds.{empty_span}
use Rattle.granit_machine.specs.NodeSteps.{Stepped, NextEntry}
use Rattle.granit_machine.specs.Parser.{take_in, take_token, placed, hold, take_comment, take_tail, take_item, feed}
use Rattle.granit_machine.specs.StreamSteps.{at_root, with_version, with_handle, open_document, with_directive}
use Rattle.granit_machine.specs.StreamSteps.{behind_directives, bare_start, begin_document, without_directives}
use Rattle.granit_machine.specs.StreamSteps.{when_fresh, when_between, end_document, behind_root, outside}
use Rattle.granit_machine.specs.TokenSort.{TokenSort, BeginsKey, BeginsNode, QuestionToken, BareColon}
use Rattle.granit_machine.specs.TokenSort.{KeyedColon, CommaToken, SequenceCloser, MappingCloser, Token, token_of}
use Rattle.granit_ids.proofs.AnchorOrder.{Follow, follow_append, follow_one, none_told, number_told}
use Rattle.granit_ids.proofs.IdLemmas.{Bounds, IdsIn, FrameIds, HeldIds, Num, NumR, ids_append}
use Rattle.granit_ids.proofs.IdLemmas.{num_flush, num_give, num_empty, num_finish, num_owed, num_end_node}
use Rattle.granit_ids.proofs.IdLemmas.{num_end_properties, num_if, num_then, num_waits, num_top, num_dash}
use Rattle.granit_ids.proofs.IdLemmas.{num_bare, num_node, num_null, with_frames}

-- ---- in a block collection

num_sequence : (b : Bounds) (o : OptionsData) (t : Token) (column : ℕ) (indentless : Bool) (p : ParserState) → Num b p
    → NumR b (in_sequence o t column indentless p)
unfolding in_sequence
num_sequence b o t column indentless p x =
    let d = num_dash b o t NextEntry indentless (give_empty p) (num_empty b p x) in
    let n = num_node b o t p x in
    search (num_if, d, n)

num_mapping_at : (b : Bounds) (column : ℕ) (stage : PairStage) (p : ParserState) → Num b p
    → Num b (mapping_at column stage p)
num_mapping_at b column stage p x = num_top b (BlockMapping column stage) (flush p) (λ b n fs f. f) (num_flush b p x)

num_mapping_colon : (b : Bounds) (o : OptionsData) (t : Token) (column : ℕ) (p : ParserState) → Num b p
    → Num b (mapping_colon o t column p)
num_mapping_colon b o t column p x =
    num_waits b t.lexeme.start o.max_buffered_comment_events (mapping_at column AtValue p)
    (num_mapping_at b column AtValue p x)

num_bare_colon : (b : Bounds) (o : OptionsData) (t : Token) (column : ℕ) (stage : PairStage) (p : ParserState)
    → Num b p → Num b (bare_colon_in_mapping o t column stage p)
num_bare_colon b o t column AtQuestion p x =
    num_mapping_colon b o t column _ (num_give b (with_indent (Some column) (null_at t.lexeme.start)) p refl x)
num_bare_colon b o t column BehindQuestion p x = num_mapping_colon b o t column p x
num_bare_colon b o t column stage p x =
    num_mapping_colon b o t column _ (num_null b t.lexeme.start _ (num_owed b t.lexeme.start p x))

num_next_pair : (b : Bounds) (o : OptionsData) (t : Token) (column : ℕ) (stage : PairStage) (sort : TokenSort)
    (p : ParserState) → Num b p → NumR b (next_pair o t column stage sort p)
num_next_pair b o t column stage BeginsKey p x =
    num_bare b o t _ (num_mapping_at b column AtKey _ (num_owed b t.lexeme.start p x))
num_next_pair b o t column stage QuestionToken p x =
    num_mapping_at b column AtQuestion _ (num_owed b t.lexeme.start p x)
num_next_pair b o t column stage sort p x = num_bare_colon b o t column stage p x

num_behind_indicator : (b : Bounds) (o : OptionsData) (t : Token) (column : ℕ) (stage : PairStage) (p : ParserState)
    → Num b p → NumR b (behind_indicator o t column stage p)
unfolding behind_indicator
num_behind_indicator b o t column stage p x =
    let d = num_next_pair b o t column stage t.sort p x in
    let n = num_node b o t p x in
    search (num_if, d, n)

num_block_key : (b : Bounds) (o : OptionsData) (t : Token) (sort : TokenSort) (p : ParserState) → Num b p
    → NumR b (at_block_key o t sort p)
num_block_key b o t BeginsNode p x = num_bare b o t p x
num_block_key b o t sort p x = tt

num_behind_key : (b : Bounds) (o : OptionsData) (t : Token) (column : ℕ) (sort : TokenSort) (p : ParserState)
    → Num b p → NumR b (behind_block_key o t column sort p)
num_behind_key b o t column KeyedColon p x = num_mapping_colon b o t column p x
num_behind_key b o t column sort p x = tt

num_mapping : (b : Bounds) (o : OptionsData) (t : Token) (column : ℕ) (stage : PairStage) (p : ParserState) → Num b p
    → NumR b (in_mapping o t column stage p)
num_mapping b o t column AtKey p x = num_block_key b o t t.sort p x
num_mapping b o t column BehindKey p x = num_behind_key b o t column t.sort p x
num_mapping b o t column stage p x = num_behind_indicator b o t column stage p x

-- ---- in a flow collection

num_close_flow : (b : Bounds) (t : Token) (p : ParserState) → Num b p → Num b (close_flow t p)
num_close_flow b t p x =
    num_end_node b t.lexeme.start (record { start = t.lexeme.start; end = t.lexeme.shown.end }) p x

num_flow_at : (b : Bounds) (single : Bool) (stage : PairStage) (p : ParserState) → Num b p
    → Num b (flow_at single stage p)
num_flow_at b single stage p x = num_top b (FlowMapping single stage) (flush p) (λ b n fs f. f) (num_flush b p x)

num_flow_colon : (b : Bounds) (o : OptionsData) (t : Token) (single : Bool) (p : ParserState) → Num b p
    → Num b (flow_colon o t single p)
num_flow_colon b o t single p x =
    num_waits b t.lexeme.start o.max_buffered_comment_events (flow_at single AtValue p)
    (num_flow_at b single AtValue p x)

num_begin_pair : (b : Bounds) (t : Token) (end : Mark) (f : Frame) (p : ParserState)
    → ((b : Bounds) (n : ℕ) (fs : List Frame) → FrameIds b n fs → FrameIds b n (f ∷ fs)) → Num b p
    → Num b (begin_pair t end f p)
num_begin_pair b t end f p bare-f x =
    let q = give (event_at (events.MappingStart _ 0 None) (record { start = t.lexeme.start; end = end })) p in
    let y : Num b q = num_give b _ p refl x in
    with_frames b (f ∷ q.frames) q (bare-f b q.count q.frames y.frames) y

num_at_entry : (b : Bounds) (o : OptionsData) (t : Token) (sort : TokenSort) (p : ParserState) → Num b p
    → NumR b (at_entry o t sort p)
num_at_entry b o t SequenceCloser p x = num_close_flow b t p x
num_at_entry b o t QuestionToken p x = num_begin_pair b t t.lexeme.shown.end (FlowPair AtQuestion) p (λ b n fs f. f) x
num_at_entry b o t BareColon p x =
    num_flow_colon b o t true _ (num_null b t.lexeme.start _
    (num_begin_pair b t t.lexeme.start (FlowMapping true BeforePair) p (λ b n fs f. f) x))
num_at_entry b o t BeginsKey p x =
    num_bare b o t _ (num_begin_pair b t t.lexeme.start (FlowMapping true AtKey) p (λ b n fs f. f) x)
num_at_entry b o t BeginsNode p x = num_bare b o t p x
num_at_entry b o t sort p x = tt

num_behind_entry : (b : Bounds) (t : Token) (sort : TokenSort) (p : ParserState) → Num b p
    → NumR b (behind_entry_of t sort p)
num_behind_entry b t SequenceCloser p x = num_close_flow b t p x
num_behind_entry b t CommaToken p x = num_top b (FlowSequence false) p (λ b n fs f. f) x
num_behind_entry b t sort p x = tt

num_flow_sequence : (b : Bounds) (o : OptionsData) (t : Token) (behind : Bool) (p : ParserState) → Num b p
    → NumR b (in_flow_sequence o t behind p)
num_flow_sequence b o t false p x = num_at_entry b o t t.sort p x
num_flow_sequence b o t true p x = num_behind_entry b t t.sort p x

num_flow_mapping : (b : Bounds) (o : OptionsData) (t : Token) (single : Bool) (stage : PairStage) (sort : TokenSort)
    (p : ParserState) → Num b p → NumR b (in_flow_mapping_by o t single stage sort p)
num_flow_mapping b o t single AtKey BeginsNode p x = num_bare b o t p x
num_flow_mapping b o t single AtKey sort p x = tt
num_flow_mapping b o t single BehindKey KeyedColon p x = num_flow_colon b o t single p x
num_flow_mapping b o t single BehindKey sort p x = tt
num_flow_mapping b o t single stage MappingCloser p x = num_close_flow b t p x
num_flow_mapping b o t single BeforePair CommaToken p x = tt
num_flow_mapping b o t single stage CommaToken p x =
    num_flow_at b single BeforePair _ (num_owed b t.lexeme.start p x)
num_flow_mapping b o t single BeforePair QuestionToken p x = num_flow_at b single AtQuestion p x
num_flow_mapping b o t single BeforePair BeginsKey p x = num_bare b o t _ (num_flow_at b single AtKey p x)
num_flow_mapping b o t single BeforePair BareColon p x =
    num_flow_colon b o t single _ (num_null b t.lexeme.start p x)
num_flow_mapping b o t single AtQuestion BareColon p x =
    num_flow_colon b o t single _ (num_null b t.lexeme.start p x)
num_flow_mapping b o t single BehindQuestion BareColon p x = num_flow_colon b o t single p x
num_flow_mapping b o t single BeforePair BeginsNode p x = num_bare b o t p x
num_flow_mapping b o t single AtQuestion BeginsNode p x = num_bare b o t p x
num_flow_mapping b o t single AtValue BeginsNode p x = num_bare b o t p x
num_flow_mapping b o t single BeforePair sort p x = tt
num_flow_mapping b o t single AtQuestion sort p x = tt
num_flow_mapping b o t single AtValue sort p x = tt
num_flow_mapping b o t single stage sort p x = tt

num_flow_pair : (b : Bounds) (o : OptionsData) (t : Token) (stage : PairStage) (sort : TokenSort) (p : ParserState)
    → Num b p → NumR b (in_flow_pair o t stage sort p)
num_flow_pair b o t BehindQuestion sort p x = num_top b (FlowPair AtValue) p (λ b n fs f. f) x
num_flow_pair b o t stage BeginsNode p x = num_bare b o t p x
num_flow_pair b o t stage sort p x = tt

-- ---- around documents

num_root_frame : (b : Bounds) (explicit : Bool) (p : ParserState) → Num b p
    → Num b (record p { frames = Root explicit ∷ p.frames })
num_root_frame b explicit p x = with_frames b (Root explicit ∷ p.frames) p x.frames x

num_at_root : (b : Bounds) (o : OptionsData) (t : Token) (p : ParserState) → Num b p → NumR b (at_root o t p)
num_at_root b o t p x = let n = num_node b o t p x in search (num_if, n)

num_version : (b : Bounds) (t : Token) (v : Option PlainVersion) (major minor : ℕ) (p : ParserState) → Num b p
    → NumR b (with_version t v major minor p)
num_version b t (Some v) major minor p x = tt
num_version b t None major minor p x = search (num_if, x)

num_handle : (b : Bounds) (o : OptionsData) (t : Token) (version : Option PlainVersion) (handle prefix : List ℕ)
    (known : Option (List ℕ)) (p : ParserState) → Num b p → NumR b (with_handle o t version handle prefix known p)
num_handle b o t version handle prefix (Some known) p x = tt
num_handle b o t version handle prefix None p x = x

num_open_document : (b : Bounds) (t : Token) (version : Option PlainVersion) (p : ParserState) → Num b p
    → NumR b (open_document t version p)
num_open_document b t version p x =
    let e = event_at (events.DocumentStart true version) t.lexeme.shown in
    let q : ParserState = record p { names = []; stage = Inside } in
    num_root_frame b true (give e q) (num_give b e q refl x)

num_directive : (b : Bounds) (o : OptionsData) (t : Token) (d : DirectiveKind) (version : Option PlainVersion)
    (p : ParserState)
    → Num b p → NumR b (with_directive o t d version p)
num_directive b o t (Version major minor) version p x = num_version b t version major minor p x
num_directive b o t (TagPrefix handle prefix) version p x =
    num_handle b o t version handle prefix (lookup_text handle p.handles) p x
num_directive b o t (Reserved name parameters) version p x = x

num_directives : (b : Bounds) (o : OptionsData) (kind : LexemeKind) (t : Token) (version : Option PlainVersion)
    (p : ParserState) → Num b p → NumR b (behind_directives o kind t version p)
num_directives b o (lexemes.Directive d) t version p x = num_directive b o t d version p x
num_directives b o lexemes.DocumentStart t version p x = num_open_document b t version p x
num_directives b o kind t version p x = tt

bare_start_id : (sort : TokenSort) (t : Token) → number_told (bare_start sort t).kind ≡ 0
bare_start_id BeginsNode t = refl
bare_start_id sort t = refl

num_begin_document : (b : Bounds) (o : OptionsData) (t : Token) (p : ParserState) → Num b p
    → NumR b (begin_document o t p)
num_begin_document b o t p x =
    let q : ParserState = record p { names = []; handles = []; stage = Inside } in
    let r = give (bare_start t.sort t) q in
    let y = num_root_frame b false r (num_give b (bare_start t.sort t) q (bare_start_id t.sort t) x) in
    let n = num_node b o t (record r { frames = Root false ∷ r.frames }) y in
    search (num_if, n)

num_fresh : (b : Bounds) (o : OptionsData) (kind : LexemeKind) (t : Token) (p : ParserState) → Num b p
    → NumR b (when_fresh o kind t p)
num_fresh b o lexemes.DocumentEnd t p x = num_flush b p x
num_fresh b o lexemes.StreamEnd t p x = num_give b (event_at events.StreamEnd t.lexeme.shown) p refl x
num_fresh b o (lexemes.Directive d) t p x = num_directive b o t d None (without_directives p) x
num_fresh b o lexemes.DocumentStart t p x = num_open_document b t None (record p { handles = [] }) x
num_fresh b o kind t p x = num_begin_document b o t p x

num_between : (b : Bounds) (kind : LexemeKind) (t : Token) (p : ParserState) → Num b p
    → NumR b (when_between kind t p)
num_between b (lexemes.Directive d) t p x = tt
num_between b lexemes.DocumentStart t p x = num_open_document b t None (record p { handles = [] }) x
num_between b lexemes.StreamEnd t p x = num_give b (event_at events.StreamEnd t.lexeme.shown) p refl x
num_between b kind t p x = tt

num_end_document : (b : Bounds) (source : Source) (stage : DocumentStage) (p : ParserState) → Num b p
    → Num b (end_document source stage p)
num_end_document b source stage p x = num_give b (event_at events.DocumentEnd source) p refl x

num_behind_root : (b : Bounds) (kind : LexemeKind) (t : Token) (p : ParserState) → Num b p
    → NumR b (behind_root kind t p)
num_behind_root b lexemes.DocumentEnd t p x = num_end_document b t.lexeme.shown Fresh p x
num_behind_root b kind t p x = num_between b kind t (end_document (empty_span p.last_end) Between p)
    (num_end_document b (empty_span p.last_end) Between p x)

num_outside : (b : Bounds) (o : OptionsData) (stage : DocumentStage) (t : Token) (p : ParserState) → Num b p
    → NumR b (outside o stage t p)
num_outside b o Fresh t p x = num_fresh b o t.lexeme.kind t p x
num_outside b o (Directives version) t p x = num_directives b o t.lexeme.kind t version p x
num_outside b o BehindRoot t p x = num_behind_root b t.lexeme.kind t p x
num_outside b o Between t p x = num_between b t.lexeme.kind t p x
num_outside b o Inside t p x = tt

num_take_in : (b : Bounds) (o : OptionsData) (fs : List Frame) (t : Token) (p : ParserState) → Num b p
    → NumR b (take_in o fs t p)
num_take_in b o [] t p x = num_outside b o p.stage t p x
num_take_in b o (Root explicit ∷ fs) t p x = num_at_root b o t p x
num_take_in b o (WithProperties q ∷ fs) t p x = num_node b o t p x
num_take_in b o (BlockSequence column indentless ∷ fs) t p x = num_sequence b o t column indentless p x
num_take_in b o (BlockMapping column stage ∷ fs) t p x = num_mapping b o t column stage p x
num_take_in b o (FlowSequence behind ∷ fs) t p x = num_flow_sequence b o t behind p x
num_take_in b o (FlowMapping single stage ∷ fs) t p x = num_flow_mapping b o t single stage t.sort p x
num_take_in b o (FlowPair stage ∷ fs) t p x = num_flow_pair b o t stage t.sort p x

-- ---- closing

num_end_top : (b : Bounds) (o : OptionsData) (t : Token) (p : ParserState) (fs : List Frame) → Num b p
    → Num b (end_top o t p fs)
num_end_top b o t p [] x = num_end_node b t.lexeme.start (token_start t) p x
num_end_top b o t p (Root explicit ∷ fs) x = num_finish b _ (num_null b p.last_end p x)
num_end_top b o t p (WithProperties q ∷ fs) x = num_end_properties b o q p x
num_end_top b o t p (f ∷ fs) x = num_end_node b t.lexeme.start (token_start t) p x

abbrev ClosingNum : Bounds → Closing → Type 0
ClosingNum b (Ok x) = Num b x.1
ClosingNum b (Err f) = Unit {0}

num_close_by : (c : Bool) (b : Bounds) (o : OptionsData) (t : Token) (p : ParserState) → Num b p
    → ClosingNum b (if c then Ok (Some [], end_top o t p p.frames) else Ok (None, p))
num_close_by true b o t p x = num_end_top b o t p p.frames x
num_close_by false b o t p x = x

num_close_turn : (b : Bounds) (o : OptionsData) (t : Token) (p : ParserState) → Num b p
    → ClosingNum b (close_turn o t p)
unfolding close_turn
num_close_turn b o t p x = num_close_by (ends_top t p p.frames) b o t p x

abbrev ClosedNum : Bounds → Result (List PlainEvent × ParserState) Fault → Type 0
ClosedNum b (Ok x) = Num b x.1
ClosedNum b (Err f) = Unit {0}

front_num : (b : Bounds) (front : List PlainEvent) (r : Result (List PlainEvent × ParserState) Fault)
    → ClosedNum b r → ClosedNum b (with_front front r)
front_num b front (Ok x) y = y
front_num b front (Err f) y = tt

then_num : (b : Bounds) (o : OptionsData) (t : Token) (n : ℕ) (r : Closing)
    → ((p : ParserState) → Num b p → ClosedNum b (turns (close_turn o t) n p)) → ClosingNum b r
    → ClosedNum b (r >>= λ x. then_more (turns (close_turn o t) n) x.0 x.1)
then_num b o t n (Err f) more x = tt
then_num b o t n (Ok (None, q)) more x = x
then_num b o t n (Ok (Some y, q)) more x = front_num b y (turns (close_turn o t) n q) (more q x)

num_turns : (b : Bounds) (o : OptionsData) (t : Token) (n : ℕ) (p : ParserState) → Num b p
    → ClosedNum b (turns (close_turn o t) n p)
unfolding turns
num_turns b o t zero p x = x
num_turns b o t (suc n) p x =
    then_num b o t n (close_turn o t p) (num_turns b o t n) (num_close_turn b o t p x)

closed_num : (b : Bounds) (r : Result (List PlainEvent × ParserState) Fault) → ClosedNum b r
    → NumR b (r >>= λ x. Ok x.1)
closed_num b (Ok x) y = y
closed_num b (Err f) y = tt

num_close : (b : Bounds) (o : OptionsData) (t : Token) (p : ParserState) → Num b p → NumR b (close o t p)
unfolding pieces
num_close b o t p x = closed_num b (pieces depth (close_turn o t) p) (num_turns b o t (suc (depth p)) p x)

-- ---- comments and items

num_hold : (b : Bounds) (c : CommentRead) (e : PlainEvent) (w : Option Waiting) (p : ParserState)
    → number_told e.kind ≡ 0 → HeldIds b p.count w → Num b p → NumR b (hold c e w p)
num_hold b c e None p none h x =
    let n = none_told e.kind none in
    record {
      least = x.least;
      low = x.low;
      given = ids_append b p.count p.given (e ∷ []) x.given (inl n.0, tt);
      frames = x.frames;
      held = x.held;
      follow = follow_append false p.given (e ∷ []) x.follow (follow_one e n.1);
    }
num_hold b c e (Some w) p none h x =
    let n = none_told e.kind none in
    let v : Waiting = record w { room = w.room - 1; held = w.held ++ e ∷ [] } in
    let y : Num b (record p { waiting = Some v }) = record {
      least = x.least;
      low = x.low;
      given = x.given;
      frames = x.frames;
      held = (
        ids_append b p.count w.held (e ∷ []) h.0 (inl n.0, tt),
        follow_append false w.held (e ∷ []) h.1 (follow_one e n.1),
      );
      follow = x.follow;
    } in
    search (num_if, y)

num_comment : (b : Bounds) (c : CommentRead) (next : Option ℕ) (p : ParserState) → Num b p
    → NumR b (take_comment c next p)
num_comment b c next p x =
    num_hold b c (event_at (events.Comment c.text (placed c next)) c.source) p.waiting p refl x.held x

num_tail : (b : Bounds) (kind : LexemeKind) (tail : Option CommentRead) (next : Option ℕ) (p : ParserState) → Num b p
    → NumR b (take_tail kind tail next p)
num_tail b lexemes.Dash tail next p x = x
num_tail b kind None next p x = x
num_tail b kind (Some c) next p x = num_comment b c next p x

num_item : (b : Bounds) (o : OptionsData) (i : Item) (flag : Bool) (next : Option ℕ) (p : ParserState) → Num b p
    → NumR b (take_item o i flag next p)
num_item b o (OfComment c) flag next p x = num_comment b c next p x
num_item b o (OfLexeme l) flag next p x =
    let t = token_of flag l in
    num_then b (close o t p >>= take_token o t) (take_tail l.kind l.tail next)
    (num_then b (close o t p) (take_token o t) (num_close b o t p x) (λ q y. num_take_in b o q.frames t q y))
    (λ q y. num_tail b l.kind l.tail next q y)

-- the events of an item, in which an anchor's stands directly behind its node's first, and the state behind it
abbrev pub FedNum : Bounds → Result (List PlainEvent × ParserState) Fault → Type 0
FedNum b (Ok x) = IdsIn b x.1.count x.0 × Num b x.1 × Follow false x.0
FedNum b (Err f) = Unit {0}

fed_num : (b : Bounds) (r : Stepped) → NumR b r → FedNum b (r >>= λ q. Ok (q.given, record q { given = [] }))
fed_num b (Ok q) x = (
  x.given,
  record { least = x.least; low = x.low; given = tt; frames = x.frames; held = x.held; follow = tt },
  x.follow,
)
fed_num b (Err f) x = tt

pub feed_num : (b : Bounds) (o : OptionsData) (i : FlaggedItem) (next : Option ℕ) (p : ParserState) → Num b p
    → FedNum b (feed o i next p)
unfolding feed
feed_num b o i next p x = fed_num b (take_item o i.item i.begins_key next p) (num_item b o i.item i.begins_key next p x)
