-- A lexeme or a comment that is fed gives the end of at most one document.
use Rattle.std.proofs.Common.{◌≡◌, ℕ, zero, suc, ◌+◌, ◌-◌, ◌≤◌, Bool, true, false, List, [], ◌∷◌, ◌++◌, Option, Some}
use Rattle.std.proofs.Common.{None, Result, Ok, Err, refl, ap, arith}
use Rattle.std.specs.Prelude.{if◌then◌else◌}
use Rattle.granit_base.specs.Place.{Mark}
use Rattle.granit_base.specs.declared.style.StructureStyle.TheVariants.{Flow}
use Rattle.granit_chains.proofs.FeedEnds.{bare_ends, closed_ends, dash_ends, empty_ends, ends_join, finished, flushed}
use Rattle.granit_chains.proofs.FeedEnds.{give_ends, KeepsEnds, keeps_if, keeps_more, keeps_on, node_keeps, owed_ends}
use Rattle.granit_chains.proofs.FeedEnds.{properties_ends, waits_ends}
use Rattle.granit_chains.specs.Chains.{ends_among, ends_of_kind, given_ends, held_events}
use Rattle.granit_error.specs.OptionsData.{OptionsData}
use Rattle.granit_lexemes.specs.Comment.{CommentRead}
use Rattle.granit_lexemes.specs.Lexeme as lexemes
use Rattle.granit_lexemes.specs.Lexeme.{DirectiveKind, Item, Lexeme, LexemeKind, OfComment, OfLexeme, Reserved}
use Rattle.granit_lexemes.specs.Lexeme.{TagPrefix, Version}
use Rattle.granit_lexemes.specs.Outcome.{Fault, ◌>>=◌}
use Rattle.granit_lexemes.specs.Pieces.{pieces, then_more, turns, with_front}
use Rattle.granit_lexemes.specs.PlainEvent as events
use Rattle.granit_lexemes.specs.PlainEvent.{Comment, event_at, PlainEvent, PlainVersion}
use Rattle.granit_lexemes.specs.Source.{Source}
use Rattle.granit_machine.specs.BlockSteps.{at_block_key, bare_colon_in_mapping, behind_block_key, behind_indicator}
use Rattle.granit_machine.specs.BlockSteps.{in_mapping, in_sequence, mapping_at, mapping_colon, next_pair}
use Rattle.granit_machine.specs.Closing.{close, close_turn, Closing, depth, end_top, token_start}
use Rattle.granit_machine.specs.Entries.{lookup_text}
use Rattle.granit_machine.specs.FlowSteps.{at_entry, begin_pair, behind_entry_of, close_flow, flow_at, flow_colon}
use Rattle.granit_machine.specs.FlowSteps.{in_flow_mapping_by, in_flow_pair, in_flow_sequence}
use Rattle.granit_machine.specs.Frames.{AtKey, AtQuestion, AtValue, BeforePair, BehindKey, BehindQuestion, BehindRoot}
use Rattle.granit_machine.specs.Frames.{Between, BlockMapping, BlockSequence, Directives, DocumentStage, FlowMapping}
use Rattle.granit_machine.specs.Frames.{FlowPair, FlowSequence, Frame, Fresh, Inside, PairStage, ParserState, Root}
use Rattle.granit_machine.specs.Frames.{Waiting, WithProperties}
use Rattle.granit_machine.specs.Giving.{flush, give, give_empty, null_at, with_indent}
use Rattle.granit_machine.specs.Lexing.{FlaggedItem}
use Rattle.granit_machine.specs.NodeEnds.{empty_span, owed}
use Rattle.granit_machine.specs.NodeSteps.{bare, NextEntry, node, Stepped, take_dash}
use Rattle.granit_machine.specs.Parser.{feed, hold, placed, take_comment, take_in, take_item, take_lexeme, take_tail}
use Rattle.granit_machine.specs.Parser.{take_token}
use Rattle.granit_machine.specs.StreamSteps.{at_root, bare_start, begin_document, behind_directives, behind_root}
use Rattle.granit_machine.specs.StreamSteps.{end_document, open_document, outside, when_between, when_fresh}
use Rattle.granit_machine.specs.StreamSteps.{with_directive, with_handle, without_directives, with_version}
use Rattle.granit_machine.specs.TokenSort.{BareColon, BeginsKey, BeginsNode, CommaToken, KeyedColon, MappingCloser}
use Rattle.granit_machine.specs.TokenSort.{QuestionToken, SequenceCloser, Token, token_of, TokenSort}

-- what goes on behind a state that gave no more
bare_on : (n : ℕ) (o : OptionsData) (t : Token) (p : ParserState) → given_ends p ≤ n → KeepsEnds n (bare o t p)
bare_on n o t p less = keeps_more (given_ends p) n (bare o t p) less (bare_ends o t p)

-- ---- in a block collection

sequence_ends : (o : OptionsData) (t : Token) (column : ℕ) (indentless : Bool) (p : ParserState)
    → KeepsEnds (given_ends p) (in_sequence o t column indentless p)
unfolding in_sequence
sequence_ends o t column indentless p =
    let d = keeps_more (given_ends (give_empty p)) (given_ends p) (take_dash o t NextEntry indentless (give_empty p))
    (empty_ends p) (dash_ends o t NextEntry indentless (give_empty p)) in
    let e = node_keeps o t p in search (keeps_if, d, e)

at_ends : (column : ℕ) (stage : PairStage) (p : ParserState) → given_ends (mapping_at column stage p) ≤ given_ends p
at_ends column stage p = let a = flushed p in omega (arith, a)

colon_ends : (o : OptionsData) (t : Token) (column : ℕ) (p : ParserState)
    → given_ends (mapping_colon o t column p) ≤ given_ends p
colon_ends o t column p =
    let a = at_ends column AtValue p in
    let b = waits_ends t.lexeme.start o.max_buffered_comment_events (mapping_at column AtValue p) in
    omega (arith, a, b)

bare_colon_ends : (o : OptionsData) (t : Token) (column : ℕ) (stage : PairStage) (p : ParserState)
    → given_ends (bare_colon_in_mapping o t column stage p) ≤ given_ends p
bare_colon_ends o t column AtQuestion p =
    let e = with_indent (Some column) (null_at t.lexeme.start) in
    let a = give_ends e p refl in let b = colon_ends o t column (give e p) in omega (arith, a, b)
bare_colon_ends o t column BehindQuestion p = colon_ends o t column p
bare_colon_ends o t column stage p =
    let q = owed t.lexeme.start p in
    let a = owed_ends t.lexeme.start p in
    let b = give_ends (null_at t.lexeme.start) q refl in
    let c = colon_ends o t column (give (null_at t.lexeme.start) q) in omega (arith, a, b, c)

pair_ends : (o : OptionsData) (t : Token) (column : ℕ) (stage : PairStage) (sort : TokenSort) (p : ParserState)
    → KeepsEnds (given_ends p) (next_pair o t column stage sort p)
pair_ends o t column stage BeginsKey p =
    let q = owed t.lexeme.start p in
    let a = owed_ends t.lexeme.start p in
    let b = at_ends column AtKey q in bare_on (given_ends p) o t (mapping_at column AtKey q) (omega (arith, a, b))
pair_ends o t column stage QuestionToken p =
    let q = owed t.lexeme.start p in
    let a = owed_ends t.lexeme.start p in let b = at_ends column AtQuestion q in omega (arith, a, b)
pair_ends o t column stage sort p = bare_colon_ends o t column stage p

indicator_ends : (o : OptionsData) (t : Token) (column : ℕ) (stage : PairStage) (p : ParserState)
    → KeepsEnds (given_ends p) (behind_indicator o t column stage p)
unfolding behind_indicator
indicator_ends o t column stage p =
    let d = pair_ends o t column stage t.sort p in let e = node_keeps o t p in search (keeps_if, d, e)

key_ends : (o : OptionsData) (t : Token) (sort : TokenSort) (p : ParserState)
    → KeepsEnds (given_ends p) (at_block_key o t sort p)
key_ends o t BeginsNode p = bare_ends o t p
key_ends o t sort p = tt

behind_key_ends : (o : OptionsData) (t : Token) (column : ℕ) (sort : TokenSort) (p : ParserState)
    → KeepsEnds (given_ends p) (behind_block_key o t column sort p)
behind_key_ends o t column KeyedColon p = colon_ends o t column p
behind_key_ends o t column sort p = tt

mapping_ends : (o : OptionsData) (t : Token) (column : ℕ) (stage : PairStage) (p : ParserState)
    → KeepsEnds (given_ends p) (in_mapping o t column stage p)
mapping_ends o t column AtKey p = key_ends o t t.sort p
mapping_ends o t column BehindKey p = behind_key_ends o t column t.sort p
mapping_ends o t column stage p = indicator_ends o t column stage p

-- ---- in a flow collection

close_ends : (t : Token) (p : ParserState) → given_ends (close_flow t p) ≤ given_ends p
close_ends t p = closed_ends t.lexeme.start (record { start = t.lexeme.start; end = t.lexeme.shown.end }) p

flow_ends : (single : Bool) (stage : PairStage) (p : ParserState) → given_ends (flow_at single stage p) ≤ given_ends p
flow_ends single stage p = let a = flushed p in omega (arith, a)

flow_colon_ends : (o : OptionsData) (t : Token) (single : Bool) (p : ParserState)
    → given_ends (flow_colon o t single p) ≤ given_ends p
flow_colon_ends o t single p =
    let a = flow_ends single AtValue p in
    let b = waits_ends t.lexeme.start o.max_buffered_comment_events (flow_at single AtValue p) in omega (arith, a, b)

null_colon_ends : (o : OptionsData) (t : Token) (single : Bool) (p : ParserState)
    → given_ends (flow_colon o t single (give (null_at t.lexeme.start) p)) ≤ given_ends p
null_colon_ends o t single p =
    let a = give_ends (null_at t.lexeme.start) p refl in
    let b = flow_colon_ends o t single (give (null_at t.lexeme.start) p) in omega (arith, a, b)

begin_pair_ends : (t : Token) (end : Mark) (frame : Frame) (p : ParserState)
    → given_ends (begin_pair t end frame p) ≤ given_ends p
begin_pair_ends t end frame p =
    give_ends (event_at (events.MappingStart Flow 0 None) (record { start = t.lexeme.start; end = end })) p refl

entry_ends : (o : OptionsData) (t : Token) (sort : TokenSort) (p : ParserState)
    → KeepsEnds (given_ends p) (at_entry o t sort p)
entry_ends o t SequenceCloser p = close_ends t p
entry_ends o t QuestionToken p = begin_pair_ends t t.lexeme.shown.end (FlowPair AtQuestion) p
entry_ends o t BareColon p =
    let q = begin_pair t t.lexeme.start (FlowMapping true BeforePair) p in
    let a = begin_pair_ends t t.lexeme.start (FlowMapping true BeforePair) p in
    let b = null_colon_ends o t true q in omega (arith, a, b)
entry_ends o t BeginsKey p =
    bare_on (given_ends p) o t (begin_pair t t.lexeme.start (FlowMapping true AtKey) p)
    (begin_pair_ends t t.lexeme.start (FlowMapping true AtKey) p)
entry_ends o t BeginsNode p = bare_ends o t p
entry_ends o t sort p = tt

behind_entry_ends : (t : Token) (sort : TokenSort) (p : ParserState)
    → KeepsEnds (given_ends p) (behind_entry_of t sort p)
behind_entry_ends t SequenceCloser p = close_ends t p
behind_entry_ends t CommaToken p = omega arith
behind_entry_ends t sort p = tt

flow_sequence_ends : (o : OptionsData) (t : Token) (behind_entry : Bool) (p : ParserState)
    → KeepsEnds (given_ends p) (in_flow_sequence o t behind_entry p)
flow_sequence_ends o t false p = entry_ends o t t.sort p
flow_sequence_ends o t true p = behind_entry_ends t t.sort p

comma_ends : (t : Token) (single : Bool) (p : ParserState)
    → given_ends (flow_at single BeforePair (owed t.lexeme.start p)) ≤ given_ends p
comma_ends t single p =
    let a = owed_ends t.lexeme.start p in
    let b = flow_ends single BeforePair (owed t.lexeme.start p) in omega (arith, a, b)

flow_mapping_ends : (o : OptionsData) (t : Token) (single : Bool) (stage : PairStage) (sort : TokenSort)
    (p : ParserState) → KeepsEnds (given_ends p) (in_flow_mapping_by o t single stage sort p)
flow_mapping_ends o t single AtKey BeginsNode p = bare_ends o t p
flow_mapping_ends o t single AtKey sort p = tt
flow_mapping_ends o t single BehindKey KeyedColon p = flow_colon_ends o t single p
flow_mapping_ends o t single BehindKey sort p = tt
flow_mapping_ends o t single stage MappingCloser p = close_ends t p
flow_mapping_ends o t single BeforePair CommaToken p = tt
flow_mapping_ends o t single stage CommaToken p = comma_ends t single p
flow_mapping_ends o t single BeforePair QuestionToken p = flow_ends single AtQuestion p
flow_mapping_ends o t single BeforePair BeginsKey p =
    bare_on (given_ends p) o t (flow_at single AtKey p) (flow_ends single AtKey p)
flow_mapping_ends o t single BeforePair BareColon p = null_colon_ends o t single p
flow_mapping_ends o t single AtQuestion BareColon p = null_colon_ends o t single p
flow_mapping_ends o t single BehindQuestion BareColon p = flow_colon_ends o t single p
flow_mapping_ends o t single BeforePair BeginsNode p = bare_ends o t p
flow_mapping_ends o t single AtQuestion BeginsNode p = bare_ends o t p
flow_mapping_ends o t single AtValue BeginsNode p = bare_ends o t p
flow_mapping_ends o t single BeforePair sort p = tt
flow_mapping_ends o t single AtQuestion sort p = tt
flow_mapping_ends o t single AtValue sort p = tt
flow_mapping_ends o t single stage sort p = tt

flow_pair_ends : (o : OptionsData) (t : Token) (stage : PairStage) (sort : TokenSort) (p : ParserState)
    → KeepsEnds (given_ends p) (in_flow_pair o t stage sort p)
flow_pair_ends o t BehindQuestion sort p = omega arith
flow_pair_ends o t stage BeginsNode p = bare_ends o t p
flow_pair_ends o t stage sort p = tt

-- ---- around documents

root_ends : (o : OptionsData) (t : Token) (p : ParserState) → KeepsEnds (given_ends p) (at_root o t p)
root_ends o t p = let e = node_keeps o t p in search (keeps_if, e)

version_ends : (t : Token) (v : Option PlainVersion) (major minor : ℕ) (p : ParserState)
    → KeepsEnds (given_ends p) (with_version t v major minor p)
version_ends t (Some v) major minor p = tt
version_ends t None major minor p =
    let e : given_ends p ≤ given_ends p = omega arith in search (keeps_if, e)

handle_ends : (o : OptionsData) (t : Token) (version : Option PlainVersion) (handle prefix : List ℕ)
    (known : Option (List ℕ)) (p : ParserState)
    → KeepsEnds (given_ends p) (with_handle o t version handle prefix known p)
handle_ends o t version handle prefix (Some known) p = tt
handle_ends o t version handle prefix None p = omega arith

directive_ends : (o : OptionsData) (t : Token) (d : DirectiveKind) (version : Option PlainVersion) (p : ParserState)
    → KeepsEnds (given_ends p) (with_directive o t d version p)
directive_ends o t (Version major minor) version p = version_ends t version major minor p
directive_ends o t (TagPrefix handle prefix) version p =
    handle_ends o t version handle prefix (lookup_text handle p.handles) p
directive_ends o t (Reserved name parameters) version p = omega arith

opened_ends : (t : Token) (version : Option PlainVersion) (p : ParserState)
    → KeepsEnds (given_ends p) (open_document t version p)
opened_ends t version p =
    give_ends (event_at (events.DocumentStart true version) t.lexeme.shown) (record p {
      names =
          [];
      stage = Inside;
    }) refl

directives_ends : (o : OptionsData) (kind : LexemeKind) (t : Token) (version : Option PlainVersion) (p : ParserState)
    → KeepsEnds (given_ends p) (behind_directives o kind t version p)
directives_ends o (lexemes.Directive d) t version p = directive_ends o t d version p
directives_ends o lexemes.DocumentStart t version p = opened_ends t version p
directives_ends o kind t version p = tt

bare_start_ends : (sort : TokenSort) (t : Token) → ends_of_kind (bare_start sort t).kind ≡ 0
bare_start_ends BeginsNode t = refl
bare_start_ends sort t = refl

begun_ends : (o : OptionsData) (t : Token) (p : ParserState) → KeepsEnds (given_ends p) (begin_document o t p)
begun_ends o t p =
    let q : ParserState = record p { names = []; handles = []; stage = Inside } in
    let r = give (bare_start t.sort t) q in
    let s : ParserState = record r { frames = Root false ∷ r.frames } in
    let e = keeps_more (given_ends s) (given_ends p) (node o t s)
    (give_ends (bare_start t.sort t) q (bare_start_ends t.sort t)) (node_keeps o t s) in search (keeps_if, e)

fresh_ends : (o : OptionsData) (kind : LexemeKind) (t : Token) (p : ParserState)
    → KeepsEnds (given_ends p) (when_fresh o kind t p)
fresh_ends o lexemes.DocumentEnd t p = flushed p
fresh_ends o lexemes.StreamEnd t p = give_ends (event_at events.StreamEnd t.lexeme.shown) p refl
fresh_ends o (lexemes.Directive d) t p = directive_ends o t d None (without_directives p)
fresh_ends o lexemes.DocumentStart t p = opened_ends t None (record p { handles = [] })
fresh_ends o kind t p = begun_ends o t p

between_ends : (kind : LexemeKind) (t : Token) (p : ParserState) → KeepsEnds (given_ends p) (when_between kind t p)
between_ends (lexemes.Directive d) t p = tt
between_ends lexemes.DocumentStart t p = opened_ends t None (record p { handles = [] })
between_ends lexemes.StreamEnd t p = give_ends (event_at events.StreamEnd t.lexeme.shown) p refl
between_ends kind t p = tt

-- the end of the document
end_ends : (source : Source) (stage : DocumentStage) (p : ParserState)
    → given_ends (end_document source stage p) ≤ suc (given_ends p)
end_ends source stage p =
    let e = event_at events.DocumentEnd source in
    let a = flushed p in let b = ends_join (flush p).given (e ∷ []) in omega (arith, a, b)

behind_root_ends : (kind : LexemeKind) (t : Token) (p : ParserState)
    → KeepsEnds (suc (given_ends p)) (behind_root kind t p)
behind_root_ends lexemes.DocumentEnd t p = end_ends t.lexeme.shown Fresh p
behind_root_ends kind t p =
    let q = end_document (empty_span p.last_end) Between p in
    keeps_more (given_ends q) (suc (given_ends p)) (when_between kind t q) (end_ends (empty_span p.last_end) Between p)
    (between_ends kind t q)

outside_ends : (o : OptionsData) (stage : DocumentStage) (t : Token) (p : ParserState)
    → KeepsEnds (suc (given_ends p)) (outside o stage t p)
outside_ends o Fresh t p =
    keeps_more (given_ends p) (suc (given_ends p)) (when_fresh o t.lexeme.kind t p) (omega arith)
    (fresh_ends o t.lexeme.kind t p)
outside_ends o (Directives version) t p =
    keeps_more (given_ends p) (suc (given_ends p)) (behind_directives o t.lexeme.kind t version p) (omega arith)
    (directives_ends o t.lexeme.kind t version p)
outside_ends o BehindRoot t p = behind_root_ends t.lexeme.kind t p
outside_ends o Between t p =
    keeps_more (given_ends p) (suc (given_ends p)) (when_between t.lexeme.kind t p) (omega arith)
    (between_ends t.lexeme.kind t p)
outside_ends o Inside t p = tt

-- ---- an item

one_more : (p : ParserState) (r : Stepped) → KeepsEnds (given_ends p) r → KeepsEnds (suc (given_ends p)) r
one_more p r k = keeps_more (given_ends p) (suc (given_ends p)) r (omega arith) k

taken_in : (o : OptionsData) (fs : List Frame) (t : Token) (p : ParserState)
    → KeepsEnds (suc (given_ends p)) (take_in o fs t p)
taken_in o [] t p = outside_ends o p.stage t p
taken_in o (Root explicit ∷ fs) t p = one_more p (at_root o t p) (root_ends o t p)
taken_in o (WithProperties q ∷ fs) t p = one_more p (node o t p) (node_keeps o t p)
taken_in o (BlockSequence column indentless ∷ fs) t p =
    one_more p (in_sequence o t column indentless p) (sequence_ends o t column indentless p)
taken_in o (BlockMapping column stage ∷ fs) t p =
    one_more p (in_mapping o t column stage p) (mapping_ends o t column stage p)
taken_in o (FlowSequence behind_entry ∷ fs) t p =
    one_more p (in_flow_sequence o t behind_entry p) (flow_sequence_ends o t behind_entry p)
taken_in o (FlowMapping single stage ∷ fs) t p =
    one_more p (in_flow_mapping_by o t single stage t.sort p) (flow_mapping_ends o t single stage t.sort p)
taken_in o (FlowPair stage ∷ fs) t p = one_more p (in_flow_pair o t stage t.sort p) (flow_pair_ends o t stage t.sort p)

top_ends : (o : OptionsData) (t : Token) (p : ParserState) (fs : List Frame)
    → given_ends (end_top o t p fs) ≤ given_ends p
top_ends o t p [] = closed_ends t.lexeme.start (token_start t) p
top_ends o t p (Root explicit ∷ fs) =
    let a = give_ends (null_at p.last_end) p refl in
    let b = finished (give (null_at p.last_end) p) in omega (arith, a, b)
top_ends o t p (WithProperties q ∷ fs) = properties_ends o q p
top_ends o t p (BlockSequence column indentless ∷ fs) = closed_ends t.lexeme.start (token_start t) p
top_ends o t p (BlockMapping column stage ∷ fs) = closed_ends t.lexeme.start (token_start t) p
top_ends o t p (FlowSequence behind_entry ∷ fs) = closed_ends t.lexeme.start (token_start t) p
top_ends o t p (FlowMapping single stage ∷ fs) = closed_ends t.lexeme.start (token_start t) p
top_ends o t p (FlowPair stage ∷ fs) = closed_ends t.lexeme.start (token_start t) p

abbrev ClosesEnds : ℕ → Closing → Type 0
ClosesEnds n (Ok x) = given_ends x.1 ≤ n
ClosesEnds n (Err f) = Unit {0}

closes_if : (n : ℕ) (b : Bool) (r s : Closing) → ClosesEnds n r → ClosesEnds n s → ClosesEnds n (if b then r else s)
closes_if n true r s x y = x
closes_if n false r s x y = y

turn_closes : (o : OptionsData) (t : Token) (p : ParserState) → ClosesEnds (given_ends p) (close_turn o t p)
unfolding close_turn
turn_closes o t p =
    closes_if (given_ends p) _ (Ok (Some [], end_top o t p p.frames)) (Ok (None, p)) (top_ends o t p p.frames)
    (omega arith)

abbrev AllClosedEnds : ℕ → Result (List PlainEvent × ParserState) Fault → Type 0
AllClosedEnds n (Ok x) = given_ends x.1 ≤ n
AllClosedEnds n (Err f) = Unit {0}

closed_front : (n : ℕ) (front : List PlainEvent) (r : Result (List PlainEvent × ParserState) Fault) → AllClosedEnds n r
    → AllClosedEnds n (with_front front r)
closed_front n front (Ok x) c = c
closed_front n front (Err f) c = tt

closed_more : (n m : ℕ) (r : Result (List PlainEvent × ParserState) Fault) → n ≤ m → AllClosedEnds n r
    → AllClosedEnds m r
closed_more n m (Ok x) less c = omega (arith, less, c)
closed_more n m (Err f) less c = tt

closed_then : (o : OptionsData) (t : Token) (k n : ℕ) (r : Closing) → ClosesEnds n r
    → ((p : ParserState) → AllClosedEnds (given_ends p) (turns (close_turn o t) k p))
    → AllClosedEnds n (r >>= λ x. then_more (turns (close_turn o t) k) x.0 x.1)
closed_then o t k n (Ok (Some es, p)) c more =
    closed_front n es (turns (close_turn o t) k p)
    (closed_more (given_ends p) n (turns (close_turn o t) k p) c (more p))
closed_then o t k n (Ok (None, p)) c more = c
closed_then o t k n (Err f) c more = tt

turns_closed : (o : OptionsData) (t : Token) (k : ℕ) (p : ParserState)
    → AllClosedEnds (given_ends p) (turns (close_turn o t) k p)
unfolding turns
turns_closed o t zero p = omega arith
turns_closed o t (suc k) p =
    closed_then o t k (given_ends p) (close_turn o t p) (turn_closes o t p) (turns_closed o t k)

closed_keeps : (n : ℕ) (r : Result (List PlainEvent × ParserState) Fault) → AllClosedEnds n r
    → KeepsEnds n (r >>= λ x. Ok x.1)
closed_keeps n (Ok x) c = c
closed_keeps n (Err f) c = tt

close_keeps : (o : OptionsData) (t : Token) (p : ParserState) → KeepsEnds (given_ends p) (close o t p)
unfolding pieces
close_keeps o t p =
    closed_keeps (given_ends p) (turns (close_turn o t) (suc (depth p)) p) (turns_closed o t (suc (depth p)) p)

held_keeps : (c : CommentRead) (text : _) (placement : _) (source : Source) (w : Option Waiting) (p : ParserState)
    → p.waiting ≡ w → KeepsEnds (given_ends p) (hold c (event_at (Comment text placement) source) w p)
held_keeps c text placement source None p is =
    let e = event_at (Comment text placement) source in let a = ends_join p.given (e ∷ []) in omega (arith, a)
held_keeps c text placement source (Some w) p is =
    let e = event_at (Comment text placement) source in
    let a = ends_join w.held (e ∷ []) in
    let b : ends_among (held_events p.waiting) ≡ ends_among w.held =
    ap (λ (x : Option Waiting). ends_among (held_events x)) is in
    let q : ParserState = record p { waiting = Some (record w { room = w.room - 1; held = w.held ++ e ∷ [] }) } in
    let k : given_ends q ≤ given_ends p = omega (arith, a, b) in search (keeps_if, k)

comment_keeps : (c : CommentRead) (next : Option ℕ) (p : ParserState) → KeepsEnds (given_ends p) (take_comment c next p)
comment_keeps c next p = held_keeps c c.text (placed c next) c.source p.waiting p refl

tail_keeps : (kind : LexemeKind) (tail : Option CommentRead) (next : Option ℕ) (p : ParserState)
    → KeepsEnds (given_ends p) (take_tail kind tail next p)
tail_keeps lexemes.Dash tail next p = omega arith
tail_keeps kind None next p = omega arith
tail_keeps kind (Some c) next p = comment_keeps c next p

lexeme_keeps : (o : OptionsData) (t : Token) (next : Option ℕ) (p : ParserState)
    → KeepsEnds (suc (given_ends p)) (take_lexeme o t next p)
lexeme_keeps o t next p =
    let m = suc (given_ends p) in
    keeps_on m m (close o t p >>= take_token o t) (take_tail t.lexeme.kind t.lexeme.tail next)
    (keeps_on (given_ends p) m (close o t p) (take_token o t) (close_keeps o t p) (λ q less.
    keeps_more (suc (given_ends q)) m (take_token o t q) (omega (arith, less)) (taken_in o q.frames t q)))
    (λ q less. keeps_more (given_ends q) m (take_tail t.lexeme.kind t.lexeme.tail next q) less
    (tail_keeps t.lexeme.kind t.lexeme.tail next q))

item_keeps : (o : OptionsData) (i : Item) (b : Bool) (next : Option ℕ) (p : ParserState)
    → KeepsEnds (suc (given_ends p)) (take_item o i b next p)
item_keeps o (OfComment c) b next p =
    keeps_more (given_ends p) (suc (given_ends p)) (take_comment c next p) (omega arith) (comment_keeps c next p)
item_keeps o (OfLexeme l) b next p = lexeme_keeps o (token_of b l) next p

-- what is given, and what is held then
abbrev pub FedEnds : ℕ → Result (List PlainEvent × ParserState) Fault → Type 0
FedEnds n (Ok x) = ends_among x.0 + given_ends x.1 ≤ n
FedEnds n (Err f) = Unit {0}

fed_by : (n : ℕ) (r : Stepped) → KeepsEnds n r → FedEnds n (r >>= λ q. Ok (q.given, record q { given = [] }))
fed_by n (Ok q) k = omega (arith, k)
fed_by n (Err f) k = tt

pub fed_ends : (o : OptionsData) (i : FlaggedItem) (next : Option ℕ) (p : ParserState)
    → FedEnds (suc (given_ends p)) (feed o i next p)
unfolding feed
fed_ends o i next p = fed_by (suc (given_ends p)) (take_item o i.item i.begins_key next p)
    (item_keeps o i.item i.begins_key next p)
