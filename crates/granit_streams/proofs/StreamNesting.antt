-- What closes, documents, comments and whole items keep the frames what the events left open; and a run's events are a
-- stream.
use Rattle.std.proofs.Common.{◌≡◌, ℕ, zero, suc, ◌<◌, ◌-◌, ◌&&◌, ◌||◌, not, Bool, true, false, List, [], ◌∷◌, ◌++◌}
use Rattle.std.proofs.Common.{Option, Some, None, Result, Ok, Err, refl, sym, ap, ap₂, subst, arith}
use Rattle.std.proofs.lemmas.Bool.{or_parts}
use Rattle.std.specs.Prelude.{if◌then◌else◌}
use Rattle.granit_error.specs.OptionsData.{OptionsData}
use Rattle.granit_lexemes.specs.Comment.{CommentRead}
use Rattle.granit_lexemes.specs.Lexeme.{DirectiveKind, Version, TagPrefix, Reserved, KeyStart, LexemeKind, Item}
use Rattle.granit_lexemes.specs.Lexeme.{OfLexeme, OfComment}
use Rattle.granit_lexemes.specs.Outcome.{Fault, ◌>>=◌}
use Rattle.granit_lexemes.specs.Pieces.{with_front, then_more, turns, pieces}
use Rattle.granit_lexemes.specs.PlainEvent.{PlainEvent, PlainVersion, event_at}
use Rattle.granit_lexemes.specs.Source.{Source}
use Rattle.granit_machine.specs.Closing.{goes_on_by_kind, is_behind_pair, is_behind_question, goes_on_with, ends_top}
use Rattle.granit_machine.specs.Closing.{token_start, end_top, Closing, close_turn, depth, close}
use Rattle.granit_machine.specs.FlowSteps.{at_entry, behind_entry_of, in_flow_mapping_by, in_flow_pair}
use Rattle.granit_machine.specs.Frames.{PairStage, BeforePair, AtKey, BehindKey, AtQuestion, BehindQuestion, AtValue}
use Rattle.granit_machine.specs.Frames.{BehindAlone, BehindPair, NodeProperties, Frame, Root, WithProperties}
use Rattle.granit_machine.specs.Frames.{BlockSequence, BlockMapping, FlowSequence, FlowMapping, FlowPair, DocumentStage}
use Rattle.granit_machine.specs.Frames.{Fresh, Directives, Inside, BehindRoot, Between, Waiting, ParserState}
use Rattle.granit_machine.specs.Giving.{null_at, flush, give}
use Rattle.granit_machine.specs.Lexing.{FlaggedItem}
use Rattle.granit_machine.specs.NodeEnds.{empty_span, under_column, may_be_indentless}
use Rattle.granit_machine.specs.NodeSteps.{Stepped}
use Rattle.granit_machine.specs.Entries.{lookup_text}
use Rattle.granit_machine.specs.Parser.{take_in, take_token, placed, hold, take_comment, take_tail, take_item, feed}
use Rattle.granit_machine.specs.Reader.{is_end_kind}
use Rattle.granit_machine.specs.StreamSteps.{at_root, with_version, declared, with_handle, open_document}
use Rattle.granit_machine.specs.StreamSteps.{with_directive}
use Rattle.granit_machine.specs.StreamSteps.{behind_directives, bare_start, begin_document, without_directives}
use Rattle.granit_machine.specs.StreamSteps.{when_fresh, when_between, end_document, behind_root, outside}
use Rattle.granit_machine.specs.TokenSort.{is_key_token, is_bare_colon, ends_entry, token_column}
use Rattle.granit_machine.specs.TokenSort.{ends_frame, is_right_of, TokenSort, BeginsNode, OfStream, Token, token_of}
use Rattle.granit_machine.specs.TokenSort.{token_sort, begins_node}
use Rattle.granit_steps.specs.Levels.{Level, InStream, BeforeNode, BehindNode, behind_event, and_then, behind_events}
use Rattle.granit_lexemes.specs.PlainEvent as events
use Rattle.granit_lexemes.specs.Lexeme as lexemes
use Rattle.granit_machine.proofs.ClosingLemmas.{close_turn-Shortens, every_frame_ends}
use Rattle.granit_machine.proofs.SortLemmas.{end_kind_is}
use Rattle.granit_streams.proofs.Nesting.{levels_of, NoFrames, Fine, Held, quiet_last, more_left, Is, Agrees, as_is}
use Rattle.granit_streams.proofs.Nesting.{agrees, flush_is, give_is, finish_agrees, null_is, end_node_agrees}
use Rattle.granit_streams.proofs.Nesting.{end_properties_agrees}
use Rattle.granit_streams.proofs.StepNesting.{Agreed, node_agreed, in_sequence_agreed, in_mapping_agreed, agreed_if}
use Rattle.granit_streams.proofs.StepNesting.{in_flow_sequence_agreed, ways, flow_mapping_agreed, flow_pair_agreed}

-- ---- closing

end_top_agrees : (a : List Level) (o : OptionsData) (t : Token) (p : ParserState) (fs : List Frame) (st : DocumentStage)
    → ends_top t p fs ≡ true → Is a p fs st (levels_of fs st) → Fine fs → Agrees a (end_top o t p fs)
end_top_agrees a o t p [] st e x c = absurd (cc)
end_top_agrees a o t p (Root explicit ∷ fs) st e x c = finish_agrees a (give (null_at p.last_end) p)
    (Root explicit ∷ fs) st c (null_is a p.last_end p (Root explicit ∷ fs) st (BeforeNode ∷ InStream ∷ [])
    (BehindNode ∷ InStream ∷ []) refl x)
end_top_agrees a o t p (WithProperties q ∷ fs) st e x c = end_properties_agrees a o q p (WithProperties q ∷ fs) st
    (record { is = x; clean = c })
end_top_agrees a o t p (BlockSequence column indentless ∷ fs) st e x c = end_node_agrees a t.lexeme.start
    (token_start t) p (BlockSequence column indentless) fs st refl c x
end_top_agrees a o t p (BlockMapping column stage ∷ fs) st e x c = end_node_agrees a t.lexeme.start (token_start t) p
    (BlockMapping column stage) fs st refl c x
end_top_agrees a o t p (FlowSequence b ∷ fs) st e x c = end_node_agrees a t.lexeme.start (token_start t) p
    (FlowSequence b) fs st refl c x
end_top_agrees a o t p (FlowMapping single stage ∷ fs) st e x c = end_node_agrees a t.lexeme.start (token_start t) p
    (FlowMapping single stage) fs st refl c x
end_top_agrees a o t p (FlowPair stage ∷ fs) st e x c = end_node_agrees a t.lexeme.start (token_start t) p
    (FlowPair stage) fs st refl c x

-- a state where closing stops
record Closed (a : List Level) (t : Token) (p : ParserState) : Type 0 where
  agreed : Agrees a p
  stops : ends_top t p p.frames ≡ false

abbrev TurnClosed : List Level → Token → Closing → Type 0
TurnClosed a t (Ok (Some y, q)) = Agrees a q
TurnClosed a t (Ok (None, q)) = Closed a t q
TurnClosed a t (Err f) = Unit {0}

close_turn_by : (b : Bool) (a : List Level) (o : OptionsData) (t : Token) (p : ParserState) → ends_top t p p.frames ≡ b
    → Agrees a p → TurnClosed a t (if b then Ok (Some [], end_top o t p p.frames) else Ok (None, p))
close_turn_by true a o t p e x = end_top_agrees a o t p p.frames p.stage e (as_is a p x) x.fine
close_turn_by false a o t p e x = record { agreed = x; stops = e }

close_turn_closed : (a : List Level) (o : OptionsData) (t : Token) (p : ParserState) → Agrees a p
    → TurnClosed a t (close_turn o t p)
unfolding close_turn
close_turn_closed a o t p x = close_turn_by (ends_top t p p.frames) a o t p refl x

abbrev AllClosed : List Level → Token → Result (List PlainEvent × ParserState) Fault → Type 0
AllClosed a t (Ok x) = Closed a t x.1
AllClosed a t (Err f) = Unit {0}

closed_front : (a : List Level) (t : Token) (front : List PlainEvent) (r : Result (List PlainEvent × ParserState) Fault)
    → AllClosed a t r → AllClosed a t (with_front front r)
closed_front a t front (Ok x) p = p
closed_front a t front (Err f) p = tt

abbrev ClosesAll : List Level → OptionsData → Token → ℕ → Type 0
ClosesAll a o t n = (p : ParserState) → Agrees a p → depth p < n → AllClosed a t (turns (close_turn o t) n p)

closes_turn : (a : List Level) (o : OptionsData) (t : Token) (n : ℕ) (p : ParserState) (r : Closing) → ClosesAll a o t n
    → close_turn o t p ≡ r → depth p < suc n → TurnClosed a t r
    → AllClosed a t (r >>= λ x. then_more (turns (close_turn o t) n) x.0 x.1)
closes_turn a o t n p (Err f) more is h c = tt
closes_turn a o t n p (Ok (None, q)) more is h c = c
closes_turn a o t n p (Ok (Some y, q)) more is h c = let less = close_turn-Shortens o t p q y is in closed_front a t y
    (turns (close_turn o t) n q) (more q c (omega (arith, less, h)))

closes_turns : (a : List Level) (o : OptionsData) (t : Token) (n : ℕ) → ClosesAll a o t n
unfolding turns
closes_turns a o t zero p x h = absurd (omega arith)
closes_turns a o t (suc n) p x h = closes_turn a o t n p (close_turn o t p) (closes_turns a o t n) refl h
    (close_turn_closed a o t p x)

pieces_closed : (a : List Level) (o : OptionsData) (t : Token) (p : ParserState) → Agrees a p
    → AllClosed a t (pieces depth (close_turn o t) p)
unfolding pieces
pieces_closed a o t p x = closes_turns a o t (suc (depth p)) p x (omega arith)

-- ---- around documents

abbrev Outside : List Level → ParserState → DocumentStage → Type 0
Outside a p st = Is a p [] st (InStream ∷ [])

at_root_agreed : (a : List Level) (o : OptionsData) (t : Token) (p : ParserState) (explicit : Bool) (fs : List Frame)
    (st : DocumentStage) → Is a p (Root explicit ∷ fs) st (BeforeNode ∷ InStream ∷ []) → NoFrames fs
    → Agreed a (at_root o t p)
at_root_agreed a o t p explicit fs st x c = let e = node_agreed a o t p (Root explicit ∷ fs) st
    (record { is = x; clean = c }) in search (agreed_if, e)

in_directives : (a : List Level) (version : Option PlainVersion) (p : ParserState) (st : DocumentStage) → Outside a p st
    → Agrees a (record p { stage = Directives version })
in_directives a version p st x = agrees a (record p { stage = Directives version }) [] (Directives version)
    (record { left = x.left; frames = x.frames; stage = refl; held = x.held }) tt

version_agreed : (a : List Level) (t : Token) (v : Option PlainVersion) (major minor : ℕ) (p : ParserState)
    (st : DocumentStage) → Outside a p st → Agreed a (with_version t v major minor p)
version_agreed a t (Some v) major minor p st x = tt
version_agreed a t None major minor p st x = let e = in_directives a (Some (record { major = major; minor = minor })) p
    st x in search (agreed_if, e)

handle_agreed : (a : List Level) (o : OptionsData) (t : Token) (version : Option PlainVersion) (handle prefix : List ℕ)
    (known : Option (List ℕ)) (p : ParserState) (st : DocumentStage) → Outside a p st
    → Agreed a (with_handle o t version handle prefix known p)
handle_agreed a o t version handle prefix (Some known) p st x = tt
handle_agreed a o t version handle prefix None p st x =
    agrees a (record (declared o.keep_tags handle prefix p) { stage = Directives version }) []
    (Directives version) (record { left = x.left; frames = x.frames; stage = refl; held = x.held }) tt

-- a document that begins with an event
begun_document : (a : List Level) (e : PlainEvent) (explicit : Bool) (p : ParserState) (st : DocumentStage)
    → ((ls : List Level) → behind_event e.kind (InStream ∷ []) ≡ Some (BeforeNode ∷ InStream ∷ [])) → Outside a p st
    → Is a (record (give e p) { frames = Root explicit ∷ (give e p).frames }) (Root explicit ∷ []) st
    (BeforeNode ∷ InStream ∷ [])
begun_document a e explicit p st h x =
    let q = give_is a e p [] st (InStream ∷ []) (BeforeNode ∷ InStream ∷ []) (h []) x in
    record { left = q.left; frames = ap (λ fs. Root explicit ∷ fs) q.frames; stage = q.stage; held = q.held }

open_document_agreed : (a : List Level) (t : Token) (version : Option PlainVersion) (p : ParserState)
    (st : DocumentStage) → Outside a p st → Agreed a (open_document t version p)
open_document_agreed a t version p st x =
    agrees a _ (Root true ∷ []) Inside (begun_document a (event_at (events.DocumentStart true version) t.lexeme.shown)
    true (record p { names = []; stage = Inside }) Inside (λ ls. refl)
    (record { left = x.left; frames = x.frames; stage = refl; held = x.held })) tt

directive_agreed : (a : List Level) (o : OptionsData) (t : Token) (d : DirectiveKind) (version : Option PlainVersion)
    (p : ParserState)
    (st : DocumentStage) → Outside a p st → Agreed a (with_directive o t d version p)
directive_agreed a o t (Version major minor) version p st x = version_agreed a t version major minor p st x
directive_agreed a o t (TagPrefix handle prefix) version p st x = handle_agreed a o t version handle prefix
    (lookup_text handle p.handles) p st x
directive_agreed a o t (Reserved name parameters) version p st x = in_directives a version p st x

directives_agreed : (a : List Level) (o : OptionsData) (kind : LexemeKind) (t : Token) (version : Option PlainVersion)
    (p : ParserState) (st : DocumentStage) → Outside a p st → Agreed a (behind_directives o kind t version p)
directives_agreed a o (lexemes.Directive d) t version p st x = directive_agreed a o t d version p st x
directives_agreed a o lexemes.DocumentStart t version p st x = open_document_agreed a t version p st x
directives_agreed a o kind t version p st x = tt

bare_start_opens : (sort : TokenSort) (t : Token)
    → behind_event (bare_start sort t).kind (InStream ∷ []) ≡ Some (BeforeNode ∷ InStream ∷ [])
bare_start_opens BeginsNode t = refl
bare_start_opens sort t = refl

begin_document_agreed : (a : List Level) (o : OptionsData) (t : Token) (p : ParserState) (st : DocumentStage)
    → Outside a p st → Agreed a (begin_document o t p)
begin_document_agreed a o t p st x =
    let q : ParserState = record p { names = []; handles = []; stage = Inside } in
    let y = begun_document a (bare_start t.sort t) false q Inside (λ ls. bare_start_opens t.sort t)
    (record { left = x.left; frames = x.frames; stage = refl; held = x.held }) in
    let e = node_agreed a o t (record (give (bare_start t.sort t) q) {
      frames = Root false
          ∷ (give (bare_start t.sort t) q).frames;
    }) (Root false ∷ []) Inside (record { is = y; clean = tt }) in
    search (agreed_if, e)

-- ---- the end of the stream

record Ended (a : List Level) (p : ParserState) : Type 0 where
  left : behind_events p.given a ≡ Some []
  held : Held p.waiting

abbrev EndedR : List Level → Stepped → Type 0
EndedR a (Ok q) = Ended a q
EndedR a (Err f) = Unit {0}

-- a lexeme of the stream's end ends it, and others leave what the frames say
abbrev After : Bool → List Level → Stepped → Type 0
After true a r = EndedR a r
After false a r = Agreed a r

stream_ended : (a : List Level) (t : Token) (p : ParserState) (st : DocumentStage) → Outside a p st
    → Ended a (give (event_at events.StreamEnd t.lexeme.shown) p)
stream_ended a t p st x = let q = give_is a (event_at events.StreamEnd t.lexeme.shown) p [] st (InStream ∷ []) [] refl
    x in record { left = q.left; held = q.held }

flush_agrees : (a : List Level) (p : ParserState) (st : DocumentStage) → Is a p [] st (levels_of [] st)
    → Agrees a (flush p)
flush_agrees a p st x = agrees a (flush p) [] st (flush_is a p [] st (levels_of [] st) x) tt

forgotten : (a : List Level) (p : ParserState) (st : DocumentStage) → Outside a p st
    → Outside a (without_directives p) st
forgotten a p st x = record { left = x.left; frames = x.frames; stage = x.stage; held = x.held }

no_handles : (a : List Level) (p : ParserState) (st : DocumentStage) → Outside a p st
    → Outside a (record p { handles = [] }) st
no_handles a p st x = record { left = x.left; frames = x.frames; stage = x.stage; held = x.held }

fresh_after : (a : List Level) (o : OptionsData) (kind : LexemeKind) (t : Token) (p : ParserState)
    → t.lexeme.kind ≡ kind → Outside a p Fresh → After (is_end_kind kind) a (when_fresh o kind t p)
fresh_after a o lexemes.DocumentEnd t p e x = flush_agrees a p Fresh x
fresh_after a o lexemes.StreamEnd t p e x = stream_ended a t p Fresh x
fresh_after a o (lexemes.Directive d) t p e x = directive_agreed a o t d None (without_directives p) Fresh
    (forgotten a p Fresh x)
fresh_after a o lexemes.DocumentStart t p e x = open_document_agreed a t None (record p { handles = [] }) Fresh
    (no_handles a p Fresh x)
fresh_after a o kind t p e x = begin_document_agreed a o t p Fresh x

between_after : (a : List Level) (kind : LexemeKind) (t : Token) (p : ParserState) (st : DocumentStage) → Outside a p st
    → After (is_end_kind kind) a (when_between kind t p)
between_after a (lexemes.Directive d) t p st x = tt
between_after a lexemes.DocumentStart t p st x = open_document_agreed a t None (record p { handles = [] }) st
    (no_handles a p st x)
between_after a lexemes.StreamEnd t p st x = stream_ended a t p st x
between_after a kind t p st x = tt

document_ended : (a : List Level) (source : Source) (to : DocumentStage) (p : ParserState) (st : DocumentStage)
    → Is a p [] st (BehindNode ∷ InStream ∷ []) → Outside a (end_document source to p) to
document_ended a source to p st x =
    let q = give_is a (event_at events.DocumentEnd source) p [] st (BehindNode ∷ InStream ∷ []) (InStream ∷ []) refl
    x in
    record { left = q.left; frames = q.frames; stage = refl; held = q.held }

behind_root_after : (a : List Level) (kind : LexemeKind) (t : Token) (p : ParserState) (st : DocumentStage)
    → Is a p [] st (BehindNode ∷ InStream ∷ []) → After (is_end_kind kind) a (behind_root kind t p)
behind_root_after a lexemes.DocumentEnd t p st x = agrees a (end_document t.lexeme.shown Fresh p) [] Fresh
    (document_ended a t.lexeme.shown Fresh p st x) tt
behind_root_after a kind t p st x = between_after a kind t (end_document (empty_span p.last_end) Between p) Between
    (document_ended a (empty_span p.last_end) Between p st x)

directives_after : (a : List Level) (o : OptionsData) (kind : LexemeKind) (t : Token) (version : Option PlainVersion)
    (p : ParserState) (st : DocumentStage) → Outside a p st
    → After (is_end_kind kind) a (behind_directives o kind t version p)
directives_after a o lexemes.StreamEnd t version p st x = tt
directives_after a o kind t version p st x = directives_agreed a o kind t version p st x

misplaced_after : (b : Bool) (a : List Level) (f : Fault) → After b a (Err f)
misplaced_after true a f = tt
misplaced_after false a f = tt

outside_after : (a : List Level) (o : OptionsData) (st : DocumentStage) (t : Token) (p : ParserState)
    → Is a p [] st (levels_of [] st) → After (is_end_kind t.lexeme.kind) a (outside o st t p)
outside_after a o Fresh t p x = fresh_after a o t.lexeme.kind t p refl x
outside_after a o (Directives version) t p x = directives_after a o t.lexeme.kind t version p (Directives version) x
outside_after a o BehindRoot t p x = behind_root_after a t.lexeme.kind t p BehindRoot x
outside_after a o Between t p x = between_after a t.lexeme.kind t p Between x
outside_after a o Inside t p x = misplaced_after (is_end_kind t.lexeme.kind) a _

-- ---- one step

end_sort : (b : Bool) (key : Option KeyStart) (kind : LexemeKind) → is_end_kind kind ≡ true
    → token_sort b key kind ≡ OfStream
end_sort b key lexemes.StreamEnd e = refl
end_sort b key kind e = absurd (cc)

ended_if : (a : List Level) (b : Bool) (x y : Stepped) → b ≡ false → EndedR a y → EndedR a (if b then x else y)
ended_if a true x y e p = absurd (cc)
ended_if a false x y e p = p

not_on : (t : Token) (q : NodeProperties) (fs : List Frame) → t.sort ≡ OfStream → t.lexeme.kind ≡ lexemes.StreamEnd
    → goes_on_with t q fs ≡ false
unfolding goes_on_with
not_on t q fs e k =
    let right = t.lexeme.in_flow || is_right_of (token_column t) (under_column fs) in
    ap₂ (λ sort kind. if is_key_token sort && not t.lexeme.in_flow then right else goes_on_by_kind right
    t.lexeme.in_flow (may_be_indentless t.lexeme.start.place.column fs) q sort kind) e k

mapping_refuses : (a : List Level) (o : OptionsData) (t : Token) (single : Bool) (stage : PairStage) (p : ParserState)
    → EndedR a (in_flow_mapping_by o t single stage OfStream p)
mapping_refuses a o t single BeforePair p = tt
mapping_refuses a o t single AtKey p = tt
mapping_refuses a o t single BehindKey p = tt
mapping_refuses a o t single AtQuestion p = tt
mapping_refuses a o t single BehindQuestion p = tt
mapping_refuses a o t single AtValue p = tt
mapping_refuses a o t single BehindAlone p = tt
mapping_refuses a o t single BehindPair p = tt

pair_refuses : (a : List Level) (o : OptionsData) (t : Token) (stage : PairStage) (p : ParserState)
    → ((ends_entry OfStream || is_behind_pair stage) || (is_behind_question stage && not (is_bare_colon OfStream)))
    ≡ false → EndedR a (in_flow_pair o t stage OfStream p)
pair_refuses a o t BeforePair p e = tt
pair_refuses a o t AtKey p e = tt
pair_refuses a o t BehindKey p e = tt
pair_refuses a o t AtQuestion p e = tt
pair_refuses a o t BehindQuestion p e = absurd (cc)
pair_refuses a o t AtValue p e = tt
pair_refuses a o t BehindAlone p e = tt
pair_refuses a o t BehindPair p e = tt

-- within a document the end of the stream is refused
end_refused : (a : List Level) (o : OptionsData) (t : Token) (p : ParserState) (f : Frame) (fs : List Frame)
    → ends_top t p (f ∷ fs) ≡ false → t.sort ≡ OfStream → t.lexeme.kind ≡ lexemes.StreamEnd
    → EndedR a (take_in o (f ∷ fs) t p)
end_refused a o t p (Root explicit) fs e s k = ended_if a (begins_node t.sort) _ _ (ap begins_node s) tt
end_refused a o t p (WithProperties q) fs e s k = absurd (let g = ap not (not_on t q fs s k) in cc)
end_refused a o t p (BlockSequence column indentless) fs e s k = absurd
    (let g = every_frame_ends t column s in let h = (or_parts (ends_frame (token_column t) column) _ e).0 in cc)
end_refused a o t p (BlockMapping column stage) fs e s k = absurd (let g = every_frame_ends t column s in cc)
end_refused a o t p (FlowSequence false) fs e s k = subst (λ s. EndedR a (at_entry o t s p)) (sym s) tt
end_refused a o t p (FlowSequence true) fs e s k = subst (λ s. EndedR a (behind_entry_of t s p)) (sym s) tt
end_refused a o t p (FlowMapping single stage) fs e s k =
    subst (λ s. EndedR a (in_flow_mapping_by o t single stage s p)) (sym s) (mapping_refuses a o t single stage p)
end_refused a o t p (FlowPair stage) fs e s k =
    let g : ((ends_entry OfStream || is_behind_pair stage)
    || (is_behind_question stage && not (is_bare_colon OfStream))) ≡ false =
    subst (λ s. ((ends_entry s || is_behind_pair stage) || (is_behind_question stage && not (is_bare_colon s))) ≡ false)
    s e in
    subst (λ s. EndedR a (in_flow_pair o t stage s p)) (sym s) (pair_refuses a o t stage p g)

frames_agreed : (a : List Level) (o : OptionsData) (t : Token) (p : ParserState) (f : Frame) (fs : List Frame)
    (st : DocumentStage) → Is a p (f ∷ fs) st (levels_of (f ∷ fs) st) → Fine (f ∷ fs)
    → Agreed a (take_in o (f ∷ fs) t p)
frames_agreed a o t p (Root explicit) fs st x c = at_root_agreed a o t p explicit fs st x c
frames_agreed a o t p (WithProperties q) fs st x c = node_agreed a o t p (WithProperties q ∷ fs) st
    (record { is = x; clean = c })
frames_agreed a o t p (BlockSequence column indentless) fs st x c = in_sequence_agreed a o t column indentless p fs st x
    c
frames_agreed a o t p (BlockMapping column stage) fs st x c = in_mapping_agreed a o t column stage p fs st x c
frames_agreed a o t p (FlowSequence b) fs st x c = in_flow_sequence_agreed a o t b p fs st x c
frames_agreed a o t p (FlowMapping single stage) fs st x c = flow_mapping_agreed a o t single stage t.sort p
    (ways a o t single stage p fs st x c)
frames_agreed a o t p (FlowPair stage) fs st x c = flow_pair_agreed a o t stage stage t.sort p fs st x c

after_by : (b : Bool) (a : List Level) (r : Stepped) → Agreed a r → (b ≡ true → EndedR a r) → After b a r
after_by true a r p q = q refl
after_by false a r p q = p

step_in_after : (a : List Level) (o : OptionsData) (fs : List Frame) (t : Token) (p : ParserState)
    → Is a p fs p.stage (levels_of fs p.stage) → Fine fs → ends_top t p fs ≡ false
    → (is_end_kind t.lexeme.kind ≡ true → t.sort ≡ OfStream) → After (is_end_kind t.lexeme.kind) a (take_in o fs t p)
step_in_after a o [] t p x c e s = outside_after a o p.stage t p x
step_in_after a o (f ∷ fs) t p x c e s = after_by (is_end_kind t.lexeme.kind) a (take_in o (f ∷ fs) t p)
    (frames_agreed a o t p f fs p.stage x c) (λ is. end_refused a o t p f fs e (s is) (end_kind_is t.lexeme.kind is))

closed_step : (a : List Level) (o : OptionsData) (t : Token) (r : Result (List PlainEvent × ParserState) Fault)
    → AllClosed a t r → (is_end_kind t.lexeme.kind ≡ true → t.sort ≡ OfStream)
    → After (is_end_kind t.lexeme.kind) a ((r >>= λ x. Ok x.1) >>= take_token o t)
closed_step a o t (Ok x) c s = step_in_after a o x.1.frames t x.1 (as_is a x.1 c.agreed) c.agreed.fine c.stops s
closed_step a o t (Err f) c s = misplaced_after (is_end_kind t.lexeme.kind) a f

-- ---- comments

hold_agrees : (a : List Level) (c : CommentRead) (e : PlainEvent) (w : Option Waiting) (p : ParserState)
    → ((ls : List Level) → behind_event e.kind ls ≡ Some ls) → Held w → Agrees a p → Agreed a (hold c e w p)
hold_agrees a c e None p q h x = record {
  left = more_left a p.given (e ∷ []) (levels_of p.frames p.stage)
      (levels_of p.frames p.stage) x.left (ap (λ y. and_then y (behind_events [])) (q (levels_of p.frames p.stage)));
  fine = x.fine;
  held = x.held;
}
hold_agrees a c e (Some w) p q h x =
    let k : Agreed a (Ok (record p { waiting = Some (record w { room = w.room - 1; held = w.held ++ e ∷ [] }) })) =
    record { left = x.left; fine = x.fine; held = quiet_last w.held e h q } in
    search (agreed_if, k)

ended_choice : (a : List Level) (b : Bool) (x y : Stepped) → EndedR a x → EndedR a y → EndedR a (if b then x else y)
ended_choice a true x y p q = p
ended_choice a false x y p q = q

hold_ended : (a : List Level) (c : CommentRead) (e : PlainEvent) (w : Option Waiting) (p : ParserState)
    → ((ls : List Level) → behind_event e.kind ls ≡ Some ls) → Held w → Ended a p → EndedR a (hold c e w p)
hold_ended a c e None p q h x = record {
  left = more_left a p.given (e ∷ []) [] [] x.left
      (ap (λ y. and_then y (behind_events [])) (q []));
  held = x.held;
}
hold_ended a c e (Some w) p q h x =
    let k : EndedR a (Ok (record p { waiting = Some (record w { room = w.room - 1; held = w.held ++ e ∷ [] }) })) =
    record { left = x.left; held = quiet_last w.held e h q } in
    search (ended_choice, k)

comment_agreed : (a : List Level) (c : CommentRead) (next : Option ℕ) (p : ParserState) → Agrees a p
    → Agreed a (take_comment c next p)
comment_agreed a c next p x = hold_agrees a c (event_at (events.Comment c.text (placed c next)) c.source) p.waiting p
    (λ ls. refl) x.held x

comment_ended : (a : List Level) (c : CommentRead) (next : Option ℕ) (p : ParserState) → Ended a p
    → EndedR a (take_comment c next p)
comment_ended a c next p x = hold_ended a c (event_at (events.Comment c.text (placed c next)) c.source) p.waiting p
    (λ ls. refl) x.held x

tail_agreed : (a : List Level) (kind : LexemeKind) (tail : Option CommentRead) (next : Option ℕ) (p : ParserState)
    → Agrees a p → Agreed a (take_tail kind tail next p)
tail_agreed a lexemes.Dash tail next p x = x
tail_agreed a kind None next p x = x
tail_agreed a kind (Some c) next p x = comment_agreed a c next p x

tail_ended : (a : List Level) (kind : LexemeKind) (tail : Option CommentRead) (next : Option ℕ) (p : ParserState)
    → Ended a p → EndedR a (take_tail kind tail next p)
tail_ended a lexemes.Dash tail next p x = x
tail_ended a kind None next p x = x
tail_ended a kind (Some c) next p x = comment_ended a c next p x

after_tail : (b : Bool) (a : List Level) (kind : LexemeKind) (tail : Option CommentRead) (next : Option ℕ) (r : Stepped)
    → After b a r → After b a (r >>= take_tail kind tail next)
after_tail true a kind tail next (Ok q) x = tail_ended a kind tail next q x
after_tail false a kind tail next (Ok q) x = tail_agreed a kind tail next q x
after_tail b a kind tail next (Err f) x = misplaced_after b a f

-- ---- one item

abbrev pub is_end_item : Item → Bool
is_end_item (OfLexeme l) = is_end_kind l.kind
is_end_item (OfComment c) = false

item_after : (a : List Level) (o : OptionsData) (i : Item) (b : Bool) (next : Option ℕ) (p : ParserState) → Agrees a p
    → After (is_end_item i) a (take_item o i b next p)
item_after a o (OfComment c) b next p x = comment_agreed a c next p x
item_after a o (OfLexeme l) b next p x =
    after_tail (is_end_kind l.kind) a l.kind l.tail next (close o (token_of b l) p >>= take_token o (token_of b l))
    (closed_step a o (token_of b l) (pieces depth (close_turn o (token_of b l)) p)
    (pieces_closed a o (token_of b l) p x) (end_sort b l.key l.kind))

-- a state between items
pub record Rests (p : ParserState) : Type 0 where
  pub given : p.given ≡ []
  pub fine : Fine p.frames
  pub held : Held p.waiting

pub record Over (p : ParserState) : Type 0 where
  pub given : p.given ≡ []
  pub held : Held p.waiting

abbrev pub Fed : Bool → List Level → Result (List PlainEvent × ParserState) Fault → Type 0
Fed true a (Ok x) = (behind_events x.0 a ≡ Some []) × Over x.1
Fed false a (Ok x) = (behind_events x.0 a ≡ Some (levels_of x.1.frames x.1.stage)) × Rests x.1
Fed true a (Err f) = Unit {0}
Fed false a (Err f) = Unit {0}

fed_by : (b : Bool) (a : List Level) (r : Stepped) → After b a r
    → Fed b a (r >>= λ q. Ok (q.given, record q { given = [] }))
fed_by true a (Ok q) x = (x.left, record { given = refl; held = x.held })
fed_by false a (Ok q) x = (x.left, record { given = refl; fine = x.fine; held = x.held })
fed_by true a (Err f) x = tt
fed_by false a (Err f) x = tt

resting : (p : ParserState) → Rests p → Agrees (levels_of p.frames p.stage) p
resting p x = record {
  left = ap (λ es. behind_events es (levels_of p.frames p.stage)) x.given;
  fine = x.fine;
  held =
      x.held;
}

pub feed_fed : (o : OptionsData) (i : FlaggedItem) (next : Option ℕ) (p : ParserState) → Rests p
    → Fed (is_end_item i.item) (levels_of p.frames p.stage) (feed o i next p)
unfolding feed
feed_fed o i next p x = fed_by (is_end_item i.item) (levels_of p.frames p.stage)
    (take_item o i.item i.begins_key next p) (item_after (levels_of p.frames p.stage) o i.item i.begins_key next p
    (resting p x))

-- behind the end only comments come
pub comment_over : (o : OptionsData) (c : CommentRead) (b : Bool) (next : Option ℕ) (p : ParserState) → Over p
    → Fed true [] (feed o (record { item = OfComment c; begins_key = b }) next p)
unfolding feed
comment_over o c b next p x = fed_by true [] (take_comment c next p)
    (comment_ended [] c next p (record { left = ap (λ es. behind_events es []) x.given; held = x.held }))
