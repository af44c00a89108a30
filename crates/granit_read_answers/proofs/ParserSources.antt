-- No fault of the plain machine names a source: the parser's.
use Rattle.std.proofs.Common.{◌≡◌, ℕ, ◌==◌, ◌&&◌, ◌||◌, not, Bool, true, false, List, [], ◌∷◌, length, Option, Some}
use Rattle.std.proofs.Common.{None, Result, Ok, Err, refl}
use Rattle.std.specs.Prelude.{nat_le, nat_lt, is_none}
use Rattle.granit_base.specs.Place.{Mark}
use Rattle.granit_base.specs.Written.{Written}
use Rattle.granit_error.specs.OptionsData.{OptionsData}
use Rattle.granit_lexemes.proofs.PieceLemmas.{same_error}
use Rattle.granit_lexemes.specs.Comment.{CommentRead}
use Rattle.granit_lexemes.specs.Here.{mark_of, start_of}
use Rattle.granit_lexemes.specs.Lexeme as lexemes
use Rattle.granit_lexemes.specs.Lexeme.{LexemeKind, DirectiveKind, Version, TagPrefix, Reserved, Item, OfLexeme}
use Rattle.granit_lexemes.specs.Lexeme.{OfComment}
use Rattle.granit_lexemes.specs.Outcome.{Fault, ◌>>=◌}
use Rattle.granit_lexemes.specs.Pieces.{with_front}
use Rattle.granit_lexemes.specs.PlainEvent.{PlainTag, PlainVersion, PlainEvent, EventKind}
use Rattle.granit_scalars.proofs.Nameless.{IsNameless, ok_none, err_none, then_none, if_none, pieces_none}
use Rattle.granit_machine.specs.BlockSteps.{in_sequence, next_pair, takes_node, behind_indicator, at_block_key}
use Rattle.granit_machine.specs.BlockSteps.{behind_block_key, in_mapping}
use Rattle.granit_machine.specs.Closing.{ends_top, close_turn, depth, close}
use Rattle.granit_machine.specs.FlowSteps.{at_entry, behind_entry_of, in_flow_sequence, in_flow_mapping_by}
use Rattle.granit_machine.specs.FlowSteps.{in_flow_pair}
use Rattle.granit_machine.specs.Frames.{PairStage, BeforePair, AtKey, BehindKey, AtQuestion, BehindQuestion, AtValue}
use Rattle.granit_machine.specs.Frames.{Frame, Root, WithProperties, BlockSequence, BlockMapping, FlowSequence}
use Rattle.granit_machine.specs.Frames.{FlowMapping, FlowPair, DocumentStage, Fresh, Directives, Inside, BehindRoot}
use Rattle.granit_machine.specs.Frames.{Between, Waiting, ParserState, parser_start}
use Rattle.granit_machine.specs.Lexing.{FlaggedItem, flagged, lex}
use Rattle.granit_machine.specs.Laid.{Laid}
use Rattle.granit_machine.specs.Machine.{asked_items, feed_all, settled, run_answer, run}
use Rattle.granit_machine.specs.NodeEnds.{empty_span, begin_block, block_count, may_be_indentless}
use Rattle.granit_machine.specs.NodeSteps.{alias_by, tag_prefix, DashRole, NextEntry, NewSequence, IndentlessSequence}
use Rattle.granit_machine.specs.NodeSteps.{known_prefix}
use Rattle.granit_machine.specs.NodeSteps.{dash_room, take_dash, first_dash, bare_by, bare, node_by, node, token_number}
use Rattle.granit_machine.specs.Entries.{lookup_text}
use Rattle.granit_machine.specs.Giving.{below_properties}
use Rattle.granit_machine.specs.Parser.{take_in, hold, take_comment, take_tail, take_item, feed, next_line}
use Rattle.granit_machine.specs.StreamSteps.{at_root, with_version, with_handle, with_directive, behind_directives}
use Rattle.granit_machine.specs.StreamSteps.{begin_document, when_fresh, when_between, end_document, behind_root}
use Rattle.granit_machine.specs.StreamSteps.{outside}
use Rattle.granit_machine.specs.TokenSort.{TokenSort, BeginsKey, BeginsNode, QuestionToken, BareColon, KeyedColon}
use Rattle.granit_machine.specs.TokenSort.{CommaToken, SequenceCloser, MappingCloser, Token, begins_node, begins_pair}
use Rattle.granit_machine.specs.TokenSort.{is_dash_token, token_column, is_in_column, is_right_of}
use Rattle.granit_machine.proofs.ClosingLemmas.{close_turn-Shortens}
pub use Rattle.granit_reading.proofs.ReadingLaw.{lex_answers}
use Rattle.granit_read_answers.proofs.Sources.{Nameless, lex_none}

-- ---- nodes

alias_none : (o : OptionsData) (t : Token) (name : Written) (n : Option ℕ) (p : ParserState)
    → IsNameless (alias_by o t name n p)
alias_none o t name (Some n) p = ok_none
alias_none o t name None p = if_none o.emit_unresolved_aliases ok_none err_none

prefix_none : (t : Token) (handle : List ℕ) (known : Option (List ℕ)) → IsNameless (tag_prefix t handle known)
prefix_none t handle (Some prefix) = ok_none
prefix_none t handle None = if_none (length handle == 2) ok_none (if_none (nat_lt 2 (length handle)) err_none ok_none)

room_none : (o : OptionsData) (tail : Option CommentRead) → IsNameless (dash_room o tail)
room_none o None = ok_none
room_none o (Some c) = if_none (o.max_buffered_comment_events == 0) err_none ok_none

begin_none : (o : OptionsData) (kind : ℕ → Option PlainTag → EventKind) (m : Mark) (frame : Frame) (p : ParserState)
    → IsNameless (begin_block o kind m frame p)
unfolding begin_block
begin_none o kind m frame p = if_none (nat_le o.block_nesting_limit (block_count p.frames)) err_none ok_none

dash_none : (o : OptionsData) (t : Token) (role : DashRole) (indentless : Bool) (p : ParserState)
    → IsNameless (take_dash o t role indentless p)
unfolding take_dash
dash_none o t NextEntry indentless p = then_none (room_none o t.lexeme.tail) (λ room. ok_none)
dash_none o t NewSequence indentless p = then_none (begin_none o _ t.lexeme.start _ p)
    (λ q. then_none (room_none o t.lexeme.tail) (λ room. ok_none))
dash_none o t IndentlessSequence indentless p = if_none (nat_le o.block_nesting_limit (block_count p.frames)) err_none
    (then_none (room_none o t.lexeme.tail) (λ room. ok_none))

by_kind_none : (o : OptionsData) (kind : LexemeKind) (t : Token) (p : ParserState) → IsNameless (bare_by o kind t p)
by_kind_none o (lexemes.Alias name) t p = alias_none o t name (lookup_text name.characters p.names) p
by_kind_none o (lexemes.Scalar style text) t p = ok_none
by_kind_none o (lexemes.Open bracket) t p = ok_none
by_kind_none o (lexemes.Anchor name) t p = ok_none
by_kind_none o (lexemes.Tag handle suffix) t p = then_none (prefix_none t handle (known_prefix o handle p))
    (λ prefix. ok_none)
by_kind_none o lexemes.Dash t p = dash_none o t
    (first_dash (may_be_indentless (token_number t) (below_properties p.frames))) false p
by_kind_none o lexemes.Question t p = begin_none o _ t.lexeme.start _ p
by_kind_none o kind t p = then_none (begin_none o _ t.lexeme.start _ p) (λ q. ok_none)

bare_none : (o : OptionsData) (t : Token) (p : ParserState) → IsNameless (bare o t p)
bare_none o t p = by_kind_none o t.lexeme.kind t p

by_sort_none : (o : OptionsData) (sort : TokenSort) (t : Token) (p : ParserState) → IsNameless (node_by o sort t p)
by_sort_none o BeginsKey t p = then_none (begin_none o _ t.lexeme.start _ p) (λ q. bare_none o t q)
by_sort_none o sort t p = bare_none o t p

node_none : (o : OptionsData) (t : Token) (p : ParserState) → IsNameless (node o t p)
node_none o t p = by_sort_none o t.sort t p

-- ---- in block collections

sequence_none : (o : OptionsData) (t : Token) (column : ℕ) (indentless : Bool) (p : ParserState)
    → IsNameless (in_sequence o t column indentless p)
unfolding in_sequence
sequence_none o t column indentless p =
    if_none (is_dash_token t.sort && is_in_column (token_column t) column) (dash_none o t NextEntry indentless _)
    (if_none (is_none p.waiting) err_none (if_none (begins_node t.sort && is_right_of (token_column t) (Some column))
    (node_none o t p) err_none))

pair_none : (o : OptionsData) (t : Token) (column : ℕ) (stage : PairStage) (sort : TokenSort) (p : ParserState)
    → IsNameless (next_pair o t column stage sort p)
pair_none o t column stage BeginsKey p = bare_none o t _
pair_none o t column stage QuestionToken p = ok_none
pair_none o t column stage sort p = ok_none

indicator_none : (o : OptionsData) (t : Token) (column : ℕ) (stage : PairStage) (p : ParserState)
    → IsNameless (behind_indicator o t column stage p)
unfolding behind_indicator
indicator_none o t column stage p =
    if_none (begins_pair t.sort && is_in_column (token_column t) column) (pair_none o t column stage t.sort p)
    (if_none (not (takes_node stage)) err_none
    (if_none ((is_dash_token t.sort && is_in_column (token_column t) column)
    || (begins_node t.sort && is_right_of (token_column t) (Some column))) (node_none o t p) err_none))

key_none : (o : OptionsData) (t : Token) (sort : TokenSort) (p : ParserState) → IsNameless (at_block_key o t sort p)
key_none o t BeginsNode p = bare_none o t p
key_none o t sort p = err_none

behind_key_none : (o : OptionsData) (t : Token) (column : ℕ) (sort : TokenSort) (p : ParserState)
    → IsNameless (behind_block_key o t column sort p)
behind_key_none o t column KeyedColon p = ok_none
behind_key_none o t column sort p = err_none

mapping_none : (o : OptionsData) (t : Token) (column : ℕ) (stage : PairStage) (p : ParserState)
    → IsNameless (in_mapping o t column stage p)
mapping_none o t column AtKey p = key_none o t t.sort p
mapping_none o t column BehindKey p = behind_key_none o t column t.sort p
mapping_none o t column stage p = indicator_none o t column stage p

-- ---- in flow collections

entry_none : (o : OptionsData) (t : Token) (sort : TokenSort) (p : ParserState) → IsNameless (at_entry o t sort p)
entry_none o t SequenceCloser p = ok_none
entry_none o t QuestionToken p = ok_none
entry_none o t BareColon p = ok_none
entry_none o t BeginsKey p = bare_none o t _
entry_none o t BeginsNode p = bare_none o t p
entry_none o t sort p = err_none

behind_entry_none : (t : Token) (sort : TokenSort) (p : ParserState) → IsNameless (behind_entry_of t sort p)
behind_entry_none t SequenceCloser p = ok_none
behind_entry_none t CommaToken p = ok_none
behind_entry_none t sort p = err_none

flow_sequence_none : (o : OptionsData) (t : Token) (behind : Bool) (p : ParserState)
    → IsNameless (in_flow_sequence o t behind p)
flow_sequence_none o t false p = entry_none o t t.sort p
flow_sequence_none o t true p = behind_entry_none t t.sort p

flow_mapping_none : (o : OptionsData) (t : Token) (single : Bool) (stage : PairStage) (sort : TokenSort)
    (p : ParserState) → IsNameless (in_flow_mapping_by o t single stage sort p)
flow_mapping_none o t single AtKey BeginsNode p = bare_none o t p
flow_mapping_none o t single AtKey sort p = err_none
flow_mapping_none o t single BehindKey KeyedColon p = ok_none
flow_mapping_none o t single BehindKey sort p = err_none
flow_mapping_none o t single stage MappingCloser p = ok_none
flow_mapping_none o t single BeforePair CommaToken p = err_none
flow_mapping_none o t single stage CommaToken p = ok_none
flow_mapping_none o t single BeforePair QuestionToken p = ok_none
flow_mapping_none o t single BeforePair BeginsKey p = bare_none o t _
flow_mapping_none o t single BeforePair BareColon p = ok_none
flow_mapping_none o t single AtQuestion BareColon p = ok_none
flow_mapping_none o t single BehindQuestion BareColon p = ok_none
flow_mapping_none o t single BeforePair BeginsNode p = bare_none o t p
flow_mapping_none o t single AtQuestion BeginsNode p = bare_none o t p
flow_mapping_none o t single AtValue BeginsNode p = bare_none o t p
flow_mapping_none o t single BeforePair sort p = err_none
flow_mapping_none o t single AtQuestion sort p = err_none
flow_mapping_none o t single AtValue sort p = err_none
flow_mapping_none o t single stage sort p = err_none

flow_pair_none : (o : OptionsData) (t : Token) (stage : PairStage) (sort : TokenSort) (p : ParserState)
    → IsNameless (in_flow_pair o t stage sort p)
flow_pair_none o t BehindQuestion sort p = ok_none
flow_pair_none o t stage BeginsNode p = bare_none o t p
flow_pair_none o t stage sort p = err_none

-- ---- around documents

root_none : (o : OptionsData) (t : Token) (p : ParserState) → IsNameless (at_root o t p)
root_none o t p = if_none (begins_node t.sort) (node_none o t p) err_none

version_none : (t : Token) (version : Option PlainVersion) (major minor : ℕ) (p : ParserState)
    → IsNameless (with_version t version major minor p)
version_none t (Some v) major minor p = err_none
version_none t None major minor p = if_none (major == 1) ok_none err_none

handle_none : (o : OptionsData) (t : Token) (version : Option PlainVersion) (handle prefix : List ℕ)
    (known : Option (List ℕ))
    (p : ParserState) → IsNameless (with_handle o t version handle prefix known p)
handle_none o t version handle prefix (Some known) p = err_none
handle_none o t version handle prefix None p = ok_none

directive_none : (o : OptionsData) (t : Token) (d : DirectiveKind) (version : Option PlainVersion) (p : ParserState)
    → IsNameless (with_directive o t d version p)
directive_none o t (Version major minor) version p = version_none t version major minor p
directive_none o t (TagPrefix handle prefix) version p = handle_none o t version handle prefix
    (lookup_text handle p.handles) p
directive_none o t (Reserved name parameters) version p = ok_none

directives_none : (o : OptionsData) (kind : LexemeKind) (t : Token) (version : Option PlainVersion) (p : ParserState)
    → IsNameless (behind_directives o kind t version p)
directives_none o (lexemes.Directive d) t version p = directive_none o t d version p
directives_none o lexemes.DocumentStart t version p = ok_none
directives_none o kind t version p = err_none

document_none : (o : OptionsData) (t : Token) (p : ParserState) → IsNameless (begin_document o t p)
document_none o t p = if_none (begins_node t.sort) (node_none o t _) err_none

fresh_none : (o : OptionsData) (kind : LexemeKind) (t : Token) (p : ParserState) → IsNameless (when_fresh o kind t p)
fresh_none o lexemes.DocumentEnd t p = ok_none
fresh_none o lexemes.StreamEnd t p = ok_none
fresh_none o (lexemes.Directive d) t p = directive_none o t d None _
fresh_none o lexemes.DocumentStart t p = ok_none
fresh_none o kind t p = document_none o t p

between_none : (kind : LexemeKind) (t : Token) (p : ParserState) → IsNameless (when_between kind t p)
between_none (lexemes.Directive d) t p = err_none
between_none lexemes.DocumentStart t p = ok_none
between_none lexemes.StreamEnd t p = ok_none
between_none kind t p = err_none

behind_root_none : (kind : LexemeKind) (t : Token) (p : ParserState) → IsNameless (behind_root kind t p)
behind_root_none lexemes.DocumentEnd t p = ok_none
behind_root_none kind t p = between_none kind t (end_document (empty_span p.last_end) Between p)

outside_none : (o : OptionsData) (stage : DocumentStage) (t : Token) (p : ParserState)
    → IsNameless (outside o stage t p)
outside_none o Fresh t p = fresh_none o t.lexeme.kind t p
outside_none o (Directives version) t p = directives_none o t.lexeme.kind t version p
outside_none o BehindRoot t p = behind_root_none t.lexeme.kind t p
outside_none o Between t p = between_none t.lexeme.kind t p
outside_none o Inside t p = err_none

-- ---- one item

take_none : (o : OptionsData) (frames : List Frame) (t : Token) (p : ParserState) → IsNameless (take_in o frames t p)
take_none o [] t p = outside_none o p.stage t p
take_none o (Root explicit ∷ fs) t p = root_none o t p
take_none o (WithProperties q ∷ fs) t p = node_none o t p
take_none o (BlockSequence column indentless ∷ fs) t p = sequence_none o t column indentless p
take_none o (BlockMapping column stage ∷ fs) t p = mapping_none o t column stage p
take_none o (FlowSequence behind ∷ fs) t p = flow_sequence_none o t behind p
take_none o (FlowMapping single stage ∷ fs) t p = flow_mapping_none o t single stage t.sort p
take_none o (FlowPair stage ∷ fs) t p = flow_pair_none o t stage t.sort p

hold_none : (c : CommentRead) (e : PlainEvent) (w : Option Waiting) (p : ParserState) → IsNameless (hold c e w p)
hold_none c e None p = ok_none
hold_none c e (Some w) p = if_none (w.room == 0) err_none ok_none

comment_none : (c : CommentRead) (next : Option ℕ) (p : ParserState) → IsNameless (take_comment c next p)
comment_none c next p = hold_none c _ p.waiting p

tail_none : (kind : LexemeKind) (tail : Option CommentRead) (next : Option ℕ) (p : ParserState)
    → IsNameless (take_tail kind tail next p)
tail_none lexemes.Dash tail next p = ok_none
tail_none kind None next p = ok_none
tail_none kind (Some c) next p = comment_none c next p

turn_none : (o : OptionsData) (t : Token) (p : ParserState) → IsNameless (close_turn o t p)
unfolding close_turn
turn_none o t p = if_none (ends_top t p p.frames) ok_none ok_none

close_none : (o : OptionsData) (t : Token) (p : ParserState) → IsNameless (close o t p)
close_none o t p = then_none (pieces_none depth (close_turn o t) (close_turn-Shortens o t) (turn_none o t) p)
    (λ x. ok_none)

item_none : (o : OptionsData) (i : Item) (flag : Bool) (next : Option ℕ) (p : ParserState)
    → IsNameless (take_item o i flag next p)
item_none o (OfComment c) flag next p = comment_none c next p
item_none o (OfLexeme l) flag next p = then_none (then_none (close_none o _ p) (λ q. take_none o q.frames _ q))
    (λ q. tail_none l.kind l.tail next q)

feed_none : (o : OptionsData) (i : FlaggedItem) (next : Option ℕ) (p : ParserState) → IsNameless (feed o i next p)
unfolding feed
feed_none o i next p = then_none (item_none o i.item i.begins_key next p) (λ q. ok_none)

-- ---- a text

front_none : (es : List PlainEvent) (r : Result (List PlainEvent × ParserState) Fault) → IsNameless r
    → IsNameless (with_front es r)
front_none es r n = then_none n (λ x. ok_none)

all_none : (o : OptionsData) (items : List FlaggedItem) (p : ParserState) → IsNameless (feed_all o items p)
all_none o [] p = ok_none
all_none o (i ∷ is) p = then_none (feed_none o i (next_line is) p)
    (λ x. front_none x.0 (feed_all o is x.1) (all_none o is x.1))

answered_none : (o : OptionsData) (m : Mark) (items : List FlaggedItem) (l : Laid) (f : Option Fault) → Nameless f
    → IsNameless (run_answer o m items l f)
answered_none o m items l None n = then_none (all_none o items (parser_start m)) (λ x. ok_none)
answered_none o m items l (Some f) n =
    then_none (all_none o (settled l items) (parser_start m)) (λ x. record { none = λ g e. by g (same_error f g e) })
  where
    by : (g : Fault) → f ≡ g → g.sources ≡ []
    by g e = Rattle.std.proofs.Common.subst (λ (g : Fault). g.sources ≡ []) e n

pub run_none : (o : OptionsData) (text : List ℕ) (f : Fault) → run o text ≡ Err f → f.sources ≡ []
run_none o text f e = on (lex o (start_of text)) refl e
  where
    on : (r : Result (List Item × _) Fault) → lex o (start_of text) ≡ r
        → (r >>= λ x. run_answer o (mark_of (start_of text)) (asked_items o.emit_comments (flagged x.0)) x.1.reader.laid
        x.1.fault) ≡ Err f → f.sources ≡ []
    on (Ok x) is given = (answered_none o (mark_of (start_of text)) (asked_items o.emit_comments (flagged x.0))
        x.1.reader.laid x.1.fault (lex_none o (start_of text) x.0 x.1 is)).none f given
    on (Err g) is given = absurd (lex_answers o (start_of text) g is)
