-- A lexeme where a node must stand (YAML 1.2.2, 6.9, 7.1 and 8.2).
use Rattle.std.specs.Prelude.{ℕ, suc, ◌-◌, Bool, true, false, ◌&&◌, ◌==◌, nat_lt, nat_le, if◌then◌else◌, List, [], ◌∷◌}
use Rattle.std.specs.Prelude.{◌++◌}
use Rattle.std.specs.Prelude.{length, codes, Option, Some, None, Result, Ok}
use Rattle.granit_base.specs.Written.{Written}
use Rattle.granit_base.specs.declared.style.Placement.TheVariants.{Right}
use Rattle.granit_base.specs.declared.style.StructureStyle.TheVariants.{Block, Flow}
use Rattle.granit_error.specs.FaultKind.{FaultKind, RecursionLimitExceeded, UnknownAnchor, UndeclaredTagHandle}
use Rattle.granit_error.specs.FaultKind.{TooManyComments}
use Rattle.granit_error.specs.OptionsData.{OptionsData}
use Rattle.granit_lexemes.specs.declared.layout.Bracket.{Bracket}
use Rattle.granit_lexemes.specs.declared.layout.Bracket.TheVariants.{Square, Curly}
use Rattle.granit_lexemes.specs.Outcome.{Fault, ◌>>=◌}
use Rattle.granit_lexemes.specs.PlainEvent.{PlainTag, EventKind, event_at, Alias, UnresolvedAlias, Comment, Scalar}
use Rattle.granit_lexemes.specs.PlainEvent.{SequenceStart, MappingStart}
use Rattle.granit_lexemes.specs.Basics.{fails_at}
use Rattle.granit_machine.specs.Entries.{lookup_text, remembered}
use Rattle.granit_machine.specs.Frames.{BeforePair, AtKey, AtQuestion, AtValue, NodeProperties, WithProperties}
use Rattle.granit_machine.specs.Frames.{BlockSequence, BlockMapping, FlowSequence, FlowMapping, ParserState}
use Rattle.granit_machine.specs.Giving.{null_at, flush, give, properties_on, below_properties, node_event}
use Rattle.granit_lexemes.specs.Comment.{CommentRead}
use Rattle.granit_lexemes.specs.Lexeme as lexemes
use Rattle.granit_lexemes.specs.Lexeme.{LexemeKind}
use Rattle.granit_machine.specs.NodeEnds.{finish, empty_span, block_count, may_be_indentless, begin, begin_block}
use Rattle.granit_machine.specs.NodeEnds.{block_mapping, waits, with_top}
use Rattle.granit_machine.specs.TokenSort.{TokenSort, BeginsKey, Token}

abbrev pub Stepped : Type 0
Stepped = Result ParserState Fault

abbrev pub misplaced : FaultKind → Token → Stepped
misplaced kind t = fails_at kind t.lexeme.shown.start

-- ---- a node begins (6.9, 7.1)

abbrev pub alias_by : OptionsData → Token → Written → Option ℕ → ParserState → Stepped
alias_by o t name (Some n) p = Ok (finish (node_event o (λ number tag. Alias n) t.lexeme.shown None p))
alias_by o t name None p =
    if o.emit_unresolved_aliases then
    Ok (finish (node_event o (λ number tag. UnresolvedAlias name) t.lexeme.shown None p)) else misplaced UnknownAnchor t

-- what a handle stands for by the document's directives, or by earlier ones where handles stay; `!` and `!!` never do
abbrev pub or_kept_handle : OptionsData → List ℕ → (known kept : Option (List ℕ)) → Option (List ℕ)
or_kept_handle o handle (Some prefix) kept = Some prefix
or_kept_handle o handle None kept = if nat_lt 2 (length handle) && o.keep_tags then kept else None

abbrev pub known_prefix : OptionsData → List ℕ → ParserState → Option (List ℕ)
known_prefix o handle p = or_kept_handle o handle (lookup_text handle p.handles) (lookup_text handle p.kept)

abbrev pub tag_prefix : Token → List ℕ → Option (List ℕ) → Result (List ℕ) Fault
tag_prefix t handle (Some prefix) = Ok prefix
tag_prefix t handle None =
    if length handle == 2 then Ok (codes "tag:yaml.org,2002:")
    else if nat_lt 2 (length handle) then fails_at UndeclaredTagHandle t.lexeme.shown.start
    else Ok handle

abbrev pub with_properties : NodeProperties → ParserState → ParserState
with_properties q p = record p { frames = WithProperties q ∷ below_properties p.frames }

abbrev pub anchored : Token → Written → ParserState → ParserState
anchored t name p =
    let q = properties_on p.frames t.lexeme.shown.end in
    with_properties (record q { anchor = Some (suc p.count, name, t.lexeme.shown); end = t.lexeme.shown.end })
    (record p { count = suc p.count; names = remembered name.characters (suc p.count) p.names })

abbrev pub tagged : Token → List ℕ → List ℕ → List ℕ → ParserState → ParserState
tagged t handle suffix prefix p =
    let q = properties_on p.frames t.lexeme.shown.end in
    with_properties (record q {
      tag = Some
          (record { handle = prefix; suffix = suffix; original_handle = handle }, t.lexeme.shown);
      end = t.lexeme.shown.end;
    }) p

abbrev pub block_sequence : ℕ → Option PlainTag → EventKind
block_sequence number tag = SequenceStart Block number tag

-- how a `-` meets its sequence: it goes on, it begins in a column of its own, or in the column of its mapping
pub data DashRole : Type 0 where
  NextEntry NewSequence IndentlessSequence : DashRole

-- the room for comments behind a `-`, of which its tail takes one
abbrev pub dash_room : OptionsData → Option CommentRead → Result ℕ Fault
dash_room o None = Ok o.max_buffered_comment_events
dash_room o (Some c) =
    if o.max_buffered_comment_events == 0 then fails_at TooManyComments c.source.start
    else Ok (o.max_buffered_comment_events - 1)

abbrev pub give_tail : Option CommentRead → ParserState → ParserState
give_tail None p = p
give_tail (Some c) p = let q = flush p in record q { given = q.given ++ event_at (Comment c.text Right) c.source ∷ [] }

abbrev pub token_number : Token → ℕ
token_number t = t.lexeme.start.place.column

-- a `-` with its tail (8.2.1)
unfoldable pub take_dash : OptionsData → Token → DashRole → Bool → ParserState → Stepped
take_dash o t NextEntry indentless p = dash_room o t.lexeme.tail >>= λ room.
    Ok (waits t.lexeme.end room (with_top (BlockSequence (token_number t) indentless) (give_tail t.lexeme.tail p)))
take_dash o t NewSequence indentless p =
    begin_block o block_sequence t.lexeme.start (BlockSequence (token_number t) false) p >>= λ q.
    dash_room o t.lexeme.tail >>= λ room. Ok (waits t.lexeme.end room (give_tail t.lexeme.tail q))
take_dash o t IndentlessSequence indentless p =
    if nat_le o.block_nesting_limit (block_count p.frames) then fails_at RecursionLimitExceeded t.lexeme.end
    else dash_room o t.lexeme.tail >>= λ room.
    Ok (waits t.lexeme.end room
    (begin o block_sequence (empty_span t.lexeme.end) (BlockSequence (token_number t) true)
    (give_tail t.lexeme.tail p)))

abbrev pub first_dash : Bool → DashRole
first_dash true = IndentlessSequence
first_dash false = NewSequence

abbrev pub open_flow : OptionsData → Bracket → Token → ParserState → ParserState
open_flow o Square t p = begin o (λ number tag. SequenceStart Flow number tag) t.lexeme.shown (FlowSequence false) p
open_flow o Curly t p =
    begin o (λ number tag. MappingStart Flow number tag) t.lexeme.shown (FlowMapping false BeforePair) p

abbrev pub bare_by : OptionsData → LexemeKind → Token → ParserState → Stepped
bare_by o (lexemes.Alias name) t p = alias_by o t name (lookup_text name.characters p.names) p
bare_by o (lexemes.Scalar style text) t p =
    Ok (finish (node_event o (λ number tag. Scalar text style number tag) t.lexeme.shown t.lexeme.indent p))
bare_by o (lexemes.Open bracket) t p = Ok (open_flow o bracket t p)
bare_by o (lexemes.Anchor name) t p = Ok (anchored t name (flush p))
bare_by o (lexemes.Tag handle suffix) t p =
    tag_prefix t handle (known_prefix o handle p) >>= λ prefix. Ok (tagged t handle suffix prefix (flush p))
bare_by o lexemes.Dash t p =
    take_dash o t (first_dash (may_be_indentless (token_number t) (below_properties p.frames))) false p
bare_by o lexemes.Question t p = begin_block o block_mapping t.lexeme.start (BlockMapping (token_number t) AtQuestion) p
bare_by o kind t p = begin_block o block_mapping t.lexeme.start (BlockMapping (token_number t) AtValue) p >>= λ q.
    Ok (waits t.lexeme.start o.max_buffered_comment_events (give (null_at t.lexeme.start) q))

-- a lexeme where a node must stand, which begins no block mapping with its simple key
abbrev pub bare : OptionsData → Token → ParserState → Stepped
bare o t p = bare_by o t.lexeme.kind t p

-- a lexeme where a node must stand
abbrev pub node_by : OptionsData → TokenSort → Token → ParserState → Stepped
node_by o BeginsKey t p =
    begin_block o block_mapping t.lexeme.start (BlockMapping (token_number t) AtKey) p >>= bare o t
node_by o sort t p = bare o t p

abbrev pub node : OptionsData → Token → ParserState → Stepped
node o t p = node_by o t.sort t p
