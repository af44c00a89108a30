-- The plain machine's parser: one step for each lexeme, and the comments.
use Rattle.std.specs.Prelude.{ℕ, suc, ◌-◌, Bool, ◌==◌, ◌||◌, if◌then◌else◌, List, [], ◌∷◌, ◌++◌, Option, Some, None}
use Rattle.std.specs.Prelude.{is_some, Result, Ok}
use Rattle.granit_base.specs.declared.style.Placement.TheVariants.{Above, Right, Free, Last}
use Rattle.granit_base.specs.declared.style.Placement.{Placement}
use Rattle.granit_error.specs.FaultKind.{TooManyComments}
use Rattle.granit_error.specs.OptionsData.{OptionsData}
use Rattle.granit_lexemes.specs.Outcome.{Fault, ◌>>=◌}
use Rattle.granit_lexemes.specs.PlainEvent.{PlainEvent, event_at, Comment}
use Rattle.granit_lexemes.specs.Basics.{fails_at}
use Rattle.granit_machine.specs.BlockSteps.{in_sequence, in_mapping}
use Rattle.granit_machine.specs.Closing.{close}
use Rattle.granit_machine.specs.FlowSteps.{in_flow_sequence, in_flow_mapping_by, in_flow_pair}
use Rattle.granit_machine.specs.Frames.{Frame, Root, WithProperties, BlockSequence, BlockMapping, FlowSequence}
use Rattle.granit_machine.specs.Frames.{FlowMapping, FlowPair, Waiting, ParserState}
use Rattle.granit_lexemes.specs.Comment.{CommentRead}
use Rattle.granit_lexemes.specs.Lexeme as lexemes
use Rattle.granit_lexemes.specs.Lexeme.{LexemeKind, Lexeme, Item, OfLexeme, OfComment}
use Rattle.granit_machine.specs.Lexing.{FlaggedItem}
use Rattle.granit_machine.specs.NodeSteps.{Stepped, node}
use Rattle.granit_machine.specs.StreamSteps.{at_root, outside}
use Rattle.granit_machine.specs.TokenSort.{Token, token_of}

abbrev pub take_in : OptionsData → List Frame → Token → ParserState → Stepped
take_in o [] t p = outside o p.stage t p
take_in o (Root explicit ∷ fs) t p = at_root o t p
take_in o (WithProperties q ∷ fs) t p = node o t p
take_in o (BlockSequence column indentless ∷ fs) t p = in_sequence o t column indentless p
take_in o (BlockMapping column stage ∷ fs) t p = in_mapping o t column stage p
take_in o (FlowSequence behind_entry ∷ fs) t p = in_flow_sequence o t behind_entry p
take_in o (FlowMapping single stage ∷ fs) t p = in_flow_mapping_by o t single stage t.sort p
take_in o (FlowPair stage ∷ fs) t p = in_flow_pair o t stage t.sort p

-- takes a token at the open place that closing left
abbrev pub take_token : OptionsData → Token → ParserState → Stepped
take_token o t p = take_in o p.frames t p

-- ---- comments (6.6)

-- the line of the next token, None before an end that ends no column
abbrev pub line_of_lexeme : LexemeKind → Lexeme → Bool → Option ℕ
line_of_lexeme lexemes.StreamEnd l begins_key = if l.ends_column then Some l.start.place.line else None
line_of_lexeme kind l begins_key =
    if l.ends_column || begins_key then Some l.start.place.line else Some l.shown.start.place.line

abbrev pub line_of_item : Item → Bool → Option ℕ
line_of_item (OfComment c) begins_key = Some c.source.start.place.line
line_of_item (OfLexeme l) begins_key = line_of_lexeme l.kind l (begins_key || is_some l.key)

abbrev pub next_line : List FlaggedItem → Option ℕ
next_line [] = None
next_line (i ∷ is) = line_of_item i.item i.begins_key

abbrev pub placed_by_line : ℕ → Option ℕ → Placement
placed_by_line line None = Last
placed_by_line line (Some next) = if next == suc line then Above else Free

-- where a comment stands, by the line of what comes behind it
abbrev pub placed : CommentRead → Option ℕ → Placement
placed c next = if c.is_right then Right else placed_by_line c.source.end.place.line next

abbrev pub hold : CommentRead → PlainEvent → Option Waiting → ParserState → Stepped
hold c e None p = Ok (record p { given = p.given ++ e ∷ [] })
hold c e (Some w) p =
    if w.room == 0 then fails_at TooManyComments c.source.start
    else Ok (record p { waiting = Some (record w { room = w.room - 1; held = w.held ++ e ∷ [] }) })

-- a comment: an event at once, or held while a `-` or `:` waits
abbrev pub take_comment : CommentRead → Option ℕ → ParserState → Stepped
take_comment c next p = hold c (event_at (Comment c.text (placed c next)) c.source) p.waiting p

abbrev pub take_tail : LexemeKind → Option CommentRead → Option ℕ → ParserState → Stepped
take_tail lexemes.Dash tail next p = Ok p
take_tail kind None next p = Ok p
take_tail kind (Some c) next p = take_comment c next p

-- ---- one item

abbrev pub take_lexeme : OptionsData → Token → Option ℕ → ParserState → Stepped
take_lexeme o t next p = close o t p >>= take_token o t >>= take_tail t.lexeme.kind t.lexeme.tail next

abbrev pub take_item : OptionsData → Item → Bool → Option ℕ → ParserState → Stepped
take_item o (OfComment c) begins_key next p = take_comment c next p
take_item o (OfLexeme l) begins_key next p = take_lexeme o (token_of begins_key l) next p

-- the events of an item, and the state behind it; the line is that of the next token
unfoldable pub feed : OptionsData → FlaggedItem → Option ℕ → ParserState → Result (List PlainEvent × ParserState) Fault
feed o i next p = take_item o i.item i.begins_key next p >>= λ q. Ok (q.given, record q { given = [] })
