-- What a lexeme ends before it is taken.
use Rattle.std.specs.Prelude.{ℕ, Bool, true, false, ◌&&◌, ◌||◌, not, if◌then◌else◌, List, [], ◌∷◌, length, Option, Some}
use Rattle.std.specs.Prelude.{None, is_none, Result, Ok}
use Rattle.granit_error.specs.OptionsData.{OptionsData}
use Rattle.granit_lexemes.specs.Source.{Source}
use Rattle.granit_lexemes.specs.Outcome.{Fault, ◌>>=◌}
use Rattle.granit_lexemes.specs.Pieces.{pieces}
use Rattle.granit_lexemes.specs.PlainEvent.{PlainEvent}
use Rattle.granit_machine.specs.Frames.{PairStage, BehindQuestion, AtValue, BehindPair, NodeProperties, Frame, Root}
use Rattle.granit_machine.specs.Frames.{WithProperties, BlockSequence, BlockMapping, FlowSequence, FlowMapping}
use Rattle.granit_machine.specs.Frames.{FlowPair, ParserState}
use Rattle.granit_machine.specs.Giving.{null_at, give}
use Rattle.granit_lexemes.specs.Lexeme as lexemes
use Rattle.granit_lexemes.specs.Lexeme.{LexemeKind}
use Rattle.granit_machine.specs.NodeEnds.{finish, end_node, end_properties, empty_span, under_column, may_be_indentless}
use Rattle.granit_machine.specs.TokenSort.{TokenSort, DashToken, QuestionToken, BareColon, Token, begins_pair}
use Rattle.granit_machine.specs.TokenSort.{is_dash_token, is_bare_colon, is_of_stream, ends_entry, is_key_in_block}
use Rattle.granit_machine.specs.TokenSort.{token_column, is_in_column, ends_frame, is_right_of}

abbrev pub goes_on_by_sort : Bool → Bool → Bool → TokenSort → Bool
goes_on_by_sort right in_flow indentless DashToken = right || indentless
goes_on_by_sort right in_flow indentless QuestionToken = right && not in_flow
goes_on_by_sort right in_flow indentless BareColon = right && not in_flow
goes_on_by_sort right in_flow indentless sort = false

abbrev pub goes_on_by_kind : Bool → Bool → Bool → NodeProperties → TokenSort → LexemeKind → Bool
goes_on_by_kind right in_flow indentless q sort (lexemes.Anchor name) = right && is_none q.anchor
goes_on_by_kind right in_flow indentless q sort (lexemes.Tag handle suffix) = right && is_none q.tag
goes_on_by_kind right in_flow indentless q sort (lexemes.Scalar style text) = right
goes_on_by_kind right in_flow indentless q sort (lexemes.Open bracket) = right
goes_on_by_kind right in_flow indentless q sort kind = goes_on_by_sort right in_flow indentless sort

-- whether a token goes on with the node of the properties on top
unfoldable pub goes_on_with : Token → NodeProperties → List Frame → Bool
goes_on_with t q below =
    let right = t.lexeme.in_flow || is_right_of (token_column t) (under_column below) in
    if is_key_in_block t then right
    else goes_on_by_kind right t.lexeme.in_flow
    (may_be_indentless t.lexeme.start.place.column below) q t.sort t.lexeme.kind

abbrev pub is_at_value_or_behind : PairStage → Bool
is_at_value_or_behind AtValue = true
is_at_value_or_behind BehindPair = true
is_at_value_or_behind stage = false

abbrev pub is_behind_pair : PairStage → Bool
is_behind_pair BehindPair = true
is_behind_pair stage = false

abbrev pub is_behind_question : PairStage → Bool
is_behind_question BehindQuestion = true
is_behind_question stage = false

-- whether a token ends the frame on top
abbrev pub ends_top : Token → ParserState → List Frame → Bool
ends_top t p [] = false
ends_top t p (Root explicit ∷ fs) = explicit && is_of_stream t.sort
ends_top t p (WithProperties q ∷ fs) = not (goes_on_with t q fs)
ends_top t p (BlockSequence column indentless ∷ fs) =
    ends_frame (token_column t) column
    || ((indentless && not (is_dash_token t.sort && is_in_column (token_column t) column))
    && (is_none p.waiting || (is_in_column (token_column t) column && begins_pair t.sort)))
ends_top t p (BlockMapping column stage ∷ fs) = ends_frame (token_column t) column
ends_top t p (FlowSequence behind_entry ∷ fs) = false
ends_top t p (FlowMapping single stage ∷ fs) = (single && is_at_value_or_behind stage) && ends_entry t.sort
ends_top t p (FlowPair stage ∷ fs) =
    (ends_entry t.sort || is_behind_pair stage) || (is_behind_question stage && not (is_bare_colon t.sort))

abbrev pub token_start : Token → Source
token_start t = empty_span t.lexeme.start

-- the frame on top ends before a token
abbrev pub end_top : OptionsData → Token → ParserState → List Frame → ParserState
end_top o t p (Root explicit ∷ fs) = finish (give (null_at p.last_end) p)
end_top o t p (WithProperties q ∷ fs) = end_properties o q p
end_top o t p fs = end_node t.lexeme.start (token_start t) p

abbrev pub Closing : Type 0
Closing = Result (Option (List PlainEvent) × ParserState) Fault

unfoldable pub close_turn : OptionsData → Token → ParserState → Closing
close_turn o t p = if ends_top t p p.frames then Ok (Some [], end_top o t p p.frames) else Ok (None, p)

abbrev pub depth : ParserState → ℕ
depth p = length p.frames

-- ends what a token ends
abbrev pub close : OptionsData → Token → ParserState → Result ParserState Fault
close o t p = pieces depth (close_turn o t) p >>= λ x. Ok x.1
