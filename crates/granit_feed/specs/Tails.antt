-- The comment behind a lexeme, but for that of a `-`, which is given among its events.
use Rattle.std.specs.Prelude.{ℕ, Bool, true, false, ◌&&◌, not, Option, Some, None, is_some, Ok}
use Rattle.granit_lexemes.specs.Comment.{CommentRead}
use Rattle.granit_lexemes.specs.Lexeme as lexemes
use Rattle.granit_lexemes.specs.Lexeme.{LexemeKind}
use Rattle.granit_machine.specs.Frames.{ParserState}
use Rattle.granit_machine.specs.NodeSteps.{Stepped}
use Rattle.granit_machine.specs.Parser.{take_comment}

abbrev pub is_dash_lexeme : LexemeKind → Bool
is_dash_lexeme lexemes.Dash = true
is_dash_lexeme kind = false

abbrev pub tail_taken : Option CommentRead → Option ℕ → ParserState → Stepped
tail_taken None next p = Ok p
tail_taken (Some c) next p = take_comment c next p

-- whether one is taken behind a lexeme, by whether that is a `-`
abbrev pub takes_tail : Bool → Option CommentRead → Bool
takes_tail dash tail = is_some tail && not dash
