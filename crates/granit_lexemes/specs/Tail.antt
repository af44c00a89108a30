-- What may stand behind a lexeme on its line: blanks, and a comment that they part from it (YAML 1.2.2, 6.6).
use Rattle.std.specs.Prelude.{◌==◌, not, if◌then◌else◌, Option, Some, None, Result, Ok}
use Rattle.granit_base.specs.Classes.{is_blank}
use Rattle.granit_error.specs.FaultKind.{CommentNotSeparated}
use Rattle.granit_lexemes.specs.Basics.{fails_at, count_up_to}
use Rattle.granit_lexemes.specs.Comment.{CommentRead, comment}
use Rattle.granit_lexemes.specs.Here.{Here, next_char, mark_of, past}
use Rattle.granit_lexemes.specs.Outcome.{Fault, ◌>>=◌}

-- behind a lexeme that ends at one place, and the blanks up to another
unfoldable pub tail_behind : (end h : Here) → Result (Option CommentRead × Here) Fault
tail_behind end h =
    if not (next_char h == 0x23) then Ok (None, h)
    else if count_up_to end h == 0 then fails_at CommentNotSeparated (mark_of h)
    else comment h >>= λ x. Ok (Some x.0, x.1)

-- the blanks behind a lexeme that ends here, and a comment behind them
abbrev pub tail_at : Here → Result (Option CommentRead × Here) Fault
tail_at end = tail_behind end (past is_blank end)
