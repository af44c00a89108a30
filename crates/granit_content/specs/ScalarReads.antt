-- Scalars as lexemes, by what the calls that read them give.
use Rattle.std.specs.Prelude.{Bool, List, ◌++◌, Option, Result, Ok}
use Rattle.std.specs.Option.{option_map}
use Rattle.granit_base.specs.Place.{Unread}
use Rattle.granit_error.specs.OptionsData.{OptionsData}
use Rattle.granit_error.specs.Refused.{Refused}
use Rattle.granit_cursor.specs.Reading.{Reading, Stands, GivesTo, coded}
use Rattle.granit_cursor.specs.declared.token.Lexed.{Lexed}
use Rattle.granit_cursor.specs.declared.token.Token.{Token}
use Rattle.granit_lexemes.specs.Comment.{CommentRead}
use Rattle.granit_lexemes.specs.Here.{Here}
use Rattle.granit_lexemes.specs.LayoutData.{LayoutData}
use Rattle.granit_lexemes.specs.Lexeme.{Lexeme, Item}
use Rattle.granit_lexemes.specs.Outcome.{◌>>=◌}
use Rattle.granit_lexemes.specs.declared.layout.LastLexeme.TheVariants.{Adjacent}
use Rattle.granit_machine.specs.Gaps.{gap}
use Rattle.granit_machine.specs.Laid.{Laid}
use Rattle.granit_machine.specs.NodeLexemes as nodes
use Rattle.granit_machine.specs.ReaderState.{ReaderState, Read, lexeme_to, with_tail}
use Rattle.granit_content.specs.KindViews.{kind_of_type, note_of_token}
use Rattle.granit_content.specs.Reads.{IsAt, Seen, seen, comment_kept, behind_seen}

-- what a scalar is told, where comments are asked for or not
abbrev pub layout_asking : Bool → LayoutData → LayoutData
layout_asking asked at = record at { comments = asked }

-- the lexeme from here to the end of a token, with a tail
abbrev pub token_as : Bool → Token → Option CommentRead → Here → Laid → Lexeme
token_as ends token tail h l =
    with_tail (lexeme_to ends (kind_of_type token.token_type) token.span.end h l) tail

-- the same of a block scalar, whose token shows where its content stands
abbrev pub shown_as : Bool → Token → Option CommentRead → Here → Laid → Lexeme
shown_as ends token tail h l = record (token_as ends token tail h l) {
  shown = record { start = token.span.start; end = token.span.end };
  indent = token.span.indent;
}

-- the comment that was read behind a lexeme
abbrev pub tail_of : Lexed → Option CommentRead
tail_of read = option_map note_of_token read.comment

-- a scalar and a block scalar as lexemes, with the comment that was read behind them
abbrev pub lexed_as : Bool → Lexed → Here → Laid → Lexeme
lexed_as ends read h l = token_as ends read.token (tail_of read) h l

abbrev pub block_as : Bool → Lexed → Here → Laid → Lexeme
block_as ends read h l = shown_as ends read.token (tail_of read) h l

-- behind items, what is seen in the gap; a value may stand at once behind that, unless a comment does
abbrev pub with_seen : List Item → Seen → ReaderState → Read
with_seen items s r =
    Ok (
      items ++ nodes.note_items (comment_kept s),
      record {
        here = r.here;
        laid =
            record (r.laid) { last = behind_seen Adjacent s };
      },
    )

-- wherever the cursor is known to stand, the gap there is read behind items
abbrev pub GapBehind : {I : Type 0} → (I → Unread → Type 0) → OptionsData → (old new : Reading I)
    → (before after : Laid)
    → List Item → (Unit {0} → List Item) → Result (Unit {0}) Refused → Type 0
GapBehind unread o old new before after items found result =
    (h : Here) → Stands unread old h → GivesTo found result (IsAt unread new after)
    (coded (seen o.emit_comments) (gap o h before) >>= λ x. with_seen items x.0 x.1)
