-- What the tokens of the calls that read lexemes say.
use Rattle.std.specs.Prelude.{[], map}
use Rattle.granit_cursor.specs.Tokens.{is_right_placed}
use Rattle.granit_cursor.specs.declared.token.Token.{Token}
use Rattle.granit_cursor.specs.declared.token.TokenType.{TokenType}
use Rattle.granit_cursor.specs.declared.token.TokenType.TheVariants as tokens
use Rattle.granit_lexemes.specs.Comment.{CommentRead}
use Rattle.granit_lexemes.specs.Lexeme as spec
use Rattle.granit_lexemes.specs.Source.{Source}
use Rattle.granit_items.specs.ItemViews.{written_characters}
use Rattle.std.specs.Prelude.{true, false}

-- What a token's lexeme is. What a scanner inserts, and a comment, is no lexeme: it is seen as a directive without a
-- name, which no text spells.
abbrev pub kind_of_type : TokenType → spec.LexemeKind
kind_of_type (tokens.VersionDirective major minor) = spec.Directive (spec.Version major minor)
kind_of_type (tokens.TagDirective handle prefix) = spec.Directive (spec.TagPrefix handle.characters prefix.characters)
kind_of_type (tokens.ReservedDirective name parameters) = spec.Directive
    (spec.Reserved name.characters (map written_characters parameters))
kind_of_type (tokens.Alias name) = spec.Alias name
kind_of_type (tokens.Anchor name) = spec.Anchor name
kind_of_type (tokens.Tag handle suffix) = spec.Tag handle.characters suffix.characters
kind_of_type (tokens.Scalar style text) = spec.Scalar style text
kind_of_type other = spec.Directive (spec.Reserved [] [])

-- What a comment's token says. Another token is seen as a comment that holds nothing, not even its `#`.
abbrev pub note_of_type : TokenType → Source → CommentRead
note_of_type (tokens.Comment c) source =
    record { text = c.text; source = source; is_right = is_right_placed c.placement }
note_of_type other source = record {
  text = record { characters = []; is_borrowed = true };
  source = record { start = source.start; end = source.start };
  is_right = false;
}

abbrev pub note_of_token : Token → CommentRead
note_of_token t = note_of_type t.token_type (record { start = t.span.start; end = t.span.end })
