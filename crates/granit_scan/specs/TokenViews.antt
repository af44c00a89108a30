-- Tokens as plain data, and those that stand for lexemes, comments and what is inserted.
use Rattle.std.specs.Prelude.{ℕ, Bool, true, false, List, [], ◌∷◌, map}
use Rattle.granit_base.specs.Place.{Mark}
use Rattle.granit_base.specs.Written.{Written}
use Rattle.granit_base.specs.declared.place.Span.{Span}
use Rattle.granit_base.specs.declared.style.Placement.{Placement}
use Rattle.granit_base.specs.declared.style.ScalarStyle.{ScalarStyle}
use Rattle.granit_cursor.specs.Tokens.{token_placement}
use Rattle.granit_cursor.specs.declared.token.Token.{Token}
use Rattle.granit_cursor.specs.declared.token.TokenType.{TokenType}
use Rattle.granit_cursor.specs.declared.token.TokenType.TheVariants as types
use Rattle.granit_items.specs.ItemViews.{written_characters}
use Rattle.granit_lexemes.specs.Comment.{CommentRead}
use Rattle.granit_lexemes.specs.Lexeme as lexemes
use Rattle.granit_lexemes.specs.Lexeme.{LexemeKind, Lexeme}
use Rattle.granit_lexemes.specs.PlainEvent.{plain_span}
use Rattle.granit_lexemes.specs.declared.layout.Bracket.TheVariants.{Square, Curly}
use Rattle.granit_steps.specs.Tokens.{Insertion, BlockEnd, BlockMappingStart, BlockSequenceStart, KeySign, PairStart}
use Rattle.granit_steps.specs.Tokens.{PairEnd, ScanToken, Inserted, Own, Noted}

-- what a token says
pub data TokenKind : Type 0 where
  StartOfStream EndOfStream DocumentStart DocumentEnd : TokenKind
  Version : (major minor : ℕ) → TokenKind
  TagPrefix : (handle prefix : List ℕ) → TokenKind
  Reserved : (name : List ℕ) (parameters : List (List ℕ)) → TokenKind
  SequenceStart MappingStart CollectionEnd : TokenKind
  OpenSquare CloseSquare OpenCurly CloseCurly : TokenKind
  Entry Comma Key Value : TokenKind
  Alias Anchor : (name : Written) → TokenKind
  Tag : (handle suffix : List ℕ) → TokenKind
  Scalar : (style : ScalarStyle) (text : Written) → TokenKind
  Comment : (text : Written) (placement : Placement) → TokenKind

pub record PlainToken : Type 0 where
  pub kind : TokenKind
  pub span : Span

-- ---- the code's tokens

abbrev pub token_kind : TokenType → TokenKind
token_kind types.StreamStart = StartOfStream
token_kind types.StreamEnd = EndOfStream
token_kind (types.VersionDirective major minor) = Version major minor
token_kind (types.TagDirective handle prefix) = TagPrefix handle.characters prefix.characters
token_kind types.DocumentStart = DocumentStart
token_kind types.DocumentEnd = DocumentEnd
token_kind types.BlockSequenceStart = SequenceStart
token_kind types.BlockMappingStart = MappingStart
token_kind types.BlockEnd = CollectionEnd
token_kind types.FlowSequenceStart = OpenSquare
token_kind types.FlowSequenceEnd = CloseSquare
token_kind types.FlowMappingStart = OpenCurly
token_kind types.FlowMappingEnd = CloseCurly
token_kind types.BlockEntry = Entry
token_kind types.FlowEntry = Comma
token_kind types.Key = Key
token_kind types.Value = Value
token_kind (types.Alias name) = Alias name
token_kind (types.Anchor name) = Anchor name
token_kind (types.Tag handle suffix) = Tag handle.characters suffix.characters
token_kind (types.Scalar style text) = Scalar style text
token_kind (types.Comment comment) = Comment comment.text comment.placement
token_kind (types.ReservedDirective name parameters) = Reserved name.characters (map written_characters parameters)

abbrev pub plain_token : Token → PlainToken
plain_token t = record { kind = token_kind t.token_type; span = t.span }

-- ---- what stands for lexemes and comments

abbrev pub kind_shown : LexemeKind → TokenKind
kind_shown (lexemes.Directive (lexemes.Version major minor)) = Version major minor
kind_shown (lexemes.Directive (lexemes.TagPrefix handle prefix)) = TagPrefix handle prefix
kind_shown (lexemes.Directive (lexemes.Reserved name parameters)) = Reserved name parameters
kind_shown lexemes.DocumentStart = DocumentStart
kind_shown lexemes.DocumentEnd = DocumentEnd
kind_shown lexemes.StreamEnd = EndOfStream
kind_shown (lexemes.Open Square) = OpenSquare
kind_shown (lexemes.Open Curly) = OpenCurly
kind_shown (lexemes.Close Square) = CloseSquare
kind_shown (lexemes.Close Curly) = CloseCurly
kind_shown lexemes.Comma = Comma
kind_shown lexemes.Dash = Entry
kind_shown lexemes.Question = Key
kind_shown lexemes.Colon = Value
kind_shown (lexemes.Alias name) = Alias name
kind_shown (lexemes.Anchor name) = Anchor name
kind_shown (lexemes.Tag handle suffix) = Tag handle suffix
kind_shown (lexemes.Scalar style text) = Scalar style text

-- of a block scalar it tells the column of its content
abbrev pub shown_span : LexemeKind → Lexeme → Span
shown_span lexemes.Dash l = plain_span l.end l.end
shown_span lexemes.Colon l = plain_span l.start l.start
shown_span kind l = record (plain_span l.shown.start l.shown.end) { indent = l.indent }

abbrev pub comment_shown : CommentRead → PlainToken
comment_shown c = record {
  kind = Comment c.text (token_placement c.is_right);
  span = plain_span c.source.start c.source.end;
}

-- ---- what is inserted

abbrev pub marked : TokenKind → Mark → PlainToken
marked kind m = record { kind = kind; span = plain_span m m }

abbrev pub inserted_if : Bool → TokenKind → Mark → List PlainToken
inserted_if true kind m = marked kind m ∷ []
inserted_if false kind m = []

abbrev pub insertion_kind : Insertion → TokenKind
insertion_kind BlockEnd = CollectionEnd
insertion_kind BlockMappingStart = MappingStart
insertion_kind BlockSequenceStart = SequenceStart
insertion_kind KeySign = Key
insertion_kind PairStart = OpenCurly
insertion_kind PairEnd = CloseCurly

-- a scanner's token as plain data
abbrev pub shown_token : ScanToken → PlainToken
shown_token (Inserted what m) = marked (insertion_kind what) m
shown_token (Own l) = record { kind = kind_shown l.kind; span = shown_span l.kind l }
shown_token (Noted c) = comment_shown c

abbrev pub shown_tokens : List ScanToken → List PlainToken
shown_tokens ts = map shown_token ts
