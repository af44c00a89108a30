-- The lexemes of the whole language, and what a reader gives: lexemes and comments.
use Rattle.std.specs.Prelude.{ℕ, Bool, true, false, List, Option}
use Rattle.granit_base.specs.Place.{Mark}
use Rattle.granit_base.specs.Written.{Written}
use Rattle.granit_base.specs.declared.style.ScalarStyle.{ScalarStyle}
use Rattle.granit_lexemes.specs.Comment.{CommentRead}
use Rattle.granit_lexemes.specs.Source.{Source}
-- the two kinds of brackets
use Rattle.granit_lexemes.specs.declared.layout.Bracket.{Bracket}
use Rattle.granit_lexemes.specs.declared.layout.Bracket.TheVariants.{Square, Curly}

-- the characters that open and close
abbrev pub opener_char : Bracket → ℕ
opener_char Square = 0x5B
opener_char Curly = 0x7B

abbrev pub closer_char : Bracket → ℕ
closer_char Square = 0x5D
closer_char Curly = 0x7D

-- a directive: a version, a tag handle and its prefix, a reserved name and its parameters (6.8)
pub data DirectiveKind : Type 0 where
  Version : (major minor : ℕ) → DirectiveKind
  TagPrefix : (handle prefix : List ℕ) → DirectiveKind
  Reserved : (name : List ℕ) (parameters : List (List ℕ)) → DirectiveKind

-- what a lexeme is, with its value
pub data LexemeKind : Type 0 where
  Directive : DirectiveKind → LexemeKind
  -- `---`, `...` and the end of the text (9.1)
  DocumentStart DocumentEnd StreamEnd : LexemeKind
  -- brackets and `,` (7.4)
  Open Close : (bracket : Bracket) → LexemeKind
  Comma : LexemeKind
  -- `-`, `?` and `:` (7.4.2, 8.2)
  Dash Question Colon : LexemeKind
  -- `*` and a name (7.1), `&` and a name (6.9.2), a tag by its handle and what follows it (6.9.1)
  Alias Anchor : (name : Written) → LexemeKind
  Tag : (handle suffix : List ℕ) → LexemeKind
  Scalar : (style : ScalarStyle) (text : Written) → LexemeKind

abbrev pub is_directive : LexemeKind → Bool
is_directive (Directive d) = true
is_directive kind = false

-- the `-` of an entry of a block sequence
abbrev pub is_entry_dash : LexemeKind → Bool
is_entry_dash Dash = true
is_entry_dash kind = false

abbrev pub is_opener_kind : LexemeKind → Bool
is_opener_kind (Open bracket) = true
is_opener_kind kind = false

-- where the simple key of a `:` begins, and the number of its first lexeme
pub record KeyStart : Type 0 where
  pub number : ℕ
  pub start : Mark

pub record Lexeme : Type 0 where
  -- how many lexemes stand before it
  pub number : ℕ
  pub kind : LexemeKind
  -- the place of its first character
  pub start : Mark
  -- the span that its token bears, and the place behind its tail
  pub shown : Source
  pub end : Mark
  -- the column of a block scalar's content
  pub indent : Option ℕ
  pub in_flow : Bool
  -- whether only blanks and prefix marks stand before it on its line
  pub begins_line : Bool
  -- whether it directly follows a `-`, `?` or keyless `:` outside flow
  pub follows_indicator : Bool
  -- whether it ends an open column
  pub ends_column : Bool
  -- of a `:`, the simple key before it
  pub key : Option KeyStart
  -- the comment behind it on its line
  pub tail : Option CommentRead

pub data Item : Type 0 where
  OfLexeme : Lexeme → Item
  OfComment : CommentRead → Item
