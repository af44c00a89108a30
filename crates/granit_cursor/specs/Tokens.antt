-- What the definitions give, as the code has it.
use Rattle.std.specs.Prelude.{◌≡◌, ◌⊎◌, ℕ, Bool, true, false}
use Rattle.granit_base.specs.declared.style.Placement.{Placement}
use Rattle.granit_base.specs.declared.style.Placement.TheVariants.{Free, Right}
use Rattle.granit_base.specs.declared.style.ScalarStyle.{ScalarStyle}
use Rattle.granit_base.specs.Written.{Written}
use Rattle.granit_error.specs.FaultKind.{FaultKind, InputSlicingUnavailable, NoMemory, UnexpectedCharacter}
use Rattle.granit_lexemes.specs.Comment.{CommentRead}
use Rattle.granit_lexemes.specs.LayoutData.{LayoutData}
use Rattle.granit_lexemes.specs.PlainEvent.{plain_span}
use Rattle.granit_lexemes.specs.Source.{Source}
use Rattle.granit_cursor.specs.declared.layout.Layout.{Layout}
use Rattle.granit_cursor.specs.declared.token.Token.{Token}
use Rattle.granit_cursor.specs.declared.token.TokenType.TheVariants as tokens

-- right of something on its line, or free as long as nothing else is known
abbrev pub token_placement : Bool → Placement
token_placement true = Right
token_placement false = Free

-- a comment, from its `#` to the end of its line
abbrev pub comment_token : CommentRead → Token
comment_token c = record {
  span = plain_span c.source.start c.source.end;
  token_type = tokens.Comment (record { text = c.text; placement = token_placement c.is_right });
}

-- a scalar of that style, text and source
abbrev pub scalar_token : ScalarStyle → Written → Source → Token
scalar_token style text source = record {
  span = plain_span source.start source.end;
  token_type = tokens.Scalar style text;
}

-- what a scalar is told, as plain data
abbrev pub layout_data : Layout → LayoutData
layout_data l = record {
  block_column = l.block_column;
  tab_column = l.tab_column;
  in_flow = l.in_flow;
  strict = l.strict;
  comments = l.comments;
}

-- the kinds that a comment is refused by
abbrev pub IsCommentKind : FaultKind → Type 0
IsCommentKind kind =
    (kind ≡ NoMemory) ⊎ ((kind ≡ InputSlicingUnavailable) ⊎ ((c : ℕ) × (kind ≡ UnexpectedCharacter c)))

abbrev pub is_right_placed : Placement → Bool
is_right_placed Right = true
is_right_placed other = false
