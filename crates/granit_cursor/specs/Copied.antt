-- What a copy of a token takes.
use Rattle.std.specs.Prelude.{◌≡◌, ⊤, true, []}
use Rattle.granit_cursor.specs.declared.token.TokenType.{TokenType}
use Rattle.granit_cursor.specs.declared.token.TokenType.TheVariants as tokens

-- a copy of it takes no memory: its texts are borrowed, and it has no list of parameters
abbrev pub CopyTakesNone : TokenType → Type 0
CopyTakesNone (tokens.TagDirective handle prefix) = (handle.is_borrowed ≡ true) × (prefix.is_borrowed ≡ true)
CopyTakesNone (tokens.Alias name) = name.is_borrowed ≡ true
CopyTakesNone (tokens.Anchor name) = name.is_borrowed ≡ true
CopyTakesNone (tokens.Tag handle suffix) = (handle.is_borrowed ≡ true) × (suffix.is_borrowed ≡ true)
CopyTakesNone (tokens.Scalar style text) = text.is_borrowed ≡ true
CopyTakesNone (tokens.Comment comment) = comment.text.is_borrowed ≡ true
CopyTakesNone (tokens.ReservedDirective name parameters) = (name.is_borrowed ≡ true) × (parameters ≡ [])
CopyTakesNone _ = ⊤
