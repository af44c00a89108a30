-- What the definition of a directive gives, as the code has it.
use Rattle.std.specs.Prelude.{Bool, true, false, map, Option, Some, None, Result, Ok}
use Rattle.std.specs.Option.{option_map}
use Rattle.granit_cursor.specs.Tokens.{comment_token}
use Rattle.granit_cursor.specs.declared.token.Lexed.{Lexed}
use Rattle.granit_cursor.specs.declared.token.Token.{Token}
use Rattle.granit_cursor.specs.declared.token.TokenType.{TokenType}
use Rattle.granit_cursor.specs.declared.token.TokenType.TheVariants as tokens
use Rattle.granit_error.specs.FaultKind.{FaultKind, NoMemory, DirectiveDisallowed, MissingDirectiveName}
use Rattle.granit_error.specs.FaultKind.{InvalidDirectiveName, DirectiveByteLimitExceeded}
use Rattle.granit_error.specs.FaultKind.{TooManyReservedDirectiveParams, InvalidDirectiveTerminator, MissingYamlVersion}
use Rattle.granit_error.specs.FaultKind.{MissingYamlVersionSeparator, YamlVersionTooLong, ExpectedTagBang}
use Rattle.granit_error.specs.FaultKind.{ExpectedTagDirectiveBang, InvalidGlobalTagCharacter}
use Rattle.granit_error.specs.FaultKind.{InvalidTagDirectiveTerminator, InvalidTagEscape, InvalidTagUtf8LeadingByte}
use Rattle.granit_error.specs.FaultKind.{InvalidTagUtf8TrailingByte, InvalidTagUtf8, CommentNotSeparated}
use Rattle.granit_error.specs.FaultKind.{InputSlicingUnavailable, UnexpectedCharacter}
use Rattle.granit_lexemes.specs.Basics.{owned}
use Rattle.granit_lexemes.specs.Comment.{CommentRead, comment}
use Rattle.granit_lexemes.specs.Directive.{DirectiveRead, directive_tail}
use Rattle.granit_lexemes.specs.Here.{Here}
use Rattle.granit_lexemes.specs.Lexeme.{DirectiveKind, Version, TagPrefix, Reserved}
use Rattle.granit_lexemes.specs.Outcome.{Fault, ◌>>=◌}
use Rattle.granit_lexemes.specs.PlainEvent.{plain_span}

abbrev pub kind_type : DirectiveKind → TokenType
kind_type (Version major minor) = tokens.VersionDirective major minor
kind_type (TagPrefix handle prefix) = tokens.TagDirective (owned handle) (owned prefix)
kind_type (Reserved name parameters) = tokens.ReservedDirective (owned name) (map owned parameters)

-- a comment, where comments are asked for
abbrev pub noted_if : (comments : Bool) → Option CommentRead → Option Token
noted_if true noted = option_map comment_token noted
noted_if false noted = None

abbrev pub directive_lexed : (comments : Bool) → DirectiveRead → Lexed
directive_lexed comments r = record {
  token = record { span = plain_span r.source.start r.source.end; token_type = kind_type r.kind };
  comment = noted_if comments r.noted;
  cut_by_comment = None;
  on_new_line = false;
}

-- the comment that begins here, and the tail of a directive, as the code has them
abbrev pub comment_if_asked : (comments : Bool) → Here → Result (Option Token × Here) Fault
comment_if_asked comments h = comment h >>= λ x. Ok (noted_if comments (Some x.0), x.1)

abbrev pub asked_tail : (comments : Bool) → DirectiveKind → Here → Result (Option Token × Here) Fault
asked_tail comments kind h = directive_tail kind h >>= λ x. Ok (noted_if comments x.0, x.1)

-- the kinds that a directive is refused by
abbrev pub IsDirectiveKind : FaultKind → Type 0
IsDirectiveKind NoMemory = Unit {0}
IsDirectiveKind InputSlicingUnavailable = Unit {0}
IsDirectiveKind DirectiveDisallowed = Unit {0}
IsDirectiveKind MissingDirectiveName = Unit {0}
IsDirectiveKind InvalidDirectiveName = Unit {0}
IsDirectiveKind (DirectiveByteLimitExceeded limit) = Unit {0}
IsDirectiveKind (TooManyReservedDirectiveParams limit) = Unit {0}
IsDirectiveKind InvalidDirectiveTerminator = Unit {0}
IsDirectiveKind MissingYamlVersion = Unit {0}
IsDirectiveKind MissingYamlVersionSeparator = Unit {0}
IsDirectiveKind YamlVersionTooLong = Unit {0}
IsDirectiveKind ExpectedTagBang = Unit {0}
IsDirectiveKind ExpectedTagDirectiveBang = Unit {0}
IsDirectiveKind InvalidGlobalTagCharacter = Unit {0}
IsDirectiveKind InvalidTagDirectiveTerminator = Unit {0}
IsDirectiveKind InvalidTagEscape = Unit {0}
IsDirectiveKind InvalidTagUtf8LeadingByte = Unit {0}
IsDirectiveKind InvalidTagUtf8TrailingByte = Unit {0}
IsDirectiveKind InvalidTagUtf8 = Unit {0}
IsDirectiveKind CommentNotSeparated = Unit {0}
IsDirectiveKind (UnexpectedCharacter c) = Unit {0}
IsDirectiveKind _ = ⊥
