-- A `-`, and every other lexeme.
use Rattle.granit_lexemes.specs.Lexeme.{KeyStart}
use Rattle.granit_lexemes.specs.declared.layout.Bracket.TheVariants.{Square, Curly}
use Rattle.granit_machine.specs.TokenSort.{token_sort, is_dash_token}
use Rattle.std.proofs.Common.{◌≡◌, Bool, true, false, refl, Option, Some, None}
use Rattle.granit_lexemes.specs.Lexeme as lexemes

pub data DashOr (b : Bool) (key : Option KeyStart) : lexemes.LexemeKind → Type 0 where
  a_dash : DashOr b key lexemes.Dash
  another : {k : lexemes.LexemeKind} → is_dash_token (token_sort b key k) ≡ false → DashOr b key k

pub dash_or : (b : Bool) (key : Option KeyStart) (k : lexemes.LexemeKind) → DashOr b key k
dash_or b key lexemes.Dash = a_dash
dash_or b key (lexemes.Directive directive) = another refl
dash_or b key lexemes.DocumentStart = another refl
dash_or b key lexemes.DocumentEnd = another refl
dash_or b key lexemes.StreamEnd = another refl
dash_or b key (lexemes.Close Square) = another refl
dash_or b key (lexemes.Close Curly) = another refl
dash_or b key lexemes.Comma = another refl
dash_or b key lexemes.Question = another refl
dash_or b None lexemes.Colon = another refl
dash_or b (Some n) lexemes.Colon = another refl
dash_or true key (lexemes.Open bracket) = another refl
dash_or false key (lexemes.Open bracket) = another refl
dash_or true key (lexemes.Alias name) = another refl
dash_or false key (lexemes.Alias name) = another refl
dash_or true key (lexemes.Anchor name) = another refl
dash_or false key (lexemes.Anchor name) = another refl
dash_or true key (lexemes.Tag handle suffix) = another refl
dash_or false key (lexemes.Tag handle suffix) = another refl
dash_or true key (lexemes.Scalar style text) = another refl
dash_or false key (lexemes.Scalar style text) = another refl
