-- The comment behind a lexeme is taken as such unless that is a `-`.
use Rattle.std.proofs.Common.{◌≡◌, ℕ, Bool, true, false, Option, Some, None, Result, Ok, Err, refl, ◌∙◌}
use Rattle.std.specs.Prelude.{if◌then◌else◌}
use Rattle.granit_error.specs.OptionsData.{OptionsData}
use Rattle.granit_lexemes.specs.Comment.{CommentRead}
use Rattle.granit_lexemes.specs.Lexeme as lexemes
use Rattle.granit_lexemes.specs.Lexeme.{LexemeKind}
use Rattle.granit_machine.specs.Frames.{ParserState}
use Rattle.granit_lexemes.specs.Outcome.{Fault, ◌>>=◌}
use Rattle.granit_machine.specs.Closing.{close}
use Rattle.granit_machine.specs.Parser.{take_lexeme, take_tail, take_token}
use Rattle.granit_machine.specs.TokenSort.{Token}
use Rattle.granit_feed.specs.Tails.{is_dash_lexeme, tail_taken, takes_tail}

pub tail_of : (kind : LexemeKind) (tail : Option CommentRead) (next : Option ℕ) (p : ParserState)
    → take_tail kind tail next p ≡ (if is_dash_lexeme kind then Ok p else tail_taken tail next p)
tail_of lexemes.Dash tail next p = refl
tail_of (lexemes.Directive d) None next p = refl
tail_of (lexemes.Directive d) (Some c) next p = refl
tail_of lexemes.DocumentStart None next p = refl
tail_of lexemes.DocumentStart (Some c) next p = refl
tail_of lexemes.DocumentEnd None next p = refl
tail_of lexemes.DocumentEnd (Some c) next p = refl
tail_of lexemes.StreamEnd None next p = refl
tail_of lexemes.StreamEnd (Some c) next p = refl
tail_of (lexemes.Open b) None next p = refl
tail_of (lexemes.Open b) (Some c) next p = refl
tail_of (lexemes.Close b) None next p = refl
tail_of (lexemes.Close b) (Some c) next p = refl
tail_of lexemes.Comma None next p = refl
tail_of lexemes.Comma (Some c) next p = refl
tail_of lexemes.Question None next p = refl
tail_of lexemes.Question (Some c) next p = refl
tail_of lexemes.Colon None next p = refl
tail_of lexemes.Colon (Some c) next p = refl
tail_of (lexemes.Alias name) None next p = refl
tail_of (lexemes.Alias name) (Some c) next p = refl
tail_of (lexemes.Anchor name) None next p = refl
tail_of (lexemes.Anchor name) (Some c) next p = refl
tail_of (lexemes.Tag handle suffix) None next p = refl
tail_of (lexemes.Tag handle suffix) (Some c) next p = refl
tail_of (lexemes.Scalar style text) None next p = refl
tail_of (lexemes.Scalar style text) (Some c) next p = refl

untaken : (dash : Bool) (tail : Option CommentRead) (next : Option ℕ) (p : ParserState) → takes_tail dash tail ≡ false
    → (if dash then Ok p else tail_taken tail next p) ≡ Ok p
untaken true tail next p none = refl
untaken false None next p none = refl
untaken false (Some c) next p none = search

then_ok : {A : Type 0} (r : Result A Fault) (f : A → Result A Fault) → ((x : A) → f x ≡ Ok x) → (r >>= f) ≡ r
then_ok (Ok x) f same = same x
then_ok (Err e) f same = refl

-- where no comment is taken behind it, a lexeme is taken by its token alone
pub without_tail : (o : OptionsData) (t : Token) (next : Option ℕ) (p : ParserState)
    → takes_tail (is_dash_lexeme t.lexeme.kind) t.lexeme.tail ≡ false
    → take_lexeme o t next p ≡ (close o t p >>= take_token o t)
without_tail o t next p none =
    then_ok (close o t p >>= take_token o t) (take_tail t.lexeme.kind t.lexeme.tail next)
    (λ q. tail_of t.lexeme.kind t.lexeme.tail next q ∙ untaken (is_dash_lexeme t.lexeme.kind) t.lexeme.tail next q none)
