-- The comment behind a quoted scalar, as it is kept.
use Rattle.std.proofs.Common.{◌≡◌, true, Option, Some, Result, Ok, Err, sym, ap}
use Rattle.std.specs.Option.{option_map}
use Rattle.granit_lexemes.specs.Comment.{CommentRead}
use Rattle.granit_lexemes.specs.Here.{Here}
use Rattle.granit_lexemes.specs.LayoutData.{LayoutData}
use Rattle.granit_lexemes.specs.Outcome.{Fault}
use Rattle.granit_lexemes.specs.QuotedScalar.{asked_comment}
use Rattle.granit_cursor.specs.Reading.{coded}
use Rattle.granit_cursor.specs.Tokens.{comment_token}
use Rattle.granit_cursor.specs.declared.token.Token.{Token}
use Rattle.granit_cursor.proofs.GivenLemmas.{same_ok}

-- what was read where comments are asked for, by what is kept of its token
pub remark_read : (at : LayoutData) (r : Result (CommentRead × Here) Fault) (token : Token) (kept : Option Token)
    (after : Here) → at.comments ≡ true → ((c : CommentRead) → token ≡ comment_token c → kept ≡ Some token)
    → coded comment_token r ≡ Ok (token, after)
    → coded (λ (c : CommentRead). option_map comment_token (asked_comment at c)) r ≡ Ok (kept, after)
remark_read at (Ok x) token kept after asks keeps is =
    let same = same_ok (comment_token x.0, x.1) (token, after) is in
    let all = keeps x.0 (sym (ap (λ (p : Token × Here). p.0) same)) in
    rw (asks, all) (ap (λ (p : Token × Here). Ok (Some p.0, p.1)) same)
remark_read at (Err f) token kept after asks keeps is = absurd cc
