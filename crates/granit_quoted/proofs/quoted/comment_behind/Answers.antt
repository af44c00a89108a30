use Rattle.std.specs.Option.{option_map}
use Rattle.granit_lexemes.specs.Comment.{comment}
use Rattle.granit_cursor.specs.Tokens.{layout_data}
use Rattle.granit_quoted.specs.QuotedCode.{remark_token}
use Rattle.granit_quoted.proofs.RemarkLemmas.{remark_read}
use Rattle.granit_quoted.proofs.quoted.comment_behind.Goals as goal

pub returns-then-at-clause-here : goal.returns-then-at-clause-here
returns-then-at-clause-here g c = λ h k.
    let read = rw c.in_ok-token.ensures at (c.read_comment.ensures.here h k) in (
      read.0,
      read.1,
      remark_read (layout_data c.args.at.now) (comment h) c.in_ok-token.token
          (option_map remark_token c.remark_of.result) read.0 c.if-at.true c.remark_of.ensures read.2,
    )
