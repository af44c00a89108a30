use Rattle.std.proofs.Common.{refl, sym, ◌∙◌}
use Rattle.granit_lexemes.specs.Moves.{steps}
use Rattle.granit_cursor.specs.Reading.{Stands}
use Rattle.granit_plain.proofs.LineLemmas.{is_some, word_passed, word_stopped}
use Rattle.granit_plain.proofs.line.pass_word.Goals as goal

pub returns-then-meets_comment-clause-here : goal.returns-then-meets_comment-clause-here
returns-then-meets_comment-clause-here g c = λ h k.
    let blanks = c.skip_while_blank-blank.ensures.here h k in
    let n = c.skip_while_blank-blank.result in
    let met = c.meets_comment.ensures.here (steps n h) blanks.1 in
    (n, blanks.0, is_some n, word_stopped c.args.in_flow (steps n h) _ (sym met.1 ∙ c.if-meets_comment.true), met.0)

pub returns-clause-here : goal.returns-clause-here
returns-clause-here g c = λ h k.
    let blanks = c.skip_while_blank-blank.ensures.here h k in
    let n = c.skip_while_blank-blank.result in
    let met = c.meets_comment.ensures.here (steps n h) blanks.1 in
    let words = c.skip_plain_words-taken.ensures.here (steps n h) met.0 in
    word_passed c.args.in_flow h _ n c.skip_plain_words-taken.result
    (Stands g.T.Input.unread c.skip_plain_words-taken.new.self) blanks.0
    (is_some n) (sym met.1 ∙ c.if-meets_comment.false) words.0 words.1 _ refl
