use Rattle.std.proofs.Common.{◌≡◌, ◌==◌, true, false, sym, subst, Result, arith}
use Rattle.std.proofs.lemmas.Bool.Decides.{nat_tests}
use Rattle.granit_base.specs.Classes.{is_blank}
use Rattle.granit_lexemes.specs.Here.{Here, next_char, past}
use Rattle.granit_lexemes.specs.Outcome.{Fault}
use Rattle.granit_cursor.specs.Reading.{Stands, GivesTo}
use Rattle.granit_content.specs.Reads.{Seen, tail_view}
use Rattle.granit_content.proofs.TailLemmas.{run_lands, no_comment, comment_touches, comment_stands}
use Rattle.granit_refused.specs.Answered.{answered}
use Rattle.granit_content.proofs.tail.tail_at.Goals as goal

pub returns-then-peek-ne35-clause-here : goal.returns-then-peek-ne35-clause-here
returns-then-peek-ne35-clause-here g c = λ h k.
    let run = c.skip_while_blank-blanks.ensures.here h k in
    let n = c.skip_while_blank-blanks.result in
    let now = past is_blank h in
    let stands = subst (λ (i : Here). Stands g.T.Input.unread c.skip_while_blank-blanks.new.self i)
    (run_lands is_blank n h run.0) run.1 in
    let looked = c.look.ensures.here now stands in
    let found : c.peek.result ≡ next_char now = c.peek.ensures.value now.unread (rw c.input.ensures looked.0) in
    let y : (next_char now == 0x23) ≡ false = grind (arith, nat_tests, found, c.if-peek-ne35.true) in
    (now, looked, no_comment c.args.asked n h run.0 y)

pub returns-then-blanks-eq0-clause-here : goal.returns-then-blanks-eq0-clause-here
returns-then-blanks-eq0-clause-here g c = λ h k.
    let run = c.skip_while_blank-blanks.ensures.here h k in
    let n = c.skip_while_blank-blanks.result in
    let now = past is_blank h in
    let stands = subst (λ (i : Here). Stands g.T.Input.unread c.skip_while_blank-blanks.new.self i)
    (run_lands is_blank n h run.0) run.1 in
    let looked = c.look.ensures.here now stands in
    let found : c.peek.result ≡ next_char now = c.peek.ensures.value now.unread (rw c.input.ensures looked.0) in
    let y : (next_char now == 0x23) ≡ true = grind (arith, nat_tests, found, c.if-peek-ne35.false) in
    let e : (n == 0) ≡ true = grind (arith, nat_tests, c.if-blanks-eq0.true) in
    λ other. rw (c.refuse_touching.ensures.refusal, c.refuse_touching.ensures.kept now looked)
    (comment_touches c.args.asked n h run.0 y e)

pub returns-clause-here : goal.returns-clause-here
returns-clause-here g c = λ h k.
    let run = c.skip_while_blank-blanks.ensures.here h k in
    let n = c.skip_while_blank-blanks.result in
    let now = past is_blank h in
    let stands = subst (λ (i : Here). Stands g.T.Input.unread c.skip_while_blank-blanks.new.self i)
    (run_lands is_blank n h run.0) run.1 in
    let looked = c.look.ensures.here now stands in
    let found : c.peek.result ≡ next_char now = c.peek.ensures.value now.unread (rw c.input.ensures looked.0) in
    let y : (next_char now == 0x23) ≡ true = grind (arith, nat_tests, found, c.if-peek-ne35.false) in
    let e : (n == 0) ≡ false = grind (arith, nat_tests, c.if-blanks-eq0.false) in
    subst (λ (r : Result (Seen × Here) Fault). GivesTo tail_view (answered c.comment_at.new.fault c.comment_at.result)
    (Stands g.T.Input.unread c.comment_at.new.at) r) (sym (comment_stands c.args.asked n h run.0 y e))
    (c.comment_at.ensures.here now looked)
