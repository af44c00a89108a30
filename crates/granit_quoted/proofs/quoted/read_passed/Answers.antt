use Rattle.std.proofs.Common.{◌≡◌, true, false, sym, ◌∙◌}
use Rattle.granit_lexemes.specs.Here.{step}
use Rattle.granit_lexemes.specs.QuotedScalar.{is_closing}
use Rattle.granit_lexemes.proofs.HereLemmas.{step_lends}
use Rattle.granit_quoted.proofs.quoted.read_passed.Goals as goal

pub returns-then-at_closing-clause-here : goal.returns-then-at_closing-clause-here
returns-then-at_closing-clause-here g c = λ h k.
    let closed = c.at_closing.ensures.here h k in
    let y : is_closing c.args.single h.unread.text ≡ true = sym closed.1 ∙ c.if-at_closing.true in
    rw y (rw c.borrowed.ensures at (c.quoted_tail.ensures.here (step h) (c.step.ensures.here h closed.0)))

pub returns-clause-here : goal.returns-clause-here
returns-clause-here g c = λ h k.
    let closed = c.at_closing.ensures.here h k in
    let n : is_closing c.args.single h.unread.text ≡ false = sym closed.1 ∙ c.if-at_closing.false in
    rw n (c.read_copied.ensures.here h closed.0)

pub returns-then-at_closing-clause-memory : goal.returns-then-at_closing-clause-memory
returns-then-at_closing-clause-memory g c = λ h k lends y.
    let closed = c.at_closing.ensures.here h k in
    c.quoted_tail.ensures.lent (step h) (c.step.ensures.here h closed.0) (step_lends h ∙ lends)

pub returns-clause-memory : goal.returns-clause-memory
returns-clause-memory g c = λ h k lends y. absurd (
    let closed = c.at_closing.ensures.here h k in
    let n : is_closing c.args.single h.unread.text ≡ false = sym closed.1 ∙ c.if-at_closing.false in cc)
