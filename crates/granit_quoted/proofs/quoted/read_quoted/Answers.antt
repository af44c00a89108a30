use Rattle.std.proofs.Common.{◌∙◌, subst}
use Rattle.std.proofs.lemmas.Str.{chars-nil}
use Rattle.granit_base.specs.Place.{Mark}
use Rattle.granit_lexemes.specs.Here.{step}
use Rattle.granit_lexemes.specs.Moves.{steps}
use Rattle.granit_scalars.proofs.Comments.{steps_text}
use Rattle.granit_lexemes.specs.QuotedScalar.{quoted_scalar}
use Rattle.granit_cursor.specs.Reading.{Stands, GivesTo, coded}
use Rattle.granit_cursor.specs.Tokens.{layout_data}
use Rattle.granit_quoted.specs.QuotedCode.{quoted_from, quoted_lexed}
use Rattle.granit_quoted.proofs.KeptLemmas.{passed_is, copied_is}
use Rattle.granit_quoted.proofs.MemoryLemmas.{closing_next, quoted_lent, steps_lends}
use Rattle.granit_refused.specs.Answered.{answered}
use Rattle.granit_quoted.proofs.quoted.read_quoted.Goals as goal

pub returns-in-Ok-Some-clause-here : goal.returns-in-Ok-Some-clause-here
returns-in-Ok-Some-clause-here g c = λ h k.
    let passed = rw c.in-Ok-Some.field-0-is at (c.in-Ok-Some.ensures.here (step h)
    (c.step.ensures.here h k)) in
    let n = passed.0 in
    let start = c.mark-start.ensures.here h k in
    subst (λ (m : Mark). GivesTo (λ _. quoted_from c.args.single m c.read_passed.new.read)
    (answered c.read_passed.new.fault c.read_passed.result)
    (Stands g.T.Input.unread c.read_passed.new.cursor) (coded (quoted_lexed c.args.single)
    (quoted_scalar c.args.single (layout_data c.args.at.now) h))) start
    (rw (passed_is c.args.single (layout_data c.args.at.now) h c.mark-start.result n start
    passed.1 (steps_text n (step h)) passed.3)
    (rw passed.4 at (c.read_passed.ensures.here (steps n (step h)) passed.2)))

pub returns-in-Ok-None-clause-here : goal.returns-in-Ok-None-clause-here
returns-in-Ok-None-clause-here g c = λ h k.
    let passed = rw c.in-Ok-None.field-0-is at (c.in-Ok-None.ensures.here (step h)
    (c.step.ensures.here h k)) in
    let start = c.mark-start.ensures.here h k in
    subst (λ (m : Mark). GivesTo (λ _. quoted_from c.args.single m c.read_copied.new.read)
    (answered c.read_copied.new.fault c.read_copied.result)
    (Stands g.T.Input.unread c.read_copied.new.cursor) (coded (quoted_lexed c.args.single)
    (quoted_scalar c.args.single (layout_data c.args.at.now) h))) start
    (rw (copied_is c.args.single (layout_data c.args.at.now) h c.mark-start.result start passed.0)
    (rw chars-nil at (c.read_copied.ensures.here (step h) passed.1)))

pub returns-in-Err-clause-here : goal.returns-in-Err-clause-here
returns-in-Err-clause-here g c = λ h k. absurd (c.in-Err.ensures.here (step h) (c.step.ensures.here h k))

pub returns-in-Ok-Some-clause-memory : goal.returns-in-Ok-Some-clause-memory
returns-in-Ok-Some-clause-memory g c = λ h k none.
    let passed = rw c.in-Ok-Some.field-0-is at (c.in-Ok-Some.ensures.here (step h)
    (c.step.ensures.here h k)) in
    let n = passed.0 in
    c.read_passed.ensures.memory (steps n (step h)) passed.2
    (steps_lends n (step h) ∙ quoted_lent c.args.single h none) (closing_next c.args.single h n none passed.1)

pub returns-in-Ok-None-clause-memory : goal.returns-in-Ok-None-clause-memory
returns-in-Ok-None-clause-memory g c = λ h k none. absurd (
    let passed = rw c.in-Ok-None.field-0-is at (c.in-Ok-None.ensures.here (step h)
    (c.step.ensures.here h k)) in
    let lends = quoted_lent c.args.single h none in cc)
