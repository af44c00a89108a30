use Rattle.granit_lexemes.specs.QuotedExtent.{AnswersQuoted, RefusesQuoted}
use Rattle.granit_lexemes.specs.QuotedScalar.{quoted_scalar}
use Rattle.granit_scalars.proofs.Nameless.{quoted_none}
use Rattle.granit_quoted_laws.proofs.QuotedLaw.{quoted_standing, quoted_refused}
use Rattle.granit_quoted_laws.proofs.QuotedOnce.{quoted_is_answered}
use Rattle.granit_cursor.specs.Reading.{Stands}
use Rattle.granit_cursor.specs.Tokens.{layout_data}
use Rattle.granit_quoted.specs.QuotedCode.{quoted_lexed}
use Rattle.granit_cursor.proofs.GivenLemmas.{given_stands, given_cause, given_answered}
use Rattle.granit_quoted.proofs.quoted.scan_quoted_scalar.Goals as goal

pub returns-clause-scalar : goal.returns-clause-scalar
returns-clause-scalar g c = λ h k.
    let at = layout_data c.args.at.now in
    given_stands (quoted_lexed c.args.single) (Stands g.T.Input.unread c.lexed_quoted.new.cursor)
    (AnswersQuoted c.args.single at h) (quoted_scalar c.args.single at h) c.lexed_quoted.result
    (λ read after e. quoted_standing c.args.single at h read after (c.requires h k) e)
    (c.lexed_quoted.ensures.here h k)

pub returns-clause-cause : goal.returns-clause-cause
returns-clause-cause g c = λ h k.
    let at = layout_data c.args.at.now in
    given_cause (quoted_lexed c.args.single) (Stands g.T.Input.unread c.lexed_quoted.new.cursor)
    (RefusesQuoted c.args.single at h) (quoted_scalar c.args.single at h) c.lexed_quoted.result
    (λ f e. quoted_refused c.args.single at h f (c.requires h k) e) (quoted_none c.args.single at h)
    (c.lexed_quoted.ensures.here h k)

pub returns-clause-answered : goal.returns-clause-answered
returns-clause-answered g c = λ h read after k a.
    let at = layout_data c.args.at.now in
    given_answered (quoted_lexed c.args.single) (Stands g.T.Input.unread c.lexed_quoted.new.cursor)
    (quoted_scalar c.args.single at h) c.lexed_quoted.result (read, after)
    (quoted_is_answered c.args.single at h read after a) (c.lexed_quoted.ensures.here h k)
