use Rattle.granit_lexemes.specs.PlainExtent.{AnswersPlain, RefusesPlain}
use Rattle.granit_lexemes.specs.PlainScalar.{plain_scalar}
use Rattle.granit_scalars.proofs.Nameless.{plain_none}
use Rattle.granit_scalars.proofs.PlainOnce.{is_answered, is_refused, is_standing}
use Rattle.granit_cursor.specs.Reading.{Stands}
use Rattle.granit_cursor.specs.Tokens.{layout_data}
use Rattle.granit_plain.specs.PlainCode.{plain_lexed}
use Rattle.granit_cursor.proofs.GivenLemmas.{given_stands, given_cause, given_answered}
use Rattle.granit_plain.proofs.plain.scan_plain_scalar.Goals as goal

pub returns-clause-scalar : goal.returns-clause-scalar
returns-clause-scalar g c = λ h k.
    let at = layout_data c.args.at.now in
    given_stands plain_lexed (Stands g.T.Input.unread c.lexed_plain.new.cursor) (AnswersPlain at h) (plain_scalar at h)
    c.lexed_plain.result (λ read after e. is_standing at h read after (c.requires h k) e)
    (c.lexed_plain.ensures.here h k)

pub returns-clause-cause : goal.returns-clause-cause
returns-clause-cause g c = λ h k.
    let at = layout_data c.args.at.now in
    given_cause plain_lexed (Stands g.T.Input.unread c.lexed_plain.new.cursor) (RefusesPlain at h) (plain_scalar at h)
    c.lexed_plain.result (λ f e. is_refused at h f (c.requires h k) e) (plain_none at h)
    (c.lexed_plain.ensures.here h k)

pub returns-clause-answered : goal.returns-clause-answered
returns-clause-answered g c = λ h read after k a.
    let at = layout_data c.args.at.now in
    given_answered plain_lexed (Stands g.T.Input.unread c.lexed_plain.new.cursor) (plain_scalar at h)
    c.lexed_plain.result (read, after) (is_answered at h read after a) (c.lexed_plain.ensures.here h k)
