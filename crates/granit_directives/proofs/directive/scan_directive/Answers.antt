use Rattle.granit_cursor.proofs.GivenLemmas.{given_stands, given_cause, given_answered}
use Rattle.granit_cursor.specs.Reading.{Stands}
use Rattle.granit_directives.proofs.directive.scan_directive.Goals as goal
use Rattle.granit_directives.specs.DirectiveCode.{directive_lexed}
use Rattle.granit_error.specs.OptionsView.{options_of}
use Rattle.granit_lexemes.specs.Directive.{directive}
use Rattle.granit_lexemes.specs.DirectiveExtent.{AnswersDirective}
use Rattle.granit_directive_laws.proofs.LineLaw.{whole_caused, whole_stands, whole_is}
use Rattle.granit_lexemes.specs.DirectiveCause.{DirectiveCause}

pub returns-clause-directive : goal.returns-clause-directive
returns-clause-directive g c = λ h k.
    let o = options_of c.args.options.now in
    given_stands (directive_lexed c.args.options.now.emit_comments)
    (Stands g.T.Input.unread c.read_directive.new.cursor) (AnswersDirective o h) (directive o h)
    c.read_directive.result
    (λ read after e. whole_stands o h read after (c.requires h k) e) (c.read_directive.ensures.here h k)

pub returns-clause-cause : goal.returns-clause-cause
returns-clause-cause g c = λ h k.
    let o = options_of c.args.options.now in
    given_cause (directive_lexed c.args.options.now.emit_comments) (Stands g.T.Input.unread c.read_directive.new.cursor)
    (DirectiveCause o h) (directive o h) c.read_directive.result
    (λ f e. (whole_caused o h f (c.requires h k) e).0)
    (record { none = λ f e. (whole_caused o h f (c.requires h k) e).1 }) (c.read_directive.ensures.here h k)

pub returns-clause-answered : goal.returns-clause-answered
returns-clause-answered g c = λ h read after k a.
    let o = options_of c.args.options.now in
    given_answered (directive_lexed c.args.options.now.emit_comments)
    (Stands g.T.Input.unread c.read_directive.new.cursor) (directive o h) c.read_directive.result (read, after)
    (whole_is o h read after a) (c.read_directive.ensures.here h k)
