use Rattle.std.proofs.Common.{◌≡◌, false, sym, ap, ◌∙◌}
use Rattle.std.proofs.lemmas.Result.{err_from_is_err_and}
use Rattle.granit_base.specs.Classes.{is_breakz}
use Rattle.granit_directives.proofs.DirectiveLemmas.{coded_given, coded_fails, tail_fails, line_goes_on}
use Rattle.granit_directives.proofs.directive.read_directive.Goals as goal
use Rattle.granit_directives.specs.DirectiveCode.{kind_type, noted_if}
use Rattle.granit_error.specs.OptionsView.{options_of}
use Rattle.granit_lexemes.specs.Directive.{directive_at, directive_tail}
use Rattle.granit_lexemes.specs.Here.{next_char}

pub returns-in_err-comment-clause-here : goal.returns-in_err-comment-clause-here
returns-in_err-comment-clause-here g c = λ h k.
    let p = err_from_is_err_and c.from_residual-in_err-comment.result c.from_residual-in_err-comment.ensures.1 in
    let o = options_of c.args.options.now in
    let comments = c.args.options.now.emit_comments in
    let at = c.in_ok-kind.ensures.here h k (c.mark-start.ensures.here h k) in
    let found = coded_given kind_type (directive_at o h) c.in_ok-kind.kind at.0 at.2 in
    let e = c.in_err-comment.field-0.0 in
    let fails = c.in_err-comment.ensures.here found.0 (c.is_reserved.ensures found.0 found.2) at.0 at.1 in
    rw (p.1, p.2) (tail_fails o comments h e found.0 at.0 c.if-options.false found.1
    (coded_fails (noted_if comments) (directive_tail found.0 at.0) e fails))

pub returns-then-not-is_breakz-clause-here : goal.returns-then-not-is_breakz-clause-here
returns-then-not-is_breakz-clause-here g c = λ h k.
    let o = options_of c.args.options.now in
    let comments = c.args.options.now.emit_comments in
    let start = c.mark-start.ensures.here h k in
    let at = c.in_ok-kind.ensures.here h k start in
    let found = coded_given kind_type (directive_at o h) c.in_ok-kind.kind at.0 at.2 in
    let tail = c.in_ok-comment.ensures.here found.0 (c.is_reserved.ensures found.0 found.2) at.0 at.1 in
    let noted = coded_given (noted_if comments) (directive_tail found.0 at.0) c.in_ok-comment.comment tail.0 tail.2 in
    let looked = c.look.ensures.here tail.0 tail.1 in
    let seen : c.peek.result ≡ next_char tail.0 = c.peek.ensures.value tail.0.unread (rw c.input.ensures looked.0) in
    let more : is_breakz (next_char tail.0) ≡ false = ap is_breakz (sym seen) ∙ sym c.is_breakz.ensures
    ∙ c.if-not-is_breakz.true in
    λ other. rw (c.from_kind-then-not-is_breakz.ensures, start)
    (line_goes_on o comments h found.0 at.0 tail.0 noted.0 c.if-options.false found.1 noted.1 more)
