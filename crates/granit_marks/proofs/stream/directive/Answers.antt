use Rattle.std.proofs.Common.{◌∙◌, refl, ap, Option}
use Rattle.std.proofs.lemmas.Result.{err_from_is_err_and}
use Rattle.granit_error.specs.OptionsView.{options_of}
use Rattle.granit_lexemes.specs.Comment.{CommentRead}
use Rattle.granit_machine.specs.Columns.{ends_all, closed_all}
use Rattle.granit_machine.specs.Gaps.{over_break_if}
use Rattle.granit_content.specs.ScalarReads.{token_as}
use Rattle.granit_marks.proofs.DirectiveLemmas.{directive_items, directive_fails}
use Rattle.granit_refused.specs.Answered.{why}
use Rattle.granit_marks.proofs.stream.directive.Goals as goal

pub returns-in_err-read-clause-here : goal.returns-in_err-read-clause-here
returns-in_err-read-clause-here g c = λ h k.
    let o = options_of c.args.options.now in
    let l = c.args.layouts.now in
    let p = err_from_is_err_and c.from_residual.result c.from_residual.ensures.1 in
    rw (p.1, p.2) (directive_fails o o.emit_comments (ends_all l) h (closed_all l)
    (why c.keep_fault.new.fault c.in_err-read.field-0.0)
    (rw c.in_err-read.ensures at (c.scan_directive.ensures.here h k)))

pub returns-clause-here : goal.returns-clause-here
returns-clause-here g c = λ h k.
    let o = options_of c.args.options.now in
    let l = c.args.layouts.now in
    let read = rw c.in_ok-read.ensures at (c.scan_directive.ensures.here h k) in
    let on = c.over_break_if.ensures.here read.0 read.1 in
    let lexeme = rw (c.ends_all-ends.ensures, c.close_all.ensures) at
    (c.scalar_lexeme.ensures h (c.start_of-start.ensures h k)
    ∙ ap (λ (t : Option CommentRead). token_as c.ends_all-ends.result c.in_ok-read.read.token t h c.close_all.new.self)
    c.in_ok-tail.ensures.kept) in (
      record { here = over_break_if read.0; laid = c.behind_directive.new.self },
      (on, refl),
      directive_items o o.emit_comments (ends_all l) h (closed_all l) c.in_ok-read.read read.0 read.2
          ∙ rw (c.behind_directive.ensures, c.close_all.ensures, lexeme) refl,
    )
