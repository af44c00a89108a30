use Rattle.std.proofs.Common.{sym, ◌∙◌}
use Rattle.std.proofs.lemmas.Result.{err_from_is_err_and}
use Rattle.granit_block.proofs.LineLemmas.{line_outside, line_refused, line_mark, line_fails, line_more}
use Rattle.granit_block.proofs.lines.take_line.Goals as goal

pub returns-then-is_outside-clause-here : goal.returns-then-is_outside-clause-here
returns-then-is_outside-clause-here g c = λ h k.
    let looked = c.look.ensures.here h k in (
      h,
      looked,
      line_outside c.args.literal c.args.column c.args.lines.now h
          (sym (c.is_outside.ensures.value h looked) ∙ c.if-is_outside.true),
    )

pub returns-in_err-refuse_unprintable-clause-here : goal.returns-in_err-refuse_unprintable-clause-here
returns-in_err-refuse_unprintable-clause-here g c = λ h k.
    let p = err_from_is_err_and c.from_residual.result c.from_residual.ensures.1 in
    let looked = c.look.ensures.here h k in
    let o = sym (c.is_outside.ensures.value h looked) ∙ c.if-is_outside.false in
    let bad = c.in_err-refuse_unprintable.ensures.here h looked in
    rw (p.1, p.2) (line_refused c.args.literal c.args.column c.args.lines.now h c.in_err-refuse_unprintable.field-0.0 o
    bad.0 bad.1)

pub returns-then-is_mark-clause-here : goal.returns-then-is_mark-clause-here
returns-then-is_mark-clause-here g c = λ h k.
    let looked = c.look.ensures.here h k in
    let o = sym (c.is_outside.ensures.value h looked) ∙ c.if-is_outside.false in
    let clear = c.in_ok-refuse_unprintable.ensures.here h looked in
    let again = c.look-2.ensures.here h clear.0 in (
      h,
      again,
      line_mark c.args.literal c.args.column c.args.lines.now h o clear.1
          (sym (c.is_mark.ensures h again) ∙ c.if-is_mark.true),
    )

pub returns-in_err-take_content-clause-here : goal.returns-in_err-take_content-clause-here
returns-in_err-take_content-clause-here g c = λ h k.
    let p = err_from_is_err_and c.from_residual-in_err-take_content.result
    c.from_residual-in_err-take_content.ensures.1 in
    let looked = c.look.ensures.here h k in
    let o = sym (c.is_outside.ensures.value h looked) ∙ c.if-is_outside.false in
    let clear = c.in_ok-refuse_unprintable.ensures.here h looked in
    let again = c.look-2.ensures.here h clear.0 in
    rw (p.1, p.2) (line_fails c.args.literal c.args.column c.args.lines.now h c.in_err-take_content.field-0.0 o clear.1
    (sym (c.is_mark.ensures h again) ∙ c.if-is_mark.false) (c.in_err-take_content.ensures.here h again))

pub returns-clause-here : goal.returns-clause-here
returns-clause-here g c = λ h k.
    let looked = c.look.ensures.here h k in
    let o = sym (c.is_outside.ensures.value h looked) ∙ c.if-is_outside.false in
    let clear = c.in_ok-refuse_unprintable.ensures.here h looked in
    let again = c.look-2.ensures.here h clear.0 in
    let taken = c.in_ok-take_content.ensures.here h again in (
      taken.0,
      taken.2,
      line_more c.args.literal c.args.column c.args.lines.now h c.take_content.new.lines taken.0
          taken.1 o clear.1 (sym (c.is_mark.ensures h again) ∙ c.if-is_mark.false) taken.3 taken.4,
    )
