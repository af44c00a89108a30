use Rattle.std.proofs.Common.{ℕ, refl, sym, ap, ◌∙◌}
use Rattle.std.proofs.lemmas.Result.{err_from_is_err_and}
use Rattle.granit_base.specs.Place.{Mark}
use Rattle.granit_error.specs.OptionsView.{options_of}
use Rattle.granit_lexemes.specs.Here.{mark_of}
use Rattle.granit_machine.specs.PossibleKeys.{layout_of}
use Rattle.granit_plain.specs.PlainCode.{plain_from}
use Rattle.granit_content.specs.ScalarReads.{layout_asking}
use Rattle.granit_content.proofs.ScalarLemmas.{plain_items, plain_fails}
use Rattle.granit_refused.specs.Answered.{why}
use Rattle.granit_content.proofs.scalars.plain_by_turns.Goals as goal

pub returns-in_err-read_plain-clause-here : goal.returns-in_err-read_plain-clause-here
returns-in_err-read_plain-clause-here g c = λ h k begun.
    let p = err_from_is_err_and c.from_residual.result c.from_residual.ensures.1 in
    let o = options_of c.args.options.now in
    let told = c.layout-layout.ensures ∙ ap (λ (n : ℕ). layout_asking o.emit_comments
    (layout_of o n c.args.layouts.now))
    (c.col.ensures ∙ ap (λ (m : Mark). m.place.column) (sym begun.0)) in
    rw (p.1, p.2) (plain_fails o o.emit_comments c.args.ends h c.args.layouts.now
    (why c.read_plain.new.fault c.in_err-read_plain.field-0.0)
    (rw told at (c.in_err-read_plain.ensures.here h k)))

pub returns-clause-here : goal.returns-clause-here
returns-clause-here g c = λ h k begun.
    let o = options_of c.args.options.now in
    let told = c.layout-layout.ensures ∙ ap (λ (n : ℕ). layout_asking o.emit_comments
    (layout_of o n c.args.layouts.now))
    (c.col.ensures ∙ ap (λ (m : Mark). m.place.column) (sym begun.0)) in
    let read = rw told at (c.in_ok-read_plain.ensures.here h k) in (
      record { here = read.0; laid = c.count_lexeme.new.self },
      (read.1, refl),
      rw (c.write_lexeme.ensures h begun, c.count_lexeme.ensures, c.behind_plain_scalar.ensures)
          (plain_items o o.emit_comments c.args.ends h c.args.layouts.now
          (plain_from (mark_of h) c.read_plain.new.read) read.0 read.2),
    )
