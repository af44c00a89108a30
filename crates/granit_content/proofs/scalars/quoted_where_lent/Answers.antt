use Rattle.std.proofs.Common.{ℕ, refl, sym, ap, ◌∙◌}
use Rattle.std.specs.Option.{option_map}
use Rattle.std.proofs.lemmas.Result.{err_from_is_err_and}
use Rattle.granit_base.specs.Place.{Mark}
use Rattle.granit_error.specs.OptionsView.{options_of}
use Rattle.granit_lexemes.specs.Here.{mark_of}
use Rattle.granit_lexemes.specs.Lexeme.{Lexeme}
use Rattle.granit_machine.specs.PossibleKeys.{layout_of}
use Rattle.granit_machine.specs.ReaderState.{with_tail}
use Rattle.granit_quoted.specs.QuotedCode.{quoted_from, remark_token}
use Rattle.granit_content.specs.KindViews.{note_of_token}
use Rattle.granit_content.specs.ScalarReads.{layout_asking}
use Rattle.granit_content.proofs.ScalarLemmas.{quoted_items, quoted_fails}
use Rattle.granit_refused.specs.Answered.{why}
use Rattle.granit_content.proofs.scalars.quoted_where_lent.Goals as goal

pub returns-in_err-read_quoted-clause-here : goal.returns-in_err-read_quoted-clause-here
returns-in_err-read_quoted-clause-here g c = λ h k.
    let p = err_from_is_err_and c.from_residual.result c.from_residual.ensures.1 in
    let o = options_of c.args.options.now in
    let begun = c.start_of-start.ensures h k in
    let told = c.layout-layout.ensures ∙ ap (λ (n : ℕ). layout_asking o.emit_comments
    (layout_of o n c.args.layouts.now))
    (c.col.ensures ∙ ap (λ (m : Mark). m.place.column) (sym begun.0)) in
    rw (p.1, p.2) (quoted_fails o o.emit_comments c.args.ends h c.args.layouts.now
    (why c.read_quoted.new.fault c.in_err-read_quoted.field-0.0)
    c.args.single (rw told at (c.in_err-read_quoted.ensures.here h k)))

pub returns-clause-here : goal.returns-clause-here
returns-clause-here g c = λ h k.
    let o = options_of c.args.options.now in
    let begun = c.start_of-start.ensures h k in
    let told = c.layout-layout.ensures ∙ ap (λ (n : ℕ). layout_asking o.emit_comments
    (layout_of o n c.args.layouts.now))
    (c.col.ensures ∙ ap (λ (m : Mark). m.place.column) (sym begun.0)) in
    let read = rw told at (c.in_ok-read_quoted.ensures.here h k) in
    let scalar = c.read_quoted.new.read in
    let lexeme = c.in_ok-put_comment.ensures
    ∙ ap (λ (x : Lexeme). with_tail x (option_map note_of_token (option_map remark_token scalar.comment)))
    (rw c.quoted_style.ensures at (c.write_lexeme.ensures h begun)) in (
      record { here = read.0; laid = c.count_lexeme.new.self },
      (read.1, refl),
      rw (lexeme, c.count_lexeme.ensures)
          (quoted_items o o.emit_comments c.args.ends h c.args.layouts.now
          (quoted_from c.args.single (mark_of h) scalar) read.0 c.args.single read.2),
    )
