use Rattle.std.proofs.Common.{ℕ, Option, refl, sym, ap, ◌∙◌}
use Rattle.granit_base.specs.Place.{Mark}
use Rattle.granit_block.specs.BlockCode.{block_lexed_at}
use Rattle.granit_error.specs.OptionsView.{options_of}
use Rattle.granit_lexemes.specs.LayoutData.{LayoutData}
use Rattle.granit_lexemes.specs.Comment.{CommentRead}
use Rattle.granit_machine.specs.PossibleKeys.{layout_of}
use Rattle.granit_content.specs.ScalarReads.{layout_asking, shown_as}
use Rattle.granit_content.proofs.ScalarLemmas.{block_items}
use Rattle.granit_content.proofs.scalars.block_lexeme.Goals as goal

pub returns-clause-here : goal.returns-clause-here
returns-clause-here g c = λ h k.
    let o = options_of c.args.options.now in
    let begun = c.start_of-start.ensures h k in
    let told = c.layout-layout.ensures ∙ ap (λ (n : ℕ). layout_asking o.emit_comments
    (layout_of o n c.args.layouts.now))
    (c.col.ensures ∙ ap (λ (m : Mark). m.place.column) (sym begun.0)) in
    let read = rw c.in_ok-read.ensures at (c.scan_block_scalar.ensures.here h k) in
    let is = ap (λ (at : LayoutData). block_lexed_at at c.args.literal h) (sym told) ∙ read.2 in
    let lexeme = c.shown_lexeme.ensures h begun
    ∙ ap (λ (t : Option CommentRead). shown_as c.args.ends c.in_ok-read.read.token t h c.args.layouts.now)
    c.in_ok-tail.ensures.kept in (
      record { here = read.0; laid = c.count_lexeme.new.self },
      (read.1, refl),
      rw (lexeme, c.count_lexeme.ensures, c.unroll.ensures)
          (block_items o o.emit_comments c.args.ends h c.args.layouts.now c.in_ok-read.read read.0 c.args.literal is),
    )
