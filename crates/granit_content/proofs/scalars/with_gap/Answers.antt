use Rattle.std.proofs.Common.{refl, ap, ◌∙◌}
use Rattle.granit_lexemes.specs.declared.layout.LastLexeme.{LastLexeme}
use Rattle.granit_items.specs.ItemViews.{filled_items}
use Rattle.granit_content.specs.Reads.{tail_view}
use Rattle.granit_content.proofs.QuotedGapLemmas.{seen_given}
use Rattle.granit_content.proofs.scalars.with_gap.Goals as goal

pub returns-clause-here : goal.returns-clause-here
returns-clause-here g c = λ h k.
    let gap = c.in_ok-tail.ensures.here h k in
    let left = c.set_last.ensures ∙ ap (λ (t : LastLexeme). record c.gap.new.layouts { last = t })
    c.behind_tail.ensures in (
      record { here = gap.0.here; laid = c.set_last.new.self },
      (gap.1.0, refl),
      rw gap.2 (seen_given (filled_items c.args.found.now.filled c.args.found.now.lexeme.value)
          (tail_view c.in_ok-tail.tail) c.into_note.result gap.0 c.gap.new.layouts c.set_last.new.self
          c.into_note.ensures gap.1.1 left),
    )
