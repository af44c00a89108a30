use Rattle.std.proofs.Common.{◌≡◌, ◌∙◌, ℕ, true, false, sym, ap, subst}
use Rattle.granit_base.specs.Place.{Mark}
use Rattle.granit_error.specs.OptionsView.{options_of}
use Rattle.granit_machine.specs.Columns.{closed_at}
use Rattle.granit_machine.specs.Laid.{Laid}
use Rattle.granit_machine.specs.Reader.{lexeme_by}
use Rattle.granit_reader.specs.SortViews.{placed_view}
use Rattle.granit_reader.specs.WithoutMemory.{placed_takes_none}
use Rattle.granit_reader.proofs.ReadLemmas.{found_alone}
use Rattle.granit_refused.specs.Answered.{answered}
use Rattle.granit_reader.proofs.read.lexeme_by.Goals as goal

pub returns-in-TextEnd-clause-here : goal.returns-in-TextEnd-clause-here
unfolding lexeme_by
returns-in-TextEnd-clause-here g c = λ h k.
    let read = c.text_end.ensures.here h k in
    rw c.in-TextEnd.is (found_alone _ c.text_end.new.found _ (answered c.text_end.new.fault c.text_end.result) _ _
    c.requires.filled
    c.requires.no_note read)

pub returns-in-StartMark-clause-here : goal.returns-in-StartMark-clause-here
unfolding lexeme_by
returns-in-StartMark-clause-here g c = λ h k.
    let read = c.document_start.ensures.here h k in
    rw c.in-StartMark.is (found_alone _ c.document_start.new.found _
    (answered c.document_start.new.fault c.document_start.result) _ _ c.requires.filled
    c.requires.no_note read)

pub returns-in-EndMark-clause-here : goal.returns-in-EndMark-clause-here
unfolding lexeme_by
returns-in-EndMark-clause-here g c = λ h k.
    let read = c.document_end.ensures.here h k in
    rw c.in-EndMark.is (found_alone _ c.document_end.new.found _
    (answered c.document_end.new.fault c.document_end.result) _ _ c.requires.filled
    c.requires.no_note read)

pub returns-in-DirectiveSign-clause-here : goal.returns-in-DirectiveSign-clause-here
unfolding lexeme_by
returns-in-DirectiveSign-clause-here g c = λ h k.
    let read = c.directive.ensures.here h k in
    rw c.in-DirectiveSign.is (found_alone _ c.directive.new.found _ (answered c.directive.new.fault c.directive.result)
    _ _ c.requires.filled
    c.requires.no_note read)

-- ---- memory

pub returns-in-EndMark-clause-memory : goal.returns-in-EndMark-clause-memory
returns-in-EndMark-clause-memory g c = λ unasked h k none. c.document_end.ensures.memory unasked

pub returns-in-DirectiveSign-clause-memory : goal.returns-in-DirectiveSign-clause-memory
returns-in-DirectiveSign-clause-memory g c = λ unasked h k none.
    let some : false ≡ true = rw c.in-DirectiveSign.is at none in absurd cc

pub returns-in-Placed-clause-memory : goal.returns-in-Placed-clause-memory
returns-in-Placed-clause-memory g c = λ unasked h k none.
    let column : c.col-column.result ≡ h.place.column = c.col-column.ensures
    ∙ ap (λ (m : Mark). m.place.column) (c.mark.ensures.here h k) in
    let closed = c.close_at.ensures ∙ ap (λ (n : ℕ). closed_at n c.args.layouts.now) column in
    c.lexeme_in_column.ensures.memory unasked h k (subst (λ (l : Laid).
    placed_takes_none (options_of c.args.options.now) (placed_view c.in-Placed.sort) h l ≡ true) (sym closed)
    (rw c.in-Placed.is at none))
