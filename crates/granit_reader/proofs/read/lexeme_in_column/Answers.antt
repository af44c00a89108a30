use Rattle.std.proofs.Common.{◌≡◌, ◌∙◌, ℕ, true, false, sym, ap, subst}
use Rattle.granit_base.specs.Place.{Mark}
use Rattle.granit_error.specs.OptionsView.{options_of}
use Rattle.granit_machine.specs.Laid.{Laid}
use Rattle.granit_machine.specs.Reader.{is_strict_outside}
use Rattle.granit_machine.specs.ReaderState.{Read}
use Rattle.granit_steps.specs.Steps.{incoming}
use Rattle.granit_cursor.specs.Reading.{GivesTo, coded}
use Rattle.granit_content.specs.Reads.{IsAt, found_in}
use Rattle.granit_reader.specs.SortViews.{placed_view}
use Rattle.granit_reader.specs.WithoutMemory.{placed_takes_none}
use Rattle.granit_reader.proofs.MemoryLemmas.{noded_takes_none}
use Rattle.granit_reader.proofs.ReadLemmas.{placed_read}
use Rattle.granit_refused.specs.Answered.{answered}
use Rattle.granit_reader.proofs.read.lexeme_in_column.Goals as goal

pub returns-clause-here : goal.returns-clause-here
returns-clause-here g c = λ h k.
    let o = options_of c.args.options.now in
    let column : c.col.result ≡ h.place.column = c.col.ensures
    ∙ ap (λ (m : Mark). m.place.column) (c.mark.ensures.here h k) in
    let inside : is_strict_outside o h.place.column c.args.layouts.now ≡ false =
    ap (λ (n : ℕ). is_strict_outside o n c.args.layouts.now) (sym column) ∙ sym c.is_strict_outside.ensures
    ∙ c.if-is_strict_outside.false in
    let is = placed_read o (placed_view c.args.sort) c.args.ends h c.args.layouts.now c.begin_node.new.layouts inside
    (c.begin_node.ensures.here h k) in
    subst (λ (r : Read). GivesTo (found_in c.lexeme_of.new.found) (answered c.lexeme_of.new.fault c.lexeme_of.result)
    (IsAt g.T.Input.unread c.lexeme_of.new.at c.lexeme_of.new.layouts) (coded (incoming o.emit_comments) r))
    (sym is) (c.lexeme_of.ensures.here h k)

pub returns-clause-memory : goal.returns-clause-memory
returns-clause-memory g c = λ unasked h k none.
    let o = options_of c.args.options.now in
    let sort = placed_view c.args.sort in
    c.lexeme_of.ensures.memory unasked h k (subst (λ (l : Laid). placed_takes_none o sort h l ≡ true)
    (sym (c.begin_node.ensures.here h k)) (noded_takes_none o sort h c.args.layouts.now none))
