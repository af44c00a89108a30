use Rattle.std.proofs.Common.{sym, subst}
use Rattle.std.proofs.lemmas.Result.{err_from_is_err_and}
use Rattle.granit_cursor.specs.Reading.{GivesTo}
use Rattle.granit_error.specs.OptionsView.{options_of}
use Rattle.granit_machine.specs.NodeLexemes.{quoted_lexeme}
use Rattle.granit_machine.specs.ReaderState.{Read}
use Rattle.granit_items.specs.ItemViews.{alone}
use Rattle.granit_content.specs.Reads.{IsAt, found_in}
use Rattle.granit_content.proofs.QuotedGapLemmas.{gap_behind, gap_unreached}
use Rattle.granit_refused.specs.Answered.{answered, why}
use Rattle.granit_content.proofs.scalars.quoted_and_gap.Goals as goal

pub returns-in_err-quoted_lexeme-clause-here : goal.returns-in_err-quoted_lexeme-clause-here
returns-in_err-quoted_lexeme-clause-here g c = λ h k.
    let p = err_from_is_err_and c.from_residual.result c.from_residual.ensures.1 in
    let o = options_of c.args.options.now in
    rw (p.1, p.2) (gap_unreached o.emit_comments o (quoted_lexeme o c.args.single c.args.ends h c.args.layouts.now)
    (why c.quoted_lexeme.new.fault c.in_err-quoted_lexeme.field-0.0) (c.in_err-quoted_lexeme.ensures.here h k))

pub returns-clause-here : goal.returns-clause-here
returns-clause-here g c = λ h k.
    let o = options_of c.args.options.now in
    let read = c.in_ok-quoted_lexeme.ensures.here h k in
    let is = gap_behind o.emit_comments o (quoted_lexeme o c.args.single c.args.ends h c.args.layouts.now)
    (alone c.quoted_lexeme.new.found) read.0 c.quoted_lexeme.new.layouts read.1.1 read.2 in
    subst (λ (r : Read). GivesTo (found_in c.with_gap.new.found) (answered c.with_gap.new.fault c.with_gap.result)
    (IsAt g.T.Input.unread c.with_gap.new.at c.with_gap.new.layouts) r) (sym is)
    (c.with_gap.ensures.here read.0.here read.1.0)
