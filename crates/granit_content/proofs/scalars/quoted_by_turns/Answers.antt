use Rattle.std.proofs.Common.{sym, ◌∙◌}
use Rattle.granit_cursor.proofs.SourceLemmas.{not_found_lends}
use Rattle.granit_content.proofs.scalars.quoted_by_turns.Goals as goal

pub returns-in-None-clause-here : goal.returns-in-None-clause-here
returns-in-None-clause-here g c = λ h k sign. c.quoted_copied.ensures.here h k sign
    (not_found_lends (g.T.Input.left c.args.at.now.input) (g.T.Input.origin c.args.at.now.input)
    h.unread (g.met.T.Input.agrees c.args.at.now.input h.unread k.0)
    (sym c.in-None.is ∙ c.lending_offset.ensures h k))

pub returns-in-Some-clause-here : goal.returns-in-Some-clause-here
returns-in-Some-clause-here g c = λ h k sign. c.quoted_where_lent.ensures.here h k
