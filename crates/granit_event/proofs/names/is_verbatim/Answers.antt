use Rattle.std.proofs.Common.{not, sym, ap, ◌∙◌}
use Rattle.std.specs.Str.{chars}
use Rattle.granit_event.proofs.NameLemmas.{not_verbatim, may_be_verbatim}
use Rattle.granit_event.proofs.names.is_verbatim.Goals as goal

pub returns-then-same_text : goal.returns-then-same_text
unfolding chars
returns-then-same_text c = may_be_verbatim _ _ _ (sym c.same_text.ensures ∙ c.if-same_text.true)
    (ap not c.same_text-then-same_text.ensures)

pub returns-else-same_text : goal.returns-else-same_text
unfolding chars
returns-else-same_text c = not_verbatim _ _ _ (sym c.same_text.ensures ∙ c.if-same_text.false) c.same_text.ensures
