use Rattle.std.proofs.Common.{◌∙◌, Some, ap, sym}
use Rattle.granit_stack.proofs.ReadLemmas.{number_none, number_some}
use Rattle.granit_stack.proofs.stack.IncludeStack.number_above.Goals as goal

pub returns-then-is_empty : goal.returns-then-is_empty
returns-then-is_empty g c =
    rw (← c.self.view_is)
    (number_none _ c.self.inside.layers.layers (sym c.is_empty.ensures ∙ c.if-is_empty.true))

pub returns-else-is_empty : goal.returns-else-is_empty
returns-else-is_empty g c =
    rw (← c.self.view_is)
    (ap Some c.current_anchor_offset.ensures
    ∙ number_some _ c.self.inside.layers.layers (sym c.is_empty.ensures ∙ c.if-is_empty.false))
