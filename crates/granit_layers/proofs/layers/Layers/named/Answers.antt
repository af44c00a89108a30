use Rattle.std.proofs.Common.{◌∙◌, ap, rules, sym}
use Rattle.granit_layers.proofs.StackLemmas.{counted, named_alone, named_among, unnamed}
use Rattle.granit_layers.proofs.layers.Layers.named.Goals as goal
use Rattle.granit_layers.specs.Stacking.{names_of}

pub returns-then-is_empty : goal.returns-then-is_empty
returns-then-is_empty g c =
    rw (← c.self.view_is)
    (named_alone c.self.inside.top c.self.inside.below.items c.args.error c.is_empty.result
    (counted c.self.inside.below.items c.is_empty.result _ c.is_empty.ensures (search rules)) c.if-is_empty.true)

pub returns-in-Ok : goal.returns-in-Ok
returns-in-Ok g c =
    rw (← c.self.view_is)
    (named_among c.args.error c.with_source_stack.result c.self.inside.top c.self.inside.below.items c.is_empty.result
    c.in-Ok.names (counted c.self.inside.below.items c.is_empty.result _ c.is_empty.ensures (search rules))
    c.if-is_empty.false c.self.invariant.0 (c.in-Ok.ensures.names ∙ ap (λ p. names_of p.layers) (sym c.self.view_is))
    c.with_source_stack.ensures)

pub returns-in-Err : goal.returns-in-Err
returns-in-Err g c =
    rw (← c.self.view_is)
    (unnamed c.args.error c.from.result c.self.inside.top c.self.inside.below.items c.is_empty.result
    (counted c.self.inside.below.items c.is_empty.result _ c.is_empty.ensures (search rules)) c.if-is_empty.false
    c.self.invariant.0 (cc))
