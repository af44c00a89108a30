use Rattle.std.proofs.Common.{rules, ◌-◌, refl, set, sym, subst, None}
use Rattle.granit_layout.specs.Rising.{Rising}
use Rattle.granit_layout.specs.declared.rising.KeyOrder.{KeyOrder}
use Rattle.granit_layout.proofs.ListLemmas.{keyed_last}
use Rattle.granit_layout.proofs.RisingLemmas.{forgotten}
use Rattle.granit_layout.proofs.brackets.forget_innermost.Goals as goal

pub returns-clause-key : goal.returns-clause-key
returns-clause-key c =
    keyed_last None c.args.brackets.now.items c.len-depth.result c.index_mut.result.now (search rules)
    c.if-depth-eq0.false c.index_mut.ensures.value

pub returns-clause-rising : goal.returns-clause-rising
returns-clause-rising c r =
    let innermost = c.len-depth.result - 1 in
    let after = record c.index_mut.result.now { key = None } in
    subst (λ (o : KeyOrder). Rising o (set c.args.brackets.now.items innermost after)) (sym c.end_at.ensures)
    (forgotten c.args.order.now c.args.brackets.now.items innermost after (search rules) refl r)
