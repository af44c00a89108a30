use Rattle.granit_nodes.proofs.nodes.open_flow.Goals as goal

pub returns-in-Square-clause-leaves : goal.returns-in-Square-clause-leaves
returns-in-Square-clause-leaves c =
    rw c.in-Square.is (rw (c.deref.ensures, c.deref-2.ensures) at c.begin.ensures.leaves)

pub returns-in-Curly-clause-leaves : goal.returns-in-Curly-clause-leaves
returns-in-Curly-clause-leaves c =
    rw c.in-Curly.is (rw (c.deref.ensures, c.deref-2.ensures) at c.begin-in-Curly.ensures.leaves)
