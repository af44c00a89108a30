use Rattle.granit_stack.proofs.stack.IncludeStack.load.Goals as goal

pub returns-clause-sent : goal.returns-clause-sent
returns-clause-sent g c = rw (← c.self.view_is) c.load.ensures.sent
