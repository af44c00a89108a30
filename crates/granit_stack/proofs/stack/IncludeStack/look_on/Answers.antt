use Rattle.granit_stack.proofs.stack.IncludeStack.look_on.Goals as goal

pub returns-clause-looks : goal.returns-clause-looks
returns-clause-looks g c = rw (← c.self.view_is) c.look_on.ensures
