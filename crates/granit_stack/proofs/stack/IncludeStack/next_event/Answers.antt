use Rattle.granit_stack.proofs.stack.IncludeStack.next_event.Goals as goal

pub returns-clause-step : goal.returns-clause-step
returns-clause-step g c = rw (← c.self.view_is) c.next_event.ensures
