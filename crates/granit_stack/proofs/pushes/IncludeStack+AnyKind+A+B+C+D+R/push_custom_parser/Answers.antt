use Rattle.granit_stack.proofs.pushes.IncludeStack+AnyKind+A+B+C+D+R.push_custom_parser.Goals as goal

pub returns-clause-pushed : goal.returns-clause-pushed
returns-clause-pushed g c = rw (← c.self.view_is) c.push_third.ensures.pushed
