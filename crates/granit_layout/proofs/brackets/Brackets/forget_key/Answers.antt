use Rattle.granit_layout.proofs.brackets.Brackets.forget_key.Goals as goal

pub invariant_of-self : goal.invariant_of-self
invariant_of-self c = c.forget_innermost.ensures.rising c.self.invariant
