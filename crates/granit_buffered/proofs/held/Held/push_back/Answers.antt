use Rattle.std.proofs.Common.{◌++◌, ◌∷◌, ℕ, List, [], ap, ◌∙◌, arith}
use Rattle.granit_buffered.proofs.HeldLemmas.{held_more}
use Rattle.granit_buffered.proofs.held.Held.push_back.Goals as goal

pub returns : goal.returns
returns c =
    let h = c.self.inside in
    let inv = c.self.invariant in
    held_more h.slots h.start h.end c.args.c inv.1 (omega (arith, inv.0, inv.2))
    ∙ ap (λ (held : List ℕ). held ++ c.args.c ∷ []) c.self.view_is
