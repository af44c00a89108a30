use Rattle.std.proofs.Common.{◌≤◌, ◌++◌, ◌∷◌, ℕ, List, [], length, ap, sym, ◌∙◌, arith}
use Rattle.granit_buffered.proofs.HeldLemmas.{held_length, held_moved}
use Rattle.granit_buffered.proofs.held.Held.push_back_moved.Goals as goal

pub returns : goal.returns
returns c =
    let h = c.self.inside in
    let inv = c.self.invariant in
    let within : h.end ≤ length h.slots = omega (arith, inv.0, inv.2) in
    let len = sym (held_length h.slots h.start h.end within) ∙ ap length c.self.view_is in
    held_moved h.slots c.copy_within.new.self h.start h.end c.args.c inv.1 within
    (omega (arith, inv.0, len, c.requires)) c.copy_within.ensures.after
    ∙ ap (λ (held : List ℕ). held ++ c.args.c ∷ []) c.self.view_is
