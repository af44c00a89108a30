use Rattle.std.proofs.Common.{◌≡◌, ◌∙◌, ap}
use Rattle.granit_layers.proofs.StackLemmas.{layers_kept}
use Rattle.granit_layers.proofs.pushes.Layers+AnyKind+A+B+C+D.push_third_with.Goals as goal

pub returns-in-Ok-clause-pushed : goal.returns-in-Ok-clause-pushed
returns-in-Ok-clause-pushed g c =
    let same : c.give_first.new.self.layers ≡ c.push_third.new.self.layers =
    ap (λ p. p.layers) c.give_first.ensures ∙ layers_kept c.push_third.new.self c.args.current in
    rw same c.in-Ok.ensures.pushed
