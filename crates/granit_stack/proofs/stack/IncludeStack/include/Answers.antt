use Rattle.std.proofs.Common.{ap, ◌∙◌, inr}
use Rattle.granit_stack.proofs.ReadLemmas.{fails_alike, number_kept}
use Rattle.granit_stack.specs.Stacked.{Stacked}
use Rattle.granit_stack.proofs.stack.IncludeStack.include.Goals as goal

pub returns-in-Err-read_events-clause-included : goal.returns-in-Err-read_events-clause-included
returns-in-Err-read_events-clause-included g c =
    let same = c.resolved.ensures.same in
    let layers = ap (λ (s : Stacked _ _). s.stack.layers) same in
    let options = ap (λ (s : Stacked _ _). s.options) c.self.view_is ∙ ap (λ (s : Stacked _ _). s.options) same in
    let fails = fails_alike _ _ _ _ c.in-Ok.text c.in-Err-read_events.error options
    (number_kept _ _ _ _ c.number_above.ensures layers) in
    let failed = c.in-Err-read_events.ensures.0 in
    (layers, inr (c.in-Ok.text, c.in-Ok.ensures.resolves, ((λ never. fails (failed never)), tt, tt)))
