use Rattle.std.proofs.Common.{◌≡◌, Option, Some, None, Bor, refl, ap, ◌∙◌}
use Rattle.std.specs.Option.{option_copied, option_map}
use Rattle.granit_base.specs.Written.{Written}
use Rattle.granit_frames.proofs.EntryLemmas.{prefix_found}
use Rattle.granit_frames.proofs.names.prefix_of.Goals as goal

lent : (o : Option (Bor Written))
    → option_map (λ (t : Bor Written). t.now.characters) o
    ≡ option_map (λ (t : Written). t.characters) (option_copied o)
lent None = refl
lent (Some t) = refl

pub returns : goal.returns
returns c =
    lent c.get.result ∙ ap (option_map (λ (t : Written). t.characters)) c.get.ensures.value
    ∙ prefix_found c.args.handle.now c.args.handles.now.entries
