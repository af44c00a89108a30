use Rattle.std.proofs.Common.{refl, ap, ◌∙◌}
use Rattle.std.specs.Str.{chars}
use Rattle.std.proofs.lemmas.Str.{chars-nil}
use Rattle.granit_generator.proofs.generator.letters.Goals as goal

pub loop-init : goal.loop-init
loop-init c = record { text = ap chars c.new-text.ensures.bytes ∙ chars-nil; draws = refl }
