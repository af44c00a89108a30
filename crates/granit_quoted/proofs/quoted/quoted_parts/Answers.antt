use Rattle.std.proofs.Common.{refl, arith}
use Rattle.granit_input.proofs.OriginLemmas.{goes_nowhere}
use Rattle.granit_quoted.proofs.quoted.quoted_parts.Goals as goal

pub turns-init : goal.turns-init
turns-init g c = record { told = λ h k. (h, k, refl); moves = (omega arith, goes_nowhere _, λ start before. before) }
