use Rattle.std.proofs.Common.{refl, [], ◌∷◌}
use Rattle.std.specs.Str.{chars}
use Rattle.granit_stack_tests.proofs.resolver.OneTextResolver.resolve.Goals as goal

pub returns-clause-answers : goal.returns-clause-answers
unfolding chars
returns-clause-answers c = (record { ref_ptr = _; now = 45 ∷ 32 ∷ 38 ∷ 97 ∷ 32 ∷ 98 ∷ 10 ∷ [] }, refl, refl)
