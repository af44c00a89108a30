use Rattle.granit_behind.proofs.BoundaryTells.{boundary_tells}
use Rattle.granit_behind.proofs.behind.the_text_behind_a_boundary_is_read_as_its_own.Goals as goal

pub returns : goal.returns
returns c = λ o s h some stays. boundary_tells o s stays h some
