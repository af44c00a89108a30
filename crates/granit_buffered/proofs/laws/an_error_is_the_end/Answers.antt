use Rattle.granit_buffered.specs.FallibleLaws.{error_ends}
use Rattle.granit_buffered.proofs.laws.an_error_is_the_end.Goals as goal

pub returns : goal.returns
returns g c = λ s some. error_ends s.feed.progress some
