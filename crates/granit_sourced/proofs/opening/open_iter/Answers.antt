use Rattle.std.proofs.Common.{refl}
use Rattle.granit_sourced.proofs.opening.open_iter.Goals as goal
use Rattle.granit_sourced.specs.Opening.{bare_text_start}

pub returns-clause-start : goal.returns-clause-start
returns-clause-start g c = λ x known.
    c.new-2.ensures.start (bare_text_start x) (c.in_ok-input.ensures.read x known) refl refl refl
