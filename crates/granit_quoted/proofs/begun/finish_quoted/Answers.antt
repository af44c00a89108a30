use Rattle.granit_cursor.proofs.MoveLemmas.{cleared}
use Rattle.granit_quoted.proofs.begun.finish_quoted.Goals as goal

pub returns-clause-here : goal.returns-clause-here
returns-clause-here g c = λ h k.
    let none = cleared c.new.result c.new.ensures.bytes in
    rw none at (c.read_parts.ensures.here h k)
