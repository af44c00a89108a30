use Rattle.std.proofs.Common.{refl}
use Rattle.granit_buffered.specs.Fallible.{characters_of}
use Rattle.granit_sourced.proofs.opening.open_fallible.Goals as goal
use Rattle.granit_sourced.specs.Opening.{bare_text_start}

pub returns-clause-start : goal.returns-clause-start
returns-clause-start g c = λ items known.
    c.new-2.ensures.start (bare_text_start (characters_of items)) (c.in_ok-input.ensures.read items known) refl refl
    refl

pub returns-clause-ends : goal.returns-clause-ends
returns-clause-ends g c = λ items known. rw c.new-2.ensures.input (c.in_ok-input.ensures.ends items known)

pub returns-clause-fresh : goal.returns-clause-fresh
returns-clause-fresh g c = rw c.new-2.ensures.input c.in_ok-input.ensures.fresh
