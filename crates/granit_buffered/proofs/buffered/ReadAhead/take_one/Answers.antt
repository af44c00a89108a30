use Rattle.granit_buffered.proofs.buffered.ReadAhead.take_one.Goals as goal

pub returns-in-None-clause-read : goal.returns-in-None-clause-read
returns-in-None-clause-read g c = λ u k.
    let sure = c.in-None.ensures.read u k in c.take_asked.ensures.read u sure.1 sure.0
