use Rattle.granit_buffered.proofs.buffered.ReadAheadInput.raw_read_ch.Goals as goal

pub returns-clause-read : goal.returns-clause-read
returns-clause-read g c = λ u k.
    let look = c.lookahead.ensures.unread u k in
    (c.skip.ensures.unread u look, c.peek-c.ensures.value u look)
