use Rattle.granit_lines.proofs.usual.put_sequence.Goals as goal

pub returns-in-Block-clause-put : goal.returns-in-Block-clause-put
returns-in-Block-clause-put c = rw c.in-Block.is c.put_word.ensures.put

pub returns-in-Flow-clause-put : goal.returns-in-Flow-clause-put
returns-in-Flow-clause-put c = rw c.in-Flow.is c.put_word-in-Flow.ensures.put
