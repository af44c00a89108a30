use Rattle.granit_lines.proofs.printing.push_event.Goals as goal

pub returns-in-SequenceStart : goal.returns-in-SequenceStart
returns-in-SequenceStart c = rw c.in-SequenceStart.is (rw c.sequence_words.ensures at c.push_start.ensures)

pub returns-in-SequenceEnd : goal.returns-in-SequenceEnd
returns-in-SequenceEnd c = rw c.in-SequenceEnd.is c.push_word-in-SequenceEnd.ensures

pub returns-in-MappingStart : goal.returns-in-MappingStart
returns-in-MappingStart c =
    rw c.in-MappingStart.is (rw c.mapping_words.ensures at c.push_start-in-MappingStart.ensures)
