use Rattle.granit_restart.proofs.TurnwiseLaws.{skip_document, skip_stream}
use Rattle.granit_restart.proofs.turns.skipping_ends_where_an_end_waits.Goals as goal

pub returns-clause-document : goal.returns-clause-document
returns-clause-document c = skip_document

pub returns-clause-stream : goal.returns-clause-stream
returns-clause-stream c = skip_stream
