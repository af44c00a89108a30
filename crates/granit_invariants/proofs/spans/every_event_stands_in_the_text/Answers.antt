use Rattle.granit_invariants.proofs.SpanLaw.{events_in_text}
use Rattle.granit_invariants.proofs.spans.every_event_stands_in_the_text.Goals as goal

pub returns : goal.returns
returns c = events_in_text
