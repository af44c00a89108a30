use Rattle.granit_parser_laws.proofs.examples.steps_and_looks_tell_of_calls.Goals as goal

pub returns-clause-taken : goal.returns-clause-taken
returns-clause-taken g c = λ old new r steps calls. record {
  calls = calls.calls;
  closed = calls.closed;
  answered = steps.answered;
  options = steps.options;
  renumbered = steps.renumbered;
  peeked = steps.none;
  given = steps.given;
  seen = steps.seen;
  refused = steps.refused;
  over = steps.over;
  lost = calls.lost;
}

pub returns-clause-seen : goal.returns-clause-seen
returns-clause-seen g c = λ old new r peeks calls. record {
  calls = calls;
  answered = peeks.answered;
  options = peeks.options;
  renumbered = peeks.renumbered;
  shown = peeks.shown;
  seen = peeks.seen;
  refused = peeks.refused;
  over = peeks.over;
}
