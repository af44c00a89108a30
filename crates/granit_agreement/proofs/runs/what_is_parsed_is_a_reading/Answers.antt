use Rattle.granit_agreement.proofs.Parsed.{parsed_events, parsed_faults, readings_parsed}
use Rattle.granit_agreement.proofs.runs.what_is_parsed_is_a_reading.Goals as goal

pub returns-clause-events : goal.returns-clause-events
returns-clause-events c = parsed_events

pub returns-clause-faults : goal.returns-clause-faults
returns-clause-faults c = parsed_faults

pub returns-clause-readings : goal.returns-clause-readings
returns-clause-readings c = readings_parsed
