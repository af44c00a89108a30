use Rattle.granit_json.proofs.Back.{one_telling, one_value}
use Rattle.granit_json.proofs.readings.a_text_is_one_value.Goals as goal

pub returns-clause-value : goal.returns-clause-value
returns-clause-value c = one_value

pub returns-clause-events : goal.returns-clause-events
returns-clause-events c = one_telling
