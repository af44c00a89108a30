use Rattle.granit_json.proofs.Laws.{json_answered}
use Rattle.granit_json.proofs.readings.json_is_read.Goals as goal

pub returns : goal.returns
returns c = json_answered
