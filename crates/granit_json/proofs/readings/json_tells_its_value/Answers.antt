use Rattle.granit_json.proofs.Telling.{text_told}
use Rattle.granit_json.proofs.readings.json_tells_its_value.Goals as goal

pub returns : goal.returns
returns c = text_told
