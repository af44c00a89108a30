use Rattle.granit_behind.proofs.TellsAnewLaws.{tells_anew}
use Rattle.granit_behind.proofs.behind.a_text_is_told_alike_behind_handles_declared_anew.Goals as goal

pub returns : goal.returns
returns c = λ o before text kept es f keeps declares gives. tells_anew o keeps before text kept es f declares gives
