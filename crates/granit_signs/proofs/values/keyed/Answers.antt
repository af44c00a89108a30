use Rattle.std.proofs.Common.{refl}
use Rattle.granit_signs.proofs.values.keyed.Goals as goal

pub returns : goal.returns
returns c = λ after. rw (c.put_key.ensures, c.count_lexeme.ensures, c.forget_key.ensures) refl
