use Rattle.std.proofs.Common.{sym, ap, ◌∙◌}
use Rattle.std.specs.Str.{encode_utf8_all}
use Rattle.std.proofs.lemmas.Str.{encodes-chars}
use Rattle.granit_error.proofs.kind.ErrorKind.hash_message.Goals as goal

pub returns : goal.returns
returns g c =
    let spelled = sym (encodes-chars c.message.result.now c.message.utf8) ∙ ap encode_utf8_all c.message.ensures in
    rw (← spelled) c.hash.ensures
