use Rattle.std.proofs.Common.{sym, ap, ◌∙◌}
use Rattle.std.specs.Str.{encode_utf8_all}
use Rattle.std.proofs.lemmas.Str.{encodes-chars}
use Rattle.granit_base.proofs.text.TextHash.hash.Goals as goal

pub returns : goal.returns
returns g c =
    let spelled = sym (encodes-chars c.as_str.result.now c.as_str.utf8) ∙ ap encode_utf8_all c.as_str.ensures in
    rw (← spelled) c.hash.ensures
