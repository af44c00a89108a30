use Rattle.std.proofs.Common.{length, ap, sym, ◌∙◌}
use Rattle.std.proofs.lemmas.Str.{encodes-chars}
use Rattle.std.specs.Str.{encode_utf8_all}
use Rattle.granit_base.specs.Written.{Written}
use Rattle.granit_events.proofs.counting.read_back.Goals as goal

pub returns-in-Ok-clause-bytes : goal.returns-in-Ok-clause-bytes
returns-in-Ok-clause-bytes c =
    let text = c.as_str-in-Ok.result.now in
    let characters = c.as_str-in-Ok.ensures ∙ ap (λ (t : Written). t.characters) c.in_ok-text.ensures.written in
    ap length (sym (encodes-chars text c.as_str-in-Ok.utf8) ∙ ap encode_utf8_all characters)
