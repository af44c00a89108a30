use Rattle.std.proofs.Common.{ap, ◌∙◌}
use Rattle.std.specs.String.{string_bytes}
use Rattle.std.specs.Str.{chars}
use Rattle.std.proofs.lemmas.Str.{IsUtf8-string_bytes, chars-append}
use Rattle.granit_base.proofs.chars.push_text.Goals as goal

pub returns-clause-appended : goal.returns-clause-appended
returns-clause-appended c =
    let s = c.args.out.now in
    ap chars c.in_ok-push_str.ensures.bytes ∙ chars-append (string_bytes s) c.args.text.now (IsUtf8-string_bytes s)
