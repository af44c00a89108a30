use Rattle.std.proofs.Common.{◌++◌, List, ℕ, ap, ◌∙◌, subst}
use Rattle.std.specs.Str.{IsUtf8, chars}
use Rattle.granit_base.specs.Written.{string_chars}
use Rattle.granit_properties.proofs.UriLemmas.{text_is}
use Rattle.granit_properties.proofs.uri.push_spelled.Goals as goal

pub returns-in_ok-push_text-in-Ok-clause-spells : goal.returns-in_ok-push_text-in-Ok-clause-spells
returns-in_ok-push_text-in-Ok-clause-spells c =
    let cases = c.in-Ok.ensures.cases in (
      text_is c.args.parts.now.bytes.items (subst IsUtf8 c.as_slice.ensures.value cases.1),
      c.in_ok-push_text-in-Ok.ensures.appended
          ∙ ap (λ (b : List ℕ). string_chars c.args.parts.now.value ++ chars b) (cases.0 ∙ c.as_slice.ensures.value),
    )
