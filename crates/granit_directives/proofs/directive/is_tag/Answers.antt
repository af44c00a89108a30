use Rattle.std.proofs.Common.{ℕ, List, ap, ◌∙◌}
use Rattle.std.specs.Str.{chars}
use Rattle.granit_base.specs.Written.{same_text}
use Rattle.granit_directives.proofs.DirectiveLemmas.{tag_spelled}
use Rattle.granit_directives.proofs.directive.is_tag.Goals as goal

pub returns : goal.returns
returns c = c.is_name.ensures ∙ ap (λ (n : List ℕ). same_text (chars c.args.name.now) n) tag_spelled
