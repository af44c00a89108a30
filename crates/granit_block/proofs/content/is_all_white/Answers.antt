use Rattle.std.proofs.Common.{ap, ◌∙◌}
use Rattle.std.specs.Prelude.{is_none}
use Rattle.std.specs.Str.{chars}
use Rattle.granit_lexemes.specs.BlockScalar.{is_white}
use Rattle.granit_block.proofs.ContentLemmas.{none_of, none_found}
use Rattle.granit_block.proofs.content.is_all_white.Goals as goal

pub returns : goal.returns
returns c = none_of c.find_ink.result c.is_none.result c.is_none.ensures ∙ ap is_none c.find_ink.ensures
    ∙ none_found is_white (chars c.args.text.now)
