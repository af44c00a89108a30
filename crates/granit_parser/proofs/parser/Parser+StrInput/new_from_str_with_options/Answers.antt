use Rattle.std.proofs.Common.{refl}
use Rattle.std.specs.Str.{chars}
use Rattle.granit_lexemes.specs.Here.{start_of}
use Rattle.granit_parser.proofs.InLemmas.{starts_in}
use Rattle.granit_parser.proofs.parser.Parser+StrInput.new_from_str_with_options.Goals as goal

pub returns-clause-start : goal.returns-clause-start
returns-clause-start c = c.open_str.ensures.start

pub returns-clause-calls : goal.returns-clause-calls
returns-clause-calls c =
    starts_in _ _ (start_of (chars c.args.value.now)) c.open_str.ensures.start refl refl refl
