use Rattle.std.proofs.Common.{refl}
use Rattle.granit_parser.proofs.InLemmas.{starts_in}
use Rattle.granit_parser.proofs.parser.Parser+BufferedInput+T.new_from_iter_with_options.Goals as goal
use Rattle.granit_parser.specs.Streams.{bare_text_start}

pub returns-in-Ok-clause-start : goal.returns-in-Ok-clause-start
returns-in-Ok-clause-start g c = λ x known. c.in-Ok.ensures.start x known

pub returns-in-Ok-clause-calls : goal.returns-in-Ok-clause-calls
returns-in-Ok-clause-calls g c = λ x known.
    starts_in _ _ (bare_text_start x) (c.in-Ok.ensures.start x known) refl refl refl
