use Rattle.std.proofs.Common.{refl}
use Rattle.granit_buffered.specs.Fallible.{characters_of}
use Rattle.granit_parser.proofs.InLemmas.{starts_in}
use Rattle.granit_parser.proofs.parser.Parser+FallibleBufferedInput+T.new_from_fallible_iter_with_options.Goals as goal
use Rattle.granit_parser.specs.Streams.{bare_text_start}

pub returns-in-Ok-clause-start : goal.returns-in-Ok-clause-start
returns-in-Ok-clause-start g c = λ items known. c.in-Ok.ensures.start items known

pub returns-in-Ok-clause-calls : goal.returns-in-Ok-clause-calls
returns-in-Ok-clause-calls g c = λ items known.
    starts_in _ _ (bare_text_start (characters_of items)) (c.in-Ok.ensures.start items known) refl refl refl
