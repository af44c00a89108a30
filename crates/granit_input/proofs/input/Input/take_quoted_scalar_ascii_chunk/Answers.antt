use Rattle.std.proofs.Common.{refl, sym, arith}
use Rattle.granit_runs.specs.Runs.{starts, is_quoted_ascii}
use Rattle.granit_input.proofs.OriginLemmas.{goes_nowhere}
use Rattle.granit_input.proofs.QuotedLemmas.{no_chars, takes_none}
use Rattle.granit_input.proofs.input.Input.take_quoted_scalar_ascii_chunk.Goals as goal

pub returns : goal.returns
returns g c = (
  (
    refl,
    λ _. tt,
    (
      λ u k. takes_none (starts (is_quoted_ascii c.args.single)) u (g.Self.Input.unread c.args.self.now) k,
      omega (arith, no_chars),
      omega (arith, no_chars),
      goes_nowhere _,
    ),
  ),
  record { rests = tt; count = sym no_chars },
)
