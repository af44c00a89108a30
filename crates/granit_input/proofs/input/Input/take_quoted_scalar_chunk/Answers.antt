use Rattle.std.proofs.Common.{refl}
use Rattle.std.specs.Str.{chars}
use Rattle.granit_input.proofs.QuotedLemmas.{takes_wider}
use Rattle.granit_input.proofs.input.Input.take_quoted_scalar_chunk.Goals as goal

pub returns : goal.returns
returns g c =
    let taken = c.take_quoted_scalar_ascii_chunk in
    let rested = taken.follows.holds-at-none in (
      (
        refl,
        λ _. tt,
        (
          λ u k. takes_wider c.args.single u (chars taken.result.0.now)
              (g.Self.Input.unread taken.follows.lender-at-none) (rested.0 u k),
          rested.1,
          rested.2,
          rested.3,
        ),
      ),
      record { rests = tt; count = taken.ensures.count },
    )
