use Rattle.std.proofs.Common.{◌+◌, ◌<◌, sym, ap, ◌∙◌, subst}
use Rattle.granit_base.specs.Place.{first}
use Rattle.granit_runs.proofs.AsciiLemmas.{first_byte}
use Rattle.granit_runs.proofs.cuts.takes_byte.Goals as goal

pub returns-then-is_ascii-clause-takes : goal.returns-then-is_ascii-clause-takes
returns-then-is_ascii-clause-takes c = λ after held is utf8.
    c.takes_ascii.ensures.takes after held (λ space some low.
    let there = c.behind_space-next.ensures some in
    ap first (sym is) ∙ first_byte c.args.bytes.now (c.args.at + 1) there.0 (subst (λ n. n < 0x80) there.1 low) utf8
    ∙ sym there.1)
