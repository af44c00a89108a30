use Rattle.granit_runs.proofs.StringLemmas.{seam_before, before_chars}
use Rattle.granit_runs.proofs.cuts.before.Goals as goal

pub range-requires-clause-end_boundary : goal.range-requires-clause-end_boundary
range-requires-clause-end_boundary c = seam_before c.args.s.now c.args.rest.now c.requires.0 c.utf8.rest c.requires.1

pub returns : goal.returns
returns c = λ count bytes. before_chars c.args.s.now c.args.rest.now c.range.result.now count c.range.utf8 bytes
    c.range.ensures.value
