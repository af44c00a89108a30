use Rattle.std.proofs.Common.{false}
use Rattle.granit_cursor.proofs.MoveLemmas.{cleared}
use Rattle.granit_plain.proofs.PlainLemmas.{none_held}
use Rattle.granit_plain.proofs.plain.roomy_parts.Goals as goal

pub returns : goal.returns
returns c = none_held _ _ c.args.start false (cleared c.in_ok-value.value c.in_ok-value.ensures.bytes)
    (cleared c.new.result c.new.ensures.bytes)
