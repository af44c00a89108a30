use Rattle.granit_cursor.proofs.MoveLemmas.{cleared}
use Rattle.granit_plain.proofs.PlainLemmas.{none_held}
use Rattle.granit_plain.proofs.plain.no_parts.Goals as goal

pub returns : goal.returns
returns c = none_held _ _ c.args.end c.args.on_new_line (cleared c.new.result c.new.ensures.bytes)
    (cleared c.new-2.result c.new-2.ensures.bytes)
