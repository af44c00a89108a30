use Rattle.std.specs.Prelude.{slice_index}
use Rattle.granit_reader.proofs.SortLemmas.{any_next}
use Rattle.granit_reader.proofs.sort.behind_indicator.Goals as goal

pub returns : goal.returns
returns g c = λ h k in_flow adjacent.
    any_next c.args.c 0x20 (slice_index h.unread.text 1) c.if-c-eq45.false c.if-c-eq63.false c.if-c-eq58.false
    in_flow adjacent
