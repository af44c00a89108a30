use Rattle.std.proofs.Common.{refl}
use Rattle.granit_machine.specs.Gaps.{over_break_if}
use Rattle.granit_content.specs.Reads.{tail_view}
use Rattle.granit_content.proofs.GapLemmas.{noted_given}
use Rattle.granit_content.proofs.gaps.noted_gap.Goals as goal

pub returns-clause-here : goal.returns-clause-here
returns-clause-here g c = λ h k.
    let note = c.in_ok-note.ensures.here h k in
    let on = c.over_break_if.ensures.here note.0 note.1 in (
      record { here = over_break_if note.0; laid = c.behind_note.new.self },
      (on, refl),
      rw c.behind_note.ensures
          (noted_given c.args.asked h c.args.layouts.now (tail_view c.in_ok-note.note) note.0 note.2),
    )
