use Rattle.std.proofs.Common.{◌≡◌, length, reverse}
use Rattle.granit_machine.specs.NodeEnds.{under_column}
use Rattle.granit_nesting.specs.FrameViews.{frames_view}
use Rattle.granit_nesting.proofs.frames.innermost_column.Given as goal

abbrev pub invariant-frames : goal.invariant-frames
invariant-frames l = under_column (frames_view (reverse l.rest)) ≡ under_column (frames_view (reverse l.fn.frames))

abbrev pub decreases-frames : goal.decreases-frames
decreases-frames l = length l.rest
