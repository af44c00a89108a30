use Rattle.granit_frame_columns.proofs.FramesLaw.{flags_before, frames_law}
use Rattle.granit_frame_columns.proofs.columns.open_columns_are_frames.Goals as goal

pub returns-clause-flags : goal.returns-clause-flags
returns-clause-flags c = flags_before

pub returns-clause-columns : goal.returns-clause-columns
returns-clause-columns c = frames_law
