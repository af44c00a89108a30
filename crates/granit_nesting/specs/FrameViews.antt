-- Unfinished nodes, as the machine has them.
use Rattle.std.specs.Prelude.{List, [], ◌∷◌, map, reverse, Option, Some, None}
use Rattle.std.specs.Borrow.{Bor}
use Rattle.granit_machine.specs.Frames as spec
use Rattle.granit_nesting.specs.declared.frames.PairStage.{PairStage}
use Rattle.granit_nesting.specs.declared.frames.PairStage.TheVariants as stages
use Rattle.granit_nesting.specs.declared.frames.Frame.{Frame}
use Rattle.granit_nesting.specs.declared.frames.Frame.TheVariants as frames

abbrev pub pair_view : PairStage → spec.PairStage
pair_view stages.BeforePair = spec.BeforePair
pair_view stages.AtKey = spec.AtKey
pair_view stages.BehindKey = spec.BehindKey
pair_view stages.AtQuestion = spec.AtQuestion
pair_view stages.BehindQuestion = spec.BehindQuestion
pair_view stages.AtValue = spec.AtValue
pair_view stages.BehindAlone = spec.BehindAlone
pair_view stages.BehindPair = spec.BehindPair

abbrev pub frame_view : Frame → spec.Frame
frame_view (frames.Root explicit) = spec.Root explicit
frame_view (frames.BlockSequence column indentless) = spec.BlockSequence column indentless
frame_view (frames.BlockMapping column stage) = spec.BlockMapping column (pair_view stage)
frame_view (frames.FlowSequence behind_entry) = spec.FlowSequence behind_entry
frame_view (frames.FlowMapping single stage) = spec.FlowMapping single (pair_view stage)
frame_view (frames.FlowPair stage) = spec.FlowPair (pair_view stage)

abbrev pub frames_view : List Frame → List spec.Frame
frames_view fs = map frame_view fs

-- a frame and those around it, the innermost last
abbrev pub split_view : Option (Frame × Bor (List Frame)) → List Frame
split_view None = []
split_view (Some s) = s.0 ∷ reverse s.1.now
