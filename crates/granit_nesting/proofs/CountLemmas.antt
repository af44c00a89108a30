-- How many of the unfinished nodes are block collections.
use Rattle.std.proofs.Common.{◌≡◌, ◌≤◌, List, [], ◌∷◌, length, reverse, ◌∙◌, arith}
use Rattle.std.proofs.lemmas.List.{length-reverse, length-map}
use Rattle.granit_machine.specs.Frames as spec
use Rattle.granit_machine.specs.NodeEnds.{block_count}
use Rattle.granit_nesting.specs.declared.frames.Frame.{Frame}
use Rattle.granit_nesting.specs.FrameViews.{frame_view, frames_view}

counted_frames : (fs : List spec.Frame) → block_count fs ≤ length fs
counted_frames [] = omega arith
counted_frames (spec.Root explicit ∷ fs) = let more = counted_frames fs in omega arith
counted_frames (spec.WithProperties q ∷ fs) = let more = counted_frames fs in omega arith
counted_frames (spec.BlockSequence column indentless ∷ fs) = let more = counted_frames fs in omega arith
counted_frames (spec.BlockMapping column stage ∷ fs) = let more = counted_frames fs in omega arith
counted_frames (spec.FlowSequence behind_entry ∷ fs) = let more = counted_frames fs in omega arith
counted_frames (spec.FlowMapping single stage ∷ fs) = let more = counted_frames fs in omega arith
counted_frames (spec.FlowPair stage ∷ fs) = let more = counted_frames fs in omega arith

-- no more block collections than frames
pub blocks_fit : (fs : List Frame) → block_count (frames_view (reverse fs)) ≤ length fs
blocks_fit fs =
    let all : length (frames_view (reverse fs)) ≡ length fs = length-map (reverse fs) frame_view ∙ length-reverse fs in
    let some = counted_frames (frames_view (reverse fs)) in omega arith
