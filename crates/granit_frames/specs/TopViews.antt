-- The innermost unfinished node, as the machine's parser has it.
use Rattle.std.specs.Prelude.{List, [], ◌∷◌, reverse}
use Rattle.granit_machine.specs.Frames as spec
use Rattle.granit_frames.specs.declared.state.Top.{Top}
use Rattle.granit_frames.specs.declared.state.Top.TheVariants as tops
use Rattle.granit_nesting.specs.FrameViews.{frame_view, frames_view}
use Rattle.granit_node_properties.specs.PropertyViews.{properties_view}

abbrev pub top_view : Top → List spec.Frame
top_view tops.Outside = []
top_view (tops.Properties q around) = spec.WithProperties (properties_view q.now) ∷ frames_view around.now
top_view (tops.In frame around) = frame_view frame ∷ frames_view (reverse around.now)
