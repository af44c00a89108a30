-- What the code's parser keeps, as the machine's parser has it.
pub use Rattle.granit_node_properties.specs.PropertyViews.{bears}
use Rattle.std.specs.Prelude.{ℕ, Bool, true, false, List, [], ◌∷◌, map, Option, Some, None}
use Rattle.std.specs.Option.{option_map}
use Rattle.std.specs.VecDeque.{deque_items}
use Rattle.granit_base.specs.Written.{Written}
use Rattle.granit_event.specs.Events.{plain_events, plain_version}
use Rattle.granit_machine.specs.Frames as spec
use Rattle.granit_nesting.specs.declared.frames.Frame.{Frame}
use Rattle.granit_nesting.specs.FrameViews.{frames_view}
use Rattle.granit_node_properties.specs.PropertyViews.{properties_view}
use Rattle.granit_node_properties.specs.declared.properties.NodeProperties.{NodeProperties}
use Rattle.granit_frames.specs.declared.state.DocumentStage.{DocumentStage}
use Rattle.granit_frames.specs.declared.state.DocumentStage.TheVariants as documents
use Rattle.granit_frames.specs.declared.state.Waiting.{Waiting}

-- the innermost first, and properties inside all frames
abbrev pub all_frames : Option NodeProperties → List Frame → List spec.Frame
all_frames None fs = frames_view fs
all_frames (Some q) fs = spec.WithProperties (properties_view q) ∷ frames_view fs

-- whether properties stand inside all frames
abbrev pub has_properties : List spec.Frame → Bool
has_properties (spec.WithProperties q ∷ fs) = true
has_properties fs = false

abbrev pub stage_view : DocumentStage → spec.DocumentStage
stage_view documents.Fresh = spec.Fresh
stage_view (documents.Directives version) = spec.Directives (option_map plain_version version)
stage_view documents.Inside = spec.Inside
stage_view documents.BehindRoot = spec.BehindRoot
stage_view documents.Between = spec.Between

abbrev pub name_view : Written × ℕ → List ℕ × ℕ
name_view e = (e.0.characters, e.1)

abbrev pub names_view : List (Written × ℕ) → List (List ℕ × ℕ)
names_view es = map name_view es

abbrev pub handle_view : Written × Written → List ℕ × List ℕ
handle_view e = (e.0.characters, e.1.characters)

abbrev pub handles_view : List (Written × Written) → List (List ℕ × List ℕ)
handles_view es = map handle_view es

-- comments that are held, where one is
abbrev pub held_items : {X : Type 0} → Option (List X) → List X
held_items None = []
held_items (Some held) = held

abbrev pub waiting_view : Waiting → spec.Waiting
waiting_view w = record { at = w.at; room = w.room; held = plain_events (held_items (option_map deque_items w.held)) }
