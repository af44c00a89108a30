-- The same as a test, which decides for a list whether it is fair.
use Rattle.std.specs.Prelude.{Bool, true, false, ◌&&◌, ◌||◌, not, List, [], ◌∷◌}
use Rattle.granit_language.specs.Reading.{begins_kind}
use Rattle.granit_language.specs.Room.{Room, BehindKey, Inside, behind_property}
use Rattle.granit_language.specs.Scope.{Scope}
use Rattle.granit_language.specs.Scoping.{next_scope}
use Rattle.granit_language.specs.Terminal.{Terminal, is_dash_kind, closes_kind, stands_left, text_start}
use Rattle.granit_lexemes.specs.declared.layout.Bracket.TheVariants.{Curly}
use Rattle.granit_event_machine.specs.EventMachine.{Key, KeyDone, Done, Value, OpenFrame, PropertiesFrame, MappingFrame}
use Rattle.granit_event_machine.specs.EventMachine.{FlowMappingFrame, EventState, InFrames, IsEnded, EventStep, GoesTo}
use Rattle.granit_event_machine.specs.EventMachine.{StopsWith, ended_by, frames_room, put_frames}
use Rattle.granit_views.specs.Fair.{frames_in_flow, is_key_part, frame_ends_at, frames_below}
use Rattle.granit_views.specs.Stepping.{taken}
use Rattle.granit_language.specs.Seen.{Flagged, terminal_of}

abbrev pub same_test : Bool → Bool → Bool
same_test true b = b
same_test false b = not b

abbrev pub fair_behind : Room → Terminal → Bool
fair_behind (BehindKey c) x = not (begins_kind x.kind x.at.begins_key)
fair_behind Inside x = not (is_key_part x.kind x.at.begins_key) && not (is_dash_kind x.kind)
fair_behind room x = true

abbrev pub fair_made : Bool → Terminal → Bool
fair_made true x = not (closes_kind Curly x.kind)
fair_made false x = true

abbrev pub fair_in : Terminal → List OpenFrame → Bool
fair_in x (PropertiesFrame p ∷ fs) =
    same_test x.at.in_flow (frames_in_flow fs) && fair_behind (behind_property (frames_room fs)) x
fair_in x (MappingFrame c Key ∷ fs) = false
fair_in x (MappingFrame c KeyDone ∷ fs) = not (stands_left x c)
fair_in x (FlowMappingFrame single Key ∷ fs) = false
fair_in x (FlowMappingFrame single (Value w) ∷ fs) = fair_made single x
fair_in x (FlowMappingFrame single Done ∷ fs) = fair_made single x
fair_in x fs = true

abbrev pub fair_at : Terminal → EventState → Bool
fair_at x (InFrames fs) = fair_in x fs
fair_at x IsEnded = false
fair_at x st = true

abbrev pub fair_finish : Terminal → List OpenFrame → Bool
fair_finish x [] = true
fair_finish x (f ∷ fs) =
    fair_at x (put_frames text_start (f ∷ fs))
    && (not (frame_ends_at x (put_frames text_start (f ∷ fs))) || fair_finish x fs)

abbrev pub fair_step : Terminal → EventState → Bool
fair_step x st = fair_at x st && (not (frame_ends_at x st) || fair_finish x (frames_below st))

abbrev pub fair_next : EventStep → (EventState → Bool) → Bool
fair_next (GoesTo st es) on = on st
fair_next (StopsWith k) on = true

abbrev pub fair_run : List Flagged → Scope → EventState → Bool
fair_run [] s st = true
fair_run (f ∷ fs) s st =
    fair_step (terminal_of f.1 s f.0) st
    && fair_next (taken (ended_by (terminal_of f.1 s f.0) st) (terminal_of f.1 s f.0))
    (λ st. fair_run fs (next_scope (terminal_of f.1 s f.0).kind s) st)
