-- The test of fairness decides.
use Rattle.std.proofs.Common.{◌≡◌, Bool, true, false, ◌||◌, not, List, [], ◌∷◌, refl}
use Rattle.std.proofs.lemmas.Bool.{and_parts, not-true}
use Rattle.granit_language.specs.Room.{Room, RightOf, ValueIn, KeyIn, BehindKey, ItemIn, Inside, behind_property}
use Rattle.granit_language.specs.Scope.{Scope}
use Rattle.granit_language.specs.Scoping.{next_scope}
use Rattle.granit_language.specs.Terminal.{Terminal, text_start}
use Rattle.granit_event_machine.specs.EventMachine.{Key, KeyDone, Done, Value, OpenFrame, DocumentFrame}
use Rattle.granit_event_machine.specs.EventMachine.{PropertiesFrame}
use Rattle.granit_event_machine.specs.EventMachine.{SequenceFrame, MappingFrame, FlowSequenceFrame, FlowMappingFrame}
use Rattle.granit_event_machine.specs.EventMachine.{FlowPairFrame, EventState, IsFresh, HasDirectives, IsRooted}
use Rattle.granit_event_machine.specs.EventMachine.{InFrames}
use Rattle.granit_event_machine.specs.EventMachine.{IsEnded, EventStep, GoesTo, StopsWith, ended_by, frames_room}
use Rattle.granit_event_machine.specs.EventMachine.{put_frames}
use Rattle.granit_views.specs.Fair.{FairBehind, FairMade, FairIn, FairAt, FairFinish, Fair, frames_below}
use Rattle.granit_agreement.specs.FairTest.{same_test, fair_behind, fair_made, fair_in, fair_at, fair_finish, fair_step}
use Rattle.granit_agreement.specs.FairTest.{fair_next, fair_run}
use Rattle.granit_views.specs.Running.{FairNext, FairRun}
use Rattle.granit_views.specs.Stepping.{taken}
use Rattle.granit_language.specs.Seen.{Flagged, terminal_of}

is_same : (a b : Bool) → same_test a b ≡ true → a ≡ b
is_same true true e = refl
is_same true false e = cc (e)
is_same false false e = refl
is_same false true e = cc (e)

or_then : (a b : Bool) → (not a || b) ≡ true → a ≡ true → b ≡ true
or_then true b e h = e
or_then false b e h = cc (h)

behind_fair : (room : Room) (x : Terminal) → fair_behind room x ≡ true → FairBehind room x
behind_fair (BehindKey c) x e = not-true _ e
behind_fair Inside x e = (not-true _ (and_parts _ _ e).0, not-true _ (and_parts _ _ e).1)
behind_fair (RightOf n) x e = tt
behind_fair (ValueIn c) x e = tt
behind_fair (KeyIn h f) x e = tt
behind_fair ItemIn x e = tt

made_fair : (single : Bool) (x : Terminal) → fair_made single x ≡ true → FairMade single x
made_fair true x e = not-true _ e
made_fair false x e = tt

in_fair : (x : Terminal) (fs : List OpenFrame) → fair_in x fs ≡ true → FairIn x fs
in_fair x [] e = tt
in_fair x (DocumentFrame m ∷ fs) e = tt
in_fair x (PropertiesFrame p ∷ fs) e =
    (is_same _ _ (and_parts _ _ e).0, behind_fair (behind_property (frames_room fs)) x (and_parts _ _ e).1)
in_fair x (SequenceFrame loose c w ∷ fs) e = tt
in_fair x (MappingFrame c Key ∷ fs) e = cc (e)
in_fair x (MappingFrame c KeyDone ∷ fs) e = not-true _ e
in_fair x (MappingFrame c at ∷ fs) e = tt
in_fair x (FlowSequenceFrame d ∷ fs) e = tt
in_fair x (FlowMappingFrame single Key ∷ fs) e = cc (e)
in_fair x (FlowMappingFrame single (Value w) ∷ fs) e = made_fair single x e
in_fair x (FlowMappingFrame single Done ∷ fs) e = made_fair single x e
in_fair x (FlowMappingFrame single at ∷ fs) e = tt
in_fair x (FlowPairFrame at ∷ fs) e = tt

at_fair : (x : Terminal) (st : EventState) → fair_at x st ≡ true → FairAt x st
at_fair x (InFrames fs) e = in_fair x fs e
at_fair x IsEnded e = cc (e)
at_fair x IsFresh e = tt
at_fair x (HasDirectives v) e = tt
at_fair x (IsRooted m) e = tt

finish_fair : (x : Terminal) (fs : List OpenFrame) → fair_finish x fs ≡ true → FairFinish x fs
finish_fair x [] e = tt
finish_fair x (f ∷ fs) e = (
  at_fair x (put_frames text_start (f ∷ fs)) (and_parts _ _ e).0,
  λ t. finish_fair x fs (or_then _ _ (and_parts (fair_at x (put_frames text_start (f ∷ fs))) _ e).1 t),
)

pub step_fair : (x : Terminal) (st : EventState) → fair_step x st ≡ true → Fair x st
step_fair x st e = (
  at_fair x st (and_parts _ _ e).0,
  λ t. finish_fair x (frames_below st) (or_then _ _ (and_parts (fair_at x st) _ e).1 t),
)

next_fair :
    (y : EventStep) (on : EventState → Bool) (Then : EventState → Type 0) →
    ((st : EventState) → on st ≡ true → Then st) →
    fair_next y on ≡ true → FairNext y Then
next_fair (GoesTo st es) on Then h e = h st e
next_fair (StopsWith k) on Then h e = tt

pub run_fair : (fs : List Flagged) (s : Scope) (st : EventState) → fair_run fs s st ≡ true → FairRun fs s st
run_fair [] s st e = tt
run_fair (f ∷ fs) s st e =
    let x = terminal_of f.1 s f.0 in (
      step_fair x st (and_parts _ _ e).0,
      next_fair (taken (ended_by x st) x) (λ st. fair_run fs (next_scope x.kind s) st)
          (λ st. FairRun fs (next_scope x.kind s) st) (λ st h. run_fair fs (next_scope x.kind s) st h)
          (and_parts (fair_step x st) _ e).1,
    )
