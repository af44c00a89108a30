-- The states that the grammar's machine comes to.
use Rattle.std.specs.Prelude.{◌≡◌, ℕ, zero, suc, Bool, true, false, List, [], ◌∷◌, Option, Some, None}
use Rattle.granit_base.specs.Place.{Mark}
use Rattle.granit_event_machine.specs.EventMachine.{Opened, Key, KeyDone, Asking, AskDone, Solo, Done, Value, OpenFrame}
use Rattle.granit_event_machine.specs.EventMachine.{DocumentFrame, PropertiesFrame, SequenceFrame, MappingFrame}
use Rattle.granit_event_machine.specs.EventMachine.{FlowSequenceFrame, FlowMappingFrame, FlowPairFrame, EventState}
use Rattle.granit_event_machine.specs.EventMachine.{IsFresh}
use Rattle.granit_event_machine.specs.EventMachine.{HasDirectives, IsRooted, InFrames}
use Rattle.granit_language.specs.Node.{TreeProperties, NoProperties, One, Two}
use Rattle.granit_language.specs.Room.{differ}

abbrev pub IsPositive : ℕ → Type 0
IsPositive zero = ⊥
IsPositive (suc n) = Unit {0}

-- frames whose innermost one a node must stand in
pub data Holes : List OpenFrame → Type 0 where
  at_root : {m : Option Mark} → Holes (DocumentFrame m ∷ [])
  at_entry :
      {loose : Bool} {c : ℕ} {w : Mark} {fs : List OpenFrame} → IsPositive c → Holes fs →
      Holes (SequenceFrame loose c (Some w) ∷ fs)
  at_key : {c : ℕ} {fs : List OpenFrame} → IsPositive c → Holes fs → Holes (MappingFrame c Key ∷ fs)
  at_asked : {c : ℕ} {fs : List OpenFrame} → IsPositive c → Holes fs → Holes (MappingFrame c Asking ∷ fs)
  at_value : {c : ℕ} {w : Mark} {fs : List OpenFrame} → IsPositive c → Holes fs → Holes (MappingFrame c (Value w) ∷ fs)
  at_item : {fs : List OpenFrame} → Holes fs → Holes (FlowSequenceFrame false ∷ fs)
  at_curly : {fs : List OpenFrame} → Holes fs → Holes (FlowMappingFrame false Opened ∷ fs)
  curly_key : {fs : List OpenFrame} → Holes fs → Holes (FlowMappingFrame false Key ∷ fs)
  curly_asked : {fs : List OpenFrame} → Holes fs → Holes (FlowMappingFrame false Asking ∷ fs)
  curly_value : {w : Mark} {fs : List OpenFrame} → Holes fs → Holes (FlowMappingFrame false (Value w) ∷ fs)
  made_key : {fs : List OpenFrame} → Holes fs → Holes (FlowMappingFrame true Key ∷ FlowSequenceFrame false ∷ fs)
  made_value :
      {w : Mark} {fs : List OpenFrame} → Holes fs →
      Holes (FlowMappingFrame true (Value w) ∷ FlowSequenceFrame false ∷ fs)
  pair_asked : {fs : List OpenFrame} → Holes fs → Holes (FlowPairFrame Asking ∷ FlowSequenceFrame false ∷ fs)
  pair_value :
      {w : Mark} {fs : List OpenFrame} → Holes fs → Holes (FlowPairFrame (Value w) ∷ FlowSequenceFrame false ∷ fs)

abbrev pub GoodProperties : TreeProperties → Type 0
GoodProperties NoProperties = ⊥
GoodProperties (One k i) = Unit {0}
GoodProperties (Two k i m j) = differ k m ≡ true

pub data Good : EventState → Type 0 where
  is_fresh : Good IsFresh
  directed : {v : Option (ℕ × ℕ)} → Good (HasDirectives v)
  rooted : {e : Mark} → Good (IsRooted e)
  hole : {fs : List OpenFrame} → Holes fs → Good (InFrames fs)
  behind_properties :
      {p : TreeProperties} {fs : List OpenFrame} → GoodProperties p → Holes fs →
      Good (InFrames (PropertiesFrame p ∷ fs))
  past_entry :
      {loose : Bool} {c : ℕ} {fs : List OpenFrame} → IsPositive c → Holes fs →
      Good (InFrames (SequenceFrame loose c None ∷ fs))
  key_done : {c : ℕ} {fs : List OpenFrame} → IsPositive c → Holes fs → Good (InFrames (MappingFrame c KeyDone ∷ fs))
  ask_done : {c : ℕ} {fs : List OpenFrame} → IsPositive c → Holes fs → Good (InFrames (MappingFrame c AskDone ∷ fs))
  pair_done : {c : ℕ} {fs : List OpenFrame} → IsPositive c → Holes fs → Good (InFrames (MappingFrame c Done ∷ fs))
  item_done : {fs : List OpenFrame} → Holes fs → Good (InFrames (FlowSequenceFrame true ∷ fs))
  curly_key_done : {fs : List OpenFrame} → Holes fs → Good (InFrames (FlowMappingFrame false KeyDone ∷ fs))
  curly_ask_done : {fs : List OpenFrame} → Holes fs → Good (InFrames (FlowMappingFrame false AskDone ∷ fs))
  curly_solo : {fs : List OpenFrame} → Holes fs → Good (InFrames (FlowMappingFrame false Solo ∷ fs))
  curly_done : {fs : List OpenFrame} → Holes fs → Good (InFrames (FlowMappingFrame false Done ∷ fs))
  made_key_done :
      {fs : List OpenFrame} → Holes fs → Good (InFrames (FlowMappingFrame true KeyDone ∷ FlowSequenceFrame false ∷ fs))
  made_done :
      {fs : List OpenFrame} → Holes fs → Good (InFrames (FlowMappingFrame true Done ∷ FlowSequenceFrame false ∷ fs))
  square_ask_done :
      {fs : List OpenFrame} → Holes fs → Good (InFrames (FlowPairFrame AskDone ∷ FlowSequenceFrame false ∷ fs))
  square_done : {fs : List OpenFrame} → Holes fs → Good (InFrames (FlowPairFrame Done ∷ FlowSequenceFrame false ∷ fs))
