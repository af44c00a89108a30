-- What the frames of the grammar's machine keep of the open brackets and of the simple key that is due.
use Rattle.std.proofs.Common.{◌≡◌, ℕ, Bool, true, false, List, [], ◌∷◌, Option, Some, None, refl, ◌∙◌}
use Rattle.granit_base.specs.Place.{Mark}
use Rattle.granit_views.specs.Fair.{frames_in_flow, FairBehind, FairFinish, Fair}
use Rattle.granit_event_machine.specs.EventMachine.{Opened, Key, KeyDone, Asking, AskDone, Solo, Done, Value, OpenFrame}
use Rattle.granit_event_machine.specs.EventMachine.{DocumentFrame, PropertiesFrame, SequenceFrame, MappingFrame}
use Rattle.granit_event_machine.specs.EventMachine.{FlowSequenceFrame, FlowMappingFrame, FlowPairFrame, EventState}
use Rattle.granit_event_machine.specs.EventMachine.{IsFresh}
use Rattle.granit_event_machine.specs.EventMachine.{HasDirectives, IsRooted, InFrames, frames_room, put_frames}
use Rattle.granit_language.specs.Node.{One, Two}
use Rattle.granit_language.specs.Room.{behind_property}
use Rattle.granit_language.specs.Terminal.{PropertyKind, TerminalKind, Close, At, Terminal, closes_kind}
use Rattle.granit_lexemes.specs.declared.layout.Bracket.{Bracket}
use Rattle.granit_lexemes.specs.declared.layout.Bracket.TheVariants.{Square, Curly}
use Rattle.granit_machine.specs.Laid.{is_nonempty}
use Rattle.granit_order.specs.Order.{closes_innermost, InOrder}

-- frames outside flow, none of them at a simple key, whose innermost one a node must stand in
pub data Blocks : List OpenFrame → Type 0 where
  block_root : {m : Option Mark} → Blocks (DocumentFrame m ∷ [])
  block_entry : {loose : Bool} {c : ℕ} {w : Mark} {fs : List OpenFrame} → Blocks fs
      → Blocks (SequenceFrame loose c (Some w) ∷ fs)
  block_asked : {c : ℕ} {fs : List OpenFrame} → Blocks fs → Blocks (MappingFrame c Asking ∷ fs)
  block_value : {c : ℕ} {w : Mark} {fs : List OpenFrame} → Blocks fs → Blocks (MappingFrame c (Value w) ∷ fs)

-- frames that a node stands in, with their open brackets, and the column that is due where it is of a simple key
pub data Encloses : List Bracket → Option ℕ → List OpenFrame → Type 0 where
  in_blocks : {due : Option ℕ} {fs : List OpenFrame} → Blocks fs → Encloses [] due fs
  in_key : {c : ℕ} {fs : List OpenFrame} → Blocks fs → Encloses [] (Some c) (MappingFrame c Key ∷ fs)
  in_item : {bs : List Bracket} {due : Option ℕ} {fs : List OpenFrame} → Encloses bs due fs
      → Encloses (Square ∷ bs) due (FlowSequenceFrame false ∷ fs)
  in_curly : {bs : List Bracket} {due : Option ℕ} {fs : List OpenFrame} → Encloses bs due fs
      → Encloses (Curly ∷ bs) due (FlowMappingFrame false Opened ∷ fs)
  in_curly_key : {bs : List Bracket} {due : Option ℕ} {fs : List OpenFrame} → Encloses bs due fs
      → Encloses (Curly ∷ bs) due (FlowMappingFrame false Key ∷ fs)
  in_curly_asked : {bs : List Bracket} {due : Option ℕ} {fs : List OpenFrame} → Encloses bs due fs
      → Encloses (Curly ∷ bs) due (FlowMappingFrame false Asking ∷ fs)
  in_curly_value : {w : Mark} {bs : List Bracket} {due : Option ℕ} {fs : List OpenFrame} → Encloses bs due fs
      → Encloses (Curly ∷ bs) due (FlowMappingFrame false (Value w) ∷ fs)
  in_made_key : {bs : List Bracket} {due : Option ℕ} {fs : List OpenFrame} → Encloses bs due fs
      → Encloses (Square ∷ bs) due (FlowMappingFrame true Key ∷ FlowSequenceFrame false ∷ fs)
  in_made_value : {w : Mark} {bs : List Bracket} {due : Option ℕ} {fs : List OpenFrame} → Encloses bs due fs
      → Encloses (Square ∷ bs) due (FlowMappingFrame true (Value w) ∷ FlowSequenceFrame false ∷ fs)
  in_pair_asked : {bs : List Bracket} {due : Option ℕ} {fs : List OpenFrame} → Encloses bs due fs
      → Encloses (Square ∷ bs) due (FlowPairFrame Asking ∷ FlowSequenceFrame false ∷ fs)
  in_pair_value : {w : Mark} {bs : List Bracket} {due : Option ℕ} {fs : List OpenFrame} → Encloses bs due fs
      → Encloses (Square ∷ bs) due (FlowPairFrame (Value w) ∷ FlowSequenceFrame false ∷ fs)

-- behind properties no simple key begins in flow
abbrev pub IsOff : List Bracket → Bool → Type 0
IsOff bs may = is_nonempty bs ≡ true → may ≡ false

-- states behind these brackets, with what is due
pub data Suits : List Bracket → Option ℕ → Bool → EventState → Type 0 where
  suits_fresh : {due : Option ℕ} {may : Bool} → Suits [] due may IsFresh
  suits_directed : {due : Option ℕ} {may : Bool} {v : Option (ℕ × ℕ)} → Suits [] due may (HasDirectives v)
  suits_rooted : {due : Option ℕ} {may : Bool} {e : Mark} → Suits [] due may (IsRooted e)
  suits_blocks : {due : Option ℕ} {may : Bool} {fs : List OpenFrame} → Blocks fs → Suits [] due may (InFrames fs)
  suits_item : {bs : List Bracket} {due : Option ℕ} {may : Bool} {fs : List OpenFrame} → Encloses bs due fs
      → Suits (Square ∷ bs) due may (InFrames (FlowSequenceFrame false ∷ fs))
  suits_curly : {bs : List Bracket} {due : Option ℕ} {may : Bool} {fs : List OpenFrame} → Encloses bs due fs
      → Suits (Curly ∷ bs) due may (InFrames (FlowMappingFrame false Opened ∷ fs))
  suits_curly_asked : {bs : List Bracket} {due : Option ℕ} {may : Bool} {fs : List OpenFrame} → Encloses bs due fs
      → Suits (Curly ∷ bs) due may (InFrames (FlowMappingFrame false Asking ∷ fs))
  suits_curly_value : {w : Mark} {bs : List Bracket} {due : Option ℕ} {may : Bool} {fs : List OpenFrame}
      → Encloses bs due fs → Suits (Curly ∷ bs) due may (InFrames (FlowMappingFrame false (Value w) ∷ fs))
  suits_made_value : {w : Mark} {bs : List Bracket} {due : Option ℕ} {may : Bool} {fs : List OpenFrame}
      → Encloses bs due fs → Suits (Square ∷ bs) due may
      (InFrames (FlowMappingFrame true (Value w) ∷ FlowSequenceFrame false ∷ fs))
  suits_pair_asked : {bs : List Bracket} {due : Option ℕ} {may : Bool} {fs : List OpenFrame} → Encloses bs due fs
      → Suits (Square ∷ bs) due may (InFrames (FlowPairFrame Asking ∷ FlowSequenceFrame false ∷ fs))
  suits_pair_value : {w : Mark} {bs : List Bracket} {due : Option ℕ} {may : Bool} {fs : List OpenFrame}
      → Encloses bs due fs → Suits (Square ∷ bs) due may
      (InFrames (FlowPairFrame (Value w) ∷ FlowSequenceFrame false ∷ fs))
  suits_one : {k : PropertyKind} {i : At} {bs : List Bracket} {due : Option ℕ} {may : Bool} {fs : List OpenFrame}
      → IsOff bs may → Encloses bs due fs → Suits bs due may (InFrames (PropertiesFrame (One k i) ∷ fs))
  suits_two : {k m : PropertyKind} {i j : At} {bs : List Bracket} {due : Option ℕ} {may : Bool} {fs : List OpenFrame}
      → IsOff bs may → Encloses bs due fs → Suits bs due may (InFrames (PropertiesFrame (Two k i m j) ∷ fs))
  suits_past_entry : {loose : Bool} {c : ℕ} {due : Option ℕ} {may : Bool} {fs : List OpenFrame} → Blocks fs
      → Suits [] due may (InFrames (SequenceFrame loose c None ∷ fs))
  suits_key_done : {c : ℕ} {may : Bool} {fs : List OpenFrame} → Blocks fs
      → Suits [] (Some c) may (InFrames (MappingFrame c KeyDone ∷ fs))
  suits_ask_done : {c : ℕ} {due : Option ℕ} {may : Bool} {fs : List OpenFrame} → Blocks fs
      → Suits [] due may (InFrames (MappingFrame c AskDone ∷ fs))
  suits_done : {c : ℕ} {due : Option ℕ} {may : Bool} {fs : List OpenFrame} → Blocks fs
      → Suits [] due may (InFrames (MappingFrame c Done ∷ fs))
  suits_item_done : {bs : List Bracket} {due : Option ℕ} {may : Bool} {fs : List OpenFrame} → Encloses bs due fs
      → Suits (Square ∷ bs) due may (InFrames (FlowSequenceFrame true ∷ fs))
  suits_curly_key_done : {bs : List Bracket} {due : Option ℕ} {may : Bool} {fs : List OpenFrame} → Encloses bs due fs
      → Suits (Curly ∷ bs) due may (InFrames (FlowMappingFrame false KeyDone ∷ fs))
  suits_curly_ask_done : {bs : List Bracket} {due : Option ℕ} {may : Bool} {fs : List OpenFrame} → Encloses bs due fs
      → Suits (Curly ∷ bs) due may (InFrames (FlowMappingFrame false AskDone ∷ fs))
  suits_curly_solo : {bs : List Bracket} {due : Option ℕ} {may : Bool} {fs : List OpenFrame} → Encloses bs due fs
      → Suits (Curly ∷ bs) due may (InFrames (FlowMappingFrame false Solo ∷ fs))
  suits_curly_done : {bs : List Bracket} {due : Option ℕ} {may : Bool} {fs : List OpenFrame} → Encloses bs due fs
      → Suits (Curly ∷ bs) due may (InFrames (FlowMappingFrame false Done ∷ fs))
  suits_made_key_done : {bs : List Bracket} {due : Option ℕ} {may : Bool} {fs : List OpenFrame} → Encloses bs due fs
      → Suits (Square ∷ bs) due may (InFrames (FlowMappingFrame true KeyDone ∷ FlowSequenceFrame false ∷ fs))
  suits_made_done : {bs : List Bracket} {due : Option ℕ} {may : Bool} {fs : List OpenFrame} → Encloses bs due fs
      → Suits (Square ∷ bs) due may (InFrames (FlowMappingFrame true Done ∷ FlowSequenceFrame false ∷ fs))
  suits_square_ask_done : {bs : List Bracket} {due : Option ℕ} {may : Bool} {fs : List OpenFrame} → Encloses bs due fs
      → Suits (Square ∷ bs) due may (InFrames (FlowPairFrame AskDone ∷ FlowSequenceFrame false ∷ fs))
  suits_square_done : {bs : List Bracket} {due : Option ℕ} {may : Bool} {fs : List OpenFrame} → Encloses bs due fs
      → Suits (Square ∷ bs) due may (InFrames (FlowPairFrame Done ∷ FlowSequenceFrame false ∷ fs))

-- a node is finished
pub put_suits : (e : Mark) {bs : List Bracket} {due : Option ℕ} {may : Bool} {fs : List OpenFrame} → Encloses bs due fs
    → Suits bs due may (put_frames e fs)
put_suits e (in_blocks block_root) = suits_rooted
put_suits e (in_blocks (block_entry b)) = suits_past_entry b
put_suits e (in_blocks (block_asked b)) = suits_ask_done b
put_suits e (in_blocks (block_value b)) = suits_done b
put_suits e (in_key b) = suits_key_done b
put_suits e (in_item p) = suits_item_done p
put_suits e (in_curly p) = suits_curly_solo p
put_suits e (in_curly_key p) = suits_curly_key_done p
put_suits e (in_curly_asked p) = suits_curly_ask_done p
put_suits e (in_curly_value p) = suits_curly_done p
put_suits e (in_made_key p) = suits_made_key_done p
put_suits e (in_made_value p) = suits_made_done p
put_suits e (in_pair_asked p) = suits_square_ask_done p
put_suits e (in_pair_value p) = suits_square_done p

-- ---- a lexeme in order is fair there

flow_is : {bs : List Bracket} {due : Option ℕ} {fs : List OpenFrame} → Encloses bs due fs
    → is_nonempty bs ≡ frames_in_flow fs
flow_is (in_blocks block_root) = refl
flow_is (in_blocks (block_entry b)) = refl
flow_is (in_blocks (block_asked b)) = refl
flow_is (in_blocks (block_value b)) = refl
flow_is (in_key b) = refl
flow_is (in_item p) = refl
flow_is (in_curly p) = refl
flow_is (in_curly_key p) = refl
flow_is (in_curly_asked p) = refl
flow_is (in_curly_value p) = refl
flow_is (in_made_key p) = refl
flow_is (in_made_value p) = refl
flow_is (in_pair_asked p) = refl
flow_is (in_pair_value p) = refl

not_curly : (kind : TerminalKind) (bs : List Bracket) → closes_innermost kind (Square ∷ bs) ≡ true
    → closes_kind Curly kind ≡ false
not_curly (Close Square) bs e = refl
not_curly (Close Curly) bs e = absurd cc
not_curly kind bs e = refl

module _ (x : Terminal) where
  behind_fair : {bs : List Bracket} {due : Option ℕ} {may : Bool} {fs : List OpenFrame} → InOrder bs due may x
      → IsOff bs may → Encloses bs due fs → FairBehind (behind_property (frames_room fs)) x
  behind_fair i off (in_blocks block_root) = tt
  behind_fair i off (in_blocks (block_entry b)) = tt
  behind_fair i off (in_blocks (block_asked b)) = tt
  behind_fair i off (in_blocks (block_value b)) = tt
  behind_fair i off (in_key b) = i.begins_none _ refl refl
  behind_fair i off (in_item p) = (i.begins refl (off refl), i.no_dash refl)
  behind_fair i off (in_curly p) = (i.begins refl (off refl), i.no_dash refl)
  behind_fair i off (in_curly_key p) = (i.begins refl (off refl), i.no_dash refl)
  behind_fair i off (in_curly_asked p) = (i.begins refl (off refl), i.no_dash refl)
  behind_fair i off (in_curly_value p) = (i.begins refl (off refl), i.no_dash refl)
  behind_fair i off (in_made_key p) = (i.begins refl (off refl), i.no_dash refl)
  behind_fair i off (in_made_value p) = (i.begins refl (off refl), i.no_dash refl)
  behind_fair i off (in_pair_asked p) = (i.begins refl (off refl), i.no_dash refl)
  behind_fair i off (in_pair_value p) = (i.begins refl (off refl), i.no_dash refl)

  blocks_finish : {fs : List OpenFrame} → Blocks fs → FairFinish x fs
  blocks_finish block_root = (tt, λ e. tt)
  blocks_finish (block_entry b) = (tt, λ e. blocks_finish b)
  blocks_finish (block_asked b) = (tt, λ e. blocks_finish b)
  blocks_finish (block_value b) = (tt, λ e. blocks_finish b)

  fair_finish : {bs : List Bracket} {due : Option ℕ} {may : Bool} {fs : List OpenFrame} → InOrder bs due may x
      → Encloses bs due fs → FairFinish x fs
  fair_finish i (in_blocks b) = blocks_finish b
  fair_finish i (in_key b) = (i.stands_right _ refl refl, λ e. absurd cc)
  fair_finish i (in_item p) = (tt, λ e. absurd cc)
  fair_finish i (in_curly p) = (tt, λ e. absurd cc)
  fair_finish i (in_curly_key p) = (tt, λ e. absurd cc)
  fair_finish i (in_curly_asked p) = (tt, λ e. absurd cc)
  fair_finish i (in_curly_value p) = (tt, λ e. absurd cc)
  fair_finish i (in_made_key p) = (tt, λ e. absurd cc)
  fair_finish i (in_made_value p) = (not_curly x.kind _ i.closes, λ e. (tt, λ e. absurd cc))
  fair_finish i (in_pair_asked p) = (tt, λ e. (tt, λ e. absurd cc))
  fair_finish i (in_pair_value p) = (tt, λ e. (tt, λ e. absurd cc))

  pub suits_fair : {bs : List Bracket} {due : Option ℕ} {may : Bool} {st : EventState} → InOrder bs due may x
      → Suits bs due may st → Fair x st
  suits_fair i suits_fresh = (tt, λ e. tt)
  suits_fair i suits_directed = (tt, λ e. tt)
  suits_fair i suits_rooted = (tt, λ e. tt)
  suits_fair i (suits_blocks block_root) = (tt, λ e. tt)
  suits_fair i (suits_blocks (block_entry b)) = (tt, λ e. blocks_finish b)
  suits_fair i (suits_blocks (block_asked b)) = (tt, λ e. blocks_finish b)
  suits_fair i (suits_blocks (block_value b)) = (tt, λ e. blocks_finish b)
  suits_fair i (suits_item p) = (tt, λ e. absurd cc)
  suits_fair i (suits_curly p) = (tt, λ e. absurd cc)
  suits_fair i (suits_curly_asked p) = (tt, λ e. absurd cc)
  suits_fair i (suits_curly_value p) = (tt, λ e. absurd cc)
  suits_fair i (suits_made_value p) = (not_curly x.kind _ i.closes, λ e. (tt, λ e. absurd cc))
  suits_fair i (suits_pair_asked p) = (tt, λ e. (tt, λ e. absurd cc))
  suits_fair i (suits_pair_value p) = (tt, λ e. (tt, λ e. absurd cc))
  suits_fair i (suits_one off p) = ((i.in_flow ∙ flow_is p, behind_fair i off p), λ e. fair_finish i p)
  suits_fair i (suits_two off p) = ((i.in_flow ∙ flow_is p, behind_fair i off p), λ e. fair_finish i p)
  suits_fair i (suits_past_entry b) = (tt, λ e. blocks_finish b)
  suits_fair i (suits_key_done b) = (i.stands_right _ refl refl, λ e. blocks_finish b)
  suits_fair i (suits_ask_done b) = (tt, λ e. blocks_finish b)
  suits_fair i (suits_done b) = (tt, λ e. blocks_finish b)
  suits_fair i (suits_item_done p) = (tt, λ e. absurd cc)
  suits_fair i (suits_curly_key_done p) = (tt, λ e. absurd cc)
  suits_fair i (suits_curly_ask_done p) = (tt, λ e. absurd cc)
  suits_fair i (suits_curly_solo p) = (tt, λ e. absurd cc)
  suits_fair i (suits_curly_done p) = (tt, λ e. absurd cc)
  suits_fair i (suits_made_key_done p) = (tt, λ e. absurd cc)
  suits_fair i (suits_made_done p) = (not_curly x.kind _ i.closes, λ e. (tt, λ e. absurd cc))
  suits_fair i (suits_square_ask_done p) = (tt, λ e. (tt, λ e. absurd cc))
  suits_fair i (suits_square_done p) = (tt, λ e. (tt, λ e. absurd cc))
