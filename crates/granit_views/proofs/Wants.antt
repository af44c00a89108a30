-- A lexeme where a node must stand outside flow, by the column it stands in.
use Rattle.granit_views.specs.Steps.{asks, colons, dashes}
use Rattle.granit_event_machine.specs.EventMachine.{Key, Asking, Value, OpenFrame, DocumentFrame, SequenceFrame}
use Rattle.granit_event_machine.specs.EventMachine.{MappingFrame}
use Rattle.granit_event_machine.specs.EventMachine.{EventStep, after_events, if_gives, frames_room, frames_indent}
use Rattle.granit_event_machine.specs.EventMachine.{part_frames, begin_pair_frames, entry_frames, BlockSite, stop_kind}
use Rattle.granit_event_machine.specs.EventMachine.{want_frames}
use Rattle.granit_language.specs.Choice.{choose}
use Rattle.granit_language.specs.GrammarFault.{GrammarFault}
use Rattle.granit_language.specs.Node.{TreeProperties, NoProperties, One, Two}
use Rattle.granit_language.specs.Room.{Room, room_behind, right_fits, loose_fits, indicates, part_fits}
use Rattle.granit_language.specs.Terminal.{Part, PartKind, Alias, Property, Scalar, Open, Question, Colon, Dash, At}
use Rattle.granit_language.specs.Terminal.{terminal, edge}
use Rattle.granit_language.specs.TreeEvents.{mapping_start}
use Rattle.std.proofs.Common.{◌≡◌, ℕ, Bool, true, false, ◌&&◌, not, nat_lt, List, [], ◌∷◌, refl, ap, ap₂, ◌∙◌, Option}
use Rattle.std.proofs.Common.{Some, None}
use Rattle.granit_base.specs.Place.{Mark}

-- a place for a node outside flow, where a block collection may begin
pub data BlockHole : List OpenFrame → Type 0 where
  root_hole : {m : Option Mark} → BlockHole (DocumentFrame m ∷ [])
  entry_hole : {loose : Bool} {c : ℕ} {w : Mark} {fs : List OpenFrame} → BlockHole (SequenceFrame loose c (Some w) ∷ fs)
  asked_hole : {c : ℕ} {fs : List OpenFrame} → BlockHole (MappingFrame c Asking ∷ fs)
  value_hole : {c : ℕ} {w : Mark} {fs : List OpenFrame} → BlockHole (MappingFrame c (Value w) ∷ fs)

-- the column right of which a node stands there
abbrev pub hole_column : List OpenFrame → ℕ
hole_column (SequenceFrame loose c w ∷ fs) = c
hole_column (MappingFrame c at ∷ fs) = c
hole_column fs = 0

abbrev pub RoomOf : TreeProperties → List OpenFrame → Room
RoomOf p fs = room_behind p (frames_room fs)

pub right_is :
    (p : TreeProperties) (fs : List OpenFrame) (e : ℕ) → BlockHole fs →
    right_fits (RoomOf p fs) e ≡ nat_lt (hole_column fs) e
right_is NoProperties fs e root_hole = refl
right_is (One k i) fs e root_hole = refl
right_is (Two k i m j) fs e root_hole = refl
right_is NoProperties fs e entry_hole = refl
right_is (One k i) fs e entry_hole = refl
right_is (Two k i m j) fs e entry_hole = refl
right_is NoProperties fs e asked_hole = refl
right_is (One k i) fs e asked_hole = refl
right_is (Two k i m j) fs e asked_hole = refl
right_is NoProperties fs e value_hole = refl
right_is (One k i) fs e value_hole = refl
right_is (Two k i m j) fs e value_hole = refl

-- a pair may begin where a block collection may
pub indicates_is : (p : TreeProperties) (fs : List OpenFrame) (i : At) → BlockHole fs →
    indicates (RoomOf p fs) i ≡ nat_lt (hole_column fs) (edge i)
indicates_is NoProperties fs i root_hole = refl
indicates_is (One k j) fs i root_hole = refl
indicates_is (Two k j m n) fs i root_hole = refl
indicates_is NoProperties fs i entry_hole = refl
indicates_is (One k j) fs i entry_hole = refl
indicates_is (Two k j m n) fs i entry_hole = refl
indicates_is NoProperties fs i asked_hole = refl
indicates_is (One k j) fs i asked_hole = refl
indicates_is (Two k j m n) fs i asked_hole = refl
indicates_is NoProperties fs i value_hole = refl
indicates_is (One k j) fs i value_hole = refl
indicates_is (Two k j m n) fs i value_hole = refl

pub part_fits_is :
    (p : TreeProperties) (fs : List OpenFrame) (i : At) → BlockHole fs →
    part_fits (RoomOf p fs) i ≡ (not i.begins_key && nat_lt (hole_column fs) (edge i))
part_fits_is NoProperties fs i root_hole = refl
part_fits_is (One k j) fs i root_hole = refl
part_fits_is (Two k j m n) fs i root_hole = refl
part_fits_is NoProperties fs i entry_hole = refl
part_fits_is (One k j) fs i entry_hole = refl
part_fits_is (Two k j m n) fs i entry_hole = refl
part_fits_is NoProperties fs i asked_hole = refl
part_fits_is (One k j) fs i asked_hole = refl
part_fits_is (Two k j m n) fs i asked_hole = refl
part_fits_is NoProperties fs i value_hole = refl
part_fits_is (One k j) fs i value_hole = refl
part_fits_is (Two k j m n) fs i value_hole = refl

-- ---- what the grammar's machine takes

abbrev Right : List OpenFrame → At → Bool
Right fs i = nat_lt (hole_column fs) (edge i)

pub want_plain :
    (fs : List OpenFrame) (p : TreeProperties) (m : PartKind) (i : At) → BlockHole fs → i.begins_key ≡ false →
    want_frames fs p (Part m) i ≡ if_gives (Right fs i) (stop_kind fs) (part_frames (stop_kind fs) fs p m i)
want_plain fs p m i h e =
    ap₂
    (λ a b.
    choose a (begin_pair_frames (stop_kind fs) fs p (Part m) i)
    (if_gives b (stop_kind fs) (part_frames (stop_kind fs) fs p m i)))
    (ap (λ b. b && indicates (RoomOf p fs) i) e) (part_fits_is p fs i h ∙ ap (λ b. not b && Right fs i) e)

-- the pair of a simple key is that of a block mapping
abbrev KeyPair : List OpenFrame → TreeProperties → PartKind → At → EventStep
KeyPair fs p m i =
    after_events (mapping_start p (terminal (Part m) i) (frames_indent fs) ∷ [])
    (part_frames (stop_kind fs) (MappingFrame (edge i) Key ∷ fs) NoProperties m i)

pair_in : (fs : List OpenFrame) (p : TreeProperties) (m : PartKind) (i : At) → BlockHole fs →
    begin_pair_frames (stop_kind fs) fs p (Part m) i
    ≡ after_events (mapping_start p (terminal (Part m) i) (frames_indent fs) ∷ [])
    (entry_frames (stop_kind fs) (BlockSite (edge i) fs) (Part m) i)
pair_in fs NoProperties m i root_hole = refl
pair_in fs (One k j) m i root_hole = refl
pair_in fs (Two k j n q) m i root_hole = refl
pair_in fs NoProperties m i entry_hole = refl
pair_in fs (One k j) m i entry_hole = refl
pair_in fs (Two k j n q) m i entry_hole = refl
pair_in fs NoProperties m i asked_hole = refl
pair_in fs (One k j) m i asked_hole = refl
pair_in fs (Two k j n q) m i asked_hole = refl
pair_in fs NoProperties m i value_hole = refl
pair_in fs (One k j) m i value_hole = refl
pair_in fs (Two k j n q) m i value_hole = refl

pub key_entry : (stop : GrammarFault) (c : ℕ) (fs : List OpenFrame) (m : PartKind) (i : At) →
    entry_frames stop (BlockSite c fs) (Part m) i ≡ part_frames stop (MappingFrame c Key ∷ fs) NoProperties m i
key_entry stop c fs (Alias name) i = refl
key_entry stop c fs (Property k) i = refl
key_entry stop c fs (Scalar style text) i = refl
key_entry stop c fs (Open bracket) i = refl

if_pair : (b r : Bool) (stop : GrammarFault) (y z : EventStep) → b ≡ true →
    choose (b && r) y (if_gives (not b && r) stop z) ≡ if_gives r stop y
if_pair true true stop y z e = refl
if_pair true false stop y z e = refl
if_pair false r stop y z e = cc (e)

pub want_key : (fs : List OpenFrame) (p : TreeProperties) (m : PartKind) (i : At) → BlockHole fs → i.begins_key ≡ true →
    want_frames fs p (Part m) i ≡ if_gives (Right fs i) (stop_kind fs) (KeyPair fs p m i)
want_key fs p m i h e =
    ap₂
    (λ a b.
    choose (i.begins_key && a) (begin_pair_frames (stop_kind fs) fs p (Part m) i)
    (if_gives b (stop_kind fs) (part_frames (stop_kind fs) fs p m i)))
    (indicates_is p fs i h) (part_fits_is p fs i h)
    ∙ (if_pair i.begins_key (Right fs i) (stop_kind fs) _ _ e
    ∙ ap (if_gives (Right fs i) (stop_kind fs))
    (pair_in fs p m i h
    ∙ ap (after_events (mapping_start p (terminal (Part m) i) (frames_indent fs) ∷ []))
    (key_entry (stop_kind fs) (edge i) fs m i)))

asks_in :
    (fs : List OpenFrame) (p : TreeProperties) (i : At) → BlockHole fs →
    begin_pair_frames (stop_kind fs) fs p Question i ≡ asks p (terminal Question i) fs
asks_in fs NoProperties i root_hole = refl
asks_in fs (One k j) i root_hole = refl
asks_in fs (Two k j n q) i root_hole = refl
asks_in fs NoProperties i entry_hole = refl
asks_in fs (One k j) i entry_hole = refl
asks_in fs (Two k j n q) i entry_hole = refl
asks_in fs NoProperties i asked_hole = refl
asks_in fs (One k j) i asked_hole = refl
asks_in fs (Two k j n q) i asked_hole = refl
asks_in fs NoProperties i value_hole = refl
asks_in fs (One k j) i value_hole = refl
asks_in fs (Two k j n q) i value_hole = refl

colons_in :
    (fs : List OpenFrame) (p : TreeProperties) (i : At) → BlockHole fs →
    begin_pair_frames (stop_kind fs) fs p (Colon None) i ≡ colons p (terminal (Colon None) i) fs
colons_in fs NoProperties i root_hole = refl
colons_in fs (One k j) i root_hole = refl
colons_in fs (Two k j n q) i root_hole = refl
colons_in fs NoProperties i entry_hole = refl
colons_in fs (One k j) i entry_hole = refl
colons_in fs (Two k j n q) i entry_hole = refl
colons_in fs NoProperties i asked_hole = refl
colons_in fs (One k j) i asked_hole = refl
colons_in fs (Two k j n q) i asked_hole = refl
colons_in fs NoProperties i value_hole = refl
colons_in fs (One k j) i value_hole = refl
colons_in fs (Two k j n q) i value_hole = refl

pub want_question : (fs : List OpenFrame) (p : TreeProperties) (i : At) → BlockHole fs →
    want_frames fs p Question i ≡ if_gives (Right fs i) (stop_kind fs) (asks p (terminal Question i) fs)
want_question fs p i h = ap₂ (λ b y. if_gives b (stop_kind fs) y) (indicates_is p fs i h) (asks_in fs p i h)

pub want_colon : (fs : List OpenFrame) (p : TreeProperties) (i : At) → BlockHole fs →
    want_frames fs p (Colon None) i ≡ if_gives (Right fs i) (stop_kind fs) (colons p (terminal (Colon None) i) fs)
want_colon fs p i h = ap₂ (λ b y. if_gives b (stop_kind fs) y) (indicates_is p fs i h) (colons_in fs p i h)

pub want_dash : (fs : List OpenFrame) (p : TreeProperties) (i : At) → BlockHole fs →
    want_frames fs p Dash i
    ≡ choose (loose_fits (RoomOf p fs) (edge i)) (dashes true p (terminal Dash i) fs)
    (if_gives (Right fs i) (stop_kind fs) (dashes false p (terminal Dash i) fs))
want_dash fs p i h =
    ap
    (λ b.
    choose (loose_fits (RoomOf p fs) (edge i)) (dashes true p (terminal Dash i) fs)
    (if_gives b (stop_kind fs) (dashes false p (terminal Dash i) fs)))
    (right_is p fs (edge i) h)
