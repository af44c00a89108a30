-- How far a list of lexemes has come in the grammar: the place where it goes on, with the finished pieces to its left.
use Rattle.std.specs.Prelude.{◌≡◌, ℕ, Bool, true, List, ◌∷◌, ◌==◌}
use Rattle.granit_language.specs.Node.{TreeProperties, NoProperties, Node, Content, Entries, EntryLead, PairLead, Pair}
use Rattle.granit_language.specs.Node.{Left, FlowLead, FlowItem, Single, Paired, Before, Directives, Start, Rooted}
use Rattle.granit_language.specs.Node.{Stream}
use Rattle.granit_language.specs.Placed.{PropertiesPlaced, left_front, pair_front, Placed, ContentPlaced, EntriesPlaced}
use Rattle.granit_language.specs.Placed.{EntryLeadPlaced, PairLeadPlaced, PairPlaced, LeftPlaced, FlowPlaced}
use Rattle.granit_language.specs.Placed.{ItemPlaced, BeforePlaced, DirectivesPlaced, StartPlaced, RootedPlaced}
use Rattle.granit_language.specs.Placed.{StreamPlaced}
use Rattle.granit_language.specs.Room.{Holder, BlockIn, FlowIn, Room, RightOf, KeyIn, ItemIn, room_behind, right_fits}
use Rattle.granit_language.specs.Room.{sequence_fits, PartFits, room_value, ask_empty, place_fits, KeyBegins, pair_over}
use Rattle.granit_language.specs.Terminal.{Open, DocumentStart, Dash, Question, Part, At, Terminal, terminal, edge}
use Rattle.granit_language.specs.Yield.{spell_properties, colon_kind, spell, spell_content, spell_entries}
use Rattle.granit_language.specs.Yield.{spell_entry_lead, spell_pair_lead, spell_pair, spell_left, spell_flow}
use Rattle.granit_language.specs.Yield.{spell_item, spell_before, spell_directives, spell_start, spell_rooted}
use Rattle.granit_language.specs.Yield.{spell_stream}
use Rattle.granit_lexemes.specs.declared.layout.Bracket.{Bracket}

-- the root of a document that must come
pub data Root : Type 0 where
  Bare : Before → Root
  Explicit : Start → (mark : At) → Root

-- an unfinished collection where a pair may stand: a block mapping in a column, with its properties and the pairs
-- before it; a flow collection, with its properties, its opener and the items before it
pub data Around : Type 0 where
  BlockPairs : TreeProperties → (column : ℕ) → PairLead → Around
  FlowPairs : TreeProperties → Bracket → (opener : At) → FlowLead → Around

-- a place where a node must stand
pub data Hole : Type 0 where
  AtRoot : Root → Hole
  -- behind a `-`
  AtEntry : Hole → TreeProperties → (indentless : Bool) → (column : ℕ) → EntryLead → (dash : At) → Hole
  -- where an item of a flow collection may begin
  AtItem : Hole → TreeProperties → Bracket → (opener : At) → FlowLead → Hole
  -- a simple key that begins with a lexeme
  AtKey : Hole → Around → (first : Terminal) → Hole
  -- behind a `?`
  AtAsk : Hole → Around → (question : At) → Hole
  -- behind a `:`
  AtColon : Hole → Around → Left → (colon : At) → Hole

pub data OpenPlace : Type 0 where
  Fresh : Before → OpenPlace
  InDirectives : Directives → OpenPlace
  BehindRoot : Rooted → OpenPlace
  Ended : Stream → OpenPlace
  -- at a hole, behind properties
  Want : Hole → TreeProperties → OpenPlace
  PastEntry : Hole → TreeProperties → (indentless : Bool) → (column : ℕ) → Entries → OpenPlace
  PastKey : Hole → Around → (first : Terminal) → Node → OpenPlace
  -- behind a `?` and its key, where a `:` may follow
  PastAsk : Hole → Around → (question : At) → Content → OpenPlace
  PastPair : Hole → Around → Pair → OpenPlace
  PastItem : Hole → TreeProperties → Bracket → (opener : At) → FlowLead → FlowItem → OpenPlace

abbrev pub spell_root : Root → List Terminal → List Terminal
spell_root (Bare b) rest = spell_before b rest
spell_root (Explicit s i) rest = spell_start s (terminal DocumentStart i ∷ rest)

abbrev pub spell_around : Around → List Terminal → List Terminal
spell_around (BlockPairs p c lead) rest = spell_properties p (spell_pair_lead lead rest)
spell_around (FlowPairs p bracket o lead) rest =
    spell_properties p (terminal (Part (Open bracket)) o ∷ spell_flow lead rest)

-- the lexemes before a hole, and then more
abbrev pub spell_hole : Hole → List Terminal → List Terminal
spell_hole (AtRoot root) rest = spell_root root rest
spell_hole (AtEntry r p loose c lead i) rest =
    spell_hole r (spell_properties p (spell_entry_lead lead (terminal Dash i ∷ rest)))
spell_hole (AtItem r p bracket o lead) rest =
    spell_hole r (spell_properties p (terminal (Part (Open bracket)) o ∷ spell_flow lead rest))
spell_hole (AtKey r a f) rest = spell_hole r (spell_around a rest)
spell_hole (AtAsk r a q) rest = spell_hole r (spell_around a (terminal Question q ∷ rest))
spell_hole (AtColon r a left m) rest =
    spell_hole r (spell_around a (spell_left left (terminal (colon_kind left) m ∷ rest)))

-- the lexemes before an open place, and then more
abbrev pub spell_open : OpenPlace → List Terminal → List Terminal
spell_open (Fresh b) rest = spell_before b rest
spell_open (InDirectives ds) rest = spell_directives ds rest
spell_open (BehindRoot ro) rest = spell_rooted ro rest
spell_open (Ended s) rest = spell_stream s rest
spell_open (Want r p) rest = spell_hole r (spell_properties p rest)
spell_open (PastEntry r p loose c es) rest = spell_hole r (spell_properties p (spell_entries es rest))
spell_open (PastKey r a f k) rest = spell_hole r (spell_around a (spell k rest))
spell_open (PastAsk r a q v) rest = spell_hole r (spell_around a (terminal Question q ∷ spell_content v rest))
spell_open (PastPair r a pair) rest = spell_hole r (spell_around a (spell_pair pair rest))
spell_open (PastItem r p bracket o lead item) rest =
    spell_hole r (spell_properties p (terminal (Part (Open bracket)) o ∷ spell_flow lead (spell_item item rest)))

abbrev pub holder : Around → Holder
holder (BlockPairs p c lead) = BlockIn c
holder (FlowPairs p bracket o lead) = FlowIn bracket

abbrev pub room_of : Hole → Room
room_of (AtRoot root) = RightOf 0
room_of (AtEntry r p loose c lead i) = RightOf c
room_of (AtItem r p bracket o lead) = ItemIn
room_of (AtKey r a f) = KeyIn (holder a) f
room_of (AtAsk r a q) = room_value (holder a)
room_of (AtColon r a left m) = room_value (holder a)

abbrev pub RootPlaced : Root → Type 0
RootPlaced (Bare b) = BeforePlaced b
RootPlaced (Explicit s i) = StartPlaced s i

-- in a room, in front of the first lexeme of a pair
abbrev pub AroundPlaced : Around → Room → Terminal → Type 0
AroundPlaced (BlockPairs p c lead) room x =
    PropertiesPlaced p room × (right_fits (room_behind p room) c ≡ true) × PairLeadPlaced lead c x
AroundPlaced (FlowPairs p bracket o lead) room x =
    PropertiesPlaced p room × PartFits (room_behind p room) (Open bracket) o × FlowPlaced lead bracket

-- what stands before a hole is placed
abbrev pub HolePlaced : Hole → Type 0
HolePlaced (AtRoot root) = RootPlaced root
HolePlaced (AtEntry r p loose c lead i) =
    HolePlaced r × PropertiesPlaced p (room_of r) × (sequence_fits (room_behind p (room_of r)) loose c ≡ true)
    × EntryLeadPlaced lead loose c i × ((edge i == c) ≡ true)
HolePlaced (AtItem r p bracket o lead) =
    HolePlaced r × PropertiesPlaced p (room_of r) × PartFits (room_behind p (room_of r)) (Open bracket) o
    × FlowPlaced lead bracket
HolePlaced (AtKey r a f) = HolePlaced r × AroundPlaced a (room_of r) f × KeyBegins (holder a) f
HolePlaced (AtAsk r a q) =
    HolePlaced r × AroundPlaced a (room_of r) (terminal Question q) × (place_fits (holder a) q ≡ true)
HolePlaced (AtColon r a left m) =
    HolePlaced r × AroundPlaced a (room_of r) (left_front left m) × LeftPlaced left (holder a) m

-- an item of a flow collection is finished in front of x
abbrev pub ItemOver : FlowItem → Bracket → Terminal → Type 0
ItemOver (Single t) bracket x = Unit {0}
ItemOver (Paired pair) bracket x = pair_over bracket pair x ≡ true

-- what stands before an open place is placed, in front of a lexeme
abbrev pub OpenPlaced : Terminal → OpenPlace → Type 0
OpenPlaced x (Fresh b) = BeforePlaced b
OpenPlaced x (InDirectives ds) = DirectivesPlaced ds
OpenPlaced x (BehindRoot ro) = RootedPlaced ro x
OpenPlaced x (Ended s) = StreamPlaced s
OpenPlaced x (Want r p) = HolePlaced r × PropertiesPlaced p (room_of r)
OpenPlaced x (PastEntry r p loose c es) =
    HolePlaced r × PropertiesPlaced p (room_of r) × (sequence_fits (room_behind p (room_of r)) loose c ≡ true)
    × EntriesPlaced es loose c x
OpenPlaced x (PastKey r a f k) =
    HolePlaced r × AroundPlaced a (room_of r) f × KeyBegins (holder a) f × Placed k (KeyIn (holder a) f) x
OpenPlaced x (PastAsk r a q v) =
    HolePlaced r × AroundPlaced a (room_of r) (terminal Question q) × (place_fits (holder a) q ≡ true)
    × ContentPlaced v (room_value (holder a)) (ask_empty (holder a) x) x
OpenPlaced x (PastPair r a pair) =
    HolePlaced r × AroundPlaced a (room_of r) (pair_front pair) × PairPlaced pair (holder a) x
OpenPlaced x (PastItem r p bracket o lead item) =
    HolePlaced r × PropertiesPlaced p (room_of r) × PartFits (room_behind p (room_of r)) (Open bracket) o
    × FlowPlaced lead bracket × ItemPlaced item bracket x × ItemOver item bracket x

-- a hole that is itself an open place: a root without `---` and a simple key begin with a lexeme
abbrev pub IsHole : Hole → Type 0
IsHole (AtRoot (Bare b)) = ⊥
IsHole (AtKey r a f) = ⊥
IsHole r = Unit {0}

-- an open place under its one name
abbrev pub HasOneName : OpenPlace → Type 0
HasOneName (Want r NoProperties) = IsHole r
HasOneName p = Unit {0}
