-- Trees whose parts stand where they may, each in front of the lexeme that follows it (YAML 1.2.2, 6.1, 7.4, 8.2, 9.2).
use Rattle.std.specs.Prelude.{◌≡◌, ℕ, Bool, true, false, ◌==◌, Some, None}
use Rattle.granit_language.specs.Node.{TreeProperties, NoProperties, One, Two, Node, AliasNode, ScalarNode, Alone, Flow}
use Rattle.granit_language.specs.Node.{Sequence, Mapping, Content, Nothing, Just, Entries, Entry, EntryLead, NoEntry}
use Rattle.granit_language.specs.Node.{AfterEntry, Pairs, Through, PairLead, NoPair, AfterPair, Pair, WithColon}
use Rattle.granit_language.specs.Node.{AskOnly, Left, SimpleKey, Asked, NoKey, FlowLead, NoItem, AfterItem, FlowLast}
use Rattle.granit_language.specs.Node.{NoLast, LastItem, FlowItem, Single, Paired, Before, Beginning, ExtraEnd, Closed}
use Rattle.granit_language.specs.Node.{Directives, FirstDirective, NextDirective, Start, AtFresh, AfterDirectives}
use Rattle.granit_language.specs.Node.{AfterRoot, Rooted, BareRoot, ExplicitRoot, Stream, EndFresh, EndRooted}
use Rattle.granit_language.specs.Room.{Holder, BlockIn, FlowIn, Room, RightOf, KeyIn, ItemIn, behind_property}
use Rattle.granit_language.specs.Room.{room_behind, right_fits, sequence_fits, PartFits, differ, continues_node}
use Rattle.granit_language.specs.Room.{entry_empty, sequence_over, room_value, value_empty, ask_empty, ask_over}
use Rattle.granit_language.specs.Room.{place_fits, KeyBegins}
use Rattle.granit_language.specs.Terminal.{Alias, Property, Scalar, Open, DocumentStart, DocumentEnd, TheEnd, Dash}
use Rattle.granit_language.specs.Terminal.{Question, Comma, Colon, Close, At, Terminal, terminal, edge, is_stream_kind}
use Rattle.granit_language.specs.Terminal.{stands_left}
use Rattle.granit_lexemes.specs.declared.layout.Bracket.{Bracket}

abbrev pub PropertiesPlaced : TreeProperties → Room → Type 0
PropertiesPlaced NoProperties room = Unit {0}
PropertiesPlaced (One k i) room = PartFits room (Property k) i
PropertiesPlaced (Two k i m j) room =
    PartFits room (Property k) i × PartFits (behind_property room) (Property m) j × (differ k m ≡ true)

abbrev pub SomeProperties : TreeProperties → Type 0
SomeProperties NoProperties = ⊥
SomeProperties (One k i) = Unit {0}
SomeProperties (Two k i m j) = Unit {0}

-- the first lexeme of what stands before a keyed or keyless `:`, and of a pair
abbrev pub left_front : Left → At → Terminal
left_front (SimpleKey f k n) m = f
left_front (Asked q v) m = terminal Question q
left_front NoKey m = terminal (Colon None) m

abbrev pub pair_front : Pair → Terminal
pair_front (WithColon left m v) = left_front left m
pair_front (AskOnly q v e) = terminal Question q

abbrev mutual
  pub Placed : Node → Room → Terminal → Type 0
  Placed (AliasNode name i) room x = PartFits room (Alias name) i
  Placed (ScalarNode p style text i) room x =
      PropertiesPlaced p room × PartFits (room_behind p room) (Scalar style text) i
  Placed (Alone p) room x =
      PropertiesPlaced p room × SomeProperties p × (continues_node (room_behind p room) p x.kind x.at ≡ false)
  Placed (Flow p bracket o lead last e) room x =
      PropertiesPlaced p room × PartFits (room_behind p room) (Open bracket) o × FlowPlaced lead bracket
      × LastPlaced last bracket (terminal (Close bracket) e)
  Placed (Sequence p loose c es e) room x =
      PropertiesPlaced p room × (sequence_fits (room_behind p room) loose c ≡ true) × EntriesPlaced es loose c x
      × (sequence_over loose c x ≡ true) × (e ≡ x.at.start)
  Placed (Mapping p c ps e) room x =
      PropertiesPlaced p room × (right_fits (room_behind p room) c ≡ true) × PairsPlaced ps c x
      × (stands_left x c ≡ true) × (e ≡ x.at.start)

  -- the test is that nothing may stand here
  pub ContentPlaced : Content → Room → Bool → Terminal → Type 0
  ContentPlaced Nothing room empty x = empty ≡ true
  ContentPlaced (Just t) room empty x = Placed t room x

  pub EntriesPlaced : Entries → Bool → ℕ → Terminal → Type 0
  EntriesPlaced (Entry lead i v) loose c x =
      EntryLeadPlaced lead loose c i × ((edge i == c) ≡ true) × ContentPlaced v (RightOf c) (entry_empty loose c x) x

  pub EntryLeadPlaced : EntryLead → Bool → ℕ → At → Type 0
  EntryLeadPlaced NoEntry loose c i = Unit {0}
  EntryLeadPlaced (AfterEntry es) loose c i = EntriesPlaced es loose c (terminal Dash i)

  pub PairsPlaced : Pairs → ℕ → Terminal → Type 0
  PairsPlaced (Through lead pair) c x = PairLeadPlaced lead c (pair_front pair) × PairPlaced pair (BlockIn c) x

  pub PairLeadPlaced : PairLead → ℕ → Terminal → Type 0
  PairLeadPlaced NoPair c x = Unit {0}
  PairLeadPlaced (AfterPair ps) c x = PairsPlaced ps c x

  pub PairPlaced : Pair → Holder → Terminal → Type 0
  PairPlaced (WithColon left m v) h x = LeftPlaced left h m × ContentPlaced v (room_value h) (value_empty h x) x
  PairPlaced (AskOnly q v e) h x =
      (place_fits h q ≡ true) × ContentPlaced v (room_value h) (ask_empty h x) x × (ask_over h x ≡ true)
      × (e ≡ x.at.start)

  pub LeftPlaced : Left → Holder → At → Type 0
  LeftPlaced (SimpleKey f k n) h m = KeyBegins h f × Placed k (KeyIn h f) (terminal (Colon (Some n)) m)
  LeftPlaced (Asked q v) h m =
      (place_fits h q ≡ true)
      × ContentPlaced v (room_value h) (ask_empty h (terminal (Colon None) m)) (terminal (Colon None) m)
      × (place_fits h m ≡ true)
  LeftPlaced NoKey h m = place_fits h m ≡ true

  pub FlowPlaced : FlowLead → Bracket → Type 0
  FlowPlaced NoItem bracket = Unit {0}
  FlowPlaced (AfterItem lead item m) bracket = FlowPlaced lead bracket × ItemPlaced item bracket (terminal Comma m)

  pub LastPlaced : FlowLast → Bracket → Terminal → Type 0
  LastPlaced NoLast bracket x = Unit {0}
  LastPlaced (LastItem item) bracket x = ItemPlaced item bracket x

  pub ItemPlaced : FlowItem → Bracket → Terminal → Type 0
  ItemPlaced (Single t) bracket x = Placed t ItemIn x
  ItemPlaced (Paired pair) bracket x = PairPlaced pair (FlowIn bracket) x

abbrev mutual
  pub BeforePlaced : Before → Type 0
  BeforePlaced Beginning = Unit {0}
  BeforePlaced (ExtraEnd b i) = BeforePlaced b
  BeforePlaced (Closed ro i) = RootedPlaced ro (terminal DocumentEnd i)

  pub DirectivesPlaced : Directives → Type 0
  DirectivesPlaced (FirstDirective b d i) = BeforePlaced b
  DirectivesPlaced (NextDirective ds d i) = DirectivesPlaced ds

  pub StartPlaced : Start → At → Type 0
  StartPlaced (AtFresh b) i = BeforePlaced b
  StartPlaced (AfterDirectives ds) i = DirectivesPlaced ds
  StartPlaced (AfterRoot ro) i = RootedPlaced ro (terminal DocumentStart i)

  pub RootedPlaced : Rooted → Terminal → Type 0
  RootedPlaced (BareRoot b t) x = BeforePlaced b × Placed t (RightOf 0) x
  RootedPlaced (ExplicitRoot s i v) x = StartPlaced s i × ContentPlaced v (RightOf 0) (is_stream_kind x.kind) x

abbrev pub StreamPlaced : Stream → Type 0
StreamPlaced (EndFresh b i) = BeforePlaced b
StreamPlaced (EndRooted ro i) = RootedPlaced ro (terminal TheEnd i)
