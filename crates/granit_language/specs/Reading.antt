-- What a reading asks of the lexemes alone, beside a placed stream that spells them.
use Rattle.std.specs.Prelude.{◌≡◌, ℕ, Bool, true, ◌||◌, not, ◌==◌, List, [], ◌∷◌, Option, Some, None}
use Rattle.granit_language.specs.Fitting.{with_inner_key, outer_keys, without_inner_key, is_inner_key}
use Rattle.granit_language.specs.Node.{Node, AliasNode, ScalarNode, Alone, Flow, Sequence, Mapping, Content, Nothing}
use Rattle.granit_language.specs.Node.{Just, Entries, Entry, EntryLead, NoEntry, AfterEntry, Pairs, Through, PairLead}
use Rattle.granit_language.specs.Node.{NoPair, AfterPair, Pair, WithColon, AskOnly, Left, SimpleKey, Asked, NoKey}
use Rattle.granit_language.specs.Node.{FlowLead, NoItem, AfterItem, FlowLast, NoLast, LastItem, FlowItem, Single}
use Rattle.granit_language.specs.Node.{Paired, Before, Beginning, ExtraEnd, Closed, Directives, FirstDirective}
use Rattle.granit_language.specs.Node.{NextDirective, Start, AtFresh, AfterDirectives, AfterRoot, Rooted, BareRoot}
use Rattle.granit_language.specs.Node.{ExplicitRoot, Stream, EndFresh, EndRooted}
use Rattle.granit_language.specs.Placed.{StreamPlaced}
use Rattle.granit_language.specs.Terminal.{Open, TerminalKind, Dash, Colon, Close, Part, At, Terminal}
use Rattle.granit_language.specs.Terminal.{begins_entry_kind}
use Rattle.granit_language.specs.Yield.{spell_stream}

-- what begins an entry of a block collection
abbrev pub begins_kind : TerminalKind → Bool → Bool
begins_kind Dash begins_key = true
begins_kind kind begins_key = begins_entry_kind kind begins_key

-- outside flow it begins its line or directly follows an indicator
abbrev pub line_fits : Terminal → Bool
line_fits x = x.at.in_flow || (not (begins_kind x.kind x.at.begins_key) || (x.at.begins_line || x.at.follows_indicator))

abbrev pub LinesFit : List Terminal → Type 0
LinesFit [] = Unit {0}
LinesFit (x ∷ xs) = (line_fits x ≡ true) × LinesFit xs

abbrev pub keys_next : TerminalKind → At → List (Option ℕ) → List (Option ℕ)
keys_next (Part (Open bracket)) i ks = None ∷ with_inner_key i.begins_key i.number ks
keys_next (Part k) i ks = with_inner_key i.begins_key i.number ks
keys_next (Close bracket) i ks = outer_keys ks
keys_next (Colon (Some n)) i ks = without_inner_key ks
keys_next kind i ks = ks

abbrev pub key_fits : TerminalKind → List (Option ℕ) → Bool
key_fits (Colon (Some n)) ks = is_inner_key n ks
key_fits kind ks = true

-- each `:` names the last lexeme at its depth that begins a simple key
abbrev pub KeysFit : List (Option ℕ) → List Terminal → Type 0
KeysFit ks [] = Unit {0}
KeysFit ks (x ∷ xs) = (key_fits x.kind ks ≡ true) × KeysFit (keys_next x.kind x.at ks) xs

-- the `:` of each simple key bears the number of the key's first lexeme
abbrev mutual
  pub NodeNamed : Node → Type 0
  NodeNamed (AliasNode name i) = Unit {0}
  NodeNamed (ScalarNode p style text i) = Unit {0}
  NodeNamed (Alone p) = Unit {0}
  NodeNamed (Flow p bracket o lead last e) = FlowNamed lead × LastNamed last
  NodeNamed (Sequence p loose c es e) = EntriesNamed es
  NodeNamed (Mapping p c ps e) = PairsNamed ps

  pub ContentNamed : Content → Type 0
  ContentNamed Nothing = Unit {0}
  ContentNamed (Just t) = NodeNamed t

  pub EntriesNamed : Entries → Type 0
  EntriesNamed (Entry lead i v) = EntryLeadNamed lead × ContentNamed v

  pub EntryLeadNamed : EntryLead → Type 0
  EntryLeadNamed NoEntry = Unit {0}
  EntryLeadNamed (AfterEntry es) = EntriesNamed es

  pub PairsNamed : Pairs → Type 0
  PairsNamed (Through lead pair) = PairLeadNamed lead × PairNamed pair

  pub PairLeadNamed : PairLead → Type 0
  PairLeadNamed NoPair = Unit {0}
  PairLeadNamed (AfterPair ps) = PairsNamed ps

  pub PairNamed : Pair → Type 0
  PairNamed (WithColon left m v) = LeftNamed left × ContentNamed v
  PairNamed (AskOnly q v e) = ContentNamed v

  pub LeftNamed : Left → Type 0
  LeftNamed (SimpleKey f k n) = NodeNamed k × ((n == f.at.number) ≡ true)
  LeftNamed (Asked q v) = ContentNamed v
  LeftNamed NoKey = Unit {0}

  pub FlowNamed : FlowLead → Type 0
  FlowNamed NoItem = Unit {0}
  FlowNamed (AfterItem lead item m) = FlowNamed lead × ItemNamed item

  pub LastNamed : FlowLast → Type 0
  LastNamed NoLast = Unit {0}
  LastNamed (LastItem item) = ItemNamed item

  pub ItemNamed : FlowItem → Type 0
  ItemNamed (Single t) = NodeNamed t
  ItemNamed (Paired pair) = PairNamed pair

abbrev mutual
  pub BeforeNamed : Before → Type 0
  BeforeNamed Beginning = Unit {0}
  BeforeNamed (ExtraEnd b i) = BeforeNamed b
  BeforeNamed (Closed ro i) = RootedNamed ro

  pub DirectivesNamed : Directives → Type 0
  DirectivesNamed (FirstDirective b d i) = BeforeNamed b
  DirectivesNamed (NextDirective ds d i) = DirectivesNamed ds

  pub StartNamed : Start → Type 0
  StartNamed (AtFresh b) = BeforeNamed b
  StartNamed (AfterDirectives ds) = DirectivesNamed ds
  StartNamed (AfterRoot ro) = RootedNamed ro

  pub RootedNamed : Rooted → Type 0
  RootedNamed (BareRoot b t) = BeforeNamed b × NodeNamed t
  RootedNamed (ExplicitRoot s i v) = StartNamed s × ContentNamed v

abbrev pub StreamNamed : Stream → Type 0
StreamNamed (EndFresh b i) = BeforeNamed b
StreamNamed (EndRooted ro i) = RootedNamed ro

-- these lexemes are read as this stream
pub record IsReading (xs : List Terminal) (s : Stream) : Type 0 where
  pub spelled : spell_stream s [] ≡ xs
  pub placed : StreamPlaced s
  pub named : StreamNamed s
  pub lines : LinesFit xs
