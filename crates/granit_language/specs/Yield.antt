-- The lexemes that trees spell, in order, before a rest.
use Rattle.std.specs.Prelude.{List, ◌∷◌, Some, None}
use Rattle.granit_language.specs.Node.{TreeProperties, NoProperties, One, Two, Node, AliasNode, ScalarNode, Alone, Flow}
use Rattle.granit_language.specs.Node.{Sequence, Mapping, Content, Nothing, Just, Entries, Entry, EntryLead, NoEntry}
use Rattle.granit_language.specs.Node.{AfterEntry, Pairs, Through, PairLead, NoPair, AfterPair, Pair, WithColon}
use Rattle.granit_language.specs.Node.{AskOnly, Left, SimpleKey, Asked, NoKey, FlowLead, NoItem, AfterItem, FlowLast}
use Rattle.granit_language.specs.Node.{NoLast, LastItem, FlowItem, Single, Paired, Before, Beginning, ExtraEnd, Closed}
use Rattle.granit_language.specs.Node.{Directives, FirstDirective, NextDirective, Start, AtFresh, AfterDirectives}
use Rattle.granit_language.specs.Node.{AfterRoot, Rooted, BareRoot, ExplicitRoot, Stream, EndFresh, EndRooted}
use Rattle.granit_language.specs.Terminal.{Alias, Property, Scalar, Open, TerminalKind, Directive, DocumentStart}
use Rattle.granit_language.specs.Terminal.{DocumentEnd, TheEnd, Dash, Question, Comma, Colon, Close, Part, Terminal}
use Rattle.granit_language.specs.Terminal.{terminal}

abbrev pub spell_properties : TreeProperties → List Terminal → List Terminal
spell_properties NoProperties rest = rest
spell_properties (One k i) rest = terminal (Part (Property k)) i ∷ rest
spell_properties (Two k i m j) rest = terminal (Part (Property k)) i ∷ terminal (Part (Property m)) j ∷ rest

-- the `:` behind it
abbrev pub colon_kind : Left → TerminalKind
colon_kind (SimpleKey f k n) = Colon (Some n)
colon_kind (Asked q v) = Colon None
colon_kind NoKey = Colon None

abbrev mutual
  pub spell : Node → List Terminal → List Terminal
  spell (AliasNode name i) rest = terminal (Part (Alias name)) i ∷ rest
  spell (ScalarNode p style text i) rest = spell_properties p (terminal (Part (Scalar style text)) i ∷ rest)
  spell (Alone p) rest = spell_properties p rest
  spell (Flow p bracket o lead last e) rest =
      spell_properties p
      (terminal (Part (Open bracket)) o ∷ spell_flow lead (spell_last last (terminal (Close bracket) e ∷ rest)))
  spell (Sequence p loose c es e) rest = spell_properties p (spell_entries es rest)
  spell (Mapping p c ps e) rest = spell_properties p (spell_pairs ps rest)

  pub spell_content : Content → List Terminal → List Terminal
  spell_content Nothing rest = rest
  spell_content (Just t) rest = spell t rest

  pub spell_entries : Entries → List Terminal → List Terminal
  spell_entries (Entry lead i v) rest = spell_entry_lead lead (terminal Dash i ∷ spell_content v rest)

  pub spell_entry_lead : EntryLead → List Terminal → List Terminal
  spell_entry_lead NoEntry rest = rest
  spell_entry_lead (AfterEntry es) rest = spell_entries es rest

  pub spell_pairs : Pairs → List Terminal → List Terminal
  spell_pairs (Through lead pair) rest = spell_pair_lead lead (spell_pair pair rest)

  pub spell_pair_lead : PairLead → List Terminal → List Terminal
  spell_pair_lead NoPair rest = rest
  spell_pair_lead (AfterPair ps) rest = spell_pairs ps rest

  pub spell_pair : Pair → List Terminal → List Terminal
  spell_pair (WithColon left m v) rest = spell_left left (terminal (colon_kind left) m ∷ spell_content v rest)
  spell_pair (AskOnly q v e) rest = terminal Question q ∷ spell_content v rest

  pub spell_left : Left → List Terminal → List Terminal
  spell_left (SimpleKey f k n) rest = spell k rest
  spell_left (Asked q v) rest = terminal Question q ∷ spell_content v rest
  spell_left NoKey rest = rest

  pub spell_flow : FlowLead → List Terminal → List Terminal
  spell_flow NoItem rest = rest
  spell_flow (AfterItem lead item m) rest = spell_flow lead (spell_item item (terminal Comma m ∷ rest))

  pub spell_last : FlowLast → List Terminal → List Terminal
  spell_last NoLast rest = rest
  spell_last (LastItem item) rest = spell_item item rest

  pub spell_item : FlowItem → List Terminal → List Terminal
  spell_item (Single t) rest = spell t rest
  spell_item (Paired pair) rest = spell_pair pair rest

abbrev mutual
  pub spell_before : Before → List Terminal → List Terminal
  spell_before Beginning rest = rest
  spell_before (ExtraEnd b i) rest = spell_before b (terminal DocumentEnd i ∷ rest)
  spell_before (Closed ro i) rest = spell_rooted ro (terminal DocumentEnd i ∷ rest)

  pub spell_directives : Directives → List Terminal → List Terminal
  spell_directives (FirstDirective b d i) rest = spell_before b (terminal (Directive d) i ∷ rest)
  spell_directives (NextDirective ds d i) rest = spell_directives ds (terminal (Directive d) i ∷ rest)

  pub spell_start : Start → List Terminal → List Terminal
  spell_start (AtFresh b) rest = spell_before b rest
  spell_start (AfterDirectives ds) rest = spell_directives ds rest
  spell_start (AfterRoot ro) rest = spell_rooted ro rest

  pub spell_rooted : Rooted → List Terminal → List Terminal
  spell_rooted (BareRoot b t) rest = spell_before b (spell t rest)
  spell_rooted (ExplicitRoot s i v) rest = spell_start s (terminal DocumentStart i ∷ spell_content v rest)

abbrev pub spell_stream : Stream → List Terminal → List Terminal
spell_stream (EndFresh b i) rest = spell_before b (terminal TheEnd i ∷ rest)
spell_stream (EndRooted ro i) rest = spell_rooted ro (terminal TheEnd i ∷ rest)
