-- What a placed tree spells is taken as that tree.
use Rattle.std.proofs.Common.{◌≡◌, ℕ, Bool, true, false, List, [], ◌∷◌, refl, sym, ap, ◌∙◌, subst, ◌==◌, not, Some}
use Rattle.std.proofs.Common.{None}
use Rattle.granit_base.specs.Written.{Written}
use Rattle.granit_base.specs.declared.style.ScalarStyle.{ScalarStyle}
use Rattle.granit_grammar.specs.TreeMachine.{Go, if_go, part_take, ReadAs, parse, tree_start}
use Rattle.granit_language.specs.Choice.{choose}
use Rattle.granit_language.specs.Node.{TreeProperties, NoProperties, One, Two, Node, AliasNode, ScalarNode, Alone, Flow}
use Rattle.granit_language.specs.Node.{Sequence, Mapping, Content, Nothing, Just, Entries, Entry, EntryLead, NoEntry}
use Rattle.granit_language.specs.Node.{AfterEntry, Pairs, Through, PairLead, NoPair, AfterPair, Pair, WithColon}
use Rattle.granit_language.specs.Node.{AskOnly, Left, SimpleKey, Asked, NoKey, FlowLead, NoItem, AfterItem, FlowLast}
use Rattle.granit_language.specs.Node.{NoLast, LastItem, FlowItem, Single, Paired, Before, Beginning, ExtraEnd, Closed}
use Rattle.granit_language.specs.Node.{Directives, FirstDirective, NextDirective, Start, AtFresh, AfterDirectives}
use Rattle.granit_language.specs.Node.{AfterRoot, Rooted, BareRoot, ExplicitRoot, Stream, EndFresh, EndRooted}
use Rattle.granit_language.specs.OpenPlace.{Bare, Explicit, Around, BlockPairs, FlowPairs, Hole, AtRoot, AtEntry}
use Rattle.granit_language.specs.OpenPlace.{AtItem, AtKey, AtAsk, AtColon, Fresh, InDirectives, BehindRoot, Ended, Want}
use Rattle.granit_language.specs.OpenPlace.{PastEntry, PastAsk, PastPair, PastItem, holder, room_of, AroundPlaced}
use Rattle.granit_language.specs.OpenPlace.{HolePlaced, ItemOver}
use Rattle.granit_language.specs.Placed.{PropertiesPlaced, SomeProperties, left_front, pair_front, Placed}
use Rattle.granit_language.specs.Placed.{ContentPlaced, EntriesPlaced, EntryLeadPlaced, PairsPlaced, PairLeadPlaced}
use Rattle.granit_language.specs.Placed.{PairPlaced, LeftPlaced, FlowPlaced, LastPlaced, ItemPlaced, BeforePlaced}
use Rattle.granit_language.specs.Placed.{DirectivesPlaced, StartPlaced, RootedPlaced, StreamPlaced}
use Rattle.granit_language.specs.Room.{Holder, BlockIn, KeyIn, room_behind, right_fits, sequence_fits, PartFits}
use Rattle.granit_language.specs.Room.{joins, continues_node, sequence_over, ask_over, place_fits, is_made, pair_over}
use Rattle.granit_language.specs.Settling.{put_in, empty_fits, end_pair, finish_at, settle_place}
use Rattle.granit_language.specs.Terminal.{PartKind, Alias, Property, Scalar, Open, Directive, DocumentStart}
use Rattle.granit_language.specs.Terminal.{DocumentEnd, TheEnd, Dash, Question, Comma, Colon, Close, Part, At, Terminal}
use Rattle.granit_language.specs.Terminal.{terminal, edge, stands_left}
use Rattle.granit_language.specs.Yield.{spell_properties, colon_kind, spell, spell_content, spell_entries}
use Rattle.granit_language.specs.Yield.{spell_entry_lead, spell_pairs, spell_pair_lead, spell_pair, spell_left}
use Rattle.granit_language.specs.Yield.{spell_flow, spell_last, spell_item, spell_before, spell_directives, spell_start}
use Rattle.granit_language.specs.Yield.{spell_rooted, spell_stream}
use Rattle.granit_lexemes.specs.declared.layout.Bracket.{Bracket}
use Rattle.granit_lexemes.specs.declared.layout.Bracket.TheVariants.{Square, Curly}
use Rattle.std.proofs.Common.{eqb-true}
use Rattle.std.proofs.lemmas.Bool.{or_right}
use Rattle.granit_grammar.proofs.Tests.{same_left}
use Rattle.granit_grammar.proofs.Entering.{to_same, steps, alike, close_put, gate_with, past_pairs, site_door, door}
use Rattle.granit_grammar.proofs.Entering.{door_with, enters_entry, enters_part, enters_dash}
use Rattle.granit_grammar.proofs.Numbers.{no_sequence, no_right}

-- properties
pub takes_properties :
    (p : TreeProperties) (r : Hole) (rest : List Terminal) → HolePlaced r → PropertiesPlaced p (room_of r) →
    parse (spell_properties p rest) (door r) ≡ parse rest (door_with r p)
takes_properties NoProperties r rest f g = refl
takes_properties (One k i) r rest f g =
    steps (Part (Property k)) i rest (door r) (Want r (One k i)) (enters_part r NoProperties (Property k) i f g refl)
takes_properties (Two k i m j) r rest f g =
    steps (Part (Property k)) i (terminal (Part (Property m)) j ∷ rest) (door r) (Want r (One k i))
    (enters_part r NoProperties (Property k) i f g.0 refl)
    ∙ steps (Part (Property m)) j rest (Want r (One k i)) (Want r (Two k i m j))
    (to_same (Want r (One k i)) (Part (Property m)) j _ _ (ap (λ b. if_go b (Go (Want r (Two k i m j)))) g.2)
    (enters_part r (One k i) (Property m) j f g.1 g.2))

joins_scalar : (p : TreeProperties) (style : ScalarStyle) (text : Written) → joins p (Scalar style text) ≡ true
joins_scalar NoProperties style text = refl
joins_scalar (One k i) style text = refl
joins_scalar (Two k i m j) style text = refl

joins_open : (p : TreeProperties) (bracket : Bracket) → joins p (Open bracket) ≡ true
joins_open NoProperties bracket = refl
joins_open (One k i) bracket = refl
joins_open (Two k i m j) bracket = refl

scalar_take :
    (r : Hole) (p : TreeProperties) (style : ScalarStyle) (text : Written) (i : At) →
    part_take r p (Scalar style text) i ≡ Go (put_in r (Just (ScalarNode p style text i)))
scalar_take r NoProperties style text i = refl
scalar_take r (One k h) style text i = refl
scalar_take r (Two k h m j) style text i = refl

open_take :
    (r : Hole) (p : TreeProperties) (bracket : Bracket) (i : At) →
    part_take r p (Open bracket) i ≡ Go (Want (AtItem r p bracket i NoItem) NoProperties)
open_take r NoProperties bracket i = refl
open_take r (One k h) bracket i = refl
open_take r (Two k h m j) bracket i = refl

pub takes_opener :
    (r : Hole) (p : TreeProperties) (bracket : Bracket) (o : At) (rest : List Terminal) → HolePlaced r →
    PropertiesPlaced p (room_of r) → PartFits (room_behind p (room_of r)) (Open bracket) o →
    parse (spell_properties p (terminal (Part (Open bracket)) o ∷ rest)) (door r)
    ≡ parse rest (Want (AtItem r p bracket o NoItem) NoProperties)
takes_opener r p bracket o rest f g h =
    takes_properties p r (terminal (Part (Open bracket)) o ∷ rest) f g
    ∙ steps (Part (Open bracket)) o rest (door_with r p) (Want (AtItem r p bracket o NoItem) NoProperties)
    (to_same (door_with r p) (Part (Open bracket)) o _ _ (open_take r p bracket o)
    (enters_part r p (Open bracket) o f h (joins_open p bracket)))

-- properties alone end in front of what doesn't go on with them
pub alone_ends :
    (x : Terminal) (r : Hole) (p : TreeProperties) → SomeProperties p →
    continues_node (room_behind p (room_of r)) p x.kind x.at ≡ false →
    settle_place x (door_with r p) ≡ settle_place x (put_in r (Just (Alone p)))
alone_ends x r NoProperties s e = absurd s
alone_ends x r (One k i) s e =
    ap (λ b. choose b (Want r (One k i)) (finish_at x r (Just (Alone (One k i))))) e
    ∙ sym (close_put x r (Just (Alone (One k i))))
alone_ends x r (Two k i m j) s e =
    ap (λ b. choose b (Want r (Two k i m j)) (finish_at x r (Just (Alone (Two k i m j))))) e
    ∙ sym (close_put x r (Just (Alone (Two k i m j))))

-- nothing
nothing_ends : (x : Terminal) (r : Hole) → empty_fits r x ≡ true
    → settle_place x (door r) ≡ settle_place x (put_in r Nothing)
nothing_ends x (AtRoot (Bare b)) e = cc (e)
nothing_ends x (AtRoot (Explicit s i)) e =
    ap (λ b. choose b (BehindRoot (ExplicitRoot s i Nothing)) (Want (AtRoot (Explicit s i)) NoProperties)) e
nothing_ends x (AtEntry r p loose c lead i) e =
    ap
    (λ b.
    choose b (finish_at x (AtEntry r p loose c lead i) Nothing) (Want (AtEntry r p loose c lead i) NoProperties))
    e
nothing_ends x (AtItem r p bracket o lead) e = cc (e)
nothing_ends x (AtKey r a f) e = cc (e)
nothing_ends x (AtAsk r a q) e =
    ap (λ b. choose b (finish_at x (AtAsk r a q) Nothing) (Want (AtAsk r a q) NoProperties)) e
nothing_ends x (AtColon r a left m) e =
    ap (λ b. choose b (finish_at x (AtColon r a left m) Nothing) (Want (AtColon r a left m) NoProperties)) e

-- a sequence and a mapping end
entries_end :
    (x : Terminal) (rest : List Terminal) (r : Hole) (p : TreeProperties) (loose : Bool) (c : ℕ) (es : Entries) →
    sequence_over loose c x ≡ true →
    parse (x ∷ rest) (PastEntry r p loose c es) ≡ parse (x ∷ rest) (put_in r (Just (Sequence p loose c es x.at.start)))
entries_end x rest r p loose c es e =
    alike x rest (PastEntry r p loose c es) (put_in r (Just (Sequence p loose c es x.at.start)))
    (ap (λ b. choose b (finish_at x r (Just (Sequence p loose c es x.at.start))) (PastEntry r p loose c es)) e
    ∙ sym (close_put x r (Just (Sequence p loose c es x.at.start))))

pairs_end :
    (x : Terminal) (rest : List Terminal) (r : Hole) (p : TreeProperties) (c : ℕ) (ps : Pairs) →
    stands_left x c ≡ true →
    parse (x ∷ rest) (past_pairs r p c ps) ≡ parse (x ∷ rest) (put_in r (Just (Mapping p c ps x.at.start)))
pairs_end x rest r p c (Through lead pair) e =
    alike x rest (PastPair r (BlockPairs p c lead) pair) (put_in r (Just (Mapping p c (Through lead pair) x.at.start)))
    (ap
    (λ b.
    choose b (finish_at x r (Just (Mapping p c (Through lead pair) x.at.start)))
    (PastPair r (BlockPairs p c lead) pair))
    e
    ∙ sym (close_put x r (Just (Mapping p c (Through lead pair) x.at.start))))

-- another `-`
dash_stays : (loose : Bool) (c : ℕ) (i : At) → (edge i == c) ≡ true → sequence_over loose c (terminal Dash i) ≡ false
dash_stays true c i e = ap not e
dash_stays false c i e = same_left (edge i) c e

next_dash :
    (r : Hole) (p : TreeProperties) (loose : Bool) (c : ℕ) (es : Entries) (i : At) (rest : List Terminal) →
    (edge i == c) ≡ true →
    parse (terminal Dash i ∷ rest) (PastEntry r p loose c es)
    ≡ parse rest (Want (AtEntry r p loose c (AfterEntry es) i) NoProperties)
next_dash r p loose c es i rest e =
    steps Dash i rest (PastEntry r p loose c es) (Want (AtEntry r p loose c (AfterEntry es) i) NoProperties)
    (record {
      stays =
          ap
          (λ b.
          choose b (finish_at (terminal Dash i) r (Just (Sequence p loose c es i.start)))
          (PastEntry r p loose c es))
          (dash_stays loose c i e);
      goes_to = ap (λ b. if_go b (Go (Want (AtEntry r p loose c (AfterEntry es) i) NoProperties))) e;
    })

-- a keyless `:` behind a `?` key
bare_goes_on :
    (a : Around) (m : At) → place_fits (holder a) m ≡ true → ask_over (holder a) (terminal (Colon None) m) ≡ false
bare_goes_on (BlockPairs p c lead) m e = ap not e
bare_goes_on (FlowPairs p bracket o lead) m e = refl

next_bare :
    (r : Hole) (a : Around) (q : At) (v : Content) (m : At) (rest : List Terminal) → place_fits (holder a) m ≡ true →
    parse (terminal (Colon None) m ∷ rest) (PastAsk r a q v)
    ≡ parse rest (Want (AtColon r a (Asked q v) m) NoProperties)
next_bare r a q v m rest e =
    steps (Colon None) m rest (PastAsk r a q v) (Want (AtColon r a (Asked q v) m) NoProperties)
    (record {
      stays =
          ap
          (λ b.
          choose b
          (end_pair (terminal (Colon None) m) (finish_at (terminal (Colon None) m) r) r a
          (AskOnly q v m.start))
          (PastAsk r a q v))
          (bare_goes_on a m e);
      goes_to = ap (λ b. if_go b (Go (Want (AtColon r a (Asked q v) m) NoProperties))) e;
    })

-- a `?` with no `:`
ask_ends :
    (x : Terminal) (rest : List Terminal) (r : Hole) (a : Around) (q : At) (v : Content) →
    ask_over (holder a) x ≡ true →
    parse (x ∷ rest) (PastAsk r a q v) ≡ parse (x ∷ rest) (PastPair r a (AskOnly q v x.at.start))
ask_ends x rest r a q v e =
    alike x rest (PastAsk r a q v) (PastPair r a (AskOnly q v x.at.start))
    (ap (λ b. choose b (end_pair x (finish_at x r) r a (AskOnly q v x.at.start)) (PastAsk r a q v)) e)

-- a pair of a flow collection, in front of a comma or the closer
comma_over : (bracket : Bracket) (pair : Pair) (i : At) → pair_over bracket pair (terminal Comma i) ≡ true
comma_over Curly pair i = refl
comma_over Square (AskOnly q v e) i = refl
comma_over Square (WithColon left m v) i = or_right (not (is_made left)) true refl

pub closer_over :
    (bracket : Bracket) (pair : Pair) (i : At) → pair_over bracket pair (terminal (Close bracket) i) ≡ true
closer_over Curly pair i = refl
closer_over Square (AskOnly q v e) i = refl
closer_over Square (WithColon left m v) i = or_right (not (is_made left)) true refl

comma_ends : (bracket : Bracket) (item : FlowItem) (i : At) → ItemOver item bracket (terminal Comma i)
comma_ends bracket (Single t) i = tt
comma_ends bracket (Paired pair) i = comma_over bracket pair i

closer_ends : (bracket : Bracket) (item : FlowItem) (i : At) → ItemOver item bracket (terminal (Close bracket) i)
closer_ends bracket (Single t) i = tt
closer_ends bracket (Paired pair) i = closer_over bracket pair i

item_ends :
    (x : Terminal) (rest : List Terminal) (r : Hole) (p : TreeProperties) (bracket : Bracket) (o : At) (lead : FlowLead)
    (pair : Pair) →
    pair_over bracket pair x ≡ true →
    parse (x ∷ rest) (PastPair r (FlowPairs p bracket o lead) pair)
    ≡ parse (x ∷ rest) (PastItem r p bracket o lead (Paired pair))
item_ends x rest r p bracket o lead pair e =
    alike x rest (PastPair r (FlowPairs p bracket o lead) pair) (PastItem r p bracket o lead (Paired pair))
    (ap (λ b. choose b (PastItem r p bracket o lead (Paired pair)) (PastPair r (FlowPairs p bracket o lead) pair)) e)

-- closers
pub closes_empty :
    (r : Hole) (p : TreeProperties) (bracket : Bracket) (o : At) (lead : FlowLead) (e : At) (rest : List Terminal) →
    parse (terminal (Close bracket) e ∷ rest) (Want (AtItem r p bracket o lead) NoProperties)
    ≡ parse rest (put_in r (Just (Flow p bracket o lead NoLast e)))
closes_empty r p Square o lead e rest = refl
closes_empty r p Curly o lead e rest = refl

pub closes_item :
    (r : Hole) (p : TreeProperties) (bracket : Bracket) (o : At) (lead : FlowLead) (item : FlowItem) (e : At)
    (rest : List Terminal) →
    parse (terminal (Close bracket) e ∷ rest) (PastItem r p bracket o lead item)
    ≡ parse rest (put_in r (Just (Flow p bracket o lead (LastItem item) e)))
closes_item r p Square o lead item e rest = refl
closes_item r p Curly o lead item e rest = refl

-- the first lexeme
pub record FirstOf (ls : List Terminal) (first : Terminal) : Type 0 where
  pub rest : List Terminal
  pub is : ls ≡ first ∷ rest

properties_first :
    (p : TreeProperties) (h : Holder) (f : Terminal) (ls : List Terminal) → PropertiesPlaced p (KeyIn h f) →
    (p ≡ NoProperties → FirstOf ls f) → FirstOf (spell_properties p ls) f
properties_first NoProperties h f ls g n = n refl
properties_first (One k i) h f ls g n = record { rest = ls; is = ap (λ f. f ∷ ls) g }
properties_first (Two k i m j) h f ls g n = record {
  rest = terminal (Part (Property m)) j ∷ ls;
  is = ap (λ f. f ∷ terminal (Part (Property m)) j ∷ ls) g.0;
}

pub part_first :
    (p : TreeProperties) (h : Holder) (f : Terminal) (k : PartKind) (i : At) (ls : List Terminal) →
    PropertiesPlaced p (KeyIn h f) → PartFits (room_behind p (KeyIn h f)) k i →
    FirstOf (spell_properties p (terminal (Part k) i ∷ ls)) f
part_first NoProperties h f k i ls g e = record { rest = ls; is = ap (λ f. f ∷ ls) e }
part_first (One m j) h f k i ls g e = record {
  rest = terminal (Part k) i ∷ ls;
  is = ap (λ f. f ∷ terminal (Part k) i ∷ ls) g;
}
part_first (Two m j n b) h f k i ls g e = record {
  rest = terminal (Part (Property n)) b ∷ terminal (Part k) i ∷ ls;
  is = ap (λ f. f ∷ terminal (Part (Property n)) b ∷ terminal (Part k) i ∷ ls) g.0;
}

pub alone_first :
    (p : TreeProperties) (h : Holder) (f : Terminal) (ls : List Terminal) → PropertiesPlaced p (KeyIn h f) →
    SomeProperties p → FirstOf (spell_properties p ls) f
alone_first NoProperties h f ls g s = absurd s
alone_first (One m j) h f ls g s = record { rest = ls; is = ap (λ f. f ∷ ls) g }
alone_first (Two m j n b) h f ls g s = record {
  rest = terminal (Part (Property n)) b ∷ ls;
  is = ap (λ f. f ∷ terminal (Part (Property n)) b ∷ ls) g.0;
}

pub key_first :
    (k : Node) (h : Holder) (f x : Terminal) (ls : List Terminal) → Placed k (KeyIn h f) x → FirstOf (spell k ls) f
key_first (AliasNode name i) h f x ls g = record { rest = ls; is = ap (λ f. f ∷ ls) g }
key_first (ScalarNode p style text i) h f x ls g = part_first p h f (Scalar style text) i ls g.0 g.1
key_first (Alone p) h f x ls g = alone_first p h f ls g.0 g.1
key_first (Flow p bracket o lead last e) h f x ls g =
    part_first p h f (Open bracket) o (spell_flow lead (spell_last last (terminal (Close bracket) e ∷ ls))) g.0 g.1
key_first (Sequence p loose c es e) h f x ls g = absurd (no_sequence p h f loose c g.1)
key_first (Mapping p c ps e) h f x ls g = absurd (no_right p h f c g.1)

pub left_first :
    (left : Left) (h : Holder) (m : At) (ls : List Terminal) → LeftPlaced left h m →
    FirstOf (spell_left left (terminal (colon_kind left) m ∷ ls)) (left_front left m)
left_first (SimpleKey f k n) h m ls g =
    key_first k h f (terminal (Colon (Some n)) m) (terminal (Colon (Some n)) m ∷ ls) g.1
left_first (Asked q v) h m ls g = record { rest = _; is = refl }
left_first NoKey h m ls g = record { rest = ls; is = refl }

pub pair_first :
    (pair : Pair) (h : Holder) (x : Terminal) (ls : List Terminal) → PairPlaced pair h x →
    FirstOf (spell_pair pair ls) (pair_front pair)
pair_first (WithColon left m v) h x ls g = left_first left h m (spell_content v ls) g.0
pair_first (AskOnly q v e) h x ls g = record { rest = spell_content v ls; is = refl }

-- outside simple keys the door is the gate
door_gate :
    (r : Hole) (p : TreeProperties) (c : ℕ) → right_fits (room_behind p (room_of r)) c ≡ true →
    door_with r p ≡ gate_with r p
door_gate (AtRoot root) NoProperties c e = refl
door_gate (AtEntry r q loose d lead i) NoProperties c e = refl
door_gate (AtItem r q bracket o lead) NoProperties c e = refl
door_gate (AtKey r a f) NoProperties c e = cc (e)
door_gate (AtAsk r a q) NoProperties c e = refl
door_gate (AtColon r a left m) NoProperties c e = refl
door_gate r (One k i) c e = refl
door_gate r (Two k i m j) c e = refl

mutual
  pub takes :
      (t : Node) (r : Hole) (x : Terminal) (rest : List Terminal) → HolePlaced r → Placed t (room_of r) x →
      parse (spell t (x ∷ rest)) (door r) ≡ parse (x ∷ rest) (put_in r (Just t))
  takes (AliasNode name i) r x rest f g =
      steps (Part (Alias name)) i (x ∷ rest) (door r) (put_in r (Just (AliasNode name i)))
      (enters_part r NoProperties (Alias name) i f g refl)
  takes (ScalarNode p style text i) r x rest f g =
      takes_properties p r (terminal (Part (Scalar style text)) i ∷ x ∷ rest) f g.0
      ∙ steps (Part (Scalar style text)) i (x ∷ rest) (door_with r p) (put_in r (Just (ScalarNode p style text i)))
      (to_same (door_with r p) (Part (Scalar style text)) i _ _ (scalar_take r p style text i)
      (enters_part r p (Scalar style text) i f g.1 (joins_scalar p style text)))
  takes (Alone p) r x rest f g =
      takes_properties p r (x ∷ rest) f g.0
      ∙ alike x rest (door_with r p) (put_in r (Just (Alone p))) (alone_ends x r p g.1 g.2)
  takes (Flow p bracket o lead last e) r x rest f g =
      takes_opener r p bracket o (spell_flow lead (spell_last last (terminal (Close bracket) e ∷ x ∷ rest))) f g.0 g.1
      ∙ takes_flow lead r p bracket o (spell_last last (terminal (Close bracket) e ∷ x ∷ rest)) f g.0 g.1 g.2
      ∙ takes_last last r p bracket o lead e (x ∷ rest) (f, g.0, g.1, g.2) g.3
  takes (Sequence p loose c es e) r x rest f g =
      takes_properties p r (spell_entries es (x ∷ rest)) f g.0
      ∙ takes_entries es r p loose c x rest f g.0 g.1 g.2
      ∙ entries_end x rest r p loose c es g.3
      ∙ ap (λ e. parse (x ∷ rest) (put_in r (Just (Sequence p loose c es e)))) (sym g.4)
  takes (Mapping p c ps e) r x rest f g =
      takes_properties p r (spell_pairs ps (x ∷ rest)) f g.0
      ∙ takes_pairs ps r p c x rest f g.0 g.1 g.2
      ∙ pairs_end x rest r p c ps g.3
      ∙ ap (λ e. parse (x ∷ rest) (put_in r (Just (Mapping p c ps e)))) (sym g.4)

  pub takes_content :
      (v : Content) (r : Hole) (x : Terminal) (rest : List Terminal) → HolePlaced r →
      ContentPlaced v (room_of r) (empty_fits r x) x →
      parse (spell_content v (x ∷ rest)) (door r) ≡ parse (x ∷ rest) (put_in r v)
  takes_content Nothing r x rest f g = alike x rest (door r) (put_in r Nothing) (nothing_ends x r g)
  takes_content (Just t) r x rest f g = takes t r x rest f g

  pub takes_entries :
      (es : Entries) (r : Hole) (p : TreeProperties) (loose : Bool) (c : ℕ) (x : Terminal) (rest : List Terminal) →
      HolePlaced r → PropertiesPlaced p (room_of r) → sequence_fits (room_behind p (room_of r)) loose c ≡ true →
      EntriesPlaced es loose c x →
      parse (spell_entries es (x ∷ rest)) (door_with r p) ≡ parse (x ∷ rest) (PastEntry r p loose c es)
  takes_entries (Entry lead i v) r p loose c x rest f g h e =
      takes_entry_lead lead r p loose c i (spell_content v (x ∷ rest)) f g h e.0 e.1
      ∙ takes_content v (AtEntry r p loose c lead i) x rest (f, g, h, e.0, e.1) e.2

  pub takes_entry_lead :
      (lead : EntryLead) (r : Hole) (p : TreeProperties) (loose : Bool) (c : ℕ) (i : At) (rest : List Terminal) →
      HolePlaced r → PropertiesPlaced p (room_of r) → sequence_fits (room_behind p (room_of r)) loose c ≡ true →
      EntryLeadPlaced lead loose c i → (edge i == c) ≡ true →
      parse (spell_entry_lead lead (terminal Dash i ∷ rest)) (door_with r p)
      ≡ parse rest (Want (AtEntry r p loose c lead i) NoProperties)
  takes_entry_lead NoEntry r p loose c i rest f g h e q =
      let same = eqb-true (edge i) c q in
      subst
      (λ c.
      parse (terminal Dash i ∷ rest) (door_with r p)
      ≡ parse rest (Want (AtEntry r p loose c NoEntry i) NoProperties))
      same
      (steps Dash i rest (door_with r p) (Want (AtEntry r p loose (edge i) NoEntry i) NoProperties)
      (enters_dash r p loose i
      (subst (λ c. sequence_fits (room_behind p (room_of r)) loose c ≡ true) (sym same) h)))
  takes_entry_lead (AfterEntry es) r p loose c i rest f g h e q =
      takes_entries es r p loose c (terminal Dash i) rest f g h e ∙ next_dash r p loose c es i rest q

  pub takes_pairs :
      (ps : Pairs) (r : Hole) (p : TreeProperties) (c : ℕ) (x : Terminal) (rest : List Terminal) → HolePlaced r →
      PropertiesPlaced p (room_of r) → right_fits (room_behind p (room_of r)) c ≡ true → PairsPlaced ps c x →
      parse (spell_pairs ps (x ∷ rest)) (door_with r p) ≡ parse (x ∷ rest) (past_pairs r p c ps)
  takes_pairs (Through lead pair) r p c x rest f g h e =
      let o = pair_first pair (BlockIn c) x (x ∷ rest) e.1 in
      ap (λ ls. parse (spell_pair_lead lead ls) (door_with r p)) o.is
      ∙ takes_pair_lead lead r p c (pair_front pair) o.rest f g h e.0
      ∙ ap (λ ls. parse ls (site_door r (BlockPairs p c lead))) (sym o.is)
      ∙ takes_pair pair r (BlockPairs p c lead) x rest f (g, h, e.0) e.1

  pub takes_pair_lead :
      (lead : PairLead) (r : Hole) (p : TreeProperties) (c : ℕ) (x : Terminal) (rest : List Terminal) → HolePlaced r →
      PropertiesPlaced p (room_of r) → right_fits (room_behind p (room_of r)) c ≡ true → PairLeadPlaced lead c x →
      parse (spell_pair_lead lead (x ∷ rest)) (door_with r p) ≡ parse (x ∷ rest) (site_door r (BlockPairs p c lead))
  takes_pair_lead NoPair r p c x rest f g h e = ap (λ q. parse (x ∷ rest) q) (door_gate r p c h)
  takes_pair_lead (AfterPair ps) r p c x rest f g h e = takes_pairs ps r p c x rest f g h e

  pub takes_pair :
      (pair : Pair) (r : Hole) (a : Around) (x : Terminal) (rest : List Terminal) → HolePlaced r →
      AroundPlaced a (room_of r) (pair_front pair) → PairPlaced pair (holder a) x →
      parse (spell_pair pair (x ∷ rest)) (site_door r a) ≡ parse (x ∷ rest) (PastPair r a pair)
  takes_pair (WithColon left m v) r a x rest f g e =
      takes_left left r a m (spell_content v (x ∷ rest)) f g e.0
      ∙ takes_content v (AtColon r a left m) x rest (f, g, e.0) e.1
  takes_pair (AskOnly q v e) r a x rest f g h =
      steps Question q (spell_content v (x ∷ rest)) (site_door r a) (Want (AtAsk r a q) NoProperties)
      (enters_entry r a Question q (terminal Question q) g h.0)
      ∙ takes_content v (AtAsk r a q) x rest (f, g, h.0) h.1
      ∙ ask_ends x rest r a q v h.2
      ∙ ap (λ e. parse (x ∷ rest) (PastPair r a (AskOnly q v e))) (sym h.3)

  pub takes_left :
      (left : Left) (r : Hole) (a : Around) (m : At) (rest : List Terminal) → HolePlaced r →
      AroundPlaced a (room_of r) (left_front left m) → LeftPlaced left (holder a) m →
      parse (spell_left left (terminal (colon_kind left) m ∷ rest)) (site_door r a)
      ≡ parse rest (Want (AtColon r a left m) NoProperties)
  takes_left (SimpleKey k t n) r a m rest f g e =
      takes t (AtKey r a k) (terminal (Colon (Some n)) m) rest (f, g, e.0) e.1
  takes_left (Asked q v) r a m rest f g e =
      steps Question q (spell_content v (terminal (Colon None) m ∷ rest)) (site_door r a)
      (Want (AtAsk r a q) NoProperties) (enters_entry r a Question q (terminal Question q) g e.0)
      ∙ takes_content v (AtAsk r a q) (terminal (Colon None) m) rest (f, g, e.0) e.1
      ∙ next_bare r a q v m rest e.2
  takes_left NoKey r a m rest f g e =
      steps (Colon None) m rest (site_door r a) (Want (AtColon r a NoKey m) NoProperties)
      (enters_entry r a (Colon None) m (terminal (Colon None) m) g e)

  pub takes_flow :
      (lead : FlowLead) (r : Hole) (p : TreeProperties) (bracket : Bracket) (o : At) (rest : List Terminal) →
      HolePlaced r → PropertiesPlaced p (room_of r) → PartFits (room_behind p (room_of r)) (Open bracket) o →
      FlowPlaced lead bracket →
      parse (spell_flow lead rest) (Want (AtItem r p bracket o NoItem) NoProperties)
      ≡ parse rest (Want (AtItem r p bracket o lead) NoProperties)
  takes_flow NoItem r p bracket o rest f g h e = refl
  takes_flow (AfterItem lead item m) r p bracket o rest f g h e =
      takes_flow lead r p bracket o (spell_item item (terminal Comma m ∷ rest)) f g h e.0
      ∙ takes_item item r p bracket o lead (terminal Comma m) rest (f, g, h, e.0) e.1 (comma_ends bracket item m)

  pub takes_last :
      (last : FlowLast) (r : Hole) (p : TreeProperties) (bracket : Bracket) (o : At) (lead : FlowLead) (e : At)
      (rest : List Terminal) →
      HolePlaced (AtItem r p bracket o lead) → LastPlaced last bracket (terminal (Close bracket) e) →
      parse (spell_last last (terminal (Close bracket) e ∷ rest)) (Want (AtItem r p bracket o lead) NoProperties)
      ≡ parse rest (put_in r (Just (Flow p bracket o lead last e)))
  takes_last NoLast r p bracket o lead e rest f g = closes_empty r p bracket o lead e rest
  takes_last (LastItem item) r p bracket o lead e rest f g =
      takes_item item r p bracket o lead (terminal (Close bracket) e) rest f g (closer_ends bracket item e)
      ∙ closes_item r p bracket o lead item e rest

  pub takes_item :
      (item : FlowItem) (r : Hole) (p : TreeProperties) (bracket : Bracket) (o : At) (lead : FlowLead) (x : Terminal)
      (rest : List Terminal) →
      HolePlaced (AtItem r p bracket o lead) → ItemPlaced item bracket x → ItemOver item bracket x →
      parse (spell_item item (x ∷ rest)) (Want (AtItem r p bracket o lead) NoProperties)
      ≡ parse (x ∷ rest) (PastItem r p bracket o lead item)
  takes_item (Single t) r p bracket o lead x rest f g over = takes t (AtItem r p bracket o lead) x rest f g
  takes_item (Paired pair) r p bracket o lead x rest f g over =
      takes_pair pair r (FlowPairs p bracket o lead) x rest f.0 (f.1, f.2, f.3) g
      ∙ item_ends x rest r p bracket o lead pair over

-- documents
mutual
  pub takes_before :
      (b : Before) (rest : List Terminal) → BeforePlaced b →
      parse (spell_before b rest) tree_start ≡ parse rest (Fresh b)
  takes_before Beginning rest f = refl
  takes_before (ExtraEnd b i) rest f = takes_before b (terminal DocumentEnd i ∷ rest) f
  takes_before (Closed ro i) rest f = takes_rooted ro (terminal DocumentEnd i) rest f

  pub takes_directives :
      (ds : Directives) (rest : List Terminal) → DirectivesPlaced ds →
      parse (spell_directives ds rest) tree_start ≡ parse rest (InDirectives ds)
  takes_directives (FirstDirective b d i) rest f = takes_before b (terminal (Directive d) i ∷ rest) f
  takes_directives (NextDirective ds d i) rest f = takes_directives ds (terminal (Directive d) i ∷ rest) f

  pub takes_start :
      (s : Start) (i : At) (rest : List Terminal) → StartPlaced s i →
      parse (spell_start s (terminal DocumentStart i ∷ rest)) tree_start
      ≡ parse rest (Want (AtRoot (Explicit s i)) NoProperties)
  takes_start (AtFresh b) i rest f = takes_before b (terminal DocumentStart i ∷ rest) f
  takes_start (AfterDirectives ds) i rest f = takes_directives ds (terminal DocumentStart i ∷ rest) f
  takes_start (AfterRoot ro) i rest f = takes_rooted ro (terminal DocumentStart i) rest f

  pub takes_rooted :
      (ro : Rooted) (x : Terminal) (rest : List Terminal) → RootedPlaced ro x →
      parse (spell_rooted ro (x ∷ rest)) tree_start ≡ parse (x ∷ rest) (BehindRoot ro)
  takes_rooted (BareRoot b t) x rest f =
      takes_before b (spell t (x ∷ rest)) f.0 ∙ takes t (AtRoot (Bare b)) x rest f.0 f.1
  takes_rooted (ExplicitRoot s i v) x rest f =
      takes_start s i (spell_content v (x ∷ rest)) f.0 ∙ takes_content v (AtRoot (Explicit s i)) x rest f.0 f.1

pub takes_stream :
    (s : Stream) (rest : List Terminal) → StreamPlaced s → parse (spell_stream s rest) tree_start ≡ parse rest (Ended s)
takes_stream (EndFresh b i) rest f = takes_before b (terminal TheEnd i ∷ rest) f
takes_stream (EndRooted ro i) rest f = takes_rooted ro (terminal TheEnd i) rest f

-- a placed stream is read
pub reads : (s : Stream) → StreamPlaced s → parse (spell_stream s []) tree_start ≡ ReadAs s
reads s f = takes_stream s [] f

pub one_stream : (a b : Stream) → StreamPlaced a → StreamPlaced b → spell_stream a [] ≡ spell_stream b [] → a ≡ b
one_stream a b p q e = let f = reads a p in let g = reads b q in cc (f, g, ap (λ ls. parse ls tree_start) e)
