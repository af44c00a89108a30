-- Where each colon names the last lexeme at its depth that begins a simple key, the trees' keys are named.
use Rattle.std.proofs.Common.{◌≡◌, ℕ, Bool, true, false, List, [], ◌∷◌, refl, subst, ◌&&◌, not, Option, Some, None}
use Rattle.std.proofs.lemmas.Bool.{and_parts, not-true}
use Rattle.granit_base.specs.Written.{Written}
use Rattle.granit_base.specs.declared.style.ScalarStyle.{ScalarStyle}
use Rattle.granit_language.specs.Fitting.{with_inner_key}
use Rattle.granit_language.specs.Node.{TreeProperties, NoProperties, One, Two, Node, AliasNode, ScalarNode, Alone, Flow}
use Rattle.granit_language.specs.Node.{Sequence, Mapping, Content, Nothing, Just, Entries, Entry, EntryLead, NoEntry}
use Rattle.granit_language.specs.Node.{AfterEntry, Pairs, Through, PairLead, NoPair, AfterPair, Pair, WithColon}
use Rattle.granit_language.specs.Node.{AskOnly, Left, SimpleKey, Asked, NoKey, FlowLead, NoItem, AfterItem, FlowLast}
use Rattle.granit_language.specs.Node.{NoLast, LastItem, FlowItem, Single, Paired, Before, Beginning, ExtraEnd, Closed}
use Rattle.granit_language.specs.Node.{Directives, FirstDirective, NextDirective, Start, AtFresh, AfterDirectives}
use Rattle.granit_language.specs.Node.{AfterRoot, Rooted, BareRoot, ExplicitRoot, Stream, EndFresh, EndRooted}
use Rattle.granit_language.specs.Placed.{PropertiesPlaced, SomeProperties, pair_front, Placed, ContentPlaced}
use Rattle.granit_language.specs.Placed.{EntriesPlaced, EntryLeadPlaced, PairsPlaced, PairLeadPlaced, PairPlaced}
use Rattle.granit_language.specs.Placed.{LeftPlaced, FlowPlaced, LastPlaced, ItemPlaced, BeforePlaced, DirectivesPlaced}
use Rattle.granit_language.specs.Placed.{StartPlaced, RootedPlaced, StreamPlaced}
use Rattle.granit_language.specs.Reading.{KeysFit, NodeNamed, ContentNamed, EntriesNamed, EntryLeadNamed}
use Rattle.granit_language.specs.Reading.{PairsNamed, PairLeadNamed, PairNamed, LeftNamed, FlowNamed, LastNamed}
use Rattle.granit_language.specs.Reading.{ItemNamed, BeforeNamed, DirectivesNamed, StartNamed, RootedNamed, StreamNamed}
use Rattle.granit_language.specs.Room.{Holder, BlockIn, FlowIn, Room, RightOf, ValueIn, KeyIn, BehindKey, ItemIn}
use Rattle.granit_language.specs.Room.{Inside, behind_property, room_behind, right_fits, sequence_fits, part_fits}
use Rattle.granit_language.specs.Room.{PartFits, entry_empty, room_value, value_empty, ask_empty}
use Rattle.granit_language.specs.Terminal.{PartKind, Alias, Property, Scalar, Open, Directive, DocumentStart}
use Rattle.granit_language.specs.Terminal.{DocumentEnd, TheEnd, Dash, Comma, Colon, Close, Part, At, Terminal, terminal}
use Rattle.granit_language.specs.Terminal.{is_stream_kind}
use Rattle.granit_language.specs.Yield.{spell_properties, colon_kind, spell, spell_content, spell_entries}
use Rattle.granit_language.specs.Yield.{spell_entry_lead, spell_pairs, spell_pair_lead, spell_pair, spell_left}
use Rattle.granit_language.specs.Yield.{spell_flow, spell_last, spell_item, spell_before, spell_directives, spell_start}
use Rattle.granit_language.specs.Yield.{spell_rooted, spell_stream}
use Rattle.granit_lexemes.specs.declared.layout.Bracket.{Bracket}

unflagged : (a b : Bool) → (not a && b) ≡ true → a ≡ false
unflagged true b e = cc (e)
unflagged false b e = refl

-- a lexeme with no key
no_flag : (room : Room) (i : At) → part_fits room i ≡ true → i.begins_key ≡ false
no_flag (RightOf n) i e = unflagged i.begins_key _ e
no_flag (ValueIn c) i e = unflagged i.begins_key _ e
no_flag (KeyIn h f) i e = cc (e)
no_flag (BehindKey c) i e = unflagged i.begins_key _ e
no_flag ItemIn i e = not-true i.begins_key e
no_flag Inside i e = not-true i.begins_key e

abbrev NoKeyRoom : Room → Type 0
NoKeyRoom (KeyIn h f) = ⊥
NoKeyRoom room = Unit {0}

fits_no_flag : (room : Room) (k : PartKind) (i : At) → NoKeyRoom room → PartFits room k i → i.begins_key ≡ false
fits_no_flag (RightOf n) k i r e = no_flag (RightOf n) i e
fits_no_flag (ValueIn c) k i r e = no_flag (ValueIn c) i e
fits_no_flag (KeyIn h f) k i r e = absurd r
fits_no_flag (BehindKey c) k i r e = no_flag (BehindKey c) i e
fits_no_flag ItemIn k i r e = no_flag ItemIn i e
fits_no_flag Inside k i r e = no_flag Inside i e

behind_no_key : (room : Room) → NoKeyRoom (behind_property room)
behind_no_key (RightOf n) = tt
behind_no_key (ValueIn c) = tt
behind_no_key (KeyIn (BlockIn c) f) = tt
behind_no_key (KeyIn (FlowIn bracket) f) = tt
behind_no_key (BehindKey c) = tt
behind_no_key ItemIn = tt
behind_no_key Inside = tt

no_key_behind : (p : TreeProperties) (room : Room) → NoKeyRoom room → NoKeyRoom (room_behind p room)
no_key_behind NoProperties room r = r
no_key_behind (One k i) room r = behind_no_key room
no_key_behind (Two k i m j) room r = behind_no_key room

value_no_key : (h : Holder) → NoKeyRoom (room_value h)
value_no_key (BlockIn c) = tt
value_no_key (FlowIn bracket) = tt

-- flags
drop_flag :
    (b : Bool) (n : ℕ) (ks : List (Option ℕ)) (rest : List Terminal) → b ≡ false →
    KeysFit (with_inner_key b n ks) rest → KeysFit ks rest
drop_flag b n ks rest e g = subst (λ b. KeysFit (with_inner_key b n ks) rest) e g

keep_flag :
    (b : Bool) (n : ℕ) (k : Option ℕ) (ks : List (Option ℕ)) (rest : List Terminal) → b ≡ true →
    KeysFit (with_inner_key b n (k ∷ ks)) rest → KeysFit (Some n ∷ ks) rest
keep_flag b n k ks rest e g = subst (λ b. KeysFit (with_inner_key b n (k ∷ ks)) rest) e g

-- properties
properties_pass :
    (p : TreeProperties) (room : Room) (k : Option ℕ) (ks : List (Option ℕ)) (rest : List Terminal) → NoKeyRoom room →
    PropertiesPlaced p room → KeysFit (k ∷ ks) (spell_properties p rest) → KeysFit (k ∷ ks) rest
properties_pass NoProperties room k ks rest r f g = g
properties_pass (One m i) room k ks rest r f g =
    drop_flag i.begins_key i.number (k ∷ ks) rest (fits_no_flag room (Property m) i r f) g.1
properties_pass (Two m i n j) room k ks rest r f g =
    drop_flag j.begins_key j.number (k ∷ ks) rest
    (fits_no_flag (behind_property room) (Property n) j (behind_no_key room) f.1)
    (drop_flag i.begins_key i.number (k ∷ ks) (terminal (Part (Property n)) j ∷ rest)
    (fits_no_flag room (Property m) i r f.0) g.1).1

-- those of a simple key, whose first lexeme is given: behind them
key_properties :
    (p : TreeProperties) (h : Holder) (f : Terminal) (k : Option ℕ) (ks : List (Option ℕ)) (rest : List Terminal) →
    f.at.begins_key ≡ true → SomeProperties p → PropertiesPlaced p (KeyIn h f) →
    KeysFit (k ∷ ks) (spell_properties p rest) → KeysFit (Some f.at.number ∷ ks) rest
key_properties NoProperties h f k ks rest b s e g = absurd s
key_properties (One m i) h f k ks rest b s e g =
    subst (λ f. f.at.begins_key ≡ true → KeysFit (Some f.at.number ∷ ks) rest) e
    (λ b. keep_flag i.begins_key i.number k ks rest b g.1) b
key_properties (Two m i n j) h f k ks rest b s e g =
    drop_flag j.begins_key j.number (Some f.at.number ∷ ks) rest
    (fits_no_flag (behind_property (KeyIn h f)) (Property n) j (behind_no_key (KeyIn h f)) e.1)
    (subst (λ f. f.at.begins_key ≡ true → KeysFit (Some f.at.number ∷ ks) (terminal (Part (Property n)) j ∷ rest)) e.0
    (λ b. keep_flag i.begins_key i.number k ks (terminal (Part (Property n)) j ∷ rest) b g.1) b).1

-- a scalar and an opener behind properties
body_pass :
    (p : TreeProperties) (room : Room) (k : PartKind) (i : At) → NoKeyRoom room → PartFits (room_behind p room) k i →
    i.begins_key ≡ false
body_pass p room k i r f = fits_no_flag (room_behind p room) k i (no_key_behind p room r) f

-- the first lexeme of a simple key, or one behind its properties
key_scalar :
    (p : TreeProperties) (h : Holder) (f : Terminal) (style : ScalarStyle) (text : Written) (i : At) (k : Option ℕ)
    (ks : List (Option ℕ)) (rest : List Terminal) →
    f.at.begins_key ≡ true → PropertiesPlaced p (KeyIn h f) →
    PartFits (room_behind p (KeyIn h f)) (Scalar style text) i →
    KeysFit (k ∷ ks) (spell_properties p (terminal (Part (Scalar style text)) i ∷ rest)) →
    KeysFit (Some f.at.number ∷ ks) rest
key_scalar NoProperties h f style text i k ks rest b q e g =
    subst (λ f. f.at.begins_key ≡ true → KeysFit (Some f.at.number ∷ ks) rest) e
    (λ b. keep_flag i.begins_key i.number k ks rest b g.1) b
key_scalar (One m j) h f style text i k ks rest b q e g =
    drop_flag i.begins_key i.number (Some f.at.number ∷ ks) rest
    (fits_no_flag (behind_property (KeyIn h f)) (Scalar style text) i (behind_no_key (KeyIn h f)) e)
    (key_properties (One m j) h f k ks (terminal (Part (Scalar style text)) i ∷ rest) b tt q g).1
key_scalar (Two m j n d) h f style text i k ks rest b q e g =
    drop_flag i.begins_key i.number (Some f.at.number ∷ ks) rest
    (fits_no_flag (behind_property (KeyIn h f)) (Scalar style text) i (behind_no_key (KeyIn h f)) e)
    (key_properties (Two m j n d) h f k ks (terminal (Part (Scalar style text)) i ∷ rest) b tt q g).1

key_opener :
    (p : TreeProperties) (h : Holder) (f : Terminal) (bracket : Bracket) (i : At) (k : Option ℕ) (ks : List (Option ℕ))
    (rest : List Terminal) →
    f.at.begins_key ≡ true → PropertiesPlaced p (KeyIn h f) → PartFits (room_behind p (KeyIn h f)) (Open bracket) i →
    KeysFit (k ∷ ks) (spell_properties p (terminal (Part (Open bracket)) i ∷ rest)) →
    KeysFit (None ∷ Some f.at.number ∷ ks) rest
key_opener NoProperties h f bracket i k ks rest b q e g =
    subst (λ f. f.at.begins_key ≡ true → KeysFit (None ∷ Some f.at.number ∷ ks) rest) e
    (λ b. subst (λ b. KeysFit (None ∷ with_inner_key b i.number (k ∷ ks)) rest) b g.1) b
key_opener (One m j) h f bracket i k ks rest b q e g =
    subst (λ b. KeysFit (None ∷ with_inner_key b i.number (Some f.at.number ∷ ks)) rest)
    (fits_no_flag (behind_property (KeyIn h f)) (Open bracket) i (behind_no_key (KeyIn h f)) e)
    (key_properties (One m j) h f k ks (terminal (Part (Open bracket)) i ∷ rest) b tt q g).1
key_opener (Two m j n d) h f bracket i k ks rest b q e g =
    subst (λ b. KeysFit (None ∷ with_inner_key b i.number (Some f.at.number ∷ ks)) rest)
    (fits_no_flag (behind_property (KeyIn h f)) (Open bracket) i (behind_no_key (KeyIn h f)) e)
    (key_properties (Two m j n d) h f k ks (terminal (Part (Open bracket)) i ∷ rest) b tt q g).1

opener_pass :
    (p : TreeProperties) (room : Room) (bracket : Bracket) (i : At) (k : Option ℕ) (ks : List (Option ℕ))
    (rest : List Terminal) →
    NoKeyRoom room → PropertiesPlaced p room → PartFits (room_behind p room) (Open bracket) i →
    KeysFit (k ∷ ks) (spell_properties p (terminal (Part (Open bracket)) i ∷ rest)) → KeysFit (None ∷ k ∷ ks) rest
opener_pass p room bracket i k ks rest r f e g =
    subst (λ b. KeysFit (None ∷ with_inner_key b i.number (k ∷ ks)) rest) (body_pass p room (Open bracket) i r e)
    (properties_pass p room k ks (terminal (Part (Open bracket)) i ∷ rest) r f g).1

-- the named parts, and what is left
record Named (N : Type 0) (ks : List (Option ℕ)) (rest : List Terminal) : Type 0 where
  named : N
  top : Option ℕ
  fit : KeysFit (top ∷ ks) rest

pub no_right :
    (p : TreeProperties) (h : Holder) (f : Terminal) (c : ℕ) → right_fits (room_behind p (KeyIn h f)) c ≡ true → ⊥
no_right NoProperties h f c e = cc (e)
no_right (One k i) (BlockIn d) f c e = cc (e)
no_right (One k i) (FlowIn bracket) f c e = cc (e)
no_right (Two k i m j) (BlockIn d) f c e = cc (e)
no_right (Two k i m j) (FlowIn bracket) f c e = cc (e)

pub no_sequence :
    (p : TreeProperties) (h : Holder) (f : Terminal) (loose : Bool) (c : ℕ) →
    sequence_fits (room_behind p (KeyIn h f)) loose c ≡ true → ⊥
no_sequence p h f false c e = no_right p h f c e
no_sequence NoProperties h f true c e = cc (e)
no_sequence (One k i) (BlockIn d) f true c e = cc (e)
no_sequence (One k i) (FlowIn bracket) f true c e = cc (e)
no_sequence (Two k i m j) (BlockIn d) f true c e = cc (e)
no_sequence (Two k i m j) (FlowIn bracket) f true c e = cc (e)

mutual
  node_named :
      (t : Node) (room : Room) (x : Terminal) (k : Option ℕ) (ks : List (Option ℕ)) (rest : List Terminal) →
      NoKeyRoom room → Placed t room x → KeysFit (k ∷ ks) (spell t rest) → Named (NodeNamed t) ks rest
  node_named (AliasNode name i) room x k ks rest r f g = record {
    named = tt;
    top = k;
    fit = drop_flag i.begins_key i.number (k ∷ ks) rest (fits_no_flag room (Alias name) i r f) g.1;
  }
  node_named (ScalarNode p style text i) room x k ks rest r f g = record {
    named = tt;
    top = k;
    fit =
        drop_flag i.begins_key i.number (k ∷ ks) rest (body_pass p room (Scalar style text) i r f.1)
        (properties_pass p room k ks (terminal (Part (Scalar style text)) i ∷ rest) r f.0 g).1;
  }
  node_named (Alone p) room x k ks rest r f g = record {
    named = tt;
    top = k;
    fit = properties_pass p room k ks rest r f.0 g;
  }
  node_named (Flow p bracket o lead last e) room x k ks rest r f g =
      let a = flow_named lead bracket None (k ∷ ks) (spell_last last (terminal (Close bracket) e ∷ rest)) f.2
      (opener_pass p room bracket o k ks (spell_flow lead (spell_last last (terminal (Close bracket) e ∷ rest))) r f.0
      f.1 g)
      in
      let b = last_named last bracket (terminal (Close bracket) e) a.top (k ∷ ks) (terminal (Close bracket) e ∷ rest)
      f.3 a.fit in
      record { named = (a.named, b.named); top = k; fit = b.fit.1 }
  node_named (Sequence p loose c es e) room x k ks rest r f g =
      entries_named es loose c x k ks rest f.2 (properties_pass p room k ks (spell_entries es rest) r f.0 g)
  node_named (Mapping p c ps e) room x k ks rest r f g =
      pairs_named ps c x k ks rest f.2 (properties_pass p room k ks (spell_pairs ps rest) r f.0 g)

  key_named :
      (t : Node) (h : Holder) (y x : Terminal) (k : Option ℕ) (ks : List (Option ℕ)) (rest : List Terminal) →
      y.at.begins_key ≡ true → Placed t (KeyIn h y) x → KeysFit (k ∷ ks) (spell t rest) →
      NodeNamed t × KeysFit (Some y.at.number ∷ ks) rest
  key_named (AliasNode name i) h y x k ks rest b f g = (
    tt,
    subst (λ f. f.at.begins_key ≡ true → KeysFit (Some f.at.number ∷ ks) rest) f
        (λ b. keep_flag i.begins_key i.number k ks rest b g.1) b,
  )
  key_named (ScalarNode p style text i) h y x k ks rest b f g =
      (tt, key_scalar p h y style text i k ks rest b f.0 f.1 g)
  key_named (Alone p) h y x k ks rest b f g = (tt, key_properties p h y k ks rest b f.1 f.0 g)
  key_named (Flow p bracket o lead last e) h y x k ks rest b f g =
      let a = flow_named lead bracket None (Some y.at.number ∷ ks) (spell_last last (terminal (Close bracket) e ∷ rest))
      f.2
      (key_opener p h y bracket o k ks (spell_flow lead (spell_last last (terminal (Close bracket) e ∷ rest))) b f.0
      f.1 g)
      in
      let d = last_named last bracket (terminal (Close bracket) e) a.top (Some y.at.number ∷ ks)
      (terminal (Close bracket) e ∷ rest) f.3 a.fit in
      ((a.named, d.named), d.fit.1)
  key_named (Sequence p loose c es e) h y x k ks rest b f g = absurd (no_sequence p h y loose c f.1)
  key_named (Mapping p c ps e) h y x k ks rest b f g = absurd (no_right p h y c f.1)

  content_named :
      (v : Content) (room : Room) (empty : Bool) (x : Terminal) (k : Option ℕ) (ks : List (Option ℕ))
      (rest : List Terminal) →
      NoKeyRoom room → ContentPlaced v room empty x → KeysFit (k ∷ ks) (spell_content v rest) →
      Named (ContentNamed v) ks rest
  content_named Nothing room empty x k ks rest r f g = record { named = tt; top = k; fit = g }
  content_named (Just t) room empty x k ks rest r f g = node_named t room x k ks rest r f g

  entries_named :
      (es : Entries) (loose : Bool) (c : ℕ) (x : Terminal) (k : Option ℕ) (ks : List (Option ℕ))
      (rest : List Terminal) →
      EntriesPlaced es loose c x → KeysFit (k ∷ ks) (spell_entries es rest) → Named (EntriesNamed es) ks rest
  entries_named (Entry lead i v) loose c x k ks rest f g =
      let a = entry_lead_named lead loose c i k ks (terminal Dash i ∷ spell_content v rest) f.0 g in
      let b = content_named v (RightOf c) (entry_empty loose c x) x a.top ks rest tt f.2 a.fit.1 in
      record { named = (a.named, b.named); top = b.top; fit = b.fit }

  entry_lead_named :
      (lead : EntryLead) (loose : Bool) (c : ℕ) (i : At) (k : Option ℕ) (ks : List (Option ℕ)) (rest : List Terminal) →
      EntryLeadPlaced lead loose c i → KeysFit (k ∷ ks) (spell_entry_lead lead rest) →
      Named (EntryLeadNamed lead) ks rest
  entry_lead_named NoEntry loose c i k ks rest f g = record { named = tt; top = k; fit = g }
  entry_lead_named (AfterEntry es) loose c i k ks rest f g = entries_named es loose c (terminal Dash i) k ks rest f g

  pairs_named :
      (ps : Pairs) (c : ℕ) (x : Terminal) (k : Option ℕ) (ks : List (Option ℕ)) (rest : List Terminal) →
      PairsPlaced ps c x → KeysFit (k ∷ ks) (spell_pairs ps rest) → Named (PairsNamed ps) ks rest
  pairs_named (Through lead pair) c x k ks rest f g =
      let a = pair_lead_named lead c (pair_front pair) k ks (spell_pair pair rest) f.0 g in
      let b = pair_named pair (BlockIn c) x a.top ks rest f.1 a.fit in
      record { named = (a.named, b.named); top = b.top; fit = b.fit }

  pair_lead_named :
      (lead : PairLead) (c : ℕ) (x : Terminal) (k : Option ℕ) (ks : List (Option ℕ)) (rest : List Terminal) →
      PairLeadPlaced lead c x → KeysFit (k ∷ ks) (spell_pair_lead lead rest) → Named (PairLeadNamed lead) ks rest
  pair_lead_named NoPair c x k ks rest f g = record { named = tt; top = k; fit = g }
  pair_lead_named (AfterPair ps) c x k ks rest f g = pairs_named ps c x k ks rest f g

  pair_named :
      (pair : Pair) (h : Holder) (x : Terminal) (k : Option ℕ) (ks : List (Option ℕ)) (rest : List Terminal) →
      PairPlaced pair h x → KeysFit (k ∷ ks) (spell_pair pair rest) → Named (PairNamed pair) ks rest
  pair_named (WithColon left m v) h x k ks rest f g =
      let a = left_named left h m k ks (spell_content v rest) f.0 g in
      let b = content_named v (room_value h) (value_empty h x) x a.top ks rest (value_no_key h) f.1 a.fit in
      record { named = (a.named, b.named); top = b.top; fit = b.fit }
  pair_named (AskOnly q v e) h x k ks rest f g =
      content_named v (room_value h) (ask_empty h x) x k ks rest (value_no_key h) f.1 g.1

  left_named :
      (left : Left) (h : Holder) (m : At) (k : Option ℕ) (ks : List (Option ℕ)) (rest : List Terminal) →
      LeftPlaced left h m → KeysFit (k ∷ ks) (spell_left left (terminal (colon_kind left) m ∷ rest)) →
      Named (LeftNamed left) ks rest
  left_named (SimpleKey y t n) h m k ks rest f g =
      let a = key_named t h y (terminal (Colon (Some n)) m) k ks (terminal (Colon (Some n)) m ∷ rest)
      (and_parts _ _ f.0).0
      f.1 g in
      record { named = (a.0, a.1.0); top = None; fit = a.1.1 }
  left_named (Asked q v) h m k ks rest f g =
      let a = content_named v (room_value h) (ask_empty h (terminal (Colon None) m)) (terminal (Colon None) m) k ks
      (terminal (Colon None) m ∷ rest) (value_no_key h) f.1 g.1 in
      record { named = a.named; top = a.top; fit = a.fit.1 }
  left_named NoKey h m k ks rest f g = record { named = tt; top = k; fit = g.1 }

  flow_named :
      (lead : FlowLead) (bracket : Bracket) (k : Option ℕ) (ks : List (Option ℕ)) (rest : List Terminal) →
      FlowPlaced lead bracket → KeysFit (k ∷ ks) (spell_flow lead rest) → Named (FlowNamed lead) ks rest
  flow_named NoItem bracket k ks rest f g = record { named = tt; top = k; fit = g }
  flow_named (AfterItem lead item m) bracket k ks rest f g =
      let a = flow_named lead bracket k ks (spell_item item (terminal Comma m ∷ rest)) f.0 g in
      let b = item_named item bracket (terminal Comma m) a.top ks (terminal Comma m ∷ rest) f.1 a.fit in
      record { named = (a.named, b.named); top = b.top; fit = b.fit.1 }

  last_named :
      (last : FlowLast) (bracket : Bracket) (x : Terminal) (k : Option ℕ) (ks : List (Option ℕ))
      (rest : List Terminal) →
      LastPlaced last bracket x → KeysFit (k ∷ ks) (spell_last last rest) → Named (LastNamed last) ks rest
  last_named NoLast bracket x k ks rest f g = record { named = tt; top = k; fit = g }
  last_named (LastItem item) bracket x k ks rest f g = item_named item bracket x k ks rest f g

  item_named :
      (item : FlowItem) (bracket : Bracket) (x : Terminal) (k : Option ℕ) (ks : List (Option ℕ))
      (rest : List Terminal) →
      ItemPlaced item bracket x → KeysFit (k ∷ ks) (spell_item item rest) → Named (ItemNamed item) ks rest
  item_named (Single t) bracket x k ks rest f g = node_named t ItemIn x k ks rest tt f g
  item_named (Paired pair) bracket x k ks rest f g = pair_named pair (FlowIn bracket) x k ks rest f g

mutual
  before_named :
      (b : Before) (rest : List Terminal) → BeforePlaced b → KeysFit (None ∷ []) (spell_before b rest) →
      Named (BeforeNamed b) [] rest
  before_named Beginning rest f g = record { named = tt; top = None; fit = g }
  before_named (ExtraEnd b i) rest f g =
      let a = before_named b (terminal DocumentEnd i ∷ rest) f g
      in record { named = a.named; top = a.top; fit = a.fit.1 }
  before_named (Closed ro i) rest f g =
      let a = rooted_named ro (terminal DocumentEnd i) (terminal DocumentEnd i ∷ rest) f g
      in record { named = a.named; top = a.top; fit = a.fit.1 }

  directives_named :
      (ds : Directives) (rest : List Terminal) → DirectivesPlaced ds → KeysFit (None ∷ []) (spell_directives ds rest) →
      Named (DirectivesNamed ds) [] rest
  directives_named (FirstDirective b d i) rest f g =
      let a = before_named b (terminal (Directive d) i ∷ rest) f g
      in record { named = a.named; top = a.top; fit = a.fit.1 }
  directives_named (NextDirective ds d i) rest f g =
      let a = directives_named ds (terminal (Directive d) i ∷ rest) f g
      in record { named = a.named; top = a.top; fit = a.fit.1 }

  start_named :
      (s : Start) (i : At) (rest : List Terminal) → StartPlaced s i → KeysFit (None ∷ []) (spell_start s rest) →
      Named (StartNamed s) [] rest
  start_named (AtFresh b) i rest f g = before_named b rest f g
  start_named (AfterDirectives ds) i rest f g = directives_named ds rest f g
  start_named (AfterRoot ro) i rest f g = rooted_named ro (terminal DocumentStart i) rest f g

  rooted_named :
      (ro : Rooted) (x : Terminal) (rest : List Terminal) → RootedPlaced ro x →
      KeysFit (None ∷ []) (spell_rooted ro rest) → Named (RootedNamed ro) [] rest
  rooted_named (BareRoot b t) x rest f g =
      let a = before_named b (spell t rest) f.0 g in
      let c = node_named t (RightOf 0) x a.top [] rest tt f.1 a.fit in
      record { named = (a.named, c.named); top = c.top; fit = c.fit }
  rooted_named (ExplicitRoot s i v) x rest f g =
      let a = start_named s i (terminal DocumentStart i ∷ spell_content v rest) f.0 g in
      let c = content_named v (RightOf 0) (is_stream_kind x.kind) x a.top [] rest tt f.1 a.fit.1 in
      record { named = (a.named, c.named); top = c.top; fit = c.fit }

pub stream_named : (s : Stream) → StreamPlaced s → KeysFit (None ∷ []) (spell_stream s []) → StreamNamed s
stream_named (EndFresh b i) f g = let a = before_named b (terminal TheEnd i ∷ []) f g in a.named
stream_named (EndRooted ro i) f g = let a = rooted_named ro (terminal TheEnd i) (terminal TheEnd i ∷ []) f g in a.named
