-- A lexeme that fits is taken where it fits.
use Rattle.std.proofs.Common.{◌≡◌, ℕ, Bool, true, false, List, ◌∷◌, refl, sym, ap, ◌∙◌, subst, ◌==◌, nat_lt, None}
use Rattle.granit_grammar.specs.TreeMachine.{NextPlace, Go, if_go, part_take, entry_take, entry_at, site, plain_site}
use Rattle.granit_grammar.specs.TreeMachine.{pair_site, want_take, take, tree_goes, parse}
use Rattle.granit_language.specs.Choice.{choose}
use Rattle.granit_language.specs.Node.{TreeProperties, NoProperties, One, Two, Alone, Mapping, Content, Nothing, Just}
use Rattle.granit_language.specs.Node.{NoEntry, Pairs, Through, NoPair, AfterPair, FlowLead}
use Rattle.granit_language.specs.OpenPlace.{Bare, Explicit, Around, BlockPairs, FlowPairs, Hole, AtRoot, AtEntry}
use Rattle.granit_language.specs.OpenPlace.{AtItem, AtKey, AtAsk, AtColon, OpenPlace, Fresh, Want, PastPair, holder}
use Rattle.granit_language.specs.OpenPlace.{room_of, AroundPlaced, HolePlaced}
use Rattle.granit_language.specs.Room.{Holder, BlockIn, FlowIn, Room, RightOf, ValueIn, KeyIn, BehindKey, ItemIn}
use Rattle.granit_language.specs.Room.{Inside, behind_property, room_behind, right_fits, loose_fits, sequence_fits}
use Rattle.granit_language.specs.Room.{indicates, opens, part_fits, PartFits, joins, continues_node, entry_empty}
use Rattle.granit_language.specs.Room.{room_value, value_empty, KeyBegins}
use Rattle.granit_language.specs.Settling.{put_in, empty_fits, finish_at, settle_place}
use Rattle.granit_language.specs.Terminal.{PropertyKind, PartKind, TerminalKind, Directive, DocumentStart, DocumentEnd}
use Rattle.granit_language.specs.Terminal.{TheEnd, Dash, Question, Colon, Part, At, Terminal, terminal, edge, reach_of}
use Rattle.granit_language.specs.Terminal.{is_stream_kind, begins_entry_kind, stands_left, entry_in}
use Rattle.granit_lexemes.specs.declared.layout.Bracket.{Bracket}
use Rattle.granit_lexemes.specs.declared.layout.Bracket.TheVariants.{Square, Curly}
use Rattle.std.proofs.Common.{eqb-true}
use Rattle.std.proofs.lemmas.Bool.{and_parts, and_from, and_right, or_left, or_right, or_from}
use Rattle.granit_grammar.proofs.Tests.{right_left, right_same, same_left, no_key, no_key_alone}
use Rattle.granit_grammar.proofs.Placing.{EntryFits}

-- a lexeme that ends nothing, and the step on it
pub record Enters (p : OpenPlace) (kind : TerminalKind) (i : At) (n : NextPlace) : Type 0 where
  pub stays : settle_place (terminal kind i) p ≡ p
  pub goes_to : take p kind i ≡ n

pub to_same :
    (p : OpenPlace) (kind : TerminalKind) (i : At) (n m : NextPlace) → n ≡ m → Enters p kind i n → Enters p kind i m
to_same p kind i n m e h = record { stays = h.stays; goes_to = h.goes_to ∙ e }

pub steps :
    (kind : TerminalKind) (i : At) (rest : List Terminal) (p q : OpenPlace) → Enters p kind i (Go q) →
    parse (terminal kind i ∷ rest) p ≡ parse rest q
steps kind i rest p q h =
    ap (λ q. tree_goes (take q kind i) q (terminal kind i) (parse rest)) h.stays
    ∙ ap (λ n. tree_goes n p (terminal kind i) (parse rest)) h.goes_to

-- where a lexeme ends the same, the machine goes on alike
pub alike :
    (l : Terminal) (rest : List Terminal) (p q : OpenPlace) → settle_place l p ≡ settle_place l q →
    parse (l ∷ rest) p ≡ parse (l ∷ rest) q
alike l rest p q e = ap (λ q. tree_goes (take q l.kind l.at) q l (parse rest)) e

pub close_put : (x : Terminal) (r : Hole) (v : Content) → settle_place x (put_in r v) ≡ finish_at x r v
close_put x (AtRoot (Bare b)) Nothing = refl
close_put x (AtRoot (Bare b)) (Just t) = refl
close_put x (AtRoot (Explicit s i)) v = refl
close_put x (AtEntry r p loose c lead i) v = refl
close_put x (AtItem r p bracket o lead) Nothing = refl
close_put x (AtItem r p bracket o lead) (Just t) = refl
close_put x (AtKey r a f) Nothing = refl
close_put x (AtKey r a f) (Just t) = refl
close_put x (AtAsk r a q) v = refl
close_put x (AtColon r a left m) v = refl

-- the places where a hole is reached: for a root without `---` and for a simple key the place before it
abbrev pub gate : Hole → OpenPlace
gate (AtRoot (Bare b)) = Fresh b
gate r = Want r NoProperties

abbrev pub gate_with : Hole → TreeProperties → OpenPlace
gate_with r NoProperties = gate r
gate_with r p = Want r p

abbrev pub past_pairs : Hole → TreeProperties → ℕ → Pairs → OpenPlace
past_pairs r p c (Through lead pair) = PastPair r (BlockPairs p c lead) pair

abbrev pub site_door : Hole → Around → OpenPlace
site_door r (BlockPairs p c NoPair) = gate_with r p
site_door r (BlockPairs p c (AfterPair ps)) = past_pairs r p c ps
site_door r (FlowPairs p bracket o lead) = Want (AtItem r p bracket o lead) NoProperties

abbrev pub door : Hole → OpenPlace
door (AtKey r a f) = site_door r a
door r = gate r

abbrev pub door_with : Hole → TreeProperties → OpenPlace
door_with r NoProperties = door r
door_with r p = Want r p

-- tests on places
entry_not_empty :
    (loose : Bool) (c : ℕ) (x : Terminal) → nat_lt c (reach_of x.kind x.at) ≡ true → entry_empty loose c x ≡ false
entry_not_empty loose c x e =
    let s = right_same c (reach_of x.kind x.at) e
    in or_from _ _ (right_left c (reach_of x.kind x.at) e)
    (or_from _ _ (and_right _ _ s) (and_right loose _ (and_right _ _ s)))

value_not_empty : (c : ℕ) (x : Terminal) → nat_lt c (reach_of x.kind x.at) ≡ true → value_empty (BlockIn c) x ≡ false
value_not_empty c x e =
    or_from _ _ (right_left c (reach_of x.kind x.at) e) (and_right _ _ (right_same c (reach_of x.kind x.at) e))

stays_part :
    (r : Hole) (k : PartKind) (i : At) → part_fits (room_of r) i ≡ true → empty_fits r (terminal (Part k) i) ≡ false
stays_part (AtRoot (Bare b)) k i e = refl
stays_part (AtRoot (Explicit s j)) k i e = refl
stays_part (AtEntry r p loose c lead j) k i e = entry_not_empty loose c (terminal (Part k) i) (and_parts _ _ e).1
stays_part (AtItem r p bracket o lead) k i e = refl
stays_part (AtKey r a f) k i e = refl
stays_part (AtAsk r (BlockPairs p c lead) q) k i e = value_not_empty c (terminal (Part k) i) (and_parts _ _ e).1
stays_part (AtAsk r (FlowPairs p Square o lead) q) k i e = refl
stays_part (AtAsk r (FlowPairs p Curly o lead) q) k i e = refl
stays_part (AtColon r (BlockPairs p c lead) left m) k i e = value_not_empty c (terminal (Part k) i) (and_parts _ _ e).1
stays_part (AtColon r (FlowPairs p bracket o lead) left m) k i e = refl

stays_right :
    (r : Hole) (kind : TerminalKind) (i : At) → right_fits (room_of r) (reach_of kind i) ≡ true →
    is_stream_kind kind ≡ false → empty_fits r (terminal kind i) ≡ false
stays_right (AtRoot (Bare b)) kind i e s = refl
stays_right (AtRoot (Explicit t j)) kind i e s = s
stays_right (AtEntry r p loose c lead j) kind i e s = entry_not_empty loose c (terminal kind i) e
stays_right (AtItem r p bracket o lead) kind i e s = refl
stays_right (AtKey r a f) kind i e s = refl
stays_right (AtAsk r (BlockPairs p c lead) q) kind i e s = value_not_empty c (terminal kind i) e
stays_right (AtAsk r (FlowPairs p bracket o lead) q) kind i e s = cc (e)
stays_right (AtColon r (BlockPairs p c lead) left m) kind i e s = value_not_empty c (terminal kind i) e
stays_right (AtColon r (FlowPairs p bracket o lead) left m) kind i e s = cc (e)

stays_loose : (r : Hole) (i : At) → loose_fits (room_of r) (edge i) ≡ true → empty_fits r (terminal Dash i) ≡ false
stays_loose (AtRoot root) i e = cc (e)
stays_loose (AtEntry r p loose c lead j) i e = cc (e)
stays_loose (AtItem r p bracket o lead) i e = refl
stays_loose (AtKey r a f) i e = refl
stays_loose (AtAsk r (BlockPairs p c lead) q) i e = or_from _ _ (same_left (edge i) c e) refl
stays_loose (AtAsk r (FlowPairs p bracket o lead) q) i e = cc (e)
stays_loose (AtColon r (BlockPairs p c lead) left m) i e = or_from _ _ (same_left (edge i) c e) refl
stays_loose (AtColon r (FlowPairs p bracket o lead) left m) i e = cc (e)

no_opens : (room : Room) (i : At) → part_fits room i ≡ true → opens room i ≡ false
no_opens (RightOf n) i e = no_key i.begins_key (nat_lt n (edge i)) (indicates (RightOf n) i) e
no_opens (ValueIn c) i e = no_key i.begins_key (nat_lt c (edge i)) (indicates (ValueIn c) i) e
no_opens (KeyIn h f) i e = cc (e)
no_opens (BehindKey c) i e = no_key i.begins_key (nat_lt c (edge i)) (indicates (BehindKey c) i) e
no_opens ItemIn i e = no_key_alone i.begins_key (indicates ItemIn i) e
no_opens Inside i e = no_key_alone i.begins_key (indicates Inside i) e

no_loose : (room : Room) (e : ℕ) → right_fits room e ≡ true → loose_fits room e ≡ false
no_loose (RightOf n) e h = refl
no_loose (ValueIn c) e h = right_same c e h
no_loose (KeyIn k f) e h = refl
no_loose (BehindKey c) e h = refl
no_loose ItemIn e h = refl
no_loose Inside e h = refl

-- what a lexeme does at a hole
want_part :
    (r : Hole) (p : TreeProperties) (k : PartKind) (i : At) → part_fits (room_behind p (room_of r)) i ≡ true →
    want_take r p (Part k) i ≡ part_take r p k i
want_part r p k i e =
    let room = room_behind p (room_of r) in
    ap (λ b. choose b (entry_at (pair_site r p i) (Part k) i) (if_go (part_fits room i) (part_take r p k i)))
    (no_opens room i e)
    ∙ ap (λ b. if_go b (part_take r p k i)) e

want_entry :
    (r : Hole) (p : TreeProperties) (kind : TerminalKind) (i : At) → begins_entry_kind kind i.begins_key ≡ true →
    indicates (room_behind p (room_of r)) i ≡ true → want_take r p kind i ≡ entry_at (pair_site r p i) kind i
want_entry r p (Part k) i b e =
    let room = room_behind p (room_of r)
    in ap (λ b. choose b (entry_at (pair_site r p i) (Part k) i) (if_go (part_fits room i) (part_take r p k i)))
    (and_from _ _ b e)
want_entry r p Question i b e = ap (λ b. if_go b (entry_at (pair_site r p i) Question i)) e
want_entry r p (Colon None) i b e = ap (λ b. if_go b (entry_at (pair_site r p i) (Colon None) i)) e
want_entry r p kind i b e = cc (b)

at_gate :
    (r : Hole) (kind : TerminalKind) (i : At) → is_stream_kind kind ≡ false → empty_fits r (terminal kind i) ≡ false →
    Enters (gate r) kind i (want_take r NoProperties kind i)
at_gate (AtRoot (Bare b)) (Directive d) i s e = cc (s)
at_gate (AtRoot (Bare b)) DocumentStart i s e = cc (s)
at_gate (AtRoot (Bare b)) DocumentEnd i s e = cc (s)
at_gate (AtRoot (Bare b)) TheEnd i s e = cc (s)
at_gate (AtRoot (Bare b)) kind i s e = record { stays = refl; goes_to = refl }
at_gate r kind i s e = record {
  stays = ap (λ b. choose b (finish_at (terminal kind i) r Nothing) (Want r NoProperties)) e;
  goes_to = refl;
}

-- behind properties
at_properties :
    (r : Hole) (k : PropertyKind) (j : At) (kind : TerminalKind) (i : At) →
    continues_node (behind_property (room_of r)) (One k j) kind i ≡ true →
    Enters (Want r (One k j)) kind i (want_take r (One k j) kind i)
at_properties r k j kind i e = record {
  stays = ap (λ b. choose b (Want r (One k j)) (finish_at (terminal kind i) r (Just (Alone (One k j))))) e;
  goes_to = refl;
}

at_two :
    (r : Hole) (k : PropertyKind) (j : At) (m : PropertyKind) (h : At) (kind : TerminalKind) (i : At) →
    continues_node (behind_property (room_of r)) (Two k j m h) kind i ≡ true →
    Enters (Want r (Two k j m h)) kind i (want_take r (Two k j m h) kind i)
at_two r k j m h kind i e = record {
  stays = ap (λ b. choose b (Want r (Two k j m h)) (finish_at (terminal kind i) r (Just (Alone (Two k j m h))))) e;
  goes_to = refl;
}

-- no simple key begins behind properties
behind_part :
    (room : Room) (k : PartKind) (i : At) → PartFits (behind_property room) k i →
    part_fits (behind_property room) i ≡ true
behind_part (RightOf n) k i e = e
behind_part (ValueIn c) k i e = e
behind_part (KeyIn (BlockIn c) f) k i e = e
behind_part (KeyIn (FlowIn bracket) f) k i e = e
behind_part (BehindKey c) k i e = e
behind_part ItemIn k i e = e
behind_part Inside k i e = e

right_indicates : (room : Room) (i : At) → right_fits room (edge i) ≡ true → indicates room i ≡ true
right_indicates (RightOf n) i e = e
right_indicates (ValueIn c) i e = e
right_indicates (KeyIn h f) i e = e
right_indicates (BehindKey c) i e = e
right_indicates ItemIn i e = refl
right_indicates Inside i e = e

goes_on_entry :
    (room : Room) (p : TreeProperties) (kind : TerminalKind) (i : At) → begins_entry_kind kind i.begins_key ≡ true →
    indicates room i ≡ true → continues_node room p kind i ≡ true
goes_on_entry room p (Part k) i b e = or_left _ _ (and_from _ _ b e)
goes_on_entry room p Question i b e = e
goes_on_entry room p (Colon None) i b e = e
goes_on_entry room p kind i b e = cc (b)

-- a pair of a new block mapping
plain_site_is :
    (r : Hole) (i : At) → right_fits (room_of r) (edge i) ≡ true →
    plain_site r i ≡ site r (BlockPairs NoProperties (edge i) NoPair)
plain_site_is (AtItem r p bracket o lead) i e = cc (e)
plain_site_is (AtRoot root) i e = refl
plain_site_is (AtEntry r p loose c lead j) i e = refl
plain_site_is (AtKey r a f) i e = refl
plain_site_is (AtAsk r a q) i e = refl
plain_site_is (AtColon r a left m) i e = refl

entry_reach :
    (kind : TerminalKind) (i : At) (room : Room) → begins_entry_kind kind i.begins_key ≡ true →
    right_fits room (edge i) ≡ true → right_fits room (reach_of kind i) ≡ true
entry_reach (Part k) i room b e = e
entry_reach Question i room b e = e
entry_reach (Colon None) i room b e = e
entry_reach kind i room b e = cc (b)

entry_no_stream :
    (kind : TerminalKind) (i : At) → begins_entry_kind kind i.begins_key ≡ true → is_stream_kind kind ≡ false
entry_no_stream (Part k) i b = refl
entry_no_stream Question i b = refl
entry_no_stream (Colon None) i b = refl
entry_no_stream kind i b = cc (b)

enters_block :
    (r : Hole) (p : TreeProperties) (kind : TerminalKind) (i : At) →
    right_fits (room_behind p (room_of r)) (edge i) ≡ true → begins_entry_kind kind i.begins_key ≡ true →
    Enters (gate_with r p) kind i (entry_take r (BlockPairs p (edge i) NoPair) kind i)
enters_block r NoProperties kind i e b =
    to_same (gate r) kind i _ _
    (want_entry r NoProperties kind i b (right_indicates (room_of r) i e)
    ∙ ap (λ s. entry_at s kind i) (plain_site_is r i e))
    (at_gate r kind i (entry_no_stream kind i b)
    (stays_right r kind i (entry_reach kind i (room_of r) b e) (entry_no_stream kind i b)))
enters_block r (One k j) kind i e b =
    to_same (Want r (One k j)) kind i _ _
    (want_entry r (One k j) kind i b (right_indicates (behind_property (room_of r)) i e))
    (at_properties r k j kind i
    (goes_on_entry (behind_property (room_of r)) (One k j) kind i b
    (right_indicates (behind_property (room_of r)) i e)))
enters_block r (Two k j m h) kind i e b =
    to_same (Want r (Two k j m h)) kind i _ _
    (want_entry r (Two k j m h) kind i b (right_indicates (behind_property (room_of r)) i e))
    (at_two r k j m h kind i
    (goes_on_entry (behind_property (room_of r)) (Two k j m h) kind i b
    (right_indicates (behind_property (room_of r)) i e)))

-- the next entry of a block mapping
in_column : (kind : TerminalKind) (i : At) (c : ℕ) → begins_entry_kind kind i.begins_key ≡ true → (edge i == c) ≡ true →
    entry_in (terminal kind i) c ≡ true
in_column (Part k) i c b e = and_from _ _ b e
in_column Question i c b e = e
in_column (Colon None) i c b e = e
in_column kind i c b e = cc (b)

in_column_left : (kind : TerminalKind) (i : At) (c : ℕ) → begins_entry_kind kind i.begins_key ≡ true →
    (edge i == c) ≡ true → stands_left (terminal kind i) c ≡ false
in_column_left (Part k) i c b e = same_left (edge i) c e
in_column_left Question i c b e = same_left (edge i) c e
in_column_left (Colon None) i c b e = same_left (edge i) c e
in_column_left kind i c b e = cc (b)

enters_next :
    (r : Hole) (p : TreeProperties) (c : ℕ) (ps : Pairs) (kind : TerminalKind) (i : At) →
    begins_entry_kind kind i.begins_key ≡ true → (edge i == c) ≡ true →
    Enters (past_pairs r p c ps) kind i (entry_take r (BlockPairs p c (AfterPair ps)) kind i)
enters_next r p c (Through lead pair) kind i b e = record {
  stays =
      ap
      (λ b.
      choose b (finish_at (terminal kind i) r (Just (Mapping p c (Through lead pair) i.start)))
      (PastPair r (BlockPairs p c lead) pair))
      (in_column_left kind i c b e);
  goes_to =
      ap (λ b. if_go b (entry_take r (BlockPairs p c (AfterPair (Through lead pair))) kind i)) (in_column kind i c b e);
}

enters_item :
    (r : Hole) (p : TreeProperties) (bracket : Bracket) (o : At) (lead : FlowLead) (kind : TerminalKind) (i : At) →
    begins_entry_kind kind i.begins_key ≡ true →
    Enters (Want (AtItem r p bracket o lead) NoProperties) kind i (entry_take r (FlowPairs p bracket o lead) kind i)
enters_item r p bracket o lead kind i b = record {
  stays = refl;
  goes_to = want_entry (AtItem r p bracket o lead) NoProperties kind i b refl;
}

-- the first lexeme of a pair
pub enters_entry :
    (r : Hole) (a : Around) (kind : TerminalKind) (i : At) (x : Terminal) → AroundPlaced a (room_of r) x →
    EntryFits (holder a) kind i → Enters (site_door r a) kind i (entry_take r a kind i)
enters_entry r (BlockPairs p c NoPair) kind i x f e =
    let b = (and_parts (begins_entry_kind kind i.begins_key) (edge i == c) e).0 in
    let q = eqb-true (edge i) c (and_parts (begins_entry_kind kind i.begins_key) (edge i == c) e).1 in
    subst (λ c. Enters (gate_with r p) kind i (entry_take r (BlockPairs p c NoPair) kind i)) q
    (enters_block r p kind i (subst (λ c. right_fits (room_behind p (room_of r)) c ≡ true) (sym q) f.1) b)
enters_entry r (BlockPairs p c (AfterPair ps)) kind i x f e =
    enters_next r p c ps kind i (and_parts (begins_entry_kind kind i.begins_key) (edge i == c) e).0
    (and_parts (begins_entry_kind kind i.begins_key) (edge i == c) e).1
enters_entry r (FlowPairs p bracket o lead) kind i x f e =
    enters_item r p bracket o lead kind i (and_parts (begins_entry_kind kind i.begins_key) true e).0

-- a lexeme of a node
part_at_gate :
    (r : Hole) (k : PartKind) (i : At) → part_fits (room_of r) i ≡ true →
    Enters (gate r) (Part k) i (part_take r NoProperties k i)
part_at_gate r k i e =
    to_same (gate r) (Part k) i _ _ (want_part r NoProperties k i e) (at_gate r (Part k) i refl (stays_part r k i e))

value_part : (h : Holder) (k : PartKind) (i : At) → PartFits (room_value h) k i → part_fits (room_value h) i ≡ true
value_part (BlockIn c) k i e = e
value_part (FlowIn bracket) k i e = e

plain_enters :
    (r : Hole) (k : PartKind) (i : At) → HolePlaced r → PartFits (room_of r) k i →
    Enters (door r) (Part k) i (part_take r NoProperties k i)
plain_enters (AtRoot root) k i f g = part_at_gate (AtRoot root) k i g
plain_enters (AtEntry r p loose c lead j) k i f g = part_at_gate (AtEntry r p loose c lead j) k i g
plain_enters (AtItem r p bracket o lead) k i f g = part_at_gate (AtItem r p bracket o lead) k i g
plain_enters (AtKey r a first) k i f g =
    subst (λ x. Enters (site_door r a) (Part k) i (part_take (AtKey r a x) NoProperties k i)) g
    (enters_entry r a (Part k) i first f.1 (subst (λ x. KeyBegins (holder a) x) (sym g) f.2))
plain_enters (AtAsk r a q) k i f g = part_at_gate (AtAsk r a q) k i (value_part (holder a) k i g)
plain_enters (AtColon r a left m) k i f g = part_at_gate (AtColon r a left m) k i (value_part (holder a) k i g)

pub enters_part :
    (r : Hole) (p : TreeProperties) (k : PartKind) (i : At) → HolePlaced r → PartFits (room_behind p (room_of r)) k i →
    joins p k ≡ true → Enters (door_with r p) (Part k) i (part_take r p k i)
enters_part r NoProperties k i f g j = plain_enters r k i f g
enters_part r (One m h) k i f g j =
    let e = behind_part (room_of r) k i g in
    to_same (Want r (One m h)) (Part k) i _ _ (want_part r (One m h) k i e)
    (at_properties r m h (Part k) i (or_right _ _ (and_from _ _ e j)))
enters_part r (Two m h n b) k i f g j =
    let e = behind_part (room_of r) k i g in
    to_same (Want r (Two m h n b)) (Part k) i _ _ (want_part r (Two m h n b) k i e)
    (at_two r m h n b (Part k) i (or_right _ _ (and_from _ _ e j)))

-- a `-` that begins a sequence
want_dash :
    (r : Hole) (p : TreeProperties) (loose : Bool) (i : At) →
    sequence_fits (room_behind p (room_of r)) loose (edge i) ≡ true →
    want_take r p Dash i ≡ Go (Want (AtEntry r p loose (edge i) NoEntry i) NoProperties)
want_dash r p true i e =
    let room = room_behind p (room_of r)
    in ap
    (λ b.
    choose b (Go (Want (AtEntry r p true (edge i) NoEntry i) NoProperties))
    (if_go (right_fits room (edge i)) (Go (Want (AtEntry r p false (edge i) NoEntry i) NoProperties))))
    e
want_dash r p false i e =
    let room = room_behind p (room_of r) in
    ap
    (λ b.
    choose b (Go (Want (AtEntry r p true (edge i) NoEntry i) NoProperties))
    (if_go (right_fits room (edge i)) (Go (Want (AtEntry r p false (edge i) NoEntry i) NoProperties))))
    (no_loose room (edge i) e)
    ∙ ap (λ b. if_go b (Go (Want (AtEntry r p false (edge i) NoEntry i) NoProperties))) e

dash_empty :
    (r : Hole) (loose : Bool) (i : At) → sequence_fits (room_of r) loose (edge i) ≡ true →
    empty_fits r (terminal Dash i) ≡ false
dash_empty r true i e = stays_loose r i e
dash_empty r false i e = stays_right r Dash i e refl

goes_on_dash :
    (room : Room) (p : TreeProperties) (loose : Bool) (i : At) → sequence_fits room loose (edge i) ≡ true →
    continues_node room p Dash i ≡ true
goes_on_dash room p true i e = or_left _ _ e
goes_on_dash room p false i e = or_right (loose_fits room (edge i)) _ e

no_key_dash : (r : Hole) (loose : Bool) (i : At) → sequence_fits (room_of r) loose (edge i) ≡ true → door r ≡ gate r
no_key_dash (AtRoot root) loose i e = refl
no_key_dash (AtEntry r q l d lead j) loose i e = refl
no_key_dash (AtItem r q bracket o lead) loose i e = refl
no_key_dash (AtKey r a f) true i e = cc (e)
no_key_dash (AtKey r a f) false i e = cc (e)
no_key_dash (AtAsk r a q) loose i e = refl
no_key_dash (AtColon r a left m) loose i e = refl

pub enters_dash :
    (r : Hole) (p : TreeProperties) (loose : Bool) (i : At) →
    sequence_fits (room_behind p (room_of r)) loose (edge i) ≡ true →
    Enters (door_with r p) Dash i (Go (Want (AtEntry r p loose (edge i) NoEntry i) NoProperties))
enters_dash r NoProperties loose i e =
    subst (λ q. Enters q Dash i (Go (Want (AtEntry r NoProperties loose (edge i) NoEntry i) NoProperties)))
    (sym (no_key_dash r loose i e))
    (to_same (gate r) Dash i _ _ (want_dash r NoProperties loose i e)
    (at_gate r Dash i refl (dash_empty r loose i e)))
enters_dash r (One k j) loose i e =
    to_same (Want r (One k j)) Dash i _ _ (want_dash r (One k j) loose i e)
    (at_properties r k j Dash i (goes_on_dash (behind_property (room_of r)) (One k j) loose i e))
enters_dash r (Two k j m h) loose i e =
    to_same (Want r (Two k j m h)) Dash i _ _ (want_dash r (Two k j m h) loose i e)
    (at_two r k j m h Dash i (goes_on_dash (behind_property (room_of r)) (Two k j m h) loose i e))
