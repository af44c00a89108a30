-- What is read is placed.
use Rattle.std.proofs.Common.{◌≡◌, ℕ, Bool, true, false, List, [], ◌∷◌, refl, subst, ◌==◌, ◌&&◌, Some, None}
use Rattle.std.proofs.lemmas.Bool.{eq-eqb, and_parts, and_from}
use Rattle.granit_grammar.specs.TreeMachine.{NextPlace, Go, NotTaken, if_go, part_take, entry_take, entry_at}
use Rattle.granit_grammar.specs.TreeMachine.{plain_site, pair_site, want_take, take, tree_step, TreeAnswer, ReadAs}
use Rattle.granit_grammar.specs.TreeMachine.{RefusedAt, Short, at_end, tree_goes, parse, tree_start}
use Rattle.granit_language.specs.Choice.{choose}
use Rattle.granit_language.specs.Node.{TreeProperties, NoProperties, One, Two, AliasNode, ScalarNode, Alone, Flow}
use Rattle.granit_language.specs.Node.{Sequence, Mapping, Content, Nothing, Just, Entries, Entry, Through, NoPair}
use Rattle.granit_language.specs.Node.{AfterPair, Pair, WithColon, AskOnly, NoLast, LastItem, Paired}
use Rattle.granit_language.specs.OpenPlace.{Bare, Explicit, Around, BlockPairs, FlowPairs, Hole, AtRoot, AtEntry}
use Rattle.granit_language.specs.OpenPlace.{AtItem, AtKey, AtAsk, AtColon, OpenPlace, Fresh, InDirectives, BehindRoot}
use Rattle.granit_language.specs.OpenPlace.{Ended, Want, PastEntry, PastKey, PastAsk, PastPair, PastItem, spell_open}
use Rattle.granit_language.specs.OpenPlace.{holder, room_of, AroundPlaced, HolePlaced, OpenPlaced}
use Rattle.granit_language.specs.Placed.{PropertiesPlaced, ContentPlaced, StreamPlaced}
use Rattle.granit_language.specs.Room.{Holder, BlockIn, FlowIn, Room, RightOf, ValueIn, KeyIn, BehindKey, ItemIn}
use Rattle.granit_language.specs.Room.{Inside, behind_property, room_behind, right_fits, loose_fits, indicates, opens}
use Rattle.granit_language.specs.Room.{part_fits, PartFits, differ, continues_node, sequence_over, ask_over, place_fits}
use Rattle.granit_language.specs.Room.{pair_over}
use Rattle.granit_language.specs.Settling.{put_in, empty_fits, end_entries, end_pair, end_ask, finish_at, settle_want}
use Rattle.granit_language.specs.Settling.{settle_place}
use Rattle.granit_language.specs.Terminal.{PartKind, Alias, Property, Scalar, Open, TerminalKind, Directive}
use Rattle.granit_language.specs.Terminal.{DocumentStart, DocumentEnd, TheEnd, Dash, Question, Comma, Colon, Close}
use Rattle.granit_language.specs.Terminal.{Part, At, Terminal, terminal, edge, begins_entry_kind, stands_left, entry_in}
use Rattle.granit_language.specs.Terminal.{no_terminal}
use Rattle.granit_language.specs.Yield.{spell_stream}
use Rattle.granit_lexemes.specs.declared.layout.Bracket.TheVariants.{Square, Curly}
use Rattle.granit_grammar.proofs.Sound.{Leads, Then, step_leads, close_spells}

pub either_is :
    (P : OpenPlace → Type 0) (b : Bool) (p q : OpenPlace) → (b ≡ true → P p) → (b ≡ false → P q) → P (choose b p q)
either_is P true p q x y = x refl
either_is P false p q x y = y refl

-- nothing or a node in a hole, in front of x
abbrev pub FilledPlaced : Terminal → Hole → Content → Type 0
FilledPlaced x r v = ContentPlaced v (room_of r) (empty_fits r x) x

put_placed : (x : Terminal) (r : Hole) (v : Content) → HolePlaced r → FilledPlaced x r v → OpenPlaced x (put_in r v)
put_placed x (AtRoot (Bare b)) Nothing f g = cc (g)
put_placed x (AtRoot (Bare b)) (Just t) f g = (f, g)
put_placed x (AtRoot (Explicit s i)) v f g = (f, g)
put_placed x (AtEntry r p loose c lead i) v f g = (f.0, f.1, f.2, (f.3, f.4, g))
put_placed x (AtItem r p bracket o lead) Nothing f g = cc (g)
put_placed x (AtItem r p bracket o lead) (Just t) f g = (f.0, f.1, f.2, f.3, g, tt)
put_placed x (AtKey r a k) Nothing f g = cc (g)
put_placed x (AtKey r a k) (Just t) f g = (f.0, f.1, f.2, g)
put_placed x (AtAsk r a q) v f g = (f.0, f.1, f.2, g)
put_placed x (AtColon r a left m) v f g = (f.0, f.1, (f.2, g))

entries_then :
    (x : Terminal) (on : Content → OpenPlace) (r : Hole) (p : TreeProperties) (loose : Bool) (c : ℕ) (es : Entries) →
    OpenPlaced x (PastEntry r p loose c es) → ((v : Content) → FilledPlaced x r v → OpenPlaced x (on v)) →
    OpenPlaced x (end_entries x on r p loose c es)
entries_then x on r p loose c es f g =
    either_is (OpenPlaced x) (sequence_over loose c x) (on (Just (Sequence p loose c es x.at.start)))
    (PastEntry r p loose c es) (λ e. g (Just (Sequence p loose c es x.at.start)) (f.1, f.2, f.3, e, refl)) (λ e. f)

pair_then :
    (x : Terminal) (on : Content → OpenPlace) (r : Hole) (a : Around) (pair : Pair) → OpenPlaced x (PastPair r a pair) →
    ((v : Content) → FilledPlaced x r v → OpenPlaced x (on v)) → OpenPlaced x (end_pair x on r a pair)
pair_then x on r (BlockPairs p c lead) pair f g =
    either_is (OpenPlaced x) (stands_left x c) (on (Just (Mapping p c (Through lead pair) x.at.start)))
    (PastPair r (BlockPairs p c lead) pair)
    (λ e. g (Just (Mapping p c (Through lead pair) x.at.start)) (f.1.0, f.1.1, (f.1.2, f.2), e, refl)) (λ e. f)
pair_then x on r (FlowPairs p bracket o lead) pair f g =
    either_is (OpenPlaced x) (pair_over bracket pair x) (PastItem r p bracket o lead (Paired pair))
    (PastPair r (FlowPairs p bracket o lead) pair) (λ e. (f.0, f.1.0, f.1.1, f.1.2, f.2, e)) (λ e. f)

ask_then :
    (x : Terminal) (on : Content → OpenPlace) (r : Hole) (a : Around) (q : At) (v : Content) →
    OpenPlaced x (PastAsk r a q v) → ((v : Content) → FilledPlaced x r v → OpenPlaced x (on v)) →
    OpenPlaced x (end_ask x on r a q v)
ask_then x on r a q v f g =
    either_is (OpenPlaced x) (ask_over (holder a) x) (end_pair x on r a (AskOnly q v x.at.start)) (PastAsk r a q v)
    (λ e. pair_then x on r a (AskOnly q v x.at.start) (f.0, f.1, (f.2, f.3, e, refl)) g) (λ e. f)

finish_placed :
    (x : Terminal) (r : Hole) (v : Content) → HolePlaced r → FilledPlaced x r v → OpenPlaced x (finish_at x r v)
finish_placed x (AtRoot root) v f g = put_placed x (AtRoot root) v f g
finish_placed x (AtEntry r p loose c lead i) v f g =
    entries_then x (finish_at x r) r p loose c (Entry lead i v) (f.0, f.1, f.2, (f.3, f.4, g))
    (λ v h. finish_placed x r v f.0 h)
finish_placed x (AtItem r p bracket o lead) v f g = put_placed x (AtItem r p bracket o lead) v f g
finish_placed x (AtKey r a k) v f g = put_placed x (AtKey r a k) v f g
finish_placed x (AtAsk r a q) v f g =
    ask_then x (finish_at x r) r a q v (f.0, f.1, f.2, g) (λ v h. finish_placed x r v f.0 h)
finish_placed x (AtColon r a left m) v f g =
    pair_then x (finish_at x r) r a (WithColon left m v) (f.0, f.1, (f.2, g)) (λ v h. finish_placed x r v f.0 h)

want_closes :
    (x : Terminal) (r : Hole) (p : TreeProperties) → OpenPlaced x (Want r p) → OpenPlaced x (settle_want x r p)
want_closes x r NoProperties f =
    either_is (OpenPlaced x) (empty_fits r x) (finish_at x r Nothing) (Want r NoProperties)
    (λ e. finish_placed x r Nothing f.0 e) (λ e. f)
want_closes x r (One k i) f =
    either_is (OpenPlaced x) (continues_node (room_behind (One k i) (room_of r)) (One k i) x.kind x.at)
    (Want r (One k i)) (finish_at x r (Just (Alone (One k i)))) (λ e. f)
    (λ e. finish_placed x r (Just (Alone (One k i))) f.0 (f.1, tt, e))
want_closes x r (Two k i m j) f =
    either_is (OpenPlaced x) (continues_node (room_behind (Two k i m j) (room_of r)) (Two k i m j) x.kind x.at)
    (Want r (Two k i m j)) (finish_at x r (Just (Alone (Two k i m j)))) (λ e. f)
    (λ e. finish_placed x r (Just (Alone (Two k i m j))) f.0 (f.1, tt, e))

pub close_placed : (x : Terminal) (p : OpenPlace) → OpenPlaced x p → OpenPlaced x (settle_place x p)
close_placed x (Want r p) f = want_closes x r p f
close_placed x (PastEntry r p loose c es) f =
    entries_then x (finish_at x r) r p loose c es f (λ v h. finish_placed x r v f.0 h)
close_placed x (PastAsk r a q v) f = ask_then x (finish_at x r) r a q v f (λ v h. finish_placed x r v f.0 h)
close_placed x (PastPair r a pair) f = pair_then x (finish_at x r) r a pair f (λ v h. finish_placed x r v f.0 h)
close_placed x (Fresh b) f = f
close_placed x (InDirectives ds) f = f
close_placed x (BehindRoot ro) f = f
close_placed x (Ended s) f = f
close_placed x (PastKey r a k t) f = f
close_placed x (PastItem r p bracket o lead item) f = f

-- in front of whatever follows
abbrev pub NextPlaced : NextPlace → Type 0
NextPlaced (Go p) = (x : Terminal) → OpenPlaced x p
NextPlaced NotTaken = Unit {0}

if_placed : (b : Bool) (n : NextPlace) → (b ≡ true → NextPlaced n) → NextPlaced (if_go b n)
if_placed true n h = h refl
if_placed false n h = tt

choose_placed : (b : Bool) (n m : NextPlace) → (b ≡ true → NextPlaced n) → NextPlaced m → NextPlaced (choose b n m)
choose_placed true n m x y = x refl
choose_placed false n m x y = y

part_placed :
    (r : Hole) (p : TreeProperties) (k : PartKind) (i : At) → HolePlaced r → PropertiesPlaced p (room_of r) →
    PartFits (room_behind p (room_of r)) k i → NextPlaced (part_take r p k i)
part_placed r NoProperties (Alias name) i f g h = λ x. put_placed x r (Just (AliasNode name i)) f h
part_placed r NoProperties (Property k) i f g h = λ x. (f, h)
part_placed r (One m j) (Property k) i f g h = if_placed (differ m k) _ (λ e x. (f, (g, h, e)))
part_placed r p (Scalar style text) i f g h = λ x. put_placed x r (Just (ScalarNode p style text i)) f (g, h)
part_placed r p (Open bracket) i f g h = λ x. ((f, g, h, tt), tt)
part_placed r p k i f g h = tt

-- a lexeme that begins an entry, at its place
abbrev pub EntryFits : Holder → TerminalKind → At → Type 0
EntryFits h kind i = (begins_entry_kind kind i.begins_key && place_fits h i) ≡ true

entry_placed :
    (r : Hole) (a : Around) (kind : TerminalKind) (i : At) → HolePlaced r →
    AroundPlaced a (room_of r) (terminal kind i) → EntryFits (holder a) kind i → NextPlaced (entry_take r a kind i)
entry_placed r a (Part k) i f g e = part_placed (AtKey r a (terminal (Part k) i)) NoProperties k i (f, g, e) tt refl
entry_placed r a Question i f g e = λ x. ((f, g, e), tt)
entry_placed r a (Colon None) i f g e = λ x. ((f, g, e), tt)
entry_placed r a kind i f g e = tt

block_placed :
    (r : Hole) (p : TreeProperties) (kind : TerminalKind) (i : At) → HolePlaced r → PropertiesPlaced p (room_of r) →
    right_fits (room_behind p (room_of r)) (edge i) ≡ true → begins_entry_kind kind i.begins_key ≡ true →
    NextPlaced (entry_take r (BlockPairs p (edge i) NoPair) kind i)
block_placed r p kind i f g e b =
    entry_placed r (BlockPairs p (edge i) NoPair) kind i f (g, e, tt) (and_from _ _ b (eq-eqb (edge i) (edge i) refl))

-- behind properties no item begins
behind_right :
    (room : Room) (i : At) → indicates (behind_property room) i ≡ true →
    right_fits (behind_property room) (edge i) ≡ true
behind_right (RightOf n) i e = e
behind_right (ValueIn c) i e = e
behind_right (KeyIn (BlockIn c) f) i e = e
behind_right (KeyIn (FlowIn bracket) f) i e = e
behind_right (BehindKey c) i e = e
behind_right ItemIn i e = e
behind_right Inside i e = e

plain_placed :
    (r : Hole) (kind : TerminalKind) (i : At) → HolePlaced r → indicates (room_of r) i ≡ true →
    begins_entry_kind kind i.begins_key ≡ true → NextPlaced (entry_at (plain_site r i) kind i)
plain_placed (AtItem r q bracket o lead) kind i f e b =
    entry_placed r (FlowPairs q bracket o lead) kind i f.0 (f.1, f.2, f.3) (and_from _ _ b refl)
plain_placed (AtRoot root) kind i f e b = block_placed (AtRoot root) NoProperties kind i f tt e b
plain_placed (AtEntry r q loose c lead j) kind i f e b =
    block_placed (AtEntry r q loose c lead j) NoProperties kind i f tt e b
plain_placed (AtKey r a k) kind i f e b = block_placed (AtKey r a k) NoProperties kind i f tt e b
plain_placed (AtAsk r (BlockPairs q c lead) j) kind i f e b =
    block_placed (AtAsk r (BlockPairs q c lead) j) NoProperties kind i f tt e b
plain_placed (AtAsk r (FlowPairs q bracket o lead) j) kind i f e b =
    block_placed (AtAsk r (FlowPairs q bracket o lead) j) NoProperties kind i f tt e b
plain_placed (AtColon r (BlockPairs q c lead) left j) kind i f e b =
    block_placed (AtColon r (BlockPairs q c lead) left j) NoProperties kind i f tt e b
plain_placed (AtColon r (FlowPairs q bracket o lead) left j) kind i f e b =
    block_placed (AtColon r (FlowPairs q bracket o lead) left j) NoProperties kind i f tt e b

site_placed :
    (r : Hole) (p : TreeProperties) (kind : TerminalKind) (i : At) → HolePlaced r → PropertiesPlaced p (room_of r) →
    indicates (room_behind p (room_of r)) i ≡ true → begins_entry_kind kind i.begins_key ≡ true →
    NextPlaced (entry_at (pair_site r p i) kind i)
site_placed r NoProperties kind i f g e b = plain_placed r kind i f e b
site_placed r (One k j) kind i f g e b = block_placed r (One k j) kind i f g (behind_right (room_of r) i e) b
site_placed r (Two k j m n) kind i f g e b = block_placed r (Two k j m n) kind i f g (behind_right (room_of r) i e) b

pub fits_is : (room : Room) (k : PartKind) (i : At) → part_fits room i ≡ true → PartFits room k i
fits_is (RightOf n) k i e = e
fits_is (ValueIn c) k i e = e
fits_is (KeyIn h f) k i e = cc (e)
fits_is (BehindKey c) k i e = e
fits_is ItemIn k i e = e
fits_is Inside k i e = e

want_placed :
    (r : Hole) (p : TreeProperties) (kind : TerminalKind) (i : At) → HolePlaced r → PropertiesPlaced p (room_of r) →
    NextPlaced (want_take r p kind i)
want_placed r p (Part k) i f g =
    choose_placed (opens (room_behind p (room_of r)) i) _ _
    (λ e. site_placed r p (Part k) i f g (and_parts _ _ e).1 (and_parts _ _ e).0)
    (if_placed (part_fits (room_behind p (room_of r)) i) _
    (λ e. part_placed r p k i f g (fits_is (room_behind p (room_of r)) k i e)))
want_placed r p Dash i f g =
    choose_placed (loose_fits (room_behind p (room_of r)) (edge i)) _ _
    (λ e x. ((f, g, e, tt, eq-eqb (edge i) (edge i) refl), tt))
    (if_placed (right_fits (room_behind p (room_of r)) (edge i)) _
    (λ e x. ((f, g, e, tt, eq-eqb (edge i) (edge i) refl), tt)))
want_placed r p Question i f g =
    if_placed (indicates (room_behind p (room_of r)) i) _ (λ e. site_placed r p Question i f g e refl)
want_placed r p (Colon None) i f g =
    if_placed (indicates (room_behind p (room_of r)) i) _ (λ e. site_placed r p (Colon None) i f g e refl)
want_placed (AtItem r q Square o lead) NoProperties (Close Square) i f g =
    λ x. put_placed x r (Just (Flow q Square o lead NoLast i)) f.0 (f.1, f.2, f.3, tt)
want_placed (AtItem r q Curly o lead) NoProperties (Close Curly) i f g =
    λ x. put_placed x r (Just (Flow q Curly o lead NoLast i)) f.0 (f.1, f.2, f.3, tt)
want_placed r p kind i f g = tt

-- an entry in the column of the mapping
in_column : (kind : TerminalKind) (i : At) (c : ℕ) → entry_in (terminal kind i) c ≡ true → EntryFits (BlockIn c) kind i
in_column (Part k) i c e = e
in_column Question i c e = e
in_column (Colon None) i c e = e
in_column (Colon (Some n)) i c e = e
in_column (Directive d) i c e = e
in_column DocumentStart i c e = e
in_column DocumentEnd i c e = e
in_column TheEnd i c e = e
in_column Dash i c e = e
in_column Comma i c e = e
in_column (Close bracket) i c e = e

pub take_placed :
    (p : OpenPlace) (kind : TerminalKind) (i : At) → OpenPlaced (terminal kind i) p → NextPlaced (take p kind i)
take_placed (Fresh b) (Directive d) i f = λ x. f
take_placed (Fresh b) DocumentStart i f = λ x. (f, tt)
take_placed (Fresh b) DocumentEnd i f = λ x. f
take_placed (Fresh b) TheEnd i f = λ x. f
take_placed (Fresh b) kind i f = want_placed (AtRoot (Bare b)) NoProperties kind i f tt
take_placed (InDirectives ds) (Directive d) i f = λ x. f
take_placed (InDirectives ds) DocumentStart i f = λ x. (f, tt)
take_placed (BehindRoot ro) DocumentStart i f = λ x. (f, tt)
take_placed (BehindRoot ro) DocumentEnd i f = λ x. f
take_placed (BehindRoot ro) TheEnd i f = λ x. f
take_placed (Want r p) kind i f = want_placed r p kind i f.0 f.1
take_placed (PastEntry r p loose c es) Dash i f = if_placed (edge i == c) _ (λ e x. ((f.0, f.1, f.2, f.3, e), tt))
take_placed (PastKey r a k t) (Colon (Some n)) i f = λ x. ((f.0, f.1, (f.2, f.3)), tt)
take_placed (PastAsk r a q v) (Colon None) i f =
    if_placed (place_fits (holder a) i) _ (λ e x. ((f.0, f.1, (f.2, f.3, e)), tt))
take_placed (PastPair r (BlockPairs p c lead) pair) kind i f =
    if_placed (entry_in (terminal kind i) c) _
    (λ e.
    entry_placed r (BlockPairs p c (AfterPair (Through lead pair))) kind i f.0 (f.1.0, f.1.1, (f.1.2, f.2))
    (in_column kind i c e))
take_placed (PastPair r (FlowPairs p Curly o lead) pair) Comma i f = λ x. ((f.0, f.1.0, f.1.1, (f.1.2, f.2)), tt)
take_placed (PastPair r (FlowPairs p Curly o lead) pair) (Close Curly) i f =
    λ x. put_placed x r (Just (Flow p Curly o lead (LastItem (Paired pair)) i)) f.0 (f.1.0, f.1.1, f.1.2, f.2)
take_placed (PastItem r p bracket o lead item) Comma i f = λ x. ((f.0, f.1, f.2, (f.3, f.4)), tt)
take_placed (PastItem r p Square o lead item) (Close Square) i f =
    λ x. put_placed x r (Just (Flow p Square o lead (LastItem item) i)) f.0 (f.1, f.2, f.3, f.4)
take_placed (PastItem r p Curly o lead item) (Close Curly) i f =
    λ x. put_placed x r (Just (Flow p Curly o lead (LastItem item) i)) f.0 (f.1, f.2, f.3, f.4)
take_placed p kind i f = tt

-- the whole
abbrev pub Tells : TreeAnswer → List Terminal → Type 0
Tells (ReadAs s) all = (spell_stream s [] ≡ all) × StreamPlaced s
Tells (RefusedAt p l) all =
    (rest : List Terminal) × (spell_open p (l ∷ rest) ≡ all) × OpenPlaced l p × (take p l.kind l.at ≡ NotTaken)
Tells (Short p) all = (spell_open p [] ≡ all) × ((x : Terminal) → OpenPlaced x p)

end_tells : (p : OpenPlace) → ((x : Terminal) → OpenPlaced x p) → (x : Terminal) → Tells (at_end p) (spell_open p [])
end_tells (Ended s) f x = (refl, f x)
end_tells p f x = (refl, f)

goes_tells :
    (n : NextPlace) (p q : OpenPlace) (l : Terminal) (ls : List Terminal) → take q l.kind l.at ≡ n →
    Leads n (Then p l.kind l.at) → NextPlaced n → ((rest : List Terminal) → spell_open q rest ≡ spell_open p rest) →
    OpenPlaced l q → ((p : OpenPlace) → ((x : Terminal) → OpenPlaced x p) → Tells (parse ls p) (spell_open p ls)) →
    Tells (tree_goes n q l (parse ls)) (spell_open p (l ∷ ls))
goes_tells (Go p') p q l ls e t f s g ih = subst (Tells (parse ls p')) (t ls) (ih p' f)
goes_tells NotTaken p q l ls e t f s g ih = (ls, s (l ∷ ls), g, e)

pub tells :
    (ls : List Terminal) (p : OpenPlace) → ((x : Terminal) → OpenPlaced x p) → Tells (parse ls p) (spell_open p ls)
tells [] p f = end_tells p f no_terminal
tells (l ∷ ls) p f =
    let g = close_placed l p (f l)
    in goes_tells (tree_step p l) p (settle_place l p) l ls refl (step_leads p l)
    (take_placed (settle_place l p) l.kind l.at g)
    (close_spells l p) g (tells ls)

pub one_cut : (ls : List Terminal) → Tells (parse ls tree_start) ls
one_cut ls = tells ls tree_start (λ x. tt)
