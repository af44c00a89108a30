-- What stands before an open place is what was taken.
use Rattle.std.proofs.Common.{◌≡◌, ℕ, Bool, true, false, List, ◌∷◌, refl, ◌∙◌, ◌==◌, Some, None}
use Rattle.granit_grammar.specs.TreeMachine.{NextPlace, Go, NotTaken, if_go, part_take, entry_take, entry_at}
use Rattle.granit_grammar.specs.TreeMachine.{plain_site, pair_site, want_take, take, tree_step}
use Rattle.granit_language.specs.Choice.{choose}
use Rattle.granit_language.specs.Node.{TreeProperties, NoProperties, One, Two, AliasNode, ScalarNode, Alone, Flow}
use Rattle.granit_language.specs.Node.{Sequence, Mapping, Content, Nothing, Just, Entries, Entry, Through, NoPair}
use Rattle.granit_language.specs.Node.{AfterPair, Pair, WithColon, AskOnly, NoLast, LastItem, Paired}
use Rattle.granit_language.specs.OpenPlace.{Bare, Explicit, Around, BlockPairs, FlowPairs, Hole, AtRoot, AtEntry}
use Rattle.granit_language.specs.OpenPlace.{AtItem, AtKey, AtAsk, AtColon, OpenPlace, Fresh, InDirectives, BehindRoot}
use Rattle.granit_language.specs.OpenPlace.{Want, PastEntry, PastKey, PastAsk, PastPair, PastItem, spell_around}
use Rattle.granit_language.specs.OpenPlace.{spell_hole, spell_open, holder, room_of}
use Rattle.granit_language.specs.Room.{room_behind, right_fits, loose_fits, indicates, opens, part_fits, differ}
use Rattle.granit_language.specs.Room.{continues_node, sequence_over, ask_over, place_fits, pair_over}
use Rattle.granit_language.specs.Settling.{put_in, empty_fits, end_entries, end_pair, end_ask, finish_at, settle_want}
use Rattle.granit_language.specs.Settling.{settle_place}
use Rattle.granit_language.specs.Terminal.{PartKind, Alias, Property, Scalar, Open, TerminalKind, Directive}
use Rattle.granit_language.specs.Terminal.{DocumentStart, DocumentEnd, TheEnd, Dash, Question, Comma, Colon, Close}
use Rattle.granit_language.specs.Terminal.{Part, At, Terminal, terminal, edge, stands_left, entry_in}
use Rattle.granit_language.specs.Yield.{spell_properties, spell_content, spell_entries, spell_pair}
use Rattle.granit_lexemes.specs.declared.layout.Bracket.TheVariants.{Square, Curly}

pub either : (P : OpenPlace → Type 0) (b : Bool) (p q : OpenPlace) → P p → P q → P (choose b p q)
either P true p q x y = x
either P false p q x y = y

-- the lexemes of a place are these, in front of any rest
abbrev pub Spells : (List Terminal → List Terminal) → OpenPlace → Type 0
Spells f p = (rest : List Terminal) → spell_open p rest ≡ f rest

-- those of a hole and what is put there
abbrev pub Filled : Hole → Content → List Terminal → List Terminal
Filled r v rest = spell_hole r (spell_content v rest)

pub put_spells : (r : Hole) (v : Content) → Spells (Filled r v) (put_in r v)
put_spells (AtRoot (Bare b)) Nothing = λ rest. refl
put_spells (AtRoot (Bare b)) (Just t) = λ rest. refl
put_spells (AtRoot (Explicit s i)) v = λ rest. refl
put_spells (AtEntry r p loose c lead i) v = λ rest. refl
put_spells (AtItem r p bracket o lead) Nothing = λ rest. refl
put_spells (AtItem r p bracket o lead) (Just t) = λ rest. refl
put_spells (AtKey r a f) Nothing = λ rest. refl
put_spells (AtKey r a f) (Just t) = λ rest. refl
put_spells (AtAsk r a q) v = λ rest. refl
put_spells (AtColon r a left m) v = λ rest. refl

entries_spell :
    (x : Terminal) (on : Content → OpenPlace) (r : Hole) (p : TreeProperties) (loose : Bool) (c : ℕ) (es : Entries) →
    ((v : Content) → Spells (Filled r v) (on v)) →
    Spells (λ rest. spell_hole r (spell_properties p (spell_entries es rest))) (end_entries x on r p loose c es)
entries_spell x on r p loose c es h =
    either (Spells _) (sequence_over loose c x) _ _ (h (Just (Sequence p loose c es x.at.start))) (λ rest. refl)

pair_spells :
    (x : Terminal) (on : Content → OpenPlace) (r : Hole) (a : Around) (pair : Pair) →
    ((v : Content) → Spells (Filled r v) (on v)) →
    Spells (λ rest. spell_hole r (spell_around a (spell_pair pair rest))) (end_pair x on r a pair)
pair_spells x on r (BlockPairs p c lead) pair h =
    either (Spells _) (stands_left x c) _ _ (h (Just (Mapping p c (Through lead pair) x.at.start))) (λ rest. refl)
pair_spells x on r (FlowPairs p bracket o lead) pair h =
    either (Spells _) (pair_over bracket pair x) _ _ (λ rest. refl) (λ rest. refl)

ask_spells :
    (x : Terminal) (on : Content → OpenPlace) (r : Hole) (a : Around) (q : At) (v : Content) →
    ((v : Content) → Spells (Filled r v) (on v)) →
    Spells (λ rest. spell_hole r (spell_around a (terminal Question q ∷ spell_content v rest))) (end_ask x on r a q v)
ask_spells x on r a q v h =
    either (Spells _) (ask_over (holder a) x) _ _ (pair_spells x on r a (AskOnly q v x.at.start) h) (λ rest. refl)

finish_spells : (x : Terminal) (r : Hole) (v : Content) → Spells (Filled r v) (finish_at x r v)
finish_spells x (AtRoot root) v = put_spells (AtRoot root) v
finish_spells x (AtEntry r p loose c lead i) v =
    entries_spell x (finish_at x r) r p loose c (Entry lead i v) (finish_spells x r)
finish_spells x (AtItem r p bracket o lead) v = put_spells (AtItem r p bracket o lead) v
finish_spells x (AtKey r a f) v = put_spells (AtKey r a f) v
finish_spells x (AtAsk r a q) v = ask_spells x (finish_at x r) r a q v (finish_spells x r)
finish_spells x (AtColon r a left m) v = pair_spells x (finish_at x r) r a (WithColon left m v) (finish_spells x r)

want_spells : (x : Terminal) (r : Hole) (p : TreeProperties) → Spells (spell_open (Want r p)) (settle_want x r p)
want_spells x r NoProperties = either (Spells _) (empty_fits r x) _ _ (finish_spells x r Nothing) (λ rest. refl)
want_spells x r (One k i) =
    either (Spells _) (continues_node (room_behind (One k i) (room_of r)) (One k i) x.kind x.at) _ _ (λ rest. refl)
    (finish_spells x r (Just (Alone (One k i))))
want_spells x r (Two k i m j) =
    either (Spells _) (continues_node (room_behind (Two k i m j) (room_of r)) (Two k i m j) x.kind x.at) _ _
    (λ rest. refl) (finish_spells x r (Just (Alone (Two k i m j))))

-- what ends spells nothing
pub close_spells : (x : Terminal) (p : OpenPlace) → Spells (spell_open p) (settle_place x p)
close_spells x (Want r p) = want_spells x r p
close_spells x (PastEntry r p loose c es) = entries_spell x (finish_at x r) r p loose c es (finish_spells x r)
close_spells x (PastAsk r a q v) = ask_spells x (finish_at x r) r a q v (finish_spells x r)
close_spells x (PastPair r a pair) = pair_spells x (finish_at x r) r a pair (finish_spells x r)
close_spells x p = λ rest. refl

-- what a step leads to spells this
abbrev pub Leads : NextPlace → (List Terminal → List Terminal) → Type 0
Leads (Go p) f = (rest : List Terminal) → spell_open p rest ≡ f rest
Leads NotTaken f = Unit {0}

if_leads : (b : Bool) (n : NextPlace) (f : List Terminal → List Terminal) → Leads n f → Leads (if_go b n) f
if_leads true n f h = h
if_leads false n f h = tt

choose_leads :
    (b : Bool) (n m : NextPlace) (f : List Terminal → List Terminal) → Leads n f → Leads m f → Leads (choose b n m) f
choose_leads true n m f x y = x
choose_leads false n m f x y = y

-- the lexemes of an open place, and one more
abbrev pub Then : OpenPlace → TerminalKind → At → List Terminal → List Terminal
Then p kind i rest = spell_open p (terminal kind i ∷ rest)

part_leads :
    (r : Hole) (p : TreeProperties) (k : PartKind) (i : At) → Leads (part_take r p k i) (Then (Want r p) (Part k) i)
part_leads r NoProperties (Alias name) i = put_spells r (Just (AliasNode name i))
part_leads r NoProperties (Property k) i = λ rest. refl
part_leads r (One m j) (Property k) i = if_leads (differ m k) _ _ (λ rest. refl)
part_leads r p (Scalar style text) i = put_spells r (Just (ScalarNode p style text i))
part_leads r p (Open bracket) i = λ rest. refl
part_leads r p k i = tt

entry_leads :
    (r : Hole) (a : Around) (kind : TerminalKind) (i : At) →
    Leads (entry_take r a kind i) (λ rest. spell_hole r (spell_around a (terminal kind i ∷ rest)))
entry_leads r a (Part k) i = part_leads (AtKey r a (terminal (Part k) i)) NoProperties k i
entry_leads r a Question i = λ rest. refl
entry_leads r a (Colon None) i = λ rest. refl
entry_leads r a kind i = tt

plain_leads :
    (r : Hole) (kind : TerminalKind) (i : At) →
    Leads (entry_at (plain_site r i) kind i) (Then (Want r NoProperties) kind i)
plain_leads (AtItem r q bracket o lead) kind i = entry_leads r (FlowPairs q bracket o lead) kind i
plain_leads r kind i = entry_leads r (BlockPairs NoProperties (edge i) NoPair) kind i

site_leads :
    (r : Hole) (p : TreeProperties) (kind : TerminalKind) (i : At) →
    Leads (entry_at (pair_site r p i) kind i) (Then (Want r p) kind i)
site_leads r NoProperties kind i = plain_leads r kind i
site_leads r p kind i = entry_leads r (BlockPairs p (edge i) NoPair) kind i

want_leads :
    (r : Hole) (p : TreeProperties) (kind : TerminalKind) (i : At) →
    Leads (want_take r p kind i) (Then (Want r p) kind i)
want_leads r p (Part k) i =
    choose_leads (opens (room_behind p (room_of r)) i) _ _ _ (site_leads r p (Part k) i)
    (if_leads (part_fits (room_behind p (room_of r)) i) _ _ (part_leads r p k i))
want_leads r p Dash i =
    choose_leads (loose_fits (room_behind p (room_of r)) (edge i)) _ _ _ (λ rest. refl)
    (if_leads (right_fits (room_behind p (room_of r)) (edge i)) _ _ (λ rest. refl))
want_leads r p Question i = if_leads (indicates (room_behind p (room_of r)) i) _ _ (site_leads r p Question i)
want_leads r p (Colon None) i = if_leads (indicates (room_behind p (room_of r)) i) _ _ (site_leads r p (Colon None) i)
want_leads (AtItem r q Square o lead) NoProperties (Close Square) i =
    put_spells r (Just (Flow q Square o lead NoLast i))
want_leads (AtItem r q Curly o lead) NoProperties (Close Curly) i = put_spells r (Just (Flow q Curly o lead NoLast i))
want_leads r p kind i = tt

take_leads : (p : OpenPlace) (kind : TerminalKind) (i : At) → Leads (take p kind i) (Then p kind i)
take_leads (Fresh b) (Directive d) i = λ rest. refl
take_leads (Fresh b) DocumentStart i = λ rest. refl
take_leads (Fresh b) DocumentEnd i = λ rest. refl
take_leads (Fresh b) TheEnd i = λ rest. refl
take_leads (Fresh b) kind i = want_leads (AtRoot (Bare b)) NoProperties kind i
take_leads (InDirectives ds) (Directive d) i = λ rest. refl
take_leads (InDirectives ds) DocumentStart i = λ rest. refl
take_leads (BehindRoot ro) DocumentStart i = λ rest. refl
take_leads (BehindRoot ro) DocumentEnd i = λ rest. refl
take_leads (BehindRoot ro) TheEnd i = λ rest. refl
take_leads (Want r p) kind i = want_leads r p kind i
take_leads (PastEntry r p loose c es) Dash i = if_leads (edge i == c) _ _ (λ rest. refl)
take_leads (PastKey r a f k) (Colon (Some n)) i = λ rest. refl
take_leads (PastAsk r a q v) (Colon None) i = if_leads (place_fits (holder a) i) _ _ (λ rest. refl)
take_leads (PastPair r (BlockPairs p c lead) pair) kind i =
    if_leads (entry_in (terminal kind i) c) _ _ (entry_leads r (BlockPairs p c (AfterPair (Through lead pair))) kind i)
take_leads (PastPair r (FlowPairs p Curly o lead) pair) Comma i = λ rest. refl
take_leads (PastPair r (FlowPairs p Curly o lead) pair) (Close Curly) i =
    put_spells r (Just (Flow p Curly o lead (LastItem (Paired pair)) i))
take_leads (PastItem r p bracket o lead item) Comma i = λ rest. refl
take_leads (PastItem r p Square o lead item) (Close Square) i =
    put_spells r (Just (Flow p Square o lead (LastItem item) i))
take_leads (PastItem r p Curly o lead item) (Close Curly) i =
    put_spells r (Just (Flow p Curly o lead (LastItem item) i))
take_leads p kind i = tt

via_close :
    (n : NextPlace) (l : Terminal) (p : OpenPlace) → Leads n (Then (settle_place l p) l.kind l.at)
    → Leads n (Then p l.kind l.at)
via_close (Go q) l p h = λ rest. h rest ∙ close_spells l p (l ∷ rest)
via_close NotTaken l p h = tt

-- what stands before the place behind a step is what stood before it, and the lexeme
pub step_leads : (p : OpenPlace) (l : Terminal) → Leads (tree_step p l) (Then p l.kind l.at)
step_leads p l = via_close (tree_step p l) l p (take_leads (settle_place l p) l.kind l.at)
