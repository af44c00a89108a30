-- The lexemes before an open place lead the machine there, so it is one, and what it refuses has no reading.
use Rattle.std.proofs.Common.{◌≡◌, ℕ, Bool, true, List, [], ◌∷◌, sym, ap, ◌∙◌}
use Rattle.granit_grammar.specs.TreeMachine.{NextPlace, Go, NotTaken, tree_step, RefusedAt, at_end, tree_goes, parse}
use Rattle.granit_grammar.specs.TreeMachine.{tree_start}
use Rattle.granit_language.specs.Node.{TreeProperties, NoProperties, One, Two, Stream}
use Rattle.granit_language.specs.OpenPlace.{Bare, Explicit, Around, BlockPairs, FlowPairs, Hole, AtRoot, AtEntry}
use Rattle.granit_language.specs.OpenPlace.{AtItem, AtKey, AtAsk, AtColon, OpenPlace, Fresh, InDirectives, BehindRoot}
use Rattle.granit_language.specs.OpenPlace.{Ended, Want, PastEntry, PastKey, PastAsk, PastPair, PastItem, spell_around}
use Rattle.granit_language.specs.OpenPlace.{spell_hole, spell_open, holder, room_of, AroundPlaced, HolePlaced}
use Rattle.granit_language.specs.OpenPlace.{OpenPlaced, IsHole, HasOneName}
use Rattle.granit_language.specs.Placed.{PropertiesPlaced, SomeProperties, left_front, pair_front, StreamPlaced}
use Rattle.granit_language.specs.Room.{room_behind, right_fits, sequence_fits, PartFits}
use Rattle.granit_language.specs.Settling.{settle_place}
use Rattle.granit_language.specs.Terminal.{Open, Dash, Question, Part, At, Terminal, terminal}
use Rattle.granit_language.specs.Yield.{spell_properties, colon_kind, spell, spell_content, spell_entries}
use Rattle.granit_language.specs.Yield.{spell_entry_lead, spell_pair_lead, spell_pair, spell_left, spell_flow}
use Rattle.granit_language.specs.Yield.{spell_item, spell_stream}
use Rattle.granit_lexemes.specs.declared.layout.Bracket.{Bracket}
use Rattle.granit_grammar.proofs.Entering.{steps, site_door, door, door_with, enters_entry}
use Rattle.granit_grammar.proofs.Complete.{takes_properties, takes_opener, FirstOf, part_first, alone_first}
use Rattle.granit_grammar.proofs.Complete.{key_first, left_first, pair_first, takes, takes_content}
use Rattle.granit_grammar.proofs.Complete.{takes_entries, takes_entry_lead, takes_pair_lead, takes_pair, takes_left}
use Rattle.granit_grammar.proofs.Complete.{takes_flow, takes_item, takes_before, takes_directives, takes_start}
use Rattle.granit_grammar.proofs.Complete.{takes_rooted, takes_stream, reads}
use Rattle.granit_grammar.proofs.Numbers.{no_sequence, no_right}

-- what stands in a hole: a simple key begins with its first lexeme
abbrev Heads : Hole → List Terminal → Type 0
Heads (AtKey r a f) ls = FirstOf ls f
Heads r ls = Unit {0}

heads_block :
    (r : Hole) (p : TreeProperties) (c : ℕ) (ls : List Terminal) → right_fits (room_behind p (room_of r)) c ≡ true →
    Heads r ls
heads_block (AtKey r a k) p c ls e = absurd (no_right p (holder a) k c e)
heads_block r p c ls e = tt

heads_sequence :
    (r : Hole) (p : TreeProperties) (loose : Bool) (c : ℕ) (ls : List Terminal) →
    sequence_fits (room_behind p (room_of r)) loose c ≡ true → Heads r ls
heads_sequence (AtKey r a k) p loose c ls e = absurd (no_sequence p (holder a) k loose c e)
heads_sequence r p loose c ls e = tt

heads_opener :
    (r : Hole) (p : TreeProperties) (bracket : Bracket) (o : At) (ls : List Terminal) → PropertiesPlaced p (room_of r) →
    PartFits (room_behind p (room_of r)) (Open bracket) o →
    Heads r (spell_properties p (terminal (Part (Open bracket)) o ∷ ls))
heads_opener (AtKey r a k) p bracket o ls f g = part_first p (holder a) k (Open bracket) o ls f g
heads_opener r p bracket o ls f g = tt

heads_properties :
    (r : Hole) (p : TreeProperties) (ls : List Terminal) → PropertiesPlaced p (room_of r) → SomeProperties p →
    Heads r (spell_properties p ls)
heads_properties (AtKey r a k) p ls f s = alone_first p (holder a) k ls f s
heads_properties r p ls f s = tt

abbrev LeadsTo : Hole → Type 0
LeadsTo r = (ls : List Terminal) → Heads r ls → parse (spell_hole r ls) tree_start ≡ parse ls (door r)

leads_around :
    (r : Hole) (a : Around) (x : Terminal) (rest : List Terminal) → LeadsTo r → HolePlaced r →
    AroundPlaced a (room_of r) x →
    parse (spell_hole r (spell_around a (x ∷ rest))) tree_start ≡ parse (x ∷ rest) (site_door r a)
leads_around r (BlockPairs p c lead) x rest on f g =
    on (spell_properties p (spell_pair_lead lead (x ∷ rest))) (heads_block r p c _ g.1)
    ∙ takes_properties p r (spell_pair_lead lead (x ∷ rest)) f g.0
    ∙ takes_pair_lead lead r p c x rest f g.0 g.1 g.2
leads_around r (FlowPairs p bracket o lead) x rest on f g =
    on (spell_properties p (terminal (Part (Open bracket)) o ∷ spell_flow lead (x ∷ rest)))
    (heads_opener r p bracket o (spell_flow lead (x ∷ rest)) g.0 g.1)
    ∙ takes_opener r p bracket o (spell_flow lead (x ∷ rest)) f g.0 g.1
    ∙ takes_flow lead r p bracket o (x ∷ rest) f g.0 g.1 g.2

leads_first :
    (r : Hole) (a : Around) (x : Terminal) (ls : List Terminal) → FirstOf ls x → LeadsTo r → HolePlaced r →
    AroundPlaced a (room_of r) x → parse (spell_hole r (spell_around a ls)) tree_start ≡ parse ls (site_door r a)
leads_first r a x ls o on f g =
    ap (λ ls. parse (spell_hole r (spell_around a ls)) tree_start) o.is
    ∙ leads_around r a x o.rest on f g
    ∙ ap (λ ls. parse ls (site_door r a)) (sym o.is)

leads : (r : Hole) → HolePlaced r → LeadsTo r
leads (AtRoot (Bare b)) f = λ ls h. takes_before b ls f
leads (AtRoot (Explicit s i)) f = λ ls h. takes_start s i ls f
leads (AtEntry r p loose c lead i) f = λ ls h.
    leads r f.0 (spell_properties p (spell_entry_lead lead (terminal Dash i ∷ ls))) (heads_sequence r p loose c _ f.2)
    ∙ takes_properties p r (spell_entry_lead lead (terminal Dash i ∷ ls)) f.0 f.1
    ∙ takes_entry_lead lead r p loose c i ls f.0 f.1 f.2 f.3 f.4
leads (AtItem r p bracket o lead) f = λ ls h.
    leads r f.0 (spell_properties p (terminal (Part (Open bracket)) o ∷ spell_flow lead ls))
    (heads_opener r p bracket o (spell_flow lead ls) f.1 f.2)
    ∙ takes_opener r p bracket o (spell_flow lead ls) f.0 f.1 f.2
    ∙ takes_flow lead r p bracket o ls f.0 f.1 f.2 f.3
leads (AtKey r a k) f = λ ls h. leads_first r a k ls h (leads r f.0) f.0 f.1
leads (AtAsk r a q) f = λ ls h.
    leads_around r a (terminal Question q) ls (leads r f.0) f.0 f.1
    ∙ steps Question q ls (site_door r a) (Want (AtAsk r a q) NoProperties)
    (enters_entry r a Question q (terminal Question q) f.1 f.2)
leads (AtColon r a left m) f = λ ls h.
    leads_first r a (left_front left m) (spell_left left (terminal (colon_kind left) m ∷ ls))
    (left_first left (holder a) m ls f.2) (leads r f.0) f.0 f.1
    ∙ takes_left left r a m ls f.0 f.1 f.2

pub leads_want :
    (r : Hole) (ls : List Terminal) → IsHole r → HolePlaced r →
    parse (spell_hole r ls) tree_start ≡ parse ls (Want r NoProperties)
leads_want (AtRoot (Bare b)) ls i f = absurd i
leads_want (AtRoot (Explicit s j)) ls i f = leads (AtRoot (Explicit s j)) f ls tt
leads_want (AtEntry r p loose c lead j) ls i f = leads (AtEntry r p loose c lead j) f ls tt
leads_want (AtItem r p bracket o lead) ls i f = leads (AtItem r p bracket o lead) f ls tt
leads_want (AtKey r a k) ls i f = absurd i
leads_want (AtAsk r a q) ls i f = leads (AtAsk r a q) f ls tt
leads_want (AtColon r a left m) ls i f = leads (AtColon r a left m) f ls tt

leads_properties :
    (r : Hole) (p : TreeProperties) (ls : List Terminal) → HolePlaced r → PropertiesPlaced p (room_of r) →
    SomeProperties p → parse (spell_hole r (spell_properties p ls)) tree_start ≡ parse ls (door_with r p)
leads_properties r p ls f g s =
    leads r f (spell_properties p ls) (heads_properties r p ls g s) ∙ takes_properties p r ls f g

-- the lexemes before an open place lead to it, in front of any lexeme that it is placed before
pub leads_to :
    (p : OpenPlace) (x : Terminal) (rest : List Terminal) → HasOneName p → OpenPlaced x p →
    parse (spell_open p (x ∷ rest)) tree_start ≡ parse (x ∷ rest) p
leads_to (Fresh b) x rest i f = takes_before b (x ∷ rest) f
leads_to (InDirectives ds) x rest i f = takes_directives ds (x ∷ rest) f
leads_to (BehindRoot ro) x rest i f = takes_rooted ro x rest f
leads_to (Ended s) x rest i f = takes_stream s (x ∷ rest) f
leads_to (Want r NoProperties) x rest i f = leads_want r (x ∷ rest) i f.0
leads_to (Want r (One k j)) x rest i f = leads_properties r (One k j) (x ∷ rest) f.0 f.1 tt
leads_to (Want r (Two k j m h)) x rest i f = leads_properties r (Two k j m h) (x ∷ rest) f.0 f.1 tt
leads_to (PastEntry r p loose c es) x rest i f =
    leads r f.0 (spell_properties p (spell_entries es (x ∷ rest))) (heads_sequence r p loose c _ f.2)
    ∙ takes_properties p r (spell_entries es (x ∷ rest)) f.0 f.1
    ∙ takes_entries es r p loose c x rest f.0 f.1 f.2 f.3
leads_to (PastKey r a k t) x rest i f =
    leads (AtKey r a k) (f.0, f.1, f.2) (spell t (x ∷ rest)) (key_first t (holder a) k x (x ∷ rest) f.3)
    ∙ takes t (AtKey r a k) x rest (f.0, f.1, f.2) f.3
leads_to (PastAsk r a q v) x rest i f =
    leads (AtAsk r a q) (f.0, f.1, f.2) (spell_content v (x ∷ rest)) tt
    ∙ takes_content v (AtAsk r a q) x rest (f.0, f.1, f.2) f.3
leads_to (PastPair r a pair) x rest i f =
    leads_first r a (pair_front pair) (spell_pair pair (x ∷ rest)) (pair_first pair (holder a) x (x ∷ rest) f.2)
    (leads r f.0) f.0 f.1
    ∙ takes_pair pair r a x rest f.0 f.1 f.2
leads_to (PastItem r p bracket o lead item) x rest i f =
    leads (AtItem r p bracket o lead) (f.0, f.1, f.2, f.3) (spell_item item (x ∷ rest)) tt
    ∙ takes_item item r p bracket o lead x rest (f.0, f.1, f.2, f.3) f.4 f.5

-- a lexeme that isn't admitted at an open place: no list that begins so has a reading
pub no_stream :
    (p : OpenPlace) (x : Terminal) (rest : List Terminal) (s : Stream) → HasOneName p → OpenPlaced x p →
    tree_step p x ≡ NotTaken → StreamPlaced s → spell_stream s [] ≡ spell_open p (x ∷ rest) → ⊥
no_stream p x rest s i f e q h =
    let a = leads_to p x rest i f in
    let b = reads s q in
    let c = ap (λ n. tree_goes n (settle_place x p) x (parse rest)) e in
    cc (a, b, c, ap (λ ls. parse ls tree_start) h)

pub not_fault : (p q : OpenPlace) (x : Terminal) → at_end p ≡ RefusedAt q x → ⊥
not_fault (Ended s) q x e = cc
not_fault p q x e = cc

same_open : (n : NextPlace) (p q : OpenPlace) (x : Terminal) → tree_goes n q x (parse []) ≡ RefusedAt p x → p ≡ q
same_open (Go r) p q x e = absurd (not_fault r p x e)
same_open NotTaken p q x e = cc

-- the open place is one
pub one_open :
    (p q : OpenPlace) (x : Terminal) → HasOneName p → HasOneName q → OpenPlaced x p → OpenPlaced x q →
    spell_open p (x ∷ []) ≡ spell_open q (x ∷ []) → tree_step p x ≡ NotTaken → settle_place x p ≡ settle_place x q
one_open p q x i j f g h e =
    let a = leads_to p x [] i f in
    let b = leads_to q x [] j g in
    let c = ap (λ n. tree_goes n (settle_place x p) x (parse [])) e in
    same_open (tree_step q x) (settle_place x p) (settle_place x q) x (cc (a, b, c, ap (λ ls. parse ls tree_start) h))
