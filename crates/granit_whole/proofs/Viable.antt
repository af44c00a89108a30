-- Each open place that is reached goes on to a whole stream.
use Rattle.std.proofs.Common.{◌≡◌, ℕ, Bool, true, false, List, [], ◌∷◌, refl, sym, ap, ◌∙◌, arith, ◌==◌, nat_lt, Some}
use Rattle.std.proofs.lemmas.Bool.{or_left}
use Rattle.granit_grammar.specs.TreeMachine.{take, ReadAs, tree_goes, parse}
use Rattle.granit_language.specs.Choice.{choose}
use Rattle.granit_language.specs.Node.{TreeProperties, NoProperties, One, Two, Node, Alone, Flow, Sequence, Mapping}
use Rattle.granit_language.specs.Node.{Content, Nothing, Just, Entries, Entry, Through, PairLead, Pair, WithColon}
use Rattle.granit_language.specs.Node.{AskOnly, Left, SimpleKey, FlowLead, NoLast, LastItem, Single, Paired}
use Rattle.granit_language.specs.Node.{AfterDirectives, Rooted, BareRoot, ExplicitRoot, Stream, EndFresh, EndRooted}
use Rattle.granit_language.specs.OpenPlace.{Bare, Explicit, Around, BlockPairs, FlowPairs, Hole, AtRoot, AtEntry}
use Rattle.granit_language.specs.OpenPlace.{AtItem, AtKey, AtAsk, AtColon, OpenPlace, Fresh, InDirectives, BehindRoot}
use Rattle.granit_language.specs.OpenPlace.{Ended, Want, PastEntry, PastKey, PastAsk, PastPair, PastItem, room_of}
use Rattle.granit_language.specs.OpenPlace.{AroundPlaced, HolePlaced, OpenPlaced, IsHole, HasOneName}
use Rattle.granit_language.specs.Placed.{SomeProperties, left_front, pair_front, EntriesPlaced}
use Rattle.granit_language.specs.Room.{BlockIn, FlowIn, Room, RightOf, ValueIn, KeyIn, BehindKey, ItemIn, Inside}
use Rattle.granit_language.specs.Room.{behind_property, room_behind, right_fits, loose_fits, sequence_fits}
use Rattle.granit_language.specs.Room.{continues_node, entry_empty, sequence_over, value_empty, ask_empty}
use Rattle.granit_language.specs.Settling.{put_in, end_entries, end_pair, finish_at, settle_place}
use Rattle.granit_language.specs.Terminal.{DocumentStart, TheEnd, Question, Colon, Close, At, Terminal, terminal, edge}
use Rattle.granit_language.specs.Terminal.{closes_kind, text_start, no_terminal}
use Rattle.granit_lexemes.specs.declared.layout.Bracket.{Bracket}
use Rattle.granit_lexemes.specs.declared.layout.Bracket.TheVariants.{Square, Curly}
use Rattle.std.proofs.lemmas.Bool.Decides.{nat_tests}
use Rattle.granit_grammar.proofs.Entering.{alike, close_put}
use Rattle.granit_grammar.proofs.Complete.{closes_empty, closes_item, closer_over}

-- lexemes that end what is open
abbrev pub nowhere : At
nowhere = no_terminal.at

abbrev pub the_end : Terminal
the_end = terminal TheEnd nowhere

abbrev pub closer : Bracket → Terminal
closer bracket = terminal (Close bracket) nowhere

abbrev pub key_colon : Terminal
key_colon = terminal (Colon (Some 0)) nowhere

abbrev pub after_around : List Terminal → Around → List Terminal
after_around more (BlockPairs p c lead) = the_end ∷ []
after_around more (FlowPairs p bracket o lead) = closer bracket ∷ more

-- what may follow a node in a hole up to the end
abbrev pub after_put : Hole → List Terminal
after_put (AtRoot root) = the_end ∷ []
after_put (AtEntry r p loose c lead i) = the_end ∷ []
after_put (AtItem r p bracket o lead) = closer bracket ∷ after_put r
after_put (AtKey r a f) = key_colon ∷ after_around (after_put r) a
after_put (AtAsk r a q) = after_around (after_put r) a
after_put (AtColon r a left m) = after_around (after_put r) a

-- the lexemes are read from a place
abbrev pub Reads : List Terminal → OpenPlace → Type 0
Reads ls p = (s : Stream) × (parse ls p ≡ ReadAs s)

abbrev Rooting : OpenPlace → Type 0
Rooting p = (ro : Rooted) × (p ≡ BehindRoot ro)

-- columns count from 1
positive : (n c : ℕ) → nat_lt n c ≡ true → nat_lt 0 c ≡ true
positive n c e = grind (arith, nat_tests)

positive_edge : (i : At) (c : ℕ) → (edge i == c) ≡ true → nat_lt 0 c ≡ true
positive_edge i c e = grind (arith, nat_tests)

positive_right : (room : Room) (c : ℕ) → right_fits room c ≡ true → nat_lt 0 c ≡ true
positive_right (RightOf n) c e = positive n c e
positive_right (ValueIn d) c e = positive d c e
positive_right (KeyIn h f) c e = cc (e)
positive_right (BehindKey d) c e = cc (e)
positive_right ItemIn c e = cc (e)
positive_right Inside c e = cc (e)

-- a block collection stands in a hole outside flow
abbrev IsBlock : Room → Type 0
IsBlock (RightOf n) = Unit {0}
IsBlock (ValueIn c) = Unit {0}
IsBlock room = ⊥

block_right : (p : TreeProperties) (room : Room) (c : ℕ) → right_fits (room_behind p room) c ≡ true → IsBlock room
block_right p (RightOf n) c e = tt
block_right p (ValueIn d) c e = tt
block_right NoProperties (KeyIn h f) c e = cc (e)
block_right (One k i) (KeyIn (BlockIn d) f) c e = cc (e)
block_right (One k i) (KeyIn (FlowIn bracket) f) c e = cc (e)
block_right (Two k i m j) (KeyIn (BlockIn d) f) c e = cc (e)
block_right (Two k i m j) (KeyIn (FlowIn bracket) f) c e = cc (e)
block_right NoProperties (BehindKey d) c e = cc (e)
block_right (One k i) (BehindKey d) c e = cc (e)
block_right (Two k i m j) (BehindKey d) c e = cc (e)
block_right NoProperties ItemIn c e = cc (e)
block_right (One k i) ItemIn c e = cc (e)
block_right (Two k i m j) ItemIn c e = cc (e)
block_right NoProperties Inside c e = cc (e)
block_right (One k i) Inside c e = cc (e)
block_right (Two k i m j) Inside c e = cc (e)

block_loose : (p : TreeProperties) (room : Room) (c : ℕ) → loose_fits (room_behind p room) c ≡ true → IsBlock room
block_loose p (RightOf n) c e = tt
block_loose p (ValueIn d) c e = tt
block_loose NoProperties (KeyIn h f) c e = cc (e)
block_loose (One k i) (KeyIn (BlockIn d) f) c e = cc (e)
block_loose (One k i) (KeyIn (FlowIn bracket) f) c e = cc (e)
block_loose (Two k i m j) (KeyIn (BlockIn d) f) c e = cc (e)
block_loose (Two k i m j) (KeyIn (FlowIn bracket) f) c e = cc (e)
block_loose NoProperties (BehindKey d) c e = cc (e)
block_loose (One k i) (BehindKey d) c e = cc (e)
block_loose (Two k i m j) (BehindKey d) c e = cc (e)
block_loose NoProperties ItemIn c e = cc (e)
block_loose (One k i) ItemIn c e = cc (e)
block_loose (Two k i m j) ItemIn c e = cc (e)
block_loose NoProperties Inside c e = cc (e)
block_loose (One k i) Inside c e = cc (e)
block_loose (Two k i m j) Inside c e = cc (e)

block_sequence :
    (p : TreeProperties) (room : Room) (loose : Bool) (c : ℕ) → sequence_fits (room_behind p room) loose c ≡ true →
    IsBlock room
block_sequence p room true c e = block_loose p room c e
block_sequence p room false c e = block_right p room c e

-- the end finishes all block collections
sequence_finished : (loose : Bool) (c : ℕ) → nat_lt 0 c ≡ true → sequence_over loose c the_end ≡ true
sequence_finished true c e = refl
sequence_finished false c e = e

entries_over :
    (on : Content → OpenPlace) (r : Hole) (p : TreeProperties) (loose : Bool) (c : ℕ) (es : Entries) →
    nat_lt 0 c ≡ true → ((t : Node) → Rooting (on (Just t))) → Rooting (end_entries the_end on r p loose c es)
entries_over on r p loose c es e h =
    let g = h (Sequence p loose c es text_start)
    in (
      g.0,
      ap (λ b. choose b (on (Just (Sequence p loose c es text_start))) (PastEntry r p loose c es))
          (sequence_finished loose c e)
          ∙ g.1,
    )

pair_over_end :
    (on : Content → OpenPlace) (r : Hole) (p : TreeProperties) (c : ℕ) (lead : PairLead) (pair : Pair) →
    nat_lt 0 c ≡ true → ((t : Node) → Rooting (on (Just t))) →
    Rooting (end_pair the_end on r (BlockPairs p c lead) pair)
pair_over_end on r p c lead pair e h =
    let g = h (Mapping p c (Through lead pair) text_start)
    in (
      g.0,
      ap
          (λ b.
          choose b (on (Just (Mapping p c (Through lead pair) text_start))) (PastPair r (BlockPairs p c lead) pair))
          e
          ∙ g.1,
    )

roots : (r : Hole) → HolePlaced r → IsBlock (room_of r) → (t : Node) → Rooting (finish_at the_end r (Just t))
roots (AtRoot (Bare b)) f g t = (BareRoot b t, refl)
roots (AtRoot (Explicit s i)) f g t = (ExplicitRoot s i (Just t), refl)
roots (AtEntry r p loose c lead i) f g t =
    entries_over (finish_at the_end r) r p loose c (Entry lead i (Just t)) (positive_edge i c f.4)
    (roots r f.0 (block_sequence p (room_of r) loose c f.2))
roots (AtItem r p bracket o lead) f g t = absurd g
roots (AtKey r a k) f g t = absurd g
roots (AtAsk r (BlockPairs p c lead) q) f g t =
    pair_over_end (finish_at the_end r) r p c lead (AskOnly q (Just t) text_start)
    (positive_right (room_behind p (room_of r)) c f.1.1) (roots r f.0 (block_right p (room_of r) c f.1.1))
roots (AtAsk r (FlowPairs p bracket o lead) q) f g t = absurd g
roots (AtColon r (BlockPairs p c lead) left m) f g t =
    pair_over_end (finish_at the_end r) r p c lead (WithColon left m (Just t))
    (positive_right (room_behind p (room_of r)) c f.1.1) (roots r f.0 (block_right p (room_of r) c f.1.1))
roots (AtColon r (FlowPairs p bracket o lead) left m) f g t = absurd g

-- a pair of a block mapping
block_pair_over :
    (r : Hole) (p : TreeProperties) (c : ℕ) (lead : PairLead) (pair : Pair) → HolePlaced r →
    right_fits (room_behind p (room_of r)) c ≡ true →
    Rooting (end_pair the_end (finish_at the_end r) r (BlockPairs p c lead) pair)
block_pair_over r p c lead pair f e =
    pair_over_end (finish_at the_end r) r p c lead pair (positive_right (room_behind p (room_of r)) c e)
    (roots r f (block_right p (room_of r) c e))

end_reads : (p : OpenPlace) → Rooting (settle_place the_end p) → Reads (the_end ∷ []) p
end_reads p g = (EndRooted g.0 nowhere, ap (λ q. tree_goes (take q TheEnd nowhere) q the_end (parse [])) g.1)

end_here :
    (p : OpenPlace) (b : Bool) (q : OpenPlace) → settle_place the_end p ≡ choose b q p → b ≡ true → Rooting q →
    Reads (the_end ∷ []) p
end_here p b q e h g = end_reads p (g.0, e ∙ ap (λ b. choose b q p) h ∙ g.1)

-- a pair of a flow collection
closes_pair :
    (r : Hole) (p : TreeProperties) (bracket : Bracket) (o : At) (lead : FlowLead) (pair : Pair)
    (more : List Terminal) →
    parse (closer bracket ∷ more) (PastPair r (FlowPairs p bracket o lead) pair)
    ≡ parse more (put_in r (Just (Flow p bracket o lead (LastItem (Paired pair)) nowhere)))
closes_pair r p bracket o lead pair more =
    alike (closer bracket) more (PastPair r (FlowPairs p bracket o lead) pair)
    (PastItem r p bracket o lead (Paired pair))
    (ap (λ b. choose b (PastItem r p bracket o lead (Paired pair)) (PastPair r (FlowPairs p bracket o lead) pair))
    (closer_over bracket pair nowhere))
    ∙ closes_item r p bracket o lead (Paired pair) nowhere more

same_closes : (bracket : Bracket) → closes_kind bracket (Close bracket) ≡ true
same_closes Square = refl
same_closes Curly = refl

ask_closes : (bracket : Bracket) → ask_empty (FlowIn bracket) (closer bracket) ≡ true
ask_closes Square = refl
ask_closes Curly = refl

-- behind a `:`
colon_reads :
    (r : Hole) (a : Around) (left : Left) (m : At) (x : Terminal) → HolePlaced r → AroundPlaced a (room_of r) x →
    ((t : Node) → Reads (after_put r) (put_in r (Just t))) →
    Reads (after_around (after_put r) a) (Want (AtColon r a left m) NoProperties)
colon_reads r (BlockPairs p c lead) left m x f g h =
    end_here (Want (AtColon r (BlockPairs p c lead) left m) NoProperties) (value_empty (BlockIn c) the_end)
    (end_pair the_end (finish_at the_end r) r (BlockPairs p c lead) (WithColon left m Nothing)) refl
    (or_left _ _ (positive_right (room_behind p (room_of r)) c g.1))
    (block_pair_over r p c lead (WithColon left m Nothing) f g.1)
colon_reads r (FlowPairs p bracket o lead) left m x f g h =
    let s = h (Flow p bracket o lead (LastItem (Paired (WithColon left m Nothing))) nowhere) in (
      s.0,
      alike (closer bracket) (after_put r) (Want (AtColon r (FlowPairs p bracket o lead) left m) NoProperties)
          (PastPair r (FlowPairs p bracket o lead) (WithColon left m Nothing))
          (ap
          (λ b.
          choose b (finish_at (closer bracket) (AtColon r (FlowPairs p bracket o lead) left m) Nothing)
          (Want (AtColon r (FlowPairs p bracket o lead) left m) NoProperties))
          (same_closes bracket))
          ∙ closes_pair r p bracket o lead (WithColon left m Nothing) (after_put r) ∙ s.1,
    )

-- behind a pair
pair_reads :
    (r : Hole) (a : Around) (pair : Pair) (x : Terminal) → HolePlaced r → AroundPlaced a (room_of r) x →
    ((t : Node) → Reads (after_put r) (put_in r (Just t))) → Reads (after_around (after_put r) a) (PastPair r a pair)
pair_reads r (BlockPairs p c lead) pair x f g h =
    end_reads (PastPair r (BlockPairs p c lead) pair) (block_pair_over r p c lead pair f g.1)
pair_reads r (FlowPairs p bracket o lead) pair x f g h =
    let s = h (Flow p bracket o lead (LastItem (Paired pair)) nowhere) in
    (s.0, closes_pair r p bracket o lead pair (after_put r) ∙ s.1)

ask_reads :
    (r : Hole) (a : Around) (q : At) (v : Content) (x : Terminal) → HolePlaced r → AroundPlaced a (room_of r) x →
    ((t : Node) → Reads (after_put r) (put_in r (Just t))) → Reads (after_around (after_put r) a) (PastAsk r a q v)
ask_reads r (BlockPairs p c lead) q v x f g h =
    end_reads (PastAsk r (BlockPairs p c lead) q v) (block_pair_over r p c lead (AskOnly q v text_start) f g.1)
ask_reads r (FlowPairs p bracket o lead) q v x f g h =
    let s = pair_reads r (FlowPairs p bracket o lead) (AskOnly q v text_start) x f g h in (
      s.0,
      alike (closer bracket) (after_put r) (PastAsk r (FlowPairs p bracket o lead) q v)
          (PastPair r (FlowPairs p bracket o lead) (AskOnly q v text_start)) refl
          ∙ s.1,
    )

-- behind a `?`
question_reads :
    (r : Hole) (a : Around) (q : At) (x : Terminal) → HolePlaced r → AroundPlaced a (room_of r) x →
    ((t : Node) → Reads (after_put r) (put_in r (Just t))) →
    Reads (after_around (after_put r) a) (Want (AtAsk r a q) NoProperties)
question_reads r (BlockPairs p c lead) q x f g h =
    end_here (Want (AtAsk r (BlockPairs p c lead) q) NoProperties) (ask_empty (BlockIn c) the_end)
    (end_pair the_end (finish_at the_end r) r (BlockPairs p c lead) (AskOnly q Nothing text_start)) refl
    (or_left _ _ (positive_right (room_behind p (room_of r)) c g.1))
    (block_pair_over r p c lead (AskOnly q Nothing text_start) f g.1)
question_reads r (FlowPairs p bracket o lead) q x f g h =
    let s = ask_reads r (FlowPairs p bracket o lead) q Nothing x f g h in (
      s.0,
      alike (closer bracket) (after_put r) (Want (AtAsk r (FlowPairs p bracket o lead) q) NoProperties)
          (PastAsk r (FlowPairs p bracket o lead) q Nothing)
          (ap
          (λ b.
          choose b (finish_at (closer bracket) (AtAsk r (FlowPairs p bracket o lead) q) Nothing)
          (Want (AtAsk r (FlowPairs p bracket o lead) q) NoProperties))
          (ask_closes bracket))
          ∙ s.1,
    )

put_reads : (r : Hole) → HolePlaced r → (t : Node) → Reads (after_put r) (put_in r (Just t))
put_reads (AtRoot (Bare b)) f t = (EndRooted (BareRoot b t) nowhere, refl)
put_reads (AtRoot (Explicit s i)) f t = (EndRooted (ExplicitRoot s i (Just t)) nowhere, refl)
put_reads (AtEntry r p loose c lead i) f t =
    end_reads (PastEntry r p loose c (Entry lead i (Just t)))
    (entries_over (finish_at the_end r) r p loose c (Entry lead i (Just t)) (positive_edge i c f.4)
    (roots r f.0 (block_sequence p (room_of r) loose c f.2)))
put_reads (AtItem r p bracket o lead) f t =
    let s = put_reads r f.0 (Flow p bracket o lead (LastItem (Single t)) nowhere) in
    (s.0, closes_item r p bracket o lead (Single t) nowhere (after_put r) ∙ s.1)
put_reads (AtKey r a k) f t = colon_reads r a (SimpleKey k t 0) nowhere k f.0 f.1 (put_reads r f.0)
put_reads (AtAsk r a q) f t = ask_reads r a q (Just t) (terminal Question q) f.0 f.1 (put_reads r f.0)
put_reads (AtColon r a left m) f t =
    pair_reads r a (WithColon left m (Just t)) (left_front left m) f.0 f.1 (put_reads r f.0)

-- properties alone
alone_step :
    (x : Terminal) (more : List Terminal) (r : Hole) (p : TreeProperties) → SomeProperties p →
    ((room : Room) → continues_node room p x.kind x.at ≡ false) →
    parse (x ∷ more) (Want r p) ≡ parse (x ∷ more) (put_in r (Just (Alone p)))
alone_step x more r NoProperties s e = absurd s
alone_step x more r (One k j) s e =
    alike x more (Want r (One k j)) (put_in r (Just (Alone (One k j))))
    (ap (λ b. choose b (Want r (One k j)) (finish_at x r (Just (Alone (One k j))))) (e (behind_property (room_of r)))
    ∙ sym (close_put x r (Just (Alone (One k j)))))
alone_step x more r (Two k j m h) s e =
    alike x more (Want r (Two k j m h)) (put_in r (Just (Alone (Two k j m h))))
    (ap (λ b. choose b (Want r (Two k j m h)) (finish_at x r (Just (Alone (Two k j m h)))))
    (e (behind_property (room_of r)))
    ∙ sym (close_put x r (Just (Alone (Two k j m h)))))

alone_same :
    (r : Hole) (p : TreeProperties) → SomeProperties p →
    parse (after_put r) (Want r p) ≡ parse (after_put r) (put_in r (Just (Alone p)))
alone_same (AtRoot root) p s = alone_step the_end [] (AtRoot root) p s (λ room. refl)
alone_same (AtEntry r q loose c lead i) p s = alone_step the_end [] (AtEntry r q loose c lead i) p s (λ room. refl)
alone_same (AtItem r q bracket o lead) p s =
    alone_step (closer bracket) (after_put r) (AtItem r q bracket o lead) p s (λ room. refl)
alone_same (AtKey r a k) p s = alone_step key_colon (after_around (after_put r) a) (AtKey r a k) p s (λ room. refl)
alone_same (AtAsk r (BlockPairs q c lead) j) p s =
    alone_step the_end [] (AtAsk r (BlockPairs q c lead) j) p s (λ room. refl)
alone_same (AtAsk r (FlowPairs q bracket o lead) j) p s =
    alone_step (closer bracket) (after_put r) (AtAsk r (FlowPairs q bracket o lead) j) p s (λ room. refl)
alone_same (AtColon r (BlockPairs q c lead) left m) p s =
    alone_step the_end [] (AtColon r (BlockPairs q c lead) left m) p s (λ room. refl)
alone_same (AtColon r (FlowPairs q bracket o lead) left m) p s =
    alone_step (closer bracket) (after_put r) (AtColon r (FlowPairs q bracket o lead) left m) p s (λ room. refl)

alone_reads : (r : Hole) (p : TreeProperties) → SomeProperties p → HolePlaced r → Reads (after_put r) (Want r p)
alone_reads r p s f = let g = put_reads r f (Alone p) in (g.0, alone_same r p s ∙ g.1)

-- ---- what may follow an open place up to the end

abbrev pub after_hole : Hole → List Terminal
after_hole (AtRoot (Bare b)) = []
after_hole (AtRoot (Explicit s j)) = the_end ∷ []
after_hole (AtEntry r p loose c lead j) = the_end ∷ []
after_hole (AtItem r p bracket o lead) = closer bracket ∷ after_put r
after_hole (AtKey r a k) = []
after_hole (AtAsk r a q) = after_around (after_put r) a
after_hole (AtColon r a left m) = after_around (after_put r) a

abbrev pub after_place : OpenPlace → List Terminal
after_place (Fresh b) = the_end ∷ []
after_place (InDirectives ds) = terminal DocumentStart nowhere ∷ the_end ∷ []
after_place (BehindRoot ro) = the_end ∷ []
after_place (Ended s) = []
after_place (Want r NoProperties) = after_hole r
after_place (Want r p) = after_put r
after_place (PastEntry r p loose c es) = the_end ∷ []
after_place (PastKey r a k t) = key_colon ∷ after_around (after_put r) a
after_place (PastAsk r a q v) = after_around (after_put r) a
after_place (PastPair r a pair) = after_around (after_put r) a
after_place (PastItem r p bracket o lead item) = closer bracket ∷ after_put r

-- nothing in a hole
want_reads : (r : Hole) → IsHole r → HolePlaced r → Reads (after_hole r) (Want r NoProperties)
want_reads (AtRoot (Bare b)) i f = absurd i
want_reads (AtRoot (Explicit s j)) i f = (EndRooted (ExplicitRoot s j Nothing) nowhere, refl)
want_reads (AtEntry r p loose c lead j) i f =
    end_here (Want (AtEntry r p loose c lead j) NoProperties) (entry_empty loose c the_end)
    (end_entries the_end (finish_at the_end r) r p loose c (Entry lead j Nothing)) refl
    (or_left _ _ (positive_edge j c f.4))
    (entries_over (finish_at the_end r) r p loose c (Entry lead j Nothing) (positive_edge j c f.4)
    (roots r f.0 (block_sequence p (room_of r) loose c f.2)))
want_reads (AtItem r p bracket o lead) i f =
    let g = put_reads r f.0 (Flow p bracket o lead NoLast nowhere) in
    (g.0, closes_empty r p bracket o lead nowhere (after_put r) ∙ g.1)
want_reads (AtKey r a k) i f = absurd i
want_reads (AtAsk r a q) i f =
    question_reads r a q (terminal Question q) f.0 f.1 (put_reads r f.0)
want_reads (AtColon r a left m) i f =
    colon_reads r a left m (left_front left m) f.0 f.1 (put_reads r f.0)

-- the column of the entries
entries_column : (es : Entries) (loose : Bool) (c : ℕ) (x : Terminal) → EntriesPlaced es loose c x → nat_lt 0 c ≡ true
entries_column (Entry lead i v) loose c x f = positive_edge i c f.1

pub completed : (p : OpenPlace) → HasOneName p → OpenPlaced no_terminal p → Reads (after_place p) p
completed (Fresh b) i f = (EndFresh b nowhere, refl)
completed (InDirectives ds) i f = (EndRooted (ExplicitRoot (AfterDirectives ds) nowhere Nothing) nowhere, refl)
completed (BehindRoot ro) i f = (EndRooted ro nowhere, refl)
completed (Ended s) i f = (s, refl)
completed (Want r NoProperties) i f = want_reads r i f.0
completed (Want r (One k j)) i f = alone_reads r (One k j) tt f.0
completed (Want r (Two k j m h)) i f = alone_reads r (Two k j m h) tt f.0
completed (PastEntry r p loose c es) i f =
    end_reads (PastEntry r p loose c es)
    (entries_over (finish_at the_end r) r p loose c es (entries_column es loose c no_terminal f.3)
    (roots r f.0 (block_sequence p (room_of r) loose c f.2)))
completed (PastKey r a k t) i f = colon_reads r a (SimpleKey k t 0) nowhere k f.0 f.1 (put_reads r f.0)
completed (PastAsk r a q v) i f = ask_reads r a q v (terminal Question q) f.0 f.1 (put_reads r f.0)
completed (PastPair r a pair) i f = pair_reads r a pair (pair_front pair) f.0 f.1 (put_reads r f.0)
completed (PastItem r p bracket o lead item) i f =
    let g = put_reads r f.0 (Flow p bracket o lead (LastItem item) nowhere) in
    (g.0, closes_item r p bracket o lead item nowhere (after_put r) ∙ g.1)

pub completes : (p : OpenPlace) → HasOneName p → OpenPlaced no_terminal p → (ls : List Terminal) × Reads ls p
completes p i f = (after_place p, completed p i f)
