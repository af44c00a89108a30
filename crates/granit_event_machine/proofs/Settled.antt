-- What a lexeme ends, it ends at once.
use Rattle.std.proofs.Common.{◌≡◌, ℕ, Bool, refl, ap}
use Rattle.granit_grammar.proofs.Placing.{either_is}
use Rattle.granit_language.specs.Choice.{choose}
use Rattle.granit_language.specs.Node.{TreeProperties, NoProperties, One, Two, Alone, Sequence, Mapping, Content}
use Rattle.granit_language.specs.Node.{Nothing, Just, Entries, Entry, Through, Pair, WithColon, AskOnly, Paired}
use Rattle.granit_language.specs.OpenPlace.{Bare, Explicit, Around, BlockPairs, FlowPairs, Hole, AtRoot, AtEntry}
use Rattle.granit_language.specs.OpenPlace.{AtItem, AtKey, AtAsk, AtColon, OpenPlace, Fresh, InDirectives, BehindRoot}
use Rattle.granit_language.specs.OpenPlace.{Ended, Want, PastEntry, PastKey, PastAsk, PastPair, PastItem, holder}
use Rattle.granit_language.specs.OpenPlace.{room_of}
use Rattle.granit_language.specs.Room.{behind_property, continues_node, sequence_over, ask_over, pair_over}
use Rattle.granit_language.specs.Settling.{empty_fits, end_entries, end_pair, end_ask, finish_at, settle_place}
use Rattle.granit_language.specs.Terminal.{At, Terminal, stands_left}

abbrev pub Settled : Terminal → OpenPlace → Type 0
Settled x p = settle_place x p ≡ p

entries_settled :
    (x : Terminal) (on : Content → OpenPlace) (r : Hole) (p : TreeProperties) (loose : Bool) (c : ℕ) (es : Entries) →
    ((v : Content) → Settled x (on v)) → Settled x (end_entries x on r p loose c es)
entries_settled x on r p loose c es h =
    either_is (Settled x) (sequence_over loose c x) (on (Just (Sequence p loose c es x.at.start)))
    (PastEntry r p loose c es) (λ e. h (Just (Sequence p loose c es x.at.start)))
    (λ e. ap (λ b. choose b (finish_at x r (Just (Sequence p loose c es x.at.start))) (PastEntry r p loose c es)) e)

pair_settled :
    (x : Terminal) (on : Content → OpenPlace) (r : Hole) (a : Around) (pair : Pair) →
    ((v : Content) → Settled x (on v)) → Settled x (end_pair x on r a pair)
pair_settled x on r (BlockPairs p c lead) pair h =
    either_is (Settled x) (stands_left x c) (on (Just (Mapping p c (Through lead pair) x.at.start)))
    (PastPair r (BlockPairs p c lead) pair) (λ e. h (Just (Mapping p c (Through lead pair) x.at.start)))
    (λ e.
    ap
    (λ b.
    choose b (finish_at x r (Just (Mapping p c (Through lead pair) x.at.start)))
    (PastPair r (BlockPairs p c lead) pair))
    e)
pair_settled x on r (FlowPairs p bracket o lead) pair h =
    either_is (Settled x) (pair_over bracket pair x) (PastItem r p bracket o lead (Paired pair))
    (PastPair r (FlowPairs p bracket o lead) pair) (λ e. refl)
    (λ e.
    ap (λ b. choose b (PastItem r p bracket o lead (Paired pair)) (PastPair r (FlowPairs p bracket o lead) pair))
    e)

ask_settled :
    (x : Terminal) (on : Content → OpenPlace) (r : Hole) (a : Around) (q : At) (v : Content) →
    ((v : Content) → Settled x (on v)) → Settled x (end_ask x on r a q v)
ask_settled x on r a q v h =
    either_is (Settled x) (ask_over (holder a) x) (end_pair x on r a (AskOnly q v x.at.start)) (PastAsk r a q v)
    (λ e. pair_settled x on r a (AskOnly q v x.at.start) h)
    (λ e. ap (λ b. choose b (end_pair x (finish_at x r) r a (AskOnly q v x.at.start)) (PastAsk r a q v)) e)

finish_settled : (x : Terminal) (r : Hole) (v : Content) → Settled x (finish_at x r v)
finish_settled x (AtRoot (Bare b)) Nothing = refl
finish_settled x (AtRoot (Bare b)) (Just t) = refl
finish_settled x (AtRoot (Explicit s i)) v = refl
finish_settled x (AtEntry r p loose c lead i) v =
    entries_settled x (finish_at x r) r p loose c (Entry lead i v) (finish_settled x r)
finish_settled x (AtItem r p bracket o lead) Nothing = refl
finish_settled x (AtItem r p bracket o lead) (Just t) = refl
finish_settled x (AtKey r a f) Nothing = refl
finish_settled x (AtKey r a f) (Just t) = refl
finish_settled x (AtAsk r a q) v = ask_settled x (finish_at x r) r a q v (finish_settled x r)
finish_settled x (AtColon r a left m) v = pair_settled x (finish_at x r) r a (WithColon left m v) (finish_settled x r)

pub close_settled : (x : Terminal) (p : OpenPlace) → Settled x (settle_place x p)
close_settled x (Want r NoProperties) =
    either_is (Settled x) (empty_fits r x) (finish_at x r Nothing) (Want r NoProperties)
    (λ e. finish_settled x r Nothing) (λ e. ap (λ b. choose b (finish_at x r Nothing) (Want r NoProperties)) e)
close_settled x (Want r (One k i)) =
    either_is (Settled x) (continues_node (behind_property (room_of r)) (One k i) x.kind x.at) (Want r (One k i))
    (finish_at x r (Just (Alone (One k i))))
    (λ e. ap (λ b. choose b (Want r (One k i)) (finish_at x r (Just (Alone (One k i))))) e)
    (λ e. finish_settled x r (Just (Alone (One k i))))
close_settled x (Want r (Two k i m j)) =
    either_is (Settled x) (continues_node (behind_property (room_of r)) (Two k i m j) x.kind x.at)
    (Want r (Two k i m j)) (finish_at x r (Just (Alone (Two k i m j))))
    (λ e. ap (λ b. choose b (Want r (Two k i m j)) (finish_at x r (Just (Alone (Two k i m j))))) e)
    (λ e. finish_settled x r (Just (Alone (Two k i m j))))
close_settled x (PastEntry r p loose c es) = entries_settled x (finish_at x r) r p loose c es (finish_settled x r)
close_settled x (PastAsk r a q v) = ask_settled x (finish_at x r) r a q v (finish_settled x r)
close_settled x (PastPair r a pair) = pair_settled x (finish_at x r) r a pair (finish_settled x r)
close_settled x (Fresh b) = refl
close_settled x (InDirectives ds) = refl
close_settled x (BehindRoot ro) = refl
close_settled x (Ended s) = refl
close_settled x (PastKey r a k t) = refl
close_settled x (PastItem r p bracket o lead item) = refl
