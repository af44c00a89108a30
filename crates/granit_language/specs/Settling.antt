-- What a lexeme ends, before it is taken: collections right of it, indentless sequences, properties alone, what stays
-- empty.
use Rattle.std.specs.Prelude.{ℕ, Bool, false}
use Rattle.granit_language.specs.Choice.{choose}
use Rattle.granit_language.specs.Node.{TreeProperties, NoProperties, Alone, Sequence, Mapping, Content, Nothing, Just}
use Rattle.granit_language.specs.Node.{Entries, Entry, Through, Pair, WithColon, AskOnly, Single, Paired, BareRoot}
use Rattle.granit_language.specs.Node.{ExplicitRoot}
use Rattle.granit_language.specs.OpenPlace.{Bare, Explicit, Around, BlockPairs, FlowPairs, Hole, AtRoot, AtEntry}
use Rattle.granit_language.specs.OpenPlace.{AtItem, AtKey, AtAsk, AtColon, OpenPlace, BehindRoot, Want, PastEntry}
use Rattle.granit_language.specs.OpenPlace.{PastKey, PastAsk, PastPair, PastItem, holder, room_of}
use Rattle.granit_language.specs.Room.{room_behind, continues_node, entry_empty, sequence_over, value_empty, ask_empty}
use Rattle.granit_language.specs.Room.{ask_over, pair_over}
use Rattle.granit_language.specs.Terminal.{At, Terminal, is_stream_kind, stands_left}

-- a finished node, or nothing, in a hole
abbrev pub put_in : Hole → Content → OpenPlace
put_in (AtRoot (Bare b)) (Just t) = BehindRoot (BareRoot b t)
put_in (AtRoot (Explicit s i)) v = BehindRoot (ExplicitRoot s i v)
put_in (AtEntry r p loose c lead i) v = PastEntry r p loose c (Entry lead i v)
put_in (AtItem r p bracket o lead) (Just t) = PastItem r p bracket o lead (Single t)
put_in (AtKey r a f) (Just t) = PastKey r a f t
put_in (AtAsk r a q) v = PastAsk r a q v
put_in (AtColon r a left m) v = PastPair r a (WithColon left m v)
put_in r Nothing = Want r NoProperties

-- nothing may stand in the hole in front of x
abbrev pub empty_fits : Hole → Terminal → Bool
empty_fits (AtRoot (Bare b)) x = false
empty_fits (AtRoot (Explicit s i)) x = is_stream_kind x.kind
empty_fits (AtEntry r p loose c lead i) x = entry_empty loose c x
empty_fits (AtItem r p bracket o lead) x = false
empty_fits (AtKey r a f) x = false
empty_fits (AtAsk r a q) x = ask_empty (holder a) x
empty_fits (AtColon r a left m) x = value_empty (holder a) x

-- The function finishes a node in the hole.
abbrev pub end_entries : Terminal → (Content → OpenPlace) → Hole → TreeProperties → Bool → ℕ → Entries → OpenPlace
end_entries x on r p loose c es =
    choose (sequence_over loose c x) (on (Just (Sequence p loose c es x.at.start))) (PastEntry r p loose c es)

abbrev pub end_pair : Terminal → (Content → OpenPlace) → Hole → Around → Pair → OpenPlace
end_pair x on r (BlockPairs p c lead) pair =
    choose (stands_left x c) (on (Just (Mapping p c (Through lead pair) x.at.start)))
    (PastPair r (BlockPairs p c lead) pair)
end_pair x on r (FlowPairs p bracket o lead) pair =
    choose (pair_over bracket pair x) (PastItem r p bracket o lead (Paired pair))
    (PastPair r (FlowPairs p bracket o lead) pair)

abbrev pub end_ask : Terminal → (Content → OpenPlace) → Hole → Around → At → Content → OpenPlace
end_ask x on r a q v = choose (ask_over (holder a) x) (end_pair x on r a (AskOnly q v x.at.start)) (PastAsk r a q v)

-- a finished node, or nothing, in a hole, and then what the lexeme ends
abbrev pub finish_at : Terminal → Hole → Content → OpenPlace
finish_at x (AtRoot root) v = put_in (AtRoot root) v
finish_at x (AtEntry r p loose c lead i) v = end_entries x (finish_at x r) r p loose c (Entry lead i v)
finish_at x (AtItem r p bracket o lead) v = put_in (AtItem r p bracket o lead) v
finish_at x (AtKey r a f) v = put_in (AtKey r a f) v
finish_at x (AtAsk r a q) v = end_ask x (finish_at x r) r a q v
finish_at x (AtColon r a left m) v = end_pair x (finish_at x r) r a (WithColon left m v)

abbrev pub settle_want : Terminal → Hole → TreeProperties → OpenPlace
settle_want x r NoProperties = choose (empty_fits r x) (finish_at x r Nothing) (Want r NoProperties)
settle_want x r p =
    choose (continues_node (room_behind p (room_of r)) p x.kind x.at) (Want r p) (finish_at x r (Just (Alone p)))

abbrev pub settle_place : Terminal → OpenPlace → OpenPlace
settle_place x (Want r p) = settle_want x r p
settle_place x (PastEntry r p loose c es) = end_entries x (finish_at x r) r p loose c es
settle_place x (PastAsk r a q v) = end_ask x (finish_at x r) r a q v
settle_place x (PastPair r a pair) = end_pair x (finish_at x r) r a pair
settle_place x p = p
