-- At most so many block collections are open at once, in what stands before an open place.
use Rattle.std.specs.Prelude.{ℕ, suc, Bool, ◌&&◌, nat_le}
use Rattle.granit_language.specs.OpenPlace.{Root, Bare, Explicit, Around, BlockPairs, FlowPairs, Hole, AtRoot, AtEntry}
use Rattle.granit_language.specs.OpenPlace.{AtItem, AtKey, AtAsk, AtColon, OpenPlace, Fresh, InDirectives, BehindRoot}
use Rattle.granit_language.specs.OpenPlace.{Ended, Want, PastEntry, PastKey, PastAsk, PastPair, PastItem}
use Rattle.granit_language.specs.Within.{node_within, content_within, entries_within, entry_lead_within}
use Rattle.granit_language.specs.Within.{pair_lead_within, pair_within, left_within, flow_within, item_within}
use Rattle.granit_language.specs.Within.{before_within, directives_within, start_within, rooted_within, stream_within}

abbrev pub around_blocks : Around → ℕ → ℕ
around_blocks (BlockPairs p c lead) d = suc d
around_blocks (FlowPairs p bracket o lead) d = d

-- the block collections around a hole
abbrev pub hole_blocks : Hole → ℕ
hole_blocks (AtRoot root) = 0
hole_blocks (AtEntry r p loose c lead i) = suc (hole_blocks r)
hole_blocks (AtItem r p bracket o lead) = hole_blocks r
hole_blocks (AtKey r a f) = around_blocks a (hole_blocks r)
hole_blocks (AtAsk r a q) = around_blocks a (hole_blocks r)
hole_blocks (AtColon r a left m) = around_blocks a (hole_blocks r)

abbrev pub root_within : ℕ → Root → Bool
root_within n (Bare b) = before_within n b
root_within n (Explicit s i) = start_within n s

-- with d block collections around it
abbrev pub around_within : ℕ → Around → ℕ → Bool → Bool
around_within n (BlockPairs p c lead) d b = pair_lead_within n lead (suc d) (b && nat_le (suc d) n)
around_within n (FlowPairs p bracket o lead) d b = flow_within n lead d b

abbrev pub hole_within : ℕ → Hole → Bool
hole_within n (AtRoot root) = root_within n root
hole_within n (AtEntry r p loose c lead i) =
    entry_lead_within n lead (suc (hole_blocks r)) (hole_within n r && nat_le (suc (hole_blocks r)) n)
hole_within n (AtItem r p bracket o lead) = flow_within n lead (hole_blocks r) (hole_within n r)
hole_within n (AtKey r a f) = around_within n a (hole_blocks r) (hole_within n r)
hole_within n (AtAsk r a q) = around_within n a (hole_blocks r) (hole_within n r)
hole_within n (AtColon r a left m) =
    left_within n left (around_blocks a (hole_blocks r)) (around_within n a (hole_blocks r) (hole_within n r))

-- what stands before an open place
abbrev pub open_within : ℕ → OpenPlace → Bool
open_within n (Fresh b) = before_within n b
open_within n (InDirectives ds) = directives_within n ds
open_within n (BehindRoot ro) = rooted_within n ro
open_within n (Ended s) = stream_within n s
open_within n (Want r p) = hole_within n r
open_within n (PastEntry r p loose c es) =
    entries_within n es (suc (hole_blocks r)) (hole_within n r && nat_le (suc (hole_blocks r)) n)
open_within n (PastKey r a f k) =
    node_within n k (around_blocks a (hole_blocks r)) (around_within n a (hole_blocks r) (hole_within n r))
open_within n (PastAsk r a q v) =
    content_within n v (around_blocks a (hole_blocks r)) (around_within n a (hole_blocks r) (hole_within n r))
open_within n (PastPair r a pair) =
    pair_within n pair (around_blocks a (hole_blocks r)) (around_within n a (hole_blocks r) (hole_within n r))
open_within n (PastItem r p bracket o lead item) =
    item_within n item (hole_blocks r) (flow_within n lead (hole_blocks r) (hole_within n r))

-- the block collections around an open place
abbrev pub open_blocks : OpenPlace → ℕ
open_blocks (Want r p) = hole_blocks r
open_blocks (PastEntry r p loose c es) = suc (hole_blocks r)
open_blocks (PastKey r a f k) = around_blocks a (hole_blocks r)
open_blocks (PastAsk r a q v) = around_blocks a (hole_blocks r)
open_blocks (PastPair r a pair) = around_blocks a (hole_blocks r)
open_blocks (PastItem r p bracket o lead item) = hole_blocks r
open_blocks p = 0
