-- The stream that an open place goes on to keeps the limit where what stands before the place does.
use Rattle.std.proofs.Common.{◌≡◌, ℕ, Bool, true, List, [], ◌∷◌, sym, ap, ◌∙◌}
use Rattle.granit_event_machine.specs.OpenWithin.{open_within, open_blocks}
use Rattle.granit_grammar.specs.TreeMachine.{NextPlace, Go, NotTaken, take, ReadAs, at_end, tree_goes, parse}
use Rattle.granit_language.specs.Node.{NoProperties, One, Two, Stream}
use Rattle.granit_language.specs.OpenPlace.{Bare, Explicit, Around, BlockPairs, FlowPairs, Hole, AtRoot, AtEntry}
use Rattle.granit_language.specs.OpenPlace.{AtItem, AtKey, AtAsk, AtColon, OpenPlace, Fresh, InDirectives, BehindRoot}
use Rattle.granit_language.specs.OpenPlace.{Ended, Want, PastEntry, PastKey, PastAsk, PastPair, PastItem, OpenPlaced}
use Rattle.granit_language.specs.OpenPlace.{HasOneName}
use Rattle.granit_language.specs.Settling.{settle_place}
use Rattle.granit_language.specs.Terminal.{Terminal, no_terminal}
use Rattle.granit_language.specs.Within.{stream_within}
use Rattle.granit_whole.proofs.Viable.{after_around, after_put, after_hole, after_place, completed}
use Rattle.granit_event_machine.proofs.Withins.{IsClosing, NextStays, closing_stays, close_keeps}

abbrev Closing : List Terminal → Type 0
Closing [] = Unit {0}
Closing (x ∷ xs) = IsClosing x.kind × Closing xs

around_closing : (more : List Terminal) (a : Around) → Closing more → Closing (after_around more a)
around_closing more (BlockPairs p c lead) h = (tt, tt)
around_closing more (FlowPairs p bracket o lead) h = (tt, h)

put_closing : (r : Hole) → Closing (after_put r)
put_closing (AtRoot root) = (tt, tt)
put_closing (AtEntry r p loose c lead i) = (tt, tt)
put_closing (AtItem r p bracket o lead) = (tt, put_closing r)
put_closing (AtKey r a f) = (tt, around_closing (after_put r) a (put_closing r))
put_closing (AtAsk r a q) = around_closing (after_put r) a (put_closing r)
put_closing (AtColon r a left m) = around_closing (after_put r) a (put_closing r)

hole_closing : (r : Hole) → Closing (after_hole r)
hole_closing (AtRoot (Bare b)) = tt
hole_closing (AtRoot (Explicit s j)) = (tt, tt)
hole_closing (AtEntry r p loose c lead j) = (tt, tt)
hole_closing (AtItem r p bracket o lead) = (tt, put_closing r)
hole_closing (AtKey r a k) = tt
hole_closing (AtAsk r a q) = around_closing (after_put r) a (put_closing r)
hole_closing (AtColon r a left m) = around_closing (after_put r) a (put_closing r)

place_closing : (p : OpenPlace) → Closing (after_place p)
place_closing (Fresh b) = (tt, tt)
place_closing (InDirectives ds) = (tt, (tt, tt))
place_closing (BehindRoot ro) = (tt, tt)
place_closing (Ended s) = tt
place_closing (Want r NoProperties) = hole_closing r
place_closing (Want r (One k j)) = put_closing r
place_closing (Want r (Two k j m h)) = put_closing r
place_closing (PastEntry r p loose c es) = (tt, tt)
place_closing (PastKey r a k t) = (tt, around_closing (after_put r) a (put_closing r))
place_closing (PastAsk r a q v) = around_closing (after_put r) a (put_closing r)
place_closing (PastPair r a pair) = around_closing (after_put r) a (put_closing r)
place_closing (PastItem r p bracket o lead item) = (tt, put_closing r)

-- ---- what only ends is no matter of the limit

end_read : (n : ℕ) (p : OpenPlace) (s : Stream) → at_end p ≡ ReadAs s → stream_within n s ≡ open_within n p
end_read n (Ended t) s e = let same : t ≡ s = cc (e) in ap (stream_within n) (sym same)
end_read n p s e = absurd cc

closing_goes :
    (n d : ℕ) (b : Bool) (m : NextPlace) (p : OpenPlace) (x : Terminal) (xs : List Terminal) (s : Stream) →
    ((q : OpenPlace) → parse xs q ≡ ReadAs s → stream_within n s ≡ open_within n q) → NextStays n b d m →
    tree_goes m p x (parse xs) ≡ ReadAs s → stream_within n s ≡ b
closing_goes n d b (Go q) p x xs s h stays e = h q e ∙ stays.0
closing_goes n d b NotTaken p x xs s h stays e = absurd cc

closing_within :
    (n : ℕ) (xs : List Terminal) (p : OpenPlace) (s : Stream) → Closing xs → parse xs p ≡ ReadAs s →
    stream_within n s ≡ open_within n p
closing_within n [] p s c e = end_read n p s e
closing_within n (x ∷ xs) p s c e =
    let q = settle_place x p in
    closing_goes n (open_blocks q) (open_within n q) (take q x.kind x.at) q x xs s
    (λ r h. closing_within n xs r s c.1 h) (closing_stays n q x.kind x.at c.0) e
    ∙ close_keeps n x p

pub completed_within :
    (n : ℕ) (p : OpenPlace) (i : HasOneName p) (f : OpenPlaced no_terminal p) → open_within n p ≡ true →
    stream_within n (completed p i f).0 ≡ true
completed_within n p i f w =
    let c = completed p i f in closing_within n (after_place p) p c.0 (place_closing p) c.1 ∙ w
