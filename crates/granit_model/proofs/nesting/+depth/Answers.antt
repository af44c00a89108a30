use Rattle.std.proofs.Common.{arith}
use Rattle.granit_model.proofs.TreeLemmas.{pairs_more}
use Rattle.granit_model.proofs.nesting.+depth.Goals as goal

pub pairs_depth-loop-key-preserved : goal.pairs_depth-loop-key-preserved
pairs_depth-loop-key-preserved t c =
    let more = pairs_more c.deref-key-items.result.now c.loop-key.key-index c.loop-key-item.result c.loop-key-test.true
    c.loop-key-item.is in
    rw more.1 (omega (
      arith,
      c.loop-key.invariant,
      c.tree_depth.ensures,
      c.tree_depth-in-loop-key.ensures,
      c.max.ensures,
      c.max-deepest.ensures,
    ))
