use Rattle.std.proofs.Common.{sym, ◌∙◌, ap, not}
use Rattle.granit_model.proofs.TreeLemmas.{pairs_more}
use Rattle.granit_model.proofs.MentionLemmas.{none_first, some_first}
use Rattle.granit_model.proofs.fitting.+mention.Goals as goal
use Rattle.granit_model.proofs.fitting.+mention.Goals.{mention_in_pairs-then-is_none, mention_in_pairs-else-is_none}

-- behind one more pair either its first mention is the first, or an earlier one stays
pub mention_in_pairs-loop-pair-preserved : goal.mention_in_pairs-loop-pair-preserved
mention_in_pairs-loop-pair-preserved t c =
    let more = pairs_more c.deref-pair-items.result.now c.loop-pair.pair-index c.pair-item.result c.loop-pair-test.true
    c.pair-item.is in
    elim c.if-is_none.branch [
      | mention_in_pairs-then-is_none w ↦
          rw more.1 (rw (sym c.loop-pair.invariant)
          (w.found-is ∙ w.mention_in_pair-found.ensures
          ∙ none_first c.loop-pair.found _ (c.is_none.ensures ∙ ap not w.if-is_none.true)))
      | mention_in_pairs-else-is_none w ↦
          rw more.1 (rw (sym c.loop-pair.invariant)
          (w.found-is ∙ some_first c.loop-pair.found _ (c.is_none.ensures ∙ ap not w.if-is_none.false)))
    ]
