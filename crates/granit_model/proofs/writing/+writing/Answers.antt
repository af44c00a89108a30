use Rattle.std.proofs.Common.{sym, ap, subst, ◌∙◌, ◌+◌, ◌++◌, take}
use Rattle.granit_base.specs.Written.{string_chars}
use Rattle.granit_model.specs.Characters.{PairsHaveCharacters}
use Rattle.granit_model.specs.Tree.{NoPairs, no_pairs}
use Rattle.granit_model.specs.FlowText.{comma_unless, pair_text}
use Rattle.granit_model.specs.TreeView.{plain_tree, with_pairs}
use Rattle.granit_model.proofs.TreeLemmas.{pairs_more}
use Rattle.granit_model.proofs.TextLemmas.{pairs_grow}
use Rattle.granit_model.proofs.writing.+writing.Goals as goal

pub push_pairs-loop-pair-preserved : goal.push_pairs-loop-pair-preserved
push_pairs-loop-pair-preserved t c =
    let pairs = c.deref-pair-items.result.now in
    let i = c.loop-pair.pair-index in
    let key = plain_tree c.pair-item.result.0 in
    let value = plain_tree c.pair-item.result.1 in
    let more = pairs_more pairs i c.pair-item.result c.loop-pair-test.true c.pair-item.is in
    record {
      written = λ rest.
          c.in_ok-push_pair.ensures.written rest ∙ c.in_ok-push_comma_unless.ensures (pair_text key value rest)
          ∙ c.loop-pair.invariant.written (comma_unless c.loop-pair.first (pair_text key value rest))
          ∙ ap (λ cs. string_chars c.args.out.now ++ cs)
          (pairs_grow (with_pairs NoPairs (take i pairs)) (with_pairs NoPairs (take (i + 1) pairs)) key value
          c.loop-pair.first rest more.1 c.loop-pair.invariant.none_yet);
      none_yet = ap no_pairs (sym more.1);
      characters = subst PairsHaveCharacters (sym more.1) (
        c.loop-pair.invariant.characters,
        c.in_ok-push_pair.ensures.characters.0,
        c.in_ok-push_pair.ensures.characters.1,
      );
    }
