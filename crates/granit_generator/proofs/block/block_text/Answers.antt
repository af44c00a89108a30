use Rattle.std.proofs.Common.{ap, subst, ◌∙◌, false, take, []}
use Rattle.std.proofs.lemmas.List.{take_all}
use Rattle.granit_model.specs.Characters.{HasCharacters}
use Rattle.granit_model.specs.Tree.{NoTrees}
use Rattle.granit_generator.specs.BlockText.{block_documents}
use Rattle.granit_model.specs.TreeView.{with_trees}
use Rattle.granit_model.proofs.TextLemmas.{all_of_it}
use Rattle.granit_generator.proofs.block.block_text.Goals as goal

pub returns-clause-written : goal.returns-clause-written
returns-clause-written c =
    let roots = c.as_slice-root-items.result.now in
    let gone_over = take_all c.loop-root.root-index roots c.loop-root-test.false in
    let text = block_documents (with_trees NoTrees (take c.loop-root.root-index roots)) in
    let written = all_of_it c.new-out.result c.loop-root.out text c.new-out.ensures.bytes
    c.loop-root.invariant.written in
    let characters =
    written ∙ ap (λ ts. block_documents (with_trees NoTrees ts) []) gone_over
    ∙ ap (λ ts. block_documents ts []) c.as_slice-root-items.ensures in
    c.owned.ensures ∙ (λ i. record { characters = characters i; is_borrowed = false })

-- every tree was gone over
pub returns-clause-characters : goal.returns-clause-characters
returns-clause-characters c =
    let roots = c.as_slice-root-items.result.now in
    let gone_over = take_all c.loop-root.root-index roots c.loop-root-test.false in
    let all = ap (with_trees NoTrees) gone_over ∙ c.as_slice-root-items.ensures in
    subst HasCharacters all c.loop-root.invariant.characters
