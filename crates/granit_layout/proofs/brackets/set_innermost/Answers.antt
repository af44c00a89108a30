use Rattle.std.proofs.Common.{rules, ◌≡◌, ◌-◌, ◌<◌, length, set, sym, ap, subst, ◌∙◌}
use Rattle.std.proofs.lemmas.List.{get_or_default}
use Rattle.granit_lexemes.specs.declared.layout.OpenBracket.{OpenBracket}
use Rattle.granit_layout.specs.Rising.{Rising, with_key}
use Rattle.granit_layout.specs.declared.rising.KeyOrder.{KeyOrder}
use Rattle.granit_layout.proofs.ListLemmas.{keyed_last}
use Rattle.granit_layout.proofs.RisingLemmas.{keyed}
use Rattle.granit_layout.proofs.brackets.set_innermost.Goals as goal

pub returns-clause-key : goal.returns-clause-key
returns-clause-key c =
    keyed_last c.args.key.now c.args.brackets.now.items c.len-depth.result c.index_mut.result.now (search rules)
    c.if-depth-eq0.false c.index_mut.ensures.value

pub returns-clause-rising : goal.returns-clause-rising
returns-clause-rising c =
    let open_brackets = c.args.brackets.now.items in
    let innermost = c.len-depth.result - 1 in
    let there = c.index_mut.result.now in
    let within : innermost < length open_brackets = search rules in
    let same : c.index.result.now ≡ there =
    c.index.ensures ∙ get_or_default open_brackets innermost c.index.result.now there within
    ∙ sym c.index_mut.ensures.value in
    subst (λ (o : KeyOrder). Rising o (set open_brackets innermost (record there { key = c.args.key.now })))
    (sym (c.set_key.ensures
    ∙ ap (λ (b : OpenBracket). with_key innermost b.key c.args.key.now c.args.order.now) same))
    (keyed c.args.order.now open_brackets innermost there c.args.key.now (search rules) c.index_mut.ensures.value
    c.requires.rising)
