use Rattle.std.proofs.Common.{rules, ◌≡◌, ◌<◌, true, false, None, is_some, length, sym, subst, ◌∙◌}
use Rattle.std.proofs.lemmas.List.{get_or_default}
use Rattle.std.proofs.Math.Seq.{map-set_same}
use Rattle.granit_error.specs.OptionsView.{options_of}
use Rattle.granit_lexemes.specs.declared.layout.OpenBracket.{OpenBracket}
use Rattle.granit_machine.specs.PossibleKeys.{fresh_bracket, fresh_key}
use Rattle.granit_layout.specs.Rising.{Rising}
use Rattle.granit_layout.specs.declared.rising.KeyOrder.{KeyOrder}
use Rattle.granit_layout.proofs.RisingLemmas.{begun, none_left, passed, outermost_stays, outermost_goes}
use Rattle.granit_layout.proofs.brackets.refresh_outermost.Goals as goal

pub returns-then-is_fresh-clause-fresh : goal.returns-then-is_fresh-clause-fresh
returns-then-is_fresh-clause-fresh c =
    sym (outermost_stays (options_of c.args.options.now) c.args.mark.now c.brackets.order c.brackets.brackets.items
    c.index.result.now c.brackets.invariant.rising c.brackets.invariant.rises (search rules) (search rules)
    (search rules)) ∙ c.brackets.invariant.told

pub brackets-preserved : goal.brackets-preserved
brackets-preserved c =
    let o = options_of c.args.options.now in
    let there = c.index_mut.result.now in
    let within : c.brackets.order.first < length c.brackets.brackets.items = search rules in
    let same : c.index.result.now ≡ there =
    c.index.ensures
    ∙ get_or_default c.brackets.brackets.items c.brackets.order.first c.index.result.now there within
    ∙ sym c.index_mut.ensures.value in
    record {
      told = map-set_same (fresh_bracket o c.args.mark.now) c.brackets.brackets.items c.brackets.order.first
          (record there { key = None }) there
          (outermost_goes o c.args.mark.now c.brackets.brackets.items c.brackets.order.first there there within
          c.index_mut.ensures.value
          (subst (λ (b : OpenBracket). is_some (fresh_key o true c.args.mark.now b.key) ≡ false) same (search rules)))
          ∙ c.brackets.invariant.told;
      rising = passed c.brackets.order c.brackets.brackets.items there c.index_mut.ensures.value within
          c.brackets.invariant.rising;
      rises = c.brackets.invariant.rises;
    }

pub returns-clause-fresh : goal.returns-clause-fresh
returns-clause-fresh c =
    sym (none_left (options_of c.args.options.now) c.args.mark.now c.brackets.order c.brackets.brackets.items
    c.brackets.invariant.rising (search rules)) ∙ c.brackets.invariant.told

pub returns-then-is_fresh-clause-rising : goal.returns-then-is_fresh-clause-rising
returns-then-is_fresh-clause-rising c =
    subst (λ (o : KeyOrder). Rising o c.brackets.brackets.items) (sym c.begin_at.ensures)
    (begun c.brackets.order c.brackets.brackets.items c.index-then-is_fresh.result.now c.index-then-is_fresh.ensures
    (search rules) c.brackets.invariant.rises c.brackets.invariant.rising)
