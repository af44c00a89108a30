use Rattle.std.proofs.Common.{rules, ◌≡◌, ◌-◌, suc, sym, subst, arith, ℕ}
use Rattle.std.proofs.lemmas.List.{length-map}
use Rattle.granit_queue.specs.QueueViews.{queue_view, queued_view}
use Rattle.granit_queue.proofs.RisingLemmas.{Passed, passes, passes_item, passed_all, passed_by}
use Rattle.granit_queue.proofs.items.mark_newest.Goals as goal

pub items-init : goal.items-init
items-init c = record {
  passed = passes c.args.number (queue_view c.args.items.now.items) c.len-newer.result
      (omega (arith, c.len-newer.ensures, length-map c.args.items.now.items queued_view)) c.requires.rising;
  fits = search rules;
}

pub returns-then-flag_or_before : goal.returns-then-flag_or_before
returns-then-flag_or_before c =
    let next : suc (c.items.newer - 1) ≡ c.items.newer = omega (arith, c.items-test.true) in
    passed_by c.args.number (c.items.newer - 1) (queue_view c.args.items.now.items) c.items.items.items
    c.index_mut.result.now c.flag_or_before.new.queued (omega (arith, c.items-test.true, c.items.invariant.fits))
    c.index_mut.ensures.value c.flag_or_before.ensures.flag (search rules)
    (subst (λ (n : ℕ). Passed c.args.number n (queue_view c.args.items.now.items) (queue_view c.items.items.items))
    (sym next) c.items.invariant.passed)

pub items-preserved : goal.items-preserved
items-preserved c =
    let queued = c.items.items.items in
    let i = c.items.newer - 1 in
    let next : suc i ≡ c.items.newer = omega (arith, c.items-test.true) in
    record {
      passed = passes_item c.args.number i (queue_view c.args.items.now.items) queued c.index_mut.result.now
          c.flag_or_before.new.queued (omega (arith, c.items-test.true, c.items.invariant.fits))
          c.index_mut.ensures.value c.flag_or_before.ensures.flag
          (subst (λ (n : ℕ). Passed c.args.number n (queue_view c.args.items.now.items) (queue_view queued))
          (sym next) c.items.invariant.passed);
      fits = search rules;
    }

pub returns : goal.returns
returns c =
    passed_all c.args.number (queue_view c.args.items.now.items) (queue_view c.items.items.items)
    (subst (λ (n : ℕ). Passed c.args.number n (queue_view c.args.items.now.items) (queue_view c.items.items.items))
    (omega (arith, c.items-test.false)) c.items.invariant.passed)
