use Rattle.std.proofs.Common.{rules, ◌≡◌, ◌<◌, ◌||◌, Bool, length, sym, ap, ap₂, ◌∙◌, arith}
use Rattle.std.proofs.lemmas.List.{get_or_default}
use Rattle.granit_items.specs.ItemViews.{item_view}
use Rattle.granit_queue.specs.QueueViews.{is_numbered}
use Rattle.granit_queue.specs.declared.queue.Queued.{Queued}
use Rattle.granit_queue.proofs.QueueLemmas.{flag_set, flagged_all}
use Rattle.granit_queue.proofs.items.mark_all.Goals as goal

pub items-preserved : goal.items-preserved
items-preserved c =
    let queued = c.items.items.items in
    let there = c.index_mut.result.now in
    let within : c.items.i < length queued = omega (arith, c.items.invariant.fits) in
    let flag : c.index.result.now ≡ there =
    c.index.ensures ∙ get_or_default queued c.items.i c.index.result.now there within ∙ sym c.index_mut.ensures.value in
    let item : c.index-in-items.result.now ≡ there =
    c.index-in-items.ensures ∙ get_or_default queued c.items.i c.index-in-items.result.now there within
    ∙ sym c.index_mut.ensures.value in
    let either : c.either.result ≡ there.begins_key || is_numbered c.args.number (item_view there.item) =
    c.either.ensures ∙ ap₂ (λ (a b : Bool). a || b) (ap (λ (q : Queued). q.begins_key) flag)
    (c.is_number.ensures ∙ ap (λ (q : Queued). is_numbered c.args.number (item_view q.item)) item) in
    record {
      told = flag_set c.args.number c.args.items.now.items queued c.items.i there c.either.result
          (omega (arith, c.items.invariant.same))
          within c.items.invariant.told c.index_mut.ensures.value either;
      fits = search rules;
      same = search rules;
    }

pub returns : goal.returns
returns c = flagged_all c.args.number c.args.items.now.items c.items.items.items c.items.i
    (omega (arith, c.items.invariant.same, c.items-test.false)) c.items.invariant.told
