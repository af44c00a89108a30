use Rattle.std.proofs.Common.{refl}
use Rattle.std.proofs.lemmas.Result.{err_from_is_err_and}
use Rattle.granit_items.specs.ItemViews.{lexeme_view}
use Rattle.granit_content.specs.Reads.{tail_view}
use Rattle.granit_content.proofs.ItemLemmas.{tailed_given, tailed_fails}
use Rattle.granit_refused.specs.Answered.{why}
use Rattle.granit_content.proofs.lexeme.tailed.Goals as goal

pub returns-in_err-tail-clause-here : goal.returns-in_err-tail-clause-here
returns-in_err-tail-clause-here g c = λ h k.
    let p = err_from_is_err_and c.from_residual.result c.from_residual.ensures.1 in
    rw (p.1, p.2) (tailed_fails c.args.asked (lexeme_view c.args.found.now) c.args.last c.args.layouts.now h
    (why c.tail_at.new.fault c.in_err-tail.field-0.0) (c.in_err-tail.ensures.here h k))

pub returns-clause-here : goal.returns-clause-here
returns-clause-here g c = λ h k.
    let tail = c.in_ok-tail.ensures.here h k in (
      record { here = tail.0; laid = c.count_lexeme.new.self },
      (tail.1, refl),
      rw (c.put_tail.ensures, c.count_lexeme.ensures, c.behind_tail-last.ensures)
          (tailed_given c.args.asked (lexeme_view c.args.found.now) c.args.last c.args.layouts.now h
          (tail_view c.in_ok-tail.tail) tail.0 tail.2),
    )
