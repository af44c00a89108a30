use Rattle.std.proofs.Common.{◌∙◌, refl, sym, ap}
use Rattle.std.proofs.lemmas.Result.{err_from_is_err_and}
use Rattle.granit_lexemes.specs.Lexeme.{Lexeme}
use Rattle.granit_lexemes.specs.Moves.{steps}
use Rattle.granit_machine.specs.ReaderState.{with_tail}
use Rattle.granit_content.specs.Reads.{comment_kept, tail_view}
use Rattle.granit_marks.proofs.StreamLemmas.{mark_seen}
use Rattle.granit_marks.proofs.stream.end_mark.Goals as goal

pub returns-in_err-refuse_more-clause-here : goal.returns-in_err-refuse_more-clause-here
returns-in_err-refuse_more-clause-here g c = λ h k.
    let on = c.past_mark.ensures.here h k in
    let tail = c.in_ok-tail.ensures.here (steps 3 h) on in
    let more = c.in_err-refuse_more.ensures.here tail.0 tail.1 in
    let p = err_from_is_err_and c.from_residual-in_err-refuse_more.result
    c.from_residual-in_err-refuse_more.ensures.1 in
    rw (p.1, p.2) (λ other. mark_seen c.args.asked c.args.ends h c.args.layouts.now (tail_view c.in_ok-tail.tail) tail.0
    tail.2 ∙ rw (sym more.1) refl)

pub returns-clause-here : goal.returns-clause-here
returns-clause-here g c = λ h k.
    let on = c.past_mark.ensures.here h k in
    let tail = c.in_ok-tail.ensures.here (steps 3 h) on in
    let more = c.in_ok-refuse_more.ensures.here tail.0 tail.1 in
    let lexeme = rw (c.mark-end.ensures.here (steps 3 h) on) at
    (c.write_lexeme.ensures h (c.start_of-start.ensures h k)) in
    let told = c.put_tail.ensures ∙ ap (λ (x : Lexeme). with_tail x
    (comment_kept (tail_view c.in_ok-tail.tail))) lexeme in (
      record { here = tail.0; laid = c.behind_end_mark.new.self },
      (more.0, refl),
      mark_seen c.args.asked c.args.ends h c.args.layouts.now (tail_view c.in_ok-tail.tail) tail.0 tail.2
          ∙ rw (sym more.1, told, c.behind_end_mark.ensures) refl,
    )
