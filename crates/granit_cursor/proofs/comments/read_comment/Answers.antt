use Rattle.std.proofs.Common.{refl, sym, ap, ◌∙◌}
use Rattle.std.proofs.lemmas.Result.{err_from_is_err_and}
use Rattle.granit_lexemes.specs.Here.{mark_of, step}
use Rattle.granit_cursor.proofs.CommentLemmas.{behind_same, behind_text, comment_fails, comment_given, text_of}
use Rattle.granit_cursor.proofs.comments.read_comment.Goals as goal

pub returns-in_err-behind_comment-clause-here : goal.returns-in_err-behind_comment-clause-here
returns-in_err-behind_comment-clause-here g c = λ h k.
    let stepped = c.step.ensures.here h k in
    let taken = c.in_ok-text.ensures.here (step h) stepped (c.lending_offset-lends_from.ensures (step h) stepped) in
    let n = taken.0 in
    let p = err_from_is_err_and c.from_residual-in_err-behind_comment.result
    c.from_residual-in_err-behind_comment.ensures.1 in
    rw (p.1, p.2) (comment_fails n h c.in_err-behind_comment.field-0.0 taken.1.0
    (c.in_err-behind_comment.ensures.here (behind_text n h) taken.1.1))

pub returns-clause-here : goal.returns-clause-here
returns-clause-here g c = λ h k.
    let stepped = c.step.ensures.here h k in
    let taken = c.in_ok-text.ensures.here (step h) stepped (c.lending_offset-lends_from.ensures (step h) stepped) in
    let n = taken.0 in
    let behind = c.in_ok-behind_comment.ensures.here (behind_text n h) taken.1.1 in
    let text = text_of n h c.in_ok-text.text taken.1.0 taken.2 in
    let start = c.mark-start.ensures.here h k in
    let end = c.in_ok-text.ensures.end.2 (behind_text n h) taken.1.1
    ∙ ap mark_of (sym (behind_same (behind_text n h) behind.0 _ behind.2)) in (
      behind.0,
      behind.1,
      comment_given n h behind.0 _ c.new-3.result taken.1.0 behind.2
          (rw (
            c.new-3.ensures,
            c.with_placement-comment.ensures,
            c.new.ensures,
            c.new-2.ensures,
            start,
            end,
            text,
            c.placement-placement.ensures,
            c.begins_line.ensures,
            sym k.2,
          ) refl),
    )
