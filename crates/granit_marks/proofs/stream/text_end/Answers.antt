use Rattle.std.proofs.Common.{◌∙◌, refl, sym, Err}
use Rattle.std.proofs.lemmas.Result.{err_from_is_err_and}
use Rattle.granit_content.proofs.MemoryLemmas.{open_refused, key_refused}
use Rattle.granit_marks.proofs.StreamLemmas.{end_given}
use Rattle.granit_refused.specs.Answered.{why}
use Rattle.granit_marks.proofs.stream.text_end.Goals as goal

pub returns-in_err-refuse_open-clause-memory : goal.returns-in_err-refuse_open-clause-memory
returns-in_err-refuse_open-clause-memory g c =
    let at = c.from_residual in
    let p = err_from_is_err_and at.result at.ensures.1 in
    rw (p.1, p.2) (open_refused c.args.layouts.now.brackets _ c.in_err-refuse_open.ensures)

pub returns-in_err-drop_key-clause-memory : goal.returns-in_err-drop_key-clause-memory
returns-in_err-drop_key-clause-memory g c =
    let at = c.from_residual-in_err-drop_key in
    let p = err_from_is_err_and at.result at.ensures.1 in
    rw (p.1, p.2) (key_refused c.args.layouts.now c.drop_key.new.self
    (Err (why c.drop_key.new.fault c.in_err-drop_key.field-0.0))
    c.in_err-drop_key.ensures)

pub returns-clause-here : goal.returns-clause-here
returns-clause-here g c = λ h k.
    let start = c.start_of-start.ensures h k in
    let lexeme = rw (c.ends_all-ends.ensures, sym start.0) at (c.write_lexeme.ensures h start) in (
      record { here = h; laid = c.behind_end.new.self },
      (k, refl),
      end_given c.args.asked h c.args.layouts.now c.drop_key.new.self _ (sym c.in_ok-refuse_open.ensures)
          c.in_ok-drop_key.ensures ∙ rw (c.behind_end.ensures, lexeme) refl,
    )
