use Rattle.std.proofs.Common.{List, ℕ, Result, sym, ap, ◌∙◌, subst}
use Rattle.granit_lexemes.specs.Here.{Here}
use Rattle.granit_lexemes.specs.Outcome.{Fault, ◌>>=◌}
use Rattle.granit_lexemes.specs.Basics.{owned}
use Rattle.granit_lexemes.specs.PlainScalar.{PlainState, PlainRead}
use Rattle.granit_cursor.specs.Reading.{Stands, GivesTo, coded}
use Rattle.granit_cursor.specs.Tokens.{layout_data}
use Rattle.granit_plain.specs.PlainCode.{plain_from, plain_lexed, plain_ended_by}
use Rattle.granit_plain.specs.PlainTaken.{PlainTaken}
use Rattle.granit_plain.proofs.FurtherLines.{copied_by, ended_same}
use Rattle.granit_refused.specs.Answered.{answered}
use Rattle.granit_plain.proofs.plain.read_copied.Goals as goal

pub returns-clause-here : goal.returns-clause-here
returns-clause-here g c = λ h k start.
    let at = layout_data c.args.at.now in
    let read = c.in_ok-parts.ensures.here h k in
    let whole = copied_by at h c.args.start c.in_ok-front.front start c.in_ok-front.ensures
    ∙ ap (λ (r : Result (List ℕ × PlainState) Fault). r >>= plain_ended_by at c.args.start
    (λ value end. owned value)) read.2
    ∙ sym (ended_same at c.args.start read.0
    (c.owned.ensures ∙ ap (λ (p : PlainTaken). owned p.value) c.parts.view_is) c.end_of-ended.ensures.end
    c.end_of-ended.ensures.on_new_line c.end_of-ended.ensures.cuts) in
    subst (λ (r : Result (PlainRead × Here) Fault). GivesTo (λ _. plain_from c.args.start c.finish_plain.new.read)
    (answered c.finish_plain.new.fault c.finish_plain.result) (Stands g.T.Input.unread c.finish_plain.new.cursor)
    (coded plain_lexed r)) (sym whole)
    (c.finish_plain.ensures.here read.0 read.1)
