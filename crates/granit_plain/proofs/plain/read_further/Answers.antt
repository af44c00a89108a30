use Rattle.std.proofs.Common.{◌≡◌, ◌==◌, true, List, ℕ, Result, sym, ap, ◌∙◌, subst}
use Rattle.std.specs.Str.{chars}
use Rattle.std.proofs.lemmas.Result.{err_from_is_err_and}
use Rattle.granit_lexemes.specs.Here.{Here}
use Rattle.granit_lexemes.specs.Outcome.{Fault, ◌>>=◌}
use Rattle.granit_lexemes.specs.PlainScalar.{PlainState, PlainRead}
use Rattle.granit_cursor.specs.Reading.{Stands, GivesTo, coded}
use Rattle.granit_cursor.specs.Tokens.{layout_data}
use Rattle.granit_plain.specs.LineCode.{text_of_lines}
use Rattle.granit_plain.specs.PlainCode.{plain_from, plain_lexed, plain_ended_by}
use Rattle.granit_plain.specs.PlainTaken.{PlainTaken}
use Rattle.granit_plain.proofs.FurtherLines.{further_by, ended_same, text_by}
use Rattle.granit_plain.proofs.MemoryLemmas.{begun_blank, one_line, unexpected_other}
use Rattle.granit_refused.specs.Answered.{answered}
use Rattle.granit_plain.proofs.plain.read_further.Goals as goal

pub returns-clause-here : goal.returns-clause-here
returns-clause-here g c = λ h k.
    let at = layout_data c.args.at.now in
    let front = chars c.args.line.now.front.now in
    let read = c.in_ok-parts.ensures.here h k in
    let whole = further_by at c.args.start front c.args.line.now.end h c.no_parts.result c.no_parts.ensures
    ∙ ap (λ (r : Result (List ℕ × PlainState) Fault). r
    >>= plain_ended_by at c.args.start (λ further last. text_of_lines c.args.start last front further)) read.2
    ∙ sym (ended_same at c.args.start read.0
    (c.in_ok-text.ensures.text ∙ text_by c.args.start c.in_ok-parts.parts.end c.line.result c.line-2.result front
    (chars c.as_str.result.now) c.in_ok-parts.parts.value c.line.ensures
    (c.line-2.ensures ∙ ap (λ (p : PlainTaken). p.end.place.line) c.parts.view_is)
    (ap chars c.as_str.ensures.value ∙ ap (λ (p : PlainTaken). p.value) c.parts.view_is)) c.end_of-ended.ensures.end
    c.end_of-ended.ensures.on_new_line c.end_of-ended.ensures.cuts) in
    subst (λ (r : Result (PlainRead × Here) Fault). GivesTo (λ _. plain_from c.args.start c.finish_plain.new.read)
    (answered c.finish_plain.new.fault c.finish_plain.result) (Stands g.T.Input.unread c.finish_plain.new.cursor)
    (coded plain_lexed r)) (sym whole)
    (c.finish_plain.ensures.here read.0 read.1)

-- ---- memory

pub returns-in_err-parts-clause-memory : goal.returns-in_err-parts-clause-memory
returns-in_err-parts-clause-memory g c = λ h k blanks.
    let p = err_from_is_err_and c.from_residual.result c.from_residual.ensures.1 in
    rw (p.1, p.2) (c.in_err-parts.ensures.memory h k
    (begun_blank (layout_data c.args.at.now) c.args.start c.args.line.now.end c.no_parts.result h c.no_parts.ensures
    blanks))

pub returns-in_err-text-clause-memory : goal.returns-in_err-text-clause-memory
returns-in_err-text-clause-memory g c = λ h k blanks.
    let at = layout_data c.args.at.now in
    let read = c.in_ok-parts.ensures.here h k in
    let begun = begun_blank at c.args.start c.args.line.now.end c.no_parts.result h c.no_parts.ensures blanks in
    let one = one_line at c.args.start c.no_parts.result c.in_ok-parts.parts h read.0 read.2 begun in
    let told : (c.line.result == c.line-2.result) ≡ true = rw (
      c.line.ensures,
      c.line-2.ensures ∙ ap (λ (p : PlainTaken). p.end.place.line) c.parts.view_is,
    ) one in
    absurd (let done = c.in_err-text.ensures.memory told in cc)

pub returns-clause-memory : goal.returns-clause-memory
returns-clause-memory g c = λ h k blanks. unexpected_other (answered c.finish_plain.new.fault c.finish_plain.result)
    c.finish_plain.ensures.kinds
