use Rattle.std.proofs.Common.{sym, ap, ◌∙◌, subst, Result}
use Rattle.std.specs.Str.{chars}
use Rattle.granit_base.specs.Place.{Mark}
use Rattle.granit_lexemes.specs.Here.{Here}
use Rattle.granit_lexemes.specs.Outcome.{Fault}
use Rattle.granit_lexemes.specs.PlainScalar.{PlainRead, plain_scalar}
use Rattle.granit_cursor.specs.Reading.{Stands, GivesTo, coded}
use Rattle.granit_cursor.specs.Tokens.{layout_data}
use Rattle.granit_cursor.proofs.SourceLemmas.{found_lends, not_found_lends}
use Rattle.granit_plain.specs.PlainCode.{plain_from, plain_lexed}
use Rattle.granit_plain.proofs.FurtherLines.{passed_is, copied_is}
use Rattle.granit_plain.proofs.MemoryLemmas.{ends_here, takes_lent}
use Rattle.granit_refused.specs.Answered.{answered}
use Rattle.granit_plain.proofs.plain.read_plain.Goals as goal

pub returns-in-Ok-clause-here : goal.returns-in-Ok-clause-here
returns-in-Ok-clause-here g c = λ h k.
    let at = layout_data c.args.at.now in
    let start = c.mark-start.ensures.here h k in
    let dash = c.at_flow_dash.ensures.here h k in
    let there = found_lends c.in-Some.from h.unread (sym c.in-Some.is ∙ c.lending_offset.ensures h dash.0) in
    let passed = c.in-Ok.ensures.here h dash.0 there.0 there.1 start in
    let whole = passed_is at h c.mark-start.result (chars c.in-Ok.line.front.now) c.in-Ok.line.end c.in-Ok.line.blank
    passed.0 start (sym dash.1 ∙ c.if-at_flow_dash.false) there.0 passed.2 in
    subst (λ (m : Mark). GivesTo (λ _. plain_from m c.read_passed.new.read)
    (answered c.read_passed.new.fault c.read_passed.result)
    (Stands g.T.Input.unread c.read_passed.new.cursor) (coded plain_lexed (plain_scalar at h))) start
    (subst (λ (r : Result (PlainRead × Here) Fault). GivesTo (λ _. plain_from c.mark-start.result
    c.read_passed.new.read) (answered c.read_passed.new.fault c.read_passed.result)
    (Stands g.T.Input.unread c.read_passed.new.cursor)
    (coded plain_lexed r)) (sym whole) (c.read_passed.ensures.here passed.0 passed.1))

pub returns-in-None-clause-here : goal.returns-in-None-clause-here
returns-in-None-clause-here g c = λ h k.
    let at = layout_data c.args.at.now in
    let start = c.mark-start.ensures.here h k in
    let dash = c.at_flow_dash.ensures.here h k in
    let lends = not_found_lends (g.T.Input.left c.at_flow_dash.new.cursor.input)
    (g.T.Input.origin c.at_flow_dash.new.cursor.input) h.unread
    (g.met.T.Input.agrees c.at_flow_dash.new.cursor.input h.unread dash.0.0)
    (sym c.in-None.is ∙ c.lending_offset.ensures h dash.0) in
    subst (λ (m : Mark). GivesTo (λ _. plain_from m c.read_copied.new.read)
    (answered c.read_copied.new.fault c.read_copied.result)
    (Stands g.T.Input.unread c.read_copied.new.cursor) (coded plain_lexed (plain_scalar at h))) start
    (subst (λ (r : Result (PlainRead × Here) Fault). GivesTo (λ _. plain_from c.mark-start.result
    c.read_copied.new.read) (answered c.read_copied.new.fault c.read_copied.result)
    (Stands g.T.Input.unread c.read_copied.new.cursor)
    (coded plain_lexed r)) (sym (copied_is at h (sym dash.1 ∙ c.if-at_flow_dash.false) lends))
    (c.read_copied.ensures.here h dash.0 start))

pub returns-in-Ok-clause-memory : goal.returns-in-Ok-clause-memory
returns-in-Ok-clause-memory g c = λ h k none.
    let at = layout_data c.args.at.now in
    let start = c.mark-start.ensures.here h k in
    let dash = c.at_flow_dash.ensures.here h k in
    let there = found_lends c.in-Some.from h.unread (sym c.in-Some.is ∙ c.lending_offset.ensures h dash.0) in
    let passed = c.in-Ok.ensures.here h dash.0 there.0 there.1 start in
    c.read_passed.ensures.memory passed.0 passed.1 (ap (λ (m : Mark). m.place.line) start ∙ sym passed.2.line)
    (ends_here at h c.mark-start.result (chars c.in-Ok.line.front.now) c.in-Ok.line.end c.in-Ok.line.blank passed.0
    start (sym dash.1 ∙ c.if-at_flow_dash.false) passed.2 none)

pub returns-in-None-clause-memory : goal.returns-in-None-clause-memory
returns-in-None-clause-memory g c = λ h k none. absurd (
    let dash = c.at_flow_dash.ensures.here h k in
    let lends = takes_lent (layout_data c.args.at.now) h none in
    let silent = not_found_lends (g.T.Input.left c.at_flow_dash.new.cursor.input)
    (g.T.Input.origin c.at_flow_dash.new.cursor.input) h.unread
    (g.met.T.Input.agrees c.at_flow_dash.new.cursor.input h.unread dash.0.0)
    (sym c.in-None.is ∙ c.lending_offset.ensures h dash.0) in cc)
