use Rattle.std.proofs.Common.{◌∙◌, Result, refl, sym, ap, ap₂, subst}
use Rattle.std.proofs.lemmas.Result.{err_from_is_err_and}
use Rattle.granit_base.specs.Place.{Mark}
use Rattle.granit_error.specs.OptionsView.{options_of}
use Rattle.granit_lexemes.specs.Outcome.{Fault}
use Rattle.granit_machine.specs.Gaps.{gap}
use Rattle.granit_machine.specs.Laid.{Laid}
use Rattle.granit_machine.specs.Leaving.{Leaves}
use Rattle.granit_machine.specs.PossibleKeys.{without_stale}
use Rattle.granit_machine.specs.Reader.{read_behind}
use Rattle.granit_steps.specs.Steps.{incoming}
use Rattle.granit_cursor.specs.Reading.{coded}
use Rattle.granit_items.specs.ItemViews.{found_items}
use Rattle.granit_content.specs.Reads.{IsAt, seen, tail_view}
use Rattle.granit_reader.specs.Reads.{reader_at}
use Rattle.granit_content.proofs.CodedLemmas.{coded_back, coded_fails}
use Rattle.granit_reader.proofs.MeetLemmas.{meets_refused, meets_there, unless_memory}
use Rattle.granit_reader.proofs.MemoryLemmas.{behind_gap_none, stale_refused}
use Rattle.granit_reader.proofs.ReadLemmas.{read_left, gap_refused, behind_refused}
use Rattle.granit_refused.specs.Answered.{answered, why}
use Rattle.granit_reader.proofs.read.read.Goals as goal

pub returns-in_err-note-clause-here : goal.returns-in_err-note-clause-here
returns-in_err-note-clause-here g c = λ h k.
    let o = options_of c.args.options.now in
    let s = reader_at h c.args.layouts.now in
    let e = (why c.gap.new.fault c.in_err-note.field-0.0) in
    let p = err_from_is_err_and c.from_residual.result c.from_residual.ensures.1 in
    rw (p.1, p.2) (λ other. ap (coded (incoming o.emit_comments))
    (gap_refused o s e (coded_fails (seen o.emit_comments) (gap o h s.laid) e (c.in_err-note.ensures.here h k)
    other)))

pub returns-in_err-behind_gap-clause-here : goal.returns-in_err-behind_gap-clause-here
returns-in_err-behind_gap-clause-here g c = λ h k.
    let o = options_of c.args.options.now in
    let s = reader_at h c.args.layouts.now in
    let e = (why c.behind_gap.new.fault c.in_err-behind_gap.field-0.0) in
    let p = err_from_is_err_and c.from_residual-in_err-behind_gap.result c.from_residual-in_err-behind_gap.ensures.1 in
    let one = c.in_ok-note.ensures.here h k in
    let note = coded_back (seen o.emit_comments) (gap o h s.laid) (tail_view c.in_ok-note.note) one.0 one.2 in
    let two = coded_fails (incoming o.emit_comments) (read_behind o note.0 (reader_at one.0.here c.gap.new.layouts)) e
    (c.in_err-behind_gap.ensures.here note.0 (sym note.2) one.0.here one.1.0) in
    rw (p.1, p.2) (λ other. ap (coded (incoming o.emit_comments))
    (behind_refused o s note.0 one.0 e note.1
    (ap (λ (l : Laid). read_behind o note.0 (reader_at one.0.here l)) one.1.1 ∙ two other)))

pub returns-clause-here : goal.returns-clause-here
returns-clause-here g c = λ h k.
    let o = options_of c.args.options.now in
    let s = reader_at h c.args.layouts.now in
    let one = c.in_ok-note.ensures.here h k in
    let note = coded_back (seen o.emit_comments) (gap o h s.laid) (tail_view c.in_ok-note.note) one.0 one.2 in
    let two = c.in_ok-behind_gap.ensures.here note.0 (sym note.2) one.0.here one.1.0 in
    let found = found_items c.behind_gap.new.found in
    let items = coded_back (incoming o.emit_comments) (read_behind o note.0 (reader_at one.0.here c.gap.new.layouts))
    found two.0 two.2 in
    let same = ap₂ (λ (m : Mark) (l : Laid). without_stale o m l) (sym (c.mark.ensures.here two.0.here two.1.0))
    two.1.1 in
    let stale = subst (λ (q : Result Laid Fault). Leaves (answered c.drop_stale.new.fault c.drop_stale.result)
    c.drop_stale.new.self q) (sym same)
    c.drop_stale.ensures in
    read_left o s o.emit_comments note.0 one.0 two.0 items.0 found
    (IsAt g.T.Input.unread c.behind_gap.new.at c.drop_stale.new.self)
    (answered c.drop_stale.new.fault c.drop_stale.result) c.drop_stale.new.self note.1
    (ap (λ (l : Laid). read_behind o note.0 (reader_at one.0.here l)) one.1.1 ∙ items.1) items.2 stale (two.1.0, refl)

pub returns-in_err-note-clause-met : goal.returns-in_err-note-clause-met
returns-in_err-note-clause-met g c = λ h k.
    let o = options_of c.args.options.now in
    let s = reader_at h c.args.layouts.now in
    let e = (why c.gap.new.fault c.in_err-note.field-0.0) in
    let p = err_from_is_err_and c.from_residual.result c.from_residual.ensures.1 in
    rw (p.1, p.2) (λ other. meets_refused o (gap o h s.laid) e
    (coded_fails (seen o.emit_comments) (gap o h s.laid) e (c.in_err-note.ensures.here h k) other))

pub returns-in_err-behind_gap-clause-met : goal.returns-in_err-behind_gap-clause-met
returns-in_err-behind_gap-clause-met g c = λ h k.
    let o = options_of c.args.options.now in
    let s = reader_at h c.args.layouts.now in
    let p = err_from_is_err_and c.from_residual-in_err-behind_gap.result c.from_residual-in_err-behind_gap.ensures.1 in
    let one = c.in_ok-note.ensures.here h k in
    let note = coded_back (seen o.emit_comments) (gap o h s.laid) (tail_view c.in_ok-note.note) one.0 one.2 in
    let two = c.in_err-behind_gap.ensures.met note.0 (sym note.2) one.0.here one.1.0 in
    rw (p.1, p.2) (λ other. meets_there o c.behind_gap.new.met (gap o h s.laid) note.0 one.0
    (reader_at one.0.here c.gap.new.layouts) note.1 (ap (reader_at one.0.here) one.1.1) (two other))

pub returns-clause-met : goal.returns-clause-met
returns-clause-met g c = λ h k.
    let o = options_of c.args.options.now in
    let s = reader_at h c.args.layouts.now in
    let one = c.in_ok-note.ensures.here h k in
    let note = coded_back (seen o.emit_comments) (gap o h s.laid) (tail_view c.in_ok-note.note) one.0 one.2 in
    let two = c.in_ok-behind_gap.ensures.met note.0 (sym note.2) one.0.here one.1.0 in
    unless_memory (answered c.drop_stale.new.fault c.drop_stale.result) _
    (meets_there o c.behind_gap.new.met (gap o h s.laid) note.0 one.0
    (reader_at one.0.here c.gap.new.layouts) note.1 (ap (reader_at one.0.here) one.1.1) two)

pub returns-in_err-note-clause-memory : goal.returns-in_err-note-clause-memory
returns-in_err-note-clause-memory g c = λ unasked h k none.
    let p = err_from_is_err_and c.from_residual.result c.from_residual.ensures.1 in
    rw (p.1, p.2) (c.in_err-note.ensures.memory unasked)

pub returns-in_err-behind_gap-clause-memory : goal.returns-in_err-behind_gap-clause-memory
returns-in_err-behind_gap-clause-memory g c = λ unasked h k none.
    let o = options_of c.args.options.now in
    let s = reader_at h c.args.layouts.now in
    let p = err_from_is_err_and c.from_residual-in_err-behind_gap.result c.from_residual-in_err-behind_gap.ensures.1 in
    let one = c.in_ok-note.ensures.here h k in
    let note = coded_back (seen o.emit_comments) (gap o h s.laid) (tail_view c.in_ok-note.note) one.0 one.2 in
    rw (p.1, p.2) (c.in_err-behind_gap.ensures.memory note.0 (sym note.2) unasked one.0.here one.1.0
    (behind_gap_none o s one.0 note.0 c.gap.new.layouts note.1 one.1.1 none))

pub returns-clause-memory : goal.returns-clause-memory
returns-clause-memory g c = λ unasked h k none.
    stale_refused (options_of c.args.options.now) c.mark.result c.behind_gap.new.layouts c.drop_stale.new.self
    (answered c.drop_stale.new.fault c.drop_stale.result) c.drop_stale.ensures
